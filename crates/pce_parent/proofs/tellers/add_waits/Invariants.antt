use Rattle.std.proofs.Common.{ℕ, cond, List, [], ◌∷◌, ◌++◌, take}
use Rattle.pce_common.specs.Waiting.{AreSaidOf}
use Rattle.pce_common.specs.plant_model.Parent.{among}
use Rattle.pce_parent.proofs.tellers.add_waits.Given as goal

abbrev pub invariant-loop-wait : goal.invariant-loop-wait
invariant-loop-wait l = (before : ℕ → List ℕ) → AreSaidOf before l.initial.waiters → AreSaidOf (λ id. before id ++ cond (among l.peer (take l.wait-index l.wait-items) id) (l.row.number ∷ []) []) l.waiters
