use Rattle.std.proofs.Common.{◌≡◌, ◌∙◌, ◌+◌, ◌==◌, ℕ, Some, List, cond, length, take, arith, refl, sym, subst}
use Rattle.std.specs.Prelude.{slice_get}
use Rattle.std.proofs.lemmas.Option.{slice_get_read}
use Rattle.pce_common.specs.Waiting.{AreSaidOf, one_more, waiter_at}
use Rattle.pce_common.specs.plant_model.Parent.{Wait}
use Rattle.pce_common.proofs.HeldPlaces.{all_taken}
use Rattle.pce_parent.proofs.TellerLaws.{wait_added, wait_elsewhere, with_waits}
use Rattle.pce_parent.proofs.tellers.add_waits.Goals as goal
use Rattle.pce_parent.proofs.tellers.add_waits.Goals.{then-is_on+in_ok-add, else-is_on}

pub loop-wait-preserved : goal.loop-wait-preserved
loop-wait-preserved c = λ before said.
    let ws : List Wait = c.waits-wait-items.result.now in
    let p = c.args.peer in
    let n = c.args.row.number in
    let k = c.loop-wait.wait-index in
    let wait : Wait = c.wait-item.result in
    let at : slice_get ws k ≡ Some wait = slice_get_read ws (length ws) k wait refl (omega arith) c.wait-item.is in
    let so_far : AreSaidOf (with_waits p n (take k ws) before) c.loop-wait.waiters = c.loop-wait.invariant before said in
    elim c.if-is_on.branch [
      | then-is_on+in_ok-add w ↦
          subst (AreSaidOf (with_waits p n (take (k + 1) ws) before)) (sym w.waiters-is)
          (wait_added p n ws k wait at before c.loop-wait.waiters w.add.new.self (sym c.is_on.ensures ∙ w.if-is_on.true)
          (subst (λ (y : ℕ). (id : ℕ) → waiter_at w.add.new.self id ≡ cond (y == id) (Some (one_more n (waiter_at c.loop-wait.waiters id))) (waiter_at c.loop-wait.waiters id)) w.id.ensures w.in_ok-add.ensures) so_far)
      | else-is_on w ↦
          subst (AreSaidOf (with_waits p n (take (k + 1) ws) before)) (sym w.waiters-is)
          (wait_elsewhere p n ws k wait at before c.loop-wait.waiters (sym c.is_on.ensures ∙ w.if-is_on.false) so_far)
    ]

pub returns : goal.returns
returns c = λ before said.
    let ws : List Wait = c.waits-wait-items.result.now in
    let all : take c.loop-wait.wait-index ws ≡ ws = all_taken ws c.loop-wait.wait-index (omega arith) in
    subst (λ (vs : List Wait). AreSaidOf (with_waits c.args.peer c.args.row.number vs before) c.loop-wait.waiters) (all ∙ c.waits-wait-items.ensures) (c.loop-wait.invariant before said)
