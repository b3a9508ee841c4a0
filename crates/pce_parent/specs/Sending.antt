-- Requests to the children, one by one.
use Rattle.std.specs.Prelude.{◌≡◌, ◌++◌, ℕ, List, [], ◌∷◌}
use Rattle.pce_common.specs.plant_model.Types.{As, Addr, Wanted, Inner}
use Rattle.pce_common.specs.plant_model.declared.output.Output.{Output}
use Rattle.pce_common.specs.plant_model.Writing.{request_message}
use Rattle.pce_common.specs.plant_model.Element.{Way, with_last}
use Rattle.pce_common.specs.plant_model.Parent.{Wait, Errand, next_id, ask_all}
use Rattle.pce_parent.specs.declared.sending.Sending.{Sending}

abbrev pub wait_of : As → ℕ → Addr → Wait
wait_of child y target = record { peer = Inner child; id = y; child = child; target = target }

-- the id under which an errand is sent next
abbrev pub id_for : Errand → Sending → ℕ
id_for r s = next_id (Inner r.child) s.taken.items s.ways

abbrev pub asked_by : Wanted → Errand → ℕ → Output
asked_by w r y = record { to = Inner r.child; message = request_message y w r.target (r.child ∷ []) }

-- an errand was sent under the next id
pub record IsSent (w : Wanted) (r : Errand) (old new : Sending) : Type 0 where
  pub taken : new.taken.items ≡ old.taken.items ++ wait_of r.child (id_for r old) r.target ∷ []
  pub waits : new.waits.items ≡ old.waits.items ++ wait_of r.child (id_for r old) r.target ∷ []
  pub ways : new.ways ≡ with_last (Inner r.child) (id_for r old) old.ways
  pub outputs : new.outputs ≡ old.outputs ++ asked_by w r (id_for r old) ∷ []

-- the errands were sent as the model sends them
pub record AreSent (w : Wanted) (taken : List Wait) (rs : List Errand) (ways : List Way) (s : Sending) : Type 0 where
  pub waits : s.waits.items ≡ (ask_all w taken rs ways).waits
  pub ways_are : s.ways ≡ (ask_all w taken rs ways).ways
  pub outputs : s.outputs ≡ (ask_all w taken rs ways).outputs
