-- A tick at which a session has nothing to say or to do keeps its number.
use Rattle.std.proofs.Common.{◌≡◌, Bool, true, false, cond, refl}
use Rattle.plant_model.specs.Types.{Tick, State}
use Rattle.pcep_session.specs.declared.session.Input.TheVariants.{Tick as Ticked}
use Rattle.pcep_session.specs.Quiet.{is_quiet, after_quiet}
use Rattle.pcep_session.specs.Table.{turn_of}
use Rattle.network_links.proofs.StepLemmas.{steps_keep_number}

pub quiet_keeps_number : (now : Tick) (s : State) → (after_quiet now s).offer.sid ≡ s.offer.sid
quiet_keeps_number now s = go (is_quiet now s)
  where
    go : (b : Bool) → (cond b (turn_of s (Ticked now)).next s).offer.sid ≡ s.offer.sid
    go true = steps_keep_number s (Ticked now)
    go false = refl
