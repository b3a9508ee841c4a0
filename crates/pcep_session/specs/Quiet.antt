-- A tick at which a session has nothing to say or to do.
use Rattle.std.specs.Prelude.{Bool, true, false, cond, List, [], ◌∷◌}
use Rattle.dom_base.specs.declared.names.Tick.{Tick}
use Rattle.pcep_session.specs.declared.actions.Action.{Action}
use Rattle.pcep_session.specs.declared.session.Input.TheVariants.{Tick as Ticked}
use Rattle.pcep_session.specs.declared.state.State.{State}
use Rattle.pcep_session.specs.Table.{turn_of}

abbrev pub is_nothing : List Action → Bool
is_nothing [] = true
is_nothing (a ∷ as') = false

abbrev pub is_quiet : Tick → State → Bool
is_quiet now s = is_nothing (turn_of s (Ticked now)).actions

-- the session after such a tick; at any other it is as it was
abbrev pub after_quiet : Tick → State → State
after_quiet now s = cond (is_quiet now s) (turn_of s (Ticked now)).next s
