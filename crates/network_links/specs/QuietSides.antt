-- A connection after a tick at which its session has nothing to say or to do.
use Rattle.std.specs.Prelude.{Bool, true, Option, Some, None}
use Rattle.plant_model.specs.Types.{Tick}
use Rattle.pcep_session.specs.Quiet.{is_quiet, after_quiet}
use Rattle.plant_model.specs.State.{Connection}
use Rattle.plant_model.specs.Deeds.{with_session}
use Rattle.network_links.specs.Ends.{Sender}

-- at any other tick it is as it was
abbrev pub ticked_quietly : Tick → Connection → Connection
ticked_quietly now x = with_session (after_quiet now x.session) x

-- the same of what one end of a link sends
abbrev pub sender_ticked : Tick → Sender → Sender
sender_ticked now x = record x { session = after_quiet now x.session }

-- a peer that is closed has nothing to say or to do
abbrev pub is_quiet_peer : Tick → Option Connection → Bool
is_quiet_peer now None = true
is_quiet_peer now (Some x) = is_quiet now x.session
