-- What drains hand out over a connection is read as what was meant.
use Rattle.std.proofs.Common.{List, [], ◌∷◌}
use Rattle.std.specs.List.{AllByRecursion}
use Rattle.std.specs.Prelude.{Contains}
use Rattle.border_costs.proofs.Members.{contains_head, contains_tail}
use Rattle.plant_laws.specs.plant_model.Types.{Message}
use Rattle.pcep_messages.specs.Spelling.{IsWritten}
use Rattle.plant_laws.specs.plant_model.Plant.{deeds_of}
use Rattle.plant_laws.specs.plant_model.RealWire.{wire}
use Rattle.plant_laws.proofs.plant_model.WireLaws.{wire_is_codec}
use Rattle.plant_laws.proofs.WrittenForm.EveryWritten.{every_written}
use Rattle.run_laws.specs.Received.{HandedIsRead}
use Rattle.run_laws.proofs.PeerLemmas.Putting.{of_sent, put_is}
use Rattle.run_laws.proofs.PeerLemmas.Streams.{stream_of}

each : (Q : Message → Type 0) (ms : List Message) → ((m : Message) → Contains ms m → Q m) → AllByRecursion Q ms
each Q [] h = tt
each Q (m ∷ ms) h = (h m (contains_head m ms), each Q ms (λ m' h'. h m' (contains_tail m ms m' h')))

pub handed_is_read : HandedIsRead
handed_is_read n net es s run short i x is =
    stream_of x.put (each IsWritten x.put
    (put_is i IsWritten wire n es (of_sent i IsWritten (deeds_of wire n es) (every_written wire wire_is_codec n net es s run short)) x is))
