-- A lock is opened round a network that has just been made.
use Rattle.plant_text.specs.declared.settings.NetworkParts.{NetworkParts}
use Rattle.plant_network.specs.Topologies.{Held, whole}
use Rattle.plant_network.specs.Whole.{IsBegun}
use Rattle.turn_desk.specs.Histories.{NoneIsPending}
use Rattle.turn_desk.proofs.Beginning.{begun_has_none}

pub begins : (n : NetworkParts) (h : Held) → IsBegun n (whole h) → NoneIsPending (whole h).state
begins n h is = begun_has_none n (whole h) is
