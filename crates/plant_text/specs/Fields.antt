-- What the fields of a network mean, and what always holds of them.
use Rattle.std.specs.Prelude.{◌≡◌, ◌<◌, ◌≤◌, ◌^◌, length, take, drop, All, None}
use Rattle.plant_text.specs.declared.network.Network.TheInside.{Inside}
use Rattle.plant_text.specs.declared.settings.NetworkParts.{NetworkParts}
use Rattle.plant_text.specs.Rules.{rules_of}
use Rattle.plant_text.specs.Faults.{first_of}
use Rattle.plant_text.specs.Networks.{with_peers, IsAdded}

abbrev pub parts_of : Inside → NetworkParts
parts_of n = n.parts

pub record HoldsRules (n : Inside) : Type 0 where
  pub within : n.given ≤ length n.parts.peers
  pub unbroken : first_of (rules_of (with_peers n.parts (take n.given n.parts.peers))) ≡ None
  pub added : All (IsAdded n.parts) (drop n.given n.parts.peers)
  pub few : length n.parts.peers < 2 ^ 32
