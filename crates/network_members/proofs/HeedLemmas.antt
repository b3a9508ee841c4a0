-- What the element of a domain heeds is what the model has it heed.
use Rattle.std.proofs.Common.{◌≡◌, ℕ, Option, Some, None, refl, ap}
use mathlib.Core.Path.{fun_ext}
use Rattle.pce_common.specs.plant_model.Types.{As, Message, NetworkParts, Outside}
use Rattle.pce_common.specs.plant_model.Element.{sent_through}
use Rattle.pce_common.specs.plant_model.Outside.{heeded_in}
use Rattle.pce_common.specs.plant_model.RealWire.{wire}
use Rattle.pce_common.specs.Membership.{heard}
use Rattle.pce_element.specs.Seen.{Seen}
use Rattle.network_members.specs.Elements.{at_domain, element_or}
use Rattle.network_members.specs.Heeding.{sent_at}
use Rattle.network_members.specs.Tiers.{Tiers, members_of}

module _ {P : Type 0} {S : Type 0} where
  same_sent : (n : NetworkParts) (now peer : ℕ) (d : As) (id : ℕ) (o : Option (Seen P S)) → sent_at peer o id ≡ sent_through (Outside peer) id (element_or n now d o).pending.rows
  same_sent n now peer d id None = refl
  same_sent n now peer d id (Some e) = refl

  pub heard_below : (initial : As → P) (t : Tiers P S) (d : As) (peer : ℕ) (m : Message) → heeded_in wire (sent_at peer (at_domain d t.elements)) m ≡ heard wire d peer m (members_of initial t)
  heard_below initial t d peer m = ap (λ (sent : ℕ → Option ℕ). heeded_in wire sent m) (fun_ext (λ id. same_sent t.network t.clock peer d id (at_domain d t.elements)))
