-- What the rules of settings ensure.
use Rattle.std.specs.Prelude.{◌≡◌, ◌≢◌, ◌<◌, ◌≤◌, false, true, length, is_some, All, AllPairs, IfSome}
use Rattle.dom_base.specs.declared.names.As.{As}
use Rattle.dom_base.specs.declared.border.ParentLink.{ParentLink}
use Rattle.disclosure.specs.declared.class.Class.TheVariants.{Neighbour}
use Rattle.plant_text.specs.declared.limits.TheConstants.{ELEMENTS_MAX, LINKS_MAX, PEERS_MAX, DENY_MAX, PARENT_LINKS_MAX, KEY_LIFE_MAX, WORKERS_MAX}
use Rattle.plant_text.specs.declared.settings.NetworkParts.{NetworkParts}
use Rattle.plant_text.specs.declared.settings.ElementRow.{ElementRow}
use Rattle.plant_text.specs.declared.settings.PeerRow.{PeerRow}
use Rattle.plant_text.specs.declared.settings.DenyRow.{DenyRow}
use Rattle.plant_text.specs.Names.{same_link, parent_as}
use Rattle.plant_text.specs.Settings.{is_element}
use Rattle.plant_text.specs.Rules.{rules_of}
use Rattle.plant_text.specs.Faults.{AreObeyed}

-- the elements: few, of different domains and ids, none the parent
pub record AreElements (n : NetworkParts) : Type 0 where
  pub few : length n.elements ≤ ELEMENTS_MAX
  pub numbers_differ : AllPairs (λ (d e : ElementRow). d.own ≢ e.own) n.elements
  pub ids_differ : AllPairs (λ (d e : ElementRow). d.id ≢ e.id) n.elements
  pub domains : All (λ (e : ElementRow). e.own ≢ parent_as) n.elements
  pub lives : All (λ (e : ElementRow). (1 ≤ e.key_life) × (e.key_life ≤ KEY_LIFE_MAX)) n.elements
  pub children : All (λ (e : ElementRow). e.parent ≡ true → is_some n.parent ≡ true) n.elements

-- the links: few, each between two elements, each pair once
pub record AreLinks (n : NetworkParts) : Type 0 where
  pub few : length n.links ≤ LINKS_MAX
  pub differ : All (λ (l : As × As). l.0 ≢ l.1) n.links
  pub known : All (λ (l : As × As). (is_element n l.0 ≡ true) × (is_element n l.1 ≡ true)) n.links
  pub once : AllPairs (λ (l m : As × As). same_link l.0 l.1 m.0 m.1 ≡ false) n.links

-- the outside peers: few, of different names, each at an element; paths go on through neighbours alone, to domains that are no
-- element's, and from an element to a domain through one peer
pub record ArePeers (n : NetworkParts) : Type 0 where
  pub few : length n.peers ≤ PEERS_MAX
  pub names_differ : AllPairs (λ (p q : PeerRow). p.name ≢ q.name) n.peers
  pub known : All (λ (p : PeerRow). is_element n p.at ≡ true) n.peers
  pub ports : All (λ (p : PeerRow). 0 < p.port) n.peers
  pub downs : All (λ (p : PeerRow). p.down ≡ true → (a : As) × (p.class ≡ Neighbour a) × (is_element n a ≡ false)) n.peers
  pub downs_differ : AllPairs (λ (p q : PeerRow). p.down ≡ true → q.down ≡ true → p.at ≡ q.at → p.class ≢ q.class) n.peers

-- the rows of policy: few, each at an element and about a next domain
pub record AreDenials (n : NetworkParts) : Type 0 where
  pub few : length n.deny ≤ DENY_MAX
  pub known : All (λ (r : DenyRow). is_element n r.at ≡ true) n.deny
  pub domains : All (λ (r : DenyRow). r.deny.next ≢ parent_as) n.deny

-- the links of the parent: few, of different near and far addresses
pub record AreParentLinks (n : NetworkParts) : Type 0 where
  pub few : length n.parent_links ≤ PARENT_LINKS_MAX
  pub nears_differ : AllPairs (λ (l m : ParentLink). l.link.near ≢ m.link.near) n.parent_links
  pub fars_differ : AllPairs (λ (l m : ParentLink). l.link.far ≢ m.link.far) n.parent_links

pub record AreSettings (n : NetworkParts) : Type 0 where
  pub elements : AreElements n
  pub links : AreLinks n
  pub peers : ArePeers n
  pub deny : AreDenials n
  pub parent_links : AreParentLinks n
  pub workers : (1 ≤ n.workers) × (n.workers ≤ WORKERS_MAX)
  pub watch : IfSome n.watch (λ port. 0 < port)

-- ---- the law

abbrev pub RulesAreWorth : Type 0
RulesAreWorth = (n : NetworkParts) → AreObeyed (rules_of n) → AreSettings n
