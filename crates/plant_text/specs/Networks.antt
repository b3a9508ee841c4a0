-- Settings that obey the rules, and the client that may be added to them.
use Rattle.std.specs.Prelude.{◌≡◌, ℕ, ◌<◌, ◌≤◌, ◌^◌, false, true, length, codes, take, drop, All, List, [], ◌∷◌, ◌++◌, None}
use Rattle.dom_base.specs.declared.names.As.{As}
use Rattle.disclosure.specs.declared.class.Class.TheVariants.{Client}
use Rattle.plant_text.specs.declared.settings.NetworkParts.{NetworkParts}
use Rattle.plant_text.specs.declared.settings.PeerRow.{PeerRow}
use Rattle.plant_text.specs.declared.settings.Comes.TheVariants.{Anyone}
use Rattle.plant_text.specs.Settings.{is_element}
use Rattle.plant_text.specs.Rules.{rules_of}
use Rattle.plant_text.specs.Faults.{AreObeyed}

abbrev pub with_peers : NetworkParts → List PeerRow → NetworkParts
with_peers n peers = record n { peers = peers }

-- the client `path`, which may expand; 4189 is the port of PCEP (RFC 5440, 9.1), from whatever address it comes
abbrev pub path_client : As → PeerRow
path_client at = record { name = codes "path"; at = at; class = Client true; port = 4189; comes = Anyone; down = false; patience = None; pending = None; keys = None; capability = false }

-- the settings with the client, behind all peers
abbrev pub with_path : NetworkParts → As → NetworkParts
with_path n at = with_peers n (n.peers ++ path_client at ∷ [])

-- the client `path` of some element
abbrev pub IsAdded : NetworkParts → PeerRow → Type 0
IsAdded n p = (p ≡ path_client p.at) × (is_element n p.at ≡ true)

-- Settings that were given obey the rules; no rule counts the clients that were added behind their peers.
pub record ObeysRules (n : NetworkParts) : Type 0 where
  pub given : ℕ
  pub within : given ≤ length n.peers
  pub obeyed : AreObeyed (rules_of (with_peers n (take given n.peers)))
  pub added : All (IsAdded n) (drop given n.peers)
  pub few : length n.peers < 2 ^ 32
