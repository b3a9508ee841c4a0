-- A run stays within its network: only queues along links hold messages, only elements have pending requests, besides the parent
-- where there is one, and an outside peer that the settings do not have has no connection.
use Rattle.std.specs.Prelude.{◌≡◌, ℕ, false, is_some, List, [], None}
use Rattle.plant_model.specs.Types.{As, NetworkParts}
use Rattle.plant_text.specs.Settings.{is_linked, is_element, peer_row}
use Rattle.plant_model.specs.Wire.{Codec}
use Rattle.plant_model.specs.Plant.{Plant, Entry}
use Rattle.plant_laws.specs.Runs.{InRuns}

pub record IsConfined (n : NetworkParts) (s : Plant) : Type 0 where
  pub queues : (a b : As) → is_linked n a b ≡ false → s.queues a b ≡ []
  pub tables : (d : As) → is_element n d ≡ false → (s.elements d).pending.rows ≡ []
  pub table_above : is_some n.parent ≡ false → s.parent.pending.rows ≡ []
  pub peers : (i : ℕ) → is_some (peer_row i n.peers) ≡ false → (s.accesses i).connection ≡ None

abbrev pub IsConfinedIn : Codec → NetworkParts → List Entry → Plant → Type 0
IsConfinedIn c n es s = IsConfined n s

abbrev pub RunsAreConfined : Type 0
RunsAreConfined = InRuns IsConfinedIn
