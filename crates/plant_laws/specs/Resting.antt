-- A network at rest: all that was fed was taken, no message is on its way along a link, and no job of an element or the parent can be
-- solved. Quiet is a statement about all numbers of domains; in a run nothing stands elsewhere, so a network at rest is quiet.
use Rattle.std.specs.Prelude.{◌≡◌, ℕ, true, false, List, []}
use Rattle.plant_model.specs.Types.{As, NetworkParts}
use Rattle.plant_text.specs.Settings.{is_linked}
use Rattle.plant_model.specs.Wire.{Codec}
use Rattle.plant_model.specs.Events.{has_jobs, is_ready}
use Rattle.plant_model.specs.Plant.{Plant, Entry}
use Rattle.plant_laws.specs.Chains.{HasEmptyInbox, IsQuiet}
use Rattle.plant_laws.specs.Runs.{InRuns}

pub record IsAtRest (n : NetworkParts) (s : Plant) : Type 0 where
  pub taken : (i : ℕ) → HasEmptyInbox (s.accesses i).connection
  pub carried : (a b : As) → is_linked n a b ≡ true → s.queues a b ≡ []
  pub solved : (d : As) (k : ℕ) → has_jobs n d ≡ true → is_ready d k s ≡ false

abbrev pub RestIsQuietIn : Codec → NetworkParts → List Entry → Plant → Type 0
RestIsQuietIn c n es s = IsAtRest n s → IsQuiet s

abbrev pub RestIsQuiet : Type 0
RestIsQuiet = InRuns RestIsQuietIn
