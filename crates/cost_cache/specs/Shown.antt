-- How a segment is read from what is kept.
use Rattle.std.specs.Prelude.{◌≡◌, ℕ, List, ◌∷◌, map, Some}
use Rattle.dom_base.specs.declared.addr.Addr.{Addr}
use Rattle.dom_base.specs.declared.link.Link.{Link}
use Rattle.dom_base.specs.declared.query.Query.{Query}
use Rattle.dom_base.specs.declared.query.Seed.{Seed}
use Rattle.dom_base.specs.declared.query.Label.{Label}
use Rattle.te_links.specs.Rows.{Rows}
use Rattle.walk_laws.specs.Labels.{IsSegment}
use Rattle.path_search.specs.Arcs.{label_at}
use Rattle.border_costs.specs.declared.job.Ask.{Ask}
use Rattle.border_costs.specs.Asks.{AreSeeds}
use Rattle.cost_cache.specs.declared.kept.Kept.{Kept}
use Rattle.cost_cache.specs.Entries.{AreKept}

-- the open form of the chosen segment of this label
pub record HasShown (g : Rows) (q : Query) (seeds : List Seed) (entry : Addr) (a : Label) (shown : List Addr) : Type 0 where
  pub links : List Link
  pub segment : IsSegment g q seeds entry a links
  pub is : shown ≡ entry ∷ map (λ l. l.far) links

-- whatever the seeds over which it is kept
abbrev pub IsShown : Rows → Query → Kept → Addr → ℕ → List Addr → Type 0
IsShown g q kept entry from shown =
    (seeds : List Seed) (a : Label) → AreKept g q seeds kept → label_at kept.labels from ≡ Some a → HasShown g q seeds entry a shown

-- a fact of an ask's seeds, whatever those are over which it is kept
abbrev pub OverSeeds : Rows → Ask → Kept → (List Seed → Type 0) → Type 0
OverSeeds g ask kept P = (seeds : List Seed) → AreSeeds g ask seeds → AreKept g ask.query seeds kept → P seeds
