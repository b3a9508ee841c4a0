-- The next links of all nodes, found one node after the other.
use Rattle.std.specs.Prelude.{◌≡◌, ◌<◌, ◌↔◌, ℕ, Bool, true, false, List, length, None, Some, slice_get, slice_index_or}
use Rattle.std.specs.declared.option.Option.{Option}
use Rattle.dom_base.specs.declared.addr.Addr.{Addr}
use Rattle.dom_base.specs.declared.query.Query.{Query}
use Rattle.dom_base.specs.declared.query.Seed.{Seed}
use Rattle.dom_base.specs.declared.query.Label.{Label}
use Rattle.te_links.specs.Rows.{Rows}
use Rattle.walk_laws.specs.Labels.{EndsAt}
use Rattle.path_search.specs.declared.chosen.Step.{Step}
use Rattle.path_search.specs.Arcs.{label_at}
use Rattle.path_search.specs.Segments.{IsTightAt, IsLoose}
use Rattle.cost_cache.specs.declared.kept.Next.{Next}
use Rattle.cost_cache.specs.Entries.{Leads, IsNext, next_at}

-- the seed equals the label of its node, which stands at this place
pub record IsEndBy (g : Rows) (labels : List (Option Label)) (s : Seed) (i : ℕ) : Type 0 where
  pub at_node : slice_get g.nodes i ≡ Some s.node
  pub label : Label
  pub at_label : label_at labels i ≡ Some label
  pub cost : label.cost ≡ s.cost
  pub exit : label.exit ≡ s.exit

abbrev pub is_end : List Bool → ℕ → Bool
is_end ends i = slice_index_or ends i false

-- for each node with a label whether a segment ends there
pub record AreEnds (g : Rows) (seeds : List Seed) (labels : List (Option Label)) (ends : List Bool) : Type 0 where
  pub same_length : length ends ≡ length g.nodes
  pub each : (i : ℕ) (n : Addr) (a : Label) → slice_get g.nodes i ≡ Some n → label_at labels i ≡ Some a → (is_end ends i ≡ true) ↔ EndsAt seeds n a

-- the link at a place is tight from the node, and this is where it leads
pub record IsTightNext (g : Rows) (q : Query) (labels : List (Option Label)) (n : Addr) (a : Label) (index : ℕ) (x : Next) : Type 0 where
  pub step : Step
  pub tight : IsTightAt g q labels n a index step
  pub leads : Leads g tight.link x

-- the first tight link from a node, if there is one
abbrev pub IsFirstNext : Rows → Query → List (Option Label) → Addr → Label → Option Next → Type 0
IsFirstNext g q labels n a None = (i : ℕ) → IsLoose g q labels n a i
IsFirstNext g q labels n a (Some x) = (index : ℕ) × IsTightNext g q labels n a index x × ((i : ℕ) → i < index → IsLoose g q labels n a i)

-- the next link of the node at a place, where that has a label
abbrev pub IsNextAt : Rows → Query → List Seed → List (Option Label) → ℕ → Option Next → Type 0
IsNextAt g q seeds labels i o = (n : Addr) (a : Label) → slice_get g.nodes i ≡ Some n → label_at labels i ≡ Some a → IsNext g q seeds n a o

-- those of the first m nodes
pub record AreNextsUpTo (g : Rows) (q : Query) (seeds : List Seed) (labels : List (Option Label)) (m : ℕ) (nexts : List (Option Next)) : Type 0 where
  pub same_length : length nexts ≡ m
  pub each : (i : ℕ) → i < m → IsNextAt g q seeds labels i (next_at nexts i)
