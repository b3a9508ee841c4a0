-- How few links are read: those into nodes with a label, and none of them twice.
use Rattle.std.specs.Prelude.{◌≡◌, ◌≤◌, ◌+◌, ℕ, List, length, Contains, Some}
use Rattle.std.specs.declared.option.Option.{Option}
use Rattle.dom_base.specs.declared.query.Label.{Label}
use Rattle.te_links.specs.Rows.{Rows}
use Rattle.te_links.specs.Index.{LinkEndsAt}
use Rattle.path_search.specs.Arcs.{label_at}

-- the link at place p ends at a node with a label
pub record EndsAtLabel (g : Rows) (labels : List (Option Label)) (p : ℕ) : Type 0 where
  pub node : ℕ
  pub ends : LinkEndsAt g.nodes g.links node p
  pub label : Label
  pub at_label : label_at labels node ≡ Some label

-- The count of reads rose by at most the number of those links: a list that has the place of each of them is as long.
abbrev pub ReadsReached : Rows → List (Option Label) → ℕ → ℕ → Type 0
ReadsReached g labels old new =
    (places : List ℕ) → ((p : ℕ) → EndsAtLabel g labels p → Contains places p) → new ≤ old + length places
