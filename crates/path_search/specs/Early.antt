-- The labels of a search that was to reach some nodes: those up to a cost, which are the labels under a lower cap.
use Rattle.std.specs.Prelude.{◌≡◌, ◌⊎◌, ◌≤◌, ◌<◌, ◌+◌, ℕ, List, Bool, map, All, Contains, Some, None, slice_get}
use Rattle.std.specs.declared.option.Option.{Option}
use Rattle.dom_base.specs.declared.addr.Addr.{Addr}
use Rattle.dom_base.specs.declared.query.Query.{Query}
use Rattle.dom_base.specs.declared.query.Seed.{Seed}
use Rattle.dom_base.specs.declared.query.Label.{Label}
use Rattle.te_links.specs.Rows.{Rows, IsTopology}
use Rattle.walk_laws.specs.Labels.{IsLabel}
use Rattle.walk_laws.specs.Capped.{capped, cut}
use Rattle.path_search.specs.Arcs.{label_at}
use Rattle.path_search.specs.Search.{AreLabels}
use Rattle.path_search.specs.Starts.{AreStarts}
use Rattle.path_search.specs.Front.{cost_of, cost_at}
use Rattle.path_search.specs.Reading.{IsResting}

-- all labels up to a cost and no others, which is the cap unless each stop has one
pub record AreLabelsTo (g : Rows) (q : Query) (seeds : List Seed) (stops : List ℕ) (labels : List (Option Label)) (reach : ℕ) : Type 0 where
  pub within : reach ≤ q.cap
  pub are_labels : AreLabels g (capped reach q) seeds labels
  pub reached : (i : ℕ) → Contains stops i → ((a : Label) × (label_at labels i ≡ Some a)) ⊎ (reach ≡ q.cap)

-- so each stop has its label, or it has none at all
abbrev pub StopsAreLabelled : Type 0
StopsAreLabelled =
    (g : Rows) (q : Query) (seeds : List Seed) (stops : List ℕ) (labels : List (Option Label)) (reach : ℕ) → AreLabelsTo g q seeds stops labels reach →
    (i : ℕ) (n : Addr) → Contains stops i → slice_get g.nodes i ≡ Some n → IsLabel g q seeds n (label_at labels i)

-- labels without those that cost more than a lower cap are the labels under it
abbrev pub CutLabels : Type 0
CutLabels =
    (g : Rows) (q : Query) (seeds : List Seed) (c d : ℕ) (labels : List (Option Label)) → c ≤ d →
    AreLabels g (capped d q) seeds labels → AreLabels g (capped c q) seeds (map (cut c) labels)

-- between two nodes, where all that waits costs more than a lower cap: what is labelled within it are the labels under it
abbrev pub StoppedEarly : Type 0
StoppedEarly =
    (g : Rows) (q : Query) (seeds : List Seed) (start labels : List (Option Label)) (waiting : List (Option ℕ)) (done : List Bool) (reads c : ℕ) →
    IsTopology g → AreStarts g q seeds start → c ≤ q.cap → IsResting g q start labels waiting done reads →
    ((i m : ℕ) → cost_at waiting i ≡ Some m → c < m) → AreLabels g (capped c q) seeds (map (cut c) labels)

-- a label stands, and costs at most this
abbrev pub IsReached : ℕ → Option Label → Type 0
IsReached c None = ⊥
IsReached c (Some a) = a.cost ≤ c

-- a cost right below the least that waits, and no less than the last that was settled
pub record IsBetween (settled least : Option ℕ) (reach : ℕ) : Type 0 where
  pub last : ℕ
  pub is_last : settled ≡ Some last
  pub no_less : last ≤ reach
  pub is_least : least ≡ Some (reach + 1)

-- all stops are reached within such a cost; the node at a place is the least that waits
pub record StopsAt (labels : List (Option Label)) (stops : List ℕ) (settled : Option ℕ) (place : ℕ) (reach : ℕ) : Type 0 where
  pub between : IsBetween settled (cost_of (label_at labels place)) reach
  pub reached : All (λ i. IsReached reach (label_at labels i)) stops

-- from the labels of walks without a link to all labels up to a cost
abbrev pub FindsLabelsTo : Rows → Query → List ℕ → List (Option Label) → List (Option Label) → ℕ → Type 0
FindsLabelsTo g q stops old new reach = (seeds : List Seed) → AreStarts g q seeds old → AreLabelsTo g q seeds stops new reach
