-- Which links a search has read, and the arcs that they gave.
use Rattle.std.specs.Prelude.{◌≡◌, ◌≢◌, ◌⊎◌, ◌≤◌, ◌<◌, ◌+◌, ℕ, List, Bool, true, length, All, AllPairs, Contains, Some, slice_get, slice_index_or, take}
use Rattle.std.specs.declared.option.Option.{Option}
use Rattle.dom_base.specs.declared.link.Link.{Link}
use Rattle.dom_base.specs.declared.query.Query.{Query}
use Rattle.dom_base.specs.declared.query.Metric.{Metric}
use Rattle.dom_base.specs.Admission.{weight}
use Rattle.dom_base.specs.declared.query.Label.{Label}
use Rattle.te_links.specs.Rows.{Rows}
use Rattle.te_links.specs.Index.{LinkEndsAt}
use Rattle.walk_laws.specs.Walks.{AdmitsLink}
use Rattle.path_search.specs.declared.arc.Arc.{Arc}
use Rattle.path_search.specs.Arcs.{label_at}
use Rattle.path_search.specs.Search.{IsArcOf, IsIdle, AreLabels}
use Rattle.path_search.specs.Starts.{AreStarts}
use Rattle.dom_base.specs.declared.query.Seed.{Seed}
use Rattle.path_search.specs.Front.{is_done, IsFront, Spreads}

-- the arc of the link at this place, admitted or not
pub record IsArcAt (g : Rows) (m : Metric) (index : ℕ) (a : Arc) : Type 0 where
  pub same_index : a.link ≡ index
  pub link : Link
  pub at_link : slice_get g.links index ≡ Some link
  pub tail : slice_get g.nodes a.tail ≡ Some link.from
  pub head : slice_get g.nodes a.head ≡ Some link.to
  pub weight : a.weight ≡ weight m link

-- the arcs are those of the admitted links among the ones that were read, each once
pub record IsReading (g : Rows) (q : Query) (arcs : List Arc) (read : List ℕ) : Type 0 where
  pub each : All (λ a. IsArcOf g q a.link a) arcs
  pub every : (p : ℕ) (l : Link) → Contains read p → slice_get g.links p ≡ Some l → AdmitsLink g q l → (a : Arc) × (Contains arcs a × IsArcOf g q p a)
  pub within : All (λ p. p < length g.links) read
  pub apart : AllPairs (λ p r. p ≢ r) read

-- where a link ends is settled
abbrev pub IsHeadDone : Rows → List Bool → ℕ → Type 0
IsHeadDone g done p = (i : ℕ) → LinkEndsAt g.nodes g.links i p → is_done done i ≡ true

-- between two nodes: all links into the settled nodes were read
pub record IsResting (g : Rows) (q : Query) (start labels : List (Option Label)) (waiting : List (Option ℕ)) (done : List Bool) (reads : ℕ) : Type 0 where
  pub last : Label
  pub arcs : List Arc
  pub read : List ℕ
  pub front : IsFront q.cap arcs start labels waiting done last
  pub reading : IsReading g q arcs read
  pub heads : All (IsHeadDone g done) read
  pub whole : (i p : ℕ) → is_done done i ≡ true → LinkEndsAt g.nodes g.links i p → Contains read p
  pub count : length read ≡ reads

-- a node was just settled, and none of the links into it were read
pub record IsOpened (g : Rows) (q : Query) (start labels : List (Option Label)) (waiting : List (Option ℕ)) (done : List Bool) (v : ℕ) (reads : ℕ) : Type 0 where
  pub last : Label
  pub arcs : List Arc
  pub read : List ℕ
  pub front : IsFront q.cap arcs start labels waiting done last
  pub reading : IsReading g q arcs read
  pub heads : All (IsHeadDone g done) read
  pub here : is_done done v ≡ true
  pub at_here : label_at labels v ≡ Some last
  pub whole : (i p : ℕ) → i ≢ v → is_done done i ≡ true → LinkEndsAt g.nodes g.links i p → Contains read p
  pub unread : (p : ℕ) → LinkEndsAt g.nodes g.links v p → ¬ Contains read p
  pub count : length read ≡ reads

-- at a node that was just settled: the first k of the links into it were read
pub record IsSpreading (g : Rows) (q : Query) (start labels : List (Option Label)) (waiting : List (Option ℕ)) (done : List Bool) (v : ℕ) (places : List ℕ) (k : ℕ) (reads : ℕ) : Type 0 where
  pub last : Label
  pub arcs : List Arc
  pub read : List ℕ
  pub front : IsFront q.cap arcs start labels waiting done last
  pub reading : IsReading g q arcs read
  pub heads : All (IsHeadDone g done) read
  pub here : is_done done v ≡ true
  pub at_here : label_at labels v ≡ Some last
  pub whole : (i p : ℕ) → i ≢ v → is_done done i ≡ true → LinkEndsAt g.nodes g.links i p → Contains read p
  pub part : All (Contains read) (take k places)
  pub unread : (j : ℕ) (d : ℕ) → k ≤ j → j < length places → ¬ Contains read (slice_index_or places j d)
  pub count : length read ≡ reads

-- the arc of a link is relaxed, if it has one: nothing changes where it is so already
abbrev pub SpreadsLink : Rows → Query → ℕ → List (Option Label) → List (Option Label) → List (Option ℕ) → List (Option ℕ) → Type 0
SpreadsLink g q p old new waiting next =
    (IsIdle g q old p × ((new ≡ old) × (next ≡ waiting))) ⊎ ((a : Arc) × (IsArcOf g q p a × Spreads q.cap a old new waiting next))

-- all links into a node that was just settled are read, and their arcs relaxed: no label that is settled costs more than the node's
abbrev pub SpreadsNode : Rows → Query → ℕ → List (Option Label) → List (Option Label) → List (Option ℕ) → List (Option ℕ) → ℕ → ℕ → Type 0
SpreadsNode g q v old new waiting next reads reads' =
    (start : List (Option Label)) (done : List Bool) (n : ℕ) → IsOpened g q start old waiting done v n →
    (m : ℕ) × (r : IsResting g q start new next done m) × (label_at new v ≡ Some r.last) × (reads' + n ≤ reads + m)

-- from the labels of walks without a link to those of all walks
abbrev pub FindsLabels : Rows → Query → List (Option Label) → List (Option Label) → Type 0
FindsLabels g q old new = (seeds : List Seed) → AreStarts g q seeds old → AreLabels g q seeds new
