-- Labels and chosen segments under a lower cap: a search that stops early has those.
use Rattle.std.specs.Prelude.{◌≤◌, ◌<◌, ℕ, List, Bool, true, false, nat_lt, None, Some}
use Rattle.std.specs.declared.option.Option.{Option}
use Rattle.dom_base.specs.declared.addr.Addr.{Addr}
use Rattle.dom_base.specs.declared.link.Link.{Link}
use Rattle.dom_base.specs.declared.query.Query.{Query}
use Rattle.dom_base.specs.declared.query.Seed.{Seed}
use Rattle.dom_base.specs.declared.query.Label.{Label}
use Rattle.te_links.specs.Rows.{Rows}
use Rattle.walk_laws.specs.Labels.{IsLabel, IsSegment}

-- the query with another cap
abbrev pub capped : ℕ → Query → Query
capped c q = record q { cap = c }

-- a label, unless it costs more
abbrev pub cut_if : Bool → Label → Option Label
cut_if true a = None
cut_if false a = Some a

abbrev pub cut : ℕ → Option Label → Option Label
cut c None = None
cut c (Some a) = cut_if (nat_lt c a.cost) a

-- a label within the lower cap is the node's label under one cap exactly where it is under the other
abbrev pub LabelUnderLowerCap : Type 0
LabelUnderLowerCap =
    (g : Rows) (q : Query) (seeds : List Seed) (c d : ℕ) (u : Addr) (a : Label) → c ≤ d → a.cost ≤ c →
    (IsLabel g (capped c q) seeds u (Some a) → IsLabel g (capped d q) seeds u (Some a))
    × (IsLabel g (capped d q) seeds u (Some a) → IsLabel g (capped c q) seeds u (Some a))

-- under the lower cap there is none where there was none, nor where it costs more
abbrev pub NoLabelUnderLowerCap : Type 0
NoLabelUnderLowerCap =
    (g : Rows) (q : Query) (seeds : List Seed) (c d : ℕ) (u : Addr) → c ≤ d →
    (IsLabel g (capped d q) seeds u None → IsLabel g (capped c q) seeds u None)
    × ((a : Label) → IsLabel g (capped d q) seeds u (Some a) → c < a.cost → IsLabel g (capped c q) seeds u None)

-- the chosen segment of a label within the lower cap is the same under both
abbrev pub SegmentUnderLowerCap : Type 0
SegmentUnderLowerCap =
    (g : Rows) (q : Query) (seeds : List Seed) (c d : ℕ) (u : Addr) (a : Label) (links : List Link) → c ≤ d → a.cost ≤ c →
    IsSegment g (capped c q) seeds u a links → IsSegment g (capped d q) seeds u a links
