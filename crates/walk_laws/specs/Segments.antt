-- What a chosen segment is worth: it is a walk of its label, there is one, and with what is shown beyond its exit it is a least walk
-- through several domains (RFC 5441, section 4.2).
use Rattle.std.specs.Prelude.{◌≡◌, ℕ, List, [], ◌∷◌, Contains, Some}
use Rattle.dom_base.specs.declared.addr.Addr.{Addr}
use Rattle.dom_base.specs.declared.names.As.{As}
use Rattle.dom_base.specs.declared.link.Link.{Link}
use Rattle.dom_base.specs.declared.query.Query.{Query}
use Rattle.dom_base.specs.declared.query.Seed.{Seed}
use Rattle.dom_base.specs.declared.query.Label.{Label}
use Rattle.te_links.specs.declared.rows.OutLink.{OutLink}
use Rattle.te_links.specs.Rows.{Rows, IsInOrder}
use Rattle.walk_laws.specs.Labels.{Reaches, IsLabel, IsSegment}
use Rattle.walk_laws.specs.Crossing.{Leg, Goal, At, Told, Last, Links, Over, crossing_cost, query_in, IsLeastCrossing}
use Rattle.walk_laws.specs.Borders.{Beyond, IsDown, AreBorderSeeds}
use Rattle.walk_laws.specs.Composition.{AreBeyond}

-- it reaches a seed, as its label says
abbrev pub SegmentIsWalk : Type 0
SegmentIsWalk =
    (g : Rows) (q : Query) (seeds : List Seed) (u : Addr) (a : Label) (links : List Link) → IsLabel g q seeds u (Some a) →
    IsSegment g q seeds u a links → (r : Reaches g q seeds u a) × (r.links ≡ links)

-- a label has one
abbrev pub OneSegment : Type 0
OneSegment =
    (g : Rows) (q : Query) (seeds : List Seed) (u : Addr) (a : Label) (links others : List Link) → IsInOrder g →
    IsSegment g q seeds u a links → IsSegment g q seeds u a others → links ≡ others

-- with the out link of its exit, and a least walk from there, it is a least walk of the label's cost
abbrev pub ShownComposes : Type 0
ShownComposes =
    (q : Query) (g h : Rows) (rest : List Rows) (goal : Goal) (down : List Beyond) (seeds : List Seed) → IsInOrder g →
    AreBeyond q g.own h rest goal down → AreBorderSeeds g (query_in q g.own) h.own down seeds →
    (entry : Addr) (a : Label) (links : List Link) → IsLabel g (query_in q g.own) seeds entry (Some a) →
    IsSegment g (query_in q g.own) seeds entry a links →
    (o : OutLink) → Contains g.outs o → o.link.far ≡ a.exit →
    (legs : List Leg) (last : Last) → IsLeastCrossing q h rest o.link.to goal legs last →
    IsLeastCrossing q g (h ∷ rest) entry goal (record { links = links; out = o } ∷ legs) last
    × (a.cost ≡ crossing_cost q (record { links = links; out = o } ∷ legs) last)

-- and so it is alone in the last domain
abbrev pub ShownEnds : Type 0
ShownEnds =
    (q : Query) (g : Rows) (t : Addr) (entry : Addr) (a : Label) (links : List Link) →
    IsLabel g (query_in q g.own) (record { node = t; cost = 0; exit = t } ∷ []) entry (Some a) →
    IsSegment g (query_in q g.own) (record { node = t; cost = 0; exit = t } ∷ []) entry a links →
    IsLeastCrossing q g [] entry (At t) [] (Links links) × (a.cost ≡ crossing_cost q [] (Links links))

-- and there with the out link of its exit and the least row that was told of the node beyond
abbrev pub ShownReports : Type 0
ShownReports =
    (q : Query) (g : Rows) (next : As) (down : List Beyond) (seeds : List Seed) → IsInOrder g →
    AreBorderSeeds g (query_in q g.own) next down seeds →
    (entry : Addr) (a : Label) (links : List Link) → IsLabel g (query_in q g.own) seeds entry (Some a) →
    IsSegment g (query_in q g.own) seeds entry a links →
    (o : OutLink) → Contains g.outs o → o.link.far ≡ a.exit →
    (c : ℕ) → IsDown down o.link.to c →
    IsLeastCrossing q g [] entry (Told next down) [] (Over (record { links = links; out = o }) c)
    × (a.cost ≡ crossing_cost q [] (Over (record { links = links; out = o }) c))
