-- The border graph of a parent (RFC 6805, section 4.6): rows of the children's replies, and the links between their domains.
use Rattle.std.specs.Prelude.{◌≡◌, ◌+◌, ◌≤◌, ℕ, false, List, [], ◌∷◌, ◌++◌, Contains, Option, Some, None}
use Rattle.plant_model.specs.Types.{Addr, As, ParentLink, Query, Hop}
use Rattle.dom_base.specs.AddrOrder.{rank}
use Rattle.dom_base.specs.declared.query.Excluded.TheVariants.{AsNumber}
use Rattle.dom_base.specs.Admission.{weight, Allows}
use Rattle.pcep_subobjects.specs.Hops.{strict_hop}
use Rattle.plant_model.specs.declared.upper.ChildRow.{ChildRow}
use Rattle.plant_model.specs.declared.upper.BorderJob.{BorderJob}

-- a node where a domain is entered, and one where it is left
pub data Vertex : Type 0 where
  Enter : (own : As) → (node : Addr) → Vertex
  Leave : (own : As) → (node : Addr) → Vertex

-- the request excludes the whole domain
abbrev pub ExcludesAs : Query → As → Type 0
ExcludesAs q a = Contains q.exclusions (record { avoid = false; what = AsNumber a })

-- of the rows of one child with the same entry, target and cost, this is the first
pub record IsFirstRow (rows : List ChildRow) (row : ChildRow) : Type 0 where
  pub before : List ChildRow
  pub after : List ChildRow
  pub is : rows ≡ before ++ row ∷ after
  pub first : (r : ChildRow) → Contains before r → (r.at ≡ row.at) × (r.entry ≡ row.entry) × (r.target ≡ row.target) × (r.cost ≡ row.cost) → ⊥

-- an edge: its cost, the address that ties are broken by, and its hops
pub record Edge : Type 0 where
  pub cost : ℕ
  pub choice : Addr
  pub hops : List Hop

-- a row of a child leads from its entry to its target, and an admitted link from one domain into another
abbrev pub IsEdge : BorderJob → Vertex → Vertex → Edge → Type 0
IsEdge j (Enter a e) (Leave b t) x =
    (row : ChildRow) × IsFirstRow j.rows row × (row.at ≡ a) × (a ≡ b) × (row.entry ≡ e) × (row.target ≡ t) × (¬ ExcludesAs j.query a)
    × (x ≡ record { cost = row.cost; choice = t; hops = row.hops })
IsEdge j (Leave a n) (Enter b m) x =
    (l : ParentLink) × Contains j.links l × (l.from_as ≡ a) × (l.link.from ≡ n) × (l.to_as ≡ b) × (l.link.to ≡ m)
    × Allows j.query l.link × (¬ ExcludesAs j.query a) × (¬ ExcludesAs j.query b)
    × (x ≡ record { cost = weight j.query.metric l.link; choice = l.link.far; hops = strict_hop l.link.far ∷ [] })
IsEdge j (Enter a e) (Enter b m) x = ⊥
IsEdge j (Leave a n) (Leave b m) x = ⊥

-- the destination, in any domain
abbrev pub IsEnd : BorderJob → Vertex → Type 0
IsEnd j (Enter a n) = ⊥
IsEnd j (Leave a n) = n ≡ j.target

-- a walk to an end, of this cost
abbrev pub BorderWalk : BorderJob → List Vertex → Vertex → ℕ → Type 0
BorderWalk j [] v c = IsEnd j v × (c ≡ 0)
BorderWalk j (u ∷ us) v c = (x : Edge) × (rest : ℕ) × IsEdge j v u x × BorderWalk j us u rest × (c ≡ x.cost + rest)

-- the least cost from a vertex to an end
pub record IsLeastTo (j : BorderJob) (v : Vertex) (c : ℕ) : Type 0 where
  pub walk : List Vertex
  pub is_walk : BorderWalk j walk v c
  pub least : (other : List Vertex) (d : ℕ) → BorderWalk j other v d → c ≤ d

-- The chosen walk: it stops at the first end, and goes on by the tight edge of the least choice.
abbrev pub IsTightEdge : BorderJob → Vertex → Vertex → ℕ → Edge → ℕ → Type 0
IsTightEdge j v u c x rest = IsEdge j v u x × IsLeastTo j u rest × (c ≡ x.cost + rest)

abbrev pub Shows : BorderJob → List Vertex → Vertex → ℕ → List Hop → Type 0
Shows j [] v c hs = IsEnd j v × (hs ≡ [])
Shows j (u ∷ us) v c hs = record {
  goes_on : ¬ IsEnd j v;
  edge : Edge;
  rest : ℕ;
  tight : IsTightEdge j v u c edge rest;
  least : (w : Vertex) (x : Edge) (d : ℕ) → IsTightEdge j v w c x d → rank edge.choice ≤ rank x.choice;
  below : List Hop;
  shown : Shows j us u rest below;
  is_hops : hs ≡ edge.hops ++ below;
}

-- the answer to a job of the parent
pub record Found : Type 0 where
  pub cost : ℕ
  pub hops : List Hop

-- the chosen walk of least cost within the cap, or none where there is none
abbrev pub SolvesBorder : BorderJob → Option Found → Type 0
SolvesBorder j None = (walk : List Vertex) (c : ℕ) → BorderWalk j walk (Enter j.start j.source) c → c ≤ j.query.cap → ⊥
SolvesBorder j (Some a) =
    IsLeastTo j (Enter j.start j.source) a.cost × (a.cost ≤ j.query.cap) × (walk : List Vertex) × Shows j walk (Enter j.start j.source) a.cost a.hops
