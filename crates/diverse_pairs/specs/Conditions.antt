-- The conditions of a certificate in their order, each at a place of its own, and what the certificate shows where all of them hold.
use Rattle.std.specs.Prelude.{◌≡◌, ◌≢◌, ◌⊎◌, ◌+◌, ◌-◌, ◌<◌, ◌≤◌, ℕ, List, [], ◌∷◌, ◌++◌, length, take, drop, map, slice_get, Some, AllPairs, Contains}
use Rattle.dom_base.specs.declared.addr.Addr.{Addr}
use Rattle.dom_base.specs.declared.link.Link.{Link as TeLink}
use Rattle.dom_base.specs.declared.query.Query.{Query}
use Rattle.dom_base.specs.Admission.{weight}
use Rattle.te_links.specs.Rows.{Rows}
use Rattle.walk_laws.specs.Walks.{AdmitsNode, AdmitsLink}
use Rattle.path_certificate.specs.declared.verdict.Place.{Place}
use Rattle.path_certificate.specs.declared.verdict.Place.TheVariants.{Seed, Link, Node, Path}
use Rattle.path_certificate.specs.Claims.{index}
use Rattle.diverse_pairs.specs.declared.certificate.PairForm.{PairForm}
use Rattle.diverse_pairs.specs.declared.certificate.PairForm.TheVariants.{Paths, Cut}
use Rattle.diverse_pairs.specs.declared.verdict.PairVerdict.{PairVerdict}
use Rattle.diverse_pairs.specs.declared.verdict.PairVerdict.TheVariants.{Holds, Fails}
use Rattle.diverse_pairs.specs.Potentials.{potential_in}
use Rattle.diverse_pairs.specs.Pairs.{IsLeastPair, HasNoPair}

-- The far addresses lead from a node to a node: each is that of an admitted link, which begins at the present node.
abbrev pub LeadsAlong : Rows → Query → Addr → List Addr → Addr → Type 0
LeadsAlong g q n [] m = (n ≡ m) × AdmitsNode g q n
LeadsAlong g q n (far ∷ fars) m = (l : TeLink) × (l.far ≡ far) × (l.from ≡ n) × AdmitsLink g q l × LeadsAlong g q l.to fars m

-- they lead there, and none of them was used before
pub record Traces (g : Rows) (q : Query) (used : List Addr) (n : Addr) (fars : List Addr) (m : Addr) : Type 0 where
  pub leads : LeadsAlong g q n fars m
  pub new : AllPairs (λ a b. a ≢ b) (used ++ fars)

-- the first k far addresses do; if these are all, they lead to the target
pub record TracesOver (g : Rows) (q : Query) (used : List Addr) (s t : Addr) (fars : List Addr) (k : ℕ) : Type 0 where
  pub node : Addr
  pub traces : Traces g q used s (take k fars) node
  pub ends : length fars ≤ k → node ≡ t

-- a list holds up to the address at place k: it begins with the source, and goes on from there
abbrev pub ListHolds : Rows → Query → List Addr → Addr → Addr → List Addr → ℕ → Type 0
ListHolds g q used s t [] k = ⊥
ListHolds g q used s t (start ∷ fars) k = (start ≡ s) × TracesOver g q used s t fars k

-- the far addresses behind the source
abbrev pub fars_of : List Addr → List Addr
fars_of = drop 1

-- both lists hold up to place k, counted through the first and then the second, which doesn't use what the first used
pub record PathHolds (g : Rows) (q : Query) (s t : Addr) (first second : List Addr) (k : ℕ) : Type 0 where
  pub in_first : ListHolds g q [] s t first k
  pub in_second : length first ≤ k → ListHolds g q (fars_of first) s t second (k - length first)

-- At a link that isn't used the potential rises by at most the weight, and at one that is used by at least the weight.
abbrev pub RisesRight : Query → (Addr → ℕ) → Type 0 → TeLink → Type 0
RisesRight q potential Used l =
    (¬ Used → potential l.to ≤ potential l.from + weight q.metric l) × (Used → potential l.from + weight q.metric l ≤ potential l.to)

abbrev pub LinkHolds : Query → (Addr → ℕ) → List Addr → TeLink → Type 0
LinkHolds q potential used l = RisesRight q potential (Contains used l.far) l

abbrev pub LinkHoldsAt : Rows → Query → (Addr → ℕ) → List Addr → ℕ → Type 0
LinkHoldsAt g q potential used i = (l : TeLink) → slice_get g.links i ≡ Some l → AdmitsLink g q l → LinkHolds q potential used l

-- what is asked: a pair from the source to the target
pub record Asked : Type 0 where
  pub topology : Rows
  pub query : Query
  pub source : Addr
  pub target : Addr

abbrev pub asked_of : Rows → Query → Addr → Addr → Asked
asked_of g q source target = record { topology = g; query = q; source = source; target = target }

-- both ends are admitted nodes
abbrev pub HasEnds : Asked → Type 0
HasEnds a = AdmitsNode a.topology a.query a.source × AdmitsNode a.topology a.query a.target

-- an end is no admitted node, or the nodes stand between the two
abbrev pub EndsHold : Asked → List Addr → Type 0
EndsHold a nodes = (¬ HasEnds a) ⊎ (Contains nodes a.source × ¬ Contains nodes a.target)

-- the link at place i is admitted and leaves the nodes
pub record Leaves (g : Rows) (q : Query) (nodes : List Addr) (i : ℕ) : Type 0 where
  pub link : TeLink
  pub at_link : slice_get g.links i ≡ Some link
  pub admitted : AdmitsLink g q link
  pub inside : Contains nodes link.from
  pub outside : ¬ Contains nodes link.to

-- it isn't the second, or a later one, that leaves
abbrev pub IsOnlyToLeave : Rows → Query → List Addr → ℕ → Type 0
IsOnlyToLeave g q nodes i = (j : ℕ) → j < i → Leaves g q nodes j → ¬ Leaves g q nodes i

-- the condition at a place; where nothing stands there, it holds
abbrev pub HoldsAt : Asked → PairForm → Place → Type 0
HoldsAt a (Paths potentials first second) (Path k) = PathHolds a.topology a.query a.source a.target first second k
HoldsAt a (Paths potentials first second) (Link i) = LinkHoldsAt a.topology a.query (potential_in potentials) (fars_of first ++ fars_of second) i
HoldsAt a (Paths potentials first second) (Seed i) = Unit {0}
HoldsAt a (Paths potentials first second) (Node i) = Unit {0}
HoldsAt a (Cut nodes) (Seed i) = EndsHold a nodes
HoldsAt a (Cut nodes) (Link i) = HasEnds a → IsOnlyToLeave a.topology a.query nodes i
HoldsAt a (Cut nodes) (Path k) = Unit {0}
HoldsAt a (Cut nodes) (Node i) = Unit {0}

-- the addresses of the paths and the ends of the cut come first, then the links
abbrev pub kind_order : Place → ℕ
kind_order (Seed i) = 0
kind_order (Path k) = 1
kind_order (Link i) = 2
kind_order (Node i) = 3

abbrev pub IsBefore : Place → Place → Type 0
IsBefore p r = (kind_order p < kind_order r) ⊎ ((kind_order p ≡ kind_order r) × (index p < index r))

-- the condition at the place is false, and each before it holds
pub record IsFirstFalse (a : Asked) (form : PairForm) (place : Place) : Type 0 where
  pub fails : ¬ HoldsAt a form place
  pub earlier : (other : Place) → IsBefore other place → HoldsAt a form other

-- the verdict of a check
abbrev pub IsVerdict : Asked → PairForm → PairVerdict → Type 0
IsVerdict a form Holds = (place : Place) → HoldsAt a form place
IsVerdict a form (Fails place) = IsFirstFalse a form place

-- a source, and then these far addresses of links
abbrev pub IsShownBy : Addr → List TeLink → List Addr → Type 0
IsShownBy s links shown = shown ≡ s ∷ map (λ l. l.far) links

-- the paths are those of a pair, and no pair has a smaller sum
pub record ShowsLeast (a : Asked) (first second : List Addr) : Type 0 where
  pub one : List TeLink
  pub other : List TeLink
  pub shows_one : IsShownBy a.source one first
  pub shows_other : IsShownBy a.source other second
  pub least : IsLeastPair a.topology a.query a.source a.target one other

-- what a certificate shows: a least pair, or that there is none
abbrev pub AnswersPair : Asked → PairForm → Type 0
AnswersPair a (Paths potentials first second) = ShowsLeast a first second
AnswersPair a (Cut nodes) = HasNoPair a.topology a.query a.source a.target
