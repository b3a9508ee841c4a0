-- What the verdict of a check is worth.
use Rattle.std.proofs.Common.{◌≡◌, ◌≢◌, inl, inr, ℕ, ◌+◌, ◌-◌, ◌<◌, List, [], ◌∷◌, ◌++◌, length, map, refl, sym, ◌∙◌, ap, subst, arith, take}
use Rattle.std.specs.Prelude.{AllPairs}
use Rattle.std.proofs.lemmas.List.{take_all, get_or-map, length-map}
use Rattle.dom_base.specs.declared.addr.Addr.{Addr}
use Rattle.dom_base.specs.declared.link.Link.{Link as TeLink}
use Rattle.dom_base.specs.declared.query.Query.{Query}
use Rattle.te_links.specs.Rows.{Rows, IsInOrder}
use Rattle.walk_laws.specs.Walks.{AdmitsLink, Walk}
use Rattle.path_certificate.specs.declared.verdict.Place.{Place}
use Rattle.path_certificate.specs.declared.verdict.Place.TheVariants.{Seed, Link, Node, Path}
use Rattle.path_certificate.proofs.Making.{place_of}
use Rattle.diverse_pairs.specs.declared.certificate.PairForm.{PairForm}
use Rattle.diverse_pairs.specs.declared.certificate.PairForm.TheVariants.{Paths, Cut}
use Rattle.diverse_pairs.specs.declared.verdict.PairVerdict.{PairVerdict}
use Rattle.diverse_pairs.specs.declared.verdict.PairVerdict.TheVariants.{Holds, Fails}
use Rattle.diverse_pairs.specs.Pairs.{IsPair}
use Rattle.diverse_pairs.specs.Potentials.{potential_in}
use Rattle.diverse_pairs.specs.Conditions.{Asked, LeadsAlong, TracesOver, ListHolds, PathHolds, LinkHoldsAt, LinkHolds, HasEnds, EndsHold, IsOnlyToLeave, HoldsAt, IsBefore, IsVerdict, ShowsLeast, AnswersPair, fars_of}
use Rattle.diverse_pairs.specs.Steps.{IsFirstNot}
use Rattle.diverse_pairs.proofs.Best.{least_pair}
use Rattle.diverse_pairs.proofs.Cutting.{no_pair}

-- ---- the first false place

abbrev PathsHold : Asked → List Addr → List Addr → ℕ → Type 0
PathsHold a first second = PathHolds a.topology a.query a.source a.target first second

abbrev LinksHold : Asked → List (Addr × ℕ) → List Addr → List Addr → ℕ → Type 0
LinksHold a potentials first second = LinkHoldsAt a.topology a.query (potential_in potentials) (fars_of first ++ fars_of second)

before_path : (a : Asked) (p : List (Addr × ℕ)) (first second : List Addr) (k : ℕ) → ((j : ℕ) → j < k → PathsHold a first second j) → (other : Place) → IsBefore other (Path k) →
    HoldsAt a (Paths p first second) other
before_path a p first second k earlier (Seed j) before = tt
before_path a p first second k earlier (Node j) before = tt
before_path a p first second k earlier (Link j) (inl lt) = absurd (omega arith)
before_path a p first second k earlier (Link j) (inr same) = absurd (omega (arith, same.0))
before_path a p first second k earlier (Path j) (inl lt) = absurd (omega arith)
before_path a p first second k earlier (Path j) (inr same) = earlier j same.1

pub path_first : (a : Asked) (p : List (Addr × ℕ)) (first second : List Addr) (k : ℕ) → IsFirstNot (PathsHold a first second) k →
    IsVerdict a (Paths p first second) (Fails (Path k))
path_first a p first second k stops = record { fails = stops.fails; earlier = before_path a p first second k stops.earlier }

before_link : (a : Asked) (p : List (Addr × ℕ)) (first second : List Addr) (i : ℕ) → ((k : ℕ) → PathsHold a first second k) → ((j : ℕ) → j < i → LinksHold a p first second j) →
    (other : Place) → IsBefore other (Link i) → HoldsAt a (Paths p first second) other
before_link a p first second i paths earlier (Seed j) before = tt
before_link a p first second i paths earlier (Node j) before = tt
before_link a p first second i paths earlier (Path k) before = paths k
before_link a p first second i paths earlier (Link j) (inl lt) = absurd (omega arith)
before_link a p first second i paths earlier (Link j) (inr same) = earlier j same.1

pub link_first : (a : Asked) (p : List (Addr × ℕ)) (first second : List Addr) (i : ℕ) → ((k : ℕ) → PathsHold a first second k) → IsFirstNot (LinksHold a p first second) i →
    IsVerdict a (Paths p first second) (Fails (Link i))
link_first a p first second i paths stops = record { fails = stops.fails; earlier = before_link a p first second i paths stops.earlier }

pub paths_hold : (a : Asked) (p : List (Addr × ℕ)) (first second : List Addr) → ((k : ℕ) → PathsHold a first second k) → ((i : ℕ) → LinksHold a p first second i) →
    IsVerdict a (Paths p first second) Holds
paths_hold a p first second paths links (Seed j) = tt
paths_hold a p first second paths links (Node j) = tt
paths_hold a p first second paths links (Path k) = paths k
paths_hold a p first second paths links (Link i) = links i

before_crossing : (a : Asked) (nodes : List Addr) (i : ℕ) → EndsHold a nodes → ((j : ℕ) → j < i → IsOnlyToLeave a.topology a.query nodes j) → (other : Place) → IsBefore other (Link i) →
    HoldsAt a (Cut nodes) other
before_crossing a nodes i ends earlier (Seed j) before = ends
before_crossing a nodes i ends earlier (Path j) before = tt
before_crossing a nodes i ends earlier (Node j) before = tt
before_crossing a nodes i ends earlier (Link j) (inl lt) = absurd (omega arith)
before_crossing a nodes i ends earlier (Link j) (inr same) = λ both. earlier j same.1

pub crossing_first : (a : Asked) (nodes : List Addr) (i : ℕ) → HasEnds a → EndsHold a nodes → IsFirstNot (IsOnlyToLeave a.topology a.query nodes) i → IsVerdict a (Cut nodes) (Fails (Link i))
crossing_first a nodes i both ends stops = record { fails = λ holds. stops.fails (holds both); earlier = before_crossing a nodes i ends stops.earlier }

pub cut_holds : (a : Asked) (nodes : List Addr) → EndsHold a nodes → (HasEnds a → (i : ℕ) → IsOnlyToLeave a.topology a.query nodes i) → IsVerdict a (Cut nodes) Holds
cut_holds a nodes ends only (Seed j) = ends
cut_holds a nodes ends only (Path j) = tt
cut_holds a nodes ends only (Node j) = tt
cut_holds a nodes ends only (Link i) = λ both. only both i

-- ---- what holding shows

-- far addresses that lead on are those of a walk
pub record WalkOf (g : Rows) (q : Query) (n : Addr) (fars : List Addr) (m : Addr) : Type 0 where
  pub links : List TeLink
  pub walk : Walk g q n m links
  pub shown : map (λ l. l.far) links ≡ fars

pub walk_of : (g : Rows) (q : Query) (fars : List Addr) (n m : Addr) → LeadsAlong g q n fars m → WalkOf g q n fars m
walk_of g q [] n m leads = record { links = []; walk = leads; shown = refl }
walk_of g q (far ∷ fars) n m leads =
    let rest = walk_of g q fars leads.0.to m leads.4 in
    record {
      links = leads.0 ∷ rest.links;
      walk = (leads.2, leads.3, rest.walk);
      shown = ap (λ f. f ∷ map (λ (l : TeLink). l.far) rest.links) leads.1 ∙ ap (λ xs. far ∷ xs) rest.shown;
    }

-- a list that holds throughout
pub record Whole (g : Rows) (q : Query) (used : List Addr) (s t : Addr) (shown : List Addr) : Type 0 where
  pub begins : shown ≡ s ∷ fars_of shown
  pub leads : LeadsAlong g q s (fars_of shown) t
  pub new : AllPairs (λ a b. a ≢ b) (used ++ fars_of shown)

pub whole : (g : Rows) (q : Query) (used : List Addr) (s t : Addr) (shown : List Addr) → ((k : ℕ) → ListHolds g q used s t shown k) → Whole g q used s t shown
whole g q used s t [] holds = absurd (holds 0)
whole g q used s t (start ∷ fars) holds =
    let all = holds (length fars) in
    let over : TracesOver g q used s t fars (length fars) = all.1 in
    let full : take (length fars) fars ≡ fars = take_all (length fars) fars (omega arith) in
    let ends : over.node ≡ t = over.ends (omega arith) in
    record {
      begins = ap (λ a. a ∷ fars) all.0;
      leads = subst (λ (m : Addr). LeadsAlong g q s fars m) ends (subst (λ xs. LeadsAlong g q s xs over.node) full over.traces.leads);
      new = subst (λ xs. AllPairs (λ a b. a ≢ b) (used ++ xs)) full over.traces.new;
    }

map_both : (ls ms : List TeLink) → map (λ (l : TeLink). l.far) (ls ++ ms) ≡ map (λ (l : TeLink). l.far) ls ++ map (λ (l : TeLink). l.far) ms
map_both [] ms = refl
map_both (l ∷ ls) ms = ap (λ xs. l.far ∷ xs) (map_both ls ms)

pub links_differ : (ls : List TeLink) → AllPairs (λ a b. a ≢ b) (map (λ (l : TeLink). l.far) ls) → AllPairs (λ l m. l ≢ m) ls
links_differ ls differ i j d before below same =
    differ i j d.far before (omega (arith, below, length-map {A = TeLink} {B = Addr} ls (λ l. l.far)))
    (get_or-map (λ (l : TeLink). l.far) ls i d d.far (omega arith) ∙ ap (λ (l : TeLink). l.far) same ∙ sym (get_or-map (λ (l : TeLink). l.far) ls j d d.far below))

pub paths_show : (a : Asked) (p : List (Addr × ℕ)) (first second : List Addr) → IsInOrder a.topology → ((k : ℕ) → PathsHold a first second k) → ((i : ℕ) → LinksHold a p first second i) →
    ShowsLeast a first second
paths_show a p first second order paths links =
    let one = whole a.topology a.query [] a.source a.target first (λ k. (paths k).in_first) in
    let other = whole a.topology a.query (fars_of first) a.source a.target second
    (λ k. subst (ListHolds a.topology a.query (fars_of first) a.source a.target second) (let e : length first + k - length first ≡ k = omega arith in e) ((paths (length first + k)).in_second (omega arith))) in
    let walk = walk_of a.topology a.query (fars_of first) a.source a.target one.leads in
    let back = walk_of a.topology a.query (fars_of second) a.source a.target other.leads in
    let used : map (λ (l : TeLink). l.far) (walk.links ++ back.links) ≡ fars_of first ++ fars_of second =
    map_both walk.links back.links ∙ ap (λ xs. xs ++ map (λ (l : TeLink). l.far) back.links) walk.shown ∙ ap (λ xs. fars_of first ++ xs) back.shown in
    let pair : IsPair a.topology a.query a.source a.target walk.links back.links = record {
      first_walk = walk.walk;
      second_walk = back.walk;
      diverse = links_differ (walk.links ++ back.links) (subst (AllPairs (λ x y. x ≢ y)) (sym used) other.new);
    } in
    let at_links : (l : TeLink) → AdmitsLink a.topology a.query l → LinkHolds a.query (potential_in p) (map (λ (k : TeLink). k.far) (walk.links ++ back.links)) l =
    λ l admitted.
    let at = place_of a.topology.links l admitted.is_link in
    subst (λ xs. LinkHolds a.query (potential_in p) xs l) (sym used) (links at.0 l at.1 admitted) in
    record {
      one = walk.links;
      other = back.links;
      shows_one = one.begins ∙ ap (λ xs. a.source ∷ xs) (sym walk.shown);
      shows_other = other.begins ∙ ap (λ xs. a.source ∷ xs) (sym back.shown);
      least = least_pair a.topology a.query (potential_in p) a.source a.target walk.links back.links order pair at_links;
    }

pub shown : (a : Asked) (form : PairForm) → IsInOrder a.topology → ((place : Place) → HoldsAt a form place) → AnswersPair a form
shown a (Paths p first second) order holds = paths_show a p first second order (λ k. holds (Path k)) (λ i. holds (Link i))
shown a (Cut nodes) order holds = no_pair a nodes (holds (Seed 0)) (λ both i. holds (Link i) both)

-- so a verdict that says so
pub verdict_shows : (a : Asked) (form : PairForm) (v : PairVerdict) → IsInOrder a.topology → IsVerdict a form v → v ≡ Holds → AnswersPair a form
verdict_shows a form Holds order says is = shown a form order says
verdict_shows a form (Fails place) order says is = absurd (let e : Fails place ≡ Holds = is in cc)
