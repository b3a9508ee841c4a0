-- Links are read one after another, each at most once.
use Rattle.std.proofs.Common.{◌≡◌, ◌≢◌, ◌⊎◌, inl, inr, ℕ, zero, suc, ◌+◌, ◌<◌, ◌≤◌, Bool, true, false, nat_eq, List, [], ◌∷◌, ◌++◌, length, map, take, replicate, arith, refl, sym, ◌∙◌, ap, subst, None, Some, length-append}
use Rattle.std.specs.Prelude.{Contains, All, AllPairs, slice_get, slice_index_or, slice_set, sum_by}
use Rattle.std.specs.declared.option.Option.{Option}
use Rattle.std.specs.Bool.{Decides}
use Rattle.std.specs.Set.{is_member}
use Rattle.std.proofs.lemmas.Bool.{cases_lt}
use Rattle.std.proofs.lemmas.Bool.Decides.{eqb_tells, Decides-eqb}
use Rattle.std.proofs.lemmas.Cmp.{nat_eq_equiv}
use Rattle.std.proofs.lemmas.List.{take_all, get_or_default, get_or_past, get_or-replicate, get_or-map, length-map, length-replicate}
use Rattle.std.proofs.lemmas.List.Elements.{All-push, All-more, All-weaker, All-contains, All-contains_itself, Contains-push, Contains-append_left, Contains-append_cases}
use Rattle.std.proofs.lemmas.List.Quantifiers.{all_pairs_push}
use Rattle.std.proofs.lemmas.Map.Made.{IsDistinct-from_AllPairs, is_member-Decides, length-le_from_is_member}
use Rattle.std.proofs.lemmas.Option.{slice_get_within}
use Rattle.std.proofs.lemmas.List.Sums.{sum_by-set}
use Rattle.dom_base.specs.declared.addr.Addr.TheVariants.{V4}
use Rattle.dom_base.specs.declared.link.Link.{Link}
use Rattle.dom_base.specs.declared.query.Query.{Query}
use Rattle.dom_base.specs.declared.query.Label.{Label}
use Rattle.te_links.specs.Rows.{Rows, IsTopology, IsInnerLink}
use Rattle.te_links.specs.Index.{LinkEndsAt, IsLinksInto}
use Rattle.path_search.specs.declared.arc.Arc.{Arc}
use Rattle.path_search.specs.Arcs.{label_at, IsArcAmong, IsWithin, joined, IsBelow}
use Rattle.path_search.specs.Search.{IsArcOf, IsNoArc}
use Rattle.path_search.specs.Front.{cost_of, cost_at, is_done, IsFront, IsLeastAt, Spreads}
use Rattle.path_search.specs.Asked.{AreBarred}
use Rattle.path_search.specs.Reached.{EndsAtLabel}
use Rattle.path_search.specs.Reading.{IsReading, IsHeadDone, IsOpened, IsResting, IsSpreading, SpreadsLink}
use Rattle.walk_laws.specs.Certificate.{AtMost}
use Rattle.dom_base.specs.declared.query.Seed.{Seed}
use Rattle.path_search.specs.Starts.{AreStarts}
use Rattle.path_search.specs.Search.{AreLabels}
use Rattle.path_search.proofs.Relaxing.{IsWritten, written, same_le}
use Rattle.path_search.proofs.Places.{same_place, place_of, contains_at}
use Rattle.path_search.proofs.Certified.{searched, arc_among}
use Rattle.path_search.proofs.Deciding.{link_or_none}
use Rattle.path_search.proofs.Fronts.{front_spread, front_taken, front_over, label_that_waits, undone, unsettled, set_done}

up_to : ℕ → List ℕ
up_to zero = []
up_to (suc n) = up_to n ++ n ∷ []

length_up_to : (n : ℕ) → length (up_to n) ≡ n
unfolding up_to
length_up_to zero = refl
length_up_to (suc n) = let e = length-append (up_to n) (n ∷ []) in let h = length_up_to n in omega (arith, e, h)

in_up_to : (n p : ℕ) → p < n → Contains (up_to n) p
unfolding up_to
in_up_to zero p below = absurd (omega arith)
in_up_to (suc n) p below =
    elim (cases_lt p n) [
      | inl lt ↦ Contains-append_left (up_to n) (n ∷ []) p (in_up_to n p lt)
      | inr ge ↦ let same : n ≡ p = omega arith in subst (Contains (up_to n ++ n ∷ [])) same (Contains-push (up_to n) n)
    ]

-- different numbers that all stand in a list are no more than its
fits_in : (read places : List ℕ) → AllPairs (λ p r. p ≢ r) read → ((p : ℕ) → Contains read p → Contains places p) → length read ≤ length places
fits_in read places apart inside =
    let same : (a b : ℕ) → Decides (nat_eq a b) (a ≡ b) = λ a b. Decides-eqb a b in
    let has : (p : ℕ) → is_member nat_eq read p ≡ true → is_member nat_eq places p ≡ true =
    λ p is. (is_member-Decides {eq = nat_eq} same places p).1 (inside p ((is_member-Decides {eq = nat_eq} same read p).0 is)) in
    length-le_from_is_member {eq = nat_eq} nat_eq_equiv read places (IsDistinct-from_AllPairs {eq = nat_eq} same read apart) has

-- so many different numbers below n are at most n
few_below : (n : ℕ) (read : List ℕ) → All (λ p. p < n) read → AllPairs (λ p r. p ≢ r) read → length read ≤ n
few_below n read within apart =
    let bound = fits_in read (up_to n) apart (λ p has. in_up_to n p (All-contains (λ r. r < n) read p within has)) in
    omega (arith, bound, length_up_to n)

apart_push : (read : List ℕ) (p : ℕ) → AllPairs (λ p r. p ≢ r) read → ¬ Contains read p → AllPairs (λ p r. p ≢ r) (read ++ p ∷ [])
apart_push read p apart fresh = all_pairs_push (λ (x : ℕ) (y : ℕ). x ≢ y) read p apart
    (λ k d below is. fresh (subst (Contains read) is (All-contains_itself read k d below)))

-- one more link was read, and isn't admitted
read_skipped : (g : Rows) (q : Query) (arcs : List Arc) (read : List ℕ) (p : ℕ) → IsReading g q arcs read → p < length g.links → ¬ Contains read p →
    IsNoArc g q p → IsReading g q arcs (read ++ p ∷ [])
read_skipped g q arcs read p r below fresh none = record {
  each = r.each;
  every = λ s l has at admitted.
      elim (Contains-append_cases read (p ∷ []) s has) [
        | inl old ↦ r.every s l old at admitted
        | inr new ↦ absurd (none l (subst (λ k. slice_get g.links k ≡ Some l) (only p s new) at) admitted)
      ];
  within = All-push (λ s. s < length g.links) read p r.within below;
  apart = apart_push read p r.apart fresh;
}
  where
    only : (p s : ℕ) → Contains (p ∷ []) s → s ≡ p
    only p s (zero, lt, is) = sym is
    only p s (suc k, lt, is) = absurd (omega (arith, lt))

-- one more link was read, and gives an arc
read_pushed : (g : Rows) (q : Query) (arcs : List Arc) (read : List ℕ) (p : ℕ) (a : Arc) → IsReading g q arcs read → p < length g.links → ¬ Contains read p →
    IsArcOf g q p a → IsReading g q (arcs ++ a ∷ []) (read ++ p ∷ [])
read_pushed g q arcs read p a r below fresh of = record {
  each = All-push (λ (x : Arc). IsArcOf g q x.link x) arcs a r.each (subst (λ k. IsArcOf g q k a) (sym of.same_index) of);
  every = λ s l has at admitted.
      elim (Contains-append_cases read (p ∷ []) s has) [
        | inl old ↦ let e = r.every s l old at admitted in (e.0, (Contains-append_left arcs (a ∷ []) e.0 e.1.0, e.1.1))
        | inr new ↦ (a, (Contains-push arcs a, subst (λ k. IsArcOf g q k a) (only p s new) of))
      ];
  within = All-push (λ s. s < length g.links) read p r.within below;
  apart = apart_push read p r.apart fresh;
}
  where
    only : (p s : ℕ) → Contains (p ∷ []) s → p ≡ s
    only p s (zero, lt, is) = is
    only p s (suc k, lt, is) = absurd (omega (arith, lt))

-- the label of a settled node stays
stays : (g : Rows) (q : Query) (arcs : List Arc) (a : Arc) (start old new : List (Option Label)) (waiting next : List (Option ℕ)) (done : List Bool) (last : Label) →
    IsFront q.cap arcs start old waiting done last → IsArcAmong (length old) a → label_at old a.head ≡ Some last → Spreads q.cap a old new waiting next →
    (i : ℕ) → is_done done i ≡ true → label_at new i ≡ label_at old i
stays g q arcs a start old new waiting next done last f among at_head (inl low) i done_i =
    let both : Some low.0.rest ≡ Some last = sym low.0.at_head ∙ at_head in
    let rest_is : low.0.rest ≡ last = cc in
    let w : IsWritten old new a.tail (joined a low.0.rest) = written old new a.tail (joined a low.0.rest) among.tail low.0.is in
    let below : IsBelow (joined a last) (label_at old a.tail) = subst (λ (r : Label). IsBelow (joined a r) (label_at old a.tail)) rest_is low.0.better in
    w.others i (λ same. unsettled q.cap arcs a start old waiting done last f among.heavy below (subst (λ n. is_done done n ≡ true) same done_i))
stays g q arcs a start old new waiting next done last f among at_head (inr same) i done_i = ap (λ (ls : List (Option Label)). label_at ls i) same.0

-- no other place of the list has the same link
later_unread : (read places : List ℕ) (k p : ℕ) → AllPairs (λ x y. x < y) places → slice_index_or places k p ≡ p →
    ((j : ℕ) (d : ℕ) → k ≤ j → j < length places → ¬ Contains read (slice_index_or places j d)) →
    (j : ℕ) (d : ℕ) → k + 1 ≤ j → j < length places → ¬ Contains (read ++ p ∷ []) (slice_index_or places j d)
later_unread read places k p order is unread j d after below has =
    elim (Contains-append_cases read (p ∷ []) (slice_index_or places j d) has) [
      | inl old ↦ unread j d (omega arith) below old
      | inr new ↦
          let less : slice_index_or places k d < slice_index_or places j d = order k j d (omega arith) below in
          let at_k : slice_index_or places k d ≡ p = get_or_default places k d p (omega (arith, after, below)) ∙ is in
          omega (arith, less, at_k, only p (slice_index_or places j d) new)
    ]
  where
    only : (p s : ℕ) → Contains (p ∷ []) s → p ≡ s
    only p s (zero, lt, is) = is
    only p s (suc k, lt, is) = absurd (omega (arith, lt))

read_on : (places read : List ℕ) (k p : ℕ) → k < length places → slice_index_or places k p ≡ p → All (Contains read) (take k places) → All (Contains (read ++ p ∷ [])) (take (k + 1) places)
read_on places read k p below is part =
    All-more (Contains (read ++ p ∷ [])) places k p below
    (All-weaker (Contains read) (Contains (read ++ p ∷ [])) (λ s has. Contains-append_left read (p ∷ []) s has) (take k places) part)
    (subst (Contains (read ++ p ∷ [])) (sym is) (Contains-push read p))

-- one more link into the node was read
pub spread_step : (g : Rows) (q : Query) (barred : List Bool) (start old new : List (Option Label)) (waiting next : List (Option ℕ)) (done : List Bool) (v : ℕ) (places : List ℕ) (k n p : ℕ) →
    IsTopology g → AreBarred g q barred → length old ≡ length g.nodes → IsLinksInto g.nodes g.links v places → k < length places → slice_index_or places k p ≡ p →
    IsSpreading g q start old waiting done v places k n → SpreadsLink g q p old new waiting next → IsSpreading g q start new next done v places (k + 1) (n + 1)
spread_step g q barred start old new waiting next done v places k n p valid are long into below is s step =
    let ends : LinkEndsAt g.nodes g.links v p = subst (LinkEndsAt g.nodes g.links v) is (into.ends k p below) in
    let within : p < length g.links = slice_get_within g.links p ends.link ends.at_link in
    let fresh : ¬ Contains s.read p = subst (λ r. ¬ Contains s.read r) is (s.unread k p (omega arith) below) in
    let heads : All (IsHeadDone g done) (s.read ++ p ∷ []) = All-push (IsHeadDone g done) s.read p s.heads
    (λ i at. let both : Some at.link ≡ Some ends.link = sym at.at_link ∙ ends.at_link in
    let same : at.link ≡ ends.link = cc in
    subst (λ j. is_done done j ≡ true) (same_place g.nodes valid.nodes_differ v i ends.link.to ends.at_node (at.at_node ∙ ap (λ (l : Link). Some l.to) same)) s.here) in
    let whole : (i r : ℕ) → i ≢ v → is_done done i ≡ true → LinkEndsAt g.nodes g.links i r → Contains (s.read ++ p ∷ []) r =
    λ i r other done_i at. Contains-append_left s.read (p ∷ []) r (s.whole i r other done_i at) in
    let part = read_on places s.read k p below is s.part in
    let unread = later_unread s.read places k p into.order is s.unread in
    let count : length (s.read ++ p ∷ []) ≡ n + 1 = (let e = length-append s.read (p ∷ []) in let c = s.count in omega (arith, e, c)) in
    go heads whole part unread count ends within fresh (told step ends)
  where
    -- where nothing changed, the link is not admitted, or its arc is relaxed
    told : SpreadsLink g q p old new waiting next → LinkEndsAt g.nodes g.links v p →
        (IsNoArc g q p × ((new ≡ old) × (next ≡ waiting))) ⊎ ((a : Arc) × (IsArcOf g q p a × Spreads q.cap a old new waiting next))
    told (inl idle) ends =
        elim (link_or_none g q barred p ends.link valid are ends.at_link) [
          | inl none ↦ inl (none, idle.1)
          | inr by ↦ inr (by.0, (by.1, inr (idle.1.0, (idle.1.1, idle.0 by.0 by.1))))
        ]
    told (inr by) ends = inr by

    go : All (IsHeadDone g done) (s.read ++ p ∷ []) → ((i r : ℕ) → i ≢ v → is_done done i ≡ true → LinkEndsAt g.nodes g.links i r → Contains (s.read ++ p ∷ []) r) →
        All (Contains (s.read ++ p ∷ [])) (take (k + 1) places) →
        ((j : ℕ) (d : ℕ) → k + 1 ≤ j → j < length places → ¬ Contains (s.read ++ p ∷ []) (slice_index_or places j d)) →
        length (s.read ++ p ∷ []) ≡ n + 1 → LinkEndsAt g.nodes g.links v p → p < length g.links → ¬ Contains s.read p →
        (IsNoArc g q p × ((new ≡ old) × (next ≡ waiting))) ⊎ ((a : Arc) × (IsArcOf g q p a × Spreads q.cap a old new waiting next)) →
        IsSpreading g q start new next done v places (k + 1) (n + 1)
    go heads whole part unread count ends within fresh (inl none) = record {
      last = s.last;
      arcs = s.arcs;
      read = s.read ++ p ∷ [];
      front = subst (λ (ls : List (Option Label)). IsFront q.cap s.arcs start ls next done s.last) (sym none.1.0)
          (subst (λ (ws : List (Option ℕ)). IsFront q.cap s.arcs start old ws done s.last) (sym none.1.1) s.front);
      reading = read_skipped g q s.arcs s.read p s.reading within fresh none.0;
      heads = heads;
      here = s.here;
      at_here = ap (λ (ls : List (Option Label)). label_at ls v) none.1.0 ∙ s.at_here;
      whole = whole;
      part = part;
      unread = unread;
      count = count;
    }
    go heads whole part unread count ends within fresh (inr by) =
        let a : Arc = by.0 in
        let of : IsArcOf g q p a = by.1.0 in
        let among : IsArcAmong (length old) a = arc_among g q (length old) a valid (sym long) (subst (λ r. IsArcOf g q r a) (sym of.same_index) of) in
        let both : Some of.link ≡ Some ends.link = sym of.at_link ∙ ends.at_link in
        let same : of.link ≡ ends.link = cc in
        let head : v ≡ a.head = same_place g.nodes valid.nodes_differ v a.head ends.link.to ends.at_node (of.head ∙ ap (λ (l : Link). Some l.to) same) in
        let at_head : label_at old a.head ≡ Some s.last = ap (label_at old) (sym head) ∙ s.at_here in
        let head_done : is_done done a.head ≡ true = subst (λ j. is_done done j ≡ true) head s.here in
        record {
          last = s.last;
          arcs = s.arcs ++ a ∷ [];
          read = s.read ++ p ∷ [];
          front = front_spread q.cap s.arcs a start old new waiting next done s.last s.front among head_done at_head by.1.1;
          reading = read_pushed g q s.arcs s.read p a s.reading within fresh of;
          heads = heads;
          here = s.here;
          at_here = stays g q s.arcs a start old new waiting next done s.last s.front among at_head by.1.1 v s.here ∙ s.at_here;
          whole = whole;
          part = part;
          unread = unread;
          count = count;
        }

-- before the first link
pub spread_first : (g : Rows) (q : Query) (start labels : List (Option Label)) (waiting : List (Option ℕ)) (done : List Bool) (v : ℕ) (places : List ℕ) (n : ℕ) →
    IsLinksInto g.nodes g.links v places → IsOpened g q start labels waiting done v n → IsSpreading g q start labels waiting done v places 0 n
spread_first g q start labels waiting done v places n into o = record {
  last = o.last;
  arcs = o.arcs;
  read = o.read;
  front = o.front;
  reading = o.reading;
  heads = o.heads;
  here = o.here;
  at_here = o.at_here;
  whole = o.whole;
  part = λ j d below. absurd (omega arith);
  unread = λ j d after below. o.unread (slice_index_or places j d) (into.ends j d below);
  count = o.count;
}

-- behind the last link
pub spread_last : (g : Rows) (q : Query) (start labels : List (Option Label)) (waiting : List (Option ℕ)) (done : List Bool) (v : ℕ) (places : List ℕ) (k n : ℕ) →
    IsLinksInto g.nodes g.links v places → length places ≤ k → IsSpreading g q start labels waiting done v places k n →
    (r : IsResting g q start labels waiting done n) × (label_at labels v ≡ Some r.last)
spread_last g q start labels waiting done v places k n into past s = (
  record {
    last = s.last;
    arcs = s.arcs;
    read = s.read;
    front = s.front;
    reading = s.reading;
    heads = s.heads;
    whole = λ i p done_i at.
        elim (eqb_tells i v) [
          | inl same ↦ All-contains (Contains s.read) places p (subst (All (Contains s.read)) (take_all k places past) s.part) (into.whole p (subst (λ j. LinkEndsAt g.nodes g.links j p) same.1 at))
          | inr differs ↦ s.whole i p differs.1 done_i at
        ];
    count = s.count;
  },
  s.at_here,
)

-- the least node that waits is settled
pub opened : (g : Rows) (q : Query) (start labels : List (Option Label)) (waiting next : List (Option ℕ)) (done after : List Bool) (m v n : ℕ) →
    IsResting g q start labels waiting done n → v < length waiting → v < length done → IsLeastAt waiting v m → next ≡ slice_set waiting v None → after ≡ slice_set done v true →
    IsOpened g q start labels next after v n
opened g q start labels waiting next done after m v n r below room least is is_after =
    let found = label_that_waits q.cap r.arcs start labels waiting done r.last v m r.front least.at in
    let b : Label = found.0 in
    let here : is_done after v ≡ true = rw is_after ((set_done done v room).0) in
    let kept : (i : ℕ) → i ≢ v → is_done after i ≡ is_done done i = λ i other. rw is_after ((set_done done v room).1 i other) in
    let front : IsFront q.cap r.arcs start labels next after b = front_taken q.cap r.arcs start labels waiting next done after r.last b v m r.front below room least found.1.0 found.1.1 is is_after in
    record {
      last = b;
      arcs = r.arcs;
      read = r.read;
      front = front;
      reading = r.reading;
      heads = All-weaker (IsHeadDone g done) (IsHeadDone g after)
          (λ p h i at. elim (eqb_tells i v) [ inl same ↦ ap (is_done after) same.1 ∙ here | inr differs ↦ kept i differs.1 ∙ h i at ]) r.read r.heads;
      here = here;
      at_here = found.1.0;
      whole = λ i p other done_i at. r.whole i p (sym (kept i other) ∙ done_i) at;
      unread = λ p at has.
          let done_v : is_done done v ≡ true = All-contains (IsHeadDone g done) r.read p r.heads has v at in
          let bad : None ≡ Some m = sym (r.front.apart v done_v) ∙ least.at in cc;
      count = r.count;
    }

all_within : (cap : ℕ) (ls : List (Option Label)) → All (IsWithin cap) ls → (i : ℕ) (b : Label) → label_at ls i ≡ Some b → b.cost ≤ cap
all_within cap ls within i b is =
    elim (cases_lt i (length ls)) [
      | inr past ↦ let none : None ≡ Some b = sym (get_or_past ls i None past) ∙ is in cc
      | inl below ↦ let P : Option Label → Type 0 = IsWithin cap in subst P is (within i None below)
    ]

abbrev least_label : Label
least_label = record { cost = 0; exit = V4 0 }

cost_of_each : (ls : List (Option Label)) (i : ℕ) → cost_at (map cost_of ls) i ≡ cost_of (label_at ls i)
cost_of_each ls i = elim (cases_lt i (length ls)) [
  | inl below ↦ get_or-map cost_of ls i None None below
  | inr past ↦ get_or_past (map cost_of ls) i None (omega (arith, past, length-map ls cost_of)) ∙ sym (ap cost_of (get_or_past ls i None past))
]

-- before the first node
pub rests_at_first : (g : Rows) (q : Query) (start : List (Option Label)) (done : List Bool) →
    All (IsWithin q.cap) start → ((i : ℕ) → is_done done i ≡ false) → IsResting g q start start (map cost_of start) done 0
rests_at_first g q start done cheap none =
    let never : (i : ℕ) → is_done done i ≡ true → ⊥ = λ i is. let bad : false ≡ true = sym (none i) ∙ is in cc in
    record {
      last = least_label;
      arcs = [];
      read = [];
      front = record {
        same_length = refl;
        as_long = length-map start cost_of;
        supported = λ i b is. record { within = all_within q.cap start cheap i b is; made = inl is };
        no_higher = λ i b is. subst (λ (o : Option Label). AtMost o b) (sym is) (same_le b b refl);
        settled = λ i is. absurd (never i is);
        apart = λ i is. absurd (never i is);
        waits = λ i is. cost_of_each start i;
        later = λ i n is. omega arith;
        heads = λ k d below. absurd (omega arith);
        relaxed = λ k d below. absurd (omega arith);
      };
      reading = record {
        each = λ k d below. absurd (omega arith);
        every = λ p l has at admitted. absurd (omega (arith, has.1));
        within = λ k d below. absurd (omega arith);
        apart = λ i j d before below. absurd (omega arith);
      };
      heads = λ k d below. absurd (omega arith);
      whole = λ i p is at. absurd (never i is);
      count = refl;
    }

-- when no node waits each node has its label
pub rests_over : (g : Rows) (q : Query) (seeds : List Seed) (start labels : List (Option Label)) (waiting : List (Option ℕ)) (done : List Bool) (n : ℕ) → IsTopology g →
    AreStarts g q seeds start → IsResting g q start labels waiting done n → ((i : ℕ) → cost_at waiting i ≡ None) → AreLabels g q seeds labels
rests_over g q seeds start labels waiting done n valid starts r over =
    searched g q seeds r.arcs start labels
    (record {
      valid = valid;
      each = r.reading.each;
      every = λ p l i b at admitted at_to is.
          r.reading.every p l (r.whole i p (all_done i b is (is_done done i) refl) (record { link = l; at_link = at; at_node = at_to })) at admitted;
      starts_are = starts;
      settled = front_over q.cap r.arcs start labels waiting done r.last r.front;
    })
  where
    all_done : (i : ℕ) (b : Label) → label_at labels i ≡ Some b → (t : Bool) → is_done done i ≡ t → is_done done i ≡ true
    all_done i b is true now = now
    all_done i b is false now = let bad : None ≡ Some b.cost = sym (over i) ∙ (r.front.waits i now ∙ ap cost_of is) in cc

pub few_reads : (g : Rows) (q : Query) (start labels : List (Option Label)) (waiting : List (Option ℕ)) (done : List Bool) (n : ℕ) → IsResting g q start labels waiting done n → n ≤ length g.links
few_reads g q start labels waiting done n r = omega (arith, few_below (length g.links) r.read r.reading.within r.reading.apart, r.count)

found_at : {X : Type 0} (xs : List X) (i : ℕ) → i < length xs → (x : X) × (slice_get xs i ≡ Some x)
found_at [] i below = absurd (omega arith)
found_at (x ∷ xs) zero below = (x, refl)
found_at (x ∷ xs) (suc i) below = found_at xs i (omega arith)

-- a link that was read ends at a node whose label is among those that are shown, if those of the settled nodes are
read_reached : (g : Rows) (q : Query) (start labels shown : List (Option Label)) (waiting : List (Option ℕ)) (done : List Bool) (n p : ℕ) → IsTopology g →
    (r : IsResting g q start labels waiting done n) → ((i : ℕ) (b : Label) → label_at labels i ≡ Some b → b.cost ≤ r.last.cost → label_at shown i ≡ Some b) →
    Contains r.read p → EndsAtLabel g shown p
read_reached g q start labels shown waiting done n p valid r settled has =
    let below : p < length g.links = All-contains (λ s. s < length g.links) r.read p r.reading.within has in
    let found = found_at g.links p below in
    let l : Link = found.0 in
    let at : slice_get g.links p ≡ Some l = found.1 in
    let inner : IsInnerLink g.nodes l = All-contains (IsInnerLink g.nodes) g.links l valid.links (contains_at g.links p l at) in
    let end = place_of g.nodes l.to inner.to in
    let ends : LinkEndsAt g.nodes g.links end.0 p = record { link = l; at_link = at; at_node = end.1 } in
    let s = r.front.settled end.0 (All-contains (IsHeadDone g done) r.read p r.heads has end.0 ends) in
    record { node = end.0; ends = ends; label = s.0; at_label = settled end.0 s.0 s.1.0 s.1.1 }

pub few_shown : (g : Rows) (q : Query) (start labels shown : List (Option Label)) (waiting : List (Option ℕ)) (done : List Bool) (n : ℕ) → IsTopology g →
    (r : IsResting g q start labels waiting done n) → ((i : ℕ) (b : Label) → label_at labels i ≡ Some b → b.cost ≤ r.last.cost → label_at shown i ≡ Some b) →
    (places : List ℕ) → ((p : ℕ) → EndsAtLabel g shown p → Contains places p) → n ≤ length places
few_shown g q start labels shown waiting done n valid r settled places whole =
    omega (arith, fits_in r.read places r.reading.apart (λ p has. whole p (read_reached g q start labels shown waiting done n p valid r settled has)), r.count)

pub few_reached : (g : Rows) (q : Query) (start labels : List (Option Label)) (waiting : List (Option ℕ)) (done : List Bool) (n : ℕ) → IsTopology g →
    IsResting g q start labels waiting done n → (places : List ℕ) → ((p : ℕ) → EndsAtLabel g labels p → Contains places p) → n ≤ length places
few_reached g q start labels waiting done n valid r places whole = few_shown g q start labels labels waiting done n valid r (λ i b is _. is) places whole

abbrev pub weighs : Bool → ℕ
weighs true = 0
weighs false = 1

abbrev pub open_count : List Bool → ℕ
open_count done = sum_by weighs done

pub open_falls : (done : List Bool) (v : ℕ) → v < length done → is_done done v ≡ false → open_count (slice_set done v true) < open_count done
open_falls done v below is =
    let sums : open_count (slice_set done v true) + weighs (is_done done v) ≡ open_count done + 0 = sum_by-set weighs done v true false below in
    let one : weighs (is_done done v) ≡ 1 = ap weighs is in
    omega (arith, sums, one)

-- a node that waits isn't settled yet
pub waits_open : (g : Rows) (q : Query) (start labels : List (Option Label)) (waiting : List (Option ℕ)) (done : List Bool) (v n m : ℕ) →
    IsResting g q start labels waiting done n → cost_at waiting v ≡ Some m → is_done done v ≡ false
waits_open g q start labels waiting done v n m r is = undone q.cap r.arcs start labels waiting done r.last v m r.front is

pub none_done : (n i : ℕ) → is_done (replicate n false) i ≡ false
none_done n i = elim (cases_lt i n) [
  | inl below ↦ get_or-replicate n i false false below
  | inr past ↦
      let long : length (replicate {A = Bool} n false) ≤ i = omega (arith, length-replicate {A = Bool} n false) in
      get_or_past (replicate n false) i false long
]
