-- The inner links of a network: each once, between two ends that differ, each of which is the parent or an element.
use Rattle.std.proofs.Common.{◌≡◌, ◌≢◌, ◌⊎◌, ◌∙◌, ◌<◌, ◌≤◌, ℕ, suc, Bool, true, false, cond, nat_lt, is_some, List, [], ◌∷◌, ◌++◌, Some, All, AllPairs, length, inl, inr, refl, sym, ap, subst, arith}
use Rattle.std.specs.Prelude.{slice_index_or}
use Rattle.std.proofs.lemmas.Bool.{cases_Bool, cases_lt, lt-ltb, le-ltb, eqb-false, ne_eqb}
use Rattle.std.proofs.lemmas.List.Elements.{All-head, All-tail}
use Rattle.plant_laws.specs.plant_model.Types.{As, NetworkParts, ElementRow}
use Rattle.plant_text.specs.Names.{same_as, same_link, parent_as, insert_as}
use Rattle.plant_text.specs.Settings.{Adjacency, adjacency, adjacencies, before_adjacency, insert_adjacency, sorted, upward, has_adjacency, children, children_of, elements_of, is_element, row_of}
use Rattle.plant_laws.specs.plant_model.Laws.{IsNetwork, IsElement}
use Rattle.plant_laws.proofs.Runs.Queues.{same_as_is}
use Rattle.run_laws.proofs.SettlingLemmas.Pairs.{AllApart, same_self, same_back}

never : (b : Bool) → b ≡ false → b ≡ true → ⊥
never b is other = cc

-- ---- domains in rising order

-- each is above the one before it, and the first not below this number
abbrev pub Rises : ℕ → List As → Type 0
Rises low [] = Unit {0}
Rises low (a ∷ as') = (low ≤ a.0) × Rises (suc a.0) as'

insert_rises : (low : ℕ) (n : As) (ds : List As) → low ≤ n.0 → Rises low ds → Rises low (insert_as n ds)
insert_rises low n [] le rises = (le, tt)
insert_rises low n (a ∷ ds) le rises = elim (cases_lt n.0 a.0) [
  | inl less ↦ rw (lt-ltb n.0 a.0 less) (le, (less, rises.1))
  | inr more ↦ rw (le-ltb n.0 a.0 more) (go (λ above. insert_rises (suc a.0) n ds above rises.1) (same_as n a) refl more)
]
  where
    go : (suc a.0 ≤ n.0 → Rises (suc a.0) (insert_as n ds)) → (b : Bool) → same_as n a ≡ b → a.0 ≤ n.0 → Rises low (cond b (a ∷ ds) (a ∷ insert_as n ds))
    go behind true is more = rises
    go behind false is more =
        let apart : n.0 ≡ a.0 → ⊥ = eqb-false n.0 a.0 is in
        (rises.0, behind (elim (cases_lt a.0 n.0) [ inl above ↦ above | inr at_most ↦ absurd (apart (omega (arith, more, at_most))) ]))

pub elements_rise : (rows : List ElementRow) → All IsElement rows → Rises 1 (elements_of rows)
elements_rise [] all = tt
elements_rise (r ∷ rows) all = insert_rises 1 r.own (elements_of rows) (All-head IsElement r rows all).real (elements_rise rows (All-tail IsElement r rows all))

pub children_rise : (rows : List ElementRow) → All IsElement rows → Rises 1 (children_of rows)
children_rise [] all = tt
children_rise (r ∷ rows) all = go r.parent (children_rise rows (All-tail IsElement r rows all))
  where
    go : (b : Bool) → Rises 1 (children_of rows) → Rises 1 (cond b (insert_as r.own (children_of rows)) (children_of rows))
    go true more = insert_rises 1 r.own (children_of rows) (All-head IsElement r rows all).real more
    go false more = more

-- an element has a number
pub element_real : (d : As) (rows : List ElementRow) → All IsElement rows → is_some (row_of d rows) ≡ true → 1 ≤ d.0
element_real d [] all is = absurd (let no : false ≡ true = is in cc)
element_real d (r ∷ rows) all is = go (element_real d rows (All-tail IsElement r rows all)) (same_as r.own d) refl is
  where
    go : (is_some (row_of d rows) ≡ true → 1 ≤ d.0) → (b : Bool) → same_as r.own d ≡ b → is_some (cond b (Some r) (row_of d rows)) ≡ true → 1 ≤ d.0
    go more true same known = subst (λ (z : As). 1 ≤ z.0) (same_as_is r.own d same) (All-head IsElement r rows all).real
    go more false same known = more known

real_apart : (d : As) → 1 ≤ d.0 → same_as parent_as d ≡ false
real_apart d real = ne_eqb 0 d.0 (λ e. omega (arith, real, e))

-- ---- links that differ

abbrev pub Distinct : List Adjacency → Type 0
Distinct [] = Unit {0}
Distinct (x ∷ xs) = (has_adjacency x.lower x.upper xs ≡ false) × Distinct xs

same_flips : (a b : As) → same_as a b ≡ same_as b a
same_flips a b = go (same_as a b) refl
  where
    go : (t : Bool) → same_as a b ≡ t → t ≡ same_as b a
    go true is = sym (ap (λ (z : As). same_as z a) (sym (same_as_is a b is)) ∙ same_self a)
    go false is = sym (same_back a b is)

-- whichever comes first
link_flips : (a b c d : As) → same_link a b c d ≡ same_link c d a b
link_flips a b c d =
    rw (same_flips c a) (rw (same_flips d b) (rw (same_flips c b) (rw (same_flips d a) (go (same_as a c) (same_as b d) (same_as a d) (same_as b c) refl refl refl refl))))
  where
    go : (p q r s : Bool) → same_as a c ≡ p → same_as b d ≡ q → same_as a d ≡ r → same_as b c ≡ s → cond p q (cond r s false) ≡ cond p q (cond s r false)
    go true q r s is is' is'' is''' = refl
    go false q true true is is' is'' is''' = refl
    go false q true false is is' is'' is''' = refl
    go false q false true is is' is'' is''' = refl
    go false q false false is is' is'' is''' = refl

-- either way round
ends_flip : (a b c d : As) → same_link a b c d ≡ true → same_link a b d c ≡ true
ends_flip a b c d e = go (same_as a c) (same_as b d) (same_as a d) (same_as b c) refl refl refl refl e
  where
    go : (p q r s : Bool) → same_as a c ≡ p → same_as b d ≡ q → same_as a d ≡ r → same_as b c ≡ s → cond p q (cond r s false) ≡ true → cond r s (cond p q false) ≡ true
    go true true true true is is' is'' is''' e = refl
    go true true true false is is' is'' is''' e =
        -- a is c and d, and b is d
        let ac = same_as_is a c is in
        let bd = same_as_is b d is' in
        let ad = same_as_is a d is'' in
        let bc : b ≡ c = bd ∙ sym ad ∙ ac in
        absurd (never (same_as b c) is''' (ap (λ (z : As). same_as z c) bc ∙ same_self c))
    go true true false s is is' is'' is''' e = refl
    go true false r s is is' is'' is''' e = absurd (let no : false ≡ true = e in cc)
    go false q true true is is' is'' is''' e = refl
    go false q true false is is' is'' is''' e = absurd (let no : false ≡ true = e in cc)
    go false q false s is is' is'' is''' e = absurd (let no : false ≡ true = e in cc)

pub linked_flips : (a b : As) (xs : List Adjacency) → has_adjacency a b xs ≡ true → has_adjacency b a xs ≡ true
linked_flips a b [] e = e
linked_flips a b (x ∷ xs) e = go (linked_flips a b xs) (same_link x.lower x.upper a b) refl e
  where
    go : (has_adjacency a b xs ≡ true → has_adjacency b a xs ≡ true) → (t : Bool) → same_link x.lower x.upper a b ≡ t → cond t true (has_adjacency a b xs) ≡ true → cond (same_link x.lower x.upper b a) true (has_adjacency b a xs) ≡ true
    go more true is e' = rw (ends_flip x.lower x.upper a b is) refl
    go more false is e' = by (same_link x.lower x.upper b a) (more e')
      where
        by : (t : Bool) → has_adjacency b a xs ≡ true → cond t true (has_adjacency b a xs) ≡ true
        by true there = refl
        by false there = there

has_append : (a b : As) (xs ys : List Adjacency) → has_adjacency a b xs ≡ false → has_adjacency a b ys ≡ false → has_adjacency a b (xs ++ ys) ≡ false
has_append a b [] ys h k = k
has_append a b (x ∷ xs) ys h k = go (λ h'. has_append a b xs ys h' k) (same_link x.lower x.upper a b) refl h
  where
    go : (has_adjacency a b xs ≡ false → has_adjacency a b (xs ++ ys) ≡ false) → (t : Bool) → same_link x.lower x.upper a b ≡ t → cond t true (has_adjacency a b xs) ≡ false → cond (same_link x.lower x.upper a b) true (has_adjacency a b (xs ++ ys)) ≡ false
    go more true is e = absurd (let no : true ≡ false = e in cc)
    go more false is e = rw is (more e)

-- a list has no adjacency where none is the same
abbrev NoneSame : As → As → List Adjacency → Type 0
NoneSame a b [] = Unit {0}
NoneSame a b (x ∷ xs) = (same_link x.lower x.upper a b ≡ false) × NoneSame a b xs

has_none : (a b : As) (xs : List Adjacency) → NoneSame a b xs → has_adjacency a b xs ≡ false
has_none a b [] none = refl
has_none a b (x ∷ xs) none = rw none.0 (has_none a b xs none.1)

none_has : (a b : As) (xs : List Adjacency) → has_adjacency a b xs ≡ false → NoneSame a b xs
none_has a b [] e = tt
none_has a b (x ∷ xs) e = go (none_has a b xs) (same_link x.lower x.upper a b) refl e
  where
    go : (has_adjacency a b xs ≡ false → NoneSame a b xs) → (t : Bool) → same_link x.lower x.upper a b ≡ t → cond t true (has_adjacency a b xs) ≡ false → (same_link x.lower x.upper a b ≡ false) × NoneSame a b xs
    go more true is e' = absurd (let no : true ≡ false = e' in cc)
    go more false is e' = (is, more e')

none_insert : (a b : As) (x : Adjacency) (ys : List Adjacency) → same_link x.lower x.upper a b ≡ false → NoneSame a b ys → NoneSame a b (insert_adjacency x ys)
none_insert a b x [] one none = (one, tt)
none_insert a b x (y ∷ ys) one none = go (before_adjacency x y) (none_insert a b x ys one none.1)
  where
    go : (t : Bool) → NoneSame a b (insert_adjacency x ys) → NoneSame a b (cond t (x ∷ y ∷ ys) (y ∷ insert_adjacency x ys))
    go true more = (one, (none.0, none.1))
    go false more = (none.0, more)

distinct_insert : (x : Adjacency) (ys : List Adjacency) → NoneSame x.lower x.upper ys → Distinct ys → Distinct (insert_adjacency x ys)
distinct_insert x [] none distinct = (refl, tt)
distinct_insert x (y ∷ ys) none distinct = go (before_adjacency x y) (distinct_insert x ys none.1 distinct.1)
  where
    go : (t : Bool) → Distinct (insert_adjacency x ys) → Distinct (cond t (x ∷ y ∷ ys) (y ∷ insert_adjacency x ys))
    go true more = (has_none x.lower x.upper (y ∷ ys) none, distinct)
    go false more =
        (has_none y.lower y.upper (insert_adjacency x ys) (none_insert y.lower y.upper x ys (link_flips x.lower x.upper y.lower y.upper ∙ none.0) (none_has y.lower y.upper ys distinct.0)), more)

distinct_append : (xs ys : List Adjacency) → Distinct xs → Distinct ys → ((x : Adjacency) → has_adjacency x.lower x.upper xs ≡ true → has_adjacency x.lower x.upper ys ≡ false) → Distinct (xs ++ ys)
distinct_append [] ys one other apart = other
distinct_append (x ∷ xs) ys one other apart =
    (has_append x.lower x.upper xs ys one.0 (apart x (rw (same_link_self x) refl)), distinct_append xs ys one.1 other (λ z in'. apart z (go z (same_link x.lower x.upper z.lower z.upper) in')))
  where
    same_link_self : (z : Adjacency) → same_link z.lower z.upper z.lower z.upper ≡ true
    same_link_self z = rw (same_self z.lower) (same_self z.upper)

    go : (z : Adjacency) (t : Bool) → has_adjacency z.lower z.upper xs ≡ true → cond t true (has_adjacency z.lower z.upper xs) ≡ true
    go z true in' = refl
    go z false in' = in'

-- ---- the adjacencies to the children, and those between elements

upward_has : (a b : As) (cs : List As) → has_adjacency a b (upward cs) ≡ true → (a ≡ parent_as) ⊎ (b ≡ parent_as)
upward_has a b [] e = absurd (let no : false ≡ true = e in cc)
upward_has a b (d ∷ ds) e = go (upward_has a b ds) (same_as parent_as a) (same_as d b) (same_as parent_as b) (same_as d a) refl refl e
  where
    go : (has_adjacency a b (upward ds) ≡ true → (a ≡ parent_as) ⊎ (b ≡ parent_as)) → (p q r s : Bool) → same_as parent_as a ≡ p → same_as parent_as b ≡ r → cond (cond p q (cond r s false)) true (has_adjacency a b (upward ds)) ≡ true → (a ≡ parent_as) ⊎ (b ≡ parent_as)
    go more true q r s is is' e' = inl (sym (same_as_is parent_as a is))
    go more false q true s is is' e' = inr (sym (same_as_is parent_as b is'))
    go more false q false s is is' e' = more e'

upward_none : (low : ℕ) (a : As) (cs : List As) → 1 ≤ a.0 → a.0 < low → Rises low cs → has_adjacency parent_as a (upward cs) ≡ false
upward_none low a [] real less rises = refl
upward_none low a (d ∷ ds) real less rises =
    rw (ne_eqb d.0 a.0 (λ e. omega (arith, e, less, rises.0))) (upward_none (suc d.0) a ds real (omega (arith, less, rises.0)) rises.1)

upward_distinct : (low : ℕ) (cs : List As) → 1 ≤ low → Rises low cs → Distinct (upward cs)
upward_distinct low [] one rises = tt
upward_distinct low (d ∷ ds) one rises = (upward_none (suc d.0) d ds (omega (arith, one, rises.0)) (omega arith) rises.1, upward_distinct (suc d.0) ds (omega arith) rises.1)

upward_apart : (low : ℕ) (cs : List As) → 1 ≤ low → Rises low cs → AllApart (upward cs)
upward_apart low [] one rises = tt
upward_apart low (d ∷ ds) one rises = (real_apart d (omega (arith, one, rises.0)), upward_apart (suc d.0) ds (omega arith) rises.1)

-- both ends of each are real
abbrev BothReal : List Adjacency → Type 0
BothReal [] = Unit {0}
BothReal (x ∷ xs) = (1 ≤ x.lower.0) × (1 ≤ x.upper.0) × BothReal xs

real_insert : (x : Adjacency) (ys : List Adjacency) → 1 ≤ x.lower.0 → 1 ≤ x.upper.0 → BothReal ys → BothReal (insert_adjacency x ys)
real_insert x [] low up all = (low, up, tt)
real_insert x (y ∷ ys) low up all = go (before_adjacency x y) (real_insert x ys low up all.2)
  where
    go : (t : Bool) → BothReal (insert_adjacency x ys) → BothReal (cond t (x ∷ y ∷ ys) (y ∷ insert_adjacency x ys))
    go true more = (low, up, all)
    go false more = (all.0, all.1, more)

apart_insert : (x : Adjacency) (ys : List Adjacency) → same_as x.lower x.upper ≡ false → AllApart ys → AllApart (insert_adjacency x ys)
apart_insert x [] one all = (one, tt)
apart_insert x (y ∷ ys) one all = go (before_adjacency x y) (apart_insert x ys one all.1)
  where
    go : (t : Bool) → AllApart (insert_adjacency x ys) → AllApart (cond t (x ∷ y ∷ ys) (y ∷ insert_adjacency x ys))
    go true more = (one, (all.0, all.1))
    go false more = (all.0, more)

apart_append : (xs ys : List Adjacency) → AllApart xs → AllApart ys → AllApart (xs ++ ys)
apart_append [] ys one other = other
apart_append (x ∷ xs) ys one other = (one.0, apart_append xs ys one.1 other)

real_none : (a b : As) (xs : List Adjacency) → (a ≡ parent_as) ⊎ (b ≡ parent_as) → BothReal xs → has_adjacency a b xs ≡ false
real_none a b [] side real = refl
real_none a b (x ∷ xs) side real = go (real_none a b xs side real.2) side (same_as x.lower a) (same_as x.upper b) (same_as x.lower b) (same_as x.upper a) refl refl refl refl
  where
    low : (z : As) → z ≡ parent_as → same_as x.lower z ≡ true → ⊥
    low z is hit = let same = same_as_is x.lower z hit ∙ is in let zero : x.lower.0 ≡ 0 = ap (λ (w : As). w.0) same in omega (arith, zero, real.0)

    high : (z : As) → z ≡ parent_as → same_as x.upper z ≡ true → ⊥
    high z is hit = let same = same_as_is x.upper z hit ∙ is in let zero : x.upper.0 ≡ 0 = ap (λ (w : As). w.0) same in omega (arith, zero, real.1)

    go : has_adjacency a b xs ≡ false → (a ≡ parent_as) ⊎ (b ≡ parent_as) → (p q r s : Bool) → same_as x.lower a ≡ p → same_as x.upper b ≡ q → same_as x.lower b ≡ r → same_as x.upper a ≡ s → cond (cond p q (cond r s false)) true (has_adjacency a b xs) ≡ false
    go more (inl is) true q r s e f g h = absurd (low a is e)
    go more (inr is) true true r s e f g h = absurd (high b is f)
    go more (inr is) true false r s e f g h = more
    go more (inl is) false q true true e f g h = absurd (high a is h)
    go more (inl is) false q true false e f g h = more
    go more (inr is) false q true s e f g h = absurd (low b is g)
    go more (inl is) false q false s e f g h = more
    go more (inr is) false q false s e f g h = more

-- two ends as an adjacency, turned or not
abbrev turned : Bool → As → As → Adjacency
turned t a b = cond {A = Adjacency} t (record { lower = b; upper = a }) (record { lower = a; upper = b })

-- a link of the settings, from its lower end
adjacency_apart : (p : As × As) → p.0 ≢ p.1 → same_as (adjacency p.0 p.1).lower (adjacency p.0 p.1).upper ≡ false
adjacency_apart p apart = go (nat_lt p.1.0 p.0.0)
  where
    differ : (a b : As) → (a ≡ b → ⊥) → same_as a b ≡ false
    differ a b other = elim (cases_Bool (same_as a b)) [ inl hit ↦ absurd (other (same_as_is a b hit)) | inr miss ↦ miss ]

    go : (t : Bool) → same_as (turned t p.0 p.1).lower (turned t p.0 p.1).upper ≡ false
    go true = differ p.1 p.0 (λ e. apart (sym e))
    go false = differ p.0 p.1 apart

-- of its ends a pair is the same, whichever is the lower
adjacency_link : (p : As × As) (a b : As) → same_link (adjacency p.0 p.1).lower (adjacency p.0 p.1).upper a b ≡ true → ((p.0 ≡ a) × (p.1 ≡ b)) ⊎ ((p.0 ≡ b) × (p.1 ≡ a))
adjacency_link p a b = go (nat_lt p.1.0 p.0.0)
  where
    ends : (l u : As) → same_link l u a b ≡ true → ((l ≡ a) × (u ≡ b)) ⊎ ((l ≡ b) × (u ≡ a))
    ends l u = by (same_as l a) (same_as u b) (same_as l b) (same_as u a) refl refl refl refl
      where
        by : (x y z w : Bool) → same_as l a ≡ x → same_as u b ≡ y → same_as l b ≡ z → same_as u a ≡ w → cond x y (cond z w false) ≡ true → ((l ≡ a) × (u ≡ b)) ⊎ ((l ≡ b) × (u ≡ a))
        by true true z w e f g h is = inl (same_as_is l a e, same_as_is u b f)
        by true false z w e f g h is = absurd (let no : false ≡ true = is in cc)
        by false y true true e f g h is = inr (same_as_is l b g, same_as_is u a h)
        by false y true false e f g h is = absurd (let no : false ≡ true = is in cc)
        by false y false w e f g h is = absurd (let no : false ≡ true = is in cc)

    go : (t : Bool) → same_link (turned t p.0 p.1).lower (turned t p.0 p.1).upper a b ≡ true →
        ((p.0 ≡ a) × (p.1 ≡ b)) ⊎ ((p.0 ≡ b) × (p.1 ≡ a))
    go true is = elim (ends p.1 p.0 is) [ inl e ↦ inr (e.1, e.0) | inr e ↦ inl (e.1, e.0) ]
    go false is = ends p.0 p.1 is

abbrev Pair : Type 0
Pair = As × As

abbrev Differ : Pair → Pair → Type 0
Differ p q = ((p.0 ≡ q.0) × (p.1 ≡ q.1) → ⊥) × ((p.0 ≡ q.1) × (p.1 ≡ q.0) → ⊥)

-- one that differs from each of a list
abbrev FromEach : Pair → List Pair → Type 0
FromEach p [] = Unit {0}
FromEach p (q ∷ qs) = Differ p q × FromEach p qs

pairs_head : (p : Pair) (ps : List Pair) → AllPairs Differ (p ∷ ps) → FromEach p ps
pairs_head p ps all = go ps (λ k d below. all 0 (suc k) d (omega arith) (omega (arith, below)))
  where
    go : (qs : List Pair) → ((k : ℕ) (d : Pair) → k < length qs → Differ p (slice_index_or qs k d)) → FromEach p qs
    go [] each = tt
    go (q ∷ qs) each = (each 0 q (omega arith), go qs (λ k d below. each (suc k) d (omega (arith, below))))

pairs_tail : (p : Pair) (ps : List Pair) → AllPairs Differ (p ∷ ps) → AllPairs Differ ps
pairs_tail p ps all = λ i j d less below. all (suc i) (suc j) d (omega (arith, less)) (omega (arith, below))

adjacency_differs : (p q : Pair) → Differ p q → same_link (adjacency q.0 q.1).lower (adjacency q.0 q.1).upper (adjacency p.0 p.1).lower (adjacency p.0 p.1).upper ≡ false
adjacency_differs p q differ = elim (cases_Bool (same_link (adjacency q.0 q.1).lower (adjacency q.0 q.1).upper (adjacency p.0 p.1).lower (adjacency p.0 p.1).upper)) [
  | inr miss ↦ miss
  | inl hit ↦ absurd (go (nat_lt p.1.0 p.0.0) (adjacency_link q (adjacency p.0 p.1).lower (adjacency p.0 p.1).upper hit))
]
  where
    go : (t : Bool) → (let l = turned t p.0 p.1 in ((q.0 ≡ l.lower) × (q.1 ≡ l.upper)) ⊎ ((q.0 ≡ l.upper) × (q.1 ≡ l.lower))) → ⊥
    go true (inl e) = differ.1 (sym e.1, sym e.0)
    go true (inr e) = differ.0 (sym e.0, sym e.1)
    go false (inl e) = differ.0 (sym e.0, sym e.1)
    go false (inr e) = differ.1 (sym e.1, sym e.0)

sorted_none : (p : Pair) (qs : List Pair) → FromEach p qs → NoneSame (adjacency p.0 p.1).lower (adjacency p.0 p.1).upper (sorted qs)
sorted_none p [] each = tt
sorted_none p (q ∷ qs) each = none_insert (adjacency p.0 p.1).lower (adjacency p.0 p.1).upper (adjacency q.0 q.1) (sorted qs) (adjacency_differs p q each.0) (sorted_none p qs each.1)

sorted_distinct : (ps : List Pair) → AllPairs Differ ps → Distinct (sorted ps)
sorted_distinct [] all = tt
sorted_distinct (p ∷ ps) all = distinct_insert (adjacency p.0 p.1) (sorted ps) (sorted_none p ps (pairs_head p ps all)) (sorted_distinct ps (pairs_tail p ps all))

module _ (n : NetworkParts) (net : IsNetwork n) where
  abbrev IsGood : Pair → Type 0
  IsGood p = (is_element n p.0 ≡ true) × (is_element n p.1 ≡ true) × (p.0 ≢ p.1)

  sorted_apart : (ps : List Pair) → All IsGood ps → AllApart (sorted ps)
  sorted_apart [] all = tt
  sorted_apart (p ∷ ps) all = apart_insert (adjacency p.0 p.1) (sorted ps) (adjacency_apart p (All-head IsGood p ps all).2) (sorted_apart ps (All-tail IsGood p ps all))

  sorted_real : (ps : List Pair) → All IsGood ps → BothReal (sorted ps)
  sorted_real [] all = tt
  sorted_real (p ∷ ps) all =
      let good = All-head IsGood p ps all in
      go (sorted_real ps (All-tail IsGood p ps all)) (nat_lt p.1.0 p.0.0) (element_real p.0 n.elements net.elements good.0) (element_real p.1 n.elements net.elements good.1)
    where
      go : BothReal (sorted ps) → (t : Bool) → 1 ≤ p.0.0 → 1 ≤ p.1.0 → BothReal (insert_adjacency (turned t p.0 p.1) (sorted ps))
      go more true one other = real_insert (record { lower = p.1; upper = p.0 }) (sorted ps) other one more
      go more false one other = real_insert (record { lower = p.0; upper = p.1 }) (sorted ps) one other more

  pub adjacencies_apart : AllApart (adjacencies n)
  adjacencies_apart = apart_append (upward (children n)) (sorted n.links) (upward_apart 1 (children n) (omega arith) (children_rise n.elements net.elements)) (sorted_apart n.links net.links)

  pub adjacencies_distinct : Distinct (adjacencies n)
  adjacencies_distinct =
      distinct_append (upward (children n)) (sorted n.links) (upward_distinct 1 (children n) (omega arith) (children_rise n.elements net.elements)) (sorted_distinct n.links net.links_differ)
      (λ x up. real_none x.lower x.upper (sorted n.links) (upward_has x.lower x.upper (children n) up) (sorted_real n.links net.links))

-- ends of a link differ
pub linked_apart : (a b : As) (xs : List Adjacency) → AllApart xs → has_adjacency a b xs ≡ true → same_as a b ≡ false
linked_apart a b [] all e = absurd (let no : false ≡ true = e in cc)
linked_apart a b (x ∷ xs) all e = go (linked_apart a b xs all.1) (same_as x.lower a) (same_as x.upper b) (same_as x.lower b) (same_as x.upper a) refl refl refl refl e
  where
    go : (has_adjacency a b xs ≡ true → same_as a b ≡ false) → (p q r s : Bool) → same_as x.lower a ≡ p → same_as x.upper b ≡ q → same_as x.lower b ≡ r → same_as x.upper a ≡ s → cond (cond p q (cond r s false)) true (has_adjacency a b xs) ≡ true → same_as a b ≡ false
    go more true true r s e f g h is =
        subst (λ (z : As). same_as z b ≡ false) (same_as_is x.lower a e) (subst (λ (z : As). same_as x.lower z ≡ false) (same_as_is x.upper b f) all.0)
    go more true false r s e f g h is = more is
    go more false q true true e f g h is =
        same_back b a (subst (λ (z : As). same_as z a ≡ false) (same_as_is x.lower b g) (subst (λ (z : As). same_as x.lower z ≡ false) (same_as_is x.upper a h) all.0))
    go more false q true false e f g h is = more is
    go more false q false s e f g h is = more is

pub adjacency_ends_apart : (a b : As) → same_as a b ≡ false → same_as (adjacency a b).lower (adjacency a b).upper ≡ false
adjacency_ends_apart a b apart = go (nat_lt b.0 a.0)
  where
    go : (t : Bool) → same_as (turned t a b).lower (turned t a b).upper ≡ false
    go true = same_back a b apart
    go false = apart
