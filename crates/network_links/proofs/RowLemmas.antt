-- A row of links, where one of them changes at one end or at both.
use Rattle.std.proofs.Common.{◌≡◌, ℕ, zero, suc, Bool, true, false, cond, Some, None, List, [], ◌∷◌, get_or, set, arith, refl, sym, ◌∙◌, ap, subst, inl, inr}
use mathlib.Core.Path.{fun_ext}
use Rattle.std.specs.Prelude.{◌⊎◌, slice_get}
use Rattle.std.proofs.lemmas.Option.{get_or_from_slice_get}
use Rattle.std.proofs.lemmas.Bool.{false≢true}
use Rattle.plant_model.specs.Types.{As}
use Rattle.plant_text.specs.Names.{same_as, same_link}
use Rattle.plant_text.specs.Settings.{Adjacency, has_adjacency}
use Rattle.plant_model.specs.Names.{set_pair}
use Rattle.network_links.specs.declared.link.End.{End}
use Rattle.network_links.specs.declared.link.End.TheVariants.{Lower, Upper}
use Rattle.network_links.specs.Links.{Joined, at_end, set_end}
use Rattle.network_links.specs.Sides.{Side, Row, row_of, set_side, no_side, Empties, link_at, end_of, side_or, side_at, adjacencies_in, IsFirst, IsPlace, EndChanges, BothChange, SideChanges, BothSidesChange}
use Rattle.network_links.proofs.SideLemmas.{one_as, no_way, eqb-refl, in_order, turned, as_is, twice, first_between, first_link, sides_after}

-- ---- maps by two names

pub pair_here : {A : Type 0} → (a b : As) (v : A) (f : As → As → A) → set_pair a b v f a b ≡ v
pair_here a b v f = ap (λ (t : Bool). cond t (cond (same_as b b) v (f a b)) (f a b)) (eqb-refl a.0) ∙ ap (λ (t : Bool). cond t v (f a b)) (eqb-refl b.0)

-- a value written where it stands
pub pair_same : {A : Type 0} → (a b : As) (v : A) (f : As → As → A) → v ≡ f a b → set_pair a b v f ≡ f
pair_same {A} a b v f is = fun_ext (λ c. fun_ext (λ d. go c d (same_as a c) refl (same_as b d) refl))
  where
    go : (c d : As) (p : Bool) → same_as a c ≡ p → (q : Bool) → same_as b d ≡ q → cond p (cond q v (f c d)) (f c d) ≡ f c d
    go c d true left true right = is ∙ ap (λ (x : As). f x b) (one_as a c left) ∙ ap (f c) (one_as b d right)
    go c d true left false right = refl
    go c d false left q right = refl

-- a field of each value
pub pair_field : {A : Type 0} {B : Type 0} → (g : A → B) (a b : As) (v : A) (f : As → As → A) → (λ (c d : As). g (set_pair a b v f c d)) ≡ set_pair a b (g v) (λ (c d : As). g (f c d))
pair_field {A} {B} g a b v f = fun_ext (λ c. fun_ext (λ d. go c d (same_as a c) (same_as b d)))
  where
    go : (c d : As) (p q : Bool) → g (cond p (cond q v (f c d)) (f c d)) ≡ cond p (cond q (g v) (g (f c d))) (g (f c d))
    go c d true true = refl
    go c d true false = refl
    go c d false q = refl

-- ---- what stands at an end

pub set_there : (e : End) (s : Side) (x : Joined) → at_end e (set_end e s x) ≡ s
set_there Lower s x = refl
set_there Upper s x = refl

set_adjacency : (e : End) (s : Side) (x : Joined) → (set_end e s x).adjacency ≡ x.adjacency
set_adjacency Lower s x = refl
set_adjacency Upper s x = refl

pub side_here : (a b : As) (i : ℕ) (e : End) (xs : List Joined) → (p : IsPlace a b i e xs) → side_at xs a b ≡ at_end e p.link
side_here a b i e xs p = ap (side_or a) (first_link a b i xs p.link p.first p.found) ∙ ap (λ (x : End). at_end x p.link) (sym p.end)

between_back : (l u a b : As) → same_link l u a b ≡ true → same_link l u b a ≡ true
between_back l u a b is = go (in_order l u a b is)
  where
    go : ((l ≡ a) × (u ≡ b)) ⊎ ((l ≡ b) × (u ≡ a)) → same_link l u b a ≡ true
    go (inl y) = rw (sym y.0, sym y.1) (turned l u)
    go (inr y) = rw (sym y.0, sym y.1) (as_is l u)

not_back : (l u a b : As) → same_link l u a b ≡ false → same_link l u b a ≡ false
not_back l u a b differs = go (same_link l u b a) refl
  where
    go : (t : Bool) → same_link l u b a ≡ t → t ≡ false
    go false is = refl
    go true is = absurd (false≢true (sym differs ∙ between_back l u b a is))

pub back_first : (a b : As) (i : ℕ) (xs : List Joined) → IsFirst a b i xs → IsFirst b a i xs
back_first a b i [] first = absurd first
back_first a b zero (x ∷ xs) first = between_back x.adjacency.lower x.adjacency.upper a b first
back_first a b (suc i) (x ∷ xs) first = (not_back x.adjacency.lower x.adjacency.upper a b first.0, back_first a b i xs first.1)

-- the same link, from its other end
abbrev pub back_place : (a b : As) (i : ℕ) (e : End) (xs : List Joined) → (p : IsPlace a b i e xs) → IsPlace b a i (end_of b p.link.adjacency) xs
back_place a b i e xs p = record { link = p.link; first = back_first a b i xs p.first; found = p.found; end = refl }

adjacencies_set : (i : ℕ) (xs : List Joined) (x y : Joined) → slice_get xs i ≡ Some x → y.adjacency ≡ x.adjacency → adjacencies_in (set xs i y) ≡ adjacencies_in xs
adjacencies_set i [] x y found adjacency = refl
adjacencies_set zero (z ∷ xs) x y found adjacency = ap (λ (l : Adjacency). l ∷ adjacencies_in xs) (adjacency ∙ ap (λ (w : Joined). w.adjacency) (sym (one z x found)))
  where
    one : (v w : Joined) → Some v ≡ Some w → v ≡ w
    one v w is = cc
adjacencies_set (suc i) (z ∷ xs) x y found adjacency = ap (λ (ls : List Adjacency). z.adjacency ∷ ls) (adjacencies_set i xs x y found adjacency)

-- ---- one link changes

-- the other end of a link between two different ends
other_end : (a b : As) (l : Adjacency) (x : Joined) (s : Side) → same_link l.lower l.upper a b ≡ true → (a ≡ b → ⊥) → at_end (end_of b l) (set_end (end_of a l) s x) ≡ at_end (end_of b l) x
other_end a b l x s is differ = go (same_as l.lower a) refl (same_as l.lower b) refl
  where
    go : (p : Bool) → same_as l.lower a ≡ p → (q : Bool) → same_as l.lower b ≡ q → at_end (cond q Lower Upper) (set_end (cond p Lower Upper) s x) ≡ at_end (cond q Lower Upper) x
    go true left true right = absurd (differ (sym (one_as l.lower a left) ∙ one_as l.lower b right))
    go true left false right = refl
    go false left true right = refl
    go false left false right = absurd (neither (in_order l.lower l.upper a b is))
      where
        neither : ((l.lower ≡ a) × (l.upper ≡ b)) ⊎ ((l.lower ≡ b) × (l.upper ≡ a)) → ⊥
        neither (inl y) = no_way l.lower a left y.0
        neither (inr y) = no_way l.lower b right y.0

module _ (a b : As) (i : ℕ) (xs : List Joined) (x y : Joined) (first : IsFirst a b i xs) (found : slice_get xs i ≡ Some x) (adjacency : y.adjacency ≡ x.adjacency) where
  is_between : same_link x.adjacency.lower x.adjacency.upper a b ≡ true
  is_between = first_between a b i xs x first found

  abbrev one : As → Side
  one c = at_end (end_of c x.adjacency) y

  abbrev sent : As → As → Side
  sent = side_at xs

  after : (c d : As) → side_at (set xs i y) c d ≡ cond (same_link x.adjacency.lower x.adjacency.upper c d) (at_end (end_of c x.adjacency) y) (side_at xs c d)
  after c d = sides_after a b y c d i xs x first found adjacency

  -- between two other ends nothing changes
  elsewhere : (c d : As) → (((a ≡ c) × (b ≡ d)) ⊎ ((b ≡ c) × (a ≡ d)) → ⊥) → side_at (set xs i y) c d ≡ side_at xs c d
  elsewhere c d other = after c d ∙ go (same_link x.adjacency.lower x.adjacency.upper c d) refl
    where
      go : (t : Bool) → same_link x.adjacency.lower x.adjacency.upper c d ≡ t → cond t (at_end (end_of c x.adjacency) y) (side_at xs c d) ≡ side_at xs c d
      go true is = absurd (other (twice x.adjacency.lower x.adjacency.upper a b c d is_between is))
      go false is = refl

  there : (c d : As) → ((a ≡ c) × (b ≡ d)) ⊎ ((b ≡ c) × (a ≡ d)) → side_at (set xs i y) c d ≡ at_end (end_of c x.adjacency) y
  there c d same = after c d ∙ ap (λ (t : Bool). cond t (at_end (end_of c x.adjacency) y) (side_at xs c d)) (go same)
    where
      go : ((a ≡ c) × (b ≡ d)) ⊎ ((b ≡ c) × (a ≡ d)) → same_link x.adjacency.lower x.adjacency.upper c d ≡ true
      go (inl z) = rw (sym z.0, sym z.1) is_between
      go (inr z) = rw (sym z.0, sym z.1) (first_between b a i xs x (back_first a b i xs first) found)

  pub two_sides : side_at (set xs i y) ≡ set_pair a b (at_end (end_of a x.adjacency) y) (set_pair b a (at_end (end_of b x.adjacency) y) (side_at xs))
  two_sides = fun_ext (λ c. fun_ext (λ d. go c d (same_as a c) refl (same_as b d) refl (same_as b c) refl (same_as a d) refl))
    where
      go : (c d : As) (p : Bool) → same_as a c ≡ p → (q : Bool) → same_as b d ≡ q → (r : Bool) → same_as b c ≡ r → (t : Bool) → same_as a d ≡ t →
          side_at (set xs i y) c d ≡ cond p (cond q (one a) (cond r (cond t (one b) (sent c d)) (sent c d))) (cond r (cond t (one b) (sent c d)) (sent c d))
      go c d true ac true bd r bc t ad = there c d (inl (one_as a c ac, one_as b d bd)) ∙ ap one (sym (one_as a c ac))
      go c d true ac false bd true bc true ad = there c d (inr (one_as b c bc, one_as a d ad)) ∙ ap one (sym (one_as b c bc))
      go c d true ac false bd true bc false ad = elsewhere c d none
        where
          none : ((a ≡ c) × (b ≡ d)) ⊎ ((b ≡ c) × (a ≡ d)) → ⊥
          none (inl z) = no_way b d bd z.1
          none (inr z) = no_way a d ad z.1
      go c d true ac false bd false bc t ad = elsewhere c d none
        where
          none : ((a ≡ c) × (b ≡ d)) ⊎ ((b ≡ c) × (a ≡ d)) → ⊥
          none (inl z) = no_way b d bd z.1
          none (inr z) = no_way b c bc z.0
      go c d false ac q bd true bc true ad = there c d (inr (one_as b c bc, one_as a d ad)) ∙ ap one (sym (one_as b c bc))
      go c d false ac q bd true bc false ad = elsewhere c d none
        where
          none : ((a ≡ c) × (b ≡ d)) ⊎ ((b ≡ c) × (a ≡ d)) → ⊥
          none (inl z) = no_way a c ac z.0
          none (inr z) = no_way a d ad z.1
      go c d false ac q bd false bc t ad = elsewhere c d none
        where
          none : ((a ≡ c) × (b ≡ d)) ⊎ ((b ≡ c) × (a ≡ d)) → ⊥
          none (inl z) = no_way a c ac z.0
          none (inr z) = no_way b c bc z.0

pair_twice : {A : Type 0} → (a : As) (v w : A) (f : As → As → A) → set_pair a a v (set_pair a a w f) ≡ set_pair a a v f
pair_twice {A} a v w f = fun_ext (λ c. fun_ext (λ d. go (f c d) (same_as a c) (same_as a d)))
  where
    go : (u : A) (p q : Bool) → cond p (cond q v (cond p (cond q w u) u)) (cond p (cond q w u) u) ≡ cond p (cond q v u) u
    go u true true = refl
    go u true false = refl
    go u false q = refl

-- one end of it
one_side : (a b : As) (i : ℕ) (xs : List Joined) (x y : Joined) (s : Side) → IsFirst a b i xs → slice_get xs i ≡ Some x → y ≡ set_end (end_of a x.adjacency) s x → side_at (set xs i y) ≡ set_pair a b s (side_at xs)
one_side a b i xs x y s first found is = go (same_as a b) refl
  where
    adjacency : y.adjacency ≡ x.adjacency
    adjacency = ap (λ (z : Joined). z.adjacency) is ∙ set_adjacency (end_of a x.adjacency) s x

    here : at_end (end_of a x.adjacency) y ≡ s
    here = ap (λ (z : Joined). at_end (end_of a x.adjacency) z) is ∙ set_there (end_of a x.adjacency) s x

    both : side_at (set xs i y) ≡ set_pair a b s (set_pair b a (at_end (end_of b x.adjacency) y) (side_at xs))
    both = two_sides a b i xs x y first found adjacency ∙ ap (λ (v : Side). set_pair a b v (set_pair b a (at_end (end_of b x.adjacency) y) (side_at xs))) here

    go : (t : Bool) → same_as a b ≡ t → side_at (set xs i y) ≡ set_pair a b s (side_at xs)
    go true same = both ∙ subst (λ (c : As). set_pair a c s (set_pair c a (at_end (end_of b x.adjacency) y) (side_at xs)) ≡ set_pair a c s (side_at xs)) (one_as a b same) (pair_twice a s (at_end (end_of b x.adjacency) y) (side_at xs))
    go false same = both ∙ ap (set_pair a b s) (pair_same b a (at_end (end_of b x.adjacency) y) (side_at xs) (unchanged ∙ sym there_now))
      where
        there_now : side_at xs b a ≡ at_end (end_of b x.adjacency) x
        there_now = ap (side_or b) (first_link b a i xs x (back_first a b i xs first) found)

        unchanged : at_end (end_of b x.adjacency) y ≡ at_end (end_of b x.adjacency) x
        unchanged = ap (λ (z : Joined). at_end (end_of b x.adjacency) z) is ∙ other_end a b x.adjacency x s (first_between a b i xs x first found) (no_way a b same)

-- a row of which a link is written where it stood
module _ (a b : As) (i : ℕ) (e : End) (so : Side → Side → Type 0) (xs : List Joined) (y : Joined) (p : IsPlace a b i e xs) where
  abbrev ys : List Joined
  ys = set xs i y

  -- it changes at one end
  end_changes : EndChanges e so p.link y → SideChanges a b so (row_of xs) (row_of ys)
  end_changes h = record { rest = rest; does = does }
    where
      is : y ≡ set_end (end_of a p.link.adjacency) (at_end e y) p.link
      is = h.rest ∙ ap (λ (f : End). set_end f (at_end e y) p.link) p.end

      adjacency : y.adjacency ≡ p.link.adjacency
      adjacency = ap (λ (z : Joined). z.adjacency) is ∙ set_adjacency (end_of a p.link.adjacency) (at_end e y) p.link

      sides : side_at ys ≡ set_pair a b (at_end e y) (side_at xs)
      sides = one_side a b i xs p.link y (at_end e y) p.first p.found is

      here : side_at ys a b ≡ at_end e y
      here = ap (λ (f : As → As → Side). f a b) sides ∙ pair_here a b (at_end e y) (side_at xs)

      rest : row_of ys ≡ set_side a b (side_at ys a b) (row_of xs)
      rest =
          ap (λ (ls : List Adjacency). let r : Row = record { adjacencies = ls; sides = side_at ys } in r) (adjacencies_set i xs p.link y p.found adjacency)
          ∙ ap (λ (f : As → As → Side). let r : Row = record { adjacencies = adjacencies_in xs; sides = f } in r) (sides ∙ ap (λ (v : Side). set_pair a b v (side_at xs)) (sym here))

      does : so (side_at xs a b) (side_at ys a b)
      does =
          subst (λ (v : Side). so v (side_at ys a b)) (sym (side_here a b i e xs p))
          (subst (λ (v : Side). so (at_end e p.link) v) (sym here) h.does)

  at_each : (f : End) → BothChange so p.link y → so (at_end f p.link) (at_end f y)
  at_each Lower h = h.lower
  at_each Upper h = h.upper

  -- it changes at both ends
  link_changes : BothChange so p.link y → BothSidesChange a b so (row_of xs) (row_of ys)
  link_changes h = record { rest = rest; here = does a b e p.end here (side_here a b i e xs p); there = does b a (end_of b p.link.adjacency) refl there' (side_here b a i (end_of b p.link.adjacency) xs (back_place a b i e xs p)) }
    where
      sides : side_at ys ≡ set_pair a b (at_end (end_of a p.link.adjacency) y) (set_pair b a (at_end (end_of b p.link.adjacency) y) (side_at xs))
      sides = two_sides a b i xs p.link y p.first p.found h.adjacency

      here : side_at ys a b ≡ at_end (end_of a p.link.adjacency) y
      here = ap (λ (f : As → As → Side). f a b) sides ∙ pair_here a b (at_end (end_of a p.link.adjacency) y) (set_pair b a (at_end (end_of b p.link.adjacency) y) (side_at xs))

      there' : side_at ys b a ≡ at_end (end_of b p.link.adjacency) y
      there' = there a b i xs p.link y p.first p.found h.adjacency b a (inr (refl, refl))

      does : (c d : As) (f : End) → f ≡ end_of c p.link.adjacency → side_at ys c d ≡ at_end (end_of c p.link.adjacency) y → side_at xs c d ≡ at_end f p.link → so (side_at xs c d) (side_at ys c d)
      does c d f f_is now before =
          subst (λ (v : Side). so v (side_at ys c d)) (sym before)
          (subst (λ (v : Side). so (at_end f p.link) v) (ap (λ (g : End). at_end g y) f_is ∙ sym now) (at_each f h))

      rest : row_of ys ≡ set_side a b (side_at ys a b) (set_side b a (side_at ys b a) (row_of xs))
      rest =
          ap (λ (ls : List Adjacency). let r : Row = record { adjacencies = ls; sides = side_at ys } in r) (adjacencies_set i xs p.link y p.found h.adjacency)
          ∙ ap (λ (f : As → As → Side). let r : Row = record { adjacencies = adjacencies_in xs; sides = f } in r)
          (sides ∙ ap (λ (v : Side). set_pair a b v (set_pair b a (at_end (end_of b p.link.adjacency) y) (side_at xs))) (sym here) ∙ ap (λ (v : Side). set_pair a b (side_at ys a b) (set_pair b a v (side_at xs))) (sym there'))

-- ---- there is no link

some_none : (x : Joined) → Some x ≡ None → ⊥
some_none x is = cc

pub no_adjacency : (a b : As) (xs : List Joined) → link_at a b xs ≡ None → has_adjacency a b (adjacencies_in xs) ≡ false
no_adjacency a b [] none = refl
no_adjacency a b (x ∷ xs) none = go (λ is. no_adjacency a b xs is) (same_link x.adjacency.lower x.adjacency.upper a b) none
  where
    go : (link_at a b xs ≡ None → has_adjacency a b (adjacencies_in xs) ≡ false) → (t : Bool) → cond t (Some x) (link_at a b xs) ≡ None → cond t true (has_adjacency a b (adjacencies_in xs)) ≡ false
    go rest true is = absurd (some_none x is)
    go rest false is = rest is

pub some_adjacency : (a b : As) (i : ℕ) (xs : List Joined) → IsFirst a b i xs → has_adjacency a b (adjacencies_in xs) ≡ true
some_adjacency a b i [] first = absurd first
some_adjacency a b zero (x ∷ xs) first = ap (λ (t : Bool). cond t true (has_adjacency a b (adjacencies_in xs))) first
some_adjacency a b (suc i) (x ∷ xs) first = ap (λ (t : Bool). cond t true (has_adjacency a b (adjacencies_in xs))) first.0 ∙ some_adjacency a b i xs first.1

pub no_side_there : (a b : As) (xs : List Joined) → link_at a b xs ≡ None → side_at xs a b ≡ no_side
no_side_there a b xs none = ap (side_or a) none

-- nothing changes
pub row_same : (a b : As) (r : Row) → r ≡ set_side a b (r.sides a b) r
row_same a b r = ap (λ (f : As → As → Side). let s : Row = record { adjacencies = r.adjacencies; sides = f } in s) (sym (pair_same a b (r.sides a b) r.sides refl))

-- ---- a row as a call finds it

module _ (a b : As) (i : ℕ) (e : End) (found items old : List Joined) (is_found : found ≡ items) (is_old : items ≡ old) where
  place_in : IsPlace a b i e found → IsPlace a b i e items
  place_in p = subst (λ (xs : List Joined). IsPlace a b i e xs) is_found p

  -- what is read there is the link
  link_is : (q : IsPlace a b i e items) (x : Joined) → x ≡ get_or items i x → x ≡ q.link
  link_is q x is = is ∙ get_or_from_slice_get items i q.link x q.found

  -- what stands at an end
  pub read_side : IsPlace a b i e found → (x : Joined) → x ≡ get_or items i x → side_at old a b ≡ at_end e x
  read_side p x is =
      let q = place_in p in
      sym (ap (λ (xs : List Joined). side_at xs a b) is_old) ∙ side_here a b i e items q ∙ ap (at_end e) (sym (link_is q x is))

  pub changes_there : (so : Side → Side → Type 0) → IsPlace a b i e found → (x y : Joined) → x ≡ get_or items i x → EndChanges e so x y → SideChanges a b so (row_of old) (row_of (set items i y))
  changes_there so p x y is h =
      let q = place_in p in
      subst (λ (xs : List Joined). SideChanges a b so (row_of xs) (row_of (set items i y))) is_old
      (end_changes a b i e so items y q (subst (λ (z : Joined). EndChanges e so z y) (link_is q x is) h))

  pub sets_there : (f : Side → Side) → IsPlace a b i e found → (x y : Joined) → x ≡ get_or items i x → y ≡ set_end e (f (at_end e x)) x → row_of (set items i y) ≡ set_side a b (f (side_at old a b)) (row_of old)
  sets_there f p x y is h =
      let there : at_end e y ≡ f (at_end e x) = ap (at_end e) h ∙ set_there e (f (at_end e x)) x in
      let all = changes_there (λ (s t : Side). t ≡ f s) p x y is (record { rest = h ∙ ap (λ (s : Side). set_end e s x) (sym there); does = there }) in
      all.rest ∙ ap (λ (s : Side). set_side a b s (row_of old)) all.does

  pub both_there : (so : Side → Side → Type 0) → IsPlace a b i e found → (x y : Joined) → x ≡ get_or items i x → BothChange so x y → BothSidesChange a b so (row_of old) (row_of (set items i y))
  both_there so p x y is h =
      let q = place_in p in
      subst (λ (xs : List Joined). BothSidesChange a b so (row_of xs) (row_of (set items i y))) is_old
      (link_changes a b i e so items y q (subst (λ (z : Joined). BothChange so z y) (link_is q x is) h))

  pub adjacency_there : IsPlace a b i e found → true ≡ has_adjacency a b (adjacencies_in old)
  adjacency_there p = sym (sym (ap (λ (xs : List Joined). has_adjacency a b (adjacencies_in xs)) is_old) ∙ some_adjacency a b i items (place_in p).first)

none_back : (a b : As) (xs : List Joined) → link_at a b xs ≡ None → link_at b a xs ≡ None
none_back a b [] none = refl
none_back a b (x ∷ xs) none = go (λ is. none_back a b xs is) (same_link x.adjacency.lower x.adjacency.upper a b) refl none
  where
    go : (link_at a b xs ≡ None → link_at b a xs ≡ None) → (t : Bool) → same_link x.adjacency.lower x.adjacency.upper a b ≡ t → cond t (Some x) (link_at a b xs) ≡ None → cond (same_link x.adjacency.lower x.adjacency.upper b a) (Some x) (link_at b a xs) ≡ None
    go rest true at is = absurd (some_none x is)
    go rest false at is = ap (λ (t : Bool). cond t (Some x) (link_at b a xs)) (not_back x.adjacency.lower x.adjacency.upper a b at) ∙ rest is

module _ (a b : As) (found items old : List Joined) (is_found : found ≡ items) (is_old : items ≡ old) (none : link_at a b found ≡ None) where
  none_old : link_at a b old ≡ None
  none_old = sym (ap (link_at a b) (is_found ∙ is_old)) ∙ none

  pub no_adjacency_there : false ≡ has_adjacency a b (adjacencies_in old)
  no_adjacency_there = sym (no_adjacency a b old none_old)

  pub no_side_at : side_at old a b ≡ no_side
  no_side_at = no_side_there a b old none_old

  pub no_back_side_at : side_at old b a ≡ no_side
  no_back_side_at = no_side_there b a old (none_back a b old none_old)

-- nothing is there to be emptied
pub nothing_empties : (a b : As) (old : List Joined) → side_at old a b ≡ no_side → side_at old b a ≡ no_side → BothSidesChange a b Empties (row_of old) (row_of old)
nothing_empties a b old here there' = record {
  rest = row_same a b (row_of old) ∙ ap (set_side a b (side_at old a b)) (row_same b a (row_of old));
  here = empties (side_at old a b) here;
  there = empties (side_at old b a) there';
}
  where
    empties : (s : Side) → s ≡ no_side → Empties s s
    empties s is = subst (λ (t : Side). Empties t t) (sym is) (record { kept = refl; room = record { messages = omega arith; bytes = omega arith } })
