-- What each end sends to the other, where one link of a row changes.
use Rattle.std.proofs.Common.{◌≡◌, ◌==◌, ℕ, zero, suc, Bool, true, false, cond, Option, Some, List, [], ◌∷◌, set, refl, sym, ◌∙◌, ap, inl, inr}
use Rattle.std.specs.Prelude.{◌⊎◌, slice_get}
use Rattle.std.proofs.lemmas.Bool.{eqb-true, eqb-false, false≢true}
use Rattle.plant_model.specs.Types.{As}
use Rattle.plant_text.specs.Names.{same_as, same_link}
use Rattle.plant_text.specs.Settings.{Adjacency}
use Rattle.network_links.specs.Links.{Joined, at_end}
use Rattle.network_links.specs.Sides.{link_at, end_of, side_or, side_at, IsFirst}

-- ---- the ends of a link

pub eqb-refl : (n : ℕ) → (n == n) ≡ true
eqb-refl n = go (n == n) refl
  where
    go : (b : Bool) → (n == n) ≡ b → b ≡ true
    go true is = refl
    go false is = absurd (eqb-false n n is refl)

pub one_as : (a b : As) → same_as a b ≡ true → a ≡ b
one_as a b is = ap (λ (n : ℕ). let x : As = record { 0 = n } in x) (eqb-true a.0 b.0 is)

pub no_way : (a b : As) → same_as a b ≡ false → a ≡ b → ⊥
no_way a b not_same same = false≢true (sym not_same ∙ ap (λ (x : As). same_as a x) (sym same) ∙ eqb-refl a.0)

-- a link between two ends has them in either order
pub in_order : (l u a b : As) → same_link l u a b ≡ true → ((l ≡ a) × (u ≡ b)) ⊎ ((l ≡ b) × (u ≡ a))
in_order l u a b is = go (same_as l a) refl (same_as l b) refl is
  where
    go : (p : Bool) → same_as l a ≡ p → (q : Bool) → same_as l b ≡ q → cond p (same_as u b) (cond q (same_as u a) false) ≡ true → ((l ≡ a) × (u ≡ b)) ⊎ ((l ≡ b) × (u ≡ a))
    go true left q right is' = inl (one_as l a left, one_as u b is')
    go false left true right is' = inr (one_as l b right, one_as u a is')
    go false left false right is' = absurd (false≢true is')

pub as_is : (l u : As) → same_link l u l u ≡ true
as_is l u = rw (eqb-refl l.0, eqb-refl u.0) refl

pub turned : (l u : As) → same_link l u u l ≡ true
turned l u = go (same_as l u) refl
  where
    go : (p : Bool) → same_as l u ≡ p → cond p (same_as u l) (cond (same_as l l) (same_as u u) false) ≡ true
    go true is = ap (λ (x : As). same_as u x) (one_as l u is) ∙ eqb-refl u.0
    go false is = rw (eqb-refl l.0, eqb-refl u.0) refl

-- two ends of one link, twice, are the same ends in either order
pub twice : (l u a b c d : As) → same_link l u a b ≡ true → same_link l u c d ≡ true → ((a ≡ c) × (b ≡ d)) ⊎ ((b ≡ c) × (a ≡ d))
twice l u a b c d is also_is = go (in_order l u a b is) (in_order l u c d also_is)
  where
    go : ((l ≡ a) × (u ≡ b)) ⊎ ((l ≡ b) × (u ≡ a)) → ((l ≡ c) × (u ≡ d)) ⊎ ((l ≡ d) × (u ≡ c)) → ((a ≡ c) × (b ≡ d)) ⊎ ((b ≡ c) × (a ≡ d))
    go (inl x) (inl y) = inl (sym x.0 ∙ y.0, sym x.1 ∙ y.1)
    go (inl x) (inr y) = inr (sym x.1 ∙ y.1, sym x.0 ∙ y.0)
    go (inr x) (inl y) = inr (sym x.0 ∙ y.0, sym x.1 ∙ y.1)
    go (inr x) (inr y) = inl (sym x.1 ∙ y.1, sym x.0 ∙ y.0)

-- the same ends, of another link
same_ends : (l u a b c d : As) → ((a ≡ c) × (b ≡ d)) ⊎ ((b ≡ c) × (a ≡ d)) → same_link l u c d ≡ true → same_link l u a b ≡ true
same_ends l u a b c d (inl x) is = rw (x.0, x.1) is
same_ends l u a b c d (inr x) is = rw (x.0, x.1) (go (in_order l u c d is))
  where
    go : ((l ≡ c) × (u ≡ d)) ⊎ ((l ≡ d) × (u ≡ c)) → same_link l u d c ≡ true
    go (inl y) = rw (sym y.0, sym y.1) (turned l u)
    go (inr y) = rw (sym y.0, sym y.1) (as_is l u)

-- a link between these ends is not between those
not_both : (l u m v a b c d : As) → same_link l u a b ≡ true → same_link m v a b ≡ false → same_link m v c d ≡ true → same_link l u c d ≡ false
not_both l u m v a b c d is no' also_is = go (same_link l u c d) refl
  where
    go : (t : Bool) → same_link l u c d ≡ t → t ≡ false
    go false eq = refl
    go true eq = absurd (false≢true (sym no' ∙ same_ends m v a b c d (twice l u a b c d is eq) also_is))

-- ---- a link and its place

one_joined : (x y : Joined) → Some x ≡ Some y → x ≡ y
one_joined x y is = cc

pub first_between : (a b : As) (i : ℕ) (xs : List Joined) (x : Joined) → IsFirst a b i xs → slice_get xs i ≡ Some x → same_link x.adjacency.lower x.adjacency.upper a b ≡ true
first_between a b i [] x first found = absurd first
first_between a b zero (y ∷ xs) x first found = ap (λ (z : Joined). same_link z.adjacency.lower z.adjacency.upper a b) (sym (one_joined y x found)) ∙ first
first_between a b (suc i) (y ∷ xs) x first found = first_between a b i xs x first.1 found

pub first_link : (a b : As) (i : ℕ) (xs : List Joined) (x : Joined) → IsFirst a b i xs → slice_get xs i ≡ Some x → link_at a b xs ≡ Some x
first_link a b i [] x first found = absurd first
first_link a b zero (y ∷ xs) x first found = ap (λ (t : Bool). cond t (Some y) (link_at a b xs)) first ∙ found
first_link a b (suc i) (y ∷ xs) x first found = ap (λ (t : Bool). cond t (Some y) (link_at a b xs)) first.0 ∙ first_link a b i xs x first.1 found

-- ---- one link changes, between the same ends

module _ (a b : As) (y : Joined) (c d : As) where
  after_here : (l : Adjacency) (x : Joined) (rest : Option Joined) → y.adjacency ≡ l → x.adjacency ≡ l → (t : Bool) → same_link l.lower l.upper c d ≡ t →
      side_or c (cond (same_link y.adjacency.lower y.adjacency.upper c d) (Some y) rest) ≡ cond t (at_end (end_of c l) y) (side_or c (cond (same_link x.adjacency.lower x.adjacency.upper c d) (Some x) rest))
  after_here l x rest is_y is_x true is =
      ap (λ (m : Adjacency). side_or c (cond (same_link m.lower m.upper c d) (Some y) rest)) is_y ∙ ap (λ (t : Bool). side_or c (cond t (Some y) rest)) is ∙ ap (λ (m : Adjacency). at_end (end_of c m) y) is_y
  after_here l x rest is_y is_x false is =
      ap (λ (m : Adjacency). side_or c (cond (same_link m.lower m.upper c d) (Some y) rest)) is_y ∙ ap (λ (t : Bool). side_or c (cond t (Some y) rest)) is
      ∙ sym (ap (λ (m : Adjacency). side_or c (cond (same_link m.lower m.upper c d) (Some x) rest)) is_x ∙ ap (λ (t : Bool). side_or c (cond t (Some x) rest)) is)

  -- what is sent between two ends afterwards
  pub sides_after : (i : ℕ) (xs : List Joined) (x : Joined) → IsFirst a b i xs → slice_get xs i ≡ Some x → y.adjacency ≡ x.adjacency →
      side_at (set xs i y) c d ≡ cond (same_link x.adjacency.lower x.adjacency.upper c d) (at_end (end_of c x.adjacency) y) (side_at xs c d)
  sides_after i [] x first found adjacency = absurd first
  sides_after zero (z ∷ xs) x first found adjacency = after_here x.adjacency z (link_at c d xs) adjacency (ap (λ (w : Joined). w.adjacency) (one_joined z x found)) (same_link x.adjacency.lower x.adjacency.upper c d) refl
  sides_after (suc i) (z ∷ xs) x first found adjacency = go (sides_after i xs x first.1 found adjacency) (same_link z.adjacency.lower z.adjacency.upper c d) refl
    where
      go : side_at (set xs i y) c d ≡ cond (same_link x.adjacency.lower x.adjacency.upper c d) (at_end (end_of c x.adjacency) y) (side_at xs c d) →
          (t : Bool) → same_link z.adjacency.lower z.adjacency.upper c d ≡ t →
          side_or c (cond t (Some z) (link_at c d (set xs i y))) ≡ cond (same_link x.adjacency.lower x.adjacency.upper c d) (at_end (end_of c x.adjacency) y) (side_or c (cond t (Some z) (link_at c d xs)))
      go rest false is = rest
      go rest true is = sym (ap (λ (t : Bool). cond t (at_end (end_of c x.adjacency) y) (at_end (end_of c z.adjacency) z)) (not_both x.adjacency.lower x.adjacency.upper z.adjacency.lower z.adjacency.upper a b c d (first_between a b i xs x first.1 found) first.0 is))
