-- The first link between two ends.
use Rattle.std.proofs.Common.{◌≡◌, ◌≤◌, ◌<◌, ℕ, zero, suc, Bool, true, false, cond, Some, None, List, [], ◌∷◌, length, get_or, arith, refl, sym, ◌∙◌, ap}
use Rattle.std.proofs.lemmas.Option.{slice_get-get_or}
use Rattle.plant_model.specs.Types.{As}
use Rattle.plant_text.specs.Names.{same_link}
use Rattle.network_links.specs.declared.link.End.{End}
use Rattle.network_links.specs.Links.{Joined}
use Rattle.network_links.specs.Sides.{link_at, end_of, IsFirst, IsPlace}

-- none of those in front of this place is between these ends
abbrev pub Other : As → As → ℕ → List Joined → Type 0
Other a b zero xs = Unit {0}
Other a b (suc i) [] = Unit {0}
Other a b (suc i) (x ∷ xs) = (same_link x.adjacency.lower x.adjacency.upper a b ≡ false) × Other a b i xs

pub other_more : (a b : As) (i : ℕ) (xs : List Joined) (x : Joined) → Other a b i xs → i < length xs → x ≡ get_or xs i x → same_link x.adjacency.lower x.adjacency.upper a b ≡ false → Other a b (suc i) xs
other_more a b i [] x others within is differs = tt
other_more a b zero (y ∷ xs) x others within is differs = (ap (λ (z : Joined). same_link z.adjacency.lower z.adjacency.upper a b) (sym is) ∙ differs, tt)
other_more a b (suc i) (y ∷ xs) x others within is differs = (others.0, other_more a b i xs x others.1 (omega arith) is differs)

other_first : (a b : As) (i : ℕ) (xs : List Joined) (x : Joined) → Other a b i xs → i < length xs → x ≡ get_or xs i x → same_link x.adjacency.lower x.adjacency.upper a b ≡ true → IsFirst a b i xs
other_first a b i [] x others within is same = absurd (omega arith)
other_first a b zero (y ∷ xs) x others within is same = ap (λ (z : Joined). same_link z.adjacency.lower z.adjacency.upper a b) (sym is) ∙ same
other_first a b (suc i) (y ∷ xs) x others within is same = (others.0, other_first a b i xs x others.1 (omega arith) is same)

pub other_here : (a b : As) (i : ℕ) (e : End) (xs : List Joined) (x : Joined) → Other a b i xs → i < length xs → x ≡ get_or xs i x → same_link x.adjacency.lower x.adjacency.upper a b ≡ true → e ≡ end_of a x.adjacency → IsPlace a b i e xs
other_here a b i e xs x others within is same end = record { link = x; first = other_first a b i xs x others within is same; found = slice_get-get_or xs i x within ∙ ap Some (sym is); end = end }

pub other_all : (a b : As) (i : ℕ) (xs : List Joined) → Other a b i xs → length xs ≤ i → link_at a b xs ≡ None
other_all a b i [] others past = refl
other_all a b zero (x ∷ xs) others past = absurd (omega arith)
other_all a b (suc i) (x ∷ xs) others past = ap (λ (t : Bool). cond t (Some x) (link_at a b xs)) others.0 ∙ other_all a b i xs others.1 (omega arith)
