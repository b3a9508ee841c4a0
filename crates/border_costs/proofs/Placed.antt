-- The places of addresses, one after the other.
use Rattle.std.proofs.Common.{◌≡◌, ◌<◌, inl, inr, ℕ, List, [], ◌∷◌, ◌++◌, length, arith, sym, subst, Some}
use Rattle.std.specs.Prelude.{Contains, slice_get}
use Rattle.std.proofs.lemmas.List.Elements.{All-push, Contains-push, Contains-push_cases, Contains-append_left}
use Rattle.std.proofs.lemmas.Option.{slice_get_within}
use Rattle.dom_base.specs.declared.addr.Addr.{Addr}
use Rattle.te_links.specs.Rows.{Rows, IsTopology}
use Rattle.path_search.proofs.Places.{same_place, contains_at}
use Rattle.border_costs.specs.Solutions.{ArePlaces}

pub none_placed : (g : Rows) → ArePlaces g [] []
none_placed g = record { inside = λ k d below. absurd (omega (arith, below)); every = λ i n has at. absurd (omega (arith, has.1)) }

-- an address that is no node
pub place_missed : (g : Rows) (addresses : List Addr) (places : List ℕ) (a : Addr) → ArePlaces g addresses places → ¬ Contains g.nodes a → ArePlaces g (addresses ++ a ∷ []) places
place_missed g addresses places a are out = record {
  inside = are.inside;
  every = λ i n has at.
      elim (Contains-push_cases addresses a n has) [
        | inl old ↦ are.every i n old at
        | inr new ↦ absurd (out (subst (Contains g.nodes) (sym new) (contains_at g.nodes i n at)))
      ];
}

-- one that is
pub place_added : (g : Rows) (addresses : List Addr) (places : List ℕ) (a : Addr) (p : ℕ) → IsTopology g → ArePlaces g addresses places → slice_get g.nodes p ≡ Some a →
    ArePlaces g (addresses ++ a ∷ []) (places ++ p ∷ [])
place_added g addresses places a p valid are at_p = record {
  inside = All-push (λ i. i < length g.nodes) places p are.inside (slice_get_within g.nodes p a at_p);
  every = λ i n has at.
      elim (Contains-push_cases addresses a n has) [
        | inl old ↦ Contains-append_left places (p ∷ []) i (are.every i n old at)
        | inr new ↦
            let here : slice_get g.nodes i ≡ Some a = subst (λ (m : Addr). slice_get g.nodes i ≡ Some m) (sym new) at in
            let one : p ≡ i = same_place g.nodes valid.nodes_differ p i a at_p here in
            subst (Contains (places ++ p ∷ [])) one (Contains-push places p)
      ];
}
