-- A name among others, as a comparison of texts finds it.
use Rattle.std.proofs.Common.{◌≡◌, ◌↔◌, ℕ, List, true, Contains}
use Rattle.std.specs.List.{list_any}
use Rattle.std.specs.Str.{bytes_eq}
use Rattle.std.proofs.lemmas.Cmp.{nat_list_eq_equiv}
use Rattle.std.proofs.lemmas.Map.Views.{Contains-from_any, list_any-from_Contains}
use Rattle.std.proofs.lemmas.Slice.Eq.{bytes_eq-Decides}

pub is_there : (name : List ℕ) (names : List (List ℕ)) → (list_any (bytes_eq name) names ≡ true) ↔ Contains names name
is_there name names = (Contains-from_any (λ x y e. (bytes_eq-Decides x y).0 e) name names, list_any-from_Contains nat_list_eq_equiv name names)
