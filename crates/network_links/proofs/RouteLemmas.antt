-- Routes that are found one peer after the other.
use Rattle.std.proofs.Common.{◌≡◌, ◌∙◌, ◌<◌, ℕ, zero, suc, List, [], ◌∷◌, ◌++◌, length, drop, get_or, arith, refl, sym, ap}
use Rattle.std.proofs.lemmas.List.{append_assoc, append-nil}
use Rattle.plant_model.specs.Types.{As, PeerRow}
use Rattle.plant_model.specs.declared.route.Route.{Route}
use Rattle.plant_model.specs.Routes.{route_at, routes_from}

-- those of the peers in front were found
abbrev pub Found : As → ℕ → List PeerRow → List Route → Type 0
Found d i rs found = found ++ routes_from d i (drop i rs) ≡ routes_from d 0 rs

-- what is left begins with the peer at its place
left_is : (d : As) (k i : ℕ) (rs : List PeerRow) (x : PeerRow) → i < length rs → routes_from d k (drop i rs) ≡ route_at d k (get_or rs i x) ++ routes_from d (suc k) (drop (suc i) rs)
left_is d k i [] x inside = absurd (omega (arith, inside))
left_is d k zero (r ∷ rs) x inside = refl
left_is d k (suc i) (r ∷ rs) x inside = left_is d k i rs x (omega (arith, inside))

pub found_more : (d : As) (i : ℕ) (rs : List PeerRow) (x : PeerRow) (found more : List Route) → i < length rs → Found d i rs found → route_at d i (get_or rs i x) ≡ more → Found d (suc i) rs (found ++ more)
found_more d i rs x found more inside so is =
    let rest : List Route = routes_from d (suc i) (drop (suc i) rs) in
    append_assoc found more rest ∙ ap (λ (l : List Route). found ++ (l ++ rest)) (sym is) ∙ ap (λ (l : List Route). found ++ l) (sym (left_is d i i rs x inside)) ∙ so

pub found_none : (d : As) (i : ℕ) (rs : List PeerRow) (x : PeerRow) (found : List Route) → i < length rs → Found d i rs found → route_at d i (get_or rs i x) ≡ [] → Found d (suc i) rs found
found_none d i rs x found inside so is =
    ap (λ (l : List Route). l ++ routes_from d (suc i) (drop (suc i) rs)) (sym (append-nil found)) ∙ found_more d i rs x found [] inside so is
