-- The ways on which messages may be, when one more link is looked at.
use Rattle.std.proofs.Common.{◌≡◌, ℕ, zero, suc, take, ap, List, [], ◌∷◌, ◌++◌, Some, None}
use Rattle.std.specs.Prelude.{slice_get}
use Rattle.plant_model.specs.Types.{As}
use Rattle.plant_text.specs.Settings.{Adjacency}
use Rattle.network_links.specs.Waiting.{ways}

-- both ways of one more link
pub ways_more : (xs : List Adjacency) (k : ℕ) (x : Adjacency) → slice_get xs k ≡ Some x → ways (take (suc k) xs) ≡ (ways (take k xs) ++ (x.lower, x.upper) ∷ []) ++ (x.upper, x.lower) ∷ []
ways_more [] k x is = absurd (let none : None ≡ Some x = is in cc)
ways_more (y ∷ xs) zero x is =
    let one : Some y ≡ Some x = is in
    let same : y ≡ x = cc in
    ap (λ (z : Adjacency). (z.lower, z.upper) ∷ (z.upper, z.lower) ∷ []) same
ways_more (y ∷ xs) (suc k) x is = ap (λ (ws : List (As × As)). (y.lower, y.upper) ∷ (y.upper, y.lower) ∷ ws) (ways_more xs k x is)
