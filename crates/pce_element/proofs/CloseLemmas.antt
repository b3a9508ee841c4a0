-- Requests that end one after the other.
use Rattle.std.proofs.Common.{◌≡◌, ◌∙◌, ◌+◌, ℕ, suc, List, [], ◌∷◌, ◌++◌, Some, take, arith, refl, sym, ap}
use Rattle.std.specs.Prelude.{slice_get}
use Rattle.request_table.specs.Pending.{Pending, closed_of}
use Rattle.pce_common.specs.plant_model.Element.{Item}
use Rattle.pce_element.specs.Changes.{all_closed}
use Rattle.pce_element.specs.Pinned.{Pinned}
use Rattle.pce_element.specs.Leaving.{SameButSpare}
use Rattle.pce_common.proofs.HeldPlaces.{taken_at}

pub all_closed-more : {P : Type 0} → (ns : List ℕ) (n : ℕ) (p : Pending (Item P)) → all_closed (ns ++ n ∷ []) p ≡ closed_of (all_closed ns p) n
all_closed-more [] n p = refl
all_closed-more (m ∷ ns) n p = all_closed-more ns n (closed_of p m)

-- all have ended that came before a place
pub closed_next : {P : Type 0} → (old mid new : Pinned P) (ns : List ℕ) (i n : ℕ) → slice_get ns i ≡ Some n → SameButSpare (record old { pending = all_closed (take i ns) old.pending }) mid → SameButSpare (record mid { pending = closed_of mid.pending n }) new →
    SameButSpare (record old { pending = all_closed (take (i + 1) ns) old.pending }) new
closed_next {P} old mid new ns i n at before last =
    let more : take (i + 1) ns ≡ take i ns ++ n ∷ [] = ap (λ (j : ℕ). take j ns) (let e : i + 1 ≡ suc i = omega arith in e) ∙ taken_at ns i n at in
    last
    ∙ ap (λ (q : Pinned P). let r : Pinned P = record q { pending = closed_of q.pending n; spare = new.spare } in r) before
    ∙ ap (λ (p : Pending (Item P)). let r : Pinned P = record old { pending = p; spare = new.spare } in r) (sym (all_closed-more (take i ns) n old.pending) ∙ ap (λ (js : List ℕ). all_closed js old.pending) (sym more))
