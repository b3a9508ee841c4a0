-- The wait that is answered, found place by place.
use Rattle.std.proofs.Common.{◌≡◌, ◌<◌, ◌+◌, ℕ, suc, Bool, true, cond, Some, List, [], ◌∷◌, ◌++◌, length, take, drop, arith, refl, sym, ◌∙◌, ap, append_assoc}
use Rattle.std.specs.Prelude.{slice_get}
use Rattle.std.specs.List.{remove}
use Rattle.pce_common.specs.plant_model.Types.{Peer, Branch, Wanted}
use Rattle.pce_common.specs.plant_model.declared.upper.ChildRow.{ChildRow}
use Rattle.pce_common.specs.plant_model.Names.{same_id}
use Rattle.pce_parent.specs.Changes.{with_answer}
use Rattle.pce_common.specs.plant_model.Parent.{Asking, Wait, among, rows_at, rows_for, without}
use Rattle.pce_parent.specs.Answered.{IsAnsweredAt}
use Rattle.pce_parent.specs.Joined.{joined}
use Rattle.pce_common.proofs.HeldPlaces.{taken_at, dropped_at}

-- none of those before the place is answered
pub record NoneBefore (p : Peer) (y i : ℕ) (ws : List Wait) : Type 0 where
  pub among_is : among p ws y ≡ among p (drop i ws) y
  pub rows_are : (bs : List Branch) → rows_for p y bs ws ≡ rows_for p y bs (drop i ws)
  pub without_is : without p y ws ≡ take i ws ++ without p y (drop i ws)

pub this_one : (p : Peer) (y i : ℕ) (ws : List Wait) (w : Wait) → i < length ws → slice_get ws i ≡ Some w → same_id w.peer w.id p y ≡ true → NoneBefore p y i ws → IsAnsweredAt p y i ws
this_one p y i ws w below at_i same none =
    let rest = drop (suc i) ws in
    let next : drop i ws ≡ w ∷ rest = dropped_at ws i w at_i in
    record {
      within = below;
      wait = w;
      here = at_i;
      answers = record {
        waits = none.among_is ∙ ap (λ (xs : List Wait). among p xs y) next ∙ ap (λ (b : Bool). cond b true (among p rest y)) same;
        rows = λ bs. none.rows_are bs ∙ ap (rows_for p y bs) next ∙ ap (λ (b : Bool). cond b (rows_at w.child w.target bs) (rows_for p y bs rest)) same;
      };
      rest = none.without_is ∙ ap (λ (xs : List Wait). take i ws ++ without p y xs) next ∙ ap (λ (b : Bool). take i ws ++ cond b rest (w ∷ without p y rest)) same;
    }

-- ---- answers one behind the other

pub joined_push : {X : Type 0} (xss : List (List X)) (xs : List X) → joined (xss ++ xs ∷ []) ≡ joined xss ++ xs
joined_push [] [] = refl
joined_push [] (x ∷ xs) = ap (λ ys. x ∷ ys) (joined_push [] xs)
joined_push (ys ∷ xss) xs = ap (λ zs. ys ++ zs) (joined_push xss xs) ∙ sym (append_assoc ys (joined xss) xs)

pub joined_next : {X : Type 0} (xss : List (List X)) (k : ℕ) (xs ys found more : List X) → slice_get xss k ≡ Some xs → ys ≡ xs → found ≡ joined (take k xss) → more ≡ found ++ ys → more ≡ joined (take (k + 1) xss)
joined_next xss k xs ys found more at_k same so_far is =
    is ∙ ap (λ zs. found ++ zs) same ∙ ap (λ zs. zs ++ xs) so_far ∙ sym (joined_push (take k xss) xs)
    ∙ ap joined (sym (taken_at xss k xs at_k) ∙ ap (λ (j : ℕ). take j xss) (let e : suc k ≡ k + 1 = omega arith in e))

pub answer_kept : (p : Peer) (y i : ℕ) (rows : List ChildRow) (flags : ℕ) (wanted : Wanted) (ws left : List Wait) (answers more : List (List ChildRow)) → IsAnsweredAt p y i ws → left ≡ remove ws i → more ≡ answers ++ rows ∷ [] →
    let new : Asking = record { flags = flags; wanted = wanted; waits = left; rows = joined more } in
    let old : Asking = record { flags = flags; wanted = wanted; waits = ws; rows = joined answers } in
    new ≡ with_answer p y rows old
answer_kept p y i rows flags wanted ws left answers more here left_is more_is =
    ap (λ (xs : List Wait). let a : Asking = record { flags = flags; wanted = wanted; waits = xs; rows = joined more } in a) (left_is ∙ sym here.rest)
    ∙ ap (λ (rs : List ChildRow). let a : Asking = record { flags = flags; wanted = wanted; waits = without p y ws; rows = rs } in a) (ap joined more_is ∙ joined_push answers rows)
