-- A fresh id is one for which nothing waits.
use Rattle.std.proofs.Common.{◌≡◌, ◌⊎◌, ◌≤◌, ◌<◌, ℕ, suc, zero, ◌+◌, Bool, true, false, cond, ◌==◌, nat_eq, List, [], ◌∷◌, length, inl, inr, sym, ◌∙◌, refl, arith}
use Rattle.std.proofs.lemmas.Bool.{cases_Bool, eqb-true}
use Rattle.std.proofs.lemmas.Grind.{common_steps}
use Rattle.plant_model.specs.Types.{Peer}
use Rattle.request_table.specs.Pending.{same_peer}
use Rattle.plant_model.specs.Names.{same_id}
use Rattle.plant_model.specs.Element.{Stage, Waits, Ready, Row, waits_for, is_waiting, after_id, pass_over, fresh_id, Way, way_to}
use Rattle.plant_model.specs.Parent as parent
use Rattle.plant_model.specs.Parent.{Wait}
use Rattle.plant_laws.proofs.Runs.Rows.{In}

-- the id after so many
abbrev pub later : ℕ → ℕ → ℕ
later zero y = y
later (suc k) y = later k (after_id y)

-- where an id is after fewer steps than there are ids
pub later_is : (k y : ℕ) → 1 ≤ y → k < 4294967295 → (1 ≤ later k y) × ((later k y ≡ y + k) ⊎ (later k y + 4294967295 ≡ y + k))
later_is zero y low few = (low, inl (omega arith))
later_is (suc k) y low few =
    elim (cases_Bool (y == 4294967295)) [
      | inl last ↦
          let top : y ≡ 4294967295 = eqb-true y 4294967295 last in
          rw last (wrapped top (later_is k 1 (omega arith) (omega (arith, few))))
      | inr more ↦ rw more (stepped (later_is k (suc y) (omega arith) (omega (arith, few))))
    ]
  where
    wrapped : y ≡ 4294967295 → (1 ≤ later k 1) × ((later k 1 ≡ 1 + k) ⊎ (later k 1 + 4294967295 ≡ 1 + k)) → (1 ≤ later k 1) × ((later k 1 ≡ y + suc k) ⊎ (later k 1 + 4294967295 ≡ y + suc k))
    wrapped top h = (h.0, elim h.1 [ inl e ↦ inr (omega (arith, e, top)) | inr e ↦ absurd (let one = h.0 in omega (arith, e, one, few)) ])

    stepped : (1 ≤ later k (suc y)) × ((later k (suc y) ≡ suc y + k) ⊎ (later k (suc y) + 4294967295 ≡ suc y + k)) → (1 ≤ later k (suc y)) × ((later k (suc y) ≡ y + suc k) ⊎ (later k (suc y) + 4294967295 ≡ y + suc k))
    stepped h = (h.0, elim h.1 [ inl e ↦ inl (omega (arith, e)) | inr e ↦ inr (omega (arith, e)) ])

-- it does not come round
pub later_differs : (k y : ℕ) → 1 ≤ y → suc k < 4294967295 → later (suc k) y ≡ y → ⊥
later_differs k y low few e =
    let h = later_is (suc k) y low few in
    elim h.1 [ inl f ↦ omega (arith, e, f) | inr f ↦ omega (arith, e, f, few) ]

without : ℕ → List ℕ → List ℕ
without y [] = []
without y (w ∷ ws) = cond (nat_eq y w) ws (w ∷ without y ws)

without_shorter : (y : ℕ) (ws : List ℕ) → In y ws → suc (length (without y ws)) ≡ length ws
unfolding without
without_shorter y [] none = absurd none
without_shorter y (w ∷ ws) i = elim (cases_Bool (nat_eq y w)) [ inl hit ↦ rw hit (omega arith) | inr miss ↦ rw miss (go miss i (without_shorter y ws)) ]
  where
    go : nat_eq y w ≡ false → In y (w ∷ ws) → (In y ws → suc (length (without y ws)) ≡ length ws) → suc (length (w ∷ without y ws)) ≡ length (w ∷ ws)
    go miss (inl e) rec = absurd (let out = e in grind (arith, miss, out, common_steps))
    go miss (inr j) rec = omega (arith, rec j)

without_in : (y z : ℕ) (ws : List ℕ) → (z ≡ y → ⊥) → In z ws → In z (without y ws)
unfolding without
without_in y z [] apart none = none
without_in y z (w ∷ ws) apart i = elim (cases_Bool (nat_eq y w)) [ inl hit ↦ rw hit (gone hit i) | inr miss ↦ rw miss (here i (without_in y z ws apart)) ]
  where
    gone : nat_eq y w ≡ true → In z (w ∷ ws) → In z ws
    gone hit (inl e) = absurd (apart (sym e ∙ sym (eqb-true y w hit)))
    gone hit (inr j) = j

    here : In z (w ∷ ws) → (In z ws → In z (without y ws)) → In z (w ∷ without y ws)
    here (inl e) rec = inl e
    here (inr j) rec = inr (rec j)

-- Where no more ids wait than may be passed over, what is reached is free.
pub pass_free : {A : Type 0} (xs : List A) (waits : ℕ → Bool) (ids : List ℕ) (y : ℕ) → 1 ≤ y → length xs < 4294967294 → length ids ≤ length xs →
    ((k : ℕ) → k ≤ length xs → waits (later k y) ≡ true → In (later k y) ids) → waits (pass_over xs waits y) ≡ false
pass_free [] waits [] y low few le held = elim (cases_Bool (waits y)) [ inl hit ↦ absurd (held 0 (omega arith) hit) | inr miss ↦ miss ]
pass_free [] waits (i ∷ ids) y low few le held = absurd (let out : length (i ∷ ids) ≤ 0 = le in omega (arith, out))
pass_free (x ∷ xs) waits ids y low few le held =
    elim (cases_Bool (waits y)) [
      | inr miss ↦ rw miss miss
      | inl hit ↦
          let there : In y ids = held 0 (omega arith) hit in
          let short = without_shorter y ids there in
          rw hit (pass_free xs waits (without y ids) (after_id y) (after_low y) (omega (arith, few)) (omega (arith, le, short))
          (λ k lt waits'. without_in y (later k (after_id y)) ids (later_differs k y low (omega (arith, few, lt))) (held (suc k) (omega (arith, lt)) waits')))
    ]
  where
    after_low : (y : ℕ) → 1 ≤ after_id y
    after_low y = elim (cases_Bool (y == 4294967295)) [ inl last ↦ rw last (omega arith) | inr more ↦ rw more (omega arith) ]

after_one : (y : ℕ) → 1 ≤ after_id y
after_one y = elim (cases_Bool (y == 4294967295)) [ inl last ↦ rw last (omega arith) | inr more ↦ rw more (omega arith) ]

-- the ids that wait
stage_ids : Stage → List ℕ → List ℕ
stage_ids (Waits on id) ids = id ∷ ids
stage_ids (Ready branches) ids = 0 ∷ ids

ids_of : {P : Type 0} → List (Row P) → List ℕ
ids_of [] = []
ids_of (h ∷ hs) = stage_ids h.1.item.stage (ids_of hs)

ids_length : {P : Type 0} (rows : List (Row P)) → length (ids_of rows) ≡ length rows
unfolding ids_of stage_ids
ids_length [] = refl
ids_length (h ∷ hs) = go h.1.item.stage (ids_length hs)
  where
    go : (stage : Stage) → length (ids_of hs) ≡ length hs → length (stage_ids stage (ids_of hs)) ≡ length (h ∷ hs)
    go (Waits on id) rec = omega (arith, rec)
    go (Ready branches) rec = omega (arith, rec)

waiting_ids : {P : Type 0} (p : Peer) (rows : List (Row P)) (y : ℕ) → is_waiting p rows y ≡ true → In y (ids_of rows)
unfolding ids_of stage_ids
waiting_ids p [] y e = absurd (let out : false ≡ true = e in cc)
waiting_ids p (h ∷ hs) y e = go h.1.item.stage (waiting_ids p hs y) e
  where
    same : (on : Peer) (id : ℕ) → same_id on id p y ≡ true → id ≡ y
    same on id e = pick (same_peer on p) e
      where
        pick : (b : Bool) → cond b (id == y) false ≡ true → id ≡ y
        pick true f = eqb-true id y f
        pick false f = absurd (let out : false ≡ true = f in cc)

    go : (stage : Stage) → (is_waiting p hs y ≡ true → In y (ids_of hs)) → cond (waits_for p y stage) true (is_waiting p hs y) ≡ true → In y (stage_ids stage (ids_of hs))
    go (Ready branches) rec e = inr (rec e)
    go (Waits on id) rec e = elim (cases_Bool (same_id on id p y)) [ inl hit ↦ inl (same on id hit) | inr miss ↦ inr (rec (rw miss at e)) ]

-- No request of the element waits for a fresh id of the peer.
pub fresh_is_free : {P : Type 0} (p : Peer) (last : ℕ) (rows : List (Row P)) → length rows < 4294967294 → is_waiting p rows (fresh_id p last rows) ≡ false
fresh_is_free p last rows few =
    let long = ids_length rows in
    pass_free rows (is_waiting p rows) (ids_of rows) (after_id last) (after_one last) few (omega (arith, long)) (λ k lt e. waiting_ids p rows (later k (after_id last)) e)

-- The same of the parent's requests to its children.
wait_ids : List Wait → List ℕ
wait_ids [] = []
wait_ids (w ∷ ws) = w.id ∷ wait_ids ws

wait_length : (ws : List Wait) → length (wait_ids ws) ≡ length ws
unfolding wait_ids
wait_length [] = refl
wait_length (w ∷ ws) = omega (arith, wait_length ws)

among_ids : (p : Peer) (ws : List Wait) (y : ℕ) → parent.among p ws y ≡ true → In y (wait_ids ws)
unfolding wait_ids
among_ids p [] y e = absurd (let out : false ≡ true = e in cc)
among_ids p (w ∷ ws) y e = elim (cases_Bool (same_id w.peer w.id p y)) [ inl hit ↦ inl (same (same_peer w.peer p) hit) | inr miss ↦ inr (among_ids p ws y (rw miss at e)) ]
  where
    same : (b : Bool) → cond b (w.id == y) false ≡ true → w.id ≡ y
    same true f = eqb-true w.id y f
    same false f = absurd (let out : false ≡ true = f in cc)
