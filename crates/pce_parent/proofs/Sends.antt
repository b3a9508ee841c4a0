-- The requests to the children, one after the other.
use Rattle.std.proofs.Common.{◌≡◌, ◌+◌, ℕ, Bool, true, cond, Some, List, [], ◌∷◌, ◌++◌, length, drop, arith, inl, inr, refl, sym, ◌∙◌, ap, append_assoc}
use Rattle.std.specs.Prelude.{slice_get}
use Rattle.std.proofs.lemmas.Bool.{cases_Bool}
use Rattle.pce_common.specs.plant_model.Types.{Peer, Inner, Wanted}
use Rattle.pce_common.specs.plant_model.declared.output.Output.{Output}
use Rattle.pce_common.specs.plant_model.Names.{same_id}
use Rattle.pce_common.specs.plant_model.Element.{Way, after_id, pass_over, way_to, with_last}
use Rattle.pce_common.specs.plant_model.Parent.{AskingRow, Wait, Errand, Asks, all_waits, among, ask_all, last_to, next_id}
use Rattle.pce_parent.specs.declared.sending.Sending.{Sending}
use Rattle.pce_parent.specs.Sending.{wait_of, id_for, asked_by, IsSent}
use Rattle.pce_common.proofs.Scans.{dropped_next}

-- ---- the same waits, in another order

pub record SameWaits (a b : List Wait) : Type 0 where
  pub len : length a ≡ length b
  pub same : (p : Peer) (y : ℕ) → among p a y ≡ among p b y

pub one_order : (ws : List Wait) → SameWaits ws ws
one_order ws = record { len = refl; same = λ p y. refl }

among_push : (p : Peer) (y : ℕ) (ws : List Wait) (w : Wait) → among p (ws ++ w ∷ []) y ≡ cond (same_id w.peer w.id p y) true (among p ws y)
among_push p y [] w = refl
among_push p y (v ∷ ws) w = elim (cases_Bool (same_id v.peer v.id p y)) [
  | inl yes' ↦ rw yes' (elim (cases_Bool (same_id w.peer w.id p y)) [ inl also ↦ rw also refl | inr not_also ↦ rw not_also refl ])
  | inr no' ↦ rw no' (among_push p y ws w)
]

length_push : (ws : List Wait) (w : Wait) → length (ws ++ w ∷ []) ≡ length ws + 1
length_push [] w = refl
length_push (v ∷ ws) w = omega (arith, length_push ws w)

pub one_more_wait : (a b : List Wait) (w : Wait) → SameWaits a b → SameWaits (a ++ w ∷ []) (w ∷ b)
one_more_wait a b w are = record {
  len = omega (arith, length_push a w, are.len);
  same = λ p y. among_push p y a w ∙ ap (λ (t : Bool). cond (same_id w.peer w.id p y) true t) (are.same p y);
}

passed_same : (a b : List Wait) (f g : ℕ → Bool) (y : ℕ) → length a ≡ length b → ((n : ℕ) → f n ≡ g n) → pass_over a f y ≡ pass_over b g y
passed_same [] [] f g y len same = refl
passed_same [] (w ∷ b) f g y len same = absurd (omega (arith, len))
passed_same (v ∷ a) [] f g y len same = absurd (omega (arith, len))
passed_same (v ∷ a) (w ∷ b) f g y len same =
    ap (λ (t : Bool). cond t (pass_over a f (after_id y)) y) (same y)
    ∙ ap (λ (n : ℕ). cond (g y) n y) (passed_same a b f g (after_id y) (omega (arith, len)) same)

pub next_same : (p : Peer) (a b : List Wait) (ways : List Way) → SameWaits a b → next_id p a ways ≡ next_id p b ways
next_same p a b ways are = passed_same a b (among p a) (among p b) (after_id (last_to (way_to p ways))) are.len (are.same p)

-- ---- errands that were sent so far

pub record SentSoFar (w : Wanted) (taken : List Wait) (rs : List Errand) (ways : List Way) (i : ℕ) (s : Sending) : Type 0 where
  pub before : List Wait
  pub same : SameWaits s.taken.items before
  pub waits : (ask_all w taken rs ways).waits ≡ s.waits.items ++ (ask_all w before (drop i rs) s.ways).waits
  pub ways_are : (ask_all w taken rs ways).ways ≡ (ask_all w before (drop i rs) s.ways).ways
  pub outputs : (ask_all w taken rs ways).outputs ≡ s.outputs ++ (ask_all w before (drop i rs) s.ways).outputs

pub one_sent : (w : Wanted) (taken : List Wait) (rs : List Errand) (ways : List Way) (i : ℕ) (r : Errand) (old new : Sending) → slice_get rs i ≡ Some r → IsSent w r old new → SentSoFar w taken rs ways i old → SentSoFar w taken rs ways (i + 1) new
one_sent w taken rs ways i r old new at_i sent so_far = record {
  before = one ∷ so_far.before;
  same = rw sent.taken (one_more_wait old.taken.items so_far.before one so_far.same);
  waits = so_far.waits ∙ ap (λ (n : Asks). old.waits.items ++ n.waits) step ∙ sym (append_assoc old.waits.items (one ∷ []) rest.waits) ∙ ap (λ (ws : List Wait). ws ++ rest.waits) (sym sent.waits);
  ways_are = so_far.ways_are ∙ ap (λ (n : Asks). n.ways) step;
  outputs = so_far.outputs ∙ ap (λ (n : Asks). old.outputs ++ n.outputs) step ∙ sym (append_assoc old.outputs (asked_by w r y ∷ []) rest.outputs) ∙ ap (λ (os : List Output). os ++ rest.outputs) (sym sent.outputs);
}
  where
    y : ℕ
    y = id_for r old

    one : Wait
    one = wait_of r.child y r.target

    rest : Asks
    rest = ask_all w (one ∷ so_far.before) (drop (i + 1) rs) new.ways

    with_id : ℕ → List Way → Asks
    with_id n ways' =
        let first = wait_of r.child n r.target in
        let more = ask_all w (first ∷ so_far.before) (drop (i + 1) rs) ways' in
        record { waits = first ∷ more.waits; ways = more.ways; outputs = asked_by w r n ∷ more.outputs }

    step : ask_all w so_far.before (drop i rs) old.ways ≡ with_id y new.ways
    step =
        ap (λ (xs : List Errand). ask_all w so_far.before xs old.ways) (dropped_next rs i r at_i)
        ∙ ap (λ (n : ℕ). with_id n (with_last (Inner r.child) n old.ways)) (sym (next_same (Inner r.child) old.taken.items so_far.before old.ways so_far.same))
        ∙ ap (with_id y) (sym sent.ways)

-- ---- all waits

pub waits_next : (rows : List AskingRow) (k : ℕ) (h : AskingRow) (found more ws : List Wait) → slice_get rows k ≡ Some h → all_waits rows ≡ found ++ all_waits (drop k rows) → ws ≡ h.1.item.waits → more ≡ found ++ ws →
    all_waits rows ≡ more ++ all_waits (drop (k + 1) rows)
waits_next rows k h found more ws at_k so_far are is =
    so_far ∙ ap (λ (rs : List AskingRow). found ++ all_waits rs) (dropped_next rows k h at_k)
    ∙ sym (append_assoc found h.1.item.waits (all_waits (drop (k + 1) rows)))
    ∙ ap (λ (xs : List Wait). found ++ xs ++ all_waits (drop (k + 1) rows)) (sym are)
    ∙ ap (λ (xs : List Wait). xs ++ all_waits (drop (k + 1) rows)) (sym is)
