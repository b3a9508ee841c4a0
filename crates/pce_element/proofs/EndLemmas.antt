-- Requests that end one after the other, step by step.
use Rattle.std.proofs.Common.{◌≡◌, ◌∙◌, ℕ, Bool, cond, Option, Some, None, List, [], ◌∷◌, ◌++◌, Result, Ok, Err, OnOk, sym, ap, append_assoc}
use Rattle.std.specs.Prelude.{IfOk}
use Rattle.std.proofs.lemmas.List.{append-nil}
use Rattle.pcep_codes.specs.declared.notices.TheConstants as notices
use Rattle.pce_common.specs.declared.reported.Told.{Told}
use Rattle.pce_common.specs.plant_model.Types.{Message, Notice, Peer}
use Rattle.pce_common.specs.plant_model.Names.{has_pair}
use Rattle.request_table.specs.Pending.{number_of}
use Rattle.pce_common.specs.plant_model.declared.output.Output.{Output}
use Rattle.pce_common.specs.plant_model.Element.{Element, Row, Taken, each, ended, silent, waiting}
use Rattle.pce_common.specs.plant_model.Taking.{answered, cancelled, error_answer, take_busy, take_cancel, take_failure, take_notice, told_busy, told_error}
use Rattle.pce_common.specs.plant_model.Writing.{busy}
use Rattle.pce_element.specs.Changes.{all_closed, all_ended}
use Rattle.pce_element.specs.Endings.{after, failing, reached, steps_of}
use Rattle.pce_element.specs.declared.telling.Ending.{Ending}
use Rattle.pce_element.proofs.CloseLemmas.{all_closed-more}

-- ---- what holds where a call succeeds

pub on_ok : {T E : Type 0} {P Q : Type 0} (r : Result T E) → (P → Q) → OnOk r P → OnOk r Q
on_ok (Ok x) f p = f p
on_ok (Err e) f p = tt

pub on_ok_both : {T E : Type 0} {P Q R : Type 0} (r : Result T E) → (P → Q → R) → OnOk r P → OnOk r Q → OnOk r R
on_ok_both (Ok x) f p q = f p q
on_ok_both (Err e) f p q = tt

pub if_ok_both : {T E : Type 0} {P Q R : T → Type 0} (r : Result T E) → ((x : T) → P x → Q x → R x) → IfOk r P → IfOk r Q → IfOk r R
if_ok_both (Ok x) f p q = f x p q
if_ok_both (Err e) f p q = tt

-- ---- steps

pub after_each : {P : Type 0} {S : Type 0} → {X : Type 0} (t : Taken P S) (f : X → Element P S → Taken P S) (x : X) (xs : List X) → after t (each f (x ∷ xs)) ≡ after (after t (f x)) (each f xs)
after_each {P} {S} t f x xs =
    let first = f x t.element in
    let rest = each f xs first.element in
    ap (λ (os : List Output). let u : Taken P S = record { element = rest.element; outputs = os } in u) (sym (append_assoc t.outputs first.outputs rest.outputs))

pub after_none : {P : Type 0} {S : Type 0} → (t : Taken P S) → after t silent ≡ t
after_none {P} {S} t = ap (λ (os : List Output). let u : Taken P S = record { element = t.element; outputs = os } in u) (append-nil t.outputs)

-- ---- what a notice tells

pub told_in : {P : Type 0} {S : Type 0} → (t : Taken P S) (p : Peer) (n : Notice) (told : Told) → told.busy ≡ has_pair notices.BUSY.0 notices.BUSY.1 n.kinds → told.cancelled ≡ has_pair notices.CANCELLED.0 notices.CANCELLED.1 n.kinds →
    after t (each (λ rp. each (λ step. step p rp) (steps_of told)) n.ids) ≡ after t (take_notice p n)
told_in {P} {S} t p n told busy cancels =
    ap (λ (b : Bool). by_steps (cond b (cond told.cancelled (take_busy ∷ take_cancel ∷ []) (take_busy ∷ [])) (cond told.cancelled (take_cancel ∷ []) []))) busy
    ∙ ap (λ (b : Bool). by_steps (cond (has_pair notices.BUSY.0 notices.BUSY.1 n.kinds) (cond b (take_busy ∷ take_cancel ∷ []) (take_busy ∷ [])) (cond b (take_cancel ∷ []) []))) cancels
  where
    by_steps : List (Peer → ℕ × ℕ → Element P S → Taken P S) → Taken P S
    by_steps steps = after t (each (λ rp. each (λ step. step p rp) steps) n.ids)

-- ---- what one step makes

pub answered_after : {P : Type 0} {S : Type 0} → (k : Element P S) (old new : Ending) (h : Row P) (m : Message) → new.numbers ≡ old.numbers ++ h.0 ∷ [] → new.outputs ≡ old.outputs ++ (let o : Output = record { to = h.1.key.peer; message = m } in o) ∷ [] →
    reached k new ≡ after (reached k old) (answered h m)
answered_after {P} {S} k old new h m numbers outputs =
    ap (λ (ns : List ℕ). let u : Taken P S = record { element = all_ended ns k; outputs = new.outputs } in u) numbers
    ∙ ap (λ (os : List Output). let u : Taken P S = record { element = all_ended (old.numbers ++ h.0 ∷ []) k; outputs = os } in u) outputs
    ∙ ap (λ p. let u : Taken P S = record { element = record k { pending = p }; outputs = old.outputs ++ (let o : Output = record { to = h.1.key.peer; message = m } in o) ∷ [] } in u) (all_closed-more old.numbers h.0 k.pending)

pub ended_after : {P : Type 0} {S : Type 0} → (k : Element P S) (old new : Ending) (n : ℕ) → new.numbers ≡ old.numbers ++ n ∷ [] → new.outputs ≡ old.outputs → reached k new ≡ after (reached k old) (λ e. silent (ended n e))
ended_after {P} {S} k old new n numbers outputs =
    ap (λ (ns : List ℕ). let u : Taken P S = record { element = all_ended ns k; outputs = new.outputs } in u) numbers
    ∙ ap (λ (os : List Output). let u : Taken P S = record { element = all_ended (old.numbers ++ n ∷ []) k; outputs = os } in u) (outputs ∙ sym (append-nil old.outputs))
    ∙ ap (λ p. let u : Taken P S = record { element = record k { pending = p }; outputs = old.outputs ++ [] } in u) (all_closed-more old.numbers n k.pending)

-- ---- by what is found

pub busy_none : {P : Type 0} {S : Type 0} → (k : Element P S) (e : Ending) (p : Peer) (rp : ℕ × ℕ) → waiting p rp.1 (all_closed e.numbers k.pending).rows ≡ None → reached k e ≡ after (reached k e) (take_busy p rp)
busy_none {P} {S} k e p rp none =
    sym (after_none (reached k e)) ∙ ap (λ (o : Option (Row P)). after (reached k e) (λ x. told_busy x o)) (sym none)

pub busy_some : {P : Type 0} {S : Type 0} → (k : Element P S) (old new : Ending) (p : Peer) (rp : ℕ × ℕ) (h : Row P) (m : Message) → waiting p rp.1 (all_closed old.numbers k.pending).rows ≡ Some h → m ≡ busy h.1.item.flags h.1.key.id →
    new.numbers ≡ old.numbers ++ h.0 ∷ [] → new.outputs ≡ old.outputs ++ (let o : Output = record { to = h.1.key.peer; message = m } in o) ∷ [] → reached k new ≡ after (reached k old) (take_busy p rp)
busy_some {P} {S} k old new p rp h m found says numbers outputs =
    answered_after k old new h m numbers outputs ∙ ap (λ (x : Message). after (reached k old) (answered h x)) says ∙ ap (λ (o : Option (Row P)). after (reached k old) (λ x. told_busy x o)) (sym found)

pub cancel_none : {P : Type 0} {S : Type 0} → (k : Element P S) (e : Ending) (p : Peer) (rp : ℕ × ℕ) → number_of (all_closed e.numbers k.pending) p rp.1 ≡ None → reached k e ≡ after (reached k e) (take_cancel p rp)
cancel_none k e p rp none =
    sym (after_none (reached k e)) ∙ ap (λ (o : Option ℕ). after (reached k e) (λ x. cancelled x o)) (sym none)

pub cancel_some : {P : Type 0} {S : Type 0} → (k : Element P S) (old new : Ending) (p : Peer) (rp : ℕ × ℕ) (n : ℕ) → number_of (all_closed old.numbers k.pending) p rp.1 ≡ Some n → new.numbers ≡ old.numbers ++ n ∷ [] → new.outputs ≡ old.outputs →
    reached k new ≡ after (reached k old) (take_cancel p rp)
cancel_some k old new p rp n found numbers outputs =
    ended_after k old new n numbers outputs ∙ ap (λ (o : Option ℕ). after (reached k old) (λ x. cancelled x o)) (sym found)

pub failure_none : {P : Type 0} {S : Type 0} → (k : Element P S) (e : Ending) (p : Peer) (error rp : ℕ × ℕ) → waiting p rp.1 (all_closed e.numbers k.pending).rows ≡ None → reached k e ≡ after (reached k e) (failing p error rp)
failure_none {P} {S} k e p error rp none =
    sym (after_none (reached k e)) ∙ ap (λ (o : Option (Row P)). after (reached k e) (λ x. take_failure error x o)) (sym none)

pub failure_silent : {P : Type 0} {S : Type 0} → (k : Element P S) (e : Ending) (p : Peer) (error rp : ℕ × ℕ) (h : Row P) → waiting p rp.1 (all_closed e.numbers k.pending).rows ≡ Some h → error_answer error h.1.item.flags h.1.key.id ≡ [] →
    reached k e ≡ after (reached k e) (failing p error rp)
failure_silent {P} {S} k e p error rp h found says =
    sym (after_none (reached k e)) ∙ ap (λ (ms : List Message). after (reached k e) (λ x. told_error h x ms)) (sym says)
    ∙ ap (λ (o : Option (Row P)). after (reached k e) (λ x. take_failure error x o)) (sym found)

pub failure_some : {P : Type 0} {S : Type 0} → (k : Element P S) (old new : Ending) (p : Peer) (error rp : ℕ × ℕ) (h : Row P) (m : Message) → waiting p rp.1 (all_closed old.numbers k.pending).rows ≡ Some h →
    m ∷ [] ≡ error_answer error h.1.item.flags h.1.key.id → new.numbers ≡ old.numbers ++ h.0 ∷ [] → new.outputs ≡ old.outputs ++ (let o : Output = record { to = h.1.key.peer; message = m } in o) ∷ [] →
    reached k new ≡ after (reached k old) (failing p error rp)
failure_some {P} {S} k old new p error rp h m found says numbers outputs =
    answered_after k old new h m numbers outputs ∙ ap (λ (ms : List Message). after (reached k old) (λ x. told_error h x ms)) says
    ∙ ap (λ (o : Option (Row P)). after (reached k old) (λ x. take_failure error x o)) (sym found)
