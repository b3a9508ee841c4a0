-- What notices and errors make of requests, one by one.
use Rattle.std.proofs.Common.{◌≡◌, ℕ, Bool, cond, Option, Some, None, List, [], ◌∷◌, ◌++◌, sym, ◌∙◌, ap, append-nil, option_map}
use Rattle.pcep_codes.specs.declared.notices.TheConstants as notices
use Rattle.pce_common.specs.declared.reported.Told.{Told}
use Rattle.pce_common.specs.plant_model.Types.{Message, Notice, Peer}
use Rattle.pce_common.specs.plant_model.Names.{has_pair}
use Rattle.request_table.specs.Pending.{Pending, ArePending, closed_of, number_of}
use Rattle.pce_common.specs.plant_model.declared.output.Output.{Output}
use Rattle.pce_common.specs.plant_model.Writing.{busy}
use Rattle.pce_common.specs.plant_model.Taking.{error_answer}
use Rattle.pce_common.specs.plant_model.Parent.{Parent, ParentTaken, Asking, AskingRow, answered, cancelled, each, ended, silent, take_busy, take_cancel, take_failure, take_notice, told_busy, told_error, waiting}
use Rattle.pce_parent.specs.declared.ending.Ending.{Ending}
use Rattle.pce_parent.specs.declared.sought.Sought.TheVariants.{Asked, Awaited}
use Rattle.pce_parent.specs.Changes.{all_closed, all_ended}
use Rattle.pce_parent.specs.Endings.{GoesOn, given_by, steps_of, then_given}
use Rattle.pce_parent.specs.Soughts.{first_sought, without_these}
use Rattle.pce_parent.proofs.Gone.{asked_left, closed_more, waiting_left}

-- ---- the first, and none

pub at_first : (e : Ending) (k : Parent) (f : Parent → ParentTaken) → e.numbers.items ≡ [] → e.outputs ≡ [] → then_given (given_by k e) f ≡ f k
at_first e k f none nothing =
    ap (λ (ns : List ℕ). let g : ParentTaken = record { parent = all_ended ns k; outputs = e.outputs } in then_given g f) none
    ∙ ap (λ (os : List Output). let g : ParentTaken = record { parent = k; outputs = os } in then_given g f) nothing

pub silent_next : (g : ParentTaken) → then_given g silent ≡ g
silent_next g = ap (λ (os : List Output). let n : ParentTaken = record { parent = g.parent; outputs = os } in n) (append-nil g.outputs)

-- ---- what a notice tells

pub told_in : (g : ParentTaken) (p : Peer) (n : Notice) (told : Told) → told.busy ≡ has_pair notices.BUSY.0 notices.BUSY.1 n.kinds → told.cancelled ≡ has_pair notices.CANCELLED.0 notices.CANCELLED.1 n.kinds →
    then_given g (each (λ rp. each (λ step. step p rp) (steps_of told)) n.ids) ≡ then_given g (take_notice p n)
told_in g p n told busy cancels =
    ap (λ (b : Bool). by_steps (cond b (cond told.cancelled (take_busy ∷ take_cancel ∷ []) (take_busy ∷ [])) (cond told.cancelled (take_cancel ∷ []) []))) busy
    ∙ ap (λ (b : Bool). by_steps (cond (has_pair notices.BUSY.0 notices.BUSY.1 n.kinds) (cond b (take_busy ∷ take_cancel ∷ []) (take_busy ∷ [])) (cond b (take_cancel ∷ []) []))) cancels
  where
    by_steps : List (Peer → ℕ × ℕ → Parent → ParentTaken) → ParentTaken
    by_steps steps = then_given g (each (λ rp. each (λ step. step p rp) steps) n.ids)

-- ---- one that ends

pub ends_more : (old new : Ending) (n : ℕ) → new.numbers.items ≡ old.numbers.items ++ n ∷ [] → new.outputs ≡ old.outputs → (k : Parent) → GoesOn k (λ q. silent (ended n q)) old new
ends_more old new n numbers outputs k =
    ap (λ (ns : List ℕ). let g : ParentTaken = record { parent = record k { pending = all_closed ns k.pending }; outputs = new.outputs } in g) numbers
    ∙ ap (λ (q : Pending Asking). let g : ParentTaken = record { parent = record k { pending = q }; outputs = new.outputs } in g) (closed_more old.numbers.items n k.pending)
    ∙ ap (λ (os : List Output). let g : ParentTaken = record { parent = record k { pending = closed_of (all_closed old.numbers.items k.pending) n }; outputs = os } in g)
    (outputs ∙ sym (ap (λ (g : ParentTaken). g.outputs) (silent_next (given_by k old))))

pub answers_more : (old new : Ending) (h : AskingRow) (m : Message) → new.numbers.items ≡ old.numbers.items ++ h.0 ∷ [] → new.outputs ≡ old.outputs ++ record { to = h.1.key.peer; message = m } ∷ [] → (k : Parent) → GoesOn k (answered h m) old new
answers_more old new h m numbers outputs k =
    ap (λ (ns : List ℕ). let g : ParentTaken = record { parent = record k { pending = all_closed ns k.pending }; outputs = new.outputs } in g) numbers
    ∙ ap (λ (q : Pending Asking). let g : ParentTaken = record { parent = record k { pending = q }; outputs = new.outputs } in g) (closed_more old.numbers.items h.0 k.pending)
    ∙ ap (λ (os : List Output). let g : ParentTaken = record { parent = record k { pending = closed_of (all_closed old.numbers.items k.pending) h.0 }; outputs = os } in g) outputs

-- ---- what is done to an id

then_at : (g : ParentTaken) (f h : Parent → ParentTaken) → f g.parent ≡ h g.parent → then_given g f ≡ then_given g h
then_at g f h same = ap (λ (n : ParentTaken). let next : ParentTaken = record { parent = n.parent; outputs = g.outputs ++ n.outputs } in next) same

module _ (k : Parent) (are : ArePending k.pending) (p : Peer) (rp : ℕ × ℕ) (e : Ending) where
  left : Parent
  left = (given_by k e).parent

  awaited : (o : Option AskingRow) → first_sought (Awaited p rp.1) (without_these e.numbers.items k.pending.rows) ≡ o → waiting p rp.1 (all_closed e.numbers.items k.pending).rows ≡ o
  awaited o is = waiting_left p rp.1 e.numbers.items k.pending are ∙ is

  pub busy_none : first_sought (Awaited p rp.1) (without_these e.numbers.items k.pending.rows) ≡ None → GoesOn k (take_busy p rp) e e
  busy_none is = sym (then_at (given_by k e) (take_busy p rp) silent (ap (told_busy (given_by k e).parent) (awaited None is)) ∙ silent_next (given_by k e))

  pub busy_some : (h : AskingRow) (new : Ending) → first_sought (Awaited p rp.1) (without_these e.numbers.items k.pending.rows) ≡ Some h → GoesOn k (answered h (busy h.1.item.flags h.1.key.id)) e new → GoesOn k (take_busy p rp) e new
  busy_some h new is step =
      step ∙ sym (then_at (given_by k e) (take_busy p rp) (answered h (busy h.1.item.flags h.1.key.id)) (ap (told_busy (given_by k e).parent) (awaited (Some h) is)))

  asked : (o : Option AskingRow) → first_sought (Asked p rp.1) (without_these e.numbers.items k.pending.rows) ≡ o → number_of (all_closed e.numbers.items k.pending) p rp.1 ≡ option_map (λ (h : AskingRow). h.0) o
  asked o is = asked_left p rp.1 e.numbers.items k.pending are ∙ ap (option_map (λ (h : AskingRow). h.0)) is

  pub cancel_none : first_sought (Asked p rp.1) (without_these e.numbers.items k.pending.rows) ≡ None → GoesOn k (take_cancel p rp) e e
  cancel_none is = sym (then_at (given_by k e) (take_cancel p rp) silent (ap (cancelled (given_by k e).parent) (asked None is)) ∙ silent_next (given_by k e))

  pub cancel_some : (h : AskingRow) (new : Ending) → first_sought (Asked p rp.1) (without_these e.numbers.items k.pending.rows) ≡ Some h → GoesOn k (λ q. silent (ended h.0 q)) e new → GoesOn k (take_cancel p rp) e new
  cancel_some h new is step =
      step ∙ sym (then_at (given_by k e) (take_cancel p rp) (λ q. silent (ended h.0 q)) (ap (cancelled (given_by k e).parent) (asked (Some h) is)))

  pub fail_none : (error : ℕ × ℕ) → first_sought (Awaited p rp.1) (without_these e.numbers.items k.pending.rows) ≡ None → GoesOn k (λ q. take_failure error q (waiting p rp.1 q.pending.rows)) e e
  fail_none error is =
      sym (then_at (given_by k e) (λ q. take_failure error q (waiting p rp.1 q.pending.rows)) silent (ap (take_failure error (given_by k e).parent) (awaited None is)) ∙ silent_next (given_by k e))

  told : (error : ℕ × ℕ) (h : AskingRow) (ms : List Message) → first_sought (Awaited p rp.1) (without_these e.numbers.items k.pending.rows) ≡ Some h → ms ≡ error_answer error h.1.item.flags h.1.key.id →
      then_given (given_by k e) (λ q. take_failure error q (waiting p rp.1 q.pending.rows)) ≡ then_given (given_by k e) (λ q. told_error h q ms)
  told error h ms is says =
      then_at (given_by k e) (λ q. take_failure error q (waiting p rp.1 q.pending.rows)) (λ q. told_error h q ms)
      (ap (take_failure error (given_by k e).parent) (awaited (Some h) is) ∙ ap (told_error h (given_by k e).parent) (sym says))

  pub fail_some : (error : ℕ × ℕ) (h : AskingRow) (m : Message) (new : Ending) → first_sought (Awaited p rp.1) (without_these e.numbers.items k.pending.rows) ≡ Some h → m ∷ [] ≡ error_answer error h.1.item.flags h.1.key.id →
      GoesOn k (answered h m) e new → GoesOn k (λ q. take_failure error q (waiting p rp.1 q.pending.rows)) e new
  fail_some error h m new is says step = step ∙ sym (told error h (m ∷ []) is says)
