-- Faults of objects in a message, and what takes memory.
use Rattle.std.proofs.Common.{◌≡◌, ℕ, true, List, Option, None, Result, Ok, Err, refl, sym, ap, ◌∙◌}
use Rattle.pcep_subobjects.proofs.PartLaws.{fault_of_one}
use Rattle.pcep_objects.specs.declared.object.Body.{Body}
use Rattle.pcep_objects.specs.declared.object.Body.TheVariants as bodies
use Rattle.pcep_objects.specs.declared.object.Object.{Object}
use Rattle.pcep_objects.specs.declared.object.ObjectFault.{ObjectFault}
use Rattle.pcep_objects.specs.declared.object.ObjectFault.TheVariants as object_faults
use Rattle.pcep_objects.specs.Objects.{object_at, is_kept, Gives}
use Rattle.pcep_messages.specs.declared.message.Bad.{Bad}
use Rattle.pcep_messages.specs.declared.message.Bad.TheVariants as faults
use Rattle.pcep_messages.specs.Groups.{opening_in}
use Rattle.pcep_messages.specs.Messages.{placed, member_at, members_of, close_in, said_at_first}

abbrev failed : (ℕ → Bad) → Result (Object × ℕ) (ℕ → Bad)
failed fault = Err fault

same : (f g : ℕ → Bad) → failed f ≡ failed g → f ≡ g
same f g is = cc

not_memory : (r : Result (Object × ℕ) (ℕ → ObjectFault)) (place : ℕ) (fault : ℕ → Bad) → placed r ≡ Err fault → fault place ≡ faults.NoMemory → ⊥
not_memory (Ok x) place fault is e = absurd cc
not_memory (Err f) place fault is e = cc (ap (λ (g : ℕ → Bad). g place) (same faults.Malformed fault is))

-- no message is at fault where memory ran out
pub no_memory_at_fault : (bytes : List ℕ) → members_of bytes ≡ Err faults.NoMemory → ⊥
no_memory_at_fault bytes is = fault_of_one member_at (λ f. f ≡ faults.NoMemory → ⊥) (λ b place fault e. not_memory (object_at b) place fault e) 4 0 bytes faults.NoMemory is refl

kept_says_no_opening : (body : Body) → is_kept body ≡ true → opening_in body ≡ None
kept_says_no_opening (bodies.Open o) k = absurd cc
kept_says_no_opening (bodies.Ero route) k = refl
kept_says_no_opening (bodies.Iro route) k = refl
kept_says_no_opening (bodies.PathKey route) k = refl
kept_says_no_opening (bodies.Xro list) k = refl
kept_says_no_opening (bodies.Unread bytes) k = refl
kept_says_no_opening (bodies.Rp flags id) k = refl
kept_says_no_opening (bodies.NoPath nature vector) k = refl
kept_says_no_opening (bodies.EndPoints s t) k = refl
kept_says_no_opening (bodies.Bandwidth word) k = refl
kept_says_no_opening (bodies.Metric b c n word) k = refl
kept_says_no_opening (bodies.Lspa a b c s h f) k = refl
kept_says_no_opening (bodies.Notification n v) k = refl
kept_says_no_opening (bodies.Error n v) k = refl
kept_says_no_opening (bodies.Close r) k = refl

kept_says_no_reason : (body : Body) → is_kept body ≡ true → close_in body ≡ None
kept_says_no_reason (bodies.Close r) k = absurd cc
kept_says_no_reason (bodies.Open o) k = refl
kept_says_no_reason (bodies.Ero route) k = refl
kept_says_no_reason (bodies.Iro route) k = refl
kept_says_no_reason (bodies.PathKey route) k = refl
kept_says_no_reason (bodies.Xro list) k = refl
kept_says_no_reason (bodies.Unread bytes) k = refl
kept_says_no_reason (bodies.Rp flags id) k = refl
kept_says_no_reason (bodies.NoPath nature vector) k = refl
kept_says_no_reason (bodies.EndPoints s t) k = refl
kept_says_no_reason (bodies.Bandwidth word) k = refl
kept_says_no_reason (bodies.Metric b c n word) k = refl
kept_says_no_reason (bodies.Lspa a b c s h f) k = refl
kept_says_no_reason (bodies.Notification n v) k = refl
kept_says_no_reason (bodies.Error n v) k = refl

said_of_fault : {X : Type 0} (what : Body → Option X) → ((body : Body) → is_kept body ≡ true → what body ≡ None)
    → (r : Result (Object × ℕ) (ℕ → ObjectFault)) (e : ObjectFault) → Gives (Err e) r → None ≡ said_at_first what r
said_of_fault what kept r object_faults.NoMemory h = sym (ap (λ q. said_at_first what q) h.1 ∙ kept h.0.0.body h.2)
said_of_fault what kept r object_faults.Short h = sym (ap (λ q. said_at_first what q) h)
said_of_fault what kept r object_faults.BadLength h = sym (ap (λ q. said_at_first what q) h)
said_of_fault what kept r object_faults.BadBody h = sym (ap (λ q. said_at_first what q) h)

pub no_opening : (r : Result (Object × ℕ) (ℕ → ObjectFault)) (e : ObjectFault) → Gives (Err e) r → None ≡ said_at_first opening_in r
no_opening r e h = said_of_fault opening_in kept_says_no_opening r e h

pub no_reason : (r : Result (Object × ℕ) (ℕ → ObjectFault)) (e : ObjectFault) → Gives (Err e) r → None ≡ said_at_first close_in r
no_reason r e h = said_of_fault close_in kept_says_no_reason r e h
