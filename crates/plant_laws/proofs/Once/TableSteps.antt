-- Steps of a table of requests: each ends what it answers, and what is cancelled.
use Rattle.std.proofs.Common.{◌≡◌, ◌&&◌, ℕ, ◌+◌, Bool, true, false, cond, ◌==◌, nat_eq, Some, None, List, [], ◌∷◌, ◌++◌, inl, inr, sym, ◌∙◌, ap, subst, refl, arith}
use Rattle.std.specs.Map.{remove_entry}
use Rattle.std.proofs.lemmas.Bool.{cases_Bool}
use Rattle.plant_model.specs.Types.{Peer, Message, Answer, RequestKey, Held}
use Rattle.request_table.specs.Pending.{Pending, ArePending, key_of, same_peer, same_key, number_of, number_among, closed_of}
use Rattle.request_table.specs.Lends.{written_of}
use Rattle.request_table.proofs.KeyLemmas.{same_key_is}
use Rattle.request_table.proofs.PendingLemmas.{closed_pending}
use Rattle.request_table.proofs.LendLemmas.{written_pending}
use Rattle.plant_model.specs.declared.output.Output.{Output}
use Rattle.plant_model.specs.Names.{has_pair}
use Rattle.plant_model.specs.Writing.{reply_message, error_message, busy, unavailable}
use Rattle.plant_model.specs.Taking.{error_answer}
use Rattle.plant_laws.specs.Transcript.{one_if, count_answers, answers_to}
use Rattle.plant_laws.proofs.Runs.Seen.{seen, seen_none, ended_if, ended_twice, ended_one, seen_written, seen_closed}
use Rattle.plant_laws.proofs.Runs.Rows.{In, found_in, numbered}

abbrev pub any_by : {X : Type 0} → (X → Bool) → List X → Bool
any_by t [] = false
any_by t (x ∷ xs) = cond (t x) true (any_by t xs)

pub answers_append : (p : Peer) (x : ℕ) (os ps : List Output) → answers_to p x (os ++ ps) ≡ answers_to p x os + answers_to p x ps
answers_append p x [] ps = omega arith
answers_append p x (o ∷ os) ps = omega (arith, answers_append p x os ps)

-- a message that answers this id alone
abbrev pub AnswersOnly : ℕ → Message → Type 0
AnswersOnly id m = (x : ℕ) → count_answers x m ≡ one_if (id == x)

pub reply_answers : (flags id : ℕ) (a : Answer) → AnswersOnly id (reply_message flags id a)
reply_answers flags id a x = omega arith

pub busy_answers : (flags id : ℕ) → AnswersOnly id (busy flags id)
busy_answers flags id x = elim (cases_Bool (id == x)) [ inl same ↦ rw same refl | inr other ↦ rw other refl ]

pub error_answers : (flags id : ℕ) → AnswersOnly id (error_message (Some (flags, id)) 13 1)
error_answers flags id x = elim (cases_Bool (id == x)) [ inl same ↦ rw same refl | inr other ↦ rw other refl ]

pub failure_answers : (e : ℕ × ℕ) (flags id : ℕ) (m : Message) → In m (error_answer e flags id) → AnswersOnly id m
failure_answers e flags id m =
    go (has_pair 8 0 (e ∷ [])) (has_pair e.0 e.1 ((4, 4) ∷ (13, 1) ∷ []))
  where
    go : (a b : Bool) → In m (cond a [] (cond b (error_message (Some (flags, id)) 13 1 ∷ []) (reply_message flags id unavailable ∷ []))) → AnswersOnly id m
    go true b none = absurd none
    go false true (inl e) = subst (AnswersOnly id) e (error_answers flags id)
    go false true (inr none) = absurd none
    go false false (inl e) = subst (AnswersOnly id) e (reply_answers flags id unavailable)
    go false false (inr none) = absurd none

-- an error 8/0 answers nothing
pub unknown_answers : (p q : Peer) (rp : ℕ × ℕ) (x : ℕ) → answers_to q x (record { to = p; message = error_message (Some rp) 8 0 } ∷ []) ≡ 0
unknown_answers p q rp x = elim (cases_Bool (same_peer p q)) [ inl same ↦ rw same refl | inr other ↦ rw other refl ]

pub one_answer : (p : Peer) (id : ℕ) (m : Message) → AnswersOnly id m → (key : RequestKey) → answers_to key.peer key.id (record { to = p; message = m } ∷ []) ≡ one_if (same_key (key_of p id) key)
one_answer p id m only key = go (same_peer p key.peer) (id == key.id) (only key.id)
  where
    go : (a b : Bool) → count_answers key.id m ≡ one_if b → cond a (count_answers key.id m) 0 + 0 ≡ one_if (a && b)
    go true b e = omega (arith, e)
    go false b e = refl

abbrev pub nobody : RequestKey → Bool
nobody key = false

module _ {T : Type 0} {U : Type 0} (core : T → U) where
  pub record IsStep (before after : Pending T) (gone : RequestKey → Bool) (os : List Output) : Type 0 where
    pub pending : ArePending after
    pub limit : after.limit ≡ before.limit
    pub table : (key : RequestKey) → seen core key after.rows ≡ ended_if (gone key) (answers_to key.peer key.id os) (seen core key before.rows)

  pub no_step : (t : Pending T) → ArePending t → IsStep t t nobody []
  no_step t are = record { pending = are; limit = refl; table = λ key. refl }

  -- something is said that answers nothing
  pub say_step : (t : Pending T) (os : List Output) → ArePending t → ((key : RequestKey) → answers_to key.peer key.id os ≡ 0) → IsStep t t nobody os
  say_step t os are none = record { pending = are; limit = refl; table = λ key. rw (none key) refl }

  pub then_step : (a b c : Pending T) (f g : RequestKey → Bool) (os ps : List Output) → IsStep a b f os → IsStep b c g ps → IsStep a c (λ key. cond (f key) true (g key)) (os ++ ps)
  then_step a b c f g os ps one two = record {
    pending = two.pending;
    limit = two.limit ∙ one.limit;
    table = λ key.
        two.table key
        ∙ ap (ended_if (g key) (answers_to key.peer key.id ps)) (one.table key)
        ∙ ended_twice (f key) (g key) (answers_to key.peer key.id os) (answers_to key.peer key.id ps) (seen core key a.rows)
        ∙ ap (λ n. ended_if (cond (f key) true (g key)) n (seen core key a.rows)) (sym (answers_append key.peer key.id os ps));
  }

  pub answer_step : (t : Pending T) (h : ℕ × Held T) (m : Message) → ArePending t → In h t.rows → AnswersOnly h.1.key.id m →
      IsStep t (closed_of t h.0) nobody (record { to = h.1.key.peer; message = m } ∷ [])
  answer_step t h m are there only = record {
    pending = closed_pending t.limit t.given h.0 t.rows _ are refl;
    limit = refl;
    table = λ key.
        seen_closed core key h.0 h.1 t.rows are.names (found_in 0 t.given t.rows h are.numbers there)
        ∙ sym (ap (λ n. ended_if false n (seen core key t.rows)) (one_answer h.1.key.peer h.1.key.id m only key) ∙ ended_one (same_key h.1.key key) (seen core key t.rows));
  }

  pub stage_step : (t : Pending T) (h : ℕ × Held T) (item : T) → ArePending t → In h t.rows → core item ≡ core h.1.item → IsStep t (written_of t h.0 item) nobody []
  stage_step t h item are there same = record {
    pending = written_pending t.limit t.given h.0 item t.rows _ are refl;
    limit = refl;
    table = λ key. seen_written core key h.0 item h.1 t.rows (found_in 0 t.given t.rows h are.numbers there) same;
  }

  -- a peer cancels its request
  pub cancel_step : (t : Pending T) (p : Peer) (x : ℕ) (number : ℕ) → ArePending t → number_of t p x ≡ Some number → IsStep t (closed_of t number) (same_key (key_of p x)) []
  cancel_step t p x number are some =
      let r = numbered (key_of p x) t.rows number some in
      record {
        pending = closed_pending t.limit t.given number t.rows _ are refl;
        limit = refl;
        table = λ key.
            subst (λ n. seen core key (remove_entry (nat_eq n) t.rows) ≡ cond (same_key (key_of p x) key) None (seen core key t.rows)) r.2
            (subst (λ k. seen core key (remove_entry (nat_eq r.0.0) t.rows) ≡ cond (same_key k key) None (seen core key t.rows)) (sym (same_key_is (key_of p x) r.0.1.key r.3))
            (seen_closed core key r.0.0 r.0.1 t.rows are.names (found_in 0 t.given t.rows r.0 are.numbers r.1)));
      }

  -- there is none
  pub cancel_none : (t : Pending T) (p : Peer) (x : ℕ) → ArePending t → number_of t p x ≡ None → IsStep t t (same_key (key_of p x)) []
  cancel_none t p x are none = record {
    pending = are;
    limit = refl;
    table = λ key.
        elim (cases_Bool (same_key (key_of p x) key)) [
          | inl own ↦ rw own (seen_none core key t.rows (subst (λ k. number_among k t.rows ≡ None) (same_key_is (key_of p x) key own) none))
          | inr other ↦ rw other refl
        ];
  }
