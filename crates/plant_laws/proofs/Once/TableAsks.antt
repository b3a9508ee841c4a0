-- A table of requests takes one: it is refused at once, is there already, or is opened.
use Rattle.std.proofs.Common.{◌≡◌, ◌&&◌, ◌||◌, ◌<◌, ◌^◌, ◌-◌, ℕ, ◌+◌, Bool, true, false, cond, ◌==◌, nat_le, Option, Some, None, [], ◌∷◌, ◌++◌, length, inl, inr, sym, ◌∙◌, ap, subst, refl, arith}
use Rattle.std.proofs.lemmas.Bool.{cases_Bool}
use Rattle.std.proofs.lemmas.Grind.{common_steps}
use Rattle.plant_model.specs.Types.{Peer, Message, RequestKey}
use Rattle.request_table.specs.Pending.{Pending, ArePending, key_of, same_peer, same_key, number_of, opened_of, is_full}
use Rattle.request_table.proofs.KeyLemmas.{same_key_is}
use Rattle.request_table.proofs.PendingLemmas.{opened_pending}
use Rattle.plant_laws.specs.Transcript.{one_if, answers_to, Effect, Keeps, Ends, Begins, ends_if}
use Rattle.plant_laws.proofs.Runs.Seen.{seen, seen_none, seen_some, seen_opened, ended_if}
use Rattle.plant_laws.proofs.Once.TableSteps.{AnswersOnly, one_answer}

-- what a path request does that was admitted
abbrev pub path_effect : Peer → ℕ → RequestKey → ℕ → Effect
path_effect p x key answers = cond (same_peer p key.peer) (cond (x == key.id) (cond (answers == 0) Begins Keeps) Keeps) Keeps

not_le : (a b : ℕ) → nat_le a b ≡ false → b < a
not_le a b h = grind (arith, common_steps)

not_same : (a b : ℕ) → (a == b) ≡ false → a ≡ b → ⊥
not_same a b h e = grind (arith, common_steps)

pub has_room : {T : Type 0} (t : Pending T) → ArePending t → is_full t ≡ false → (length t.rows < t.limit) × (t.given + 1 < 2 ^ 64)
has_room t are h = go (nat_le t.limit (length t.rows)) (t.given == 2 ^ 64 - 1) refl refl h
  where
    go : (a b : Bool) → nat_le t.limit (length t.rows) ≡ a → (t.given == 2 ^ 64 - 1) ≡ b → a || b ≡ false → (length t.rows < t.limit) × (t.given + 1 < 2 ^ 64)
    go true b e f both = absurd (let out : true ≡ false = both in cc)
    go false true e f both = absurd (let out : true ≡ false = both in cc)
    go false false e f both =
        let last = are.last in
        let apart = not_same t.given (2 ^ 64 - 1) f in
        (not_le t.limit (length t.rows) e, grind (arith, apart, last))

module _ {U : Type 0} (Good : RequestKey → U → Type 0) where
  abbrev pub IsBegun : RequestKey → Option U → Option U → Type 0
  IsBegun key None None = ⊥
  IsBegun key None (Some u) = Good key u
  IsBegun key (Some v) None = ⊥
  IsBegun key (Some v) (Some u) = v ≡ u

  abbrev pub Moves : RequestKey → Effect → Option U → Option U → Type 0
  Moves key Keeps before after = after ≡ before
  Moves key Ends before after = after ≡ None
  Moves key Begins before after = IsBegun key before after

  pub moves_ended : (key : RequestKey) (b : Bool) (n : ℕ) (before after : Option U) → after ≡ ended_if b n before → Moves key (cond b Ends (ends_if n)) before after
  moves_ended key true n before after e = e
  moves_ended key false n before after e = elim (cases_Bool (n == 0)) [ inl z ↦ rw z (rw z at e) | inr s ↦ rw s (rw s at e) ]

module _ {T : Type 0} {U : Type 0} (core : T → U) (Good : RequestKey → U → Type 0) where
  pub record IsAsked (effect : RequestKey → Effect) (before after : Pending T) : Type 0 where
    pub pending : ArePending after
    pub limit : after.limit ≡ before.limit
    pub moves : (key : RequestKey) → Moves Good key (effect key) (seen core key before.rows) (seen core key after.rows)

  -- nothing begins
  pub keeps_asked : (t : Pending T) (effect : RequestKey → Effect) → ArePending t → ((key : RequestKey) → effect key ≡ Keeps) → IsAsked effect t t
  keeps_asked t effect are keeps = record { pending = are; limit = refl; moves = λ key. rw (keeps key) refl }

  pub answered_keeps : (p : Peer) (x : ℕ) (m : Message) → AnswersOnly x m → (key : RequestKey) → path_effect p x key (answers_to key.peer key.id (record { to = p; message = m } ∷ [])) ≡ Keeps
  answered_keeps p x m only key =
      ap (λ n. path_effect p x key n) (one_answer p x m only key) ∙ go (same_peer p key.peer) (x == key.id)
    where
      go : (a b : Bool) → cond a (cond b (cond (one_if (a && b) == 0) Begins Keeps) Keeps) Keeps ≡ Keeps
      go true true = refl
      go true false = refl
      go false b = refl

  pub repeats_asked : (t : Pending T) (p : Peer) (x number : ℕ) → ArePending t → number_of t p x ≡ Some number → IsAsked (λ key. path_effect p x key 0) t t
  repeats_asked t p x number are some = record { pending = are; limit = refl; moves = λ key. go key (same_peer p key.peer) (x == key.id) refl }
    where
      there : (key : RequestKey) → same_key (key_of p x) key ≡ true → (o : Option U) → seen core key t.rows ≡ o → IsBegun Good key o o
      there key same None e =
          let r = seen_some core (key_of p x) t.rows number some in
          let k : key_of p x ≡ key = same_key_is (key_of p x) key same in
          let no : None ≡ Some r.0 = sym e ∙ subst (λ z. seen core z t.rows ≡ Some r.0) k r.1 in
          absurd (let out : None ≡ Some r.0 = no in cc)
      there key same (Some u) e = refl

      go : (key : RequestKey) (a b : Bool) → same_key (key_of p x) key ≡ a && b → Moves Good key (cond a (cond b Begins Keeps) Keeps) (seen core key t.rows) (seen core key t.rows)
      go key true true e = there key e (seen core key t.rows) refl
      go key true false e = refl
      go key false b e = refl

  pub opens_asked : (t : Pending T) (p : Peer) (x : ℕ) (item : T) (answers : RequestKey → ℕ) → ArePending t → is_full t ≡ false → number_of t p x ≡ None → ((key : RequestKey) → answers key ≡ 0) →
      Good (key_of p x) (core item) → IsAsked (λ key. path_effect p x key (answers key)) t (opened_of t p x item)
  opens_asked t p x item answers are room none quiet good =
      let r = has_room t are room in
      record {
        pending = opened_pending t.limit t.given t.rows (t.rows ++ (t.given + 1, record { key = key_of p x; item = item }) ∷ []) (record { key = key_of p x; item = item }) are r.0 r.1 none refl;
        limit = refl;
        moves = λ key. rw (quiet key, seen_opened core key (t.given + 1) (record { key = key_of p x; item = item }) t.rows none) (go key (same_peer p key.peer) (x == key.id) refl);
      }
    where
      fresh : (key : RequestKey) → same_key (key_of p x) key ≡ true → IsBegun Good key (seen core key t.rows) (Some (core item))
      fresh key same =
          let k : key_of p x ≡ key = same_key_is (key_of p x) key same in
          subst (λ z. IsBegun Good z (seen core z t.rows) (Some (core item))) k
          (subst (λ o. IsBegun Good (key_of p x) o (Some (core item))) (sym (seen_none core (key_of p x) t.rows none)) good)

      go : (key : RequestKey) (a b : Bool) → same_key (key_of p x) key ≡ a && b →
          Moves Good key (cond a (cond b Begins Keeps) Keeps) (seen core key t.rows) (cond (a && b) (Some (core item)) (seen core key t.rows))
      go key true true e = fresh key e
      go key true false e = refl
      go key false b e = refl
