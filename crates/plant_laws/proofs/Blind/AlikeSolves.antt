-- A solve is answered alike without pins and segments: to a closed peer the same bytes, with keys numbered alike.
use Rattle.std.proofs.Common.{◌≡◌, ℕ, ◌-◌, Bool, true, false, cond, nat_lt, List, [], ◌∷◌, length, sym, ◌∙◌, ap, inr, refl, suc}
use Rattle.pcep_messages.specs.declared.message.Answer.TheVariants.{Paths, NoPath}
use Rattle.plant_model.specs.Types.{NetworkParts, Best, Branch, Issued}
use Rattle.plant_model.specs.Wire.{Codec}
use Rattle.path_keys.specs.Keys.{Keys, live_at, live_most}
use Rattle.plant_model.specs.Writing.{reply_message, busy}
use Rattle.plant_model.specs.Element.{Row, Element, ElementSettings, Taken, is_client}
use Rattle.plant_model.specs.Taking.{answered}
use Rattle.plant_model.specs.Solving.{commit, client_reply, closed_reply, closed_paths, issued_all, free, job_found}
use Rattle.plant_model.specs.Blind.{is_closed}
use Rattle.plant_laws.proofs.Blind.Strip.{bare, bare_taken, bare_row, bare_key_rows, taken_cond, bare_live, bare_answered, bare_ended}
use Rattle.plant_laws.proofs.Blind.Alike.{Alike, from_same, issued_same}

module _ (P : Type 0) (S : Type 0) (Q : Type 0) (view : P → Q) (n : NetworkParts) (c : Codec) (e : ElementSettings) where
  keys_length : (ks : List (Issued S)) → length (bare_key_rows ks) ≡ length ks
  keys_length [] = refl
  keys_length (k ∷ ks) = ap suc (keys_length ks)

  free_same : (now : ℕ) (k : Element P S) → free now (bare view k).keys ≡ free now k.keys
  free_same now k =
      ap (λ (ks : List (Issued (Unit {0}))). live_most - length ks) (bare_live P S Q view now k.keys.life k.keys.issued)
      ∙ ap (λ (l : ℕ). live_most - l) (keys_length (live_at k.keys now))

  closed_same : (h : Row P) (down : List Branch) (now : ℕ) (stands : Best → S) (k : Element P S) (best : List Best) →
      closed_reply c e (bare_row view h) down now (λ b. tt) (bare view k) best ≡ bare_taken view (closed_reply c e h down now stands k best)
  closed_same h down now stands k [] = bare_answered P S Q view h (reply_message h.1.item.flags h.1.key.id (NoPath 0 0)) k
  closed_same h down now stands k (b ∷ bs) =
      let m = reply_message h.1.item.flags h.1.key.id (Paths (closed_paths c e.id h.1.item.wanted.query.metric h.1.item.wanted.target down k.keys.next (b ∷ bs))) in
      let k2 = record k { keys = issued_all now stands (b ∷ bs) k.keys } in
      let full = nat_lt (free now k.keys) (length (b ∷ bs)) in
      ap (λ (f : ℕ). cond (nat_lt f (length (b ∷ bs))) (answered (bare_row view h) (busy h.1.item.flags h.1.key.id) (bare view k)) (answered (bare_row view h) m (record (bare view k) { keys = issued_all now (λ b. tt) (b ∷ bs) (bare view k).keys }))) (free_same now k)
      ∙ ap (λ (t : Taken Q (Unit {0})). cond full t (answered (bare_row view h) m (record (bare view k) { keys = issued_all now (λ b. tt) (b ∷ bs) (bare view k).keys }))) (bare_answered P S Q view h (busy h.1.item.flags h.1.key.id) k)
      ∙ ap (λ (t : Taken Q (Unit {0})). cond full (bare_taken view (answered h (busy h.1.item.flags h.1.key.id) k)) t)
      (ap (λ (keys : Keys (Unit {0})). answered (bare_row view h) m (record (bare view k) { keys = keys })) (issued_same P S Q view n now stands (b ∷ bs) k.keys) ∙ bare_answered P S Q view h m k2)
      ∙ sym (taken_cond P S Q view full (answered h (busy h.1.item.flags h.1.key.id) k) (answered h m k2))

  -- To a closed peer: the same.
  pub commit_closed : (h : Row P) (down : List Branch) (now : ℕ) (stands : Best → S) (source_known target_known : Bool) (best : List Best) (k : Element P S) →
      is_client h.1.item.class ≡ false →
      Alike P S Q view n (commit c e h down now stands (job_found source_known target_known best) k) (commit c e (bare_row view h) down now (λ b. tt) (job_found true true best) (bare view k))
  commit_closed h down now stands source_known target_known best k closed =
      from_same P S Q view n (commit c e h down now stands (job_found source_known target_known best) k) (commit c e (bare_row view h) down now (λ b. tt) (job_found true true best) (bare view k))
      (go (is_client h.1.item.class) closed)
    where
      go : (b : Bool) → b ≡ false →
          cond b (answered (bare_row view h) (client_reply c (bare_row view h) down true true best) (bare view k)) (closed_reply c e (bare_row view h) down now (λ b. tt) (bare view k) best)
          ≡ bare_taken view (cond b (answered h (client_reply c h down source_known target_known best) k) (closed_reply c e h down now stands k best))
      go true e' = cc
      go false e' = closed_same h down now stands k best

  -- To a client, whose answer no closed peer hears: the request ends.
  pub commit_client : (h : Row P) (down : List Branch) (now : ℕ) (stands : Best → S) (source_known target_known : Bool) (best : List Best) (k : Element P S) →
      is_client h.1.item.class ≡ true → is_closed n h.1.key.peer ≡ false →
      Alike P S Q view n (commit c e h down now stands (job_found source_known target_known best) k) (commit c e (bare_row view h) down now (λ b. tt) (job_found true true []) (bare view k))
  commit_client h down now stands source_known target_known best k client heard = go (is_client h.1.item.class) client
    where
      go : (b : Bool) → b ≡ true →
          Alike P S Q view n (cond b (answered h (client_reply c h down source_known target_known best) k) (closed_reply c e h down now stands k best))
          (cond b (answered (bare_row view h) (client_reply c (bare_row view h) down true true []) (bare view k)) (closed_reply c e (bare_row view h) down now (λ b. tt) (bare view k) []))
      go true e' = record { element = bare_ended P S Q view h.0 k; outputs = (refl, inr heard, tt) }
      go false e' = cc
