-- What an element sends is alike with pins and segments and without them: the same but for messages to clients.
use Rattle.std.proofs.Common.{◌≡◌, ◌⊎◌, ℕ, Bool, true, false, cond, nat_le, ◌||◌, ◌==◌, ◌^◌, ◌-◌, List, [], ◌∷◌, ◌++◌, Option, Some, None, sym, ◌∙◌, ap, subst, inl, inr, refl}
use Rattle.plant_model.specs.Types.{Addr, Peer, Hop, Message, Answer, Request, Wish, Class, NetworkParts, Best, Issued}
use Rattle.pcep_messages.specs.declared.message.Message.TheVariants as messages
use Rattle.pcep_messages.specs.declared.message.Wish.TheVariants.{Path, Expand}
use Rattle.disclosure.specs.declared.class.Class.TheVariants.{Client, Neighbour, Parent}
use Rattle.plant_model.specs.declared.output.Output.{Output}
use Rattle.plant_model.specs.Names.{same_addr, has_pair}
use Rattle.plant_model.specs.Wire.{Codec, Checked, Admitted, Wrong}
use Rattle.disclosure.specs.Policy.{can_expand}
use Rattle.request_table.specs.Pending.{number_of, key_of, is_full}
use Rattle.path_keys.specs.Keys.{Keys, segment_of, issue_of, live_at, number_after}
use Rattle.plant_model.specs.Writing.{reply_message, error_message, busy, no_key}
use Rattle.plant_model.specs.Element.{Element, ElementSettings, Taken, silent, only, each, waiting, is_client}
use Rattle.plant_model.specs.Taking.{take, take_asked, take_checked, take_new, take_wish, take_path, take_reply, take_notice, notice_steps, take_busy, take_cancel, take_errors, take_failure, take_report, expansion, expansion_of, sight, wanting}
use Rattle.plant_model.specs.Solving.{issued_all}
use Rattle.plant_text.specs.Settings.{class_of}
use Rattle.plant_model.specs.Blind.{is_closed}
use Rattle.plant_laws.proofs.Blind.Strip.{bare, bare_taken, bare_keys, bare_key, bare_key_rows, taken_cond, bare_number, bare_live, bare_waiting, bare_length, bare_reply, bare_busy, bare_cancel, bare_failure, bare_path}

-- the same receivers, and the same messages to those that are closed
abbrev pub AreAlike : NetworkParts → List Output → List Output → Type 0
AreAlike n [] [] = Unit {0}
AreAlike n [] (y ∷ ys) = ⊥
AreAlike n (x ∷ xs) [] = ⊥
AreAlike n (x ∷ xs) (y ∷ ys) = (x.to ≡ y.to) × ((x ≡ y) ⊎ (is_closed n x.to ≡ false)) × AreAlike n xs ys

pub same_alike : (n : NetworkParts) (xs : List Output) → AreAlike n xs xs
same_alike n [] = tt
same_alike n (x ∷ xs) = (refl, inl refl, same_alike n xs)

pub append_alike : (n : NetworkParts) (xs xs' ys ys' : List Output) → AreAlike n xs xs' → AreAlike n ys ys' → AreAlike n (xs ++ ys) (xs' ++ ys')
append_alike n [] [] ys ys' h k = k
append_alike n [] (x' ∷ xs') ys ys' h k = absurd h
append_alike n (x ∷ xs) [] ys ys' h k = absurd h
append_alike n (x ∷ xs) (x' ∷ xs') ys ys' h k = (h.0, h.1, append_alike n xs xs' ys ys' h.2 k)

module _ (P : Type 0) (S : Type 0) (Q : Type 0) (view : P → Q) (n : NetworkParts) where
  -- an element's step, and the same without pins and segments
  pub record Alike (t : Taken P S) (u : Taken Q (Unit {0})) : Type 0 where
    pub element : u.element ≡ bare view t.element
    pub outputs : AreAlike n t.outputs u.outputs

  pub from_same : (t : Taken P S) (u : Taken Q (Unit {0})) → u ≡ bare_taken view t → Alike t u
  from_same t u is = record {
    element = ap (λ (v : Taken Q (Unit {0})). v.element) is;
    outputs = subst (λ (os : List Output). AreAlike n t.outputs os) (sym (ap (λ (v : Taken Q (Unit {0})). v.outputs) is)) (same_alike n t.outputs);
  }

  alike_cond : (b : Bool) (x y : Taken P S) (x' y' : Taken Q (Unit {0})) → Alike x x' → Alike y y' → Alike (cond b x y) (cond b x' y')
  alike_cond true x y x' y' h k = h
  alike_cond false x y x' y' h k = k

  pub each_alike : {X : Type 0} (f : X → Element P S → Taken P S) (g : X → Element Q (Unit {0}) → Taken Q (Unit {0})) →
      ((x : X) (k : Element P S) → Alike (f x k) (g x (bare view k))) → (xs : List X) (k : Element P S) → Alike (each f xs k) (each g xs (bare view k))
  each_alike f g both [] k = record { element = refl; outputs = tt }
  each_alike f g both (x ∷ xs) k =
      let first = both x k in
      let rest = each_alike f g both xs (f x k).element in
      let at_rest = subst (λ (e : Element Q (Unit {0})). Alike (each f xs (f x k).element) (each g xs e)) (sym first.element) rest in
      record { element = at_rest.element; outputs = append_alike n (f x k).outputs (g x (bare view k)).outputs _ _ first.outputs at_rest.outputs }

  -- a key's expansion: what stands behind it goes to clients alone
  opens_to_client : (class : Class) → can_expand class ≡ true → is_client class ≡ true
  opens_to_client (Client may) e = refl
  opens_to_client (Neighbour a) e = let no : false ≡ true = e in cc
  opens_to_client Parent e = let no : false ≡ true = e in cc

  expansion_alike : (show : S → List Hop) (e : ElementSettings) (p : Peer) (now flags x key : ℕ) (pce : Addr) (k : Element P S) →
      Alike (only p (reply_message flags x (expansion show e (class_of n p) now key pce k)) k) (only p (reply_message flags x (expansion (λ u. []) e (class_of n p) now key pce (bare view k))) (bare view k))
  expansion_alike show e p now flags x key pce k = record { element = refl; outputs = (refl, go (can_expand (class_of n p)) refl, tt) }
    where
      closed_alike : (b : Bool) → b ≡ true → cond b false true ≡ false
      closed_alike true e = refl
      closed_alike false e = let no : false ≡ true = e in cc

      same_if : (m : Bool) (s : Bool) (y z : Answer) → m ≡ false → cond s (cond m y no_key) no_key ≡ cond s (cond m z no_key) no_key
      same_if true s y z e = let no : true ≡ false = e in cc
      same_if false s y z e = refl

      go : (m : Bool) → can_expand (class_of n p) ≡ m →
          ◌≡◌ {A = Output} (record { to = p; message = reply_message flags x (expansion show e (class_of n p) now key pce k) }) (record { to = p; message = reply_message flags x (expansion (λ u. []) e (class_of n p) now key pce (bare view k)) })
          ⊎ (is_closed n p ≡ false)
      go true is = inr (closed_alike (is_client (class_of n p)) (opens_to_client (class_of n p) is))
      go false is =
          inl (ap (λ (a : Answer). let o : Output = record { to = p; message = reply_message flags x a } in o)
          (same_if (can_expand (class_of n p)) (same_addr pce e.id) (expansion_of show (segment_of k.keys now key)) (expansion_of (λ u. []) (segment_of (bare view k).keys now key)) is))

  full_same : (k : Element P S) → is_full (bare view k).pending ≡ is_full k.pending
  full_same k = ap (λ (l : ℕ). nat_le k.pending.limit l || (k.pending.given == 2 ^ 64 - 1)) (bare_length P S Q view k.pending.rows)

  wish_alike : (show : S → List Hop) (e : ElementSettings) (pin : P) (p : Peer) (now flags x : ℕ) (k : Element P S) (w : Wish) →
      Alike (take_wish show e (sight pin p (class_of n p)) now flags x k w) (take_wish (λ u. []) e (sight (view pin) p (class_of n p)) now flags x (bare view k) w)
  wish_alike show e pin p now flags x k (Expand key pce) = expansion_alike show e p now flags x key pce k
  wish_alike show e pin p now flags x k (Path w) =
      from_same (take_wish show e (sight pin p (class_of n p)) now flags x k (Path w)) (take_wish (λ u. []) e (sight (view pin) p (class_of n p)) now flags x (bare view k) (Path w))
      (ap (λ b. cond b (only p (busy flags x) (bare view k)) (take_path e (sight (view pin) p (class_of n p)) (wanting flags x w) (bare view k))) (full_same k)
      ∙ ap (λ t. cond (is_full k.pending) (only p (busy flags x) (bare view k)) t) (bare_path P S Q view e pin p (class_of n p) flags x w k)
      ∙ sym (taken_cond P S Q view (is_full k.pending) (only p (busy flags x) k) (take_path e (sight pin p (class_of n p)) (wanting flags x w) k)))

  new_alike : (show : S → List Hop) (e : ElementSettings) (pin : P) (p : Peer) (now : ℕ) (r : Request) (k : Element P S) (o : Option ℕ) →
      Alike (take_new show e pin p (class_of n p) now r k o) (take_new (λ u. []) e (view pin) p (class_of n p) now r (bare view k) o)
  new_alike show e pin p now r k None = wish_alike show e pin p now r.flags r.id k r.wish
  new_alike show e pin p now r k (Some h) = record { element = refl; outputs = tt }

  checked_alike : (show : S → List Hop) (e : ElementSettings) (pin : P) (p : Peer) (now : ℕ) (k : Element P S) (r : Checked) →
      Alike (take_checked show e pin p (class_of n p) now k r) (take_checked (λ u. []) e (view pin) p (class_of n p) now (bare view k) r)
  checked_alike show e pin p now k (Wrong rp kind value) = record { element = refl; outputs = same_alike n (record { to = p; message = error_message rp kind value } ∷ []) }
  checked_alike show e pin p now k (Admitted r) =
      subst (λ o. Alike (take_new show e pin p (class_of n p) now r k (number_of k.pending p r.id)) (take_new (λ u. []) e (view pin) p (class_of n p) now r (bare view k) o))
      (sym (bare_number P S Q view (key_of p r.id) k.pending.rows)) (new_alike show e pin p now r k (number_of k.pending p r.id))

  -- one id of a notice, and of an error
  steps_alike : (p : Peer) (rp : ℕ × ℕ) (kinds : List (ℕ × ℕ)) (k : Element P S) →
      Alike (each (λ step. step p rp) (notice_steps kinds) k) (each (λ step. step p rp) (notice_steps kinds) (bare view k))
  steps_alike p rp kinds k = go (has_pair 1 2 kinds) (has_pair 1 1 kinds)
    where
      busy_alike : (k : Element P S) → Alike (take_busy p rp k) (take_busy p rp (bare view k))
      busy_alike k = from_same (take_busy p rp k) (take_busy p rp (bare view k)) (bare_busy P S Q view p rp k)

      cancel_alike : (k : Element P S) → Alike (take_cancel p rp k) (take_cancel p rp (bare view k))
      cancel_alike k = from_same (take_cancel p rp k) (take_cancel p rp (bare view k)) (bare_cancel P S Q view p rp k)

      then_alike : (t : Taken P S) (u : Taken Q (Unit {0})) (f : Element P S → Taken P S) (g : Element Q (Unit {0}) → Taken Q (Unit {0})) →
          Alike t u → ((k : Element P S) → Alike (f k) (g (bare view k))) →
          Alike (record { element = (f t.element).element; outputs = t.outputs ++ (f t.element).outputs }) (record { element = (g u.element).element; outputs = u.outputs ++ (g u.element).outputs })
      then_alike t u f g h both =
          let k' = subst (λ (e : Element Q (Unit {0})). Alike (f t.element) (g e)) (sym h.element) (both t.element) in
          record { element = k'.element; outputs = append_alike n t.outputs u.outputs (f t.element).outputs (g u.element).outputs h.outputs k'.outputs }

      silent_alike : (k : Element P S) → Alike (silent k) (silent (bare view k))
      silent_alike k = record { element = refl; outputs = tt }

      one : (f : Peer → ℕ × ℕ → Element P S → Taken P S) (g : Peer → ℕ × ℕ → Element Q (Unit {0}) → Taken Q (Unit {0})) →
          ((k : Element P S) → Alike (f p rp k) (g p rp (bare view k))) → (k : Element P S) → Alike (each (λ step. step p rp) (f ∷ []) k) (each (λ step. step p rp) (g ∷ []) (bare view k))
      one f g both k = then_alike (f p rp k) (g p rp (bare view k)) silent silent (both k) silent_alike

      go : (b a : Bool) →
          Alike (each (λ step. step p rp) (cond b (cond a (take_busy ∷ take_cancel ∷ []) (take_busy ∷ [])) (cond a (take_cancel ∷ []) [])) k)
          (each (λ step. step p rp) (cond b (cond a (take_busy ∷ take_cancel ∷ []) (take_busy ∷ [])) (cond a (take_cancel ∷ []) [])) (bare view k))
      go true true =
          then_alike (take_busy p rp k) (take_busy p rp (bare view k)) (each (λ step. step p rp) (take_cancel ∷ [])) (each (λ step. step p rp) (take_cancel ∷ [])) (busy_alike k) (one take_cancel take_cancel cancel_alike)
      go true false = one take_busy take_busy busy_alike k
      go false true = one take_cancel take_cancel cancel_alike k
      go false false = silent_alike k

  failure_alike : (p : Peer) (e : ℕ × ℕ) (rp : ℕ × ℕ) (k : Element P S) →
      Alike (take_failure e k (waiting p rp.1 k.pending.rows)) (take_failure e (bare view k) (waiting p rp.1 (bare view k).pending.rows))
  failure_alike p e rp k =
      from_same (take_failure e k (waiting p rp.1 k.pending.rows)) (take_failure e (bare view k) (waiting p rp.1 (bare view k).pending.rows))
      (ap (λ o. take_failure e (bare view k) o) (bare_waiting P S Q view p rp.1 k.pending.rows) ∙ bare_failure P S Q view e k (waiting p rp.1 k.pending.rows))

  report_alike : (p : Peer) (ids errors : List (ℕ × ℕ)) (k : Element P S) → Alike (take_errors p ids errors k) (take_errors p ids errors (bare view k))
  report_alike p ids [] k = record { element = refl; outputs = tt }
  report_alike p ids (e ∷ es) k =
      each_alike (λ rp k. take_failure e k (waiting p rp.1 k.pending.rows)) (λ rp k. take_failure e k (waiting p rp.1 k.pending.rows)) (failure_alike p e) ids k

  -- An element that is given a message does the same, but for what a client is shown.
  pub take_alike : (c : Codec) (show : S → List Hop) (e : ElementSettings) (pin : P) (p : Peer) (now : ℕ) (m : Message) (k : Element P S) →
      Alike (take c show e pin p (class_of n p) now m k) (take c (λ u. []) e (view pin) p (class_of n p) now m (bare view k))
  take_alike c show e pin p now (messages.PcReq asks) k =
      each_alike (take_asked c show e pin p (class_of n p) now) (take_asked c (λ u. []) e (view pin) p (class_of n p) now) (λ a k. checked_alike show e pin p now k (c.check a e.own)) asks k
  take_alike c show e pin p now (messages.PcRep replies) k =
      each_alike (take_reply c p) (take_reply c p) (λ r k. from_same (take_reply c p r k) (take_reply c p r (bare view k)) (bare_reply P S Q view c p r k)) replies k
  take_alike c show e pin p now (messages.PcNtf notices) k =
      each_alike (take_notice p) (take_notice p) (λ r k. each_alike (λ rp. each (λ step. step p rp) (notice_steps r.kinds)) (λ rp. each (λ step. step p rp) (notice_steps r.kinds)) (λ rp k. steps_alike p rp r.kinds k) r.ids k) notices k
  take_alike c show e pin p now (messages.PcErr reports) k = each_alike (take_report p) (take_report p) (λ r k. report_alike p r.ids r.errors k) reports k
  take_alike c show e pin p now (messages.Open body) k = record { element = refl; outputs = tt }
  take_alike c show e pin p now messages.Keepalive k = record { element = refl; outputs = tt }
  take_alike c show e pin p now (messages.Close why) k = record { element = refl; outputs = tt }
  take_alike c show e pin p now (messages.Other kind) k = record { element = refl; outputs = tt }

  -- A closed answer: keys are numbered alike, whatever they stand for.
  pub issued_same : (now : ℕ) (stands : Best → S) (bs : List Best) (keys : Keys S) → issued_all now (λ b. tt) bs (bare_keys keys) ≡ bare_keys (issued_all now stands bs keys)
  issued_same now stands [] keys = refl
  issued_same now stands (b ∷ bs) keys =
      let new : Issued S = record { number = keys.next; at = record { 0 = now }; segment = stands b } in
      ap (λ rows. issued_all now (λ b. tt) bs (with_issued keys now rows))
      (ap (λ rows. rows ++ bare_key new ∷ []) (bare_live P S Q view now keys.life keys.issued) ∙ sym (key_append (live_at keys now) new))
      ∙ issued_same now stands bs (issue_of keys now (stands b))
    where
      with_issued : Keys S → ℕ → List (Issued (Unit {0})) → Keys (Unit {0})
      with_issued keys now rows = record { life = keys.life; next = number_after keys.next; clock = now; issued = rows }

      key_append : (xs : List (Issued S)) (y : Issued S) → bare_key_rows (xs ++ y ∷ []) ≡ bare_key_rows xs ++ bare_key_rows (y ∷ [])
      key_append [] y = refl
      key_append (x ∷ xs) y = ap (λ l. bare_key x ∷ l) (key_append xs y)
