-- The rows of an element after replies, notices, errors, a fall or a solve are older rows, some of them made ready.
use Rattle.std.proofs.Common.{◌≡◌, ◌⊎◌, ℕ, Bool, true, false, cond, ◌==◌, nat_eq, nat_lt, Option, Some, None, List, [], ◌∷◌, length, filter, inl, inr, sym, ◌∙◌, ap, refl}
use Rattle.std.specs.Map.{remove_entry}
use Rattle.std.proofs.lemmas.Bool.{cases_Bool}
use Rattle.plant_model.specs.Types.{Peer, Message, Reply, Notice, ErrorReport, Answer, Held, Best, Branch}
use Rattle.pcep_messages.specs.declared.message.Answer.TheVariants.{Paths, NoPath}
use Rattle.request_table.specs.Pending.{number_of, same_peer}
use Rattle.request_table.specs.Lends.{with_item}
use Rattle.plant_model.specs.Names.{the_parent, has_pair}
use Rattle.plant_model.specs.Wire.{Codec}
use Rattle.plant_model.specs.Element.{Ready, Item, Row, Element, ElementSettings, Taken, each, at_stage, is_ready, waiting, is_client, downed, stays}
use Rattle.plant_model.specs.Taking as taking
use Rattle.plant_model.specs.Taking.{error_answer}
use Rattle.plant_model.specs.Solving.{commit, closed_reply, free, job_found}
use Rattle.plant_laws.proofs.Runs.Rows.{In}

pub in_removed : {T : Type 0} (t : ℕ → Bool) (rows : List (ℕ × Held T)) (h : ℕ × Held T) → In h (remove_entry t rows) → In h rows
in_removed t [] h none = none
in_removed t (row ∷ rows) h i = elim (cases_Bool (t row.0)) [ inl hit ↦ inr (rw hit at i) | inr miss ↦ go (in_removed t rows h) (rw miss at i) ]
  where
    go : (In h (remove_entry t rows) → In h rows) → In h (row ∷ remove_entry t rows) → In h (row ∷ rows)
    go rec (inl e) = inl e
    go rec (inr i) = inr (rec i)

pub in_filtered : {A : Type 0} (t : A → Bool) (xs : List A) (x : A) → In x (filter t xs) → In x xs
in_filtered t [] x none = none
in_filtered t (y ∷ ys) x i = elim (cases_Bool (t y)) [ inl hit ↦ go (in_filtered t ys x) (rw hit at i) | inr miss ↦ inr (in_filtered t ys x (rw miss at i)) ]
  where
    go : (In x (filter t ys) → In x ys) → In x (y ∷ filter t ys) → In x (y ∷ ys)
    go rec (inl e) = inl e
    go rec (inr i) = inr (rec i)

module _ (P : Type 0) where
  abbrev pub IsOlder : List (Row P) → Row P → Type 0
  IsOlder rows h' = (h : Row P) × In h rows × (h'.1.key ≡ h.1.key) × ((h'.1.item ≡ h.1.item) ⊎ (is_ready h'.1.item.stage ≡ true))

  abbrev pub Subsides : List (Row P) → List (Row P) → Type 0
  Subsides rows rows' = (h' : Row P) → In h' rows' → IsOlder rows h'

  pub sub_same : (rows : List (Row P)) → Subsides rows rows
  sub_same rows h i = (h, i, refl, inl refl)

  sub_within : (rows rows' : List (Row P)) → ((h : Row P) → In h rows' → In h rows) → Subsides rows rows'
  sub_within rows rows' within h i = (h, within h i, refl, inl refl)

  sub_then : (a b d : List (Row P)) → Subsides a b → Subsides b d → Subsides a d
  sub_then a b d one two h i =
      let r = two h i in
      let q = one r.0 r.1 in
      (q.0, q.1, r.2 ∙ q.2, go r.3 q.3)
    where
      go : {x y z : Item P} → (x ≡ y) ⊎ (is_ready x.stage ≡ true) → (y ≡ z) ⊎ (is_ready y.stage ≡ true) → (x ≡ z) ⊎ (is_ready x.stage ≡ true)
      go (inl e) (inl f) = inl (e ∙ f)
      go (inl e) (inr ready) = inr (ap (λ (i : Item P). is_ready i.stage) e ∙ ready)
      go (inr ready) q = inr ready

  sub_written : (number : ℕ) (item : Item P) (rows : List (Row P)) → is_ready item.stage ≡ true → Subsides rows (with_item number item rows)
  sub_written number item [] ready h none = absurd none
  sub_written number item (row ∷ rows) ready h i =
      elim (cases_Bool (nat_eq number row.0)) [
        | inl hit ↦ first (rw hit at i)
        | inr miss ↦ later (sub_written number item rows ready h) (rw miss at i)
      ]
    where
      first : In h ((row.0, record row.1 { item = item }) ∷ rows) → IsOlder (row ∷ rows) h
      first (inl e) = (row, inl refl, sym (ap (λ (r : Row P). r.1.key) e), inr (sym (ap (λ (r : Row P). is_ready r.1.item.stage) e) ∙ ready))
      first (inr i) = (h, inr i, refl, inl refl)

      later : (In h (with_item number item rows) → IsOlder rows h) → In h (row ∷ with_item number item rows) → IsOlder (row ∷ rows) h
      later rec (inl e) = (row, inl refl, sym (ap (λ (r : Row P). r.1.key) e), inl (sym (ap (λ (r : Row P). r.1.item) e)))
      later rec (inr i) = let r = rec i in (r.0, inr r.1, r.2, r.3)

  module _ (S : Type 0) where
    abbrev pub Subs : Element P S → Taken P S → Type 0
    Subs k t = Subsides k.pending.rows t.element.pending.rows

    choose : (k : Element P S) (b : Bool) (t u : Taken P S) → Subs k t → Subs k u → Subs k (cond b t u)
    choose k true t u x y = x
    choose k false t u x y = y

    each_subs : {X : Type 0} (f : X → Element P S → Taken P S) → ((x : X) (k : Element P S) → Subs k (f x k)) → (xs : List X) (k : Element P S) → Subs k (each f xs k)
    each_subs f one [] k = sub_same k.pending.rows
    each_subs f one (x ∷ xs) k =
        sub_then k.pending.rows (f x k).element.pending.rows (each f xs (f x k).element).element.pending.rows (one x k) (each_subs f one xs (f x k).element)

    ends : (k : Element P S) (number : ℕ) → Subsides k.pending.rows (remove_entry (nat_eq number) k.pending.rows)
    ends k number = sub_within k.pending.rows (remove_entry (nat_eq number) k.pending.rows) (in_removed (nat_eq number) k.pending.rows)

    module _ (c : Codec) (p : Peer) where
      made_subs : (h : Row P) (a : Answer) (k : Element P S) → Subs k (taking.made_ready c h a k)
      made_subs h (Paths ps) k = sub_written h.0 (at_stage (Ready _) h.1.item) k.pending.rows refl
      made_subs h (NoPath nature vector) k = choose k (nature == 0) _ _ (sub_written h.0 (at_stage (Ready []) h.1.item) k.pending.rows refl) (ends k h.0)

      answer_subs : (r : Reply) (k : Element P S) (o : Option (Row P)) → Subs k (taking.take_answer c p r k o)
      answer_subs r k None = sub_same k.pending.rows
      answer_subs r k (Some h) = choose k (same_peer p the_parent) _ _ (ends k h.0) (made_subs h r.answer k)

      pub replies_subs : (rs : List Reply) (k : Element P S) → Subs k (each (taking.take_reply c p) rs k)
      replies_subs rs k = each_subs (taking.take_reply c p) (λ r k. answer_subs r k (waiting p r.id k.pending.rows)) rs k

      busy_subs : (k : Element P S) (o : Option (Row P)) → Subs k (taking.told_busy k o)
      busy_subs k None = sub_same k.pending.rows
      busy_subs k (Some h) = ends k h.0

      cancel_subs : (k : Element P S) (o : Option ℕ) → Subs k (taking.cancelled k o)
      cancel_subs k None = sub_same k.pending.rows
      cancel_subs k (Some number) = ends k number

      steps_subs : (rp : ℕ × ℕ) (kinds : List (ℕ × ℕ)) (k : Element P S) → Subs k (each (λ (step : Peer → ℕ × ℕ → Element P S → Taken P S). step p rp) (taking.notice_steps kinds) k)
      steps_subs rp kinds k = go (has_pair 1 2 kinds) (has_pair 1 1 kinds)
        where
          busy_one : (k : Element P S) → Subs k (taking.take_busy p rp k)
          busy_one k = busy_subs k (waiting p rp.1 k.pending.rows)

          cancel_one : (k : Element P S) → Subs k (taking.take_cancel p rp k)
          cancel_one k = cancel_subs k (number_of k.pending p rp.1)

          go : (a b : Bool) → Subs k (each (λ (step : Peer → ℕ × ℕ → Element P S → Taken P S). step p rp) (cond a (cond b (taking.take_busy ∷ taking.take_cancel ∷ []) (taking.take_busy ∷ [])) (cond b (taking.take_cancel ∷ []) [])) k)
          go true true =
              let t = taking.take_busy p rp k in
              let u = taking.take_cancel p rp t.element in
              sub_then k.pending.rows t.element.pending.rows u.element.pending.rows (busy_one k) (cancel_one t.element)
          go true false = busy_one k
          go false true = cancel_one k
          go false false = sub_same k.pending.rows

      pub notices_subs : (ns : List Notice) (k : Element P S) → Subs k (each (taking.take_notice p) ns k)
      notices_subs ns k =
          each_subs (taking.take_notice p) (λ x k. each_subs (λ (rp : ℕ × ℕ). each (λ (step : Peer → ℕ × ℕ → Element P S → Taken P S). step p rp) (taking.notice_steps x.kinds)) (λ rp k. steps_subs rp x.kinds k) x.ids k) ns k

      told_subs : (h : Row P) (k : Element P S) (ms : List Message) → Subs k (taking.told_error h k ms)
      told_subs h k [] = sub_same k.pending.rows
      told_subs h k (m ∷ ms) = ends k h.0

      failure_subs : (f : ℕ × ℕ) (k : Element P S) (o : Option (Row P)) → Subs k (taking.take_failure f k o)
      failure_subs f k None = sub_same k.pending.rows
      failure_subs f k (Some h) = told_subs h k (error_answer f h.1.item.flags h.1.key.id)

      report_subs : (ids : List (ℕ × ℕ)) (es : List (ℕ × ℕ)) (k : Element P S) → Subs k (taking.take_errors p ids es k)
      report_subs ids [] k = sub_same k.pending.rows
      report_subs ids (f ∷ fs) k = each_subs (λ (rp : ℕ × ℕ) k. taking.take_failure f k (waiting p rp.1 k.pending.rows)) (λ rp k. failure_subs f k (waiting p rp.1 k.pending.rows)) ids k

      pub reports_subs : (rs : List ErrorReport) (k : Element P S) → Subs k (each (taking.take_report p) rs k)
      reports_subs rs k = each_subs (taking.take_report p) (λ r k. report_subs r.ids r.errors k) rs k

    pub commit_subs : (c : Codec) (e : ElementSettings) (h : Row P) (down : List Branch) (now : ℕ) (stands : Best → S) (s t : Bool) (best : List Best) (k : Element P S) → Subs k (commit c e h down now stands (job_found s t best) k)
    commit_subs c e h down now stands s t best k = choose k (is_client h.1.item.class) _ _ (ends k h.0) (closed best)
      where
        closed : (best : List Best) → Subs k (closed_reply c e h down now stands k best)
        closed [] = ends k h.0
        closed (b ∷ bs) = choose k (nat_lt (free now k.keys) (length (b ∷ bs))) _ _ (ends k h.0) (ends k h.0)

    pub downed_subs : (p : Peer) (k : Element P S) → Subs k (downed p k)
    downed_subs p k = sub_within k.pending.rows (filter (stays p) k.pending.rows) (in_filtered (stays p) k.pending.rows)
