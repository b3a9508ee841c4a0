-- What a whole turn says.
use Rattle.std.proofs.Common.{◌≡◌, ℕ, List, [], ◌∷◌, ◌++◌, get_or, refl, sym, ap, ◌∙◌, subst, ⊎_elim, append_assoc, Option, Some, None}
use Rattle.atomic_table.specs.Table.{Me, rest}
use Rattle.plant_lock.specs.declared.view.View.{View}
use Rattle.plant_lock.specs.declared.view.Slot.{Slot}
use Rattle.plant_lock.specs.declared.view.Slot.TheVariants.{Value}
use Rattle.plant_lock.specs.History.{replay, Legal, StartsWith, Admitted}
use Rattle.plant_lock.specs.Views.{LegalFrom, LeadsTo}
use Rattle.plant_lock.proofs.Lists.{legal_snoc, legal_back, replay_append}

module _ {T S A B : Type 0} (plain : T → S) (admits : S → A → Type 0) (allows : S → A → B → Type 0) (after : S → A → B → S) where
  pub legal_next : (o : Option T) (h : List (A × B)) (p : S) (a : A) (b : B) → LegalFrom plain admits allows after o h → LeadsTo plain admits allows after o h p → admits p a → allows p a b
      → LegalFrom plain admits allows after o (h ++ (a, b) ∷ [])
  legal_next (Some x) h p a b l q m n = legal_snoc admits allows after (plain x) h a b l (subst (λ (s : S). admits s a) q m) (subst (λ (s : S). allows s a b) q n)
  legal_next None h p a b l q m n = absurd l

  -- the law of `Turned`
  abbrev pub Lasts : (A → B → A → Type 0) → Type 0
  Lasts warrants = (s : S) (a : A) (b : B) (es : List (A × B)) (next : A) → warrants a b next → admits s a → allows s a b → Legal admits allows after (after s a b) es → admits (replay after (after s a b) es) next

  -- an act that was admitted by what was seen is admitted after a longer history
  pub still_admitted : (warrants : A → B → A → Type 0) → Lasts warrants → (o : Option T) (seen h : List (A × B)) (p : S) (act : A) → Admitted admits warrants seen act → StartsWith h seen
      → LegalFrom plain admits allows after o h → LeadsTo plain admits allows after o h p → admits p act
  still_admitted warrants law None seen h p act ad st l q = absurd l
  still_admitted warrants law (Some x) seen h p act ad st l q = ⊎_elim (λ (always : (s : S) → admits s act). always p)
      (λ (w : (before : List (A × B)) × (e : A × B) × (later : List (A × B)) × (seen ≡ before ++ e ∷ later) × warrants e.0 e.1 act).
      let es : List (A × B) = w.2 ++ st.0 in let whole : h ≡ w.0 ++ w.1 ∷ es = st.1 ∙ (ap (λ (z : List (A × B)). z ++ st.0) w.3 ∙ append_assoc w.0 (w.1 ∷ w.2) st.0) in
      let from = legal_back admits allows after (plain x) w.0 (w.1 ∷ es) (subst (Legal admits allows after (plain x)) whole l) in
      let at : p ≡ replay after (plain x) (w.0 ++ w.1 ∷ es) = q ∙ ap (replay after (plain x)) whole in
      subst (λ (s : S). admits s act) (sym (at ∙ replay_append after (plain x) w.0 (w.1 ∷ es))) (law (replay after (plain x) w.0) w.1.0 w.1.1 es act w.4 from.0 from.1 from.2)) ad

  abbrev M : Type 0
  M = Me (Slot T A B) (View T A B)

  -- what a seat knows of its value, after the value went out of the slot and another came in
  pub turned_slot : (m m1 m2 : M) (x v y : T) (r : Slot T A B) → m.1 ≡ (0, Value x) ∷ [] → m.1 ≡ (0, r) ∷ rest m.1 → r ≡ Value v
      → (z : Slot T A B) → m1 ≡ (m.0, (0, z) ∷ rest m.1) → m2 ≡ (m1.0, (0, Value y) ∷ rest m1.1)
      → (x ≡ v) × (m2.0 ≡ m.0) × (m2.1 ≡ (0, Value y) ∷ [])
  turned_slot m m1 m2 x v y r has found is z out back =
      let empty : rest m.1 ≡ [] = ap rest has in let one : (0, Value x) ∷ [] ≡ (0, Value v) ∷ rest m.1 = sym has ∙ (found ∙ ap (λ (k : Slot T A B). (0, k) ∷ rest m.1) is) in (
        (let e : ◌≡◌ {A = Slot T A B} (Value x) (Value v) = ap (λ (l : List (ℕ × Slot T A B)). (get_or l 0 (0, Value x)).1) one in cc),
        ap (λ (k : M). k.0) back ∙ ap (λ (k : M). k.0) out,
        ap (λ (k : M). k.1) back ∙ ap (λ (l : List (ℕ × Slot T A B)). (0, Value y) ∷ l) (ap (λ (k : M). rest k.1) out ∙ empty),
      )

  -- the last answer of a legal history was allowed where the history before it leads
  pub last_allowed : (o : Option T) (h : List (A × B)) (a : A) (b : B) → LegalFrom plain admits allows after o (h ++ (a, b) ∷ []) → (x : T) × (o ≡ Some x) × admits (replay after (plain x) h) a × allows (replay after (plain x) h) a b
  last_allowed (Some x) h a b l = let t = legal_back admits allows after (plain x) h ((a, b) ∷ []) l in (x, refl, t.0, t.1)
  last_allowed None h a b l = absurd l
