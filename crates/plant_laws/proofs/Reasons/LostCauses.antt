-- What is answered where a session goes down has its cause.
use Rattle.std.proofs.Common.{◌≡◌, ℕ, Bool, true, false, cond, List, [], ◌∷◌, map, filter, sym, ◌∙◌, ap, inl, inr, refl}
use Rattle.std.proofs.lemmas.Bool.{cases_Bool}
use Rattle.std.specs.Prelude.{Contains}
use Rattle.plant_model.specs.Types.{Peer}
use Rattle.request_table.specs.Pending.{same_peer}
use Rattle.request_table.proofs.KeyLemmas.{same_peer_self}
use Rattle.plant_model.specs.Element.{Stage, Waits, Ready, Row, waits_on, lost_of, lost_output, is_lost, lost}
use Rattle.plant_model.specs.Parent.{Wait, AskingRow, any_on}
use Rattle.plant_model.specs.Parent as parent
use Rattle.plant_model.specs.Plant.{Pin}
use Rattle.plant_laws.specs.Causes.{IsLost, IsLostAbove, AnswersLost, asker_of, asker_above}
use Rattle.plant_laws.proofs.Once.Handing.{In}
use Rattle.plant_laws.proofs.Reasons.PartCauses.{contains_at, in_at, not_both}
use Rattle.plant_laws.proofs.Numbering.SentOn.{same_peer_is}

pick : {T : Type 0} (Q : T → Type 0) (b : Bool) (t u : T) → (b ≡ true → Q t) → (b ≡ false → Q u) → Q (cond b t u)
pick Q true t u f g = f refl
pick Q false t u f g = g refl

self_true : (p q : Peer) → p ≡ q → same_peer p q ≡ true
self_true p q is = ap (λ (z : Peer). same_peer z q) is ∙ same_peer_self q

apart : (p q : Peer) → same_peer p q ≡ false → p ≡ q → ⊥
apart p q e is = not_both (same_peer p q) (self_true p q is) e

module _ (p : Peer) where
  waits_at : (g : Stage) → waits_on p g ≡ true → (y : ℕ) × (g ≡ Waits p y)
  waits_at (Ready bs) e = (let no : false ≡ true = e in cc)
  waits_at (Waits on y) e = (y, ap (λ (q : Peer). Waits q y) (same_peer_is on p e))

  at_waits : (g : Stage) (y : ℕ) → g ≡ Waits p y → waits_on p g ≡ true
  at_waits g y is = ap (waits_on p) is ∙ same_peer_self p

  is_lost_at : (h : Row Pin) → is_lost p h ≡ true → IsLost p h
  is_lost_at h e = elim (cases_Bool (same_peer h.1.key.peer p)) [
    | inl own ↦ absurd (let no : false ≡ true = rw own at e in cc)
    | inr other ↦ (let w = waits_at h.1.item.stage (rw other at e) in (apart h.1.key.peer p other, w.0, w.1))
  ]

  not_lost : (h : Row Pin) → is_lost p h ≡ false → ¬ IsLost p h
  not_lost h e is = elim (cases_Bool (same_peer h.1.key.peer p)) [
    | inl own ↦ is.0 (same_peer_is h.1.key.peer p own)
    | inr other ↦ not_both (waits_on p h.1.item.stage) (at_waits h.1.item.stage is.1 is.2) (rw other at e)
  ]

  pub lost_on : (rows : List (Row Pin)) → AnswersLost (IsLost p) asker_of rows (map lost_output (lost p rows))
  lost_on [] = refl
  lost_on (h ∷ hs) =
      pick (λ (kept' : List (Row Pin)). AnswersLost (IsLost p) asker_of (h ∷ hs) (map lost_output (map lost_of kept'))) (is_lost p h) (h ∷ filter (is_lost p) hs) (filter (is_lost p) hs)
      (λ is. inl (is_lost_at h is, map lost_output (lost p hs), refl, lost_on hs))
      (λ none. inr (not_lost h none, lost_on hs))

  any_at : (ws : List Wait) → any_on p ws ≡ true → (w : Wait) × Contains ws w × (w.peer ≡ p)
  any_at ws e = (let w = go ws e in (w.0, contains_at w.0 ws w.1, w.2))
    where
      go : (vs : List Wait) → any_on p vs ≡ true → (w : Wait) × In w vs × (w.peer ≡ p)
      go [] none = (let no : false ≡ true = none in cc)
      go (v ∷ vs) some = elim (cases_Bool (same_peer v.peer p)) [
        | inl hit ↦ (v, inl refl, same_peer_is v.peer p hit)
        | inr miss ↦ (let more = go vs (rw miss at some) in (more.0, inr more.1, more.2))
      ]

  none_at : (ws : List Wait) → any_on p ws ≡ false → (w : Wait) → In w ws → w.peer ≡ p → ⊥
  none_at [] e w none is = none
  none_at (v ∷ vs) e w in' is = elim (cases_Bool (same_peer v.peer p)) [
    | inl hit ↦ (let clash : true ≡ false = rw hit at e in cc)
    | inr miss ↦ elim in' [
      | inl same ↦ apart v.peer p miss (ap (λ (z : Wait). z.peer) (sym same) ∙ is)
      | inr more ↦ none_at vs (rw miss at e) w more is
    ]
  ]

  is_lost_above_at : (h : AskingRow) → parent.is_lost p h ≡ true → IsLostAbove p h
  is_lost_above_at h e = elim (cases_Bool (same_peer h.1.key.peer p)) [
    | inl own ↦ absurd (let no : false ≡ true = rw own at e in cc)
    | inr other ↦ (let w = any_at h.1.item.waits (rw other at e) in (apart h.1.key.peer p other, w.0, w.1, w.2))
  ]

  not_lost_above : (h : AskingRow) → parent.is_lost p h ≡ false → ¬ IsLostAbove p h
  not_lost_above h e is = elim (cases_Bool (same_peer h.1.key.peer p)) [
    | inl own ↦ is.0 (same_peer_is h.1.key.peer p own)
    | inr other ↦ none_at h.1.item.waits (rw other at e) is.1 (in_at is.1 h.1.item.waits is.2) is.3
  ]

  pub lost_above : (rows : List AskingRow) → AnswersLost (IsLostAbove p) asker_above rows (map lost_output (parent.lost p rows))
  lost_above [] = refl
  lost_above (h ∷ hs) =
      pick (λ (kept' : List AskingRow). AnswersLost (IsLostAbove p) asker_above (h ∷ hs) (map lost_output (map parent.lost_of kept'))) (parent.is_lost p h) (h ∷ filter (parent.is_lost p) hs) (filter (parent.is_lost p) hs)
      (λ is. inl (is_lost_above_at h is, map lost_output (parent.lost p hs), refl, lost_above hs))
      (λ none. inr (not_lost_above h none, lost_above hs))
