-- The words of a row that is outside the form, one behind the other.
use Rattle.std.proofs.Common.{◌≡◌, ◌∙◌, ℕ, Bool, true, false, cond, List, [], ◌∷◌, ap, sym}
use Rattle.network_check.specs.declared.slots.Slot.{Slot}
use Rattle.network_check.specs.declared.slots.Slot.TheVariants.{Group}
use Rattle.network_check.specs.Forms.{extra_text, missing_text, plain_text, rest_text, slots_text, wrong_text}
use Rattle.network_check.specs.Slots.{is_slot}

-- ---- behind the places of a row

module _ (file : List ℕ) (line : ℕ) (has : Bool) (words : List (List ℕ)) where
  pub rest_ends : words ≡ [] → rest_text file line has words ≡ plain_text file line
  rest_ends none = ap (rest_text file line has) none

  module _ (word : List ℕ) (others : List (List ℕ)) (next : words ≡ word ∷ others) where
    pub rest_extra : has ≡ false → rest_text file line has words ≡ extra_text file line word
    rest_extra no_groups = ap (λ (b : Bool). rest_text file line b words) no_groups ∙ ap (rest_text file line false) next

    group_step : has ≡ true → rest_text file line has words ≡ cond (is_slot Group word) (rest_text file line true others) (wrong_text file line Group word)
    group_step groups = ap (λ (b : Bool). rest_text file line b words) groups ∙ ap (rest_text file line true) next

    pub rest_wrong : has ≡ true → is_slot Group word ≡ false → rest_text file line has words ≡ wrong_text file line Group word
    rest_wrong groups bad = group_step groups ∙ ap (λ (b : Bool). cond b (rest_text file line true others) (wrong_text file line Group word)) bad

    pub rest_passed : has ≡ true → is_slot Group word ≡ true → rest_text file line has words ≡ rest_text file line has others
    rest_passed groups good =
        group_step groups ∙ ap (λ (b : Bool). cond b (rest_text file line true others) (wrong_text file line Group word)) good
        ∙ sym (ap (λ (b : Bool). rest_text file line b others) groups)

-- ---- at the places of a row

module _ (file : List ℕ) (line : ℕ) (has : Bool) (left rest : List Slot) (s : Slot) (here : left ≡ s ∷ rest) (words : List (List ℕ)) where
  pub slot_missing : words ≡ [] → slots_text file line has left words ≡ missing_text file line s
  slot_missing none = ap (λ (ss : List Slot). slots_text file line has ss words) here ∙ ap (slots_text file line has (s ∷ rest)) none

  module _ (word : List ℕ) (others : List (List ℕ)) (next : words ≡ word ∷ others) where
    slot_step : slots_text file line has left words ≡ cond (is_slot s word) (slots_text file line has rest others) (wrong_text file line s word)
    slot_step = ap (λ (ss : List Slot). slots_text file line has ss words) here ∙ ap (slots_text file line has (s ∷ rest)) next

    pub slot_wrong : is_slot s word ≡ false → slots_text file line has left words ≡ wrong_text file line s word
    slot_wrong bad = slot_step ∙ ap (λ (b : Bool). cond b (slots_text file line has rest others) (wrong_text file line s word)) bad

    pub slot_passed : is_slot s word ≡ true → slots_text file line has left words ≡ slots_text file line has rest others
    slot_passed good = slot_step ∙ ap (λ (b : Bool). cond b (slots_text file line has rest others) (wrong_text file line s word)) good

pub slots_end : (file : List ℕ) (line : ℕ) (has : Bool) (left : List Slot) (words : List (List ℕ)) → left ≡ [] → slots_text file line has left words ≡ rest_text file line has words
slots_end file line has left words none = ap (λ (ss : List Slot). slots_text file line has ss words) none
