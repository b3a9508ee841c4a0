-- Lines that are gone through: those behind a line that was found, and the first that has a key.
use Rattle.std.proofs.Common.{◌≡◌, ◌∙◌, ◌+◌, ◌<◌, ◌≤◌, ◌∷◌, ℕ, suc, nat_lt, Bool, true, false, not, List, [], cond, length, find, Option, Some, None, slice_get, refl, ap, sym, subst, arith, inl, inr}
use Rattle.std.specs.Prelude.{take_while}
use Rattle.std.specs.Str.Lines.{lines}
use Rattle.std.proofs.lemmas.Bool.{cases_Bool, le-ltb, lt-ltb, ltb-false}
use Rattle.std.proofs.lemmas.List.Sums.{take_while-cons}
use Rattle.line_text.specs.Lines.{NumberedLine, is_skipped, told_after, told_lines}
use Rattle.network_check.specs.Places.{AreAbove, behind, headed, heads, key_behind, key_in, key_line, left_behind, names_key, number_or, opens, top_line, value_line}

-- ---- numbers that rise

above_less : (m n : ℕ) → m ≤ n → (ls : List NumberedLine) → AreAbove n ls → AreAbove m ls
above_less m n le [] are = tt
above_less m n le (l ∷ ls) are = (omega (arith, le, are.0), are.1)

told_above : (n : ℕ) (ls : List (List ℕ)) → AreAbove n (told_after n ls)
told_above n [] = tt
told_above n (line ∷ others) =
    let one : NumberedLine = record { number = n + 1; text = line } in
    let tail = told_above (n + 1) others in
    elim (is_skipped line) as (λ (b : Bool). AreAbove n (cond b (told_after (n + 1) others) (one ∷ told_after (n + 1) others))) [
      | true ↦ above_less n (n + 1) (omega arith) (told_after (n + 1) others) tail
      | false ↦ (omega arith, tail)
    ]

pub lines_above : (text : List ℕ) → AreAbove 0 (told_lines text)
lines_above text = told_above 0 (lines text)

-- ---- lines behind a line

all_behind : (m n : ℕ) → m ≤ n → (ls : List NumberedLine) → AreAbove n ls → behind m ls ≡ ls
all_behind m n le [] are = refl
all_behind m n le (l ∷ ls) are =
    let within : m ≤ l.number = omega (arith, le, are.0) in
    let tail = all_behind m l.number within ls are.1 in
    ap (λ (b : Bool). cond b (l ∷ behind m ls) (behind m ls)) (lt-ltb m l.number (omega (arith, le, are.0))) ∙ ap (λ (xs : List NumberedLine). l ∷ xs) tail

-- those behind a line are behind any line before it
behind_more : (m n : ℕ) → m ≤ n → (ls : List NumberedLine) → behind n (behind m ls) ≡ behind n ls
behind_more m n le [] = refl
behind_more m n le (l ∷ ls) =
    let tail = behind_more m n le ls in
    elim (cases_Bool (nat_lt m l.number)) [
      | inl t ↦ ap (λ (b : Bool). behind n (cond b (l ∷ behind m ls) (behind m ls))) t ∙ ap (λ (xs : List NumberedLine). cond (nat_lt n l.number) (l ∷ xs) xs) tail
      | inr f ↦
          let past : nat_lt n l.number ≡ false = le-ltb n l.number (omega (arith, ltb-false m l.number f, le)) in
          ap (λ (b : Bool). behind n (cond b (l ∷ behind m ls) (behind m ls))) f ∙ tail ∙ sym (ap (λ (b : Bool). cond b (l ∷ behind n ls) (behind n ls)) past)
    ]

-- these lines are left of all, behind one of them
pub record IsRest (whole left : List NumberedLine) : Type 0 where
  pub last : ℕ
  pub is : left ≡ behind last whole
  pub above : AreAbove last left

pub whole_left : (ls : List NumberedLine) → AreAbove 0 ls → IsRest ls ls
whole_left ls are = record { last = 0; is = sym (all_behind 0 0 (omega arith) ls are); above = are }

module _ (whole left rest : List NumberedLine) (l : NumberedLine) (next : left ≡ l ∷ rest) (r : IsRest whole left) where
  above_next : AreAbove r.last (l ∷ rest)
  above_next = subst (AreAbove r.last) next r.above

  pub left_is : rest ≡ behind l.number whole
  left_is =
      let le : r.last ≤ l.number = omega (arith, above_next.0) in
      sym (all_behind l.number l.number (omega arith) rest above_next.1)
      ∙ sym (ap (λ (b : Bool). cond b (l ∷ behind l.number rest) (behind l.number rest)) (le-ltb l.number l.number (omega arith)))
      ∙ ap (behind l.number) (sym next ∙ r.is)
      ∙ behind_more r.last l.number le whole

  pub rest_left : IsRest whole rest
  rest_left = record { last = l.number; is = left_is; above = above_next.1 }

-- ---- the row of a header

none_headed : (h : List ℕ) (left : List NumberedLine) (k : ℕ) → left ≡ [] → slice_get (headed h left) k ≡ None
none_headed h left k is = ap (λ (ls : List NumberedLine). slice_get (headed h ls) k) is

module _ (h : List ℕ) (left rest : List NumberedLine) (l : NumberedLine) (k : ℕ) (next : left ≡ l ∷ rest) where
  head_step : slice_get (headed h left) k ≡ slice_get (cond (heads h l.text) (l ∷ headed h rest) (headed h rest)) k
  head_step = ap (λ (ls : List NumberedLine). slice_get (headed h ls) k) next

  pub row_found : heads h l.text ≡ true → k ≡ 0 → slice_get (headed h left) k ≡ Some l
  row_found is zero_left =
      head_step ∙ ap (λ (b : Bool). slice_get (cond b (l ∷ headed h rest) (headed h rest)) k) is ∙ ap (slice_get (l ∷ headed h rest)) zero_left

  pub row_counted : heads h l.text ≡ true → (j : ℕ) → k ≡ suc j → slice_get (headed h left) k ≡ slice_get (headed h rest) j
  row_counted is j more =
      head_step ∙ ap (λ (b : Bool). slice_get (cond b (l ∷ headed h rest) (headed h rest)) k) is ∙ ap (slice_get (l ∷ headed h rest)) more

  pub row_passed : heads h l.text ≡ false → slice_get (headed h left) k ≡ slice_get (headed h rest) k
  row_passed no_row = head_step ∙ ap (λ (b : Bool). slice_get (cond b (l ∷ headed h rest) (headed h rest)) k) no_row

-- the row is that of all lines, of which these are left
pub row_of_all : (h : List ℕ) (whole left rest : List NumberedLine) (i k : ℕ) (l : NumberedLine) → left ≡ l ∷ rest → heads h l.text ≡ true → k ≡ 0
    → slice_get (headed h left) k ≡ slice_get (headed h whole) i → slice_get (headed h whole) i ≡ Some l
row_of_all h whole left rest i k l next is zero_left same = sym same ∙ row_found h left rest l k next is zero_left

pub no_row_of_all : (h : List ℕ) (whole left : List NumberedLine) (i k : ℕ) → left ≡ [] → slice_get (headed h left) k ≡ slice_get (headed h whole) i → slice_get (headed h whole) i ≡ None
no_row_of_all h whole left i k is same = sym same ∙ none_headed h left k is

-- ---- the line of a key

module _ (key : List ℕ) (left rest : List NumberedLine) (l : NumberedLine) (next : left ≡ l ∷ rest) where
  key_step : key_in key left ≡ cond (not (opens l.text)) (cond (names_key key l.text) (Some l) (key_in key rest)) None
  key_step =
      let N : NumberedLine → Bool = λ x. names_key key x.text in
      let T : List NumberedLine = take_while (λ x. not (opens x.text)) rest in
      ap (key_in key) next
      ∙ ap (find N) (take_while-cons (λ x. not (opens x.text)) l rest)
      ∙ elim (not (opens l.text)) as (λ (b : Bool). find N (cond b (l ∷ T) []) ≡ cond b (cond (names_key key l.text) (Some l) (find N T)) None) [ true ↦ refl | false ↦ refl ]

  pub key_ends : opens l.text ≡ true → key_in key left ≡ None
  key_ends is = key_step ∙ ap (λ (b : Bool). cond (not b) (cond (names_key key l.text) (Some l) (key_in key rest)) None) is

  key_within : opens l.text ≡ false → key_in key left ≡ cond (names_key key l.text) (Some l) (key_in key rest)
  key_within within = key_step ∙ ap (λ (b : Bool). cond (not b) (cond (names_key key l.text) (Some l) (key_in key rest)) None) within

  pub key_found : opens l.text ≡ false → names_key key l.text ≡ true → key_in key left ≡ Some l
  key_found within is = key_within within ∙ ap (λ (b : Bool). cond b (Some l) (key_in key rest)) is

  pub key_passed : opens l.text ≡ false → names_key key l.text ≡ false → key_in key left ≡ key_in key rest
  key_passed within other = key_within within ∙ ap (λ (b : Bool). cond b (Some l) (key_in key rest)) other

-- the key of a row that was found, or was not
pub found_key : (ls : List NumberedLine) (key : List ℕ) (row : Option NumberedLine) (n : ℕ) (left : List NumberedLine) → n ≡ number_or 0 row → left ≡ left_behind ls row
    → number_or n (key_in key left) ≡ key_behind ls key row
found_key ls key None n left number is = ap (λ (xs : List NumberedLine). number_or n (key_in key xs)) is ∙ number
found_key ls key (Some row) n left number is =
    ap (λ (xs : List NumberedLine). number_or n (key_in key xs)) is ∙ ap (λ (k : ℕ). number_or k (key_in key (behind row.number ls))) number

-- ---- a header, or none

pub key_of_top : (text header : List ℕ) (i : ℕ) (key : List ℕ) → header ≡ [] → key_line text header i key ≡ top_line text key
key_of_top text header i key is = ap (λ (h : List ℕ). key_line text h i key) is

pub key_of_row : (text header : List ℕ) (i : ℕ) (key : List ℕ) → 0 < length header → key_line text header i key ≡ value_line text header i key
key_of_row text [] i key some = absurd (omega (arith, some))
key_of_row text (c ∷ header) i key some = refl
