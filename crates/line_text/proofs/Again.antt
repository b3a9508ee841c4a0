-- Lines of words that were written are read again.
use Rattle.std.proofs.Common.{◌≡◌, ◌≢◌, ℕ, zero, suc, ◌+◌, ◌-◌, ◌<◌, ◌≤◌, true, false, List, [], ◌∷◌, ◌++◌, length, get_or, Some, refl, sym, ap, ◌∙◌, append_assoc, arith}
use Rattle.std.specs.List.{slice_split, AllByRecursion, All, list_all}
use Rattle.std.specs.Str.Lines.{lines, lines_of_parts, strip_carriage_return}
use Rattle.std.proofs.lemmas.Bool.{ne_eqb}
use Rattle.std.proofs.lemmas.List.{length-append, get_or-append-add}
use Rattle.std.proofs.lemmas.List.Elements.{All-from_recursion, All-get_or, All-weaker, All-append}
use Rattle.std.proofs.lemmas.List.Splits.{slice_split_at, slice_split_none, length-slice_split}
use Rattle.line_text.specs.Words.{is_blank, all_words, is_trimmed, words_of}
use Rattle.line_text.specs.Lines.{NumberedLine, is_skipped, told_after}
use Rattle.line_text.specs.Spelling.{joined, text_of, IsWord, IsLine, numbered_after}
use Rattle.line_text.proofs.Cut.{is_line_feed, ended, word_cut, last_word}

-- ---- lines

-- a line that is followed by LF
pub line_behind : (line rest : List ℕ) → All (λ c. is_line_feed c ≡ false) line → get_or line (length line - 1) 0 ≢ 13 → lines (line ++ 10 ∷ rest) ≡ line ∷ lines rest
line_behind line rest none last =
    ap lines_of_parts (slice_split_at is_line_feed line 10 rest none refl)
    ∙ ended line (slice_split is_line_feed rest) (omega (arith, length-slice_split is_line_feed rest))
    ∙ ap (λ (x : List ℕ). x ∷ lines rest) kept
  where
    kept : strip_carriage_return line ≡ line
    kept = rw (ne_eqb (get_or line (length line - 1) 0) 13 last) refl

printed : ℕ → Type 0
printed c = 32 ≤ c

-- bytes from the blank on make a line
pub plain_line : (line rest : List ℕ) → All (λ c. 32 ≤ c) line → lines (line ++ 10 ∷ rest) ≡ line ∷ lines rest
plain_line line rest plain =
    line_behind line rest (All-weaker (λ c. 32 ≤ c) (λ c. is_line_feed c ≡ false) (λ c h. ne_eqb c 10 (λ e. absurd (omega arith))) line plain) (last (length line) refl)
  where
    last : (n : ℕ) → n ≡ length line → get_or line (length line - 1) 0 ≢ 13
    last zero e h = absurd (nothing line (sym e) h)
      where
        nothing : (xs : List ℕ) → length xs ≡ 0 → get_or xs (length xs - 1) 0 ≡ 13 → ⊥
        nothing [] e h = absurd (cc)
        nothing (x ∷ xs) e h = absurd (omega arith)
    last (suc n) e h = let bound : 32 ≤ get_or line (length line - 1) 0 = All-get_or (λ c. 32 ≤ c) line (length line - 1) 0 (omega arith) plain in absurd (omega arith)

word_plain : (word : List ℕ) → IsWord word → All (λ c. 32 ≤ c) word
word_plain word w = All-weaker (λ c. 32 < c) (λ c. 32 ≤ c) (λ c h. omega arith) word (All-from_recursion (λ c. 32 < c) word w.bytes)

joined_plain : (words : List (List ℕ)) → AllByRecursion IsWord words → All (λ c. 32 ≤ c) (joined words)
joined_plain [] h = All-from_recursion (λ c. 32 ≤ c) [] tt
joined_plain (w ∷ []) h = word_plain w h.0
joined_plain (w ∷ v ∷ words) h =
    All-append (λ c. 32 ≤ c) w (32 ∷ joined (v ∷ words)) (word_plain w h.0)
    (All-append (λ c. 32 ≤ c) (32 ∷ []) (joined (v ∷ words)) (All-from_recursion (λ c. 32 ≤ c) (32 ∷ []) (omega arith, tt)) (joined_plain (v ∷ words) h.1))

-- ---- words

no_blank : (word : List ℕ) → IsWord word → All (λ c. is_blank c ≡ false) word
no_blank word w = All-weaker (λ c. 32 < c) (λ c. is_blank c ≡ false) apart word (All-from_recursion (λ c. 32 < c) word w.bytes)
  where
    apart : (c : ℕ) → 32 < c → is_blank c ≡ false
    apart c h = rw (ne_eqb c 32 (λ e. absurd (omega arith)), ne_eqb c 9 (λ e. absurd (omega arith))) refl

pub words_again : (words : List (List ℕ)) → 0 < length words → AllByRecursion IsWord words → all_words (joined words) ≡ words
words_again [] some h = absurd (omega arith)
words_again (w ∷ []) some h = last_word w (slice_split_none is_blank w (no_blank w h.0)) h.0.some
words_again (w ∷ v ∷ words) some h =
    word_cut (joined (w ∷ v ∷ words)) w (joined (v ∷ words)) (slice_split_at is_blank w 32 (joined (v ∷ words)) (no_blank w h.0) refl) h.0.some
    ∙ ap (λ (ws : List (List ℕ)). w ∷ ws) (words_again (v ∷ words) (omega arith) h.1)

first_of_append : (xs ys : List ℕ) → 0 < length xs → get_or (xs ++ ys) 0 0 ≡ get_or xs 0 0
first_of_append [] ys some = absurd (omega arith)
first_of_append (x ∷ xs) ys some = refl

last_of_append : (xs ys : List ℕ) → 0 < length ys → get_or (xs ++ ys) (length (xs ++ ys) - 1) 0 ≡ get_or ys (length ys - 1) 0
last_of_append xs ys some =
    let place : length (xs ++ ys) - 1 ≡ length xs + (length ys - 1) = omega (arith, length-append xs ys) in
    ap (λ k. get_or (xs ++ ys) k 0) place ∙ get_or-append-add xs ys (length ys - 1) 0

first_byte : (word : List ℕ) → IsWord word → 32 < get_or word 0 0
first_byte word w = All-get_or (λ c. 32 < c) word 0 0 w.some (All-from_recursion (λ c. 32 < c) word w.bytes)

last_byte : (word : List ℕ) → IsWord word → 32 < get_or word (length word - 1) 0
last_byte word w = let some = w.some in All-get_or (λ c. 32 < c) word (length word - 1) 0 (omega arith) (All-from_recursion (λ c. 32 < c) word w.bytes)

first_joined : (words : List (List ℕ)) → 0 < length words → AllByRecursion IsWord words → 32 < get_or (joined words) 0 0
first_joined [] some h = absurd (omega arith)
first_joined (w ∷ []) some h = first_byte w h.0
first_joined (w ∷ v ∷ words) some h = rw (first_of_append w (32 ∷ joined (v ∷ words)) h.0.some) (first_byte w h.0)

joined_some : (words : List (List ℕ)) → 0 < length words → AllByRecursion IsWord words → 0 < length (joined words)
joined_some [] some h = absurd (omega arith)
joined_some (w ∷ []) some h = h.0.some
joined_some (w ∷ v ∷ words) some h = omega (arith, length-append w (32 ∷ joined (v ∷ words)))

last_joined : (words : List (List ℕ)) → 0 < length words → AllByRecursion IsWord words → 32 < get_or (joined words) (length (joined words) - 1) 0
last_joined [] some h = absurd (omega arith)
last_joined (w ∷ []) some h = last_byte w h.0
last_joined (w ∷ v ∷ words) some h =
    let rest = joined (v ∷ words) in
    let more : 0 < length rest = joined_some (v ∷ words) (omega arith) h.1 in
    rw (last_of_append w (32 ∷ rest) (omega arith), last_of_append (32 ∷ []) rest more) (last_joined (v ∷ words) (omega arith) h.1)

not_blank : (c : ℕ) → 32 < c → is_blank c ≡ false
not_blank c h = rw (ne_eqb c 32 (λ e. absurd (omega arith)), ne_eqb c 9 (λ e. absurd (omega arith))) refl

trimmed_again : (words : List (List ℕ)) → 0 < length words → AllByRecursion IsWord words → is_trimmed (joined words) ≡ true
trimmed_again words some h =
    rw (not_blank (get_or (joined words) 0 0) (first_joined words some h), not_blank (get_or (joined words) (length (joined words) - 1) 0) (last_joined words some h)) refl

-- words with single blanks between them are the words of that line
pub line_again : (words : List (List ℕ)) → IsLine words → words_of (joined words) ≡ Some words
line_again words l = rw (trimmed_again words l.some l.each, words_again words l.some l.each) refl

blank_first : (line : List ℕ) → is_blank (get_or line 0 0) ≡ false → 0 < length line → list_all is_blank line ≡ false
blank_first [] e some = absurd (omega arith)
blank_first (c ∷ line) e some = rw e refl

told_again : (words : List (List ℕ)) → IsLine words → is_skipped (joined words) ≡ false
told_again words l =
    rw (blank_first (joined words) (not_blank (get_or (joined words) 0 0) (first_joined words l.some l.each)) (joined_some words l.some l.each), ne_eqb (get_or (joined words) 0 0) 35 l.first) refl

-- lines that were written are the lines of the text, with their numbers
pub lines_again : (before : ℕ) (all : List (List (List ℕ))) → AllByRecursion IsLine all → told_after before (lines (text_of all)) ≡ numbered_after before all
lines_again before [] h = refl
lines_again before (words ∷ all) h =
    let split : text_of (words ∷ all) ≡ joined words ++ 10 ∷ text_of all = append_assoc (joined words) (10 ∷ []) (text_of all) in
    ap (λ (text : List ℕ). told_after before (lines text)) split
    ∙ ap (told_after before) (plain_line (joined words) (text_of all) (joined_plain words h.0.each))
    ∙ rw (told_again words h.0) (ap (λ (ls : List NumberedLine). record { number = before + 1; text = joined words } ∷ ls) (lines_again (before + 1) all h.1))
