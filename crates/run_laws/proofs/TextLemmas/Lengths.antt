-- How long the parts of a text are: together no longer than the text, and so are its lines and each word of a line.
use Rattle.std.proofs.Common.{◌≡◌, ℕ, ◌+◌, ◌-◌, ◌≤◌, ◌==◌, Bool, true, false, cond, List, [], ◌∷◌, ◌++◌, length, take, get_or, Some, None, subst, arith, All}
use Rattle.std.specs.List.{slice_split, onto_first, sum_by}
use Rattle.std.specs.Str.Lines.{lines, lines_of_parts, strip_carriage_return}
use Rattle.std.proofs.lemmas.List.{length-take-le}
use Rattle.std.proofs.lemmas.List.Elements.{All-filter}
use Rattle.std.proofs.lemmas.List.Sums.{get_or-le-sum_by, sum_by-append, sum_by-cons}
use Rattle.line_text.specs.Lines.{NumberedLine, is_skipped, told_after, told_lines}
use Rattle.line_text.specs.Words.{all_words, is_blank, is_trimmed, is_word, words_of}
use Rattle.run_laws.specs.Sizes.{all_lengths}

-- ---- parts

-- how many bytes parts have together
abbrev pub lengths : List (List ℕ) → ℕ
lengths parts = sum_by (λ (part : List ℕ). length part) parts

pub lengths_cons : (part : List ℕ) (parts : List (List ℕ)) → lengths (part ∷ parts) ≡ length part + lengths parts
lengths_cons part parts = sum_by-cons (λ (part : List ℕ). length part) part parts

one_further : (c : ℕ) (parts : List (List ℕ)) (cut : Bool) → lengths (cond cut ([] ∷ parts) (onto_first c parts)) ≤ lengths parts + 1
one_further c parts true = let one = lengths_cons [] parts in omega (arith, one)
one_further c [] false = omega arith
one_further c (part ∷ parts) false = let new = lengths_cons (c ∷ part) parts in let old = lengths_cons part parts in omega (arith, new, old)

pub parts_short : (p : ℕ → Bool) (text : List ℕ) → lengths (slice_split p text) ≤ length text
parts_short p [] = omega arith
parts_short p (c ∷ text) = let one = one_further c (slice_split p text) (p c) in let others = parts_short p text in omega (arith, one, others)

-- ---- lines

strip_short : (part : List ℕ) → length (strip_carriage_return part) ≤ length part
strip_short part = go (get_or part (length part - 1) 0 == 13)
  where
    go : (b : Bool) → length (cond b (take (length part - 1) part) part) ≤ length part
    go true = let cut = length-take-le (length part - 1) part (omega arith) in omega (arith, cut)
    go false = omega arith

lines_of_parts_short : (parts : List (List ℕ)) → lengths (lines_of_parts parts) ≤ lengths parts
lines_of_parts_short [] = omega arith
lines_of_parts_short (part ∷ []) = go (length part == 0)
  where
    go : (b : Bool) → lengths (cond b [] (part ∷ [])) ≤ lengths (part ∷ [])
    go true = omega arith
    go false = omega arith
lines_of_parts_short (part ∷ next ∷ parts) =
    let new = lengths_cons (strip_carriage_return part) (lines_of_parts (next ∷ parts)) in
    let old = lengths_cons part (next ∷ parts) in
    let one = strip_short part in
    let others = lines_of_parts_short (next ∷ parts) in
    omega (arith, new, old, one, others)

pub lines_short : (text : List ℕ) → lengths (lines text) ≤ length text
lines_short text =
    let parts = slice_split (λ b. b == 10) text in
    let lines = lines_of_parts_short parts in
    let whole = parts_short (λ b. b == 10) text in
    omega (arith, lines, whole)

pub all_lengths_cons : (line : NumberedLine) (others : List NumberedLine) → all_lengths (line ∷ others) ≡ length line.text + all_lengths others
all_lengths_cons line others = sum_by-cons (λ (line : NumberedLine). length line.text) line others

pub all_lengths_append : (xs ys : List NumberedLine) → all_lengths (xs ++ ys) ≡ all_lengths xs + all_lengths ys
all_lengths_append xs ys = sum_by-append (λ (line : NumberedLine). length line.text) xs ys

pub told_after_short : (before : ℕ) (lines : List (List ℕ)) → all_lengths (told_after before lines) ≤ lengths lines
told_after_short before [] = omega arith
told_after_short before (line ∷ others) = go (is_skipped line) (told_after (before + 1) others) (told_after_short (before + 1) others)
  where
    go : (b : Bool) (told : List NumberedLine) → all_lengths told ≤ lengths others → all_lengths (cond b told (record { number = before + 1; text = line } ∷ told)) ≤ lengths (line ∷ others)
    go true told h = let old = lengths_cons line others in omega (arith, old, h)
    go false told h =
        let new = all_lengths_cons (record { number = before + 1; text = line }) told in
        let old = lengths_cons line others in
        omega (arith, new, old, h)

pub told_lines_short : (text : List ℕ) → all_lengths (told_lines text) ≤ length text
told_lines_short text = let told = told_after_short 0 (lines text) in let whole = lines_short text in omega (arith, told, whole)

-- ---- words

abbrev pub AreWithin : List ℕ → List (List ℕ) → Type 0
AreWithin line words = All (λ (word : List ℕ). length word ≤ length line) words

parts_within : (p : ℕ → Bool) (line : List ℕ) → AreWithin line (slice_split p line)
parts_within p line = λ k d inside.
    let one = get_or-le-sum_by (λ (part : List ℕ). length part) (slice_split p line) k d inside in
    let whole = parts_short p line in
    omega (arith, one, whole)

pub words_within : (line : List ℕ) (words : List (List ℕ)) → words_of line ≡ Some words → AreWithin line words
words_within line words is = go (is_trimmed line) is
  where
    all : AreWithin line (all_words line)
    all = All-filter is_word (λ (word : List ℕ). length word ≤ length line) (slice_split is_blank line) (parts_within is_blank line)

    go : (b : Bool) → cond b (Some (all_words line)) None ≡ Some words → AreWithin line words
    go true e = let same : all_words line ≡ words = cc in subst (AreWithin line) same all
    go false e = absurd (cc)
