-- Lines and words, cut off one at a time.
use Rattle.std.proofs.Common.{◌≡◌, ℕ, ◌+◌, ◌<◌, ◌≤◌, eqb, Bool, false, List, [], ◌∷◌, length, take, drop, filter, Some, None, refl, ap, ◌∙◌, arith}
use Rattle.std.specs.List.{slice_split, position}
use Rattle.std.specs.Str.Lines.{lines, lines_of_parts, strip_carriage_return}
use Rattle.std.proofs.lemmas.Bool.{ne_eqb}
use Rattle.std.proofs.lemmas.List.Splits.{length-slice_split}
use Rattle.dom_base.proofs.Cuts.{uncut, cut_at}
use Rattle.line_text.specs.Words.{is_blank, is_word, all_words}

abbrev pub is_line_feed : ℕ → Bool
is_line_feed c = eqb c 10

pub ended : (x : List ℕ) (parts : List (List ℕ)) → 1 ≤ length parts → lines_of_parts (x ∷ parts) ≡ strip_carriage_return x ∷ lines_of_parts parts
ended x [] some = absurd (omega arith)
ended x (y ∷ parts) some = refl

-- the first line ends at the first line feed
pub line_cut : (text : List ℕ) (k : ℕ) → position is_line_feed text ≡ Some k → lines text ≡ strip_carriage_return (take k text) ∷ lines (drop (k + 1) text)
line_cut text k e =
    let cut = cut_at is_line_feed text k 0 e in
    ap lines_of_parts cut.parts ∙ ended (take k text) (slice_split is_line_feed (drop (k + 1) text)) (omega (arith, length-slice_split is_line_feed (drop (k + 1) text)))

some_length : (xs : List ℕ) → 1 ≤ length xs → eqb (length xs) 0 ≡ false
some_length xs some = ne_eqb (length xs) 0 (λ e. absurd (omega arith))

alone : (text : List ℕ) → 1 ≤ length text → lines_of_parts (text ∷ []) ≡ text ∷ []
alone text some = rw (some_length text some) refl

-- without a line feed the text is its last line
pub last_line : (text : List ℕ) → 1 ≤ length text → position is_line_feed text ≡ None → lines text ≡ text ∷ []
last_line text some e = ap lines_of_parts (uncut is_line_feed text e) ∙ alone text some

pub cut_shorter : (p : ℕ → Bool) (text : List ℕ) (k : ℕ) → position p text ≡ Some k → k < length text
cut_shorter p text k e = (cut_at p text k 0 e).within

-- a piece before a blank is a word where it has a byte
pub word_cut : (piece front left : List ℕ) → slice_split is_blank piece ≡ front ∷ slice_split is_blank left → 1 ≤ length front → all_words piece ≡ front ∷ all_words left
word_cut piece front left e some = ap (filter is_word) e ∙ rw (some_length front some) refl

pub no_word : (piece front left : List ℕ) → slice_split is_blank piece ≡ front ∷ slice_split is_blank left → length front ≡ 0 → all_words piece ≡ all_words left
no_word piece [] left e none = ap (filter is_word) e
no_word piece (c ∷ front) left e none = absurd (omega arith)

pub last_word : (piece : List ℕ) → slice_split is_blank piece ≡ piece ∷ [] → 1 ≤ length piece → all_words piece ≡ piece ∷ []
last_word piece e some = ap (filter is_word) e ∙ rw (some_length piece some) refl

pub no_more : (piece : List ℕ) → slice_split is_blank piece ≡ piece ∷ [] → length piece ≡ 0 → all_words piece ≡ []
no_more [] e none = ap (filter is_word) e
no_more (c ∷ piece) e none = absurd (omega arith)
