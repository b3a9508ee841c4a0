-- A line that ends in what was read, or does not; and pieces that were read one after the other.
use Rattle.std.proofs.Common.{◌≡◌, ◌≢◌, ℕ, ◌+◌, ◌-◌, ◌<◌, ◌≤◌, eqb, ltb, Bool, true, false, cond, List, [], ◌∷◌, ◌++◌, Some, None, IfSome, length, take, drop, get_or, refl, sym, ap, subst, ◌∙◌, append_assoc, append-nil, add-one, take-append-drop, arith}
use Rattle.std.proofs.Math.Seq.{drop-cons}
use Rattle.std.proofs.lemmas.Bool.{eqb-true, ltb-false}
use Rattle.std.proofs.lemmas.List.{take-take, drop-take, length-take-le, length-drop, get_or-take, drop-drop}
use Rattle.std.proofs.lemmas.List.Elements.{All-from_get_or, All-append}
use Rattle.std.proofs.lemmas.List.Quantifiers.{position-Some}
use Rattle.std.proofs.lemmas.List.Sums.{fails_before_first}
use Rattle.std.specs.List.{position, position_or_len}
use Rattle.std.specs.Prelude.{slice_range}
use Rattle.std.specs.declared.option.Option.{Option}
use Rattle.std.specs.Io.KnownBytes.{Consumes, IsAtEnd}
use Rattle.plant_play.specs.Reels.{Cuts, Gives, IsLongAhead, Wound, ahead}
use Rattle.plant_play.specs.Replays.{HasNoEnd}
use Rattle.plant_play.specs.declared.reel.Cut.TheVariants as cut
use Rattle.std.specs.Option.{unwrap_or}
use Rattle.std.proofs.lemmas.List.{length-append}
use Rattle.transcript.specs.Stops.{line_most}

abbrev pub is_line_end : ℕ → Bool
is_line_end c = eqb c 10

-- ---- the first line end

none_is : (b : Bool) (k : ℕ) → cond b (Some k) None ≡ None → b ≡ false
none_is true k e = absurd (cc)
none_is false k e = refl

no_ten : (c : ℕ) → is_line_end c ≡ false → c ≢ 10
no_ten c fails is = absurd (let e : is_line_end c ≡ true = ap is_line_end is in cc)

-- where no line ends
pub no_line_ends : (xs : List ℕ) → position is_line_end xs ≡ None → HasNoEnd xs
no_line_ends xs none =
    let last : length xs ≤ position_or_len is_line_end xs = ltb-false (position_or_len is_line_end xs) (length xs) (none_is (ltb (position_or_len is_line_end xs) (length xs)) (position_or_len is_line_end xs) none) in
    All-from_get_or (λ c. c ≢ 10) xs 0 (λ i lt. no_ten (get_or xs i 0) (fails_before_first is_line_end xs i 0 (omega (arith, last, lt))))

-- where one ends
pub record LineEndsAt (xs : List ℕ) (k : ℕ) : Type 0 where
  pub within : k < length xs
  pub parts : xs ≡ take k xs ++ 10 ∷ drop (k + 1) xs
  pub no_end : HasNoEnd (take k xs)

pub line_ends : (xs : List ℕ) (k : ℕ) → position is_line_end xs ≡ Some k → LineEndsAt xs k
line_ends xs k some =
    let found = position-Some is_line_end xs k 0 some in
    let ten : get_or xs k 0 ≡ 10 = eqb-true (get_or xs k 0) 10 found.1 in
    let rest : drop k xs ≡ 10 ∷ drop (k + 1) xs = drop-cons xs k 0 found.0 ∙ ap (λ (j : ℕ). get_or xs k 0 ∷ drop j xs) (sym (add-one k)) ∙ ap (λ (c : ℕ). c ∷ drop (k + 1) xs) ten in
    record {
      within = found.0;
      parts = sym (take-append-drop k xs) ∙ ap (λ (ys : List ℕ). take k xs ++ ys) rest;
      no_end = All-from_get_or (λ c. c ≢ 10) (take k xs) 0 (λ i lt.
          let short : i < k = omega (arith, length-take-le k xs (omega (arith, found.0)), lt) in
          no_ten (get_or (take k xs) i 0) (subst (λ (c : ℕ). is_line_end c ≡ false) (sym (get_or-take k xs i 0 short)) (found.2 i short)));
    }

-- ---- in a part of a piece

pub length_of_part : (piece : List ℕ) (from to : ℕ) → from ≤ to → to ≤ length piece → length (slice_range piece from to) ≡ to - from
length_of_part piece from to order within = length-take-le (to - from) (drop from piece) (omega (arith, length-drop from piece, order, within))

front_of_part : (piece : List ℕ) (from to k : ℕ) → from + k ≤ to → take k (slice_range piece from to) ≡ slice_range piece from (from + k)
front_of_part piece from to k le =
    take-take k (to - from) (drop from piece) (omega (arith, le)) ∙ ap (λ (m : ℕ). take m (drop from piece)) (let e : k ≡ from + k - from = omega arith in e)

rest_of_part : (piece : List ℕ) (from to k at : ℕ) → at ≡ from + k → at ≤ to → drop k (slice_range piece from to) ≡ slice_range piece at to
rest_of_part piece from to k at is le =
    let all : to - from ≡ k + (to - at) = omega (arith, is, le) in
    ap (λ (m : ℕ). drop k (take m (drop from piece))) all ∙ drop-take k (to - at) (drop from piece)
    ∙ ap (λ (ys : List ℕ). take (to - at) ys) (drop-drop k from piece ∙ ap (λ (m : ℕ). drop m piece) (sym is))

-- of the bytes from one place to another those before a line end
pub record CutsPart (piece : List ℕ) (from to k : ℕ) : Type 0 where
  pub within : from + k < to
  pub parts : slice_range piece from to ≡ slice_range piece from (from + k) ++ 10 ∷ slice_range piece (from + k + 1) to
  pub no_end : HasNoEnd (slice_range piece from (from + k))

pub cuts_part : (piece : List ℕ) (from to k : ℕ) → from ≤ to → to ≤ length piece → position is_line_end (slice_range piece from to) ≡ Some k → CutsPart piece from to k
cuts_part piece from to k order within some =
    let read = slice_range piece from to in
    let at = line_ends read k some in
    let short : from + k < to = omega (arith, at.within, length_of_part piece from to order within) in
    let front = front_of_part piece from to k (omega (arith, short)) in
    record {
      within = short;
      parts = at.parts ∙ ap (λ (ys : List ℕ). ys ++ 10 ∷ drop (k + 1) read) front
          ∙ ap (λ (ys : List ℕ). slice_range piece from (from + k) ++ 10 ∷ ys) (rest_of_part piece from to (k + 1) (from + k + 1) (omega arith) (omega (arith, short)));
      no_end = subst HasNoEnd front at.no_end;
    }

pub nothing_left : (piece : List ℕ) (at : ℕ) → slice_range piece at at ≡ []
nothing_left piece at = let none : at - at ≡ 0 = omega arith in rw none refl

-- ---- what a try to take a line does

-- So many bytes are taken: those before the first line end, or all of them.
module _ (piece begun : List ℕ) (from to count : ℕ) (end : Option ℕ) (old : Wound) (order : from ≤ to) (within : to ≤ length piece) (is : record { line = begun; read = slice_range piece from to } ≡ old)
    (first : end ≡ position is_line_end old.read) (counts : count ≡ unwrap_or end (to - from)) where
  reads : slice_range piece from to ≡ old.read
  reads = ap (λ (w : Wound). w.read) is

  lines : begun ≡ old.line
  lines = ap (λ (w : Wound). w.line) is

  at_end : (k : ℕ) → end ≡ Some k → CutsPart piece from to count
  at_end k some =
      let counted : count ≡ k = counts ∙ ap (λ (x : Option ℕ). unwrap_or x (to - from)) some in
      subst (CutsPart piece from to) (sym counted) (cuts_part piece from to k order within (ap (position is_line_end) reads ∙ sym first ∙ some))

  all_of_it : end ≡ None → from + count ≡ to
  all_of_it none =
      let counted : count ≡ to - from = counts ∙ ap (λ (x : Option ℕ). unwrap_or x (to - from)) none in
      omega (arith, counted, order)

  no_end_in_it : end ≡ None → HasNoEnd old.read
  no_end_in_it none = no_line_ends old.read (sym first ∙ none)

  pub cuts_line : (k : ℕ) (line : List ℕ) → end ≡ Some k → line ≡ begun ++ slice_range piece from (from + count) → Cuts cut.Line old (record { line = line; read = slice_range piece (from + count + 1) to })
  cuts_line k line some grows =
      let at = at_end k some in
      (slice_range piece from (from + count), sym reads ∙ at.parts, grows ∙ ap (λ (xs : List ℕ). xs ++ slice_range piece from (from + count)) lines, at.no_end)

  pub cuts_all : (line : List ℕ) → end ≡ None → line ≡ begun ++ slice_range piece from (from + count) → Cuts cut.More old (record { line = line; read = slice_range piece (from + count) to })
  cuts_all line none grows =
      let all = all_of_it none in
      let whole : slice_range piece from (from + count) ≡ old.read = ap (λ (j : ℕ). slice_range piece from j) all ∙ reads in (
        ap (λ (j : ℕ). slice_range piece j to) all ∙ nothing_left piece to,
        grows ∙ ap (λ (xs : List ℕ). xs ++ slice_range piece from (from + count)) lines ∙ ap (λ (xs : List ℕ). old.line ++ xs) whole,
        no_end_in_it none,
      )

  too_many : (more : List ℕ) → length more ≡ count → line_most < length begun + count → line_most < length (old.line ++ more)
  too_many more is many = omega (arith, is, many, length-append old.line more, ap length lines)

  long_by : (x : Option ℕ) → end ≡ x → line_most < length begun + count → (new : Wound) → Cuts cut.Long old new
  long_by (Some k) some many new =
      let at = at_end k some in
      let more = slice_range piece from (from + count) in
      let size : length more ≡ count = omega (arith, length_of_part piece from (from + count) (omega arith) (omega (arith, at.within, within))) in
      (more, 10 ∷ slice_range piece (from + count + 1) to, sym reads ∙ at.parts, at.no_end, too_many more size many)
  long_by None none many new =
      let size : length old.read ≡ count = omega (arith, sym (ap length reads), length_of_part piece from to order within, all_of_it none) in
      (old.read, [], sym (append-nil old.read), no_end_in_it none, too_many old.read size many)

  pub cuts_long : line_most < length begun + count → (new : Wound) → Cuts cut.Long old new
  cuts_long many new = long_by end refl many new

-- ---- pieces one after the other

-- a line that was begun goes on
pub goes_on : (all : Option (List ℕ)) (begun more rest : List ℕ) (left : Option (List ℕ)) → Gives all begun (ahead (more ++ rest) left) → Gives all (begun ++ more) (ahead rest left)
goes_on None begun more rest left gives = tt
goes_on (Some all) begun more rest None gives = absurd (let e = gives.1 in cc)
goes_on (Some all) begun more rest (Some left) gives =
    let whole : all ≡ (begun ++ more) ++ (rest ++ left) = grind (arith, gives.1, gives.2, append_assoc) in
    (rest ++ left, refl, whole)

first_of : (all : Option (List ℕ)) (bytes : List ℕ) (rest : Option (List ℕ)) → Gives all bytes rest → IfSome all (λ xs. (ys : List ℕ) × (xs ≡ bytes ++ ys))
first_of None bytes rest gives = tt
first_of (Some all) bytes rest gives = (gives.0, gives.2)

-- it ends here
pub line_comes : (all : Option (List ℕ)) (begun more read rest line : List ℕ) (left : Option (List ℕ)) → Gives all begun (ahead read left) → read ≡ more ++ 10 ∷ rest → line ≡ begun ++ more →
    Gives all (line ++ 10 ∷ []) (ahead rest left)
line_comes all begun more read rest line left gives parts is =
    let ended : read ≡ (more ++ 10 ∷ []) ++ rest = parts ∙ sym (append_assoc more (10 ∷ []) rest) in
    let came = goes_on all begun (more ++ 10 ∷ []) rest left (subst (λ (xs : List ℕ). Gives all begun (ahead xs left)) ended gives) in
    subst (λ (xs : List ℕ). Gives all xs (ahead rest left)) (sym (append_assoc begun more (10 ∷ [])) ∙ ap (λ (xs : List ℕ). xs ++ 10 ∷ []) (sym is)) came

-- all that was read belongs to it
pub line_goes_on : (all : Option (List ℕ)) (begun read line : List ℕ) (left : Option (List ℕ)) → Gives all begun (ahead read left) → line ≡ begun ++ read → Gives all line (ahead [] left)
line_goes_on all begun read line left gives is =
    let came = goes_on all begun read [] left (subst (λ (xs : List ℕ). Gives all begun (ahead xs left)) (sym (append-nil read)) gives) in
    subst (λ (xs : List ℕ). Gives all xs (ahead [] left)) (sym is) came

-- and then the next piece was read
pub piece_comes : (all : Option (List ℕ)) (line read : List ℕ) (left later : Option (List ℕ)) → Gives all line (ahead [] left) → Consumes left later read → Gives all line (ahead read later)
piece_comes None line read left later gives takes = tt
piece_comes (Some all) line read None later gives takes = absurd (let e = gives.1 in cc)
piece_comes (Some all) line read (Some xs) None gives takes = absurd takes
piece_comes (Some all) line read (Some xs) (Some ys) gives takes = subst (λ (zs : List ℕ). Gives (Some all) line (Some zs)) takes gives

-- nothing is left behind it
pub no_line_comes : (all : Option (List ℕ)) (line : List ℕ) (left : Option (List ℕ)) → Gives all line (ahead [] left) → IsAtEnd left → HasNoEnd line → IfSome all HasNoEnd
no_line_comes None line left gives over no_end = tt
no_line_comes (Some all) line None gives over no_end = absurd (let e = gives.1 in cc)
no_line_comes (Some all) line (Some xs) gives over no_end =
    let whole : all ≡ line = grind (arith, gives.1, gives.2, over, append-nil) in
    subst HasNoEnd (sym whole) no_end

-- it has too many bytes
pub long_comes : (all : Option (List ℕ)) (begun more read rest : List ℕ) (left : Option (List ℕ)) → Gives all begun (ahead read left) → read ≡ more ++ rest → HasNoEnd begun → HasNoEnd more → line_most < length (begun ++ more) → IsLongAhead all
long_comes all begun more read rest left gives parts no_end none long = record {
  begun = begun ++ more;
  no_end = All-append (λ c. c ≢ 10) begun more no_end none;
  long = long;
  begins = first_of all (begun ++ more) (ahead rest left) (goes_on all begun more rest left (subst (λ (xs : List ℕ). Gives all begun (ahead xs left)) parts gives));
}

pub nothing_came : (all : Option (List ℕ)) → Gives all [] all
nothing_came None = tt
nothing_came (Some all) = (all, refl, refl)
