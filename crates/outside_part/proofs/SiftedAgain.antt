-- What is kept is kept again, and can be joined.
use Rattle.std.proofs.Common.{◌≡◌, ◌∙◌, ◌≤◌, ℕ, List, [], ◌∷◌, length, map, min, Option, Some, None, refl, sym, ap, subst, arith}
use Rattle.std.specs.List.{AllByRecursion}
use Rattle.dom_base.specs.Words as words
use Rattle.dom_base.specs.declared.limits.TheConstants.{COST_MAX}
use Rattle.dom_base.proofs.CostWords.{cost_again}
use Rattle.pcep_subobjects.specs.Hops.{AreWritten, IsWritten}
use Rattle.pcep_subobjects.specs.declared.hop.Hop.{Hop}
use Rattle.pcep_subobjects.specs.declared.hop.Hop.TheVariants.{Prefix, AsNumber, Key, Other}
use Rattle.pcep_messages.specs.declared.message.Answer.{Answer}
use Rattle.pcep_messages.specs.declared.message.Answer.TheVariants.{Paths, NoPath}
use Rattle.pcep_messages.specs.declared.message.Path.{Path}
use Rattle.pcep_messages.specs.declared.message.Reply.{Reply}
use Rattle.outside_part.specs.declared.reported.Reported.{Reported}
use Rattle.outside_part.specs.Sifting.{insert_row, add_row, row_of, rows_of, path_by, sifted_answer}
use Rattle.outside_part.specs.Rows.{IsPlain, BeginsAt, IsKept, SiftsOnce, SiftsOnceByWords}
use Rattle.outside_part.specs.Ranges.{IsInRange, AreInRange, EachPath, CanBeJoined, SiftedFits}
use Rattle.outside_part.proofs.Inserting.{insert_each, Ascends, at_front}
use Rattle.outside_part.proofs.Kept.{kept, gives}
use Rattle.outside_part.proofs.FirstLeast.{rows_ascend}

-- what holds of the row of each path that is kept holds of all rows
module _ (units : ℕ → Option ℕ) (most : ℕ) (P : Reported → Type 0) (Q : Path → Type 0) (leads : (p : Path) (r : Reported) → Q p → IsKept units most p r → P r) where
  pub all_rows : (told : List Path) → AllByRecursion Q told → AllByRecursion P (rows_of units most told)
  all_rows [] all = tt
  all_rows (p ∷ told) all = go (row_of units most p) refl (all_rows told all.1)
    where
      go : (o : Option Reported) → row_of units most p ≡ o → AllByRecursion P (rows_of units most told) → AllByRecursion P (add_row o (rows_of units most told))
      go None is rest = rest
      go (Some x) is rest = insert_each P x (rows_of units most told) (leads p x all.0 (kept units most p x is)) rest

all_of_any : {X : Type 0} (xs : List X) → AllByRecursion (λ _. Unit {0}) xs
all_of_any [] = tt
all_of_any (x ∷ xs) = (tt, all_of_any xs)

-- ---- sifted again

module _ (units : ℕ → Option ℕ) (word : ℕ → ℕ) (most : ℕ) (means : (c : ℕ) → c ≤ COST_MAX → units (word c) ≡ Some c) where
  again : (p : Path) (r : Reported) → IsKept units most p r → IsKept units most (path_by word r) r
  again p r k = record {
    hops = refl;
    some = subst (λ (hops : List Hop). 1 ≤ length hops) (sym k.hops) k.some;
    few = subst (λ (hops : List Hop). length hops ≤ most) (sym k.hops) k.few;
    plain = subst (λ (hops : List Hop). AllByRecursion IsPlain hops) (sym k.hops) k.plain;
    entry = subst (λ (hops : List Hop). BeginsAt r.entry hops) (sym k.hops) k.entry;
    word = word r.cost;
    metric = refl;
    kind = k.kind;
    cost = means r.cost k.small;
    small = k.small;
  }

  rows_again : (rows : List Reported) → Ascends rows → AllByRecursion (λ (r : Reported). row_of units most (path_by word r) ≡ Some r) rows → rows_of units most (map (path_by word) rows) ≡ rows
  rows_again [] up all = refl
  rows_again (r ∷ rows) up all =
      ap (λ (o : Option Reported). add_row o (rows_of units most (map (path_by word) rows))) all.0
      ∙ ap (λ (others : List Reported). insert_row r others) (rows_again rows up.1 all.1)
      ∙ at_front r rows up.0

  answer_again : (a : Answer) → sifted_answer units word most (sifted_answer units word most a) ≡ sifted_answer units word most a
  answer_again (Paths told) =
      let all = all_rows units most (λ (r : Reported). row_of units most (path_by word r) ≡ Some r) (λ _. Unit {0}) (λ p r _ k. gives units most (path_by word r) r (again p r k)) told (all_of_any told) in
      ap (λ (rows : List Reported). Paths (map (path_by word) rows)) (rows_again (rows_of units most told) (rows_ascend units most told) all)
  answer_again (NoPath nature vector) = ap (λ (n : ℕ). NoPath n vector) (once nature)
    where
      once : (n : ℕ) → min (min n 1) 1 ≡ min n 1
      once n = omega arith

pub sifts_once : SiftsOnce
sifts_once units word most r means =
    let made : Answer → Reply = λ answer. record { flags = r.flags; id = r.id; answer = answer } in
    ap made (answer_again units word most means r.answer)

pub sifts_once_by_words : SiftsOnceByWords
sifts_once_by_words most r = sifts_once words.units words.word_of most r cost_again

-- ---- what is kept can be joined

written_hop : (h : Hop) → IsPlain h → IsInRange h → IsWritten h
written_hop (Prefix loose addr length) plain range = (plain.0, plain.1, range)
written_hop (AsNumber loose number) plain range = absurd plain
written_hop (Key loose key pce) plain range = range
written_hop (Other loose kind body) plain range = absurd plain

written_hops : (hops : List Hop) → AllByRecursion IsPlain hops → AllByRecursion IsInRange hops → AreWritten hops
written_hops [] plain range = tt
written_hops (h ∷ hops) plain range = (written_hop h plain.0 range.0, written_hops hops plain.1 range.1)

module _ (units : ℕ → Option ℕ) (word : ℕ → ℕ) (most : ℕ) where
  fits : (p : Path) (r : Reported) → AllByRecursion IsInRange p.hops → IsKept units most p r → CanBeJoined most (path_by word r)
  fits p r range k = record {
    hops = subst (λ (hops : List Hop). AreWritten hops) (sym k.hops) (written_hops p.hops k.plain range);
    few = subst (λ (hops : List Hop). length hops ≤ most) (sym k.hops) k.few;
    metric = k.kind;
    measured = refl;
  }

  mapped : (rows : List Reported) → AllByRecursion (λ (r : Reported). CanBeJoined most (path_by word r)) rows → AllByRecursion (CanBeJoined most) (map (path_by word) rows)
  mapped [] all = tt
  mapped (r ∷ rows) all = (all.0, mapped rows all.1)

  answer_fits : (a : Answer) → AreInRange a → EachPath (CanBeJoined most) (sifted_answer units word most a)
  answer_fits (Paths told) range = mapped (rows_of units most told) (all_rows units most (λ (r : Reported). CanBeJoined most (path_by word r)) (λ (p : Path). AllByRecursion IsInRange p.hops) fits told range)
  answer_fits (NoPath nature vector) range = tt

pub sifted_fits : SiftedFits
sifted_fits units word most r range = answer_fits units word most r.answer range
