-- What scripts on any network have in common: lines that tell something, first parts of what is written, and faults that rise.
use Rattle.std.proofs.Common.{◌≡◌, ◌≤◌, ℕ, ◌+◌, Bool, true, false, if◌then◌else◌, List, [], ◌∷◌, ◌++◌, All, refl, sym, subst, arith}
use Rattle.std.proofs.lemmas.List.{length-append}
use Rattle.std.proofs.Math.Seq.{take-append-add, take-length}
use Rattle.std.proofs.KnownBytes.{Appends-trans}
use Rattle.std.proofs.lemmas.List.Elements.{All-nil, All-cons}
use Rattle.std.specs.declared.option.Option.{Option}
use Rattle.std.specs.Prelude.{length, take}
use Rattle.std.specs.Io.KnownBytes.{Appends}
use Rattle.std.specs.Str.Lines.{lines}
use Rattle.dom_edge.specs.Causes.{Rose}
use Rattle.dom_edge.specs.Whole.{AppendsSome}
use Rattle.line_text.specs.Lines.{NumberedLine, is_skipped, told_after, told_lines}

-- ---- lines that tell something

abbrev pub Tells : NumberedLine → Type 0
Tells l = is_skipped l.text ≡ false

tell_by : (b : Bool) (line : List ℕ) (k : ℕ) (rest : List NumberedLine) → is_skipped line ≡ b → All Tells rest →
    All Tells (if b then rest else record { number = k + 1; text = line } ∷ rest)
tell_by true line k rest is all = all
tell_by false line k rest is all = All-cons Tells (record { number = k + 1; text = line }) rest is all

told_tell : (k : ℕ) (ls : List (List ℕ)) → All Tells (told_after k ls)
told_tell k [] = All-nil Tells
told_tell k (line ∷ ls) = tell_by (is_skipped line) line k (told_after (k + 1) ls) refl (told_tell (k + 1) ls)

pub script_tells : (script : List ℕ) → All Tells (told_lines script)
script_tells script = told_tell 0 (lines script)

-- ---- what is written

pub some_of_all : (a b : Option (List ℕ)) (xs : List ℕ) → Appends a b xs → AppendsSome a b xs
some_of_all a b xs is = record { count = length xs; within = omega arith; added = subst (Appends a b) (sym (take-length xs)) is }

pub some_more : (a b c : Option (List ℕ)) (xs ys : List ℕ) → Appends a b xs → AppendsSome b c ys → AppendsSome a c (xs ++ ys)
some_more a b c xs ys one two = record {
  count = length xs + two.count;
  within = omega (arith, two.within, length-append xs ys);
  added = subst (Appends a c) (sym (take-append-add xs ys two.count)) (Appends-trans a b c xs (take two.count ys) one two.added);
}

-- ---- faults

pub rose_before : (a b c : ℕ) → a ≤ b → Rose b c → Rose a c
rose_before a b c le is = omega (arith, le, is)
