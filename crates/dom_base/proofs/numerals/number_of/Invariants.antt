use Rattle.std.proofs.Common.{◌≡◌, ◌<◌, ◌≤◌, ◌^◌, length, drop}
use Rattle.dom_base.proofs.ReadDigits.{onward}
use Rattle.dom_base.proofs.numerals.number_of.Given as goal

-- what is left makes of the number so far what the whole word makes of none
abbrev pub invariant-loop-c : goal.invariant-loop-c
invariant-loop-c l = record {
  fits : l.number < 2 ^ 64;
  some : 1 ≤ length l.word;
  so_far : onward l.base l.number (drop l.c-index l.word) ≡ onward l.base 0 l.word;
}
