use Rattle.std.proofs.Common.{◌≡◌, ◌++◌, Some, map, take, decimal}
use Rattle.std.specs.List.{All}
use Rattle.te_text.specs.RowText.{number_32}
use Rattle.te_text.specs.Spelled.{spaced}
use Rattle.te_text.proofs.words.push_srlgs.Given as goal

abbrev pub invariant-loop-number : goal.invariant-loop-number
invariant-loop-number l = record {
  written : l.into.items ≡ l.initial.into.items ++ spaced (map decimal (take l.number-index l.srlgs));
  again : All (λ n. number_32 (decimal n) ≡ Some n) (take l.number-index l.srlgs);
}
