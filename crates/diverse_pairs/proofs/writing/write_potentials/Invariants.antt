use Rattle.std.proofs.Common.{◌≡◌, ◌++◌, take}
use Rattle.std.specs.List.{All, flat_map}
use Rattle.line_text.specs.Spelling.{line_text}
use Rattle.diverse_pairs.specs.declared.pair_row.PairRow.TheVariants as rows
use Rattle.diverse_pairs.specs.PairText.{potential_words, IsWritten}
use Rattle.diverse_pairs.proofs.writing.write_potentials.Given as goal

abbrev pub invariant-loop-row : goal.invariant-loop-row
invariant-loop-row l = record {
  written : l.into.items ≡ l.initial.into.items ++ flat_map (λ row. line_text (potential_words row)) (take l.row-index l.potentials);
  again : All (λ row. IsWritten (rows.At row.0 row.1)) (take l.row-index l.potentials);
}
