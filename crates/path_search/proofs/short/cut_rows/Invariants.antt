use Rattle.std.proofs.Common.{◌≡◌, ◌≤◌, ℕ, length, map, take}
use Rattle.std.specs.Prelude.{slice_index_or}
use Rattle.path_search.specs.declared.short.Short.{Short}
use Rattle.path_search.specs.Short.{cut_short}
use Rattle.path_search.proofs.short.cut_rows.Given as goal

abbrev pub invariant-loop-row : goal.invariant-loop-row
invariant-loop-row l = record {
  long : length l.rows ≡ length l.initial.rows;
  cut : take l.row-index l.rows ≡ map (cut_short l.number) (take l.row-index l.initial.rows);
  rest : (j : ℕ) (d : Short) → l.row-index ≤ j → slice_index_or l.rows j d ≡ slice_index_or l.initial.rows j d;
}
