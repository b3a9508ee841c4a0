use Rattle.std.proofs.Common.{rules, ◌≡◌, ◌∙◌, map, ap}
use Rattle.std.specs.BTreeMap.{values}
use Rattle.dom_base.specs.Words.{units, word_of}
use Rattle.outside_part.specs.Sifting.{path_by, rows_of}
use Rattle.outside_part.proofs.Keying.{rows_held}
use Rattle.outside_part.proofs.sifting.sifted_answer.Goals as goal

pub returns-in_ok-paths_by-in-Paths : goal.returns-in_ok-paths_by-in-Paths
returns-in_ok-paths_by-in-Paths c =
    let rows = c.in_ok-rows-in-Paths.rows in
    let are : values rows ≡ rows_of units c.args.most c.as_slice.result.now = rows_held _ rows.entries c.in_ok-rows-in-Paths.ensures in
    let told : c.in_ok-paths_by-in-Paths.field-0 ≡ map (path_by word_of) (rows_of units c.args.most c.as_slice.result.now) = c.in_ok-paths_by-in-Paths.ensures ∙ ap (map (path_by word_of)) are in
    search rules
