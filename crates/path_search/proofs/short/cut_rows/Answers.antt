use Rattle.std.proofs.Common.{◌≡◌, ◌<◌, ◌≢◌, length, take, arith, ◌∙◌}
use Rattle.std.proofs.Math.ListN.{length-set}
use Rattle.std.proofs.lemmas.List.{get_or-set_other}
use Rattle.path_search.specs.declared.short.Short.{Short}
use Rattle.path_search.proofs.ShortCut.{cut_more}
use Rattle.path_search.proofs.short.cut_rows.Goals as goal

pub loop-row-preserved : goal.loop-row-preserved
loop-row-preserved c =
    let inv = c.loop-row.invariant in
    let rows = c.loop-row.rows in
    let k = c.loop-row.row-index in
    let x = c.cut_row.result in
    let none : Short = record { cost = 0; exit = 0 } in
    let below : k < length rows = omega (arith, inv.long, c.loop-row-test.true) in
    record {
      long = (let same = length-set rows k x in same ∙ inv.long);
      cut = cut_more c.get-number.result c.args.rows.now rows k x none below inv.long inv.cut (inv.rest k none (omega arith)) c.cut_row.ensures;
      rest = λ j d past. let other : j ≢ k = omega (arith, past) in get_or-set_other rows k j x d other ∙ inv.rest j d (omega (arith, past));
    }
