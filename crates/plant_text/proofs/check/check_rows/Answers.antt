use Rattle.std.proofs.Common.{◌∙◌, sym, le-leb}
use Rattle.std.proofs.lemmas.Bool.{lt-leb}
use Rattle.plant_text.proofs.RuleLaws.{row_past, row_breaks, row_passes}
use Rattle.plant_text.proofs.check.check_rows.Goals as goal

pub returns-then-i-limit : goal.returns-then-i-limit
returns-then-i-limit g c =
    rw (c.loop-i.invariant ∙ row_past c.args.name.now c.args.limit (g.R.Row.rules c.args.sheet.now) c.args.rows.now c.loop-i.i c.loop-i-test.true (le-leb c.args.limit c.loop-i.i c.if-i-limit.true))
    c.refusal.ensures

pub returns-in-Some : goal.returns-in-Some
returns-in-Some g c =
    rw (c.loop-i.invariant ∙ row_breaks c.args.name.now c.args.limit (g.R.Row.rules c.args.sheet.now) c.args.rows.now c.loop-i.i c.index-rows-i.result c.in-Some.breach c.loop-i-test.true (lt-leb c.args.limit c.loop-i.i c.if-i-limit.false) (rw (sym c.index-rows-i.is) (sym c.in-Some.ensures)))
    c.refusal-in-Some.ensures

pub loop-i-preserved : goal.loop-i-preserved
loop-i-preserved g c =
    c.loop-i.invariant ∙ row_passes c.args.name.now c.args.limit (g.R.Row.rules c.args.sheet.now) c.args.rows.now c.loop-i.i c.index-rows-i.result c.loop-i-test.true (lt-leb c.args.limit c.loop-i.i c.if-i-limit.false) (rw (sym c.index-rows-i.is) (sym c.in_default.ensures))
