use Rattle.std.proofs.Common.{◌∙◌, sym}
use Rattle.pce_parent.specs.Pendings.{row_of}
use Rattle.pce_parent.proofs.Gone.{sought_here, sought_gone, sought_other}
use Rattle.pce_parent.proofs.sought.find.Goals as goal
use Rattle.pce_parent.proofs.sought.find.Goals.{else-is-via-then-is+else-not-has_number, else-is-via-else-is}

pub returns-then-not-has_number-clause-row : goal.returns-then-not-has_number-clause-row
returns-then-not-has_number-clause-row c =
    c.loop-i.invariant
    ∙ sought_here c.args.sought c.args.ended.now c.loop-i.i c.args.requests.now.kept.rows (row_of c.in-Some.row) c.in-Some.ensures.row (sym c.has_number.ensures ∙ c.if-not-has_number.true) (sym c.is.ensures ∙ c.if-is.true)

pub loop-i-preserved : goal.loop-i-preserved
loop-i-preserved c =
    c.loop-i.invariant
    ∙ elim c.else-is.branch [
      | else-is-via-then-is+else-not-has_number w ↦
          sought_gone c.args.sought c.args.ended.now c.loop-i.i c.args.requests.now.kept.rows (row_of c.in-Some.row) c.in-Some.ensures.row (sym w.has_number.ensures ∙ w.if-not-has_number.false)
      | else-is-via-else-is w ↦
          sought_other c.args.sought c.args.ended.now c.loop-i.i c.args.requests.now.kept.rows (row_of c.in-Some.row) c.in-Some.ensures.row (sym c.is.ensures ∙ w.if-is.false)
    ]
