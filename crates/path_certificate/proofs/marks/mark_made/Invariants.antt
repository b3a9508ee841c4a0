use Rattle.path_certificate.specs.Rows.{label_in}
use Rattle.path_certificate.specs.Offers.{AreMarks}
use Rattle.path_certificate.proofs.marks.mark_made.Given as goal

abbrev pub invariant-loop-index : goal.invariant-loop-index
invariant-loop-index l = AreMarks l.topology l.query (label_in l.rows) l.index l.marks
