use Rattle.std.proofs.Common.{arith}
use Rattle.std.proofs.lemmas.Option.{slice_get_within}
use Rattle.path_certificate.specs.Rows.{label_in}
use Rattle.path_certificate.proofs.Making.{marks_set, marks_kept}
use Rattle.path_certificate.proofs.marks.mark_made.Goals as goal
use Rattle.path_certificate.proofs.marks.mark_made.Goals.{in-Some, in_default}

pub loop-index-preserved : goal.loop-index-preserved
loop-index-preserved c =
    let g = c.args.topology.now in
    let q = c.args.query.now in
    let label = label_in c.args.rows.now in
    elim c.match-node_made.branch [
      | in-Some w ↦
          let m = w.in-Some.ensures in
          rw w.marks-is
          (marks_set g q label c.loop-index.index w.in-Some.place c.loop-index.marks c.link_count-index-end.ensures.order.nodes
          (omega (arith, slice_get_within g.nodes w.in-Some.place m.node m.at_node, c.requires.room, c.loop-index.auto.marks)) c.loop-index.invariant m)
      | in_default w ↦ rw w.marks-is (marks_kept g q label c.loop-index.index c.loop-index.marks c.loop-index.invariant w.in_default.ensures)
    ]
