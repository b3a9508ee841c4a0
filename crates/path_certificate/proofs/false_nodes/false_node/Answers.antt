use Rattle.std.proofs.Common.{arith}
use Rattle.std.proofs.lemmas.Option.{slice_get_within}
use Rattle.path_certificate.specs.Rows.{label_in}
use Rattle.path_certificate.proofs.Making.{marks_tell}
use Rattle.path_certificate.proofs.false_nodes.false_node.Goals as goal

pub broken_node-requires-clause-made : goal.broken_node-requires-clause-made
broken_node-requires-clause-made c = (
  c.mark_made.ensures.sound c.loop-index.index,
  marks_tell c.args.topology.now c.args.query.now (label_in c.args.rows.now) c.mark_made.new.marks c.loop-index.index c.mark_made.ensures,
)

pub returns : goal.returns
returns c = λ i n a at_n told.
    c.loop-index.invariant i (omega (arith, slice_get_within c.args.topology.now.nodes i n at_n)) n a at_n told
