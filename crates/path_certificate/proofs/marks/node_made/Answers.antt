use Rattle.std.proofs.Common.{refl, sym}
use Rattle.path_certificate.specs.Rows.{label_in}
use Rattle.path_certificate.proofs.Making.{found_node}
use Rattle.path_certificate.proofs.marks.node_made.Goals as goal

pub returns-then-is : goal.returns-then-is
returns-then-is c =
    found_node c.args.topology.now c.args.query.now (label_in c.args.rows.now) c.args.index c.in_ok-offer.offer c.in_ok-told.told c.find_node.result
    c.in_ok-offer.ensures (sym c.in_ok-told.ensures) (c.if-is.ensures.0 refl) c.find_node.ensures
