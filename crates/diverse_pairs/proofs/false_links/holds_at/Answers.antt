use Rattle.std.proofs.Common.{◌++◌}
use Rattle.diverse_pairs.specs.Potentials.{potential_in}
use Rattle.diverse_pairs.proofs.Risen.{rise_told}
use Rattle.diverse_pairs.proofs.false_links.holds_at.Goals as goal

pub returns : goal.returns
returns c =
    rise_told c.args.topology.now c.args.query.now (potential_in c.args.potentials.now) (c.args.first.now ++ c.args.second.now) c.args.index c.in-Some.link.now c.is_in_use.result c.rises_right.result
    c.in-Some.ensures c.is_in_use.ensures c.rises_right.ensures
