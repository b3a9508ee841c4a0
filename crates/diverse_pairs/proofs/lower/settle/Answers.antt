use Rattle.std.proofs.Common.{◌∙◌, length}
use Rattle.diverse_pairs.specs.Listed.{listed}
use Rattle.diverse_pairs.proofs.Along.{along_among, into_within, from_within}
use Rattle.diverse_pairs.proofs.Settling.{node_settled}
use Rattle.diverse_pairs.proofs.lower.settle.Goals as goal

pub spread-requires-clause-among : goal.spread-requires-clause-among
spread-requires-clause-among c = along_among c.args.topology.now (listed c.args.arcs.now) c.requires.along (length c.args.distances.now) c.requires.long

pub spread-requires-clause-places : goal.spread-requires-clause-places
spread-requires-clause-places c = into_within c.args.topology.now (listed c.args.arcs.now) c.requires.along c.args.node c.links_into-into.result.now c.links_into-into.ensures

pub spread-requires-2-clause-among : goal.spread-requires-2-clause-among
spread-requires-2-clause-among c =
    along_among c.args.topology.now (listed c.args.arcs.now) c.requires.along (length c.spread.new.distances) (c.spread.ensures.spreads.keeps.long ∙ c.requires.long)

pub spread-requires-2-clause-places : goal.spread-requires-2-clause-places
spread-requires-2-clause-places c = from_within c.args.topology.now (listed c.args.arcs.now) c.requires.along c.args.node c.links_from-from.result.now c.links_from-from.ensures.places

pub returns : goal.returns
returns c = record {
  settles =
      node_settled c.args.topology.now (listed c.args.arcs.now) c.args._target c.args.node c.links_into-into.result.now c.links_from-from.result.now c.args.distances.now c.spread.new.distances
      c.spread-2.new.distances c.args.waiting.now c.spread.new.waiting c.spread-2.new.waiting c.requires.along c.links_into-into.ensures c.links_from-from.ensures.places
      c.spread.ensures.spreads c.spread-2.ensures.spreads;
}
