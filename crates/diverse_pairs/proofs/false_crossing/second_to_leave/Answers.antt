use Rattle.std.proofs.Common.{◌≡◌, false, true, refl, arith}
use Rattle.diverse_pairs.proofs.Leaving.{skip_told, skip_only, take_told, take_only, all_only}
use Rattle.diverse_pairs.proofs.false_crossing.second_to_leave.Goals as goal

pub returns-then-seen : goal.returns-then-seen
returns-then-seen c = record {
  fails = λ only.
      let before = c.loop-index.invariant.told.0 c.if-seen.true in
      only before.0 before.1 before.2 (c.if-not-leaves.ensures.0 refl);
  earlier = c.loop-index.invariant.only;
}

pub loop-index-preserved-then-not-leaves : goal.loop-index-preserved-then-not-leaves
loop-index-preserved-then-not-leaves c =
    record {
      told = skip_told c.args.topology.now c.args.query.now c.args.nodes.now c.loop-index.index c.loop-index.seen c.loop-index.invariant.told (λ here. let bad : false ≡ true = c.if-not-leaves.ensures.1 here in cc);
      only = skip_only c.args.topology.now c.args.query.now c.args.nodes.now c.loop-index.index c.loop-index.invariant.only (λ here. let bad : false ≡ true = c.if-not-leaves.ensures.1 here in cc);
    }

pub loop-index-preserved : goal.loop-index-preserved
loop-index-preserved c = record {
  told = take_told c.args.topology.now c.args.query.now c.args.nodes.now c.loop-index.index (c.if-not-leaves.ensures.0 refl);
  only = take_only c.args.topology.now c.args.query.now c.args.nodes.now c.loop-index.index c.loop-index.invariant.only
      (λ has. let yes : c.loop-index.seen ≡ true = c.loop-index.invariant.told.1 has in let no : c.loop-index.seen ≡ false = c.if-seen.false in cc);
}

pub returns : goal.returns
returns c = all_only c.args.topology.now c.args.query.now c.args.nodes.now c.loop-index.index (omega arith) c.loop-index.invariant.only
