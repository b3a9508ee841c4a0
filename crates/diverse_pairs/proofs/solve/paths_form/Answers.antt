use Rattle.std.proofs.Common.{◌∙◌, ap, subst, length}
use Rattle.diverse_pairs.specs.Paths.{Goes}
use Rattle.diverse_pairs.proofs.Flow.{length_turned}
use Rattle.diverse_pairs.proofs.Beginning.{path_within}
use Rattle.diverse_pairs.proofs.solve.paths_form.Goals as goal

pub far_addresses-requires : goal.far_addresses-requires
far_addresses-requires c =
    rw c.as_slice.ensures.value
    (path_within c.args.arcs.now c.args.in_use.items c.args.to c.in_ok-one.one.path.items c.args.from (length c.args.topology.now.links) c.requires.along.long c.in_ok-one.ensures.taken.goes)

pub far_addresses-requires-2 : goal.far_addresses-requires-2
far_addresses-requires-2 c =
    rw c.as_slice-2.ensures.value
    (path_within c.args.arcs.now c.in_ok-one.one.in_use.items c.args.to c.in_ok-other.other.path.items c.args.from (length c.args.topology.now.links) c.requires.along.long c.in_ok-other.ensures.taken.goes)

pub returns : goal.returns
returns c = record {
  one = c.in_ok-one.one.path.items;
  other = c.in_ok-other.other.path.items;
  goes_one = c.in_ok-one.ensures.taken.goes;
  goes_other = subst (λ us. Goes c.args.arcs.now us c.args.from c.in_ok-other.other.path.items c.args.to) c.in_ok-one.ensures.taken.is c.in_ok-other.ensures.taken.goes;
  shows_one = rw (c.from_vec-2.ensures, ← c.as_slice.ensures.value) c.in_ok-first.ensures;
  shows_other = rw (c.from_vec-3.ensures, ← c.as_slice-2.ensures.value) c.in_ok-second.ensures;
  top = c.in_ok-potentials.ensures.0;
  potentials = rw c.from_vec.ensures c.in_ok-potentials.ensures.1;
}

pub take_path-requires-2-clause-long : goal.take_path-requires-2-clause-long
take_path-requires-2-clause-long c = ap length c.in_ok-one.ensures.taken.is ∙ length_turned c.in_ok-one.one.path.items c.args.in_use.items ∙ c.requires.in_use
