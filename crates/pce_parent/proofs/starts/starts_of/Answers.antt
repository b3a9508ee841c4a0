use Rattle.std.proofs.Common.{◌∙◌, ap, map}
use Rattle.std.proofs.lemmas.List.{take_all}
use Rattle.pce_parent.specs.Costs.{start_cost}
use Rattle.pce_parent.proofs.Starting.{reached_at_first}
use Rattle.pce_parent.proofs.starts.starts_of.Goals as goal

pub returns : goal.returns
returns c =
    reached_at_first c.args.job.now c.args.spots.now c.loop-spot.costs.items
    (c.loop-spot.invariant ∙ ap (map (start_cost c.args.job.now.target)) (take_all c.loop-spot.spot-index c.args.spots.now c.loop-spot-test.false))
