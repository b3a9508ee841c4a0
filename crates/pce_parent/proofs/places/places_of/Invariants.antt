use Rattle.std.proofs.Common.{All, take, Contains}
use Rattle.pce_common.specs.plant_model.BorderGraph.{Enter}
use Rattle.pce_parent.specs.Places.{HasLink, HasEnd, spot_of}
use Rattle.pce_parent.proofs.places.places_of.Given as goal

abbrev pub invariant-loop-link : goal.invariant-loop-link
invariant-loop-link l = record {
  start : Contains l.spots.keys (spot_of (Enter l.job.start l.job.source));
  links : All (HasLink l.spots.keys) (take l.link-index l.link-items);
}

abbrev pub invariant-loop-row : goal.invariant-loop-row
invariant-loop-row l = record {
  start : Contains l.spots.keys (spot_of (Enter l.job.start l.job.source));
  links : All (HasLink l.spots.keys) l.job.links;
  ends : All (HasEnd l.job l.spots.keys) (take l.row-index l.row-items);
}
