use Rattle.path_search.proofs.Cutting.{stops_labelled}
use Rattle.path_search.proofs.law.stops_are_labelled.Goals as goal

pub returns : goal.returns
returns c = stops_labelled
