use Rattle.std.proofs.Common.{refl}
use Rattle.pce_common.specs.plant_model.Branches.{downs}
use Rattle.pce_element.proofs.JoinLemmas.{way_is}
use Rattle.pce_element.proofs.joining.way_over.Goals as goal

pub returns : goal.returns
returns c = way_is c.args.cap c.args.target (downs c.args.down.now) c.args.row.now _ c.in-Some.ensures refl refl c.head_over.ensures
