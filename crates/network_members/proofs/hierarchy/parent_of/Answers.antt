use Rattle.std.proofs.Common.{◌<◌, AllPairs, List, sym, subst}
use Rattle.pce_common.specs.plant_model.Types.{As}
use Rattle.plant_text.specs.Settings.{children_of}
use Rattle.network_members.proofs.RisingDomains.{children_rise, rise_in_pairs}
use Rattle.network_members.proofs.hierarchy.parent_of.Goals as goal

pub new-requires-clause-rising : goal.new-requires-clause-rising
new-requires-clause-rising c =
    let rows = c.as_slice.result.now in
    subst (λ (ds : List As). AllPairs (λ (a b : As). a.0 < b.0) ds) (sym c.in_ok-children.ensures) (rise_in_pairs 0 (children_of rows) (children_rise rows))
