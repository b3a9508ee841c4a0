use Rattle.std.proofs.Common.{◌∙◌, Some, sym, ap}
use Rattle.std.specs.Arc.{arc_value}
use Rattle.te_generations.specs.declared.live.Live.{Live}
use Rattle.te_generations.proofs.ShelfLemmas.{topology_at}
use Rattle.te_generations.proofs.among.topology_in.Goals as goal

pub returns : goal.returns
returns c =
    topology_at c.args.number c.place_of-i.result c.args.older.now.items c.index.result.now c.place_of-i.ensures.first
    ∙ ap (λ (l : Live). Some (arc_value l.topology)) (sym c.index.ensures)
    ∙ ap Some (sym c.deref.ensures)
