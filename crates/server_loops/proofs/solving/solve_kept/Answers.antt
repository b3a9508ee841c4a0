use Rattle.std.proofs.Common.{◌∙◌, subst}
use Rattle.std.specs.Arc.{arc_value}
use Rattle.te_links.specs.Rows.{Rows}
use Rattle.cost_cache.specs.Keys.{key_of}
use Rattle.cost_cache.specs.Entries.{IsGood}
use Rattle.server_loops.proofs.Righting.{right_after}
use Rattle.server_loops.proofs.solving.solve_kept.Goals as goal

pub returns-clause-right : goal.returns-clause-right
returns-clause-right c = λ known knows right.
    let key = key_of c.args.job.now.ask in
    let new = c.solve.new.self in
    let good : IsGood key.at key.generation (arc_value c.args.job.now.topology) new =
    subst (λ (g : Rows). IsGood key.at key.generation g new) (c.new-links.ensures.topology ∙ c.deref.ensures) c.solve.ensures.good in
    right_after known key (arc_value c.args.job.now.topology) c.args.cache.now new knows right c.in_ok-rows.ensures.others good
