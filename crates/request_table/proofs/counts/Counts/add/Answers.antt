use Rattle.request_table.proofs.CountLemmas.{added_count}
use Rattle.request_table.proofs.counts.Counts.add.Goals as goal

pub returns-clause-counts : goal.returns-clause-counts
returns-clause-counts c = λ p.
    let before = c.self.inside.counts.entries in
    rw (← c.self.view_is) (added_count c.args.peer p c.of-count.result before c.insert.new.self.entries (rw (← c.self.view_is) at c.of-count.ensures) c.in-Ok.ensures.updates.0)
