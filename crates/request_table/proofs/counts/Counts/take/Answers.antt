use Rattle.std.proofs.Common.{◌-◌, arith, is_some, ap, sym}
use Rattle.request_table.proofs.CountLemmas.{count_of_some, taken_count}
use Rattle.request_table.proofs.counts.Counts.take.Goals as goal

pub overflow_sub-count : goal.overflow_sub-count
overflow_sub-count c = omega (arith, (rw (← c.self.view_is) at c.requires.some), count_of_some c.args.peer c.in-Some.count.now c.self.inside.counts.entries c.in-Some.ensures.value)

pub returns-clause-counts : goal.returns-clause-counts
returns-clause-counts c = λ p.
    let before = c.self.inside.counts.entries in
    let count = c.in-Some.count.now in
    let is = count_of_some c.args.peer count before c.in-Some.ensures.value in
    let updates = (c.get_mut.follows.holds (count - 1)).3 (sym (ap is_some c.in-Some.ensures.value)) in
    rw (← c.self.view_is) (taken_count c.args.peer p count before (c.get_mut.follows.lender (count - 1)).entries is (omega (arith, is, (rw (← c.self.view_is) at c.requires.some))) updates.0)
