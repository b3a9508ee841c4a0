use Rattle.path_constraints.proofs.SpanOrder.{firsts_rise, covers_moved}
use Rattle.path_constraints.proofs.spans.sorted.Goals as goal

pub returns-clause-firsts : goal.returns-clause-firsts
returns-clause-firsts c = firsts_rise c.sort_unstable.new.self.items c.sort_unstable.ensures.sorted

pub returns-clause-covers : goal.returns-clause-covers
returns-clause-covers c = λ a. covers_moved c.args.spans.items c.sort_unstable.new.self.items a c.sort_unstable.ensures.permutation
