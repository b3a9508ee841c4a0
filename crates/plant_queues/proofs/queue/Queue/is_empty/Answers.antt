use Rattle.plant_queues.proofs.PieceLemmas.{no_first, a_first}
use Rattle.plant_queues.proofs.queue.Queue.is_empty.Goals as goal

pub returns-in-Some : goal.returns-in-Some
returns-in-Some c = a_first c.args.self.now.kept _ c.in-Some.ensures

pub returns-in-None : goal.returns-in-None
returns-in-None c = no_first c.args.self.now.kept c.in-None.ensures
