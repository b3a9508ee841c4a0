use Rattle.network_links.specs.Carried.{flow_of}
use Rattle.network_events.proofs.LetterLaws.{grows_at}
use Rattle.network_events.proofs.giving.reserve_queue.Goals as goal

pub returns-clause-grows : goal.returns-clause-grows
returns-clause-grows g c = grows_at c.args.at c.args.to (flow_of c.args.traffic.now) (flow_of c.reserve.new.self) c.reserve.ensures.grows
