use Rattle.network_links.specs.Carried.{flow_of}
use Rattle.network_events.proofs.LetterLaws.{grows_said}
use Rattle.network_events.proofs.giving.reserve_words.Goals as goal

pub returns-clause-grows : goal.returns-clause-grows
returns-clause-grows g c = grows_said (flow_of c.args.traffic.now) (flow_of c.reserve_said.new.self) c.reserve_said.ensures.grows
