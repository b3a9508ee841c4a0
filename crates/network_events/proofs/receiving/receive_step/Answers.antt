use Rattle.pcep_session.specs.Listed.{listed}
use Rattle.network_links.specs.Carried.{flow_of}
use Rattle.network_events.proofs.ReceivingLaws.{steps_turn}
use Rattle.network_events.proofs.receiving.receive_step.Goals as goal

pub passed-requires : goal.passed-requires
passed-requires g c = steps_turn c.args.at c.args.to (listed c.args.actions) c.args.session (flow_of c.args.traffic.now) c.requires.steps
