use Rattle.network_events.proofs.receiving.take.Goals as goal

pub returns : goal.returns
returns g c = c.receive.ensures
