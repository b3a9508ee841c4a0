use Rattle.plant_client.proofs.asking.begin.Goals as goal

pub returns-clause-begins : goal.returns-clause-begins
returns-clause-begins g c = rw c.in_ok-player.ensures.network at c.in_ok-begin_new.ensures.begins
