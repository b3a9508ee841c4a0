use Rattle.blind_play.proofs.LineLemmas.{waiting_is}
use Rattle.blind_play.proofs.settling.next_way.Goals as goal

pub returns : goal.returns
returns c = waiting_is c.args.plant.now c.waiting.result c.waiting.ensures.next c.waiting.ensures.along
