use Rattle.std.proofs.Common.{refl}
use Rattle.plant_text.proofs.TextLaws.{count_is}
use Rattle.network_check.proofs.kinds.are_few.Goals as goal

pub returns : goal.returns
returns c = rw (count_is c.args.items.now) refl
