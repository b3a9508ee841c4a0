use Rattle.std.proofs.Common.{refl}
use Rattle.plant_text.proofs.TextLaws.{count_is}
use Rattle.plant_text.proofs.forms.is_long.Goals as goal

pub returns : goal.returns
returns c = rw (count_is c.args.items.now) refl
