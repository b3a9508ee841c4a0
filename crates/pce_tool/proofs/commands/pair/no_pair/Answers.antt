use Rattle.std.proofs.Common.{inr, refl}
use Rattle.pce_tool.proofs.commands.pair.no_pair.Goals as goal

pub returns-clause-answers : goal.returns-clause-answers
returns-clause-answers c = inr (record { none = c.requires; vector = c.unknown_ends-vector.result; is_vector = c.unknown_ends-vector.ensures; one_is = refl; other_is = refl })
