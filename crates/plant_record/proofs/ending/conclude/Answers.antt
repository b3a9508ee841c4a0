use Rattle.std.proofs.Common.{inr, refl}
use Rattle.plant_record.proofs.ending.conclude.Goals as goal

pub returns-in-Err-clause-after : goal.returns-in-Err-clause-after
returns-in-Err-clause-after g c = λ peers t told st. inr (c.in-Err.fault, refl, c.abandon.ensures.part peers t told (c.in-Err.ensures.after peers t told st))
