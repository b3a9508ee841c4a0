use Rattle.std.proofs.Common.{refl, ap}
use Rattle.pcep_messages.specs.declared.message.Bad.TheVariants.{Malformed}
use Rattle.pcep_messages.specs.Messages.{placed}
use Rattle.pcep_messages.proofs.objects.ObjectPartBad.measure.Goals as goal

pub returns-in-Err-clause-found : goal.returns-in-Err-clause-found
returns-in-Err-clause-found c = (Malformed, ap (λ r. placed r) c.in-Err.ensures.found, refl)
