use Rattle.std.proofs.Common.{rules, refl}
use Rattle.pcep_subobjects.specs.declared.hop.HopFault.TheVariants.{Short, BadLength}
use Rattle.pcep_subobjects.proofs.subobject.frame.Goals as goal

pub returns-then-rest-len-clause-err : goal.returns-then-rest-len-clause-err
returns-then-rest-len-clause-err g c = (Short, search rules, refl)

pub returns-then-not-fits-clause-err : goal.returns-then-not-fits-clause-err
returns-then-not-fits-clause-err g c = (BadLength, search rules, refl)

pub returns-in_default-clause-err : goal.returns-in_default-clause-err
returns-in_default-clause-err g c = (Short, search rules, refl)
