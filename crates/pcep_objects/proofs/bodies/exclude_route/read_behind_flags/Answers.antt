use Rattle.std.proofs.Common.{refl}
use Rattle.std.proofs.lemmas.Result.{err_from_is_err_and}
use Rattle.pcep_subobjects.specs.Exclusions.{exclusions_of}
use Rattle.pcep_objects.specs.declared.object.Body.TheVariants as bodies
use Rattle.pcep_objects.proofs.BodyFaults.{parts_fault}
use Rattle.pcep_objects.proofs.bodies.exclude_route.read_behind_flags.Goals as goal

pub returns-in_err-exclusions : goal.returns-in_err-exclusions
returns-in_err-exclusions c =
    let p = err_from_is_err_and c.from_residual.result c.from_residual.ensures.1 in
    rw (p.1, p.2) (parts_fault bodies.Xro (λ xs. refl) (exclusions_of c.args.content.now) c.in_err-exclusions.field-0.0 c.in_err-exclusions.ensures)
