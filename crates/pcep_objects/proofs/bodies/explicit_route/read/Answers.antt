use Rattle.std.proofs.Common.{refl}
use Rattle.std.proofs.lemmas.Result.{err_from_is_err_and}
use Rattle.pcep_subobjects.specs.Hops.{hops_of}
use Rattle.pcep_objects.specs.declared.object.Body.TheVariants as bodies
use Rattle.pcep_objects.proofs.BodyFaults.{parts_fault}
use Rattle.pcep_objects.proofs.bodies.explicit_route.read.Goals as goal

pub returns-in_err-hops : goal.returns-in_err-hops
returns-in_err-hops c =
    let p = err_from_is_err_and c.from_residual.result c.from_residual.ensures.1 in
    rw (p.1, p.2) (parts_fault bodies.Ero (λ xs. refl) (hops_of c.args.content.now) c.in_err-hops.field-0.0 c.in_err-hops.ensures)
