-- The body of an IRO (RFC 5440, 7.12): the hops that a path has to pass.
use Rattle.std.specs.Prelude.{ℕ, List, Option}
use Rattle.pcep_subobjects.specs.declared.hop.Hop.{Hop}
use Rattle.pcep_subobjects.specs.Hops.{hops_of, hops_text}
use Rattle.pcep_objects.specs.declared.object.Body.{Body}
use Rattle.pcep_objects.specs.declared.object.Body.TheVariants as bodies
use Rattle.pcep_objects.specs.Layouts.{of_parts}

abbrev pub iro_of : List ℕ → Option Body
iro_of content = of_parts bodies.Iro (hops_of content)

abbrev pub iro_text : List Hop → List ℕ
iro_text route = hops_text route
