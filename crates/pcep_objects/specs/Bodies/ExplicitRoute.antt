-- The body of an ERO (RFC 5440, 7.9): the hops of a path.
use Rattle.std.specs.Prelude.{ℕ, List, Option}
use Rattle.pcep_subobjects.specs.declared.hop.Hop.{Hop}
use Rattle.pcep_subobjects.specs.Hops.{hops_of, hops_text}
use Rattle.pcep_objects.specs.declared.object.Body.{Body}
use Rattle.pcep_objects.specs.declared.object.Body.TheVariants as bodies
use Rattle.pcep_objects.specs.Layouts.{of_parts}

abbrev pub ero_of : List ℕ → Option Body
ero_of content = of_parts bodies.Ero (hops_of content)

abbrev pub ero_text : List Hop → List ℕ
ero_text route = hops_text route
