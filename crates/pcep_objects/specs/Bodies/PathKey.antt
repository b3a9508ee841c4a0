-- The body of PATH-KEY (RFC 5520, 3.2): a hop that stands for a segment which an element keeps to itself.
use Rattle.std.specs.Prelude.{ℕ, List, Option}
use Rattle.pcep_subobjects.specs.declared.hop.Hop.{Hop}
use Rattle.pcep_subobjects.specs.Hops.{hops_of, hops_text}
use Rattle.pcep_objects.specs.declared.object.Body.{Body}
use Rattle.pcep_objects.specs.declared.object.Body.TheVariants as bodies
use Rattle.pcep_objects.specs.Layouts.{of_parts}

abbrev pub path_key_of : List ℕ → Option Body
path_key_of content = of_parts bodies.PathKey (hops_of content)

abbrev pub path_key_text : List Hop → List ℕ
path_key_text route = hops_text route
