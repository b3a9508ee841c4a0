-- The body of an XRO (RFC 5521, 2.1): four octets that are not read, and the exclusions.
use Rattle.std.specs.Prelude.{ℕ, List, ◌∷◌, length, drop, Option, None, nat_le, if◌then◌else◌}
use Rattle.dom_base.specs.declared.query.Exclusion.{Exclusion}
use Rattle.pcep_subobjects.specs.Exclusions.{exclusions_of, exclusions_text}
use Rattle.pcep_objects.specs.declared.object.Body.{Body}
use Rattle.pcep_objects.specs.declared.object.Body.TheVariants as bodies
use Rattle.pcep_objects.specs.Layouts.{of_parts}

abbrev pub xro_of : List ℕ → Option Body
xro_of content = if nat_le 4 (length content) then of_parts bodies.Xro (exclusions_of (drop 4 content)) else None

abbrev pub xro_text : List Exclusion → List ℕ
xro_text list = 0 ∷ 0 ∷ 0 ∷ 0 ∷ exclusions_text list
