-- The body of NO-PATH (RFC 5440, 7.5): the nature of the issue, and the NO-PATH-VECTOR in a TLV, or 0 without one.
use Rattle.std.specs.Prelude.{ℕ, List, [], ◌∷◌, slice_index, Option, unwrap_or, ◌==◌, if◌then◌else◌}
use Rattle.pcep_codes.specs.declared.tlvs.TheConstants as tlvs
use Rattle.pcep_objects.specs.declared.object.Body.{Body}
use Rattle.pcep_objects.specs.declared.object.Body.TheVariants as bodies
use Rattle.pcep_objects.specs.Layouts.{word_behind, with_tlvs}
use Rattle.pcep_objects.specs.Tlvs.{tlv_text}

abbrev pub no_path_of : List ℕ → Option Body
no_path_of content = with_tlvs (word_behind 4 content tlvs.NO_PATH_VECTOR) (λ word. bodies.NoPath (slice_index content 0) (unwrap_or word 0))

abbrev pub vector_text : ℕ → List ℕ
vector_text vector = if vector == 0 then [] else tlv_text tlvs.NO_PATH_VECTOR vector

abbrev pub no_path_text : ℕ → ℕ → List ℕ
no_path_text nature vector = nature ∷ 0 ∷ 0 ∷ 0 ∷ vector_text vector
