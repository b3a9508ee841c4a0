-- The body of PCEP-ERROR (RFC 5440, 7.15): a type and a value.
use Rattle.std.specs.Prelude.{ℕ, List, [], ◌∷◌, slice_index, Option}
use Rattle.pcep_objects.specs.declared.object.Body.{Body}
use Rattle.pcep_objects.specs.declared.object.Body.TheVariants as bodies
use Rattle.pcep_objects.specs.Layouts.{word_behind, with_tlvs}

abbrev pub error_of : List ℕ → Option Body
error_of content = with_tlvs (word_behind 4 content 0) (λ _. bodies.Error (slice_index content 2) (slice_index content 3))

abbrev pub error_text : ℕ → ℕ → List ℕ
error_text kind value = 0 ∷ 0 ∷ kind ∷ value ∷ []
