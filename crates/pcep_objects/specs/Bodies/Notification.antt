-- The body of NOTIFICATION (RFC 5440, 7.14): a type and a value.
use Rattle.std.specs.Prelude.{ℕ, List, [], ◌∷◌, slice_index, Option}
use Rattle.pcep_objects.specs.declared.object.Body.{Body}
use Rattle.pcep_objects.specs.declared.object.Body.TheVariants as bodies
use Rattle.pcep_objects.specs.Layouts.{word_behind, with_tlvs}

abbrev pub notification_of : List ℕ → Option Body
notification_of content = with_tlvs (word_behind 4 content 0) (λ _. bodies.Notification (slice_index content 2) (slice_index content 3))

abbrev pub notification_text : ℕ → ℕ → List ℕ
notification_text kind value = 0 ∷ 0 ∷ kind ∷ value ∷ []
