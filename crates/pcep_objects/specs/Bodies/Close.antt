-- The body of CLOSE (RFC 5440, 7.17): the reason.
use Rattle.std.specs.Prelude.{ℕ, List, [], ◌∷◌, slice_index, Option}
use Rattle.pcep_objects.specs.declared.object.Body.{Body}
use Rattle.pcep_objects.specs.declared.object.Body.TheVariants as bodies
use Rattle.pcep_objects.specs.Layouts.{word_behind, with_tlvs}

abbrev pub close_of : List ℕ → Option Body
close_of content = with_tlvs (word_behind 4 content 0) (λ _. bodies.Close (slice_index content 3))

abbrev pub close_text : ℕ → List ℕ
close_text reason = 0 ∷ 0 ∷ 0 ∷ reason ∷ []
