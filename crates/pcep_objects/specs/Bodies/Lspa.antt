-- The body of LSPA (RFC 5440, 7.11): three masks of attributes (RFC 3209, 4.7.4), two priorities, and the flags as they are.
use Rattle.std.specs.Prelude.{ℕ, List, [], ◌∷◌, ◌++◌, slice_index, Option}
use Rattle.std.specs.Int.{w32, to_be_bytes}
use Rattle.dom_base.specs.Parts.{word_at}
use Rattle.pcep_objects.specs.declared.object.Body.{Body}
use Rattle.pcep_objects.specs.declared.object.Body.TheVariants as bodies
use Rattle.pcep_objects.specs.Layouts.{word_behind, with_tlvs}

abbrev pub lspa_of : List ℕ → Option Body
lspa_of content = with_tlvs (word_behind 16 content 0) (λ _. bodies.Lspa (word_at content 0) (word_at content 4) (word_at content 8) (slice_index content 12) (slice_index content 13) (slice_index content 14))

abbrev pub lspa_text : ℕ → ℕ → ℕ → ℕ → ℕ → ℕ → List ℕ
lspa_text exclude_any include_any include_all setup holding flags =
    to_be_bytes w32 exclude_any ++ to_be_bytes w32 include_any ++ to_be_bytes w32 include_all ++ setup ∷ holding ∷ flags ∷ 0 ∷ []
