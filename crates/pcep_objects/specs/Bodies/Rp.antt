-- The body of RP (RFC 5440, 7.4.1): the flags of a request, all of them, and its number.
use Rattle.std.specs.Prelude.{ℕ, List, ◌++◌, Option}
use Rattle.std.specs.Int.{w32, to_be_bytes}
use Rattle.dom_base.specs.Parts.{word_at}
use Rattle.pcep_objects.specs.declared.object.Body.{Body}
use Rattle.pcep_objects.specs.declared.object.Body.TheVariants as bodies
use Rattle.pcep_objects.specs.Layouts.{word_behind, with_tlvs}

abbrev pub rp_of : List ℕ → Option Body
rp_of content = with_tlvs (word_behind 8 content 0) (λ _. bodies.Rp (word_at content 0) (word_at content 4))

abbrev pub rp_text : ℕ → ℕ → List ℕ
rp_text flags id = to_be_bytes w32 flags ++ to_be_bytes w32 id
