-- The body of BANDWIDTH (RFC 5440, 7.7): bytes per second, as a word of single precision that means something.
use Rattle.std.specs.Prelude.{ℕ, List, Option}
use Rattle.std.specs.Int.{w32, to_be_bytes}
use Rattle.dom_base.specs.Parts.{word_at}
use Rattle.dom_base.specs.Words.{is_malformed}
use Rattle.pcep_objects.specs.declared.object.Body.{Body}
use Rattle.pcep_objects.specs.declared.object.Body.TheVariants as bodies
use Rattle.pcep_objects.specs.Layouts.{of_length}

abbrev pub bandwidth_of : List ℕ → Option Body
bandwidth_of content = of_length 4 content (is_malformed (word_at content 0)) (bodies.Bandwidth (word_at content 0))

abbrev pub bandwidth_text : ℕ → List ℕ
bandwidth_text word = to_be_bytes w32 word
