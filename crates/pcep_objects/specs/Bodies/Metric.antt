-- The body of METRIC (RFC 5440, 7.8): the flags B and C, a type, and a word of single precision that means something.
use Rattle.std.specs.Prelude.{ℕ, ◌+◌, Bool, List, ◌∷◌, slice_index, Option}
use Rattle.std.specs.Int.{w32, to_be_bytes}
use Rattle.dom_base.specs.Parts.{word_at}
use Rattle.dom_base.specs.Words.{is_malformed}
use Rattle.pcep_codes.specs.declared.flags.TheConstants as flags
use Rattle.pcep_objects.specs.declared.object.Body.{Body}
use Rattle.pcep_objects.specs.declared.object.Body.TheVariants as bodies
use Rattle.pcep_objects.specs.Layouts.{flag, has_flag, of_length}

abbrev pub metric_of : List ℕ → Option Body
metric_of content =
    of_length 8 content (is_malformed (word_at content 4))
    (bodies.Metric (has_flag (slice_index content 2) flags.BOUND) (has_flag (slice_index content 2) flags.COMPUTED) (slice_index content 3) (word_at content 4))

abbrev pub metric_text : Bool → Bool → ℕ → ℕ → List ℕ
metric_text bound computed kind word = 0 ∷ 0 ∷ (flag computed flags.COMPUTED + flag bound flags.BOUND) ∷ kind ∷ to_be_bytes w32 word
