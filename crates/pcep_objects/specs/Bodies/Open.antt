-- The body of OPEN (RFC 5440, 7.3), with the TLV of stateful elements (RFC 8231, 7.1.1).
use Rattle.std.specs.Prelude.{ℕ, ◌*◌, ◌/◌, ◌%◌, Bool, List, [], ◌∷◌, slice_index, Option, is_some, if◌then◌else◌}
use Rattle.pcep_codes.specs.declared.tlvs.TheConstants as tlvs
use Rattle.pcep_objects.specs.declared.object.Body.{Body}
use Rattle.pcep_objects.specs.declared.object.Body.TheVariants as bodies
use Rattle.pcep_objects.specs.declared.object.OpenBody.{OpenBody}
use Rattle.pcep_objects.specs.Layouts.{word_behind, with_tlvs}
use Rattle.pcep_objects.specs.Tlvs.{tlv_text}

abbrev pub open_of : List ℕ → Option Body
open_of content = with_tlvs (word_behind 4 content tlvs.STATEFUL) (λ word. bodies.Open (record {
  version = slice_index content 0 / 32;
  offer = record { keepalive = slice_index content 1; dead = slice_index content 2; sid = slice_index content 3; stateful = is_some word };
}))

abbrev pub stateful_text : Bool → List ℕ
stateful_text stateful = if stateful then tlv_text tlvs.STATEFUL 0 else []

abbrev pub open_text : OpenBody → List ℕ
open_text o = o.version % 8 * 32 ∷ o.offer.keepalive ∷ o.offer.dead ∷ o.offer.sid ∷ stateful_text o.offer.stateful
