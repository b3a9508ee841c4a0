-- What is written of a message is octets.
use Rattle.std.proofs.Common.{◌<◌, ◌+◌, length, lit<}
use Rattle.std.specs.Int.{w16, to_be_bytes}
use Rattle.pcep_subobjects.proofs.OctetLaws.{one_more, joined, half_octets, all_octets}
use Rattle.pcep_objects.specs.Spelling.{object_text}
use Rattle.pcep_objects.specs.Spelling as objects
use Rattle.pcep_objects.proofs.ObjectOctets.{object_octets}
use Rattle.pcep_messages.specs.declared.message.Message.{Message}
use Rattle.pcep_messages.specs.declared.message.Message.TheVariants as messages
use Rattle.pcep_messages.specs.Spelling.{HasShape, WrittenIsOctets, kind_of, objects_in, content_text}

kind_fits : (m : Message) → HasShape m → kind_of m < 256
kind_fits (messages.Open opening) h = lit< tt
kind_fits messages.Keepalive h = lit< tt
kind_fits (messages.PcReq asked) h = lit< tt
kind_fits (messages.PcRep replies) h = lit< tt
kind_fits (messages.PcNtf notices) h = lit< tt
kind_fits (messages.PcErr reports) h = lit< tt
kind_fits (messages.Close reason) h = lit< tt
kind_fits (messages.Other kind) h = absurd h

pub written_is_octets : WrittenIsOctets
written_is_octets m w =
    let all = one_more 32 _ (lit< tt) (one_more (kind_of m) _ (kind_fits m w.shape)
    (joined (to_be_bytes w16 (length (content_text m) + 4)) (content_text m) (half_octets (length (content_text m) + 4)) (all_octets object_text objects.IsWritten object_octets (objects_in m) w.objects))) in
    all.all
