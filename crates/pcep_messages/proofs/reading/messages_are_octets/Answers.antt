use Rattle.pcep_messages.proofs.MessageOctets.{written_is_octets}
use Rattle.pcep_messages.proofs.reading.messages_are_octets.Goals as goal

pub returns : goal.returns
returns c = written_is_octets
