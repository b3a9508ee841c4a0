use Rattle.pcep_objects.proofs.ObjectOctets.{written_is_octets}
use Rattle.pcep_objects.proofs.writing.objects_are_octets.Goals as goal

pub returns : goal.returns
returns c = written_is_octets
