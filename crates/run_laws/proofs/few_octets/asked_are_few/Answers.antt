use Rattle.run_laws.proofs.OctetLemmas.FewOctets as FewOctets
use Rattle.run_laws.proofs.few_octets.asked_are_few.Goals as goal

pub returns : goal.returns
returns c = FewOctets.asked_are_few
