use Rattle.run_laws.proofs.OctetLemmas.FewOctets as FewOctets
use Rattle.run_laws.proofs.few_octets.taken_are_fed.Goals as goal

pub returns : goal.returns
returns c = FewOctets.taken_are_fed
