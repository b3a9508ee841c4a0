use Rattle.run_laws.proofs.OctetLemmas.FewOctets as FewOctets
use Rattle.run_laws.proofs.few_octets.few_are_short.Goals as goal

pub returns : goal.returns
returns c = FewOctets.few_are_short
