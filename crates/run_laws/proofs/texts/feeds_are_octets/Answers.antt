use Rattle.run_laws.proofs.TextLemmas.FedOctets as FedOctets
use Rattle.run_laws.proofs.texts.feeds_are_octets.Goals as goal

pub returns : goal.returns
returns c = record { played = FedOctets.line_octets; blind = FedOctets.blind_line_octets }
