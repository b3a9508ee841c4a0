use Rattle.run_laws.proofs.TextLemmas.GivenNetworks as GivenNetworks
use Rattle.run_laws.proofs.texts.settings_are_networks.Goals as goal

pub returns : goal.returns
returns c = record { given = GivenNetworks.settings_are_network; added = GivenNetworks.client_is_added }
