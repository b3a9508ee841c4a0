use Rattle.run_laws.proofs.TextLemmas.ModelledNetworks as ModelledNetworks
use Rattle.run_laws.proofs.texts.settings_are_modelled.Goals as goal

pub returns : goal.returns
returns c = record { given = ModelledNetworks.settings_are_modelled; added = ModelledNetworks.client_is_modelled }
