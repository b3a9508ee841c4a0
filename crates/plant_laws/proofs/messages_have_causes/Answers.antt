use Rattle.plant_laws.proofs.Reasons.AllCauses as AllCauses
use Rattle.plant_laws.proofs.messages_have_causes.Goals as goal

pub returns : goal.returns
returns c = record { causes = AllCauses.messages_have_causes; begin = AllCauses.networks_begin }
