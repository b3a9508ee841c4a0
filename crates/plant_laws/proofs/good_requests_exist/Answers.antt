use Rattle.plant_laws.proofs.Reasons.GoodExists as GoodExists
use Rattle.plant_laws.proofs.good_requests_exist.Goals as goal

pub returns : goal.returns
returns c = GoodExists.good_requests_exist
