use Rattle.std.proofs.Common.{refl}
use Rattle.plant_model.proofs.Meeting as Meeting
use Rattle.plant_model.proofs.Live as Live
use Rattle.plant_model.proofs.law.model_meets_parts.Goals as goal

pub returns-clause-branches : goal.returns-clause-branches
returns-clause-branches c = Meeting.branch_meets

pub returns-clause-requests : goal.returns-clause-requests
returns-clause-requests c = Meeting.check_meets

pub returns-clause-generations : goal.returns-clause-generations
returns-clause-generations c = Live.live_meets

pub returns-clause-limit : goal.returns-clause-limit
returns-clause-limit c = refl
