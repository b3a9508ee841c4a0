use Rattle.disclosure.proofs.DenialLaws.{denial_is_tested}
use Rattle.disclosure.proofs.class.denial_is_tested.Goals as goal

pub returns : goal.returns
returns c = denial_is_tested
