use Rattle.network_events.proofs.OwedLaws.{given_count}
use Rattle.network_events.proofs.law.requests_are_counted.Goals as goal

pub returns : goal.returns
returns c = λ test k n show at d p now m ms. given_count test k n show at d p now m ms
