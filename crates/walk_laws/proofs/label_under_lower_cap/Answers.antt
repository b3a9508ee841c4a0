use Rattle.walk_laws.proofs.Capping.{up, down, none, over}
use Rattle.walk_laws.proofs.label_under_lower_cap.Goals as goal

pub returns-clause-same : goal.returns-clause-same
returns-clause-same x g q seeds c d u a lower within = (up c d g q seeds u a lower, down c d g q seeds u a lower within)

pub returns-clause-none : goal.returns-clause-none
returns-clause-none x g q seeds c d u lower = (none c d g q seeds u lower, (λ a. over c d g q seeds u a lower))
