use Rattle.pce_element.proofs.LastingLemmas.{lasts_over, lasts_with, still_last}
use Rattle.pce_element.proofs.law.jobs_last.Goals as goal

pub returns : goal.returns
returns c = record { requests = lasts_with; over = lasts_over; still = still_last }
