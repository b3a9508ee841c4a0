use Rattle.pcep_messages.proofs.WholeLaws.{requests_whole, replies_whole, reports_whole}
use Rattle.pcep_messages.proofs.law.groups_are_whole.Goals as goal

pub returns : goal.returns
returns c = record { requests = requests_whole; replies = replies_whole; reports = reports_whole }
