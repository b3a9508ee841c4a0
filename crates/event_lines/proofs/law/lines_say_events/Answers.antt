use Rattle.event_lines.proofs.EventLines.{lines_say}
use Rattle.event_lines.proofs.law.lines_say_events.Goals as goal

pub returns : goal.returns
returns c = lines_say
