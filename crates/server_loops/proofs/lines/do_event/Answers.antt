use Rattle.server_loops.proofs.Doing.{event_told}
use Rattle.server_loops.proofs.lines.do_event.Goals as goal

pub returns-clause-goes : goal.returns-clause-goes
returns-clause-goes g c list =
    event_told c.args.event c.args.number c.in_ok-answer.answer c.tell_answer.result (g.D.Chart.charted c.args.desk.now) (g.D.Chart.charted c.act.new.desk) list c.args.into.now.items c.tell_answer.new.into.items
    c.in_ok-answer.ensures.acted c.tell_answer.ensures.told c.tell_answer.ensures.lack
