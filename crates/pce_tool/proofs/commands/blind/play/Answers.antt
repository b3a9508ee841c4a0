use Rattle.pce_tool.proofs.NetworkEnds.{blind_stopped}
use Rattle.pce_tool.proofs.commands.blind.play.Goals as goal

pub returns-in-Err : goal.returns-in-Err
returns-in-Err g c =
    rw c.status_of.ensures (blind_stopped (g.K.Sink.written c.args.out.now, g.K.Sink.written c.play_blind_script.new.out) (g.K.Sink.faults c.args.out.now, g.K.Sink.faults c.play_blind_script.new.out)
    c.args.network c.args.script.now c.in-Err.stop c.in-Err.ensures.stops)
