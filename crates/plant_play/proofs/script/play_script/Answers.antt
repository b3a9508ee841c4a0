use Rattle.std.proofs.lemmas.Result.{err_from_is_err_and}
use Rattle.plant_play.proofs.ScriptLemmas.{stops_unbegun}
use Rattle.plant_play.proofs.script.play_script.Goals as goal

pub returns-in_err-player-clause-stops : goal.returns-in_err-player-clause-stops
returns-in_err-player-clause-stops g c =
    let p = err_from_is_err_and c.from_residual.result c.from_residual.ensures.1 in
    rw (p.1, p.2) (stops_unbegun (g.S.Store.files c.args.store.now) c.args.network c.args.script.now (g.K.Sink.written c.args.out.now) (g.S.Store.faults c.args.store.now)
    (g.K.Sink.faults c.args.out.now) (g.S.Store.failed_at c.args.store.now))

pub returns-clause-whole : goal.returns-clause-whole
returns-clause-whole g c = rw c.in_ok-player.ensures.network at c.play_lines.ensures.whole

pub returns-clause-stops : goal.returns-clause-stops
returns-clause-stops g c = rw c.in_ok-player.ensures.network at c.play_lines.ensures.stops
