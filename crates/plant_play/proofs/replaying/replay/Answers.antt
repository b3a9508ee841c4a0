use Rattle.std.proofs.lemmas.Result.{err_from_is_err_and}
use Rattle.plant_play.proofs.ReplayLemmas.{replay_unbegun}
use Rattle.plant_play.proofs.replaying.replay.Goals as goal

pub returns-in_err-player-clause-stops : goal.returns-in_err-player-clause-stops
returns-in_err-player-clause-stops g c =
    let p = err_from_is_err_and c.from_residual.result c.from_residual.ensures.1 in
    let f0 = g.S.Store.faults c.args.store.now in
    let o0 = g.K.Sink.faults c.args.out.now in
    let i0 = g.I.Source.faults c.args.input.now in
    rw (p.1, p.2) (replay_unbegun (g.S.Store.files c.args.store.now) c.args.span c.args.network (g.I.Source.left c.args.input.now) (g.K.Sink.written c.args.out.now) (f0, f0) (o0, o0) (i0, i0)
    (g.S.Store.failed_at c.args.store.now))

pub returns-clause-whole : goal.returns-clause-whole
returns-clause-whole g c = rw c.in_ok-player.ensures.network at c.play_lines.ensures.whole

pub returns-clause-stops : goal.returns-clause-stops
returns-clause-stops g c = rw c.in_ok-player.ensures.network at c.play_lines.ensures.stops
