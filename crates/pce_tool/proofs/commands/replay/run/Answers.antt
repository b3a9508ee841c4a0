use Rattle.std.proofs.Common.{refl, sym, subst}
use Rattle.pce_tool.specs.Replays.{ReplayEnds}
use Rattle.pce_tool.specs.Worlds.{World, world}
use Rattle.pce_tool.specs.declared.status.Status.{Status}
use Rattle.pce_tool.proofs.NetworkEnds.{replay_cut, replayed}
use Rattle.pce_tool.proofs.commands.replay.run.Goals as goal

pub returns-in-Ok-replay : goal.returns-in-Ok-replay
returns-in-Ok-replay g c =
    let w : World = world (g.S.Store.files c.args.store.now) (g.I.Source.left c.args.input.now) (g.K.Sink.written c.args.out.now, g.K.Sink.written c.replay.new.out)
    (g.S.Store.faults c.args.store.now, g.S.Store.faults c.replay.new.store) (g.I.Source.faults c.args.input.now, g.I.Source.faults c.replay.new.input)
    (g.K.Sink.faults c.args.out.now, g.K.Sink.faults c.replay.new.out) (g.S.Store.failed_at c.replay.new.store) in
    replayed w c.args.name.now c.args.span c.in-Ok.network c.in-Ok.ensures.ok (rw c.in-Ok.ensures.files at c.in-Ok-replay.ensures.whole)

pub returns-in-Err-replay : goal.returns-in-Err-replay
returns-in-Err-replay g c =
    let w : World = world (g.S.Store.files c.args.store.now) (g.I.Source.left c.args.input.now) (g.K.Sink.written c.args.out.now, g.K.Sink.written c.replay.new.out)
    (g.S.Store.faults c.args.store.now, g.S.Store.faults c.replay.new.store) (g.I.Source.faults c.args.input.now, g.I.Source.faults c.replay.new.input)
    (g.K.Sink.faults c.args.out.now, g.K.Sink.faults c.replay.new.out) (g.S.Store.failed_at c.replay.new.store) in
    let cut = replay_cut w c.args.name.now c.args.span c.in-Ok.network c.in-Ok.ensures.ok (g.S.Store.faults c.args.store.now) (g.S.Store.faults c.load_network.new.store)
    (g.S.Store.faults c.replay.new.store) refl c.in-Ok.ensures.later c.in-Err-replay.stop (rw c.in-Ok.ensures.files at c.in-Err-replay.ensures.stops) in
    subst (λ (s : Status). ReplayEnds w c.args.name.now c.args.span s) (sym c.status_of.ensures) cut
