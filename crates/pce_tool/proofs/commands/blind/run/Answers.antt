use Rattle.pce_tool.specs.Worlds.{World, world}
use Rattle.pce_tool.proofs.NetworkEnds.{blindly_played}
use Rattle.pce_tool.proofs.commands.blind.run.Goals as goal

pub returns : goal.returns
returns g c =
    let w : World = world (g.S.Store.files c.args.store.now) (g.I.Source.left c.args.input.now) (g.K.Sink.written c.args.out.now, g.K.Sink.written c.play.new.out)
    (g.S.Store.faults c.args.store.now, g.S.Store.faults c.load_network.new.store) (g.I.Source.faults c.args.input.now, g.I.Source.faults c.read_script.new.input)
    (g.K.Sink.faults c.args.out.now, g.K.Sink.faults c.play.new.out) (g.S.Store.failed_at c.load_network.new.store) in
    blindly_played w c.args.name.now c.in-Ok.network c.in-Ok.ensures.ok c.in-Ok-read_script.script.items c.in-Ok-read_script.ensures.ok c.play.result
    (rw c.deref.ensures.value at c.play.ensures)
