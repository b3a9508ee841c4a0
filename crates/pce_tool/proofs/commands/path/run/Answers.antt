use Rattle.std.proofs.Common.{◌≡◌, length, refl, ap, ◌∙◌}
use Rattle.client_laws.specs.plant_model.Types.{NetworkParts}
use Rattle.pce_tool.specs.Worlds.{World, world}
use Rattle.pce_tool.proofs.Ending.{keeps_refl}
use Rattle.pce_tool.proofs.NetworkEnds.{path_stopped, path_told}
use Rattle.pce_tool.proofs.commands.path.run.Goals as goal

pub returns-in-Ok-answered-clause-ends : goal.returns-in-Ok-answered-clause-ends
returns-in-Ok-answered-clause-ends g c =
    let w : World = world (g.S.Store.files c.args.store.now) (g.I.Source.left c.args._input.now) (g.K.Sink.written c.args.out.now, g.K.Sink.written c.finish.new.out)
    (g.S.Store.faults c.args.store.now, g.S.Store.faults c.answered.new.store) (g.I.Source.faults c.args._input.now, g.I.Source.faults c.args._input.now)
    (g.K.Sink.faults c.args.out.now, g.K.Sink.faults c.finish.new.out) (g.S.Store.failed_at c.answered.new.store) in
    let answer = c.in-Ok-answered.ensures.ok in
    let count : c.len-client.result ≡ length c.in-Ok.network.peers = c.len-client.ensures ∙ ap (λ (n : NetworkParts). length n.peers) c.parts.ensures.parts in
    path_told w c.args.name.now c.in-Ok.network c.in-Ok.ensures.ok c.args.route c.in-Ok-with_client.ensures.element answer.0 c.in-Ok-answered.text.items
    (rw count at (rw c.in-Ok.ensures.files at (rw c.in-Ok-with_client.ensures.ok at answer.1))) answer.2 c.finish.result (rw c.deref.ensures.value at c.finish.ensures)

pub returns-clause-ends : goal.returns-clause-ends
returns-clause-ends g c =
    let w : World = world (g.S.Store.files c.args.store.now) (g.I.Source.left c.args._input.now) (g.K.Sink.written c.args.out.now, g.K.Sink.written c.args.out.now)
    (g.S.Store.faults c.args.store.now, g.S.Store.faults c.answered.new.store) (g.I.Source.faults c.args._input.now, g.I.Source.faults c.args._input.now)
    (g.K.Sink.faults c.args.out.now, g.K.Sink.faults c.args.out.now) (g.S.Store.failed_at c.answered.new.store) in
    path_stopped w c.args.name.now c.in-Ok.network c.in-Ok.ensures.ok c.args.route c.in-Ok-with_client.ensures.element (g.S.Store.faults c.args.store.now) (g.S.Store.faults c.load_network.new.store)
    (g.S.Store.faults c.answered.new.store) refl c.in-Ok.ensures.later (keeps_refl (g.K.Sink.written c.args.out.now)) c.in-Err-answered.status
    (rw c.in-Ok.ensures.files at (rw c.in-Ok-with_client.ensures.ok at c.in-Err-answered.ensures.err))
