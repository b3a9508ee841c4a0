use Rattle.pce_tool.specs.Worlds.{World, world}
use Rattle.pce_tool.specs.Run.{PairCertify}
use Rattle.pce_tool.proofs.Ending.{keeps_refl, input_ends, finished}
use Rattle.pce_tool.proofs.commands.pair_certify.run.Goals as goal

pub returns-in-Err-load_pair_request : goal.returns-in-Err-load_pair_request
returns-in-Err-load_pair_request g c =
    let w : World = world (g.S.Store.files c.args.store.now) (g.I.Source.left c.args.input.now) (g.K.Sink.written c.args.out.now, g.K.Sink.written c.args.out.now)
    (g.S.Store.faults c.args.store.now, g.S.Store.faults c.load_topology.new.store) (g.I.Source.faults c.args.input.now, g.I.Source.faults c.load_pair_request.new.input)
    (g.K.Sink.faults c.args.out.now, g.K.Sink.faults c.args.out.now) (g.S.Store.failed_at c.load_topology.new.store) in
    input_ends w (PairCertify c.args.topology.now) c.in-Ok.topology ((c.in-Ok.topology, c.in-Ok.ensures.ok), tt) c.in-Ok.ensures.ok (keeps_refl (g.K.Sink.written c.args.out.now)) c.in-Err-load_pair_request.status
    (rw c.own.ensures.own at c.in-Err-load_pair_request.ensures.err)

pub returns-in-Ok-certificate_text : goal.returns-in-Ok-certificate_text
returns-in-Ok-certificate_text g c =
    let w : World = world (g.S.Store.files c.args.store.now) (g.I.Source.left c.args.input.now) (g.K.Sink.written c.args.out.now, g.K.Sink.written c.finish.new.out)
    (g.S.Store.faults c.args.store.now, g.S.Store.faults c.load_topology.new.store) (g.I.Source.faults c.args.input.now, g.I.Source.faults c.load_pair_request.new.input)
    (g.K.Sink.faults c.args.out.now, g.K.Sink.faults c.finish.new.out) (g.S.Store.failed_at c.load_topology.new.store) in
    finished w (PairCertify c.args.topology.now) c.in-Ok-certificate_text.text
    (c.in-Ok.topology, c.in-Ok-load_pair_request.request, c.in-Ok.ensures.ok, rw c.own.ensures.own at c.in-Ok-load_pair_request.ensures.ok, c.in-Ok-certificate_text.ensures)
    c.finish.result (rw c.as_slice.ensures at c.finish.ensures)

pub returns : goal.returns
returns g c = keeps_refl (g.K.Sink.written c.args.out.now)
