use Rattle.std.proofs.Common.{refl}
use Rattle.path_certificate.specs.declared.verdict.Place.{Place}
use Rattle.path_certificate.specs.Claims.{HoldsAt, IsFirstFalse}
use Rattle.pce_tool.specs.Worlds.{World, world}
use Rattle.pce_tool.specs.Run.{Verify}
use Rattle.pce_tool.specs.Files.{HasCertificate}
use Rattle.pce_tool.specs.Commands.Verify.{claim, holds_text}
use Rattle.pce_tool.proofs.Ending.{keeps_refl, failed_since, certificate_ends, input_ends, finished}
use Rattle.pce_tool.proofs.commands.verify.run.Goals as goal

pub returns-in-Err-load_certificate : goal.returns-in-Err-load_certificate
returns-in-Err-load_certificate g c =
    let w : World = world (g.S.Store.files c.args.store.now) (g.I.Source.left c.args.input.now) (g.K.Sink.written c.args.out.now, g.K.Sink.written c.args.out.now)
    (g.S.Store.faults c.args.store.now, g.S.Store.faults c.load_certificate.new.store) (g.I.Source.faults c.args.input.now, g.I.Source.faults c.args.input.now)
    (g.K.Sink.faults c.args.out.now, g.K.Sink.faults c.args.out.now) (g.S.Store.failed_at c.load_certificate.new.store) in
    certificate_ends w c.args.topology.now c.args.certificate.now c.in-Ok.topology c.in-Ok.ensures.ok (keeps_refl (g.K.Sink.written c.args.out.now)) c.in-Err-load_certificate.status
    (failed_since _ _ _ _ _ _ _ _ c.in-Ok.ensures.later c.in-Err-load_certificate.status (rw c.in-Ok.ensures.files at c.in-Err-load_certificate.ensures.err))

pub returns-in-Err-load_request : goal.returns-in-Err-load_request
returns-in-Err-load_request g c =
    let w : World = world (g.S.Store.files c.args.store.now) (g.I.Source.left c.args.input.now) (g.K.Sink.written c.args.out.now, g.K.Sink.written c.args.out.now)
    (g.S.Store.faults c.args.store.now, g.S.Store.faults c.load_certificate.new.store) (g.I.Source.faults c.args.input.now, g.I.Source.faults c.load_request.new.input)
    (g.K.Sink.faults c.args.out.now, g.K.Sink.faults c.args.out.now) (g.S.Store.failed_at c.load_certificate.new.store) in
    let certificate : HasCertificate (g.S.Store.files c.args.store.now) c.args.certificate.now c.in-Ok.topology c.in-Ok-load_certificate.certificate = rw c.in-Ok.ensures.files at c.in-Ok-load_certificate.ensures.ok in
    input_ends w (Verify c.args.topology.now c.args.certificate.now) c.in-Ok.topology
    ((c.in-Ok.topology, c.in-Ok.ensures.ok), ((c.in-Ok.topology, c.in-Ok.ensures.ok, (c.in-Ok-load_certificate.certificate, certificate)), tt)) c.in-Ok.ensures.ok (keeps_refl (g.K.Sink.written c.args.out.now)) c.in-Err-load_request.status (rw c.own.ensures.own at c.in-Err-load_request.ensures.err)

pub returns-in-Holds : goal.returns-in-Holds
returns-in-Holds g c =
    let w : World = world (g.S.Store.files c.args.store.now) (g.I.Source.left c.args.input.now) (g.K.Sink.written c.args.out.now, g.K.Sink.written c.finish.new.out)
    (g.S.Store.faults c.args.store.now, g.S.Store.faults c.load_certificate.new.store) (g.I.Source.faults c.args.input.now, g.I.Source.faults c.load_request.new.input)
    (g.K.Sink.faults c.args.out.now, g.K.Sink.faults c.finish.new.out) (g.S.Store.failed_at c.load_certificate.new.store) in
    let certificate : HasCertificate (g.S.Store.files c.args.store.now) c.args.certificate.now c.in-Ok.topology c.in-Ok-load_certificate.certificate = rw c.in-Ok.ensures.files at c.in-Ok-load_certificate.ensures.ok in
    let holds : (place : Place) → HoldsAt (claim c.in-Ok.topology c.in-Ok-load_request.request c.in-Ok-load_certificate.certificate) place = rw c.seeds_of-seeds.ensures at c.in-Holds.ensures.verdict in
    finished w (Verify c.args.topology.now c.args.certificate.now) holds_text
    (c.in-Ok.topology, c.in-Ok-load_certificate.certificate, c.in-Ok-load_request.request, c.in-Ok.ensures.ok, certificate, rw c.own.ensures.own at c.in-Ok-load_request.ensures.ok, holds, refl)
    c.finish.result c.finish.ensures

pub returns : goal.returns
returns g c =
    let certificate : HasCertificate (g.S.Store.files c.args.store.now) c.args.certificate.now c.in-Ok.topology c.in-Ok-load_certificate.certificate = rw c.in-Ok.ensures.files at c.in-Ok-load_certificate.ensures.ok in
    let first : IsFirstFalse (claim c.in-Ok.topology c.in-Ok-load_request.request c.in-Ok-load_certificate.certificate) c.in-Fails.place = rw c.seeds_of-seeds.ensures at c.in-Fails.ensures.verdict.0 in (
      keeps_refl (g.K.Sink.written c.args.out.now),
      (c.in-Ok.topology, c.in-Ok-load_certificate.certificate, c.in-Ok-load_request.request, c.in-Ok.ensures.ok, certificate, rw c.own.ensures.own at c.in-Ok-load_request.ensures.ok, first),
    )
