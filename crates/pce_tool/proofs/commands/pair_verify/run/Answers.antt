use Rattle.std.proofs.Common.{refl}
use Rattle.path_certificate.specs.declared.verdict.Place.{Place}
use Rattle.diverse_pairs.specs.Conditions.{HoldsAt, IsFirstFalse}
use Rattle.pce_tool.specs.Worlds.{World, world}
use Rattle.pce_tool.specs.Run.{PairVerify}
use Rattle.pce_tool.specs.Files.{HasPairCertificate}
use Rattle.pce_tool.specs.Commands.Verify.{holds_text}
use Rattle.pce_tool.specs.Commands.PairVerify.{pair_asked}
use Rattle.pce_tool.proofs.Ending.{keeps_refl, failed_since, pair_certificate_ends, input_ends, finished}
use Rattle.pce_tool.proofs.commands.pair_verify.run.Goals as goal

pub returns-in-Err-load_pair_certificate : goal.returns-in-Err-load_pair_certificate
returns-in-Err-load_pair_certificate g c =
    let w : World = world (g.S.Store.files c.args.store.now) (g.I.Source.left c.args.input.now) (g.K.Sink.written c.args.out.now, g.K.Sink.written c.args.out.now)
    (g.S.Store.faults c.args.store.now, g.S.Store.faults c.load_pair_certificate.new.store) (g.I.Source.faults c.args.input.now, g.I.Source.faults c.args.input.now)
    (g.K.Sink.faults c.args.out.now, g.K.Sink.faults c.args.out.now) (g.S.Store.failed_at c.load_pair_certificate.new.store) in
    pair_certificate_ends w c.args.topology.now c.args.certificate.now c.in-Ok.topology c.in-Ok.ensures.ok (keeps_refl (g.K.Sink.written c.args.out.now)) c.in-Err-load_pair_certificate.status
    (failed_since _ _ _ _ _ _ _ _ c.in-Ok.ensures.later c.in-Err-load_pair_certificate.status (rw c.in-Ok.ensures.files at c.in-Err-load_pair_certificate.ensures.err))

pub returns-in-Err-load_pair_request : goal.returns-in-Err-load_pair_request
returns-in-Err-load_pair_request g c =
    let w : World = world (g.S.Store.files c.args.store.now) (g.I.Source.left c.args.input.now) (g.K.Sink.written c.args.out.now, g.K.Sink.written c.args.out.now)
    (g.S.Store.faults c.args.store.now, g.S.Store.faults c.load_pair_certificate.new.store) (g.I.Source.faults c.args.input.now, g.I.Source.faults c.load_pair_request.new.input)
    (g.K.Sink.faults c.args.out.now, g.K.Sink.faults c.args.out.now) (g.S.Store.failed_at c.load_pair_certificate.new.store) in
    let certificate : HasPairCertificate (g.S.Store.files c.args.store.now) c.args.certificate.now c.in-Ok.topology c.in-Ok-load_pair_certificate.certificate = rw c.in-Ok.ensures.files at c.in-Ok-load_pair_certificate.ensures.ok in
    input_ends w (PairVerify c.args.topology.now c.args.certificate.now) c.in-Ok.topology
    ((c.in-Ok.topology, c.in-Ok.ensures.ok), ((c.in-Ok.topology, c.in-Ok.ensures.ok, (c.in-Ok-load_pair_certificate.certificate, certificate)), tt)) c.in-Ok.ensures.ok (keeps_refl (g.K.Sink.written c.args.out.now)) c.in-Err-load_pair_request.status (rw c.own.ensures.own at c.in-Err-load_pair_request.ensures.err)

pub returns-in-Holds : goal.returns-in-Holds
returns-in-Holds g c =
    let w : World = world (g.S.Store.files c.args.store.now) (g.I.Source.left c.args.input.now) (g.K.Sink.written c.args.out.now, g.K.Sink.written c.finish.new.out)
    (g.S.Store.faults c.args.store.now, g.S.Store.faults c.load_pair_certificate.new.store) (g.I.Source.faults c.args.input.now, g.I.Source.faults c.load_pair_request.new.input)
    (g.K.Sink.faults c.args.out.now, g.K.Sink.faults c.finish.new.out) (g.S.Store.failed_at c.load_pair_certificate.new.store) in
    let certificate : HasPairCertificate (g.S.Store.files c.args.store.now) c.args.certificate.now c.in-Ok.topology c.in-Ok-load_pair_certificate.certificate = rw c.in-Ok.ensures.files at c.in-Ok-load_pair_certificate.ensures.ok in
    let holds : (place : Place) → HoldsAt (pair_asked c.in-Ok.topology c.in-Ok-load_pair_request.request) c.in-Ok-load_pair_certificate.certificate.form place = c.in-Holds.ensures.verdict in
    finished w (PairVerify c.args.topology.now c.args.certificate.now) holds_text
    (c.in-Ok.topology, c.in-Ok-load_pair_certificate.certificate, c.in-Ok-load_pair_request.request, c.in-Ok.ensures.ok, certificate, rw c.own.ensures.own at c.in-Ok-load_pair_request.ensures.ok, holds, refl)
    c.finish.result c.finish.ensures

pub returns : goal.returns
returns g c =
    let certificate : HasPairCertificate (g.S.Store.files c.args.store.now) c.args.certificate.now c.in-Ok.topology c.in-Ok-load_pair_certificate.certificate = rw c.in-Ok.ensures.files at c.in-Ok-load_pair_certificate.ensures.ok in
    let first : IsFirstFalse (pair_asked c.in-Ok.topology c.in-Ok-load_pair_request.request) c.in-Ok-load_pair_certificate.certificate.form c.in-Fails.place = c.in-Fails.ensures.verdict in (
      keeps_refl (g.K.Sink.written c.args.out.now),
      (c.in-Ok.topology, c.in-Ok-load_pair_certificate.certificate, c.in-Ok-load_pair_request.request, c.in-Ok.ensures.ok, certificate, rw c.own.ensures.own at c.in-Ok-load_pair_request.ensures.ok, first),
    )
