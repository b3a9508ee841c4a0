use Rattle.std.proofs.Common.{◌≡◌, length, take, [], ◌++◌, Ok, Err, refl, arith, subst, sym, ap, ◌∙◌, append-nil}
use Rattle.std.proofs.lemmas.Result.{err_from_is_err_and}
use Rattle.dom_edge.specs.Streams.{Writing}
use Rattle.dom_edge.specs.declared.stream.Got.TheVariants as got
use Rattle.dom_edge.specs.Heeding.{sides}
use Rattle.server_loops.specs.Steps.{IsHanded, IsReceived}
use Rattle.server_loops.specs.declared.sessions.Ended.TheVariants.{PeerEnd, ReadFault}
use Rattle.server_loops.proofs.Turning.{at_end, at_fault, unfed, taken}
use Rattle.server_loops.proofs.turn.receive.Goals as goal
use Rattle.server_loops.proofs.turn.receive.Goals.{in-Quiet, in-Bytes+in_ok-feed-in-Bytes}

pub returns-in-Failed-clause-received : goal.returns-in-Failed-clause-received
returns-in-Failed-clause-received g c =
    let d = g.D.Desk.desked c.args.desk.now in
    let r0 = g.L.Wire.reading c.args.link.now in
    let r1 = g.L.Wire.reading c.read.new.self in
    let w = g.L.Wire.writing c.args.link.now in
    let room : length c.read.new.into ≡ 65536 = omega (arith, c.requires.room, c.read.auto.into) in
    subst (λ (v : Writing). IsReceived c.args.peer (Err ReadFault) d d (sides r0 w) (sides r1 v)) (sym c.in-Failed.ensures.writing)
    (at_fault c.args.peer r0 r1 w c.read.new.into room d c.requires.unspent c.in-Failed.ensures.reads)

pub returns-in-End-clause-received : goal.returns-in-End-clause-received
returns-in-End-clause-received g c =
    let d = g.D.Desk.desked c.args.desk.now in
    let r0 = g.L.Wire.reading c.args.link.now in
    let r1 = g.L.Wire.reading c.read.new.self in
    let w = g.L.Wire.writing c.args.link.now in
    let room : length c.read.new.into ≡ 65536 = omega (arith, c.requires.room, c.read.auto.into) in
    subst (λ (v : Writing). IsReceived c.args.peer (Err PeerEnd) d d (sides r0 w) (sides r1 v)) (sym c.in-End.ensures.writing)
    (at_end c.args.peer r0 r1 w c.read.new.into room d c.requires.unspent c.in-End.ensures.reads)

pub returns-in_err-feed-in-Bytes-clause-received : goal.returns-in_err-feed-in-Bytes-clause-received
returns-in_err-feed-in-Bytes-clause-received g c =
    let old = g.D.Desk.desked c.args.desk.now in
    let new = g.D.Desk.desked c.feed.new.desk in
    let r0 = g.L.Wire.reading c.args.link.now in
    let r1 = g.L.Wire.reading c.read.new.self in
    let w = g.L.Wire.writing c.args.link.now in
    let into = c.read.new.into in
    let n = c.in-Bytes.count in
    let end = c.in_err-feed-in-Bytes.field-0.0 in
    let room : length into ≡ 65536 = omega (arith, c.requires.room, c.read.auto.into) in
    let p = err_from_is_err_and c.from_residual.result c.from_residual.ensures.1 in
    let fails : IsHanded c.args.peer (take n into) (Err end) old new = rw c.in_err-feed-in-Bytes.was at c.feed.ensures.handed in
    rw (p.1, p.2)
    (subst (λ (v : Writing). IsReceived c.args.peer (Err end) old new (sides r0 w) (sides r1 v)) (sym c.in-Bytes.ensures.writing)
    (unfed c.args.peer r0 r1 w into room n c.in-Bytes.ensures.reads end old new fails))

pub returns-clause-received : goal.returns-clause-received
returns-clause-received g c =
    let old = g.D.Desk.desked c.args.desk.now in
    let mid = g.D.Desk.desked c.match-read.desk in
    let new = g.D.Desk.desked c.take_all.new.desk in
    let r0 = g.L.Wire.reading c.args.link.now in
    let r1 = g.L.Wire.reading c.read.new.self in
    let w = g.L.Wire.writing c.args.link.now in
    let into = c.read.new.into in
    let room : length into ≡ 65536 = omega (arith, c.requires.room, c.read.auto.into) in
    elim c.match-read.branch [
      | in-Quiet b ↦
          let is : mid.calls ≡ old.calls = ap (λ d. (g.D.Desk.desked d).calls) b.desk-is in
          subst (λ (v : Writing). IsReceived c.args.peer c.take_all.result old new (sides r0 w) (sides r1 v)) (sym b.in-Quiet.ensures.writing)
          (taken c.args.peer r0 r1 w into room got.Quiet b.in-Quiet.ensures.reads [] refl c.take_all.result old mid new (is ∙ sym (append-nil old.calls)) c.take_all.ensures.taken)
      | in-Bytes+in_ok-feed-in-Bytes b ↦
          let n = b.in-Bytes.count in
          let fed : IsHanded c.args.peer (take n into) (Ok tt) old (g.D.Desk.desked b.feed.new.desk) = rw b.in_ok-feed-in-Bytes.was at b.feed.ensures.handed in
          let is : mid.calls ≡ old.calls ++ fed.made = ap (λ d. (g.D.Desk.desked d).calls) b.desk-is ∙ fed.calls in
          subst (λ (v : Writing). IsReceived c.args.peer c.take_all.result old new (sides r0 w) (sides r1 v)) (sym b.in-Bytes.ensures.writing)
          (taken c.args.peer r0 r1 w into room (got.Bytes n) b.in-Bytes.ensures.reads fed.made fed.ends.0 c.take_all.result old mid new is c.take_all.ensures.taken)
    ]

pub returns-clause-stays : goal.returns-clause-stays
returns-clause-stays g c = λ site is.
    elim c.match-read.branch [
      | in-Quiet b ↦ c.take_all.ensures.stays site (subst (λ d. g.D.Sited.is_at d site) (sym b.desk-is) is)
      | in-Bytes+in_ok-feed-in-Bytes b ↦ c.take_all.ensures.stays site (subst (λ d. g.D.Sited.is_at d site) (sym b.desk-is) (b.feed.ensures.stays site is))
    ]
