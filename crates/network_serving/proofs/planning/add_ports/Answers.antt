use Rattle.std.proofs.Common.{rules, ◌≡◌, ◌∙◌, ℕ, get_or, refl, arith, Some}
use Rattle.std.specs.Prelude.{slice_get}
use Rattle.plant_text.specs.declared.settings.PeerRow.{PeerRow}
use Rattle.turn_desk.specs.Desks.{stand_of}
use Rattle.network_serving.specs.Starting.{IsPlanEnd, called, peer_ports}
use Rattle.network_serving.proofs.Plans.{beside, one_added, port_added, port_at, rose_more}
use Rattle.network_serving.proofs.Starts.{plan_end}
use Rattle.network_serving.proofs.planning.add_ports.Goals as goal

pub returns-in_err-listener-clause-err : goal.returns-in_err-listener-clause-err
returns-in_err-listener-clause-err g c =
    let rows = c.args.peers.now in
    let k = c.loop-peer.peer in
    let row : PeerRow = c.index-peers-peer.result in
    let is : row ≡ get_or rows k row = c.index-peers-peer.is in
    let port : ℕ = row.port in
    let a = g.Q.Ports.calls c.args.ports.now in
    let b = g.Q.Ports.calls c.loop-peer.ports in
    let d = g.Q.Ports.faults c.args.ports.now in
    let e = g.Q.Ports.faults c.loop-peer.ports in
    let new = c.open_port.new.ports in
    let there : slice_get (peer_ports rows) k ≡ Some port = port_at rows k row c.loop-peer-test.true is in
    let end : IsPlanEnd (peer_ports rows) (called (a, g.Q.Ports.calls new) (d, g.Q.Ports.faults new) (g.Q.Ports.failed_at new)) c.in_err-listener.field-0.0 =
    plan_end (peer_ports rows) k port a b (g.Q.Ports.calls new) d e (g.Q.Ports.faults new) (g.Q.Ports.failed_at new) c.in_err-listener.field-0.0 there c.loop-peer.invariant.calls c.in_err-listener.ensures.called
    c.loop-peer.invariant.later c.in_err-listener.ensures.err in
    search (rules, end)

pub loop-peer-preserved : goal.loop-peer-preserved
loop-peer-preserved g c =
    let rows = c.args.peers.now in
    let k = c.loop-peer.peer in
    let row : PeerRow = c.index-peers-peer.result in
    let is : row ≡ get_or rows k row = c.index-peers-peer.is in
    let port : ℕ = g.Q.Port.Listener.opened_at c.in_ok-listener.listener in
    let same : port ≡ row.port = c.in_ok-listener.ensures.ok in
    let s = stand_of c.args.desk.now in
    record {
      stand = c.in_ok-desk.ensures.stand ∙ c.loop-peer.invariant.stand;
      seats = omega (arith, c.in_ok-desk.ensures.seat, c.loop-peer.invariant.seats);
      adds = port_added g.Q.Port.Listener.opened_at g.Q.Port.Listener.heeds g.Q.Port.Listener.dialled_to s rows k row port row.comes c.args.tasks.now.items c.loop-peer.tasks.items c.push_task.new.tasks.items c.loop-peer-test.true is same refl
          c.loop-peer.invariant.adds
          (one_added g.Q.Port.Listener.opened_at g.Q.Port.Listener.heeds g.Q.Port.Listener.dialled_to s c.loop-peer.tasks.items _ c.push_task.new.tasks.items
          (c.in_ok-listener.ensures.heeds, beside (stand_of c.in_ok-desk.desk) (stand_of c.loop-peer.desk) s c.in_ok-desk.ensures.ok c.loop-peer.invariant.stand c.requires.fresh) c.in_ok-push_task.ensures.ok);
      calls = rose_more k (g.Q.Ports.calls c.args.ports.now) (g.Q.Ports.calls c.loop-peer.ports) (g.Q.Ports.calls c.open_port.new.ports) c.loop-peer.invariant.calls c.in_ok-listener.ensures.called;
      later = omega (arith, c.loop-peer.invariant.later, c.in_ok-listener.ensures.later);
    }
