use Rattle.std.proofs.Common.{◌≤◌, ◌+◌, List, length, take, arith, sym, subst}
use Rattle.pce_common.specs.Waiting.{AreSaidOf, numbers_waiting}
use Rattle.pce_common.specs.plant_model.Element.{Row}
use Rattle.pce_common.proofs.HeldPlaces.{all_taken}
use Rattle.pce_common.proofs.WaiterLemmas.{nobody_said, said_next, said_still}
use Rattle.pce_element.specs.Rows.{row_of}
use Rattle.pce_element.specs.Tellers.{waits_under}
use Rattle.pce_element.proofs.TellerLemmas.{waits_for_id, waits_for_none}
use Rattle.pce_element.proofs.pinned.PinnedRequests.waiters.Goals as goal
use Rattle.pce_element.proofs.pinned.PinnedRequests.waiters.Goals.{in-Some-id_sent_to+in_ok-add, in_default-id_sent_to}

pub loop-k-init : goal.loop-k-init
loop-k-init g c = nobody_said (waits_under c.args.peer) c.args.self.now.pending.rows c.new-waiters.result c.new-waiters.ensures

pub loop-k-preserved : goal.loop-k-preserved
loop-k-preserved g c =
    let rows : List (Row _) = c.args.self.now.pending.rows in
    let peer = c.args.peer in
    let h : Row _ = row_of c.in-Some.row in
    elim c.match-id_sent_to.branch [
      | in-Some-id_sent_to+in_ok-add w ↦
          subst (AreSaidOf (numbers_waiting (waits_under peer) (take (c.loop-k.k + 1) rows))) (sym w.waiters-is)
          (said_next (waits_under peer) rows c.loop-k.k h c.in-Some.ensures.row w.in-Some-id_sent_to.id c.loop-k.waiters w.add.new.self (waits_for_id peer h.1.item.stage w.in-Some-id_sent_to.id (sym w.in-Some-id_sent_to.ensures)) w.in_ok-add.ensures c.loop-k.invariant)
      | in_default-id_sent_to w ↦
          subst (AreSaidOf (numbers_waiting (waits_under peer) (take (c.loop-k.k + 1) rows))) (sym w.waiters-is)
          (said_still (waits_under peer) rows c.loop-k.k h c.in-Some.ensures.row c.loop-k.waiters (waits_for_none peer h.1.item.stage (sym w.in_default-id_sent_to.ensures)) c.loop-k.invariant)
    ]

pub returns : goal.returns
returns g c =
    let rows : List (Row _) = c.args.self.now.pending.rows in
    let past : length rows ≤ c.loop-k.k = omega (arith, c.len-k-end.ensures.count, c.loop-k-test.false) in
    subst (λ (rs : List (Row _)). AreSaidOf (numbers_waiting (waits_under c.args.peer) rs) c.loop-k.waiters) (all_taken rows c.loop-k.k past) c.loop-k.invariant
