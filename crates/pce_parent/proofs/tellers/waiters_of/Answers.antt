use Rattle.std.proofs.Common.{◌≤◌, List, length, take, arith, refl, subst}
use Rattle.pce_common.specs.Waiting.{AreSaidOf, numbers_waiting}
use Rattle.pce_common.specs.plant_model.Parent.{AskingRow}
use Rattle.pce_common.proofs.HeldPlaces.{all_taken}
use Rattle.pce_common.proofs.WaiterLemmas.{nobody_said, numbers_next, said_by}
use Rattle.pce_parent.specs.Pendings.{row_of}
use Rattle.pce_parent.specs.Tellers.{waits_under}
use Rattle.pce_parent.proofs.tellers.waiters_of.Goals as goal

pub loop-i-init : goal.loop-i-init
loop-i-init c = nobody_said (waits_under c.args.peer) c.args.requests.now.kept.rows c.new-waiters.result c.new-waiters.ensures

pub loop-i-preserved : goal.loop-i-preserved
loop-i-preserved c =
    let rows : List AskingRow = c.args.requests.now.kept.rows in
    let waits = waits_under c.args.peer in
    λ id. said_by _ _ _ _ (numbers_next waits rows c.loop-i.i (row_of c.in-Some.row) id c.in-Some.ensures.row) refl (c.in_ok-add_waits.ensures (numbers_waiting waits (take c.loop-i.i rows)) c.loop-i.invariant id)

pub returns : goal.returns
returns c =
    let rows : List AskingRow = c.args.requests.now.kept.rows in
    let past : length rows ≤ c.loop-i.i = omega (arith, c.len-i-end.ensures.count, c.loop-i-test.false) in
    subst (λ (rs : List AskingRow). AreSaidOf (numbers_waiting (waits_under c.args.peer) rs) c.loop-i.waiters) (all_taken rows c.loop-i.i past) c.loop-i.invariant
