use Rattle.std.proofs.Common.{length}
use Rattle.std.proofs.lemmas.List.{length_push}
use Rattle.std.proofs.lemmas.Slice.Zip.{zip_turn, zip_end}
use Rattle.vspt_tree.specs.Branches.{IsBranchOf}
use Rattle.vspt_tree.proofs.ZipLemmas.{parts_more, parts_all}
use Rattle.vspt_tree.proofs.tree.join.Goals as goal

pub loop-row-preserved : goal.loop-row-preserved
loop-row-preserved c =
    let turn = zip_turn c.args.best.now c.args.own.now c.loop-row.yielded c.into_iter-row-iterator.result c.loop-row.row-iterator c.next.new.self c.next.result
    (cc) (cc) c.loop-row.yielded_by _ c.in-Some.is c.next.ensures.steps in
    let made = rw c.as_slice.ensures at c.in_ok-branch_of.ensures in
    let more = parts_more (λ part branch. IsBranchOf c.args.down.now part.0 part.1 branch) c.args.best.now c.args.own.now c.loop-row.branches (length c.loop-row.yielded)
    c.in-Some.row.now c.in-Some.own.now c.in_ok-branch_of.field-0 turn.0 turn.1 (turn.2 c.in-Some.row.now) (turn.3 c.in-Some.own.now) c.loop-row.invariant made in
    rw (length_push c.loop-row.yielded (c.in-Some.row, c.in-Some.own), c.in_ok-push.ensures.ok) more

pub returns : goal.returns
returns c =
    let end = zip_end c.args.best.now c.args.own.now c.loop-row.yielded c.into_iter-row-iterator.result c.loop-row.row-iterator c.next.new.self c.next.result
    (cc) (cc) c.loop-row.yielded_by c.in-None.is c.next.ensures.steps in
    record { branches = parts_all (λ part branch. IsBranchOf c.args.down.now part.0 part.1 branch) c.args.best.now c.args.own.now c.loop-row.branches (length c.loop-row.yielded) end c.loop-row.invariant }
