use Rattle.std.proofs.Common.{refl, sym, append-nil, arith}
use Rattle.pce_parent.proofs.Leaving.{within_left, one_left, all_left}
use Rattle.pce_parent.proofs.pending.leave_all.Goals as goal

pub loop-turn-init : goal.loop-turn-init
loop-turn-init c = record {
  left = record { rows_are = refl; place_is = refl; lost_are = sym (append-nil c.args.gone.now.items) };
  room = c.requires;
}

pub leave_next-k-requires-clause-place : goal.leave_next-k-requires-clause-place
leave_next-k-requires-clause-place c =
    within_left c.args.peer c.args.requests.now.kept c.args.gone.now.items c.loop-turn._turn c.loop-turn.k c.loop-turn.requests.kept c.loop-turn.gone.items c.loop-turn.invariant.left (omega arith)

pub loop-turn-preserved : goal.loop-turn-preserved
loop-turn-preserved c = record {
  left = one_left c.args.peer c.args.requests.now.kept c.args.gone.now.items c.loop-turn._turn c.loop-turn.k c.loop-turn.requests.kept c.loop-turn.gone.items c.loop-turn.invariant.left
      c.leave_next-k.new.requests.kept c.leave_next-k.new.gone.items c.leave_next-k.result (omega arith) c.leave_next-k.ensures.leaves;
  room = c.leave_next-k.ensures.room;
}

pub returns-clause-kept : goal.returns-clause-kept
returns-clause-kept c =
    (all_left c.args.peer c.args.requests.now.kept c.args.gone.now.items c.loop-turn._turn c.loop-turn.k c.loop-turn.requests.kept c.loop-turn.gone.items c.loop-turn.invariant.left (omega arith)).0

pub returns-clause-lost : goal.returns-clause-lost
returns-clause-lost c =
    (all_left c.args.peer c.args.requests.now.kept c.args.gone.now.items c.loop-turn._turn c.loop-turn.k c.loop-turn.requests.kept c.loop-turn.gone.items c.loop-turn.invariant.left (omega arith)).1

pub returns-clause-room : goal.returns-clause-room
returns-clause-room c = c.loop-turn.invariant.room
