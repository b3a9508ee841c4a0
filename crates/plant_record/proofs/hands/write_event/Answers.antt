use Rattle.std.proofs.Common.{◌∷◌, [], ◌++◌, ◌≤◌, arith}
use Rattle.plant_record.proofs.Reasons.{judged_behind}
use Rattle.plant_record.proofs.Writing.{breaks_more, flush_after}
use Rattle.plant_record.proofs.hands.write_event.Goals as goal

pub returns-in-Err-clause-after : goal.returns-in-Err-clause-after
returns-in-Err-clause-after g c = λ t before st.
    breaks_more g.F.File.Sink.written c.args.peers.now t before (c.args.told.now ∷ []) c.turn_due_page.new.script (g.F.Folder.contents c.turn_due_page.new.folder) (c.in-Err.ensures.after c.args.peers.now t before st)

pub returns-then-is_heavy-clause-after : goal.returns-then-is_heavy-clause-after
returns-then-is_heavy-clause-after g c = λ t before st.
    let page = c.in_default.ensures.after c.args.peers.now t before st in
    let more = c.in_default-push_told.ensures.after t before page in
    flush_after g.F.File.Sink.written c.args.peers.now c.flush.result t (before ++ c.args.told.now ∷ []) c.push_told.new.script c.flush.new.self (g.F.Folder.contents c.push_told.new.folder) c.flush.ensures.ok c.flush.ensures.err more

pub returns-then-is_heavy-clause-judged : goal.returns-then-is_heavy-clause-judged
returns-then-is_heavy-clause-judged g c =
    let old = g.F.Folder.faults c.args.folder.now in
    let mid = g.F.Folder.faults c.turn_due_page.new.folder in
    let new = g.F.Folder.faults c.push_told.new.folder in
    let first : old ≤ mid = c.in_default.ensures.judged in
    let second : mid ≤ new = c.in_default-push_told.ensures.judged in
    judged_behind g.F.File.Sink.faults old new new c.flush.result (omega (arith, first, second)) (c.flush.ensures.judged new)
