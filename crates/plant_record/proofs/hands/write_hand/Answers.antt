use Rattle.std.proofs.Common.{◌≡◌, ◌∙◌, ◌+◌, ◌∷◌, drop, ap, sym}
use Rattle.std.proofs.lemmas.List.{drop_more}
use Rattle.event_tape.specs.declared.told.Told.{Told}
use Rattle.plant_record.proofs.Reasons.{fault_behind, judged_behind}
use Rattle.plant_record.proofs.Writing.{all_written, cut_written, flush_after, flush_counts, none_written, one_written}
use Rattle.plant_record.proofs.hands.write_hand.Goals as goal

pub loop-told-init : goal.loop-told-init
loop-told-init g c = none_written g.F.File.Sink.written c.args.peers.now c.args.items.now (g.F.Folder.faults c.args.folder.now) c.args.script.now (g.F.Folder.contents c.args.folder.now)

pub loop-told-preserved : goal.loop-told-preserved
loop-told-preserved g c =
    let faults = g.F.Folder.faults in
    let contents = g.F.Folder.contents in
    let items = c.args.items.now in
    let i = c.loop-told.told-index in
    let x = c.told-item.result in
    let next : drop i items ≡ x ∷ drop (i + 1) items = drop_more items i x c.loop-told-test.true ∙ ap (λ (y : Told). y ∷ drop (i + 1) items) (sym c.told-item.is) in
    one_written g.F.File.Sink.written c.args.peers.now items i (faults c.args.folder.now) (faults c.loop-told.folder) (faults c.write_event.new.folder) x c.args.script.now c.loop-told.script c.write_event.new.script (contents c.args.folder.now) (contents c.loop-told.folder) (contents c.write_event.new.folder) next
    c.loop-told.invariant c.in_default.ensures.judged c.in_default.ensures.counted c.in_default.ensures.after

pub returns-in-Err-clause-after : goal.returns-in-Err-clause-after
returns-in-Err-clause-after g c =
    let faults = g.F.Folder.faults in
    let contents = g.F.Folder.contents in
    let items = c.args.items.now in
    let i = c.loop-told.told-index in
    let x = c.told-item.result in
    let next : drop i items ≡ x ∷ drop (i + 1) items = drop_more items i x c.loop-told-test.true ∙ ap (λ (y : Told). y ∷ drop (i + 1) items) (sym c.told-item.is) in
    cut_written g.F.File.Sink.written c.args.peers.now items i (faults c.args.folder.now) (faults c.loop-told.folder) x c.args.script.now c.loop-told.script c.write_event.new.script (contents c.args.folder.now) (contents c.loop-told.folder) (contents c.write_event.new.folder) next c.loop-told.invariant c.in-Err.ensures.after

pub returns-in-Err-clause-judged : goal.returns-in-Err-clause-judged
returns-in-Err-clause-judged g c = fault_behind g.F.File.Sink.faults (g.F.Folder.faults c.args.folder.now) (g.F.Folder.faults c.loop-told.folder) (g.F.Folder.faults c.write_event.new.folder) c.in-Err.why c.loop-told.invariant.later c.in-Err.ensures.judged

pub returns-clause-after : goal.returns-clause-after
returns-clause-after g c = λ t told st.
    let all = all_written g.F.File.Sink.written c.args.peers.now c.args.items.now c.loop-told.told-index (g.F.Folder.faults c.args.folder.now) (g.F.Folder.faults c.loop-told.folder) c.args.script.now c.loop-told.script (g.F.Folder.contents c.args.folder.now) (g.F.Folder.contents c.loop-told.folder) c.loop-told-test.false c.loop-told.invariant in
    flush_after g.F.File.Sink.written c.args.peers.now c.flush.result t _ c.loop-told.script c.flush.new.self (g.F.Folder.contents c.loop-told.folder) c.flush.ensures.ok c.flush.ensures.err (all.1 t told st)

pub returns-clause-counted : goal.returns-clause-counted
returns-clause-counted g c =
    let all = all_written g.F.File.Sink.written c.args.peers.now c.args.items.now c.loop-told.told-index (g.F.Folder.faults c.args.folder.now) (g.F.Folder.faults c.loop-told.folder) c.args.script.now c.loop-told.script (g.F.Folder.contents c.args.folder.now) (g.F.Folder.contents c.loop-told.folder) c.loop-told-test.false c.loop-told.invariant in
    flush_counts g.F.File.Sink.written c.args.peers.now c.flush.result c.loop-told.script c.flush.new.self _ c.flush.ensures.ok all.0

pub returns-clause-judged : goal.returns-clause-judged
returns-clause-judged g c = judged_behind g.F.File.Sink.faults (g.F.Folder.faults c.args.folder.now) (g.F.Folder.faults c.loop-told.folder) (g.F.Folder.faults c.loop-told.folder) c.flush.result c.loop-told.invariant.later (c.flush.ensures.judged (g.F.Folder.faults c.loop-told.folder))
