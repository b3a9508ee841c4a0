use Rattle.std.proofs.Common.{[], ◌≡◌}
use Rattle.plant_record.specs.Standing.{IsFlushed}
use Rattle.plant_record.proofs.Standing.{flushed}
use Rattle.plant_record.proofs.Writing.{close_done, close_fails, flush_fails, none_waits}
use Rattle.plant_record.proofs.parts.turn_page.Goals as goal

pub returns-in-Err-clause-after : goal.returns-in-Err-clause-after
returns-in-Err-clause-after g c = λ peers t told st.
    flush_fails g.F.File.Sink.written peers t told c.args.script.now c.flush.new.self (g.F.Folder.contents c.args.folder.now) c.in-Err.ensures.err st

pub returns-in-Err-clause-judged : goal.returns-in-Err-clause-judged
returns-in-Err-clause-judged g c = c.in-Err.ensures.judged (g.F.Folder.faults c.args.folder.now)

pub returns-clause-after : goal.returns-clause-after
returns-clause-after g c = λ peers t told st.
    let written = g.F.File.Sink.written in
    let s = c.args.script.now in
    let u = c.flush.new.self in
    let contents = g.F.Folder.contents c.args.folder.now in
    let is : IsFlushed written s u = c.in_default.ensures.ok in
    let none : u.pending ≡ [] = none_waits written peers s u is in
    c.open_part.ensures.after peers t told (close_done written peers t told u c.close_part.new.script contents (g.F.Folder.contents c.close_part.new.folder) (flushed written peers t told s u contents is st) none c.in_default-close_part.ensures.closes)

pub returns-in-Err-close_part-clause-after : goal.returns-in-Err-close_part-clause-after
returns-in-Err-close_part-clause-after g c = λ peers t told st.
    let written = g.F.File.Sink.written in
    let s = c.args.script.now in
    let u = c.flush.new.self in
    let contents = g.F.Folder.contents c.args.folder.now in
    let is : IsFlushed written s u = c.in_default.ensures.ok in
    let none : u.pending ≡ [] = none_waits written peers s u is in
    close_fails written peers t told u c.close_part.new.script contents (g.F.Folder.contents c.close_part.new.folder) c.in-Err-close_part.fault (flushed written peers t told s u contents is st) none c.in-Err-close_part.ensures.closes
