use Rattle.std.proofs.Common.{refl, subst, sym}
use Rattle.std.proofs.lemmas.Result.{err_from_is_err_and}
use Rattle.plant_record.specs.Standing.{ScriptState, Stands}
use Rattle.plant_record.proofs.LastPart.{last_closed, not_flushed, unended}
use Rattle.plant_record.proofs.ending.close_last.Goals as goal

pub returns-in_err-push_tail-clause-after : goal.returns-in_err-push_tail-clause-after
returns-in_err-push_tail-clause-after g c = λ peers t told st.
    let written = g.F.File.Sink.written in
    let old = g.F.Folder.contents c.args.folder.now in
    let here = subst (λ (x : ScriptState _). Stands written peers t told x old) (sym c.script.view_is) st in
    let p = err_from_is_err_and c.from_residual.result c.from_residual.ensures.1 in
    unended written peers t told _ _ old c.args.ended c.from_residual.result p.0 p.1 here refl refl

pub returns-in-Err-clause-after : goal.returns-in-Err-clause-after
returns-in-Err-clause-after g c = λ peers t told st.
    let written = g.F.File.Sink.written in
    let old = g.F.Folder.contents c.args.folder.now in
    let here = subst (λ (x : ScriptState _). Stands written peers t told x old) (sym c.script.view_is) st in
    not_flushed written peers t told _ _ old c.args.ended here refl refl c.in_ok-push_tail.ensures c.flush.new.self c.in-Err.ensures.err

pub returns-in-Err-clause-judged : goal.returns-in-Err-clause-judged
returns-in-Err-clause-judged g c = c.in-Err.ensures.judged (g.F.Folder.faults c.args.folder.now)

pub returns-clause-after : goal.returns-clause-after
returns-clause-after g c = λ peers t told st.
    let written = g.F.File.Sink.written in
    let old = g.F.Folder.contents c.args.folder.now in
    let here = subst (λ (x : ScriptState _). Stands written peers t told x old) (sym c.script.view_is) st in
    last_closed written peers t told _ _ old c.args.ended here refl refl c.in_ok-push_tail.ensures c.flush.new.self c.close_part.new.script (g.F.Folder.contents c.close_part.new.folder) c.in_default.ensures.ok c.close_part.result c.close_part.ensures.closes
