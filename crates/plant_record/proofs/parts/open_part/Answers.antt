use Rattle.std.proofs.Common.{refl, subst, sym}
use Rattle.plant_record.specs.Standing.{IsBetween, ScriptState}
use Rattle.plant_record.proofs.Closing.{opened_so}
use Rattle.plant_record.proofs.parts.open_part.Goals as goal

pub returns-clause-after : goal.returns-clause-after
returns-clause-after g c = λ peers t told b.
    let old = g.F.Folder.contents c.args.folder.now in
    let here = subst (λ (x : ScriptState _). IsBetween peers t told x old) (sym c.script.view_is) b in
    opened_so g.F.File.Sink.written peers t told _ c.args.script.now _ old (g.F.Folder.contents c.create.new.self) c.as_str.result.now c.text.result c.in_ok-file.file c.in-Some.number c.in-Some-checked_add.event _ c.new-head.result.items c.text.ensures c.script.view_is here c.in_ok-file.ensures.makes refl c.in-Some.ensures.1 c.in-Some-checked_add.ensures.1 c.new-head.ensures.items
    refl refl refl refl refl refl c.in_ok-push_head.ensures
