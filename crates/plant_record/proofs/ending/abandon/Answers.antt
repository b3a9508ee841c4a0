use Rattle.std.proofs.Common.{◌≡◌, ◌∙◌, List, ℕ, Some, ap, refl, subst, sym}
use Rattle.dom_edge.specs.Folders.{Closes}
use Rattle.plant_record.specs.Parts.{part_name}
use Rattle.plant_record.specs.Standing.{ScriptState}
use Rattle.plant_record.proofs.LastPart.{abandoned, left_so}
use Rattle.plant_record.proofs.ending.abandon.Goals as goal

pub returns-in_default-clause-part : goal.returns-in_default-clause-part
returns-in_default-clause-part g c = λ peers t told b. left_so g.F.File.Sink.written peers t told c.args.script.now (g.F.Folder.contents c.args.folder.now) (g.F.Folder.contents c.args.folder.now) b refl

pub returns-in-Some-clause-part : goal.returns-in-Some-clause-part
returns-in-Some-clause-part g c = λ peers t told b.
    let written = g.F.File.Sink.written in
    let s = c.args.script.now in
    let old = g.F.Folder.contents c.args.folder.now in
    let new = g.F.Folder.contents c.close-closed.new.self in
    let file : s.file ≡ Some c.in-Some.file = ap (λ (x : ScriptState _). x.file) (sym c.script.view_is) ∙ sym c.take.ensures.value ∙ c.in-Some.is in
    let named : c.as_str.result.now ≡ part_name s.number = c.as_str.ensures ∙ c.in-Ok.ensures ∙ ap (λ (x : ScriptState _). part_name x.number) c.script.view_is in
    abandoned written peers t told s old new c.in-Some.file c.close-closed.result b file (subst (λ (n : List ℕ). Closes old new n (written c.in-Some.file) c.close-closed.result) named c.close-closed.ensures.closes)

pub returns-clause-part : goal.returns-clause-part
returns-clause-part g c = λ peers t told b. left_so g.F.File.Sink.written peers t told c.args.script.now (g.F.Folder.contents c.args.folder.now) (g.F.Folder.contents c.args.folder.now) b refl
