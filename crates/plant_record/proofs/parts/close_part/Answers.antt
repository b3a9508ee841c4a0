use Rattle.std.proofs.Common.{◌≡◌, ◌∙◌, None, ap, refl, sym}
use Rattle.plant_record.specs.Standing.{ScriptState}
use Rattle.plant_record.proofs.Closing.{closes_none, taken}
use Rattle.plant_record.proofs.parts.close_part.Goals as goal

pub returns-in_default-clause-closes : goal.returns-in_default-clause-closes
returns-in_default-clause-closes g c =
    let s = c.args.script.now in
    let contents = g.F.Folder.contents c.args.folder.now in
    let none : s.file ≡ None = ap (λ (x : ScriptState _). x.file) (sym c.script.view_is) ∙ sym c.take.ensures.value ∙ c.in_default.is in
    closes_none g.F.File.Sink.written s _ contents contents none refl (taken _ s c.take.new.self c.script.view_is c.take.ensures.after)
