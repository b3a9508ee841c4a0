use Rattle.std.proofs.Common.{◌∙◌}
use Rattle.plant_record.proofs.FirstPart.{adds_named}
use Rattle.plant_record.proofs.files.keep_topology.Goals as goal

pub returns-clause-ok : goal.returns-clause-ok
returns-clause-ok g c =
    adds_named (g.F.Folder.contents c.args.folder.now) (g.F.Folder.contents c.keep_file.new.folder) c.as_str.result.now _ c.as_slice.result.now _ c.keep_file.result (c.as_str.ensures ∙ c.in_ok-name.ensures) (c.as_slice.ensures ∙ c.in_ok-text.ensures.text) c.keep_file.ensures.ok
