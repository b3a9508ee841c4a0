use Rattle.std.proofs.Common.{◌∙◌}
use Rattle.plant_text.proofs.WordLaws.{file_is, no_file}
use Rattle.plant_text.proofs.word.file_of.Goals as goal

pub returns-in_default : goal.returns-in_default
returns-in_default c = no_file c.args.word.now c.in_default.ensures.cases.0

pub returns : goal.returns
returns c = rw (c.in_ok-copy_of.ensures ∙ c.in-Ok.ensures.cases.0) (file_is c.args.word.now c.in-Ok.ensures.cases.1)
