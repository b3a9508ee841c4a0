use Rattle.te_links.specs.Rows.{Rows}
use Rattle.te_generations.proofs.FullLemmas.{full_by_numbers}
use Rattle.te_generations.proofs.law.full_by_numbers.Goals as goal

pub returns : goal.returns
returns c = full_by_numbers Rows
