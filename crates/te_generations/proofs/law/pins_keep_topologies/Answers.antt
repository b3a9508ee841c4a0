use Rattle.te_links.specs.Rows.{Rows}
use Rattle.te_generations.proofs.RunLemmas.{keeps, pin_gives}
use Rattle.te_generations.proofs.law.pins_keep_topologies.Goals as goal

pub returns : goal.returns
returns c = record { pinned = pin_gives Rows; keeps = keeps Rows }
