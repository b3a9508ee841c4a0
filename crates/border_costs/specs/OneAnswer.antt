-- An ask has one answer over a topology, by whatever search.
use Rattle.std.specs.Prelude.{◌≡◌}
use Rattle.te_links.specs.Rows.{Rows, IsInOrder}
use Rattle.border_costs.specs.declared.job.Ask.{Ask}
use Rattle.border_costs.specs.declared.answer.Answer.{Answer}
use Rattle.border_costs.specs.Solutions.{AreRows}

abbrev pub OneAnswer : Type 0
OneAnswer = (g : Rows) (ask : Ask) (rows others : Answer) → IsInOrder g → AreRows g ask rows → AreRows g ask others → others ≡ rows
