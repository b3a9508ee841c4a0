use Rattle.std.proofs.Common.{◌≡◌, drop}
use Rattle.plant_text.specs.Settings.{row_of}
use Rattle.plant_client.proofs.asking.row_of.Given as goal

abbrev pub invariant-loop-row : goal.invariant-loop-row
invariant-loop-row l = row_of l.at (drop l.row-index l.rows) ≡ row_of l.at l.rows
