use Rattle.std.proofs.Common.{◌≡◌, drop}
use Rattle.plant_text.specs.Settings.{row_of}
use Rattle.network_members.proofs.fresh.figures_of.Given as goal

abbrev pub invariant-loop-row : goal.invariant-loop-row
invariant-loop-row l = row_of l.own (drop l.row-index l.rows) ≡ row_of l.own l.rows
