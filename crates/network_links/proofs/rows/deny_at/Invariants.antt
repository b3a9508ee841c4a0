use Rattle.std.proofs.Common.{◌≡◌, ◌++◌, drop}
use Rattle.plant_text.specs.Settings.{deny_at}
use Rattle.network_links.proofs.rows.deny_at.Given as goal

abbrev pub invariant-loop-row : goal.invariant-loop-row
invariant-loop-row l = l.found ++ deny_at l.own (drop l.row-index l.rows) ≡ deny_at l.own l.rows
