use Rattle.std.proofs.Common.{take}
use Rattle.pce_common.specs.plant_model.Branches.{downs}
use Rattle.pce_common.specs.plant_model.Jobs.{IsJoinOf}
use Rattle.pce_element.proofs.joining.join_rows.Given as goal

abbrev pub invariant-loop-row : goal.invariant-loop-row
invariant-loop-row l = IsJoinOf l.cap l.target (take l.row-index l.rows) (downs l.down) l.best.items
