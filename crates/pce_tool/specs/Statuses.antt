-- The numbers of the statuses.
use Rattle.std.specs.Prelude.{ℕ}
use Rattle.pce_tool.specs.declared.status.Status.{Status}
use Rattle.pce_tool.specs.declared.status.Status.TheVariants as status

abbrev pub number_of : Status → ℕ
number_of status.Ok = 0
number_of status.Usage = 1
number_of status.ReadFault = 2
number_of status.WriteFault = 3
number_of (status.BadNetwork file line fault) = 4
number_of status.Faulty = 4
number_of (status.BadLine line) = 5
number_of status.NoMemory = 6
number_of (status.BadRequest why) = 7
number_of (status.Refuted place) = 8
number_of (status.TooLarge name) = 9
