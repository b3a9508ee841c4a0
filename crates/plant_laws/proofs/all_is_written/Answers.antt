use Rattle.plant_laws.proofs.WrittenForm.EveryWritten.{every_written}
use Rattle.plant_laws.proofs.all_is_written.Goals as goal

pub returns : goal.returns
returns c = every_written
