use Rattle.desk_laws.proofs.Written as written
use Rattle.desk_laws.proofs.sockets.written_was_put.Goals as goal

pub returns : goal.returns
returns c = written.written_was_put
