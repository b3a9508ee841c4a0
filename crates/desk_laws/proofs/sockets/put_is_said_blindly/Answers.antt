use Rattle.desk_laws.proofs.Closed as closed
use Rattle.desk_laws.proofs.sockets.put_is_said_blindly.Goals as goal

pub returns : goal.returns
returns c = closed.put_is_said_blindly
