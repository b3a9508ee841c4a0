use Rattle.std.proofs.Common.{◌≡◌, is_none}
use Rattle.network_check.proofs.Peers.{none_is}
use Rattle.network_check.proofs.warnings.warn_of_topology.Goals as goal

pub returns : goal.returns
returns c =
    let none : c.is_none.result ≡ is_none c.args.element.now.topology = none_is c.args.element.now.topology c.is_none.result c.is_none.ensures in
    rw (none, c.from.ensures) at c.tell_if.ensures
