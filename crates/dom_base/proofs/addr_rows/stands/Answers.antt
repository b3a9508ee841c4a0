use Rattle.dom_base.proofs.Seeds.{addr_found}
use Rattle.dom_base.proofs.addr_rows.stands.Goals as goal

pub returns : goal.returns
returns c = addr_found c.args.addrs.now c.args.addr c.contains.result c.contains.ensures.cases
