use Rattle.dom_base.specs.declared.query.Seed.{Seed}
use Rattle.dom_base.proofs.Seeds.{seed_found}
use Rattle.dom_base.proofs.addr_rows.ends_at.Goals as goal

pub returns : goal.returns
returns c =
    let seed : Seed = record { node = c.args.node; cost = c.args.label.now.cost; exit = c.args.label.now.exit } in
    seed_found c.args.seeds.now seed c.contains.result c.contains.ensures.cases
