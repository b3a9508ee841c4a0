use Rattle.network_members.specs.TierFields.{tiers_of}
use Rattle.network_members.proofs.TierLoads.{loads, loads_as, set_loads}
use Rattle.network_members.proofs.loading.Hierarchy+Topologies.load.Goals as goal

pub invariant_of-self : goal.invariant_of-self
invariant_of-self c = set_loads c.args.at c.args.topology (tiers_of c.self.inside.network c.self.inside.clock.0 c.self.inside.elements c.self.inside.parent) c.load.new.self c.load.result c.self.invariant c.load.ensures

pub returns : goal.returns
returns c =
    let t = tiers_of c.self.inside.network c.self.inside.clock.0 c.self.inside.elements c.self.inside.parent in
    loads_as c.args.at c.args.topology t c.args.self.now c.load.result _ c.self.view_is (loads c.args.at c.args.topology t c.load.new.self c.load.result c.self.invariant c.load.ensures)
