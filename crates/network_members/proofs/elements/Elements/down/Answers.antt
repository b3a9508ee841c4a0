use Rattle.std.proofs.Common.{◌∙◌, arith}
use Rattle.pce_common.specs.plant_model.Element.{down_of}
use Rattle.network_members.proofs.BecomingLemmas.{owns_written, placed_within, written}
use Rattle.network_members.proofs.elements.Elements.down.Goals as goal

pub index_mut-requires : goal.index_mut-requires
index_mut-requires g c = omega (arith, c.self.inside.items.ok.0, placed_within c.args.at c.place-i.result c.self.inside.items.items c.args.self.now c.self.view_is c.place-i.ensures)

pub invariant_of-self : goal.invariant_of-self
invariant_of-self g c = owns_written c.args.at c.place-i.result c.self.inside.items.items c.args.self.now c.self.view_is c.place-i.ensures (down_of c.args.peer) c.index_mut.result.now c.down.new.self c.index_mut.ensures.value c.down.ensures.down ∙ c.self.invariant

pub returns : goal.returns
returns g c = written c.args.at c.place-i.result c.self.inside.items.items c.args.self.now c.self.view_is c.place-i.ensures (down_of c.args.peer) c.index_mut.result.now c.down.new.self c.index_mut.ensures.value c.down.ensures.down
