use Rattle.std.proofs.Common.{◌∙◌, arith, sym}
use Rattle.network_members.proofs.BecomingLemmas.{one_there, owns_written, placed_there, placed_within, some_one, written}
use Rattle.network_members.proofs.elements.Elements.make.Goals as goal

pub place-i-requires : goal.place-i-requires
place-i-requires g c = one_there c.args.at c.args.self.now c.args.plan.from c.requires

pub index_mut-requires : goal.index_mut-requires
index_mut-requires g c = omega (arith, c.self.inside.items.ok.0, placed_within c.args.at c.place-i.result c.self.inside.items.items c.args.self.now c.self.view_is c.place-i.ensures)

pub make-requires : goal.make-requires
make-requires g c = some_one c.args.plan.from c.index_mut.result.now (sym c.requires ∙ placed_there c.args.at c.place-i.result c.self.inside.items.items c.args.self.now c.self.view_is c.place-i.ensures c.index_mut.result.now c.index_mut.ensures.value)

pub invariant_of-self : goal.invariant_of-self
invariant_of-self g c = owns_written c.args.at c.place-i.result c.self.inside.items.items c.args.self.now c.self.view_is c.place-i.ensures (λ l. record l { element = c.args.plan.taken.element }) c.index_mut.result.now c.make.new.self c.index_mut.ensures.value c.make.ensures.made ∙ c.self.invariant

pub returns : goal.returns
returns g c = written c.args.at c.place-i.result c.self.inside.items.items c.args.self.now c.self.view_is c.place-i.ensures (λ l. record l { element = c.args.plan.taken.element }) c.index_mut.result.now c.make.new.self c.index_mut.ensures.value c.make.ensures.made
