use Rattle.std.proofs.Common.{◌≡◌, ◌∙◌, Option, arith, sym, subst}
use Rattle.std.specs.Prelude.{IfSome}
use Rattle.pce_common.specs.plant_model.Element.{next_lost_of}
use Rattle.pce_element.specs.Seen.{Seen}
use Rattle.network_members.proofs.BecomingLemmas.{owns_written, placed_there, placed_within, written}
use Rattle.network_members.proofs.elements.Elements.next_lost.Goals as goal

pub index_mut-requires : goal.index_mut-requires
index_mut-requires g c = omega (arith, c.self.inside.items.ok.0, placed_within c.args.at c.place-i.result c.self.inside.items.items c.args.self.now c.self.view_is c.place-i.ensures)

pub invariant_of-self : goal.invariant_of-self
invariant_of-self g c = owns_written c.args.at c.place-i.result c.self.inside.items.items c.args.self.now c.self.view_is c.place-i.ensures (λ l. (next_lost_of l).1) c.index_mut.result.now c.next_lost.new.self c.index_mut.ensures.value c.next_lost.ensures.rest ∙ c.self.invariant

pub returns-clause-lost : goal.returns-clause-lost
returns-clause-lost g c =
    subst (λ (o : Option (Seen _ _)). IfSome o (λ e. c.next_lost.result ≡ (next_lost_of e.losing).0)) (sym (placed_there c.args.at c.place-i.result c.self.inside.items.items c.args.self.now c.self.view_is c.place-i.ensures c.index_mut.result.now c.index_mut.ensures.value)) c.next_lost.ensures.lost

pub returns-clause-rest : goal.returns-clause-rest
returns-clause-rest g c = written c.args.at c.place-i.result c.self.inside.items.items c.args.self.now c.self.view_is c.place-i.ensures (λ l. (next_lost_of l).1) c.index_mut.result.now c.next_lost.new.self c.index_mut.ensures.value c.next_lost.ensures.rest
