use Rattle.std.proofs.Common.{◌≡◌, ◌∙◌, Option, Some, arith, set, sym, subst}
use Rattle.std.specs.Prelude.{IfOk, IfSome}
use Rattle.std.proofs.lemmas.Result.{IfOk-weaker}
use Rattle.pce_element.specs.Seen.{Seen}
use Rattle.network_members.specs.Elements.{at_domain}
use Rattle.network_members.specs.Becoming.{taken_by, unchanged}
use Rattle.network_members.proofs.BecomingLemmas.{owns_written, placed_there, placed_within, written, written_there}
use Rattle.network_members.proofs.elements.Elements.take.Goals as goal

pub index_mut-requires : goal.index_mut-requires
index_mut-requires g c = omega (arith, c.self.inside.items.ok.0, placed_within c.args.at c.place-i.result c.self.inside.items.items c.args.self.now c.self.view_is c.place-i.ensures)

pub invariant_of-self : goal.invariant_of-self
invariant_of-self g c = owns_written c.args.at c.place-i.result c.self.inside.items.items c.args.self.now c.self.view_is c.place-i.ensures unchanged c.index_mut.result.now c.take.new.self c.index_mut.ensures.value c.take.ensures.same ∙ c.self.invariant

pub returns-clause-same : goal.returns-clause-same
returns-clause-same g c = written c.args.at c.place-i.result c.self.inside.items.items c.args.self.now c.self.view_is c.place-i.ensures unchanged c.index_mut.result.now c.take.new.self c.index_mut.ensures.value c.take.ensures.same

pub returns-clause-from : goal.returns-clause-from
returns-clause-from g c =
    IfOk-weaker c.take.result (λ plan. plan.from ≡ c.take.new.self) (λ plan. at_domain c.args.at (set c.self.inside.items.items c.place-i.result c.take.new.self) ≡ Some plan.from)
    (λ plan. written_there c.args.at c.place-i.result c.self.inside.items.items c.args.self.now c.self.view_is c.place-i.ensures unchanged c.index_mut.result.now c.take.new.self c.index_mut.ensures.value c.take.ensures.same plan.from) c.take.ensures.from

pub returns-clause-taken : goal.returns-clause-taken
returns-clause-taken g c =
    subst (λ (o : Option (Seen _ _)). IfOk c.take.result (λ plan. IfSome o (λ e. plan.taken ≡ taken_by g.W.World.show c.args.peer c.args.class c.args.now.0 c.args.message e)))
    (sym (placed_there c.args.at c.place-i.result c.self.inside.items.items c.args.self.now c.self.view_is c.place-i.ensures c.index_mut.result.now c.index_mut.ensures.value)) c.take.ensures.taken
