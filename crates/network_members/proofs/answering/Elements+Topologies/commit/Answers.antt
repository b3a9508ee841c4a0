use Rattle.std.proofs.Common.{◌≡◌, ◌∙◌, ◌≤◌, Option, Some, Result, Ok, Err, arith, set, sym, subst}
use Rattle.std.specs.Prelude.{IfErr, IfOk, IfSome}
use Rattle.std.proofs.lemmas.Result.{IfOk-weaker}
use Rattle.pce_common.specs.plant_model.Plant.{Pin, Segment}
use Rattle.pce_element.specs.Committing.{IsOwnJob, committed}
use Rattle.pce_element.specs.Seen.{Seen}
use Rattle.network_members.specs.Elements.{at_domain}
use Rattle.network_members.specs.Answering.{IsBack}
use Rattle.network_members.specs.Becoming.{unchanged}
use Rattle.network_members.proofs.BecomingLemmas.{owns_written, placed_there, placed_within, written, written_there}
use Rattle.network_members.proofs.answering.Elements+Topologies.commit.Goals as goal

pub index_mut-requires : goal.index_mut-requires
index_mut-requires c = omega (arith, c.self.inside.items.ok.0, placed_within c.args.at c.place-i.result c.self.inside.items.items c.args.self.now c.self.view_is c.place-i.ensures)

pub commit-requires-clause-clock : goal.commit-requires-clause-clock
commit-requires-clause-clock c =
    subst (λ (o : Option (Seen Pin Segment)). IfSome o (λ e. e.losing.element.keys.clock ≤ c.args.now.0))
    (placed_there c.args.at c.place-i.result c.self.inside.items.items c.args.self.now c.self.view_is c.place-i.ensures c.index_mut.result.now c.index_mut.ensures.value) c.requires.clock

pub commit-requires-clause-own : goal.commit-requires-clause-own
commit-requires-clause-own c =
    subst (λ (o : Option (Seen Pin Segment)). IfSome o (λ e. IsOwnJob e c.args.solved))
    (placed_there c.args.at c.place-i.result c.self.inside.items.items c.args.self.now c.self.view_is c.place-i.ensures c.index_mut.result.now c.index_mut.ensures.value) c.requires.own

pub invariant_of-self : goal.invariant_of-self
invariant_of-self c = owns_written c.args.at c.place-i.result c.self.inside.items.items c.args.self.now c.self.view_is c.place-i.ensures unchanged c.index_mut.result.now c.commit.new.self c.index_mut.ensures.value c.commit.ensures.same ∙ c.self.invariant

pub returns-clause-same : goal.returns-clause-same
returns-clause-same c = written c.args.at c.place-i.result c.self.inside.items.items c.args.self.now c.self.view_is c.place-i.ensures unchanged c.index_mut.result.now c.commit.new.self c.index_mut.ensures.value c.commit.ensures.same

pub returns-clause-from : goal.returns-clause-from
returns-clause-from c =
    IfOk-weaker c.commit.result (λ plan. plan.from ≡ c.commit.new.self) (λ plan. at_domain c.args.at (set c.self.inside.items.items c.place-i.result c.commit.new.self) ≡ Some plan.from)
    (λ plan. written_there c.args.at c.place-i.result c.self.inside.items.items c.args.self.now c.self.view_is c.place-i.ensures unchanged c.index_mut.result.now c.commit.new.self c.index_mut.ensures.value c.commit.ensures.same plan.from) c.commit.ensures.from

pub returns-clause-taken : goal.returns-clause-taken
returns-clause-taken c =
    subst (λ (o : Option (Seen Pin Segment)). IfOk c.commit.result (λ plan. IfSome o (λ e. committed e c.args.solved c.args.now.0 ≡ Some plan.taken)))
    (sym (placed_there c.args.at c.place-i.result c.self.inside.items.items c.args.self.now c.self.view_is c.place-i.ensures c.index_mut.result.now c.index_mut.ensures.value)) c.commit.ensures.taken

pub returns-clause-back : goal.returns-clause-back
returns-clause-back c =
    subst (λ (o : Option (Seen Pin Segment)). IfErr c.commit.result (λ why. IfSome o (λ e. IsBack e c.args.solved why)))
    (sym (placed_there c.args.at c.place-i.result c.self.inside.items.items c.args.self.now c.self.view_is c.place-i.ensures c.index_mut.result.now c.index_mut.ensures.value))
    (both _ _ c.commit.result c.commit.ensures.why c.commit.ensures.back)
  where
    both : {A E : Type 0} (P Q : E → Type 0) (r : Result A E) → IfErr r P → IfErr r Q → IfErr r (λ why. P why × Q why)
    both P Q (Ok plan) p q = tt
    both P Q (Err why) p q = (p, q)
