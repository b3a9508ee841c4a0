use Rattle.std.proofs.Common.{◌≡◌, ◌∙◌, ◌≤◌, Option, Some, arith, set, sym, subst}
use Rattle.std.specs.Prelude.{IfOk, IfSome, MatchOption}
use Rattle.std.proofs.lemmas.Option.{IfSome_then}
use Rattle.std.proofs.lemmas.Result.{IfOk-weaker}
use Rattle.pce_common.specs.plant_model.Blind.{Nothing}
use Rattle.pce_element.specs.Blind.{HasNoJob, IsSolvedBy}
use Rattle.pce_element.specs.Seen.{Seen}
use Rattle.network_members.specs.Becoming.{unchanged}
use Rattle.network_members.specs.Elements.{at_domain}
use Rattle.network_members.proofs.BecomingLemmas.{owns_written, placed_there, placed_within, written, written_there}
use Rattle.network_members.proofs.blind.Elements+Blind.solve.Goals as goal

pub index_mut-requires : goal.index_mut-requires
index_mut-requires c = omega (arith, c.self.inside.items.ok.0, placed_within c.args.at c.place-i.result c.self.inside.items.items c.args.self.now c.self.view_is c.place-i.ensures)

pub solve-requires-clause-clock : goal.solve-requires-clause-clock
solve-requires-clause-clock c =
    subst (λ (o : Option (Seen Nothing Nothing)). IfSome o (λ e. e.losing.element.keys.clock ≤ c.args.now.0))
    (placed_there c.args.at c.place-i.result c.self.inside.items.items c.args.self.now c.self.view_is c.place-i.ensures c.index_mut.result.now c.index_mut.ensures.value) c.requires.clock

pub invariant_of-self : goal.invariant_of-self
invariant_of-self c = owns_written c.args.at c.place-i.result c.self.inside.items.items c.args.self.now c.self.view_is c.place-i.ensures unchanged c.index_mut.result.now c.solve.new.self c.index_mut.ensures.value c.solve.ensures.same ∙ c.self.invariant

pub returns-clause-same : goal.returns-clause-same
returns-clause-same c = written c.args.at c.place-i.result c.self.inside.items.items c.args.self.now c.self.view_is c.place-i.ensures unchanged c.index_mut.result.now c.solve.new.self c.index_mut.ensures.value c.solve.ensures.same

pub returns-clause-from : goal.returns-clause-from
returns-clause-from c =
    IfOk-weaker c.solve.result (λ plan. IfSome plan (λ p. p.from ≡ c.solve.new.self)) (λ plan. IfSome plan (λ p. at_domain c.args.at (set c.self.inside.items.items c.place-i.result c.solve.new.self) ≡ Some p.from))
    (λ plan are. IfSome_then plan are (λ p. written_there c.args.at c.place-i.result c.self.inside.items.items c.args.self.now c.self.view_is c.place-i.ensures unchanged c.index_mut.result.now c.solve.new.self c.index_mut.ensures.value c.solve.ensures.same p.from)) c.solve.ensures.from

pub returns-clause-taken : goal.returns-clause-taken
returns-clause-taken c =
    subst (λ (o : Option (Seen Nothing Nothing)). IfOk c.solve.result (λ plan. IfSome o (λ e. MatchOption plan (HasNoJob e c.args.number) (λ p. IsSolvedBy e c.args.number c.args.rows.now c.args.now.0 p.taken))))
    (sym (placed_there c.args.at c.place-i.result c.self.inside.items.items c.args.self.now c.self.view_is c.place-i.ensures c.index_mut.result.now c.index_mut.ensures.value)) c.solve.ensures.taken
