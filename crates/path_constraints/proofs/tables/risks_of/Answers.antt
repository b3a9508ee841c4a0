use Rattle.std.proofs.Common.{◌≡◌, ◌∙◌, ◌+◌, ◌++◌, ◌∷◌, [], true, List, take, sym, ap, subst}
use Rattle.std.specs.Prelude.{◌↔◌}
use Rattle.std.specs.BTreeSet.{contains}
use Rattle.std.specs.Ordering.{nat_cmp}
use Rattle.std.proofs.lemmas.List.{take_more, take_all}
use Rattle.dom_base.specs.declared.query.Exclusion.{Exclusion}
use Rattle.path_constraints.specs.Tables.{NamesRisk, SomeDemands}
use Rattle.path_constraints.proofs.Demanded.{demands_more}
use Rattle.path_constraints.proofs.tables.risks_of.Goals as goal

pub loop-exclusion-preserved : goal.loop-exclusion-preserved
loop-exclusion-preserved c = λ a.
    let list = c.args.list.now in
    let i = c.loop-exclusion.exclusion-index in
    let row = c.exclusion-item.result in
    let more : take (i + 1) list ≡ take i list ++ row ∷ [] = take_more list i row c.loop-exclusion-test.true ∙ ap (λ (e : Exclusion). take i list ++ e ∷ []) (sym c.exclusion-item.is) in
    demands_more (NamesRisk a) (take i list) (take (i + 1) list) row (contains nat_cmp c.loop-exclusion.risks a ≡ true) (contains nat_cmp c.add_risk.new.risks a ≡ true) more (c.loop-exclusion.invariant a) (c.in_ok-add_risk.ensures a)

pub returns : goal.returns
returns c = λ a.
    subst (λ (xs : List Exclusion). (contains nat_cmp c.loop-exclusion.risks a ≡ true) ↔ SomeDemands (NamesRisk a) xs) (take_all c.loop-exclusion.exclusion-index c.args.list.now c.loop-exclusion-test.false) (c.loop-exclusion.invariant a)
