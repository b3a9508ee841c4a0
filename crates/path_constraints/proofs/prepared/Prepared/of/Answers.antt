use Rattle.std.proofs.Common.{◌≡◌, true, List, subst}
use Rattle.std.specs.Prelude.{◌↔◌}
use Rattle.std.specs.BTreeSet.{contains}
use Rattle.std.specs.Ordering.{nat_cmp}
use Rattle.dom_base.specs.declared.query.Exclusion.{Exclusion}
use Rattle.path_constraints.specs.Spans.{Covers}
use Rattle.path_constraints.specs.Tables.{NamesAddr, NamesRisk, NamesDomain, SomeDemands}
use Rattle.path_constraints.proofs.prepared.Prepared.of.Goals as goal

pub invariant_of-result : goal.invariant_of-result
invariant_of-result c =
    let is : c.as_slice-list.result.now ≡ c.args.query.now.exclusions = c.as_slice-list.ensures in
    record {
      links_rise = c.in_ok-links.ensures.rising;
      nodes_rise = c.in_ok-nodes.ensures.rising;
      of_links = λ a. subst (λ (xs : List Exclusion). Covers c.in_ok-links.links.items a ↔ SomeDemands (NamesAddr 0 a) xs) is (c.in_ok-links.ensures.covers a);
      of_nodes = λ a. subst (λ (xs : List Exclusion). Covers c.in_ok-nodes.nodes.items a ↔ SomeDemands (NamesAddr 1 a) xs) is (c.in_ok-nodes.ensures.covers a);
      of_risks = λ n. subst (λ (xs : List Exclusion). (contains nat_cmp c.in_ok-risks.risks n ≡ true) ↔ SomeDemands (NamesRisk n) xs) is (c.in_ok-risks.ensures n);
      of_domain = subst (λ (xs : List Exclusion). (c.excludes_domain-domain.result ≡ true) ↔ SomeDemands (NamesDomain c.args.query.now.own) xs) is c.excludes_domain-domain.ensures;
    }
