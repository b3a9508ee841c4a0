use Rattle.std.proofs.Common.{◌≡◌, Some, refl, sym, subst, ◌∙◌, false, true, rules}
use Rattle.dom_base.specs.declared.addr.Addr.{Addr}
use Rattle.dom_base.specs.declared.query.Label.{Label}
use Rattle.walk_laws.specs.Labels.{EndsAt}
use Rattle.path_search.specs.Segments.{AreOpen}
use Rattle.path_search.proofs.Choosing.{are_open}
use Rattle.cost_cache.specs.Hops.{is_end, IsFirstNext}
use Rattle.cost_cache.proofs.Hopping.{next_is}
use Rattle.cost_cache.proofs.nexts.next_of.Goals as goal

pub first_next-requires : goal.first_next-requires
first_next-requires g c κs =
    let rows = g.G.Links.rows c.args.links.now in
    let opened : AreOpen rows c.args.prepared.now c.args.labels.now = are_open rows c.args.prepared.now c.args._seeds.now c.args.labels.now c.requires.labels in (
      (refl, tt),
      (opened, (opened.admitted c.args.place c.node_at-node.result c.in-Some.label c.node_at-node.ensures (sym c.in-Some.ensures), c.node_at-node.ensures)),
    )

pub returns-clause-next : goal.returns-clause-next
returns-clause-next g c = λ n a at_n at_a.
    let rows = g.G.Links.rows c.args.links.now in
    let q = c.args.prepared.now in
    let seeds = c.args._seeds.now in
    let labels = c.args.labels.now in
    let node = c.node_at-node.result in
    let label = c.in-Some.label in
    let nodes : Some node ≡ Some n = sym c.node_at-node.ensures ∙ at_n in
    let node_is : node ≡ n = cc in
    let both : Some label ≡ Some a = c.in-Some.ensures ∙ at_a in
    let label_is : label ≡ a = cc in
    let open' : is_end c.args.ends.now c.args.place ≡ false = search rules in
    let goes : ¬ EndsAt seeds n a = λ ends.
    let bad : false ≡ true = sym open' ∙ (c.requires.ends.each c.args.place n a at_n at_a).1 ends in cc in
    let first : IsFirstNext rows q labels n a c.first_next.result =
    subst (λ (b : Label). IsFirstNext rows q labels n b c.first_next.result) label_is (subst (λ (m : Addr). IsFirstNext rows q labels m label c.first_next.result) node_is c.first_next.ensures.next) in
    next_is rows q seeds labels c.first_next.ensures.order c.requires.labels c.args.place n a at_n at_a goes c.first_next.result first
