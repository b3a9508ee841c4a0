use Rattle.std.proofs.Common.{◌≡◌, Some, None, refl, ap, sym, subst, ◌∙◌, arith, rules, ℕ, false, true, nat_eq, inl, inr}
use Rattle.std.specs.Prelude.{slice_get}
use Rattle.std.proofs.lemmas.Bool.Decides.{eqb_tells}
use Rattle.dom_base.specs.AddrOrder.{rank}
use Rattle.dom_base.proofs.Ranks.{same_addr}
use Rattle.dom_base.specs.Admission.{Allows, weight}
use Rattle.dom_base.specs.declared.link.Link.{Link}
use Rattle.dom_base.specs.declared.query.Label.{Label}
use Rattle.dom_base.specs.declared.query.Query.{Query}
use Rattle.te_links.specs.Rows.{IsInnerLink}
use Rattle.std.proofs.lemmas.List.Elements.{All-contains}
use Rattle.path_search.specs.Segments.{IsTightAt}
use Rattle.path_search.proofs.Places.{contains_at}
use Rattle.path_search.proofs.Certified.{weight_bounds}
use Rattle.path_search.proofs.Choosing.{not_made, link_admitted}
use Rattle.cost_cache.proofs.nexts.tight_next.Goals as goal
use Rattle.cost_cache.proofs.nexts.tight_next.Goals.{else-part-whole-via-then-part-whole+then-eq+then-whole-part+else-allows, else-part-whole-via-then-part-whole+then-eq+else-whole-part, else-part-whole-via-then-part-whole+else-eq, else-part-whole-via-else-part-whole}

differ : (x y : ℕ) → false ≡ nat_eq x y → x ≡ y → ⊥
differ x y unequal is = elim (eqb_tells x y) [ inl t ↦ cc | inr f ↦ f.1 is ]

pub returns-in_default-clause-next : goal.returns-in_default-clause-next
returns-in_default-clause-next g c =
    let rows = g.G.Links.rows c.args.links.now in
    let read = c.link_with_head-head in
    let l = read.result.0.now in
    let at_head : slice_get rows.nodes read.result.1 ≡ Some l.to = read.ensures.head in
    not_made rows c.args.prepared.now c.args.labels.now c.args._node c.args.label.now c.args.index read.result.1 l
    c.requires.rules read.ensures.link at_head
    (λ rest is sum exit. let none : None ≡ Some rest = c.in_default.ensures ∙ is in cc)

pub returns-then-allows-clause-next : goal.returns-then-allows-clause-next
returns-then-allows-clause-next g c =
    let rows = g.G.Links.rows c.args.links.now in
    let q = c.args.prepared.now in
    let read = c.link_with_head-head in
    let l = read.result.0.now in
    let rest = c.in-Some.rest in
    let a = c.args.label.now in
    let n = c.args._node in
    let begins = c.requires.begins in
    let allowed : Allows q l = c.if-allows.ensures.0 refl in
    let weighs : weight c.query-query.result.now.metric l ≡ weight q.metric l = ap (λ (r : Query). weight r.metric l) c.query-query.ensures in
    let exits : rank rest.exit ≡ rank a.exit = search rules in
    let links : Some l ≡ Some begins.link = sym read.ensures.link ∙ begins.at_link in
    let same : l ≡ begins.link = cc in
    let nodes : Some begins.link.from ≡ Some n = sym begins.at_node ∙ c.requires.place in
    let node : begins.link.from ≡ n = cc in
    let from : l.from ≡ n = ap (λ (k : Link). k.from) same ∙ node in
    let at_head : slice_get rows.nodes read.result.1 ≡ Some l.to = read.ensures.head in
    let tight : IsTightAt rows q c.args.labels.now n a c.args.index (record { link = c.args.index; head = read.result.1; rest = rest }) = record {
      same_index = refl;
      link = l;
      at_link = read.ensures.link;
      makes = record {
        from = from;
        admitted = link_admitted rows q l c.args.index read.ensures.link allowed
            (rw from c.requires.node)
            (c.requires.labels.admitted read.result.1 l.to rest at_head (sym c.in-Some.ensures));
        at_head = at_head;
        label = sym c.in-Some.ensures;
        sum = omega (arith, weighs, c.weight.ensures, c.get-whole.ensures.number, c.get-part.ensures.number, c.if-part-whole.true, c.if-whole-part.true);
        exit = same_addr a.exit rest.exit (sym exits);
      };
    } in
    record {
      step = record { link = c.args.index; head = read.result.1; rest = rest };
      tight = tight;
      leads = record { far = refl; end = at_head };
    }

pub returns-else-part-whole-clause-next : goal.returns-else-part-whole-clause-next
returns-else-part-whole-clause-next g c =
    let rows = g.G.Links.rows c.args.links.now in
    let q = c.args.prepared.now in
    let read = c.link_with_head-head in
    let l = read.result.0.now in
    let a = c.args.label.now in
    let at_head : slice_get rows.nodes read.result.1 ≡ Some l.to = read.ensures.head in
    λ m place rest at_link makes.
    let links : Some l ≡ Some m = sym read.ensures.link ∙ at_link in
    let link : l ≡ m = cc in
    let weighs : weight c.query-query.result.now.metric l ≡ weight q.metric l = ap (λ (r : Query). weight r.metric l) c.query-query.ensures in
    let allowed : Allows q l = subst (λ (k : Link). Allows q k) (sym link) makes.admitted.allowed in
    not_made rows q c.args.labels.now c.args._node a c.args.index read.result.1 l c.requires.rules read.ensures.link at_head
    (λ other is sum exit.
    let both : Some c.in-Some.rest ≡ Some other = c.in-Some.ensures ∙ is in
    let same : c.in-Some.rest ≡ other = cc in
    let costs : c.in-Some.rest.cost ≡ other.cost = ap (λ (b : Label). b.cost) same in
    let exits : c.in-Some.rest.exit ≡ other.exit = ap (λ (b : Label). b.exit) same in
    let bounds = weight_bounds rows.nodes q.metric l (All-contains (IsInnerLink rows.nodes) rows.links l c.requires.rules.links (contains_at rows.links c.args.index l read.ensures.link)) in
    elim c.else-part-whole.branch [
      | else-part-whole-via-then-part-whole+then-eq+then-whole-part+else-allows w ↦ let bad : false ≡ true = w.if-allows.ensures.1 allowed in cc
      | else-part-whole-via-then-part-whole+then-eq+else-whole-part w ↦ omega (arith, weighs, costs, sum, w.weight.ensures, c.get-whole.ensures.number, c.get-part.ensures.number, w.if-part-whole.true, w.if-whole-part.false)
      | else-part-whole-via-then-part-whole+else-eq w ↦ differ (rank c.in-Some.rest.exit) (rank a.exit) w.if-eq.ensures (ap rank (exits ∙ sym exit))
      | else-part-whole-via-else-part-whole w ↦ omega (arith, costs, sum, bounds.0, c.get-whole.ensures.number, c.get-part.ensures.number, w.if-part-whole.false)
    ])
    m place rest at_link makes
