use Rattle.std.proofs.Common.{◌≡◌, ◌∙◌, ap, sym, arith}
use Rattle.std.proofs.lemmas.List.Elements.{All-contains}
use Rattle.std.proofs.lemmas.Option.{slice_get_within}
use Rattle.dom_base.specs.declared.link.Link.{Link}
use Rattle.dom_base.specs.Admission.{weight}
use Rattle.te_links.specs.Rows.{IsInnerLink}
use Rattle.path_search.proofs.Places.{place_of, contains_at}
use Rattle.path_search.proofs.Certified.{weight_bounds}
use Rattle.path_certificate.proofs.Leading.{same_link}
use Rattle.diverse_pairs.proofs.Linked.{one_link}
use Rattle.diverse_pairs.proofs.costs.weight_at.Goals as goal

pub returns-in_default-clause-weight : goal.returns-in_default-clause-weight
returns-in_default-clause-weight c = λ l has is.
    let at = place_of c.args.topology.now.links l has in
    absurd (c.in_default.ensures at.0 (record { link = l; at_link = at.1; same_far = is }))

pub link_at-link-requires : goal.link_at-link-requires
link_at-link-requires c = slice_get_within c.args.topology.now.links c.in-Some.index c.in-Some.ensures.link c.in-Some.ensures.at_link

pub returns-clause-bound : goal.returns-clause-bound
returns-clause-bound c =
    let g = c.args.topology.now in
    let l = c.link_at-link.result.now in
    let bounds = weight_bounds g.nodes c.args.query.now.metric l (All-contains (IsInnerLink g.nodes) g.links l c.requires.rules.links (contains_at g.links c.in-Some.index l c.link_at-link.ensures)) in
    omega (arith, c.weight.ensures, bounds.1)

pub returns-clause-weight : goal.returns-clause-weight
returns-clause-weight c = λ l has is.
    let g = c.args.topology.now in
    let m = c.link_at-link.result.now in
    let here : c.in-Some.ensures.link ≡ m = one_link g.links c.in-Some.index c.in-Some.ensures.link m c.in-Some.ensures.at_link c.link_at-link.ensures in
    let fars : m.far ≡ l.far = ap (λ (k : Link). k.far) (sym here) ∙ c.in-Some.ensures.same_far ∙ sym is in
    let same : m ≡ l = same_link g m l c.requires.order (contains_at g.links c.in-Some.index m c.link_at-link.ensures) has fars in
    c.weight.ensures ∙ ap (weight c.args.query.now.metric) same
