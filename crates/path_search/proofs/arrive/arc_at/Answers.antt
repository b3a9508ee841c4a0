use Rattle.std.proofs.Common.{◌≡◌, ◌∙◌, get_or, sym, ap, subst, Some}
use Rattle.std.proofs.lemmas.Option.{get_or_from_slice_get}
use Rattle.dom_base.specs.declared.link.Link.{Link}
use Rattle.te_links.specs.Arrivals.{IsArcOf}
use Rattle.path_search.proofs.arrive.arc_at.Goals as goal

pub returns : goal.returns
returns g c =
    let rows = g.G.Links.rows c.args._links.now in
    let a = c.args.arrivals.now in
    let k = c.args.k in
    let p = get_or a.places k 0 in
    let read = c.arc-read.result in
    let read_is : get_or a.arcs k read ≡ read = get_or_from_slice_get a.arcs k read read c.arc-read.ensures in
    let of = subst (λ x. IsArcOf rows.nodes rows.links x p) read_is (c.requires.arrivals.arcs.at_place k 0 read c.requires.inside) in
    let ends = c.requires.arrivals.places.ends k 0 c.requires.inside in
    let both : Some ends.link ≡ Some of.link = sym ends.at_link ∙ of.at_link in
    let same : ends.link ≡ of.link = cc in
    record {
      same_index = sym (get_or_from_slice_get a.places k c.place.result 0 c.place.ensures);
      link = of.link;
      at_link = of.at_link;
      tail = of.tail;
      head = ends.at_node ∙ ap (λ (l : Link). Some l.to) same;
      weight = c.weight_of.ensures of.link of.igp of.te;
    }
