use Rattle.std.proofs.Common.{◌≡◌, ◌+◌, ◌<◌, ◌≤◌, length, slice_index_or, refl, sym, ◌∙◌, subst, arith}
use Rattle.std.proofs.lemmas.List.{get_or_default}
use Rattle.te_links.specs.Rows.{Rows, IsTopology}
use Rattle.te_links.specs.Arrivals.{AreArrivals}
use Rattle.path_search.specs.Asked.{IsAsked}
use Rattle.path_search.specs.Reading.{SpreadsNode}
use Rattle.path_search.proofs.ReadLinks.{spread_first, spread_step, spread_last}
use Rattle.path_search.proofs.spread.spread_node.Goals as goal

pub loop-k-init : goal.loop-k-init
loop-k-init g c =
    let rows = g.G.Links.rows c.read_into-arrivals.new.self in
    let are : AreArrivals rows c.args.place c.read_into-arrivals.result =
    subst (λ (h : Rows). AreArrivals h c.args.place c.read_into-arrivals.result) (sym c.read_into-arrivals.ensures.same) c.read_into-arrivals.ensures.arrivals in
    record {
      way = λ start done n o. (
        n,
        (
          spread_first rows c.args.query.now start c.args.labels.now c.args.waiting.now done c.args.place c.read_into-arrivals.result.places n are.places o,
          omega arith,
        ),
      );
      long = refl;
      as_long = refl;
    }

pub spread_link-requires : goal.spread_link-requires
spread_link-requires g c κs =
    let same = sym c.read_into-arrivals.ensures.same in
    let inv = c.loop-k.invariant in (
      (refl, tt),
      (
        subst IsTopology same c.requires.rules,
        (
          subst (λ (h : Rows). IsAsked h c.args.query.now c.args.asked.now) same c.requires.asked,
          (
            subst (λ (h : Rows). AreArrivals h c.args.place c.read_into-arrivals.result) same c.read_into-arrivals.ensures.arrivals,
            (
              omega (arith, c.loop-k-test.true, c.len-k-end.ensures),
              (
                subst (λ (h : Rows). length c.loop-k.labels ≡ length h.nodes) same (inv.long ∙ c.requires.labels),
                inv.as_long ∙ (c.requires.as_long ∙ sym inv.long),
              ),
            ),
          ),
        ),
      ),
    )

pub loop-k-preserved : goal.loop-k-preserved
loop-k-preserved g c =
    let rows = g.G.Links.rows c.read_into-arrivals.new.self in
    let same = sym c.read_into-arrivals.ensures.same in
    let inv = c.loop-k.invariant in
    let q = c.args.query.now in
    let places = c.read_into-arrivals.result.places in
    let k = c.loop-k.k in
    let p = slice_index_or places k 0 in
    let old = c.loop-k.labels in
    let inside : k < length places = omega (arith, c.loop-k-test.true, c.len-k-end.ensures) in
    let are : AreArrivals rows c.args.place c.read_into-arrivals.result =
    subst (λ (h : Rows). AreArrivals h c.args.place c.read_into-arrivals.result) same c.read_into-arrivals.ensures.arrivals in
    let long : length old ≡ length rows.nodes = subst (λ (h : Rows). length old ≡ length h.nodes) same (inv.long ∙ c.requires.labels) in
    let asked : IsAsked rows q c.args.asked.now = subst (λ (h : Rows). IsAsked h q c.args.asked.now) same c.requires.asked in
    record {
      way = λ start done n o.
          let r = inv.way start done n o in (
            r.0 + 1,
            (
              spread_step rows q c.args.asked.now.barred.items start old c.spread_link.new.labels c.loop-k.waiting c.spread_link.new.waiting done c.args.place places k r.0 p
                  (subst IsTopology same c.requires.rules) asked.barred long are.places inside (get_or_default places k p 0 inside) r.1.0 c.spread_link.ensures.spreads,
              omega (arith, r.1.1),
            ),
          );
      long = c.spread_link.ensures.labels ∙ inv.long;
      as_long = c.spread_link.ensures.waiting ∙ inv.as_long;
    }

pub returns-clause-spreads : goal.returns-clause-spreads
returns-clause-spreads g c =
    let rows = g.G.Links.rows c.read_into-arrivals.new.self in
    let read = c.read_into-arrivals.ensures in
    let places = c.read_into-arrivals.result.places in
    let are : AreArrivals rows c.args.place c.read_into-arrivals.result =
    subst (λ (h : Rows). AreArrivals h c.args.place c.read_into-arrivals.result) (sym read.same) read.arrivals in
    let past : length places ≤ c.loop-k.k = omega (arith, c.loop-k-test.false, c.len-k-end.ensures) in
    let here : SpreadsNode rows c.args.query.now c.args.place c.args.labels.now c.loop-k.labels c.args.waiting.now c.loop-k.waiting (g.G.Links.reads c.args.links.now) (g.G.Links.reads c.read_into-arrivals.new.self) =
    λ start done n o.
    let r = c.loop-k.invariant.way start done n o in
    let last = spread_last rows c.args.query.now start c.loop-k.labels c.loop-k.waiting done c.args.place places c.loop-k.k r.0 are.places past r.1.0 in
    (r.0, last.0, last.1, omega (arith, r.1.1, past, read.counted)) in
    subst
    (λ (h : Rows). SpreadsNode h c.args.query.now c.args.place c.args.labels.now c.loop-k.labels c.args.waiting.now c.loop-k.waiting (g.G.Links.reads c.args.links.now) (g.G.Links.reads c.read_into-arrivals.new.self))
    read.same here
