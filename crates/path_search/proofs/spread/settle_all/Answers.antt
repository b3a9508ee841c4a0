use Rattle.std.proofs.Common.{◌≡◌, ◌<◌, ℕ, List, length, true, slice_set, refl, sym, ◌∙◌, ap, subst, arith}
use Rattle.std.proofs.Math.ListN.{length-set}
use Rattle.std.proofs.lemmas.List.{length-map}
use Rattle.std.specs.declared.option.Option.{Option}
use Rattle.te_links.specs.Rows.{Rows}
use Rattle.path_search.specs.Front.{cost_of}
use Rattle.path_search.specs.Reading.{IsOpened, IsResting, SpreadsNode}
use Rattle.path_search.proofs.ReadLinks.{opened, rests_at_first, rests_over, few_reads, few_reached}
use Rattle.path_search.proofs.spread.settle_all.Goals as goal

pub loop-place-init : goal.loop-place-init
loop-place-init g c =
    let rows = g.G.Links.rows c.args.links.now in
    let q = c.args.query.now in
    let labels = c.args.labels.now in
    record {
      n = 0;
      rests = subst (λ (ws : List (Option ℕ)). IsResting rows q labels labels ws c.args.done.now 0) (sym c.requires.all_wait)
          (rests_at_first rows q labels c.args.done.now c.requires.within c.requires.none_done);
      few = omega arith;
      same = refl;
      long = refl;
      as_long = ap length c.requires.all_wait ∙ length-map labels cost_of;
      places = c.requires.places;
    }

pub loop-place-preserved : goal.loop-place-preserved
loop-place-preserved g c =
    let rows = g.G.Links.rows c.args.links.now in
    let q = c.args.query.now in
    let inv = c.loop-place.invariant in
    let v = c.in-Some.place in
    let found = c.in-Some.ensures in
    let after = slice_set c.loop-place.done v true in
    let room : v < length c.loop-place.done = omega (arith, found.0, inv.as_long, inv.places) in
    let o : IsOpened rows q c.args.labels.now c.loop-place.labels c.put.new.self after v inv.n =
    opened rows q c.args.labels.now c.loop-place.labels c.loop-place.waiting c.put.new.self c.loop-place.done after found.1.0 v inv.n
    inv.rests found.0 room found.1.1 c.put.ensures refl in
    let spreads : SpreadsNode rows q v c.loop-place.labels c.spread_node.new.labels c.put.new.self c.spread_node.new.waiting (g.G.Links.reads c.loop-place.links) (g.G.Links.reads c.spread_node.new.links) =
    subst (λ (h : Rows). SpreadsNode h q v c.loop-place.labels c.spread_node.new.labels c.put.new.self c.spread_node.new.waiting (g.G.Links.reads c.loop-place.links) (g.G.Links.reads c.spread_node.new.links))
    inv.same c.spread_node.ensures.spreads in
    let r = spreads c.args.labels.now after inv.n o in
    record {
      n = r.0;
      rests = r.1;
      few = omega (arith, r.3, inv.few);
      same = c.spread_node.ensures.same ∙ inv.same;
      long = c.spread_node.ensures.labels ∙ inv.long;
      as_long = r.1.front.as_long ∙ (c.spread_node.ensures.labels ∙ inv.long);
      places = (let same : length after ≡ length c.loop-place.done = simp length-set in same ∙ inv.places);
    }

pub returns-clause-labels : goal.returns-clause-labels
returns-clause-labels g c = λ seeds starts.
    let inv = c.loop-place.invariant in
    rests_over (g.G.Links.rows c.args.links.now) c.args.query.now seeds c.args.labels.now c.loop-place.labels c.loop-place.waiting c.loop-place.done inv.n
    c.requires.rules starts inv.rests c.in_default.ensures

pub returns-clause-reads : goal.returns-clause-reads
returns-clause-reads g c =
    let inv = c.loop-place.invariant in
    omega (arith, inv.few, few_reads (g.G.Links.rows c.args.links.now) c.args.query.now c.args.labels.now c.loop-place.labels c.loop-place.waiting c.loop-place.done inv.n inv.rests)

pub returns-clause-reached : goal.returns-clause-reached
returns-clause-reached g c = λ places whole.
    let inv = c.loop-place.invariant in
    omega (
      arith,
      inv.few,
      few_reached (g.G.Links.rows c.args.links.now) c.args.query.now c.args.labels.now c.loop-place.labels c.loop-place.waiting c.loop-place.done inv.n c.requires.rules inv.rests places whole,
    )
