use Rattle.std.proofs.Common.{◌≡◌, ◌<◌, ◌≤◌, ◌+◌, ℕ, List, Bool, length, map, true, false, slice_set, refl, sym, ◌∙◌, ap, subst, arith, inl, inr, Some, None}
use Rattle.std.specs.Prelude.{All, Contains, IfSome}
use Rattle.std.proofs.Math.ListN.{length-set}
use Rattle.std.proofs.lemmas.List.{length-map}
use Rattle.std.proofs.lemmas.List.Elements.{All-contains}
use Rattle.std.specs.declared.option.Option.{Option}
use Rattle.dom_base.specs.declared.query.Query.{Query}
use Rattle.dom_base.specs.declared.query.Label.{Label}
use Rattle.te_links.specs.Rows.{Rows}
use Rattle.walk_laws.specs.Capped.{cut}
use Rattle.path_search.specs.Arcs.{label_at}
use Rattle.path_search.specs.Early.{IsReached, StopsAt}
use Rattle.path_search.specs.Front.{cost_of, cost_at, is_done}
use Rattle.path_search.specs.Reading.{IsOpened, IsResting, SpreadsNode}
use Rattle.path_search.proofs.EarlyStop.{into, stopped}
use Rattle.path_search.proofs.ReadLinks.{opened, rests_at_first, rests_over, few_reads, few_reached, few_shown}
use Rattle.path_search.proofs.stopping.settle_to.Goals as goal

pub loop-place-init : goal.loop-place-init
loop-place-init g c =
    let rows = g.G.Links.rows c.args.links.now in
    let q = c.args.query.now in
    let labels = c.args.labels.now in
    record {
      n = 0;
      rests = subst (λ (ws : List (Option ℕ)). IsResting rows q labels labels ws c.args.done.now 0) (sym c.requires.all_wait)
          (rests_at_first rows q labels c.args.done.now c.requires.within c.requires.none_done);
      last = tt;
      few = omega arith;
      same = refl;
      long = refl;
      as_long = ap length c.requires.all_wait ∙ length-map labels cost_of;
      places = c.requires.places;
    }

pub loop-place-preserved : goal.loop-place-preserved
loop-place-preserved g c =
    let rows = g.G.Links.rows c.args.links.now in
    let q = c.args.query.now in
    let inv = c.loop-place.invariant in
    let v = c.in-Some.place in
    let found = c.in-Some.ensures in
    let after = slice_set c.loop-place.done v true in
    let room : v < length c.loop-place.done = omega (arith, found.0, inv.as_long, inv.places) in
    let o : IsOpened rows q c.args.labels.now c.loop-place.labels c.put.new.self after v inv.n =
    opened rows q c.args.labels.now c.loop-place.labels c.loop-place.waiting c.put.new.self c.loop-place.done after found.1.0 v inv.n
    inv.rests found.0 room found.1.1 c.put.ensures refl in
    let spreads : SpreadsNode rows q v c.loop-place.labels c.spread_node.new.labels c.put.new.self c.spread_node.new.waiting (g.G.Links.reads c.loop-place.links) (g.G.Links.reads c.spread_node.new.links) =
    subst (λ (h : Rows). SpreadsNode h q v c.loop-place.labels c.spread_node.new.labels c.put.new.self c.spread_node.new.waiting (g.G.Links.reads c.loop-place.links) (g.G.Links.reads c.spread_node.new.links))
    inv.same c.spread_node.ensures.spreads in
    let r = spreads c.args.labels.now after inv.n o in
    record {
      n = r.0;
      rests = r.1;
      last = subst (λ (s : Option ℕ). IfSome s (λ n. r.1.last.cost ≡ n)) (sym (c.cost_at-settled.ensures ∙ ap cost_of r.2)) refl;
      few = omega (arith, r.3, inv.few);
      same = c.spread_node.ensures.same ∙ inv.same;
      long = c.spread_node.ensures.labels ∙ inv.long;
      as_long = r.1.front.as_long ∙ (c.spread_node.ensures.labels ∙ inv.long);
      places = (let same : length after ≡ length c.loop-place.done = simp length-set in same ∙ inv.places);
    }

-- what waits at a place is what the label there costs
same_cost : (g : Rows) (q : Query) (start labels : List (Option Label)) (waiting : List (Option ℕ)) (done : List Bool) (reads i n m : ℕ) → IsResting g q start labels waiting done reads →
    cost_at waiting i ≡ Some n → cost_of (label_at labels i) ≡ Some m → n ≡ m
same_cost g q start labels waiting done reads i n m rest waits costs = go (is_done done i) refl
  where
    go : (t : Bool) → is_done done i ≡ t → n ≡ m
    go true at = let bad : Some n ≡ None = sym waits ∙ rest.front.apart i at in cc
    go false at = let one : Some n ≡ Some m = sym waits ∙ (rest.front.waits i at ∙ costs) in cc

-- what waits is within the cap
waits_within : (g : Rows) (q : Query) (start labels : List (Option Label)) (waiting : List (Option ℕ)) (done : List Bool) (reads i m : ℕ) → IsResting g q start labels waiting done reads →
    cost_of (label_at labels i) ≡ Some m → m ≤ q.cap
waits_within g q start labels waiting done reads i m rest costs = go (label_at labels i) refl costs
  where
    go : (o : Option Label) → label_at labels i ≡ o → cost_of o ≡ Some m → m ≤ q.cap
    go None at is = let bad : None ≡ Some m = is in cc
    go (Some b) at is = let one : b.cost ≡ m = cc in omega (arith, one, (rest.front.supported i b at).within)

-- a label that is reached stays when dearer ones go
stands : (c : ℕ) (labels : List (Option Label)) (i : ℕ) → IsReached c (label_at labels i) → (a : Label) × (label_at (map (cut c) labels) i ≡ Some a)
stands c labels i has = go (label_at labels i) refl has
  where
    go : (o : Option Label) → label_at labels i ≡ o → IsReached c o → (a : Label) × (label_at (map (cut c) labels) i ≡ Some a)
    go None at has = absurd has
    go (Some a) at has = (a, into c labels i a at has)

pub returns-in-Some-reach_at-clause-labels : goal.returns-in-Some-reach_at-clause-labels
returns-in-Some-reach_at-clause-labels g c = λ seeds starts.
    let rows = g.G.Links.rows c.args.links.now in
    let q = c.args.query.now in
    let inv = c.loop-place.invariant in
    let labels = c.loop-place.labels in
    let found = c.in-Some.ensures in
    let reach = c.in-Some-reach_at.reach in
    let stop = c.in-Some-reach_at.ensures in
    let same = same_cost rows q c.args.labels.now labels c.loop-place.waiting c.loop-place.done inv.n c.in-Some.place found.1.0 (reach + 1) inv.rests found.1.1.at stop.between.is_least in
    let most = waits_within rows q c.args.labels.now labels c.loop-place.waiting c.loop-place.done inv.n c.in-Some.place (reach + 1) inv.rests stop.between.is_least in
    let lower : reach ≤ q.cap = omega (arith, most) in
    rw c.cut.ensures
    (record {
      within = lower;
      are_labels = stopped rows q seeds c.args.labels.now labels c.loop-place.waiting c.loop-place.done inv.n reach c.requires.rules starts lower inv.rests
          (λ i m at. omega (arith, found.1.1.least i m at, same));
      reached = λ i is_stop. inl (stands reach labels i (All-contains (λ k. IsReached reach (label_at labels k)) c.args.stops.now i stop.reached is_stop));
    })

pub returns-in-Some-reach_at-clause-long : goal.returns-in-Some-reach_at-clause-long
returns-in-Some-reach_at-clause-long g c =
    ap (λ (ls : List (Option Label)). length ls) c.cut.ensures ∙ length-map c.loop-place.labels (cut c.in-Some-reach_at.reach) ∙ c.loop-place.invariant.long

pub returns-in-Some-reach_at-clause-reads : goal.returns-in-Some-reach_at-clause-reads
returns-in-Some-reach_at-clause-reads g c =
    let inv = c.loop-place.invariant in
    omega (arith, inv.few, few_reads (g.G.Links.rows c.args.links.now) c.args.query.now c.args.labels.now c.loop-place.labels c.loop-place.waiting c.loop-place.done inv.n inv.rests)

pub returns-in-Some-reach_at-clause-reached : goal.returns-in-Some-reach_at-clause-reached
returns-in-Some-reach_at-clause-reached g c = λ places whole.
    let inv = c.loop-place.invariant in
    let labels = c.loop-place.labels in
    let reach = c.in-Some-reach_at.reach in
    let between = c.in-Some-reach_at.ensures.between in
    let known : inv.rests.last.cost ≡ between.last = subst (λ (s : Option ℕ). IfSome s (λ n. inv.rests.last.cost ≡ n)) between.is_last inv.last in
    omega (
      arith,
      inv.few,
      few_shown (g.G.Links.rows c.args.links.now) c.args.query.now c.args.labels.now labels c.cut.new.self c.loop-place.waiting c.loop-place.done inv.n c.requires.rules inv.rests
          (λ i b is below. subst (λ (ls : List (Option Label)). label_at ls i ≡ Some b) (sym c.cut.ensures) (into reach labels i b is (omega (arith, below, known, between.no_less))))
          places whole,
    )

pub returns-clause-labels : goal.returns-clause-labels
returns-clause-labels g c = λ seeds starts.
    let inv = c.loop-place.invariant in
    record {
      within = omega arith;
      are_labels = rests_over (g.G.Links.rows c.args.links.now) c.args.query.now seeds c.args.labels.now c.loop-place.labels c.loop-place.waiting c.loop-place.done inv.n
          c.requires.rules starts inv.rests c.in_default.ensures;
      reached = λ i is_stop. inr refl;
    }

pub returns-clause-reads : goal.returns-clause-reads
returns-clause-reads g c =
    let inv = c.loop-place.invariant in
    omega (arith, inv.few, few_reads (g.G.Links.rows c.args.links.now) c.args.query.now c.args.labels.now c.loop-place.labels c.loop-place.waiting c.loop-place.done inv.n inv.rests)

pub returns-clause-reached : goal.returns-clause-reached
returns-clause-reached g c = λ places whole.
    let inv = c.loop-place.invariant in
    omega (
      arith,
      inv.few,
      few_reached (g.G.Links.rows c.args.links.now) c.args.query.now c.args.labels.now c.loop-place.labels c.loop-place.waiting c.loop-place.done inv.n c.requires.rules inv.rests places whole,
    )
