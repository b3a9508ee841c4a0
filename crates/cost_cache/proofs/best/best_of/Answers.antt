use Rattle.std.proofs.Common.{◌≡◌, None, Some, arith, refl, sym}
use Rattle.std.proofs.lemmas.Option.{slice_get_within}
use Rattle.path_search.specs.Arcs.{label_at}
use Rattle.walk_laws.specs.Borders.{AreBorderSeeds}
use Rattle.border_costs.specs.Asks.{beyond}
use Rattle.border_costs.specs.Solutions.{IsHead}
use Rattle.border_costs.proofs.Pairs.{no_node, pair_of, label_is, head_is}
use Rattle.cost_cache.specs.Shown.{HasShown}
use Rattle.cost_cache.proofs.Answering.{best_kept}
use Rattle.cost_cache.proofs.best.best_of.Goals as goal
use Rattle.cost_cache.proofs.best.best_of.Goals.{in-Node, in-Next}

pub returns-in_default : goal.returns-in_default
returns-in_default g c = λ seeds seeded are. no_node (g.G.Links.rows c.args.links.now) c.args.ask.now seeds seeded c.args.entry c.in_default.ensures

pub at-requires : goal.at-requires
at-requires g c =
    omega (arith, slice_get_within (g.G.Links.rows c.args.links.now).nodes c.in-Some.from c.args.entry c.in-Some.ensures, c.requires.kept.are_kept.labels.same_length)

pub returns-in_default-at : goal.returns-in_default-at
returns-in_default-at g c = λ seeds seeded are.
    let rows = g.G.Links.rows c.args.links.now in
    let labels = c.args.kept.now.labels in
    let none : label_at labels c.in-Some.from ≡ None = sym c.in_default-at.ensures in
    pair_of rows c.args.ask.now seeds seeded c.args.entry None (label_is rows c.args.ask.now.query seeds labels c.in-Some.from c.args.entry None are.labels c.in-Some.ensures none)

pub returns : goal.returns
returns g c = λ seeds seeded are.
    let rows = g.G.Links.rows c.args.links.now in
    let ask = c.args.ask.now in
    let a = c.in-Some-at.label in
    let labels = c.args.kept.now.labels in
    let at_label : label_at labels c.in-Some.from ≡ Some a = sym c.in-Some-at.ensures in
    let has : HasShown rows ask.query seeds c.args.entry a c.in_ok-shown.shown.items = c.in_ok-shown.ensures seeds a are at_label in
    let head : IsHead rows ask.query ask.down ask.target a.exit c.match-ask.head =
    elim c.match-ask.branch [
      | in-Node w ↦ rw (w.in-Node.is, w.head-is) refl
      | in-Next w ↦
          let b = w.in-Next._next in
          let seeded_to : AreBorderSeeds rows ask.query b (beyond ask.down) seeds = rw w.in-Next.is at seeded.are in
          rw (w.in-Next.is, w.head-is)
          (head_is rows ask.query b ask.down seeds seeded_to w.head_of-head.ensures.order c.args.entry a
          (label_is rows ask.query seeds labels c.in-Some.from c.args.entry (Some a) are.labels c.in-Some.ensures at_label) w.head_of-head.result w.head_of-head.ensures.head)
    ] in
    rw c.from_vec.ensures
    (best_kept rows ask seeds c.args.kept.now c.in-Some.from c.args.entry a c.in_ok-shown.shown.items c.match-ask.head seeded are c.in-Some.ensures at_label has head)
