use Rattle.std.proofs.Common.{◌≡◌, ◌∷◌, List, Some, None, refl, sym, subst}
use Rattle.std.proofs.lemmas.Option.{slice_get_within}
use Rattle.dom_base.specs.declared.link.Link.{Link}
use Rattle.walk_laws.specs.Labels.{IsLabel}
use Rattle.path_search.specs.Arcs.{label_at}
use Rattle.path_search.specs.Segments.{HasSegment, AreAt}
use Rattle.std.specs.Prelude.{MatchOption}
use Rattle.te_links.specs.Rows.{IsInOrder}
use Rattle.walk_laws.specs.Borders.{AreBorderSeeds}
use Rattle.border_costs.specs.Asks.{beyond}
use Rattle.border_costs.specs.Solutions.{IsHead, IsHeadOf, HasNoOut}
use Rattle.path_search.proofs.OpenForm.{fars, in_range}
use Rattle.border_costs.proofs.Pairs.{no_node, pair_of, head_is, best_is}
use Rattle.border_costs.proofs.best.best_of.Goals as goal
use Rattle.border_costs.proofs.best.best_of.Goals.{in-Node, in-Next}

pub returns-in_default-clause-best : goal.returns-in_default-clause-best
returns-in_default-clause-best g c = no_node (g.G.Links.rows c.args.links.now) c.args.ask.now c.args.seeds.now c.requires.seeds c.args.entry c.in_default.ensures

pub segment_to-requires : goal.segment_to-requires
segment_to-requires g c κs = (
  (refl, tt),
  (c.requires.labels.within, (c.requires.labels.are_labels, slice_get_within (g.G.Links.rows c.args.links.now).nodes c.in-Some.from c.args.entry c.in-Some.ensures)),
)

pub returns-in_default-2-clause-best : goal.returns-in_default-2-clause-best
returns-in_default-2-clause-best g c =
    let rows = g.G.Links.rows c.args.links.now in
    let none : label_at c.args.found.now.labels c.in-Some.from ≡ None = rw c.in_default-2.is at c.in_ok-places.ensures.segment in
    pair_of rows c.args.ask.now c.args.seeds.now c.requires.seeds c.args.entry None
    (subst (IsLabel rows c.args.ask.now.query c.args.seeds.now c.args.entry) none (c.requires.labels.entries c.in-Some.from c.args.entry c.requires.entry c.in-Some.ensures))

pub open_segment-requires : goal.open_segment-requires
open_segment-requires g c κs =
    let rows = g.G.Links.rows c.args.links.now in
    let places = c.in-Some-2.places in
    let has : HasSegment rows c.args.ask.now.query c.args.seeds.now c.args.found.now.labels c.in-Some.from places = rw c.in-Some-2.is at c.in_ok-places.ensures.segment in
    ((refl, tt), rw (c.as_slice.ensures, c.segment_to.ensures.same) (in_range rows.links places has.links has.at_links))

pub returns-clause-best : goal.returns-clause-best
returns-clause-best g c =
    let rows = g.G.Links.rows c.args.links.now in
    let ask = c.args.ask.now in
    let a = c.in-Some-at.label in
    let places = c.in-Some-2.places in
    let has : HasSegment rows ask.query c.args.seeds.now c.args.found.now.labels c.in-Some.from places = rw c.in-Some-2.is at c.in_ok-places.ensures.segment in
    let shown : (ls : List Link) → AreAt rows.links places ls → c.in_ok-shown.shown.items ≡ c.args.entry ∷ fars ls = rw (c.as_slice.ensures, c.segment_to.ensures.same) at c.in_ok-shown.ensures.shown in
    let at_label : label_at c.args.found.now.labels c.in-Some.from ≡ Some a = sym c.in-Some-at.ensures in
    let is : IsLabel rows ask.query c.args.seeds.now c.args.entry (Some a) =
    subst (IsLabel rows ask.query c.args.seeds.now c.args.entry) at_label (c.requires.labels.entries c.in-Some.from c.args.entry c.requires.entry c.in-Some.ensures) in
    let head : IsHead rows ask.query ask.down ask.target a.exit c.match-ask.head =
    elim c.match-ask.branch [
      | in-Node w ↦ rw (w.in-Node.is, w.head-is) refl
      | in-Next w ↦
          let b = w.in-Next._next in
          let answers : MatchOption w.head_of-head.result (HasNoOut rows a.exit) (IsHeadOf rows a.exit) = rw c.segment_to.ensures.same at w.head_of-head.ensures.head in
          let order : IsInOrder rows = rw c.segment_to.ensures.same at w.head_of-head.ensures.order in
          let seeded : AreBorderSeeds rows ask.query b (beyond ask.down) c.args.seeds.now = rw w.in-Next.is at c.requires.seeds.are in
          rw (w.in-Next.is, w.head-is)
          (head_is rows ask.query b ask.down c.args.seeds.now seeded order c.args.entry a is w.head_of-head.result answers)
    ] in
    rw c.from_vec.ensures
    (best_is rows ask c.args.seeds.now c.args.found.now.labels c.in-Some.from c.args.entry a places c.in_ok-shown.shown.items c.match-ask.head
    c.requires.seeds is c.in-Some.ensures at_label has shown head)
