use Rattle.std.proofs.Common.{sym, ◌∙◌, arith}
use Rattle.pce_parent.proofs.Going.{row_ends, link_ends}
use Rattle.pce_parent.proofs.Walking.{set_out, arrive, go_on}
use Rattle.pce_parent.proofs.route.chosen_hops.Goals as goal

pub next_arcs-requires : goal.next_arcs-requires
next_arcs-requires c = row_ends c.args.job.now c.args.spots.now c.args.rows.now c.args.links.now c.args.costs.now c.requires.least

pub next_arcs-requires-2 : goal.next_arcs-requires-2
next_arcs-requires-2 c = link_ends c.args.job.now c.args.spots.now c.args.rows.now c.args.links.now c.args.costs.now c.requires.least

pub loop-hops-init : goal.loop-hops-init
loop-hops-init c = rw c.new-hops.ensures (set_out c.args.job.now c.args.spots.now c.args.costs.now c.args.start c.requires.stands)

pub returns-then-get-eq0 : goal.returns-then-get-eq0
returns-then-get-eq0 c =
    arrive c.args.job.now c.args.spots.now c.args.rows.now c.args.links.now c.args.costs.now c.requires.least c.args.start c.loop-hops.at c.in_ok-left.left
    c.over_row.new.hops c.loop-hops.hops c.loop-hops.invariant c.in_ok-left.ensures.stands c.in_ok-left.ensures.goes (sym c.get.ensures.number ∙ c.if-get-eq0.true)

pub loop-hops-smaller : goal.loop-hops-smaller
loop-hops-smaller c = omega (arith, c.in_ok-left.ensures.goes.drops, c.in_ok-at.ensures.stands.less)

pub loop-hops-preserved : goal.loop-hops-preserved
loop-hops-preserved c =
    go_on c.args.job.now c.args.spots.now c.args.rows.now c.args.links.now c.args.costs.now c.requires.least c.args.start c.loop-hops.at c.in_ok-left.left
    c.over_row.new.hops c.loop-hops.hops c.loop-hops.invariant c.in_ok-left.ensures.stands c.in_ok-left.ensures.goes c.in_ok-at.at c.over_link.new.hops
    (omega (arith, c.get.ensures.number, c.if-get-eq0.false)) c.in_ok-at.ensures.goes c.in_ok-at.ensures.stands
