use Rattle.std.proofs.Common.{ap, sym}
use Rattle.std.proofs.lemmas.Option.{slice_get_within}
use Rattle.std.proofs.lemmas.Bool.{eqb-true, eqb-false}
use Rattle.dom_base.specs.AddrOrder.{rank}
use Rattle.dom_base.proofs.Ranks.{same_addr}
use Rattle.diverse_pairs.proofs.Tracing.{no_link, not_admitted, starts_elsewhere, step_made}
use Rattle.diverse_pairs.proofs.false_path.step_over.Goals as goal

pub returns-in_err-index : goal.returns-in_err-index
returns-in_err-index c =
    rw c.from_residual.ensures (no_link c.args.topology.now c.args.query.now c.args.node c.args.far c.in_err-index.ensures)

pub admitted_link-requires-clause-index : goal.admitted_link-requires-clause-index
admitted_link-requires-clause-index c =
    let at = c.in_ok-index.ensures in
    slice_get_within c.args.topology.now.links c.in_ok-index.index at.link at.at_link

pub returns-in_err-link : goal.returns-in_err-link
returns-in_err-link c =
    rw c.from_residual-in_err-link.ensures
    (not_admitted c.args.topology.now c.args.query.now c.args.node c.args.far c.in_ok-index.index c.requires.order c.in_ok-index.ensures c.in_err-link.ensures)

pub returns-then-eq : goal.returns-then-eq
returns-then-eq c =
    let l = c.in_ok-link.link.now in
    step_made c.args.topology.now c.args.query.now c.args.node c.args.far c.in_ok-index.index l c.in_ok-index.ensures c.in_ok-link.ensures
    (same_addr l.from c.args.node (eqb-true (rank l.from) (rank c.args.node) (sym c.if-eq.ensures)))

pub returns-else-eq : goal.returns-else-eq
returns-else-eq c =
    let l = c.in_ok-link.link.now in
    starts_elsewhere c.args.topology.now c.args.query.now c.args.node c.args.far c.in_ok-index.index l c.requires.order c.in_ok-index.ensures c.in_ok-link.ensures
    (λ is. eqb-false (rank l.from) (rank c.args.node) (sym c.if-eq.ensures) (ap rank is))
