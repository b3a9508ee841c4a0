use Rattle.std.proofs.Common.{◌∙◌, Some, refl, sym, ap, arith}
use Rattle.std.proofs.lemmas.Bool.{eqb-true}
use Rattle.std.proofs.lemmas.Option.{get_or_from_slice_get, slice_get_within, slice_get-get_or}
use Rattle.dom_base.specs.AddrOrder.{rank}
use Rattle.dom_base.proofs.Ranks.{same_addr}
use Rattle.te_links.specs.declared.rows.OutLink.{OutLink}
use Rattle.border_costs.proofs.best.head_of.Goals as goal

pub returns-then-eq-clause-head : goal.returns-then-eq-clause-head
returns-then-eq-clause-head g c =
    let outs = (g.G.Links.rows c.args.links.now).outs in
    let i = c.loop-index.index in
    let out = c.out_at-out.result.now in
    let at = c.out_at-out.ensures in (
      out,
      (i, slice_get_within outs i out at, get_or_from_slice_get outs i out out at),
      same_addr out.link.far c.args.far (eqb-true (rank out.link.far) (rank c.args.far) (sym c.if-eq.ensures)),
      refl,
    )

pub returns-clause-head : goal.returns-clause-head
returns-clause-head g c = λ o has far.
    let outs = (g.G.Links.rows c.args.links.now).outs in
    c.loop-index.invariant has.0 o (omega (arith, has.1, c.loop-index-test.false, c.out_count-index-end.ensures.count))
    (slice_get-get_or outs has.0 o has.1 ∙ ap (λ (p : OutLink). Some p) has.2) far
