use Rattle.std.proofs.Common.{◌≤◌, ◌+◌, List, get_or, subst, arith}
use Rattle.std.specs.Prelude.{◌↔◌}
use Rattle.std.proofs.lemmas.List.{get_or_default, take_more, take_all}
use Rattle.dom_base.specs.AddrOrder.{rank}
use Rattle.dom_base.specs.declared.addr.Addr.{Addr}
use Rattle.dom_base.specs.declared.addr.Addr.TheVariants.{V4}
use Rattle.path_constraints.specs.Spans.{Covers}
use Rattle.path_constraints.proofs.SpanOrder.{leads_on, covers_more}
use Rattle.path_constraints.proofs.spans.thinned.Goals as goal

pub add_span-requires-clause-leads : goal.add_span-requires-clause-leads
add_span-requires-clause-leads c = c.loop-span.invariant.leads _ c.loop-span-test.true

pub loop-span-preserved : goal.loop-span-preserved
loop-span-preserved c =
    let spans : List (Addr × Addr) = c.args.spans.now in
    let i = c.loop-span.span-index in
    let span : Addr × Addr = get_or spans i (V4 0, V4 0) in
    let kept : List (Addr × Addr) = c.loop-span.kept.items in
    let more : List (Addr × Addr) = c.add_span.new.spans.items in
    record {
      rising = c.in_ok-add_span.ensures.rising;
      leads = λ d below.
          let up : rank (get_or spans i d).0 ≤ rank (get_or spans (i + 1) d).0 = c.requires i (i + 1) d (omega arith) below in
          leads_on more span (get_or spans (i + 1) d) c.in_ok-add_span.ensures.leads
          (subst (λ (s : Addr × Addr). rank s.0 ≤ rank (get_or spans (i + 1) d).0) (get_or_default spans i d (V4 0, V4 0) c.loop-span-test.true) up);
      covers = λ a. covers_more spans kept more i span a (take_more spans i (V4 0, V4 0) c.loop-span-test.true) (c.loop-span.invariant.covers a) (c.in_ok-add_span.ensures.covers a);
    }

pub returns-clause-covers : goal.returns-clause-covers
returns-clause-covers c = λ a.
    subst (λ (ss : List (Addr × Addr)). Covers c.loop-span.kept.items a ↔ Covers ss a) (take_all c.loop-span.span-index c.args.spans.now c.loop-span-test.false) (c.loop-span.invariant.covers a)
