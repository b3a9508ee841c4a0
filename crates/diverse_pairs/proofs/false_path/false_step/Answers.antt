use Rattle.std.proofs.Common.{◌≡◌, ◌+◌, ◌++◌, false, true, get_or, take, refl, sym, ap, subst, arith}
use Rattle.std.specs.Prelude.{Contains}
use Rattle.std.proofs.lemmas.List.{get_or_default}
use Rattle.std.proofs.lemmas.Bool.{eqb-true, eqb-false}
use Rattle.dom_base.specs.AddrOrder.{rank}
use Rattle.dom_base.proofs.Ranks.{same_addr}
use Rattle.dom_base.specs.declared.addr.Addr.TheVariants.{V4}
use Rattle.dom_base.specs.declared.addr.Addr.{Addr}
use Rattle.diverse_pairs.proofs.Tracing.{few_before, first_stop, first_end, stops_used, stops_at, goes_on, ended}
use Rattle.diverse_pairs.proofs.false_path.false_step.Goals as goal

pub returns-then-is_in_use-clause-first : goal.returns-then-is_in_use-clause-first
returns-then-is_in_use-clause-first c =
    let g = c.args.topology.now in
    let q = c.args.query.now in
    let used = c.args.used.now in
    let fars = c.args.fars.now in
    let k = c.loop-far.far-index in
    let zero : Addr = V4 0 in
    let far = get_or fars k zero in
    let inv = c.loop-far.invariant in
    let has : Contains (used ++ take k fars) far = subst (λ i. Contains (used ++ take i fars) far) inv.same_place (c.if-is_in_use.ensures.0 refl) in
    rw inv.same_place
    (first_stop g q used c.args.source c.args.target fars k c.loop-far.here c.loop-far-test.true inv.traces
    (stops_used g q used c.args.source c.args.target fars k far c.loop-far-test.true (get_or_default fars k zero far c.loop-far-test.true) has))

pub returns-in_default-clause-first : goal.returns-in_default-clause-first
returns-in_default-clause-first c =
    let g = c.args.topology.now in
    let q = c.args.query.now in
    let used = c.args.used.now in
    let fars = c.args.fars.now in
    let k = c.loop-far.far-index in
    let zero : Addr = V4 0 in
    let far = get_or fars k zero in
    let inv = c.loop-far.invariant in
    rw inv.same_place
    (first_stop g q used c.args.source c.args.target fars k c.loop-far.here c.loop-far-test.true inv.traces
    (stops_at g q used c.args.source c.args.target fars k c.loop-far.here far c.requires.order c.loop-far-test.true (get_or_default fars k zero far c.loop-far-test.true) inv.traces c.in_default.ensures))

pub loop-far-preserved : goal.loop-far-preserved
loop-far-preserved c =
    let g = c.args.topology.now in
    let q = c.args.query.now in
    let used = c.args.used.now in
    let fars = c.args.fars.now in
    let k = c.loop-far.far-index in
    let zero : Addr = V4 0 in
    let far = get_or fars k zero in
    let inv = c.loop-far.invariant in
    let traces =
    goes_on g q used c.args.source fars k c.loop-far.here c.in-Some.next far c.loop-far-test.true (get_or_default fars k zero far c.loop-far-test.true) inv.traces c.in-Some.ensures
    (λ has.
    let bad : false ≡ true = c.if-is_in_use.ensures.1 (subst (λ i. Contains (used ++ take i fars) far) (sym inv.same_place) has) in
    cc) in
    record {
      same_place = ap (λ i. i + 1) inv.same_place;
      few = omega (arith, few_before g q used c.args.source fars (k + 1) c.in-Some.next c.requires.rules (omega (arith, c.loop-far-test.true)) traces, inv.same_place);
      traces = traces;
    }

pub returns-then-eq-clause-first : goal.returns-then-eq-clause-first
returns-then-eq-clause-first c =
    ended c.args.topology.now c.args.query.now c.args.used.now c.args.source c.args.target c.args.fars.now c.loop-far.far-index c.loop-far.here c.loop-far-test.false c.loop-far.invariant.traces
    (same_addr c.loop-far.here c.args.target (eqb-true (rank c.loop-far.here) (rank c.args.target) (sym c.if-eq.ensures)))

pub returns-else-eq-clause-first : goal.returns-else-eq-clause-first
returns-else-eq-clause-first c =
    let inv = c.loop-far.invariant in
    rw inv.same_place
    (first_end c.args.topology.now c.args.query.now c.args.used.now c.args.source c.args.target c.args.fars.now c.loop-far.far-index c.loop-far.here c.requires.order (omega arith)
    c.loop-far-test.false inv.traces (λ is. eqb-false (rank c.loop-far.here) (rank c.args.target) (sym c.if-eq.ensures) (ap rank is)))
