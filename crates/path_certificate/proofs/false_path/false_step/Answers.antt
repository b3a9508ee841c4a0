use Rattle.std.proofs.Common.{◌≡◌, ◌≤◌, ℕ, false, true, get_or, refl, arith}
use Rattle.std.proofs.lemmas.List.{get_or_default}
use Rattle.dom_base.specs.declared.addr.Addr.TheVariants.{V4}
use Rattle.dom_base.specs.declared.addr.Addr.{Addr}
use Rattle.path_certificate.specs.Rows.{label_in}
use Rattle.path_certificate.specs.Claims.{LeadsOver}
use Rattle.path_certificate.proofs.Leading.{stops_at, goes_on, step_falls, not_ended, ended, leads_shorter, leads_within}
use Rattle.path_certificate.proofs.false_path.false_step.Goals as goal

pub returns-in_default : goal.returns-in_default
returns-in_default c =
    let g = c.args.topology.now in
    let q = c.args.query.now in
    let seeds = c.args.seeds.now in
    let label = label_in c.args.rows.now in
    let fars = c.args.fars.now in
    let k = c.loop-far.far-index in
    let zero : Addr = V4 0 in
    let far = get_or fars k zero in
    let inv = c.loop-far.invariant in
    rw inv.same_place (
      stops_at g q seeds label fars k c.args.node c.args.label c.loop-far.here c.loop-far.rest far c.requires.order c.loop-far-test.true
          (get_or_default fars k zero far c.loop-far-test.true) inv.leads c.in_default.ensures,
      λ j below. here j (omega arith),
    )
  where
    here : (j : ℕ) → j ≤ c.loop-far.far-index → LeadsOver c.args.topology.now c.args.query.now c.args.seeds.now (label_in c.args.rows.now) c.args.node c.args.label c.args.fars.now j
    here j within =
        leads_within c.args.topology.now c.args.query.now c.args.seeds.now (label_in c.args.rows.now) c.args.fars.now j c.loop-far.far-index c.args.node c.args.label
        c.loop-far.here c.loop-far.rest within c.loop-far-test.true c.loop-far.invariant.leads

pub loop-far-preserved : goal.loop-far-preserved
loop-far-preserved c =
    let g = c.args.topology.now in
    let q = c.args.query.now in
    let label = label_in c.args.rows.now in
    let fars = c.args.fars.now in
    let k = c.loop-far.far-index in
    let zero : Addr = V4 0 in
    let far = get_or fars k zero in
    let inv = c.loop-far.invariant in
    record {
      same_place = omega (arith, inv.same_place);
      leads = goes_on g q label fars k c.args.node c.args.label c.loop-far.here c.loop-far.rest c.in-Some.step.node c.in-Some.step.rest far c.loop-far-test.true
          (get_or_default fars k zero far c.loop-far-test.true) inv.leads c.in-Some.ensures;
      falls = omega (
        arith,
        inv.falls,
        step_falls g q label c.loop-far.here c.loop-far.rest far c.in-Some.step.node c.in-Some.step.rest c.requires.rules c.in-Some.ensures,
      );
    }

pub returns-then-ends_at : goal.returns-then-ends_at
returns-then-ends_at c =
    ended c.args.topology.now c.args.query.now c.args.seeds.now (label_in c.args.rows.now) c.args.fars.now c.loop-far.far-index c.args.node c.args.label
    c.loop-far.here c.loop-far.rest c.loop-far-test.false c.loop-far.invariant.leads (c.if-ends_at.ensures.0 refl)

pub returns-else-ends_at : goal.returns-else-ends_at
returns-else-ends_at c =
    let g = c.args.topology.now in
    let q = c.args.query.now in
    let seeds = c.args.seeds.now in
    let label = label_in c.args.rows.now in
    let fars = c.args.fars.now in
    let inv = c.loop-far.invariant in
    rw inv.same_place (
      not_ended g q seeds label fars c.loop-far.far-index c.args.node c.args.label c.loop-far.here c.loop-far.rest c.requires.order
          c.loop-far-test.false inv.leads (λ ends. let bad : false ≡ true = c.if-ends_at.ensures.1 ends in cc),
      λ j below. leads_shorter g q seeds label fars j c.loop-far.far-index c.args.node c.args.label c.loop-far.here c.loop-far.rest below (omega arith) inv.leads,
    )
