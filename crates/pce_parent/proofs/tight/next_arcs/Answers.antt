use Rattle.std.proofs.Common.{rules, ◌≡◌, ◌+◌, ℕ, List, true, false, arith, get_or, refl, sym, ap, subst, Some, slice_set, take}
use Rattle.std.specs.declared.option.Option.{Option}
use Rattle.dom_base.specs.declared.addr.Addr.TheVariants.{V4}
use Rattle.pce_parent.specs.declared.arcs.Arc.{Arc}
use Rattle.pce_parent.specs.Tight.{AreChosen, GoesFirst}
use Rattle.pce_parent.proofs.Choosing.{next_kept, next_set, next_done}
use Rattle.pce_parent.proofs.tight.next_arcs.Goals as goal
use Rattle.pce_parent.proofs.tight.next_arcs.Goals.{then-goes_first, else-goes_first}

pub loop-arc-preserved : goal.loop-arc-preserved
loop-arc-preserved c =
    let none : Arc = record { from = 0; to = 0; cost = 0; choice = V4 0; index = 0 } in
    let arcs : List Arc = c.args.arcs.now in
    let costs : List (Option ℕ) = c.args.costs.now in
    let i = c.loop-arc.arc-index in
    let a : Arc = get_or arcs i none in
    let next : List (Option Arc) = c.loop-arc.next.items in
    elim c.if-goes_first.branch [
      | then-goes_first w ↦
          let goes : GoesFirst costs next a = subst (λ (ns : List (Option Arc)). GoesFirst costs ns a) c.deref.ensures.value (w.if-goes_first.ensures.0 refl) in
          let is : c.if-goes_first.next.items ≡ slice_set next a.from (Some a) = search rules in
          next_set arcs i none costs next (omega (arith, c.loop-arc-test.true)) c.loop-arc.invariant c.if-goes_first.next.items is goes
      | else-goes_first w ↦
          let is : c.if-goes_first.next.items ≡ next = search rules in
          subst (AreChosen (take (i + 1) arcs) costs) (sym is)
          (next_kept arcs i none costs next (omega (arith, c.loop-arc-test.true)) c.loop-arc.invariant (λ goes.
          let bad : false ≡ true = w.if-goes_first.ensures.1 (subst (λ (ns : List (Option Arc)). GoesFirst costs ns a) (sym c.deref.ensures.value) goes) in
          cc))
    ]

pub returns : goal.returns
returns c = next_done c.args.arcs.now c.loop-arc.arc-index c.args.costs.now c.loop-arc.next.items c.loop-arc-test.false c.loop-arc.invariant
