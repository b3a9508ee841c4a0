use Rattle.std.proofs.Common.{◌≡◌, ◌-◌, ◌∙◌, Some, slice_get, sym, ap, arith}
use Rattle.std.proofs.lemmas.Option.{slice_get-get_or}
use Rattle.te_deltas.specs.declared.changes.Change.{Change}
use Rattle.te_deltas.proofs.BlameLemmas.{one_before, told_other, told_same}
use Rattle.te_deltas.proofs.blaming.last_of.Goals as goal

pub returns-then-eq : goal.returns-then-eq
returns-then-eq c =
    let changes = c.args.changes.now in
    let i = c.loop-place.place - 1 in
    let change = c.index-changes-place.result in
    let at : slice_get changes i ≡ Some change = slice_get-get_or changes i change (omega arith) ∙ ap (λ (x : Change). Some x) (sym c.index-changes-place.is) in (
      change,
      record {
        at = at;
        names = sym c.name.ensures ∙ told_same c.name.result c.args.name c.eq.result c.eq.ensures c.if-eq.true;
        last = λ j other from found. c.loop-place.invariant j other (omega (arith, from)) found;
      },
    )

pub loop-place-preserved : goal.loop-place-preserved
loop-place-preserved c =
    let changes = c.args.changes.now in
    let i = c.loop-place.place - 1 in
    let change = c.index-changes-place.result in
    let at : slice_get changes i ≡ Some change = slice_get-get_or changes i change (omega arith) ∙ ap (λ (x : Change). Some x) (sym c.index-changes-place.is) in
    one_before changes c.args.name i change (λ j other from found. c.loop-place.invariant j other (omega (arith, from)) found) at
    (λ names. told_other c.name.result c.args.name c.eq.result c.eq.ensures c.if-eq.false (c.name.ensures ∙ names))
