use Rattle.std.proofs.Common.{◌≡◌, ◌∙◌, ◌++◌, ◌∷◌, [], length, Some, None, Option, sym, ap, arith}
use Rattle.std.specs.Vec.Iter.{into_iter_items}
use Rattle.te_links.specs.Rows.{Rows}
use Rattle.te_text.specs.declared.row.TextRow.{TextRow}
use Rattle.te_deltas.specs.Changes.{rows_of}
use Rattle.te_deltas.specs.Gathered.{with_last}
use Rattle.te_deltas.specs.Slots.{live}
use Rattle.te_deltas.proofs.GatherLemmas.{rows_push, live_some, live_none, turn}
use Rattle.te_deltas.proofs.table.Table.into_parts.Goals as goal

pub loop-slot-preserved-in-Continue-1 : goal.loop-slot-preserved-in-Continue-1
loop-slot-preserved-in-Continue-1 c =
    let so_far = c.loop-slot.invariant in
    let row = c.in-Some-slot.row in
    let step = c.in-Some.ensures.steps in
    let slots : c.loop-slot.yielded ++ c.in-Some.slot ∷ [] ≡ c.loop-slot.yielded ++ Some row ∷ [] = ap (λ (s : Option TextRow). c.loop-slot.yielded ++ s ∷ []) c.in-Some-slot.is in
    record {
      whole = turn c.loop-slot.yielded (into_iter_items c.loop-slot.slot-iterator) (into_iter_items c.next.new.self) c.self.inside.slots.items c.in-Some.slot so_far.whole step.0;
      left = omega (arith, so_far.left, step.1, ap length step.0);
      parts = c.in_ok-push_row.ensures ∙ ap (λ (g : Rows). with_last g row) so_far.parts ∙ sym (rows_push c.args.own (live c.loop-slot.yielded) row)
          ∙ ap (rows_of c.args.own) (sym (ap live slots ∙ live_some c.loop-slot.yielded row));
    }

pub loop-slot-preserved : goal.loop-slot-preserved
loop-slot-preserved c =
    let so_far = c.loop-slot.invariant in
    let step = c.in-Some.ensures.steps in
    let slots : c.loop-slot.yielded ++ c.in-Some.slot ∷ [] ≡ c.loop-slot.yielded ++ None ∷ [] = ap (λ (s : Option TextRow). c.loop-slot.yielded ++ s ∷ []) c.in_default.is in
    record {
      whole = turn c.loop-slot.yielded (into_iter_items c.loop-slot.slot-iterator) (into_iter_items c.next.new.self) c.self.inside.slots.items c.in-Some.slot so_far.whole step.0;
      left = omega (arith, so_far.left, step.1, ap length step.0);
      parts = so_far.parts ∙ ap (rows_of c.args.own) (sym (ap live slots ∙ live_none c.loop-slot.yielded));
    }
