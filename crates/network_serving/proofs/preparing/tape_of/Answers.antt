use Rattle.std.proofs.Common.{◌≡◌, ◌∙◌, ◌+◌, ◌++◌, ◌∷◌, [], List, ap, subst, sym, take}
use Rattle.std.proofs.lemmas.List.{take_more}
use Rattle.event_tape.specs.Tapes.{Taped}
use Rattle.plant_text.specs.declared.settings.ElementRow.{ElementRow}
use Rattle.plant_network.specs.Topologies.{whole}
use Rattle.network_serving.specs.Records.{AreFirst}
use Rattle.network_serving.proofs.RecordLaws.{first_more}
use Rattle.network_serving.proofs.preparing.tape_of.Goals as goal

pub loop-i-preserved : goal.loop-i-preserved
loop-i-preserved c =
    let rows : List ElementRow = c.as_slice-rows.result.now in
    let row : ElementRow = c.index-rows-i.result in
    let w = whole c.args.plant.now in
    let so_far = c.loop-i.invariant in
    let pushed = c.in_ok-push_first.ensures.ok in
    let more : take (c.loop-i.i + 1) rows ≡ take c.loop-i.i rows ++ row ∷ [] = take_more rows c.loop-i.i row c.loop-i-test.true ∙ ap (λ (r : ElementRow). take c.loop-i.i rows ++ r ∷ []) (sym c.index-rows-i.is) in
    record {
      first = subst (AreFirst w (take (c.loop-i.i + 1) rows)) (sym (ap (λ (t : Taped). t.items) pushed.2))
          (subst (λ (front : List ElementRow). AreFirst w front (c.loop-i.tape.items ++ pushed.0)) (sym more) (first_more w (take c.loop-i.i rows) row c.loop-i.tape.items pushed.0 so_far.first pushed.1));
      handed = ap (λ (t : Taped). t.handed) pushed.2 ∙ so_far.handed;
      open_still = ap (λ (t : Taped). t.ended) pushed.2 ∙ so_far.open_still;
    }
