use Rattle.std.proofs.Common.{◌∙◌, ◌<◌, ◌-◌, length, take, drop, Some, ap, sym, arith}
use Rattle.std.specs.Option.{option_map}
use Rattle.plant_queues.specs.declared.said.MessageSpan.{MessageSpan}
use Rattle.plant_queues.specs.Messages.{Queued}
use Rattle.plant_queues.specs.declared.sent.Sent.{Sent}
use Rattle.plant_queues.proofs.SaidLemmas.{length-sents, sent_at, within_at}
use Rattle.plant_queues.proofs.said.Said.bytes.Goals as goal

pub index-place-requires : goal.index-place-requires
index-place-requires c =
    omega (arith, c.requires, length-sents c.self.inside.bytes.items c.self.inside.places.items, ap (λ (q : Queued Sent). length q.kept) c.self.view_is)

pub piece-requires : goal.piece-requires
piece-requires c =
    let before = c.self.inside in
    let below : c.args.k < length before.places.items =
    omega (arith, c.requires, length-sents before.bytes.items before.places.items, ap (λ (q : Queued Sent). length q.kept) c.self.view_is) in
    let within = within_at 0 (length before.bytes.items) before.places.items c.args.k c.index-place.result.now c.self.invariant below in
    record {
      ordered = omega (arith, within.0, ap (λ (p : MessageSpan). p.start) c.index-place.ensures, ap (λ (p : MessageSpan). p.end) c.index-place.ensures);
      within = omega (arith, within.1, ap (λ (p : MessageSpan). p.end) c.index-place.ensures, ap length c.deref.ensures.value);
    }

pub returns : goal.returns
returns c =
    let before = c.self.inside in
    let below : c.args.k < length before.places.items =
    omega (arith, c.requires, length-sents before.bytes.items before.places.items, ap (λ (q : Queued Sent). length q.kept) c.self.view_is) in
    rw (← c.self.view_is)
    (ap (option_map (λ (s : Sent). s.bytes)) (sent_at before.bytes.items before.places.items c.args.k c.index-place.result.now below)
    ∙ ap (λ (p : MessageSpan). Some (take (p.end - p.start) (drop p.start before.bytes.items))) (sym c.index-place.ensures)
    ∙ ap (λ bytes. Some (take (c.index-place.result.now.end - c.index-place.result.now.start) (drop c.index-place.result.now.start bytes))) (sym c.deref.ensures.value)
    ∙ ap Some (sym c.piece.ensures))
