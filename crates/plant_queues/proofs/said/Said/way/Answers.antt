use Rattle.std.proofs.Common.{◌∙◌, ◌<◌, length, Some, ap, sym, arith}
use Rattle.std.specs.Option.{option_map}
use Rattle.plant_queues.specs.declared.said.MessageSpan.{MessageSpan}
use Rattle.plant_queues.specs.Messages.{Queued}
use Rattle.plant_queues.specs.declared.sent.Sent.{Sent}
use Rattle.plant_queues.proofs.SaidLemmas.{length-sents, sent_at}
use Rattle.plant_queues.proofs.said.Said.way.Goals as goal

pub index-place-requires : goal.index-place-requires
index-place-requires c =
    omega (arith, c.requires, length-sents c.self.inside.bytes.items c.self.inside.places.items, ap (λ (q : Queued Sent). length q.kept) c.self.view_is)

pub returns : goal.returns
returns c =
    let before = c.self.inside in
    let below : c.args.k < length before.places.items =
    omega (arith, c.requires, length-sents before.bytes.items before.places.items, ap (λ (q : Queued Sent). length q.kept) c.self.view_is) in
    rw (← c.self.view_is)
    (ap (option_map (λ (s : Sent). (s.from, s.to))) (sent_at before.bytes.items before.places.items c.args.k c.index-place.result.now below)
    ∙ ap (λ (p : MessageSpan). Some (p.from, p.to)) (sym c.index-place.ensures))
