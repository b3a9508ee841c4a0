use Rattle.std.proofs.Common.{◌∙◌, ◌++◌, ◌∷◌, [], ap, arith}
use Rattle.plant_queues.specs.declared.said.MessageSpan.{MessageSpan}
use Rattle.plant_queues.specs.Messages.{Queued}
use Rattle.plant_queues.specs.declared.sent.Sent.{Sent}
use Rattle.plant_queues.specs.Sents.{sent_of}
use Rattle.plant_queues.proofs.SaidLemmas.{put_in_row, put_sent}
use Rattle.plant_queues.proofs.said.Said.put.Goals as goal

pub invariant_of-self : goal.invariant_of-self
invariant_of-self c =
    let before = c.self.inside in
    let place : MessageSpan = record { from = c.args.from; to = c.args.to; start = c.len-start.result; end = c.len.result } in
    put_in_row before.bytes.items c.args.message.now c.append_within.new.bytes.items before.places.items c.push.new.self.items place
    c.self.invariant c.append_within.ensures.all (omega arith) (omega arith) c.in-Ok.ensures.items

pub returns-clause-kept : goal.returns-clause-kept
returns-clause-kept c =
    let before = c.self.inside in
    let place : MessageSpan = record { from = c.args.from; to = c.args.to; start = c.len-start.result; end = c.len.result } in
    put_sent before.bytes.items c.args.message.now c.append_within.new.bytes.items before.places.items c.push.new.self.items place
    c.self.invariant c.append_within.ensures.all (omega arith) (omega arith) c.in-Ok.ensures.items
    ∙ ap (λ (q : Queued Sent). q.kept ++ sent_of c.args.from c.args.to c.args.message.now ∷ []) c.self.view_is
