use Rattle.std.proofs.Common.{◌≡◌, ◌∙◌, Some, None, sym}
use Rattle.pce_common.specs.Waiting.{waiter_at}
use Rattle.pce_common.specs.declared.waiters.Waiter.TheVariants.{One}
use Rattle.pce_element.proofs.TellerLemmas.{nobody, one_ended, one_found, said_at}
use Rattle.pce_element.proofs.pinned.PinnedRequests.still_waiting.Goals as goal

pub returns-in-None : goal.returns-in-None
returns-in-None g c =
    nobody c.args.teller.now.peer c.args.id c.args.ended.now c.args.self.now.pending c.len-count.ensures.rules.numbers
    (said_at c.args.self.now.pending.rows c.args.teller.now c.in-Some.waiters c.args.id None c.requires c.in-Some.is c.in-None.ensures)

pub returns-in-Some-One : goal.returns-in-Some-One
returns-in-Some-One g c =
    let n = c.in-Some-One.number in
    let said : Some (One n) ≡ waiter_at c.in-Some.waiters c.args.id = cc (c.in-Some-One.field-0-is, c.in-Some-One.is, c.at.ensures) in
    one_ended c.args.teller.now.peer c.args.id c.args.ended.now c.args.self.now.pending c.len-count.ensures.rules.numbers n
    (said_at c.args.self.now.pending.rows c.args.teller.now c.in-Some.waiters c.args.id (Some (One n)) c.requires c.in-Some.is said) (sym c.has.ensures ∙ c.if-has.true)

pub returns-in-Some-One-2 : goal.returns-in-Some-One-2
returns-in-Some-One-2 g c =
    let n = c.in-Some-One.number in
    let said : Some (One n) ≡ waiter_at c.in-Some.waiters c.args.id = cc (c.in-Some-One.field-0-is, c.in-Some-One.is, c.at.ensures) in
    one_found c.args.teller.now.peer c.args.id c.args.ended.now c.args.self.now.pending c.len-count.ensures.rules.numbers n c.found.result
    (said_at c.args.self.now.pending.rows c.args.teller.now c.in-Some.waiters c.args.id (Some (One n)) c.requires c.in-Some.is said)
    (sym c.has.ensures ∙ c.if-has.false) c.found.ensures.row c.found.ensures.number
