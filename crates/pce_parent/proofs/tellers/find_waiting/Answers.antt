use Rattle.std.proofs.Common.{◌≡◌, ◌∙◌, Some, None, sym}
use Rattle.pce_common.specs.Waiting.{waiter_at}
use Rattle.pce_common.specs.declared.waiters.Waiter.TheVariants.{One}
use Rattle.pce_parent.proofs.TellerLaws.{nobody, one_ended, one_found, said_at}
use Rattle.pce_parent.proofs.tellers.find_waiting.Goals as goal

pub returns-in-None-clause-row : goal.returns-in-None-clause-row
returns-in-None-clause-row c =
    nobody c.args.teller.now.peer c.args.id c.args.ended.now c.args.requests.now.kept c.len-count.ensures.rules
    (said_at c.args.requests.now.kept.rows c.args.teller.now c.in-Some.waiters c.args.id None c.requires c.in-Some.is c.in-None.ensures)

pub returns-in-Some-One-clause-row : goal.returns-in-Some-One-clause-row
returns-in-Some-One-clause-row c =
    let n = c.in-Some-One.number in
    let said : Some (One n) ≡ waiter_at c.in-Some.waiters c.args.id = cc (c.in-Some-One.field-0-is, c.in-Some-One.is, c.at.ensures) in
    one_ended c.args.teller.now.peer c.args.id c.args.ended.now c.args.requests.now.kept c.len-count.ensures.rules n
    (said_at c.args.requests.now.kept.rows c.args.teller.now c.in-Some.waiters c.args.id (Some (One n)) c.requires c.in-Some.is said) (sym c.has_number.ensures ∙ c.if-has_number.true)

pub returns-in-Some-One-2-clause-row : goal.returns-in-Some-One-2-clause-row
returns-in-Some-One-2-clause-row c =
    let n = c.in-Some-One.number in
    let said : Some (One n) ≡ waiter_at c.in-Some.waiters c.args.id = cc (c.in-Some-One.field-0-is, c.in-Some-One.is, c.at.ensures) in
    one_found c.args.teller.now.peer c.args.id c.args.ended.now c.args.requests.now.kept c.len-count.ensures.rules n c.row_with.result
    (said_at c.args.requests.now.kept.rows c.args.teller.now c.in-Some.waiters c.args.id (Some (One n)) c.requires c.in-Some.is said)
    (sym c.has_number.ensures ∙ c.if-has_number.false) c.row_with.ensures.row c.row_with.ensures.number
