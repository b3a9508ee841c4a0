use Rattle.std.proofs.Common.{◌∙◌, sym}
use Rattle.pce_element.proofs.SearchLemmas.{asked_ended, asked_is_left, nobody_asked}
use Rattle.pce_element.proofs.pinned.PinnedRequests.asked_still.Goals as goal

pub returns-in_default : goal.returns-in_default
returns-in_default g c = sym (nobody_asked c.args.ended.now c.args.self.now.pending c.args.peer c.args.id c.len-count.ensures.rules (sym c.in_default.ensures))

pub returns-then-has : goal.returns-then-has
returns-then-has g c =
    sym (asked_ended c.args.ended.now c.args.self.now.pending c.args.peer c.args.id c.in-Some.number c.len-count.ensures.rules (sym c.in-Some.ensures) (sym c.has.ensures ∙ c.if-has.true))

pub returns-else-has : goal.returns-else-has
returns-else-has g c =
    sym (asked_is_left c.args.ended.now c.args.self.now.pending c.args.peer c.args.id c.in-Some.number c.len-count.ensures.rules (sym c.in-Some.ensures) (sym c.has.ensures ∙ c.if-has.false))
