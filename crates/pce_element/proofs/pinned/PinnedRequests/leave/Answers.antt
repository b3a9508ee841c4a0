use Rattle.std.proofs.Common.{◌∙◌, ℕ, sym, ap}
use Rattle.pce_common.specs.plant_model.declared.output.Lost.{Lost}
use Rattle.pce_element.specs.Rows.{row_of}
use Rattle.pce_element.proofs.LeaveLemmas.{drops, loses, stays_there}
use Rattle.pce_element.proofs.pinned.PinnedRequests.leave.Goals as goal

pub returns-then-is_same_peer : goal.returns-then-is_same_peer
returns-then-is_same_peer g c =
    drops c.args.peer c.args.k c.args.self.now c.close.new.self (row_of c.in-Some.field-0) c.row.ensures.rules c.in-Some.ensures.row (sym c.is_same_peer.ensures ∙ c.if-is_same_peer.true) c.close.ensures.closed

pub returns-then-waits : goal.returns-then-waits
returns-then-waits g c =
    let told = ap (λ (n : ℕ). let l : Lost = record { to = c.in-Some.field-0.key.peer; flags = n; id = c.in-Some.field-0.key.id } in l) c.flags.ensures in
    loses c.args.peer c.args.k c.args.self.now c.close-then-waits.new.self (row_of c.in-Some.field-0) _ c.row.ensures.rules c.in-Some.ensures.row (sym c.is_same_peer.ensures ∙ c.if-is_same_peer.false)
    (sym c.waits_on-waits.ensures ∙ c.if-waits.true) told c.close-then-waits.ensures.closed

pub returns : goal.returns
returns g c =
    stays_there c.args.peer c.args.k c.args.self.now (row_of c.in-Some.field-0) c.in-Some.ensures.row (sym c.is_same_peer.ensures ∙ c.if-is_same_peer.false) (sym c.waits_on-waits.ensures ∙ c.if-waits.false)
