use Rattle.std.proofs.Common.{◌≡◌, ℕ, List, length, true, false, sym, ◌∙◌, ap, arith}
use Rattle.request_table.specs.Pending.{Pending}
use Rattle.pce_common.specs.plant_model.declared.output.Lost.{Lost}
use Rattle.pce_common.specs.plant_model.Parent.{Asking, AskingRow, Wait, any_on, lost_of}
use Rattle.pce_parent.specs.Pendings.{row_of}
use Rattle.pce_parent.proofs.Leaving.{drops, loses, stays_there, one_fewer}
use Rattle.pce_parent.proofs.pending.leave_next.Goals as goal

pub returns-then-own-clause-leaves : goal.returns-then-own-clause-leaves
returns-then-own-clause-leaves c =
    drops c.args.peer c.args.k c.args.requests.now.kept c.close.new.self.kept c.args.gone.now.items (row_of c.in-Some.row) c.in-Some.ensures.rules c.in-Some.ensures.row
    (sym c.is_same_peer-own.ensures ∙ c.if-own.true) c.close.ensures.kept

pub returns-then-own-clause-room : goal.returns-then-own-clause-room
returns-then-own-clause-room c =
    let row : AskingRow = row_of c.in-Some.row in
    omega (arith, one_fewer c.args.k c.args.requests.now.kept row c.in-Some.ensures.rules c.in-Some.ensures.row, ap (λ (p : Pending Asking). length p.rows) c.close.ensures.kept, c.requires.room)

pub returns-then-waits-clause-leaves : goal.returns-then-waits-clause-leaves
returns-then-waits-clause-leaves c =
    let row : AskingRow = row_of c.in-Some.row in
    let waits : any_on c.args.peer row.1.item.waits ≡ true = ap (λ (ws : List Wait). any_on c.args.peer ws) (sym c.waits.ensures) ∙ sym c.waits_on-waits.ensures ∙ c.if-waits.true in
    let lost : Lost = record { to = c.in-Some.row.key.peer; flags = c.flags.result; id = c.in-Some.row.key.id } in
    let same : lost ≡ lost_of row = ap (λ (f : ℕ). let l : Lost = record { to = c.in-Some.row.key.peer; flags = f; id = c.in-Some.row.key.id } in l) c.flags.ensures in
    loses c.args.peer c.args.k c.args.requests.now.kept c.close-then-waits.new.self.kept c.args.gone.now.items c.note.new.gone.items row lost c.in-Some.ensures.rules c.in-Some.ensures.row
    (sym c.is_same_peer-own.ensures ∙ c.if-own.false) waits same c.close-then-waits.ensures.kept c.note.ensures.items

pub returns-then-waits-clause-room : goal.returns-then-waits-clause-room
returns-then-waits-clause-room c =
    let row : AskingRow = row_of c.in-Some.row in
    omega (arith, one_fewer c.args.k c.args.requests.now.kept row c.in-Some.ensures.rules c.in-Some.ensures.row, ap (λ (p : Pending Asking). length p.rows) c.close-then-waits.ensures.kept, c.requires.room, c.note.ensures.len, c.note.ensures.capacity)

pub returns-clause-leaves : goal.returns-clause-leaves
returns-clause-leaves c =
    let row : AskingRow = row_of c.in-Some.row in
    let free : any_on c.args.peer row.1.item.waits ≡ false = ap (λ (ws : List Wait). any_on c.args.peer ws) (sym c.waits.ensures) ∙ sym c.waits_on-waits.ensures ∙ c.if-waits.false in
    stays_there c.args.peer c.args.k c.args.requests.now.kept c.args.gone.now.items row c.in-Some.ensures.row (sym c.is_same_peer-own.ensures ∙ c.if-own.false) free
