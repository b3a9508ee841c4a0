use Rattle.std.proofs.Common.{◌≡◌, ◌∙◌, ℕ, List, Some, None, sym, ap, subst}
use Rattle.pce_common.specs.plant_model.Types.{Message}
use Rattle.pce_common.specs.plant_model.Parent.{AskingRow, answered, take_busy}
use Rattle.pce_parent.specs.declared.sought.Sought.TheVariants.{Awaited}
use Rattle.pce_parent.specs.Endings.{GoesOn}
use Rattle.pce_parent.specs.ParentFields.{parent_of}
use Rattle.pce_parent.specs.Pendings.{row_of}
use Rattle.pce_parent.specs.Seen.{Seen}
use Rattle.pce_parent.specs.Soughts.{first_sought, without_these}
use Rattle.pce_parent.specs.Tellers.{Knows}
use Rattle.pce_parent.proofs.ScanLaws.{on_ok}
use Rattle.pce_common.specs.plant_model.Writing.{busy}
use Rattle.pce_parent.proofs.Telling.{busy_none, busy_some}
use Rattle.pce_parent.proofs.parent.Parent.tell_busy.Goals as goal

pub find_waiting-requires : goal.find_waiting-requires
find_waiting-requires c = subst (λ (s : Seen). Knows s.losing.parent.pending.rows c.args.teller.now) (sym c.self.view_is) c.requires

pub returns-in_default : goal.returns-in_default
returns-in_default c =
    let a = c.self.inside in
    let e = c.args.ending.now in
    let rp = c.args.rp in
    let found : first_sought (Awaited c.args.teller.now.peer rp.1) (without_these e.numbers.items a.requests.kept.rows) ≡ None =
    subst (λ (ns : List ℕ). first_sought (Awaited c.args.teller.now.peer rp.1) (without_these ns a.requests.kept.rows) ≡ None) c.numbers.ensures c.in_default.ensures.row in
    subst (λ (s : Seen). GoesOn s.losing.parent (take_busy c.args.teller.now.peer rp) e e) c.self.view_is (busy_none (parent_of a) c.in_default.ensures.rules c.args.teller.now.peer rp e found)

pub returns : goal.returns
returns c =
    let a = c.self.inside in
    let e = c.args.ending.now in
    let rp = c.args.rp in
    let found : first_sought (Awaited c.args.teller.now.peer rp.1) (without_these e.numbers.items a.requests.kept.rows) ≡ Some (row_of c.in-Some.row) =
    subst (λ (ns : List ℕ). first_sought (Awaited c.args.teller.now.peer rp.1) (without_these ns a.requests.kept.rows) ≡ Some (row_of c.in-Some.row)) c.numbers.ensures c.in-Some.ensures.row in
    let new = c.answer.new.self in
    let h : AskingRow = row_of c.in-Some.row in
    let says : c.in_ok-message.message ≡ busy h.1.item.flags h.1.key.id = c.in_ok-message.ensures ∙ ap (λ (f : ℕ). busy f h.1.key.id) c.flags.ensures in
    on_ok c.answer.result _ (GoesOn c.args.self.now.losing.parent (take_busy c.args.teller.now.peer rp) e new) (λ step.
    subst (λ (s : Seen). GoesOn s.losing.parent (take_busy c.args.teller.now.peer rp) e new) c.self.view_is
    (busy_some (parent_of a) c.in-Some.ensures.rules c.args.teller.now.peer rp e h new found (subst (λ (m : Message). GoesOn (parent_of a) (answered h m) e new) says (step (parent_of a))))) c.answer.ensures
