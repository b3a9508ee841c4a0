use Rattle.std.proofs.Common.{◌≡◌, ℕ, List, Some, None, subst}
use Rattle.pce_common.specs.plant_model.Parent.{take_cancel}
use Rattle.pce_parent.specs.declared.sought.Sought.TheVariants.{Asked}
use Rattle.pce_parent.specs.Endings.{GoesOn}
use Rattle.pce_parent.specs.ParentFields.{parent_of}
use Rattle.pce_parent.specs.Pendings.{row_of}
use Rattle.pce_parent.specs.Seen.{Seen}
use Rattle.pce_parent.specs.Soughts.{first_sought, without_these}
use Rattle.pce_parent.proofs.ScanLaws.{on_ok}
use Rattle.pce_parent.proofs.Telling.{cancel_none, cancel_some}
use Rattle.pce_parent.proofs.parent.Parent.cancel.Goals as goal

pub returns-in_default : goal.returns-in_default
returns-in_default c =
    let a = c.self.inside in
    let e = c.args.ending.now in
    let rp = c.args.rp in
    let found : first_sought (Asked c.args.peer rp.1) (without_these e.numbers.items a.requests.kept.rows) ≡ None =
    subst (λ (ns : List ℕ). first_sought (Asked c.args.peer rp.1) (without_these ns a.requests.kept.rows) ≡ None) c.numbers.ensures c.in_default.ensures.row in
    subst (λ (s : Seen). GoesOn s.losing.parent (take_cancel c.args.peer rp) e e) c.self.view_is (cancel_none (parent_of a) c.in_default.ensures.rules c.args.peer rp e found)

pub returns : goal.returns
returns c =
    let a = c.self.inside in
    let e = c.args.ending.now in
    let rp = c.args.rp in
    let found : first_sought (Asked c.args.peer rp.1) (without_these e.numbers.items a.requests.kept.rows) ≡ Some (row_of c.in-Some.row) =
    subst (λ (ns : List ℕ). first_sought (Asked c.args.peer rp.1) (without_these ns a.requests.kept.rows) ≡ Some (row_of c.in-Some.row)) c.numbers.ensures c.in-Some.ensures.row in
    let new = c.end.new.self in
    on_ok c.end.result _ (GoesOn c.args.self.now.losing.parent (take_cancel c.args.peer rp) e new) (λ step.
    subst (λ (s : Seen). GoesOn s.losing.parent (take_cancel c.args.peer rp) e new) c.self.view_is
    (cancel_some (parent_of a) c.in-Some.ensures.rules c.args.peer rp e (row_of c.in-Some.row) new found (step (parent_of a)))) c.end.ensures
