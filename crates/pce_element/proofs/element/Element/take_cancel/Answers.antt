use Rattle.std.proofs.Common.{◌≡◌, ◌∙◌, Some, refl, sym, ap}
use Rattle.request_table.specs.Pending.{Pending, number_of}
use Rattle.pce_common.specs.plant_model.Element.{Item}
use Rattle.pce_element.specs.Changes.{all_closed}
use Rattle.pce_element.proofs.EndLemmas.{cancel_some, on_ok}
use Rattle.pce_element.proofs.element.Element.take_cancel.Goals as goal

pub returns-in-Some : goal.returns-in-Some
returns-in-Some g c =
    let k = c.args.self.now.losing.element in
    let e = c.args.ending.now in
    let found : number_of (all_closed e.numbers k.pending) c.args.peer c.args.rp.1 ≡ Some c.in-Some.number =
    ap (λ (p : Pending (Item _)). number_of (all_closed e.numbers p) c.args.peer c.args.rp.1) (sym c.requests.ensures.pending) ∙ sym c.asked_still-asked.ensures ∙ c.in-Some.is in
    on_ok c.push.result (λ pushed. cancel_some k e (record { numbers = c.push.new.self; outputs = e.outputs }) c.args.peer c.args.rp c.in-Some.number found pushed refl) c.push.ensures.ok
