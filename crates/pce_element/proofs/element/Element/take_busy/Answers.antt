use Rattle.std.proofs.Common.{◌≡◌, ◌∙◌, ℕ, Some, sym, ap, subst}
use Rattle.request_table.specs.Pending.{Pending}
use Rattle.pce_common.specs.plant_model.Element.{Item, waiting}
use Rattle.pce_common.specs.plant_model.Writing.{busy}
use Rattle.pce_element.specs.Changes.{all_closed}
use Rattle.pce_element.specs.Rows.{row_of}
use Rattle.pce_element.specs.Tellers.{Knows}
use Rattle.pce_element.proofs.EndLemmas.{busy_some, on_ok_both}
use Rattle.pce_element.proofs.element.Element.take_busy.Goals as goal

pub still_waiting-waiting-requires : goal.still_waiting-waiting-requires
still_waiting-waiting-requires g c = subst (λ (p : Pending (Item _)). Knows p.rows c.args.teller.now) (sym c.requests.ensures.pending) c.requires

pub returns : goal.returns
returns g c =
    let k = c.args.self.now.losing.element in
    let e = c.args.ending.now in
    let peer = c.args.teller.now.peer in
    let found : waiting peer c.args.rp.1 (all_closed e.numbers k.pending).rows ≡ Some (row_of c.in-Some.row) =
    ap (λ (p : Pending (Item _)). waiting peer c.args.rp.1 (all_closed e.numbers p).rows) (sym c.requests.ensures.pending) ∙ c.in-Some.ensures in
    let says = c.in_ok-message.ensures ∙ ap (λ (f : ℕ). busy f c.in-Some.row.key.id) c.flags.ensures in
    on_ok_both c.answer.result (λ numbers outputs. busy_some k e c.answer.new.self peer c.args.rp (row_of c.in-Some.row) c.in_ok-message.message found says numbers outputs) c.answer.ensures.numbers c.answer.ensures.outputs
