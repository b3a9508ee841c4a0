use Rattle.std.proofs.Common.{◌≡◌, ◌∙◌, ◌==◌, ◌≤◌, ℕ, false, length, rules, ap}
use Rattle.pcep_messages.specs.declared.message.Answer.TheVariants.{Paths}
use Rattle.pce_common.specs.plant_model.Types.{Wanted}
use Rattle.pce_common.specs.plant_model.RealWire.{wire}
use Rattle.pce_common.specs.plant_model.Solving.{closed_paths}
use Rattle.pce_common.specs.plant_model.Writing.{reply_message}
use Rattle.pce_element.specs.Rows.{row_of}
use Rattle.pce_element.proofs.CommitLemmas.{closed_answers}
use Rattle.pce_element.proofs.EndLemmas.{if_ok_both}
use Rattle.pce_element.proofs.element.Element.answer_closed.Goals as goal

pub returns-clause-answers : goal.returns-clause-answers
returns-clause-answers g c =
    let s = c.args.self.now in
    let down = c.args.down.now in
    let best = c.args.best.now in
    let some : (length best == 0) ≡ false = search rules in
    let enough : length best ≤ c.free_keys-free.result = search rules in
    let are = c.in_ok-paths.ensures ∙ ap (λ (w : Wanted). closed_paths wire s.place.id w.query.metric w.target down s.losing.element.keys.next best) c.wanted-wanted.ensures in
    let says = c.in_ok-message-3.ensures ∙ ap (λ (f : ℕ). reply_message f c.args.row.now.key.id (Paths c.in_ok-paths.paths)) c.flags-flags.ensures in
    if_ok_both c.answered_to-2.result
    (λ a outputs segments. closed_answers g.W.World.stands s c.args.now.0 (row_of c.args.row.now) down best a c.free_keys-free.result c.in_ok-message-3.message c.in_ok-paths.paths some enough c.free_keys-free.ensures are says outputs (segments ∙ c.in_ok-segments_in.ensures))
    c.answered_to-2.ensures.outputs c.answered_to-2.ensures.segments
