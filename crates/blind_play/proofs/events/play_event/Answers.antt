use Rattle.std.proofs.Common.{◌∙◌, ◌++◌, ℕ, Option, ap}
use Rattle.plant_network.specs.Blind.{whole}
use Rattle.blind_play.specs.Making.{told_of}
use Rattle.blind_play.proofs.TurnLemmas.{made_turn}
use Rattle.blind_play.proofs.events.play_event.Goals as goal

pub returns : goal.returns
returns c =
    let b0 = c.args.into.now.items in
    let answer = c.in_ok-answer.answer in
    let new = whole c.done.new.plant in
    made_turn c.args.line (whole c.args.plant.now) c.args.event answer new c.is_ok.result b0 c.write_heard.new.into.items
    c.in_ok-answer.ensures c.is_ok.ensures.value
    (c.in_ok-write_heard.ensures ∙ ap (λ (d : Option ℕ). b0 ++ told_of c.args.line new d answer) c.drainer_of-drainer.ensures)
