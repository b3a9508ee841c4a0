use Rattle.std.proofs.Common.{◌≡◌, ◌∙◌, ap}
use Rattle.pcep_framing.specs.Frames.{Framing}
use Rattle.pcep_framing.specs.Feeding.{feed_of}
use Rattle.network_links.proofs.InboxLemmas.{brings_is}
use Rattle.network_links.proofs.inbox.arrive.Goals as goal

pub returns-clause-items : goal.returns-clause-items
returns-clause-items c =
    let step = c.in_ok-step in
    let bad : step.step.fed.bad ≡ (feed_of c.args.framer.now c.args.piece.now).framing.bad = step.ensures.bad ∙ ap (λ (f : Framing). f.bad) step.ensures.framing in
    c.in_ok-items.ensures ∙ brings_is c.args.piece.now c.args.framer.now step.step.fed.frames step.step.fed.bad step.ensures.frames bad
