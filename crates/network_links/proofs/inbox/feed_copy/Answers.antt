use Rattle.std.proofs.Common.{◌∙◌, ap}
use Rattle.pcep_framing.specs.Frames.{Framing}
use Rattle.pcep_framing.specs.Feeding.{feed_of}
use Rattle.pcep_framing.proofs.FeedLemmas.{feed_is}
use Rattle.network_links.proofs.inbox.feed_copy.Goals as goal

pub returns-clause-frames : goal.returns-clause-frames
returns-clause-frames c =
    (feed_is c.in_ok-next.next c.feed.new.self c.args.piece.now c.in_ok-fed.fed.frames c.in_ok-fed.ensures.ok).0
    ∙ ap (λ (f : Framing). (feed_of f c.args.piece.now).frames) c.in_ok-next.ensures

pub returns-clause-framing : goal.returns-clause-framing
returns-clause-framing c =
    (feed_is c.in_ok-next.next c.feed.new.self c.args.piece.now c.in_ok-fed.fed.frames c.in_ok-fed.ensures.ok).1
    ∙ ap (λ (f : Framing). (feed_of f c.args.piece.now).framing) c.in_ok-next.ensures
