-- The messages of a stream that is fed at once.
use Rattle.std.proofs.Common.{◌≡◌, ◌∙◌, ℕ, false, List, [], ap}
use Rattle.pcep_framing.specs.Frames.{FeedsTo, Framing}
use Rattle.pcep_framing.specs.Feeding.{feed_of}
use Rattle.pcep_framing.proofs.FeedLemmas.{feed_is}
use Rattle.plant_client.specs.Telling.{frames_of}

pub frames_are : (fresh new : Framing) (stream : List ℕ) (frames : List (List ℕ)) → fresh ≡ record { held = []; bad = false } → FeedsTo fresh stream frames new → frames ≡ frames_of stream
frames_are fresh new stream frames is feeds = (feed_is fresh new stream frames feeds).0 ∙ ap (λ (f : Framing). (feed_of f stream).frames) is
