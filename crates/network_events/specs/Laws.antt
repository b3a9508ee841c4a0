-- How many requests of a peer are pending at a member, from change to change.
use Rattle.std.specs.Prelude.{◌≤◌, ℕ, ◌+◌, Bool, cond, List}
use Rattle.pce_common.specs.plant_model.Types.{As, Peer, Hop, Message, NetworkParts}
use Rattle.plant_text.specs.Names.{same_as}
use Rattle.pce_common.specs.plant_model.Wire.{Codec}
use Rattle.pce_common.specs.plant_model.Plant.{Pin, Segment}
use Rattle.pce_common.specs.Membership.{Membership, given}
use Rattle.pce_common.specs.Owed.{count_at, asked_in}

abbrev pub MessageRaises : Type 0
MessageRaises = (test : Peer → Bool) (c : Codec) (n : NetworkParts) (show : Segment → List Hop) (at d : As) (p : Peer) (now : ℕ) (m : Message) (ms : Membership Pin Segment) →
    count_at test d (given c n show at p now m ms).members ≤ count_at test d ms + cond (same_as at d) (cond (test p) (asked_in m) 0) 0
