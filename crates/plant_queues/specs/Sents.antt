-- The messages of a step, in their bytes.
use Rattle.std.specs.Prelude.{◌≡◌, ◌≤◌, ℕ, ◌-◌, List, [], ◌∷◌, length, take, drop}
use Rattle.dom_base.specs.declared.names.As.{As}
use Rattle.dom_base.specs.declared.names.Peer.{Peer}
use Rattle.plant_queues.specs.declared.sent.Sent.{Sent}
use Rattle.plant_queues.specs.declared.said.MessageSpan.{MessageSpan}

abbrev pub sent_of : As → Peer → List ℕ → Sent
sent_of from to bytes = record { from = from; to = to; bytes = bytes }

-- how many bytes a message has
abbrev pub size_of : Sent → ℕ
size_of sent = length sent.bytes

abbrev pub sents : List ℕ → List MessageSpan → List Sent
sents bytes [] = []
sents bytes (p ∷ places) = sent_of p.from p.to (take (p.end - p.start) (drop p.start bytes)) ∷ sents bytes places

-- one begins where the other ends, from low to high
abbrev pub AreInRow : ℕ → List MessageSpan → ℕ → Type 0
AreInRow low [] high = low ≡ high
AreInRow low (p ∷ places) high = (p.start ≡ low) × (low ≤ p.end) × AreInRow p.end places high
