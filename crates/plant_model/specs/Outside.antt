-- What an element heeds of an outside peer's messages: of a reply to a request that it sent there, what sifting keeps.
use Rattle.std.specs.Prelude.{ℕ, ◌*◌, List, map, Option, Some, None}
use Rattle.plant_model.specs.Types.{Peer, Message, Reply}
use Rattle.pcep_messages.specs.declared.message.Message.TheVariants as messages
use Rattle.outside_part.specs.Sifting.{sifted}
use Rattle.plant_model.specs.Wire.{Codec}
use Rattle.plant_model.specs.Element.{Row, sent_through}

-- A path may have three hops for each domain that the request was sent on through: where it enters the domain, a path key
-- (RFC 5520, 3.1), and where it leaves it or ends. A reply for which nothing waits stays as it is, since it is refused.
abbrev pub heeded_by : Codec → Option ℕ → Reply → Reply
heeded_by c None r = r
heeded_by c (Some domains) r = sifted c.units c.word (3 * domains) r

abbrev pub heeded_in : Codec → (ℕ → Option ℕ) → Message → Message
heeded_in c sent (messages.PcRep replies) = messages.PcRep (map (λ (r : Reply). heeded_by c (sent r.id) r) replies)
heeded_in c sent m = m

-- what an element is given of a message of an outside peer, by its pending requests
abbrev pub heeded : {P : Type 0} → Codec → Peer → List (Row P) → Message → Message
heeded c p rows m = heeded_in c (λ id. sent_through p id rows) m
