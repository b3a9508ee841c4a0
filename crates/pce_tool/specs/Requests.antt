-- What commands read, as hexadecimal text: one path request within the topology's own domain, or two for a pair within it.
use Rattle.std.specs.Prelude.{◌≡◌, ◌⊎◌, ◌≤◌, ℕ, true, List, [], ◌∷◌, length, Option, Some, None, Result, Ok, Err}
use Rattle.client_laws.specs.plant_model.Types.{Message, Asked, Wish}
use Rattle.pcep_messages.specs.declared.message.Message.TheVariants as messages
use Rattle.pcep_messages.specs.declared.message.Bad.TheVariants.{Malformed}
use Rattle.pcep_messages.specs.declared.message.Wish.TheVariants as wishes
use Rattle.pcep_messages.specs.Messages.{message_of}
use Rattle.pcep_messages.specs.Said.{rp_of, iro_of, asks_key}
use Rattle.pcep_messages.specs.Refusals.{refusal_of}
use Rattle.pcep_messages.specs.Requests.{Asks, sequence_of}
use Rattle.line_text.specs.Hexadecimal.{hex_bytes}
use Rattle.one_domain.specs.declared.replying.PathRequest.{PathRequest}
use Rattle.diverse_pairs.specs.declared.asking.Pair.{Pair}
use Rattle.diverse_pairs.specs.Asking.{AskPair, first_refusal}
use Rattle.pce_tool.specs.declared.pair_reading.PairRequest.{PairRequest}
use Rattle.pce_tool.specs.declared.reading.RequestError.{RequestError}
use Rattle.pce_tool.specs.declared.reading.RequestError.TheVariants as errors
use Rattle.pce_tool.specs.declared.reading.Why.{Why}
use Rattle.pce_tool.specs.declared.reading.Why.TheVariants as whys

-- the text spells a message
pub record Spells (text : List ℕ) (m : Message) : Type 0 where
  pub frame : List ℕ
  pub is_hex : hex_bytes text ≡ Some frame
  pub is_message : message_of frame ≡ Ok m

-- the request of a PCReq that has just one
abbrev pub one_request : Message → Option Asked
one_request (messages.PcReq (asked ∷ [])) = Some asked
one_request _ = None

-- the text spells one request
pub record SpellsRequest (text : List ℕ) (asked : Asked) : Type 0 where
  pub message : Message
  pub spells : Spells text message
  pub is_one : one_request message ≡ Some asked

-- the text is a request for a path that stays in the domain: it names no sequence of domains, or the own one alone
pub record IsPathRequest (own : ℕ) (text : List ℕ) (r : PathRequest) : Type 0 where
  pub asked : Asked
  pub spells : SpellsRequest text asked
  pub asks : Asks own asked.objects (record { flags = r.flags; id = r.id; wish = wishes.Path r.wanted })
  pub stays : length r.wanted.sequence ≤ 1

-- what one domain alone does not serve: what a path key stands for, or a path through further domains
abbrev pub GoesOn : Wish → Type 0
GoesOn (wishes.Path w) = 2 ≤ length w.sequence
GoesOn (wishes.Expand key pce) = Unit {0}

-- the request is admitted, but asks what a path key stands for, or for a path through further domains
pub record IsNotBuilt (own : ℕ) (asked : Asked) : Type 0 where
  pub admitted : refusal_of own asked.objects ≡ None
  pub beyond : (asks_key (rp_of asked.objects) ≡ true) ⊎ (2 ≤ length (sequence_of (iro_of asked.objects)))

-- Why a text is no such request, the first that applies: it is no hexadecimal; the bytes are no message; the message is no PCReq
-- with one request; the request is refused with an error; it is not built.
abbrev pub IsWhy : ℕ → List ℕ → Why → Type 0
IsWhy own text whys.Hex = hex_bytes text ≡ None
IsWhy own text whys.Malformed = (frame : List ℕ) × (place : ℕ) × (hex_bytes text ≡ Some frame) × (message_of frame ≡ Err (Malformed place))
IsWhy own text whys.NotRequest = (m : Message) × Spells text m × (one_request m ≡ None)
IsWhy own text (whys.Refused kind value) = (asked : Asked) × SpellsRequest text asked × (refusal_of own asked.objects ≡ Some (kind, value))
IsWhy own text whys.NotBuilt = (asked : Asked) × SpellsRequest text asked × IsNotBuilt own asked

-- ---- two requests for a pair

-- two requests for one path, with the numbers of both
abbrev pub pair_with : PairRequest → Pair
pair_with r = record {
  first = record { flags = r.flags; id = r.first; wish = wishes.Path r.wanted };
  second = record { flags = r.flags; id = r.second; wish = wishes.Path r.wanted };
}

-- the text spells a PCReq with these requests
abbrev pub SpellsRequests : List ℕ → List Asked → Type 0
SpellsRequests text asked = Spells text (messages.PcReq asked)

-- the text asks for a pair within the domain
pub record IsPairRequest (own : ℕ) (text : List ℕ) (r : PairRequest) : Type 0 where
  pub asked : List Asked
  pub spells : SpellsRequests text asked
  pub ask : AskPair own asked (pair_with r)

abbrev pub IsRequests : Message → Type 0
IsRequests (messages.PcReq asked) = Unit {0}
IsRequests _ = ⊥

-- Why a text asks for no such pair, the first that applies: it is no hexadecimal; the bytes are no message; the message is no PCReq;
-- the first or the second request is refused with an error; a pair is not what they ask for.
abbrev pub IsPairWhy : ℕ → List ℕ → Why → Type 0
IsPairWhy own text whys.NotRequest = (m : Message) × Spells text m × (¬ IsRequests m)
IsPairWhy own text (whys.Refused kind value) = (asked : List Asked) × SpellsRequests text asked × (first_refusal own asked ≡ Some (kind, value))
IsPairWhy own text whys.NotBuilt = (asked : List Asked) × SpellsRequests text asked × (first_refusal own asked ≡ None) × ((p : Pair) → ¬ AskPair own asked p)
IsPairWhy own text whys.Hex = hex_bytes text ≡ None
IsPairWhy own text whys.Malformed = (frame : List ℕ) × (place : ℕ) × (hex_bytes text ≡ Some frame) × (message_of frame ≡ Err (Malformed place))

-- the answer of reading a text, unless memory runs out
abbrev pub ReadsPair : ℕ → List ℕ → Result PairRequest RequestError → Type 0
ReadsPair own text (Ok r) = IsPairRequest own text r
ReadsPair own text (Err (errors.Not why)) = IsPairWhy own text why
ReadsPair own text (Err errors.NoMemory) = Unit {0}

-- ---- what is read

-- the message that a text spells, or why it spells none
abbrev pub ReadsMessage : List ℕ → Result Message RequestError → Type 0
ReadsMessage text (Ok m) = Spells text m
ReadsMessage text (Err (errors.Not whys.Hex)) = hex_bytes text ≡ None
ReadsMessage text (Err (errors.Not whys.Malformed)) = (frame : List ℕ) × (place : ℕ) × (hex_bytes text ≡ Some frame) × (message_of frame ≡ Err (Malformed place))
ReadsMessage text (Err errors.NoMemory) = Unit {0}
ReadsMessage text (Err _) = ⊥

-- the answer of reading a text, unless memory runs out
abbrev pub ReadsRequest : ℕ → List ℕ → Result PathRequest RequestError → Type 0
ReadsRequest own text (Ok r) = IsPathRequest own text r
ReadsRequest own text (Err (errors.Not why)) = IsWhy own text why
ReadsRequest own text (Err errors.NoMemory) = Unit {0}
