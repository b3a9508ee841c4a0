-- The errors that elements and the parent send one another: a session's own names no request, one that names a request answers a reply
-- (PCErr 8/0), or the parent refuses a child's request between IPv6 addresses (PCErr 4/2), or a chain failed (PCErr 13/1), for an outside
-- peer that was asked does not serve the request. So no request between them has what the next does not serve (PCErr 4/4).
use Rattle.std.specs.Prelude.{◌≡◌, ◌≢◌, ℕ, List, [], ◌∷◌, Contains, Some, None}
use Rattle.plant_model.specs.Types.{As, Peer, Outside, Inner, ErrorReport, Message, Wanted, NetworkParts}
use Rattle.pcep_codes.specs.declared.errors.TheConstants as errors
use Rattle.pcep_codes.specs.declared.kinds.TheConstants as object_types
use Rattle.pcep_messages.specs.declared.message.Message.TheVariants as messages
use Rattle.plant_text.specs.Names.{parent_as}
use Rattle.plant_model.specs.declared.output.Output.{Output}
use Rattle.plant_model.specs.Wire.{Codec}
use Rattle.plant_model.specs.Writing.{request_message, error_message, ends_kind, vspt_flag}
use Rattle.plant_model.specs.State.{Takes}
use Rattle.plant_model.specs.Plant.{Plant, PlantDeed, Entry, deeds_of}
use Rattle.plant_laws.specs.Transcript.{Transcript, Within, SentIn, outputs_at}
use Rattle.plant_laws.specs.Matched.{Answering}
use Rattle.plant_laws.specs.MessageCauses.{IsOutOfProfile, Fails, failed}
use Rattle.plant_laws.specs.WentOn.{WentOn}
use Rattle.plant_laws.specs.Runs.{InShortRuns}

-- the parent takes the request id of a, for a path between IPv6 addresses
pub record AsksForIpv6 (a : As) (id : ℕ) (deed : PlantDeed) : Type 0 where
  pub wanted : Wanted
  pub os : List Output
  pub takes : deed ≡ Takes parent_as (Inner a) (request_message id wanted wanted.target []) os
  pub ipv6 : ends_kind wanted.source wanted.target ≡ object_types.END_POINTS_IPV6

-- that the chain of the request failed
abbrev pub chain_failed : ℕ → ℕ → Message
chain_failed flags id = error_message (Some (flags, id)) errors.CHAIN_FAILED.0 errors.CHAIN_FAILED.1

-- The request x of p went on from d to b under an id, and b said of this very request that its chain failed.
pub record HearsFailed (c : Codec) (older : Transcript) (d : As) (p : Peer) (x : ℕ) (b : As) : Type 0 where
  pub id : ℕ
  pub went : WentOn c older d p x (Inner b) id
  pub flags : ℕ
  pub deed : PlantDeed
  pub before : Transcript
  pub within : Within (deed ∷ before) older
  pub said : SentIn (deed ∷ before) b (Inner d) (chain_failed flags id)
  pub answering : Answering c d b id went.at deed before

-- why an element d told p in a moment that the chain of its request x failed
pub data Unserved (c : Codec) : As → Peer → ℕ → PlantDeed → Transcript → Type 0 where
  -- the outside peer to which it went on does not serve it, or its own chain failed
  outside : (d : As) (i : ℕ) (p : Peer) (x : ℕ) (older : Transcript) (reports : List ErrorReport) (error rp : ℕ × ℕ) (os : List Output) → Contains (failed reports) (Fails error rp) → IsOutOfProfile error → WentOn c older d p x (Outside i) rp.1 →
      Unserved c d p x (Takes d (Outside i) (messages.PcErr reports) os) older
  -- the next, to which it went on, said so of it, for a reason of its own
  further : (d b : As) (p : Peer) (x : ℕ) (older : Transcript) (os : List Output) → d ≢ parent_as → (hears : HearsFailed c older d p x b) → Unserved c b (Inner d) hears.id hears.deed hears.before →
      Unserved c d p x (Takes d (Inner b) (chain_failed hears.flags hears.id) os) older

-- an error that a deed of b tells a
pub data IsInnerError (c : Codec) (a b : As) (deed : PlantDeed) (older : Transcript) (m : Message) : Type 0 where
  names_none : (kind value : ℕ) → m ≡ error_message None kind value → IsInnerError c a b deed older m
  answers_reply : (rp : ℕ × ℕ) → m ≡ error_message (Some rp) errors.UNKNOWN_REQUEST.0 errors.UNKNOWN_REQUEST.1 → IsInnerError c a b deed older m
  refuses_ipv6 : (id : ℕ) → b ≡ parent_as → AsksForIpv6 a id deed → m ≡ error_message (Some (vspt_flag, id)) errors.KIND_NOT_SERVED.0 errors.KIND_NOT_SERVED.1 → IsInnerError c a b deed older m
  fails : (flags id : ℕ) → b ≢ parent_as → a ≢ parent_as → Unserved c b (Inner a) id deed older → m ≡ chain_failed flags id → IsInnerError c a b deed older m

-- In every run each error between two of them.
abbrev pub InnerErrorsIn : Codec → NetworkParts → List Entry → Plant → Type 0
InnerErrorsIn c n es s =
    (a b : As) (reports : List ErrorReport) (deed : PlantDeed) (older : Transcript) → Within (deed ∷ older) (deeds_of c n es) →
    Contains (outputs_at b deed) (record { to = Inner a; message = messages.PcErr reports }) → IsInnerError c a b deed older (messages.PcErr reports)

abbrev pub InnerErrors : Type 0
InnerErrors = InShortRuns InnerErrorsIn
