-- The messages that elements and the parent write (RFC 5440, sections 6 and 7).
use Rattle.std.specs.Prelude.{ℕ, ◌+◌, Bool, true, false, List, [], ◌∷◌, ◌++◌, map, Option, Some, None}
use Rattle.plant_model.specs.Types.{As, Addr, Metric, Exclusion, Hop, Object, Body, Message, Asked, Answer, Wanted}
use Rattle.dom_base.specs.declared.addr.Addr.TheVariants.{V4, V6}
use Rattle.pcep_codes.specs.declared.classes.TheConstants as classes
use Rattle.pcep_codes.specs.declared.kinds.TheConstants as kinds
use Rattle.pcep_codes.specs.declared.flags.TheConstants as flags
use Rattle.pcep_codes.specs.declared.no_paths.TheConstants as no_paths
use Rattle.pcep_codes.specs.declared.notices.TheConstants as notices
use Rattle.pcep_subobjects.specs.declared.hop.Hop.TheVariants.{AsNumber}
use Rattle.pcep_objects.specs.declared.object.Body.TheVariants as bodies
use Rattle.pcep_messages.specs.declared.message.Message.TheVariants as messages
use Rattle.pcep_messages.specs.declared.message.Answer.TheVariants.{NoPath}
use Rattle.pcep_messages.specs.Requests.{type_of_metric}

abbrev pub as_hop : As → Hop
as_hop a = AsNumber false a

-- an object that must be taken into account
abbrev pub needed : ℕ → Body → Object
needed class b = record { class = class; kind = kinds.FIRST; must = true; body = b }

-- the type of END-POINTS (RFC 5440, section 7.6); both ends of a request are of one kind, so two kinds are never asked
abbrev pub ends_kind : Addr → Addr → ℕ
ends_kind (V6 m) (V6 n) = kinds.END_POINTS_IPV6
ends_kind (V6 m) (V4 n) = kinds.FIRST
ends_kind (V4 m) target = kinds.FIRST

abbrev pub ends : Addr → Addr → Object
ends source target = record { class = classes.END_POINTS; kind = ends_kind source target; must = true; body = bodies.EndPoints source target }

abbrev pub lspa : Option (ℕ × ℕ × ℕ) → List Object
lspa None = []
lspa (Some m) = needed classes.LSPA (bodies.Lspa m.0 m.1 m.2 0 0 0) ∷ []

abbrev pub bandwidth : Option ℕ → List Object
bandwidth None = []
bandwidth (Some word) = needed classes.BANDWIDTH (bodies.Bandwidth word) ∷ []

abbrev pub bound : Metric → Option ℕ → List Object
bound m None = []
bound m (Some word) = needed classes.METRIC (bodies.Metric true false (type_of_metric m) word) ∷ []

abbrev pub iro : List As → List Object
iro [] = []
iro (a ∷ rest) = needed classes.IRO (bodies.Iro (map as_hop (a ∷ rest))) ∷ []

abbrev pub xro : List Exclusion → List Object
xro [] = []
xro (x ∷ xs) = needed classes.XRO (bodies.Xro (x ∷ xs)) ∷ []

-- the flags of a request that is sent on (RFC 5441, section 4.1)
abbrev pub vspt_flag : ℕ
vspt_flag = flags.VSPT

-- A request as it is sent on, under an id, to an end and along a sequence. It has no sequence to the parent.
abbrev pub asked_of : ℕ → Wanted → Addr → List As → Asked
asked_of id w target sequence = record {
  objects = needed classes.RP (bodies.Rp vspt_flag id) ∷ ends w.source target ∷ []
      ++ lspa w.masks ++ bandwidth w.bandwidth_word ++ needed classes.METRIC (bodies.Metric false true (type_of_metric w.query.metric) 0) ∷ []
      ++ bound w.query.metric w.bound_word ++ iro sequence ++ xro w.query.exclusions;
}

abbrev pub request_message : ℕ → Wanted → Addr → List As → Message
request_message id w target sequence = messages.PcReq (asked_of id w target sequence ∷ [])

abbrev pub reply_message : ℕ → ℕ → Answer → Message
reply_message flags id answer = messages.PcRep (record { flags = flags; id = id; answer = answer } ∷ [])

abbrev pub notice_message : ℕ → ℕ → ℕ → ℕ → Message
notice_message flags id kind value = messages.PcNtf (record { ids = (flags, id) ∷ []; kinds = (kind, value) ∷ [] } ∷ [])

abbrev pub ids_of : Option (ℕ × ℕ) → List (ℕ × ℕ)
ids_of None = []
ids_of (Some rp) = rp ∷ []

abbrev pub error_message : Option (ℕ × ℕ) → ℕ → ℕ → Message
error_message rp kind value = messages.PcErr (record { ids = ids_of rp; errors = (kind, value) ∷ []; opening = None } ∷ [])

-- What is said of a request that tells nothing of paths: the chain is not available (RFC 5441, section 7).
abbrev pub unavailable : Answer
unavailable = NoPath no_paths.CHAIN_BROKEN no_paths.CHAIN_UNAVAILABLE

-- a key's expansion failed (RFC 5520, section 3.3)
abbrev pub no_key : Answer
no_key = NoPath no_paths.NONE_FOUND no_paths.KEY_FAILED

-- there is no path; the bits of an unknown source and an unknown end
abbrev pub no_path : Bool → Bool → Answer
no_path true true = NoPath no_paths.NONE_FOUND 0
no_path true false = NoPath no_paths.NONE_FOUND no_paths.UNKNOWN_TARGET
no_path false true = NoPath no_paths.NONE_FOUND no_paths.UNKNOWN_SOURCE
no_path false false = NoPath no_paths.NONE_FOUND (no_paths.UNKNOWN_SOURCE + no_paths.UNKNOWN_TARGET)

-- there is none between ends that are known
abbrev pub none_between : Answer
none_between = no_path true true

-- a full table, or too few free keys
abbrev pub busy : ℕ → ℕ → Message
busy flags id = notice_message flags id notices.BUSY.0 notices.BUSY.1
