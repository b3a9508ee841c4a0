-- The one spelling of a message, by its objects (RFC 5440, 6.2 to 6.8). P is set in the RP of a reply and in nothing else
-- but what a request says itself.
use Rattle.std.specs.Prelude.{◌≡◌, ℕ, ◌+◌, ◌*◌, ◌≤◌, Bool, true, false, List, [], ◌∷◌, ◌++◌, length, map, Option, Some, None, IsSome}
use Rattle.std.specs.List.{flat_map, AllByRecursion, list_any}
use Rattle.std.specs.Int.{w16, to_be_bytes}
use Rattle.pcep_codes.specs.declared.TheConstants.{VERSION}
use Rattle.pcep_codes.specs.declared.messages.TheConstants as types
use Rattle.pcep_codes.specs.declared.classes.TheConstants as classes
use Rattle.pcep_codes.specs.declared.kinds.TheConstants as kinds
use Rattle.pcep_subobjects.specs.Subobjects.{AreOctets}
use Rattle.pcep_objects.specs.declared.object.Body.{Body}
use Rattle.pcep_objects.specs.declared.object.Body.TheVariants as bodies
use Rattle.pcep_objects.specs.declared.object.Object.{Object}
use Rattle.pcep_objects.specs.declared.object.OpenBody.{OpenBody}
use Rattle.pcep_objects.specs.Spelling.{object_text}
use Rattle.pcep_objects.specs.Spelling as objects
use Rattle.pcep_messages.specs.declared.message.Message.{Message}
use Rattle.pcep_messages.specs.declared.message.Message.TheVariants as messages
use Rattle.pcep_messages.specs.declared.message.Asked.{Asked}
use Rattle.pcep_messages.specs.declared.message.Reply.{Reply}
use Rattle.pcep_messages.specs.declared.message.Answer.{Answer}
use Rattle.pcep_messages.specs.declared.message.Answer.TheVariants as answers
use Rattle.pcep_messages.specs.declared.message.Path.{Path}
use Rattle.pcep_messages.specs.declared.message.Notice.{Notice}
use Rattle.pcep_messages.specs.declared.message.ErrorReport.{ErrorReport}
use Rattle.pcep_messages.specs.Messages.{Reads}
use Rattle.pcep_messages.specs.Groups.{is_rp}

-- an object of the first type of its class
abbrev pub first_kind : ℕ → Bool → Body → Object
first_kind class must body = record { class = class; kind = kinds.FIRST; must = must; body = body }

-- one with P clear
abbrev pub plain : ℕ → Body → Object
plain class body = first_kind class false body

abbrev pub opening_object : OpenBody → Object
opening_object opening = plain classes.OPEN (bodies.Open opening)

abbrev pub id_object : ℕ × ℕ → Object
id_object id = plain classes.RP (bodies.Rp id.0 id.1)

abbrev pub metric_objects : Option (ℕ × ℕ) → List Object
metric_objects None = []
metric_objects (Some m) = plain classes.METRIC (bodies.Metric false false m.0 m.1) ∷ []

abbrev pub path_objects : Path → List Object
path_objects p = plain classes.ERO (bodies.Ero p.hops) ∷ metric_objects p.metric

abbrev pub answer_objects : Answer → List Object
answer_objects (answers.Paths paths) = flat_map path_objects paths
answer_objects (answers.NoPath nature vector) = plain classes.NO_PATH (bodies.NoPath nature vector) ∷ []

abbrev pub reply_objects : Reply → List Object
reply_objects r = first_kind classes.RP true (bodies.Rp r.flags r.id) ∷ answer_objects r.answer

abbrev pub kind_object : ℕ × ℕ → Object
kind_object k = plain classes.NOTIFICATION (bodies.Notification k.0 k.1)

abbrev pub error_object : ℕ × ℕ → Object
error_object k = plain classes.PCEP_ERROR (bodies.Error k.0 k.1)

abbrev pub notice_objects : Notice → List Object
notice_objects n = map id_object n.ids ++ map kind_object n.kinds

abbrev pub opening_objects : Option OpenBody → List Object
opening_objects None = []
opening_objects (Some opening) = opening_object opening ∷ []

-- the OPEN behind the errors (RFC 5440, 6.7)
abbrev pub report_objects : ErrorReport → List Object
report_objects r = map id_object r.ids ++ map error_object r.errors ++ opening_objects r.opening

abbrev pub kind_of : Message → ℕ
kind_of (messages.Open opening) = types.OPEN
kind_of messages.Keepalive = types.KEEPALIVE
kind_of (messages.PcReq asked) = types.PCREQ
kind_of (messages.PcRep replies) = types.PCREP
kind_of (messages.PcNtf notices) = types.PCNTF
kind_of (messages.PcErr reports) = types.PCERR
kind_of (messages.Close reason) = types.CLOSE
kind_of (messages.Other kind) = kind

abbrev pub objects_in : Message → List Object
objects_in (messages.Open opening) = opening_object opening ∷ []
objects_in messages.Keepalive = []
objects_in (messages.PcReq asked) = flat_map (λ (a : Asked). a.objects) asked
objects_in (messages.PcRep replies) = flat_map reply_objects replies
objects_in (messages.PcNtf notices) = flat_map notice_objects notices
objects_in (messages.PcErr reports) = flat_map report_objects reports
objects_in (messages.Close reason) = plain classes.CLOSE (bodies.Close reason) ∷ []
objects_in (messages.Other kind) = []

abbrev pub objects_text : List Object → List ℕ
objects_text os = flat_map object_text os

abbrev pub content_text : Message → List ℕ
content_text m = objects_text (objects_in m)

abbrev pub message_text : Message → List ℕ
message_text m = VERSION * 32 ∷ kind_of m ∷ to_be_bytes w16 (length (content_text m) + 4) ++ content_text m

-- ---- what is written and read again

-- a list that makes a message has a part
abbrev pub HasPart : {X : Type 0} → List X → Type 0
HasPart xs = 1 ≤ length xs

-- a request begins with its only RP
abbrev pub BeginsRequest : List Object → Type 0
BeginsRequest [] = ⊥
BeginsRequest (o ∷ os) = (is_rp o ≡ true) × (list_any is_rp os ≡ false)

-- every path has a METRIC, or there is one path alone
abbrev pub AreMeasured : Answer → Type 0
AreMeasured (answers.NoPath nature vector) = Unit {0}
AreMeasured (answers.Paths paths) = OneOrMeasured paths
  where
    OneOrMeasured : List Path → Type 0
    OneOrMeasured (p ∷ []) = Unit {0}
    OneOrMeasured ps = AllByRecursion (λ (p : Path). IsSome p.metric) ps

-- each part behind the first has an id
abbrev pub OthersHaveIds : {X : Type 0} → (X → List (ℕ × ℕ)) → List X → Type 0
OthersHaveIds ids [] = ⊥
OthersHaveIds ids (x ∷ xs) = AllByRecursion (λ y. HasPart (ids y)) xs

abbrev pub HasShape : Message → Type 0
HasShape (messages.PcReq asked) = HasPart asked × AllByRecursion (λ (a : Asked). BeginsRequest a.objects) asked
HasShape (messages.PcRep replies) = HasPart replies × AllByRecursion (λ (r : Reply). AreMeasured r.answer) replies
HasShape (messages.PcNtf notices) = OthersHaveIds (λ (n : Notice). n.ids) notices × AllByRecursion (λ (n : Notice). HasPart n.kinds) notices
HasShape (messages.PcErr reports) = OthersHaveIds (λ (r : ErrorReport). r.ids) reports × AllByRecursion (λ (r : ErrorReport). HasPart r.errors) reports
HasShape (messages.Other kind) = ⊥
HasShape _ = Unit {0}

-- a message that is read again from its spelling
pub record IsWritten (m : Message) : Type 0 where
  pub shape : HasShape m
  pub objects : AllByRecursion objects.IsWritten (objects_in m)
  pub small : length (message_text m) ≤ 65532

-- ---- laws

-- What was written is read again.
abbrev pub WrittenIsRead : Type 0
WrittenIsRead = (m : Message) → IsWritten m → Reads (message_text m) m

-- The text of no message begins that of another.
abbrev pub NoneBeginsAnother : Type 0
NoneBeginsAnother = (x y : Message) (rest : List ℕ) → IsWritten x → IsWritten y → message_text x ++ rest ≡ message_text y → x ≡ y

-- What is written is octets.
abbrev pub WrittenIsOctets : Type 0
WrittenIsOctets = (m : Message) → IsWritten m → AreOctets (message_text m)
