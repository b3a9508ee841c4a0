-- A message: version, flags, type and length, and objects (RFC 5440, 6.1).
use Rattle.std.specs.Prelude.{◌≡◌, ℕ, ◌+◌, ◌*◌, ◌/◌, List, ◌∷◌, length, map, Option, Some, None, Result, Ok, Err, IsOk, nat_le, ◌==◌, ◌&&◌, if◌then◌else◌}
use Rattle.std.specs.List.{filter_map}
use Rattle.dom_base.specs.Parts.{Reader, parts_from}
use Rattle.pcep_codes.specs.declared.TheConstants.{VERSION}
use Rattle.pcep_codes.specs.declared.messages.TheConstants as types
use Rattle.pcep_objects.specs.declared.object.Body.{Body}
use Rattle.pcep_objects.specs.declared.object.Body.TheVariants as bodies
use Rattle.pcep_objects.specs.declared.object.Object.{Object}
use Rattle.pcep_objects.specs.declared.object.ObjectFault.{ObjectFault}
use Rattle.pcep_objects.specs.Objects.{object_at}
use Rattle.pcep_messages.specs.declared.message.Message.{Message}
use Rattle.pcep_messages.specs.declared.message.Message.TheVariants as messages
use Rattle.pcep_messages.specs.declared.message.Bad.{Bad}
use Rattle.pcep_messages.specs.declared.message.Bad.TheVariants.{Malformed, NoMemory}
use Rattle.pcep_messages.specs.Groups.{opening_in, asked_of, requests_of, reply_groups, reply_of, report_groups, notice_of, report_of}

-- an object of a message; at fault in any way it makes the message malformed at its place
abbrev pub placed : Result (Object × ℕ) (ℕ → ObjectFault) → Result (Object × ℕ) (ℕ → Bad)
placed (Ok x) = Ok x
placed (Err fault) = Err Malformed

abbrev pub member_at : Reader Object Bad
member_at bytes = placed (object_at bytes)

-- the objects behind the header, from place 4 on
abbrev pub members_of : List ℕ → Result (List Object) Bad
members_of bytes = parts_from member_at 4 0 bytes

abbrev pub close_in : Body → Option ℕ
close_in (bodies.Close reason) = Some reason
close_in _ = None

-- a message made by its first object, which has to be of its kind; the other objects are no part of it
abbrev pub alone : Message → Result (List Object) Bad → Result Message Bad
alone message (Ok os) = Ok message
alone message (Err e) = Err e

abbrev pub of_its_kind : {X : Type 0} → (X → Message) → Option X → Result (List Object) Bad → Result Message Bad
of_its_kind message (Some x) others = alone (message x) others
of_its_kind message None others = Err (Malformed 4)

-- the content of the first object
abbrev pub said_at_first : {X : Type 0} → (Body → Option X) → Result (Object × ℕ) (ℕ → ObjectFault) → Option X
said_at_first what (Ok x) = what x.0.body
said_at_first what (Err fault) = None

abbrev pub made_by_first : {X : Type 0} → (Body → Option X) → (X → Message) → Result (Object × ℕ) (ℕ → ObjectFault) → Result (List Object) Bad → Result Message Bad
made_by_first what message first all = of_its_kind message (said_at_first what first) all

-- a message made by all its objects
abbrev pub made_of : ℕ → List Object → Message
made_of kind os =
    if kind == types.PCREQ then messages.PcReq (map asked_of (requests_of os))
    else (if kind == types.PCREP then messages.PcRep (filter_map reply_of (reply_groups os))
    else (if kind == types.PCNTF then messages.PcNtf (map notice_of (report_groups os))
    else (if kind == types.PCERR then messages.PcErr (map report_of (report_groups os))
    else messages.Keepalive)))

abbrev pub made_by_all : ℕ → Result (List Object) Bad → Result Message Bad
made_by_all kind (Ok os) = Ok (made_of kind os)
made_by_all kind (Err e) = Err e

-- The types: 1 Open, 2 Keepalive, 3 PCReq, 4 PCRep, 5 PCNtf, 6 PCErr, 7 Close (9.2). Of every other the content is not read.
abbrev pub content_of : ℕ → List ℕ → Result Message Bad
content_of kind bytes =
    if kind == types.OPEN then made_by_first opening_in messages.Open (object_at bytes) (members_of bytes)
    else (if kind == types.CLOSE then made_by_first close_in messages.Close (object_at bytes) (members_of bytes)
    else (if nat_le types.KEEPALIVE kind && nat_le kind types.PCERR then made_by_all kind (members_of bytes)
    else Ok (messages.Other kind)))

-- The message that a frame is, or the place at fault. The length in the header is that of the frame.
abbrev pub message_of : List ℕ → Result Message Bad
message_of (first ∷ kind ∷ high ∷ low ∷ bytes) =
    if first / 32 == VERSION then (if 256 * high + low == length bytes + 4 then content_of kind bytes else Err (Malformed 0)) else Err (Malformed 0)
message_of _ = Err (Malformed 0)

-- the frame is read as this message
abbrev pub Reads : List ℕ → Message → Type 0
Reads frame m = message_of frame ≡ Ok m

-- A call answered what is read. It answers "out of memory" only where there is no fault.
abbrev pub Gives : {X : Type 0} → Result X Bad → Result X Bad → Type 0
Gives (Ok x) read = read ≡ Ok x
Gives (Err NoMemory) read = IsOk read
Gives (Err (Malformed place)) read = read ≡ Err (Malformed place)

-- The place of the first object at fault, if one is.
abbrev pub NamesFault : Option ℕ → Result (List Object) Bad → Type 0
NamesFault None read = IsOk read
NamesFault (Some place) read = read ≡ Err (Malformed place)
