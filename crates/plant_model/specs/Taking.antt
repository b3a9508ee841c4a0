-- An element takes a message (RFC 5440, sections 6.4 to 6.7; RFC 5441, section 5).
-- What each letter stands for is in docs/GLOSSARY.md, under Letters.
use Rattle.std.specs.Prelude.{ℕ, Bool, false, cond, ◌==◌, List, [], ◌∷◌, Option, Some, None}
use Rattle.plant_model.specs.Types.{As, Addr, Peer, Hop, Message, Asked, Reply, Notice, ErrorReport, Answer, Request, Wanted, Wish, Class}
use Rattle.pcep_codes.specs.declared.errors.TheConstants as errors
use Rattle.pcep_codes.specs.declared.notices.TheConstants as notices
use Rattle.pcep_codes.specs.declared.no_paths.TheConstants as no_paths
use Rattle.pcep_messages.specs.declared.message.Message.TheVariants as messages
use Rattle.pcep_messages.specs.declared.message.Answer.TheVariants.{Paths, NoPath}
use Rattle.pcep_messages.specs.declared.message.Wish.TheVariants.{Path, Expand}
use Rattle.request_table.specs.Pending.{number_of, opened_of, is_full, same_peer}
use Rattle.request_table.specs.Lends.{written_of}
use Rattle.path_keys.specs.Keys.{segment_of}
use Rattle.disclosure.specs.Policy.{is_denied, can_expand}
use Rattle.plant_model.specs.Names.{same_addr, the_parent, has_pair}
use Rattle.plant_model.specs.Wire.{Codec, Checked, Admitted, Wrong}
use Rattle.plant_model.specs.Writing.{request_message, reply_message, error_message, busy, unavailable, no_key}
use Rattle.plant_model.specs.Branches.{branches_in}
use Rattle.plant_model.specs.Routes.{toward}
use Rattle.plant_model.specs.Element.{Stage, Waits, Ready, Item, Row, Way, Element, ElementSettings, Taken, silent, only, each, ended, at_stage, waiting, fresh_id, way_to, with_last, is_client}

-- the domain sequence of a request: its own, or the element's domain alone
abbrev pub sequence_or : As → List As → List As
sequence_or own [] = own ∷ []
sequence_or own (a ∷ rest) = a ∷ rest

-- a client's request without a sequence goes to the parent, where the element has one
abbrev pub goes_up : Bool → Class → List As → Bool
goes_up parent class (a ∷ rest) = false
goes_up parent class [] = cond (is_client class) parent false

-- what an element sees of a message beside its text: what a request in it would pin, who sent it, and what that peer is to the domain
pub record Sight (P : Type 0) : Type 0 where
  pub pin : P
  pub peer : Peer
  pub class : Class

abbrev pub sight : {P : Type 0} → P → Peer → Class → Sight P
sight pin p class = record { pin = pin; peer = p; class = class }

-- what was asked: a path, by a request with these flags and this id
pub record Wanting : Type 0 where
  pub flags : ℕ
  pub id : ℕ
  pub wanted : Wanted

abbrev pub wanting : ℕ → ℕ → Wanted → Wanting
wanting flags x w = record { flags = flags; id = x; wanted = w }

abbrev pub item_of : {P : Type 0} → P → Class → ℕ → Wanted → List As → Stage → Item P
item_of pin class flags w sequence stage = record { class = class; flags = flags; wanted = w; sequence = sequence; pin = pin; stage = stage }

-- the request waits on a peer, to which it was sent under a new id
abbrev pub sent_on : {P : Type 0} {S : Type 0} → Sight P → Wanting → List As → List As → Element P S → Way → Taken P S
sent_on seen a sequence rest k way =
    let y = fresh_id way.peer way.last_id k.pending.rows in
    record {
      element = record k {
        pending = opened_of k.pending seen.peer a.id (item_of seen.pin seen.class a.flags a.wanted sequence (Waits way.peer y));
        ways = with_last way.peer y k.ways;
      };
      outputs = record { to = way.peer; message = request_message y a.wanted a.wanted.target rest } ∷ [];
    }

abbrev pub denied : {P : Type 0} {S : Type 0} → Peer → ℕ → ℕ → Element P S → Taken P S
denied p flags x k = only p (reply_message flags x unavailable) k

-- by the way there, where there is one
abbrev pub send_on : {P : Type 0} {S : Type 0} → Sight P → Wanting → List As → List As → Bool → Element P S → Option Way → Taken P S
send_on seen a sequence rest refused k None = denied seen.peer a.flags a.id k
send_on seen a sequence rest refused k (Some way) =
    cond way.up
    (cond refused (denied seen.peer a.flags a.id k) (sent_on seen a sequence rest k way))
    (denied seen.peer a.flags a.id k)

-- along a sequence that begins with the own domain
abbrev pub take_along : {P : Type 0} {S : Type 0} → ElementSettings → Sight P → Wanting → Element P S → List As → Taken P S
take_along e seen a k [] = denied seen.peer a.flags a.id k
take_along e seen a k (own ∷ []) =
    silent (record k { pending = opened_of k.pending seen.peer a.id (item_of seen.pin seen.class a.flags a.wanted (own ∷ []) (Ready [])) })
take_along e seen a k (own ∷ next ∷ rest) =
    send_on seen a (own ∷ next ∷ rest) (next ∷ rest) (is_denied e.deny seen.class next) k (way_to (toward next e.routes) k.ways)

abbrev pub take_path : {P : Type 0} {S : Type 0} → ElementSettings → Sight P → Wanting → Element P S → Taken P S
take_path e seen a k =
    cond (goes_up e.parent seen.class a.wanted.sequence)
    (send_on seen a [] [] false k (way_to the_parent k.ways))
    (take_along e seen a k (sequence_or e.own a.wanted.sequence))

-- A key's expansion (RFC 5520, section 3.2): what the key stands for is shown, or one and the same refusal.
abbrev pub expansion_of : {S : Type 0} → (S → List Hop) → Option S → Answer
expansion_of show None = no_key
expansion_of show (Some stands) = Paths (record { hops = show stands; metric = None } ∷ [])

abbrev pub expansion : {P : Type 0} {S : Type 0} → (S → List Hop) → ElementSettings → Class → ℕ → ℕ → Addr → Element P S → Answer
expansion show e class now key pce k =
    cond (same_addr pce e.id) (cond (can_expand class) (expansion_of show (segment_of k.keys now key)) no_key) no_key

abbrev pub take_wish : {P : Type 0} {S : Type 0} → (S → List Hop) → ElementSettings → Sight P → ℕ → ℕ → ℕ → Element P S → Wish → Taken P S
take_wish show e seen now flags x k (Path w) =
    cond (is_full k.pending) (only seen.peer (busy flags x) k) (take_path e seen (wanting flags x w) k)
take_wish show e seen now flags x k (Expand key pce) = only seen.peer (reply_message flags x (expansion show e seen.class now key pce k)) k

-- a request that is pending already is answered once only
abbrev pub take_new : {P : Type 0} {S : Type 0} → (S → List Hop) → ElementSettings → P → Peer → Class → ℕ → Request → Element P S → Option ℕ → Taken P S
take_new show e pin p class now r k (Some number) = silent k
take_new show e pin p class now r k None = take_wish show e (sight pin p class) now r.flags r.id k r.wish

abbrev pub take_checked : {P : Type 0} {S : Type 0} → (S → List Hop) → ElementSettings → P → Peer → Class → ℕ → Element P S → Checked → Taken P S
take_checked show e pin p class now k (Wrong rp kind value) = only p (error_message rp kind value) k
take_checked show e pin p class now k (Admitted r) = take_new show e pin p class now r k (number_of k.pending p r.id)

abbrev pub take_asked : {P : Type 0} {S : Type 0} → Codec → (S → List Hop) → ElementSettings → P → Peer → Class → ℕ → Asked → Element P S → Taken P S
take_asked c show e pin p class now a k = take_checked show e pin p class now k (c.check a e.own)

-- the asker of a request gets an answer, and the request ends
abbrev pub answered : {P : Type 0} {S : Type 0} → Row P → Message → Element P S → Taken P S
answered h m k = only h.1.key.peer m (ended h.0 k)

-- the request of the row at another stage
abbrev pub staged : {P : Type 0} {S : Type 0} → Row P → Stage → Element P S → Element P S
staged h stage k = record k { pending = written_of k.pending h.0 (at_stage stage h.1.item) }

abbrev pub made_ready : {P : Type 0} {S : Type 0} → Codec → Row P → Answer → Element P S → Taken P S
made_ready c h (Paths ps) k = silent (staged h (Ready (branches_in c h.1.item.wanted.query.metric ps)) k)
made_ready c h (NoPath nature vector) k =
    cond (nature == no_paths.NONE_FOUND)
    (silent (staged h (Ready []) k))
    (answered h (reply_message h.1.item.flags h.1.key.id unavailable) k)

-- A reply to a request that waits. The parent's is passed on as it is.
abbrev pub take_answer : {P : Type 0} {S : Type 0} → Codec → Peer → Reply → Element P S → Option (Row P) → Taken P S
take_answer c p r k None = only p (error_message (Some (r.flags, r.id)) errors.UNKNOWN_REQUEST.0 errors.UNKNOWN_REQUEST.1) k
take_answer c p r k (Some h) =
    cond (same_peer p the_parent) (answered h (reply_message h.1.item.flags h.1.key.id r.answer) k) (made_ready c h r.answer k)

abbrev pub take_reply : {P : Type 0} {S : Type 0} → Codec → Peer → Reply → Element P S → Taken P S
take_reply c p r k = take_answer c p r k (waiting p r.id k.pending.rows)

-- the next has no room, or the peer cancels
abbrev pub told_busy : {P : Type 0} {S : Type 0} → Element P S → Option (Row P) → Taken P S
told_busy k None = silent k
told_busy k (Some h) = answered h (busy h.1.item.flags h.1.key.id) k

abbrev pub cancelled : {P : Type 0} {S : Type 0} → Element P S → Option ℕ → Taken P S
cancelled k None = silent k
cancelled k (Some number) = silent (ended number k)

abbrev pub take_busy : {P : Type 0} {S : Type 0} → Peer → ℕ × ℕ → Element P S → Taken P S
take_busy p rp k = told_busy k (waiting p rp.1 k.pending.rows)

abbrev pub take_cancel : {P : Type 0} {S : Type 0} → Peer → ℕ × ℕ → Element P S → Taken P S
take_cancel p rp k = cancelled k (number_of k.pending p rp.1)

-- the steps of one id of a notice, in order
abbrev pub notice_steps : {P : Type 0} {S : Type 0} → List (ℕ × ℕ) → List (Peer → ℕ × ℕ → Element P S → Taken P S)
notice_steps kinds =
    cond (has_pair notices.BUSY.0 notices.BUSY.1 kinds)
    (cond (has_pair notices.CANCELLED.0 notices.CANCELLED.1 kinds) (take_busy ∷ take_cancel ∷ []) (take_busy ∷ []))
    (cond (has_pair notices.CANCELLED.0 notices.CANCELLED.1 kinds) (take_cancel ∷ []) [])

abbrev pub take_notice : {P : Type 0} {S : Type 0} → Peer → Notice → Element P S → Taken P S
take_notice p n = each (λ rp. each (λ step. step p rp) (notice_steps n.kinds)) n.ids

-- What the asker is told of an error of the next: for a request out of the profile, that; for an error that answers a reply, nothing;
-- else that the chain is not available.
abbrev pub error_answer : ℕ × ℕ → ℕ → ℕ → List Message
error_answer e flags x =
    cond (has_pair errors.UNKNOWN_REQUEST.0 errors.UNKNOWN_REQUEST.1 (e ∷ [])) []
    (cond (has_pair e.0 e.1 (errors.PARAMETER_NOT_SERVED ∷ errors.CHAIN_FAILED ∷ []))
    (error_message (Some (flags, x)) errors.CHAIN_FAILED.0 errors.CHAIN_FAILED.1 ∷ [])
    (reply_message flags x unavailable ∷ []))

abbrev pub told_error : {P : Type 0} {S : Type 0} → Row P → Element P S → List Message → Taken P S
told_error h k [] = silent k
told_error h k (m ∷ ms) = answered h m k

abbrev pub take_failure : {P : Type 0} {S : Type 0} → ℕ × ℕ → Element P S → Option (Row P) → Taken P S
take_failure e k None = silent k
take_failure e k (Some h) = told_error h k (error_answer e h.1.item.flags h.1.key.id)

abbrev pub take_errors : {P : Type 0} {S : Type 0} → Peer → List (ℕ × ℕ) → List (ℕ × ℕ) → Element P S → Taken P S
take_errors p ids [] = silent
take_errors p ids (e ∷ es) = each (λ rp k. take_failure e k (waiting p rp.1 k.pending.rows)) ids

abbrev pub take_report : {P : Type 0} {S : Type 0} → Peer → ErrorReport → Element P S → Taken P S
take_report p r = take_errors p r.ids r.errors

-- What an element does with a message that its session passes. The show gives the hops that a key stands for, and the pin is that
-- of the current topology. The session takes the last four itself, so they are never asked.
abbrev pub take : {P : Type 0} {S : Type 0} → Codec → (S → List Hop) → ElementSettings → P → Peer → Class → ℕ → Message → Element P S → Taken P S
take c show e pin p class now (messages.PcReq asks) = each (take_asked c show e pin p class now) asks
take c show e pin p class now (messages.PcRep replies) = each (take_reply c p) replies
take c show e pin p class now (messages.PcNtf notices) = each (take_notice p) notices
take c show e pin p class now (messages.PcErr reports) = each (take_report p) reports
take c show e pin p class now (messages.Open body) = silent
take c show e pin p class now messages.Keepalive = silent
take c show e pin p class now (messages.Close reason) = silent
take c show e pin p class now (messages.Other kind) = silent
