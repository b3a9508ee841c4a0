-- What a session does on each input, a row for each case (RFC 5440, sections 6.9 and 7.3 and appendix A; the messages of
-- stateful sessions, 10 and 11: RFC 8231, sections 5.4 and 6).
use Rattle.std.specs.Prelude.{◌==◌, ◌&&◌, not, nat_le, ℕ, ◌+◌, Bool, true, false, max, List, [], ◌∷◌, Option, Some, None, if◌then◌else◌}
use Rattle.dom_base.specs.declared.names.Tick.{Tick}
use Rattle.pcep_objects.specs.declared.offer.Offer.{Offer}
use Rattle.pcep_codes.specs.declared.TheConstants.{VERSION}
use Rattle.pcep_codes.specs.declared.messages.TheConstants as messages
use Rattle.pcep_codes.specs.declared.errors.TheConstants as errors
use Rattle.pcep_codes.specs.declared.reasons.TheConstants as reasons
use Rattle.pcep_codes.specs.declared.timers.TheConstants as timers
use Rattle.pcep_objects.specs.declared.object.OpenBody.{OpenBody}
use Rattle.pcep_messages.specs.declared.message.Message.{Message}
use Rattle.pcep_messages.specs.declared.message.Message.TheVariants.{Open as OpenMessage, Keepalive as KeepaliveMessage, PcErr, Close as CloseMessage, Other}
use Rattle.pcep_objects.specs.Terms.{agreed_of}
use Rattle.pcep_session.specs.Reports.{first_error_of, first_opening_of}
use Rattle.pcep_session.specs.declared.actions.Own.{Own}
use Rattle.pcep_session.specs.declared.actions.Own.TheVariants.{Open, Keepalive, Error, Close}
use Rattle.pcep_session.specs.declared.actions.Reason.{Reason}
use Rattle.pcep_session.specs.declared.actions.Reason.TheVariants.{Opening, Dead, Malformed, Unknown as UnknownType, Stateful, Peer}
use Rattle.pcep_session.specs.declared.actions.Action.{Action}
use Rattle.pcep_session.specs.declared.actions.Action.TheVariants.{Send, Up as SayUp, Down as SayDown, Pass}
use Rattle.pcep_session.specs.declared.session.Input.{Input}
use Rattle.pcep_session.specs.declared.session.Input.TheVariants.{Begin, Got, Bad, Tick as Ticked}
use Rattle.pcep_session.specs.declared.state.Phase.{Phase}
use Rattle.pcep_session.specs.declared.state.Phase.TheVariants.{Idle, OpenWait, KeepWait, Up, Down}
use Rattle.pcep_session.specs.declared.state.State.{State}

pub record SessionStep : Type 0 where
  pub actions : List Action
  pub next : State

-- a session that has not begun
abbrev pub new_state : Offer → Tick → State
new_state offer now = record {
  offer = offer;
  phase = Idle;
  retried = false;
  agreed = record { keepalive = offer.keepalive; dead = 0; stateful = false };
  clock = now;
  since = now;
  heard = now;
  sent = now;
  unknown = record { oldest = None; older = None; newer = None; newest = None };
}

abbrev pub quiet : State → SessionStep
quiet s = record { actions = []; next = s }

abbrev pub entered : State → Phase → State
entered s phase = record s { phase = phase; since = s.clock }

-- an error, by type and value
abbrev pub error_of : ℕ × ℕ → Own
error_of error = Error error.0 error.1

abbrev pub fails : State → ℕ → SessionStep
fails s error = record { actions = Send (Error errors.SESSION error) ∷ SayDown (Opening error) ∷ []; next = entered s Down }

abbrev pub ends : State → Reason → SessionStep
ends s reason = record { actions = SayDown reason ∷ []; next = entered s Down }

abbrev pub closes : State → ℕ → Reason → SessionStep
closes s code reason = record { actions = Send (Close code) ∷ SayDown reason ∷ []; next = entered s Down }

-- so many seconds have gone by since a moment
abbrev pub has_passed : State → Tick → ℕ → Bool
has_passed s from seconds = nat_le (from.0 + seconds) s.clock.0

-- waiting for the peer's Open
abbrev pub open_wait : State → Message → SessionStep
open_wait s (OpenMessage body) =
    if body.version == VERSION
    then record { actions = Send Keepalive ∷ []; next = record (entered s KeepWait) { agreed = agreed_of s.offer body.offer; sent = s.clock } }
    else fails s errors.OTHER_VERSION
open_wait s (CloseMessage reason) = ends s Peer
open_wait s _ = fails s errors.INVALID_OPEN

-- the peer answered our Open with an error: other terms are taken once
abbrev pub refused_terms : State → Option OpenBody → SessionStep
refused_terms s None = fails s errors.NOT_NEGOTIABLE
refused_terms s (Some body) =
    if s.retried
    then fails s errors.NOT_NEGOTIABLE
    else let offer = record s.offer { keepalive = body.offer.keepalive; dead = body.offer.dead } in
    record { actions = Send (Open offer) ∷ []; next = record s { offer = offer; agreed = record s.agreed { keepalive = body.offer.keepalive }; retried = true; since = s.clock; sent = s.clock } }

abbrev pub refused : State → Option (ℕ × ℕ) → Option OpenBody → SessionStep
refused s None opening = ends s Peer
refused s (Some error) opening = if (error.0 == errors.SESSION) && (error.1 == errors.NEGOTIABLE) then refused_terms s opening else ends s Peer

-- waiting for the peer's Keepalive
abbrev pub keep_wait : State → Message → SessionStep
keep_wait s KeepaliveMessage = record { actions = SayUp ∷ []; next = entered s Up }
keep_wait s (PcErr reports) = refused s (first_error_of reports) (first_opening_of reports)
keep_wait s (CloseMessage reason) = ends s Peer
keep_wait s _ = fails s errors.INVALID_OPEN

-- a moment within the last 59 seconds
abbrev pub is_recent : State → Option Tick → Bool
is_recent s None = false
is_recent s (Some at) = nat_le s.clock.0 (at.0 + timers.UNKNOWN_SPAN)

-- with one more, of the last four messages of unknown types
abbrev pub noted : State → State
noted s = record s { unknown = record { oldest = s.unknown.older; older = s.unknown.newer; newer = s.unknown.newest; newest = Some s.clock } }

abbrev pub unknown_type : State → SessionStep
unknown_type s =
    if is_recent s s.unknown.oldest
    then record { actions = Send (error_of errors.UNKNOWN_MESSAGE) ∷ Send (Close reasons.UNKNOWN_MESSAGES) ∷ SayDown UnknownType ∷ []; next = entered s Down }
    else record { actions = Send (error_of errors.UNKNOWN_MESSAGE) ∷ []; next = noted s }

abbrev pub stateful : State → ℕ × ℕ → SessionStep
stateful s error = record { actions = Send (error_of error) ∷ Send (Close reasons.UNEXPLAINED) ∷ SayDown Stateful ∷ []; next = entered s Down }

abbrev pub in_up : State → Message → SessionStep
in_up s KeepaliveMessage = quiet s
in_up s (OpenMessage body) = record { actions = Send (error_of errors.SECOND_OPEN) ∷ []; next = s }
in_up s (CloseMessage reason) = ends s Peer
in_up s (Other kind) = if kind == messages.PCRPT then stateful s errors.REPORT_NOT_OFFERED else (if kind == messages.PCUPD then stateful s errors.UPDATE_NOT_OFFERED else unknown_type s)
in_up s message = record { actions = Pass message ∷ []; next = s }

abbrev pub up_tick : State → SessionStep
up_tick s =
    if not (s.agreed.dead == 0) && has_passed s s.heard s.agreed.dead
    then closes s reasons.DEAD Dead
    else (if not (s.agreed.keepalive == 0) && has_passed s s.sent s.agreed.keepalive
    then record { actions = Send Keepalive ∷ []; next = record s { sent = s.clock } }
    else quiet s)

abbrev pub heard : State → State
heard s = record s { heard = s.clock }

abbrev pub at_tick : State → Tick → State
at_tick s tick = record s { clock = record { 0 = max s.clock.0 tick.0 } }

abbrev pub waits : State → ℕ → SessionStep
waits s error = if has_passed s s.since timers.WAIT then fails s error else quiet s

-- each state, and each input
abbrev pub turn_in : Phase → State → Input → SessionStep
turn_in Idle s Begin = record { actions = Send (Open s.offer) ∷ []; next = record (entered s OpenWait) { sent = s.clock } }
turn_in Idle s (Ticked tick) = quiet (at_tick s tick)
turn_in Idle s (Got message) = quiet s
turn_in Idle s Bad = quiet s
turn_in OpenWait s Begin = quiet s
turn_in OpenWait s (Got message) = open_wait (heard s) message
turn_in OpenWait s Bad = fails s errors.INVALID_OPEN
turn_in OpenWait s (Ticked tick) = waits (at_tick s tick) errors.OPEN_WAIT_EXPIRED
turn_in KeepWait s Begin = quiet s
turn_in KeepWait s (Got message) = keep_wait (heard s) message
turn_in KeepWait s Bad = fails s errors.INVALID_OPEN
turn_in KeepWait s (Ticked tick) = waits (at_tick s tick) errors.KEEP_WAIT_EXPIRED
turn_in Up s Begin = quiet s
turn_in Up s (Got message) = in_up (heard s) message
turn_in Up s Bad = closes s reasons.MALFORMED Malformed
turn_in Up s (Ticked tick) = up_tick (at_tick s tick)
turn_in Down s input = quiet s

abbrev pub turn_of : State → Input → SessionStep
turn_of s input = turn_in s.phase s input
