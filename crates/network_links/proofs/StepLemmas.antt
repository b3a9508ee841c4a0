-- What no step of a session changes, and when one is over.
use Rattle.std.proofs.Common.{◌≡◌, ℕ, ◌==◌, ◌&&◌, not, Bool, true, false, cond, Option, Some, None, refl}
use Rattle.plant_model.specs.Types.{OpenBody, Message, Input, Phase, State}
use Rattle.pcep_messages.specs.declared.message.Message.TheVariants as messages
use Rattle.pcep_session.specs.Reports.{first_error_of, first_opening_of}
use Rattle.pcep_session.specs.declared.session.Input.TheVariants.{Begin, Got, Bad, Tick as Ticked}
use Rattle.pcep_session.specs.declared.state.Phase.TheVariants.{Idle, OpenWait, KeepWait, Up, Down}
use Rattle.pcep_session.specs.Table.{SessionStep, turn_in, turn_of, open_wait, refused_terms, refused, keep_wait, in_up, up_tick, waits, heard, at_tick, has_passed, is_recent}
use Rattle.plant_model.specs.Names.{is_empty}
use Rattle.plant_model.specs.Events.{is_down}
use Rattle.network_links.specs.Ends.{StepsKeepNumber}

-- either way, so both ways
either : (b : Bool) (x y : SessionStep) (n : ℕ) → x.next.offer.sid ≡ n → y.next.offer.sid ≡ n → (cond b x y).next.offer.sid ≡ n
either true x y n left right = left
either false x y n left right = right

waits_keeps : (s : State) (error : ℕ) → (waits s error).next.offer.sid ≡ s.offer.sid
waits_keeps s error = either (has_passed s s.since 60) _ _ _ refl refl

open_keeps : (s : State) (m : Message) → (open_wait s m).next.offer.sid ≡ s.offer.sid
open_keeps s (messages.Open body) = either (body.version == 1) _ _ _ refl refl
open_keeps s (messages.Close reason) = refl
open_keeps s messages.Keepalive = refl
open_keeps s (messages.PcReq x) = refl
open_keeps s (messages.PcRep x) = refl
open_keeps s (messages.PcNtf x) = refl
open_keeps s (messages.PcErr x) = refl
open_keeps s (messages.Other x) = refl

terms_keep : (s : State) (opening : Option OpenBody) → (refused_terms s opening).next.offer.sid ≡ s.offer.sid
terms_keep s None = refl
terms_keep s (Some body) = either s.retried _ _ _ refl refl

refused_keeps : (s : State) (error : Option (ℕ × ℕ)) (opening : Option OpenBody) → (refused s error opening).next.offer.sid ≡ s.offer.sid
refused_keeps s None opening = refl
refused_keeps s (Some error) opening = either ((error.0 == 1) && (error.1 == 4)) _ _ _ (terms_keep s opening) refl

keep_keeps : (s : State) (m : Message) → (keep_wait s m).next.offer.sid ≡ s.offer.sid
keep_keeps s (messages.Open body) = refl
keep_keeps s (messages.Close reason) = refl
keep_keeps s messages.Keepalive = refl
keep_keeps s (messages.PcReq x) = refl
keep_keeps s (messages.PcRep x) = refl
keep_keeps s (messages.PcNtf x) = refl
keep_keeps s (messages.PcErr x) = refused_keeps s (first_error_of x) (first_opening_of x)
keep_keeps s (messages.Other x) = refl

up_keeps : (s : State) (m : Message) → (in_up s m).next.offer.sid ≡ s.offer.sid
up_keeps s (messages.Open body) = refl
up_keeps s (messages.Close reason) = refl
up_keeps s messages.Keepalive = refl
up_keeps s (messages.PcReq x) = refl
up_keeps s (messages.PcRep x) = refl
up_keeps s (messages.PcNtf x) = refl
up_keeps s (messages.PcErr x) = refl
up_keeps s (messages.Other x) =
    either (x == 10) _ _ _ refl (either (x == 11) _ _ _ refl (either (is_recent s s.unknown.oldest) _ _ _ refl refl))

tick_keeps : (s : State) → (up_tick s).next.offer.sid ≡ s.offer.sid
tick_keeps s =
    either (not (s.agreed.dead == 0) && has_passed s s.heard s.agreed.dead) _ _ _ refl
    (either (not (s.agreed.keepalive == 0) && has_passed s s.sent s.agreed.keepalive) _ _ _ refl refl)

turn_keeps : (p : Phase) (s : State) (input : Input) → (turn_in p s input).next.offer.sid ≡ s.offer.sid
turn_keeps Idle s Begin = refl
turn_keeps Idle s (Ticked tick) = refl
turn_keeps Idle s (Got m) = refl
turn_keeps Idle s Bad = refl
turn_keeps OpenWait s Begin = refl
turn_keeps OpenWait s (Got m) = open_keeps (heard s) m
turn_keeps OpenWait s Bad = refl
turn_keeps OpenWait s (Ticked tick) = waits_keeps (at_tick s tick) 2
turn_keeps KeepWait s Begin = refl
turn_keeps KeepWait s (Got m) = keep_keeps (heard s) m
turn_keeps KeepWait s Bad = refl
turn_keeps KeepWait s (Ticked tick) = waits_keeps (at_tick s tick) 7
turn_keeps Up s Begin = refl
turn_keeps Up s (Got m) = up_keeps (heard s) m
turn_keeps Up s Bad = refl
turn_keeps Up s (Ticked tick) = tick_keeps (at_tick s tick)
turn_keeps Down s input = refl

pub steps_keep_number : StepsKeepNumber
steps_keep_number s input = turn_keeps s.phase s input

-- a session that neither begins nor ends on what cannot be read is over
over_in : (p : Phase) (s : State) → (is_empty (turn_in p s Begin).actions && is_empty (turn_in p s Bad).actions) ≡ is_down p
over_in Idle s = refl
over_in OpenWait s = refl
over_in KeepWait s = refl
over_in Up s = refl
over_in Down s = refl

pub over_is : (s : State) → (is_empty (turn_of s Begin).actions && is_empty (turn_of s Bad).actions) ≡ is_down s.phase
over_is s = over_in s.phase s
