-- A session that stays is open after a turn where it came up in it, and else where it was open before.
use Rattle.std.proofs.Common.{◌≡◌, ◌==◌, ◌&&◌, not, Bool, true, false, cond, Option, Some, None, List, [], ◌∷◌, refl, sym, ◌∙◌, ap}
use Rattle.plant_laws.specs.plant_model.Types.{Message, Action, Input, Phase, State as Session}
use Rattle.pcep_messages.specs.declared.message.Message.TheVariants as messages
use Rattle.pcep_session.specs.Reports.{first_error_of, first_opening_of}
use Rattle.pcep_session.specs.declared.actions.Action.TheVariants as action
use Rattle.pcep_session.specs.declared.session.Input.TheVariants as input
use Rattle.pcep_session.specs.declared.state.Phase.TheVariants as phase
use Rattle.pcep_session.specs.Table.{SessionStep, turn_of, turn_in, open_wait, keep_wait, refused, refused_terms, in_up, up_tick, unknown_type, waits, heard, at_tick, has_passed, is_recent}
use Rattle.plant_laws.specs.plant_model.Deeds.{any_fall}

abbrev pub is_open : Phase → Bool
is_open phase.Up = true
is_open phase.Idle = false
is_open phase.OpenWait = false
is_open phase.KeepWait = false
is_open phase.Down = false

abbrev pub has_up : List Action → Bool
has_up [] = false
has_up (action.Up ∷ as') = true
has_up (action.Send o ∷ as') = has_up as'
has_up (action.Down why ∷ as') = has_up as'
has_up (action.Pass m ∷ as') = has_up as'

-- it is as open as it was, or it came up
pub data Turns (before : Bool) (r : SessionStep) : Type 0 where
  rested : has_up r.actions ≡ false → is_open r.next.phase ≡ before → Turns before r
  rose : r.actions ≡ action.Up ∷ [] → is_open r.next.phase ≡ true → Turns before r

abbrev On : Bool → SessionStep → Type 0
On before r = any_fall r.actions ≡ false → Turns before r

pick : (before b : Bool) (r r' : SessionStep) → On before r → On before r' → On before (cond b r r')
pick before true r r' h h' = h
pick before false r r' h h' = h'

falls : (before : Bool) (r : SessionStep) → any_fall r.actions ≡ true → On before r
falls before r fall none = (let no : true ≡ false = sym fall ∙ none in cc)

rests : (before : Bool) (r : SessionStep) → has_up r.actions ≡ false → is_open r.next.phase ≡ before → On before r
rests before r none same stays = rested none same

module _ (s : Session) where
  terms_on : (before : Bool) (o : Option _) → is_open s.phase ≡ before → On before (refused_terms s o)
  terms_on before None is = falls before _ refl
  terms_on before (Some body) is = pick before s.retried _ _ (falls before _ refl) (rests before _ refl is)

  open_on : (m : Message) → On false (open_wait s m)
  open_on (messages.Open body) = pick false (body.version == 1) _ _ (rests false _ refl refl) (falls false _ refl)
  open_on (messages.Close why) = falls false _ refl
  open_on messages.Keepalive = falls false _ refl
  open_on (messages.PcReq asks) = falls false _ refl
  open_on (messages.PcRep replies) = falls false _ refl
  open_on (messages.PcNtf notices) = falls false _ refl
  open_on (messages.PcErr reports) = falls false _ refl
  open_on (messages.Other kind) = falls false _ refl

  keep_on : (m : Message) → is_open s.phase ≡ false → On false (keep_wait s m)
  keep_on messages.Keepalive is = λ stays. rose refl refl
  keep_on (messages.PcErr reports) is = go (first_error_of reports)
    where
      go : (o : Option _) → On false (refused s o (first_opening_of reports))
      go None = falls false _ refl
      go (Some error) = pick false ((error.0 == 1) && (error.1 == 4)) _ _ (terms_on false (first_opening_of reports) is) (falls false _ refl)
  keep_on (messages.Close why) is = falls false _ refl
  keep_on (messages.Open body) is = falls false _ refl
  keep_on (messages.PcReq asks) is = falls false _ refl
  keep_on (messages.PcRep replies) is = falls false _ refl
  keep_on (messages.PcNtf notices) is = falls false _ refl
  keep_on (messages.Other kind) is = falls false _ refl

  up_on : (m : Message) → is_open s.phase ≡ true → On true (in_up s m)
  up_on messages.Keepalive is = rests true _ refl is
  up_on (messages.Open body) is = rests true _ refl is
  up_on (messages.Close why) is = falls true _ refl
  up_on (messages.PcReq asks) is = rests true _ refl is
  up_on (messages.PcRep replies) is = rests true _ refl is
  up_on (messages.PcNtf notices) is = rests true _ refl is
  up_on (messages.PcErr reports) is = rests true _ refl is
  up_on (messages.Other kind) is =
      pick true (kind == 10) _ _ (falls true _ refl)
      (pick true (kind == 11) _ (unknown_type s) (falls true _ refl) (pick true (is_recent s s.unknown.oldest) _ _ (falls true _ refl) (rests true _ refl is)))

  waits_on : (before : Bool) (error : _) → is_open s.phase ≡ before → On before (waits s error)
  waits_on before error is = pick before (has_passed s s.since 60) _ _ (falls before _ refl) (rests before _ refl is)

  tick_on : is_open s.phase ≡ true → On true (up_tick s)
  tick_on is =
      pick true (not (s.agreed.dead == 0) && has_passed s s.heard s.agreed.dead) _ _ (falls true _ refl)
      (pick true (not (s.agreed.keepalive == 0) && has_passed s s.sent s.agreed.keepalive) _ _ (rests true _ refl is) (rests true _ refl is))

turn_on : (p : Phase) (s : Session) (x : Input) → s.phase ≡ p → On (is_open p) (turn_in p s x)
turn_on phase.Idle s input.Begin is = rests false _ refl refl
turn_on phase.Idle s (input.Tick now) is = rests false _ refl (ap is_open is)
turn_on phase.Idle s (input.Got m) is = rests false _ refl (ap is_open is)
turn_on phase.Idle s input.Bad is = rests false _ refl (ap is_open is)
turn_on phase.OpenWait s input.Begin is = rests false _ refl (ap is_open is)
turn_on phase.OpenWait s (input.Got m) is = open_on (heard s) m
turn_on phase.OpenWait s input.Bad is = falls false _ refl
turn_on phase.OpenWait s (input.Tick now) is = waits_on (at_tick s now) false 2 (ap is_open is)
turn_on phase.KeepWait s input.Begin is = rests false _ refl (ap is_open is)
turn_on phase.KeepWait s (input.Got m) is = keep_on (heard s) m (ap is_open is)
turn_on phase.KeepWait s input.Bad is = falls false _ refl
turn_on phase.KeepWait s (input.Tick now) is = waits_on (at_tick s now) false 7 (ap is_open is)
turn_on phase.Up s input.Begin is = rests true _ refl (ap is_open is)
turn_on phase.Up s (input.Got m) is = up_on (heard s) m (ap is_open is)
turn_on phase.Up s input.Bad is = falls true _ refl
turn_on phase.Up s (input.Tick now) is = tick_on (at_tick s now) (ap is_open is)
turn_on phase.Down s x is = rests false _ refl (ap is_open is)

pub turns : (s : Session) (x : Input) → any_fall (turn_of s x).actions ≡ false → Turns (is_open s.phase) (turn_of s x)
turns s x stays = turn_on s.phase s x refl stays
