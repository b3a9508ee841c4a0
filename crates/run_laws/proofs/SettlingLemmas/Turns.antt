-- What a session of a calm link does with the first message of the queue to it, and at a tick.
use Rattle.std.proofs.Common.{◌≡◌, ◌⊎◌, ℕ, Bool, true, false, not, cond, ◌==◌, ◌&&◌, List, [], ◌∷◌, ◌++◌, Option, Some, inl, inr, refl, sym, ◌∙◌, ap, subst}
use Rattle.plant_laws.specs.plant_model.Types.{Tick, Message, Phase, State as Session}
use Rattle.pcep_messages.specs.declared.message.Message.TheVariants as messages
use Rattle.pcep_session.specs.declared.session.Input.TheVariants as input
use Rattle.pcep_session.specs.declared.actions.Action.TheVariants as action
use Rattle.pcep_session.specs.declared.actions.Own.TheVariants as own
use Rattle.pcep_session.specs.declared.state.Phase.TheVariants as phase
use Rattle.pcep_session.specs.Table.{SessionStep, turn_of, turn_in, up_tick, at_tick, has_passed, waits}
use Rattle.plant_laws.specs.plant_model.Wire.{Bytes, Codec}
use Rattle.plant_laws.specs.plant_model.Deeds.{any_fall, read_as}
use Rattle.run_laws.specs.Settling.{is_ordinary, IsOpen, IsKeepalive, IsOrdinary, AreOrdinary, IsNothing, Holds}

-- ---- ticks

-- at a tick a session that stays is in the phase that it was in, and sends a Keepalive at most, where it is open
pub record Ticks (p : Phase) (r : SessionStep) : Type 0 where
  pub same : r.next.phase ≡ p
  pub actions : (r.actions ≡ []) ⊎ ((p ≡ phase.Up) × (r.actions ≡ action.Send own.Keepalive ∷ []))

abbrev TicksOn : Phase → SessionStep → Type 0
TicksOn p r = any_fall r.actions ≡ false → Ticks p r

pick : (p : Phase) (b : Bool) (r r' : SessionStep) → TicksOn p r → TicksOn p r' → TicksOn p (cond b r r')
pick p true r r' h h' = h
pick p false r r' h h' = h'

falls : (p : Phase) (r : SessionStep) → any_fall r.actions ≡ true → TicksOn p r
falls p r fall none = absurd (let no : true ≡ false = sym fall ∙ none in cc)

rests : (p : Phase) (r : SessionStep) → r.next.phase ≡ p → r.actions ≡ [] → TicksOn p r
rests p r same none stays = record { same = same; actions = inl none }

module _ (now : Tick) where
  waits_on : (s : Session) (p : Phase) (error : ℕ) → s.phase ≡ p → TicksOn p (waits s error)
  waits_on s p error is = pick p (has_passed s s.since 60) _ _ (falls p _ refl) (rests p _ is refl)

  up_on : (s : Session) → s.phase ≡ phase.Up → TicksOn phase.Up (up_tick s)
  up_on s is =
      pick phase.Up (not (s.agreed.dead == 0) && has_passed s s.heard s.agreed.dead) _ _ (falls phase.Up _ refl)
      (pick phase.Up (not (s.agreed.keepalive == 0) && has_passed s s.sent s.agreed.keepalive) _ _
      (λ stays. record { same = is; actions = inr (refl, refl) }) (rests phase.Up _ is refl))

  tick_in : (p : Phase) (s : Session) → s.phase ≡ p → TicksOn p (turn_in p s (input.Tick now))
  tick_in phase.Idle s is = rests phase.Idle _ is refl
  tick_in phase.OpenWait s is = waits_on (at_tick s now) phase.OpenWait 2 is
  tick_in phase.KeepWait s is = waits_on (at_tick s now) phase.KeepWait 7 is
  tick_in phase.Up s is = up_on (at_tick s now) is
  tick_in phase.Down s is = rests phase.Down _ is refl

  pub ticks : (s : Session) → any_fall (turn_of s (input.Tick now)).actions ≡ false → Ticks s.phase (turn_of s (input.Tick now))
  ticks s stays = tick_in s.phase s refl stays

-- ---- messages

module _ (c : Codec) where
  -- What a session does with the first message of a queue: it reads an Open and says a Keepalive, or comes up by a Keepalive, or
  -- hears one when it is up, or passes the message on. It has the phase after that, and there is what is left.
  pub data Hears (sends reads : Phase) (x : Bytes) (rest : List Bytes) (r : SessionStep) : Type 0 where
    opens : IsOpen c x → reads ≡ phase.OpenWait → r.actions ≡ action.Send own.Keepalive ∷ [] → r.next.phase ≡ phase.KeepWait → Holds c sends phase.KeepWait rest → Hears sends reads x rest r
    rises : IsKeepalive c x → reads ≡ phase.KeepWait → r.actions ≡ action.Up ∷ [] → r.next.phase ≡ phase.Up → Holds c sends phase.Up rest → Hears sends reads x rest r
    keeps : IsKeepalive c x → reads ≡ phase.Up → r.actions ≡ [] → r.next.phase ≡ phase.Up → Holds c sends phase.Up rest → Hears sends reads x rest r
    passes : (m : Message) → c.read x ≡ Some m → is_ordinary m ≡ true → reads ≡ phase.Up → r.actions ≡ action.Pass m ∷ [] → r.next.phase ≡ phase.Up → Holds c sends phase.Up rest → Hears sends reads x rest r

  module _ (s : Session) (x : Bytes) (rest : List Bytes) where
    abbrev Heard : Phase → Phase → Option Message → Type 0
    Heard sends reads o = Hears sends reads x rest (turn_in reads s (read_as o))

    hears_open : (sends : Phase) → IsOpen c x → Holds c sends phase.KeepWait rest → Heard sends phase.OpenWait (c.read x)
    hears_open sends is left =
        subst (Heard sends phase.OpenWait) (sym is.1) (opens is refl refl refl left)

    hears_keepalive : (sends : Phase) → IsKeepalive c x → Holds c sends phase.Up rest → Heard sends phase.KeepWait (c.read x)
    hears_keepalive sends is left = subst (Heard sends phase.KeepWait) (sym is) (rises is refl refl refl left)

    in_up_hears : (m : Message) → c.read x ≡ Some m → is_ordinary m ≡ true → s.phase ≡ phase.Up → AreOrdinary c rest → Heard phase.Up phase.Up (Some m)
    in_up_hears messages.Keepalive read ordinary is left = keeps read refl refl is left
    in_up_hears (messages.PcReq asks) read ordinary is left = passes (messages.PcReq asks) read refl refl refl is left
    in_up_hears (messages.PcRep replies) read ordinary is left = passes (messages.PcRep replies) read refl refl refl is left
    in_up_hears (messages.PcNtf notices) read ordinary is left = passes (messages.PcNtf notices) read refl refl refl is left
    in_up_hears (messages.PcErr reports) read ordinary is left = passes (messages.PcErr reports) read refl refl refl is left
    in_up_hears (messages.Open body) read ordinary is left = absurd (let no : false ≡ true = ordinary in cc)
    in_up_hears (messages.Close why) read ordinary is left = absurd (let no : false ≡ true = ordinary in cc)
    in_up_hears (messages.Other kind) read ordinary is left = absurd (let no : false ≡ true = ordinary in cc)

    nothing : (rest' : List Bytes) → IsNothing c rest' → rest' ≡ []
    nothing [] is = refl
    nothing (y ∷ ys) is = absurd is

    hears_in : (sends reads : Phase) → s.phase ≡ reads → Holds c sends reads (x ∷ rest) → Heard sends reads (c.read x)
    hears_in phase.OpenWait phase.OpenWait is held = hears_open phase.OpenWait held.0 held.1
    hears_in phase.OpenWait phase.KeepWait is held = absurd held
    hears_in phase.OpenWait phase.Idle is held = absurd held
    hears_in phase.OpenWait phase.Up is held = absurd held
    hears_in phase.OpenWait phase.Down is held = absurd held
    hears_in phase.KeepWait phase.OpenWait is held = hears_open phase.KeepWait held.0 held.1
    hears_in phase.KeepWait phase.KeepWait is held = hears_keepalive phase.KeepWait held.0 held.1
    hears_in phase.KeepWait phase.Up is held = absurd held
    hears_in phase.KeepWait phase.Idle is held = absurd held
    hears_in phase.KeepWait phase.Down is held = absurd held
    hears_in phase.Up phase.KeepWait is held = hears_keepalive phase.Up held.0 held.1
    hears_in phase.Up phase.Up is held =
        subst (Heard phase.Up phase.Up) (sym held.0.1) (in_up_hears held.0.0 held.0.1 held.0.2 is held.1)
    hears_in phase.Up phase.OpenWait is held = absurd held
    hears_in phase.Up phase.Idle is held = absurd held
    hears_in phase.Up phase.Down is held = absurd held
    hears_in phase.Idle reads is held = none reads held
      where
        none : (r : Phase) → Holds c phase.Idle r (x ∷ rest) → Heard phase.Idle r (c.read x)
        none phase.Idle h = absurd h
        none phase.OpenWait h = absurd h
        none phase.KeepWait h = absurd h
        none phase.Up h = absurd h
        none phase.Down h = absurd h
    hears_in phase.Down reads is held = none reads held
      where
        none : (r : Phase) → Holds c phase.Down r (x ∷ rest) → Heard phase.Down r (c.read x)
        none phase.Idle h = absurd h
        none phase.OpenWait h = absurd h
        none phase.KeepWait h = absurd h
        none phase.Up h = absurd h
        none phase.Down h = absurd h

  pub hears : (s : Session) (sends : Phase) (x : Bytes) (rest : List Bytes) → Holds c sends s.phase (x ∷ rest) → Hears sends s.phase x rest (turn_of s (read_as (c.read x)))
  hears s sends x rest held = hears_in s x rest sends s.phase refl held

  -- such a turn takes no session down
  pub heard_stays : (sends reads : Phase) (x : Bytes) (rest : List Bytes) (r : SessionStep) → Hears sends reads x rest r → any_fall r.actions ≡ false
  heard_stays sends reads x rest r (opens is at actions next left) = ap any_fall actions
  heard_stays sends reads x rest r (rises is at actions next left) = ap any_fall actions
  heard_stays sends reads x rest r (keeps is at actions next left) = ap any_fall actions
  heard_stays sends reads x rest r (passes m read ordinary at actions next left) = ap any_fall actions

  -- ---- what is put into a queue

  pub more_ordinary : (q : List Bytes) (y : Bytes) → AreOrdinary c q → IsOrdinary c y → AreOrdinary c (q ++ y ∷ [])
  more_ordinary [] y all one = (one, tt)
  more_ordinary (x ∷ xs) y all one = (all.0, more_ordinary xs y all.1 one)

  -- an open session sends an ordinary message
  pub up_sends : (reads : Phase) (q : List Bytes) (y : Bytes) → Holds c phase.Up reads q → IsOrdinary c y → Holds c phase.Up reads (q ++ y ∷ [])
  up_sends phase.Up q y held one = more_ordinary q y held one
  up_sends phase.KeepWait [] y held one = absurd held
  up_sends phase.KeepWait (x ∷ xs) y held one = (held.0, more_ordinary xs y held.1 one)
  up_sends phase.OpenWait q y held one = absurd held
  up_sends phase.Idle q y held one = absurd held
  up_sends phase.Down q y held one = absurd held

  -- a session that read an Open says a Keepalive
  pub opened_sends : (reads : Phase) (q : List Bytes) (y : Bytes) → Holds c phase.OpenWait reads q → IsKeepalive c y → Holds c phase.KeepWait reads (q ++ y ∷ [])
  opened_sends phase.OpenWait [] y held one = absurd held
  opened_sends phase.OpenWait (x ∷ []) y held one = (held.0, (one, tt))
  opened_sends phase.OpenWait (x ∷ z ∷ zs) y held one = absurd held.1
  opened_sends phase.KeepWait [] y held one = (one, tt)
  opened_sends phase.KeepWait (x ∷ xs) y held one = absurd held
  opened_sends phase.Up q y held one = absurd held
  opened_sends phase.Idle q y held one = absurd held
  opened_sends phase.Down q y held one = absurd held

  -- a session that comes up sends nothing yet
  pub risen_holds : (reads : Phase) (q : List Bytes) → Holds c phase.KeepWait reads q → ((reads ≡ phase.KeepWait) ⊎ (reads ≡ phase.Up)) → Holds c phase.Up reads q
  risen_holds phase.KeepWait [] held two = absurd held
  risen_holds phase.KeepWait (x ∷ xs) held two = (held.0, none xs held.1)
    where
      none : (ys : List Bytes) → IsNothing c ys → AreOrdinary c ys
      none [] is = tt
      none (y ∷ ys) is = absurd is
  risen_holds phase.Up [] held two = tt
  risen_holds phase.Up (x ∷ xs) held two = absurd held
  risen_holds phase.OpenWait q held (inl is) = cc
  risen_holds phase.OpenWait q held (inr is) = cc
  risen_holds phase.Idle q held two = absurd held
  risen_holds phase.Down q held two = absurd held

  -- who is read by an open session is open, or waits for a Keepalive
  pub up_reads : (sends : Phase) (q : List Bytes) → Holds c sends phase.Up q → (sends ≡ phase.KeepWait) ⊎ (sends ≡ phase.Up)
  up_reads phase.KeepWait q held = inl refl
  up_reads phase.Up q held = inr refl
  up_reads phase.OpenWait q held = absurd held
  up_reads phase.Idle q held = absurd held
  up_reads phase.Down q held = absurd held
