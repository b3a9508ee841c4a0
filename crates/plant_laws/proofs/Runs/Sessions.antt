-- A session of a link that stays up passes on what asks or answers, and stays up or begins.
use Rattle.std.proofs.Common.{◌≡◌, ℕ, Bool, true, false, not, cond, ◌==◌, ◌&&◌, List, Option, Some, None, refl, sym, subst}
use Rattle.plant_model.specs.Types.{Tick, OpenBody, ErrorReport, Message, Input, Phase, State}
use Rattle.pcep_messages.specs.declared.message.Message.TheVariants as messages
use Rattle.pcep_session.specs.declared.session.Input.TheVariants as input
use Rattle.pcep_session.specs.declared.state.Phase.TheVariants as phase
use Rattle.pcep_session.specs.Reports.{first_error_of, first_opening_of}
use Rattle.pcep_session.specs.Table.{SessionStep, turn_of, turn_in, open_wait, keep_wait, refused, refused_terms, in_up, up_tick, unknown_type, heard, at_tick, has_passed, is_recent, waits}
use Rattle.plant_model.specs.Deeds.{any_fall}
use Rattle.plant_laws.proofs.Runs.Shape.{has_pass}

-- the session has begun, and is not over
abbrev pub IsLive : Phase → Type 0
IsLive phase.Idle = ⊥
IsLive phase.OpenWait = Unit {0}
IsLive phase.KeepWait = Unit {0}
IsLive phase.Up = Unit {0}
IsLive phase.Down = ⊥

-- a message that a session may keep: of reports, those that refuse its Open
abbrev pub IsKept : Message → Type 0
IsKept (messages.Open body) = Unit {0}
IsKept messages.Keepalive = Unit {0}
IsKept (messages.PcReq asks) = ⊥
IsKept (messages.PcRep replies) = ⊥
IsKept (messages.PcNtf notices) = ⊥
IsKept (messages.PcErr reports) = (e : ℕ × ℕ) × (first_error_of reports ≡ Some e) × ((e.0 == 1) && (e.1 == 4) ≡ true)
IsKept (messages.Close why) = Unit {0}
IsKept (messages.Other kind) = Unit {0}

-- a turn that does not end the session
pub record Stays (x : Input) (r : SessionStep) : Type 0 where
  pub live : IsLive r.next.phase
  pub kept : has_pass r.actions ≡ false → (m : Message) → x ≡ input.Got m → IsKept m
  pub good : x ≡ input.Bad → ⊥

abbrev pub IsFine : Input → SessionStep → Type 0
IsFine x r = any_fall r.actions ≡ false → Stays x r

pick : (x : Input) (b : Bool) (r r' : SessionStep) → (b ≡ true → IsFine x r) → (b ≡ false → IsFine x r') → IsFine x (cond b r r')
pick x true r r' h h' = h refl
pick x false r r' h h' = h' refl

falls : (x : Input) (r : SessionStep) → any_fall r.actions ≡ true → IsFine x r
falls x r fall none = cc

-- a message that is kept
keeps : (m : Message) (r : SessionStep) → IsLive r.next.phase → IsKept m → IsFine (input.Got m) r
keeps m r live kept none = record {
  live = live;
  kept = λ quiet m' is. let same : m ≡ m' = cc in subst IsKept same kept;
  good = λ is. cc;
}

-- one that is passed on
passes : (m : Message) (r : SessionStep) → IsLive r.next.phase → has_pass r.actions ≡ true → IsFine (input.Got m) r
passes m r live pass none = record { live = live; kept = λ quiet m' is. cc; good = λ is. cc }

-- no message
others : (x : Input) (r : SessionStep) → IsLive r.next.phase → ((m : Message) → x ≡ input.Got m → ⊥) → (x ≡ input.Bad → ⊥) → IsFine x r
others x r live got bad none = record { live = live; kept = λ quiet m is. absurd (got m is); good = bad }

fine_open_wait : (s : State) (m : Message) → IsFine (input.Got m) (open_wait s m)
fine_open_wait s (messages.Open body) = pick (input.Got (messages.Open body)) (body.version == 1) _ _ (λ is. keeps (messages.Open body) _ tt tt) (λ is. falls _ _ refl)
fine_open_wait s (messages.Close why) = falls _ _ refl
fine_open_wait s messages.Keepalive = falls _ _ refl
fine_open_wait s (messages.PcReq asks) = falls _ _ refl
fine_open_wait s (messages.PcRep replies) = falls _ _ refl
fine_open_wait s (messages.PcNtf notices) = falls _ _ refl
fine_open_wait s (messages.PcErr reports) = falls _ _ refl
fine_open_wait s (messages.Other kind) = falls _ _ refl

fine_terms : (s : State) (m : Message) (o : Option OpenBody) → IsLive s.phase → IsKept m → IsFine (input.Got m) (refused_terms s o)
fine_terms s m None live kept = falls _ _ refl
fine_terms s m (Some body) live kept = pick (input.Got m) s.retried _ _ (λ is. falls _ _ refl) (λ is. keeps m _ live kept)

fine_refused : (s : State) (reports : List ErrorReport) (e : Option (ℕ × ℕ)) (o : Option OpenBody) → first_error_of reports ≡ e → IsLive s.phase → IsFine (input.Got (messages.PcErr reports)) (refused s e o)
fine_refused s reports None o is live = falls _ _ refl
fine_refused s reports (Some e) o is live =
    pick (input.Got (messages.PcErr reports)) ((e.0 == 1) && (e.1 == 4)) (refused_terms s o) _
    (λ hit. fine_terms s (messages.PcErr reports) o live (e, is, hit)) (λ miss. falls _ _ refl)

fine_keep_wait : (s : State) (m : Message) → IsLive s.phase → IsFine (input.Got m) (keep_wait s m)
fine_keep_wait s messages.Keepalive live = keeps messages.Keepalive _ tt tt
fine_keep_wait s (messages.Close why) live = falls _ _ refl
fine_keep_wait s (messages.PcErr reports) live = fine_refused s reports (first_error_of reports) (first_opening_of reports) refl live
fine_keep_wait s (messages.Open body) live = falls _ _ refl
fine_keep_wait s (messages.PcReq asks) live = falls _ _ refl
fine_keep_wait s (messages.PcRep replies) live = falls _ _ refl
fine_keep_wait s (messages.PcNtf notices) live = falls _ _ refl
fine_keep_wait s (messages.Other kind) live = falls _ _ refl

fine_unknown : (s : State) (kind : ℕ) → IsLive s.phase → IsFine (input.Got (messages.Other kind)) (unknown_type s)
fine_unknown s kind live = pick (input.Got (messages.Other kind)) (is_recent s s.unknown.oldest) _ _ (λ is. falls _ _ refl) (λ is. keeps (messages.Other kind) _ live tt)

fine_up : (s : State) (m : Message) → IsLive s.phase → IsFine (input.Got m) (in_up s m)
fine_up s messages.Keepalive live = keeps messages.Keepalive _ live tt
fine_up s (messages.Open body) live = keeps (messages.Open body) _ live tt
fine_up s (messages.PcReq asks) live = passes (messages.PcReq asks) _ live refl
fine_up s (messages.PcRep replies) live = passes (messages.PcRep replies) _ live refl
fine_up s (messages.PcNtf notices) live = passes (messages.PcNtf notices) _ live refl
fine_up s (messages.PcErr reports) live = passes (messages.PcErr reports) _ live refl
fine_up s (messages.Close why) live = falls _ _ refl
fine_up s (messages.Other kind) live =
    pick (input.Got (messages.Other kind)) (kind == 10) _ _ (λ is. falls _ _ refl)
    (λ is. pick (input.Got (messages.Other kind)) (kind == 11) _ (unknown_type s) (λ is'. falls _ _ refl) (λ is'. fine_unknown s kind live))

begin_got : (m : Message) → input.Begin ≡ input.Got m → ⊥
begin_got m e = cc

begin_bad : input.Begin ≡ input.Bad → ⊥
begin_bad e = cc

module _ (now : Tick) where
  tick_got : (m : Message) → input.Tick now ≡ input.Got m → ⊥
  tick_got m e = cc

  tick_bad : input.Tick now ≡ input.Bad → ⊥
  tick_bad e = cc

  ticks : (r : SessionStep) → IsLive r.next.phase → IsFine (input.Tick now) r
  ticks r live = others (input.Tick now) r live tick_got tick_bad

  fine_waits : (s : State) (error : ℕ) → IsLive s.phase → IsFine (input.Tick now) (waits s error)
  fine_waits s error live = pick (input.Tick now) (has_passed s s.since 60) _ _ (λ is. falls _ _ refl) (λ is. ticks _ live)

  fine_up_tick : (s : State) → IsLive s.phase → IsFine (input.Tick now) (up_tick s)
  fine_up_tick s live =
      pick (input.Tick now) (not (s.agreed.dead == 0) && has_passed s s.heard s.agreed.dead) _ _ (λ is. falls _ _ refl)
      (λ is. pick (input.Tick now) (not (s.agreed.keepalive == 0) && has_passed s s.sent s.agreed.keepalive) _ _ (λ is'. ticks _ live) (λ is'. ticks _ live))

fine_in : (p : Phase) (s : State) (x : Input) → s.phase ≡ p → IsLive p → IsFine x (turn_in p s x)
fine_in phase.Idle s x is live = absurd live
fine_in phase.Down s x is live = absurd live
fine_in phase.OpenWait s input.Begin is live = others input.Begin _ (subst IsLive (sym is) live) begin_got begin_bad
fine_in phase.OpenWait s (input.Got m) is live = fine_open_wait (heard s) m
fine_in phase.OpenWait s input.Bad is live = falls _ _ refl
fine_in phase.OpenWait s (input.Tick now) is live = fine_waits now (at_tick s now) 2 (subst IsLive (sym is) live)
fine_in phase.KeepWait s input.Begin is live = others input.Begin _ (subst IsLive (sym is) live) begin_got begin_bad
fine_in phase.KeepWait s (input.Got m) is live = fine_keep_wait (heard s) m (subst IsLive (sym is) live)
fine_in phase.KeepWait s input.Bad is live = falls _ _ refl
fine_in phase.KeepWait s (input.Tick now) is live = fine_waits now (at_tick s now) 7 (subst IsLive (sym is) live)
fine_in phase.Up s input.Begin is live = others input.Begin _ (subst IsLive (sym is) live) begin_got begin_bad
fine_in phase.Up s (input.Got m) is live = fine_up (heard s) m (subst IsLive (sym is) live)
fine_in phase.Up s input.Bad is live = falls _ _ refl
fine_in phase.Up s (input.Tick now) is live = fine_up_tick now (at_tick s now) (subst IsLive (sym is) live)

-- what a live session does
pub fine : (s : State) (x : Input) → IsLive s.phase → IsFine x (turn_of s x)
fine s x live = fine_in s.phase s x refl live
