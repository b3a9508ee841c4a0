-- Answers to open requests: all but what is said to a message that asks.
use Rattle.std.proofs.Common.{◌≡◌, ◌+◌, nat_eq, ℕ, Bool, true, false, cond, [], ◌∷◌, refl, arith}
use Rattle.plant_model.specs.Types.{As, Peer, Message, Own}
use Rattle.pcep_messages.specs.declared.message.Message.TheVariants as messages
use Rattle.pcep_session.specs.declared.actions.Own.TheVariants as own
use Rattle.request_table.specs.Pending.{same_peer}
use Rattle.plant_model.specs.Deeds.{own_message}
use Rattle.plant_model.specs.State.{Loads, Pops, Takes, Says, Ups, Downs, Clears, Solves, Expires, Hands}
use Rattle.plant_model.specs.Plant.{PlantDeed}
use Rattle.plant_laws.specs.Transcript.{outputs_at, one_if, count_answers, answers_to}

-- How many answers to the open request x of p a deed of d has. What is said to a message that asks is about that message, whose
-- sender may use the id again.
abbrev pub besides_asking : Peer → Peer → Message → ℕ → ℕ
besides_asking p from (messages.PcReq asks) n = cond (same_peer from p) 0 n
besides_asking p from (messages.PcRep replies) n = n
besides_asking p from (messages.PcNtf notices) n = n
besides_asking p from (messages.PcErr reports) n = n
besides_asking p from (messages.Open body) n = n
besides_asking p from messages.Keepalive n = n
besides_asking p from (messages.Close why) n = n
besides_asking p from (messages.Other kind) n = n

abbrev pub besides : Peer → PlantDeed → ℕ → ℕ
besides p (Takes at from m os) n = besides_asking p from m n
besides p _ n = n

abbrev pub answers_in : As → Peer → ℕ → PlantDeed → ℕ
answers_in d p x e = besides p e (answers_to p x (outputs_at d e))

-- nothing but these
pub no_more : (p from : Peer) (m : Message) → besides_asking p from m 0 ≡ 0
no_more p from (messages.PcReq asks) = go (same_peer from p)
  where
    go : (b : Bool) → ◌≡◌ {A = ℕ} (cond b 0 0) 0
    go true = refl
    go false = refl
no_more p from (messages.PcRep replies) = refl
no_more p from (messages.PcErr reports) = refl
no_more p from (messages.PcNtf notices) = refl
no_more p from (messages.Open body) = refl
no_more p from messages.Keepalive = refl
no_more p from (messages.Close why) = refl
no_more p from (messages.Other kind) = refl

-- a session's own messages answer nothing
pub own_none : (p : Peer) (o : Own) (q : Peer) (x : ℕ) → answers_to q x (record { to = p; message = own_message o } ∷ []) ≡ 0
own_none p o q x = go (same_peer p q) o
  where
    go : (b : Bool) (o : Own) → cond b (count_answers x (own_message o)) 0 + 0 ≡ 0
    go true (own.Open offer) = omega arith
    go true own.Keepalive = omega arith
    go true (own.Error kind value) = errs (nat_eq kind 8) (nat_eq value 0)
      where
        errs : (b b' : Bool) → (one_if (cond (cond b (cond b' true false) false) false false) + 0) + 0 ≡ 0
        errs true true = omega arith
        errs true false = omega arith
        errs false b' = omega arith
    go true (own.Close why) = omega arith
    go false o = omega arith
