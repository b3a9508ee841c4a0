-- What is sent weighs, and how a table with what it sends becomes lighter.
use Rattle.std.proofs.Common.{◌≡◌, ◌≤◌, ◌<◌, ◌+◌, ◌*◌, ℕ, List, [], ◌∷◌, ◌++◌, Option, refl, arith}
use Rattle.plant_laws.specs.plant_model.Types.{As, Peer, Outside, Inner, Answer, Message, NetworkParts}
use Rattle.pcep_messages.specs.declared.message.Message.TheVariants as messages
use Rattle.plant_laws.specs.plant_model.declared.output.Output.{Output}
use Rattle.plant_laws.specs.plant_model.Wire.{Codec}
use Rattle.plant_laws.specs.plant_model.Writing.{reply_message, error_message, busy}
use Rattle.run_laws.specs.Settling.{total, cost}
use Rattle.run_laws.proofs.SettlingLemmas.Sums.{total_append}

-- a request
abbrev pub ask_count : Message → ℕ
ask_count (messages.PcReq asks) = 1
ask_count (messages.PcRep replies) = 0
ask_count (messages.PcNtf notices) = 0
ask_count (messages.PcErr reports) = 0
ask_count (messages.Open body) = 0
ask_count messages.Keepalive = 0
ask_count (messages.Close why) = 0
ask_count (messages.Other kind) = 0

abbrev pub asked_count : List Output → ℕ
asked_count os = total (λ (o : Output). ask_count o.message) os

module _ (c : Codec) (n : NetworkParts) where
  -- to an outside peer nothing
  abbrev pub peer_weight : Peer → Message → ℕ
  peer_weight (Outside i) m = 0
  peer_weight (Inner b) m = 1 + cost c n b m

  abbrev pub sent_weight : List Output → ℕ
  sent_weight os = total (λ (o : Output). peer_weight o.to o.message) os

  -- what an answer brings about, and what a report does; neither asks
  pub record IsAtMost (w : ℕ) (m : Message) : Type 0 where
    pub asks : ask_count m ≡ 0
    pub costs : (b : As) → cost c n b m ≤ w

  pub reply_light : (flags id : ℕ) (a : Answer) → IsAtMost 2 (reply_message flags id a)
  reply_light flags id a = record { asks = refl; costs = λ b. omega arith }

  pub busy_light : (flags id : ℕ) → IsAtMost 1 (busy flags id)
  busy_light flags id = record { asks = refl; costs = λ b. omega arith }

  pub error_light : (rp : Option (ℕ × ℕ)) (kind value : ℕ) → IsAtMost 1 (error_message rp kind value)
  error_light rp kind value = record { asks = refl; costs = λ b. omega arith }

  pub light_more : (v w : ℕ) (m : Message) → v ≤ w → IsAtMost v m → IsAtMost w m
  light_more v w m le light = record { asks = light.asks; costs = λ b. (let here = light.costs b in omega (arith, le, here)) }

  one_light : (w : ℕ) (to : Peer) (m : Message) → IsAtMost w m → peer_weight to m + ask_count m ≤ 1 + w
  one_light w (Outside i) m light = let none = light.asks in omega (arith, none)
  one_light w (Inner b) m light = let none = light.asks in let here = light.costs b in omega (arith, none, here)

  -- what is sent, one for each request in it, and four for each that is pending, is at most so much more
  pub record Weighs (before after w : ℕ) (os : List Output) : Type 0 where
    pub least : sent_weight os + asked_count os + 4 * after ≤ 4 * before + w

  pub rests_weigh : (k w : ℕ) → Weighs k k w []
  rests_weigh k w = record { least = omega arith }

  pub then_weigh : (a b d v w : ℕ) (xs ys : List Output) → Weighs a b v xs → Weighs b d w ys → Weighs a d (v + w) (xs ++ ys)
  then_weigh a b d v w xs ys first second = record {
    least = (
        let one = first.least in
        let two = second.least in
        let sent = total_append (λ (o : Output). peer_weight o.to o.message) xs ys in
        let asked = total_append (λ (o : Output). ask_count o.message) xs ys in
        omega (arith, one, two, sent, asked)
        );
  }

  pub more_weigh : (a b v w : ℕ) (os : List Output) → v ≤ w → Weighs a b v os → Weighs a b w os
  more_weigh a b v w os le first = record { least = (let one = first.least in omega (arith, one, le)) }

  pub only_weigh : (k w v : ℕ) (to : Peer) (m : Message) → IsAtMost v m → 1 + v ≤ w → Weighs k k w (record { to = to; message = m } ∷ [])
  only_weigh k w v to m light le = record { least = (let one = one_light v to m light in omega (arith, one, le)) }

  -- a request that ends is answered
  pub ended_weigh : (a b : ℕ) (to : Peer) (m : Message) → IsAtMost 2 m → 1 + b ≤ a → Weighs a b 0 (record { to = to; message = m } ∷ [])
  ended_weigh a b to m light less = record { least = (let one = one_light 2 to m light in omega (arith, one, less)) }

  pub same_weigh : (a b w : ℕ) → b ≡ a → Weighs a b w []
  same_weigh a b w same = record { least = omega (arith, same) }

  pub fewer_weigh : (a b w : ℕ) → b ≤ a → Weighs a b w []
  fewer_weigh a b w less = record { least = omega (arith, less) }

  -- a request that was solved makes all less
  pub record IsLighter (a b : ℕ) (os : List Output) : Type 0 where
    pub less : sent_weight os + asked_count os + 4 * b < 4 * a

  pub ended_lighter : (a b : ℕ) (to : Peer) (m : Message) → IsAtMost 2 m → 1 + b ≤ a → IsLighter a b (record { to = to; message = m } ∷ [])
  ended_lighter a b to m light less = record { less = (let one = one_light 2 to m light in omega (arith, one, less)) }
