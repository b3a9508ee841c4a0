-- A request that was open when an event came is open when its message is taken, or was ended by then: an event passes one message on.
use Rattle.std.proofs.Common.{◌≡◌, ℕ, Bool, true, false, cond, ◌==◌, List, [], ◌∷◌, ◌++◌, Option, Some, None, sym, ◌∙◌, ap, subst, inl, inr, refl}
use Rattle.std.specs.Prelude.{◌⊎◌}
use Rattle.plant_model.specs.Types.{As, Peer, Outside, Asked, Message, NetworkParts}
use Rattle.pcep_messages.specs.declared.message.Message.TheVariants as messages
use Rattle.request_table.specs.Pending.{same_peer}
use Rattle.plant_text.specs.Names.{same_as}
use Rattle.plant_model.specs.Deeds.{element_of}
use Rattle.plant_model.specs.Outside.{heeded}
use Rattle.plant_model.specs.declared.event.Event.{Event}
use Rattle.plant_model.specs.declared.event.Event.TheVariants as event
use Rattle.plant_model.specs.declared.output.Output.{Output}
use Rattle.plant_model.specs.Wire.{Bytes, Codec}
use Rattle.plant_model.specs.State.{Connection, Loads, Pops, Takes, Says, Ups, Downs, Clears, Solves, Expires, Hands}
use Rattle.plant_model.specs.Plant.{Plant, PlantDeed}
use Rattle.plant_laws.specs.Causes.{Passes, from_outside, from_inside, HasCause, HaveCauses}
use Rattle.plant_laws.specs.Transcript.{Transcript, Effect, Keeps, Ends, Begins, ends_if, asks_effect, cancels, take_effect, answers_to, effect, after, opened}
use Rattle.plant_laws.proofs.Once.Handing.{IsAsk}
use Rattle.plant_laws.proofs.Runs.Queues.{same_as_is}
use Rattle.plant_laws.proofs.Numbering.SentOn.{same_peer_is}

-- ---- a request begins where a message that asks is taken

no_begin : {X : Type 0} (n : ℕ) → ends_if n ≡ Begins → X
no_begin n e = go (n == 0) e
  where
    go : {X : Type 0} (b : Bool) → cond b Keeps Ends ≡ Begins → X
    go true e' = absurd (let clash : Keeps ≡ Begins = e' in cc)
    go false e' = absurd (let clash : Ends ≡ Begins = e' in cc)

module _ (c : Codec) (d : As) (p : Peer) (x : ℕ) where
  keeps_none : {X : Type 0} → Keeps ≡ Begins → X
  keeps_none e = absurd (let clash : Keeps ≡ Begins = e in cc)

  message_begins : (from : Peer) (m : Message) (os : List Output) → take_effect c d p x from m os ≡ Begins → (from ≡ p) × (asks : List Asked) × (m ≡ messages.PcReq asks)
  message_begins from (messages.PcReq asks) os e = go (same_peer from p) refl e
    where
      go : (b : Bool) → same_peer from p ≡ b → cond b (asks_effect c d x (answers_to p x os) asks) Keeps ≡ Begins → (from ≡ p) × (asks' : List Asked) × (messages.PcReq asks ≡ messages.PcReq asks')
      go true is e' = (same_peer_is from p is, asks, refl)
      go false is e' = keeps_none e'
  message_begins from (messages.PcRep replies) os e = no_begin (answers_to p x os) e
  message_begins from (messages.PcNtf notices) os e = go (cond (same_peer from p) (cancels x notices) false) e
    where
      go : {X : Type 0} (b : Bool) → cond b Ends (ends_if (answers_to p x os)) ≡ Begins → X
      go true e' = absurd (let clash : Ends ≡ Begins = e' in cc)
      go false e' = no_begin (answers_to p x os) e'
  message_begins from (messages.PcErr reports) os e = no_begin (answers_to p x os) e
  message_begins from (messages.Open body) os e = keeps_none e
  message_begins from messages.Keepalive os e = keeps_none e
  message_begins from (messages.Close why) os e = keeps_none e
  message_begins from (messages.Other kind) os e = keeps_none e

  begins_taking : (e : PlantDeed) → effect c d p x e ≡ Begins → (asks : List Asked) × (os : List Output) × (e ≡ Takes d p (messages.PcReq asks) os)
  begins_taking (Takes at from m os) e = go (same_as at d) refl e
    where
      go : (b : Bool) → same_as at d ≡ b → cond b (take_effect c d p x from m os) Keeps ≡ Begins → (asks : List Asked) × (os' : List Output) × ◌≡◌ {A = PlantDeed} (Takes at from m os) (Takes d p (messages.PcReq asks) os')
      go true is e' =
          let g = message_begins from m os e' in (
            g.1,
            os,
            ap (λ (z : As). let y : PlantDeed = Takes z from m os in y) (same_as_is at d is) ∙ ap (λ (z : Peer). let y : PlantDeed = Takes d z m os in y) g.0 ∙ ap (λ (z : Message). let y : PlantDeed = Takes d p z os in y) g.2,
          )
      go false is e' = keeps_none e'
  begins_taking (Downs at q os) e = go (same_as at d) (same_peer q p) e
    where
      go : {X : Type 0} (b b' : Bool) → cond b (cond b' Ends (ends_if (answers_to p x os))) Keeps ≡ Begins → X
      go true true e' = absurd (let clash : Ends ≡ Begins = e' in cc)
      go true false e' = no_begin (answers_to p x os) e'
      go false b' e' = keeps_none e'
  begins_taking (Solves at k os keys) e = go (same_as at d) e
    where
      go : {X : Type 0} (b : Bool) → cond b (ends_if (answers_to p x os)) Keeps ≡ Begins → X
      go true e' = no_begin (answers_to p x os) e'
      go false e' = keeps_none e'
  begins_taking (Loads at g) e = keeps_none e
  begins_taking (Pops a b) e = keeps_none e
  begins_taking (Says at o) e = keeps_none e
  begins_taking (Ups at q) e = keeps_none e
  begins_taking (Clears a b) e = keeps_none e
  begins_taking (Expires t) e = keeps_none e
  begins_taking (Hands i bytes) e = keeps_none e

-- ---- an event passes one message on

module _ (c : Codec) (n : NetworkParts) (before : Plant) (e : Event) where
  same_read : (bytes bytes' : Bytes) (m m' : Message) → bytes ≡ bytes' → c.read bytes ≡ Some m → c.read bytes' ≡ Some m' → m ≡ m'
  same_read bytes bytes' m m' same read read' = let both : Some m ≡ Some m' = sym read ∙ ap c.read same ∙ read' in cc

  outside_same : (i i' : ℕ) (x x' : Connection) (bytes bytes' : Bytes) (rest rest' : List (Option Bytes)) → event.Take i ≡ event.Take i' → (before.accesses i).connection ≡ Some x → (before.accesses i').connection ≡ Some x' →
      x.inbox ≡ Some bytes ∷ rest → x'.inbox ≡ Some bytes' ∷ rest' → bytes ≡ bytes'
  outside_same i i' x x' bytes bytes' rest rest' same conn conn' first first' =
      let number : i ≡ i' = cc in
      let both : Some x ≡ Some x' = sym conn ∙ ap (λ (z : ℕ). (before.accesses z).connection) number ∙ conn' in
      let one : x ≡ x' = cc in
      let lists : Some bytes ∷ rest ≡ Some bytes' ∷ rest' = sym first ∙ ap (λ (z : Connection). z.inbox) one ∙ first' in
      cc

  inside_same : (a a' at at' : As) (bytes bytes' : Bytes) (rest rest' : List Bytes) → event.Carry a at ≡ event.Carry a' at' → before.queues a at ≡ bytes ∷ rest → before.queues a' at' ≡ bytes' ∷ rest' → bytes ≡ bytes'
  inside_same a a' at at' bytes bytes' rest rest' same first first' =
      let from : a ≡ a' = cc in
      let to : at ≡ at' = cc in
      let lists : bytes ∷ rest ≡ bytes' ∷ rest' = sym first ∙ ap (λ (z : As). before.queues z at) from ∙ ap (λ (z : As). before.queues a' z) to ∙ first' in
      cc

  passes_one : (at at' : As) (p p' : Peer) (m m' : Message) → Passes c n before e at p m → Passes c n before e at' p' m' → m ≡ m'
  passes_one at at' p p' m m' (from_outside i x bytes rest raw ev conn first read acts heard here peer) (from_outside i' x' bytes' rest' raw' ev' conn' first' read' acts' heard' here' peer') =
      let takes : event.Take i ≡ event.Take i' = sym ev ∙ ev' in
      let number : i ≡ i' = cc in
      heard ∙ ap (λ (z : ℕ). heeded c (Outside z) (before.elements (element_of n z)).pending.rows raw) number
      ∙ ap (heeded c (Outside i') (before.elements (element_of n i')).pending.rows) (same_read bytes bytes' raw raw' (outside_same i i' x x' bytes bytes' rest rest' takes conn conn' first first') read read') ∙ sym heard'
  passes_one at at' p p' m m' (from_outside i x bytes rest raw ev conn first read acts heard here peer) (from_inside a bytes' rest' ev' linked first' read' acts' peer') = absurd (let clash : event.Take i ≡ event.Carry a at' = sym ev ∙ ev' in cc)
  passes_one at at' p p' m m' (from_inside a bytes rest ev linked first read acts peer) (from_outside i' x' bytes' rest' raw' ev' conn' first' read' acts' heard' here' peer') = absurd (let clash : event.Carry a at ≡ event.Take i' = sym ev ∙ ev' in cc)
  passes_one at at' p p' m m' (from_inside a bytes rest ev linked first read acts peer) (from_inside a' bytes' rest' ev' linked' first' read' acts' peer') =
      same_read bytes bytes' m m' (inside_same a a' at at' bytes bytes' rest rest' (sym ev ∙ ev') first first') read read'

  -- so nothing begins in an event that passes on another message
  pub still_open : (at : As) (q : Peer) (m : Message) → Passes c n before e at q m → (IsAsk m → ⊥) → (earlier base : Transcript) → HaveCauses c n before e earlier → (d : As) (p : Peer) (x : ℕ) (opening : Transcript) → opened c d p x base ≡ Some opening →
      (opened c d p x (earlier ++ base) ≡ Some opening) ⊎ (opened c d p x (earlier ++ base) ≡ None)
  still_open at q m passes asks [] base causes d p x opening is = inl is
  still_open at q m passes asks (f ∷ earlier) base causes d p x opening is = go (effect c d p x f) refl (opened c d p x (earlier ++ base)) (still_open at q m passes asks earlier base causes.1 d p x opening is)
    where
      go : (eff : Effect) → effect c d p x f ≡ eff → (o : Option Transcript) → (o ≡ Some opening) ⊎ (o ≡ None) → (after eff o (f ∷ (earlier ++ base)) ≡ Some opening) ⊎ (after eff o (f ∷ (earlier ++ base)) ≡ None)
      go Keeps by o h = h
      go Ends by o h = inr refl
      go Begins by o h =
          let t = begins_taking c d p x f by in
          let cause : HasCause c n before e earlier (Takes d p (messages.PcReq t.0) t.1) = subst (HasCause c n before e earlier) t.2 causes.0 in
          absurd (asks (subst IsAsk (passes_one d at p q (messages.PcReq t.0) m cause.0 passes) tt))
