-- What the taking of a message does to each request, by the transcript's words.
use Rattle.std.proofs.Common.{◌≡◌, ℕ, Bool, cond, Option, Some, None, List, [], ◌∷◌, ◌++◌, length, inl, inr, sym, ◌∙◌, ap, refl, arith}
use Rattle.std.proofs.lemmas.Bool.{cases_Bool}
use Rattle.plant_model.specs.Types.{As, Peer, Hop, Message, Asked, Notice, Class, RequestKey, NetworkParts, ElementRow}
use Rattle.pcep_messages.specs.declared.message.Message.TheVariants as messages
use Rattle.request_table.specs.Pending.{Pending, ArePending}
use Rattle.plant_model.specs.declared.output.Output.{Output}
use Rattle.plant_text.specs.Names.{same_as, parent_as}
use Rattle.plant_model.specs.Wire.{Codec}
use Rattle.plant_model.specs.Element.{Item, Element, Taken}
use Rattle.plant_model.specs.Taking as taking
use Rattle.plant_model.specs.Parent as parent
use Rattle.plant_model.specs.Parent.{Parent, ParentTaken, Family, Asking}
use Rattle.plant_text.specs.Settings.{row_of, deny_at}
use Rattle.plant_model.specs.Settings.{place, place_from}
use Rattle.plant_model.specs.Routes.{routes}
use Rattle.plant_laws.specs.Transcript.{answers_to, Effect, Keeps, Ends, Begins, ends_if, take_effect}
use Rattle.plant_laws.proofs.Runs.Decompose.{nil_right}
use Rattle.plant_laws.proofs.Runs.Seen.{seen}
use Rattle.plant_laws.proofs.Once.TableSteps.{any_by, IsStep, nobody}
use Rattle.plant_laws.proofs.Once.TableAsks.{IsBegun, Moves, moves_ended, IsAsked, keeps_asked}
use Rattle.plant_laws.proofs.Once.ElementSteps as lower
use Rattle.plant_laws.proofs.Once.ElementSteps.{gone_by, gone_is}
use Rattle.plant_laws.proofs.Once.ParentSteps as upper
use Rattle.plant_laws.proofs.Once.ElementAsks as asks
use Rattle.plant_laws.proofs.Once.ParentAsks as upper_asks

-- a message of requests has one
abbrev pub IsSingle : Message → Type 0
IsSingle (messages.PcReq as') = length as' ≡ 1
IsSingle m = Unit {0}

pub own_is : (n : NetworkParts) (d : As) → (place n d).own ≡ d
own_is n d = go n.elements
  where
    go : (rows : List ElementRow) → (place_from d (deny_at d n.deny) (routes n d) (row_of d rows)).own ≡ d
    go [] = refl
    go (r ∷ rows) = elim (cases_Bool (same_as r.own d)) [ inl hit ↦ rw hit refl | inr miss ↦ rw miss (go rows) ]

module _ {T : Type 0} {U : Type 0} (core : T → U) where
  pub ended_asked : (Good : RequestKey → U → Type 0) (t t' : Pending T) (gone : RequestKey → Bool) (os : List Output) (effect : RequestKey → Effect) → IsStep core t t' gone os →
      ((key : RequestKey) → effect key ≡ cond (gone key) Ends (ends_if (answers_to key.peer key.id os))) → IsAsked core Good effect t t'
  ended_asked Good t t' gone os effect step is = record {
    pending = step.pending;
    limit = step.limit;
    moves = λ key. rw (is key)
        (moves_ended Good key (gone key) (answers_to key.peer key.id os) (seen core key t.rows) (seen core key t'.rows) (step.table key));
  }

  begun_map : (G H : RequestKey → U → Type 0) → ((key : RequestKey) (u : U) → G key u → H key u) → (key : RequestKey) (a b : Option U) → IsBegun G key a b → IsBegun H key a b
  begun_map G H f key None None h = h
  begun_map G H f key None (Some u) h = f key u h
  begun_map G H f key (Some v) None h = h
  begun_map G H f key (Some v) (Some u) h = h

  moves_map : (G H : RequestKey → U → Type 0) → ((key : RequestKey) (u : U) → G key u → H key u) → (key : RequestKey) (e : Effect) (a b : Option U) → Moves G key e a b → Moves H key e a b
  moves_map G H f key Keeps a b h = h
  moves_map G H f key Ends a b h = h
  moves_map G H f key Begins a b h = begun_map G H f key a b h

  pub asked_map : (G H : RequestKey → U → Type 0) → ((key : RequestKey) (u : U) → G key u → H key u) → (effect effect' : RequestKey → Effect) (t t' : Pending T) → ((key : RequestKey) → effect' key ≡ effect key) →
      IsAsked core G effect t t' → IsAsked core H effect' t t'
  asked_map G H f effect effect' t t' same h = record {
    pending = h.pending;
    limit = h.limit;
    moves = λ key. rw (same key) (moves_map G H f key (effect key) (seen core key t.rows) (seen core key t'.rows) (h.moves key));
  }

module _ (P : Type 0) (S : Type 0) (c : Codec) (show : S → List Hop) (n : NetworkParts) (at : As) (pin : P) (p : Peer) (class : Class) (now : ℕ) (k : Element P S) where
  -- what is opened by this message
  abbrev pub OpenedBy : Message → RequestKey → Item P → Type 0
  OpenedBy m key u = (a : Asked) × (m ≡ messages.PcReq (a ∷ [])) × asks.IsFresh P c (place n at) pin p class a key u

  abbrev after : Message → Taken P S
  after m = taking.take c show (place n at) pin p class now m k

  abbrev pub Taken_well : Message → Type 0
  Taken_well m = IsAsked (lower.core {P = P}) (OpenedBy m) (λ key. take_effect c at key.peer key.id p m (after m).outputs) k.pending (after m).element.pending

  pub take_moves : (m : Message) → IsSingle m → ArePending k.pending → Taken_well m
  take_moves (messages.PcReq []) one are = absurd (let no : 0 ≡ 1 = one in omega arith)
  take_moves (messages.PcReq (a ∷ [])) one are =
      let t = taking.take_asked c show (place n at) pin p class now a k in
      asked_map lower.core (asks.IsFresh P c (place n at) pin p class a) (OpenedBy (messages.PcReq (a ∷ []))) (λ key u h. (a, refl, h))
      (asks.asked_effect P S c show (place n at) pin p class now a k (c.check a (place n at).own) t.outputs)
      (λ key. take_effect c at key.peer key.id p (messages.PcReq (a ∷ [])) (t.outputs ++ []))
      k.pending t.element.pending
      (λ key.
      ap (λ os. take_effect c at key.peer key.id p (messages.PcReq (a ∷ [])) os) (nil_right t.outputs)
      ∙ ap (λ d. take_effect c d key.peer key.id p (messages.PcReq (a ∷ [])) t.outputs) (sym (own_is n at)))
      (asks.asked_step P S c show (place n at) pin p class now a k are)
  take_moves (messages.PcReq (a ∷ b ∷ rest)) one are = absurd (let no : length (a ∷ b ∷ rest) ≡ 1 = one in omega (arith, no))
  take_moves (messages.PcRep replies) one are =
      ended_asked lower.core (OpenedBy (messages.PcRep replies)) k.pending (after (messages.PcRep replies)).element.pending nobody (after (messages.PcRep replies)).outputs
      (λ key. take_effect c at key.peer key.id p (messages.PcRep replies) (after (messages.PcRep replies)).outputs)
      (lower.replies_step P S c p replies k are) (λ key. refl)
  take_moves (messages.PcNtf notices) one are =
      ended_asked lower.core (OpenedBy (messages.PcNtf notices)) k.pending (after (messages.PcNtf notices)).element.pending (λ key. any_by (λ (x : Notice). gone_by p x key) notices) (after (messages.PcNtf notices)).outputs
      (λ key. take_effect c at key.peer key.id p (messages.PcNtf notices) (after (messages.PcNtf notices)).outputs)
      (lower.notices_step P S p notices k are)
      (λ key. ap (λ b. cond b Ends (ends_if (answers_to key.peer key.id (after (messages.PcNtf notices)).outputs))) (sym (gone_is p key notices)))
  take_moves (messages.PcErr reports) one are =
      ended_asked lower.core (OpenedBy (messages.PcErr reports)) k.pending (after (messages.PcErr reports)).element.pending nobody (after (messages.PcErr reports)).outputs
      (λ key. take_effect c at key.peer key.id p (messages.PcErr reports) (after (messages.PcErr reports)).outputs)
      (lower.reports_step P S p reports k are) (λ key. refl)
  take_moves (messages.Open body) one are = keeps_asked lower.core (OpenedBy (messages.Open body)) k.pending (λ key. Keeps) are (λ key. refl)
  take_moves messages.Keepalive one are = keeps_asked lower.core (OpenedBy messages.Keepalive) k.pending (λ key. Keeps) are (λ key. refl)
  take_moves (messages.Close why) one are = keeps_asked lower.core (OpenedBy (messages.Close why)) k.pending (λ key. Keeps) are (λ key. refl)
  take_moves (messages.Other kind) one are = keeps_asked lower.core (OpenedBy (messages.Other kind)) k.pending (λ key. Keeps) are (λ key. refl)

module _ (c : Codec) (f : Family) (p : Peer) (k : Parent) where
  abbrev pub UpperOpenedBy : Message → RequestKey → Asking → Type 0
  UpperOpenedBy m key u = (a : Asked) × (m ≡ messages.PcReq (a ∷ [])) × upper_asks.IsFresh c p a key u

  abbrev upper_after : Message → ParentTaken
  upper_after m = parent.take c f p m k

  pub upper_moves : (m : Message) → IsSingle m → ArePending k.pending →
      IsAsked upper.core (UpperOpenedBy m) (λ key. take_effect c parent_as key.peer key.id p m (upper_after m).outputs) k.pending (upper_after m).parent.pending
  upper_moves (messages.PcReq []) one are = absurd (let no : 0 ≡ 1 = one in omega arith)
  upper_moves (messages.PcReq (a ∷ [])) one are =
      let t = parent.take_asked c f p a k in
      asked_map upper.core (upper_asks.IsFresh c p a) (UpperOpenedBy (messages.PcReq (a ∷ []))) (λ key u h. (a, refl, h))
      (upper_asks.asked_effect c f p a k (c.check a parent_as) t.outputs)
      (λ key. take_effect c parent_as key.peer key.id p (messages.PcReq (a ∷ [])) (t.outputs ++ []))
      k.pending t.parent.pending
      (λ key. ap (λ os. take_effect c parent_as key.peer key.id p (messages.PcReq (a ∷ [])) os) (nil_right t.outputs))
      (upper_asks.asked_step c f p a k are)
  upper_moves (messages.PcReq (a ∷ b ∷ rest)) one are = absurd (let no : length (a ∷ b ∷ rest) ≡ 1 = one in omega (arith, no))
  upper_moves (messages.PcRep replies) one are =
      ended_asked upper.core (UpperOpenedBy (messages.PcRep replies)) k.pending (upper_after (messages.PcRep replies)).parent.pending nobody (upper_after (messages.PcRep replies)).outputs
      (λ key. take_effect c parent_as key.peer key.id p (messages.PcRep replies) (upper_after (messages.PcRep replies)).outputs)
      (upper.replies_step c p replies k are) (λ key. refl)
  upper_moves (messages.PcNtf notices) one are =
      ended_asked upper.core (UpperOpenedBy (messages.PcNtf notices)) k.pending (upper_after (messages.PcNtf notices)).parent.pending (λ key. any_by (λ (x : Notice). gone_by p x key) notices) (upper_after (messages.PcNtf notices)).outputs
      (λ key. take_effect c parent_as key.peer key.id p (messages.PcNtf notices) (upper_after (messages.PcNtf notices)).outputs)
      (upper.notices_step p notices k are)
      (λ key. ap (λ b. cond b Ends (ends_if (answers_to key.peer key.id (upper_after (messages.PcNtf notices)).outputs))) (sym (gone_is p key notices)))
  upper_moves (messages.PcErr reports) one are =
      ended_asked upper.core (UpperOpenedBy (messages.PcErr reports)) k.pending (upper_after (messages.PcErr reports)).parent.pending nobody (upper_after (messages.PcErr reports)).outputs
      (λ key. take_effect c parent_as key.peer key.id p (messages.PcErr reports) (upper_after (messages.PcErr reports)).outputs)
      (upper.reports_step p reports k are) (λ key. refl)
  upper_moves (messages.Open body) one are = keeps_asked upper.core (UpperOpenedBy (messages.Open body)) k.pending (λ key. Keeps) are (λ key. refl)
  upper_moves messages.Keepalive one are = keeps_asked upper.core (UpperOpenedBy messages.Keepalive) k.pending (λ key. Keeps) are (λ key. refl)
  upper_moves (messages.Close why) one are = keeps_asked upper.core (UpperOpenedBy (messages.Close why)) k.pending (λ key. Keeps) are (λ key. refl)
  upper_moves (messages.Other kind) one are = keeps_asked upper.core (UpperOpenedBy (messages.Other kind)) k.pending (λ key. Keeps) are (λ key. refl)
