-- Which message asks an element, or the parent, for a request, and what is done with it; and what an answer does.
use Rattle.std.proofs.Common.{◌≡◌, ◌⊎◌, ◌≤◌, ℕ, Bool, true, false, cond, List, ◌∷◌, Some, None, sym, ◌∙◌, subst, refl, inr}
use Rattle.plant_model.specs.Types.{As, Addr, Asked, Message, Wanted, NetworkParts, Inner}
use Rattle.disclosure.specs.Shown.{open_of}
use Rattle.disclosure.specs.declared.class.Class.TheVariants.{Neighbour, Parent}
use Rattle.pcep_messages.specs.declared.message.Wish.TheVariants.{Path}
use Rattle.request_table.specs.Pending.{ArePending, number_of}
use Rattle.plant_model.specs.declared.output.Output.{Output}
use Rattle.plant_text.specs.Names.{same_as, parent_as}
use Rattle.plant_model.specs.Wire.{Codec, Admitted, Wrong}
use Rattle.plant_model.specs.Writing.{asked_of, request_message, reply_message, busy, error_message}
use Rattle.plant_text.specs.Settings.{class_of}
use Rattle.plant_model.specs.Settings.{place, family}
use Rattle.plant_model.specs.Element.{Waits, Row, Element, is_client}
use Rattle.plant_model.specs.Taking.{take, take_asked}
use Rattle.plant_model.specs.Parent as parent
use Rattle.plant_model.specs.Plant.{Pin, Segment}
use Rattle.plant_laws.proofs.Runs.Decompose.{nil_right}
use Rattle.plant_laws.proofs.Once.Handing.{In}
use Rattle.plant_laws.proofs.Runs.Sessions.{IsKept}
use Rattle.plant_laws.proofs.Once.Leaving as lower
use Rattle.plant_laws.proofs.Once.Leaving.{Answers, Answered, by_reply, by_notice, by_error, by_refusal}
use Rattle.plant_laws.proofs.Once.LeavingUpper as upper
use Rattle.plant_laws.proofs.Numbering.Taken as taken
use Rattle.plant_laws.proofs.Numbering.TakenUpper as taken_up
use Rattle.plant_laws.proofs.Numbering.TakenUpper.{count_waits, none_waits}
use Rattle.plant_laws.proofs.Once.Takes.{own_is}
use Rattle.plant_laws.proofs.Runs.NodeMoves.{no_message}

-- A request is admitted, at an element along a sequence that begins with it; or the parent does not serve its kind.
pub data IsMet (c : Codec) (a : Asked) (b : As) (id : ℕ) (l : List As) : Type 0 where
  admitted : (flags : ℕ) (w : Wanted) → c.check a b ≡ Admitted (record { flags = flags; id = id; wish = Path w }) →
      (same_as b parent_as ≡ false → (w.sequence ≡ l) × ((rest : List As) × (l ≡ b ∷ rest))) → IsMet c a b id l
  refused : (flags : ℕ) → b ≡ parent_as → c.check a b ≡ Wrong (Some (flags, id)) 4 2 → IsMet c a b id l

-- The message asks b for one request.
pub record Asks (c : Codec) (m : Message) (b : As) (id : ℕ) (l : List As) : Type 0 where
  pub sent : Wanted
  pub end : Addr
  pub is : m ≡ request_message id sent end l
  pub met : IsMet c (asked_of id sent end l) b id l

pub asks_nothing : (c : Codec) (b : As) (id : ℕ) (l : List As) → Asks c no_message b id l → ⊥
asks_nothing c b id l h = let is = h.is in cc

pub kept_asks : (c : Codec) (m : Message) (b : As) (id : ℕ) (l : List As) → IsKept m → Asks c m b id l → ⊥
kept_asks c m b id l kept h = subst IsKept h.is kept

pub closed_class : (n : NetworkParts) (a : As) → is_client (class_of n (Inner a)) ≡ false
closed_class n a = go (same_as a parent_as)
  where
    go : (b : Bool) → is_client (cond b Parent (Neighbour a)) ≡ false
    go true = refl
    go false = refl

module _ (c : Codec) (n : NetworkParts) (a : As) where
  -- a request that an element takes is pending or answered
  pub element_seen : (d : As) (pin : Pin) (now : ℕ) (k : Element Pin Segment) (m : Message) (id : ℕ) (l : List As) → same_as d parent_as ≡ false → Asks c m d id l → number_of k.pending (Inner a) id ≡ None →
      (let t = take c open_of (place n d) pin (Inner a) (class_of n (Inner a)) now m k in lower.Named Pin Segment t.element (Inner a) id l ⊎ Answered (Inner a) id t.outputs)
  element_seen d pin now k m id l real h fresh =
      let asked = asked_of id h.sent h.end l in
      let t = take_asked c open_of (place n d) pin (Inner a) (class_of n (Inner a)) now asked k in
      subst (λ (m' : Message). (let u = take c open_of (place n d) pin (Inner a) (class_of n (Inner a)) now m' k in lower.Named Pin Segment u.element (Inner a) id l ⊎ Answered (Inner a) id u.outputs)) (sym h.is)
      (subst (λ (os : List Output). lower.Named Pin Segment t.element (Inner a) id l ⊎ Answered (Inner a) id os) (sym (nil_right t.outputs)) (seen asked h.met))
    where
      seen : (asked : Asked) → IsMet c asked d id l →
          (let t = take_asked c open_of (place n d) pin (Inner a) (class_of n (Inner a)) now asked k in lower.Named Pin Segment t.element (Inner a) id l ⊎ Answered (Inner a) id t.outputs)
      seen asked (admitted flags w is along) =
          let t = take_asked c open_of (place n d) pin (Inner a) (class_of n (Inner a)) now asked k in
          let to = along real in
          subst (λ (l' : List As). lower.Named Pin Segment t.element (Inner a) id l' ⊎ Answered (Inner a) id t.outputs) (sym to.1.1)
          (taken.ask_seen Pin Segment c (Inner a) k open_of (place n d) pin (class_of n (Inner a)) (closed_class n a) now asked flags id w d to.1.0
          (subst (λ (z : As). c.check asked z ≡ Admitted (record { flags = flags; id = id; wish = Path w })) (sym (own_is n d)) is) fresh (to.0 ∙ to.1.1))
      seen asked (refused flags above is) =
          let other : same_as parent_as parent_as ≡ false = subst (λ (z : As). same_as z parent_as ≡ false) above real in
          absurd (let clash : true ≡ false = other in cc)

  -- and one that the parent takes
  pub parent_seen : (k : parent.Parent) (m : Message) (id : ℕ) (l : List As) → Asks c m parent_as id l → number_of k.pending (Inner a) id ≡ None →
      (let t = parent.take c (family n) (Inner a) m k in upper.Named t.parent (Inner a) id ⊎ Answered (Inner a) id t.outputs)
  parent_seen k m id l h fresh =
      let asked = asked_of id h.sent h.end l in
      let t = parent.take_asked c (family n) (Inner a) asked k in
      subst (λ (m' : Message). (let u = parent.take c (family n) (Inner a) m' k in upper.Named u.parent (Inner a) id ⊎ Answered (Inner a) id u.outputs)) (sym h.is)
      (subst (λ (os : List Output). upper.Named t.parent (Inner a) id ⊎ Answered (Inner a) id os) (sym (nil_right t.outputs))
      (seen asked h.met))
    where
      seen : (asked : Asked) → IsMet c asked parent_as id l →
          (let t = parent.take_asked c (family n) (Inner a) asked k in upper.Named t.parent (Inner a) id ⊎ Answered (Inner a) id t.outputs)
      seen asked (admitted flags w is along) = taken_up.ask_seen c (family n) (Inner a) k asked flags id w is fresh
      seen asked (refused flags above is) = inr (taken_up.refused_seen c (family n) (Inner a) k asked flags id is)

  -- nothing waits for an answer that is taken
  module _ (id : ℕ) where
    pub element_over : (d : As) (pin : Pin) (now : ℕ) (k : Element Pin Segment) (m : Message) → ArePending k.pending →
        ((g h : Row Pin) → In g k.pending.rows → In h k.pending.rows → g.1.item.stage ≡ Waits (Inner a) id → h.1.item.stage ≡ Waits (Inner a) id → g ≡ h) → Answers id m →
        (whole : List As) → lower.WaitsFor Pin Segment (take c open_of (place n d) pin (Inner a) (class_of n (Inner a)) now m k).element (Inner a) id whole → ⊥
    element_over d pin now k m are once answers whole = go answers
      where
        Over : Message → Type 0
        Over m' = lower.WaitsFor Pin Segment (take c open_of (place n d) pin (Inner a) (class_of n (Inner a)) now m' k).element (Inner a) id whole → ⊥

        go : Answers id m → Over m
        go (by_reply flags answer is) = subst Over (sym is) (taken.reply_over Pin Segment c (Inner a) id k are once open_of (place n d) pin (class_of n (Inner a)) now flags answer whole)
        go (by_notice flags is) = subst Over (sym is) (taken.busy_over Pin Segment c (Inner a) id k are once open_of (place n d) pin (class_of n (Inner a)) now flags whole)
        go (by_error flags is) = subst Over (sym is) (taken.error_over Pin Segment c (Inner a) id k are once open_of (place n d) pin (class_of n (Inner a)) now flags whole)
        go (by_refusal flags is) = subst Over (sym is) (taken.refusal_over Pin Segment c (Inner a) id k are once open_of (place n d) pin (class_of n (Inner a)) now flags whole)

    pub parent_over : (k : parent.Parent) (m : Message) → ArePending k.pending → count_waits (Inner a) id (parent.all_waits k.pending.rows) ≤ 1 → Answers id m →
        (w : parent.Wait) → upper.WaitsFor (parent.take c (family n) (Inner a) m k).parent w → w.peer ≡ Inner a → w.id ≡ id → ⊥
    parent_over k m are once answers = go answers
      where
        Over : Message → Type 0
        Over m' = (w : parent.Wait) → upper.WaitsFor (parent.take c (family n) (Inner a) m' k).parent w → w.peer ≡ Inner a → w.id ≡ id → ⊥

        none : (m' : Message) → (let t = parent.take c (family n) (Inner a) m' k in count_waits (Inner a) id (parent.all_waits t.parent.pending.rows) ≡ 0) → Over m'
        none m' zero = none_waits (Inner a) id (parent.take c (family n) (Inner a) m' k).parent zero

        go : Answers id m → Over m
        go (by_reply flags answer is) = subst Over (sym is) (none (reply_message flags id answer) (taken_up.reply_over c (family n) (Inner a) id k are once flags answer))
        go (by_notice flags is) = subst Over (sym is) (none (busy flags id) (taken_up.busy_over c (family n) (Inner a) id k are once flags))
        go (by_error flags is) = subst Over (sym is) (none (error_message (Some (flags, id)) 13 1) (taken_up.error_over c (family n) (Inner a) id k are once flags))
        go (by_refusal flags is) = subst Over (sym is) (none (error_message (Some (flags, id)) 4 2) (taken_up.refusal_over c (family n) (Inner a) id k are once flags))
