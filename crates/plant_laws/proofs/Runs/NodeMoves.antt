-- An element, or the parent, as the node that moves.
use Rattle.std.proofs.Common.{◌≡◌, ◌⊎◌, ℕ, Bool, true, false, cond, List, [], ◌∷◌, sym, ◌∙◌, ap, subst, inl, inr, refl}
use Rattle.std.proofs.lemmas.Bool.{eq-eqb}
use Rattle.plant_model.specs.Types.{As, Addr, Peer, Inner, Message, Wanted}
use Rattle.pcep_messages.specs.declared.message.Message.TheVariants as messages
use Rattle.plant_model.specs.declared.output.Output.{Output}
use Rattle.plant_text.specs.Names.{same_as, parent_as}
use Rattle.plant_model.specs.Names.{set_as}
use Rattle.plant_model.specs.Writing.{request_message}
use Rattle.plant_model.specs.Element.{Element, Taken}
use Rattle.plant_model.specs.Parent.{Parent, ParentTaken, Wait}
use Rattle.plant_model.specs.Plant.{Pin, Segment}
use Rattle.plant_laws.specs.Transcript.{tail_of}
use Rattle.plant_laws.proofs.Runs.Queues.{same_as_is}
use Rattle.plant_laws.proofs.Once.Handing.{In}
use Rattle.plant_laws.proofs.Once.Leaving as lower
use Rattle.plant_laws.proofs.Once.Leaving.{Answers, Answered, by_reply, by_notice, by_error, by_refusal}
use Rattle.plant_laws.proofs.Once.LeavingUpper as upper
use Rattle.plant_laws.proofs.Settled.UnderWay.{Names, Waiting, Queues, Asking, NodeMoves}

abbrev pub Elements : Type 0
Elements = As → Element Pin Segment

-- a request is pending: at the parent with whatever sequence it came
abbrev pub named_of : Elements → Parent → Names
named_of E K b p x sequence = cond (same_as b parent_as) (upper.Named K p x) (lower.Named Pin Segment (E b) p x sequence)

-- a request waits for the next, along the rest of its sequence; the parent's ask a child alone
abbrev pub ElementWaits : Element Pin Segment → As → ℕ → List As → Type 0
ElementWaits k b id sequence = (whole : List As) × lower.WaitsFor Pin Segment k (Inner b) id whole × (sequence ≡ tail_of whole)

abbrev pub ParentWaits : Parent → As → ℕ → List As → Type 0
ParentWaits k b id sequence = (w : Wait) × upper.WaitsFor k w × (w.peer ≡ Inner b) × (w.id ≡ id) × (sequence ≡ w.child ∷ [])

abbrev pub waits_of : Elements → Parent → Waiting
waits_of E K a b id sequence = cond (same_as a parent_as) (ParentWaits K b id sequence) (ElementWaits (E a) b id sequence)

-- nothing is taken from a queue
abbrev pub no_message : Message
no_message = messages.Keepalive

pub no_answer : (id : ℕ) → Answers id no_message → ⊥
no_answer id (by_reply flags a is) = cc
no_answer id (by_notice flags is) = cc
no_answer id (by_error flags is) = cc
no_answer id (by_refusal flags is) = cc

module _ (asks : Asking) (E : Elements) (K : Parent) (from : As) (first : Message) (queues left : Queues)
    (d : As) (popped : (a b : As) (m : Message) → In m (queues a b) → In m (left a b) ⊎ ((a ≡ from) × (b ≡ d) × (m ≡ first))) where
  -- an element moves
  module _ (real : same_as d parent_as ≡ false) (t : Taken Pin Segment) where
    abbrev E' : Elements
    E' = set_as d t.element E

    other_element : (b : As) → same_as b d ≡ false → E b ≡ E' b
    other_element b apart = go (same_as d b) refl
      where
        go : (x : Bool) → same_as d b ≡ x → E b ≡ cond x t.element (E b)
        go true hit = absurd (let is : d ≡ b = same_as_is d b hit in let self : same_as b d ≡ true = subst (λ (z : As). same_as z d ≡ true) is (own d) in let clash : true ≡ false = sym self ∙ apart in cc)
          where
            own : (z : As) → same_as z z ≡ true
            own z = eq-eqb z.0 z.0 refl
        go false miss = refl

    own_element : t.element ≡ E' d
    own_element = ap (λ (x : Bool). cond x t.element (E d)) (sym (own d))
      where
        own : (z : As) → same_as z z ≡ true
        own z = eq-eqb z.0 z.0 refl

    pub element_moves : ((a : As) → lower.Moves Pin Segment (Inner a) (E d) t) →
        ((b : As) (id : ℕ) (w : Wanted) (target : Addr) (sequence : List As) → In {A = Output} (record { to = Inner b; message = request_message id w target sequence }) t.outputs → asks (request_message id w target sequence) b id sequence) →
        ((id : ℕ) (sequence : List As) → asks first d id sequence → lower.Named Pin Segment t.element (Inner from) id sequence ⊎ Answered (Inner from) id t.outputs) →
        ((id : ℕ) (whole : List As) → Answers id first → lower.WaitsFor Pin Segment t.element (Inner from) id whole → ⊥) →
        NodeMoves asks d from first t.outputs (named_of E K) (named_of E' K) (waits_of E K) (waits_of E' K) queues left
    element_moves moves sound seen over = record {
      others_named = λ b p x sequence apart h. subst (λ (k : Element Pin Segment). cond (same_as b parent_as) (upper.Named K p x) (lower.Named Pin Segment k p x sequence)) (other_element b apart) h;
      others_wait = λ a b id sequence apart h. subst (λ (k : Element Pin Segment). cond (same_as a parent_as) (ParentWaits K b id sequence) (ElementWaits k b id sequence)) (sym (other_element a apart)) h;
      popped = popped;
      stays = λ a x sequence h. elim ((moves a).left x sequence (below (upper.Named K (Inner a) x) (lower.Named Pin Segment (E d) (Inner a) x sequence) h)) [
        | inl stays ↦ inl (named_now (Inner a) x sequence stays)
        | inr answered ↦ inr answered
      ];
      old = λ b id sequence h. old b id sequence (waits_now b id sequence h);
      seen = λ id sequence is. elim (seen id sequence is) [ inl there ↦ inl (named_now (Inner from) id sequence there) | inr answered ↦ inr answered ];
      over = λ id sequence answers h. let w = waits_now from id sequence h in over id w.0 answers w.1;
    }
      where
        below : (X Y : Type 0) → cond (same_as d parent_as) X Y → Y
        below X Y h = subst (λ (b : Bool). cond b X Y) real h

        up : (X Y : Type 0) → Y → cond (same_as d parent_as) X Y
        up X Y h = subst (λ (b : Bool). cond b X Y) (sym real) h

        named_now : (p : Peer) (x : ℕ) (sequence : List As) → lower.Named Pin Segment t.element p x sequence → named_of E' K d p x sequence
        named_now p x sequence h = up (upper.Named K p x) (lower.Named Pin Segment (E' d) p x sequence) (subst (λ (k : Element Pin Segment). lower.Named Pin Segment k p x sequence) own_element h)

        waits_now : (b : As) (id : ℕ) (sequence : List As) → waits_of E' K d b id sequence → ElementWaits t.element b id sequence
        waits_now b id sequence h =
            subst (λ (k : Element Pin Segment). ElementWaits k b id sequence) (sym own_element) (below (ParentWaits K b id sequence) (ElementWaits (E' d) b id sequence) h)

        old : (b : As) (id : ℕ) (sequence : List As) → ElementWaits t.element b id sequence →
            waits_of E K d b id sequence ⊎ ((m : Message) × In {A = Output} (record { to = Inner b; message = m }) t.outputs × asks m b id sequence)
        old b id sequence h = elim ((moves d).old (Inner b) id h.0 h.1) [
          | inl before ↦ inl (up (ParentWaits K b id sequence) (ElementWaits (E d) b id sequence) (h.0, before, h.2))
          | inr sent ↦
              let there = subst (λ (l : List As). In {A = Output} (record { to = Inner b; message = request_message id sent.0 sent.0.target l }) t.outputs) (sym h.2) sent.1 in
              inr (request_message id sent.0 sent.0.target sequence, there, sound b id sent.0 sent.0.target sequence there)
        ]

-- the parent moves
module _ (asks : Asking) (E : Elements) (K : Parent) (from : As) (first : Message) (queues left : Queues)
    (popped : (a b : As) (m : Message) → In m (queues a b) → In m (left a b) ⊎ ((a ≡ from) × (b ≡ parent_as) × (m ≡ first))) (t : ParentTaken) where
  pub parent_moves : ((a : As) → upper.Moves (Inner a) K t) →
      ((b : As) (id : ℕ) (w : Wanted) (target : Addr) (sequence : List As) → In {A = Output} (record { to = Inner b; message = request_message id w target sequence }) t.outputs → asks (request_message id w target sequence) b id sequence) →
      ((id : ℕ) (sequence : List As) → asks first parent_as id sequence → upper.Named t.parent (Inner from) id ⊎ Answered (Inner from) id t.outputs) →
      ((id : ℕ) (w : Wait) → Answers id first → upper.WaitsFor t.parent w → w.peer ≡ Inner from → w.id ≡ id → ⊥) →
      NodeMoves asks parent_as from first t.outputs (named_of E K) (named_of E t.parent) (waits_of E K) (waits_of E t.parent) queues left
  parent_moves moves sound seen over = record {
    others_named = λ b p x sequence apart h. other_names b p x sequence apart h;
    others_wait = λ a b id sequence apart h. other_waits a b id sequence apart h;
    popped = popped;
    stays = λ a x sequence h. (moves a).left x h;
    old = λ b id sequence h. old b id sequence h;
    seen = λ id sequence is. seen id sequence is;
    over = λ id sequence answers h. over id h.0 answers h.1 h.2 h.3;
  }
    where
      other_names : (b : As) (p : Peer) (x : ℕ) (sequence : List As) → same_as b parent_as ≡ false → named_of E K b p x sequence → named_of E t.parent b p x sequence
      other_names b p x sequence apart h =
          subst (λ (c : Bool). cond c (upper.Named t.parent p x) (lower.Named Pin Segment (E b) p x sequence)) (sym apart)
          (subst (λ (c : Bool). cond c (upper.Named K p x) (lower.Named Pin Segment (E b) p x sequence)) apart h)

      other_waits : (a b : As) (id : ℕ) (sequence : List As) → same_as a parent_as ≡ false → waits_of E t.parent a b id sequence → waits_of E K a b id sequence
      other_waits a b id sequence apart h =
          subst (λ (c : Bool). cond c (ParentWaits K b id sequence) (ElementWaits (E a) b id sequence)) (sym apart)
          (subst (λ (c : Bool). cond c (ParentWaits t.parent b id sequence) (ElementWaits (E a) b id sequence)) apart h)

      old : (b : As) (id : ℕ) (sequence : List As) → ParentWaits t.parent b id sequence →
          ParentWaits K b id sequence ⊎ ((m : Message) × In {A = Output} (record { to = Inner b; message = m }) t.outputs × asks m b id sequence)
      old b id sequence h = elim ((moves parent_as).old h.0 h.1) [
        | inl before ↦ inl (h.0, before, h.2, h.3, h.4)
        | inr sent ↦
            let there = subst (λ (l : List As). In {A = Output} (record { to = Inner b; message = request_message id sent.0 h.0.target l }) t.outputs) (sym h.4)
            (subst (λ (n : ℕ). In {A = Output} (record { to = Inner b; message = request_message n sent.0 h.0.target (h.0.child ∷ []) }) t.outputs) h.3
            (subst (λ (p : Peer). In {A = Output} (record { to = p; message = request_message h.0.id sent.0 h.0.target (h.0.child ∷ []) }) t.outputs) h.2 sent.1)) in
            inr (request_message id sent.0 h.0.target sequence, there, sound b id sent.0 h.0.target sequence there)
      ]
