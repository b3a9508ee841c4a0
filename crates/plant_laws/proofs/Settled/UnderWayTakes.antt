-- What waits stays under way when an element, or the parent, takes a message: from outside, or from the front of a queue.
use Rattle.std.proofs.Common.{◌≡◌, ◌⊎◌, ℕ, false, List, ◌∷◌, sym, refl}
use Rattle.plant_model.specs.Types.{As, Addr, Peer, Inner, Message, Notice, Wanted, Class}
use Rattle.pcep_messages.specs.declared.message.Message.TheVariants as messages
use Rattle.disclosure.specs.Shown.{open_of}
use Rattle.request_table.specs.Pending.{ArePending, same_peer}
use Rattle.plant_model.specs.declared.output.Output.{Output}
use Rattle.plant_text.specs.Names.{same_as, parent_as}
use Rattle.plant_model.specs.Names.{set_as}
use Rattle.plant_model.specs.Wire.{Codec}
use Rattle.plant_model.specs.Writing.{request_message}
use Rattle.plant_model.specs.Element.{ElementSettings}
use Rattle.plant_model.specs.Taking.{take}
use Rattle.plant_model.specs.Parent as parent
use Rattle.plant_model.specs.Parent.{Parent, Family, Wait}
use Rattle.plant_model.specs.State.{Takes}
use Rattle.plant_model.specs.Plant.{Pin, Segment}
use Rattle.plant_laws.specs.Transcript.{Transcript}
use Rattle.plant_laws.proofs.Once.Handing.{In}
use Rattle.plant_laws.proofs.Once.Leaving as lower
use Rattle.plant_laws.proofs.Once.Leaving.{Answers, Answered, CancelNone}
use Rattle.plant_laws.proofs.Once.LeavingUpper as upper
use Rattle.plant_laws.proofs.Settled.UnderWay.{Asking, Queues, AllAlive, node_alive, queues_at, queue_now, with_sent, alive_same}
use Rattle.plant_laws.proofs.Runs.NodeMoves.{Elements, named_of, waits_of, element_moves, parent_moves}

-- The message stood first in a queue to d, or stands for nothing.
module _ (asks : Asking) (c : Codec) (E : Elements) (K : Parent) (d from : As) (first : Message) (queues : Queues) (ds : Transcript)
    (popped : (a b : As) (m : Message) → In m (queues a b) → In m (queues_at ds a b) ⊎ ((a ≡ from) × (b ≡ d) × (m ≡ first)))
    (alive : AllAlive asks (named_of E K) (waits_of E K) queues)
    (q : Peer) (m : Message) (free : (a : As) (notices : List Notice) → m ≡ messages.PcNtf notices → (same_peer q (Inner a) ≡ false) ⊎ CancelNone notices) where
  module _ (real : same_as d parent_as ≡ false) (are : ArePending (E d).pending) (e : ElementSettings) (pin : Pin) (class : Class) (now : ℕ) where
    pub element_takes : (let t = take c open_of e pin q class now m (E d) in
        ((b : As) (id : ℕ) (w : Wanted) (target : Addr) (sequence : List As) → In {A = Output} (record { to = Inner b; message = request_message id w target sequence }) t.outputs → asks (request_message id w target sequence) b id sequence) →
        ((id : ℕ) (sequence : List As) → asks first d id sequence → lower.Named Pin Segment t.element (Inner from) id sequence ⊎ Answered (Inner from) id t.outputs) →
        ((id : ℕ) (whole : List As) → Answers id first → lower.WaitsFor Pin Segment t.element (Inner from) id whole → ⊥) →
        AllAlive asks (named_of (set_as d t.element E) K) (waits_of (set_as d t.element E) K) (queues_at (Takes d q m t.outputs ∷ ds)))
    element_takes sound seen over =
        let t = take c open_of e pin q class now m (E d) in
        let E' = set_as d t.element E in
        let moves = element_moves asks E K from first queues (queues_at ds) d popped real t
        (λ a. (lower.take_moves Pin Segment c q (Inner a) open_of e pin class now m (free a) (E d) are).0) sound seen over in
        alive_same asks (named_of E' K) (waits_of E' K) (with_sent d t.outputs (queues_at ds)) (queues_at (Takes d q m t.outputs ∷ ds))
        (λ a b. sym (queue_now d t.outputs ds (Takes d q m t.outputs) (λ a'. refl) (λ a' b' xs. refl) a b))
        (node_alive asks d from first t.outputs (named_of E K) (named_of E' K) (waits_of E K) (waits_of E' K) queues (queues_at ds) moves alive)

module _ (asks : Asking) (c : Codec) (E : Elements) (K : Parent) (from : As) (first : Message) (queues : Queues) (ds : Transcript)
    (popped : (a b : As) (m : Message) → In m (queues a b) → In m (queues_at ds a b) ⊎ ((a ≡ from) × (b ≡ parent_as) × (m ≡ first)))
    (alive : AllAlive asks (named_of E K) (waits_of E K) queues)
    (q : Peer) (m : Message) (free : (a : As) (notices : List Notice) → m ≡ messages.PcNtf notices → (same_peer q (Inner a) ≡ false) ⊎ CancelNone notices)
    (are : ArePending K.pending) (f : Family) where
  pub parent_takes : (let t = parent.take c f q m K in
      ((b : As) (id : ℕ) (w : Wanted) (target : Addr) (sequence : List As) → In {A = Output} (record { to = Inner b; message = request_message id w target sequence }) t.outputs → asks (request_message id w target sequence) b id sequence) →
      ((id : ℕ) (sequence : List As) → asks first parent_as id sequence → upper.Named t.parent (Inner from) id ⊎ Answered (Inner from) id t.outputs) →
      ((id : ℕ) (w : Wait) → Answers id first → upper.WaitsFor t.parent w → w.peer ≡ Inner from → w.id ≡ id → ⊥) →
      AllAlive asks (named_of E t.parent) (waits_of E t.parent) (queues_at (Takes parent_as q m t.outputs ∷ ds)))
  parent_takes sound seen over =
      let t = parent.take c f q m K in
      let moves = parent_moves asks E K from first queues (queues_at ds) popped t (λ a. (upper.take_moves c q (Inner a) f m (free a) K are).0) sound seen over in
      alive_same asks (named_of E t.parent) (waits_of E t.parent) (with_sent parent_as t.outputs (queues_at ds)) (queues_at (Takes parent_as q m t.outputs ∷ ds))
      (λ a b. sym (queue_now parent_as t.outputs ds (Takes parent_as q m t.outputs) (λ a'. refl) (λ a' b' xs. refl) a b))
      (node_alive asks parent_as from first t.outputs (named_of E K) (named_of E t.parent) (waits_of E K) (waits_of E t.parent) queues (queues_at ds) moves alive)
