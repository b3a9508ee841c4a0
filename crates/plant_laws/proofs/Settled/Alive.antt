-- What waits stays under way when one node moves: it takes a message, answers a job, or says something.
use Rattle.std.proofs.Common.{◌≡◌, ◌⊎◌, ℕ, Bool, true, false, cond, List, [], ◌∷◌, ◌++◌, sym, ◌∙◌, ap, subst, inl, refl}
use Rattle.std.proofs.lemmas.Bool.{eq-eqb}
use Rattle.plant_model.specs.Types.{As, Addr, Peer, Inner, Message, Notice, Wanted, NetworkParts}
use Rattle.disclosure.specs.Shown.{open_of}
use Rattle.pcep_messages.specs.declared.message.Message.TheVariants as messages
use Rattle.pcep_messages.specs.Spelling.{IsWritten}
use Rattle.request_table.specs.Pending.{ArePending, same_peer}
use Rattle.plant_model.specs.declared.output.Output.{Output}
use Rattle.plant_text.specs.Names.{same_as, parent_as}
use Rattle.plant_model.specs.Names.{set_as}
use Rattle.plant_model.specs.Wire.{Codec}
use Rattle.plant_model.specs.Writing.{request_message}
use Rattle.plant_text.specs.Settings.{class_of}
use Rattle.plant_model.specs.Settings.{place, family}
use Rattle.plant_model.specs.Element.{Taken}
use Rattle.plant_model.specs.Taking.{take}
use Rattle.plant_model.specs.Parent as parent
use Rattle.plant_model.specs.State.{State, Deed, Takes}
use Rattle.plant_model.specs.Deeds.{Going, with_parent, with_element, puts, give}
use Rattle.plant_model.specs.Plant.{Pin, Segment}
use Rattle.plant_laws.specs.Transcript.{Transcript, outputs_at, left_of, Standing}
use Rattle.plant_laws.specs.Sending.{AllSent}
use Rattle.plant_laws.proofs.Runs.Queues.{same_as_is}
use Rattle.plant_laws.proofs.Once.Handing.{In}
use Rattle.plant_laws.proofs.Numbering.Sends.{Each}
use Rattle.plant_laws.proofs.Once.Opened.{puts_elements, puts_parent}
use Rattle.plant_laws.proofs.Once.Leaving as lower
use Rattle.plant_laws.proofs.Once.Leaving.{Answers, Answered, CancelNone}
use Rattle.plant_laws.proofs.Once.LeavingUpper as upper
use Rattle.plant_laws.proofs.Settled.UnderWay.{Queues, AllAlive, node_alive, queues_at, queue_now, with_sent, alive_same}
use Rattle.plant_laws.proofs.Runs.NodeMoves.{Elements, named_of, waits_of, element_moves, parent_moves, no_message, no_answer}
use Rattle.plant_laws.proofs.Settled.UnderWayTakes.{element_takes, parent_takes}
use Rattle.plant_laws.proofs.Once.Asks.{Asks, asks_nothing}

-- notices cancel nothing
abbrev pub CancelsNone : Message → Type 0
CancelsNone m = (notices : List Notice) → m ≡ messages.PcNtf notices → CancelNone notices

-- each request that a deed sends asks its receiver
abbrev pub IsSound : Codec → Deed Segment → Type 0
IsSound c e = (a b : As) (id : ℕ) (w : Wanted) (target : Addr) (l : List As) → In {A = Output} (record { to = Inner b; message = request_message id w target l }) (outputs_at a e) → Asks c (request_message id w target l) b id l

-- what is known of all that a transcript sends
abbrev pub AreSound : Codec → Transcript → Type 0
AreSound c ds = AllSent IsWritten ds × AllSent CancelsNone ds × Each (IsSound c) ds

as_self : (d : As) → same_as d d ≡ true
as_self d = eq-eqb d.0 d.0 refl

abbrev pub Core : Type 0
Core = State Pin Segment

module _ (c : Codec) (n : NetworkParts) where
  abbrev pub IsAlive : Transcript → Core → Type 0
  IsAlive ds s = AllAlive (Asks c) (named_of s.elements s.parent) (waits_of s.elements s.parent) (queues_at ds)

  -- by elements and parent
  pub alive_state : (ds : Transcript) (E : Elements) (K : parent.Parent) (t : Core) → t.elements ≡ E → t.parent ≡ K → AllAlive (Asks c) (named_of E K) (waits_of E K) (queues_at ds) → IsAlive ds t
  alive_state ds E K t elements above h =
      subst (λ (f : Elements). AllAlive (Asks c) (named_of f t.parent) (waits_of f t.parent) (queues_at ds)) (sym elements)
      (subst (λ (k : parent.Parent). AllAlive (Asks c) (named_of E k) (waits_of E k) (queues_at ds)) (sym above) h)

  pub sound_of : (at : As) (os : List Output) (e : Deed Segment) → outputs_at at e ≡ cond (same_as at at) os [] → IsSound c e →
      (b : As) (id : ℕ) (w : Wanted) (target : Addr) (l : List As) → In {A = Output} (record { to = Inner b; message = request_message id w target l }) os → Asks c (request_message id w target l) b id l
  sound_of at os e outs sound b id w target l h =
      sound at b id w target l (subst (λ (xs : List Output). In {A = Output} (record { to = Inner b; message = request_message id w target l }) xs) (sym (outs ∙ ap (λ (x : Bool). cond x os []) (as_self at))) h)

  -- ---- a node takes a message, which stood first in a queue to it or is from outside

  module _ (from : As) (first : Message) (p : Peer) (m : Message) (s : Core) (queues : Queues) (ds : Transcript)
      (alive : AllAlive (Asks c) (named_of s.elements s.parent) (waits_of s.elements s.parent) queues)
      (free : (a : As) (notices : List Notice) → m ≡ messages.PcNtf notices → (same_peer p (Inner a) ≡ false) ⊎ CancelNone notices)
      (are : (d : As) → ArePending (s.elements d).pending) (are_up : ArePending s.parent.pending) where
    abbrev Popped : As → Type 0
    Popped at = (a b : As) (m' : Message) → In m' (queues a b) → In m' (queues_at ds a b) ⊎ ((a ≡ from) × (b ≡ at) × (m' ≡ first))

    abbrev pub SeenAt : As → Type 0
    SeenAt at = (let t = take c open_of (place n at) (s.current at) p (class_of n p) s.clock m (s.elements at) in
        ((id : ℕ) (l : List As) → Asks c first at id l → lower.Named Pin Segment t.element (Inner from) id l ⊎ Answered (Inner from) id t.outputs)
        × ((id : ℕ) (whole : List As) → Answers id first → lower.WaitsFor Pin Segment t.element (Inner from) id whole → ⊥))

    abbrev pub SeenAbove : Type 0
    SeenAbove = (let t = parent.take c (family n) p m s.parent in
        ((id : ℕ) (l : List As) → Asks c first parent_as id l → upper.Named t.parent (Inner from) id ⊎ Answered (Inner from) id t.outputs)
        × ((id : ℕ) (w : parent.Wait) → Answers id first → upper.WaitsFor t.parent w → w.peer ≡ Inner from → w.id ≡ id → ⊥))

    lower_alive : (at : As) → same_as at parent_as ≡ false → Popped at → SeenAt at →
        (let t = take c open_of (place n at) (s.current at) p (class_of n p) s.clock m (s.elements at) in
        IsSound c (Takes at p m t.outputs) → IsAlive (Takes at p m t.outputs ∷ ds) (puts Pin Segment c n open_of at t.outputs (with_element Pin Segment c n open_of at t.element s)))
    lower_alive at real popped seen sound =
        let t = take c open_of (place n at) (s.current at) p (class_of n p) s.clock m (s.elements at) in
        let v = with_element Pin Segment c n open_of at t.element s in
        alive_state (Takes at p m t.outputs ∷ ds) (set_as at t.element s.elements) s.parent (puts Pin Segment c n open_of at t.outputs v) (puts_elements c n at t.outputs v) (puts_parent c n at t.outputs v)
        (element_takes (Asks c) c s.elements s.parent at from first queues ds popped alive p m free real (are at) (place n at) (s.current at) (class_of n p) s.clock
        (sound_of at t.outputs (Takes at p m t.outputs) refl sound) seen.0 seen.1)

    upper_alive : Popped parent_as → SeenAbove →
        (let t = parent.take c (family n) p m s.parent in
        IsSound c (Takes parent_as p m t.outputs) → IsAlive (Takes parent_as p m t.outputs ∷ ds) (puts Pin Segment c n open_of parent_as t.outputs (with_parent Pin Segment c n open_of t.parent s)))
    upper_alive popped seen sound =
        let t = parent.take c (family n) p m s.parent in
        let v = with_parent Pin Segment c n open_of t.parent s in
        alive_state (Takes parent_as p m t.outputs ∷ ds) s.elements t.parent (puts Pin Segment c n open_of parent_as t.outputs v) (puts_elements c n parent_as t.outputs v) (puts_parent c n parent_as t.outputs v)
        (parent_takes (Asks c) c s.elements s.parent from first queues ds popped alive p m free are_up (family n)
        (sound_of parent_as t.outputs (Takes parent_as p m t.outputs) refl sound) seen.0 seen.1)

  abbrev After : Transcript → Going Pin Segment → Type 0
  After ds g = AreSound c (g.deeds ++ ds) → IsAlive (g.deeds ++ ds) g.state

  pub after_pick : (ds : Transcript) (b : Bool) (g h : Going Pin Segment) → (b ≡ true → After ds g) → (b ≡ false → After ds h) → After ds (cond b g h)
  after_pick ds true g h x y = x refl
  after_pick ds false g h x y = y refl

  pub give_alive : (from : As) (first : Message) (p : Peer) (m : Message) (s : Core) (queues : Queues) (es ds : Transcript)
      (alive : AllAlive (Asks c) (named_of s.elements s.parent) (waits_of s.elements s.parent) queues)
      (free : (a : As) (notices : List Notice) → m ≡ messages.PcNtf notices → (same_peer p (Inner a) ≡ false) ⊎ CancelNone notices)
      (are : (d : As) → ArePending (s.elements d).pending) (are_up : ArePending s.parent.pending) (at : As) →
      ((a b : As) (m' : Message) → In m' (queues a b) → In m' (queues_at (es ++ ds) a b) ⊎ ((a ≡ from) × (b ≡ at) × (m' ≡ first))) →
      (same_as at parent_as ≡ false → SeenAt from first p m s queues (es ++ ds) alive free are are_up at) → (at ≡ parent_as → SeenAbove from first p m s queues (es ++ ds) alive free are are_up) →
      After ds (give Pin Segment c n open_of at p m (record { state = s; deeds = es }))
  give_alive from first p m s queues es ds alive free are are_up at popped seen above =
      let r = parent.take c (family n) p m s.parent in
      let t = take c open_of (place n at) (s.current at) p (class_of n p) s.clock m (s.elements at) in
      after_pick ds (same_as at parent_as)
      (record { state = puts Pin Segment c n open_of at r.outputs (with_parent Pin Segment c n open_of r.parent s); deeds = Takes at p m r.outputs ∷ es })
      (record { state = puts Pin Segment c n open_of at t.outputs (with_element Pin Segment c n open_of at t.element s); deeds = Takes at p m t.outputs ∷ es })
      (λ up sound. upward (same_as_is at parent_as up) sound.2.0)
      (λ low sound. lower_alive from first p m s queues (es ++ ds) alive free are are_up at low popped (seen low) sound.2.0)
    where
      upward : at ≡ parent_as → (let r = parent.take c (family n) p m s.parent in
          IsSound c (Takes at p m r.outputs) → IsAlive (Takes at p m r.outputs ∷ (es ++ ds)) (puts Pin Segment c n open_of at r.outputs (with_parent Pin Segment c n open_of r.parent s)))
      upward is =
          let r = parent.take c (family n) p m s.parent in
          subst (λ (z : As). IsSound c (Takes z p m r.outputs) → IsAlive (Takes z p m r.outputs ∷ (es ++ ds)) (puts Pin Segment c n open_of z r.outputs (with_parent Pin Segment c n open_of r.parent s))) (sym is)
          (upper_alive from first p m s queues (es ++ ds) alive free are are_up
          (subst (λ (z : As). (a b : As) (m' : Message) → In m' (queues a b) → In m' (queues_at (es ++ ds) a b) ⊎ ((a ≡ from) × (b ≡ z) × (m' ≡ first))) is popped) (above is))

  -- ---- a node moves and takes nothing from a queue

  pub element_moved : (at : As) (s : Core) (t : Taken Pin Segment) (e : Deed Segment) (ds : Transcript) → same_as at parent_as ≡ false → ((a : As) → outputs_at a e ≡ cond (same_as at a) t.outputs []) →
      ((a b : As) (xs : List Standing) → left_of e a b xs ≡ xs) → ((a : As) → lower.Moves Pin Segment (Inner a) (s.elements at) t) → IsSound c e → IsAlive ds s →
      IsAlive (e ∷ ds) (puts Pin Segment c n open_of at t.outputs (with_element Pin Segment c n open_of at t.element s))
  element_moved at s t e ds real outs left moves sound alive =
      let v = with_element Pin Segment c n open_of at t.element s in
      let E' = set_as at t.element s.elements in
      alive_state (e ∷ ds) E' s.parent (puts Pin Segment c n open_of at t.outputs v) (puts_elements c n at t.outputs v) (puts_parent c n at t.outputs v)
      (alive_same (Asks c) (named_of E' s.parent) (waits_of E' s.parent) (with_sent at t.outputs (queues_at ds)) (queues_at (e ∷ ds)) (λ a b. sym (queue_now at t.outputs ds e outs left a b))
      (node_alive (Asks c) at at no_message t.outputs (named_of s.elements s.parent) (named_of E' s.parent) (waits_of s.elements s.parent) (waits_of E' s.parent) (queues_at ds) (queues_at ds)
      (element_moves (Asks c) s.elements s.parent at no_message (queues_at ds) (queues_at ds) at (λ a b m h. inl h) real t moves (sound_of at t.outputs e (outs at) sound)
      (λ id l ask. absurd (asks_nothing c at id l ask)) (λ id whole answers w. no_answer id answers)) alive))

  pub parent_moved : (s : Core) (t : parent.ParentTaken) (e : Deed Segment) (ds : Transcript) → ((a : As) → outputs_at a e ≡ cond (same_as parent_as a) t.outputs []) →
      ((a b : As) (xs : List Standing) → left_of e a b xs ≡ xs) → ((a : As) → upper.Moves (Inner a) s.parent t) → IsSound c e → IsAlive ds s →
      IsAlive (e ∷ ds) (puts Pin Segment c n open_of parent_as t.outputs (with_parent Pin Segment c n open_of t.parent s))
  parent_moved s t e ds outs left moves sound alive =
      let v = with_parent Pin Segment c n open_of t.parent s in
      alive_state (e ∷ ds) s.elements t.parent (puts Pin Segment c n open_of parent_as t.outputs v) (puts_elements c n parent_as t.outputs v) (puts_parent c n parent_as t.outputs v)
      (alive_same (Asks c) (named_of s.elements t.parent) (waits_of s.elements t.parent) (with_sent parent_as t.outputs (queues_at ds)) (queues_at (e ∷ ds)) (λ a b. sym (queue_now parent_as t.outputs ds e outs left a b))
      (node_alive (Asks c) parent_as parent_as no_message t.outputs (named_of s.elements s.parent) (named_of s.elements t.parent) (waits_of s.elements s.parent) (waits_of s.elements t.parent) (queues_at ds) (queues_at ds)
      (parent_moves (Asks c) s.elements s.parent parent_as no_message (queues_at ds) (queues_at ds) (λ a b m h. inl h) t moves (sound_of parent_as t.outputs e (outs parent_as) sound)
      (λ id l ask. absurd (asks_nothing c parent_as id l ask)) (λ id w answers h peer is. no_answer id answers)) alive))
