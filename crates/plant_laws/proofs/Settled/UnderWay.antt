-- What waits is under way after a step, told apart from elements and queues: a node takes a message, or a link breaks.
use Rattle.std.proofs.Common.{◌≡◌, ◌⊎◌, ℕ, Bool, true, false, cond, List, [], ◌∷◌, ◌++◌, sym, subst, inl, inr, refl, ◌∙◌, ap}
use Rattle.std.proofs.lemmas.Bool.{cases_Bool, eq-eqb}
use Rattle.plant_model.specs.Types.{As, Peer, Inner, Message}
use Rattle.request_table.specs.Pending.{same_peer}
use Rattle.plant_model.specs.declared.output.Output.{Output}
use Rattle.plant_text.specs.Names.{same_as, same_link}
use Rattle.plant_model.specs.State.{Deed, Pops}
use Rattle.plant_model.specs.Plant.{Segment}
use Rattle.plant_laws.specs.Transcript.{Transcript, Standing, standing, standing_of, left_of, tail_of, outputs_at, put_into}
use Rattle.plant_laws.specs.Standing.{messages as messages_in}
use Rattle.plant_laws.proofs.Runs.Decompose.{nil_right}
use Rattle.plant_laws.proofs.Runs.Queues.{same_as_is, messages_of}
use Rattle.plant_laws.proofs.Once.Handing.{In}
use Rattle.plant_laws.proofs.Once.Leaving.{In-front, In-back, Answers, Answered}

-- who has which request pending; who waits for whose answer; what stands in the queues
abbrev pub Names : Type 1
Names = As → Peer → ℕ → List As → Type 0

abbrev pub Waiting : Type 1
Waiting = As → As → ℕ → List As → Type 0

abbrev pub Queues : Type 0
Queues = As → As → List Message

-- which message asks which element for which request, along which sequence
abbrev pub Asking : Type 1
Asking = Message → As → ℕ → List As → Type 0

-- the request that a sent on to b is on its way, is pending there, or its answer is on its way back
pub data Alive (asks : Asking) (named : Names) (queues : Queues) (a b : As) (id : ℕ) (sequence : List As) : Type 0 where
  coming : (m : Message) → In m (queues a b) → asks m b id sequence → Alive asks named queues a b id sequence
  held : named b (Inner a) id sequence → Alive asks named queues a b id sequence
  back : (m : Message) → In m (queues b a) → Answers id m → Alive asks named queues a b id sequence

abbrev pub AllAlive : Asking → Names → Waiting → Queues → Type 0
AllAlive asks named waits queues = (a b : As) (id : ℕ) (sequence : List As) → waits a b id sequence → Alive asks named queues a b id sequence

peer_self : (b : As) → same_peer (Inner b) (Inner b) ≡ true
peer_self b = eq-eqb b.0 b.0 refl

-- what is sent stands in its queue
pub In-put : (b : As) (m : Message) (os : List Output) → In {A = Output} (record { to = Inner b; message = m }) os → In m (put_into b os)
In-put b m [] h = h
In-put b m (o ∷ os) (inl same) =
    subst (λ (p : Output). In m (cond (same_peer p.to (Inner b)) (p.message ∷ put_into b os) (put_into b os))) same
    (subst (λ (t : Bool). In m (cond t (m ∷ put_into b os) (put_into b os))) (sym (peer_self b)) (inl refl))
In-put b m (o ∷ os) (inr h) = go (same_peer o.to (Inner b)) (In-put b m os h)
  where
    go : (t : Bool) → In m (put_into b os) → In m (cond t (o.message ∷ put_into b os) (put_into b os))
    go true h' = inr h'
    go false h' = h'

as_self : (d : As) → same_as d d ≡ true
as_self d = eq-eqb d.0 d.0 refl

-- A node takes a message of another from the front of its queue, or is moved otherwise, and sends what it has to say. The others
-- stay as they are.
pub record NodeMoves (asks : Asking) (d from : As) (first : Message) (os : List Output) (named named' : Names) (waits waits' : Waiting) (queues left : Queues) : Type 0 where
  pub others_named : (b : As) (p : Peer) (x : ℕ) (sequence : List As) → same_as b d ≡ false → named b p x sequence → named' b p x sequence
  pub others_wait : (a b : As) (id : ℕ) (sequence : List As) → same_as a d ≡ false → waits' a b id sequence → waits a b id sequence
  -- of the queues nothing goes but the first message
  pub popped : (a b : As) (m : Message) → In m (queues a b) → In m (left a b) ⊎ ((a ≡ from) × (b ≡ d) × (m ≡ first))
  -- a request that was pending stays so or is answered, and one that waits did so before or is sent on now
  pub stays : (a : As) (x : ℕ) (sequence : List As) → named d (Inner a) x sequence → named' d (Inner a) x sequence ⊎ Answered (Inner a) x os
  pub old : (b : As) (id : ℕ) (sequence : List As) → waits' d b id sequence →
      waits d b id sequence ⊎ ((m : Message) × In {A = Output} (record { to = Inner b; message = m }) os × asks m b id sequence)
  -- a request that is taken is pending or answered, and nothing waits for an answer that is taken
  pub seen : (id : ℕ) (sequence : List As) → asks first d id sequence → named' d (Inner from) id sequence ⊎ Answered (Inner from) id os
  pub over : (id : ℕ) (sequence : List As) → Answers id first → waits' d from id sequence → ⊥

-- the queues after it
abbrev pub with_sent : As → List Output → Queues → Queues
with_sent d os left a b = left a b ++ cond (same_as d a) (put_into b os) []

module _ (asks : Asking) (d from : As) (first : Message) (os : List Output) (named named' : Names) (waits waits' : Waiting) (queues left : Queues) (moves : NodeMoves asks d from first os named named' waits waits' queues left) where
  abbrev Now : As → As → ℕ → List As → Type 0
  Now a b id sequence = Alive asks named' (with_sent d os left) a b id sequence

  sent_in : (b : As) (m : Message) → In {A = Output} (record { to = Inner b; message = m }) os → In m (with_sent d os left d b)
  sent_in b m h = In-back m (left d b) (cond (same_as d d) (put_into b os) []) (subst (λ (t : Bool). In m (cond t (put_into b os) [])) (sym (as_self d)) (In-put b m os h))

  left_in : (a b : As) (m : Message) → In m (left a b) → In m (with_sent d os left a b)
  left_in a b m h = In-front m (left a b) (cond (same_as d a) (put_into b os) []) h

  answered_now : (a : As) (id : ℕ) (sequence : List As) → Answered (Inner a) id os → Now a d id sequence
  answered_now a id sequence h = back h.0 (sent_in a h.0 h.1) h.2

  now_or_answered : (a : As) (id : ℕ) (sequence : List As) → named' d (Inner a) id sequence ⊎ Answered (Inner a) id os → Now a d id sequence
  now_or_answered a id sequence (inl h) = held h
  now_or_answered a id sequence (inr h) = answered_now a id sequence h

  still : (a b : As) (id : ℕ) (sequence : List As) → waits' a b id sequence → Alive asks named queues a b id sequence → Now a b id sequence
  still a b id sequence wait (coming m h ask) = elim (moves.popped a b m h) [
    | inl stays ↦ coming m (left_in a b m stays) ask
    | inr taken ↦
        let first_asks : asks first d id sequence = subst (λ (z : As). asks first z id sequence) taken.1 (subst (λ (m' : Message). asks m' b id sequence) taken.2 ask) in
        subst (λ (z : As). Now z b id sequence) (sym taken.0)
        (subst (λ (z : As). Now from z id sequence) (sym taken.1) (now_or_answered from id sequence (moves.seen id sequence first_asks)))
  ]
  still a b id sequence wait (held h) = elim (cases_Bool (same_as b d)) [
    | inl hit ↦
        let is : b ≡ d = same_as_is b d hit in
        subst (λ (z : As). Now a z id sequence) (sym is)
        (now_or_answered a id sequence (moves.stays a id sequence (subst (λ (z : As). named z (Inner a) id sequence) is h)))
    | inr miss ↦ held (moves.others_named b (Inner a) id sequence miss h)
  ]
  still a b id sequence wait (back m h answers) = elim (moves.popped b a m h) [
    | inl stays ↦ back m (left_in b a m stays) answers
    | inr taken ↦
        absurd (moves.over id sequence (subst (λ (m' : Message). Answers id m') taken.2 answers)
        (subst (λ (z : As). waits' d z id sequence) taken.0 (subst (λ (z : As). waits' z b id sequence) taken.1 wait)))
  ]

  pub node_alive : AllAlive asks named waits queues → AllAlive asks named' waits' (with_sent d os left)
  node_alive alive a b id sequence wait = elim (cases_Bool (same_as a d)) [
    | inr miss ↦ still a b id sequence wait (alive a b id sequence (moves.others_wait a b id sequence miss wait))
    | inl hit ↦
        let is : a ≡ d = same_as_is a d hit in
        elim (moves.old b id sequence (subst (λ (z : As). waits' z b id sequence) is wait)) [
          | inl before ↦ still a b id sequence wait (alive a b id sequence (subst (λ (z : As). waits z b id sequence) (sym is) before))
          | inr sent ↦ subst (λ (z : As). Now z b id sequence) (sym is) (coming sent.0 (sent_in b sent.0 sent.1) sent.2)
        ]
  ]

-- A link breaks: nothing waits across it, what was pending elsewhere stays so or is answered, and the other queues keep what they
-- have.
pub record LinkBreaks (one other : As) (named named' : Names) (waits waits' : Waiting) (queues queues' : Queues) : Type 0 where
  pub old : (a b : As) (id : ℕ) (sequence : List As) → waits' a b id sequence → waits a b id sequence × (same_link one other a b ≡ false)
  pub stays : (a b : As) (id : ℕ) (sequence : List As) → same_link one other a b ≡ false → named b (Inner a) id sequence →
      named' b (Inner a) id sequence ⊎ ((m : Message) × In m (queues' b a) × Answers id m)
  pub kept : (a b : As) (m : Message) → same_link one other a b ≡ false → In m (queues a b) → In m (queues' a b)
  pub turned : (a b : As) → same_link one other a b ≡ false → same_link one other b a ≡ false

pub link_alive : (asks : Asking) (one other : As) (named named' : Names) (waits waits' : Waiting) (queues queues' : Queues) → LinkBreaks one other named named' waits waits' queues queues' →
    AllAlive asks named waits queues → AllAlive asks named' waits' queues'
link_alive asks one other named named' waits waits' queues queues' breaks alive a b id sequence wait =
    let before = breaks.old a b id sequence wait in go before.1 (alive a b id sequence before.0)
  where
    go : same_link one other a b ≡ false → Alive asks named queues a b id sequence → Alive asks named' queues' a b id sequence
    go apart (coming m h ask) = coming m (breaks.kept a b m apart h) ask
    go apart (held h) = elim (breaks.stays a b id sequence apart h) [ inl stays ↦ held stays | inr answer ↦ back answer.0 answer.1 answer.2 ]
    go apart (back m h answers) = back m (breaks.kept b a m (breaks.turned a b apart) h) answers

-- ---- the queues by the transcript

messages_append : (xs ys : List Standing) → messages_in (xs ++ ys) ≡ messages_in xs ++ messages_in ys
messages_append [] ys = refl
messages_append (x ∷ xs) ys = ap (λ (l : List Message). x.message ∷ l) (messages_append xs ys)

put_cond : (x : Bool) (b : As) (os : List Output) → put_into b (cond x os []) ≡ cond x (put_into b os) []
put_cond true b os = refl
put_cond false b os = refl

abbrev pub queues_at : Transcript → Queues
queues_at ds a b = messages_in (standing a b ds)

-- after a deed that takes nothing from queues, of one node that sends
pub queue_now : (d : As) (os : List Output) (ds : Transcript) (e : Deed Segment) → ((a : As) → outputs_at a e ≡ cond (same_as d a) os []) → ((a b : As) (xs : List Standing) → left_of e a b xs ≡ xs) →
    (a b : As) → queues_at (e ∷ ds) a b ≡ with_sent d os (queues_at ds) a b
queue_now d os ds e outs left a b =
    messages_append (left_of e a b (standing a b ds)) (standing_of (e ∷ ds) (put_into b (outputs_at a e)))
    ∙ ap (λ (xs : List Standing). messages_in xs ++ messages_in (standing_of (e ∷ ds) (put_into b (outputs_at a e)))) (left a b (standing a b ds))
    ∙ ap (λ (l : List Message). queues_at ds a b ++ l) (messages_of (e ∷ ds) (put_into b (outputs_at a e)) ∙ ap (λ (l : List Output). put_into b l) (outs a) ∙ put_cond (same_as d a) b os)

-- what stood in queues before the first message of one was taken
pub popped_now : (from to : As) (ds : Transcript) (x : Standing) (xs : List Standing) → standing from to ds ≡ x ∷ xs → (a b : As) (m : Message) → In m (queues_at ds a b) →
    In m (queues_at (Pops from to ∷ ds) a b) ⊎ ((a ≡ from) × (b ≡ to) × (m ≡ x.message))
popped_now from to ds x xs is a b m in' = go (same_as from a) (same_as to b) refl refl
  where
    -- the first, or one behind it
    behind : a ≡ from → b ≡ to → In m (messages_in (tail_of (standing a b ds))) ⊎ (m ≡ x.message)
    behind same same' =
        let at : standing a b ds ≡ x ∷ xs = ap (λ (z : As). standing z b ds) same ∙ ap (λ (z : As). standing from z ds) same' ∙ is in
        split (standing a b ds) at in'
      where
        split : (l : List Standing) → l ≡ x ∷ xs → In m (messages_in l) → In m (messages_in (tail_of l)) ⊎ (m ≡ x.message)
        split [] e h = absurd h
        split (y ∷ ys) e (inl first) = let heads : y ≡ x = cc in inr (first ∙ ap (λ (s : Standing). s.message) heads)
        split (y ∷ ys) e (inr rest) = inl rest

    back : (l : List Standing) → In m (messages_in l) → In m (messages_in (l ++ []))
    back l h = subst (λ (k : List Standing). In m (messages_in k)) (sym (nil_right l)) h

    go : (t u : Bool) → same_as from a ≡ t → same_as to b ≡ u → In m (messages_in (cond t (cond u (tail_of (standing a b ds)) (standing a b ds)) (standing a b ds) ++ [])) ⊎ ((a ≡ from) × (b ≡ to) × (m ≡ x.message))
    go true true e f =
        let same : a ≡ from = sym (same_as_is from a e) in
        let same' : b ≡ to = sym (same_as_is to b f) in
        elim (behind same same') [ inl rest ↦ inl (back (tail_of (standing a b ds)) rest) | inr first ↦ inr (same, same', first) ]
    go true false e f = inl (back (standing a b ds) in')
    go false u e f = inl (back (standing a b ds) in')

-- queues that are the same place by place
pub alive_same : (asks : Asking) (named : Names) (waits : Waiting) (queues queues' : Queues) → ((a b : As) → queues a b ≡ queues' a b) → AllAlive asks named waits queues → AllAlive asks named waits queues'
alive_same asks named waits queues queues' same alive a b id sequence wait = go (alive a b id sequence wait)
  where
    go : Alive asks named queues a b id sequence → Alive asks named queues' a b id sequence
    go (coming m h ask) = coming m (subst (λ (l : List Message). In m l) (same a b) h) ask
    go (held h) = held h
    go (back m h answers) = back m (subst (λ (l : List Message). In m l) (same b a) h) answers
