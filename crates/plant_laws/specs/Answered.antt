-- Each path request that is accepted is answered once: it is pending, or exactly one answer to it was put into the queue of its
-- peer, or it was dropped without an answer, since its peer cancelled it or went down. Each answer has one request.
use Rattle.std.specs.Prelude.{◌≡◌, ◌≤◌, ℕ, true, List, [], ◌∷◌, Some, None}
use Rattle.plant_model.specs.Types.{As, Peer, Asked, Notice, Request, NetworkParts}
use Rattle.pcep_messages.specs.declared.message.Message.TheVariants as messages
use Rattle.plant_model.specs.declared.output.Output.{Output}
use Rattle.plant_model.specs.Wire.{Codec, Admitted, Wrong}
use Rattle.plant_model.specs.State.{Takes, Downs}
use Rattle.plant_model.specs.Plant.{Plant, PlantDeed, Entry, deeds_of}
use Rattle.plant_laws.specs.Transcript.{Transcript, Within, opened, outputs_at, answers_to, cancels, effect, Ends}
use Rattle.plant_laws.specs.Chains.{is_pending}
use Rattle.plant_laws.specs.Runs.{InRuns}

-- how many answers to the request x of p a deed of d has
abbrev pub answers_of : As → Peer → ℕ → PlantDeed → ℕ
answers_of d p x e = answers_to p x (outputs_at d e)

-- why a request is dropped without an answer
pub data DropsFor (d : As) (p : Peer) (x : ℕ) (e : PlantDeed) : Type 0 where
  -- its peer cancelled it
  cancelled : (notices : List Notice) (os : List Output) → e ≡ Takes d p (messages.PcNtf notices) os → cancels x notices ≡ true → DropsFor d p x e
  -- its peer was shut, or lost its session or its link
  went_down : (os : List Output) → e ≡ Downs d p os → DropsFor d p x e

-- the deed that ends the request that was accepted in a moment
pub record IsEnd (c : Codec) (now : Transcript) (d : As) (p : Peer) (x : ℕ) (at : Transcript) : Type 0 where
  pub deed : PlantDeed
  pub older : Transcript
  pub within : Within (deed ∷ older) now
  pub is_open : opened c d p x older ≡ Some at
  pub ends : effect c d p x deed ≡ Ends

-- what became of it
pub data Fate (c : Codec) (now : Transcript) (s : Plant) (d : As) (p : Peer) (x : ℕ) (at : Transcript) : Type 0 where
  pending : opened c d p x now ≡ Some at → is_pending s d p x ≡ true → Fate c now s d p x at
  answered : (e : IsEnd c now d p x at) → answers_of d p x e.deed ≡ 1 → Fate c now s d p x at
  dropped : (e : IsEnd c now d p x at) → answers_of d p x e.deed ≡ 0 → DropsFor d p x e.deed → Fate c now s d p x at

-- How a deed of d came to answer x of p.
pub data AnswersFor (c : Codec) (d : As) (p : Peer) (x : ℕ) (older : Transcript) (e : PlantDeed) : Type 0 where
  -- it ended the request that was open
  of_open : (at : Transcript) → opened c d p x older ≡ Some at → effect c d p x e ≡ Ends → AnswersFor c d p x older e
  -- it took a request under x that was open nowhere: no repeat of one that is pending
  at_once : (a : Asked) (os : List Output) (r : Request) → e ≡ Takes d p (messages.PcReq (a ∷ [])) os → c.check a d ≡ Admitted r → r.id ≡ x → opened c d p x older ≡ None → AnswersFor c d p x older e
  -- it took a message with x in its RP that it refused
  refused : (a : Asked) (os : List Output) (rp : ℕ × ℕ) (kind value : ℕ) → e ≡ Takes d p (messages.PcReq (a ∷ [])) os → c.check a d ≡ Wrong (Some rp) kind value → rp.1 ≡ x → AnswersFor c d p x older e

-- The request x of p, which d accepted in the moment at: it ends once at most. Each deed that answers x of p does so once, and ends
-- the request that is open then, or answers the message that it takes; so from the acceptance until p asks under x again nothing
-- answers x but the end.
pub record IsAnsweredOnce (c : Codec) (now : Transcript) (s : Plant) (d : As) (p : Peer) (x : ℕ) (at : Transcript) : Type 0 where
  pub fate : Fate c now s d p x at
  pub one_end : (e e' : IsEnd c now d p x at) → e.deed ∷ e.older ≡ e'.deed ∷ e'.older
  pub each : (e : PlantDeed) (older : Transcript) → Within (e ∷ older) now → 1 ≤ answers_of d p x e → (answers_of d p x e ≡ 1) × AnswersFor c d p x older e

-- In every state of every run, each path request that an element or the parent accepted is answered once.
abbrev pub RequestsAreAnsweredOnceIn : Codec → NetworkParts → List Entry → Plant → Type 0
RequestsAreAnsweredOnceIn c n es s = (d : As) (p : Peer) (x : ℕ) (at : Transcript) → Within at (deeds_of c n es) → opened c d p x at ≡ Some at → IsAnsweredOnce c (deeds_of c n es) s d p x at

abbrev pub RequestsAreAnsweredOnce : Type 0
RequestsAreAnsweredOnce = InRuns RequestsAreAnsweredOnceIn
