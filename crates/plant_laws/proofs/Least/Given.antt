-- What the theorems on least costs take of a run, said of its transcript alone. Each field comes from the laws on pending requests,
-- ids, queues and written messages.
use Rattle.std.specs.Prelude.{◌≡◌, ◌≢◌, ◌⊎◌, ◌≤◌, ◌<◌, ◌^◌, ℕ, true, false, List, [], ◌∷◌, Contains, Option, Some, bit_and}
use Rattle.plant_model.specs.Types.{As, Addr, Peer, Outside, Inner, Asked, Path, Reply, Message, Request, Wanted, Issued, Held, Branch, NetworkParts}
use Rattle.pcep_messages.specs.declared.message.Message.TheVariants as messages
use Rattle.pcep_messages.specs.declared.message.Wish.TheVariants as wishes
use Rattle.outside_part.specs.Ranges.{AreInRange}
use Rattle.border_costs.specs.declared.answer.Answer.{Answer as Answers}
use Rattle.border_costs.specs.Solutions.{AreRows}
use Rattle.plant_model.specs.declared.output.Output.{Output}
use Rattle.plant_text.specs.Names.{parent_as}
use Rattle.plant_model.specs.Names.{the_parent}
use Rattle.plant_model.specs.Wire.{Codec, Admitted}
use Rattle.plant_model.specs.Writing.{asked_of, request_message}
use Rattle.plant_model.specs.Element.{Item, Row, Element}
use Rattle.plant_model.specs.Taking.{sequence_or, goes_up}
use Rattle.plant_model.specs.Solving.{commit, job_found}
use Rattle.plant_model.specs.Settings.{place, family}
use Rattle.plant_model.specs.State.{Pops, Takes, Solves}
use Rattle.plant_model.specs.Plant.{Pin, Segment, PlantDeed, ask}
use Rattle.plant_model.specs.Laws.{Admits}
use Rattle.plant_model.specs.declared.upper.ChildRow.{ChildRow}
use Rattle.plant_model.specs.BorderGraph.{SolvesBorder, Found}
use Rattle.plant_model.specs.Parent.{Asking, Parent, Errand, errands, job_of}
use Rattle.plant_model.specs.Parent as parent
use Rattle.plant_laws.specs.Tables.{IsTakenAbove}
use Rattle.plant_laws.specs.About.{IsPathAnswer, IsGathered, HasReplied}
use Rattle.plant_laws.specs.Transcript.{opened, Transcript, Within, Standing, standing, outputs_at, pinned, SentIn}
use Rattle.plant_laws.specs.Pending.{IsTaken}
use Rattle.plant_laws.specs.Topologies.{IsDomain}
use Rattle.plant_laws.specs.Certified.{Tells, IsServed}

-- In this moment d sends a peer a message with this reply alone.
pub record RepliesAlone (now m older : Transcript) (d : As) (p : Peer) (r : Reply) : Type 0 where
  pub deed : PlantDeed
  pub is : m ≡ deed ∷ older
  pub within : Within m now
  pub sent : Contains (outputs_at d deed) (record { to = p; message = messages.PcRep (r ∷ []) })
  pub answer : IsPathAnswer r

-- a pending request of an element that is ready: how it came to its branches
pub record IsReadied (c : Codec) (n : NetworkParts) (now : Transcript) (d : As) (h : Row Pin) (down : List Branch) : Type 0 where
  pub along : h.1.item.sequence ≡ sequence_or d h.1.item.wanted.sequence
  pub stays : goes_up (place n d).parent h.1.item.class h.1.item.wanted.sequence ≡ false
  pub at : Transcript
  pub is_open : opened c d h.1.key.peer h.1.key.id now ≡ Some at
  pub served : IsServed c n now d at h.1.item.wanted h.1.item.sequence down

-- A solve of an element: the pending request, what its rows are, and what was sent.
pub record IsSolved (c : Codec) (n : NetworkParts) (older : Transcript) (d : As) (k : ℕ) (os : List Output) (keys : List (Issued Segment)) : Type 0 where
  pub held : Held (Item Pin)
  pub taken : IsTaken c n older d (k, held)
  pub domain : IsDomain d held.item.pin.topology
  pub along : held.item.sequence ≡ sequence_or d held.item.wanted.sequence
  pub stays : goes_up (place n d).parent held.item.class held.item.wanted.sequence ≡ false
  pub down : List Branch
  pub served : IsServed c n older d taken.at held.item.wanted held.item.sequence down
  pub rows : Answers
  pub right : AreRows held.item.pin.topology (ask c n d (k, held) down) rows
  pub now : ℕ
  pub element : Element Pin Segment
  pub life : 1 ≤ element.keys.life
  pub sends : os ≡ (commit c (place n d) (k, held) down now (λ b. b.segment) (job_found rows.source_known rows.target_known rows.best) element).outputs
  pub has : keys ≡ (commit c (place n d) (k, held) down now (λ b. b.segment) (job_found rows.source_known rows.target_known rows.best) element).element.keys.issued

-- A request that an element sent: of the path request that it took in the same moment, along the rest of its sequence, or upward.
pub record IsAsked (c : Codec) (n : NetworkParts) (m : Transcript) (d : As) (b : As) (asks : List Asked) : Type 0 where
  pub peer : Peer
  pub taken : Asked
  pub outputs : List Output
  pub before : Transcript
  pub is : m ≡ Takes d peer (messages.PcReq (taken ∷ [])) outputs ∷ before
  pub flags : ℕ
  pub x : ℕ
  pub wanted : Wanted
  pub admits : Admits c taken d flags x wanted
  pub id : ℕ
  pub some : 1 ≤ id
  pub fits : id < 2 ^ 32
  pub sends :
      ((rest : List As) × (sequence_or d wanted.sequence ≡ d ∷ b ∷ rest) × (asks ≡ asked_of id wanted wanted.target (b ∷ rest) ∷ []))
      ⊎ ((b ≡ parent_as) × (asks ≡ asked_of id wanted wanted.target [] ∷ []))

-- Where a reply of paths, or that there are none, comes from: a solve, the expansion of a key, or the parent, whose reply is passed on.
pub record OfSolve (d : As) (e : PlantDeed) : Type 0 where
  pub number : ℕ
  pub outputs : List Output
  pub keys : List (Issued Segment)
  pub is : e ≡ Solves d number outputs keys

pub record OfKey (c : Codec) (d : As) (p : Peer) (r : Reply) (e : PlantDeed) : Type 0 where
  pub taken : Asked
  pub outputs : List Output
  pub is : e ≡ Takes d p (messages.PcReq (taken ∷ [])) outputs
  pub request : Request
  pub admits : c.check taken d ≡ Admitted request
  pub key : ℕ
  pub pce : Addr
  pub wish : request.wish ≡ wishes.Expand key pce
  pub flags : r.flags ≡ request.flags

pub record OfParent (c : Codec) (n : NetworkParts) (older : Transcript) (d : As) (p : Peer) (r : Reply) (e : PlantDeed) : Type 0 where
  pub reply : Reply
  pub outputs : List Output
  pub is : e ≡ Takes d the_parent (messages.PcRep (reply ∷ [])) outputs
  pub number : ℕ
  pub held : Held (Item Pin)
  pub taken : IsTaken c n older d (number, held)
  pub goes : goes_up (place n d).parent held.item.class held.item.wanted.sequence ≡ true
  pub sent : SentIn taken.at d the_parent (request_message reply.id held.item.wanted held.item.wanted.target [])
  pub to : p ≡ held.key.peer
  pub id : r.id ≡ held.key.id
  pub answer : r.answer ≡ reply.answer

-- a message about a request, which was put into an inner queue, is read as it was put
pub record IsCarried (d b : As) (m : Message) (older : Transcript) : Type 0 where
  pub before : Transcript
  pub is : older ≡ Pops b d ∷ before
  pub put : Transcript
  pub rest : List Standing
  pub stood : standing b d before ≡ record { message = m; put = put } ∷ rest

-- A solve of the parent: the pending request, with the rows of its children's replies, and what was sent.
pub record IsSolvedAbove (c : Codec) (n : NetworkParts) (older : Transcript) (k : ℕ) (os : List Output) : Type 0 where
  pub held : Held Asking
  pub taken : IsTakenAbove c older (k, held)
  pub answer : Option Found
  pub solves : SolvesBorder (job_of (family n) (k, held)) answer
  pub upper : Parent
  pub sends : os ≡ (parent.commit c (k, held) answer upper).outputs
  pub each : (row : ChildRow) → Contains held.item.rows row → IsGathered c older taken.at held.item.wanted row
  pub every : (end : Errand) → Contains (errands n.parent_links held.item.wanted.target (family n).children) end → HasReplied c older taken.at held.item.wanted held.item.rows end

pub record Premises (c : Codec) (n : NetworkParts) (now : Transcript) : Type 0 where
  pub owns : (d : As) (m : Transcript) → Within m now → (pinned d m).own ≡ d
  pub solved : (d : As) (k : ℕ) (os : List Output) (keys : List (Issued Segment)) (older : Transcript) → d ≢ parent_as → Within (Solves d k os keys ∷ older) now → IsSolved c n older d k os keys
  pub replied : (e : PlantDeed) (older : Transcript) (d : As) (p : Peer) (r : Reply) (paths : List Path) → d ≢ parent_as → Within (e ∷ older) now →
      Contains (outputs_at d e) (record { to = p; message = messages.PcRep (r ∷ []) }) → Tells r.answer paths →
      OfSolve d e ⊎ OfKey c d p r e ⊎ OfParent c n older d p r e
  pub asked : (m : Transcript) (d b : As) (asks : List Asked) → d ≢ parent_as → Within m now → SentIn m d (Inner b) (messages.PcReq asks) → IsAsked c n m d b asks
  pub carried_replies : (d b : As) (replies : List Reply) (os : List Output) (older : Transcript) → Within (Takes d (Inner b) (messages.PcRep replies) os ∷ older) now →
      IsCarried d b (messages.PcRep replies) older
  pub carried_requests : (d b : As) (asks : List Asked) (os : List Output) (older : Transcript) → Within (Takes d (Inner b) (messages.PcReq asks) os ∷ older) now →
      IsCarried d b (messages.PcReq asks) older
  pub ids : (m m' : Transcript) → Within m now → Within m' now → (a b : As) → a ≢ parent_as → (x : ℕ) (w w' : Wanted) (t t' : Addr) (rest rest' : List As) →
      SentIn m a (Inner b) (request_message x w t rest) → SentIn m' a (Inner b) (request_message x w' t' rest') →
      (m ≡ m') × (request_message x w t rest ≡ request_message x w' t' rest')
  -- the hops that an outside peer's reply tells have numbers of their types
  pub ranged : (d : As) (i : ℕ) (r : Reply) (os : List Output) (older : Transcript) → Within (Takes d (Outside i) (messages.PcRep (r ∷ [])) os ∷ older) now → AreInRange r.answer
  -- a request to expand a key has the flag of one
  pub expands : (a : Asked) (d : As) (r : Request) (key : ℕ) (pce : Addr) → c.check a d ≡ Admitted r → r.wish ≡ wishes.Expand key pce → bit_and r.flags 256 ≡ 0 → ⊥
  -- the parent: it has no outside peers, and what it answers comes from a solve or is about a key
  pub inside : (e : PlantDeed) (older : Transcript) (i : ℕ) (r : Reply) (paths : List Path) → Within (e ∷ older) now → Contains (outputs_at parent_as e) (record { to = Outside i; message = messages.PcRep (r ∷ []) }) → Tells r.answer paths → ⊥
  pub replied_above : (e : PlantDeed) (older : Transcript) (p : Peer) (r : Reply) (paths : List Path) → Within (e ∷ older) now →
      Contains (outputs_at parent_as e) (record { to = p; message = messages.PcRep (r ∷ []) }) → Tells r.answer paths → OfSolve parent_as e ⊎ OfKey c parent_as p r e
  pub solved_above : (k : ℕ) (os : List Output) (keys : List (Issued Segment)) (older : Transcript) → Within (Solves parent_as k os keys ∷ older) now → IsSolvedAbove c n older k os
