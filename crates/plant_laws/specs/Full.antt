-- Why a request was answered that there is no room (PCNtf 1/2): on its way a table was full, a solve needs more keys than are free, or an
-- outside peer that was asked said so.
use Rattle.std.specs.Prelude.{◌≡◌, ◌≢◌, ◌<◌, true, false, ℕ, cond, List, [], ◌∷◌, length, Contains, Some}
use Rattle.plant_model.specs.Types.{As, Addr, Peer, Outside, Inner, Notice, Wanted, NetworkParts}
use Rattle.pcep_codes.specs.declared.notices.TheConstants as notices
use Rattle.pcep_messages.specs.declared.message.Message.TheVariants as messages
use Rattle.request_table.specs.Pending.{IsFull}
use Rattle.plant_text.specs.Names.{same_as, parent_as}
use Rattle.plant_model.specs.declared.output.Output.{Output}
use Rattle.plant_model.specs.Names.{has_pair}
use Rattle.plant_model.specs.Wire.{Codec}
use Rattle.plant_model.specs.Writing.{request_message, busy}
use Rattle.plant_model.specs.Element.{is_client}
use Rattle.plant_model.specs.Solving.{free}
use Rattle.plant_model.specs.State.{Takes}
use Rattle.plant_model.specs.Plant.{Plant, PlantDeed, Entry, Run, deeds_of}
use Rattle.plant_laws.specs.Transcript.{Transcript, Within, opened, SentIn, outputs_at}
use Rattle.plant_laws.specs.Matched.{Answering}
use Rattle.plant_laws.specs.Met.{RunOf, run_of, Meets, TakesPathRequest}
use Rattle.plant_laws.specs.MessageCauses.{Notes, noted}
use Rattle.plant_laws.specs.WentOn.{WentOn}
use Rattle.plant_laws.specs.Solves.{ElementTells}
use Rattle.plant_laws.specs.Runs.{InShortRuns}

-- In this moment d took the path request x of p, and its table was full.
pub record IsCrowded (c : Codec) (n : NetworkParts) (this : RunOf c n) (d : As) (p : Peer) (x : ℕ) (deed : PlantDeed) (older : Transcript) : Type 0 where
  pub taking : TakesPathRequest c n this d p x deed older
  pub full : cond (same_as d parent_as) (IsFull taking.before.parent.pending) (IsFull (taking.before.elements d).pending)

-- In this moment d solved the request x of p, who is no client, and has fewer keys free than best rows to tell.
pub record LacksKeys (c : Codec) (n : NetworkParts) (this : RunOf c n) (d : As) (p : Peer) (x : ℕ) (deed : PlantDeed) (older : Transcript) : Type 0 where
  pub before : Plant
  pub meets : Meets c n this.entries this.state this.run deed older before
  pub number : ℕ
  pub tells : ElementTells c n before d number (deed ∷ [])
  pub peer : tells.held.key.peer ≡ p
  pub id : tells.held.key.id ≡ x
  pub closed : is_client tells.held.item.class ≡ false
  pub few : free before.clock (before.elements d).keys < length tells.rows.best

-- The request x of p is open, in the moment that delivered it d asked b under an id, and b said that for this id there is no room: of an
-- element's request, of this very one.
pub record HearsFull (c : Codec) (older : Transcript) (d : As) (p : Peer) (x : ℕ) (b : As) : Type 0 where
  pub at : Transcript
  pub is_open : opened c d p x older ≡ Some at
  pub id : ℕ
  pub wanted : Wanted
  pub target : Addr
  pub rest : List As
  pub sent : SentIn at d (Inner b) (request_message id wanted target rest)
  pub flags : ℕ
  pub deed : PlantDeed
  pub before : Transcript
  pub within : Within (deed ∷ before) older
  pub said : SentIn (deed ∷ before) b (Inner d) (busy flags id)
  pub answering : d ≢ parent_as → Answering c d b id at deed before

-- why d told p in a moment that there is no room for its request x
pub data Fills (c : Codec) (n : NetworkParts) (this : RunOf c n) : As → Peer → ℕ → PlantDeed → Transcript → Type 0 where
  crowded : (d : As) (p : Peer) (x : ℕ) (deed : PlantDeed) (older : Transcript) → IsCrowded c n this d p x deed older → Fills c n this d p x deed older
  lacks : (d : As) (p : Peer) (x : ℕ) (deed : PlantDeed) (older : Transcript) → LacksKeys c n this d p x deed older → Fills c n this d p x deed older
  -- an outside peer to which it went on said so
  outside_full : (d : As) (i : ℕ) (p : Peer) (x : ℕ) (older : Transcript) (told : List Notice) (kinds : List (ℕ × ℕ)) (rp : ℕ × ℕ) (os : List Output) → Contains (noted told) (Notes kinds rp) →
      has_pair notices.BUSY.0 notices.BUSY.1 kinds ≡ true → WentOn c older d p x (Outside i) rp.1 → Fills c n this d p x (Takes d (Outside i) (messages.PcNtf told) os) older
  -- the next said so of what it was asked, for a reason of its own
  further_full : (d b : As) (p : Peer) (x : ℕ) (older : Transcript) (os : List Output) (hears : HearsFull c older d p x b) → Fills c n this b (Inner d) hears.id hears.deed hears.before → Fills c n this d p x (Takes d (Inner b) (busy hears.flags hears.id) os) older

-- In every run each such notice of an element, or the parent, has a reason.
abbrev pub FullForReasonsIn : Codec → NetworkParts → List Entry → Plant → Type 0
FullForReasonsIn c n es s =
    (run : Run c n es s) (d : As) (p : Peer) (x flags : ℕ) (deed : PlantDeed) (older : Transcript) → Within (deed ∷ older) (deeds_of c n es) →
    Contains (outputs_at d deed) (record { to = p; message = busy flags x }) → Fills c n (run_of c n es s run) d p x deed older

abbrev pub FullForReasons : Type 0
FullForReasons = InShortRuns FullForReasonsIn
