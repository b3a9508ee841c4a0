-- What became of a request when a network is quiet: it had its one answer, which tells of paths, or that there is no room, the chain is
-- not available or it failed, for a reason on its own way; or its peer gave it up; or it waits for an outside peer that was asked. No
-- error answers it except that its chain failed, since an outside peer does not serve it.
use Rattle.std.specs.Prelude.{◌≡◌, ◌≢◌, ℕ, List, [], ◌∷◌, Contains, Some}
use Rattle.plant_model.specs.Types.{As, Peer, Reply, NetworkParts}
use Rattle.pcep_messages.specs.declared.message.Message.TheVariants as messages
use Rattle.request_table.specs.Pending.{key_of}
use Rattle.plant_text.specs.Names.{parent_as}
use Rattle.plant_model.specs.Wire.{Codec}
use Rattle.plant_model.specs.Writing.{busy}
use Rattle.plant_model.specs.Element.{Row}
use Rattle.plant_model.specs.Plant.{Pin, Plant, Entry, Run, deeds_of}
use Rattle.plant_laws.specs.Transcript.{Transcript, Within, opened, outputs_at}
use Rattle.plant_laws.specs.Chains.{IsQuiet, WaitsOutside}
use Rattle.plant_laws.specs.Answered.{IsEnd, DropsFor, answers_of}
use Rattle.plant_laws.specs.MessageCauses.{TellsOfPaths}
use Rattle.plant_laws.specs.Met.{RunOf, run_of}
use Rattle.plant_laws.specs.Broken.{Breaks}
use Rattle.plant_laws.specs.Errors.{chain_failed, Unserved}
use Rattle.plant_laws.specs.Full.{Fills}
use Rattle.plant_laws.specs.Runs.{InShortRuns}

-- what the deed that ended it says of it
pub data EndsWith (c : Codec) (n : NetworkParts) (this : RunOf c n) (d : As) (p : Peer) (x : ℕ) (now : Transcript) (at : Transcript) (e : IsEnd c now d p x at) : Type 0 where
  -- a path, or that there is none
  tells : (r : Reply) → Contains (outputs_at d e.deed) (record { to = p; message = messages.PcRep (r ∷ []) }) → r.id ≡ x → TellsOfPaths r.answer → EndsWith c n this d p x now at e
  -- there is no room: a table on its way is full, or a solve lacks keys
  is_full : (flags : ℕ) → Contains (outputs_at d e.deed) (record { to = p; message = busy flags x }) → Fills c n this d p x e.deed e.older → EndsWith c n this d p x now at e
  breaks : (r : Reply) → Contains (outputs_at d e.deed) (record { to = p; message = messages.PcRep (r ∷ []) }) → r.id ≡ x → ¬ TellsOfPaths r.answer → Breaks c n this d p x e.deed e.older → EndsWith c n this d p x now at e
  -- the chain failed: an outside peer that was asked on its way does not serve it
  is_unserved : (flags : ℕ) → Contains (outputs_at d e.deed) (record { to = p; message = chain_failed flags x }) → Unserved c d p x e.deed e.older → EndsWith c n this d p x now at e

-- In a quiet state of a run each path request that an element accepted had one answer, or was dropped, or an outside peer has yet to
-- answer.
pub data CameTo (c : Codec) (n : NetworkParts) (this : RunOf c n) (now : Transcript) (d : As) (p : Peer) (x : ℕ) (at : Transcript) : Type 0 where
  answered : (e : IsEnd c now d p x at) → answers_of d p x e.deed ≡ 1 → EndsWith c n this d p x now at e → CameTo c n this now d p x at
  dropped : (e : IsEnd c now d p x at) → answers_of d p x e.deed ≡ 0 → DropsFor d p x e.deed → CameTo c n this now d p x at
  waits : opened c d p x now ≡ Some at → (h : Row Pin) → Contains (this.state.elements d).pending.rows h → h.1.key ≡ key_of p x → WaitsOutside c this.state now d h → CameTo c n this now d p x at

abbrev pub RequestsAreServedIn : Codec → NetworkParts → List Entry → Plant → Type 0
RequestsAreServedIn c n es s =
    (run : Run c n es s) → IsQuiet s → (d : As) (p : Peer) (x : ℕ) (at : Transcript) → d ≢ parent_as → Within at (deeds_of c n es) → opened c d p x at ≡ Some at →
    CameTo c n (run_of c n es s run) (deeds_of c n es) d p x at

abbrev pub RequestsAreServed : Type 0
RequestsAreServed = InShortRuns RequestsAreServedIn
