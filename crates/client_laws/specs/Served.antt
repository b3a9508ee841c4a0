-- What becomes of a request for a path once it is taken: it is answered at once, or is open from then on, and when the network is quiet
-- it has had its one answer, or was dropped, or an outside peer that was asked on its way has yet to answer.
use Rattle.std.specs.Prelude.{◌≡◌, ◌≢◌, ◌≤◌, ℕ, List, ◌∷◌, Contains, Some}
use Rattle.plant_play.specs.plant_model.Types.{As, Peer, Request, Wanted, NetworkParts}
use Rattle.pcep_messages.specs.declared.message.Wish.TheVariants as wishes
use Rattle.plant_text.specs.Names.{parent_as}
use Rattle.request_table.specs.Pending.{key_of}
use Rattle.plant_play.specs.plant_model.Element.{Row}
use Rattle.plant_play.specs.plant_model.Plant.{Entry, Pin, Plant, PlantDeed, deeds_of}
use Rattle.plant_play.specs.plant_model.Wire.{Codec}
use Rattle.run_laws.specs.plant_laws.Answered.{DropsFor, IsEnd, answers_of}
use Rattle.run_laws.specs.plant_laws.Chains.{IsQuiet, WaitsOutside}
use Rattle.run_laws.specs.plant_laws.Runs.{InShortRuns}
use Rattle.run_laws.specs.plant_laws.Transcript.{Delivered, Transcript, Within, opened}

-- after a moment that took the request x of p at d
pub data IsTaken (c : Codec) (d : As) (p : Peer) (x : ℕ) (moment : Transcript) : Type 0 where
  answers : (deed : PlantDeed) (older : Transcript) → moment ≡ deed ∷ older → 1 ≤ answers_of d p x deed → IsTaken c d p x moment
  is_open : (at : Transcript) → opened c d p x moment ≡ Some at → IsTaken c d p x moment

-- Each request for a path that is admitted is answered by the deed that took it, or is open from then on.
abbrev pub TakenIsOpen : Type 0
TakenIsOpen = (c : Codec) (d : As) (p : Peer) (r : Request) (w : Wanted) (moment : Transcript) → Delivered c moment d p r → r.wish ≡ wishes.Path w → IsTaken c d p r.id moment

-- and when the network is quiet
pub data IsServed (c : Codec) (s : Plant) (now : Transcript) (d : As) (p : Peer) (x : ℕ) (moment : Transcript) : Type 0 where
  at_once : (deed : PlantDeed) (older : Transcript) → moment ≡ deed ∷ older → 1 ≤ answers_of d p x deed → IsServed c s now d p x moment
  later : (at : Transcript) → opened c d p x moment ≡ Some at → (e : IsEnd c now d p x at) → answers_of d p x e.deed ≡ 1 → IsServed c s now d p x moment
  dropped : (at : Transcript) → opened c d p x moment ≡ Some at → (e : IsEnd c now d p x at) → answers_of d p x e.deed ≡ 0 → DropsFor d p x e.deed → IsServed c s now d p x moment
  waits : (at : Transcript) → opened c d p x moment ≡ Some at → opened c d p x now ≡ Some at → (h : Row Pin) → Contains (s.elements d).pending.rows h → h.1.key ≡ key_of p x → WaitsOutside c s now d h → IsServed c s now d p x moment

-- In a quiet state each request for a path that an element took and admitted was answered at once, or by what ended it, or was dropped, or waits for an
-- outside peer.
abbrev pub TakenIsServedIn : Codec → NetworkParts → List Entry → Plant → Type 0
TakenIsServedIn c n es s =
    IsQuiet s → (d : As) (p : Peer) (r : Request) (w : Wanted) (moment : Transcript) → d ≢ parent_as → Within moment (deeds_of c n es) → Delivered c moment d p r → r.wish ≡ wishes.Path w →
    IsServed c s (deeds_of c n es) d p r.id moment

abbrev pub TakenIsServed : Type 0
TakenIsServed = InShortRuns TakenIsServedIn
