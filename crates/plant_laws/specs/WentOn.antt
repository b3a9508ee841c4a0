-- The peer to which an open request went on, and the id under which it did.
use Rattle.std.specs.Prelude.{◌≡◌, ◌≢◌, ℕ, List, Some}
use Rattle.plant_model.specs.Types.{As, Peer, Outside, Wanted, NetworkParts}
use Rattle.plant_model.specs.Routes.{StaysInside}
use Rattle.plant_text.specs.Names.{parent_as}
use Rattle.plant_model.specs.Wire.{Codec}
use Rattle.plant_model.specs.Writing.{request_message}
use Rattle.plant_model.specs.Plant.{Plant, Entry, deeds_of}
use Rattle.plant_laws.specs.Transcript.{Transcript, Within, opened, SentIn}
use Rattle.plant_laws.specs.Runs.{InRuns}

-- The request x of p is open, and in the moment that delivered it d sent it on to this peer under the id y.
pub record WentOn (c : Codec) (older : Transcript) (d : As) (p : Peer) (x : ℕ) (on : Peer) (y : ℕ) : Type 0 where
  pub at : Transcript
  pub is_open : opened c d p x older ≡ Some at
  pub wanted : Wanted
  pub rest : List As
  pub sent : SentIn at d on (request_message y wanted wanted.target rest)

-- Where paths go on through no outside peer, no element sends a request on to one: so no reason is then of an outside peer.
abbrev pub NoneGoOutIn : Codec → NetworkParts → List Entry → Plant → Type 0
NoneGoOutIn c n es s =
    StaysInside n → (d : As) (p : Peer) (x i y : ℕ) (older : Transcript) → d ≢ parent_as → Within older (deeds_of c n es) → ¬ WentOn c older d p x (Outside i) y

abbrev pub NoneGoOut : Type 0
NoneGoOut = InRuns NoneGoOutIn
