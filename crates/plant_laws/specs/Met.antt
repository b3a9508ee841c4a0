-- The state that an event of a run met, and a path request that is taken in it.
use Rattle.std.specs.Prelude.{◌≡◌, ◌⊎◌, ℕ, List, [], ◌∷◌, ◌++◌}
use Rattle.plant_model.specs.Types.{As, Peer, Asked, Request, Wanted, NetworkParts}
use Rattle.pcep_messages.specs.declared.message.Wish.TheVariants as wishes
use Rattle.pcep_messages.specs.declared.message.Message.TheVariants as messages
use Rattle.plant_model.specs.declared.output.Output.{Output}
use Rattle.plant_model.specs.Wire.{Codec, Admitted}
use Rattle.plant_model.specs.State.{Takes}
use Rattle.plant_model.specs.Plant.{Plant, PlantDeed, Entry, Run, deeds_of}
use Rattle.plant_laws.specs.Transcript.{Transcript, Within}

-- a run of a network, with the state that it led to
pub record RunOf (c : Codec) (n : NetworkParts) : Type 0 where
  pub entries : List Entry
  pub state : Plant
  pub run : Run c n entries state

abbrev pub run_of : (c : Codec) (n : NetworkParts) (es : List Entry) (s : Plant) → Run c n es s → RunOf c n
run_of c n es s run = record { entries = es; state = s; run = run }

-- The event of the run that did the deed, behind what older has, met this state. The deeds before the first event are of no event.
abbrev pub Meets : (c : Codec) (n : NetworkParts) (es : List Entry) (s : Plant) → Run c n es s → PlantDeed → Transcript → Plant → Type 0
Meets c n [] s run deed older before = ⊥
Meets c n (e ∷ es) s run deed older before =
    ((earlier : Transcript) × Within (deed ∷ earlier) e.deeds × (older ≡ earlier ++ deeds_of c n es) × (before ≡ run.0))
    ⊎ Meets c n es run.0 run.1 deed older before

-- In this moment of the run d took the path request x of p.
pub record TakesPathRequest (c : Codec) (n : NetworkParts) (this : RunOf c n) (d : As) (p : Peer) (x : ℕ) (deed : PlantDeed) (older : Transcript) : Type 0 where
  pub before : Plant
  pub meets : Meets c n this.entries this.state this.run deed older before
  pub asked : Asked
  pub os : List Output
  pub takes : deed ≡ Takes d p (messages.PcReq (asked ∷ [])) os
  pub request : Request
  pub admitted : c.check asked d ≡ Admitted request
  pub id : request.id ≡ x
  pub wanted : Wanted
  pub for_path : request.wish ≡ wishes.Path wanted
