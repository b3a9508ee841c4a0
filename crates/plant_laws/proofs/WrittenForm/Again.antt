-- What is written between elements is read again, where all that a run sends is in written form.
use Rattle.std.proofs.Common.{◌≡◌, Bool, true, false, cond, List, [], ◌∷◌, Some}
use Rattle.plant_model.specs.Types.{As, Message, Inner}
use Rattle.pcep_messages.specs.Spelling.{IsWritten}
use Rattle.request_table.specs.Pending.{same_peer}
use Rattle.plant_model.specs.declared.output.Output.{Output}
use Rattle.plant_text.specs.Names.{same_as}
use Rattle.plant_model.specs.Wire.{Codec}
use Rattle.plant_model.specs.Laws.{IsCodec}
use Rattle.plant_model.specs.State.{Loads, Pops, Takes, Says, Ups, Downs, Clears, Solves, Expires, Hands}
use Rattle.plant_model.specs.Plant.{PlantDeed}
use Rattle.plant_laws.specs.Transcript.{Transcript, put_into, outputs_at}
use Rattle.plant_laws.specs.Sending.{AreAll, DeedSends, AllSent}

-- Each message that is put into an inner queue is read as it was written.
abbrev pub EachRead : Codec → List Message → Type 0
EachRead c [] = Unit {0}
EachRead c (m ∷ ms) = (c.read (c.text m) ≡ Some m) × EachRead c ms

abbrev pub AreReadAgain : Codec → Transcript → Type 0
AreReadAgain c [] = Unit {0}
AreReadAgain c (e ∷ older) = ((a b : As) → EachRead c (put_into b (outputs_at a e))) × AreReadAgain c older

put_read : (c : Codec) → IsCodec c → (b : As) (os : List Output) → AreAll IsWritten os → EachRead c (put_into b os)
put_read c codec b [] h = tt
put_read c codec b (o ∷ os) h = go (same_peer o.to (Inner b)) (put_read c codec b os h.1)
  where
    go : (t : Bool) → EachRead c (put_into b os) → EachRead c (cond t (o.message ∷ put_into b os) (put_into b os))
    go true rec = (codec.texts.reads o.message h.0, rec)
    go false rec = rec

cond_read : (c : Codec) → IsCodec c → (b : As) (t : Bool) (os : List Output) → AreAll IsWritten os → EachRead c (put_into b (cond t os []))
cond_read c codec b true os h = put_read c codec b os h
cond_read c codec b false os h = tt

deed_read : (c : Codec) → IsCodec c → (e : PlantDeed) → DeedSends IsWritten e → (a b : As) → EachRead c (put_into b (outputs_at a e))
deed_read c codec (Takes at p m os) h a b = cond_read c codec b (same_as at a) os h
deed_read c codec (Says at o) h a b = cond_read c codec b (same_as at a) (o ∷ []) h
deed_read c codec (Downs at p os) h a b = cond_read c codec b (same_as at a) os h
deed_read c codec (Solves at k os keys) h a b = cond_read c codec b (same_as at a) os h
deed_read c codec _ h a b = tt

pub all_read : (c : Codec) → IsCodec c → (ds : Transcript) → AllSent IsWritten ds → AreReadAgain c ds
all_read c codec [] h = tt
all_read c codec (e ∷ older) h = (deed_read c codec e h.0, all_read c codec older h.1)
