-- The law of readings, from the transcript of a run.
use Rattle.std.proofs.Common.{◌≡◌, [], ◌∷◌, inl, inr, sym, ap, subst, refl}
use Rattle.plant_model.specs.Types.{As, Message, Inner}
use Rattle.pcep_messages.specs.declared.message.Message.TheVariants as messages
use Rattle.plant_model.specs.State.{Takes}
use Rattle.plant_model.specs.Plant.{PlantDeed, deeds_of}
use Rattle.plant_laws.specs.Transcript.{Transcript, Within}
use Rattle.plant_laws.specs.Readings.{IsFromQueue, MessagesAreReadIn, RequestsAreReadIn}
use Rattle.plant_laws.specs.Runs.{InRuns}
use Rattle.plant_laws.proofs.Once.Opened.{AreSingle, single_deed}
use Rattle.plant_laws.proofs.WrittenForm.ReadBack.{StoodFirst, AreRead, read_deed, run_read, run_single}
use Rattle.plant_laws.proofs.WrittenForm.RequestsWritten.{HaveStood, stood_deed, requests_are_single, requests_have_stood}
use Rattle.plant_laws.proofs.WrittenForm.WhereWritten.{Written}

-- what is so of each deed and what was before it
abbrev IsSo : (PlantDeed → Transcript → Type 0) → Transcript → Type 0
IsSo P [] = Unit {0}
IsSo P (d ∷ ds) = P d ds × IsSo P ds

so_within : (P : PlantDeed → Transcript → Type 0) (e : PlantDeed) (older ds : Transcript) → IsSo P ds → Within (e ∷ older) ds → P e older
so_within P e older [] so within = absurd (let out : e ∷ older ≡ [] = within in cc)
so_within P e older (d ∷ ds) so (inl is) =
    let heads : e ≡ d = cc in
    let tails : older ≡ ds = cc in
    subst (λ (x : PlantDeed). P x older) (sym heads) (subst (λ (l : Transcript). P d l) (sym tails) so.0)
so_within P e older (d ∷ ds) so (inr within) = so_within P e older ds so.1 within

from_queue : (a b : As) (m : Message) (older : Transcript) → StoodFirst a b m older → IsFromQueue a b m older
from_queue a b m [] stood = absurd stood
from_queue a b m (f ∷ older) stood = record { before = older; is_popped = ap (λ (d : PlantDeed). d ∷ older) stood.0; put = stood.1.0; rest = stood.1.1; stood = stood.1.2 }

read_so : (ds : Transcript) → AreRead ds → IsSo read_deed ds
read_so [] h = tt
read_so (d ∷ ds) h = (h.0, read_so ds h.1)

single_so : (ds : Transcript) → AreSingle ds → IsSo (λ (d : PlantDeed) older. single_deed d) ds
single_so [] h = tt
single_so (d ∷ ds) h = (h.0, single_so ds h.1)

stood_so : (ds : Transcript) → HaveStood ds → IsSo stood_deed ds
stood_so [] h = tt
stood_so (d ∷ ds) h = (h.0, stood_so ds h.1)

pub messages_are_read : Written MessagesAreReadIn
messages_are_read c codec n es s run written = record {
  queues = λ a b m os older within.
      from_queue a b m older (so_within read_deed (Takes b (Inner a) m os) older (deeds_of c n es) (read_so (deeds_of c n es) (run_read c n codec es s run written)) within);
  single = λ at p asks os older within.
      so_within (λ (d : PlantDeed) older. single_deed d) (Takes at p (messages.PcReq asks) os) older (deeds_of c n es) (single_so (deeds_of c n es) (run_single c n codec es s run written)) within;
}

pub requests_are_read : InRuns RequestsAreReadIn
requests_are_read c codec n net es s run = record {
  queues = λ a b asks os older within.
      from_queue a b (messages.PcReq asks) older (so_within stood_deed (Takes b (Inner a) (messages.PcReq asks) os) older (deeds_of c n es) (stood_so (deeds_of c n es) (requests_have_stood c codec n net es s run)) within asks refl);
  single = λ at p asks os older within.
      so_within (λ (d : PlantDeed) older. single_deed d) (Takes at p (messages.PcReq asks) os) older (deeds_of c n es) (single_so (deeds_of c n es) (requests_are_single c codec n net es s run)) within;
}
