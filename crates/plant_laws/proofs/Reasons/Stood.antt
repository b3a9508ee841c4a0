-- What an element or the parent takes of another was sent before; and what is sent so asks for what is admitted.
use Rattle.std.proofs.Common.{List, ◌∷◌, sym, subst, inl, inr, refl}
use Rattle.std.specs.Prelude.{Contains}
use Rattle.plant_model.specs.Types.{As, Message, NetworkParts, Inner}
use Rattle.pcep_messages.specs.Spelling.{IsWritten}
use Rattle.plant_model.specs.declared.output.Output.{Output}
use Rattle.plant_model.specs.Wire.{Codec}
use Rattle.plant_model.specs.Laws.{IsCodec, IsNetwork}
use Rattle.plant_model.specs.State.{Pops, Takes}
use Rattle.plant_model.specs.Plant.{Plant, Entry, Run, deeds_of}
use Rattle.plant_laws.specs.About.{IsShort}
use Rattle.plant_laws.specs.Sending.{AllSent}
use Rattle.plant_laws.specs.Transcript.{Transcript, Within, Standing, SentIn}
use Rattle.plant_laws.proofs.Least.FromElement.{within_tail}
use Rattle.plant_laws.proofs.Least.ReadyRows.{sent_within}
use Rattle.plant_laws.proofs.Numbering.Known.{IsForm, own_none, Prem}
use Rattle.plant_laws.proofs.Numbering.Sends.{Each}
use Rattle.plant_laws.proofs.Runs.Moments.{standing_put}
use Rattle.plant_laws.proofs.Runs.Readings.{messages_are_read}
use Rattle.plant_laws.proofs.Runs.Rows as table
use Rattle.plant_laws.proofs.Settled.Alive.{IsSound}
use Rattle.plant_laws.proofs.Settled.UnderWayRuns.{run_inv}
use Rattle.plant_laws.proofs.WrittenForm.ReadBack.{run_single, standing_sent}
use Rattle.plant_laws.proofs.WrittenForm.Sent.{run_sent}
use Rattle.border_costs.proofs.Members.{contains_head}

module _ (c : Codec) (codec : IsCodec c) (n : NetworkParts) (net : IsNetwork n) (es : List Entry) (s : Plant) (run : Run c n es s) (written : AllSent IsWritten (deeds_of c n es)) (short : IsShort (deeds_of c n es)) where
  abbrev now : Transcript
  now = deeds_of c n es

  pub put_before : (a at : As) (m : Message) (os : List Output) (older : Transcript) → Within (Takes at (Inner a) m os ∷ older) now → (put : Transcript) × Within put older × SentIn put a (Inner at) m
  put_before a at m os older within =
      let q = (messages_are_read c codec n es s run written).queues a at m os older within in
      let x : Standing = record { message = m; put = q.put } in
      let was = standing_put a at q.before x (subst (λ (l : List Standing). Contains l x) (sym q.stood) (contains_head x q.rest)) in
      (q.put, subst (λ (l : Transcript). Within q.put l) (sym q.is_popped) (inr was.within), was.sent)

  -- what the parent asks is admitted
  form : AllSent IsForm now
  form = run_sent IsForm (λ y w t rest ask. (y, w, t, rest, refl)) (λ flags id a ask. absurd ask) (λ flags id ask. absurd ask) (λ rp kind value ask. absurd ask) (λ o ask. absurd (own_none o ask)) c n es s run

  pub sound : Each (IsSound c) now
  sound =
      let prem : Prem c n codec net now = (written, form, run_single c n codec es s run written, short) in
      ((run_inv c n codec net es s run).0.2 prem).sound

  pub in_form : (a at : As) (m : Message) (os : List Output) (older : Transcript) → Within (Takes at (Inner a) m os ∷ older) now → IsForm m
  in_form a at m os older within =
      let q = (messages_are_read c codec n es s run written).queues a at m os older within in
      let x : Standing = record { message = m; put = q.put } in
      let inside : Within (Pops a at ∷ q.before) now = subst (λ (l : Transcript). Within l now) q.is_popped (within_tail (Takes at (Inner a) m os) older now within) in
      standing_sent IsForm a at q.before x (sent_within IsForm q.before now (within_tail (Pops a at) q.before now inside) form) (subst (λ (l : List Standing). table.In x l) (sym q.stood) (inl refl))
