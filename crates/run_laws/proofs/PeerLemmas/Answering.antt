-- Answers that were put for a client are those of which the laws speak.
use Rattle.std.proofs.Common.{◌≡◌, ℕ, Bool, true, false, cond, List, [], ◌∷◌, sym, ◌∙◌, ap, subst, inl, inr, refl}
use Rattle.std.specs.Prelude.{Contains}
use Rattle.std.proofs.lemmas.Bool.{eq-eqb}
use Rattle.plant_laws.specs.plant_model.Types.{As, Peer, Outside, Message}
use Rattle.border_costs.proofs.Members.{contains_cases, contains_head, contains_none, contains_tail}
use Rattle.pcep_messages.specs.declared.message.Message.TheVariants as messages
use Rattle.request_table.specs.Pending.{same_peer}
use Rattle.plant_text.specs.Names.{same_as}
use Rattle.plant_laws.specs.plant_model.declared.output.Output.{Output}
use Rattle.plant_laws.specs.plant_model.Plant.{PlantDeed, deeds_of}
use Rattle.plant_laws.specs.plant_model.RealWire.{wire}
use Rattle.plant_laws.specs.plant_model.State.{Clears, Downs, Expires, Hands, Loads, Pops, Says, Solves, Takes, Ups}
use Rattle.plant_laws.proofs.plant_model.WireLaws.{wire_is_codec}
use Rattle.plant_laws.specs.About.{Replies}
use Rattle.plant_laws.specs.Headline.{LeastAnswersIn, NoneAnswersIn}
use Rattle.plant_laws.specs.Transcript.{Transcript, Within, outputs_at}
use Rattle.plant_laws.proofs.WrittenForm.EveryWritten.{of_written_net_ids}
use Rattle.plant_laws.proofs.Runs.Moments.{peer_is, within_here}
use Rattle.plant_laws.proofs.Least.OfRun as OfRun
use Rattle.run_laws.specs.Outlets.{outputs_of, put_for}
use Rattle.run_laws.specs.Received.{AnswersAreRight}
use Rattle.run_laws.proofs.PeerLemmas.Putting.{AllPut, put_is}

-- the message was sent to the peer in a deed of the run
pub record WasSent (now : Transcript) (i : ℕ) (m : Message) : Type 0 where
  pub at : As
  pub deed : PlantDeed
  pub older : Transcript
  pub within : Within (deed ∷ older) now
  pub sent : Contains (outputs_at at deed) (record { to = Outside i; message = m })

-- of what is put for a peer there is an output
abbrev output_to : ℕ → Message → Output
output_to i m = record { to = Outside i; message = m }

output_is : (i : ℕ) (o : Output) (m : Message) → same_peer o.to (Outside i) ≡ true → o.message ≡ m → o ≡ output_to i m
output_is i o m e same =
    ap (λ (p : Peer). let x : Output = record { to = p; message = o.message } in x) (peer_is o.to (Outside i) e) ∙ ap (λ (k : Message). output_to i k) same

first_output : (i : ℕ) (o : Output) (os : List Output) (m : Message) (b : Bool) → same_peer o.to (Outside i) ≡ b → (Contains (put_for i os) m → Contains os (output_to i m)) →
    Contains (cond b (o.message ∷ put_for i os) (put_for i os)) m → Contains (o ∷ os) (output_to i m)
first_output i o os m false e more h = contains_tail o os (output_to i m) (more h)
first_output i o os m true e more h =
    elim (contains_cases o.message (put_for i os) m h) [
      | inl same ↦ subst (λ (x : Output). Contains (o ∷ os) x) (output_is i o m e same) (contains_head o os)
      | inr later ↦ contains_tail o os (output_to i m) (more later)
    ]

an_output : (i : ℕ) (os : List Output) (m : Message) → Contains (put_for i os) m → Contains os (output_to i m)
an_output i [] m h = absurd (contains_none m h)
an_output i (o ∷ os) m h = first_output i o os m (same_peer o.to (Outside i)) refl (λ h'. an_output i os m h') h

own : (at : As) (os : List Output) (o : Output) → Contains os o → Contains (cond (same_as at at) os []) o
own at os o h = subst (λ (b : Bool). Contains (cond b os []) o) (sym (eq-eqb at.0 at.0 refl)) h

-- one deed's
sent_by : (now : Transcript) (i : ℕ) (d : PlantDeed) (older : Transcript) → Within (d ∷ older) now → (m : Message) → Contains (put_for i (outputs_of d)) m → WasSent now i m
sent_by now i (Takes at p t os) older within m h = record { at = at; deed = Takes at p t os; older = older; within = within; sent = own at os (record { to = Outside i; message = m }) (an_output i os m h) }
sent_by now i (Says at o) older within m h = record { at = at; deed = Says at o; older = older; within = within; sent = own at (o ∷ []) (record { to = Outside i; message = m }) (an_output i (o ∷ []) m h) }
sent_by now i (Downs at p os) older within m h = record { at = at; deed = Downs at p os; older = older; within = within; sent = own at os (record { to = Outside i; message = m }) (an_output i os m h) }
sent_by now i (Solves at k os keys) older within m h = record { at = at; deed = Solves at k os keys; older = older; within = within; sent = own at os (record { to = Outside i; message = m }) (an_output i os m h) }
sent_by now i _ older within m h = absurd (contains_none m h)

inner : (d : PlantDeed) (ds now : Transcript) → Within (d ∷ ds) now → Within ds now
inner d ds [] h = let no : d ∷ ds ≡ [] = h in cc
inner d ds (e ∷ older) (inl same) = let tails : ds ≡ older = cc in inr (subst (λ (t : Transcript). Within t older) (sym tails) (within_here older))
inner d ds (e ∷ older) (inr h) = inr (inner d ds older h)

all_sent : (now : Transcript) (i : ℕ) (ds : Transcript) → Within ds now → AllPut i (λ (m : Message). WasSent now i m) ds
all_sent now i [] within = tt
all_sent now i (d ∷ ds) within = (sent_by now i d ds within, all_sent now i ds (inner d ds now within))

pub answers_are_right : AnswersAreRight
answers_are_right n net es s run short i client x is replies put r among answer =
    let now = deeds_of wire n es in
    let was : WasSent now i (messages.PcRep replies) = put_is i (λ (m : Message). WasSent now i m) wire n es (all_sent now i now (within_here now)) x is (messages.PcRep replies) put in
    let least : LeastAnswersIn wire n es s = of_written_net_ids LeastAnswersIn OfRun.least_answers_are wire wire_is_codec n net es s run short in
    let none : NoneAnswersIn wire n es s = of_written_net_ids NoneAnswersIn OfRun.none_answers_are wire wire_is_codec n net es s run short in
    let sent : Replies now (was.deed ∷ was.older) was.older was.at (Outside i) r = record { deed = was.deed; is = refl; within = was.within; replies = replies; sent = was.sent; among = among; answer = answer } in
    record {
      at = was.at;
      older = was.older;
      moment = was.deed ∷ was.older;
      sent = sent;
      paths = λ paths is'. (least (was.deed ∷ was.older) was.older was.at i r client sent paths is').1;
      none = λ vector is'. (none (was.deed ∷ was.older) was.older was.at i r client sent vector is').1;
    }
