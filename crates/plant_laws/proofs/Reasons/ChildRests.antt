-- A request of the parent waits at no element: it asks for the element's own domain alone.
use Rattle.std.proofs.Common.{◌≡◌, ℕ, cond, List, [], ◌∷◌, sym, ◌∙◌, ap, subst, inl, inr}
use Rattle.std.specs.Prelude.{Contains}
use Rattle.plant_model.specs.Types.{As, Peer, Request, Wanted, NetworkParts}
use Rattle.pcep_messages.specs.declared.message.Wish.TheVariants as wishes
use Rattle.pcep_messages.specs.Spelling.{IsWritten}
use Rattle.plant_text.specs.Settings.{class_of}
use Rattle.plant_model.specs.Names.{the_parent}
use Rattle.plant_model.specs.Wire.{Codec, Admitted}
use Rattle.plant_model.specs.Laws.{IsCodec, IsNetwork}
use Rattle.plant_model.specs.Writing.{vspt_flag}
use Rattle.plant_model.specs.Element.{Waits, Row}
use Rattle.plant_model.specs.Taking.{goes_up, sequence_or}
use Rattle.plant_model.specs.Settings.{place}
use Rattle.plant_model.specs.Plant.{Pin, Plant, Entry, Run, deeds_of}
use Rattle.plant_laws.specs.About.{IsShort}
use Rattle.plant_laws.specs.Sending.{AllSent}
use Rattle.plant_laws.specs.Transcript.{Transcript, Delivered}
use Rattle.plant_laws.specs.Waiting.{GoesOn}
use Rattle.plant_laws.proofs.Least.FromElement.{same_request, same_wanted}
use Rattle.plant_laws.proofs.Least.OfRun.{given_of}
use Rattle.plant_laws.proofs.Once.OpenTables.{Found, found}
use Rattle.plant_laws.proofs.Once.Opened.{Holds}
use Rattle.plant_laws.proofs.Once.OpenedRuns.{run_opened}
use Rattle.plant_laws.proofs.Runs.Moments.{opened_within}
use Rattle.plant_laws.proofs.Settled.Waits.{waits_are_sent}
use Rattle.plant_laws.proofs.WrittenForm.EveryWritten.{every_written, every_down}
use Rattle.plant_laws.proofs.WrittenForm.ParentWritten.{asked_alone}
use Rattle.plant_laws.proofs.WrittenForm.RequestsWritten.{requests_are_single}

module _ (c : Codec) (codec : IsCodec c) (n : NetworkParts) (net : IsNetwork n) (es : List Entry) (s : Plant) (run : Run c n es s) (short : IsShort (deeds_of c n es)) where
  abbrev now : Transcript
  now = deeds_of c n es

  pub child_rests : (b : As) (row : Row Pin) → Contains (s.elements b).pending.rows row → row.1.key.peer ≡ the_parent → (q : Peer) (y : ℕ) → row.1.item.stage ≡ Waits q y → ⊥
  child_rests b row i peer q y waits = go (waits_are_sent c codec n net es s run b row i q y waits).rest (waits_are_sent c codec n net es s run b row i q y waits).goes
    where
      written : AllSent IsWritten now
      written = every_written c codec n net es s run short

      held : Holds c n now s
      held = run_opened c n es s run (requests_are_single c codec n net es s run)

      r : Found c n now s held b row
      r = found c n now s held b row i

      alone : (id : ℕ) × (w : Wanted) × (w.sequence ≡ b ∷ []) × (Admitted r.2.request ≡ Admitted (record { flags = vspt_flag; id = id; wish = wishes.Path w }))
      alone =
          asked_alone c codec n now (given_of c codec n net es s run written short) written (every_down c codec n net es s run short) b r.2.request r.0 (opened_within c b row.1.key.peer row.1.key.id now r.0 r.1)
          (subst (λ (p : Peer). Delivered c r.0 b p r.2.request) peer r.2.delivered)

      wanted : row.1.item.wanted ≡ alone.1
      wanted =
          let same = same_request r.2.request (record { flags = vspt_flag; id = alone.0; wish = wishes.Path alone.1 }) alone.3 in
          same_wanted row.1.item.wanted alone.1 (sym r.2.wish' ∙ ap (λ (z : Request). z.wish) same)

      sequence : row.1.item.sequence ≡ b ∷ []
      sequence = r.2.sequence' ∙ ap (λ (l : List As). cond (goes_up (place n b).parent (class_of n row.1.key.peer) l) [] (sequence_or b l)) (ap (λ (w : Wanted). w.sequence) wanted ∙ alone.2)

      go : (rest : List As) → GoesOn (place n b).routes row.1.item.sequence rest q → ⊥
      go rest (inl up) = (let clash : [] ≡ b ∷ [] = sym up.0 ∙ sequence in cc)
      go rest (inr on) = (let clash : b ∷ [] ≡ on.0 ∷ on.1 ∷ on.2 = sym sequence ∙ on.3 ∙ ap (λ (l : List As). on.0 ∷ l) on.4 in cc)
