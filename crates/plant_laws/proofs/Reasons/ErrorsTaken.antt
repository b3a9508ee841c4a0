-- What an element hears of errors of another: nothing, but that the parent refused a request between IPv6 addresses, or that a chain failed.
use Rattle.std.proofs.Common.{◌≡◌, ℕ, List, [], ◌∷◌, Option, Some, None, sym, ap, subst, inl, inr, refl}
use Rattle.std.specs.Prelude.{◌⊎◌, Contains}
use Rattle.plant_model.specs.Types.{As, Peer, Inner, ErrorReport, NetworkParts}
use Rattle.disclosure.specs.Shown.{open_of}
use Rattle.pcep_codes.specs.declared.errors.TheConstants as errors
use Rattle.pcep_messages.specs.declared.message.Message.TheVariants as messages
use Rattle.pcep_messages.specs.Spelling.{IsWritten}
use Rattle.request_table.specs.Pending.{same_peer}
use Rattle.plant_text.specs.Settings.{class_of}
use Rattle.plant_model.specs.declared.output.Output.{Output}
use Rattle.plant_model.specs.Names.{the_parent}
use Rattle.plant_model.specs.Wire.{Codec}
use Rattle.plant_model.specs.Laws.{IsCodec, IsNetwork}
use Rattle.plant_model.specs.Writing.{vspt_flag}
use Rattle.plant_model.specs.Element.{Element}
use Rattle.plant_model.specs.Taking.{take}
use Rattle.plant_model.specs.Settings.{place}
use Rattle.plant_model.specs.State.{Takes}
use Rattle.plant_model.specs.Plant.{Pin, Segment, Plant, PlantDeed, Entry, Run, deeds_of}
use Rattle.plant_laws.specs.About.{IsShort}
use Rattle.plant_laws.specs.Broken.{IsRefusedAbove}
use Rattle.plant_laws.specs.Errors.{chain_failed, IsInnerError, names_none, answers_reply, refuses_ipv6, fails}
use Rattle.plant_laws.specs.MessageCauses.{Asker, told, chain_broken, WaitsAt, OnError, failed_for_nobody, of_reply, out_of_profile, other_error, OnRequest, OnMessage}
use Rattle.plant_laws.specs.Sending.{AllSent}
use Rattle.plant_laws.specs.Transcript.{Transcript, Within, SentIn, outputs_at}
use Rattle.plant_laws.proofs.Reasons.ErrorParts.{unknown_fine, kind_fine, one_error}
use Rattle.plant_laws.proofs.Reasons.Errors.{SaysFailed, told_of}
use Rattle.plant_laws.proofs.Reasons.Stood.{put_before}
use Rattle.plant_laws.proofs.Least.FromElement.{within_tail}
use Rattle.plant_laws.proofs.Runs.Moments.{within_trans}
use Rattle.plant_laws.proofs.Reasons.PartCauses.{in_at}

-- the refusal, and who waits for the request
pub record HearsRefusal (k : Element Pin Segment) (older : Transcript) (d : As) (q : Peer) (reports : List ErrorReport) (os : List Output) : Type 0 where
  pub above : q ≡ the_parent
  pub id : ℕ
  pub refused : IsRefusedAbove older d id reports
  pub asker : Asker
  pub waits : WaitsAt k q id asker
  pub says : os ≡ chain_broken asker

-- or the failure
pub record HearsFailure (c : Codec) (k : Element Pin Segment) (older : Transcript) (d : As) (q : Peer) (reports : List ErrorReport) (os : List Output) : Type 0 where
  pub from : As
  pub inside : q ≡ Inner from
  pub failed : SaysFailed c d from reports older
  pub asker : Asker
  pub waits : WaitsAt k q failed.id asker
  pub says : os ≡ told asker (chain_failed asker.flags asker.id)

module _ (c : Codec) (codec : IsCodec c) (n : NetworkParts) (net : IsNetwork n) (es : List Entry) (s : Plant) (run : Run c n es s) (written : AllSent IsWritten (deeds_of c n es)) (short : IsShort (deeds_of c n es))
    (d : As) (entries : List Entry) (before : Plant) (run' : Run c n entries before) (short' : IsShort (deeds_of c n entries)) where
  abbrev Hears : Peer → List ErrorReport → Transcript → List Output → Type 0
  Hears q reports older os = (os ≡ []) ⊎ (HearsRefusal (before.elements d) older d q reports os ⊎ HearsFailure c (before.elements d) older d q reports os)

  pub hears_inner : (b : As) (pin : Pin) (reports : List ErrorReport) (os : List Output) (older : Transcript) → Within (Takes d (Inner b) (messages.PcErr reports) os ∷ older) (deeds_of c n es) →
      OnMessage c n d pin (Inner b) before.clock (messages.PcErr reports) (before.elements d) os → Hears (Inner b) reports older os
  hears_inner b pin reports os older within on = by (put_before c codec n net es s run written short b d (messages.PcErr reports) os older within)
    where
      older_now : Within older (deeds_of c n es)
      older_now = within_tail (Takes d (Inner b) (messages.PcErr reports) os) older (deeds_of c n es) within

      one : (deed : PlantDeed) (before' : Transcript) → Within (deed ∷ before') older → SentIn (deed ∷ before') b (Inner d) (messages.PcErr reports) → IsInnerError c d b deed before' (messages.PcErr reports) → Hears (Inner b) reports older os
      one deed before' w sent (names_none kind value is) = elim (one_error (Element Pin Segment) (λ k'. WaitsAt k' (Inner b)) (OnRequest c n d (Inner b) before.clock) (λ m' k'. (take c open_of (place n d) pin (Inner b) (class_of n (Inner b)) before.clock m' k').element) (same_peer (Inner b) the_parent) (Inner b)
          None kind value (messages.PcErr reports) (before.elements d) os is on) [
            | inl none ↦ inl none
            | inr some ↦ absurd (let clash : ◌≡◌ {A = Option (ℕ × ℕ)} None (Some some.0) = some.1 in cc)
          ]
      one deed before' w sent (answers_reply rp is) = elim (one_error (Element Pin Segment) (λ k'. WaitsAt k' (Inner b)) (OnRequest c n d (Inner b) before.clock) (λ m' k'. (take c open_of (place n d) pin (Inner b) (class_of n (Inner b)) before.clock m' k').element) (same_peer (Inner b) the_parent) (Inner b)
          (Some rp) errors.UNKNOWN_REQUEST.0 errors.UNKNOWN_REQUEST.1 (messages.PcErr reports) (before.elements d) os is on) [
            | inl none ↦ inl none
            | inr some ↦ reply some.0 some.2
          ]
        where
          reply : (rp' : ℕ × ℕ) → OnError (WaitsAt (before.elements d) (Inner b) rp'.1) errors.UNKNOWN_REQUEST os → Hears (Inner b) reports older os
          reply rp' (failed_for_nobody none is') = inl is'
          reply rp' (of_reply of is') = inl is'
          reply rp' (out_of_profile w' waits out is') = absurd (unknown_fine out)
          reply rp' (other_error w' waits no' no'' is') = absurd (no' (refl, refl))
      one deed before' w sent (refuses_ipv6 id up asks is) = elim (one_error (Element Pin Segment) (λ k'. WaitsAt k' (Inner b)) (OnRequest c n d (Inner b) before.clock) (λ m' k'. (take c open_of (place n d) pin (Inner b) (class_of n (Inner b)) before.clock m' k').element) (same_peer (Inner b) the_parent) (Inner b)
          (Some (vspt_flag, id)) errors.KIND_NOT_SERVED.0 errors.KIND_NOT_SERVED.1 (messages.PcErr reports) (before.elements d) os is on) [
            | inl none ↦ inl none
            | inr some ↦ refusal some.0 some.1 some.2
          ]
        where
          refusal : (rp' : ℕ × ℕ) → Some (vspt_flag, id) ≡ Some rp' → OnError (WaitsAt (before.elements d) (Inner b) rp'.1) errors.KIND_NOT_SERVED os → Hears (Inner b) reports older os
          refusal rp' same (failed_for_nobody none is') = inl is'
          refusal rp' same (of_reply of is') = inl is'
          refusal rp' same (out_of_profile w' waits out is') = absurd (kind_fine out)
          refusal rp' same (other_error w' waits no' no'' is') =
              let rp_is : (vspt_flag, id) ≡ rp' = cc in
              inr (inl (record {
                above = ap (λ (z : As). Inner z) up;
                id = id;
                refused = record { deed = deed; before = before'; within = w; asks = asks; said = subst (λ (z : As). Contains (outputs_at z deed) (record { to = Inner d; message = messages.PcErr reports })) up sent; names = is };
                asker = w';
                waits = subst (λ (y : ℕ). WaitsAt (before.elements d) (Inner b) y w') (ap (λ (z : ℕ × ℕ). z.1) (sym rp_is)) waits;
                says = is';
              }))
      one deed before' w sent (fails flags id low asker_low why is) = elim (one_error (Element Pin Segment) (λ k'. WaitsAt k' (Inner b)) (OnRequest c n d (Inner b) before.clock) (λ m' k'. (take c open_of (place n d) pin (Inner b) (class_of n (Inner b)) before.clock m' k').element) (same_peer (Inner b) the_parent) (Inner b)
          (Some (flags, id)) errors.CHAIN_FAILED.0 errors.CHAIN_FAILED.1 (messages.PcErr reports) (before.elements d) os is on) [
            | inl none ↦ inl none
            | inr some ↦ failure some.0 some.1 some.2
          ]
        where
          failure : (rp' : ℕ × ℕ) → Some (flags, id) ≡ Some rp' → OnError (WaitsAt (before.elements d) (Inner b) rp'.1) errors.CHAIN_FAILED os → Hears (Inner b) reports older os
          failure rp' same (failed_for_nobody none is') = inl is'
          failure rp' same (of_reply of is') = inl is'
          failure rp' same (other_error w' waits no' no'' is') = absurd (no'' (inr (refl, refl)))
          failure rp' same (out_of_profile w' waits out is') =
              let rp_is : (flags, id) ≡ rp' = cc in
              inr (inr (record {
                from = b;
                inside = refl;
                failed = record { flags = flags; id = id; names = is; deed = deed; before = before'; within = w; said = sent; low = asker_low; why = why };
                asker = w';
                waits = subst (λ (y : ℕ). WaitsAt (before.elements d) (Inner b) y w') (ap (λ (z : ℕ × ℕ). z.1) (sym rp_is)) waits;
                says = is';
              }))

      by : (put : Transcript) × Within put older × SentIn put b (Inner d) (messages.PcErr reports) → Hears (Inner b) reports older os
      by p = go p.0 p.1 p.2
        where
          go : (put : Transcript) → Within put older → SentIn put b (Inner d) (messages.PcErr reports) → Hears (Inner b) reports older os
          go [] w sent = absurd sent
          go (deed ∷ before') w sent =
              one deed before' w sent
              (told_of c codec n net es s run written short d b reports deed before' (within_trans (deed ∷ before') older (deeds_of c n es) w older_now) (in_at _ (outputs_at b deed) sent))
