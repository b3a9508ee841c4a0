-- Where paths go on through no outside peer, no element sends a request on to one.
use Rattle.std.proofs.Common.{◌≡◌, ◌≢◌, ℕ, List, [], ◌∷◌, sym, ◌∙◌, ap, subst, inl, inr}
use Rattle.std.specs.Prelude.{false}
use Rattle.plant_model.specs.Types.{As, Peer, Outside, Inner, Message, NetworkParts}
use Rattle.plant_model.specs.Routes.{StaysInside}
use Rattle.plant_text.specs.Names.{same_as, parent_as}
use Rattle.plant_model.specs.declared.output.Output.{Output}
use Rattle.plant_model.specs.Names.{the_parent}
use Rattle.plant_model.specs.Wire.{Codec}
use Rattle.plant_model.specs.Writing.{request_message}
use Rattle.plant_model.specs.State.{Loads, Pops, Takes, Says, Ups, Downs, Clears, Solves, Expires, Hands}
use Rattle.plant_model.specs.Plant.{PlantDeed, deeds_of}
use Rattle.plant_laws.specs.Runs.{InRuns}
use Rattle.plant_laws.specs.Transcript.{Transcript, Within, SentIn, outputs_at}
use Rattle.plant_laws.specs.WentOn.{NoneGoOutIn}
use Rattle.plant_laws.proofs.Numbering.Counted.{low_of}
use Rattle.plant_laws.proofs.Numbering.Sends.{Each-within}
use Rattle.plant_laws.proofs.Once.Handing.{In, IsAsk}
use Rattle.plant_laws.proofs.Reasons.Causes.{IsOf, AsksFor, HasCause, run_has, none_in}
use Rattle.plant_laws.proofs.Reasons.MomentCauses.{at_here}
use Rattle.plant_laws.proofs.Reasons.PartCauses.{in_at}
use Rattle.plant_laws.proofs.Runs.Moments.{within_trans, opened_within}
use Rattle.plant_laws.proofs.Runs.Unrouted.{unrouted}
use Rattle.plant_laws.proofs.WrittenForm.RequestsWritten.{requests_are_single}

module _ (c : Codec) (n : NetworkParts) (downs : StaysInside n) (d : As) (real : d ≢ parent_as) (i : ℕ) (m : Message) (ask : IsAsk m) where
  abbrev out : Output
  out = record { to = Outside i; message = m }

  -- what is asked goes to the parent, or to a domain's own element
  routed : (at : As) (taken : Message) → IsOf c n at taken out → ⊥
  routed at taken is = elim is.goes [
    | inl up ↦ absurd (let clash : Outside i ≡ the_parent = sym to ∙ up.0 in cc)
    | inr on ↦ absurd (let clash : Outside i ≡ Inner on.1 = sym to ∙ on.3 ∙ unrouted n downs at on.1 in cc)
  ]
    where
      to : is.to ≡ Outside i
      to = sym (ap (λ (o : Output). o.to) is.sends)

  low : (at : As) → at ≡ d → same_as at parent_as ≡ false
  low at is = ap (λ (z : As). same_as z parent_as) is ∙ low_of d real

  by_deed : (e : PlantDeed) → AsksFor c n e → In out (outputs_at d e) → ⊥
  by_deed (Takes at q taken os) cause j = (let h = at_here d out at os j in routed at taken (cause (low at h.0) out h.1 ask))
  by_deed (Says at o) cause j = go (at_here d out at (o ∷ []) j).1
    where
      go : In out (o ∷ []) → ⊥
      go (inl same) = cause (subst (λ (z : Output). IsAsk z.message) same ask)
      go (inr none) = none
  by_deed (Downs at q os) cause j = (let h = at_here d out at os j in none_in os (cause (low at h.0)) out h.1 ask)
  by_deed (Solves at k os keys) cause j = (let h = at_here d out at os j in none_in os (cause (low at h.0)) out h.1 ask)
  by_deed _ cause j = absurd j

pub none_go_out : InRuns NoneGoOutIn
none_go_out c codec n net es s run downs d p x i y older real within went =
    go went.at (within_trans went.at older (deeds_of c n es) (opened_within c d p x older went.at went.is_open) within) went.sent
  where
    m : Message
    m = request_message y went.wanted went.wanted.target went.rest

    go : (at : Transcript) → Within at (deeds_of c n es) → SentIn at d (Outside i) m → ⊥
    go [] inside sent = absurd sent
    go (e ∷ before) inside sent =
        by_deed c n downs d real i m tt e (Each-within (HasCause c n) (deeds_of c n es) (run_has c n es s run (requests_are_single c codec n net es s run)) e before inside).0
        (in_at (record { to = Outside i; message = m }) (outputs_at d e) sent)
