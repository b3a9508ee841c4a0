-- In every moment of a run a deed has its cause, in the state that its event met.
use Rattle.std.proofs.Common.{◌≡◌, Bool, true, false, cond, List, [], ◌∷◌, ◌++◌, Ok, Err, sym, ap, subst, inl, inr, refl}
use Rattle.std.specs.Prelude.{◌⊎◌}
use Rattle.plant_model.specs.Types.{As, NetworkParts}
use Rattle.pcep_session.specs.declared.actions.Own.TheVariants as own
use Rattle.plant_text.specs.Names.{same_as}
use Rattle.plant_text.specs.Settings.{Adjacency, adjacencies}
use Rattle.plant_model.specs.declared.event.Event.{Event}
use Rattle.plant_model.specs.declared.output.Output.{Output}
use Rattle.plant_model.specs.Wire.{Codec}
use Rattle.plant_model.specs.State.{Loads, Pops, Takes, Says, Ups, Downs, Clears, Solves, Expires, Hands}
use Rattle.plant_model.specs.Deeds.{our_offer, own_message}
use Rattle.plant_model.specs.Events as events
use Rattle.plant_model.specs.Blind.{is_accepted}
use Rattle.plant_model.specs.Plant.{Plant, PlantDeed, Happened, Entry, Run, deeds_of, opened}
use Rattle.plant_laws.specs.About.{IsShort}
use Rattle.plant_laws.specs.Causes.{HasCause, HaveCauses, an_open, opens_of}
use Rattle.plant_laws.specs.Met.{Meets}
use Rattle.plant_laws.specs.Transcript.{Transcript, Within}
use Rattle.plant_laws.proofs.Reasons.AllCauses.{messages_have_causes, networks_begin}
use Rattle.plant_laws.proofs.WrittenForm.EveryWritten.{short_before}
use Rattle.plant_laws.proofs.Once.Handing.{In}
use Rattle.plant_laws.proofs.Runs.Queues.{same_as_is}
use Rattle.plant_laws.proofs.Runs.Refused.{refused_same}

-- ---- moments of a run

-- the cause of a deed, in the state that its event met
pub record HasOne (c : Codec) (n : NetworkParts) (deed : PlantDeed) (older : Transcript) : Type 0 where
  pub entries : List Entry
  pub before : Plant
  pub run : Run c n entries before
  pub short : IsShort (deeds_of c n entries)
  pub event : Event
  pub earlier : Transcript
  pub is_then : older ≡ earlier ++ deeds_of c n entries
  pub cause : HasCause c n before event earlier deed
  -- what the event did before has its causes too
  pub causes : HaveCauses c n before event earlier

-- what stands before the first event
abbrev pub IsOpening : PlantDeed → Type 0
IsOpening (Says at o) = o.message ≡ own_message (own.Open (our_offer 0))
IsOpening e = ⊥

abbrev AreOpens : Transcript → Type 0
AreOpens [] = Unit {0}
AreOpens (Says at o ∷ earlier) = (o.message ≡ own_message (own.Open (our_offer 0))) × AreOpens earlier
AreOpens (e ∷ earlier) = ⊥

opens_are : (xs : List Adjacency) (ds : Transcript) → AreOpens ds → AreOpens (opens_of xs ds)
opens_are [] ds opens = opens
opens_are (x ∷ xs) ds opens = opens_are xs (an_open x.upper x.lower ∷ an_open x.lower x.upper ∷ ds) (refl, (refl, opens))

opens_within : (ds : Transcript) (deed : PlantDeed) (older : Transcript) → AreOpens ds → Within (deed ∷ older) ds → IsOpening deed
opens_within [] deed older opens within = absurd (let out : deed ∷ older ≡ [] = within in cc)
opens_within (Says at o ∷ ds) deed older opens (inl is) = (let same : deed ≡ Says at o = cc in subst IsOpening (sym same) opens.0)
opens_within (Says at o ∷ ds) deed older opens (inr within) = opens_within ds deed older opens.1 within
opens_within (Loads at g ∷ ds) deed older opens within = absurd opens
opens_within (Pops a b ∷ ds) deed older opens within = absurd opens
opens_within (Takes at p m os ∷ ds) deed older opens within = absurd opens
opens_within (Ups at p ∷ ds) deed older opens within = absurd opens
opens_within (Downs at p os ∷ ds) deed older opens within = absurd opens
opens_within (Clears a b ∷ ds) deed older opens within = absurd opens
opens_within (Solves at k os keys ∷ ds) deed older opens within = absurd opens
opens_within (Expires now ∷ ds) deed older opens within = absurd opens
opens_within (Hands i bytes ∷ ds) deed older opens within = absurd opens

cause_within : (c : Codec) (n : NetworkParts) (before : Plant) (e : Event) (ds rest : Transcript) (deed : PlantDeed) (older : Transcript) → HaveCauses c n before e ds → Within (deed ∷ older) (ds ++ rest) →
    ((earlier : Transcript) × (older ≡ earlier ++ rest) × HasCause c n before e earlier deed × HaveCauses c n before e earlier × Within (deed ∷ earlier) ds) ⊎ Within (deed ∷ older) rest
cause_within c n before e [] rest deed older have within = inr within
cause_within c n before e (x ∷ ds) rest deed older have (inl is) =
    let heads : deed ≡ x = cc in
    let tails : older ≡ ds ++ rest = cc in
    inl (ds, tails, subst (HasCause c n before e ds) (sym heads) have.0, have.1, inl (ap (λ (z : PlantDeed). z ∷ ds) heads))
cause_within c n before e (x ∷ ds) rest deed older have (inr within) = elim (cause_within c n before e ds rest deed older have.1 within) [
  | inl one ↦ inl (one.0, one.1, one.2, one.3, inr one.4)
  | inr more ↦ inr more
]

-- with the state that the event met in the run
abbrev pub CausedIn : (c : Codec) (n : NetworkParts) (es : List Entry) (s : Plant) → Run c n es s → PlantDeed → Transcript → Type 0
CausedIn c n es s run deed older = (one : HasOne c n deed older) × Meets c n es s run deed older one.before

pub moment_met : (c : Codec) (n : NetworkParts) (es : List Entry) (s : Plant) (run : Run c n es s) → IsShort (deeds_of c n es) → (deed : PlantDeed) (older : Transcript) → Within (deed ∷ older) (deeds_of c n es) →
    CausedIn c n es s run deed older ⊎ IsOpening deed
moment_met c n [] s run short deed older within = inr (opens_within (opened c n).deeds deed older (subst AreOpens (sym (networks_begin c n)) (opens_are (adjacencies n) [] tt)) within)
moment_met c n (e ∷ es) s run short deed older within = go e.answer refl (λ within'. further (moment_met c n es run.0 run.1 (short_before e.deeds (deeds_of c n es) short) deed older within'))
  where
    h : Happened
    h = record { answer = e.answer; state = s; deeds = e.deeds }

    further : CausedIn c n es run.0 run.1 deed older ⊎ IsOpening deed → CausedIn c n (e ∷ es) s run deed older ⊎ IsOpening deed
    further (inl got) = inl (got.0, inr got.1)
    further (inr opening) = inr opening

    go : (a : events.Answered) → e.answer ≡ a → (Within (deed ∷ older) (deeds_of c n es) → CausedIn c n (e ∷ es) s run deed older ⊎ IsOpening deed) → CausedIn c n (e ∷ es) s run deed older ⊎ IsOpening deed
    go (Ok o) ok before' = elim (cause_within c n run.0 e.event e.deeds (deeds_of c n es) deed older (messages_have_causes c n es run.0 run.1 e.event h run.3 o ok).0 within) [
      | inl one ↦ inl (
        record { entries = es; before = run.0; run = run.1; short = short_before e.deeds (deeds_of c n es) short; event = e.event; earlier = one.0; is_then = one.1; cause = one.2; causes = one.3 },
        inl (one.0, one.4, one.1, refl),
      )
      | inr more ↦ before' more
    ]
    go (Err why) refused before' =
        let none : e.deeds ≡ [] = (refused_same c n run.0 e.event h run.3 (ap is_accepted refused)).deeds in
        before' (subst (λ (ds : Transcript). Within (deed ∷ older) (ds ++ deeds_of c n es)) none within)

pub moment_cause : (c : Codec) (n : NetworkParts) (es : List Entry) (s : Plant) → Run c n es s → IsShort (deeds_of c n es) → (deed : PlantDeed) (older : Transcript) → Within (deed ∷ older) (deeds_of c n es) →
    HasOne c n deed older ⊎ IsOpening deed
moment_cause c n es s run short deed older within = elim (moment_met c n es s run short deed older within) [
  | inl got ↦ inl got.0
  | inr opening ↦ inr opening
]

-- ---- parts of a deed

abbrev pub outs : PlantDeed → List Output
outs (Solves at k os keys) = os
outs e = []

abbrev pub solver : As → PlantDeed → As
solver d (Solves at k os keys) = at
solver d e = d

abbrev pub head_of : PlantDeed → Transcript → PlantDeed
head_of e [] = e
head_of e (x ∷ ds) = x

pub in_two : (out : Output) (xs ys : List Output) → In out (xs ++ ys) → In out xs ⊎ In out ys
in_two out [] ys i = inr i
in_two out (x ∷ xs) ys (inl is) = inl (inl is)
in_two out (x ∷ xs) ys (inr more) = elim (in_two out xs ys more) [ inl first ↦ inl (inr first) | inr second ↦ inr second ]

-- what is said at an element is said there
pub at_here : (d : As) (out : Output) (at : As) (os : List Output) → In out (cond (same_as at d) os []) → (at ≡ d) × In out os
at_here d out at os i = go (same_as at d) refl i
  where
    go : (b : Bool) → same_as at d ≡ b → In out (cond b os []) → (at ≡ d) × In out os
    go true is i' = (same_as_is at d is, i')
    go false is i' = absurd i'
