-- In every run, where a session of an element goes down, each request that is lost was sent on, in the moment that opened it.
use Rattle.std.proofs.Common.{◌≡◌, true, false, List, [], ◌∷◌, sym, ◌∙◌, subst, inl, inr}
use Rattle.plant_model.specs.Types.{NetworkParts}
use Rattle.plant_text.specs.Names.{same_as, parent_as}
use Rattle.plant_model.specs.Wire.{Codec}
use Rattle.plant_model.specs.Element.{Row}
use Rattle.plant_model.specs.State.{Downs}
use Rattle.plant_model.specs.Plant.{Pin, Plant, PlantDeed, Entry, Run, deeds_of}
use Rattle.plant_laws.specs.Causes.{IsLost, AnswersLost, asker_of}
use Rattle.plant_laws.specs.Transcript.{Transcript, Within}
use Rattle.plant_laws.proofs.Once.Opened.{AreSingle, single_deed}
use Rattle.plant_laws.proofs.Once.DeedByDeed.{Does, takes_above, takes_below, downs_above, downs_below, ups_above, ups_below, solves_above, solves_below, pops, hands_out, says_own, clears_link, expires_at, loads_rows, run_singles}
use Rattle.plant_laws.proofs.Reasons.LostCauses.{lost_on}
use Rattle.plant_laws.proofs.Runs.Acts.{says}
use Rattle.plant_laws.proofs.Runs.Rows.{In}
use Rattle.plant_laws.proofs.Settled.Waits.{IsSentOn, Both, both_same, does_both, bare_both}

module _ (c : Codec) (n : NetworkParts) where
  -- what an element says where a session of it goes down is about rows that were sent on
  abbrev pub IsFallen : PlantDeed → Transcript → Type 0
  IsFallen (Downs at q os) older = same_as at parent_as ≡ false → (rows : List (Row Pin)) × AnswersLost (IsLost q) asker_of rows os × ((h : Row Pin) → In h rows → IsSentOn c n older at h)
  IsFallen e older = Unit {0}

  abbrev pub AreFallen : Transcript → Type 0
  AreFallen [] = Unit {0}
  AreFallen (e ∷ ds) = IsFallen e ds × AreFallen ds

  pub fallen_within : (now : Transcript) → AreFallen now → (e : PlantDeed) (older : Transcript) → Within (e ∷ older) now → IsFallen e older
  fallen_within [] all e older within = absurd (let out : e ∷ older ≡ [] = within in cc)
  fallen_within (f ∷ ds) all e older (inl is) =
      let both : AreFallen (e ∷ older) = subst AreFallen (sym is) all in
      both.0
  fallen_within (f ∷ ds) all e older (inr within) = fallen_within ds all.1 e older within

  does_fallen : (s t : Plant) (ds : Transcript) (e : PlantDeed) → Does c n s e t → single_deed e → Both c n ds s → IsFallen e ds
  does_fallen s t ds e (downs_above at p s' up) one both = λ low. absurd (let clash : true ≡ false = sym up ∙ low in cc)
  does_fallen s t ds e (downs_below at p s' low) one both = λ low'. ((s.elements at).pending.rows, lost_on p (s.elements at).pending.rows, λ h i. both.1.0 at h i)
  does_fallen s t ds e _ one both = tt

  abbrev All : Transcript → Plant → Type 0
  All ds s = Both c n ds s × AreFallen ds

  pub run_fallen : (es : List Entry) (s : Plant) → Run c n es s → AreSingle (deeds_of c n es) → AreFallen (deeds_of c n es)
  run_fallen es s run single =
      (run_singles c n All (λ ds s t elements above current all. (both_same c n ds s t elements above current all.0, all.1))
      (λ ds s t e does one all. (does_both c n ds s t e does one all.0, (does_fallen s t ds e does one all.0, all.1))) (λ z. (bare_both c n z, tt)) es s run single).1
