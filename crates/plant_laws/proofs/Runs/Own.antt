-- Each topology that was loaded, and so each that is pinned, is of its element's own domain.
use Rattle.std.proofs.Common.{◌≡◌, ℕ, Bool, true, false, cond, List, [], ◌∷◌, ◌++◌, sym, ◌∙◌, subst, inl, inr, refl}
use Rattle.plant_model.specs.Types.{As, NetworkParts}
use Rattle.disclosure.specs.Shown.{open_of}
use Rattle.plant_text.specs.Names.{same_as, parent_as}
use Rattle.plant_model.specs.Wire.{Codec}
use Rattle.plant_model.specs.State.{Loads, Pops, Takes, Says, Ups, Downs, Clears, Solves, Expires, Hands}
use Rattle.plant_model.specs.Deeds.{Going, element_of}
use Rattle.plant_model.specs.Plant.{Pin, Segment, Plant, PlantDeed, Happened, Entry, Run, deeds_of, ElementSolves, ParentSolves}
use Rattle.plant_laws.specs.Transcript.{Transcript, Within, loaded, pinned}
use Rattle.plant_laws.proofs.Runs.Acts.{Acts, rests, hears, carries, nods, hands, rises, falls, says, clears, expires}
use Rattle.plant_laws.proofs.Runs.Queues.{same_as_is}
use Rattle.plant_laws.proofs.Runs.Induction.{run_holds}

abbrev pub IsOwn : PlantDeed → Type 0
IsOwn (Loads at g) = g.own ≡ at
IsOwn _ = Unit {0}

abbrev pub AreOwn : Transcript → Type 0
AreOwn [] = Unit {0}
AreOwn (e ∷ es) = IsOwn e × AreOwn es

loaded_own : (d : As) (ds : Transcript) → AreOwn ds → (loaded d ds).own ≡ d
loaded_own d [] h = refl
loaded_own d (Loads at g ∷ older) h = go (same_as at d) refl (loaded_own d older h.1)
  where
    go : (b : Bool) → same_as at d ≡ b → (loaded d older).own ≡ d → (cond b g (loaded d older)).own ≡ d
    go true is more = h.0 ∙ same_as_is at d is
    go false is more = more
loaded_own d (Solves at k os keys ∷ older) h = loaded_own d older h.1
loaded_own d (Pops a b ∷ older) h = loaded_own d older h.1
loaded_own d (Takes at from m os ∷ older) h = loaded_own d older h.1
loaded_own d (Says at o ∷ older) h = loaded_own d older h.1
loaded_own d (Ups at p ∷ older) h = loaded_own d older h.1
loaded_own d (Downs at p os ∷ older) h = loaded_own d older h.1
loaded_own d (Clears a b ∷ older) h = loaded_own d older h.1
loaded_own d (Expires now ∷ older) h = loaded_own d older h.1
loaded_own d (Hands i bytes ∷ older) h = loaded_own d older h.1

pinned_own : (d : As) (m : Transcript) → AreOwn m → (pinned d m).own ≡ d
pinned_own d [] h = refl
pinned_own d (e ∷ older) h = loaded_own d older h.1

own_within : (m now : Transcript) → Within m now → AreOwn now → AreOwn m
own_within m [] w h = subst AreOwn (sym w) h
own_within m (e ∷ older) (inl same) h = subst AreOwn (sym same) h
own_within m (e ∷ older) (inr w) h = own_within m older w h.1

module _ (c : Codec) (n : NetworkParts) where
  abbrev Own : Transcript → Plant → Type 0
  Own ds s = AreOwn ds

  own_pick : (ds : Transcript) (b : Bool) (g h : Going Pin Segment) → AreOwn (g.deeds ++ ds) → AreOwn (h.deeds ++ ds) → AreOwn ((cond b g h).deeds ++ ds)
  own_pick ds true g h x y = x
  own_pick ds false g h x y = y

  act_own : (ds : Transcript) (s t : Plant) (es : Transcript) → Own ds s → Acts Pin Segment c n open_of s es t → Own (es ++ ds) t
  act_own ds s t es h (rests s' t' same) = h
  act_own ds s t es h (hears i bytes m s' read) = own_pick ds (same_as (element_of n i) parent_as) _ _ (tt, h) (tt, h)
  act_own ds s t es h (carries a b bytes rest m s' u is read same) = own_pick ds (same_as b parent_as) _ _ (tt, (tt, h)) (tt, (tt, h))
  act_own ds s t es h (rises at p s') = own_pick ds (same_as at parent_as) _ _ (tt, h) (tt, h)
  act_own ds s t es h (falls at p s') = own_pick ds (same_as at parent_as) _ _ (tt, h) (tt, h)
  act_own ds s t es h _ = (tt, h)

  solve_own : (ds : Transcript) (s : Plant) (d : As) (k : ℕ) (h : Happened) → Own ds s → ElementSolves c n d k s h → Own (h.deeds ++ ds) h.state
  solve_own ds s d k h held x = subst (λ (z : Happened). AreOwn (z.deeds ++ ds)) (sym x.is) (tt, held)

  upper_own : (ds : Transcript) (s : Plant) (k : ℕ) (h : Happened) → Own ds s → ParentSolves c n k s h → Own (h.deeds ++ ds) h.state
  upper_own ds s k h held x = subst (λ (z : Happened). AreOwn (z.deeds ++ ds)) (sym x.is) (tt, held)

  pub run_owns : (es : List Entry) (s : Plant) → Run c n es s → (d : As) (m : Transcript) → Within m (deeds_of c n es) → (pinned d m).own ≡ d
  run_owns es s run d m w =
      pinned_own d m (own_within m (deeds_of c n es) w (run_holds c n Own tt act_own (λ ds s' d' g given h. (given.0, h)) solve_own upper_own es s run))
