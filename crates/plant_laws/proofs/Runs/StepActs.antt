-- A step is done in acts, so what acts keep, steps keep.
use Rattle.std.proofs.Common.{[], ◌∷◌, ◌++◌, sym, subst}
use Rattle.disclosure.specs.Shown.{open_of}
use Rattle.plant_model.specs.Types.{NetworkParts, Outside, Inner}
use Rattle.plant_model.specs.Wire.{Bytes, Codec}
use Rattle.plant_text.specs.Settings.{Adjacency, adjacency}
use Rattle.plant_model.specs.State.{Pops}
use Rattle.plant_model.specs.Deeds.{element_of, fall, clear}
use Rattle.plant_model.specs.Plant.{Pin, Segment}
use Rattle.plant_laws.specs.Transcript.{Transcript}
use Rattle.plant_laws.proofs.Runs.Acts.{Acts, Goes, stands, goes_on}
use Rattle.plant_laws.proofs.Runs.Acts as acts
use Rattle.plant_laws.proofs.Runs.Decompose.{nil_right, append_assoc, fall_framed}
use Rattle.plant_laws.proofs.Runs.Trips.{Core, Move, at_start, after_pop, with_rest, broken, Step, rests, hears, carries, keeps, hands, rises, shuts, says, expires, breaks, drops}

module _ (c : Codec) (n : NetworkParts) (R : Bytes → Type 0) where
  abbrev pub Gone : Core → Transcript → Core → Type 0
  Gone s es t = Goes Pin Segment c n open_of s es t

  one : (s t : Core) (es : Transcript) → Acts Pin Segment c n open_of s es t → Gone s es t
  one s t es act = subst (λ (l : Transcript). Gone s l t) (nil_right es) (goes_on s s t [] es (stands s) act)

  broken_goes : (x : Adjacency) (s : Core) (g : Move) → Gone s g.deeds g.state → Gone s (broken c n x g).deeds (broken c n x g).state
  broken_goes x s g r =
      let f = fall Pin Segment c n open_of x.lower (Inner x.upper) (at_start g.state) in
      let f' = fall Pin Segment c n open_of x.lower (Inner x.upper) g in
      let r' : Gone s f'.deeds f'.state = subst (λ (k : Move). Gone s k.deeds k.state) (sym (fall_framed Pin Segment c n open_of x.lower (Inner x.upper) g.state g.deeds)) (goes_on s g.state f.state g.deeds f.deeds r (acts.falls x.lower (Inner x.upper) g.state)) in
      let h = fall Pin Segment c n open_of x.upper (Inner x.lower) (at_start f'.state) in
      let h' = fall Pin Segment c n open_of x.upper (Inner x.lower) f' in
      let r'' : Gone s h'.deeds h'.state = subst (λ (k : Move). Gone s k.deeds k.state) (sym (fall_framed Pin Segment c n open_of x.upper (Inner x.lower) f'.state f'.deeds)) (goes_on s f'.state h.state f'.deeds h.deeds r' (acts.falls x.upper (Inner x.lower) f'.state)) in
      let k = clear Pin Segment c n open_of x (at_start h'.state) in
      goes_on s h'.state k.state h'.deeds k.deeds r'' (acts.clears x h'.state)

  pub step_goes : (s t : Core) (es : Transcript) → Step c n R s es t → Gone s es t
  step_goes s t es (rests s' t' same) = one s t es (acts.rests s t same)
  step_goes s t es (hears i bytes m s' read known) = one s t es (acts.hears i bytes m s read)
  step_goes s t es (carries a b bytes rest m s' u is read same) = one s t es (acts.carries a b bytes rest m s u is read same)
  step_goes s t es (keeps a b bytes rest m s' is read kept) = one s t es (acts.nods a b bytes rest s is)
  step_goes s t es (hands i bytes s' t' same) = one s t es (acts.hands i bytes s t same)
  step_goes s t es (rises at p s') = one s t es (acts.rises at p s)
  step_goes s t es (shuts i s') = one s t es (acts.falls (element_of n i) (Outside i) s)
  step_goes s t es (says at p o s') = one s t es (acts.says at p o s)
  step_goes s t es (expires now s') = one s t es (acts.expires now s)
  step_goes s t es (breaks x s') = broken_goes x s (at_start s) (stands s)
  step_goes s t es (drops a b bytes rest s' is) = broken_goes (adjacency a b) s (after_pop a b (with_rest a b rest s)) (one s (with_rest a b rest s) (Pops a b ∷ []) (acts.nods a b bytes rest s is))

  module _ (I : Transcript → Core → Type 0) (act_holds : (ds : Transcript) (s t : Core) (es : Transcript) → I ds s → Acts Pin Segment c n open_of s es t → I (es ++ ds) t) where
    goes_hold : (ds : Transcript) (s t : Core) (es : Transcript) → Gone s es t → I ds s → I (es ++ ds) t
    goes_hold ds s t es (stands s') h = h
    goes_hold ds s u es (goes_on s' t u' fs gs r a) h =
        subst (λ (l : Transcript). I l u) (sym (append_assoc gs fs ds)) (act_holds (fs ++ ds) t u gs (goes_hold ds s t fs r h) a)

    pub step_holds : (ds : Transcript) (s t : Core) (es : Transcript) → I ds s → Step c n R s es t → I (es ++ ds) t
    step_holds ds s t es h step = goes_hold ds s t es (step_goes s t es step) h
