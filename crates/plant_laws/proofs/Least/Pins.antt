-- The current pin of an element is that of the topology last loaded.
use Rattle.std.proofs.Common.{◌≡◌, ℕ, suc, Bool, true, false, cond, List, [], ◌∷◌, ◌++◌, sym, ◌∙◌, ap, subst, refl}
use Rattle.plant_model.specs.Types.{As, Peer, Outside, Inner, Message, NetworkParts}
use Rattle.te_links.specs.Rows.{Rows}
use Rattle.plant_model.specs.declared.output.Output.{Output}
use Rattle.plant_text.specs.Names.{same_as, parent_as}
use Rattle.plant_model.specs.Wire.{Bytes, Codec}
use Rattle.disclosure.specs.Shown.{open_of}
use Rattle.plant_model.specs.Element.{upped, downed}
use Rattle.plant_model.specs.Taking.{take}
use Rattle.plant_model.specs.Solving.{commit, job_found}
use Rattle.plant_model.specs.Parent as parent
use Rattle.plant_text.specs.Settings.{class_of}
use Rattle.plant_model.specs.Settings.{place, family}
use Rattle.plant_model.specs.State.{State, Loads, Pops, Takes, Ups, Downs, Solves}
use Rattle.plant_model.specs.Deeds.{Going, element_of, own_message, with_parent, with_element, put, put_to, puts, give, rise, fall}
use Rattle.plant_model.specs.Plant.{Pin, Segment, Plant, Happened, Entry, Run, deeds_of, load_new, ElementSolves, ParentSolves}
use Rattle.plant_laws.specs.Transcript.{Transcript, loaded, loads}
use Rattle.plant_laws.proofs.Runs.Acts.{Acts, rests, hears, carries, nods, hands, rises, falls, says, clears, expires}
use Rattle.plant_laws.specs.Standing.{PinsAreCurrent}
use Rattle.plant_laws.proofs.Runs.Induction.{run_holds}
use Rattle.plant_laws.proofs.Runs.Queues.{same_as_is}

module _ (c : Codec) (n : NetworkParts) where
  abbrev Core : Type 0
  Core = State Pin Segment

  put_current : (at : As) (bytes : Bytes) (s : Core) (to : Peer) → (put_to Pin Segment c n open_of at bytes s to).current ≡ s.current
  put_current at bytes s (Outside i) = refl
  put_current at bytes s (Inner b) = refl

  pub puts_current : (at : As) (os : List Output) (s : Core) → (puts Pin Segment c n open_of at os s).current ≡ s.current
  puts_current at [] s = refl
  puts_current at (o ∷ os) s = puts_current at os (put Pin Segment c n open_of at o s) ∙ put_current at (c.text o.message) s o.to

  -- pins and loads are as before
  pub record Leaves (s : Core) (g : Going Pin Segment) : Type 0 where
    pub current : g.state.current ≡ s.current
    pub loaded' : (d : As) (ds : Transcript) → loaded d (g.deeds ++ ds) ≡ loaded d ds
    pub loads' : (d : As) (ds : Transcript) → loads d (g.deeds ++ ds) ≡ loads d ds

  leaves_pick : (s : Core) (b : Bool) (g h : Going Pin Segment) → Leaves s g → Leaves s h → Leaves s (cond b g h)
  leaves_pick s true g h x y = x
  leaves_pick s false g h x y = y

  give_leaves : (at : As) (p : Peer) (m : Message) (s : Core) (es : Transcript) → ((d : As) (ds : Transcript) → loaded d (es ++ ds) ≡ loaded d ds) → ((d : As) (ds : Transcript) → loads d (es ++ ds) ≡ loads d ds) →
      Leaves s (give Pin Segment c n open_of at p m (record { state = s; deeds = es }))
  give_leaves at p m s es before count =
      let r = parent.take c (family n) p m s.parent in
      let t = take c open_of (place n at) (s.current at) p (class_of n p) s.clock m (s.elements at) in
      let u = with_parent Pin Segment c n open_of r.parent s in
      let v = with_element Pin Segment c n open_of at t.element s in
      leaves_pick s (same_as at parent_as)
      (record { state = puts Pin Segment c n open_of at r.outputs u; deeds = Takes at p m r.outputs ∷ es })
      (record { state = puts Pin Segment c n open_of at t.outputs v; deeds = Takes at p m t.outputs ∷ es })
      (record { current = puts_current at r.outputs u; loaded' = λ d ds. before d ds; loads' = λ d ds. count d ds })
      (record { current = puts_current at t.outputs v; loaded' = λ d ds. before d ds; loads' = λ d ds. count d ds })

  fall_leaves : (at : As) (p : Peer) (s : Core) → Leaves s (fall Pin Segment c n open_of at p (record { state = s; deeds = [] }))
  fall_leaves at p s =
      let r = parent.downed p s.parent in
      let t = downed p (s.elements at) in
      let u = with_parent Pin Segment c n open_of r.parent s in
      let v = with_element Pin Segment c n open_of at t.element s in
      leaves_pick s (same_as at parent_as)
      (record { state = puts Pin Segment c n open_of at r.outputs u; deeds = Downs at p r.outputs ∷ [] })
      (record { state = puts Pin Segment c n open_of at t.outputs v; deeds = Downs at p t.outputs ∷ [] })
      (record { current = puts_current at r.outputs u; loaded' = λ d ds. refl; loads' = λ d ds. refl })
      (record { current = puts_current at t.outputs v; loaded' = λ d ds. refl; loads' = λ d ds. refl })

  rise_leaves : (at : As) (p : Peer) (s : Core) → Leaves s (rise Pin Segment c n open_of at p (record { state = s; deeds = [] }))
  rise_leaves at p s =
      leaves_pick s (same_as at parent_as)
      (record { state = with_parent Pin Segment c n open_of (parent.upped p s.parent) s; deeds = Ups at p ∷ [] })
      (record { state = with_element Pin Segment c n open_of at (upped p (s.elements at)) s; deeds = Ups at p ∷ [] })
      (record { current = refl; loaded' = λ d ds. refl; loads' = λ d ds. refl })
      (record { current = refl; loaded' = λ d ds. refl; loads' = λ d ds. refl })

  act_leaves : (s t : Core) (es : Transcript) → Acts Pin Segment c n open_of s es t → Leaves s (record { state = t; deeds = es })
  act_leaves s t es (rests s' t' same) = record { current = same.current; loaded' = λ d ds. refl; loads' = λ d ds. refl }
  act_leaves s t es (hears i bytes m s' read) = give_leaves (element_of n i) (Outside i) m s [] (λ d ds. refl) (λ d ds. refl)
  act_leaves s t es (carries a b bytes rest m s' u is read same) =
      let g = give_leaves b (Inner a) m u (Pops a b ∷ []) (λ d ds. refl) (λ d ds. refl) in
      record { current = g.current ∙ same.current; loaded' = g.loaded'; loads' = g.loads' }
  act_leaves s t es (hands i bytes s' t' same) = record { current = same.current; loaded' = λ d ds. refl; loads' = λ d ds. refl }
  act_leaves s t es (rises at p s') = rise_leaves at p s
  act_leaves s t es (falls at p s') = fall_leaves at p s
  act_leaves s t es (says at p o s') = record { current = puts_current at (record { to = p; message = own_message o } ∷ []) s; loaded' = λ d ds. refl; loads' = λ d ds. refl }
  act_leaves s t es _ = record { current = refl; loaded' = λ d ds. refl; loads' = λ d ds. refl }

  pub record Current (ds : Transcript) (s : Plant) : Type 0 where
    pub number : (d : As) → (s.current d).number ≡ loads d ds
    pub topology : (d : As) → (s.current d).topology ≡ loaded d ds

  left_current : (ds es : Transcript) (s t : Core) → Current ds s → Leaves s (record { state = t; deeds = es }) → Current (es ++ ds) t
  left_current ds es s t held leaves = record {
    number = λ d. ap (λ (f : As → Pin). (f d).number) leaves.current ∙ held.number d ∙ sym (leaves.loads' d ds);
    topology = λ d. ap (λ (f : As → Pin). (f d).topology) leaves.current ∙ held.topology d ∙ sym (leaves.loaded' d ds);
  }

  load_current : (ds : Transcript) (s : Plant) (d : As) (g : Rows) → Current ds s → Current (Loads d g ∷ ds) (load_new c n d g s).state
  load_current ds s d g held = record { number = λ d'. number d' (same_as d d') refl; topology = λ d'. topology d' (same_as d d') }
    where
      number : (d' : As) (b : Bool) → same_as d d' ≡ b → (cond b (record { number = suc (s.current d).number; topology = g }) (s.current d')).number ≡ cond b (suc (loads d' ds)) (loads d' ds)
      number d' true is = ap suc (ap (λ (z : As). (s.current z).number) (same_as_is d d' is) ∙ held.number d')
      number d' false is = held.number d'

      topology : (d' : As) (b : Bool) → (cond b (record { number = suc (s.current d).number; topology = g }) (s.current d')).topology ≡ cond b g (loaded d' ds)
      topology d' true = refl
      topology d' false = held.topology d'

  solve_current : (ds : Transcript) (s : Plant) (d : As) (k : ℕ) (h : Happened) → Current ds s → ElementSolves c n d k s h → Current (h.deeds ++ ds) h.state
  solve_current ds s d k h held x =
      let r = commit c (place n d) (k, x.held) x.down s.clock (λ b. b.segment) (job_found x.rows.source_known x.rows.target_known x.rows.best) (s.elements d) in
      let v = with_element Pin Segment c n open_of d r.element s in
      subst (λ (h' : Happened). Current (h'.deeds ++ ds) h'.state) (sym x.is)
      (left_current ds (Solves d k r.outputs r.element.keys.issued ∷ []) s (puts Pin Segment c n open_of d r.outputs v) held
      (record { current = puts_current d r.outputs v; loaded' = λ d ds. refl; loads' = λ d ds. refl }))

  upper_current : (ds : Transcript) (s : Plant) (k : ℕ) (h : Happened) → Current ds s → ParentSolves c n k s h → Current (h.deeds ++ ds) h.state
  upper_current ds s k h held x =
      let r = parent.commit c (k, x.held) x.answer s.parent in
      let v = with_parent Pin Segment c n open_of r.parent s in
      subst (λ (h' : Happened). Current (h'.deeds ++ ds) h'.state) (sym x.is)
      (left_current ds (Solves parent_as k r.outputs [] ∷ []) s (puts Pin Segment c n open_of parent_as r.outputs v) held
      (record { current = puts_current parent_as r.outputs v; loaded' = λ d ds. refl; loads' = λ d ds. refl }))

  pub run_current : (es : List Entry) (s : Plant) → Run c n es s → Current (deeds_of c n es) s
  run_current = run_holds c n Current (record { number = λ d. refl; topology = λ d. refl })
      (λ ds s t es held act. left_current ds es s t held (act_leaves s t es act))
      (λ ds s d g given held. load_current ds s d g held) solve_current upper_current

pub pins_are_current : PinsAreCurrent
pins_are_current c n es s run = let h = run_current c n es s run in record { number = h.number; topology = h.topology }
