-- What each deed keeps holds of every run; or of every run whose messages of requests have one each.
use Rattle.std.proofs.Common.{◌≡◌, ℕ, Bool, true, false, cond, List, [], ◌∷◌, ◌++◌, sym, subst, refl}
use Rattle.plant_model.specs.Types.{As, Peer, Outside, Inner, Message, Own, NetworkParts}
use Rattle.te_links.specs.Rows.{Rows}
use Rattle.disclosure.specs.Shown.{open_of}
use Rattle.plant_model.specs.declared.output.Output.{Output}
use Rattle.plant_text.specs.Names.{same_as, parent_as}
use Rattle.plant_text.specs.Settings.{Adjacency, class_of}
use Rattle.plant_model.specs.Wire.{Bytes, Codec}
use Rattle.plant_model.specs.Element.{Element, Taken, upped, downed}
use Rattle.plant_model.specs.Taking.{take}
use Rattle.plant_model.specs.Solving.{commit, job_found}
use Rattle.plant_model.specs.Outside.{heeded}
use Rattle.plant_model.specs.Parent as parent
use Rattle.plant_model.specs.Settings.{place, family}
use Rattle.plant_model.specs.State.{State, Loads, Pops, Takes, Says, Ups, Downs, Clears, Solves, Expires, Hands}
use Rattle.plant_model.specs.Deeds.{Going, element_of, own_message, with_parent, with_element, puts, give, rise, fall, clear, expire}
use Rattle.plant_model.specs.Events as events
use Rattle.plant_model.specs.Plant.{first_pin, Pin, Segment, Plant, PlantDeed, Happened, Entry, Run, deeds_of, load_new, ElementSolves, ParentSolves}
use Rattle.plant_laws.specs.Transcript.{Transcript}
use Rattle.plant_laws.proofs.Runs.Acts.{popped, Acts, rests, hears, carries, nods, hands, rises, falls, says, clears, expires}
use Rattle.plant_laws.proofs.Runs.Induction.{run_holds}
use Rattle.plant_laws.proofs.Once.Opened.{AreSingle, single_deed}

module _ (c : Codec) (n : NetworkParts) where
  abbrev pub Core : Type 0
  Core = State Pin Segment

  abbrev pub put_above : As → List Output → parent.Parent → Core → Core
  put_above at os k s = puts Pin Segment c n open_of at os (with_parent Pin Segment c n open_of k s)

  abbrev pub put_below : As → List Output → Element Pin Segment → Core → Core
  put_below at os k s = puts Pin Segment c n open_of at os (with_element Pin Segment c n open_of at k s)

  -- what an outside peer's message is to its element
  abbrev pub ComesAs : As → Peer → Message → Core → Type 0
  ComesAs at (Inner b) m s = Unit {0}
  ComesAs at (Outside i) m s = (raw : Message) × (m ≡ heeded c (Outside i) (s.elements at).pending.rows raw)

  -- what an element does where its job is answered
  abbrev solved_below : (d : As) (k : ℕ) (h : Happened) (s : Core) → ElementSolves c n d k s h → Taken Pin Segment
  solved_below d k h s x = commit c (place n d) (k, x.held) x.down s.clock (λ b. b.segment) (job_found x.rows.source_known x.rows.target_known x.rows.best) (s.elements d)

  -- one deed, between the state before it and the state after it
  pub data Does : Core → PlantDeed → Core → Type 0 where
    takes_above : (at : As) (p : Peer) (m : Message) (s : Core) → same_as at parent_as ≡ true →
        Does s (Takes at p m (parent.take c (family n) p m s.parent).outputs) (put_above at (parent.take c (family n) p m s.parent).outputs (parent.take c (family n) p m s.parent).parent s)
    takes_below : (at : As) (p : Peer) (m : Message) (s : Core) → same_as at parent_as ≡ false → ComesAs at p m s →
        Does s (Takes at p m (take c open_of (place n at) (s.current at) p (class_of n p) s.clock m (s.elements at)).outputs)
        (put_below at (take c open_of (place n at) (s.current at) p (class_of n p) s.clock m (s.elements at)).outputs (take c open_of (place n at) (s.current at) p (class_of n p) s.clock m (s.elements at)).element s)
    downs_above : (at : As) (p : Peer) (s : Core) → same_as at parent_as ≡ true → Does s (Downs at p (parent.downed p s.parent).outputs) (put_above at (parent.downed p s.parent).outputs (parent.downed p s.parent).parent s)
    downs_below : (at : As) (p : Peer) (s : Core) → same_as at parent_as ≡ false → Does s (Downs at p (downed p (s.elements at)).outputs) (put_below at (downed p (s.elements at)).outputs (downed p (s.elements at)).element s)
    ups_above : (at : As) (p : Peer) (s : Core) → same_as at parent_as ≡ true → Does s (Ups at p) (put_above at [] (parent.upped p s.parent) s)
    ups_below : (at : As) (p : Peer) (s : Core) → same_as at parent_as ≡ false → Does s (Ups at p) (put_below at [] (upped p (s.elements at)) s)
    solves_above : (k : ℕ) (h : Happened) (s : Core) (x : ParentSolves c n k s h) →
        Does s (Solves parent_as k (parent.commit c (k, x.held) x.answer s.parent).outputs []) (put_above parent_as (parent.commit c (k, x.held) x.answer s.parent).outputs (parent.commit c (k, x.held) x.answer s.parent).parent s)
    solves_below : (d : As) (k : ℕ) (h : Happened) (s : Core) (x : ElementSolves c n d k s h) →
        Does s (Solves d k (solved_below d k h s x).outputs (solved_below d k h s x).element.keys.issued) (put_below d (solved_below d k h s x).outputs (solved_below d k h s x).element s)
    pops : (a b : As) (rest : List Bytes) (s : Core) → Does s (Pops a b) (popped Pin Segment c n open_of a b rest s)
    hands_out : (i : ℕ) (bytes : Bytes) (s : Core) → Does s (Hands i bytes) s
    says_own : (at : As) (p : Peer) (o : Own) (s : Core) → Does s (Says at (record { to = p; message = own_message o })) (puts Pin Segment c n open_of at (record { to = p; message = own_message o } ∷ []) s)
    clears_link : (x : Adjacency) (s : Core) → Does s (Clears x.lower x.upper) (clear Pin Segment c n open_of x (record { state = s; deeds = [] })).state
    expires_at : (now : ℕ) (s : Core) → Does s (Expires now) (expire Pin Segment c n open_of now (record { state = s; deeds = [] })).state
    loads_rows : (d : As) (g : Rows) (s : Core) → Does s (Loads d g) (load_new c n d g s).state

  module _ (K : Transcript → Core → Type 0) where
    -- what asks nothing of sessions and queues
    abbrev pub IsOfCore : Type 0
    IsOfCore = (ds : Transcript) (s t : Core) → t.elements ≡ s.elements → t.parent ≡ s.parent → t.current ≡ s.current → K ds s → K ds t

    abbrev pub KeptByDeeds : Type 0
    KeptByDeeds = (ds : Transcript) (s t : Core) (e : PlantDeed) → Does s e t → K ds s → K (e ∷ ds) t

    pick : (ds : Transcript) (x : Bool) (g h : Going Pin Segment) → (x ≡ true → K (g.deeds ++ ds) g.state) → (x ≡ false → K (h.deeds ++ ds) h.state) → K ((cond x g h).deeds ++ ds) (cond x g h).state
    pick ds true g h up low = up refl
    pick ds false g h up low = low refl

    module _ (same : IsOfCore) (kept : KeptByDeeds) where
      give_keeps : (at : As) (p : Peer) (m : Message) (s : Core) (es ds : Transcript) → ComesAs at p m s → K (es ++ ds) s →
          (let g = give Pin Segment c n open_of at p m (record { state = s; deeds = es }) in K (g.deeds ++ ds) g.state)
      give_keeps at p m s es ds heard old =
          let r = parent.take c (family n) p m s.parent in
          let t = take c open_of (place n at) (s.current at) p (class_of n p) s.clock m (s.elements at) in
          let u = put_above at r.outputs r.parent s in
          let v = put_below at t.outputs t.element s in
          pick ds (same_as at parent_as)
          (record { state = u; deeds = Takes at p m r.outputs ∷ es })
          (record { state = v; deeds = Takes at p m t.outputs ∷ es })
          (λ up. kept (es ++ ds) s u (Takes at p m r.outputs) (takes_above at p m s up) old)
          (λ low. kept (es ++ ds) s v (Takes at p m t.outputs) (takes_below at p m s low heard) old)

      fall_keeps : (at : As) (p : Peer) (s : Core) (ds : Transcript) → K ds s → (let g = fall Pin Segment c n open_of at p (record { state = s; deeds = [] }) in K (g.deeds ++ ds) g.state)
      fall_keeps at p s ds old =
          let r = parent.downed p s.parent in
          let t = downed p (s.elements at) in
          let u = put_above at r.outputs r.parent s in
          let v = put_below at t.outputs t.element s in
          pick ds (same_as at parent_as)
          (record { state = u; deeds = Downs at p r.outputs ∷ [] })
          (record { state = v; deeds = Downs at p t.outputs ∷ [] })
          (λ up. kept ds s u (Downs at p r.outputs) (downs_above at p s up) old) (λ low. kept ds s v (Downs at p t.outputs) (downs_below at p s low) old)

      rise_keeps : (at : As) (p : Peer) (s : Core) (ds : Transcript) → K ds s → (let g = rise Pin Segment c n open_of at p (record { state = s; deeds = [] }) in K (g.deeds ++ ds) g.state)
      rise_keeps at p s ds old =
          let u = put_above at [] (parent.upped p s.parent) s in
          let v = put_below at [] (upped p (s.elements at)) s in
          pick ds (same_as at parent_as)
          (record { state = u; deeds = Ups at p ∷ [] })
          (record { state = v; deeds = Ups at p ∷ [] })
          (λ up. kept ds s u (Ups at p) (ups_above at p s up) old) (λ low. kept ds s v (Ups at p) (ups_below at p s low) old)

      pub act_keeps : (ds : Transcript) (s t : Core) (es : Transcript) → K ds s → Acts Pin Segment c n open_of s es t → K (es ++ ds) t
      act_keeps ds s t es old (rests s' t' is) = same ds s t is.elements is.parent is.current old
      act_keeps ds s t es old (hears i bytes m s' read) = give_keeps (element_of n i) (Outside i) m s [] ds (read.0, read.2) old
      act_keeps ds s t es old (carries a b bytes rest m s' u is read core) =
          let q = popped Pin Segment c n open_of a b rest s in
          give_keeps b (Inner a) m u (Pops a b ∷ []) ds tt (same (Pops a b ∷ ds) q u core.elements core.parent core.current (kept ds s q (Pops a b) (pops a b rest s) old))
      act_keeps ds s t es old (nods a b bytes rest s' is) = kept ds s t (Pops a b) (pops a b rest s) old
      act_keeps ds s t es old (hands i bytes s' t' is) = kept ds t t (Hands i bytes) (hands_out i bytes t) (same ds s t is.elements is.parent is.current old)
      act_keeps ds s t es old (rises at p s') = rise_keeps at p s ds old
      act_keeps ds s t es old (falls at p s') = fall_keeps at p s ds old
      act_keeps ds s t es old (says at p o s') = kept ds s t (Says at (record { to = p; message = own_message o })) (says_own at p o s) old
      act_keeps ds s t es old (clears x s') = kept ds s t (Clears x.lower x.upper) (clears_link x s) old
      act_keeps ds s t es old (expires now s') = kept ds s t (Expires now) (expires_at now s) old

      pub load_keeps : (ds : Transcript) (s : Plant) (d : As) (g : Rows) → K ds s → K (Loads d g ∷ ds) (load_new c n d g s).state
      load_keeps ds s d g old = kept ds s (load_new c n d g s).state (Loads d g) (loads_rows d g s) old

      pub solve_keeps : (ds : Transcript) (s : Plant) (d : As) (k : ℕ) (h : Happened) → K ds s → ElementSolves c n d k s h → K (h.deeds ++ ds) h.state
      solve_keeps ds s d k h old x =
          let r = commit c (place n d) (k, x.held) x.down s.clock (λ b. b.segment) (job_found x.rows.source_known x.rows.target_known x.rows.best) (s.elements d) in
          subst (λ (h' : Happened). K (h'.deeds ++ ds) h'.state) (sym x.is) (kept ds s (put_below d r.outputs r.element s) (Solves d k r.outputs r.element.keys.issued) (solves_below d k h s x) old)

      pub upper_keeps : (ds : Transcript) (s : Plant) (k : ℕ) (h : Happened) → K ds s → ParentSolves c n k s h → K (h.deeds ++ ds) h.state
      upper_keeps ds s k h old x =
          let r = parent.commit c (k, x.held) x.answer s.parent in
          subst (λ (h' : Happened). K (h'.deeds ++ ds) h'.state) (sym x.is) (kept ds s (put_above parent_as r.outputs r.parent s) (Solves parent_as k r.outputs []) (solves_above k h s x) old)

      pub run_keeps : K [] (events.bare Pin Segment c n open_of first_pin) → (es : List Entry) (s : Plant) → Run c n es s → K (deeds_of c n es) s
      run_keeps bare = run_holds c n K bare act_keeps (λ ds s d g given old. load_keeps ds s d g old) solve_keeps upper_keeps

    -- ---- where each message of requests that was taken had one

    abbrev pub If : Transcript → Core → Type 0
    If ds s = AreSingle ds → K ds s

    abbrev pub KeptBySingles : Type 0
    KeptBySingles = (ds : Transcript) (s t : Core) (e : PlantDeed) → Does s e t → single_deed e → K ds s → K (e ∷ ds) t

    pub if_same : IsOfCore → (ds : Transcript) (s t : Core) → t.elements ≡ s.elements → t.parent ≡ s.parent → t.current ≡ s.current → If ds s → If ds t
    if_same same ds s t elements above current held single = same ds s t elements above current (held single)

    pub if_kept : KeptBySingles → (ds : Transcript) (s t : Core) (e : PlantDeed) → Does s e t → If ds s → If (e ∷ ds) t
    if_kept kept ds s t e does held single = kept ds s t e does single.0 (held single.1)

  pub run_singles : (K : Transcript → Core → Type 0) → IsOfCore K → KeptBySingles K → If K [] (events.bare Pin Segment c n open_of first_pin) → (es : List Entry) (s : Plant) → Run c n es s → If K (deeds_of c n es) s
  run_singles K same kept = run_keeps (If K) (if_same K same) (if_kept K kept)
