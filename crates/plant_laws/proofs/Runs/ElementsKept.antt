-- What holds of each element holds after every act and every solved job, where it does after whatever an element does by itself.
-- Something may hold of each current pin, too, which is what a new request pins.
use Rattle.std.proofs.Common.{◌≡◌, ◌∙◌, ℕ, Bool, true, false, cond, List, [], ◌∷◌, sym, subst, refl}
use Rattle.plant_model.specs.Types.{As, Peer, Outside, Inner, Message, NetworkParts, Best, Branch}
use Rattle.te_links.specs.Rows.{Rows}
use Rattle.disclosure.specs.Shown.{open_of}
use Rattle.plant_model.specs.declared.event.Event.TheVariants as event
use Rattle.plant_model.specs.declared.output.Output.{Output}
use Rattle.plant_text.specs.Names.{same_as, parent_as}
use Rattle.plant_model.specs.Wire.{Codec}
use Rattle.plant_model.specs.Element.{Element, Row, upped, downed, ticked}
use Rattle.plant_model.specs.Taking.{take}
use Rattle.plant_model.specs.Solving.{commit, job_found}
use Rattle.plant_model.specs.Parent as parent
use Rattle.plant_text.specs.Settings.{class_of}
use Rattle.plant_model.specs.Settings.{place, family}
use Rattle.plant_model.specs.State.{Pops, Takes, Ups, Downs}
use Rattle.plant_model.specs.Deeds.{Going, element_of, own_message, with_parent, with_element, puts, give, rise, fall}
use Rattle.plant_model.specs.Events as events
use Rattle.plant_model.specs.Plant.{Pin, Segment, first_pin, Plant, Happened, Entry, Run, IsGiven, load_new, ElementSolves, ParentSolves}
use Rattle.plant_laws.specs.Transcript.{Transcript}
use Rattle.plant_laws.proofs.Runs.Acts.{Acts, rests, hears, carries, nods, hands, rises, falls, says, clears, expires, Goes, stands, goes_on}
use Rattle.plant_laws.proofs.Runs.Induction.{run_holds}
use Rattle.plant_laws.proofs.Runs.Queues.{same_as_is}
use Rattle.plant_laws.proofs.Least.Pins.{puts_current}
use Rattle.plant_laws.proofs.Once.Opened.{puts_elements}

module _ (c : Codec) (n : NetworkParts) (Right : As → Pin → Type 0) (Holds : As → Element Pin Segment → Type 0) where
  -- whatever an element does, other than the parent
  pub record KeptAlways : Type 0 where
    pub takes : (d : As) (pin : Pin) (p : Peer) (now : ℕ) (m : Message) (k : Element Pin Segment) → same_as d parent_as ≡ false → Right d pin → Holds d k → Holds d (take c open_of (place n d) pin p (class_of n p) now m k).element
    pub ups : (d : As) (p : Peer) (k : Element Pin Segment) → same_as d parent_as ≡ false → Holds d k → Holds d (upped p k)
    pub downs : (d : As) (p : Peer) (k : Element Pin Segment) → same_as d parent_as ≡ false → Holds d k → Holds d (downed p k).element
    pub ticks : (d : As) (now : ℕ) (k : Element Pin Segment) → Holds d k → Holds d (ticked now k)
    pub commits : (d : As) (h : Row Pin) (down : List Branch) (now : ℕ) (source_known target_known : Bool) (best : List Best) (k : Element Pin Segment) → same_as d parent_as ≡ false → Holds d k →
        Holds d (commit c (place n d) h down now (λ b. b.segment) (job_found source_known target_known best) k).element

  pub record Good (s : Plant) : Type 0 where
    pub current : (d : As) → Right d (s.current d)
    pub elements : (d : As) → Holds d (s.elements d)

  -- the current pins stay, and what is good stays so
  pub record Keeps (s t : Plant) : Type 0 where
    pub current : t.current ≡ s.current
    pub good : Good s → Good t

  keeps_on : (s t u : Plant) → Keeps s t → Keeps t u → Keeps s u
  keeps_on s t u first second = record { current = second.current ∙ first.current; good = λ good. second.good (first.good good) }

  keeps_pick : (s : Plant) (b : Bool) (g h : Going Pin Segment) → Keeps s g.state → (b ≡ false → Keeps s h.state) → Keeps s (cond b g h).state
  keeps_pick s true g h x y = x
  keeps_pick s false g h x y = y refl

  unchanged : (s t : Plant) → t.current ≡ s.current → t.elements ≡ s.elements → Keeps s t
  unchanged s t pins same = record {
    current = pins;
    good = λ good. record {
      current = λ d. subst (λ (f : As → Pin). Right d (f d)) (sym pins) (good.current d);
      elements = λ d. subst (λ (f : As → Element Pin Segment). Holds d (f d)) (sym same) (good.elements d);
    };
  }

  abbrev put_above : As → List Output → parent.Parent → Plant → Plant
  put_above at os k s = puts Pin Segment c n open_of at os (with_parent Pin Segment c n open_of k s)

  abbrev put_below : As → List Output → Element Pin Segment → Plant → Plant
  put_below at os k s = puts Pin Segment c n open_of at os (with_element Pin Segment c n open_of at k s)

  -- the parent is changed, and one element
  above : (at : As) (os : List Output) (k : parent.Parent) (s : Plant) → Keeps s (put_above at os k s)
  above at os k s = unchanged s (put_above at os k s) (puts_current c n at os (with_parent Pin Segment c n open_of k s)) (puts_elements c n at os (with_parent Pin Segment c n open_of k s))

  below : (at : As) (os : List Output) (k : Element Pin Segment) (s : Plant) → (Good s → Holds at k) → Keeps s (put_below at os k s)
  below at os k s new =
      let v = with_element Pin Segment c n open_of at k s in record {
        current = puts_current c n at os v;
        good = λ good. record {
          current = λ d. subst (λ (f : As → Pin). Right d (f d)) (sym (puts_current c n at os v)) (good.current d);
          elements = λ d. subst (λ (f : As → Element Pin Segment). Holds d (f d)) (sym (puts_elements c n at os v)) (go good d (same_as at d) refl);
        };
      }
    where
      go : Good s → (d : As) (b : Bool) → same_as at d ≡ b → Holds d (cond b k (s.elements d))
      go good d true is = subst (λ (x : As). Holds x k) (same_as_is at d is) (new good)
      go good d false is = good.elements d

  module _ (kept : KeptAlways) where
    give_keeps : (at : As) (p : Peer) (m : Message) (s : Plant) (es : Transcript) → Keeps s (give Pin Segment c n open_of at p m (record { state = s; deeds = es })).state
    give_keeps at p m s es =
        let r = parent.take c (family n) p m s.parent in
        let t = take c open_of (place n at) (s.current at) p (class_of n p) s.clock m (s.elements at) in
        keeps_pick s (same_as at parent_as)
        (record { state = put_above at r.outputs r.parent s; deeds = Takes at p m r.outputs ∷ es })
        (record { state = put_below at t.outputs t.element s; deeds = Takes at p m t.outputs ∷ es })
        (above at r.outputs r.parent s)
        (λ other. below at t.outputs t.element s (λ good. kept.takes at (s.current at) p s.clock m (s.elements at) other (good.current at) (good.elements at)))

    fall_keeps : (at : As) (p : Peer) (s : Plant) → Keeps s (fall Pin Segment c n open_of at p (record { state = s; deeds = [] })).state
    fall_keeps at p s =
        let r = parent.downed p s.parent in
        let t = downed p (s.elements at) in
        keeps_pick s (same_as at parent_as)
        (record { state = put_above at r.outputs r.parent s; deeds = Downs at p r.outputs ∷ [] })
        (record { state = put_below at t.outputs t.element s; deeds = Downs at p t.outputs ∷ [] })
        (above at r.outputs r.parent s) (λ other. below at t.outputs t.element s (λ good. kept.downs at p (s.elements at) other (good.elements at)))

    rise_keeps : (at : As) (p : Peer) (s : Plant) → Keeps s (rise Pin Segment c n open_of at p (record { state = s; deeds = [] })).state
    rise_keeps at p s =
        keeps_pick s (same_as at parent_as)
        (record { state = with_parent Pin Segment c n open_of (parent.upped p s.parent) s; deeds = Ups at p ∷ [] })
        (record { state = with_element Pin Segment c n open_of at (upped p (s.elements at)) s; deeds = Ups at p ∷ [] })
        (above at [] (parent.upped p s.parent) s) (λ other. below at [] (upped p (s.elements at)) s (λ good. kept.ups at p (s.elements at) other (good.elements at)))

    pub act_keeps : (s t : Plant) (es : Transcript) → Acts Pin Segment c n open_of s es t → Keeps s t
    act_keeps s t es (rests s' t' same) = unchanged s t same.current same.elements
    act_keeps s t es (hears i bytes m s' read) = give_keeps (element_of n i) (Outside i) m s []
    act_keeps s t es (carries a b bytes rest m s' u is read same) = keeps_on s u t (unchanged s u same.current same.elements) (give_keeps b (Inner a) m u (Pops a b ∷ []))
    act_keeps s t es (nods a b bytes rest s' is) = unchanged s t refl refl
    act_keeps s t es (hands i bytes s' t' same) = unchanged s t same.current same.elements
    act_keeps s t es (rises at p s') = rise_keeps at p s
    act_keeps s t es (falls at p s') = fall_keeps at p s
    act_keeps s t es (says at p o s') =
        let out : Output = record { to = p; message = own_message o } in
        unchanged s t (puts_current c n at (out ∷ []) s) (puts_elements c n at (out ∷ []) s)
    act_keeps s t es (clears x s') = unchanged s t refl refl
    act_keeps s t es (expires now s') = record { current = refl; good = λ good. record { current = good.current; elements = λ d. kept.ticks d now (s.elements d) (good.elements d) } }

    pub goes_keep : (s t : Plant) (es : Transcript) → Goes Pin Segment c n open_of s es t → Keeps s t
    goes_keep s t es (stands s') = unchanged s t refl refl
    goes_keep s u es (goes_on s' t u' fs gs r a) = keeps_on s t u (goes_keep s t fs r) (act_keeps t u gs a)

    pub solve_keeps : (s : Plant) (d : As) (k : ℕ) (h : Happened) → ElementSolves c n d k s h → Keeps s h.state
    solve_keeps s d k h x =
        let r = commit c (place n d) (k, x.held) x.down s.clock (λ b. b.segment) (job_found x.rows.source_known x.rows.target_known x.rows.best) (s.elements d) in
        subst (λ (h' : Happened). Keeps s h'.state) (sym x.is)
        (below d r.outputs r.element s (λ good. kept.commits d (k, x.held) x.down s.clock x.rows.source_known x.rows.target_known x.rows.best (s.elements d) x.upper (good.elements d)))

    pub upper_keeps : (s : Plant) (k : ℕ) (h : Happened) → ParentSolves c n k s h → Keeps s h.state
    upper_keeps s k h x =
        let r = parent.commit c (k, x.held) x.answer s.parent in
        subst (λ (h' : Happened). Keeps s h'.state) (sym x.is) (above parent_as r.outputs r.parent s)

    -- loads need be looked at for the current pins alone
    pub run_good : Good (events.bare Pin Segment c n open_of first_pin) →
        ((s : Plant) (d : As) (g : Rows) → IsGiven (event.Load d g) → ((e : As) → Right e (s.current e)) → (e : As) → Right e ((load_new c n d g s).state.current e)) →
        (es : List Entry) (s : Plant) → Run c n es s → Good s
    run_good bare loads =
        run_holds c n (λ ds s. Good s) bare (λ ds s t es good act. (act_keeps s t es act).good good)
        (λ ds s d g given good. record { current = loads s d g given good.current; elements = good.elements })
        (λ ds s d k h good x. (solve_keeps s d k h x).good good) (λ ds s k h good x. (upper_keeps s k h x).good good)
