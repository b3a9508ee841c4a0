-- In every state of a run whose messages of requests have one each, the pending requests are those that are open.
use Rattle.std.proofs.Common.{◌≡◌, ℕ, suc, Bool, true, false, cond, nat_eq, Some, None, List, [], ◌∷◌, inl, inr, sym, ◌∙◌, ap, subst, refl, arith}
use Rattle.std.specs.Map.{lookup}
use Rattle.std.proofs.lemmas.Bool.{cases_Bool, eqb-true}
use Rattle.plant_model.specs.Types.{As, Peer, Message, RequestKey, Held, NetworkParts}
use Rattle.te_links.specs.Rows.{Rows}
use Rattle.disclosure.specs.Shown.{open_of}
use Rattle.request_table.specs.Pending.{Pending, ArePending, key_of, same_peer}
use Rattle.plant_model.specs.declared.output.Output.{Output}
use Rattle.plant_text.specs.Names.{same_as, parent_as}
use Rattle.plant_model.specs.Wire.{Codec, Admitted}
use Rattle.plant_model.specs.Element.{Element, Item, upped, downed}
use Rattle.plant_model.specs.Taking.{take, sequence_or, goes_up}
use Rattle.plant_model.specs.Solving.{commit, job_found}
use Rattle.plant_model.specs.Parent as parent
use Rattle.plant_model.specs.Parent.{Asking}
use Rattle.plant_text.specs.Settings.{class_of}
use Rattle.plant_model.specs.Settings.{place, family}
use Rattle.plant_model.specs.State.{State, Loads, Takes}
use Rattle.plant_model.specs.Deeds.{own_message, with_parent, with_element, puts}
use Rattle.plant_model.specs.Events as events
use Rattle.plant_model.specs.Plant.{first_pin, Pin, Segment, Plant, PlantDeed, Entry, Run, deeds_of, load_new}
use Rattle.plant_laws.specs.Transcript.{Transcript, loaded, loads, Keeps, Ends, ends_if, answers_to, effect, take_effect}
use Rattle.plant_laws.proofs.Runs.Queues.{same_as_is}
use Rattle.plant_laws.proofs.Least.Pins.{puts_current}
use Rattle.plant_laws.proofs.Runs.Rows.{In}
use Rattle.plant_laws.proofs.Once.Opened.{single_deed, AreSingle, IsRequest, IsUpperRequest, Tables, quiet_tables, element_tables, parent_tables, puts_elements, puts_parent, Holds, holds_same, set_pending}
use Rattle.plant_laws.proofs.Once.DeedByDeed.{Does, takes_above, takes_below, downs_above, downs_below, ups_above, ups_below, solves_above, solves_below, pops, hands_out, says_own, clears_link, expires_at, loads_rows, run_singles}
use Rattle.plant_laws.proofs.Once.TableSteps.{nobody}
use Rattle.plant_laws.proofs.Once.ElementSteps as lower
use Rattle.plant_laws.proofs.Once.ParentSteps as upper
use Rattle.plant_laws.proofs.Once.Takes.{IsSingle, ended_asked, OpenedBy, take_moves, UpperOpenedBy, upper_moves, own_is}

pub lookup_in : {T : Type 0} (number : ℕ) (rows : List (ℕ × Held T)) (held : Held T) → lookup (nat_eq number) rows ≡ Some held → In (number, held) rows
lookup_in number [] held e = let no : None ≡ Some held = e in absurd (let out : None ≡ Some held = no in cc)
lookup_in {T} number (row ∷ rows) held e =
    elim (cases_Bool (nat_eq number row.0)) [
      | inl hit ↦
          let at : Some row.1 ≡ Some held = rw hit at e in
          let is : row.1 ≡ held = cc in
          let same : row.0 ≡ number = sym (eqb-true number row.0 hit) in
          inl (λ i. (same i, is i))
      | inr miss ↦ inr (lookup_in number rows held (rw miss at e))
    ]

module _ (c : Codec) (n : NetworkParts) where
  abbrev pub Core : Type 0
  Core = State Pin Segment

  abbrev pub Good : Transcript → Core → Type 0
  Good ds s = Holds c n ds s

  pub good_puts : (ds : Transcript) (at : As) (os : List Output) (s : Core) → Good ds s → Good ds (puts Pin Segment c n open_of at os s)
  good_puts ds at os s held = holds_same c n ds s (puts Pin Segment c n open_of at os s) (puts_elements c n at os s) (puts_parent c n at os s) (puts_current c n at os s) held

  take_at : (at d : As) (p q : Peer) (x : ℕ) (m : Message) (os : List Output) → effect {S = Segment} c d q x (Takes at p m os) ≡ cond (same_as at d) (take_effect c at q x p m os) Keeps
  take_at at d p q x m os = go (same_as at d) refl
    where
      go : (b : Bool) → same_as at d ≡ b → cond b (take_effect c d q x p m os) Keeps ≡ cond b (take_effect c at q x p m os) Keeps
      go true is = ap (λ z. take_effect c z q x p m os) (sym (same_as_is at d is))
      go false is = refl

  -- an element takes a message
  pub give_lower : (at : As) (p : Peer) (m : Message) (s : Core) (ds : Transcript) → same_as at parent_as ≡ false → IsSingle m → Good ds s →
      (let r = take c open_of (place n at) (s.current at) p (class_of n p) s.clock m (s.elements at) in
      Good (Takes at p m r.outputs ∷ ds) (puts Pin Segment c n open_of at r.outputs (with_element Pin Segment c n open_of at r.element s)))
  give_lower at p m s ds low one held =
      let r = take c open_of (place n at) (s.current at) p (class_of n p) s.clock m (s.elements at) in
      let t = with_element Pin Segment c n open_of at r.element s in
      let New = OpenedBy Pin Segment c open_of n at (s.current at) p (class_of n p) s.clock (s.elements at) m in
      good_puts (Takes at p m r.outputs ∷ ds) at r.outputs t
      (element_tables c n (Takes at p m r.outputs) ds at (λ key. take_effect c at key.peer key.id p m r.outputs) New r.element.pending
      (λ d. (s.elements d).pending) (λ d. (t.elements d).pending) s.parent.pending s.current low
      (λ d q x. take_at at d p q x m r.outputs) (λ d. set_pending c n at d r.element s) (λ d. refl) (λ d. refl)
      (λ q x u h. fresh q x u h)
      (take_moves Pin Segment c open_of n at (s.current at) p (class_of n p) s.clock (s.elements at) m one (held.elements at)) held)
    where
      fresh : (q : Peer) (x : ℕ) (u : Item Pin) → OpenedBy Pin Segment c open_of n at (s.current at) p (class_of n p) s.clock (s.elements at) m (key_of q x) u →
          (let r = take c open_of (place n at) (s.current at) p (class_of n p) s.clock m (s.elements at) in IsRequest c n at q x u (Takes at p m r.outputs ∷ ds))
      fresh q x u h =
          let r = take c open_of (place n at) (s.current at) p (class_of n p) s.clock m (s.elements at) in
          let f = h.2 in
          let own = own_is n at in
          record {
            request = f.request;
            delivered = (h.0, r.outputs, (λ i. Takes at ((sym f.peer) i) (h.1 i) r.outputs), subst (λ d. c.check h.0 d ≡ Admitted f.request) own f.admitted);
            flags' = f.flags';
            id = f.id;
            wish' = f.wish';
            class' = f.class' ∙ ap (λ z. class_of n z) (sym f.peer);
            number = ap (λ (pin : Pin). pin.number) f.pin' ∙ held.number at;
            topology = ap (λ (pin : Pin). pin.topology) f.pin' ∙ held.topology at;
            sequence' = subst (λ z. u.sequence ≡ cond (goes_up (place n at).parent (class_of n z) u.wanted.sequence) [] (sequence_or at u.wanted.sequence)) (sym f.peer)
                (subst (λ d. u.sequence ≡ cond (goes_up (place n at).parent (class_of n p) u.wanted.sequence) [] (sequence_or d u.wanted.sequence)) own f.sequence');
          }

  -- the parent takes one
  pub give_upper : (at : As) (p : Peer) (m : Message) (s : Core) (ds : Transcript) → same_as at parent_as ≡ true → IsSingle m → Good ds s →
      (let r = parent.take c (family n) p m s.parent in Good (Takes at p m r.outputs ∷ ds) (puts Pin Segment c n open_of at r.outputs (with_parent Pin Segment c n open_of r.parent s)))
  give_upper at p m s ds up one held =
      let r = parent.take c (family n) p m s.parent in
      let t = with_parent Pin Segment c n open_of r.parent s in
      good_puts (Takes at p m r.outputs ∷ ds) at r.outputs t
      (parent_tables c n (Takes at p m r.outputs) ds at (λ key. take_effect c parent_as key.peer key.id p m r.outputs) (UpperOpenedBy c (family n) p s.parent m) r.parent.pending
      (λ d. (s.elements d).pending) s.parent.pending s.current up
      (λ d q x. take_at at d p q x m r.outputs ∙ ap (λ z. cond (same_as at d) (take_effect c z q x p m r.outputs) Keeps) (same_as_is at parent_as up)) (λ d. refl) (λ d. refl)
      (λ q x u h. fresh q x u h)
      (upper_moves c (family n) p s.parent m one held.parent) held)
    where
      fresh : (q : Peer) (x : ℕ) (u : Asking) → UpperOpenedBy c (family n) p s.parent m (key_of q x) u →
          (let r = parent.take c (family n) p m s.parent in IsUpperRequest c n q x u (Takes at p m r.outputs ∷ ds))
      fresh q x u h =
          let r = parent.take c (family n) p m s.parent in
          let f = h.2 in
          let is = same_as_is at parent_as up in
          record {
            request = f.request;
            delivered = (h.0, r.outputs, (λ i. Takes (is i) ((sym f.peer) i) (h.1 i) r.outputs), f.admitted);
            flags' = f.flags';
            id = f.id;
            wish' = f.wish';
          }

  -- nothing is opened
  abbrev Never : {U : Type 0} → RequestKey → U → Type 0
  Never key u = ⊥

  -- deeds that do nothing to requests
  pub quiet : (e : PlantDeed) (ds : Transcript) (s t : Core) → ((d : As) (p : Peer) (x : ℕ) → effect c d p x e ≡ Keeps) → ((d : As) → (t.elements d).pending ≡ (s.elements d).pending) → t.parent.pending ≡ s.parent.pending → t.current ≡ s.current →
      ((d : As) → loads d (e ∷ ds) ≡ loads d ds) → ((d : As) → loaded d (e ∷ ds) ≡ loaded d ds) → Good ds s → Good (e ∷ ds) t
  quiet e ds s t keeps elements above current count last held =
      subst (λ (q : Pending Asking). Tables c n (e ∷ ds) (λ d. (t.elements d).pending) q t.current) (sym above)
      (subst (λ (f : As → Pin). Tables c n (e ∷ ds) (λ d. (t.elements d).pending) s.parent.pending f) (sym current)
      (quiet_tables c n e ds (λ d. (s.elements d).pending) (λ d. (t.elements d).pending) s.parent.pending s.current keeps elements count last held))

  loaded_holds : (d : As) (g : Rows) (ds : Transcript) (s : Core) → Good ds s → Good (Loads d g ∷ ds) (load_new c n d g s).state
  loaded_holds d g ds s h = record {
    elements = h.elements;
    parent = h.parent;
    limits = h.limits;
    limit = h.limit;
    nothing = h.nothing;
    number = λ d'. number d' (same_as d d') refl;
    topology = λ d'. topology d' (same_as d d');
    rows = h.rows;
    asking = h.asking;
  }
    where
      number : (d' : As) (b : Bool) → same_as d d' ≡ b → (cond b (record { number = suc (s.current d).number; topology = g }) (s.current d')).number ≡ cond b (suc (loads d' ds)) (loads d' ds)
      number d' true is = ap suc (ap (λ (z : As). (s.current z).number) (same_as_is d d' is) ∙ h.number d')
      number d' false is = h.number d'

      topology : (d' : As) (b : Bool) → (cond b (record { number = suc (s.current d).number; topology = g }) (s.current d')).topology ≡ cond b g (loaded d' ds)
      topology d' true = refl
      topology d' false = h.topology d'

  still_pending : (at : As) (k : Element Pin Segment) (s : Core) → k.pending ≡ (s.elements at).pending → (d : As) → ((with_element Pin Segment c n open_of at k s).elements d).pending ≡ (s.elements d).pending
  still_pending at k s is d = set_pending c n at d k s ∙ go (same_as at d) refl
    where
      go : (b : Bool) → same_as at d ≡ b → cond b k.pending (s.elements d).pending ≡ (s.elements d).pending
      go true same = is ∙ ap (λ z. (s.elements z).pending) (same_as_is at d same)
      go false other = refl

  pub does_hold : (ds : Transcript) (s t : Core) (e : PlantDeed) → Does c n s e t → single_deed e → Good ds s → Good (e ∷ ds) t
  does_hold ds s t e (takes_above at p m s' up) one held = give_upper at p m s ds up one held
  does_hold ds s t e (takes_below at p m s' low heard) one held = give_lower at p m s ds low one held
  does_hold ds s t e (downs_above at p s' up) one held =
      let r = parent.downed p s.parent in
      good_puts (e ∷ ds) at r.outputs (with_parent Pin Segment c n open_of r.parent s)
      (parent_tables c n e ds at (λ key. cond (same_peer p key.peer) Ends (ends_if (answers_to key.peer key.id r.outputs))) Never r.parent.pending
      (λ d. (s.elements d).pending) s.parent.pending s.current up (λ d q x. refl) (λ d. refl) (λ d. refl) (λ q x u h. absurd h)
      (ended_asked upper.core Never s.parent.pending r.parent.pending (λ key. same_peer p key.peer) r.outputs
      (λ key. cond (same_peer p key.peer) Ends (ends_if (answers_to key.peer key.id r.outputs))) (upper.downed_step p s.parent held.parent) (λ key. refl)) held)
  does_hold ds s t e (downs_below at p s' low) one held =
      let r = downed p (s.elements at) in
      let v = with_element Pin Segment c n open_of at r.element s in
      good_puts (e ∷ ds) at r.outputs v
      (element_tables c n e ds at (λ key. cond (same_peer p key.peer) Ends (ends_if (answers_to key.peer key.id r.outputs))) Never r.element.pending
      (λ d. (s.elements d).pending) (λ d. (v.elements d).pending) s.parent.pending s.current low (λ d q x. refl) (λ d. set_pending c n at d r.element s) (λ d. refl) (λ d. refl) (λ q x u h. absurd h)
      (ended_asked lower.core Never (s.elements at).pending r.element.pending (λ key. same_peer p key.peer) r.outputs
      (λ key. cond (same_peer p key.peer) Ends (ends_if (answers_to key.peer key.id r.outputs))) (lower.downed_step Pin Segment p (s.elements at) (held.elements at)) (λ key. refl)) held)
  does_hold ds s t e (solves_above k h s' x) one held =
      let r = parent.commit c (k, x.held) x.answer s.parent in
      good_puts (e ∷ ds) parent_as r.outputs (with_parent Pin Segment c n open_of r.parent s)
      (parent_tables c n e ds parent_as (λ key. ends_if (answers_to key.peer key.id r.outputs)) Never r.parent.pending
      (λ d'. (s.elements d').pending) s.parent.pending s.current refl (λ d' q y. refl) (λ d'. refl) (λ d'. refl) (λ q y u h'. absurd h')
      (ended_asked upper.core Never s.parent.pending r.parent.pending nobody r.outputs (λ key. ends_if (answers_to key.peer key.id r.outputs))
      (upper.commit_step c (k, x.held) x.answer s.parent held.parent (lookup_in k s.parent.pending.rows x.held x.is_held)) (λ key. refl)) held)
  does_hold ds s t e (solves_below d k h s' x) one held =
      let r = commit c (place n d) (k, x.held) x.down s.clock (λ b. b.segment) (job_found x.rows.source_known x.rows.target_known x.rows.best) (s.elements d) in
      let v = with_element Pin Segment c n open_of d r.element s in
      good_puts (e ∷ ds) d r.outputs v
      (element_tables c n e ds d (λ key. ends_if (answers_to key.peer key.id r.outputs)) Never r.element.pending
      (λ d'. (s.elements d').pending) (λ d'. (v.elements d').pending) s.parent.pending s.current x.upper (λ d' q y. refl) (λ d'. set_pending c n d d' r.element s) (λ d'. refl) (λ d'. refl) (λ q y u h'. absurd h')
      (ended_asked lower.core Never (s.elements d).pending r.element.pending nobody r.outputs (λ key. ends_if (answers_to key.peer key.id r.outputs))
      (lower.commit_step Pin Segment c (place n d) (k, x.held) x.down s.clock (λ b. b.segment) x.rows.source_known x.rows.target_known x.rows.best (s.elements d) (held.elements d) (lookup_in k (s.elements d).pending.rows x.held x.is_held)) (λ key. refl)) held)
  does_hold ds s t e (ups_below at p s' low) one held = quiet e ds s t (λ d q x. refl) (still_pending at (upped p (s.elements at)) s refl) refl refl (λ d. refl) (λ d. refl) held
  does_hold ds s t e (says_own at p o s') one held = good_puts (e ∷ ds) at (record { to = p; message = own_message o } ∷ []) s (quiet e ds s s (λ d q x. refl) (λ d. refl) refl refl (λ d. refl) (λ d. refl) held)
  does_hold ds s t e (clears_link x s') one held = quiet e ds s t (λ d q x. refl) (λ d. refl) refl refl (λ d. refl) (λ d. refl) held
  does_hold ds s t e (loads_rows d g s') one held = loaded_holds d g ds s held
  does_hold ds s t e _ one held = quiet e ds s t (λ d q x. refl) (λ d. refl) refl refl (λ d. refl) (λ d. refl) held

  pub empty_pending : {T : Type 0} (limit : ℕ) → ArePending {T = T} (record { limit = limit; given = 0; rows = [] })
  empty_pending limit = record { few = omega arith; last = omega arith; numbers = omega arith; names = tt }

  pub bare_holds : AreSingle [] → Good [] (events.bare Pin Segment c n open_of first_pin)
  bare_holds single = record {
    elements = λ d. empty_pending 1024;
    parent = empty_pending 64;
    limits = λ d. refl;
    limit = refl;
    nothing = refl;
    number = λ d. refl;
    topology = λ d. refl;
    rows = λ d p x low. tt;
    asking = λ p x. tt;
  }

  pub run_opened : (es : List Entry) (s : Plant) → Run c n es s → AreSingle (deeds_of c n es) → Good (deeds_of c n es) s
  run_opened = run_singles c n Good (holds_same c n) does_hold bare_holds
