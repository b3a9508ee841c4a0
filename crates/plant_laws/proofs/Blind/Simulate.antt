-- The network goes on alike over what is seen of its pins, and without segments, but for what clients are shown.
use Rattle.std.proofs.Common.{◌≡◌, ◌⊎◌, ℕ, ◌+◌, ◌%◌, Bool, true, false, cond, ◌==◌, List, [], ◌∷◌, ◌++◌, Option, Some, None, sym, ◌∙◌, ap, subst, inl, inr, refl}
use Rattle.plant_model.specs.Types.{As, Peer, Outside, Inner, Message, Tick, Own, Input, Action, NetworkParts, State as Session}
use Rattle.pcep_session.specs.declared.session.Input.TheVariants as input
use Rattle.pcep_session.specs.declared.actions.Action.TheVariants as action
use Rattle.plant_model.specs.declared.output.Output.{Output}
use Rattle.plant_text.specs.Names.{same_as, parent_as}
use Rattle.plant_model.specs.Names.{set_pair, is_empty}
use Rattle.plant_model.specs.Wire.{Bytes, Codec}
use Rattle.disclosure.specs.Shown.{open_of}
use Rattle.std.proofs.lemmas.Bool.{eqb-true}
use Rattle.disclosure.specs.declared.class.Class.TheVariants.{Neighbour, Parent}
use Rattle.plant_model.specs.Element.{is_client, Element, upped, downed, ticked}
use Rattle.plant_model.specs.Taking.{take}
use Rattle.plant_model.specs.Parent as parent
use Rattle.pcep_session.specs.Table.{turn_of, new_state}
use Rattle.plant_model.specs.Plant.{Pin, Segment}
use Rattle.plant_text.specs.Settings.{Adjacency, class_of}
use Rattle.plant_model.specs.Settings.{place, family}
use Rattle.plant_model.specs.State.{State, Connection, Access, sent_by, Takes, Ups, Downs}
use Rattle.plant_model.specs.Deeds.{Going, own_message, on_connection, with_more, with_parent, with_element, with_inner, put, put_to, puts, give, rise, fall, say, clear, expire, our_offer, is_due, is_tick, any_fall, inner_act, inner_acts, begin_end, begin_adjacency, break_adjacency, inner_input, tick_adjacencies}
use Rattle.plant_model.specs.Blind.{Heard, Message as Said, is_closed, heard_of, heard}
use Rattle.plant_laws.proofs.Runs.Queues.{same_as_is}
use Rattle.plant_laws.proofs.Blind.Strip.{bare, bare_downed, bare_ticked}
use Rattle.plant_laws.proofs.Blind.Alike.{AreAlike, same_alike, Alike, from_same, take_alike}

-- the out queues are the same to a closed peer, and both empty or both not to a client
pub record OutAlike (closed : Bool) (xs ys : List Bytes) : Type 0 where
  pub same : closed ≡ true → xs ≡ ys
  pub full : is_empty xs ≡ is_empty ys

pub record IsConnectionAlike (closed : Bool) (x y : Connection) : Type 0 where
  pub holder : x.holder ≡ y.holder
  pub session : x.session ≡ y.session
  pub framing : x.framing ≡ y.framing
  pub inbox : x.inbox ≡ y.inbox
  pub out : OutAlike closed x.out y.out

abbrev pub AreConnectionsAlike : Bool → Option Connection → Option Connection → Type 0
AreConnectionsAlike closed None None = Unit {0}
AreConnectionsAlike closed None (Some y) = ⊥
AreConnectionsAlike closed (Some x) None = ⊥
AreConnectionsAlike closed (Some x) (Some y) = IsConnectionAlike closed x y

pub record IsAccessAlike (closed : Bool) (x y : Access) : Type 0 where
  pub opened : x.opened ≡ y.opened
  pub connection : AreConnectionsAlike closed x.connection y.connection

abbrev pub Blank : Type 0 → Type 0
Blank Q = State Q (Unit {0})

abbrev pub Full : Type 0
Full = State Pin Segment

-- what is seen of the pins of each element
pub record Sim (Q : Type 0) (view : As → Pin → Q) (n : NetworkParts) (s : Full) (b : Blank Q) : Type 0 where
  pub clock : b.clock ≡ s.clock
  pub elements : (d : As) → b.elements d ≡ bare (view d) (s.elements d)
  pub parent : b.parent ≡ s.parent
  pub current : (d : As) → b.current d ≡ view d (s.current d)
  pub sessions : (x y : As) → b.sessions x y ≡ s.sessions x y
  pub queues : (x y : As) → b.queues x y ≡ s.queues x y
  pub accesses : (i : ℕ) → IsAccessAlike (is_closed n (Outside i)) (s.accesses i) (b.accesses i)

not_empty : (xs : List Bytes) (x : Bytes) → is_empty (xs ++ x ∷ []) ≡ false
not_empty [] x = refl
not_empty (y ∷ ys) x = refl

module _ (Q : Type 0) (view : As → Pin → Q) (c : Codec) (n : NetworkParts) where
  bare_set : (at d : As) (b : Bool) → same_as at d ≡ b → (x y : Element Pin Segment) → cond b (bare (view at) x) (bare (view d) y) ≡ bare (view d) (cond b x y)
  bare_set at d true is x y = ap (λ (z : As). bare (view z) x) (same_as_is at d is)
  bare_set at d false is x y = refl

  -- more goes to an outside peer
  more_alike : (closed : Bool) (m m' : Message) → (m ≡ m') ⊎ (closed ≡ false) → (x y : Access) → IsAccessAlike closed x y →
      IsAccessAlike closed (on_connection (with_more (c.text m)) x) (on_connection (with_more (c.text m')) y)
  more_alike closed m m' same x y h = record { opened = h.opened; connection = go x.connection y.connection h.connection }
    where
      out : (xs ys : List Bytes) → OutAlike closed xs ys → OutAlike closed (xs ++ c.text m ∷ []) (ys ++ c.text m' ∷ [])
      out xs ys k = record {
        same = λ is. elim same [
          | inl e ↦ ap (λ (l : List Bytes). l ++ c.text m ∷ []) (k.same is) ∙ ap (λ (z : Message). ys ++ c.text z ∷ []) e
          | inr other ↦ (let f : true ≡ false = sym is ∙ other in absurd (differ f))
        ];
        full = not_empty xs (c.text m) ∙ sym (not_empty ys (c.text m'));
      }
        where
          differ : true ≡ false → ⊥
          differ f = cc

      go : (p q : Option Connection) → AreConnectionsAlike closed p q →
          AreConnectionsAlike closed (on_connection (with_more (c.text m)) (record { opened = x.opened; connection = p })).connection (on_connection (with_more (c.text m')) (record { opened = y.opened; connection = q })).connection
      go None None k = tt
      go None (Some z) k = absurd k
      go (Some w) None k = absurd k
      go (Some w) (Some z) k = record { holder = k.holder; session = k.session; framing = k.framing; inbox = k.inbox; out = out w.out z.out k.out }

  pub access_cond : (i j : ℕ) (closed : Bool) (t : Bool) (v w x y : Access) → (t ≡ true → IsAccessAlike closed v w) → IsAccessAlike closed x y → IsAccessAlike closed (cond t v x) (cond t w y)
  access_cond i j closed true v w x y h k = h refl
  access_cond i j closed false v w x y h k = k

  abbrev U : Type 0
  U = Unit {0}

  -- one message goes out in both
  put_sim : (at : As) (to : Peer) (m m' : Message) (s : Full) (b : Blank Q) → (m ≡ m') ⊎ (is_closed n to ≡ false) → Sim Q view n s b →
      Sim Q view n (put_to Pin Segment c n open_of at (c.text m) s to) (put_to Q U c n (λ u. []) at (c.text m') b to)
  put_sim at (Outside i) m m' s b same h = record {
    clock = h.clock;
    elements = h.elements;
    parent = h.parent;
    current = h.current;
    sessions = h.sessions;
    queues = h.queues;
    accesses = λ j. access_cond i j (is_closed n (Outside j)) (i == j) _ _ (s.accesses j) (b.accesses j)
        (λ is. subst (λ (k : ℕ). IsAccessAlike (is_closed n (Outside k)) (on_connection (with_more (c.text m)) (s.accesses i)) (on_connection (with_more (c.text m')) (b.accesses i)))
        (eqb-true i j is) (more_alike (is_closed n (Outside i)) m m' same (s.accesses i) (b.accesses i) (h.accesses i)))
        (h.accesses j);
  }
  put_sim at (Inner a) m m' s b same h = record {
    clock = h.clock;
    elements = h.elements;
    parent = h.parent;
    current = h.current;
    sessions = h.sessions;
    queues = λ x y.
        ap (λ (q : List Bytes). cond (same_as at x) (cond (same_as a y) (q ++ c.text m' ∷ []) (b.queues x y)) (b.queues x y)) (h.queues at a)
        ∙ ap (λ (q : List Bytes). cond (same_as at x) (cond (same_as a y) (s.queues at a ++ c.text m' ∷ []) q) q) (h.queues x y)
        ∙ ap (λ (z : Message). cond (same_as at x) (cond (same_as a y) (s.queues at a ++ c.text z ∷ []) (s.queues x y)) (s.queues x y)) (sym (inner_same same));
    accesses = h.accesses;
  }
    where
      -- an inner peer is no client
      never : (b : Bool) → is_closed n (Inner a) ≡ false → ⊥
      never b e = inner_closed (same_as a parent_as) e
        where
          inner_closed : (t : Bool) → cond (is_client (cond t Parent (Neighbour a))) false true ≡ false → ⊥
          inner_closed true f = cc
          inner_closed false f = cc

      inner_same : (m ≡ m') ⊎ (is_closed n (Inner a) ≡ false) → m ≡ m'
      inner_same (inl e) = e
      inner_same (inr other) = absurd (never true other)

  pub puts_sim : (at : As) (os os' : List Output) (s : Full) (b : Blank Q) → AreAlike n os os' → Sim Q view n s b →
      Sim Q view n (puts Pin Segment c n open_of at os s) (puts Q U c n (λ u. []) at os' b)
  puts_sim at [] [] s b alike h = h
  puts_sim at [] (o' ∷ os') s b alike h = absurd alike
  puts_sim at (o ∷ os) [] s b alike h = absurd alike
  puts_sim at (o ∷ os) (o' ∷ os') s b alike h =
      puts_sim at os os' (put Pin Segment c n open_of at o s) (put Q U c n (λ u. []) at o' b) alike.2
      (subst (λ (to : Peer). Sim Q view n (put Pin Segment c n open_of at o s) (put_to Q U c n (λ u. []) at (c.text o'.message) b to)) alike.0
      (put_sim at o.to o.message o'.message s b (same alike.1) h))
    where
      same : (o ≡ o') ⊎ (is_closed n o.to ≡ false) → (o.message ≡ o'.message) ⊎ (is_closed n o.to ≡ false)
      same (inl e) = inl (ap (λ (x : Output). x.message) e)
      same (inr other) = inr other

  -- what closed peers hear of alike outputs is the same
  pub heard_same : (at : As) (os os' : List Output) → AreAlike n os os' → heard_of n (sent_by c at os) ≡ heard_of n (sent_by c at os')
  heard_same at [] [] alike = refl
  heard_same at [] (o' ∷ os') alike = absurd alike
  heard_same at (o ∷ os) [] alike = absurd alike
  heard_same at (o ∷ os) (o' ∷ os') alike =
      ap (λ (l : List Heard). cond (is_closed n o.to) (Said (record { from = at; to = o.to; bytes = c.text o.message }) ∷ l) l) (heard_same at os os' alike.2)
      ∙ go alike.1
    where
      go : (o ≡ o') ⊎ (is_closed n o.to ≡ false) →
          cond (is_closed n o.to) (Said (record { from = at; to = o.to; bytes = c.text o.message }) ∷ heard_of n (sent_by c at os')) (heard_of n (sent_by c at os'))
          ≡ cond (is_closed n o'.to) (Said (record { from = at; to = o'.to; bytes = c.text o'.message }) ∷ heard_of n (sent_by c at os')) (heard_of n (sent_by c at os'))
      go (inl e) = ap (λ (x : Output). cond (is_closed n x.to) (Said (record { from = at; to = x.to; bytes = c.text x.message }) ∷ heard_of n (sent_by c at os')) (heard_of n (sent_by c at os'))) e
      go (inr other) = none (is_closed n o.to) (is_closed n o'.to) (Said (record { from = at; to = o.to; bytes = c.text o.message }) ∷ heard_of n (sent_by c at os')) (Said (record { from = at; to = o'.to; bytes = c.text o'.message }) ∷ heard_of n (sent_by c at os')) (heard_of n (sent_by c at os')) other (sym (ap (λ (to : Peer). is_closed n to) alike.0) ∙ other)
        where
          none : (x y : Bool) (a b l : List Heard) → x ≡ false → y ≡ false → cond x a l ≡ cond y b l
          none true y a b l e f = cc
          none false true a b l e f = cc
          none false false a b l e f = refl

  -- two goings that are alike, and what closed peers have heard of them
  pub record Both (g : Going Pin Segment) (h : Going Q U) : Type 0 where
    pub sim : Sim Q view n g.state h.state
    pub heard' : heard c n g.deeds ≡ heard c n h.deeds

  pub both_cond : (b : Bool) (g g' : Going Pin Segment) (h h' : Going Q U) → Both g h → Both g' h' → Both (cond b g g') (cond b h h')
  both_cond true g g' h h' x y = x
  both_cond false g g' h h' x y = y

  -- an element after a step that is alike
  pub with_element_sim : (at : As) (k : Element Pin Segment) (k' : Element Q U) (s : Full) (b : Blank Q) → k' ≡ bare (view at) k → Sim Q view n s b →
      Sim Q view n (with_element Pin Segment c n open_of at k s) (with_element Q U c n (λ u. []) at k' b)
  with_element_sim at k k' s b is h = record {
    clock = h.clock;
    elements = λ d.
        ap (λ (e : Element Q U). cond (same_as at d) e (b.elements d)) is
        ∙ ap (λ (e : Element Q U). cond (same_as at d) (bare (view at) k) e) (h.elements d)
        ∙ bare_set at d (same_as at d) refl k (s.elements d);
    parent = h.parent;
    current = h.current;
    sessions = h.sessions;
    queues = h.queues;
    accesses = h.accesses;
  }

  pub with_parent_sim : (k k' : parent.Parent) (s : Full) (b : Blank Q) → k' ≡ k → Sim Q view n s b → Sim Q view n (with_parent Pin Segment c n open_of k s) (with_parent Q U c n (λ u. []) k' b)
  with_parent_sim k k' s b is h = record { clock = h.clock; elements = h.elements; parent = is; current = h.current; sessions = h.sessions; queues = h.queues; accesses = h.accesses }

  heard_more : (x y : List Heard) (u v : List Heard) → x ≡ y → u ≡ v → x ++ u ≡ y ++ v
  heard_more x y u v e f = ap (λ (l : List Heard). l ++ u) e ∙ ap (λ (l : List Heard). y ++ l) f

  pub give_both : (at : As) (p : Peer) (m : Message) (g : Going Pin Segment) (h : Going Q U) → Both g h → Both (give Pin Segment c n open_of at p m g) (give Q U c n (λ u. []) at p m h)
  give_both at p m g h both =
      let r = parent.take c (family n) p m g.state.parent in
      let r' = parent.take c (family n) p m h.state.parent in
      let same : r' ≡ r = ap (λ (k : parent.Parent). parent.take c (family n) p m k) both.sim.parent in
      let alike_r : AreAlike n r.outputs r'.outputs = subst (λ (x : parent.ParentTaken). AreAlike n r.outputs x.outputs) (sym same) (same_alike n r.outputs) in
      let t = take c open_of (place n at) (g.state.current at) p (class_of n p) g.state.clock m (g.state.elements at) in
      let t' = take c (λ u. []) (place n at) (h.state.current at) p (class_of n p) h.state.clock m (h.state.elements at) in
      let alike0 = take_alike Pin Segment Q (view at) n c open_of (place n at) (g.state.current at) p g.state.clock m (g.state.elements at) in
      let alike1 = subst (λ (e : Element Q U). Alike Pin Segment Q (view at) n t (take c (λ u. []) (place n at) (view at (g.state.current at)) p (class_of n p) g.state.clock m e)) (sym (both.sim.elements at)) alike0 in
      let alike2 = subst (λ (now : ℕ). Alike Pin Segment Q (view at) n t (take c (λ u. []) (place n at) (view at (g.state.current at)) p (class_of n p) now m (h.state.elements at))) (sym both.sim.clock) alike1 in
      let alike : Alike Pin Segment Q (view at) n t t' = subst (λ (pin : Q). Alike Pin Segment Q (view at) n t (take c (λ u. []) (place n at) pin p (class_of n p) h.state.clock m (h.state.elements at))) (sym (both.sim.current at)) alike2 in
      let u = with_parent Pin Segment c n open_of r.parent g.state in
      let u' = with_parent Q U c n (λ u. []) r'.parent h.state in
      let v = with_element Pin Segment c n open_of at t.element g.state in
      let v' = with_element Q U c n (λ u. []) at t'.element h.state in
      both_cond (same_as at parent_as)
      (record { state = puts Pin Segment c n open_of at r.outputs u; deeds = Takes at p m r.outputs ∷ g.deeds })
      (record { state = puts Pin Segment c n open_of at t.outputs v; deeds = Takes at p m t.outputs ∷ g.deeds })
      (record { state = puts Q U c n (λ u. []) at r'.outputs u'; deeds = Takes at p m r'.outputs ∷ h.deeds })
      (record { state = puts Q U c n (λ u. []) at t'.outputs v'; deeds = Takes at p m t'.outputs ∷ h.deeds })
      (record {
        sim = puts_sim at r.outputs r'.outputs u u' alike_r (with_parent_sim r.parent r'.parent g.state h.state (ap (λ (x : parent.ParentTaken). x.parent) same) both.sim);
        heard' = heard_more (heard c n g.deeds) (heard c n h.deeds) (heard_of n (sent_by c at r.outputs)) (heard_of n (sent_by c at r'.outputs)) both.heard' (heard_same at r.outputs r'.outputs alike_r);
      })
      (record {
        sim = puts_sim at t.outputs t'.outputs v v' alike.outputs (with_element_sim at t.element t'.element g.state h.state alike.element both.sim);
        heard' = heard_more (heard c n g.deeds) (heard c n h.deeds) (heard_of n (sent_by c at t.outputs)) (heard_of n (sent_by c at t'.outputs)) both.heard' (heard_same at t.outputs t'.outputs alike.outputs);
      })

  pub fall_both : (at : As) (p : Peer) (g : Going Pin Segment) (h : Going Q U) → Both g h → Both (fall Pin Segment c n open_of at p g) (fall Q U c n (λ u. []) at p h)
  fall_both at p g h both =
      let r = parent.downed p g.state.parent in
      let r' = parent.downed p h.state.parent in
      let same : r' ≡ r = ap (λ (k : parent.Parent). parent.downed p k) both.sim.parent in
      let alike_r : AreAlike n r.outputs r'.outputs = subst (λ (x : parent.ParentTaken). AreAlike n r.outputs x.outputs) (sym same) (same_alike n r.outputs) in
      let t = downed p (g.state.elements at) in
      let t' = downed p (h.state.elements at) in
      let alike : Alike Pin Segment Q (view at) n t t' = from_same Pin Segment Q (view at) n t t' (ap (λ (e : Element Q U). downed p e) (both.sim.elements at) ∙ bare_downed Pin Segment Q (view at) p (g.state.elements at)) in
      let u = with_parent Pin Segment c n open_of r.parent g.state in
      let u' = with_parent Q U c n (λ u. []) r'.parent h.state in
      let v = with_element Pin Segment c n open_of at t.element g.state in
      let v' = with_element Q U c n (λ u. []) at t'.element h.state in
      both_cond (same_as at parent_as)
      (record { state = puts Pin Segment c n open_of at r.outputs u; deeds = Downs at p r.outputs ∷ g.deeds })
      (record { state = puts Pin Segment c n open_of at t.outputs v; deeds = Downs at p t.outputs ∷ g.deeds })
      (record { state = puts Q U c n (λ u. []) at r'.outputs u'; deeds = Downs at p r'.outputs ∷ h.deeds })
      (record { state = puts Q U c n (λ u. []) at t'.outputs v'; deeds = Downs at p t'.outputs ∷ h.deeds })
      (record {
        sim = puts_sim at r.outputs r'.outputs u u' alike_r (with_parent_sim r.parent r'.parent g.state h.state (ap (λ (x : parent.ParentTaken). x.parent) same) both.sim);
        heard' = heard_more (heard c n g.deeds) (heard c n h.deeds) (heard_of n (sent_by c at r.outputs)) (heard_of n (sent_by c at r'.outputs)) both.heard' (heard_same at r.outputs r'.outputs alike_r);
      })
      (record {
        sim = puts_sim at t.outputs t'.outputs v v' alike.outputs (with_element_sim at t.element t'.element g.state h.state alike.element both.sim);
        heard' = heard_more (heard c n g.deeds) (heard c n h.deeds) (heard_of n (sent_by c at t.outputs)) (heard_of n (sent_by c at t'.outputs)) both.heard' (heard_same at t.outputs t'.outputs alike.outputs);
      })

  pub rise_both : (at : As) (p : Peer) (g : Going Pin Segment) (h : Going Q U) → Both g h → Both (rise Pin Segment c n open_of at p g) (rise Q U c n (λ u. []) at p h)
  rise_both at p g h both =
      both_cond (same_as at parent_as)
      (record { state = with_parent Pin Segment c n open_of (parent.upped p g.state.parent) g.state; deeds = Ups at p ∷ g.deeds })
      (record { state = with_element Pin Segment c n open_of at (upped p (g.state.elements at)) g.state; deeds = Ups at p ∷ g.deeds })
      (record { state = with_parent Q U c n (λ u. []) (parent.upped p h.state.parent) h.state; deeds = Ups at p ∷ h.deeds })
      (record { state = with_element Q U c n (λ u. []) at (upped p (h.state.elements at)) h.state; deeds = Ups at p ∷ h.deeds })
      (record {
        sim = with_parent_sim (parent.upped p g.state.parent) (parent.upped p h.state.parent) g.state h.state (ap (λ (k : parent.Parent). parent.upped p k) both.sim.parent) both.sim;
        heard' = heard_more (heard c n g.deeds) (heard c n h.deeds) [] [] both.heard' refl;
      })
      (record {
        sim = with_element_sim at (upped p (g.state.elements at)) (upped p (h.state.elements at)) g.state h.state (ap (λ (e : Element Q U). upped p e) (both.sim.elements at)) both.sim;
        heard' = heard_more (heard c n g.deeds) (heard c n h.deeds) [] [] both.heard' refl;
      })

  pub say_both : (at : As) (p : Peer) (o : Own) (g : Going Pin Segment) (h : Going Q U) → Both g h → Both (say Pin Segment c n open_of at p o g) (say Q U c n (λ u. []) at p o h)
  say_both at p o g h both = record {
    sim = put_sim at p (own_message o) (own_message o) g.state h.state (inl refl) both.sim;
    heard' = heard_more (heard c n g.deeds) (heard c n h.deeds) (heard_of n (sent_by c at (record { to = p; message = own_message o } ∷ []))) (heard_of n (sent_by c at (record { to = p; message = own_message o } ∷ []))) both.heard' refl;
  }

  pub expire_both : (now : ℕ) (g : Going Pin Segment) (h : Going Q U) → Both g h → Both (expire Pin Segment c n open_of now g) (expire Q U c n (λ u. []) now h)
  expire_both now g h both = record {
    sim = record {
      clock = both.sim.clock;
      elements = λ d. ap (λ (e : Element Q U). ticked now e) (both.sim.elements d) ∙ bare_ticked Pin Segment Q (view d) now (g.state.elements d);
      parent = both.sim.parent;
      current = both.sim.current;
      sessions = both.sim.sessions;
      queues = both.sim.queues;
      accesses = both.sim.accesses;
    };
    heard' = heard_more (heard c n g.deeds) (heard c n h.deeds) [] [] both.heard' refl;
  }

  pub set_pair_same : {A : Type 0} (x y : As) (v w : A) (f g : As → As → A) → v ≡ w → ((a b : As) → f a b ≡ g a b) → (a b : As) → set_pair x y v f a b ≡ set_pair x y w g a b
  set_pair_same x y v w f g e same a b =
      ap (λ z. cond (same_as x a) (cond (same_as y b) z (f a b)) (f a b)) e ∙ ap (λ z. cond (same_as x a) (cond (same_as y b) w z) z) (same a b)

  pub clear_both : (x : Adjacency) (g : Going Pin Segment) (h : Going Q U) → Both g h → Both (clear Pin Segment c n open_of x g) (clear Q U c n (λ u. []) x h)
  clear_both x g h both = record {
    sim = record {
      clock = both.sim.clock;
      elements = both.sim.elements;
      parent = both.sim.parent;
      current = both.sim.current;
      sessions = both.sim.sessions;
      queues = set_pair_same x.lower x.upper [] [] _ _ refl (set_pair_same x.upper x.lower [] [] _ _ refl both.sim.queues);
      accesses = both.sim.accesses;
    };
    heard' = heard_more (heard c n g.deeds) (heard c n h.deeds) [] [] both.heard' refl;
  }

  -- a session of a link is put in place
  pub inner_sim : (at b : As) (x y : Session) (g : Going Pin Segment) (h : Going Q U) → y ≡ x → Both g h →
      Both (record { state = with_inner Pin Segment c n open_of at b x g.state; deeds = g.deeds }) (record { state = with_inner Q U c n (λ u. []) at b y h.state; deeds = h.deeds })
  inner_sim at b x y g h same both = record {
    sim = record {
      clock = both.sim.clock;
      elements = both.sim.elements;
      parent = both.sim.parent;
      current = both.sim.current;
      sessions = set_pair_same at b y x h.state.sessions g.state.sessions same both.sim.sessions;
      queues = both.sim.queues;
      accesses = both.sim.accesses;
    };
    heard' = both.heard';
  }

  -- the actions of an inner session, in both
  inner_act_both : (at b : As) (ticks : Bool) (a : Action) (g : Going Pin Segment) (h : Going Q U) → Both g h → Both (inner_act Pin Segment c n open_of at b ticks a g) (inner_act Q U c n (λ u. []) at b ticks a h)
  inner_act_both at b ticks (action.Send o) g h both =
      subst (λ (q : List Bytes). Both (inner_act Pin Segment c n open_of at b ticks (action.Send o) g)
      (cond (cond ticks (cond (is_due o) (cond (is_empty q) false true) false) false) h (say Q U c n (λ u. []) at (Inner b) o h))) (sym (both.sim.queues at b))
      (both_cond (cond ticks (cond (is_due o) (cond (is_empty (g.state.queues at b)) false true) false) false) g (say Pin Segment c n open_of at (Inner b) o g) h (say Q U c n (λ u. []) at (Inner b) o h) both (say_both at (Inner b) o g h both))
  inner_act_both at b ticks action.Up g h both = rise_both at (Inner b) g h both
  inner_act_both at b ticks (action.Down why) g h both = both
  inner_act_both at b ticks (action.Pass m) g h both = give_both at (Inner b) m g h both

  pub inner_acts_both : (at b : As) (ticks : Bool) (as' : List Action) (g : Going Pin Segment) (h : Going Q U) → Both g h → Both (inner_acts Pin Segment c n open_of at b ticks as' g) (inner_acts Q U c n (λ u. []) at b ticks as' h)
  inner_acts_both at b ticks [] g h both = both
  inner_acts_both at b ticks (a ∷ as') g h both =
      inner_acts_both at b ticks as' (inner_act Pin Segment c n open_of at b ticks a g) (inner_act Q U c n (λ u. []) at b ticks a h) (inner_act_both at b ticks a g h both)

  begin_end_both : (sid : ℕ) (at b : As) (g : Going Pin Segment) (h : Going Q U) → Both g h → Both (begin_end Pin Segment c n open_of sid at b g) (begin_end Q U c n (λ u. []) sid at b h)
  begin_end_both sid at b g h both =
      let r = turn_of (new_state (our_offer sid) (record { 0 = g.state.clock })) input.Begin in
      subst (λ (now : ℕ). Both (begin_end Pin Segment c n open_of sid at b g)
      (inner_acts Q U c n (λ u. []) at b false (turn_of (new_state (our_offer sid) (record { 0 = now })) input.Begin).actions (record { state = with_inner Q U c n (λ u. []) at b (turn_of (new_state (our_offer sid) (record { 0 = now })) input.Begin).next h.state; deeds = h.deeds })))
      (sym both.sim.clock)
      (inner_acts_both at b false r.actions (record { state = with_inner Pin Segment c n open_of at b r.next g.state; deeds = g.deeds }) (record { state = with_inner Q U c n (λ u. []) at b r.next h.state; deeds = h.deeds })
      (inner_sim at b r.next r.next g h refl both))

  pub begin_adjacency_both : (sid : ℕ) (x : Adjacency) (g : Going Pin Segment) (h : Going Q U) → Both g h → Both (begin_adjacency Pin Segment c n open_of sid x g) (begin_adjacency Q U c n (λ u. []) sid x h)
  begin_adjacency_both sid x g h both =
      begin_end_both sid x.upper x.lower (begin_end Pin Segment c n open_of sid x.lower x.upper g) (begin_end Q U c n (λ u. []) sid x.lower x.upper h) (begin_end_both sid x.lower x.upper g h both)

  pub break_adjacency_both : (x : Adjacency) (g : Going Pin Segment) (h : Going Q U) → Both g h → Both (break_adjacency Pin Segment c n open_of x g) (break_adjacency Q U c n (λ u. []) x h)
  break_adjacency_both x g h both =
      let g1 = fall Pin Segment c n open_of x.lower (Inner x.upper) g in
      let h1 = fall Q U c n (λ u. []) x.lower (Inner x.upper) h in
      let g2 = fall Pin Segment c n open_of x.upper (Inner x.lower) g1 in
      let h2 = fall Q U c n (λ u. []) x.upper (Inner x.lower) h1 in
      subst (λ (s : Session). Both (break_adjacency Pin Segment c n open_of x g) (begin_adjacency Q U c n (λ u. []) ((s.offer.sid + 1) % 256) x (clear Q U c n (λ u. []) x h2))) (sym (both.sim.sessions x.lower x.upper))
      (begin_adjacency_both (((g.state.sessions x.lower x.upper).offer.sid + 1) % 256) x (clear Pin Segment c n open_of x g2) (clear Q U c n (λ u. []) x h2)
      (clear_both x g2 h2 (fall_both x.upper (Inner x.lower) g1 h1 (fall_both x.lower (Inner x.upper) g h both))))

  pub inner_input_both : (x : Adjacency) (at b : As) (y : Input) (g : Going Pin Segment) (h : Going Q U) → Both g h → Both (inner_input Pin Segment c n open_of x at b y g) (inner_input Q U c n (λ u. []) x at b y h)
  inner_input_both x at b y g h both =
      let r = turn_of (g.state.sessions at b) y in
      subst (λ (s : Session). Both (inner_input Pin Segment c n open_of x at b y g)
      (cond (any_fall (turn_of s y).actions) (break_adjacency Q U c n (λ u. []) x h) (inner_acts Q U c n (λ u. []) at b (is_tick y) (turn_of s y).actions (record { state = with_inner Q U c n (λ u. []) at b (turn_of s y).next h.state; deeds = h.deeds }))))
      (sym (both.sim.sessions at b))
      (both_cond (any_fall r.actions) (break_adjacency Pin Segment c n open_of x g) (inner_acts Pin Segment c n open_of at b (is_tick y) r.actions (record { state = with_inner Pin Segment c n open_of at b r.next g.state; deeds = g.deeds }))
      (break_adjacency Q U c n (λ u. []) x h) (inner_acts Q U c n (λ u. []) at b (is_tick y) r.actions (record { state = with_inner Q U c n (λ u. []) at b r.next h.state; deeds = h.deeds }))
      (break_adjacency_both x g h both)
      (inner_acts_both at b (is_tick y) r.actions (record { state = with_inner Pin Segment c n open_of at b r.next g.state; deeds = g.deeds }) (record { state = with_inner Q U c n (λ u. []) at b r.next h.state; deeds = h.deeds })
      (inner_sim at b r.next r.next g h refl both)))

  pub tick_adjacencies_both : (xs : List Adjacency) (now : Tick) (g : Going Pin Segment) (h : Going Q U) → Both g h → Both (tick_adjacencies Pin Segment c n open_of xs now g) (tick_adjacencies Q U c n (λ u. []) xs now h)
  tick_adjacencies_both [] now g h both = both
  tick_adjacencies_both (x ∷ xs) now g h both =
      let g1 = inner_input Pin Segment c n open_of x x.lower x.upper (input.Tick now) g in
      let h1 = inner_input Q U c n (λ u. []) x x.lower x.upper (input.Tick now) h in
      tick_adjacencies_both xs now (inner_input Pin Segment c n open_of x x.upper x.lower (input.Tick now) g1) (inner_input Q U c n (λ u. []) x x.upper x.lower (input.Tick now) h1)
      (inner_input_both x x.upper x.lower (input.Tick now) g1 h1 (inner_input_both x x.lower x.upper (input.Tick now) g h both))
