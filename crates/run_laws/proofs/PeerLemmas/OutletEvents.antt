-- What an event does to a connection is what the transcript shows.
use Rattle.std.proofs.Common.{◌≡◌, ℕ, suc, ◌+◌, ◌%◌, Bool, true, false, cond, ◌==◌, List, [], ◌∷◌, ◌++◌, Option, Some, None, is_some, option_map, Ok, sym, ◌∙◌, ap, subst, inl, inr, refl}
use Rattle.std.proofs.lemmas.Bool.{eqb-true, eq-eqb}
use Rattle.plant_laws.specs.plant_model.Types.{As, Message, NetworkParts, Tick, Outside}
use Rattle.disclosure.specs.Shown.{open_of}
use Rattle.te_links.specs.Rows.{Rows}
use Rattle.pcep_framing.specs.Frames.{joined}
use Rattle.pcep_session.specs.declared.session.Input.TheVariants as input
use Rattle.pcep_session.specs.Table.{new_state}
use Rattle.plant_text.specs.Settings.{is_element, is_linked, adjacency, adjacencies, peer_row}
use Rattle.plant_text.specs.Names.{parent_as}
use Rattle.plant_laws.specs.plant_model.declared.event.Event.{Event}
use Rattle.plant_laws.specs.plant_model.declared.event.Event.TheVariants as event
use Rattle.plant_laws.specs.plant_model.declared.outcome.Outcome.{Outcome}
use Rattle.plant_laws.specs.plant_model.declared.outcome.Outcome.TheVariants.{Done, Drained, Loaded}
use Rattle.plant_laws.specs.plant_model.declared.outcome.Refused.{Refused}
use Rattle.plant_laws.specs.plant_model.declared.outcome.Refused.TheVariants.{GenerationsFull, NoMemory, NoSuchJob, NoSuchPeer, NotHolder, NothingToCarry}
use Rattle.plant_laws.specs.plant_model.Names.{set_pair}
use Rattle.plant_laws.specs.plant_model.Settings.{place}
use Rattle.plant_laws.specs.plant_model.Wire.{Bytes, Codec}
use Rattle.plant_laws.specs.plant_model.Blind.{is_accepted}
use Rattle.plant_laws.specs.plant_model.Solving.{commit, job_found}
use Rattle.plant_laws.specs.plant_model.Parent as parent
use Rattle.plant_laws.specs.plant_model.State.{Access, Connection, Hands, Loads, Pops, Solves}
use Rattle.plant_laws.specs.plant_model.Deeds.{Going, break_adjacency, element_of, fall, input_of, on_connection, outside_input, inner_input, our_offer, expire, tick_adjacencies, tick_outside, with_access, with_element, with_inbox, with_parent, puts}
use Rattle.plant_laws.specs.plant_model.Events as events
use Rattle.plant_laws.specs.plant_model.Events.{is_down}
use Rattle.plant_laws.specs.plant_model.Plant.{ElementSolves, Happened, Happens, ParentSolves, Pin, Plant, Segment, Steps, is_full, load_new}
use Rattle.run_laws.specs.Outlets.{Drains, Opens, Outlet, Shuts, Stays, ConnectionChange, bytes_of, handed_in, messages_for, turn_for, turned, with_handed, with_put}
use Rattle.run_laws.proofs.PeerLemmas.Growing as growing
use Rattle.run_laws.proofs.PeerLemmas.Growing.{View, append_assoc, more, nil_right, texts, texts_append, view_of}

pub joined_append : (xs ys : List Bytes) → joined (xs ++ ys) ≡ joined xs ++ joined ys
joined_append [] ys = refl
joined_append (x ∷ xs) ys = ap (λ (l : Bytes). x ++ l) (joined_append xs ys) ∙ sym (append_assoc x (joined xs) (joined ys))

differ : false ≡ true → ⊥
differ e = cc

-- what drains handed out and what waits is what was put
abbrev pub IsHandedOut : Codec → Outlet → ℕ × List Bytes → Type 0
IsHandedOut c x v = (v.0 ≡ x.holder) × (x.handed ++ joined v.1 ≡ bytes_of c x.put)

abbrev pub Fits : Codec → Option Outlet → View → Type 0
Fits c None None = Unit {0}
Fits c None (Some v) = ⊥
Fits c (Some x) None = ⊥
Fits c (Some x) (Some v) = IsHandedOut c x v

-- more is put
pub put_fits : (c : Codec) (ms : List Message) (o : Option Outlet) (v : View) → Fits c o v → Fits c (option_map (with_put ms) o) (more (texts c ms) v)
put_fits c ms None None h = tt
put_fits c ms None (Some v) h = h
put_fits c ms (Some x) None h = h
put_fits c ms (Some x) (Some v) h = (
  h.0,
  ap (λ (l : Bytes). x.handed ++ l) (joined_append v.1 (texts c ms)) ∙ sym (append_assoc x.handed (joined v.1) (joined (texts c ms)))
      ∙ ap (λ (l : Bytes). l ++ joined (texts c ms)) h.1 ∙ sym (joined_append (texts c x.put) (texts c ms)) ∙ ap (λ (l : List Bytes). joined l) (sym (texts_append c x.put ms)),
)

module _ (c : Codec) (n : NetworkParts) where
  abbrev view : ℕ → Plant → View
  view i s = growing.view Pin Segment c n open_of i s

  abbrev Grown : Plant → Going Pin Segment → Type 0
  Grown s g = growing.Grown Pin Segment c n open_of s g

  -- a connection of the transcript after an event
  abbrev pub next : ℕ → Event → Happened → Option Outlet → Option Outlet
  next i e h o = cond (is_accepted h.answer) (turned (turn_for i e) (messages_for i h.deeds) (handed_in h.answer) o) o

  abbrev pub Went : Plant → Event → Happened → Type 0
  Went s e h = (i : ℕ) (o : Option Outlet) → Fits c o (view i s) → Fits c (next i e h o) (view i h.state)

  pick : (s : Plant) (e : Event) (b : Bool) (h k : Happened) → Went s e h → Went s e k → Went s e (cond b h k)
  pick s e true h k x y = x
  pick s e false h k x y = y

  pub refused : (s : Plant) (e : Event) (why : Refused) → Went s e (events.refused Pin Segment c n open_of why s)
  refused s e why i o fits = fits

  -- an event that opens, shuts and drains no connection
  abbrev Quiet : Event → Type 0
  Quiet e = (i : ℕ) → turn_for i e ≡ Stays

  stays : (s : Plant) (e : Event) (out : Outcome) (g : Going Pin Segment) → Quiet e → Grown s g → Went s e (events.answered Pin Segment c n open_of out g)
  stays s e out g quiet grown i o fits =
      subst (λ (t : ConnectionChange). Fits c (turned t (messages_for i g.deeds) (handed_in (Ok out)) o) (view i g.state)) (sym (quiet i))
      (subst (λ (v : View). Fits c (option_map (with_put (messages_for i g.deeds)) o) v) (sym (grown i)) (put_fits c (messages_for i g.deeds) o (view i s) fits))

  load_went : (d : As) (g : Rows) (s : Plant) → Went s (event.Load d g) (load_new c n d g s)
  load_went d g s = stays s (event.Load d g) (Loaded (suc (s.current d).number)) (record { state = (load_new c n d g s).state; deeds = Loads d g ∷ [] }) (λ i. refl)
      (growing.sends Pin Segment c n open_of s d [] (record { state = s; deeds = [] }) (load_new c n d g s).state (Loads d g) refl refl (growing.at_start Pin Segment c n open_of s))

  -- ---- a connection is opened, shut, drained

  opened_fits : (holder : ℕ) (ms : List Message) (bytes : Bytes) (o : Option Outlet) (v : View) → v ≡ more (texts c ms) (Some (holder, [])) → Fits c (turned (Opens holder) ms bytes o) v
  opened_fits holder ms bytes o v is = subst (λ (w : View). Fits c (turned (Opens holder) ms bytes o) w) (sym is) (refl, refl)

  open_went : (j holder : ℕ) (s : Plant) → Went s (event.Open j holder) (events.open_peer Pin Segment c n open_of j holder s)
  open_went j holder s =
      pick s (event.Open j holder) (is_some (peer_row j n.peers)) _ _ (go (s.accesses j).connection) (refused s (event.Open j holder) NoSuchPeer)
    where
      t : Plant
      t = events.connect Pin Segment c n open_of j holder s

      g : Going Pin Segment
      g = outside_input Pin Segment c n open_of j input.Begin (record { state = t; deeds = [] })

      grown : Grown t g
      grown = growing.outside_input_on Pin Segment c n open_of t j input.Begin (record { state = t; deeds = [] }) (growing.at_start Pin Segment c n open_of t)

      at : (i : ℕ) (o : Option Outlet) (x : Bool) → (j == i) ≡ x → view i t ≡ cond x (Some (holder, [])) (view i s) → Fits c o (view i s) →
          Fits c (turned (cond x (Opens holder) Stays) (messages_for i g.deeds) [] o) (view i g.state)
      at i o true e is fits = opened_fits holder (messages_for i g.deeds) [] o (view i g.state) (grown i ∙ ap (λ (v : View). more (texts c (messages_for i g.deeds)) v) is)
      at i o false e is fits =
          subst (λ (v : View). Fits c (option_map (with_put (messages_for i g.deeds)) o) v) (sym (grown i ∙ ap (λ (v : View). more (texts c (messages_for i g.deeds)) v) is))
          (put_fits c (messages_for i g.deeds) o (view i s) fits)

      made : Access
      made = record {
        opened = (s.accesses j).opened + 1;
        connection = Some (record { holder = holder; session = new_state (our_offer ((s.accesses j).opened % 256)) (record { 0 = s.clock }); framing = record { held = []; bad = false }; inbox = []; out = [] });
      }

      connected : (i : ℕ) (x : Bool) → (j == i) ≡ x → view i t ≡ cond x (Some (holder, [])) (view i s)
      connected i true e = ap (λ (b : Bool). view_of (cond b made (s.accesses i)).connection) e
      connected i false e = ap (λ (b : Bool). view_of (cond b made (s.accesses i)).connection) e

      go : (o : Option Connection) → Went s (event.Open j holder) (events.open_new Pin Segment c n open_of j holder s o)
      go None = λ i o fits. at i o (j == i) refl (connected i (j == i) refl) fits
      go (Some x) = refused s (event.Open j holder) NoSuchPeer

  shut_went : (j : ℕ) (s : Plant) → Went s (event.Shut j) (events.shut Pin Segment c n open_of j s)
  shut_went j s = go (s.accesses j).connection
    where
      g : Going Pin Segment
      g = fall Pin Segment c n open_of (element_of n j) (Outside j) (record { state = s; deeds = [] })

      closed : Access
      closed = record { opened = (s.accesses j).opened; connection = None }

      grown : Grown s g
      grown = growing.fall_on Pin Segment c n open_of s (element_of n j) (Outside j) (record { state = s; deeds = [] }) (growing.at_start Pin Segment c n open_of s)

      at : (i : ℕ) (o : Option Outlet) (x : Bool) → Fits c o (view i s) → Fits c (turned (cond x Shuts Stays) (messages_for i g.deeds) [] o) (view_of (cond x closed (g.state.accesses i)).connection)
      at i o true fits = tt
      at i o false fits = subst (λ (v : View). Fits c (option_map (with_put (messages_for i g.deeds)) o) v) (sym (grown i)) (put_fits c (messages_for i g.deeds) o (view i s) fits)

      go : (o : Option Connection) → Went s (event.Shut j) (events.shut_open Pin Segment c n open_of j s o)
      go None = refused s (event.Shut j) NoSuchPeer
      go (Some x) = λ i o fits. at i o (j == i) fits

  -- all that waits is handed out
  handed_fits : (waits : List Bytes) (o : Option Outlet) (v : View) (holder : ℕ) → v ≡ Some (holder, waits) → Fits c o v → Fits c (option_map (with_handed (joined waits)) o) (Some (holder, []))
  handed_fits waits o v holder is fits = go o (subst (λ (w : View). Fits c o w) is fits)
    where
      go : (o' : Option Outlet) → Fits c o' (Some (holder, waits)) → Fits c (option_map (with_handed (joined waits)) o') (Some (holder, []))
      go None h = h
      go (Some x) h = (h.0, nil_right (x.handed ++ joined waits) ∙ h.1)

  -- what a connection is after a drain
  pub emptied : (j : ℕ) (s : Plant) (x : Connection) → (s.accesses j).connection ≡ Some x → view j (with_access Pin Segment c n open_of j events.drained s) ≡ Some (x.holder, [])
  emptied j s x is =
      ap (λ (b : Bool). view_of (cond b (on_connection events.drained (s.accesses j)) (s.accesses j)).connection) (eq-eqb j j refl)
      ∙ subst (λ (o : Option Connection). view_of (on_connection events.drained (record { opened = (s.accesses j).opened; connection = o })).connection ≡ Some (x.holder, [])) (sym is) refl

  drain_went : (j holder : ℕ) (s : Plant) → Went s (event.Drain j holder) (events.drain Pin Segment c n open_of j holder s)
  drain_went j holder s = go (s.accesses j).connection refl
    where
      t : Plant
      t = with_access Pin Segment c n open_of j events.drained s

      other : (i : ℕ) → (j == i) ≡ false → view i t ≡ view i s
      other i e = ap (λ (b : Bool). view_of (cond b (on_connection events.drained (s.accesses j)) (s.accesses i)).connection) e

      at : (k : Connection) → (s.accesses j).connection ≡ Some k → (i : ℕ) (o : Option Outlet) (x : Bool) → (j == i) ≡ x → Fits c o (view i s) →
          Fits c (turned (cond x Drains Stays) [] (joined k.out) o) (view i t)
      at k is i o true e fits =
          let same : j ≡ i = eqb-true j i e in
          let before : view i s ≡ Some (k.holder, k.out) = ap (λ (m : ℕ). view m s) (sym same) ∙ ap view_of is in
          let after : view i t ≡ Some (k.holder, []) = ap (λ (m : ℕ). view m t) (sym same) ∙ emptied j s k is in
          subst (λ (v : View). Fits c (option_map (with_handed (joined k.out)) o) v) (sym after) (handed_fits k.out o (view i s) k.holder before fits)
      at k is i o false e fits =
          subst (λ (v : View). Fits c (option_map (with_put []) o) v) (growing.more_nil (view i s) ∙ sym (other i e)) (put_fits c [] o (view i s) fits)

      handed : Connection → Happened
      handed x = record { answer = Ok (Drained (joined x.out) (is_down x.session.phase)); state = t; deeds = Hands j (joined x.out) ∷ [] }

      go : (o : Option Connection) → (s.accesses j).connection ≡ o → Went s (event.Drain j holder) (events.drain_open Pin Segment c n open_of j holder s o)
      go None is = refused s (event.Drain j holder) NoSuchPeer
      go (Some x) is =
          pick s (event.Drain j holder) (x.holder == holder) (handed x) (events.refused Pin Segment c n open_of (NotHolder x.holder) s)
          (λ i o fits. at x is i o (j == i) refl fits) (refused s (event.Drain j holder) (NotHolder x.holder))

  -- ---- other events

  feed_went : (j : ℕ) (bytes : Bytes) (s : Plant) → Went s (event.Feed j bytes) (events.feed Pin Segment c n open_of j bytes s)
  feed_went j bytes s = go (s.accesses j).connection
    where
      t : Plant
      t = with_access Pin Segment c n open_of j (events.fed c bytes) s

      grown : (b : Bool) → Grown s (record { state = cond b s t; deeds = [] })
      grown true = growing.at_start Pin Segment c n open_of s
      grown false = growing.rests Pin Segment c n open_of s (record { state = s; deeds = [] }) t (growing.access_keeps Pin Segment c n open_of j (events.fed c bytes) s (λ k. refl)) (growing.at_start Pin Segment c n open_of s)

      go : (o : Option Connection) → Went s (event.Feed j bytes) (events.feed_open Pin Segment c n open_of j bytes s o)
      go None = refused s (event.Feed j bytes) NoSuchPeer
      go (Some x) = stays s (event.Feed j bytes) Done (record { state = cond (is_down x.session.phase) s t; deeds = [] }) (λ i. refl) (grown (is_down x.session.phase))

  take_went : (j : ℕ) (s : Plant) → Went s (event.Take j) (events.take Pin Segment c n open_of j s)
  take_went j s = go (s.accesses j).connection
    where
      item : (inbox : List (Option Bytes)) → Went s (event.Take j) (events.take_item Pin Segment c n open_of j s inbox)
      item [] = refused s (event.Take j) NothingToCarry
      item (x ∷ rest) =
          let t = with_access Pin Segment c n open_of j (with_inbox rest) s in
          let g : Going Pin Segment = record { state = t; deeds = [] } in
          stays s (event.Take j) Done (outside_input Pin Segment c n open_of j (input_of c x) g) (λ i. refl)
          (growing.outside_input_on Pin Segment c n open_of s j (input_of c x) g
          (growing.rests Pin Segment c n open_of s (record { state = s; deeds = [] }) t (growing.access_keeps Pin Segment c n open_of j (with_inbox rest) s (λ k. refl)) (growing.at_start Pin Segment c n open_of s)))

      go : (o : Option Connection) → Went s (event.Take j) (events.take_open Pin Segment c n open_of j s o)
      go None = refused s (event.Take j) NoSuchPeer
      go (Some x) = item x.inbox

  carry_went : (a b : As) (s : Plant) → Went s (event.Carry a b) (events.carry Pin Segment c n open_of a b s)
  carry_went a b s = pick s (event.Carry a b) (is_linked n a b) _ _ (go (s.queues a b)) (refused s (event.Carry a b) NoSuchPeer)
    where
      go : (q : List Bytes) → Went s (event.Carry a b) (events.carry_first Pin Segment c n open_of a b s q)
      go [] = refused s (event.Carry a b) NothingToCarry
      go (x ∷ rest) =
          let g : Going Pin Segment = record { state = record s { queues = set_pair a b rest s.queues }; deeds = Pops a b ∷ [] } in
          stays s (event.Carry a b) Done (inner_input Pin Segment c n open_of (adjacency a b) b a (input_of c (Some x)) g) (λ i. refl)
          (growing.inner_input_on Pin Segment c n open_of s (adjacency a b) b a (input_of c (Some x)) g
          (growing.sends Pin Segment c n open_of s a [] (record { state = s; deeds = [] }) g.state (Pops a b) refl refl (growing.at_start Pin Segment c n open_of s)))

  break_went : (a b : As) (s : Plant) → Went s (event.Break a b) (events.break Pin Segment c n open_of a b s)
  break_went a b s =
      pick s (event.Break a b) (is_linked n a b) _ _
      (stays s (event.Break a b) Done (break_adjacency Pin Segment c n open_of (adjacency a b) (record { state = s; deeds = [] })) (λ i. refl)
      (growing.break_adjacency_on Pin Segment c n open_of s (adjacency a b) (record { state = s; deeds = [] }) (growing.at_start Pin Segment c n open_of s)))
      (refused s (event.Break a b) NoSuchPeer)

  tick_went : (t : Tick) (s : Plant) → Went s (event.Tick t) (events.tick Pin Segment c n open_of t.0 s)
  tick_went t s =
      let now = events.later s.clock t.0 in
      let g : Going Pin Segment = record { state = record s { clock = now }; deeds = [] } in
      let h = tick_outside Pin Segment c n open_of 0 n.peers (record { 0 = now }) g in
      let k = tick_adjacencies Pin Segment c n open_of (adjacencies n) (record { 0 = now }) h in
      stays s (event.Tick t) Done (expire Pin Segment c n open_of now k) (λ i. refl)
      (growing.expire_on Pin Segment c n open_of s now k
      (growing.tick_adjacencies_on Pin Segment c n open_of s (adjacencies n) (record { 0 = now }) h
      (growing.tick_outside_on Pin Segment c n open_of s 0 n.peers (record { 0 = now }) g
      (growing.rests Pin Segment c n open_of s (record { state = s; deeds = [] }) g.state (λ i. refl) (growing.at_start Pin Segment c n open_of s)))))

  solve_went : (d : As) (k : ℕ) (s : Plant) (h : Happened) → ElementSolves c n d k s h → Went s (event.Solve d k) h
  solve_went d k s h x =
      let r = commit c (place n d) (k, x.held) x.down s.clock (λ b. b.segment) (job_found x.rows.source_known x.rows.target_known x.rows.best) (s.elements d) in
      let u = with_element Pin Segment c n open_of d r.element s in
      let g : Going Pin Segment = record { state = puts Pin Segment c n open_of d r.outputs u; deeds = Solves d k r.outputs r.element.keys.issued ∷ [] } in
      subst (Went s (event.Solve d k)) (sym x.is)
      (stays s (event.Solve d k) Done g (λ i. refl)
      (growing.sends Pin Segment c n open_of s d r.outputs (record { state = s; deeds = [] }) (with_element Pin Segment c n open_of d r.element s) (Solves d k r.outputs r.element.keys.issued) refl refl (growing.at_start Pin Segment c n open_of s)))

  upper_went : (d : As) (k : ℕ) (s : Plant) (h : Happened) → ParentSolves c n k s h → Went s (event.Solve d k) h
  upper_went d k s h x =
      let r = parent.commit c (k, x.held) x.answer s.parent in
      let u = with_parent Pin Segment c n open_of r.parent s in
      let g : Going Pin Segment = record { state = puts Pin Segment c n open_of parent_as r.outputs u; deeds = Solves parent_as k r.outputs [] ∷ [] } in
      subst (Went s (event.Solve d k)) (sym x.is)
      (stays s (event.Solve d k) Done g (λ i. refl)
      (growing.sends Pin Segment c n open_of s parent_as r.outputs (record { state = s; deeds = [] }) (with_parent Pin Segment c n open_of r.parent s) (Solves parent_as k r.outputs []) refl refl (growing.at_start Pin Segment c n open_of s)))

  happens_went : (s : Plant) (e : Event) (h : Happened) → Happens c n s e h → Went s e h
  happens_went s (event.Load d g) h is =
      subst (Went s (event.Load d g)) (sym is)
      (pick s (event.Load d g) (is_element n d) _ _
      (pick s (event.Load d g) (is_full (s.current d).number (s.elements d).pending.rows) _ _ (refused s (event.Load d g) GenerationsFull) (load_went d g s))
      (refused s (event.Load d g) NoSuchPeer))
  happens_went s (event.Open j holder) h is = subst (Went s (event.Open j holder)) (sym is) (open_went j holder s)
  happens_went s (event.Shut j) h is = subst (Went s (event.Shut j)) (sym is) (shut_went j s)
  happens_went s (event.Feed j bytes) h is = subst (Went s (event.Feed j bytes)) (sym is) (feed_went j bytes s)
  happens_went s (event.Take j) h is = subst (Went s (event.Take j)) (sym is) (take_went j s)
  happens_went s (event.Carry a b) h is = subst (Went s (event.Carry a b)) (sym is) (carry_went a b s)
  happens_went s (event.Break a b) h is = subst (Went s (event.Break a b)) (sym is) (break_went a b s)
  happens_went s (event.Tick t) h is = subst (Went s (event.Tick t)) (sym is) (tick_went t s)
  happens_went s (event.Drain j holder) h is = subst (Went s (event.Drain j holder)) (sym is) (drain_went j holder s)
  happens_went s (event.Solve d k) h (inl none) = subst (Went s (event.Solve d k)) (sym none.1) (refused s (event.Solve d k) NoSuchPeer)
  happens_went s (event.Solve d k) h (inr (inl none)) = subst (Went s (event.Solve d k)) (sym none.2) (refused s (event.Solve d k) NoSuchJob)
  happens_went s (event.Solve d k) h (inr (inr (inl solves))) = solve_went d k s h solves.1
  happens_went s (event.Solve d k) h (inr (inr (inr solves))) = upper_went d k s h solves.2

  pub steps_went : (s : Plant) (e : Event) (h : Happened) → Steps c n s e h → Went s e h
  steps_went s e h (inl is) = happens_went s e h is
  steps_went s e h (inr none) = subst (Went s e) (sym none.1) (refused s e NoMemory)

  -- ---- a drain that is accepted leaves nothing, and comes from the holder

  pub drained_view : (j holder : ℕ) (s : Plant) (h : Happened) → Steps c n s (event.Drain j holder) h → is_accepted h.answer ≡ true → view j h.state ≡ Some (holder, [])
  drained_view j holder s h (inr none) ok = let no : false ≡ true = ap (λ (k : Happened). is_accepted k.answer) (sym none.1) ∙ ok in cc
  drained_view j holder s h (inl is) ok = subst Leaves (sym is) (go (s.accesses j).connection refl) ok
    where
      Leaves : Happened → Type 0
      Leaves k = is_accepted k.answer ≡ true → view j k.state ≡ Some (holder, [])

      held : (x : Connection) → (s.accesses j).connection ≡ Some x → (b : Bool) → (x.holder == holder) ≡ b →
          Leaves (cond b
          (record {
            answer = Ok (Drained (joined x.out) (is_down x.session.phase));
            state = with_access Pin Segment c n open_of j events.drained s;
            deeds = Hands j (joined x.out) ∷ [];
          })
          (events.refused Pin Segment c n open_of (NotHolder x.holder) s))
      held x at true e = λ ok'. emptied j s x at ∙ ap (λ (m : ℕ). let v : View = Some (m, []) in v) (eqb-true x.holder holder e)
      held x at false e = λ ok'. absurd (differ ok')

      go : (o : Option Connection) → (s.accesses j).connection ≡ o → Leaves (events.drain_open Pin Segment c n open_of j holder s o)
      go None at = λ ok'. absurd (differ ok')
      go (Some x) at = held x at (x.holder == holder) refl
