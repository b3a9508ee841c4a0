-- In every run no message that waits for an outside peer is without octets.
use Rattle.std.proofs.Common.{◌≡◌, ℕ, ◌+◌, ◌%◌, Bool, true, false, cond, ◌==◌, List, [], ◌∷◌, ◌++◌, Option, Some, None, is_some, sym, subst, inl, inr, refl}
use Rattle.disclosure.specs.Shown.{open_of}
use Rattle.te_links.specs.Rows.{Rows}
use Rattle.pcep_framing.specs.Frames.{joined}
use Rattle.pcep_session.specs.declared.session.Input.TheVariants as input
use Rattle.pcep_session.specs.Table.{new_state}
use Rattle.plant_text.specs.Settings.{is_element, is_linked, adjacency, adjacencies, peer_row}
use Rattle.plant_text.specs.Names.{parent_as}
use Rattle.plant_laws.specs.plant_model.Types.{As, Message, NetworkParts, Tick, Outside}
use Rattle.plant_laws.specs.plant_model.declared.event.Event.{Event}
use Rattle.plant_laws.specs.plant_model.declared.event.Event.TheVariants as event
use Rattle.plant_laws.specs.plant_model.declared.outcome.Outcome.{Outcome}
use Rattle.plant_laws.specs.plant_model.declared.outcome.Outcome.TheVariants.{Done}
use Rattle.plant_laws.specs.plant_model.declared.outcome.Refused.{Refused}
use Rattle.plant_laws.specs.plant_model.declared.outcome.Refused.TheVariants.{GenerationsFull, NoMemory, NoSuchJob, NoSuchPeer, NotHolder, NothingToCarry}
use Rattle.plant_laws.specs.plant_model.Names.{set_number, set_pair}
use Rattle.plant_laws.specs.plant_model.Settings.{place}
use Rattle.plant_laws.specs.plant_model.Wire.{Bytes, Codec}
use Rattle.plant_laws.specs.plant_model.Solving.{commit, job_found}
use Rattle.plant_laws.specs.plant_model.Parent as parent
use Rattle.plant_laws.specs.plant_model.State.{Access, Connection, Pops, Solves}
use Rattle.plant_laws.specs.plant_model.Deeds.{Going, break_adjacency, element_of, fall, input_of, on_connection, outside_input, inner_input, our_offer, expire, tick_adjacencies, tick_outside, with_access, with_element, with_inbox, with_parent, puts}
use Rattle.plant_laws.specs.plant_model.Events as events
use Rattle.plant_laws.specs.plant_model.Events.{is_down}
use Rattle.plant_laws.specs.plant_model.Plant.{ElementSolves, Entry, Happened, Happens, ParentSolves, Pin, Plant, Run, Segment, Steps, is_full, load, load_new, refused as no_load}
use Rattle.run_laws.specs.Outlets.{AreOne, messages_for}
use Rattle.run_laws.proofs.PeerLemmas.Growing as growing
use Rattle.run_laws.proofs.PeerLemmas.Growing.{View, more, texts, view_of}
use Rattle.run_laws.proofs.PeerLemmas.OutletRuns.{outlets_stand}

-- ---- lists of messages

abbrev pub HasOctets : Bytes → Type 0
HasOctets [] = ⊥
HasOctets (x ∷ xs) = Unit {0}

abbrev pub AllHave : List Bytes → Type 0
AllHave [] = Unit {0}
AllHave (b ∷ bs) = HasOctets b × AllHave bs

-- a codec whose messages have octets
abbrev pub WritesOctets : Codec → Type 0
WritesOctets c = (m : Message) → HasOctets (c.text m)

abbrev pub Waits : View → Type 0
Waits None = Unit {0}
Waits (Some v) = AllHave v.1

-- a queue without octets is empty
pub none_joined : (q : List Bytes) → AllHave q → joined q ≡ [] → q ≡ []
none_joined [] have none = refl
none_joined ([] ∷ q) have none = absurd have.0
none_joined ((x ∷ xs) ∷ q) have none = absurd (differ x (xs ++ joined q) none)
  where
    differ : (y : ℕ) (ys : List ℕ) → (y ∷ ys) ≡ [] → ⊥
    differ y ys e = cc

have_append : (xs ys : List Bytes) → AllHave xs → AllHave ys → AllHave (xs ++ ys)
have_append [] ys h k = k
have_append (x ∷ xs) ys h k = (h.0, have_append xs ys h.1 k)

texts_have : (c : Codec) → WritesOctets c → (ms : List Message) → AllHave (texts c ms)
texts_have c writes [] = tt
texts_have c writes (m ∷ ms) = (writes m, texts_have c writes ms)

more_waits : (bs : List Bytes) (v : View) → AllHave bs → Waits v → Waits (more bs v)
more_waits bs None h k = tt
more_waits bs (Some v) h k = have_append v.1 bs k h

-- ---- what an event leaves

module _ (c : Codec) (n : NetworkParts) (writes : WritesOctets c) where
  abbrev pub view : ℕ → Plant → View
  view i s = growing.view Pin Segment c n open_of i s

  abbrev Grown : Plant → Going Pin Segment → Type 0
  Grown s g = growing.Grown Pin Segment c n open_of s g

  abbrev pub AllWait : Plant → Type 0
  AllWait s = (i : ℕ) → Waits (view i s)

  abbrev Keeps : Plant → Happened → Type 0
  Keeps s h = AllWait s → AllWait h.state

  pick : (s : Plant) (b : Bool) (h k : Happened) → Keeps s h → Keeps s k → Keeps s (cond b h k)
  pick s true h k x y = x
  pick s false h k x y = y

  refuses : (s : Plant) (why : Refused) → Keeps s (events.refused Pin Segment c n open_of why s)
  refuses s why = λ all. all

  grown_wait : (s : Plant) (g : Going Pin Segment) → Grown s g → AllWait s → AllWait g.state
  grown_wait s g grown all i =
      subst (λ (v : View). Waits v) (sym (grown i)) (more_waits (texts c (messages_for i g.deeds)) (view i s) (texts_have c writes (messages_for i g.deeds)) (all i))

  answers : (s : Plant) (out : Outcome) (g : Going Pin Segment) → Grown s g → Keeps s (events.answered Pin Segment c n open_of out g)
  answers s out g grown = grown_wait s g grown

  -- one connection is set
  set_wait : (j : ℕ) (a : Access) (s : Plant) → Waits (view_of a.connection) → AllWait s → AllWait (record s { accesses = set_number j a s.accesses })
  set_wait j a s waits all i = go (j == i)
    where
      go : (b : Bool) → Waits (view_of (cond b a (s.accesses i)).connection)
      go true = waits
      go false = all i

  open_keeps : (j holder : ℕ) (s : Plant) → Keeps s (events.open_peer Pin Segment c n open_of j holder s)
  open_keeps j holder s = pick s (is_some (peer_row j n.peers)) _ _ (go (s.accesses j).connection) (refuses s NoSuchPeer)
    where
      t : Plant
      t = events.connect Pin Segment c n open_of j holder s

      g : Going Pin Segment
      g = outside_input Pin Segment c n open_of j input.Begin (record { state = t; deeds = [] })

      made : Access
      made = record {
        opened = (s.accesses j).opened + 1;
        connection = Some (record { holder = holder; session = new_state (our_offer ((s.accesses j).opened % 256)) (record { 0 = s.clock }); framing = record { held = []; bad = false }; inbox = []; out = [] });
      }

      grown : Grown t g
      grown = growing.outside_input_on Pin Segment c n open_of t j input.Begin (record { state = t; deeds = [] }) (growing.at_start Pin Segment c n open_of t)

      go : (o : Option Connection) → Keeps s (events.open_new Pin Segment c n open_of j holder s o)
      go None = λ all. grown_wait t g grown (set_wait j made s tt all)
      go (Some x) = refuses s NoSuchPeer

  shut_keeps : (j : ℕ) (s : Plant) → Keeps s (events.shut Pin Segment c n open_of j s)
  shut_keeps j s = go (s.accesses j).connection
    where
      g : Going Pin Segment
      g = fall Pin Segment c n open_of (element_of n j) (Outside j) (record { state = s; deeds = [] })

      closed : Access
      closed = record { opened = (s.accesses j).opened; connection = None }

      grown : Grown s g
      grown = growing.fall_on Pin Segment c n open_of s (element_of n j) (Outside j) (record { state = s; deeds = [] }) (growing.at_start Pin Segment c n open_of s)

      go : (o : Option Connection) → Keeps s (events.shut_open Pin Segment c n open_of j s o)
      go None = refuses s NoSuchPeer
      go (Some x) = λ all. set_wait j closed g.state tt (grown_wait s g grown all)

  drain_keeps : (j holder : ℕ) (s : Plant) → Keeps s (events.drain Pin Segment c n open_of j holder s)
  drain_keeps j holder s = go (s.accesses j).connection
    where
      nothing : (o : Option Connection) → Waits (view_of (on_connection events.drained (record { opened = (s.accesses j).opened; connection = o })).connection)
      nothing None = tt
      nothing (Some k) = tt

      go : (o : Option Connection) → Keeps s (events.drain_open Pin Segment c n open_of j holder s o)
      go None = refuses s NoSuchPeer
      go (Some x) = pick s (x.holder == holder) _ _ (λ all. set_wait j (on_connection events.drained (s.accesses j)) s (nothing (s.accesses j).connection) all) (refuses s (NotHolder x.holder))

  feed_keeps : (j : ℕ) (bytes : Bytes) (s : Plant) → Keeps s (events.feed Pin Segment c n open_of j bytes s)
  feed_keeps j bytes s = go (s.accesses j).connection
    where
      t : Plant
      t = with_access Pin Segment c n open_of j (events.fed c bytes) s

      grown : (b : Bool) → Grown s (record { state = cond b s t; deeds = [] })
      grown true = growing.at_start Pin Segment c n open_of s
      grown false = growing.rests Pin Segment c n open_of s (record { state = s; deeds = [] }) t (growing.access_keeps Pin Segment c n open_of j (events.fed c bytes) s (λ k. refl)) (growing.at_start Pin Segment c n open_of s)

      go : (o : Option Connection) → Keeps s (events.feed_open Pin Segment c n open_of j bytes s o)
      go None = refuses s NoSuchPeer
      go (Some x) = answers s Done (record { state = cond (is_down x.session.phase) s t; deeds = [] }) (grown (is_down x.session.phase))

  take_keeps : (j : ℕ) (s : Plant) → Keeps s (events.take Pin Segment c n open_of j s)
  take_keeps j s = go (s.accesses j).connection
    where
      item : (inbox : List (Option Bytes)) → Keeps s (events.take_item Pin Segment c n open_of j s inbox)
      item [] = refuses s NothingToCarry
      item (x ∷ rest) =
          let t = with_access Pin Segment c n open_of j (with_inbox rest) s in
          let g : Going Pin Segment = record { state = t; deeds = [] } in
          answers s Done (outside_input Pin Segment c n open_of j (input_of c x) g)
          (growing.outside_input_on Pin Segment c n open_of s j (input_of c x) g
          (growing.rests Pin Segment c n open_of s (record { state = s; deeds = [] }) t (growing.access_keeps Pin Segment c n open_of j (with_inbox rest) s (λ k. refl)) (growing.at_start Pin Segment c n open_of s)))

      go : (o : Option Connection) → Keeps s (events.take_open Pin Segment c n open_of j s o)
      go None = refuses s NoSuchPeer
      go (Some x) = item x.inbox

  carry_keeps : (a b : As) (s : Plant) → Keeps s (events.carry Pin Segment c n open_of a b s)
  carry_keeps a b s = pick s (is_linked n a b) _ _ (go (s.queues a b)) (refuses s NoSuchPeer)
    where
      go : (q : List Bytes) → Keeps s (events.carry_first Pin Segment c n open_of a b s q)
      go [] = refuses s NothingToCarry
      go (x ∷ rest) =
          let g : Going Pin Segment = record { state = record s { queues = set_pair a b rest s.queues }; deeds = Pops a b ∷ [] } in
          answers s Done (inner_input Pin Segment c n open_of (adjacency a b) b a (input_of c (Some x)) g)
          (growing.inner_input_on Pin Segment c n open_of s (adjacency a b) b a (input_of c (Some x)) g
          (growing.sends Pin Segment c n open_of s a [] (record { state = s; deeds = [] }) g.state (Pops a b) refl refl (growing.at_start Pin Segment c n open_of s)))

  break_keeps : (a b : As) (s : Plant) → Keeps s (events.break Pin Segment c n open_of a b s)
  break_keeps a b s =
      pick s (is_linked n a b) _ _
      (answers s Done (break_adjacency Pin Segment c n open_of (adjacency a b) (record { state = s; deeds = [] }))
      (growing.break_adjacency_on Pin Segment c n open_of s (adjacency a b) (record { state = s; deeds = [] }) (growing.at_start Pin Segment c n open_of s)))
      (refuses s NoSuchPeer)

  tick_keeps : (t : Tick) (s : Plant) → Keeps s (events.tick Pin Segment c n open_of t.0 s)
  tick_keeps t s =
      let now = events.later s.clock t.0 in
      let g : Going Pin Segment = record { state = record s { clock = now }; deeds = [] } in
      let h = tick_outside Pin Segment c n open_of 0 n.peers (record { 0 = now }) g in
      let k = tick_adjacencies Pin Segment c n open_of (adjacencies n) (record { 0 = now }) h in
      answers s Done (expire Pin Segment c n open_of now k)
      (growing.expire_on Pin Segment c n open_of s now k
      (growing.tick_adjacencies_on Pin Segment c n open_of s (adjacencies n) (record { 0 = now }) h
      (growing.tick_outside_on Pin Segment c n open_of s 0 n.peers (record { 0 = now }) g
      (growing.rests Pin Segment c n open_of s (record { state = s; deeds = [] }) g.state (λ i. refl) (growing.at_start Pin Segment c n open_of s)))))

  solve_keeps : (d : As) (k : ℕ) (s : Plant) (h : Happened) → ElementSolves c n d k s h → Keeps s h
  solve_keeps d k s h x =
      let r = commit c (place n d) (k, x.held) x.down s.clock (λ b. b.segment) (job_found x.rows.source_known x.rows.target_known x.rows.best) (s.elements d) in
      let g : Going Pin Segment = record { state = puts Pin Segment c n open_of d r.outputs (with_element Pin Segment c n open_of d r.element s); deeds = Solves d k r.outputs r.element.keys.issued ∷ [] } in
      subst (Keeps s) (sym x.is)
      (answers s Done g
      (growing.sends Pin Segment c n open_of s d r.outputs (record { state = s; deeds = [] }) (with_element Pin Segment c n open_of d r.element s) (Solves d k r.outputs r.element.keys.issued) refl refl (growing.at_start Pin Segment c n open_of s)))

  upper_keeps : (k : ℕ) (s : Plant) (h : Happened) → ParentSolves c n k s h → Keeps s h
  upper_keeps k s h x =
      let r = parent.commit c (k, x.held) x.answer s.parent in
      let g : Going Pin Segment = record { state = puts Pin Segment c n open_of parent_as r.outputs (with_parent Pin Segment c n open_of r.parent s); deeds = Solves parent_as k r.outputs [] ∷ [] } in
      subst (Keeps s) (sym x.is)
      (answers s Done g
      (growing.sends Pin Segment c n open_of s parent_as r.outputs (record { state = s; deeds = [] }) (with_parent Pin Segment c n open_of r.parent s) (Solves parent_as k r.outputs []) refl refl (growing.at_start Pin Segment c n open_of s)))

  load_keeps : (d : As) (g : Rows) (s : Plant) → Keeps s (load c n d g s)
  load_keeps d g s =
      pick s (is_element n d) _ _
      (pick s (is_full (s.current d).number (s.elements d).pending.rows) (no_load c n GenerationsFull s) (load_new c n d g s) (λ all. all) (λ all. all))
      (λ all. all)

  happens_keep : (s : Plant) (e : Event) (h : Happened) → Happens c n s e h → Keeps s h
  happens_keep s (event.Load d g) h is = subst (Keeps s) (sym is) (load_keeps d g s)
  happens_keep s (event.Open j holder) h is = subst (Keeps s) (sym is) (open_keeps j holder s)
  happens_keep s (event.Shut j) h is = subst (Keeps s) (sym is) (shut_keeps j s)
  happens_keep s (event.Feed j bytes) h is = subst (Keeps s) (sym is) (feed_keeps j bytes s)
  happens_keep s (event.Take j) h is = subst (Keeps s) (sym is) (take_keeps j s)
  happens_keep s (event.Carry a b) h is = subst (Keeps s) (sym is) (carry_keeps a b s)
  happens_keep s (event.Break a b) h is = subst (Keeps s) (sym is) (break_keeps a b s)
  happens_keep s (event.Tick t) h is = subst (Keeps s) (sym is) (tick_keeps t s)
  happens_keep s (event.Drain j holder) h is = subst (Keeps s) (sym is) (drain_keeps j holder s)
  happens_keep s (event.Solve d k) h (inl none) = subst (Keeps s) (sym none.1) (refuses s NoSuchPeer)
  happens_keep s (event.Solve d k) h (inr (inl none)) = subst (Keeps s) (sym none.2) (refuses s NoSuchJob)
  happens_keep s (event.Solve d k) h (inr (inr (inl solves))) = solve_keeps d k s h solves.1
  happens_keep s (event.Solve d k) h (inr (inr (inr solves))) = upper_keeps k s h solves.2

  steps_keep : (s : Plant) (e : Event) (h : Happened) → Steps c n s e h → Keeps s h
  steps_keep s e h (inl is) = happens_keep s e h is
  steps_keep s e h (inr none) = subst (Keeps s) (sym none.1) (refuses s NoMemory)

  none_open : (o : Option Connection) → AreOne c None o → Waits (view_of o)
  none_open None one = tt
  none_open (Some k) one = absurd one

  pub all_wait : (es : List Entry) (s : Plant) → Run c n es s → AllWait s
  all_wait [] s is = λ (i : ℕ). none_open (s.accesses i).connection (outlets_stand c n [] s is i)
  all_wait (e ∷ older) s run = steps_keep run.0 e.event (record { answer = e.answer; state = s; deeds = e.deeds }) run.3 (all_wait older run.0 run.1)
