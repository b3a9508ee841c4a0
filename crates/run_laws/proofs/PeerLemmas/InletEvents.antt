-- What an event does to framers and inboxes, and what it takes.
use Rattle.std.proofs.Common.{◌≡◌, ◌⊎◌, ℕ, ◌+◌, ◌%◌, Bool, true, false, cond, ◌==◌, List, [], ◌∷◌, ◌++◌, Option, Some, None, is_some, Ok, sym, ◌∙◌, subst, inl, inr, refl}
use Rattle.std.specs.Prelude.{Contains}
use Rattle.std.proofs.lemmas.Bool.{cases_Bool, eqb-true}
use Rattle.std.proofs.lemmas.List.Elements.{Contains-append_cases, Contains-append_left, Contains-append_right}
use Rattle.plant_laws.specs.plant_model.Types.{As, Tick, Message, NetworkParts, Outside}
use Rattle.disclosure.specs.Shown.{open_of}
use Rattle.te_links.specs.Rows.{Rows}
use Rattle.border_costs.proofs.Members.{contains_head, contains_none, contains_tail}
use Rattle.pcep_framing.specs.Feeding.{feed_of}
use Rattle.pcep_framing.specs.Frames.{HasFed, joined}
use Rattle.pcep_framing.proofs.FrameLemmas.{fed_nothing}
use Rattle.pcep_session.specs.declared.session.Input.TheVariants as input
use Rattle.pcep_session.specs.Table.{new_state}
use Rattle.plant_text.specs.Settings.{is_element, is_linked, adjacency, adjacencies, peer_row}
use Rattle.plant_text.specs.Names.{parent_as}
use Rattle.plant_laws.specs.plant_model.declared.event.Event.{Event}
use Rattle.plant_laws.specs.plant_model.declared.event.Event.TheVariants as event
use Rattle.plant_laws.specs.plant_model.declared.outcome.Outcome.TheVariants.{Done, Drained}
use Rattle.plant_laws.specs.plant_model.declared.outcome.Refused.{Refused}
use Rattle.plant_laws.specs.plant_model.declared.outcome.Refused.TheVariants.{GenerationsFull, NoMemory, NoSuchJob, NoSuchPeer, NotHolder, NothingToCarry}
use Rattle.plant_laws.specs.plant_model.Blind.{is_accepted}
use Rattle.plant_laws.specs.plant_model.Deeds.{Going, break_adjacency, element_of, expire, fall, inner_input, input_of, on_connection, our_offer, outside_input, puts, read_as, tick_adjacencies, tick_outside, with_access, with_element, with_inbox, with_parent}
use Rattle.plant_laws.specs.plant_model.Events as events
use Rattle.plant_laws.specs.plant_model.Events.{bad_item, is_down, split_all}
use Rattle.plant_laws.specs.plant_model.Names.{set_pair}
use Rattle.plant_laws.specs.plant_model.Parent as parent
use Rattle.plant_laws.specs.plant_model.Plant.{ElementSolves, Happened, Happens, ParentSolves, Pin, Plant, Segment, Steps, is_full, load_new}
use Rattle.plant_laws.specs.plant_model.RealWire.{wire}
use Rattle.plant_laws.specs.plant_model.Settings.{place}
use Rattle.plant_laws.specs.plant_model.Solving.{commit, job_found}
use Rattle.plant_laws.specs.plant_model.State.{Access, Connection, Hands, Pops, Solves}
use Rattle.plant_laws.specs.plant_model.Wire.{Bytes}
use Rattle.run_laws.specs.Inlets.{IsPart, fed_to, streams_with}
use Rattle.run_laws.proofs.PeerLemmas.Fading as fading
use Rattle.run_laws.proofs.PeerLemmas.Fading.{AllFade, AllTaken, CameFrom, Fades}
use Rattle.run_laws.proofs.PeerLemmas.Frames.{arrived_is, part_more, piece_fed}

-- of each peer, the streams that it fed
abbrev pub Streams : Type 0
Streams = ℕ → List Bytes

-- bytes of one of them
pub record IsOf (str : Streams) (i : ℕ) (part : Bytes) : Type 0 where
  pub stream : Bytes
  pub fed : Contains (str i) stream
  pub is_part : IsPart stream part

-- a connection whose stream this is
pub record Holds (stream : Bytes) (k : Connection) : Type 0 where
  pub fed : is_down k.session.phase ≡ false → (ms : List Bytes) × HasFed k.framing stream ms
  pub inbox : (part : Bytes) → Contains k.inbox (Some part) → IsPart stream part

abbrev pub AreHeld : List Bytes → Option Connection → Type 0
AreHeld streams None = Unit {0}
AreHeld [] (Some k) = ⊥
AreHeld (stream ∷ older) (Some k) = Holds stream k

fades_hold : (stream : Bytes) (k l : Connection) → Fades k l → Holds stream k → Holds stream l
fades_hold stream k l f h = record {
  fed = λ up. elim (cases_Bool (is_down k.session.phase)) [
    | inl over ↦ absurd (differ (sym (f.over over) ∙ up))
    | inr runs ↦ (let x = h.fed runs in (x.0, subst (λ framing. HasFed framing stream x.0) (sym f.framing) x.1))
  ];
  inbox = λ part c. elim f.inbox [
    | inl same ↦ h.inbox part (subst (λ (xs : List (Option Bytes)). Contains xs (Some part)) same c)
    | inr none ↦ absurd (contains_none (Some part) (subst (λ (xs : List (Option Bytes)). Contains xs (Some part)) none c))
  ];
}
  where
    differ : true ≡ false → ⊥
    differ e = cc

fade_held : (streams : List Bytes) (o p : Option Connection) → AllFade o p → AreHeld streams o → AreHeld streams p
fade_held streams None None f h = tt
fade_held streams None (Some l) f h = absurd f
fade_held streams (Some k) None f h = tt
fade_held [] (Some k) (Some l) f h = absurd h
fade_held (stream ∷ older) (Some k) (Some l) f h = fades_hold stream k l f h

module _ (n : NetworkParts) where
  abbrev at : ℕ → Plant → Option Connection
  at i s = (s.accesses i).connection

  abbrev pub AllHeld : Streams → Plant → Type 0
  AllHeld str s = (i : ℕ) → AreHeld (str i) (at i s)

  abbrev Grown : Streams → Plant → Going Pin Segment → Type 0
  Grown str s g = fading.Grown Pin Segment wire n open_of (IsOf str) s g

  abbrev start : Plant → Going Pin Segment
  start s = record { state = s; deeds = [] }

  begin : (str : Streams) (s : Plant) → Grown str s (start s)
  begin str s = fading.at_start Pin Segment wire n open_of (IsOf str) s

  -- the streams after an event
  abbrev pub next : Streams → Event → Happened → Streams
  next str e h i = cond (is_accepted h.answer) (streams_with i e (str i)) (str i)

  pub record Went (str : Streams) (s : Plant) (e : Event) (h : Happened) : Type 0 where
    pub held : AllHeld (next str e h) h.state
    pub taken : AllTaken wire (IsOf (next str e h)) h.deeds

  pick : (str : Streams) (s : Plant) (e : Event) (b : Bool) (h k : Happened) → Went str s e h → Went str s e k → Went str s e (cond b h k)
  pick str s e true h k x y = x
  pick str s e false h k x y = y

  refused : (str : Streams) (s : Plant) (e : Event) (why : Refused) → AllHeld str s → Went str s e (events.refused Pin Segment wire n open_of why s)
  refused str s e why held = record { held = held; taken = tt }

  fades_all : (str : Streams) (s : Plant) (g : Going Pin Segment) → AllHeld str s → Grown str s g → AllHeld str g.state
  fades_all str s g held r i = fade_held (str i) (at i s) (at i g.state) (r.fades i) (held i)

  -- ---- loads, links, ticks, drains, solves

  done : (str : Streams) (s : Plant) (g : Going Pin Segment) → AllHeld str s → Grown str s g → AllHeld str g.state × AllTaken wire (IsOf str) g.deeds
  done str s g held r = (fades_all str s g held r, r.taken)

  load_went : (str : Streams) (d : As) (g : Rows) (s : Plant) → AllHeld str s → Went str s (event.Load d g) (load_new wire n d g s)
  load_went str d g s held = record { held = held; taken = (tt, tt) }

  carry_went : (str : Streams) (a b : As) (s : Plant) → AllHeld str s → Went str s (event.Carry a b) (events.carry Pin Segment wire n open_of a b s)
  carry_went str a b s held = pick str s (event.Carry a b) (is_linked n a b) _ _ (go (s.queues a b)) (refused str s (event.Carry a b) NoSuchPeer held)
    where
      go : (q : List Bytes) → Went str s (event.Carry a b) (events.carry_first Pin Segment wire n open_of a b s q)
      go [] = refused str s (event.Carry a b) NothingToCarry held
      go (x ∷ rest) =
          let g : Going Pin Segment = record { state = record s { queues = set_pair a b rest s.queues }; deeds = Pops a b ∷ [] } in
          let h = inner_input Pin Segment wire n open_of (adjacency a b) b a (input_of wire (Some x)) g in
          let r : Grown str s g = fading.sends Pin Segment wire n open_of (IsOf str) s a [] (start s) g.state (Pops a b) refl tt (begin str s) in
          let all = done str s h held (fading.inner_input_on Pin Segment wire n open_of (IsOf str) s (adjacency a b) b a (input_of wire (Some x)) g r) in
          record { held = all.0; taken = all.1 }

  break_went : (str : Streams) (a b : As) (s : Plant) → AllHeld str s → Went str s (event.Break a b) (events.break Pin Segment wire n open_of a b s)
  break_went str a b s held =
      let g = break_adjacency Pin Segment wire n open_of (adjacency a b) (start s) in
      let all = done str s g held (fading.break_adjacency_on Pin Segment wire n open_of (IsOf str) s (adjacency a b) (start s) (begin str s)) in
      pick str s (event.Break a b) (is_linked n a b) _ _ (record { held = all.0; taken = all.1 }) (refused str s (event.Break a b) NoSuchPeer held)

  tick_went : (str : Streams) (t : Tick) (s : Plant) → AllHeld str s → Went str s (event.Tick t) (events.tick Pin Segment wire n open_of t.0 s)
  tick_went str t s held =
      let now = events.later s.clock t.0 in
      let g : Going Pin Segment = record { state = record s { clock = now }; deeds = [] } in
      let h = tick_outside Pin Segment wire n open_of 0 n.peers (record { 0 = now }) g in
      let k = tick_adjacencies Pin Segment wire n open_of (adjacencies n) (record { 0 = now }) h in
      let first : Grown str s g = fading.rests Pin Segment wire n open_of (IsOf str) s (start s) g.state (λ i. fading.fades_here (at i s)) (begin str s) in
      let all =
      done str s (expire Pin Segment wire n open_of now k) held
      (fading.expire_on Pin Segment wire n open_of (IsOf str) s now k
      (fading.tick_adjacencies_on Pin Segment wire n open_of (IsOf str) s (adjacencies n) (record { 0 = now }) h
      (fading.tick_outside_on Pin Segment wire n open_of (IsOf str) s 0 n.peers (record { 0 = now }) g first))) in
      record { held = all.0; taken = all.1 }

  drain_went : (str : Streams) (j holder : ℕ) (s : Plant) → AllHeld str s → Went str s (event.Drain j holder) (events.drain Pin Segment wire n open_of j holder s)
  drain_went str j holder s held = go (s.accesses j).connection
    where
      t : Plant
      t = with_access Pin Segment wire n open_of j events.drained s

      handed : Connection → Happened
      handed x = record { answer = Ok (Drained (joined x.out) (is_down x.session.phase)); state = t; deeds = Hands j (joined x.out) ∷ [] }

      still : AllHeld str t
      still i = fade_held (str i) (at i s) (at i t) (fading.access_fades Pin Segment wire n open_of (IsOf str) j events.drained s (λ k is. record { framing = refl; over = λ h. h; inbox = inl refl }) i) (held i)

      go : (o : Option Connection) → Went str s (event.Drain j holder) (events.drain_open Pin Segment wire n open_of j holder s o)
      go None = refused str s (event.Drain j holder) NoSuchPeer held
      go (Some x) =
          pick str s (event.Drain j holder) (x.holder == holder) (handed x) (events.refused Pin Segment wire n open_of (NotHolder x.holder) s)
          (record { held = still; taken = (tt, tt) }) (refused str s (event.Drain j holder) (NotHolder x.holder) held)

  solve_went : (str : Streams) (d : As) (k : ℕ) (s : Plant) (h : Happened) → AllHeld str s → ElementSolves wire n d k s h → Went str s (event.Solve d k) h
  solve_went str d k s h held x =
      let r = commit wire (place n d) (k, x.held) x.down s.clock (λ b. b.segment) (job_found x.rows.source_known x.rows.target_known x.rows.best) (s.elements d) in
      let u = with_element Pin Segment wire n open_of d r.element s in
      let g : Going Pin Segment = record { state = puts Pin Segment wire n open_of d r.outputs u; deeds = Solves d k r.outputs r.element.keys.issued ∷ [] } in
      let all = done str s g held (fading.sends Pin Segment wire n open_of (IsOf str) s d r.outputs (start s) u (Solves d k r.outputs r.element.keys.issued) refl tt (begin str s)) in
      subst (Went str s (event.Solve d k)) (sym x.is) (record { held = all.0; taken = all.1 })

  upper_went : (str : Streams) (d : As) (k : ℕ) (s : Plant) (h : Happened) → AllHeld str s → ParentSolves wire n k s h → Went str s (event.Solve d k) h
  upper_went str d k s h held x =
      let r = parent.commit wire (k, x.held) x.answer s.parent in
      let u = with_parent Pin Segment wire n open_of r.parent s in
      let g : Going Pin Segment = record { state = puts Pin Segment wire n open_of parent_as r.outputs u; deeds = Solves parent_as k r.outputs [] ∷ [] } in
      let all = done str s g held (fading.sends Pin Segment wire n open_of (IsOf str) s parent_as r.outputs (start s) u (Solves parent_as k r.outputs []) refl tt (begin str s)) in
      subst (Went str s (event.Solve d k)) (sym x.is) (record { held = all.0; taken = all.1 })

  -- ---- a connection is opened, shut, fed, taken from

  open_went : (str : Streams) (j holder : ℕ) (s : Plant) → AllHeld str s → Went str s (event.Open j holder) (events.open_peer Pin Segment wire n open_of j holder s)
  open_went str j holder s held =
      pick str s (event.Open j holder) (is_some (peer_row j n.peers)) _ _ (go (s.accesses j).connection) (refused str s (event.Open j holder) NoSuchPeer held)
    where
      t : Plant
      t = events.connect Pin Segment wire n open_of j holder s

      g : Going Pin Segment
      g = outside_input Pin Segment wire n open_of j input.Begin (start t)

      str' : Streams
      str' i = cond (j == i) ([] ∷ str i) (str i)

      made : Connection
      made = record { holder = holder; session = new_state (our_offer ((s.accesses j).opened % 256)) (record { 0 = s.clock }); framing = record { held = []; bad = false }; inbox = []; out = [] }

      access : Access
      access = record { opened = (s.accesses j).opened + 1; connection = Some made }

      held' : AllHeld str' t
      held' i = by (j == i)
        where
          by : (b : Bool) → AreHeld (cond b ([] ∷ str i) (str i)) (cond b access (s.accesses i)).connection
          by true = record { fed = λ up. ([], fed_nothing); inbox = λ part c. absurd (contains_none (Some part) c) }
          by false = held i

      begins_other : (m : Message) → input.Begin ≡ input.Got m → ⊥
      begins_other m e = cc

      went : AllHeld str' g.state × AllTaken wire (IsOf str') g.deeds
      went = done str' t g held' (fading.outside_input_on Pin Segment wire n open_of (IsOf str') t j input.Begin (start t) (λ m e. absurd (begins_other m e)) (begin str' t))

      go : (o : Option Connection) → Went str s (event.Open j holder) (events.open_new Pin Segment wire n open_of j holder s o)
      go None = record { held = went.0; taken = went.1 }
      go (Some x) = refused str s (event.Open j holder) NoSuchPeer held

  shut_went : (str : Streams) (j : ℕ) (s : Plant) → AllHeld str s → Went str s (event.Shut j) (events.shut Pin Segment wire n open_of j s)
  shut_went str j s held = go (s.accesses j).connection
    where
      g : Going Pin Segment
      g = fall Pin Segment wire n open_of (element_of n j) (Outside j) (start s)

      r : Grown str s g
      r = fading.fall_on Pin Segment wire n open_of (IsOf str) s (element_of n j) (Outside j) (start s) (begin str s)

      closed : Access
      closed = record { opened = (s.accesses j).opened; connection = None }

      held' : (i : ℕ) (b : Bool) → AreHeld (str i) (cond b closed (g.state.accesses i)).connection
      held' i true = none (str i)
        where
          none : (streams : List Bytes) → AreHeld streams None
          none streams = tt
      held' i false = fades_all str s g held r i

      go : (o : Option Connection) → Went str s (event.Shut j) (events.shut_open Pin Segment wire n open_of j s o)
      go None = refused str s (event.Shut j) NoSuchPeer held
      go (Some x) = record { held = λ i. held' i (j == i); taken = r.taken }

  -- one connection is fed
  arrives : (stream bytes : Bytes) (k : Connection) → (ms : List Bytes) × HasFed k.framing stream ms → Holds stream k → (part : Bytes) →
      Contains (k.inbox ++ split_all wire (feed_of k.framing bytes).frames) (Some part) ⊎ Contains (bad_item (feed_of k.framing bytes).framing.bad) (Some part) → IsPart (stream ++ bytes) part
  arrives stream bytes k before h part (inr b) =
      arrived_is k.framing stream bytes before.0 part before.1
      (Contains-append_right (split_all wire (feed_of k.framing bytes).frames) (bad_item (feed_of k.framing bytes).framing.bad) (Some part) b)
  arrives stream bytes k before h part (inl c) = elim (Contains-append_cases k.inbox (split_all wire (feed_of k.framing bytes).frames) (Some part) c) [
    | inl old ↦ part_more stream bytes part (h.inbox part old)
    | inr new ↦
        arrived_is k.framing stream bytes before.0 part before.1
        (Contains-append_left (split_all wire (feed_of k.framing bytes).frames) (bad_item (feed_of k.framing bytes).framing.bad) (Some part) new)
  ]

  fed_holds : (stream bytes : Bytes) (k : Connection) → is_down k.session.phase ≡ false → Holds stream k → Holds (stream ++ bytes) (events.fed wire bytes k)
  fed_holds stream bytes k up h =
      let before = h.fed up in
      record {
        fed = λ up'. (before.0 ++ (feed_of k.framing bytes).frames, piece_fed k.framing stream bytes before.0 before.1);
        inbox = λ part c. arrives stream bytes k (h.fed up) h part
            (Contains-append_cases (k.inbox ++ split_all wire (feed_of k.framing bytes).frames) (bad_item (feed_of k.framing bytes).framing.bad) (Some part) c);
      }

  over_holds : (stream bytes : Bytes) (k : Connection) → is_down k.session.phase ≡ true → Holds stream k → Holds (stream ++ bytes) k
  over_holds stream bytes k over h = record { fed = λ up. absurd (differ (sym over ∙ up)); inbox = λ part c. part_more stream bytes part (h.inbox part c) }
    where
      differ : true ≡ false → ⊥
      differ e = cc

  fed_held : (bytes : Bytes) (streams : List Bytes) (o : Option Connection) (k : Connection) → o ≡ Some k → is_down k.session.phase ≡ false → AreHeld streams o → AreHeld (fed_to bytes streams) (Some (events.fed wire bytes k))
  fed_held bytes [] o k is up h = absurd (subst (λ (p : Option Connection). AreHeld [] p) is h)
  fed_held bytes (stream ∷ older) o k is up h = fed_holds stream bytes k up (subst (λ (p : Option Connection). AreHeld (stream ∷ older) p) is h)

  over_held : (bytes : Bytes) (streams : List Bytes) (o : Option Connection) (k : Connection) → o ≡ Some k → is_down k.session.phase ≡ true → AreHeld streams o → AreHeld (fed_to bytes streams) o
  over_held bytes [] o k is over h = h
  over_held bytes (stream ∷ older) o k is over h =
      subst (λ (p : Option Connection). AreHeld ((stream ++ bytes) ∷ older) p) (sym is) (over_holds stream bytes k over (subst (λ (p : Option Connection). AreHeld (stream ∷ older) p) is h))

  feed_went : (str : Streams) (j : ℕ) (bytes : Bytes) (s : Plant) → AllHeld str s → Went str s (event.Feed j bytes) (events.feed Pin Segment wire n open_of j bytes s)
  feed_went str j bytes s held = go (s.accesses j).connection refl
    where
      t : Plant
      t = with_access Pin Segment wire n open_of j (events.fed wire bytes) s

      fed_at : (k : Connection) → (s.accesses j).connection ≡ Some k → is_down k.session.phase ≡ false → (i : ℕ) (b : Bool) → (j == i) ≡ b → AreHeld (cond b (fed_to bytes (str i)) (str i)) (cond b (on_connection (events.fed wire bytes) (s.accesses j)) (s.accesses i)).connection
      fed_at k is up i true e =
          let same : j ≡ i = eqb-true j i e in
          let here : AreHeld (fed_to bytes (str j)) (on_connection (events.fed wire bytes) (record { opened = (s.accesses j).opened; connection = (s.accesses j).connection })).connection =
          subst (λ (o : Option Connection). AreHeld (fed_to bytes (str j)) (on_connection (events.fed wire bytes) (record { opened = (s.accesses j).opened; connection = o })).connection) (sym is) (fed_held bytes (str j) (at j s) k is up (held j)) in
          subst (λ (m : ℕ). AreHeld (fed_to bytes (str m)) (on_connection (events.fed wire bytes) (s.accesses j)).connection) same here
      fed_at k is up i false e = held i

      over_at : (k : Connection) → (s.accesses j).connection ≡ Some k → is_down k.session.phase ≡ true → (i : ℕ) (b : Bool) → (j == i) ≡ b → AreHeld (cond b (fed_to bytes (str i)) (str i)) (at i s)
      over_at k is over i true e = subst (λ (m : ℕ). AreHeld (fed_to bytes (str m)) (at m s)) (eqb-true j i e) (over_held bytes (str j) (at j s) k is over (held j))
      over_at k is over i false e = held i

      by : (k : Connection) → (s.accesses j).connection ≡ Some k → (b : Bool) → is_down k.session.phase ≡ b → Went str s (event.Feed j bytes) (events.answered Pin Segment wire n open_of Done (record { state = cond b s t; deeds = [] }))
      by k is true over = record { held = λ i. over_at k is over i (j == i) refl; taken = tt }
      by k is false up = record { held = λ i. fed_at k is up i (j == i) refl; taken = tt }

      go : (o : Option Connection) → (s.accesses j).connection ≡ o → Went str s (event.Feed j bytes) (events.feed_open Pin Segment wire n open_of j bytes s o)
      go None is = refused str s (event.Feed j bytes) NoSuchPeer held
      go (Some k) is = by k is (is_down k.session.phase) refl

  -- the first item of an inbox
  first_is : (streams : List Bytes) (o : Option Connection) (k : Connection) (part : Bytes) (rest : List (Option Bytes)) → o ≡ Some k → k.inbox ≡ Some part ∷ rest → AreHeld streams o → (stream : Bytes) × Contains streams stream × IsPart stream part
  first_is [] o k part rest is first h = absurd (subst (λ (p : Option Connection). AreHeld [] p) is h)
  first_is (stream ∷ older) o k part rest is first h =
      let holds : Holds stream k = subst (λ (p : Option Connection). AreHeld (stream ∷ older) p) is h in
      (stream, contains_head stream older, holds.inbox part (subst (λ (xs : List (Option Bytes)). Contains xs (Some part)) (sym first) (contains_head (Some part) rest)))

  rest_holds : (stream : Bytes) (k : Connection) (x : Option Bytes) (rest : List (Option Bytes)) → k.inbox ≡ x ∷ rest → Holds stream k → Holds stream (with_inbox rest k)
  rest_holds stream k x rest first h = record {
    fed = h.fed;
    inbox = λ part c. h.inbox part (subst (λ (xs : List (Option Bytes)). Contains xs (Some part)) (sym first) (contains_tail x rest (Some part) c));
  }

  rest_held : (streams : List Bytes) (o : Option Connection) (k : Connection) (x : Option Bytes) (rest : List (Option Bytes)) → o ≡ Some k → k.inbox ≡ x ∷ rest → AreHeld streams o → AreHeld streams (Some (with_inbox rest k))
  rest_held [] o k x rest is first h = absurd (subst (λ (p : Option Connection). AreHeld [] p) is h)
  rest_held (stream ∷ older) o k x rest is first h = rest_holds stream k x rest first (subst (λ (p : Option Connection). AreHeld (stream ∷ older) p) is h)

  take_went : (str : Streams) (j : ℕ) (s : Plant) → AllHeld str s → Went str s (event.Take j) (events.take Pin Segment wire n open_of j s)
  take_went str j s held = go (s.accesses j).connection refl
    where
      read_back : (o : Option Message) (m : Message) → read_as o ≡ input.Got m → o ≡ Some m
      read_back None m e = cc
      read_back (Some x) m e = cc

      came : (k : Connection) → (s.accesses j).connection ≡ Some k → (x : Option Bytes) (rest : List (Option Bytes)) → k.inbox ≡ x ∷ rest → (m : Message) → input_of wire x ≡ input.Got m → CameFrom wire (IsOf str) j m
      came k is None rest first m e = absurd (bad_other m e)
        where
          bad_other : (m' : Message) → input.Bad ≡ input.Got m' → ⊥
          bad_other m' e' = cc
      came k is (Some part) rest first m e =
          let r = first_is (str j) (at j s) k part rest is first (held j) in
          (part, record { stream = r.0; fed = r.1; is_part = r.2 }, read_back (wire.read part) m e)

      held' : (k : Connection) → (s.accesses j).connection ≡ Some k → (x : Option Bytes) (rest : List (Option Bytes)) → k.inbox ≡ x ∷ rest → AllHeld str (with_access Pin Segment wire n open_of j (with_inbox rest) s)
      held' k is x rest first i = by (j == i) refl
        where
          here : AreHeld (str j) (on_connection (with_inbox rest) (record { opened = (s.accesses j).opened; connection = (s.accesses j).connection })).connection
          here =
              subst (λ (o : Option Connection). AreHeld (str j) (on_connection (with_inbox rest) (record { opened = (s.accesses j).opened; connection = o })).connection) (sym is)
              (rest_held (str j) (at j s) k x rest is first (held j))

          by : (b : Bool) → (j == i) ≡ b → AreHeld (str i) (cond b (on_connection (with_inbox rest) (s.accesses j)) (s.accesses i)).connection
          by true e = subst (λ (m : ℕ). AreHeld (str m) (on_connection (with_inbox rest) (s.accesses j)).connection) (eqb-true j i e) here
          by false e = held i

      item : (k : Connection) → (s.accesses j).connection ≡ Some k → (inbox : List (Option Bytes)) → k.inbox ≡ inbox → Went str s (event.Take j) (events.take_item Pin Segment wire n open_of j s inbox)
      item k is [] first = refused str s (event.Take j) NothingToCarry held
      item k is (x ∷ rest) first =
          let t = with_access Pin Segment wire n open_of j (with_inbox rest) s in
          let g = outside_input Pin Segment wire n open_of j (input_of wire x) (start t) in
          let all = done str t g (held' k is x rest first) (fading.outside_input_on Pin Segment wire n open_of (IsOf str) t j (input_of wire x) (start t) (came k is x rest first) (begin str t)) in
          record { held = all.0; taken = all.1 }

      go : (o : Option Connection) → (s.accesses j).connection ≡ o → Went str s (event.Take j) (events.take_open Pin Segment wire n open_of j s o)
      go None is = refused str s (event.Take j) NoSuchPeer held
      go (Some k) is = item k is k.inbox refl

  happens_went : (str : Streams) (s : Plant) (e : Event) (h : Happened) → AllHeld str s → Happens wire n s e h → Went str s e h
  happens_went str s (event.Load d g) h held is =
      subst (Went str s (event.Load d g)) (sym is)
      (pick str s (event.Load d g) (is_element n d) _ _
      (pick str s (event.Load d g) (is_full (s.current d).number (s.elements d).pending.rows) _ _ (refused str s (event.Load d g) GenerationsFull held) (load_went str d g s held))
      (refused str s (event.Load d g) NoSuchPeer held))
  happens_went str s (event.Open j holder) h held is = subst (Went str s (event.Open j holder)) (sym is) (open_went str j holder s held)
  happens_went str s (event.Shut j) h held is = subst (Went str s (event.Shut j)) (sym is) (shut_went str j s held)
  happens_went str s (event.Feed j bytes) h held is = subst (Went str s (event.Feed j bytes)) (sym is) (feed_went str j bytes s held)
  happens_went str s (event.Take j) h held is = subst (Went str s (event.Take j)) (sym is) (take_went str j s held)
  happens_went str s (event.Carry a b) h held is = subst (Went str s (event.Carry a b)) (sym is) (carry_went str a b s held)
  happens_went str s (event.Break a b) h held is = subst (Went str s (event.Break a b)) (sym is) (break_went str a b s held)
  happens_went str s (event.Tick t) h held is = subst (Went str s (event.Tick t)) (sym is) (tick_went str t s held)
  happens_went str s (event.Drain j holder) h held is = subst (Went str s (event.Drain j holder)) (sym is) (drain_went str j holder s held)
  happens_went str s (event.Solve d k) h held (inl none) = subst (Went str s (event.Solve d k)) (sym none.1) (refused str s (event.Solve d k) NoSuchPeer held)
  happens_went str s (event.Solve d k) h held (inr (inl none)) = subst (Went str s (event.Solve d k)) (sym none.2) (refused str s (event.Solve d k) NoSuchJob held)
  happens_went str s (event.Solve d k) h held (inr (inr (inl solves))) = solve_went str d k s h held solves.1
  happens_went str s (event.Solve d k) h held (inr (inr (inr solves))) = upper_went str d k s h held solves.2

  pub steps_went : (str : Streams) (s : Plant) (e : Event) (h : Happened) → AllHeld str s → Steps wire n s e h → Went str s e h
  steps_went str s e h held (inl is) = happens_went str s e h held is
  steps_went str s e h held (inr none) = subst (Went str s e) (sym none.1) (refused str s e NoMemory held)
