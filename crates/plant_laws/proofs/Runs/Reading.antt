-- What stands in inboxes is bytes, so every message that is taken from one was read from bytes.
use Rattle.std.proofs.Common.{◌≡◌, ℕ, ◌+◌, ◌%◌, ◌<◌, Bool, true, false, cond, ◌==◌, List, [], ◌∷◌, ◌++◌, map, Option, Some, None, is_some, sym, subst, inl, inr, refl}
use Rattle.std.specs.Prelude.{Contains}
use Rattle.std.proofs.lemmas.List.Elements.{All-head, All-tail, All-nil, All-cons}
use Rattle.plant_model.specs.Types.{As, Tick, Peer, Outside, Inner, Hop, Message, Input, Action, Own, NetworkParts, PeerRow}
use Rattle.pcep_framing.specs.Frames.{Framing, joined, FeedsBy}
use Rattle.pcep_session.specs.declared.session.Input.TheVariants as input
use Rattle.pcep_session.specs.declared.actions.Action.TheVariants as action
use Rattle.pcep_session.specs.Table.{turn_of, new_state}
use Rattle.plant_model.specs.declared.outcome.Refused.{Refused}
use Rattle.plant_model.specs.declared.output.Output.{Output}
use Rattle.plant_text.specs.Names.{same_as, parent_as}
use Rattle.plant_model.specs.Names.{is_empty, set_pair}
use Rattle.plant_model.specs.Wire.{Bytes, Codec}
use Rattle.plant_model.specs.Element.{downed, sent_through}
use Rattle.plant_model.specs.Taking.{take}
use Rattle.plant_model.specs.Parent as parent
use Rattle.plant_text.specs.Settings.{Adjacency, adjacency, adjacencies, is_linked, peer_row, class_of}
use Rattle.plant_model.specs.Settings.{place, family}
use Rattle.plant_model.specs.State.{State, Connection, Access, Takes, Downs, Pops}
use Rattle.plant_model.specs.Deeds.{Going, element_of, on_connection, is_due, is_tick, is_out_empty, any_fall, our_offer, with_more, with_session, with_inbox, read_as, input_of, own_message, put, put_to, puts, with_element, with_parent, give, rise, fall, say, clear, expire, outside_act, outside_acts, outside_step, outside_input, inner_act, inner_acts, inner_input, begin_end, begin_adjacency, break_adjacency, tick_outside, tick_adjacencies, with_access, with_inner}
use Rattle.plant_model.specs.Outside.{heeded, heeded_in}
use Rattle.plant_model.specs.Events as events
use Rattle.plant_model.specs.Events.{is_down}
use Rattle.plant_model.specs.Laws.{IsCodec}
use Rattle.disclosure.specs.Shown.{open_of}
use Rattle.plant_model.specs.declared.event.Event.{Event}
use Rattle.plant_model.specs.declared.event.Event.TheVariants as event
use Rattle.plant_text.specs.Settings.{is_element}
use Rattle.plant_model.specs.Solving.{commit, job_found}
use Rattle.plant_model.specs.Plant.{Pin, Segment, first_pin, Plant, Happened, Entry, Run, deeds_of, IsGiven, is_full, Happens}
use Rattle.plant_laws.specs.Transcript.{Transcript}
use Rattle.plant_laws.specs.Reading.{IsRead, AreRead, OutsideIsRead}
use Rattle.border_costs.proofs.Members.{contains_head, contains_tail}
use Rattle.plant_laws.proofs.Runs.Shape.{has_pass, shape}
use Rattle.pcep_subobjects.specs.Subobjects.{AreOctets}
use Rattle.std.proofs.lemmas.Bool.{eqb-true}
use Rattle.plant_model.specs.declared.outcome.Refused.TheVariants.{NoSuchPeer}

-- items of an inbox
abbrev pub AreItems : List (Option Bytes) → Type 0
AreItems [] = Unit {0}
AreItems (None ∷ items) = AreItems items
AreItems (Some bytes ∷ items) = AreOctets bytes × AreItems items

-- of a peer of the settings
abbrev pub HoldsBytes : NetworkParts → ℕ → Option Connection → Type 0
HoldsBytes n i None = Unit {0}
HoldsBytes n i (Some x) = AreOctets x.framing.held × AreItems x.inbox × (is_some (peer_row i n.peers) ≡ true)

items_append : (xs ys : List (Option Bytes)) → AreItems xs → AreItems ys → AreItems (xs ++ ys)
items_append [] ys h k = k
items_append (None ∷ xs) ys h k = items_append xs ys h k
items_append (Some b ∷ xs) ys h k = (h.0, items_append xs ys h.1 k)

bytes_left : (xs ys : Bytes) → AreOctets (xs ++ ys) → AreOctets xs
bytes_left [] ys h = All-nil (λ (b : ℕ). b < 256)
bytes_left (x ∷ xs) ys h = All-cons (λ (b : ℕ). b < 256) x xs (All-head (λ (b : ℕ). b < 256) x (xs ++ ys) h) (bytes_left xs ys (All-tail (λ (b : ℕ). b < 256) x (xs ++ ys) h))

bytes_right : (xs ys : Bytes) → AreOctets (xs ++ ys) → AreOctets ys
bytes_right [] ys h = h
bytes_right (x ∷ xs) ys h = bytes_right xs ys (All-tail (λ (b : ℕ). b < 256) x (xs ++ ys) h)

bytes_append : (xs ys : Bytes) → AreOctets xs → AreOctets ys → AreOctets (xs ++ ys)
bytes_append [] ys h k = k
bytes_append (x ∷ xs) ys h k = All-cons (λ (b : ℕ). b < 256) x (xs ++ ys) (All-head (λ (b : ℕ). b < 256) x xs h) (bytes_append xs ys (All-tail (λ (b : ℕ). b < 256) x xs h) k)

module _ (P : Type 0) (S : Type 0) (c : Codec) (codec : IsCodec c) (n : NetworkParts) (show : S → List Hop) where
  abbrev pub Ok : State P S → Type 0
  Ok s = (i : ℕ) → HoldsBytes n i (s.accesses i).connection

  pub record Good (g : Going P S) : Type 0 where
    pub inboxes : Ok g.state
    pub read : AreRead c n g.deeds

  good_pick : (b : Bool) (g h : Going P S) → Good g → Good h → Good (cond b g h)
  good_pick true g h x y = x
  good_pick false g h x y = y

  access_ok : (i : ℕ) (f : Connection → Connection) (s : State P S) → ((x : Connection) → HoldsBytes n i (Some x) → HoldsBytes n i (Some (f x))) → Ok s → Ok (with_access P S c n show i f s)
  access_ok i f s keeps ok j = go (i == j) refl
    where
      at : (o : Option Connection) → HoldsBytes n i o → HoldsBytes n i (on_connection f (record { opened = (s.accesses i).opened; connection = o })).connection
      at None h = tt
      at (Some x) h = keeps x h

      go : (b : Bool) → (i == j) ≡ b → HoldsBytes n j (cond b (on_connection f (s.accesses i)) (s.accesses j)).connection
      go true same = subst (λ (k : ℕ). HoldsBytes n k (on_connection f (s.accesses i)).connection) (eqb-true i j same) (at (s.accesses i).connection (ok i))
      go false other = ok j

  put_ok : (at : As) (bytes : Bytes) (s : State P S) (to : Peer) → Ok s → Ok (put_to P S c n show at bytes s to)
  put_ok at bytes s (Outside i) ok = access_ok i (with_more bytes) s (λ x h. h) ok
  put_ok at bytes s (Inner b) ok = ok

  puts_ok : (at : As) (os : List Output) (s : State P S) → Ok s → Ok (puts P S c n show at os s)
  puts_ok at [] s ok = ok
  puts_ok at (o ∷ os) s ok = puts_ok at os (put P S c n show at o s) (put_ok at (c.text o.message) s o.to ok)

  -- what is known of a message that is taken
  abbrev Came : As → Peer → Message → Type 0
  Came at (Outside i) m =
      (is_some (peer_row i n.peers) ≡ true) × (at ≡ element_of n i) × (bytes : Bytes) × AreOctets bytes × (raw : Message) × (c.read bytes ≡ Some raw) × (sent : ℕ → Option ℕ) × (m ≡ heeded_in c sent raw)
  Came at (Inner a) m = Unit {0}

  took : (at : As) (p : Peer) (m : Message) (os : List Output) → Came at p m → IsRead {S = S} c n (Takes at p m os)
  took at (Outside i) m os came = came
  took at (Inner a) m os came = tt

  give_good : (at : As) (p : Peer) (m : Message) (g : Going P S) → Came at p m → Good g → Good (give P S c n show at p m g)
  give_good at p m g came good =
      let r = parent.take c (family n) p m g.state.parent in
      let t = take c show (place n at) (g.state.current at) p (class_of n p) g.state.clock m (g.state.elements at) in
      let u = with_parent P S c n show r.parent g.state in
      let v = with_element P S c n show at t.element g.state in
      good_pick (same_as at parent_as)
      (record { state = puts P S c n show at r.outputs u; deeds = Takes at p m r.outputs ∷ g.deeds })
      (record { state = puts P S c n show at t.outputs v; deeds = Takes at p m t.outputs ∷ g.deeds })
      (record { inboxes = puts_ok at r.outputs u good.inboxes; read = (took at p m r.outputs came, good.read) })
      (record { inboxes = puts_ok at t.outputs v good.inboxes; read = (took at p m t.outputs came, good.read) })

  rise_good : (at : As) (p : Peer) (g : Going P S) → Good g → Good (rise P S c n show at p g)
  rise_good at p g good =
      good_pick (same_as at parent_as) _ _ (record { inboxes = good.inboxes; read = (tt, good.read) }) (record { inboxes = good.inboxes; read = (tt, good.read) })

  fall_good : (at : As) (p : Peer) (g : Going P S) → Good g → Good (fall P S c n show at p g)
  fall_good at p g good =
      let r = parent.downed p g.state.parent in
      let t = downed p (g.state.elements at) in
      let u = with_parent P S c n show r.parent g.state in
      let v = with_element P S c n show at t.element g.state in
      good_pick (same_as at parent_as)
      (record { state = puts P S c n show at r.outputs u; deeds = Downs at p r.outputs ∷ g.deeds })
      (record { state = puts P S c n show at t.outputs v; deeds = Downs at p t.outputs ∷ g.deeds })
      (record { inboxes = puts_ok at r.outputs u good.inboxes; read = (tt, good.read) })
      (record { inboxes = puts_ok at t.outputs v good.inboxes; read = (tt, good.read) })

  say_good : (at : As) (p : Peer) (o : Own) (g : Going P S) → Good g → Good (say P S c n show at p o g)
  say_good at p o g good = record { inboxes = put_ok at (c.text (own_message o)) g.state p good.inboxes; read = (tt, good.read) }

  -- inner sessions
  inner_act_good : (at b : As) (ticks : Bool) (a : Action) (g : Going P S) → Good g → Good (inner_act P S c n show at b ticks a g)
  inner_act_good at b ticks (action.Send o) g good =
      good_pick (cond ticks (cond (is_due o) (cond (is_empty (g.state.queues at b)) false true) false) false) g (say P S c n show at (Inner b) o g) good (say_good at (Inner b) o g good)
  inner_act_good at b ticks action.Up g good = rise_good at (Inner b) g good
  inner_act_good at b ticks (action.Down why) g good = good
  inner_act_good at b ticks (action.Pass m) g good = give_good at (Inner b) m g tt good

  inner_acts_good : (at b : As) (ticks : Bool) (as' : List Action) (g : Going P S) → Good g → Good (inner_acts P S c n show at b ticks as' g)
  inner_acts_good at b ticks [] g good = good
  inner_acts_good at b ticks (a ∷ as') g good = inner_acts_good at b ticks as' (inner_act P S c n show at b ticks a g) (inner_act_good at b ticks a g good)

  begin_end_good : (sid : ℕ) (at b : As) (g : Going P S) → Good g → Good (begin_end P S c n show sid at b g)
  begin_end_good sid at b g good =
      let t = turn_of (new_state (our_offer sid) (record { 0 = g.state.clock })) input.Begin in
      inner_acts_good at b false t.actions (record { state = with_inner P S c n show at b t.next g.state; deeds = g.deeds }) (record { inboxes = good.inboxes; read = good.read })

  begin_adjacency_good : (sid : ℕ) (x : Adjacency) (g : Going P S) → Good g → Good (begin_adjacency P S c n show sid x g)
  begin_adjacency_good sid x g good = begin_end_good sid x.upper x.lower (begin_end P S c n show sid x.lower x.upper g) (begin_end_good sid x.lower x.upper g good)

  clear_good : (x : Adjacency) (g : Going P S) → Good g → Good (clear P S c n show x g)
  clear_good x g good = record { inboxes = good.inboxes; read = (tt, good.read) }

  break_adjacency_good : (x : Adjacency) (g : Going P S) → Good g → Good (break_adjacency P S c n show x g)
  break_adjacency_good x g good =
      let f = fall P S c n show x.lower (Inner x.upper) g in
      let h = fall P S c n show x.upper (Inner x.lower) f in
      begin_adjacency_good (((g.state.sessions x.lower x.upper).offer.sid + 1) % 256) x (clear P S c n show x h)
      (clear_good x h (fall_good x.upper (Inner x.lower) f (fall_good x.lower (Inner x.upper) g good)))

  inner_input_good : (x : Adjacency) (at b : As) (y : Input) (g : Going P S) → Good g → Good (inner_input P S c n show x at b y g)
  inner_input_good x at b y g good =
      let t = turn_of (g.state.sessions at b) y in
      let h : Going P S = record { state = with_inner P S c n show at b t.next g.state; deeds = g.deeds } in
      good_pick (any_fall t.actions) (break_adjacency P S c n show x g) (inner_acts P S c n show at b (is_tick y) t.actions h)
      (break_adjacency_good x g good) (inner_acts_good at b (is_tick y) t.actions h (record { inboxes = good.inboxes; read = good.read }))

  tick_adjacencies_good : (xs : List Adjacency) (now : Tick) (g : Going P S) → Good g → Good (tick_adjacencies P S c n show xs now g)
  tick_adjacencies_good [] now g good = good
  tick_adjacencies_good (x ∷ xs) now g good =
      let h = inner_input P S c n show x x.lower x.upper (input.Tick now) g in
      tick_adjacencies_good xs now (inner_input P S c n show x x.upper x.lower (input.Tick now) h)
      (inner_input_good x x.upper x.lower (input.Tick now) h (inner_input_good x x.lower x.upper (input.Tick now) g good))

  -- outside sessions
  quiet_good : (i : ℕ) (ticks : Bool) (as' : List Action) (g : Going P S) → has_pass as' ≡ false → Good g → Good (outside_acts P S c n show i ticks as' g)
  quiet_good i ticks [] g none good = good
  quiet_good i ticks (action.Send o ∷ as') g none good =
      quiet_good i ticks as' (outside_act P S c n show i ticks (action.Send o) g) none
      (good_pick (cond ticks (cond (is_due o) (cond (is_out_empty (g.state.accesses i).connection) false true) false) false) g (say P S c n show (element_of n i) (Outside i) o g) good (say_good (element_of n i) (Outside i) o g good))
  quiet_good i ticks (action.Up ∷ as') g none good = quiet_good i ticks as' (rise P S c n show (element_of n i) (Outside i) g) none (rise_good (element_of n i) (Outside i) g good)
  quiet_good i ticks (action.Down why ∷ as') g none good =
      let h : Going P S = record { state = with_access P S c n show i (with_inbox []) g.state; deeds = g.deeds } in
      quiet_good i ticks as' (fall P S c n show (element_of n i) (Outside i) h) none
      (fall_good (element_of n i) (Outside i) h (record { inboxes = access_ok i (with_inbox []) g.state (λ x k. (k.0, tt, k.2)) good.inboxes; read = good.read }))
  quiet_good i ticks (action.Pass m ∷ as') g none good = let no : true ≡ false = none in cc

  abbrev CameAs : Input → Type 0
  CameAs x = (m : Message) → x ≡ input.Got m → (bytes : Bytes) × AreOctets bytes × (c.read bytes ≡ Some m)

  outside_step_good : (i : ℕ) (x : Input) (g : Going P S) (o : Option Connection) → HoldsBytes n i o → CameAs x → Good g → Good (outside_step P S c n show i x g o)
  outside_step_good i x g None holds came good = good
  outside_step_good i x g (Some k) holds came good =
      let t = turn_of k.session x in
      let h : Going P S = record { state = with_access P S c n show i (with_session t.next) g.state; deeds = g.deeds } in
      let good' : Good h = record { inboxes = access_ok i (with_session t.next) g.state (λ y q. q) good.inboxes; read = good.read } in
      elim (shape k.session x) [
        | inl none ↦ quiet_good i (is_tick x) t.actions h none good'
        | inr pass ↦
            subst (λ (as' : List Action). Good (outside_acts P S c n show i (is_tick x) as' h)) (sym pass.2)
            (let k' = came pass.0 pass.1 in
            let rows = (h.state.elements (element_of n i)).pending.rows in
            give_good (element_of n i) (Outside i) (heeded c (Outside i) rows pass.0) h
            (holds.2, refl, k'.0, k'.1, pass.0, k'.2, (λ (id : ℕ). sent_through (Outside i) id rows), refl) good')
      ]

  outside_input_good : (i : ℕ) (x : Input) (g : Going P S) → CameAs x → Good g → Good (outside_input P S c n show i x g)
  outside_input_good i x g came good = outside_step_good i x g (g.state.accesses i).connection (good.inboxes i) came good

  begin_is_other : (m : Message) → input.Begin ≡ input.Got m → ⊥
  begin_is_other m e = cc

  tick_is_other : (now : Tick) (m : Message) → input.Tick now ≡ input.Got m → ⊥
  tick_is_other now m e = cc

  tick_outside_good : (i : ℕ) (rs : List PeerRow) (now : Tick) (g : Going P S) → Good g → Good (tick_outside P S c n show i rs now g)
  tick_outside_good i [] now g good = good
  tick_outside_good i (row ∷ rs) now g good =
      tick_outside_good (i + 1) rs now (outside_input P S c n show i (input.Tick now) g)
      (outside_input_good i (input.Tick now) g (λ m e. absurd (tick_is_other now m e)) good)

  -- events
  pub record Gone (h : events.Happened P S) : Type 0 where
    pub inboxes : Ok h.state
    pub read : AreRead c n h.deeds

  from_good : (g : Going P S) (answer : events.Answered) → Good g → Gone (record { answer = answer; state = g.state; deeds = g.deeds })
  from_good g answer good = record { inboxes = good.inboxes; read = good.read }

  gone_pick : (b : Bool) (h k : events.Happened P S) → Gone h → Gone k → Gone (cond b h k)
  gone_pick true h k x y = x
  gone_pick false h k x y = y

  -- a connection in place of another
  set_ok : (i : ℕ) (a : Access) (s : State P S) → HoldsBytes n i a.connection → Ok s → Ok (events.set_access P S c n show i a s)
  set_ok i a s is ok j = go (i == j) refl
    where
      go : (b : Bool) → (i == j) ≡ b → HoldsBytes n j (cond b a (s.accesses j)).connection
      go true same = subst (λ (k : ℕ). HoldsBytes n k a.connection) (eqb-true i j same) is
      go false other = ok j

  refused_gone : (why : Refused) (s : State P S) → Ok s → Gone (events.refused P S c n show why s)
  refused_gone why s ok = record { inboxes = ok; read = tt }

  -- frames of bytes
  abbrev AreAllBytes : List Bytes → Type 0
  AreAllBytes [] = Unit {0}
  AreAllBytes (f ∷ fs) = AreOctets f × AreAllBytes fs

  joined_bytes : (fs : List Bytes) → AreOctets (joined fs) → AreAllBytes fs
  joined_bytes [] h = tt
  joined_bytes (f ∷ fs) h = (bytes_left f (joined fs) h, joined_bytes fs (bytes_right f (joined fs) h))

  frames_bytes : (b : Bool) (old new : Framing) (piece : Bytes) (fs : List Bytes) → FeedsBy b old piece fs new → AreOctets old.held → AreOctets piece → AreAllBytes fs × AreOctets new.held
  frames_bytes true old new piece fs feeds held bytes = (subst AreAllBytes (sym feeds.0) tt, subst (λ (f : Framing). AreOctets f.held) (sym feeds.1) held)
  frames_bytes false old new piece fs feeds held bytes =
      let whole : AreOctets (joined fs ++ new.held) = subst AreOctets (sym feeds.all) (bytes_append old.held piece held bytes) in
      (joined_bytes fs (bytes_left (joined fs) new.held whole), bytes_right (joined fs) new.held whole)

  some_items : (xs : List Bytes) → ((b : Bytes) → Contains xs b → AreOctets b) → AreItems (map Some xs)
  some_items [] each = tt
  some_items (x ∷ xs) each = (each x (contains_head x xs), some_items xs (λ b k. each b (contains_tail x xs b k)))

  split_items : (fs : List Bytes) → AreAllBytes fs → AreItems (events.split_all c fs)
  split_items [] h = tt
  split_items (f ∷ fs) h = items_append (map Some (c.split f)) (events.split_all c fs) (some_items (c.split f) (λ b k. codec.stream.splits_bytes f b h.0 k)) (split_items fs h.1)

  bad_items : (b : Bool) → AreItems (events.bad_item b)
  bad_items true = tt
  bad_items false = tt

  fed_holds : (i : ℕ) (bytes : Bytes) (x : Connection) → AreOctets bytes → HoldsBytes n i (Some x) → HoldsBytes n i (Some (events.fed c bytes x))
  fed_holds i bytes x is h =
      let f = c.feed x.framing bytes in
      let fed = frames_bytes x.framing.bad x.framing f.framing bytes f.frames (codec.stream.frames x.framing bytes) h.0 is in (
        fed.1,
        items_append (x.inbox ++ events.split_all c f.frames) (events.bad_item f.framing.bad)
            (items_append x.inbox (events.split_all c f.frames) h.1 (split_items f.frames fed.0)) (bad_items f.framing.bad),
        h.2,
      )

  pub open_gone : (i holder : ℕ) (s : State P S) → Ok s → Gone (events.open_peer P S c n show i holder s)
  open_gone i holder s ok = test (is_some (peer_row i n.peers)) refl
    where
      go : is_some (peer_row i n.peers) ≡ true → (o : Option Connection) → Gone (events.open_new P S c n show i holder s o)
      go known None =
          let t = events.connect P S c n show i holder s in
          let g : Going P S = record { state = t; deeds = [] } in
          from_good (outside_input P S c n show i input.Begin g) _
          (outside_input_good i input.Begin g (λ m e. absurd (begin_is_other m e)) (record { inboxes = set_ok i _ s (All-nil (λ (b : ℕ). b < 256), tt, known) ok; read = tt }))
      go known (Some x) = refused_gone _ s ok

      test : (b : Bool) → is_some (peer_row i n.peers) ≡ b → Gone (cond b (events.open_new P S c n show i holder s (s.accesses i).connection) (events.refused P S c n show NoSuchPeer s))
      test true known = go known (s.accesses i).connection
      test false unknown = refused_gone _ s ok

  pub shut_gone : (i : ℕ) (s : State P S) → Ok s → Gone (events.shut P S c n show i s)
  shut_gone i s ok = go (s.accesses i).connection
    where
      go : (o : Option Connection) → Gone (events.shut_open P S c n show i s o)
      go None = refused_gone _ s ok
      go (Some x) =
          let g = fall P S c n show (element_of n i) (Outside i) (record { state = s; deeds = [] }) in
          let good = fall_good (element_of n i) (Outside i) (record { state = s; deeds = [] }) (record { inboxes = ok; read = tt }) in
          record { inboxes = set_ok i (record { opened = (s.accesses i).opened; connection = None }) g.state tt good.inboxes; read = good.read }

  pub feed_gone : (i : ℕ) (bytes : Bytes) (s : State P S) → AreOctets bytes → Ok s → Gone (events.feed P S c n show i bytes s)
  feed_gone i bytes s is ok = go (s.accesses i).connection
    where
      pick : (b : Bool) → Ok (cond b s (with_access P S c n show i (events.fed c bytes) s))
      pick true = ok
      pick false = access_ok i (events.fed c bytes) s (λ x h. fed_holds i bytes x is h) ok

      go : (o : Option Connection) → Gone (events.feed_open P S c n show i bytes s o)
      go None = refused_gone _ s ok
      go (Some x) = record { inboxes = pick (is_down x.session.phase); read = tt }

  read_back : (o : Option Message) (m : Message) → read_as o ≡ input.Got m → o ≡ Some m
  read_back None m e = cc
  read_back (Some x) m e = cc

  item_came : (x : Option Bytes) (rest : List (Option Bytes)) → AreItems (x ∷ rest) → CameAs (input_of c x)
  item_came None rest h m e = absurd (other m e)
    where
      other : (m' : Message) → input.Bad ≡ input.Got m' → ⊥
      other m' e' = cc
  item_came (Some bytes) rest h m e = (bytes, h.0, read_back (c.read bytes) m e)

  items_rest : (x : Option Bytes) (rest : List (Option Bytes)) → AreItems (x ∷ rest) → AreItems rest
  items_rest None rest h = h
  items_rest (Some bytes) rest h = h.1

  pub take_gone : (i : ℕ) (s : State P S) → Ok s → Gone (events.take P S c n show i s)
  take_gone i s ok = go (s.accesses i).connection (ok i)
    where
      item : (inbox : List (Option Bytes)) → AreItems inbox → Gone (events.take_item P S c n show i s inbox)
      item [] h = refused_gone _ s ok
      item (x ∷ rest) h =
          let g : Going P S = record { state = with_access P S c n show i (with_inbox rest) s; deeds = [] } in
          from_good (outside_input P S c n show i (input_of c x) g) _
          (outside_input_good i (input_of c x) g (item_came x rest h)
          (record { inboxes = access_ok i (with_inbox rest) s (λ y k. (k.0, items_rest x rest h, k.2)) ok; read = tt }))

      go : (o : Option Connection) → HoldsBytes n i o → Gone (events.take_open P S c n show i s o)
      go None h = refused_gone _ s ok
      go (Some x) h = item x.inbox h.1

  pub carry_gone : (a b : As) (s : State P S) → Ok s → Gone (events.carry P S c n show a b s)
  carry_gone a b s ok = gone_pick (is_linked n a b) (events.carry_first P S c n show a b s (s.queues a b)) (events.refused P S c n show _ s) (go (s.queues a b)) (refused_gone _ s ok)
    where
      go : (q : List Bytes) → Gone (events.carry_first P S c n show a b s q)
      go [] = refused_gone _ s ok
      go (x ∷ rest) =
          let g : Going P S = record { state = record s { queues = set_pair a b rest s.queues }; deeds = Pops a b ∷ [] } in
          from_good (inner_input P S c n show (adjacency a b) b a (input_of c (Some x)) g) _
          (inner_input_good (adjacency a b) b a (input_of c (Some x)) g (record { inboxes = ok; read = (tt, tt) }))

  pub break_gone : (a b : As) (s : State P S) → Ok s → Gone (events.break P S c n show a b s)
  break_gone a b s ok =
      let g : Going P S = record { state = s; deeds = [] } in
      gone_pick (is_linked n a b) (events.answered P S c n show _ (break_adjacency P S c n show (adjacency a b) g)) (events.refused P S c n show _ s)
      (from_good (break_adjacency P S c n show (adjacency a b) g) _ (break_adjacency_good (adjacency a b) g (record { inboxes = ok; read = tt }))) (refused_gone _ s ok)

  pub tick_gone : (t : ℕ) (s : State P S) → Ok s → Gone (events.tick P S c n show t s)
  tick_gone t s ok =
      let now = events.later s.clock t in
      let g : Going P S = record { state = record s { clock = now }; deeds = [] } in
      let h = tick_outside P S c n show 0 n.peers (record { 0 = now }) g in
      let k = tick_adjacencies P S c n show (adjacencies n) (record { 0 = now }) h in
      let good = tick_adjacencies_good (adjacencies n) (record { 0 = now }) h (tick_outside_good 0 n.peers (record { 0 = now }) g (record { inboxes = ok; read = tt })) in
      from_good (expire P S c n show now k) _ (record { inboxes = good.inboxes; read = (tt, good.read) })

  pub drain_gone : (i holder : ℕ) (s : State P S) → Ok s → Gone (events.drain P S c n show i holder s)
  drain_gone i holder s ok = go (s.accesses i).connection
    where
      go : (o : Option Connection) → Gone (events.drain_open P S c n show i holder s o)
      go None = refused_gone _ s ok
      go (Some x) =
          gone_pick (x.holder == holder) _ (events.refused P S c n show _ s)
          (record { inboxes = access_ok i events.drained s (λ y k. k) ok; read = (tt, tt) }) (refused_gone _ s ok)

  begin_adjacencies_good : (xs : List Adjacency) (g : Going P S) → Good g → Good (events.begin_adjacencies P S c n show xs g)
  begin_adjacencies_good [] g good = good
  begin_adjacencies_good (x ∷ xs) g good = begin_adjacencies_good xs (begin_adjacency P S c n show 0 x g) (begin_adjacency_good 0 x g good)

  pub opening_good : (pins : As → P) → Good (events.opening P S c n show pins)
  opening_good pins = begin_adjacencies_good (adjacencies n) (record { state = events.bare P S c n show pins; deeds = [] }) (record { inboxes = λ i. tt; read = tt })

  pub solve_ok : (d : As) (os : List Output) (s t : State P S) → t.accesses ≡ s.accesses → Ok s → Ok (puts P S c n show d os t)
  solve_ok d os s t same ok = puts_ok d os t (λ i. subst (λ (f : ℕ → Access). HoldsBytes n i (f i).connection) (sym same) (ok i))

-- every event of a run
abbrev Kept : Codec → NetworkParts → Transcript → Happened → Type 0
Kept c n ds h = ((i : ℕ) → HoldsBytes n i (h.state.accesses i).connection) × AreRead c n (h.deeds ++ ds)

read_append : (c : Codec) (n : NetworkParts) (es ds : Transcript) → AreRead c n es → AreRead c n ds → AreRead c n (es ++ ds)
read_append c n [] ds h k = k
read_append c n (e ∷ es) ds h k = (h.0, read_append c n es ds h.1 k)

module _ (c : Codec) (codec : IsCodec c) (n : NetworkParts) where
  gone_kept : (ds : Transcript) (h k : Happened) → k ≡ h → AreRead c n ds → Gone Pin Segment c codec n open_of h → Kept c n ds k
  gone_kept ds h k is read gone = subst (Kept c n ds) (sym is) (gone.inboxes, read_append c n h.deeds ds gone.read read)

  kept_pick : (ds : Transcript) (b : Bool) (h k : Happened) → Kept c n ds h → Kept c n ds k → Kept c n ds (cond b h k)
  kept_pick ds true h k x y = x
  kept_pick ds false h k x y = y

  happens_kept : (ds : Transcript) (s : Plant) (e : Event) (h : Happened) → IsGiven e → Happens c n s e h → Ok Pin Segment c codec n open_of s → AreRead c n ds → Kept c n ds h
  happens_kept ds s (event.Load d g) h given is ok read =
      subst (Kept c n ds) (sym is)
      (kept_pick ds (is_element n d) _ _ (kept_pick ds (is_full (s.current d).number (s.elements d).pending.rows) _ _ (ok, read) (ok, (tt, read))) (ok, read))
  happens_kept ds s (event.Open i holder) h given is ok read = gone_kept ds _ h is read (open_gone Pin Segment c codec n open_of i holder s ok)
  happens_kept ds s (event.Shut i) h given is ok read = gone_kept ds _ h is read (shut_gone Pin Segment c codec n open_of i s ok)
  happens_kept ds s (event.Feed i bytes) h given is ok read = gone_kept ds _ h is read (feed_gone Pin Segment c codec n open_of i bytes s given ok)
  happens_kept ds s (event.Take i) h given is ok read = gone_kept ds _ h is read (take_gone Pin Segment c codec n open_of i s ok)
  happens_kept ds s (event.Carry a b) h given is ok read = gone_kept ds _ h is read (carry_gone Pin Segment c codec n open_of a b s ok)
  happens_kept ds s (event.Break a b) h given is ok read = gone_kept ds _ h is read (break_gone Pin Segment c codec n open_of a b s ok)
  happens_kept ds s (event.Tick t) h given is ok read = gone_kept ds _ h is read (tick_gone Pin Segment c codec n open_of t.0 s ok)
  happens_kept ds s (event.Drain i holder) h given is ok read = gone_kept ds _ h is read (drain_gone Pin Segment c codec n open_of i holder s ok)
  happens_kept ds s (event.Solve d k) h given (inl none) ok read = subst (Kept c n ds) (sym none.1) (ok, read)
  happens_kept ds s (event.Solve d k) h given (inr (inl none)) ok read = subst (Kept c n ds) (sym none.2) (ok, read)
  happens_kept ds s (event.Solve d k) h given (inr (inr (inl solves))) ok read =
      let x = solves.1 in
      let r = commit c (place n d) (k, x.held) x.down s.clock (λ b. b.segment) (job_found x.rows.source_known x.rows.target_known x.rows.best) (s.elements d) in
      subst (Kept c n ds) (sym x.is) (solve_ok Pin Segment c codec n open_of d r.outputs s (with_element Pin Segment c n open_of d r.element s) refl ok, (tt, read))
  happens_kept ds s (event.Solve d k) h given (inr (inr (inr solves))) ok read =
      let x = solves.2 in
      let r = parent.commit c (k, x.held) x.answer s.parent in
      subst (Kept c n ds) (sym x.is) (solve_ok Pin Segment c codec n open_of parent_as r.outputs s (with_parent Pin Segment c n open_of r.parent s) refl ok, (tt, read))

  pub run_read : (es : List Entry) (s : Plant) → Run c n es s → Ok Pin Segment c codec n open_of s × AreRead c n (deeds_of c n es)
  run_read [] s is =
      let good = opening_good Pin Segment c codec n open_of first_pin in
      (subst (λ (p : Plant). Ok Pin Segment c codec n open_of p) (sym is) good.inboxes, good.read)
  run_read (e ∷ older) s run =
      let before = run_read older run.0 run.1 in
      elim run.3 [
        | inl is ↦ happens_kept (deeds_of c n older) run.0 e.event (record { answer = e.answer; state = s; deeds = e.deeds }) run.2 is before.0 before.1
        | inr none ↦ subst (Kept c n (deeds_of c n older)) (sym none.1) before
      ]

pub outside_is_read : OutsideIsRead
outside_is_read c codec n es s run = (run_read c codec n es s run).1
