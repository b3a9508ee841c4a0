-- A message of requests that comes from outside has one: inboxes hold what was split.
use Rattle.std.proofs.Common.{◌≡◌, ℕ, suc, ◌+◌, ◌%◌, Bool, true, false, cond, ◌==◌, List, [], ◌∷◌, ◌++◌, Option, Some, None, is_some, Contains, inl, inr, sym, subst, refl, arith}
use Rattle.plant_model.specs.Types.{As, Tick, Peer, Outside, Inner, Hop, Message, Input, Action, Own, NetworkParts, PeerRow}
use Rattle.pcep_messages.specs.declared.message.Message.TheVariants as messages
use Rattle.pcep_session.specs.declared.session.Input.TheVariants as input
use Rattle.pcep_session.specs.declared.actions.Action.TheVariants as action
use Rattle.pcep_session.specs.Table.{turn_of, new_state}
use Rattle.disclosure.specs.Shown.{open_of}
use Rattle.plant_model.specs.declared.output.Output.{Output}
use Rattle.plant_model.specs.declared.event.Event.{Event}
use Rattle.plant_model.specs.declared.event.Event.TheVariants as event
use Rattle.plant_text.specs.Names.{same_as, parent_as}
use Rattle.plant_model.specs.Names.{is_empty, set_number, set_pair}
use Rattle.plant_model.specs.Wire.{Bytes, Codec}
use Rattle.plant_model.specs.Laws.{IsCodec}
use Rattle.plant_model.specs.Element.{upped, downed, sent_through}
use Rattle.plant_model.specs.Taking.{take}
use Rattle.plant_model.specs.Solving.{commit, job_found}
use Rattle.plant_model.specs.Parent as parent
use Rattle.plant_text.specs.Settings.{Adjacency, adjacency, adjacencies, is_linked, is_element, peer_row, class_of}
use Rattle.plant_model.specs.Settings.{place, family}
use Rattle.plant_model.specs.State.{State, Deed, Connection, Access, Loads, Pops, Takes, Says, Ups, Downs, Clears, Solves, Expires, Hands}
use Rattle.plant_model.specs.Deeds.{Going, element_of, is_due, is_tick, is_out_empty, any_fall, our_offer, on_connection, with_more, with_session, with_inbox, read_as, input_of, with_parent, with_element, put, put_to, puts, give, rise, fall, say, clear, outside_act, outside_acts, outside_step, outside_input, inner_act, inner_acts, inner_input, begin_end, begin_adjacency, break_adjacency, tick_outside, tick_adjacencies, with_access, with_inner}
use Rattle.plant_model.specs.Outside.{heeded}
use Rattle.plant_model.specs.Events as events
use Rattle.plant_model.specs.Events.{split_all, bad_item, is_down}
use Rattle.plant_model.specs.Plant.{Pin, Segment, Plant, first_pin, Happened, Entry, Run, deeds_of, is_full, Happens}
use Rattle.plant_laws.proofs.Runs.Shape.{has_pass, shape}
use Rattle.plant_laws.proofs.Runs.Heeding.{heeded_single}
use Rattle.plant_laws.proofs.Runs.Rows.{In}
use Rattle.plant_laws.proofs.Once.Takes.{IsSingle}

abbrev pub outside_deed : {S : Type 0} → Deed S → Type 0
outside_deed (Takes at (Outside i) m os) = IsSingle m
outside_deed (Takes at (Inner a) m os) = Unit {0}
outside_deed (Loads at g) = Unit {0}
outside_deed (Pops a b) = Unit {0}
outside_deed (Says at o) = Unit {0}
outside_deed (Ups at p) = Unit {0}
outside_deed (Downs at p os) = Unit {0}
outside_deed (Clears a b) = Unit {0}
outside_deed (Solves at k os keys) = Unit {0}
outside_deed (Expires now) = Unit {0}
outside_deed (Hands i bytes) = Unit {0}

-- every message of requests that was taken from outside had one
abbrev pub AreOutsideSingle : {S : Type 0} → List (Deed S) → Type 0
AreOutsideSingle [] = Unit {0}
AreOutsideSingle (d ∷ ds) = outside_deed d × AreOutsideSingle ds

pub outside_append : {S : Type 0} (ds es : List (Deed S)) → AreOutsideSingle ds → AreOutsideSingle es → AreOutsideSingle (ds ++ es)
outside_append [] es h k = k
outside_append (d ∷ ds) es h k = (h.0, outside_append ds es h.1 k)

pub contains : {A : Type 0} (x : A) (xs : List A) → In x xs → Contains xs x
contains x [] h = absurd h
contains x (y ∷ ys) (inl e) = (0, omega arith, e)
contains x (y ∷ ys) (inr h) = let r = contains x ys h in (suc r.0, omega (arith, r.1), r.2)

module _ (P : Type 0) (S : Type 0) (c : Codec) (n : NetworkParts) (show : S → List Hop) where
  -- what a frame was split into
  abbrev IsPiece : Option Bytes → Type 0
  IsPiece None = Unit {0}
  IsPiece (Some bytes) = (frame : Bytes) × In bytes (c.split frame)

  abbrev ArePieces : List (Option Bytes) → Type 0
  ArePieces [] = Unit {0}
  ArePieces (x ∷ xs) = IsPiece x × ArePieces xs

  abbrev HasPieces : Option Connection → Type 0
  HasPieces None = Unit {0}
  HasPieces (Some x) = ArePieces x.inbox

  abbrev Inboxes : State P S → Type 0
  Inboxes s = (i : ℕ) → HasPieces (s.accesses i).connection

  abbrev Fine : Going P S → Type 0
  Fine g = Inboxes g.state × AreOutsideSingle g.deeds

  abbrev Keeps : (Connection → Connection) → Type 0
  Keeps f = (x : Connection) → ArePieces x.inbox → ArePieces (f x).inbox

  on_kept : (f : Connection → Connection) → Keeps f → (a : Access) → HasPieces a.connection → HasPieces (on_connection f a).connection
  on_kept f keeps a h = go a.connection h
    where
      go : (o : Option Connection) → HasPieces o → HasPieces (on_connection f (record { opened = a.opened; connection = o })).connection
      go None h = tt
      go (Some x) h = keeps x h

  set_kept : (i : ℕ) (a : Access) (s : State P S) → HasPieces a.connection → Inboxes s → (j : ℕ) → HasPieces (set_number i a s.accesses j).connection
  set_kept i a s h kept j = go (i == j)
    where
      go : (b : Bool) → HasPieces (cond b a (s.accesses j)).connection
      go true = h
      go false = kept j

  access_kept : (i : ℕ) (f : Connection → Connection) (s : State P S) → Keeps f → Inboxes s → Inboxes (with_access P S c n show i f s)
  access_kept i f s keeps kept = set_kept i (on_connection f (s.accesses i)) s (on_kept f keeps (s.accesses i) (kept i)) kept

  put_kept : (at : As) (bytes : Bytes) (s : State P S) (to : Peer) → Inboxes s → Inboxes (put_to P S c n show at bytes s to)
  put_kept at bytes s (Outside i) kept = access_kept i (with_more bytes) s (λ x h. h) kept
  put_kept at bytes s (Inner b) kept = kept

  puts_kept : (at : As) (os : List Output) (s : State P S) → Inboxes s → Inboxes (puts P S c n show at os s)
  puts_kept at [] s kept = kept
  puts_kept at (o ∷ os) s kept = puts_kept at os (put P S c n show at o s) (put_kept at (c.text o.message) s o.to kept)

  pick : (b : Bool) (g h : Going P S) → Fine g → Fine h → Fine (cond b g h)
  pick true g h x y = x
  pick false g h x y = y

  -- a message from outside has one request
  abbrev Allowed : Peer → Message → Type 0
  Allowed (Outside i) m = IsSingle m
  Allowed (Inner a) m = Unit {0}

  taken_deed : (at : As) (p : Peer) (m : Message) (os : List Output) → Allowed p m → outside_deed {S = S} (Takes at p m os)
  taken_deed at (Outside i) m os h = h
  taken_deed at (Inner a) m os h = tt

  give_fine : (at : As) (p : Peer) (m : Message) (g : Going P S) → Allowed p m → Fine g → Fine (give P S c n show at p m g)
  give_fine at p m g ok fine =
      let r = parent.take c (family n) p m g.state.parent in
      let t = take c show (place n at) (g.state.current at) p (class_of n p) g.state.clock m (g.state.elements at) in
      pick (same_as at parent_as)
      (record { state = puts P S c n show at r.outputs (with_parent P S c n show r.parent g.state); deeds = Takes at p m r.outputs ∷ g.deeds })
      (record { state = puts P S c n show at t.outputs (with_element P S c n show at t.element g.state); deeds = Takes at p m t.outputs ∷ g.deeds })
      (puts_kept at r.outputs (with_parent P S c n show r.parent g.state) fine.0, (taken_deed at p m r.outputs ok, fine.1))
      (puts_kept at t.outputs (with_element P S c n show at t.element g.state) fine.0, (taken_deed at p m t.outputs ok, fine.1))

  rise_fine : (at : As) (p : Peer) (g : Going P S) → Fine g → Fine (rise P S c n show at p g)
  rise_fine at p g fine =
      pick (same_as at parent_as)
      (record { state = with_parent P S c n show (parent.upped p g.state.parent) g.state; deeds = Ups at p ∷ g.deeds })
      (record { state = with_element P S c n show at (upped p (g.state.elements at)) g.state; deeds = Ups at p ∷ g.deeds })
      (fine.0, (tt, fine.1)) (fine.0, (tt, fine.1))

  fall_fine : (at : As) (p : Peer) (g : Going P S) → Fine g → Fine (fall P S c n show at p g)
  fall_fine at p g fine =
      let r = parent.downed p g.state.parent in
      let t = downed p (g.state.elements at) in
      pick (same_as at parent_as)
      (record { state = puts P S c n show at r.outputs (with_parent P S c n show r.parent g.state); deeds = Downs at p r.outputs ∷ g.deeds })
      (record { state = puts P S c n show at t.outputs (with_element P S c n show at t.element g.state); deeds = Downs at p t.outputs ∷ g.deeds })
      (puts_kept at r.outputs (with_parent P S c n show r.parent g.state) fine.0, (tt, fine.1))
      (puts_kept at t.outputs (with_element P S c n show at t.element g.state) fine.0, (tt, fine.1))

  say_fine : (at : As) (p : Peer) (o : Own) (g : Going P S) → Fine g → Fine (say P S c n show at p o g)
  say_fine at p o g fine = (puts_kept at (_ ∷ []) g.state fine.0, (tt, fine.1))

  -- the actions of an outside session
  abbrev ArePasses : List Action → Type 0
  ArePasses [] = Unit {0}
  ArePasses (action.Pass m ∷ as') = IsSingle m × ArePasses as'
  ArePasses (action.Send o ∷ as') = ArePasses as'
  ArePasses (action.Up ∷ as') = ArePasses as'
  ArePasses (action.Down why ∷ as') = ArePasses as'

  no_passes : (as' : List Action) → has_pass as' ≡ false → ArePasses as'
  no_passes [] e = tt
  no_passes (action.Pass m ∷ as') e = absurd (let out : true ≡ false = e in cc)
  no_passes (action.Send o ∷ as') e = no_passes as' e
  no_passes (action.Up ∷ as') e = no_passes as' e
  no_passes (action.Down why ∷ as') e = no_passes as' e

  outside_fine : (i : ℕ) (ticks : Bool) (as' : List Action) (g : Going P S) → ArePasses as' → Fine g → Fine (outside_acts P S c n show i ticks as' g)
  outside_fine i ticks [] g ok fine = fine
  outside_fine i ticks (action.Send o ∷ as') g ok fine =
      outside_fine i ticks as' (outside_act P S c n show i ticks (action.Send o) g) ok
      (pick (cond ticks (cond (is_due o) (cond (is_out_empty (g.state.accesses i).connection) false true) false) false) g (say P S c n show (element_of n i) (Outside i) o g) fine (say_fine (element_of n i) (Outside i) o g fine))
  outside_fine i ticks (action.Up ∷ as') g ok fine = outside_fine i ticks as' (rise P S c n show (element_of n i) (Outside i) g) ok (rise_fine (element_of n i) (Outside i) g fine)
  outside_fine i ticks (action.Down why ∷ as') g ok fine =
      let h : Going P S = record { state = with_access P S c n show i (with_inbox []) g.state; deeds = g.deeds } in
      outside_fine i ticks as' (fall P S c n show (element_of n i) (Outside i) h) ok (fall_fine (element_of n i) (Outside i) h (access_kept i (with_inbox []) g.state (λ x z. tt) fine.0, fine.1))
  outside_fine i ticks (action.Pass m ∷ as') g ok fine =
      let heard = heeded c (Outside i) (g.state.elements (element_of n i)).pending.rows m in
      outside_fine i ticks as' (give P S c n show (element_of n i) (Outside i) heard g) ok.1
      (give_fine (element_of n i) (Outside i) heard g (heeded_single c (λ id. sent_through (Outside i) id (g.state.elements (element_of n i)).pending.rows) m ok.0) fine)

  abbrev IsOne : Input → Type 0
  IsOne x = (m : Message) → x ≡ input.Got m → IsSingle m

  outside_step_fine : (i : ℕ) (x : Input) (g : Going P S) (o : Option Connection) → IsOne x → Fine g → Fine (outside_step P S c n show i x g o)
  outside_step_fine i x g None one fine = fine
  outside_step_fine i x g (Some k) one fine =
      let t = turn_of k.session x in
      let h : Going P S = record { state = with_access P S c n show i (with_session t.next) g.state; deeds = g.deeds } in
      let fine' : Fine h = (access_kept i (with_session t.next) g.state (λ x z. z) fine.0, fine.1) in
      elim (shape k.session x) [
        | inl none ↦ outside_fine i (is_tick x) t.actions h (no_passes t.actions none) fine'
        | inr pass ↦ outside_fine i (is_tick x) t.actions h (subst (λ (as' : List Action). ArePasses as') (sym pass.2) (one pass.0 pass.1, tt)) fine'
      ]

  outside_input_fine : (i : ℕ) (x : Input) (g : Going P S) → IsOne x → Fine g → Fine (outside_input P S c n show i x g)
  outside_input_fine i x g one fine = outside_step_fine i x g (g.state.accesses i).connection one fine

  inner_fine : (at b : As) (ticks : Bool) (as' : List Action) (g : Going P S) → Fine g → Fine (inner_acts P S c n show at b ticks as' g)
  inner_fine at b ticks [] g fine = fine
  inner_fine at b ticks (action.Send o ∷ as') g fine =
      inner_fine at b ticks as' (inner_act P S c n show at b ticks (action.Send o) g)
      (pick (cond ticks (cond (is_due o) (cond (is_empty (g.state.queues at b)) false true) false) false) g (say P S c n show at (Inner b) o g) fine (say_fine at (Inner b) o g fine))
  inner_fine at b ticks (action.Up ∷ as') g fine = inner_fine at b ticks as' (rise P S c n show at (Inner b) g) (rise_fine at (Inner b) g fine)
  inner_fine at b ticks (action.Down why ∷ as') g fine = inner_fine at b ticks as' g fine
  inner_fine at b ticks (action.Pass m ∷ as') g fine = inner_fine at b ticks as' (give P S c n show at (Inner b) m g) (give_fine at (Inner b) m g tt fine)

  begin_end_fine : (sid : ℕ) (at b : As) (g : Going P S) → Fine g → Fine (begin_end P S c n show sid at b g)
  begin_end_fine sid at b g fine =
      let t = turn_of (new_state (our_offer sid) (record { 0 = g.state.clock })) input.Begin in
      inner_fine at b false t.actions (record { state = with_inner P S c n show at b t.next g.state; deeds = g.deeds }) fine

  begin_adjacency_fine : (sid : ℕ) (x : Adjacency) (g : Going P S) → Fine g → Fine (begin_adjacency P S c n show sid x g)
  begin_adjacency_fine sid x g fine = begin_end_fine sid x.upper x.lower (begin_end P S c n show sid x.lower x.upper g) (begin_end_fine sid x.lower x.upper g fine)

  break_adjacency_fine : (x : Adjacency) (g : Going P S) → Fine g → Fine (break_adjacency P S c n show x g)
  break_adjacency_fine x g fine =
      let f = fall P S c n show x.lower (Inner x.upper) g in
      let h = fall P S c n show x.upper (Inner x.lower) f in
      let fine' : Fine h = fall_fine x.upper (Inner x.lower) f (fall_fine x.lower (Inner x.upper) g fine) in
      begin_adjacency_fine (((g.state.sessions x.lower x.upper).offer.sid + 1) % 256) x (clear P S c n show x h) (fine'.0, (tt, fine'.1))

  inner_input_fine : (x : Adjacency) (at b : As) (y : Input) (g : Going P S) → Fine g → Fine (inner_input P S c n show x at b y g)
  inner_input_fine x at b y g fine =
      let t = turn_of (g.state.sessions at b) y in
      let h : Going P S = record { state = with_inner P S c n show at b t.next g.state; deeds = g.deeds } in
      pick (any_fall t.actions) (break_adjacency P S c n show x g) (inner_acts P S c n show at b (is_tick y) t.actions h) (break_adjacency_fine x g fine) (inner_fine at b (is_tick y) t.actions h fine)

  tick_outside_fine : (i : ℕ) (rs : List PeerRow) (now : Tick) (g : Going P S) → Fine g → Fine (tick_outside P S c n show i rs now g)
  tick_outside_fine i [] now g fine = fine
  tick_outside_fine i (row ∷ rs) now g fine =
      tick_outside_fine (i + 1) rs now (outside_input P S c n show i (input.Tick now) g)
      (outside_input_fine i (input.Tick now) g (λ m e. absurd (let other : input.Tick now ≡ input.Got m = e in cc)) fine)

  tick_adjacencies_fine : (xs : List Adjacency) (now : Tick) (g : Going P S) → Fine g → Fine (tick_adjacencies P S c n show xs now g)
  tick_adjacencies_fine [] now g fine = fine
  tick_adjacencies_fine (x ∷ xs) now g fine =
      let h = inner_input P S c n show x x.lower x.upper (input.Tick now) g in
      tick_adjacencies_fine xs now (inner_input P S c n show x x.upper x.lower (input.Tick now) h)
      (inner_input_fine x x.upper x.lower (input.Tick now) h (inner_input_fine x x.lower x.upper (input.Tick now) g fine))

  pub begin_adjacencies_fine : (xs : List Adjacency) (g : Going P S) → Fine g → Fine (events.begin_adjacencies P S c n show xs g)
  begin_adjacencies_fine [] g fine = fine
  begin_adjacencies_fine (x ∷ xs) g fine = begin_adjacencies_fine xs (begin_adjacency P S c n show 0 x g) (begin_adjacency_fine 0 x g fine)

  -- events
  abbrev pub Did : events.Happened P S → Type 0
  Did h = Inboxes h.state × AreOutsideSingle h.deeds

  did_pick : (b : Bool) (h k : events.Happened P S) → Did h → Did k → Did (cond b h k)
  did_pick true h k x y = x
  did_pick false h k x y = y

  module _ (s : State P S) (kept : Inboxes s) where
    open_did : (i holder : ℕ) → Did (events.open_peer P S c n show i holder s)
    open_did i holder = did_pick (is_some (peer_row i n.peers)) (events.open_new P S c n show i holder s (s.accesses i).connection) (events.refused P S c n show _ s) (go (s.accesses i).connection) (kept, tt)
      where
        go : (o : Option Connection) → Did (events.open_new P S c n show i holder s o)
        go None =
            let t = events.connect P S c n show i holder s in
            outside_input_fine i input.Begin (record { state = t; deeds = [] }) (λ m e. absurd (let other : input.Begin ≡ input.Got m = e in cc)) (set_kept i _ s tt kept, tt)
        go (Some x) = (kept, tt)

    shut_did : (i : ℕ) → Did (events.shut P S c n show i s)
    shut_did i = go (s.accesses i).connection
      where
        go : (o : Option Connection) → Did (events.shut_open P S c n show i s o)
        go None = (kept, tt)
        go (Some x) =
            let g = fall P S c n show (element_of n i) (Outside i) (record { state = s; deeds = [] }) in
            let fine = fall_fine (element_of n i) (Outside i) (record { state = s; deeds = [] }) (kept, tt) in
            (set_kept i (record { opened = (s.accesses i).opened; connection = None }) g.state tt fine.0, fine.1)

    pieces_append : (xs ys : List (Option Bytes)) → ArePieces xs → ArePieces ys → ArePieces (xs ++ ys)
    pieces_append [] ys h k = k
    pieces_append (x ∷ xs) ys h k = (h.0, pieces_append xs ys h.1 k)

    bad_piece : (b : Bool) → ArePieces (bad_item b)
    bad_piece true = (tt, tt)
    bad_piece false = tt

    split_pieces : (fs : List Bytes) → ArePieces (split_all c fs)
    split_pieces [] = tt
    split_pieces (f ∷ fs) = go (c.split f) (λ b h. h) (split_pieces fs)
      where
        somes : List Bytes → List (Option Bytes)
        somes [] = []
        somes (x ∷ xs) = Some x ∷ somes xs

        go : (xs : List Bytes) → ((b : Bytes) → In b xs → In b (c.split f)) → ArePieces (split_all c fs) → ArePieces (somes xs ++ split_all c fs)
        go [] within rest = rest
        go (x ∷ xs) within rest = ((f, within x (inl refl)), go xs (λ b h. within b (inr h)) rest)

    feed_did : (i : ℕ) (bytes : Bytes) → Did (events.feed P S c n show i bytes s)
    feed_did i bytes = go (s.accesses i).connection
      where
        same : (b : Bool) (t : State P S) → Inboxes t → Inboxes (cond b s t)
        same true t h = kept
        same false t h = h

        go : (o : Option Connection) → Did (events.feed_open P S c n show i bytes s o)
        go None = (kept, tt)
        go (Some x) = (
          same (is_down x.session.phase) (with_access P S c n show i (events.fed c bytes) s)
              (access_kept i (events.fed c bytes) s
              (λ k h. pieces_append (k.inbox ++ split_all c (c.feed k.framing bytes).frames) (bad_item (c.feed k.framing bytes).framing.bad)
              (pieces_append k.inbox (split_all c (c.feed k.framing bytes).frames) h (split_pieces (c.feed k.framing bytes).frames)) (bad_piece (c.feed k.framing bytes).framing.bad)) kept),
          tt,
        )

    carry_did : (a b : As) → Did (events.carry P S c n show a b s)
    carry_did a b = did_pick (is_linked n a b) (events.carry_first P S c n show a b s (s.queues a b)) (events.refused P S c n show _ s) (go (s.queues a b)) (kept, tt)
      where
        go : (q : List Bytes) → Did (events.carry_first P S c n show a b s q)
        go [] = (kept, tt)
        go (x ∷ rest) =
            let g : Going P S = record { state = record s { queues = set_pair a b rest s.queues }; deeds = Pops a b ∷ [] } in
            inner_input_fine (adjacency a b) b a (input_of c (Some x)) g (kept, (tt, tt))

    break_did : (a b : As) → Did (events.break P S c n show a b s)
    break_did a b = did_pick (is_linked n a b) (events.answered P S c n show _ (break_adjacency P S c n show (adjacency a b) (record { state = s; deeds = [] }))) (events.refused P S c n show _ s) (break_adjacency_fine (adjacency a b) (record { state = s; deeds = [] }) (kept, tt)) (kept, tt)

    tick_did : (t : ℕ) → Did (events.tick P S c n show t s)
    tick_did t =
        let now = events.later s.clock t in
        let g : Going P S = record { state = record s { clock = now }; deeds = [] } in
        let h = tick_adjacencies_fine (adjacencies n) (record { 0 = now }) (tick_outside P S c n show 0 n.peers (record { 0 = now }) g) (tick_outside_fine 0 n.peers (record { 0 = now }) g (kept, tt)) in
        (h.0, (tt, h.1))

    drain_did : (i holder : ℕ) → Did (events.drain P S c n show i holder s)
    drain_did i holder = go (s.accesses i).connection
      where
        go : (o : Option Connection) → Did (events.drain_open P S c n show i holder s o)
        go None = (kept, tt)
        go (Some x) = did_pick (x.holder == holder) _ _ (access_kept i events.drained s (λ k h. h) kept, (tt, tt)) (kept, tt)

    module _ (codec : IsCodec c) where
      -- a piece that is read as requests has one
      piece_one : (x : Option Bytes) → IsPiece x → (m : Message) → input_of c x ≡ input.Got m → IsSingle m
      piece_one None piece m e = absurd (let other : input.Bad ≡ input.Got m = e in cc)
      piece_one (Some bytes) piece m e = single m (read_back (c.read bytes) m e)
        where
          read_back : (o : Option Message) (m : Message) → read_as o ≡ input.Got m → o ≡ Some m
          read_back None m e = cc
          read_back (Some x) m e = cc

          single : (m : Message) → c.read bytes ≡ Some m → IsSingle m
          single (messages.PcReq as') read = codec.stream.splits piece.0 bytes as' (contains bytes (c.split piece.0) piece.1) read
          single (messages.PcRep replies) read = tt
          single (messages.PcNtf notices) read = tt
          single (messages.PcErr reports) read = tt
          single (messages.Open body) read = tt
          single messages.Keepalive read = tt
          single (messages.Close why) read = tt
          single (messages.Other kind) read = tt

      take_did : (i : ℕ) → Did (events.take P S c n show i s)
      take_did i = go (s.accesses i).connection (kept i)
        where
          item : (inbox : List (Option Bytes)) → ArePieces inbox → Did (events.take_item P S c n show i s inbox)
          item [] pieces = (kept, tt)
          item (x ∷ rest) pieces =
              outside_input_fine i (input_of c x) (record { state = with_access P S c n show i (with_inbox rest) s; deeds = [] }) (piece_one x pieces.0)
              (access_kept i (with_inbox rest) s (λ k h. pieces.1) kept, tt)

          go : (o : Option Connection) → HasPieces o → Did (events.take_open P S c n show i s o)
          go None h = (kept, tt)
          go (Some x) h = item x.inbox h

module _ (c : Codec) (n : NetworkParts) (codec : IsCodec c) where
  abbrev Well : Happened → Type 0
  Well h = Did Pin Segment c n open_of h

  happens_well : (s : Plant) (e : Event) (h : Happened) → Inboxes Pin Segment c n open_of s → Happens c n s e h → Well h
  happens_well s (event.Load d g) h kept is =
      subst Well (sym is)
      (did_pick Pin Segment c n open_of (is_element n d) _ _
      (did_pick Pin Segment c n open_of (is_full (s.current d).number (s.elements d).pending.rows) _ _ (kept, tt) (kept, (tt, tt))) (kept, tt))
  happens_well s (event.Open i holder) h kept is = subst Well (sym is) (open_did Pin Segment c n open_of s kept i holder)
  happens_well s (event.Shut i) h kept is = subst Well (sym is) (shut_did Pin Segment c n open_of s kept i)
  happens_well s (event.Feed i bytes) h kept is = subst Well (sym is) (feed_did Pin Segment c n open_of s kept i bytes)
  happens_well s (event.Take i) h kept is = subst Well (sym is) (take_did Pin Segment c n open_of s kept codec i)
  happens_well s (event.Carry a b) h kept is = subst Well (sym is) (carry_did Pin Segment c n open_of s kept a b)
  happens_well s (event.Break a b) h kept is = subst Well (sym is) (break_did Pin Segment c n open_of s kept a b)
  happens_well s (event.Tick t) h kept is = subst Well (sym is) (tick_did Pin Segment c n open_of s kept t.0)
  happens_well s (event.Drain i holder) h kept is = subst Well (sym is) (drain_did Pin Segment c n open_of s kept i holder)
  happens_well s (event.Solve d k) h kept (inl none) = subst Well (sym none.1) (kept, tt)
  happens_well s (event.Solve d k) h kept (inr (inl none)) = subst Well (sym none.2) (kept, tt)
  happens_well s (event.Solve d k) h kept (inr (inr (inl solves))) =
      let x = solves.1 in
      let r = commit c (place n d) (k, x.held) x.down s.clock (λ b. b.segment) (job_found x.rows.source_known x.rows.target_known x.rows.best) (s.elements d) in
      subst Well (sym x.is) (puts_kept Pin Segment c n open_of d r.outputs (with_element Pin Segment c n open_of d r.element s) kept, (tt, tt))
  happens_well s (event.Solve d k) h kept (inr (inr (inr solves))) =
      let x = solves.2 in
      let r = parent.commit c (k, x.held) x.answer s.parent in
      subst Well (sym x.is) (puts_kept Pin Segment c n open_of parent_as r.outputs (with_parent Pin Segment c n open_of r.parent s) kept, (tt, tt))

  pub run_outside : (es : List Entry) (s : Plant) → Run c n es s → Inboxes Pin Segment c n open_of s × AreOutsideSingle (deeds_of c n es)
  run_outside [] s is =
      let b = events.bare Pin Segment c n open_of first_pin in
      let h = begin_adjacencies_fine Pin Segment c n open_of (adjacencies n) (record { state = b; deeds = [] }) ((λ i. tt), tt) in
      (subst (Inboxes Pin Segment c n open_of) (sym is) h.0, h.1)
  run_outside (e ∷ older) s run =
      let held = run_outside older run.0 run.1 in
      let h : Happened = record { answer = e.answer; state = s; deeds = e.deeds } in
      let well : Well h = elim run.3 [
        | inl is ↦ happens_well run.0 e.event h held.0 is
        | inr none ↦ subst Well (sym none.1) (held.0, tt)
      ] in
      (well.0, outside_append e.deeds (deeds_of c n older) well.1 held.1)
