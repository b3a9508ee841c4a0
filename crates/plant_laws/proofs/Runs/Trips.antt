-- Each event is done in steps: as acts, but a link breaks in one step, and what a session keeps asks and answers nothing.
use Rattle.std.proofs.Common.{◌≡◌, ◌⊎◌, ℕ, ◌+◌, ◌%◌, Bool, true, false, cond, ◌==◌, List, [], ◌∷◌, ◌++◌, Option, Some, None, is_some, sym, ◌∙◌, ap, subst, inl, inr, refl}
use Rattle.plant_model.specs.Types.{As, Tick, Peer, Outside, Inner, Message, Input, Action, Own, NetworkParts, PeerRow, State as Session}
use Rattle.disclosure.specs.Shown.{open_of}
use Rattle.pcep_session.specs.declared.session.Input.TheVariants as input
use Rattle.pcep_session.specs.declared.actions.Own.TheVariants as own
use Rattle.pcep_session.specs.declared.actions.Action.TheVariants as action
use Rattle.plant_model.specs.declared.output.Output.{Output}
use Rattle.plant_text.specs.Names.{same_as, same_link, parent_as}
use Rattle.plant_model.specs.Names.{is_empty, set_pair}
use Rattle.plant_model.specs.Wire.{Bytes, Codec}
use Rattle.pcep_session.specs.Table.{turn_of, new_state}
use Rattle.plant_model.specs.Element.{upped, downed}
use Rattle.plant_model.specs.Taking.{take}
use Rattle.plant_model.specs.Parent as parent
use Rattle.plant_text.specs.Settings.{class_of, Adjacency, adjacency, adjacencies, is_linked, has_adjacency, peer_row}
use Rattle.plant_model.specs.Settings.{place, family}
use Rattle.plant_model.specs.State.{State, Connection, Access, Pops, Takes, Ups, Downs, Hands}
use Rattle.plant_model.specs.Deeds.{Going, own_message, with_parent, with_element, element_of, is_due, is_tick, is_out_empty, any_fall, our_offer, on_connection, with_more, with_session, with_inbox, read_as, input_of, give, rise, fall, say, clear, expire, put_to, put, puts, outside_act, outside_acts, outside_step, outside_input, inner_act, inner_acts, inner_input, begin_end, begin_adjacency, break_adjacency, tick_outside, tick_adjacencies, with_access, with_inner}
use Rattle.plant_model.specs.Outside.{heeded}
use Rattle.pcep_framing.specs.Frames.{joined}
use Rattle.plant_model.specs.Events as events
use Rattle.plant_model.specs.Events.{is_down, split_all, bad_item}
use Rattle.plant_model.specs.Plant.{Pin, Segment, first_pin}
use Rattle.plant_laws.specs.Transcript.{Transcript}
use Rattle.plant_laws.proofs.Runs.Acts.{IsSameCore, IsHeard}
use Rattle.plant_laws.proofs.Runs.Shape.{has_pass, IsShape, shape}
use Rattle.plant_laws.proofs.Runs.Decompose.{nil_right, append_assoc, framed, give_framed, rise_framed, fall_framed}
use Rattle.plant_laws.proofs.Runs.Queues.{same_as_is}
use Rattle.plant_laws.proofs.Runs.Sessions.{IsLive, IsKept, fine}

abbrev pub Core : Type 0
Core = State Pin Segment

abbrev pub Move : Type 0
Move = Going Pin Segment

abbrev pub at_start : Core → Move
at_start s = record { state = s; deeds = [] }

abbrev pub with_rest : As → As → List Bytes → Core → Core
with_rest a b rest s = record s { queues = set_pair a b rest s.queues }

abbrev pub after_pop : As → As → Core → Move
after_pop a b t = record { state = t; deeds = Pops a b ∷ [] }

module _ (c : Codec) (n : NetworkParts) where
  -- a link goes down at both ends, and its queues are emptied
  abbrev pub broken : Adjacency → Move → Move
  broken x g = clear Pin Segment c n open_of x (fall Pin Segment c n open_of x.upper (Inner x.lower) (fall Pin Segment c n open_of x.lower (Inner x.upper) g))

  pub broken_framed : (x : Adjacency) (s : Core) (ds : Transcript) → broken x (record { state = s; deeds = ds }) ≡ framed ds (broken x (at_start s))
  broken_framed x s ds =
      let f = fall Pin Segment c n open_of x.lower (Inner x.upper) (at_start s) in
      let h = fall Pin Segment c n open_of x.upper (Inner x.lower) (at_start f.state) in
      ap (λ (g : Move). clear Pin Segment c n open_of x (fall Pin Segment c n open_of x.upper (Inner x.lower) g)) (fall_framed Pin Segment c n open_of x.lower (Inner x.upper) s ds)
      ∙ ap (λ (g : Move). clear Pin Segment c n open_of x g) (fall_framed Pin Segment c n open_of x.upper (Inner x.lower) f.state (f.deeds ++ ds))
      ∙ ap (λ (l : Transcript). clear Pin Segment c n open_of x (record { state = h.state; deeds = l })) (sym (append_assoc h.deeds f.deeds ds))
      ∙ sym (ap (λ (g : Move). framed ds (clear Pin Segment c n open_of x g)) (fall_framed Pin Segment c n open_of x.upper (Inner x.lower) f.state f.deeds))

  -- R is what is known of the messages that outside peers feed.
  module _ (R : Bytes → Type 0) where
    abbrev pub AllIn : List (Option Bytes) → Type 0
    AllIn [] = Unit {0}
    AllIn (None ∷ xs) = AllIn xs
    AllIn (Some bytes ∷ xs) = R bytes × AllIn xs

    abbrev pub Inbox : Option Connection → Type 0
    Inbox None = Unit {0}
    Inbox (Some k) = AllIn k.inbox

    pub record Safe (s : Core) : Type 0 where
      pub live : (a b : As) → is_linked n a b ≡ true → IsLive (s.sessions a b).phase × IsLive (s.sessions b a).phase
      pub inboxes : (i : ℕ) → Inbox (s.accesses i).connection

    pub data Step : Core → Transcript → Core → Type 0 where
      rests : (s t : Core) → IsSameCore Pin Segment s t → Step s [] t
      hears : (i : ℕ) (bytes : Bytes) (m : Message) (s : Core) → IsHeard Pin Segment c n open_of i s bytes m → R bytes →
          Step s (give Pin Segment c n open_of (element_of n i) (Outside i) m (at_start s)).deeds (give Pin Segment c n open_of (element_of n i) (Outside i) m (at_start s)).state
      carries : (a b : As) (bytes : Bytes) (rest : List Bytes) (m : Message) (s t : Core) → s.queues a b ≡ bytes ∷ rest → c.read bytes ≡ Some m →
          IsSameCore Pin Segment (with_rest a b rest s) t →
          Step s (give Pin Segment c n open_of b (Inner a) m (after_pop a b t)).deeds (give Pin Segment c n open_of b (Inner a) m (after_pop a b t)).state
      keeps : (a b : As) (bytes : Bytes) (rest : List Bytes) (m : Message) (s : Core) → s.queues a b ≡ bytes ∷ rest → c.read bytes ≡ Some m → IsKept m →
          Step s (Pops a b ∷ []) (with_rest a b rest s)
      hands : (i : ℕ) (bytes : Bytes) (s t : Core) → IsSameCore Pin Segment s t → Step s (Hands i bytes ∷ []) t
      rises : (at : As) (p : Peer) (s : Core) → Step s (rise Pin Segment c n open_of at p (at_start s)).deeds (rise Pin Segment c n open_of at p (at_start s)).state
      shuts : (i : ℕ) (s : Core) →
          Step s (fall Pin Segment c n open_of (element_of n i) (Outside i) (at_start s)).deeds (fall Pin Segment c n open_of (element_of n i) (Outside i) (at_start s)).state
      says : (at : As) (p : Peer) (o : Own) (s : Core) → Step s (say Pin Segment c n open_of at p o (at_start s)).deeds (say Pin Segment c n open_of at p o (at_start s)).state
      expires : (now : ℕ) (s : Core) → Step s (expire Pin Segment c n open_of now (at_start s)).deeds (expire Pin Segment c n open_of now (at_start s)).state
      breaks : (x : Adjacency) (s : Core) → Step s (broken x (at_start s)).deeds (broken x (at_start s)).state
      -- a message that breaks the link
      drops : (a b : As) (bytes : Bytes) (rest : List Bytes) (s : Core) → s.queues a b ≡ bytes ∷ rest →
          Step s (broken (adjacency a b) (after_pop a b (with_rest a b rest s))).deeds (broken (adjacency a b) (after_pop a b (with_rest a b rest s))).state

    -- several, the newest last
    pub data Trip : Core → Transcript → Core → Type 0 where
      stands : (s : Core) → Trip s [] s
      goes_on : (s t u : Core) (ds es : Transcript) → Trip s ds t → Step t es u → Trip s (es ++ ds) u

    -- ---- what is safe stays safe

    more_inbox : (f : Connection → Connection) → ((k : Connection) → AllIn k.inbox → AllIn (f k).inbox) → (o : Option Connection) → Inbox o → Inbox (on_connection f (record { opened = 0; connection = o })).connection
    more_inbox f kept None h = tt
    more_inbox f kept (Some k) h = kept k h

    access_safe : (i : ℕ) (f : Connection → Connection) (s : Core) → ((k : Connection) → AllIn k.inbox → AllIn (f k).inbox) → Safe s → Safe (with_access Pin Segment c n open_of i f s)
    access_safe i f s kept safe = record { live = safe.live; inboxes = λ j. go j (i == j) }
      where
        go : (j : ℕ) (b : Bool) → Inbox (cond b (on_connection f (s.accesses i)) (s.accesses j)).connection
        go j true = at (s.accesses i) (safe.inboxes i)
          where
            at : (a : Access) → Inbox a.connection → Inbox (on_connection f a).connection
            at a h = by a.connection h
              where
                by : (o : Option Connection) → Inbox o → Inbox (on_connection f (record { opened = a.opened; connection = o })).connection
                by None h = tt
                by (Some k) h = kept k h
        go j false = safe.inboxes j

    put_safe : (at : As) (bytes : Bytes) (s : Core) (to : Peer) → Safe s → Safe (put_to Pin Segment c n open_of at bytes s to)
    put_safe at bytes s (Outside i) safe = access_safe i (with_more bytes) s (λ k h. h) safe
    put_safe at bytes s (Inner b) safe = record { live = safe.live; inboxes = safe.inboxes }

    pub puts_safe : (at : As) (os : List Output) (s : Core) → Safe s → Safe (puts Pin Segment c n open_of at os s)
    puts_safe at [] s safe = safe
    puts_safe at (o ∷ os) s safe = puts_safe at os (put Pin Segment c n open_of at o s) (put_safe at (c.text o.message) s o.to safe)

    safe_pick : (b : Bool) (g h : Move) → Safe g.state → Safe h.state → Safe (cond b g h).state
    safe_pick true g h x y = x
    safe_pick false g h x y = y

    give_safe : (at : As) (p : Peer) (m : Message) (g : Move) → Safe g.state → Safe (give Pin Segment c n open_of at p m g).state
    give_safe at p m g safe =
        let r = parent.take c (family n) p m g.state.parent in
        let t = take c open_of (place n at) (g.state.current at) p (class_of n p) g.state.clock m (g.state.elements at) in
        let u = with_parent Pin Segment c n open_of r.parent g.state in
        let v = with_element Pin Segment c n open_of at t.element g.state in
        safe_pick (same_as at parent_as)
        (record { state = puts Pin Segment c n open_of at r.outputs u; deeds = Takes at p m r.outputs ∷ g.deeds })
        (record { state = puts Pin Segment c n open_of at t.outputs v; deeds = Takes at p m t.outputs ∷ g.deeds })
        (puts_safe at r.outputs u (record { live = safe.live; inboxes = safe.inboxes }))
        (puts_safe at t.outputs v (record { live = safe.live; inboxes = safe.inboxes }))

    rise_safe : (at : As) (p : Peer) (g : Move) → Safe g.state → Safe (rise Pin Segment c n open_of at p g).state
    rise_safe at p g safe =
        safe_pick (same_as at parent_as)
        (record { state = with_parent Pin Segment c n open_of (parent.upped p g.state.parent) g.state; deeds = Ups at p ∷ g.deeds })
        (record { state = with_element Pin Segment c n open_of at (upped p (g.state.elements at)) g.state; deeds = Ups at p ∷ g.deeds })
        (record { live = safe.live; inboxes = safe.inboxes }) (record { live = safe.live; inboxes = safe.inboxes })

    fall_safe : (at : As) (p : Peer) (g : Move) → Safe g.state → Safe (fall Pin Segment c n open_of at p g).state
    fall_safe at p g safe =
        let r = parent.downed p g.state.parent in
        let t = downed p (g.state.elements at) in
        let u = with_parent Pin Segment c n open_of r.parent g.state in
        let v = with_element Pin Segment c n open_of at t.element g.state in
        safe_pick (same_as at parent_as)
        (record { state = puts Pin Segment c n open_of at r.outputs u; deeds = Downs at p r.outputs ∷ g.deeds })
        (record { state = puts Pin Segment c n open_of at t.outputs v; deeds = Downs at p t.outputs ∷ g.deeds })
        (puts_safe at r.outputs u (record { live = safe.live; inboxes = safe.inboxes }))
        (puts_safe at t.outputs v (record { live = safe.live; inboxes = safe.inboxes }))

    say_safe : (at : As) (p : Peer) (o : Own) (g : Move) → Safe g.state → Safe (say Pin Segment c n open_of at p o g).state
    say_safe at p o g safe = put_safe at (c.text (own_message o)) g.state p safe

    broken_safe : (x : Adjacency) (g : Move) → Safe g.state → Safe (broken x g).state
    broken_safe x g safe =
        let f = fall Pin Segment c n open_of x.lower (Inner x.upper) g in
        let h = fall_safe x.upper (Inner x.lower) f (fall_safe x.lower (Inner x.upper) g safe) in
        record { live = h.live; inboxes = h.inboxes }

    -- a session goes on
    inner_safe : (at b : As) (next : Session) (s : Core) → (IsLive (s.sessions at b).phase → IsLive next.phase) → Safe s → Safe (with_inner Pin Segment c n open_of at b next s)
    inner_safe at b next s stays safe = record {
      live = λ a' b' linked. let h = safe.live a' b' linked in (go a' b' (same_as at a') (same_as b b') refl refl h.0, go b' a' (same_as at b') (same_as b a') refl refl h.1);
      inboxes = safe.inboxes;
    }
      where
        go : (a' b' : As) (t u : Bool) → same_as at a' ≡ t → same_as b b' ≡ u → IsLive (s.sessions a' b').phase → IsLive (cond t (cond u next (s.sessions a' b')) (s.sessions a' b')).phase
        go a' b' true true e f h =
            stays (subst (λ (z : As). IsLive (s.sessions z b).phase) (sym (same_as_is at a' e)) (subst (λ (z : As). IsLive (s.sessions a' z).phase) (sym (same_as_is b b' f)) h))
        go a' b' true false e f h = h
        go a' b' false u e f h = h

    -- ---- what is reached from a state

    module _ (s0 : Core) where
      pub record Reached (g : Move) : Type 0 where
        pub trip : Trip s0 g.deeds g.state
        pub safe : Safe g.state

      pick : (b : Bool) (g h : Move) → (b ≡ true → Reached g) → (b ≡ false → Reached h) → Reached (cond b g h)
      pick true g h r r' = r refl
      pick false g h r r' = r' refl

      rest_trip : (g : Move) (t : Core) → IsSameCore Pin Segment g.state t → Trip s0 g.deeds g.state → Trip s0 g.deeds t
      rest_trip g t same r = goes_on s0 g.state t g.deeds [] r (rests g.state t same)

      hear_on : (i : ℕ) (bytes : Bytes) (m : Message) (g : Move) → IsHeard Pin Segment c n open_of i g.state bytes m → R bytes → Reached g → Reached (give Pin Segment c n open_of (element_of n i) (Outside i) m g)
      hear_on i bytes m g read known r =
          let h = give Pin Segment c n open_of (element_of n i) (Outside i) m (at_start g.state) in
          record {
            trip = subst (λ (k : Move). Trip s0 k.deeds k.state) (sym (give_framed Pin Segment c n open_of (element_of n i) (Outside i) m g.state g.deeds))
                (goes_on s0 g.state h.state g.deeds h.deeds r.trip (hears i bytes m g.state read known));
            safe = give_safe (element_of n i) (Outside i) m g r.safe;
          }

      rise_on : (at : As) (p : Peer) (g : Move) → Reached g → Reached (rise Pin Segment c n open_of at p g)
      rise_on at p g r =
          let h = rise Pin Segment c n open_of at p (at_start g.state) in
          record {
            trip = subst (λ (k : Move). Trip s0 k.deeds k.state) (sym (rise_framed Pin Segment c n open_of at p g.state g.deeds)) (goes_on s0 g.state h.state g.deeds h.deeds r.trip (rises at p g.state));
            safe = rise_safe at p g r.safe;
          }

      shut_on : (i : ℕ) (g : Move) → Reached g → Reached (fall Pin Segment c n open_of (element_of n i) (Outside i) g)
      shut_on i g r =
          let h = fall Pin Segment c n open_of (element_of n i) (Outside i) (at_start g.state) in
          record {
            trip = subst (λ (k : Move). Trip s0 k.deeds k.state) (sym (fall_framed Pin Segment c n open_of (element_of n i) (Outside i) g.state g.deeds)) (goes_on s0 g.state h.state g.deeds h.deeds r.trip (shuts i g.state));
            safe = fall_safe (element_of n i) (Outside i) g r.safe;
          }

      say_trip : (at : As) (p : Peer) (o : Own) (g : Move) → Trip s0 g.deeds g.state → Trip s0 (say Pin Segment c n open_of at p o g).deeds (say Pin Segment c n open_of at p o g).state
      say_trip at p o g r =
          let h = say Pin Segment c n open_of at p o (at_start g.state) in
          goes_on s0 g.state h.state g.deeds h.deeds r (says at p o g.state)

      say_on : (at : As) (p : Peer) (o : Own) (g : Move) → Reached g → Reached (say Pin Segment c n open_of at p o g)
      say_on at p o g r = record { trip = say_trip at p o g r.trip; safe = say_safe at p o g r.safe }

      expire_on : (now : ℕ) (g : Move) → Reached g → Reached (expire Pin Segment c n open_of now g)
      expire_on now g r =
          let h = expire Pin Segment c n open_of now (at_start g.state) in
          record { trip = goes_on s0 g.state h.state g.deeds h.deeds r.trip (expires now g.state); safe = record { live = r.safe.live; inboxes = r.safe.inboxes } }

      broken_on : (x : Adjacency) (g : Move) → Reached g → Reached (broken x g)
      broken_on x g r =
          let h = broken x (at_start g.state) in
          record {
            trip = subst (λ (k : Move). Trip s0 k.deeds k.state) (sym (broken_framed x g.state g.deeds)) (goes_on s0 g.state h.state g.deeds h.deeds r.trip (breaks x g.state));
            safe = broken_safe x g r.safe;
          }

      -- what a session of a link does without passing a message on
      quiet_inner : (at b : As) (ticks : Bool) (as' : List Action) (g : Move) → has_pass as' ≡ false → Reached g → Reached (inner_acts Pin Segment c n open_of at b ticks as' g)
      quiet_inner at b ticks [] g none r = r
      quiet_inner at b ticks (action.Send o ∷ as') g none r =
          quiet_inner at b ticks as' (inner_act Pin Segment c n open_of at b ticks (action.Send o) g) none
          (pick (cond ticks (cond (is_due o) (cond (is_empty (g.state.queues at b)) false true) false) false) g (say Pin Segment c n open_of at (Inner b) o g) (λ is. r) (λ is. say_on at (Inner b) o g r))
      quiet_inner at b ticks (action.Up ∷ as') g none r = quiet_inner at b ticks as' (rise Pin Segment c n open_of at (Inner b) g) none (rise_on at (Inner b) g r)
      quiet_inner at b ticks (action.Down why ∷ as') g none r = quiet_inner at b ticks as' g none r
      quiet_inner at b ticks (action.Pass m ∷ as') g none r = let other : true ≡ false = none in cc

      -- an outside session, with what it read
      abbrev IsRead : Input → Type 0
      IsRead x = (m : Message) → x ≡ input.Got m → (bytes : Bytes) × (c.read bytes ≡ Some m) × R bytes

      access_on : (i : ℕ) (f : Connection → Connection) (g : Move) → ((k : Connection) → AllIn k.inbox → AllIn (f k).inbox) → Reached g →
          Reached (record { state = with_access Pin Segment c n open_of i f g.state; deeds = g.deeds })
      access_on i f g kept r = record {
        trip = rest_trip g (with_access Pin Segment c n open_of i f g.state) (record { elements = refl; parent = refl; current = refl; queues = refl }) r.trip;
        safe = access_safe i f g.state kept r.safe;
      }

      quiet_outside : (i : ℕ) (ticks : Bool) (as' : List Action) (g : Move) → has_pass as' ≡ false → Reached g → Reached (outside_acts Pin Segment c n open_of i ticks as' g)
      quiet_outside i ticks [] g none r = r
      quiet_outside i ticks (action.Send o ∷ as') g none r =
          quiet_outside i ticks as' (outside_act Pin Segment c n open_of i ticks (action.Send o) g) none
          (pick (cond ticks (cond (is_due o) (cond (is_out_empty (g.state.accesses i).connection) false true) false) false) g (say Pin Segment c n open_of (element_of n i) (Outside i) o g) (λ is. r) (λ is. say_on (element_of n i) (Outside i) o g r))
      quiet_outside i ticks (action.Up ∷ as') g none r = quiet_outside i ticks as' (rise Pin Segment c n open_of (element_of n i) (Outside i) g) none (rise_on (element_of n i) (Outside i) g r)
      quiet_outside i ticks (action.Down why ∷ as') g none r =
          let h : Move = record { state = with_access Pin Segment c n open_of i (with_inbox []) g.state; deeds = g.deeds } in
          quiet_outside i ticks as' (fall Pin Segment c n open_of (element_of n i) (Outside i) h) none (shut_on i h (access_on i (with_inbox []) g (λ k kept. tt) r))
      quiet_outside i ticks (action.Pass m ∷ as') g none r = let other : true ≡ false = none in cc

      outside_step_on : (i : ℕ) (x : Input) (g : Move) (o : Option Connection) → IsRead x → Reached g → Reached (outside_step Pin Segment c n open_of i x g o)
      outside_step_on i x g None read r = r
      outside_step_on i x g (Some k) read r =
          let t = turn_of k.session x in
          let h : Move = record { state = with_access Pin Segment c n open_of i (with_session t.next) g.state; deeds = g.deeds } in
          let r' : Reached h = access_on i (with_session t.next) g (λ k kept. kept) r in
          elim (shape k.session x) [
            | inl none ↦ quiet_outside i (is_tick x) t.actions h none r'
            | inr pass ↦
                let b = read pass.0 pass.1 in
                subst (λ (as' : List Action). Reached (outside_acts Pin Segment c n open_of i (is_tick x) as' h)) (sym pass.2)
                (hear_on i b.0 (heeded c (Outside i) (h.state.elements (element_of n i)).pending.rows pass.0) h (pass.0, b.1, refl) b.2 r')
          ]

      outside_input_on : (i : ℕ) (x : Input) (g : Move) → IsRead x → Reached g → Reached (outside_input Pin Segment c n open_of i x g)
      outside_input_on i x g read r = outside_step_on i x g (g.state.accesses i).connection read r

      begin_trip : (sid : ℕ) (at b : As) (g : Move) → Trip s0 g.deeds g.state → Trip s0 (begin_end Pin Segment c n open_of sid at b g).deeds (begin_end Pin Segment c n open_of sid at b g).state
      begin_trip sid at b g r =
          let t = turn_of (new_state (our_offer sid) (record { 0 = g.state.clock })) input.Begin in
          let h : Move = record { state = with_inner Pin Segment c n open_of at b t.next g.state; deeds = g.deeds } in
          say_trip at (Inner b) (own.Open (our_offer sid)) h (rest_trip g h.state (record { elements = refl; parent = refl; current = refl; queues = refl }) r)

      begin_end_on : (sid : ℕ) (at b : As) (g : Move) → Reached g → Reached (begin_end Pin Segment c n open_of sid at b g)
      begin_end_on sid at b g r =
          let t = turn_of (new_state (our_offer sid) (record { 0 = g.state.clock })) input.Begin in
          let h : Move = record { state = with_inner Pin Segment c n open_of at b t.next g.state; deeds = g.deeds } in
          record { trip = begin_trip sid at b g r.trip; safe = say_safe at (Inner b) (own.Open (our_offer sid)) h (inner_safe at b t.next g.state (λ live. tt) r.safe) }

      begin_adjacency_on : (sid : ℕ) (x : Adjacency) (g : Move) → Reached g → Reached (begin_adjacency Pin Segment c n open_of sid x g)
      begin_adjacency_on sid x g r = begin_end_on sid x.upper x.lower (begin_end Pin Segment c n open_of sid x.lower x.upper g) (begin_end_on sid x.lower x.upper g r)

      break_adjacency_on : (x : Adjacency) (g : Move) → Reached g → Reached (break_adjacency Pin Segment c n open_of x g)
      break_adjacency_on x g r = begin_adjacency_on (((g.state.sessions x.lower x.upper).offer.sid + 1) % 256) x (broken x g) (broken_on x g r)

      -- an input that passes nothing on, from outside the link
      tick_input_on : (x : Adjacency) (at b : As) (y : Input) (g : Move) → ((m : Message) → y ≡ input.Got m → ⊥) → Reached g → Reached (inner_input Pin Segment c n open_of x at b y g)
      tick_input_on x at b y g other r =
          let t = turn_of (g.state.sessions at b) y in
          let h : Move = record { state = with_inner Pin Segment c n open_of at b t.next g.state; deeds = g.deeds } in
          pick (any_fall t.actions) (break_adjacency Pin Segment c n open_of x g) (inner_acts Pin Segment c n open_of at b (is_tick y) t.actions h)
          (λ falls. break_adjacency_on x g r)
          (λ stays. quiet_inner at b (is_tick y) t.actions h (no_pass (g.state.sessions at b))
          (record {
            trip = rest_trip g h.state (record { elements = refl; parent = refl; current = refl; queues = refl }) r.trip;
            safe = inner_safe at b t.next g.state (λ live. (fine (g.state.sessions at b) y live stays).live) r.safe;
          }))
        where
          no_pass : (s : Session) → has_pass (turn_of s y).actions ≡ false
          no_pass s = elim (shape s y) [ inl none ↦ none | inr pass ↦ absurd (other pass.0 pass.1) ]

      tick_is_other : (now : Tick) (m : Message) → input.Tick now ≡ input.Got m → ⊥
      tick_is_other now m e = cc

      tick_outside_on : (i : ℕ) (rs : List PeerRow) (now : Tick) (g : Move) → Reached g → Reached (tick_outside Pin Segment c n open_of i rs now g)
      tick_outside_on i [] now g r = r
      tick_outside_on i (row ∷ rs) now g r =
          tick_outside_on (i + 1) rs now (outside_input Pin Segment c n open_of i (input.Tick now) g)
          (outside_input_on i (input.Tick now) g (λ m e. absurd (tick_is_other now m e)) r)

      tick_adjacencies_on : (xs : List Adjacency) (now : Tick) (g : Move) → Reached g → Reached (tick_adjacencies Pin Segment c n open_of xs now g)
      tick_adjacencies_on [] now g r = r
      tick_adjacencies_on (x ∷ xs) now g r =
          let h = inner_input Pin Segment c n open_of x x.lower x.upper (input.Tick now) g in
          tick_adjacencies_on xs now (inner_input Pin Segment c n open_of x x.upper x.lower (input.Tick now) h)
          (tick_input_on x x.upper x.lower (input.Tick now) h (tick_is_other now) (tick_input_on x x.lower x.upper (input.Tick now) g (tick_is_other now) r))

    -- ---- an event, from a safe state

    module _ (items : (fs : List Bytes) → AllIn (split_all c fs)) where
      abbrev Did : Core → events.Happened Pin Segment → Type 0
      Did s h = Reached s (record { state = h.state; deeds = h.deeds })

      did_pick : (s : Core) (b : Bool) (h k : events.Happened Pin Segment) → (b ≡ true → Did s h) → (b ≡ false → Did s k) → Did s (cond b h k)
      did_pick s true h k d e = d refl
      did_pick s false h k d e = e refl

      pub stay : (s : Core) → Safe s → Reached s (at_start s)
      stay s safe = record { trip = stands s; safe = safe }

      read_back : (o : Option Message) (m : Message) → read_as o ≡ input.Got m → o ≡ Some m
      read_back None m e = cc
      read_back (Some x) m e = cc

      begin_is_other : (m : Message) → input.Begin ≡ input.Got m → ⊥
      begin_is_other m e = cc

      set_safe : (i : ℕ) (a : Access) (s : Core) → Inbox a.connection → Safe s → Safe (events.set_access Pin Segment c n open_of i a s)
      set_safe i a s known safe = record { live = safe.live; inboxes = λ j. go j (i == j) }
        where
          go : (j : ℕ) (b : Bool) → Inbox (cond b a (s.accesses j)).connection
          go j true = known
          go j false = safe.inboxes j

      pub open_did : (i holder : ℕ) (s : Core) → Safe s → Did s (events.open_peer Pin Segment c n open_of i holder s)
      open_did i holder s safe =
          did_pick s (is_some (peer_row i n.peers)) (events.open_new Pin Segment c n open_of i holder s (s.accesses i).connection) (events.refused Pin Segment c n open_of _ s)
          (λ is. go (s.accesses i).connection) (λ is. stay s safe)
        where
          go : (o : Option Connection) → Did s (events.open_new Pin Segment c n open_of i holder s o)
          go None =
              let t = events.connect Pin Segment c n open_of i holder s in
              let a : Access = record {
                opened = (s.accesses i).opened + 1;
                connection = Some (record { holder = holder; session = new_state (our_offer ((s.accesses i).opened % 256)) (record { 0 = s.clock }); framing = record { held = []; bad = false }; inbox = []; out = [] });
              } in
              outside_input_on s i input.Begin (at_start t) (λ m e. absurd (begin_is_other m e))
              (record {
                trip = rest_trip s (at_start s) t (record { elements = refl; parent = refl; current = refl; queues = refl }) (stands s);
                safe = set_safe i a s tt safe;
              })
          go (Some x) = stay s safe

      pub shut_did : (i : ℕ) (s : Core) → Safe s → Did s (events.shut Pin Segment c n open_of i s)
      shut_did i s safe = go (s.accesses i).connection
        where
          go : (o : Option Connection) → Did s (events.shut_open Pin Segment c n open_of i s o)
          go None = stay s safe
          go (Some x) =
              let g = fall Pin Segment c n open_of (element_of n i) (Outside i) (at_start s) in
              let r = shut_on s i (at_start s) (stay s safe) in
              let a : Access = record { opened = (s.accesses i).opened; connection = None } in
              record {
                trip = rest_trip s g (events.set_access Pin Segment c n open_of i a g.state) (record { elements = refl; parent = refl; current = refl; queues = refl }) r.trip;
                safe = set_safe i a g.state tt r.safe;
              }

      all_append : (xs ys : List (Option Bytes)) → AllIn xs → AllIn ys → AllIn (xs ++ ys)
      all_append [] ys h g = g
      all_append (None ∷ xs) ys h g = all_append xs ys h g
      all_append (Some b ∷ xs) ys h g = (h.0, all_append xs ys h.1 g)

      bad_in : (b : Bool) → AllIn (bad_item b)
      bad_in true = tt
      bad_in false = tt

      fed_in : (bytes : Bytes) (k : Connection) → AllIn k.inbox → AllIn (events.fed c bytes k).inbox
      fed_in bytes k h =
          let f = c.feed k.framing bytes in
          all_append (k.inbox ++ split_all c f.frames) (bad_item f.framing.bad) (all_append k.inbox (split_all c f.frames) h (items f.frames)) (bad_in f.framing.bad)

      pub feed_did : (i : ℕ) (bytes : Bytes) (s : Core) → Safe s → Did s (events.feed Pin Segment c n open_of i bytes s)
      feed_did i bytes s safe = go (s.accesses i).connection
        where
          pick_state : (b : Bool) (t : Core) → Reached s (at_start t) → Reached s (at_start (cond b s t))
          pick_state true t r = stay s safe
          pick_state false t r = r

          go : (o : Option Connection) → Did s (events.feed_open Pin Segment c n open_of i bytes s o)
          go None = stay s safe
          go (Some x) = pick_state (is_down x.session.phase) (with_access Pin Segment c n open_of i (events.fed c bytes) s) (access_on s i (events.fed c bytes) (at_start s) (fed_in bytes) (stay s safe))

      pub take_did : (i : ℕ) (s : Core) → Safe s → Did s (events.take Pin Segment c n open_of i s)
      take_did i s safe = go (s.accesses i).connection refl
        where
          -- what was first in the inbox, and the rest of it
          head_in : (x : Option Bytes) (rest : List (Option Bytes)) → AllIn (x ∷ rest) → IsRead s (input_of c x)
          head_in None rest h m e = cc
          head_in (Some bytes) rest h m e = (bytes, read_back (c.read bytes) m e, h.0)

          rest_in : (x : Option Bytes) (rest : List (Option Bytes)) → AllIn (x ∷ rest) → AllIn rest
          rest_in None rest h = h
          rest_in (Some bytes) rest h = h.1

          item : (inbox : List (Option Bytes)) → AllIn inbox → Did s (events.take_item Pin Segment c n open_of i s inbox)
          item [] h = stay s safe
          item (x ∷ rest) h =
              outside_input_on s i (input_of c x) (at_start (with_access Pin Segment c n open_of i (with_inbox rest) s)) (head_in x rest h)
              (access_on s i (with_inbox rest) (at_start s) (λ k kept. rest_in x rest h) (stay s safe))

          go : (o : Option Connection) → (s.accesses i).connection ≡ o → Did s (events.take_open Pin Segment c n open_of i s o)
          go None is = stay s safe
          go (Some x) is = item x.inbox (subst Inbox is (safe.inboxes i))

      pub carry_did : (a b : As) (s : Core) → Safe s → Did s (events.carry Pin Segment c n open_of a b s)
      carry_did a b s safe =
          did_pick s (is_linked n a b) (events.carry_first Pin Segment c n open_of a b s (s.queues a b)) (events.refused Pin Segment c n open_of _ s)
          (λ linked. go (safe.live a b linked).1 (s.queues a b) refl) (λ is. stay s safe)
        where
          go : IsLive (s.sessions b a).phase → (q : List Bytes) → s.queues a b ≡ q → Did s (events.carry_first Pin Segment c n open_of a b s q)
          go live [] is = stay s safe
          go live (x ∷ rest) is = by (shape (s.sessions b a) y)
            where
              y : Input
              y = read_as (c.read x)

              g : Move
              g = after_pop a b (with_rest a b rest s)

              popped_safe : Safe (with_rest a b rest s)
              popped_safe = record { live = safe.live; inboxes = safe.inboxes }

              -- a message that is kept
              kept : (o : Option Message) → c.read x ≡ o → has_pass (turn_of (s.sessions b a) (read_as o)).actions ≡ false → any_fall (turn_of (s.sessions b a) (read_as o)).actions ≡ false →
                  (m : Message) × (c.read x ≡ Some m) × IsKept m
              kept None read none stays = absurd ((fine (s.sessions b a) input.Bad live stays).good refl)
              kept (Some m) read none stays = (m, read, (fine (s.sessions b a) (input.Got m) live stays).kept none m refl)

              by : IsShape y (turn_of (s.sessions b a) y) → Did s (events.carry_first Pin Segment c n open_of a b s (x ∷ rest))
              by (inl none) =
                  let t = turn_of (s.sessions b a) y in
                  let h : Move = record { state = with_inner Pin Segment c n open_of b a t.next g.state; deeds = g.deeds } in
                  let z = adjacency a b in
                  pick s (any_fall t.actions) (break_adjacency Pin Segment c n open_of z g) (inner_acts Pin Segment c n open_of b a (is_tick y) t.actions h)
                  (λ falls. begin_adjacency_on s (((g.state.sessions z.lower z.upper).offer.sid + 1) % 256) z (broken z g) (record {
                    trip = subst (λ (ds : Transcript). Trip s ds (broken z g).state) (nil_right (broken z g).deeds) (goes_on s s (broken z g).state [] (broken z g).deeds (stands s) (drops a b x rest s is));
                    safe = broken_safe z g popped_safe;
                  }))
                  (λ stays.
                  let k = kept (c.read x) refl none stays in
                  quiet_inner s b a (is_tick y) t.actions h none (record {
                    trip = rest_trip s g h.state (record { elements = refl; parent = refl; current = refl; queues = refl }) (goes_on s s g.state [] (Pops a b ∷ []) (stands s) (keeps a b x rest k.0 s is k.1 k.2));
                    safe = inner_safe b a t.next g.state (λ live'. (fine (s.sessions b a) y live' stays).live) popped_safe;
                  }))
              by (inr pass) =
                  let t = turn_of (s.sessions b a) y in
                  let u = with_inner Pin Segment c n open_of b a t.next g.state in
                  let h = give Pin Segment c n open_of b (Inner a) pass.0 (after_pop a b u) in
                  let step : Step s h.deeds h.state = carries a b x rest pass.0 s u is (read_back (c.read x) pass.0 pass.1) (record { elements = refl; parent = refl; current = refl; queues = refl }) in
                  let none : any_fall t.actions ≡ false = ap any_fall pass.2 in
                  let reached : Reached s h = record {
                    trip = subst (λ (ds : Transcript). Trip s ds h.state) (nil_right h.deeds) (goes_on s s h.state [] h.deeds (stands s) step);
                    safe = give_safe b (Inner a) pass.0 (after_pop a b u) (inner_safe b a t.next g.state (λ live'. (fine (s.sessions b a) y live' none).live) popped_safe);
                  } in
                  subst (λ (as' : List Action). Reached s
                  (cond (any_fall as') (break_adjacency Pin Segment c n open_of (adjacency a b) g) (inner_acts Pin Segment c n open_of b a (is_tick y) as' (record { state = u; deeds = g.deeds }))))
                  (sym pass.2) reached

      pub break_did : (a b : As) (s : Core) → Safe s → Did s (events.break Pin Segment c n open_of a b s)
      break_did a b s safe =
          let g = break_adjacency Pin Segment c n open_of (adjacency a b) (at_start s) in
          did_pick s (is_linked n a b) (events.answered Pin Segment c n open_of _ g) (events.refused Pin Segment c n open_of _ s)
          (λ is. break_adjacency_on s (adjacency a b) (at_start s) (stay s safe)) (λ is. stay s safe)

      pub tick_did : (t : ℕ) (s : Core) → Safe s → Did s (events.tick Pin Segment c n open_of t s)
      tick_did t s safe =
          let now = events.later s.clock t in
          let u : Core = record s { clock = now } in
          let h = tick_outside Pin Segment c n open_of 0 n.peers (record { 0 = now }) (at_start u) in
          expire_on s now (tick_adjacencies Pin Segment c n open_of (adjacencies n) (record { 0 = now }) h)
          (tick_adjacencies_on s (adjacencies n) (record { 0 = now }) h
          (tick_outside_on s 0 n.peers (record { 0 = now }) (at_start u) (record {
            trip = rest_trip s (at_start s) u (record { elements = refl; parent = refl; current = refl; queues = refl }) (stands s);
            safe = record { live = safe.live; inboxes = safe.inboxes };
          })))

      pub drain_did : (i holder : ℕ) (s : Core) → Safe s → Did s (events.drain Pin Segment c n open_of i holder s)
      drain_did i holder s safe = go (s.accesses i).connection
        where
          go : (o : Option Connection) → Did s (events.drain_open Pin Segment c n open_of i holder s o)
          go None = stay s safe
          go (Some x) =
              let t = with_access Pin Segment c n open_of i events.drained s in
              did_pick s (x.holder == holder) _ _
              (λ is. record {
                trip = goes_on s s t [] _ (stands s) (hands i (joined x.out) s t (record { elements = refl; parent = refl; current = refl; queues = refl }));
                safe = access_safe i events.drained s (λ k kept. kept) safe;
              })
              (λ is. stay s safe)

      -- ---- the opening state

      has_part : (x : Bool) (y : Bool) → cond x true y ≡ true → (x ≡ true) ⊎ (y ≡ true)
      has_part true y e = inl refl
      has_part false y e = inr e

      abbrev LiveAt : Core → As → As → Type 0
      LiveAt s a b = IsLive (s.sessions a b).phase × IsLive (s.sessions b a).phase

      pub begun_trip : (xs : List Adjacency) (s0 : Core) (g : Move) → Trip s0 g.deeds g.state → Trip s0 (events.begin_adjacencies Pin Segment c n open_of xs g).deeds (events.begin_adjacencies Pin Segment c n open_of xs g).state
      begun_trip [] s0 g r = r
      begun_trip (x ∷ xs) s0 g r =
          begun_trip xs s0 (begin_adjacency Pin Segment c n open_of 0 x g) (begin_trip s0 0 x.upper x.lower (begin_end Pin Segment c n open_of 0 x.lower x.upper g) (begin_trip s0 0 x.lower x.upper g r))

      set_live : (at b a' b' : As) (next old : Session) → IsLive next.phase → IsLive old.phase → (t u : Bool) → IsLive (cond t (cond u next old) old).phase
      set_live at b a' b' next old new h true true = new
      set_live at b a' b' next old new h true false = h
      set_live at b a' b' next old new h false u = h

      -- one that is live stays so
      begun_keeps : (sid : ℕ) (at b : As) (g : Move) (a' b' : As) → IsLive (g.state.sessions a' b').phase → IsLive ((begin_end Pin Segment c n open_of sid at b g).state.sessions a' b').phase
      begun_keeps sid at b g a' b' h =
          set_live at b a' b' (turn_of (new_state (our_offer sid) (record { 0 = g.state.clock })) input.Begin).next (g.state.sessions a' b') tt h (same_as at a') (same_as b b')

      begun_here : (sid : ℕ) (at b a' b' : As) (g : Move) → same_as at a' ≡ true → same_as b b' ≡ true → IsLive ((begin_end Pin Segment c n open_of sid at b g).state.sessions a' b').phase
      begun_here sid at b a' b' g e f =
          let next = (turn_of (new_state (our_offer sid) (record { 0 = g.state.clock })) input.Begin).next in
          subst (λ (t : Bool). IsLive (cond t (cond (same_as b b') next (g.state.sessions a' b')) (g.state.sessions a' b')).phase) (sym e)
          (subst (λ (t : Bool). IsLive (cond t next (g.state.sessions a' b')).phase) (sym f) tt)

      adjacency_live : (x : Adjacency) (g : Move) (a b : As) → same_link x.lower x.upper a b ≡ true → LiveAt (begin_adjacency Pin Segment c n open_of 0 x g).state a b
      adjacency_live x g a b e = go (same_as x.lower a) (same_as x.upper b) (same_as x.lower b) (same_as x.upper a) refl refl refl refl e
        where
          f : Move
          f = begin_end Pin Segment c n open_of 0 x.lower x.upper g

          go : (t u v w : Bool) → same_as x.lower a ≡ t → same_as x.upper b ≡ u → same_as x.lower b ≡ v → same_as x.upper a ≡ w → cond t u (cond v w false) ≡ true →
              LiveAt (begin_adjacency Pin Segment c n open_of 0 x g).state a b
          go true true v w is is' is'' is''' e = (begun_keeps 0 x.upper x.lower f a b (begun_here 0 x.lower x.upper a b g is is'), begun_here 0 x.upper x.lower b a f is' is)
          go true false v w is is' is'' is''' e = cc
          go false u true true is is' is'' is''' e = (begun_here 0 x.upper x.lower a b f is''' is'', begun_keeps 0 x.upper x.lower f b a (begun_here 0 x.lower x.upper b a g is'' is'''))
          go false u true false is is' is'' is''' e = cc
          go false u false w is is' is'' is''' e = cc

      adjacencies_keep : (xs : List Adjacency) (g : Move) (a b : As) → IsLive (g.state.sessions a b).phase → IsLive ((events.begin_adjacencies Pin Segment c n open_of xs g).state.sessions a b).phase
      adjacencies_keep [] g a b h = h
      adjacencies_keep (x ∷ xs) g a b h =
          adjacencies_keep xs (begin_adjacency Pin Segment c n open_of 0 x g) a b (begun_keeps 0 x.upper x.lower (begin_end Pin Segment c n open_of 0 x.lower x.upper g) a b (begun_keeps 0 x.lower x.upper g a b h))

      adjacencies_live : (xs : List Adjacency) (g : Move) (a b : As) → has_adjacency a b xs ≡ true → LiveAt (events.begin_adjacencies Pin Segment c n open_of xs g).state a b
      adjacencies_live [] g a b e = cc
      adjacencies_live (x ∷ xs) g a b e = elim (has_part (same_link x.lower x.upper a b) (has_adjacency a b xs) e) [
        | inl here ↦ let h = adjacency_live x g a b here in (adjacencies_keep xs (begin_adjacency Pin Segment c n open_of 0 x g) a b h.0, adjacencies_keep xs (begin_adjacency Pin Segment c n open_of 0 x g) b a h.1)
        | inr there ↦ adjacencies_live xs (begin_adjacency Pin Segment c n open_of 0 x g) a b there
      ]

      adjacencies_inboxes : (xs : List Adjacency) (g : Move) → ((i : ℕ) → Inbox (g.state.accesses i).connection) → (i : ℕ) → Inbox ((events.begin_adjacencies Pin Segment c n open_of xs g).state.accesses i).connection
      adjacencies_inboxes [] g h i = h i
      adjacencies_inboxes (x ∷ xs) g h i = adjacencies_inboxes xs (begin_adjacency Pin Segment c n open_of 0 x g) h i

      pub opening_safe : Safe (events.opening Pin Segment c n open_of first_pin).state
      opening_safe =
          let g = at_start (events.bare Pin Segment c n open_of first_pin) in
          record { live = λ a b linked. adjacencies_live (adjacencies n) g a b linked; inboxes = adjacencies_inboxes (adjacencies n) g (λ i. tt) }
