-- A peer that opens no connection has none in the run of the sample.
use Rattle.std.proofs.Common.{◌≡◌, ℕ, ◌%◌, ◌+◌, ◌==◌, Bool, true, false, cond, List, [], ◌∷◌, Option, Some, None, is_some, ◌∙◌, ap, refl, eqb-true}
use Rattle.plant_model.specs.Types.{As, Peer, Outside, Inner, Message, Input, Action, Own}
use Rattle.dom_base.specs.declared.addr.Addr.TheVariants.{V4}
use Rattle.disclosure.specs.Shown.{open_of}
use Rattle.pcep_messages.specs.declared.message.Message.TheVariants as messages
use Rattle.pcep_session.specs.declared.session.Input.TheVariants as input
use Rattle.pcep_session.specs.declared.actions.Action.TheVariants as action
use Rattle.pcep_session.specs.Table.{new_state, turn_of}
use Rattle.border_costs.specs.declared.answer.Answer.{Answer}
use Rattle.plant_text.specs.Names.{same_as, parent_as}
use Rattle.plant_text.specs.Settings.{Adjacency, adjacency, class_of, is_linked, peer_row}
use Rattle.plant_model.specs.declared.event.Event.{Event}
use Rattle.plant_model.specs.declared.event.Event.TheVariants as event
use Rattle.plant_model.specs.declared.output.Output.{Output}
use Rattle.plant_model.specs.declared.outcome.Refused.TheVariants.{NoSuchPeer}
use Rattle.plant_model.specs.Names.{is_empty, set_number, set_pair}
use Rattle.plant_model.specs.RealWire.{wire}
use Rattle.plant_model.specs.Wire.{Bytes}
use Rattle.plant_model.specs.Element.{Row, upped, downed}
use Rattle.plant_model.specs.Taking.{take}
use Rattle.plant_model.specs.Solving.{commit, job_found}
use Rattle.plant_model.specs.Parent as parent
use Rattle.plant_model.specs.Settings.{place, family}
use Rattle.plant_model.specs.Samples.{As_, asks, the_open}
use Rattle.plant_model.specs.State.{Access, Connection, Pops, Takes, Ups, Downs}
use Rattle.plant_model.specs.Deeds.{Going, our_offer, own_message, element_of, is_due, is_tick, is_out_empty, any_fall, on_connection, with_more, with_session, with_inbox, input_of, with_access, with_element, with_parent, with_inner, put, puts, give, rise, fall, say, clear, outside_act, outside_acts, outside_step, inner_act, inner_acts, begin_end, break_adjacency}
use Rattle.plant_model.specs.Outside.{heeded}
use Rattle.plant_model.specs.Events as events
use Rattle.plant_model.specs.Events.{is_down, fed}
use Rattle.plant_model.specs.Plant.{Pin, Segment, Plant, happened, solved, opened}
use Rattle.plant_laws.proofs.Reasons.GoodRun.{two, played, beginning, plain, ArePlain, begun, held_second, rows_second, held_first, rows_first, first, second, third, fourth, last}
use Rattle.plant_laws.specs.Met.{RunOf}

abbrev Move : Type 0
Move = Going Pin Segment

module _ (i : ℕ) (miss : (0 == i) ≡ false) where
  abbrev NoneAt : Plant → Type 0
  NoneAt s = (s.accesses i).connection ≡ None

  pick : (b : Bool) (g h : Move) → NoneAt g.state → NoneAt h.state → NoneAt (cond b g h).state
  pick true g h x y = x
  pick false g h x y = y

  access_none : (j : ℕ) (f : Connection → Connection) (s : Plant) → NoneAt s → NoneAt (with_access Pin Segment wire two open_of j f s)
  access_none j f s none = go (j == i) refl
    where
      go : (b : Bool) → (j == i) ≡ b → (cond b (on_connection f (s.accesses j)) (s.accesses i)).connection ≡ None
      go false is = none
      go true is = ap (λ (o : Option Connection). (on_connection f (record { opened = 0; connection = o })).connection) (ap (λ (z : ℕ). (s.accesses z).connection) (eqb-true j i is) ∙ none)

  other_none : (a : Access) (s : Plant) → NoneAt s → (set_number 0 a s.accesses i).connection ≡ None
  other_none a s none = ap (λ (b : Bool). (cond b a (s.accesses i)).connection) miss ∙ none

  put_none : (at : As) (o : Output) (s : Plant) → NoneAt s → NoneAt (put Pin Segment wire two open_of at o s)
  put_none at o s none = go o.to
    where
      go : (to : Peer) → NoneAt (put Pin Segment wire two open_of at (record { to = to; message = o.message }) s)
      go (Outside j) = access_none j (with_more (wire.text o.message)) s none
      go (Inner b) = none

  puts_none : (at : As) (os : List Output) (s : Plant) → NoneAt s → NoneAt (puts Pin Segment wire two open_of at os s)
  puts_none at [] s none = none
  puts_none at (o ∷ os) s none = puts_none at os (put Pin Segment wire two open_of at o s) (put_none at o s none)

  give_none : (at : As) (p : Peer) (m : Message) (g : Move) → NoneAt g.state → NoneAt (give Pin Segment wire two open_of at p m g).state
  give_none at p m g none =
      let r = parent.take wire (family two) p m g.state.parent in
      let t = take wire open_of (place two at) (g.state.current at) p (class_of two p) g.state.clock m (g.state.elements at) in
      pick (same_as at parent_as)
      (record { state = puts Pin Segment wire two open_of at r.outputs (with_parent Pin Segment wire two open_of r.parent g.state); deeds = Takes at p m r.outputs ∷ g.deeds })
      (record { state = puts Pin Segment wire two open_of at t.outputs (with_element Pin Segment wire two open_of at t.element g.state); deeds = Takes at p m t.outputs ∷ g.deeds })
      (puts_none at r.outputs (with_parent Pin Segment wire two open_of r.parent g.state) none) (puts_none at t.outputs (with_element Pin Segment wire two open_of at t.element g.state) none)

  rise_none : (at : As) (p : Peer) (g : Move) → NoneAt g.state → NoneAt (rise Pin Segment wire two open_of at p g).state
  rise_none at p g none =
      pick (same_as at parent_as)
      (record { state = with_parent Pin Segment wire two open_of (parent.upped p g.state.parent) g.state; deeds = Ups at p ∷ g.deeds })
      (record { state = with_element Pin Segment wire two open_of at (upped p (g.state.elements at)) g.state; deeds = Ups at p ∷ g.deeds }) none none

  fall_none : (at : As) (p : Peer) (g : Move) → NoneAt g.state → NoneAt (fall Pin Segment wire two open_of at p g).state
  fall_none at p g none =
      let r = parent.downed p g.state.parent in
      let t = downed p (g.state.elements at) in
      pick (same_as at parent_as)
      (record { state = puts Pin Segment wire two open_of at r.outputs (with_parent Pin Segment wire two open_of r.parent g.state); deeds = Downs at p r.outputs ∷ g.deeds })
      (record { state = puts Pin Segment wire two open_of at t.outputs (with_element Pin Segment wire two open_of at t.element g.state); deeds = Downs at p t.outputs ∷ g.deeds })
      (puts_none at r.outputs (with_parent Pin Segment wire two open_of r.parent g.state) none) (puts_none at t.outputs (with_element Pin Segment wire two open_of at t.element g.state) none)

  say_none : (at : As) (p : Peer) (o : Own) (g : Move) → NoneAt g.state → NoneAt (say Pin Segment wire two open_of at p o g).state
  say_none at p o g none = put_none at (record { to = p; message = own_message o }) g.state none

  inner_none : (at b : As) (ticks : Bool) (as' : List Action) (g : Move) → NoneAt g.state → NoneAt (inner_acts Pin Segment wire two open_of at b ticks as' g).state
  inner_none at b ticks [] g none = none
  inner_none at b ticks (action.Send o ∷ as') g none =
      inner_none at b ticks as' (inner_act Pin Segment wire two open_of at b ticks (action.Send o) g)
      (pick (cond ticks (cond (is_due o) (cond (is_empty (g.state.queues at b)) false true) false) false) g (say Pin Segment wire two open_of at (Inner b) o g) none (say_none at (Inner b) o g none))
  inner_none at b ticks (action.Up ∷ as') g none = inner_none at b ticks as' (rise Pin Segment wire two open_of at (Inner b) g) (rise_none at (Inner b) g none)
  inner_none at b ticks (action.Down why ∷ as') g none = inner_none at b ticks as' g none
  inner_none at b ticks (action.Pass m ∷ as') g none = inner_none at b ticks as' (give Pin Segment wire two open_of at (Inner b) m g) (give_none at (Inner b) m g none)

  outside_none : (j : ℕ) (ticks : Bool) (as' : List Action) (g : Move) → NoneAt g.state → NoneAt (outside_acts Pin Segment wire two open_of j ticks as' g).state
  outside_none j ticks [] g none = none
  outside_none j ticks (action.Send o ∷ as') g none =
      outside_none j ticks as' (outside_act Pin Segment wire two open_of j ticks (action.Send o) g)
      (pick (cond ticks (cond (is_due o) (cond (is_out_empty (g.state.accesses j).connection) false true) false) false) g (say Pin Segment wire two open_of (element_of two j) (Outside j) o g) none (say_none (element_of two j) (Outside j) o g none))
  outside_none j ticks (action.Up ∷ as') g none = outside_none j ticks as' (rise Pin Segment wire two open_of (element_of two j) (Outside j) g) (rise_none (element_of two j) (Outside j) g none)
  outside_none j ticks (action.Down why ∷ as') g none =
      let h : Move = record { state = with_access Pin Segment wire two open_of j (with_inbox []) g.state; deeds = g.deeds } in
      outside_none j ticks as' (fall Pin Segment wire two open_of (element_of two j) (Outside j) h) (fall_none (element_of two j) (Outside j) h (access_none j (with_inbox []) g.state none))
  outside_none j ticks (action.Pass m ∷ as') g none =
      let heard = heeded wire (Outside j) (g.state.elements (element_of two j)).pending.rows m in
      outside_none j ticks as' (give Pin Segment wire two open_of (element_of two j) (Outside j) heard g) (give_none (element_of two j) (Outside j) heard g none)

  step_none : (j : ℕ) (x : Input) (g : Move) → NoneAt g.state → (o : Option Connection) → NoneAt (outside_step Pin Segment wire two open_of j x g o).state
  step_none j x g none None = none
  step_none j x g none (Some k) =
      let r = turn_of k.session x in
      outside_none j (is_tick x) r.actions (record { state = with_access Pin Segment wire two open_of j (with_session r.next) g.state; deeds = g.deeds }) (access_none j (with_session r.next) g.state none)

  begin_none : (sid : ℕ) (at b : As) (g : Move) → NoneAt g.state → NoneAt (begin_end Pin Segment wire two open_of sid at b g).state
  begin_none sid at b g none =
      let r = turn_of (new_state (our_offer sid) (record { 0 = g.state.clock })) input.Begin in
      inner_none at b false r.actions (record { state = with_inner Pin Segment wire two open_of at b r.next g.state; deeds = g.deeds }) none

  break_none : (x : Adjacency) (g : Move) → NoneAt g.state → NoneAt (break_adjacency Pin Segment wire two open_of x g).state
  break_none x g none =
      let sid = ((g.state.sessions x.lower x.upper).offer.sid + 1) % 256 in
      let f = fall Pin Segment wire two open_of x.lower (Inner x.upper) g in
      let h = fall Pin Segment wire two open_of x.upper (Inner x.lower) f in
      let k = clear Pin Segment wire two open_of x h in
      begin_none sid x.upper x.lower (begin_end Pin Segment wire two open_of sid x.lower x.upper k)
      (begin_none sid x.lower x.upper k (fall_none x.upper (Inner x.lower) f (fall_none x.lower (Inner x.upper) g none)))

  -- ---- events

  abbrev Keeps : Event → Type 0
  Keeps e = (s : Plant) → NoneAt s → NoneAt (happened wire two s e).state

  carry_keeps : (a b : As) → Keeps (event.Carry a b)
  carry_keeps a b s none = go (is_linked two a b) (s.queues a b)
    where
      go : (t : Bool) (xs : List Bytes) → NoneAt (cond t (events.carry_first Pin Segment wire two open_of a b s xs) (events.refused Pin Segment wire two open_of NoSuchPeer s)).state
      go false xs = none
      go true [] = none
      go true (x ∷ rest) =
          let came = input_of wire (Some x) in
          let r = turn_of (s.sessions b a) came in
          let g : Move = record { state = record s { queues = set_pair a b rest s.queues }; deeds = Pops a b ∷ [] } in
          pick (any_fall r.actions) (break_adjacency Pin Segment wire two open_of (adjacency a b) g) (inner_acts Pin Segment wire two open_of b a (is_tick came) r.actions (record { state = with_inner Pin Segment wire two open_of b a r.next g.state; deeds = g.deeds }))
          (break_none (adjacency a b) g none) (inner_none b a (is_tick came) r.actions (record { state = with_inner Pin Segment wire two open_of b a r.next g.state; deeds = g.deeds }) none)

  open_keeps : Keeps (event.Open 0 0)
  open_keeps s none = go (is_some (peer_row 0 two.peers)) (s.accesses 0).connection
    where
      fresh : NoneAt (events.connect Pin Segment wire two open_of 0 0 s)
      fresh = other_none _ s none

      go : (t : Bool) (o : Option Connection) → NoneAt (cond t (events.open_new Pin Segment wire two open_of 0 0 s o) (events.refused Pin Segment wire two open_of NoSuchPeer s)).state
      go false o = none
      go true (Some x) = none
      go true None =
          let t = events.connect Pin Segment wire two open_of 0 0 s in
          step_none 0 input.Begin (record { state = t; deeds = [] }) fresh (t.accesses 0).connection

  feed_keeps : (bytes : Bytes) → Keeps (event.Feed 0 bytes)
  feed_keeps bytes s none = go (s.accesses 0).connection
    where
      go : (o : Option Connection) → NoneAt (events.feed_open Pin Segment wire two open_of 0 bytes s o).state
      go None = none
      go (Some x) = fed_or (is_down x.session.phase)
        where
          fed_or : (t : Bool) → NoneAt (cond t s (with_access Pin Segment wire two open_of 0 (fed wire bytes) s))
          fed_or true = none
          fed_or false = access_none 0 (fed wire bytes) s none

  take_keeps : Keeps (event.Take 0)
  take_keeps s none = go (s.accesses 0).connection
    where
      item : (xs : List (Option Bytes)) → NoneAt (events.take_item Pin Segment wire two open_of 0 s xs).state
      item [] = none
      item (x ∷ rest) =
          let t = with_access Pin Segment wire two open_of 0 (with_inbox rest) s in
          step_none 0 (input_of wire x) (record { state = t; deeds = [] }) (access_none 0 (with_inbox rest) s none) (t.accesses 0).connection

      go : (o : Option Connection) → NoneAt (events.take_open Pin Segment wire two open_of 0 s o).state
      go None = none
      go (Some x) = item x.inbox

  solved_none : (d : As) (h : Row Pin) (rows : Answer) (s : Plant) → NoneAt s → NoneAt (solved wire two d h [] rows s).state
  solved_none d h rows s none =
      let r = commit wire (place two d) h [] s.clock (λ b. b.segment) (job_found rows.source_known rows.target_known rows.best) (s.elements d) in
      puts_none d r.outputs (with_element Pin Segment wire two open_of d r.element s) none

  -- ---- the run

  abbrev AllKeep : List Event → Type 0
  AllKeep [] = Unit {0}
  AllKeep (e ∷ es) = Keeps e × AllKeep es

  played_none : (es : List Event) (are : ArePlain es) (r : RunOf wire two) → AllKeep es → NoneAt r.state → NoneAt (played es are r).state
  played_none [] are r keep none = none
  played_none (e ∷ es) are r keep none = played_none es are.1 _ keep.1 (keep.0 r.state none)

  keep : AllKeep beginning
  keep = (
    carry_keeps (As_ 1) (As_ 2),
    (carry_keeps (As_ 2) (As_ 1), (carry_keeps (As_ 1) (As_ 2), (carry_keeps (As_ 2) (As_ 1), (open_keeps, (feed_keeps (wire.text the_open), (feed_keeps (wire.text messages.Keepalive), (feed_keeps (wire.text (asks 7 (V4 1) (V4 3) (As_ 1 ∷ As_ 2 ∷ []))), (take_keeps, (take_keeps, tt))))))))),
  )

  begun_none : NoneAt begun.state
  unfolding begun
  begun_none = played_none beginning plain (record { entries = []; state = (opened wire two).state; run = refl }) keep refl

  first_none : NoneAt first.state
  unfolding first
  first_none = take_keeps begun.state begun_none

  second_none : NoneAt second.state
  unfolding second
  second_none = carry_keeps (As_ 1) (As_ 2) first.state first_none

  third_none : NoneAt third.state
  unfolding third
  third_none = solved_none (As_ 2) (1, held_second) rows_second second.state second_none

  fourth_none : NoneAt fourth.state
  unfolding fourth
  fourth_none = carry_keeps (As_ 2) (As_ 1) third.state third_none

  pub last_none : NoneAt last.state
  unfolding last
  last_none = solved_none (As_ 1) (1, held_first) rows_first fourth.state fourth_none
