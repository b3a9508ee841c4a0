-- Each message of a run has its cause, and where the cause stands it is put out.
use Rattle.std.proofs.Common.{◌≡◌, ℕ, ◌+◌, ◌%◌, nat_lt, Bool, true, false, cond, List, [], ◌∷◌, Option, Some, None, is_some, Ok, Err, sym, ◌∙◌, ap, subst, inl, inr, refl}
use Rattle.std.specs.Prelude.{Contains}
use Rattle.plant_model.specs.Types.{As, Peer, Outside, Inner, Message, Input, Action, Own, State as Session, NetworkParts}
use Rattle.disclosure.specs.Shown.{open_of}
use Rattle.pcep_session.specs.declared.session.Input.TheVariants as input
use Rattle.pcep_session.specs.declared.actions.Action.TheVariants as action
use Rattle.pcep_session.specs.declared.actions.Own.TheVariants as own
use Rattle.pcep_session.specs.Table.{SessionStep, new_state, turn_of}
use Rattle.plant_text.specs.Names.{same_as, parent_as}
use Rattle.plant_text.specs.Settings.{Adjacency, adjacency, adjacencies, is_linked, is_element, peer_row}
use Rattle.plant_model.specs.declared.event.Event.{Event}
use Rattle.plant_model.specs.declared.event.Event.TheVariants as event
use Rattle.plant_model.specs.declared.outcome.Outcome.{Outcome}
use Rattle.plant_model.specs.declared.outcome.Refused.{Refused}
use Rattle.plant_model.specs.declared.outcome.Refused.TheVariants.{NoMemory, NoSuchPeer}
use Rattle.plant_model.specs.declared.outcome.Outcome.TheVariants.{Done}
use Rattle.plant_model.specs.declared.output.Output.{Output}
use Rattle.plant_model.specs.Names.{set_pair}
use Rattle.plant_model.specs.Wire.{Bytes, Codec}
use Rattle.plant_model.specs.State.{Access, Connection, Pops, Takes, Says, Downs, Clears}
use Rattle.plant_model.specs.Deeds.{Going, element_of, is_due, is_tick, is_out_empty, any_fall, with_session, with_inbox, read_as, input_of, with_access, with_inner, give, rise, fall, say, clear, outside_act, outside_acts, outside_step, inner_act, inner_acts, inner_input, our_offer, own_message, begin_end, begin_adjacency, break_adjacency}
use Rattle.plant_model.specs.Outside.{heeded}
use Rattle.plant_model.specs.Events as events
use Rattle.plant_model.specs.Plant.{Pin, Segment, first_pin, Plant, PlantDeed, Happened, Entry, Run, Steps, Happens, is_full}
use Rattle.plant_laws.specs.Transcript.{Transcript}
use Rattle.plant_laws.specs.Causes.{Passes, from_outside, from_inside, Comes, begins, came_first, came_along, ticks as tick_comes, LinkStays, of_element, of_parent, HaveCauses, Falls, shut, broken, ended, ended_along, MessagesHaveCauses, opens_of, NetworksBegin}
use Rattle.plant_laws.specs.Solves.{ElementTells, ParentTells}
use Rattle.plant_laws.proofs.Reasons.EventCauses.{number_self, open_have, shut_have, feed_have, drain_have, take_have, carry_have, break_have, tick_have, left_is}
use Rattle.plant_laws.proofs.Runs.Lists.{Stands, first_in, later_in, stands_of}
use Rattle.plant_laws.proofs.Least.Solved.{solves_tell}

pick : {T : Type 0} (Q : T → Type 0) (b : Bool) (t u : T) → (b ≡ true → Q t) → (b ≡ false → Q u) → Q (cond b t u)
pick Q true t u f g = f refl
pick Q false t u f g = g refl

module _ (c : Codec) (n : NetworkParts) where
  abbrev Move : Type 0
  Move = Going Pin Segment

  -- ---- what deeds keep, and what they add

  abbrev TakesAt : As → Peer → Message → Transcript → Type 0
  TakesAt at p m ds = (os : List Output) × Contains ds (Takes at p m os)

  abbrev FallsAt : As → Peer → Transcript → Type 0
  FallsAt at p ds = (os : List Output) × Contains ds (Downs at p os)

  give_takes : (at : As) (p : Peer) (m : Message) (g : Move) → TakesAt at p m (give Pin Segment c n open_of at p m g).deeds
  give_takes at p m g = pick (λ (h : Move). TakesAt at p m h.deeds) (same_as at parent_as) _ _ (λ up. (_, first_in _ g.deeds)) (λ down. (_, first_in _ g.deeds))

  give_keeps : (at : As) (p : Peer) (m : Message) (g : Move) (d : PlantDeed) → Contains g.deeds d → Contains (give Pin Segment c n open_of at p m g).deeds d
  give_keeps at p m g d has = pick (λ (h : Move). Contains h.deeds d) (same_as at parent_as) _ _ (λ up. later_in _ g.deeds d has) (λ down. later_in _ g.deeds d has)

  rise_keeps : (at : As) (p : Peer) (g : Move) (d : PlantDeed) → Contains g.deeds d → Contains (rise Pin Segment c n open_of at p g).deeds d
  rise_keeps at p g d has = pick (λ (h : Move). Contains h.deeds d) (same_as at parent_as) _ _ (λ up. later_in _ g.deeds d has) (λ down. later_in _ g.deeds d has)

  fall_falls : (at : As) (p : Peer) (g : Move) → FallsAt at p (fall Pin Segment c n open_of at p g).deeds
  fall_falls at p g = pick (λ (h : Move). FallsAt at p h.deeds) (same_as at parent_as) _ _ (λ up. (_, first_in _ g.deeds)) (λ down. (_, first_in _ g.deeds))

  fall_keeps : (at : As) (p : Peer) (g : Move) (d : PlantDeed) → Contains g.deeds d → Contains (fall Pin Segment c n open_of at p g).deeds d
  fall_keeps at p g d has = pick (λ (h : Move). Contains h.deeds d) (same_as at parent_as) _ _ (λ up. later_in _ g.deeds d has) (λ down. later_in _ g.deeds d has)

  acts_keep : (i : ℕ) (ticks : Bool) (as' : List Action) (g : Move) (d : PlantDeed) → Contains g.deeds d → Contains (outside_acts Pin Segment c n open_of i ticks as' g).deeds d
  acts_keep i ticks [] g d has = has
  acts_keep i ticks (action.Send o ∷ as') g d has =
      acts_keep i ticks as' (outside_act Pin Segment c n open_of i ticks (action.Send o) g) d
      (pick (λ (h : Move). Contains h.deeds d) (cond ticks (cond (is_due o) (cond (is_out_empty (g.state.accesses i).connection) false true) false) false) g (say Pin Segment c n open_of (element_of n i) (Outside i) o g)
      (λ is. has) (λ is. later_in _ g.deeds d has))
  acts_keep i ticks (action.Up ∷ as') g d has = acts_keep i ticks as' (rise Pin Segment c n open_of (element_of n i) (Outside i) g) d (rise_keeps (element_of n i) (Outside i) g d has)
  acts_keep i ticks (action.Down why ∷ as') g d has =
      let h : Move = record { state = with_access Pin Segment c n open_of i (with_inbox []) g.state; deeds = g.deeds } in
      acts_keep i ticks as' (fall Pin Segment c n open_of (element_of n i) (Outside i) h) d (fall_keeps (element_of n i) (Outside i) h d has)
  acts_keep i ticks (action.Pass m ∷ as') g d has =
      let heard = heeded c (Outside i) (g.state.elements (element_of n i)).pending.rows m in
      acts_keep i ticks as' (give Pin Segment c n open_of (element_of n i) (Outside i) heard g) d (give_keeps (element_of n i) (Outside i) heard g d has)

  acts_fall : (i : ℕ) (ticks : Bool) (as' : List Action) (g : Move) → any_fall as' ≡ true → FallsAt (element_of n i) (Outside i) (outside_acts Pin Segment c n open_of i ticks as' g).deeds
  acts_fall i ticks [] g none = (let no : false ≡ true = none in cc)
  acts_fall i ticks (action.Send o ∷ as') g more = acts_fall i ticks as' (outside_act Pin Segment c n open_of i ticks (action.Send o) g) more
  acts_fall i ticks (action.Up ∷ as') g more = acts_fall i ticks as' (rise Pin Segment c n open_of (element_of n i) (Outside i) g) more
  acts_fall i ticks (action.Down why ∷ as') g here =
      let h : Move = record { state = with_access Pin Segment c n open_of i (with_inbox []) g.state; deeds = g.deeds } in
      let k = fall Pin Segment c n open_of (element_of n i) (Outside i) h in
      let f = fall_falls (element_of n i) (Outside i) h in
      (f.0, acts_keep i ticks as' k (Downs (element_of n i) (Outside i) f.0) f.1)
  acts_fall i ticks (action.Pass m ∷ as') g more =
      acts_fall i ticks as' (give Pin Segment c n open_of (element_of n i) (Outside i) (heeded c (Outside i) (g.state.elements (element_of n i)).pending.rows m) g) more

  -- what a session says of its own is said, but at a tick
  acts_say : (i : ℕ) (as' : List Action) (g : Move) (o : Own) → Stands (action.Send o) as' → Contains (outside_acts Pin Segment c n open_of i false as' g).deeds (Says (element_of n i) (record { to = Outside i; message = own_message o }))
  acts_say i [] g o none = absurd none
  acts_say i (a ∷ as') g o (inl is) =
      subst (λ (z : Action). Contains (outside_acts Pin Segment c n open_of i false (z ∷ as') g).deeds (Says (element_of n i) (record { to = Outside i; message = own_message o }))) is
      (acts_keep i false as' (say Pin Segment c n open_of (element_of n i) (Outside i) o g) (Says (element_of n i) (record { to = Outside i; message = own_message o })) (first_in _ g.deeds))
  acts_say i (a ∷ as') g o (inr more) = acts_say i as' (outside_act Pin Segment c n open_of i false a g) o more

  inner_keep : (at b : As) (as' : List Action) (g : Move) (d : PlantDeed) → Contains g.deeds d → Contains (inner_acts Pin Segment c n open_of at b false as' g).deeds d
  inner_keep at b [] g d has = has
  inner_keep at b (action.Send o ∷ as') g d has = inner_keep at b as' (say Pin Segment c n open_of at (Inner b) o g) d (later_in _ g.deeds d has)
  inner_keep at b (action.Up ∷ as') g d has = inner_keep at b as' (rise Pin Segment c n open_of at (Inner b) g) d (rise_keeps at (Inner b) g d has)
  inner_keep at b (action.Down why ∷ as') g d has = inner_keep at b as' g d has
  inner_keep at b (action.Pass m ∷ as') g d has = inner_keep at b as' (give Pin Segment c n open_of at (Inner b) m g) d (give_keeps at (Inner b) m g d has)

  inner_say : (at b : As) (as' : List Action) (g : Move) (o : Own) → Stands (action.Send o) as' → Contains (inner_acts Pin Segment c n open_of at b false as' g).deeds (Says at (record { to = Inner b; message = own_message o }))
  inner_say at b [] g o none = absurd none
  inner_say at b (a ∷ as') g o (inl is) =
      subst (λ (z : Action). Contains (inner_acts Pin Segment c n open_of at b false (z ∷ as') g).deeds (Says at (record { to = Inner b; message = own_message o }))) is
      (inner_keep at b as' (say Pin Segment c n open_of at (Inner b) o g) (Says at (record { to = Inner b; message = own_message o })) (first_in _ g.deeds))
  inner_say at b (a ∷ as') g o (inr more) = inner_say at b as' (inner_act Pin Segment c n open_of at b false a g) o more

  -- a link that breaks
  begin_keeps : (sid : ℕ) (at b : As) (g : Move) (d : PlantDeed) → Contains g.deeds d → Contains (begin_end Pin Segment c n open_of sid at b g).deeds d
  begin_keeps sid at b g d has = later_in (Says at (record { to = Inner b; message = own_message (own.Open (our_offer sid)) })) g.deeds d has

  anew_keeps : (x : Adjacency) (g : Move) (d : PlantDeed) → Contains (fall Pin Segment c n open_of x.upper (Inner x.lower) (fall Pin Segment c n open_of x.lower (Inner x.upper) g)).deeds d →
      Contains (break_adjacency Pin Segment c n open_of x g).deeds d
  anew_keeps x g d has =
      let sid = ((g.state.sessions x.lower x.upper).offer.sid + 1) % 256 in
      let h = fall Pin Segment c n open_of x.upper (Inner x.lower) (fall Pin Segment c n open_of x.lower (Inner x.upper) g) in
      let k = clear Pin Segment c n open_of x h in
      begin_keeps sid x.upper x.lower (begin_end Pin Segment c n open_of sid x.lower x.upper k) d (begin_keeps sid x.lower x.upper k d (later_in (Clears x.lower x.upper) h.deeds d has))

  lower_falls : (x : Adjacency) (g : Move) → FallsAt x.lower (Inner x.upper) (break_adjacency Pin Segment c n open_of x g).deeds
  lower_falls x g =
      let f = fall Pin Segment c n open_of x.lower (Inner x.upper) g in
      let one = fall_falls x.lower (Inner x.upper) g in
      (one.0, anew_keeps x g (Downs x.lower (Inner x.upper) one.0) (fall_keeps x.upper (Inner x.lower) f (Downs x.lower (Inner x.upper) one.0) one.1))

  upper_falls : (x : Adjacency) (g : Move) → FallsAt x.upper (Inner x.lower) (break_adjacency Pin Segment c n open_of x g).deeds
  upper_falls x g =
      let one = fall_falls x.upper (Inner x.lower) (fall Pin Segment c n open_of x.lower (Inner x.upper) g) in
      (one.0, anew_keeps x g (Downs x.upper (Inner x.lower) one.0) one.1)

  first_falls : (a b : As) (g : Move) → FallsAt a (Inner b) (break_adjacency Pin Segment c n open_of (adjacency a b) g).deeds
  first_falls a b g =
      pick (λ (x : Adjacency). FallsAt a (Inner b) (break_adjacency Pin Segment c n open_of x g).deeds) (nat_lt b.0 a.0) (record { lower = b; upper = a }) (record { lower = a; upper = b })
      (λ is. upper_falls (record { lower = b; upper = a }) g) (λ is. lower_falls (record { lower = a; upper = b }) g)

  second_falls : (a b : As) (g : Move) → FallsAt b (Inner a) (break_adjacency Pin Segment c n open_of (adjacency a b) g).deeds
  second_falls a b g =
      pick (λ (x : Adjacency). FallsAt b (Inner a) (break_adjacency Pin Segment c n open_of x g).deeds) (nat_lt b.0 a.0) (record { lower = b; upper = a }) (record { lower = a; upper = b })
      (λ is. lower_falls (record { lower = b; upper = a }) g) (λ is. upper_falls (record { lower = a; upper = b }) g)

  module _ (before : Plant) (e : Event) (h : Happened) (steps : Steps c n before e h) (o : Outcome) (ok : h.answer ≡ Ok o) where
    refused_not : {X : Type 0} (why : Refused) → h ≡ events.refused Pin Segment c n open_of why before → X
    refused_not why is = (let no : Err why ≡ Ok o = ap (λ (x : Happened). x.answer) (sym is) ∙ ok in cc)

    -- what happens, at an event of this form
    happens : (e' : Event) → e ≡ e' → Happens c n before e' h
    happens e' is = elim (subst (λ (x : Event). Steps c n before x h) is steps) [ inl done ↦ done | inr none ↦ refused_not NoMemory none.1 ]

    abbrev Have : Transcript → Type 0
    Have ds = HaveCauses c n before e ds

    of_deeds : (k : Happened) → h ≡ k → Have k.deeds → Have h.deeds
    of_deeds k is have = subst (λ (x : Happened). Have x.deeds) (sym is) have

    solve_have : (es : List Entry) → Run c n es before → (d : As) (k : ℕ) → e ≡ event.Solve d k → Have h.deeds
    solve_have es run d k is = elim (solves_tell c n es before run d k h (subst (λ (x : Event). Steps c n before x h) is steps) o ok) [
      | inl told ↦ subst Have (sym told.sends_one) (of_element d k is (subst (λ (ds : Transcript). ElementTells c n before d k ds) told.sends_one told), tt)
      | inr told ↦
          (let at : e ≡ event.Solve parent_as k = is ∙ ap (λ (z : As). event.Solve z k) told.0 in
          subst Have (sym told.1.sends_one) (of_parent k at (subst (λ (ds : Transcript). ParentTells c n before k ds) told.1.sends_one told.1), tt))
    ]

    have : (es : List Entry) → Run c n es before → (e' : Event) → e ≡ e' → Have h.deeds
    have es run (event.Load d g) is =
        of_deeds _ (happens (event.Load d g) is)
        (pick (λ (k : Happened). Have k.deeds) (is_element n d) _ _ (λ known. pick (λ (k : Happened). Have k.deeds) (is_full (before.current d).number (before.elements d).pending.rows) _ _ (λ full. tt) (λ room. (tt, tt))) (λ unknown. tt))
    have es run (event.Open i holder) is = of_deeds _ (happens (event.Open i holder) is) (open_have c n before e i holder is)
    have es run (event.Shut i) is = of_deeds _ (happens (event.Shut i) is) (shut_have c n before e i)
    have es run (event.Feed i bytes) is = of_deeds _ (happens (event.Feed i bytes) is) (feed_have c n before e i bytes)
    have es run (event.Take i) is = of_deeds _ (happens (event.Take i) is) (take_have c n before e i is)
    have es run (event.Carry a b) is = of_deeds _ (happens (event.Carry a b) is) (carry_have c n before e a b is)
    have es run (event.Break a b) is = of_deeds _ (happens (event.Break a b) is) (break_have c n before e a b)
    have es run (event.Solve d k) is = solve_have es run d k is
    have es run (event.Tick t) is = of_deeds _ (happens (event.Tick t) is) (tick_have c n before e t is)
    have es run (event.Drain i holder) is = of_deeds _ (happens (event.Drain i holder) is) (drain_have c n before e i holder)

    -- ---- what is passed on is taken

    module _ (i : ℕ) (x : Connection) (item : Option Bytes) (rest : List (Option Bytes)) (is : e ≡ event.Take i) (open' : (before.accesses i).connection ≡ Some x) (first : x.inbox ≡ item ∷ rest) where
      abbrev taken : Plant
      taken = with_access Pin Segment c n open_of i (with_inbox rest) before

      -- what is so of the session's step is so of the event
      by_item : (Q : Transcript → Type 0) → Q (outside_step Pin Segment c n open_of i (input_of c item) (record { state = taken; deeds = [] }) (Some (with_inbox rest x))).deeds → Q h.deeds
      by_item Q q =
          subst (λ (k : Happened). Q k.deeds) (sym (happens (event.Take i) is))
          (subst (λ (w : Option Connection). Q (events.take_open Pin Segment c n open_of i before w).deeds) (sym open')
          (subst (λ (xs : List (Option Bytes)). Q (events.take_item Pin Segment c n open_of i before xs).deeds) (sym first)
          (subst (λ (w : Option Connection). Q (outside_step Pin Segment c n open_of i (input_of c item) (record { state = taken; deeds = [] }) w).deeds) (sym (left_is c n before e i is x open' item rest first)) q)))

    module _ (a b : As) (bytes : Bytes) (rest : List Bytes) (is : e ≡ event.Carry a b) (linked : is_linked n a b ≡ true) (first : before.queues a b ≡ bytes ∷ rest) where
      abbrev popped : Move
      popped = record { state = record before { queues = set_pair a b rest before.queues }; deeds = Pops a b ∷ [] }

      by_first : (Q : Transcript → Type 0) → Q (inner_input Pin Segment c n open_of (adjacency a b) b a (input_of c (Some bytes)) popped).deeds → Q h.deeds
      by_first Q q =
          subst (λ (k : Happened). Q k.deeds) (sym (happens (event.Carry a b) is))
          (subst (λ (t : Bool). Q (cond t (events.carry_first Pin Segment c n open_of a b before (before.queues a b)) (events.refused Pin Segment c n open_of NoSuchPeer before)).deeds) (sym linked)
          (subst (λ (xs : List Bytes). Q (events.carry_first Pin Segment c n open_of a b before xs).deeds) (sym first) q))

    passed : (at : As) (p : Peer) (m : Message) → Passes c n before e at p m → TakesAt at p m h.deeds
    passed at p m (from_outside i x bytes rest raw is open' first read acts heard at_is p_is) =
        let given = heeded c (Outside i) (before.elements (element_of n i)).pending.rows raw in
        subst (λ (z : Message). TakesAt at p z h.deeds) (sym heard)
        (subst (λ (z : As). TakesAt z p given h.deeds) (sym at_is)
        (subst (λ (q : Peer). TakesAt (element_of n i) q given h.deeds) (sym p_is)
        (by_item i x (Some bytes) rest is open' first (TakesAt (element_of n i) (Outside i) given)
        (subst (λ (y : Input). TakesAt (element_of n i) (Outside i) given (outside_step Pin Segment c n open_of i y (record { state = with_access Pin Segment c n open_of i (with_inbox rest) before; deeds = [] }) (Some (with_inbox rest x))).deeds) (sym (ap read_as read))
        (subst (λ (as' : List Action). TakesAt (element_of n i) (Outside i) given (outside_acts Pin Segment c n open_of i false as'
        (record { state = with_access Pin Segment c n open_of i (with_session (turn_of x.session (input.Got raw)).next) (with_access Pin Segment c n open_of i (with_inbox rest) before); deeds = [] })).deeds) (sym acts)
        (give_takes (element_of n i) (Outside i) given _))))))
    passed at p m (from_inside a bytes rest is linked first read acts p_is) =
        subst (λ (q : Peer). TakesAt at q m h.deeds) (sym p_is)
        (by_first a at bytes rest is linked first (TakesAt at (Inner a) m)
        (subst (λ (y : Input). TakesAt at (Inner a) m (inner_input Pin Segment c n open_of (adjacency a at) at a y (record { state = record before { queues = set_pair a at rest before.queues }; deeds = Pops a at ∷ [] })).deeds) (sym (ap read_as read))
        (subst (λ (as' : List Action). TakesAt at (Inner a) m (cond (any_fall as')
        (break_adjacency Pin Segment c n open_of (adjacency a at) (record { state = record before { queues = set_pair a at rest before.queues }; deeds = Pops a at ∷ [] }))
        (inner_acts Pin Segment c n open_of at a false as'
        (record { state = with_inner Pin Segment c n open_of at a (turn_of (before.sessions at a) (input.Got m)).next (record before { queues = set_pair a at rest before.queues }); deeds = Pops a at ∷ [] }))).deeds) (sym acts)
        (give_takes at (Inner a) m _))))

    -- ---- where a session goes down

    break_falls : (a b at : As) (p : Peer) → e ≡ event.Break a b → FallsAt at p (break_adjacency Pin Segment c n open_of (adjacency a b) (record { state = before; deeds = [] })).deeds → FallsAt at p h.deeds
    break_falls a b at p is falls = go (is_linked n a b) (happens (event.Break a b) is)
      where
        go : (t : Bool) → h ≡ cond t (events.answered Pin Segment c n open_of Done (break_adjacency Pin Segment c n open_of (adjacency a b) (record { state = before; deeds = [] }))) (events.refused Pin Segment c n open_of NoSuchPeer before) → FallsAt at p h.deeds
        go true same = subst (λ (k : Happened). FallsAt at p k.deeds) (sym same) falls
        go false same = refused_not NoSuchPeer same

    shut_falls : (i : ℕ) → e ≡ event.Shut i → FallsAt (element_of n i) (Outside i) h.deeds
    shut_falls i is = go (before.accesses i).connection (happens (event.Shut i) is)
      where
        go : (w : Option Connection) → h ≡ events.shut_open Pin Segment c n open_of i before w → FallsAt (element_of n i) (Outside i) h.deeds
        go None same = refused_not NoSuchPeer same
        go (Some x) same = subst (λ (k : Happened). FallsAt (element_of n i) (Outside i) k.deeds) (sym same) (fall_falls (element_of n i) (Outside i) (record { state = before; deeds = [] }))

    -- a message that ends the session at its end breaks the link
    drops : (a b : As) (bytes : Bytes) (rest : List Bytes) → any_fall (turn_of (before.sessions b a) (input_of c (Some bytes))).actions ≡ true → (Q : Transcript → Type 0) →
        Q (break_adjacency Pin Segment c n open_of (adjacency a b) (record { state = record before { queues = set_pair a b rest before.queues }; deeds = Pops a b ∷ [] })).deeds →
        Q (inner_input Pin Segment c n open_of (adjacency a b) b a (input_of c (Some bytes)) (record { state = record before { queues = set_pair a b rest before.queues }; deeds = Pops a b ∷ [] })).deeds
    drops a b bytes rest falls Q q =
        let s : Plant = record before { queues = set_pair a b rest before.queues } in
        let came = input_of c (Some bytes) in
        let t = turn_of (before.sessions b a) came in
        subst (λ (fell' : Bool). Q (cond fell' (break_adjacency Pin Segment c n open_of (adjacency a b) (record { state = s; deeds = Pops a b ∷ [] }))
        (inner_acts Pin Segment c n open_of b a (is_tick came) t.actions (record { state = with_inner Pin Segment c n open_of b a t.next s; deeds = Pops a b ∷ [] }))).deeds) (sym falls) q

    fell : (at : As) (p : Peer) → Falls c n before e at p → FallsAt at p h.deeds
    fell at p (shut i is at_is p_is) = subst (λ (z : As). FallsAt z p h.deeds) (sym at_is) (subst (λ (q : Peer). FallsAt (element_of n i) q h.deeds) (sym p_is) (shut_falls i is))
    fell at p (broken b (inl is) p_is) = subst (λ (q : Peer). FallsAt at q h.deeds) (sym p_is) (break_falls at b at (Inner b) is (first_falls at b (record { state = before; deeds = [] })))
    fell at p (broken b (inr is) p_is) = subst (λ (q : Peer). FallsAt at q h.deeds) (sym p_is) (break_falls b at at (Inner b) is (second_falls b at (record { state = before; deeds = [] })))
    fell at p (ended i x item rest is at_is p_is open' first falls) =
        subst (λ (z : As). FallsAt z p h.deeds) (sym at_is)
        (subst (λ (q : Peer). FallsAt (element_of n i) q h.deeds) (sym p_is)
        (by_item i x item rest is open' first (FallsAt (element_of n i) (Outside i))
        (acts_fall i (is_tick (input_of c item)) (turn_of x.session (input_of c item)).actions _ falls)))
    fell at p (ended_along a b bytes rest is ends linked first falls) = elim ends [
      | inl one ↦
          subst (λ (z : As). FallsAt z p h.deeds) (sym one.0) (subst (λ (q : Peer). FallsAt a q h.deeds) (sym one.1)
          (by_first a b bytes rest is linked first (FallsAt a (Inner b)) (drops a b bytes rest falls (FallsAt a (Inner b)) (first_falls a b (popped a b bytes rest is linked first)))))
      | inr other ↦
          subst (λ (z : As). FallsAt z p h.deeds) (sym other.0) (subst (λ (q : Peer). FallsAt b q h.deeds) (sym other.1)
          (by_first a b bytes rest is linked first (FallsAt b (Inner a)) (drops a b bytes rest falls (FallsAt b (Inner a)) (second_falls a b (popped a b bytes rest is linked first)))))
    ]

    -- ---- what a session says

    abbrev Said : As → Peer → Own → Transcript → Type 0
    Said at p o' ds = Contains ds (Says at (record { to = p; message = own_message o' }))

    open_says : (i holder : ℕ) → e ≡ event.Open i holder → (o' : Own) →
        Stands (action.Send o') (turn_of (new_state (our_offer ((before.accesses i).opened % 256)) (record { 0 = before.clock })) input.Begin).actions → Said (element_of n i) (Outside i) o' h.deeds
    open_says i holder ev o' has = known (is_some (peer_row i n.peers)) (happens (event.Open i holder) ev)
      where
        fresh : Connection
        fresh = record { holder = holder; session = new_state (our_offer ((before.accesses i).opened % 256)) (record { 0 = before.clock }); framing = record { held = []; bad = false }; inbox = []; out = [] }

        connected : Plant
        connected = events.connect Pin Segment c n open_of i holder before

        new : (w : Option Connection) → h ≡ events.open_new Pin Segment c n open_of i holder before w → Said (element_of n i) (Outside i) o' h.deeds
        new (Some x) same = refused_not NoSuchPeer same
        new None same =
            subst (λ (k : Happened). Said (element_of n i) (Outside i) o' k.deeds) (sym same)
            (subst (λ (w : Option Connection). Said (element_of n i) (Outside i) o' (outside_step Pin Segment c n open_of i input.Begin (record { state = connected; deeds = [] }) w).deeds)
            (sym (ap (λ (a : Access). a.connection) (number_self i (record { opened = (before.accesses i).opened + 1; connection = Some fresh }) before.accesses)))
            (acts_say i (turn_of fresh.session input.Begin).actions (record { state = with_access Pin Segment c n open_of i (with_session (turn_of fresh.session input.Begin).next) connected; deeds = [] }) o' has))

        known : (t : Bool) → h ≡ cond t (events.open_new Pin Segment c n open_of i holder before (before.accesses i).connection) (events.refused Pin Segment c n open_of NoSuchPeer before) → Said (element_of n i) (Outside i) o' h.deeds
        known true same = new (before.accesses i).connection same
        known false same = refused_not NoSuchPeer same

    first_says : (i : ℕ) (k : Connection) (item : Option Bytes) (rest : List (Option Bytes)) → e ≡ event.Take i → (before.accesses i).connection ≡ Some k → k.inbox ≡ item ∷ rest → is_tick (input_of c item) ≡ false → (o' : Own) →
        Stands (action.Send o') (turn_of k.session (input_of c item)).actions → Said (element_of n i) (Outside i) o' h.deeds
    first_says i k item rest ev open' first quiet o' has =
        by_item i k item rest ev open' first (Said (element_of n i) (Outside i) o')
        (subst (λ (t : Bool). Said (element_of n i) (Outside i) o' (outside_acts Pin Segment c n open_of i t (turn_of k.session (input_of c item)).actions
        (record { state = with_access Pin Segment c n open_of i (with_session (turn_of k.session (input_of c item)).next) (with_access Pin Segment c n open_of i (with_inbox rest) before); deeds = [] })).deeds) (sym quiet)
        (acts_say i (turn_of k.session (input_of c item)).actions _ o' has))

    along_says : (at a : As) (bytes : Bytes) (rest : List Bytes) → e ≡ event.Carry a at → is_linked n a at ≡ true → before.queues a at ≡ bytes ∷ rest → is_tick (input_of c (Some bytes)) ≡ false →
        any_fall (turn_of (before.sessions at a) (input_of c (Some bytes))).actions ≡ false → (o' : Own) → Stands (action.Send o') (turn_of (before.sessions at a) (input_of c (Some bytes))).actions → Said at (Inner a) o' h.deeds
    along_says at a bytes rest ev linked first quiet stays o' has =
        by_first a at bytes rest ev linked first (Said at (Inner a) o')
        (subst (λ (fell' : Bool). Said at (Inner a) o' (cond fell' (break_adjacency Pin Segment c n open_of (adjacency a at) (record { state = s; deeds = Pops a at ∷ [] })) (inner_acts Pin Segment c n open_of at a (is_tick came) t.actions g)).deeds) (sym stays)
        (subst (λ (ticks' : Bool). Said at (Inner a) o' (inner_acts Pin Segment c n open_of at a ticks' t.actions g).deeds) (sym quiet) (inner_say at a t.actions g o' has)))
      where
        came : Input
        came = input_of c (Some bytes)

        t : SessionStep
        t = turn_of (before.sessions at a) came

        s : Plant
        s = record before { queues = set_pair a at rest before.queues }

        g : Move
        g = record { state = with_inner Pin Segment c n open_of at a t.next s; deeds = Pops a at ∷ [] }

    spoke : (at : As) (p : Peer) (x : Session) (came : Input) (o' : Own) → Comes c n before e at p x came → is_tick came ≡ false → LinkStays c n before e p (turn_of x came).actions → Contains (turn_of x came).actions (action.Send o') → Said at p o' h.deeds
    spoke at p x came o' (begins i holder ev at_is p_is x_is came_is) quiet stays has =
        subst (λ (z : As). Said z p o' h.deeds) (sym at_is)
        (subst (λ (q : Peer). Said (element_of n i) q o' h.deeds) (sym p_is)
        (open_says i holder ev o'
        (subst (λ (y : Session). Stands (action.Send o') (turn_of y input.Begin).actions) x_is (subst (λ (y : Input). Stands (action.Send o') (turn_of x y).actions) came_is (stands_of (turn_of x came).actions (action.Send o') has)))))
    spoke at p x came o' (came_first i k item rest ev at_is p_is open' first x_is came_is) quiet stays has =
        subst (λ (z : As). Said z p o' h.deeds) (sym at_is)
        (subst (λ (q : Peer). Said (element_of n i) q o' h.deeds) (sym p_is)
        (first_says i k item rest ev open' first (ap is_tick (sym came_is) ∙ quiet) o'
        (subst (λ (y : Session). Stands (action.Send o') (turn_of y (input_of c item)).actions) x_is
        (subst (λ (y : Input). Stands (action.Send o') (turn_of x y).actions) came_is (stands_of (turn_of x came).actions (action.Send o') has)))))
    spoke at p x came o' (came_along a bytes rest ev p_is linked first x_is came_is) quiet stays has =
        subst (λ (q : Peer). Said at q o' h.deeds) (sym p_is)
        (along_says at a bytes rest ev linked first (ap is_tick (sym came_is) ∙ quiet)
        (subst (λ (y : Session). any_fall (turn_of y (input_of c (Some bytes))).actions ≡ false) x_is
        (subst (λ (y : Input). any_fall (turn_of x y).actions ≡ false) came_is (subst (λ (q : Peer). LinkStays c n before e q (turn_of x came).actions) p_is stays))) o'
        (subst (λ (y : Session). Stands (action.Send o') (turn_of y (input_of c (Some bytes))).actions) x_is
        (subst (λ (y : Input). Stands (action.Send o') (turn_of x y).actions) came_is (stands_of (turn_of x came).actions (action.Send o') has))))
    spoke at p x came o' (tick_comes t ev came_is) quiet stays has = absurd (let clash : true ≡ false = sym (ap is_tick came_is) ∙ quiet in cc)

pub messages_have_causes : MessagesHaveCauses
messages_have_causes c n es before run e h steps o ok =
    (have c n before e h steps o ok es run e refl, record { passed = passed c n before e h steps o ok; fell = fell c n before e h steps o ok; spoke = spoke c n before e h steps o ok })

-- ---- the opening

begun : (c : Codec) (n : NetworkParts) (xs : List Adjacency) (g : Going Pin Segment) → (events.begin_adjacencies Pin Segment c n open_of xs g).deeds ≡ opens_of xs g.deeds
begun c n [] g = refl
begun c n (x ∷ xs) g = begun c n xs (begin_adjacency Pin Segment c n open_of 0 x g)

pub networks_begin : NetworksBegin
networks_begin c n = begun c n (adjacencies n) (record { state = events.bare Pin Segment c n open_of first_pin; deeds = [] })
