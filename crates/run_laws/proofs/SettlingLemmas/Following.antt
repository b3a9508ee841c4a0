-- The ways of elements and of the parent follow the sessions of their links.
use Rattle.std.proofs.Common.{◌≡◌, ℕ, ◌+◌, ◌%◌, ◌==◌, Bool, true, false, cond, Option, Some, None, is_some, List, [], ◌∷◌, refl, sym, ◌∙◌, ap, subst, inl, inr}
use Rattle.plant_laws.specs.plant_model.Types.{As, Tick, Peer, Outside, Inner, Message, Input, Action, Own, Phase, State as Session, NetworkParts, PeerRow}
use Rattle.disclosure.specs.Shown.{open_of}
use Rattle.pcep_session.specs.declared.session.Input.TheVariants as input
use Rattle.pcep_session.specs.declared.actions.Action.TheVariants as action
use Rattle.pcep_session.specs.declared.state.Phase.TheVariants as phase
use Rattle.pcep_session.specs.Table.{new_state, turn_of}
use Rattle.plant_text.specs.Names.{same_as, parent_as}
use Rattle.plant_text.specs.Settings.{Adjacency, adjacency, adjacencies, has_adjacency, is_linked, is_element, peer_row, class_of}
use Rattle.plant_laws.specs.plant_model.declared.event.Event.{Event}
use Rattle.plant_laws.specs.plant_model.declared.event.Event.TheVariants as event
use Rattle.plant_laws.specs.plant_model.declared.output.Output.{Output}
use Rattle.plant_laws.specs.plant_model.Names.{set_pair, is_empty}
use Rattle.plant_laws.specs.plant_model.Wire.{Bytes, Codec}
use Rattle.plant_laws.specs.plant_model.Laws.{IsNetwork}
use Rattle.plant_laws.specs.plant_model.Element.{Way, Element, way_to, with_up, upped, downed}
use Rattle.plant_laws.specs.plant_model.Taking.{take}
use Rattle.plant_laws.specs.plant_model.Solving as solving
use Rattle.plant_laws.specs.plant_model.Parent as parent
use Rattle.plant_laws.specs.plant_model.Parent.{is_up}
use Rattle.plant_laws.specs.plant_model.Outside.{heeded}
use Rattle.plant_laws.specs.plant_model.Routes.{routes}
use Rattle.plant_laws.specs.plant_model.Settings.{place, family, inner_ways, way, ways, ways_along}
use Rattle.plant_laws.proofs.Runs.Unrouted.{way_inside}
use Rattle.plant_laws.specs.plant_model.State.{Connection, Downs, Ups, Takes, Pops}
use Rattle.plant_laws.specs.plant_model.Deeds.{Going, our_offer, own_message, element_of, is_due, is_tick, is_out_empty, any_fall, with_session, with_inbox, input_of, with_access, with_element, with_parent, with_inner, put, puts, give, rise, fall, say, clear, outside_act, outside_acts, outside_step, outside_input, inner_act, inner_acts, inner_input, begin_end, break_adjacency, tick_outside, tick_adjacencies}
use Rattle.plant_laws.specs.plant_model.Events as events
use Rattle.plant_laws.specs.plant_model.Events.{is_down}
use Rattle.plant_laws.specs.plant_model.Plant.{Pin, Segment, first_pin, Plant, Happened, Entry, Run, Happens, is_full}
use Rattle.plant_laws.proofs.Runs.Queues.{same_as_is}
use Rattle.run_laws.specs.Following.{ways_of, WaysFollowSessions}
use Rattle.run_laws.proofs.SettlingLemmas.Pairs.{AllApart, set_all}
use Rattle.run_laws.proofs.SettlingLemmas.Adjacencies.{adjacencies_apart, linked_apart, adjacency_ends_apart}
use Rattle.run_laws.proofs.SettlingLemmas.Reaching.{other_up, way_down}
use Rattle.run_laws.proofs.SettlingLemmas.Turnings.{is_open, has_up, rested, rose, turns}
use Rattle.run_laws.proofs.SettlingLemmas.WaysKept.{SameView, same_view, up_some, way_risen, take_kept, commit_kept, take_above, commit_above}

-- ---- tests

never_open : (b : Bool) → cond b false false ≡ false
never_open true = refl
never_open false = refl

only_linked : (b : Bool) → cond b true false ≡ b
only_linked true = refl
only_linked false = refl

some_of : (b : Bool) (w : Way) (o : Option Way) (t : Bool) → is_some o ≡ t → is_some (cond b (Some w) o) ≡ cond b true t
some_of true w o t same = refl
some_of false w o t same = same

-- there is a way where there is a link
some_ways : (d b : As) (xs : List Adjacency) → is_some (way_to (Inner b) (ways_along d xs)) ≡ has_adjacency d b xs
some_ways d b [] = refl
some_ways d b (x ∷ xs) = go (some_ways d b xs) (same_as x.lower d) (same_as x.upper d)
  where
    adjacency_between : Bool → Bool → Bool
    adjacency_between l u = cond (cond l (same_as x.upper b) (cond (same_as x.lower b) u false)) true (has_adjacency d b xs)

    low : (t : Bool) → is_some (way_to (Inner b) (ways_along d xs)) ≡ has_adjacency d b xs → is_some (cond t (Some (way x.lower)) (way_to (Inner b) (ways_along d xs))) ≡ cond (cond t true false) true (has_adjacency d b xs)
    low true more = refl
    low false more = more

    none : (t : Bool) → is_some (way_to (Inner b) (ways_along d xs)) ≡ has_adjacency d b xs → is_some (way_to (Inner b) (ways_along d xs)) ≡ cond (cond t false false) true (has_adjacency d b xs)
    none true more = more
    none false more = more

    go : is_some (way_to (Inner b) (ways_along d xs)) ≡ has_adjacency d b xs → (l u : Bool) →
        is_some (way_to (Inner b) (cond l (way x.upper ∷ ways_along d xs) (cond u (way x.lower ∷ ways_along d xs) (ways_along d xs)))) ≡ adjacency_between l u
    go more true u = some_of (same_as x.upper b) (way x.upper) (way_to (Inner b) (ways_along d xs)) (has_adjacency d b xs) more
    go more false true = low (same_as x.lower b) more
    go more false false = none (same_as x.lower b) more

down_ways : (d b : As) (xs : List Adjacency) → is_up (way_to (Inner b) (ways_along d xs)) ≡ false
down_ways d b [] = refl
down_ways d b (x ∷ xs) = go (down_ways d b xs) (same_as x.lower d) (same_as x.upper d)
  where
    one : (t : Bool) (a : As) → is_up (way_to (Inner b) (ways_along d xs)) ≡ false → is_up (cond t (Some (way a)) (way_to (Inner b) (ways_along d xs))) ≡ false
    one true a more = refl
    one false a more = more

    go : is_up (way_to (Inner b) (ways_along d xs)) ≡ false → (l u : Bool) → is_up (way_to (Inner b) (cond l (way x.upper ∷ ways_along d xs) (cond u (way x.lower ∷ ways_along d xs) (ways_along d xs)))) ≡ false
    go more true u = one (same_as x.upper b) x.upper more
    go more false true = one (same_as x.lower b) x.lower more
    go more false false = more

module _ (c : Codec) (n : NetworkParts) where
  abbrev Move : Type 0
  Move = Going Pin Segment

  abbrev Follows : List Way → Bool → As → As → Type 0
  Follows ws open' d b = (is_some (way_to (Inner b) ws) ≡ is_linked n d b) × (is_up (way_to (Inner b) ws) ≡ cond (is_linked n d b) open' false)

  -- between any element or the parent and any neighbour
  abbrev Inv : Plant → Type 0
  Inv s = (d b : As) → Follows (ways_of s d) (is_open (s.sessions d b).phase) d b

  pick : (b : Bool) (g h : Move) → Inv g.state → Inv h.state → Inv (cond b g h).state
  pick true g h r r' = r
  pick false g h r r' = r'

  -- ---- what is put into queues

  put_sessions : (at : As) (os : List Output) (s : Plant) → (puts Pin Segment c n open_of at os s).sessions ≡ s.sessions
  put_sessions at [] s = refl
  put_sessions at (o ∷ os) s = put_sessions at os (put Pin Segment c n open_of at o s) ∙ one o.to
    where
      one : (to : Peer) → (put Pin Segment c n open_of at (record { to = to; message = o.message }) s).sessions ≡ s.sessions
      one (Outside i) = refl
      one (Inner b) = refl

  put_ways : (at : As) (os : List Output) (s : Plant) (d : As) → ways_of (puts Pin Segment c n open_of at os s) d ≡ ways_of s d
  put_ways at [] s d = refl
  put_ways at (o ∷ os) s d = put_ways at os (put Pin Segment c n open_of at o s) d ∙ one o.to
    where
      one : (to : Peer) → ways_of (put Pin Segment c n open_of at (record { to = to; message = o.message }) s) d ≡ ways_of s d
      one (Outside i) = refl
      one (Inner b) = refl

  put_inv : (at : As) (os : List Output) (s : Plant) → Inv s → Inv (puts Pin Segment c n open_of at os s)
  put_inv at os s inv d b =
      subst (λ (ws : List Way). Follows ws (is_open ((puts Pin Segment c n open_of at os s).sessions d b).phase) d b) (sym (put_ways at os s d))
      (subst (λ (f : As → As → Session). Follows (ways_of s d) (is_open (f d b).phase) d b) (sym (put_sessions at os s)) (inv d b))

  -- ---- an element, or the parent, becomes another

  view_inv : (s t : Plant) → ((d : As) → SameView (ways_of t d) (ways_of s d)) → t.sessions ≡ s.sessions → Inv s → Inv t
  view_inv s t views sessions inv d b = (
    (views d).some b ∙ (inv d b).0,
    (views d).up b ∙ (inv d b).1 ∙ ap (λ (f : As → As → Session). cond (is_linked n d b) (is_open (f d b).phase) false) (sym sessions),
  )

  element_view : (at : As) (k : Element Pin Segment) (s : Plant) → SameView k.ways (s.elements at).ways → (d : As) → SameView (ways_of (with_element Pin Segment c n open_of at k s) d) (ways_of s d)
  element_view at k s view d = go (same_as d parent_as) (same_as at d) refl
    where
      go : (up hit : Bool) → same_as at d ≡ hit → SameView (cond up s.parent.ways (cond hit k (s.elements d)).ways) (cond up s.parent.ways (s.elements d).ways)
      go true hit is = same_view s.parent.ways
      go false true is = subst (λ (z : As). SameView k.ways (s.elements z).ways) (same_as_is at d is) view
      go false false is = same_view (s.elements d).ways

  parent_view : (k : parent.Parent) (s : Plant) → SameView k.ways s.parent.ways → (d : As) → SameView (ways_of (with_parent Pin Segment c n open_of k s) d) (ways_of s d)
  parent_view k s view d = go (same_as d parent_as)
    where
      go : (up : Bool) → SameView (cond up k.ways (s.elements d).ways) (cond up s.parent.ways (s.elements d).ways)
      go true = view
      go false = same_view (s.elements d).ways

  give_inv : (at : As) (p : Peer) (m : Message) (g : Move) → Inv g.state → Inv (give Pin Segment c n open_of at p m g).state
  give_inv at p m g inv =
      let u = parent.take c (family n) p m g.state.parent in
      let v = take c open_of (place n at) (g.state.current at) p (class_of n p) g.state.clock m (g.state.elements at) in
      let s = with_parent Pin Segment c n open_of u.parent g.state in
      let t = with_element Pin Segment c n open_of at v.element g.state in
      pick (same_as at parent_as)
      (record { state = puts Pin Segment c n open_of at u.outputs s; deeds = Takes at p m u.outputs ∷ g.deeds })
      (record { state = puts Pin Segment c n open_of at v.outputs t; deeds = Takes at p m v.outputs ∷ g.deeds })
      (put_inv at u.outputs s (view_inv g.state s (parent_view u.parent g.state (take_above c (family n) p m g.state.parent)) refl inv))
      (put_inv at v.outputs t (view_inv g.state t (element_view at v.element g.state (take_kept Pin Segment c open_of (place n at) (g.state.current at) p (class_of n p) g.state.clock m (g.state.elements at))) refl inv))

  -- ---- a session comes up or goes down

  -- the ways of one of them are set towards a peer
  abbrev Set : As → Peer → Bool → Plant → Plant → Type 0
  Set at p v s t = (d : As) → ways_of t d ≡ cond (same_as at d) (with_up p v (ways_of s d)) (ways_of s d)

  not_both : {X : Type 0} (b : Bool) → b ≡ true → b ≡ false → X
  not_both true e f = cc
  not_both false e f = cc

  element_set : (at : As) (p : Peer) (v : Bool) (s : Plant) (k : Element Pin Segment) → k.ways ≡ with_up p v (s.elements at).ways → same_as at parent_as ≡ false → Set at p v s (with_element Pin Segment c n open_of at k s)
  element_set at p v s k is below d = go (same_as d parent_as) (same_as at d) refl refl
    where
      go : (up hit : Bool) → same_as d parent_as ≡ up → same_as at d ≡ hit →
          cond up s.parent.ways (cond hit k (s.elements d)).ways ≡ cond hit (with_up p v (cond up s.parent.ways (s.elements d).ways)) (cond up s.parent.ways (s.elements d).ways)
      go true true e f = not_both (same_as d parent_as) e (ap (λ (z : As). same_as z parent_as) (sym (same_as_is at d f)) ∙ below)
      go true false e f = refl
      go false true e f = is ∙ ap (λ (z : As). with_up p v (s.elements z).ways) (same_as_is at d f)
      go false false e f = refl

  parent_set : (at : As) (p : Peer) (v : Bool) (s : Plant) (k : parent.Parent) → k.ways ≡ with_up p v s.parent.ways → same_as at parent_as ≡ true → Set at p v s (with_parent Pin Segment c n open_of k s)
  parent_set at p v s k is above d = go (same_as d parent_as) (same_as at d) refl refl
    where
      up_is : at ≡ parent_as
      up_is = same_as_is at parent_as above

      go : (up hit : Bool) → same_as d parent_as ≡ up → same_as at d ≡ hit →
          cond up k.ways (s.elements d).ways ≡ cond hit (with_up p v (cond up s.parent.ways (s.elements d).ways)) (cond up s.parent.ways (s.elements d).ways)
      go true true e f = is
      go true false e f = not_both (same_as at d) (ap (λ (z : As). same_as at z) (same_as_is d parent_as e) ∙ above) f
      go false true e f = not_both (same_as d parent_as) (ap (λ (z : As). same_as z parent_as) (sym (same_as_is at d f)) ∙ above) e
      go false false e f = refl

  pick_set : (at : As) (p : Peer) (v : Bool) (s : Plant) (b : Bool) (g h : Move) → (b ≡ true → Set at p v s g.state) → (b ≡ false → Set at p v s h.state) → Set at p v s (cond b g h).state
  pick_set at p v s true g h f f' = f refl
  pick_set at p v s false g h f f' = f' refl

  rise_set : (at : As) (p : Peer) (g : Move) → Set at p true g.state (rise Pin Segment c n open_of at p g).state
  rise_set at p g =
      pick_set at p true g.state (same_as at parent_as)
      (record { state = with_parent Pin Segment c n open_of (parent.upped p g.state.parent) g.state; deeds = Ups at p ∷ g.deeds })
      (record { state = with_element Pin Segment c n open_of at (upped p (g.state.elements at)) g.state; deeds = Ups at p ∷ g.deeds })
      (parent_set at p true g.state (parent.upped p g.state.parent) refl) (element_set at p true g.state (upped p (g.state.elements at)) refl)

  fall_set : (at : As) (p : Peer) (g : Move) → Set at p false g.state (fall Pin Segment c n open_of at p g).state
  fall_set at p g =
      let u = parent.downed p g.state.parent in
      let v = downed p (g.state.elements at) in
      let s = with_parent Pin Segment c n open_of u.parent g.state in
      let t = with_element Pin Segment c n open_of at v.element g.state in
      pick_set at p false g.state (same_as at parent_as)
      (record { state = puts Pin Segment c n open_of at u.outputs s; deeds = Downs at p u.outputs ∷ g.deeds })
      (record { state = puts Pin Segment c n open_of at v.outputs t; deeds = Downs at p v.outputs ∷ g.deeds })
      (λ up d. put_ways at u.outputs s d ∙ parent_set at p false g.state u.parent refl up d)
      (λ below d. put_ways at v.outputs t d ∙ element_set at p false g.state v.element refl below d)

  pick_sessions : (s : Plant) (b : Bool) (g h : Move) → g.state.sessions ≡ s.sessions → h.state.sessions ≡ s.sessions → (cond b g h).state.sessions ≡ s.sessions
  pick_sessions s true g h e f = e
  pick_sessions s false g h e f = f

  rise_sessions : (at : As) (p : Peer) (g : Move) → (rise Pin Segment c n open_of at p g).state.sessions ≡ g.state.sessions
  rise_sessions at p g =
      pick_sessions g.state (same_as at parent_as)
      (record { state = with_parent Pin Segment c n open_of (parent.upped p g.state.parent) g.state; deeds = Ups at p ∷ g.deeds })
      (record { state = with_element Pin Segment c n open_of at (upped p (g.state.elements at)) g.state; deeds = Ups at p ∷ g.deeds }) refl refl

  fall_sessions : (at : As) (p : Peer) (g : Move) → (fall Pin Segment c n open_of at p g).state.sessions ≡ g.state.sessions
  fall_sessions at p g =
      let u = parent.downed p g.state.parent in
      let v = downed p (g.state.elements at) in
      let s = with_parent Pin Segment c n open_of u.parent g.state in
      let t = with_element Pin Segment c n open_of at v.element g.state in
      pick_sessions g.state (same_as at parent_as)
      (record { state = puts Pin Segment c n open_of at u.outputs s; deeds = Downs at p u.outputs ∷ g.deeds })
      (record { state = puts Pin Segment c n open_of at v.outputs t; deeds = Downs at p v.outputs ∷ g.deeds }) (put_sessions at u.outputs s) (put_sessions at v.outputs t)

  -- a peer from outside is no neighbour
  outside_view : (i : ℕ) (at : As) (v : Bool) (s t : Plant) → Set at (Outside i) v s t → (d : As) → SameView (ways_of t d) (ways_of s d)
  outside_view i at v s t set d = subst (λ (ws : List Way). SameView ws (ways_of s d)) (sym (set d)) (go (same_as at d))
    where
      go : (hit : Bool) → SameView (cond hit (with_up (Outside i) v (ways_of s d)) (ways_of s d)) (ways_of s d)
      go true = record { some = λ b. up_some (Inner b) (Outside i) v (ways_of s d); up = λ b. other_up (Outside i) (Inner b) v (ways_of s d) refl }
      go false = same_view (ways_of s d)

  rise_outside : (i : ℕ) (at : As) (g : Move) → Inv g.state → Inv (rise Pin Segment c n open_of at (Outside i) g).state
  rise_outside i at g inv =
      let t = (rise Pin Segment c n open_of at (Outside i) g).state in
      view_inv g.state t (outside_view i at true g.state t (rise_set at (Outside i) g)) (rise_sessions at (Outside i) g) inv

  fall_outside : (i : ℕ) (at : As) (g : Move) → Inv g.state → Inv (fall Pin Segment c n open_of at (Outside i) g).state
  fall_outside i at g inv =
      let t = (fall Pin Segment c n open_of at (Outside i) g).state in
      view_inv g.state t (outside_view i at false g.state t (fall_set at (Outside i) g)) (fall_sessions at (Outside i) g) inv

  say_inv : (at : As) (p : Peer) (o : Own) (g : Move) → Inv g.state → Inv (say Pin Segment c n open_of at p o g).state
  say_inv at p o g inv = put_inv at (record { to = p; message = own_message o } ∷ []) g.state inv

  outside_acts_inv : (i : ℕ) (ticks : Bool) (as' : List Action) (g : Move) → Inv g.state → Inv (outside_acts Pin Segment c n open_of i ticks as' g).state
  outside_acts_inv i ticks [] g inv = inv
  outside_acts_inv i ticks (action.Send o ∷ as') g inv =
      outside_acts_inv i ticks as' (outside_act Pin Segment c n open_of i ticks (action.Send o) g)
      (pick (cond ticks (cond (is_due o) (cond (is_out_empty (g.state.accesses i).connection) false true) false) false) g (say Pin Segment c n open_of (element_of n i) (Outside i) o g) inv (say_inv (element_of n i) (Outside i) o g inv))
  outside_acts_inv i ticks (action.Up ∷ as') g inv = outside_acts_inv i ticks as' (rise Pin Segment c n open_of (element_of n i) (Outside i) g) (rise_outside i (element_of n i) g inv)
  outside_acts_inv i ticks (action.Down why ∷ as') g inv =
      let h : Move = record { state = with_access Pin Segment c n open_of i (with_inbox []) g.state; deeds = g.deeds } in
      outside_acts_inv i ticks as' (fall Pin Segment c n open_of (element_of n i) (Outside i) h) (fall_outside i (element_of n i) h inv)
  outside_acts_inv i ticks (action.Pass m ∷ as') g inv =
      let heard = heeded c (Outside i) (g.state.elements (element_of n i)).pending.rows m in
      outside_acts_inv i ticks as' (give Pin Segment c n open_of (element_of n i) (Outside i) heard g) (give_inv (element_of n i) (Outside i) heard g inv)

  outside_inv : (i : ℕ) (x : Input) (g : Move) → Inv g.state → Inv (outside_input Pin Segment c n open_of i x g).state
  outside_inv i x g inv = go (g.state.accesses i).connection
    where
      go : (o : Option Connection) → Inv (outside_step Pin Segment c n open_of i x g o).state
      go None = inv
      go (Some k) = outside_acts_inv i (is_tick x) (turn_of k.session x).actions (record { state = with_access Pin Segment c n open_of i (with_session (turn_of k.session x).next) g.state; deeds = g.deeds }) inv

  -- ---- a session of a link

  -- a session that is as open as before
  as_open : (at b : As) (next : Session) (s : Plant) → is_open next.phase ≡ is_open (s.sessions at b).phase → Inv s → Inv (with_inner Pin Segment c n open_of at b next s)
  as_open at b next s same inv d b' = (
    (inv d b').0,
    (inv d b').1 ∙ ap (λ (t : Bool). cond (is_linked n d b') t false)
        (sym (set_all (λ (z w : As) (x : Session). is_open x.phase ≡ is_open (s.sessions z w).phase) at b next s.sessions same (λ z w miss. refl) d b')),
  )

  -- one that comes up
  risen : (at b : As) (next : Session) (s : Plant) (ds : _) → is_open next.phase ≡ true → Inv s → Inv (rise Pin Segment c n open_of at (Inner b) (record { state = with_inner Pin Segment c n open_of at b next s; deeds = ds })).state
  risen at b next s ds open' inv d b' =
      let h : Move = record { state = with_inner Pin Segment c n open_of at b next s; deeds = ds } in
      let t = (rise Pin Segment c n open_of at (Inner b) h).state in
      subst (λ (ws : List Way). Follows ws (is_open (t.sessions d b').phase) d b') (sym (rise_set at (Inner b) h d))
      (subst (λ (f : As → As → Session). Follows (cond (same_as at d) (with_up (Inner b) true (ways_of s d)) (ways_of s d)) (is_open (f d b').phase) d b') (sym (rise_sessions at (Inner b) h))
      (go (same_as at d) (same_as b b') refl refl))
    where
      go : (hit there : Bool) → same_as at d ≡ hit → same_as b b' ≡ there →
          Follows (cond hit (with_up (Inner b) true (ways_of s d)) (ways_of s d)) (is_open (cond hit (cond there next (s.sessions d b')) (s.sessions d b')).phase) d b'
      go true true e f =
          subst (λ (z : As). Follows (with_up (Inner b) true (ways_of s d)) (is_open next.phase) d z) (same_as_is b b' f) (
            up_some (Inner b) (Inner b) true (ways_of s d) ∙ (inv d b).0,
            way_risen (Inner b) (ways_of s d) ∙ (inv d b).0 ∙ sym (ap (λ (t : Bool). cond (is_linked n d b) t false) open' ∙ only_linked (is_linked n d b)),
          )
      go true false e f = (up_some (Inner b') (Inner b) true (ways_of s d) ∙ (inv d b').0, other_up (Inner b) (Inner b') true (ways_of s d) f ∙ (inv d b').1)
      go false there e f = inv d b'

  -- what it does beside that
  inner_acts_inv : (at b : As) (ticks : Bool) (as' : List Action) (g : Move) → has_up as' ≡ false → Inv g.state → Inv (inner_acts Pin Segment c n open_of at b ticks as' g).state
  inner_acts_inv at b ticks [] g none inv = inv
  inner_acts_inv at b ticks (action.Send o ∷ as') g none inv =
      inner_acts_inv at b ticks as' (inner_act Pin Segment c n open_of at b ticks (action.Send o) g) none
      (pick (cond ticks (cond (is_due o) (cond (is_empty (g.state.queues at b)) false true) false) false) g (say Pin Segment c n open_of at (Inner b) o g) inv (say_inv at (Inner b) o g inv))
  inner_acts_inv at b ticks (action.Up ∷ as') g none inv = let no : true ≡ false = none in cc
  inner_acts_inv at b ticks (action.Down why ∷ as') g none inv = inner_acts_inv at b ticks as' g none inv
  inner_acts_inv at b ticks (action.Pass m ∷ as') g none inv = inner_acts_inv at b ticks as' (give Pin Segment c n open_of at (Inner b) m g) none (give_inv at (Inner b) m g inv)

  -- ---- a link that breaks

  module _ (x : Adjacency) (apart : same_as x.lower x.upper ≡ false) (g : Move) (inv : Inv g.state) where
    abbrev l : As
    l = x.lower

    abbrev u : As
    u = x.upper

    abbrev first : Move
    first = fall Pin Segment c n open_of l (Inner u) g

    abbrev second : Move
    second = fall Pin Segment c n open_of u (Inner l) first

    abbrev next : Session
    next = (turn_of (new_state (our_offer (((g.state.sessions l u).offer.sid + 1) % 256)) (record { 0 = second.state.clock })) input.Begin).next

    -- the sessions that are begun anew
    abbrev anew : As → As → Session
    anew = set_pair u l next (set_pair l u next g.state.sessions)

    -- what both falls leave of the ways
    abbrev fallen : As → List Way
    fallen d = cond (same_as u d) (with_up (Inner l) false (cond (same_as l d) (with_up (Inner u) false (ways_of g.state d)) (ways_of g.state d))) (cond (same_as l d) (with_up (Inner u) false (ways_of g.state d)) (ways_of g.state d))

    fallen_is : (d : As) → ways_of second.state d ≡ fallen d
    fallen_is d = fall_set u (Inner l) first d ∙ ap (λ (ws : List Way). cond (same_as u d) (with_up (Inner l) false ws) ws) (fall_set l (Inner u) g d)

    sessions_are : second.state.sessions ≡ g.state.sessions
    sessions_are = fall_sessions u (Inner l) first ∙ fall_sessions l (Inner u) g

    some_left : (d b : As) → is_some (way_to (Inner b) (fallen d)) ≡ is_linked n d b
    some_left d b = go (same_as u d) (same_as l d) ∙ (inv d b).0
      where
        one : (hit : Bool) → is_some (way_to (Inner b) (cond hit (with_up (Inner u) false (ways_of g.state d)) (ways_of g.state d))) ≡ is_some (way_to (Inner b) (ways_of g.state d))
        one true = up_some (Inner b) (Inner u) false (ways_of g.state d)
        one false = refl

        go : (hit hit' : Bool) → is_some (way_to (Inner b) (cond hit (with_up (Inner l) false (cond hit' (with_up (Inner u) false (ways_of g.state d)) (ways_of g.state d))) (cond hit' (with_up (Inner u) false (ways_of g.state d)) (ways_of g.state d)))) ≡ is_some (way_to (Inner b) (ways_of g.state d))
        go true hit' = up_some (Inner b) (Inner l) false (cond hit' (with_up (Inner u) false (ways_of g.state d)) (ways_of g.state d)) ∙ one hit'
        go false hit' = one hit'

    -- at the lower end, at the upper end, and elsewhere
    up_left : (d b : As) → is_up (way_to (Inner b) (fallen d)) ≡ cond (is_linked n d b) (is_open (anew d b).phase) false
    up_left d b = go (same_as u d) (same_as l d) (same_as l b) (same_as u b) refl refl refl refl
      where
        W : List Way
        W = ways_of g.state d

        S : Session
        S = g.state.sessions d b

        go : (ud ld lb ub : Bool) → same_as u d ≡ ud → same_as l d ≡ ld → same_as l b ≡ lb → same_as u b ≡ ub →
            is_up (way_to (Inner b) (cond ud (with_up (Inner l) false (cond ld (with_up (Inner u) false W) W)) (cond ld (with_up (Inner u) false W) W)))
            ≡ cond (is_linked n d b) (is_open (cond ud (cond lb next (cond ld (cond ub next S) S)) (cond ld (cond ub next S) S)).phase) false
        go true true lb ub e f i j = not_both (same_as l u) (ap (λ (z : As). same_as l z) (same_as_is u d e) ∙ f) apart
        go true false true ub e f i j =
            subst (λ (z : As). is_up (way_to (Inner z) (with_up (Inner l) false W)) ≡ cond (is_linked n d b) false false) (same_as_is l b i) (way_down (Inner l) W ∙ sym (never_open (is_linked n d b)))
        go true false false ub e f i j = other_up (Inner l) (Inner b) false W i ∙ (inv d b).1
        go false true lb true e f i j =
            subst (λ (z : As). is_up (way_to (Inner z) (with_up (Inner u) false W)) ≡ cond (is_linked n d b) false false) (same_as_is u b j) (way_down (Inner u) W ∙ sym (never_open (is_linked n d b)))
        go false true lb false e f i j = other_up (Inner u) (Inner b) false W j ∙ (inv d b).1
        go false false lb ub e f i j = (inv d b).1

    -- the state when both are begun anew, but for what is in queues
    abbrev clean : Plant
    clean = with_inner Pin Segment c n open_of u l next (with_inner Pin Segment c n open_of l u next (clear Pin Segment c n open_of x second).state)

    clean_inv : Inv clean
    clean_inv d b =
        subst (λ (ws : List Way). Follows ws (is_open (clean.sessions d b).phase) d b) (sym (fallen_is d))
        (subst (λ (f : As → As → Session). Follows (fallen d) (is_open (set_pair u l next (set_pair l u next f) d b).phase) d b) (sym sessions_are) (some_left d b, up_left d b))

    break_inv : Inv (break_adjacency Pin Segment c n open_of x g).state
    break_inv d b = clean_inv d b

  inner_inv : (x : Adjacency) → same_as x.lower x.upper ≡ false → (at b : As) (y : Input) (g : Move) → Inv g.state → Inv (inner_input Pin Segment c n open_of x at b y g).state
  inner_inv x apart at b y g inv = go (any_fall (turn_of (g.state.sessions at b) y).actions) refl
    where
      h : Move
      h = record { state = with_inner Pin Segment c n open_of at b (turn_of (g.state.sessions at b) y).next g.state; deeds = g.deeds }

      go : (falls : Bool) → any_fall (turn_of (g.state.sessions at b) y).actions ≡ falls → Inv (cond falls (break_adjacency Pin Segment c n open_of x g) (inner_acts Pin Segment c n open_of at b (is_tick y) (turn_of (g.state.sessions at b) y).actions h)).state
      go true falls = break_inv x apart g inv
      go false stays = elim (turns (g.state.sessions at b) y stays) [
        | rested none same ↦ inner_acts_inv at b (is_tick y) (turn_of (g.state.sessions at b) y).actions h none (as_open at b (turn_of (g.state.sessions at b) y).next g.state same inv)
        | rose acts open' ↦
            subst (λ (as' : List Action). Inv (inner_acts Pin Segment c n open_of at b (is_tick y) as' h).state) (sym acts) (risen at b (turn_of (g.state.sessions at b) y).next g.state g.deeds open' inv)
      ]

  -- ---- each event

  tick_outside_inv : (i : ℕ) (rs : List PeerRow) (now : Tick) (g : Move) → Inv g.state → Inv (tick_outside Pin Segment c n open_of i rs now g).state
  tick_outside_inv i [] now g inv = inv
  tick_outside_inv i (row ∷ rs) now g inv = tick_outside_inv (i + 1) rs now (outside_input Pin Segment c n open_of i (input.Tick now) g) (outside_inv i (input.Tick now) g inv)

  tick_adjacencies_inv : (xs : List Adjacency) → AllApart xs → (now : Tick) (g : Move) → Inv g.state → Inv (tick_adjacencies Pin Segment c n open_of xs now g).state
  tick_adjacencies_inv [] all now g inv = inv
  tick_adjacencies_inv (x ∷ xs) all now g inv =
      let h = inner_input Pin Segment c n open_of x x.lower x.upper (input.Tick now) g in
      tick_adjacencies_inv xs all.1 now (inner_input Pin Segment c n open_of x x.upper x.lower (input.Tick now) h)
      (inner_inv x all.0 x.upper x.lower (input.Tick now) h (inner_inv x all.0 x.lower x.upper (input.Tick now) g inv))

  pick_happened : (b : Bool) (g h : Happened) → (b ≡ true → Inv g.state) → (b ≡ false → Inv h.state) → Inv (cond b g h).state
  pick_happened true g h r r' = r refl
  pick_happened false g h r r' = r' refl

  module _ (net : IsNetwork n) where
    ends_apart : (a b : As) → is_linked n a b ≡ true → same_as (adjacency a b).lower (adjacency a b).upper ≡ false
    ends_apart a b linked = adjacency_ends_apart a b (linked_apart a b (adjacencies n) (adjacencies_apart n net) linked)

    happens_inv : (s : Plant) → Inv s → (e : Event) (h : Happened) → Happens c n s e h → Inv h.state
    happens_inv s inv (event.Load d g) h is = subst (λ (k : Happened). Inv k.state) (sym is) (pick_happened (is_element n d) _ _ (λ known. pick_happened (is_full (s.current d).number (s.elements d).pending.rows) _ _ (λ full. inv) (λ room. inv)) (λ unknown. inv))
    happens_inv s inv (event.Open i holder) h is = subst (λ (k : Happened). Inv k.state) (sym is) (pick_happened (is_some (peer_row i n.peers)) _ _ (λ known. go (s.accesses i).connection) (λ unknown. inv))
      where
        go : (o : Option Connection) → Inv (events.open_new Pin Segment c n open_of i holder s o).state
        go None = outside_inv i input.Begin (record { state = events.connect Pin Segment c n open_of i holder s; deeds = [] }) inv
        go (Some x) = inv
    happens_inv s inv (event.Shut i) h is = subst (λ (k : Happened). Inv k.state) (sym is) (go (s.accesses i).connection)
      where
        go : (o : Option Connection) → Inv (events.shut_open Pin Segment c n open_of i s o).state
        go None = inv
        go (Some x) = fall_outside i (element_of n i) (record { state = s; deeds = [] }) inv
    happens_inv s inv (event.Feed i bytes) h is = subst (λ (k : Happened). Inv k.state) (sym is) (go (s.accesses i).connection)
      where
        by : (b : Bool) → Inv s → Inv (cond b s (with_access Pin Segment c n open_of i (events.fed c bytes) s))
        by true i' = i'
        by false i' = i'

        go : (o : Option Connection) → Inv (events.feed_open Pin Segment c n open_of i bytes s o).state
        go None = inv
        go (Some x) = by (is_down x.session.phase) inv
    happens_inv s inv (event.Take i) h is = subst (λ (k : Happened). Inv k.state) (sym is) (go (s.accesses i).connection)
      where
        items : (xs : List (Option Bytes)) → Inv (events.take_item Pin Segment c n open_of i s xs).state
        items [] = inv
        items (y ∷ rest) = outside_inv i (input_of c y) (record { state = with_access Pin Segment c n open_of i (with_inbox rest) s; deeds = [] }) inv

        go : (o : Option Connection) → Inv (events.take_open Pin Segment c n open_of i s o).state
        go None = inv
        go (Some x) = items x.inbox
    happens_inv s inv (event.Carry a b) h is = subst (λ (k : Happened). Inv k.state) (sym is) (pick_happened (is_linked n a b) _ _ (λ linked. go linked (s.queues a b)) (λ none. inv))
      where
        go : is_linked n a b ≡ true → (q : List Bytes) → Inv (events.carry_first Pin Segment c n open_of a b s q).state
        go linked [] = inv
        go linked (x ∷ rest) = inner_inv (adjacency a b) (ends_apart a b linked) b a (input_of c (Some x)) (record { state = record s { queues = set_pair a b rest s.queues }; deeds = Pops a b ∷ [] }) inv
    happens_inv s inv (event.Break a b) h is =
        subst (λ (k : Happened). Inv k.state) (sym is) (pick_happened (is_linked n a b) _ _ (λ linked. break_inv (adjacency a b) (ends_apart a b linked) (record { state = s; deeds = [] }) inv) (λ none. inv))
    happens_inv s inv (event.Tick t) h is =
        let now = events.later s.clock t.0 in
        let g : Move = record { state = record s { clock = now }; deeds = [] } in
        subst (λ (k : Happened). Inv k.state) (sym is)
        (λ d b. tick_adjacencies_inv (adjacencies n) (adjacencies_apart n net) (record { 0 = now }) (tick_outside Pin Segment c n open_of 0 n.peers (record { 0 = now }) g) (tick_outside_inv 0 n.peers (record { 0 = now }) g inv) d b)
    happens_inv s inv (event.Drain i holder) h is = subst (λ (k : Happened). Inv k.state) (sym is) (go (s.accesses i).connection)
      where
        go : (o : Option Connection) → Inv (events.drain_open Pin Segment c n open_of i holder s o).state
        go None = inv
        go (Some x) = pick_happened (x.holder == holder) _ _ (λ hit. inv) (λ miss. inv)
    happens_inv s inv (event.Solve d k) h (inl none) = subst (λ (z : Happened). Inv z.state) (sym none.1) inv
    happens_inv s inv (event.Solve d k) h (inr (inl none)) = subst (λ (z : Happened). Inv z.state) (sym none.2) inv
    happens_inv s inv (event.Solve d k) h (inr (inr (inl solves))) =
        let x = solves.1 in
        let r = solving.commit c (place n d) (k, x.held) x.down s.clock (λ b. b.segment) (solving.job_found x.rows.source_known x.rows.target_known x.rows.best) (s.elements d) in
        let t = with_element Pin Segment c n open_of d r.element s in
        subst (λ (z : Happened). Inv z.state) (sym x.is)
        (put_inv d r.outputs t (view_inv s t (element_view d r.element s
        (commit_kept Pin Segment c open_of (place n d) x.held.item.pin x.held.key.peer x.held.item.class s.clock (k, x.held) x.down (λ b. b.segment) x.rows.source_known x.rows.target_known x.rows.best (s.elements d))) refl inv))
    happens_inv s inv (event.Solve d k) h (inr (inr (inr solves))) =
        let x = solves.2 in
        let r = parent.commit c (k, x.held) x.answer s.parent in
        let t = with_parent Pin Segment c n open_of r.parent s in
        subst (λ (z : Happened). Inv z.state) (sym x.is)
        (put_inv parent_as r.outputs t (view_inv s t (parent_view r.parent s (commit_above c (family n) x.held.key.peer (k, x.held) x.answer s.parent)) refl inv))

    -- ---- the opening: no session is open

    abbrev AllShut : Plant → Type 0
    AllShut s = (d b : As) → is_open (s.sessions d b).phase ≡ false

    begin_end_inv : (sid : ℕ) (at b : As) (g : Move) → Inv g.state × AllShut g.state → Inv (begin_end Pin Segment c n open_of sid at b g).state × AllShut (begin_end Pin Segment c n open_of sid at b g).state
    begin_end_inv sid at b g held =
        let next' = (turn_of (new_state (our_offer sid) (record { 0 = g.state.clock })) input.Begin).next in (
          (λ d b'. as_open at b next' g.state (sym (held.1 at b)) held.0 d b'),
          set_all (λ (z w : As) (x : Session). is_open x.phase ≡ false) at b next' g.state.sessions refl (λ z w miss. held.1 z w),
        )

    begun_inv : (xs : List Adjacency) (g : Move) → Inv g.state × AllShut g.state → Inv (events.begin_adjacencies Pin Segment c n open_of xs g).state
    begun_inv [] g held = held.0
    begun_inv (x ∷ xs) g held =
        let h = begin_end Pin Segment c n open_of 0 x.lower x.upper g in
        begun_inv xs (begin_end Pin Segment c n open_of 0 x.upper x.lower h) (begin_end_inv 0 x.upper x.lower h (begin_end_inv 0 x.lower x.upper g held))

    bare_inv : Inv (events.bare Pin Segment c n open_of first_pin)
    bare_inv d b = go (same_as d parent_as) refl
      where
        inside : Follows (inner_ways n d) false d b
        inside = (some_ways d b (adjacencies n), down_ways d b (adjacencies n) ∙ sym (never_open (is_linked n d b)))

        same : way_to (Inner b) (ways n d) ≡ way_to (Inner b) (inner_ways n d)
        same = way_inside b (inner_ways n d) (routes n d)

        go : (up : Bool) → same_as d parent_as ≡ up → Follows (cond up (inner_ways n parent_as) (ways n d)) false d b
        go true is = subst (λ (z : As). Follows (inner_ways n z) false d b) (same_as_is d parent_as is) inside
        go false is = (ap (λ (o : Option Way). is_some o) same ∙ inside.0, ap (λ (o : Option Way). is_up o) same ∙ inside.1)

    run_inv : (es : List Entry) (s : Plant) → Run c n es s → Inv s
    run_inv [] s is = subst Inv (sym is) (begun_inv (adjacencies n) (record { state = events.bare Pin Segment c n open_of first_pin; deeds = [] }) (bare_inv, λ d b. refl))
    run_inv (e ∷ older) s run =
        let held = run_inv older run.0 run.1 in
        elim run.3 [
          | inl is ↦ happens_inv run.0 held e.event (record { answer = e.answer; state = s; deeds = e.deeds }) is
          | inr none ↦ subst (λ (k : Happened). Inv k.state) (sym none.1) held
        ]

-- ---- the law

up_is : (p : Phase) → is_open p ≡ true → p ≡ phase.Up
up_is phase.Up e = refl
up_is phase.Idle e = (let no : false ≡ true = e in cc)
up_is phase.OpenWait e = (let no : false ≡ true = e in cc)
up_is phase.KeepWait e = (let no : false ≡ true = e in cc)
up_is phase.Down e = (let no : false ≡ true = e in cc)

both_true : (b t : Bool) → cond b t false ≡ true → (b ≡ true) × (t ≡ true)
both_true true t e = (refl, e)
both_true false t e = (let no : false ≡ true = e in cc)

pub ways_follow : WaysFollowSessions
ways_follow c n net es s run d b =
    let held = (run_inv c n net es s run d b).1 in (
      (λ up. (let two = both_true (is_linked n d b) (is_open (s.sessions d b).phase) (sym held ∙ up) in (two.0, up_is (s.sessions d b).phase two.1))),
      (λ two. held ∙ ap (λ (t : Bool). cond t (is_open (s.sessions d b).phase) false) two.0 ∙ ap is_open two.1),
    )
