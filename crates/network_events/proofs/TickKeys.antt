-- A tick issues no key: the clocks of keys stay as they are until keys expire.
use Rattle.std.proofs.Common.{◌≡◌, ◌≤◌, ℕ, zero, suc, Bool, true, false, cond, Option, Some, None, List, [], ◌∷◌, length, refl, ap, sym, subst, ◌∙◌, inl, inr}
use Rattle.pce_common.specs.plant_model.Types.{As, Tick, Peer, Outside, Inner, Hop, Action, Own, NetworkParts, PeerRow}
use Rattle.pcep_session.specs.declared.actions.Own.TheVariants as own
use Rattle.pcep_session.specs.declared.session.Input.TheVariants as input
use Rattle.pcep_session.specs.Table.{turn_of}
use Rattle.plant_text.specs.Names.{same_as, parent_as}
use Rattle.plant_text.specs.Settings.{Adjacency, is_element}
use Rattle.pce_common.specs.plant_model.Names.{is_empty}
use Rattle.pce_common.specs.plant_model.RealWire.{wire}
use Rattle.pce_common.specs.plant_model.State.{State, Connection}
use Rattle.pce_common.specs.plant_model.Element.{downed}
use Rattle.pce_common.specs.plant_model.Parent as parent
use Rattle.pce_common.specs.plant_model.Deeds as deeds
use Rattle.pce_common.specs.plant_model.Deeds.{Going, element_of, any_fall, is_due, is_out_empty, with_session, with_inbox}
use Rattle.network_links.specs.Flow.{Flow}
use Rattle.pce_common.specs.Membership.{KeysBefore, Membership, fallen, with_element, with_parent}
use Rattle.network_events.specs.Standing.{IsAt}
use Rattle.network_events.specs.Turns.{IsTickTurn}
use Rattle.network_events.proofs.GoLaws.{as_is}
use Rattle.network_events.proofs.RoomyDeeds.{break_leaves, fall_leaves, members_of, say_leaves}
use Rattle.network_events.proofs.TickLaws.{peers_all, peers_to}
use Rattle.network_events.proofs.TurnLaws.{ticks_are_turns}

module _ {P : Type 0} {S : Type 0} where
  -- the clock of the keys of an element
  abbrev pub clock_in : As → Membership P S → ℕ
  clock_in d ms = (ms.elements d).keys.clock

  abbrev pub clock_at : As → Going P S → ℕ
  clock_at d g = clock_in d (members_of g.state)

  fallen_clock : (d at : As) (p : Peer) (ms : Membership P S) → clock_in d (fallen at p ms) ≡ clock_in d ms
  fallen_clock d at p ms = go (same_as at parent_as)
    where
      one : (c : Bool) → (c ≡ true → at ≡ d) → (cond c (downed p (ms.elements at)).element (ms.elements d)).keys.clock ≡ (ms.elements d).keys.clock
      one true is = ap (λ (x : As). (ms.elements x).keys.clock) (is refl)
      one false is = refl

      go : (b : Bool) → clock_in d (cond b (with_parent (parent.downed p ms.parent).parent ms) (with_element at (downed p (ms.elements at)).element ms)) ≡ clock_in d ms
      go true = refl
      go false = one (same_as at d) (as_is at d)

  module _ (show : S → List Hop) (n : NetworkParts) (now : Tick) (d : As) where
    say_clock : (b : Bool) (at : As) (to : Peer) (o : Own) (g : Going P S) → clock_at d (cond b g (deeds.say P S wire n show at to o g)) ≡ clock_at d g
    say_clock true at to o g = refl
    say_clock false at to o g = ap (clock_in d) (say_leaves show n at to o g).members

    fall_clock : (at : As) (p : Peer) (g : Going P S) → clock_at d (deeds.fall P S wire n show at p g) ≡ clock_at d g
    fall_clock at p g = ap (clock_in d) (fall_leaves show n at p g).members ∙ fallen_clock d at p (members_of g.state)

    break_clock : (x : Adjacency) (g : Going P S) → clock_at d (deeds.break_adjacency P S wire n show x g) ≡ clock_at d g
    break_clock x g =
        ap (clock_in d) (break_leaves show n x.lower x.upper g).members
        ∙ fallen_clock d x.upper (Inner x.lower) (fallen x.lower (Inner x.upper) (members_of g.state)) ∙ fallen_clock d x.lower (Inner x.upper) (members_of g.state)

    -- ---- outside peers

    outside_acts_clock : (i : ℕ) (as' : List Action) (g : Going P S) → IsTickTurn as' → clock_at d (deeds.outside_acts P S wire n show i true as' g) ≡ clock_at d g
    outside_acts_clock i as' g (inl none) = subst (λ (x : List Action). clock_at d (deeds.outside_acts P S wire n show i true x g) ≡ clock_at d g) (sym none) refl
    outside_acts_clock i as' g (inr (inl alone)) =
        subst (λ (x : List Action). clock_at d (deeds.outside_acts P S wire n show i true x g) ≡ clock_at d g) (sym alone)
        (say_clock (cond true (cond (is_due own.Keepalive) (cond (is_out_empty (g.state.accesses i).connection) false true) false) false) (element_of n i) (Outside i) own.Keepalive g)
    outside_acts_clock i as' g (inr (inr (o, why, short, last))) =
        let b = cond true (cond (is_due o) (cond (is_out_empty (g.state.accesses i).connection) false true) false) false in
        let g1 : Going P S = cond b g (deeds.say P S wire n show (element_of n i) (Outside i) o g) in
        subst (λ (x : List Action). clock_at d (deeds.outside_acts P S wire n show i true x g) ≡ clock_at d g) (sym last)
        (fall_clock (element_of n i) (Outside i) (record { state = deeds.with_access P S wire n show i (with_inbox []) g1.state; deeds = g1.deeds }) ∙ say_clock b (element_of n i) (Outside i) o g)

    outside_clock : (i : ℕ) (g : Going P S) → clock_at d (deeds.outside_input P S wire n show i (input.Tick now) g) ≡ clock_at d g
    outside_clock i g = go (g.state.accesses i).connection
      where
        go : (c : Option Connection) → clock_at d (deeds.outside_step P S wire n show i (input.Tick now) g c) ≡ clock_at d g
        go None = refl
        go (Some x) =
            let r = turn_of x.session (input.Tick now) in
            outside_acts_clock i r.actions (record { state = deeds.with_access P S wire n show i (with_session r.next) g.state; deeds = g.deeds }) (ticks_are_turns x.session now)

    peers_clock : (k : ℕ) (g : Going P S) → clock_at d (peers_to show n now k g) ≡ clock_at d g
    peers_clock zero g = refl
    peers_clock (suc k) g = outside_clock k (peers_to show n now k g) ∙ peers_clock k g

    pub tick_outside_clock : (rows : List PeerRow) (g : Going P S) → clock_at d (deeds.tick_outside P S wire n show 0 rows now g) ≡ clock_at d g
    tick_outside_clock rows g = ap (clock_at d) (peers_all show n now rows g) ∙ peers_clock (length rows) g

    -- ---- links

    inner_step_clock : (x : Adjacency) (at b : As) (g g0 : Going P S) (as' : List Action) → clock_at d g0 ≡ clock_at d g → IsTickTurn as' →
        clock_at d (cond (any_fall as') (deeds.break_adjacency P S wire n show x g) (deeds.inner_acts P S wire n show at b true as' g0)) ≡ clock_at d g
    inner_step_clock x at b g g0 as' same (inl none) =
        subst (λ (y : List Action). clock_at d (cond (any_fall y) (deeds.break_adjacency P S wire n show x g) (deeds.inner_acts P S wire n show at b true y g0)) ≡ clock_at d g) (sym none) same
    inner_step_clock x at b g g0 as' same (inr (inl alone)) =
        subst (λ (y : List Action). clock_at d (cond (any_fall y) (deeds.break_adjacency P S wire n show x g) (deeds.inner_acts P S wire n show at b true y g0)) ≡ clock_at d g) (sym alone)
        (say_clock (cond true (cond (is_due own.Keepalive) (cond (is_empty (g0.state.queues at b)) false true) false) false) at (Inner b) own.Keepalive g0 ∙ same)
    inner_step_clock x at b g g0 as' same (inr (inr (o, why, short, last))) =
        subst (λ (y : List Action). clock_at d (cond (any_fall y) (deeds.break_adjacency P S wire n show x g) (deeds.inner_acts P S wire n show at b true y g0)) ≡ clock_at d g) (sym last)
        (break_clock x g)

    inner_clock : (x : Adjacency) (at b : As) (g : Going P S) → clock_at d (deeds.inner_input P S wire n show x at b (input.Tick now) g) ≡ clock_at d g
    inner_clock x at b g =
        let r = turn_of (g.state.sessions at b) (input.Tick now) in
        inner_step_clock x at b g (record { state = deeds.with_inner P S wire n show at b r.next g.state; deeds = g.deeds }) r.actions refl (ticks_are_turns (g.state.sessions at b) now)

    pub tick_adjacencies_clock : (xs : List Adjacency) (g : Going P S) → clock_at d (deeds.tick_adjacencies P S wire n show xs now g) ≡ clock_at d g
    tick_adjacencies_clock [] g = refl
    tick_adjacencies_clock (x ∷ xs) g =
        let g1 : Going P S = deeds.inner_input P S wire n show x x.lower x.upper (input.Tick now) g in
        tick_adjacencies_clock xs (deeds.inner_input P S wire n show x x.upper x.lower (input.Tick now) g1) ∙ inner_clock x x.upper x.lower g1 ∙ inner_clock x x.lower x.upper g

  -- so no key is issued after the moment
  pub keys_after : (now : ℕ) (n n' : NetworkParts) (g g' : Going P S) (ms ms' : Membership P S) (f f' : Flow) → n' ≡ n → IsAt g ms f → IsAt g' ms' f' → ((d : As) → clock_at d g' ≡ clock_at d g) → KeysBefore now n ms → KeysBefore now n' ms'
  keys_after now n n' g g' ms ms' f f' same_n is is' same keys d element =
      let clock : clock_in d ms' ≡ clock_in d ms = ap (λ (s : State P S). (s.elements d).keys.clock) is'.state ∙ same d ∙ sym (ap (λ (s : State P S). (s.elements d).keys.clock) is.state) in
      subst (λ (k : ℕ). k ≤ now) (sym clock) (keys d (subst (λ (k : NetworkParts). is_element k d ≡ true) same_n element))
