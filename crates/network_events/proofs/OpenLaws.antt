-- An outside peer that opens: its connection has room, its session says its Open, and the event is the model's.
use Rattle.std.proofs.Common.{◌≡◌, ◌≤◌, ◌<◌, ℕ, zero, suc, ◌*◌, ◌%◌, is_some, Bool, true, false, cond, ◌==◌, Option, Some, None, List, [], ◌∷◌, length, Ok, Err, OnOk, refl, ap, sym, subst, ◌∙◌, arith, inr}
use Rattle.std.specs.Prelude.{Result}
use Rattle.std.specs.Option.{option_map}
use Rattle.std.proofs.lemmas.Bool.{eqb-true}
use mathlib.Core.Path.{fun_ext}
use Rattle.pce_common.specs.plant_model.Types.{As, Tick, Peer, Outside, Inner, Hop, Own, State as Session, NetworkParts, PeerRow}
use Rattle.pcep_session.specs.declared.actions.Action.TheVariants as action
use Rattle.pcep_session.specs.declared.actions.Own.TheVariants as saying
use Rattle.pcep_session.specs.declared.session.Input.TheVariants as input
use Rattle.plant_queues.specs.Messages.{Spare}
use Rattle.plant_text.specs.Settings.{peer_row}
use Rattle.pce_common.specs.plant_model.declared.outcome.Outcome.TheVariants.{Done}
use Rattle.pce_common.specs.plant_model.declared.outcome.Refused.TheVariants.{NoSuchPeer}
use Rattle.pce_common.specs.plant_model.declared.output.Lost.{Lost}
use Rattle.pce_common.specs.plant_model.Names.{is_empty, set_number}
use Rattle.pce_common.specs.plant_model.RealWire.{wire}
use Rattle.pce_common.specs.plant_model.State.{Access, Connection}
use Rattle.pce_common.specs.plant_model.Deeds as deeds
use Rattle.pce_common.specs.plant_model.Deeds.{Going, element_of, our_offer}
use Rattle.pce_common.specs.plant_model.Events as events
use Rattle.network_links.specs.Ends.{just_open}
use Rattle.network_links.specs.Flow.{ClearsSaid, Flow, GrowsAt, KeepsRoomAt, just_opened, out_of, session_at, set_access, set_room}
use Rattle.plant_text.specs.Names.{parent_as}
use Rattle.network_events.specs.Acting.{FitsInput}
use Rattle.network_events.specs.Happening.{IsDone}
use Rattle.network_events.specs.Passing.{IsOf}
use Rattle.network_events.specs.Peers.{input_at}
use Rattle.pce_common.specs.Membership.{Membership, is_member}
use Rattle.pce_common.specs.Owed.{owed}
use Rattle.network_events.specs.Rooms.{IsRoomy, emptied, is_live, own_most}
use Rattle.network_events.specs.Roomy.{KeepsOn}
use Rattle.network_events.specs.Standing.{Goes, IsAt, here_of, state_of}
use Rattle.network_events.proofs.GoLaws.{self}
use Rattle.network_events.proofs.RoomyInputs.{HasWord, fits_at, input_keeps}
use Rattle.network_events.proofs.RoomySteps.{emptied_keeps, ends_roomy}
use Rattle.network_events.proofs.RoomyOpens.{connect_keeps}

-- what stands where a call did what it was asked
pub on_ok_of : {A : Type 0} {E : Type 0} {X : Type 0} (r : Result A E) (u : A) → r ≡ Ok u → OnOk r X → X
on_ok_of {A = A} {E = E} {X = X} r u is x = subst (λ (s : Result A E). OnOk s X) is x

-- a connection that has come to be, at the clock of the traffic
abbrev pub opened_at : ℕ → ℕ → Flow → Access
opened_at i holder f = just_opened holder (record { 0 = f.clock }) (f.accesses i)

-- what a flow is once an outside peer is connected
abbrev pub connected : ℕ → ℕ → Flow → Flow → Type 0
connected i holder f f1 = f1 ≡ record (set_access i (opened_at i holder f) f) { room = set_room parent_as (Outside i) (f1.room.outside i) f.room }

number_as : {A : Type 0} (i : ℕ) (f : ℕ → A) → f ≡ set_number i (f i) f
number_as i f = fun_ext (λ j. go j (i == j) (eqb-true i j))
  where
    go : (j : ℕ) (b : Bool) → (b ≡ true → i ≡ j) → f j ≡ cond b (f i) (f j)
    go j true is = ap f (sym (is refl))
    go j false is = refl

-- room that stays is no less
stays_at : (at : As) (i : ℕ) (f : Flow) → GrowsAt at (Outside i) f f
stays_at at i f = record {
  same = ap (λ (r : ℕ → Spare). record f { room = record f.room { outside = r } }) (number_as i f.room.outside);
  room = record { messages = omega arith; bytes = omega arith };
}

row_some : (i : ℕ) (rows : List PeerRow) → i < length rows → is_some (peer_row i rows) ≡ true
row_some i [] below = absurd (omega (arith, below))
row_some zero (r ∷ rows) below = refl
row_some (suc i) (r ∷ rows) below = row_some i rows (omega (arith, below))

row_none : (i : ℕ) (rows : List PeerRow) → length rows ≤ i → is_some (peer_row i rows) ≡ false
row_none i [] past = refl
row_none zero (r ∷ rows) past = absurd (omega (arith, past))
row_none (suc i) (r ∷ rows) past = row_none i rows (omega (arith, past))

none_is : (c : Option Connection) → is_some c ≡ false → c ≡ None
none_is None e = refl
none_is (Some x) e = cc

pub connected_of : (i holder : ℕ) (f f1 f2 : Flow) → connected i holder f f1 → ClearsSaid f1 f2 → (f2.accesses i).connection ≡ Some (just_open holder ((f.accesses i).opened % 256) (record { 0 = f.clock }))
connected_of i holder f f1 f2 connects clears =
    ap (λ (x : Flow). (x.accesses i).connection) clears.kept ∙ ap (λ (x : Flow). (x.accesses i).connection) connects
    ∙ ap (λ (b : Bool). (cond b (opened_at i holder f) (f.accesses i)).connection) (self i)

module _ {P : Type 0} {S : Type 0} (show : S → List Hop) (n : NetworkParts) where
  filled_roomy : (ms : Membership P S) (f : Flow) → KeepsOn (own_most n) n ms (emptied f) → IsRoomy n ms f
  filled_roomy ms f keeps = record { answers = record { live = live; dead = dead }; said = keeps.said }
    where
      live : (at : As) (to : Peer) → is_live n f at to ≡ true → KeepsRoomAt at to (owed at to ms) (32 * owed at to ms) f
      live at (Outside i) is = keeps.answers.live at (Outside i) is
      live at (Inner b) is = keeps.answers.live at (Inner b) is

      dead : (at : As) (to : Peer) → is_live n f at to ≡ false → owed at to ms ≡ 0
      dead at (Outside i) is = keeps.answers.dead at (Outside i) is
      dead at (Inner b) is = keeps.answers.dead at (Inner b) is

  -- connected, but what was said before is not yet cleared
  pub connected_roomy : (i holder : ℕ) (ms : Membership P S) (f f1 : Flow) → is_some (f.accesses i).connection ≡ false → connected i holder f f1 → KeepsRoomAt parent_as (Outside i) 0 0 f1 → IsRoomy n ms f → IsRoomy n ms f1
  connected_roomy i holder ms f f1 shut' connects room roomy =
      filled_roomy ms f1
      (connect_keeps show n (own_most n) i holder (record { 0 = f.clock }) ms (emptied f) (emptied f1) (emptied f1) (none_is (f.accesses i).connection shut') (ap emptied connects) (stays_at (element_of n i) i (emptied f1)) room
      (emptied_keeps n ms f roomy))

  -- the Open has room
  pub fits_open : (i holder sid : ℕ) (t : Tick) (at : As) (ms : Membership P S) (f : Flow) → at ≡ element_of n i → is_member n at ≡ true → IsOf n f → (f.accesses i).connection ≡ Some (just_open holder sid t) → 2 ≤ own_most n → KeepsOn (own_most n) n ms f →
      FitsInput at (Outside i) input.Begin (session_at at (Outside i) f) ms f
  fits_open i holder sid t at ms f end member of open' some keeps =
      let there = ap (option_map (λ (k : Connection). k.session)) open' in
      subst (λ (c : Option Session). FitsInput at (Outside i) input.Begin c ms f) (sym there) (fits_at n (own_most n) at (Outside i) input.Begin (just_open holder sid t).session ms f end member of there some keeps tt)

  pub opened_roomy : (i holder sid : ℕ) (t : Tick) (at : As) (g : Going P S) (n' : NetworkParts) (ms ms' : Membership P S) (lost lost' : As → List Lost) (f f' : Flow) → at ≡ element_of n i → is_member n at ≡ true → IsOf n f →
      (f.accesses i).connection ≡ Some (just_open holder sid t) → 2 ≤ own_most n → Goes (λ k. input_at P S k show at (Outside i) input.Begin) (here_of n ms lost f) (here_of n' ms' lost' f') → IsAt g ms f → KeepsOn (own_most n) n ms f → IsRoomy n ms' f'
  opened_roomy i holder sid t at g n' ms ms' lost lost' f f' end member of open' some goes is keeps =
      ends_roomy n 0 ms' f'
      (input_keeps show n 0 (own_most n) at (Outside i) input.Begin (just_open holder sid t).session g n' ms ms' lost lost' f f' some end member of (ap (option_map (λ (k : Connection). k.session)) open') tt word goes is keeps)
    where
      word : (o : Own) → action.Send (saying.Open (our_offer sid)) ∷ [] ≡ action.Send o ∷ [] → HasWord at (Outside i) false o ms f
      word o one =
          let says : saying.Open (our_offer sid) ≡ o = cc in
          subst (λ (y : Own). HasWord at (Outside i) false y ms f) says (inr (omega arith, λ left. ap (λ (c : Option Connection). is_empty (out_of c)) open'))

  -- ---- the event

  pub connected_is : (i holder : ℕ) (ms : Membership P S) (f f1 f2 : Flow) → connected i holder f f1 → ClearsSaid f1 f2 → IsAt (events.idle P S wire n show (events.connect P S wire n show i holder (state_of ms f))) ms f2
  connected_is i holder ms f f1 f2 connects clears = record {
    state = ap (state_of ms) clears.kept ∙ ap (state_of ms) connects;
    said = ap (λ (x : Flow). x.said) clears.kept;
  }

  pub open_done : (i holder : ℕ) (n' : NetworkParts) (ms ms' : Membership P S) (lost lost' : As → List Lost) (f f1 f2 f' : Flow) → i < length n.peers → is_some (f.accesses i).connection ≡ false → connected i holder f f1 → ClearsSaid f1 f2 →
      Goes (λ k. deeds.outside_input P S wire k show i input.Begin) (here_of n ms lost f2) (here_of n' ms' lost' f') → IsDone (events.open_peer P S wire n show i holder (state_of ms f)) (Ok Done) ms' f'
  open_done i holder n' ms ms' lost lost' f f1 f2 f' below shut' connects clears goes =
      let at = goes.goes (events.idle P S wire n show (events.connect P S wire n show i holder (state_of ms f))) (connected_is i holder ms f f1 f2 connects clears) in
      rw (row_some i n.peers below, none_is (f.accesses i).connection shut') (record { answer = refl; state = at.state; said = at.said })

  pub open_past : (i holder : ℕ) (ms : Membership P S) (f : Flow) → length n.peers ≤ i → IsDone (events.open_peer P S wire n show i holder (state_of ms f)) (Err NoSuchPeer) ms f
  open_past i holder ms f past = rw (row_none i n.peers past) (record { answer = refl; state = refl; said = tt })

  pub open_twice : (i holder : ℕ) (ms : Membership P S) (f : Flow) → is_some (f.accesses i).connection ≡ true → IsDone (events.open_peer P S wire n show i holder (state_of ms f)) (Err NoSuchPeer) ms f
  open_twice i holder ms f open' = go (is_some (peer_row i n.peers)) (f.accesses i).connection open'
    where
      go : (b : Bool) (c : Option Connection) → is_some c ≡ true →
          IsDone (cond b (events.open_new P S wire n show i holder (state_of ms f) c) (events.refused P S wire n show NoSuchPeer (state_of ms f))) (Err NoSuchPeer) ms f
      go b None e = cc
      go true (Some x) e = record { answer = refl; state = refl; said = tt }
      go false (Some x) e = record { answer = refl; state = refl; said = tt }
