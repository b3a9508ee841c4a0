-- What an input to a session is in the model, where it passes nothing on.
use Rattle.std.proofs.Common.{◌≡◌, ◌+◌, ◌*◌, Bool, true, false, cond, Option, Some, None, List, length, refl, ap, sym, subst, ◌∙◌}
use Rattle.std.specs.Option.{option_map}
use Rattle.pce_common.specs.plant_model.Types.{As, Peer, Outside, Inner, Hop, Action, Input, State as Session, NetworkParts}
use Rattle.pcep_session.specs.Table.{turn_of}
use Rattle.plant_queues.specs.Messages.{Spare, Covers}
use Rattle.plant_text.specs.Settings.{adjacency}
use Rattle.pce_common.specs.plant_model.declared.output.Lost.{Lost}
use Rattle.pce_common.specs.plant_model.RealWire.{wire}
use Rattle.pce_common.specs.plant_model.State.{State, Connection}
use Rattle.pce_common.specs.plant_model.Deeds as deeds
use Rattle.pce_common.specs.plant_model.Deeds.{Going, is_tick, any_fall, with_session}
use Rattle.network_links.proofs.StepLemmas.{steps_keep_number}
use Rattle.network_links.specs.Ends.{said_in}
use Rattle.network_links.specs.Flow.{Flow, MaySet, room_at, session_at, set_session_at}
use Rattle.pce_common.specs.Membership.{Membership, lost_at}
use Rattle.pce_common.specs.Owed.{is_peer}
use Rattle.network_events.specs.Standing.{Here, IsAt, here_of, Goes}
use Rattle.network_events.specs.Acting.{RoomToAct, Fits, lost_by, size_in}
use Rattle.network_events.specs.Peers.{IsEnd, acts_at, break_at, breaks_by, input_at}
use Rattle.network_events.specs.Telling.{count_lost}
use Rattle.network_events.proofs.GoLaws.{goes_as, goes_then, goes_same}
use Rattle.network_events.proofs.LinkLaws.{goes_session}
use Rattle.network_events.proofs.ActLaws.{acts_inner, acts_outside, goes_access}

-- the same room, so the same actions have room
room_like : (at : As) (to : Peer) (as' : List Action) (ls : List Lost) (f f' : Flow) → ((q : Peer) → room_at at q f' ≡ room_at at q f) → f'.room.said ≡ f.room.said → RoomToAct at to as' ls f → RoomToAct at to as' ls f'
room_like at to as' ls f f' rooms said room = record {
  there = subst (λ (x : Spare). Covers x (length (said_in as')) (size_in (said_in as'))) (sym (rooms to)) room.there;
  none = room.none;
  elsewhere = λ q miss. subst (λ (x : Spare). Covers x (count_lost (is_peer q) ls) (32 * count_lost (is_peer q) ls)) (sym (rooms q)) (room.elsewhere q miss);
  said = subst (λ (x : Spare). Covers x (length (said_in as') + length ls) (size_in (said_in as') + 32 * length ls)) (sym said) room.said;
}

-- another state of the session changes nothing else
pub session_keeps : (at : As) (p : Peer) (s : Session) (f : Flow) → ((set_session_at at p s f).said ≡ f.said) × ((set_session_at at p s f).room.said ≡ f.room.said) × ((set_session_at at p s f).clock ≡ f.clock)
session_keeps at (Outside i) s f = (refl, refl, refl)
session_keeps at (Inner b) s f = (refl, refl, refl)

pub fits_session : {P : Type 0} {S : Type 0} (at : As) (to : Peer) (as' : List Action) (s : Session) (ms : Membership P S) (f : Flow) → Fits at to as' ms f → Fits at to as' ms (set_session_at at to s f)
fits_session at to as' s ms f fits =
    record { turn = fits.turn; room = room_like at to as' (lost_by as' (lost_at at to ms)) f (set_session_at at to s f) (rooms to) (session_keeps at to s f).1 fits.room }
  where
    rooms : (p q : Peer) → room_at at q (set_session_at at p s f) ≡ room_at at q f
    rooms (Outside i) (Outside j) = refl
    rooms (Outside i) (Inner c) = refl
    rooms (Inner b) (Outside j) = refl
    rooms (Inner b) (Inner c) = refl

pub some_is : (s q : Session) → Some s ≡ Some q → s ≡ q
some_is s q e = cc

-- what the session becomes may be set
pub may_set : (n : NetworkParts) (f : Flow) (at : As) (to : Peer) (x : Input) (s next : Session) → IsEnd n f at to → session_at at to f ≡ Some s → next ≡ (turn_of s x).next → MaySet at to next f
may_set n f at (Outside i) x s next end there becomes = tt
may_set n f at (Inner b) x s next end there becomes = (end.linked, ap (λ (q : Session). q.offer.sid) becomes ∙ steps_keep_number s x ∙ ap (λ (q : Session). q.offer.sid) (sym (some_is (f.sessions at b) s there)))

-- the session of a member with a peer, in a state of the model
abbrev pub session_in : {P : Type 0} {S : Type 0} → As → Peer → State P S → Option Session
session_in at (Outside i) s = option_map (λ (k : Connection). k.session) (s.accesses i).connection
session_in at (Inner b) s = Some (s.sessions at b)

pub session_of : {P : Type 0} {S : Type 0} (at : As) (to : Peer) (g : Going P S) (ms : Membership P S) (f : Flow) → IsAt g ms f → session_in at to g.state ≡ session_at at to f
session_of {P = P} {S = S} at (Outside i) g ms f is = ap (λ (s : State P S). session_in at (Outside i) s) (sym is.state)
session_of {P = P} {S = S} at (Inner b) g ms f is = ap (λ (s : State P S). session_in at (Inner b) s) (sym is.state)

module _ {P : Type 0} {S : Type 0} (show : S → List Hop) (n : NetworkParts) where
  -- another state of it
  abbrev pub set_at : As → Peer → Session → Going P S → Going P S
  set_at at (Outside i) next g = record { state = deeds.with_access P S wire n show i (with_session next) g.state; deeds = g.deeds }
  set_at at (Inner b) next g = record { state = deeds.with_inner P S wire n show at b next g.state; deeds = g.deeds }

  module _ (x : Input) (g : Going P S) (at : As) where
    -- nothing comes to a peer that is closed
    pub closed_is : (to : Peer) → session_in at to g.state ≡ None → g ≡ input_at P S n show at to x g
    closed_is (Inner b) none = cc
    closed_is (Outside i) none = go (g.state.accesses i).connection none
      where
        go : (c : Option Connection) → option_map (λ (k : Connection). k.session) c ≡ None → g ≡ deeds.outside_step P S wire n show i x g c
        go None e = refl
        go (Some k) e = cc

    -- an input by which a link breaks
    pub breaks_is : (to : Peer) (s : Session) → session_in at to g.state ≡ Some s → breaks_by to (turn_of s x).actions ≡ true → break_at P S n show at to g ≡ input_at P S n show at to x g
    breaks_is (Outside i) s there breaks = cc
    breaks_is (Inner b) s there breaks =
        let acts = λ (q : Session). deeds.inner_acts P S wire n show at b (is_tick x) (turn_of q x).actions (set_at at (Inner b) (turn_of q x).next g) in
        sym (ap (λ (c : Bool). cond c (deeds.break_adjacency P S wire n show (adjacency b at) g) (acts (g.state.sessions at b)))
        (ap (λ (q : Session). any_fall (turn_of q x).actions) (some_is (g.state.sessions at b) s there) ∙ breaks))

    -- one after which it stays
    pub acts_is : (to : Peer) (s : Session) (f : Flow) → IsEnd n f at to → session_in at to g.state ≡ Some s → breaks_by to (turn_of s x).actions ≡ false →
        acts_at P S n show at to (is_tick x) (turn_of s x).actions (set_at at to (turn_of s x).next g) ≡ input_at P S n show at to x g
    acts_is (Outside i) s f end there calm =
        let g0 = set_at at (Outside i) (turn_of s x).next g in
        subst (λ (a : As). acts_at P S n show a (Outside i) (is_tick x) (turn_of s x).actions g0 ≡ deeds.outside_input P S wire n show i x g) (sym end)
        (acts_outside show n (is_tick x) i (turn_of s x).actions g0 ∙ go (g.state.accesses i).connection there)
      where
        go : (c : Option Connection) → option_map (λ (k : Connection). k.session) c ≡ Some s →
            deeds.outside_acts P S wire n show i (is_tick x) (turn_of s x).actions (set_at at (Outside i) (turn_of s x).next g) ≡ deeds.outside_step P S wire n show i x g c
        go None e = cc
        go (Some k) e = ap (λ (q : Session). deeds.outside_step P S wire n show i x g (Some (with_session q k))) (sym (some_is k.session s e))
    acts_is (Inner b) s f end there calm =
        let broken = deeds.break_adjacency P S wire n show (adjacency b at) g in
        let acts = λ (q : Session). deeds.inner_acts P S wire n show at b (is_tick x) (turn_of q x).actions (set_at at (Inner b) (turn_of q x).next g) in
        acts_inner show n (is_tick x) at b (turn_of s x).actions (set_at at (Inner b) (turn_of s x).next g) ∙ sym (ap (λ (c : Bool). cond c broken (acts s)) calm)
        ∙ ap (λ (q : Session). cond (any_fall (turn_of q x).actions) broken (acts q)) (sym (some_is (g.state.sessions at b) s there))

module _ {P : Type 0} {S : Type 0} (show : S → List Hop) (n : NetworkParts) (ms : Membership P S) (lost : As → List Lost) (x : Input) (f : Flow) where
  pub input_closed : (at : As) (to : Peer) → session_at at to f ≡ None → Goes (λ k. input_at P S k show at to x) (here_of n ms lost f) (here_of n ms lost f)
  input_closed at to none =
      goes_as (λ k g. g) (λ k. input_at P S k show at to x) (here_of n ms lost f) (here_of n ms lost f)
      (λ g is. closed_is show n x g at to (session_of at to g ms f is ∙ none)) (goes_same (here_of n ms lost f))

  pub input_breaks : (at : As) (to : Peer) (s : Session) (as' : List Action) (after : Here P S) → session_at at to f ≡ Some s → as' ≡ (turn_of s x).actions → breaks_by to as' ≡ true →
      Goes (λ k. break_at P S k show at to) (here_of n ms lost f) after → Goes (λ k. input_at P S k show at to x) (here_of n ms lost f) after
  input_breaks at to s as' after there asks breaks =
      goes_as (λ k. break_at P S k show at to) (λ k. input_at P S k show at to x) (here_of n ms lost f) after
      (λ g is. breaks_is show n x g at to s (session_of at to g ms f is ∙ there) (ap (breaks_by to) (sym asks) ∙ breaks))

  goes_set : (at : As) (to : Peer) (next : Session) → Goes (λ k. set_at show k at to next) (here_of n ms lost f) (here_of n ms lost (set_session_at at to next f))
  goes_set at (Outside i) next = goes_access show n ms lost i (with_session next) f (λ k. refl)
  goes_set at (Inner b) next = goes_session show n ms lost at b next f

  turn_stays : (at : As) (to : Peer) (s : Session) (after : Here P S) → IsEnd n f at to → session_at at to f ≡ Some s → breaks_by to (turn_of s x).actions ≡ false →
      Goes (λ k. acts_at P S k show at to (is_tick x) (turn_of s x).actions) (here_of n ms lost (set_session_at at to (turn_of s x).next f)) after → Goes (λ k. input_at P S k show at to x) (here_of n ms lost f) after
  turn_stays at to s after end there calm acts =
      let t = turn_of s x in
      goes_as (λ k g. acts_at P S k show at to (is_tick x) t.actions (set_at show k at to t.next g)) (λ k. input_at P S k show at to x) (here_of n ms lost f) after
      (λ g is. acts_is show n x g at to s f end (session_of at to g ms f is ∙ there) calm)
      (goes_then (λ k. set_at show k at to t.next) (λ k. acts_at P S k show at to (is_tick x) t.actions) (here_of n ms lost f) (here_of n ms lost (set_session_at at to t.next f)) after (goes_set at to t.next) acts)

  pub input_stays : (at : As) (to : Peer) (s s' : Session) (ticks : Bool) (as' : List Action) (f1 : Flow) (after : Here P S) → IsEnd n f at to → session_at at to f ≡ Some s → as' ≡ (turn_of s x).actions → s' ≡ (turn_of s x).next → ticks ≡ is_tick x →
      breaks_by to as' ≡ false → f1 ≡ set_session_at at to s' f → Goes (λ k. acts_at P S k show at to ticks as') (here_of n ms lost f1) after → Goes (λ k. input_at P S k show at to x) (here_of n ms lost f) after
  input_stays at to s s' ticks as' f1 after end there asks becomes ticks_is calm f_is acts =
      turn_stays at to s after end there (ap (breaks_by to) (sym asks) ∙ calm)
      (subst (λ (z : Flow). Goes (λ k. acts_at P S k show at to (is_tick x) (turn_of s x).actions) (here_of n ms lost z) after) (f_is ∙ ap (λ (q : Session). set_session_at at to q f) becomes)
      (subst (λ (a : List Action). Goes (λ k. acts_at P S k show at to (is_tick x) a) (here_of n ms lost f1) after) asks
      (subst (λ (t : Bool). Goes (λ k. acts_at P S k show at to t as') (here_of n ms lost f1) after) ticks_is acts)))
