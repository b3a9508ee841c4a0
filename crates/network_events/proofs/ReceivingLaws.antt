-- A member is given the first that waits for it: what is left then, and that this is the event of the model.
use Rattle.std.proofs.Common.{◌≡◌, ◌⊎◌, ◌≤◌, ℕ, Bool, true, false, not, cond, Option, Some, None, Ok, Err, List, [], ◌∷◌, ◌==◌, drop, refl, ap, sym, subst, ◌∙◌, arith, inl, inr, is_some}
use Rattle.std.specs.Prelude.{slice_get}
use Rattle.std.proofs.lemmas.Bool.{cases_Bool, eqb-true}
use Rattle.std.specs.Option.{option_map}
use Rattle.pce_common.specs.plant_model.Types.{As, Peer, Outside, Inner, Hop, Message, Action, Input, State as Session, Sent, NetworkParts}
use Rattle.pcep_session.specs.declared.actions.Action.TheVariants.{Pass}
use Rattle.pcep_session.specs.Table.{SessionStep, turn_of}
use Rattle.plant_text.specs.Settings.{adjacency, adjacencies, has_adjacency}
use Rattle.network_links.specs.Rooms.{Grows}
use Rattle.pce_common.specs.plant_model.declared.outcome.Outcome.TheVariants.{Done}
use Rattle.pce_common.specs.plant_model.declared.outcome.Refused.TheVariants.{NoSuchPeer, NothingToCarry}
use Rattle.pce_common.specs.plant_model.declared.output.Lost.{Lost}
use Rattle.pce_common.specs.plant_model.Names.{set_number, set_pair}
use Rattle.pce_common.specs.plant_model.RealWire.{wire}
use Rattle.pce_common.specs.plant_model.State.{State, Access, Connection, Pops}
use Rattle.pce_common.specs.plant_model.Wire.{Bytes}
use Rattle.pce_common.specs.plant_model.Deeds as deeds
use Rattle.pce_common.specs.plant_model.Deeds.{Going, on_connection, with_inbox, with_session, input_of, read_as, is_tick}
use Rattle.pce_common.specs.plant_model.Events as events
use Rattle.pce_common.specs.plant_model.Events.{Happened, is_down}
use Rattle.network_links.specs.Carried.{Carried, flow_of}
use Rattle.network_links.specs.Flow.{Flow, ClearsSaid, DropsFirstAt, MaySet, change_access, drop_first, first_at, inbox_of, session_at, set_queue, set_session_at}
use Rattle.network_events.specs.Acting.{IsOwnTurn, FitsTurn}
use Rattle.network_events.specs.Giving.{IsGiven, OnlyGrows, RoomToGive}
use Rattle.network_events.specs.Happening.{IsDone}
use Rattle.pce_common.specs.Membership.{AreJoined, Membership, is_member}
use Rattle.pce_common.specs.Owed.{asked_in}
use Rattle.network_events.specs.Passing.{IsOf}
use Rattle.network_events.specs.Peers.{IsEnd, IsPlaced, acts_at, breaks_by, heard_from, input_at, receive_at}
use Rattle.network_events.specs.Rooms.{IsRoomy, is_talking, own_most}
use Rattle.network_events.specs.Roomy.{KeepsOn}
use Rattle.network_events.specs.Standing.{IsAt, here_of, Goes, state_of}
use Rattle.network_events.specs.Stepping.{Receives, Steps}
use Rattle.network_events.specs.Turns.{IsPass}
use Rattle.network_events.proofs.GoLaws.{access_same, goes_as}
use Rattle.network_events.proofs.InputLaws.{input_stays, may_set, session_keeps, some_is}
use Rattle.network_events.proofs.LossEvents.{open_below}
use Rattle.network_events.proofs.PassEvents.{cleared_is, from_is, owed_is, own_is, pending_is}
use Rattle.network_events.proofs.PassLaws.{access_no_less, clear_no_less, clear_said_grows, drop_no_less, session_no_less}
use Rattle.network_events.proofs.PassRoom.{NoLess, Passing, no_less_then, roomy_grown}
use Rattle.network_events.proofs.PassUp.{pass_stays}
use Rattle.network_events.proofs.RoomyNeeds.{adjacency_back, linked_in}
use Rattle.network_events.proofs.RoomySteps.{begins_keeps, ends_roomy}
use Rattle.network_events.proofs.StepLemmas.{done_moves}
use Rattle.network_events.proofs.RoomyStarts.{less_keeps, word_less, words_at_link, words_at_peer}
use Rattle.network_events.proofs.RoomyInputs.{KeepsWord, fits_at, input_keeps, live_at}
use Rattle.network_events.proofs.TurnLaws.{steps_are_turns}

-- what comes is no tick
pub no_tick : (item : Option Bytes) → false ≡ is_tick (input_of wire item)
no_tick None = refl
no_tick (Some bytes) = go (wire.read bytes)
  where
    go : (o : Option Message) → false ≡ is_tick (read_as o)
    go None = refl
    go (Some m) = refl

-- ---- who is given it

open_there : (i : ℕ) (f : Flow) (s : Session) (at : As) → session_at at (Outside i) f ≡ Some s → is_some (f.accesses i).connection ≡ true
open_there i f s at e = go (f.accesses i).connection e
  where
    go : (c : Option Connection) → option_map (λ (k : Connection). k.session) c ≡ Some s → is_some c ≡ true
    go None e' = cc
    go (Some k) e' = refl

-- where there is a session, there are members
pub placed_end : (n : NetworkParts) (x : Carried) (at : As) (to : Peer) (s : Session) → AreJoined n → IsOf n (flow_of x) → IsPlaced n at to → session_at at to (flow_of x) ≡ Some s → IsEnd n (flow_of x) at to × (is_member n at ≡ true)
placed_end n x at (Outside i) s joined of placed there =
    (placed, subst (λ (a : As). is_member n a ≡ true) (sym placed) (joined.peers i (omega (arith, open_below x i (open_there i (flow_of x) s at there), of.peers_are))))
placed_end n x at (Inner b) s joined of placed there =
    let back = adjacency_back b at (adjacencies n) placed.0 in
    (record { other = joined.links b at placed.0; apart = placed.1; linked = ap (has_adjacency at b) of.adjacencies_are ∙ back }, joined.links at b back)

-- and words that sessions may say
words_there : (n : NetworkParts) (x : Carried) (at : As) (to : Peer) (s : Session) → IsEnd n (flow_of x) at to → IsOf n (flow_of x) → session_at at to (flow_of x) ≡ Some s → 2 ≤ own_most n
words_there n x at (Outside i) s end of there = words_at_peer n i (omega (arith, open_below x i (open_there i (flow_of x) s at there), of.peers_are))
words_there n x at (Inner b) s end of there = omega (arith, words_at_link n at b (linked_in n (flow_of x) at b of end.linked))

-- what the session then asks for, and what it becomes
pub steps_at : (at : As) (to : Peer) (f : Flow) (s next : Session) (x : Input) (as' : List Action) → Some s ≡ session_at at to f → Some x ≡ option_map (input_of wire) (first_at at to f) → as' ≡ (turn_of s x).actions → next ≡ (turn_of s x).next → Steps at to as' next f
steps_at at to f s next x as' there first asks becomes = go (first_at at to f) refl first
  where
    go : (o : Option (Option Bytes)) → first_at at to f ≡ o → Some x ≡ option_map (input_of wire) o → Steps at to as' next f
    go None is e = cc
    go (Some item) is e =
        let input_is : x ≡ input_of wire item = cc in
        record {
          session = s;
          item = item;
          there = sym there;
          first = is;
          asks = asks ∙ ap (λ (y : Input). (turn_of s y).actions) input_is;
          becomes = becomes ∙ ap (λ (y : Input). (turn_of s y).next) input_is;
        }

pub steps_turn : (at : As) (to : Peer) (as' : List Action) (next : Session) (f : Flow) → Steps at to as' next f → IsOwnTurn as' ⊎ IsPass as'
steps_turn at to as' next f x = subst (λ (l : List Action). IsOwnTurn l ⊎ IsPass l) (sym x.asks) (steps_are_turns x.session (input_of wire x.item))

-- ---- the first is taken away

-- what stays so
record Gone (at : As) (to : Peer) (cleared f : Flow) : Type 0 where
  adjacencies : f.adjacencies ≡ cleared.adjacencies
  peers : f.peers ≡ cleared.peers
  clock : f.clock ≡ cleared.clock
  said : f.said ≡ cleared.said
  room : f.room.said ≡ cleared.room.said
  session : session_at at to f ≡ session_at at to cleared
  less : NoLess cleared f
  talking : (j : ℕ) → is_talking (f.accesses j).connection ≡ is_talking (cleared.accesses j).connection

gone : (at : As) (to : Peer) (cleared f : Flow) → DropsFirstAt at to cleared f → Gone at to cleared f
gone at (Outside i) cleared f drops = subst (Gone at (Outside i) cleared) (sym drops) (record {
  adjacencies = refl;
  peers = refl;
  clock = refl;
  said = refl;
  room = refl;
  session = access_same (option_map (λ (k : Connection). k.session)) drop_first i i cleared (λ k. refl);
  less = access_no_less i drop_first cleared (λ k. refl);
  talking = λ j. access_same is_talking drop_first i j cleared (λ k. refl);
})
gone at (Inner b) cleared f drops = record {
  adjacencies = ap (λ (y : Flow). y.adjacencies) drops.kept;
  peers = ap (λ (y : Flow). y.peers) drops.kept;
  clock = ap (λ (y : Flow). y.clock) drops.kept;
  said = ap (λ (y : Flow). y.said) drops.kept;
  room = ap (λ (y : Flow). y.room.said) drops.kept;
  session = ap (session_at at (Inner b)) drops.kept;
  less = drop_no_less b at cleared f drops;
  talking = λ j. ap (λ (y : Flow). is_talking (y.accesses j).connection) drops.kept;
}

session_before : (at : As) (to : Peer) (start made cleared : Flow) → OnlyGrows start made → ClearsSaid made cleared → session_at at to cleared ≡ session_at at to start
session_before at (Outside i) start made cleared grows clears = ap (session_at at (Outside i)) (cleared_is start made cleared grows clears)
session_before at (Inner b) start made cleared grows clears = ap (session_at at (Inner b)) (cleared_is start made cleared grows clears)

end_after : (n : NetworkParts) (f f' : Flow) (at : As) (to : Peer) → f'.adjacencies ≡ f.adjacencies → IsEnd n f at to → IsEnd n f' at to
end_after n f f' at (Outside i) same end = end
end_after n f f' at (Inner b) same end = record { other = end.other; apart = end.apart; linked = ap (has_adjacency at b) same ∙ end.linked }

-- a session that is as much over as it was
session_talks : (at : As) (to : Peer) (s next : Session) (f : Flow) → session_at at to f ≡ Some s → is_down next.phase ≡ is_down s.phase → (j : ℕ) → is_talking ((set_session_at at to next f).accesses j).connection ≡ is_talking (f.accesses j).connection
session_talks at (Inner b) s next f there same j = refl
session_talks at (Outside i) s next f there same j = elim (cases_Bool (i == j)) [
  | inl hit ↦ ap (λ (b : Bool). is_talking (cond b (on_connection (with_session next) (f.accesses i)) (f.accesses j)).connection) hit ∙ one (f.accesses i).opened (f.accesses i).connection there ∙ ap (λ (k : ℕ). is_talking (f.accesses k).connection) (eqb-true i j hit)
  | inr miss ↦ ap (λ (b : Bool). is_talking (cond b (on_connection (with_session next) (f.accesses i)) (f.accesses j)).connection) miss
]
  where
    one : (o : ℕ) (c : Option Connection) → option_map (λ (k : Connection). k.session) c ≡ Some s → is_talking (on_connection (with_session next) (record { opened = o; connection = c })).connection ≡ is_talking c
    one o None e = cc
    one o (Some k) e = ap not same ∙ sym (ap (λ (q : Session). not (is_down q.phase)) (some_is k.session s e))

-- ---- the event

module _ {P : Type 0} {S : Type 0} (show : S → List Hop) (n : NetworkParts) where
  -- what the model has once the first has left
  abbrev first_gone : As → Peer → State P S → Going P S
  first_gone at (Outside i) s = record { state = deeds.with_access P S wire n show i drop_first s; deeds = [] }
  first_gone at (Inner b) s = record { state = record s { queues = set_pair b at (drop 1 (s.queues b at)) s.queues }; deeds = Pops b at ∷ [] }

  first_leaves : (at : As) (to : Peer) (ms : Membership P S) (start made cleared f : Flow) → OnlyGrows start made → ClearsSaid made cleared → DropsFirstAt at to cleared f → IsAt (first_gone at to (state_of ms start)) ms f
  first_leaves at (Outside i) ms start made cleared f grows clears drops =
      let same = cleared_is start made cleared grows clears in
      record { state = ap (state_of ms) drops ∙ ap (λ (y : Flow). state_of ms (change_access i drop_first y)) same; said = ap (λ (y : Flow). y.said) drops ∙ ap (λ (y : Flow). y.said) same }
  first_leaves at (Inner b) ms start made cleared f grows clears drops =
      let same = cleared_is start made cleared grows clears in
      record {
        state = ap (state_of ms) drops.kept ∙ ap (λ (y : Flow). state_of ms (set_queue b at (drop 1 (y.queues b at)) y)) same;
        said = ap (λ (y : Flow). y.said) drops.kept ∙ ap (λ (y : Flow). y.said) same;
      }

  -- there is no session
  pub receive_none : (at : As) (to : Peer) (ms : Membership P S) (f : Flow) → session_at at to f ≡ None → IsDone (receive_at P S n show at to (state_of ms f)) (Err NoSuchPeer) ms f
  receive_none at (Inner b) ms f none = cc
  receive_none at (Outside i) ms f none = go (f.accesses i).connection none
    where
      go : (c : Option Connection) → option_map (λ (k : Connection). k.session) c ≡ None → IsDone (events.take_open P S wire n show i (state_of ms f) c) (Err NoSuchPeer) ms f
      go None e = record { answer = refl; state = refl; said = tt }
      go (Some k) e = cc

  -- nothing waits for it
  pub receive_nothing : (at : As) (to : Peer) (s : Session) (ms : Membership P S) (f : Flow) → IsPlaced n at to → session_at at to f ≡ Some s → option_map (input_of wire) (first_at at to f) ≡ None →
      IsDone (receive_at P S n show at to (state_of ms f)) (Err NothingToCarry) ms f
  receive_nothing at (Outside i) s ms f placed there none = go (f.accesses i).connection there none
    where
      items : (ys : List (Option Bytes)) → option_map (input_of wire) (slice_get ys 0) ≡ None → IsDone (events.take_item P S wire n show i (state_of ms f) ys) (Err NothingToCarry) ms f
      items [] e = record { answer = refl; state = refl; said = tt }
      items (y ∷ ys) e = cc

      go : (c : Option Connection) → option_map (λ (k : Connection). k.session) c ≡ Some s → option_map (input_of wire) (slice_get (inbox_of c) 0) ≡ None → IsDone (events.take_open P S wire n show i (state_of ms f) c) (Err NothingToCarry) ms f
      go None e e' = cc
      go (Some k) e e' = items k.inbox e'
  receive_nothing at (Inner b) s ms f placed there none =
      subst (λ (c : Bool). IsDone (cond c (events.carry_first P S wire n show b at (state_of ms f) (f.queues b at)) (events.refused P S wire n show NoSuchPeer (state_of ms f))) (Err NothingToCarry) ms f) (sym placed.0)
      (items (f.queues b at) none)
    where
      items : (ys : List Bytes) → option_map (input_of wire) (option_map Some (slice_get ys 0)) ≡ None → IsDone (events.carry_first P S wire n show b at (state_of ms f) ys) (Err NothingToCarry) ms f
      items [] e = record { answer = refl; state = refl; said = tt }
      items (y ∷ ys) e = cc

  receive_is : (at : As) (to : Peer) (item : Option Bytes) (s : Session) (ms : Membership P S) (f : Flow) → IsEnd n f at to → IsOf n f → session_at at to f ≡ Some s → first_at at to f ≡ Some item →
      receive_at P S n show at to (state_of ms f) ≡ events.answered P S wire n show Done (input_at P S n show at to (input_of wire item) (first_gone at to (state_of ms f)))
  receive_is at (Outside i) item s ms f end of there first = go (f.accesses i).connection refl first
    where
      st : State P S
      st = state_of ms f

      go : (c : Option Connection) → (f.accesses i).connection ≡ c → slice_get (inbox_of c) 0 ≡ Some item →
          events.take_open P S wire n show i st c ≡ events.answered P S wire n show Done (deeds.outside_input P S wire n show i (input_of wire item) (first_gone at (Outside i) st))
      go None is e = cc
      go (Some k) is e = items k.inbox refl e
        where
          items : (ys : List (Option Bytes)) → k.inbox ≡ ys → slice_get ys 0 ≡ Some item →
              events.take_item P S wire n show i st ys ≡ events.answered P S wire n show Done (deeds.outside_input P S wire n show i (input_of wire item) (first_gone at (Outside i) st))
          items [] inbox e' = cc
          items (y ∷ ys) inbox e' =
              let same : y ≡ item = cc in
              ap (λ (z : Option Bytes). events.take_item P S wire n show i st (z ∷ ys)) same
              ∙ ap (λ (a : Access). events.answered P S wire n show Done (deeds.outside_input P S wire n show i (input_of wire item) (record { state = record st { accesses = set_number i a f.accesses }; deeds = [] }))) (sym dropped)
            where
              access : Option Connection → Access
              access c = record { opened = (f.accesses i).opened; connection = c }

              dropped : on_connection drop_first (f.accesses i) ≡ on_connection (with_inbox ys) (f.accesses i)
              dropped = ap (λ (c : Option Connection). on_connection drop_first (access c)) is ∙ ap (λ (zs : List (Option Bytes)). access (Some (with_inbox (drop 1 zs) k))) inbox
                  ∙ sym (ap (λ (c : Option Connection). on_connection (with_inbox ys) (access c)) is)
  receive_is at (Inner b) item s ms f end of there first =
      ap (λ (c : Bool). cond c (events.carry_first P S wire n show b at st (f.queues b at)) (events.refused P S wire n show NoSuchPeer st)) (adjacency_back at b (adjacencies n) (linked_in n f at b of end.linked)) ∙ items (f.queues b at) refl first
    where
      st : State P S
      st = state_of ms f

      items : (ys : List Bytes) → f.queues b at ≡ ys → option_map Some (slice_get ys 0) ≡ Some item →
          events.carry_first P S wire n show b at st ys ≡ events.answered P S wire n show Done (deeds.inner_input P S wire n show (adjacency b at) at b (input_of wire item) (first_gone at (Inner b) st))
      items [] is e = cc
      items (y ∷ ys) is e =
          let same : Some y ≡ item = cc in
          ap (λ (z : Option Bytes). events.answered P S wire n show Done (deeds.inner_input P S wire n show (adjacency b at) at b (input_of wire z) (record { state = record st { queues = set_pair b at ys f.queues }; deeds = Pops b at ∷ [] }))) same
          ∙ ap (λ (q : List Bytes). events.answered P S wire n show Done (deeds.inner_input P S wire n show (adjacency b at) at b (input_of wire item) (record { state = record st { queues = set_pair b at (drop 1 q) f.queues }; deeds = Pops b at ∷ [] }))) (sym is)

-- what is known when a member is given the first: room was made, what was said is cleared, the first has left
pub record Taking {P : Type 0} {S : Type 0} (n : NetworkParts) (at : As) (to : Peer) (as' : List Action) (next : Session) (ms : Membership P S) (start made f : Flow) : Type 0 where
  pub end : IsEnd n start at to
  pub member : is_member n at ≡ true
  pub steps : Steps at to as' next start
  pub of : IsOf n start
  pub roomy : IsRoomy n ms start
  pub some : 2 ≤ own_most n
  pub grows : OnlyGrows start made
  pub cleared : Flow
  pub clears : ClearsSaid made cleared
  pub drops : DropsFirstAt at to cleared f

pub taking : {P : Type 0} {S : Type 0} (n : NetworkParts) (x : Carried) (at : As) (to : Peer) (as' : List Action) (next : Session) (ms : Membership P S) (made cleared f : Flow) → IsEnd n (flow_of x) at to → is_member n at ≡ true → Steps at to as' next (flow_of x) →
    IsOf n (flow_of x) → IsRoomy n ms (flow_of x) → OnlyGrows (flow_of x) made → ClearsSaid made cleared → DropsFirstAt at to cleared f → Taking n at to as' next ms (flow_of x) made f
taking n x at to as' next ms made cleared f end member steps of roomy grows clears drops = record {
  end = end;
  member = member;
  steps = steps;
  of = of;
  roomy = roomy;
  some = words_there n x at to steps.session end of steps.there;
  grows = grows;
  cleared = cleared;
  clears = clears;
  drops = drops;
}

module _ {P : Type 0} {S : Type 0} (show : S → List Hop) {n : NetworkParts} {at : As} {to : Peer} {as' : List Action} {next : Session} {ms : Membership P S} {start made f : Flow} (x : Taking n at to as' next ms start made f) where
  taken : Gone at to x.cleared f
  taken = gone at to x.cleared f x.drops

  same : x.cleared ≡ record start { said = []; room = x.cleared.room }
  same = cleared_is start made x.cleared x.grows x.clears

  less : NoLess made f
  less = no_less_then made x.cleared f (clear_no_less made x.cleared x.clears) taken.less

  abbrev pub input : Input
  input = input_of wire x.steps.item

  pub end_there : IsEnd n f at to
  end_there = end_after n start f at to (taken.adjacencies ∙ ap (λ (y : Flow). y.adjacencies) same) x.end

  of_there : IsOf n f
  of_there = record { adjacencies_are = taken.adjacencies ∙ ap (λ (y : Flow). y.adjacencies) same ∙ x.of.adjacencies_are; peers_are = taken.peers ∙ ap (λ (y : Flow). y.peers) same ∙ x.of.peers_are }

  pub session_there : session_at at to f ≡ Some x.steps.session
  session_there = taken.session ∙ session_before at to start made x.cleared x.grows x.clears ∙ x.steps.there

  pub sets_there : MaySet at to next f
  sets_there = may_set n f at to input x.steps.session next end_there session_there x.steps.becomes

  pub received : {n' : NetworkParts} {ms' : Membership P S} {lost lost' : As → List Lost} {f' : Flow} (u : Unit {0}) → Goes (λ k. input_at P S k show at to input) (here_of n ms lost f) (here_of n' ms' lost' f') → ((a : As) → lost a ≡ []) → IsRoomy n ms' f' →
      Receives show at to (Ok u) (here_of n ms lost start) (here_of n' ms' lost' f')
  received {n' = n'} {ms' = ms'} {lost = lost} {lost' = lost'} {f' = f'} u goes none roomy =
      let going = first_gone show n at to (state_of ms start) in
      let ended : IsAt (input_at P S n show at to input going) ms' f' = goes.goes going (first_leaves show n at to ms start made x.cleared f x.grows x.clears x.drops) in
      done_moves show (λ k s. receive_at P S k show at to s) (here_of n ms lost start) (here_of n' ms' lost' f') goes.network
      (record { adjacencies_are = goes.adjacencies ∙ of_there.adjacencies_are; peers_are = goes.peers ∙ of_there.peers_are }) (goes.lost none) roomy (λ s. true) Done
      (subst (λ (h : Happened P S). IsDone h (Ok Done) ms' f') (sym (receive_is show n at to x.steps.item x.steps.session ms start x.end x.of x.steps.there x.steps.first)) (record { answer = refl; state = ended.state; said = ended.said }))

  -- ---- nothing is passed on

  module _ (turn : IsOwnTurn as') (word : KeepsWord at to ms made) where
    turn_there : IsOwnTurn (turn_of x.steps.session input).actions
    turn_there = subst IsOwnTurn x.steps.asks turn

    keeps_there : KeepsOn (own_most n) n ms f
    keeps_there = less_keeps n (own_most n) ms x.cleared f taken.less taken.said taken.room taken.talking (begins_keeps n ms made x.cleared x.clears (roomy_grown n ms start made x.grows x.roomy))

    pub acted_fits : FitsTurn at to as' ms f
    acted_fits = subst (λ (l : List Action). FitsTurn at to l ms f) (sym x.steps.asks) (fits_at n (own_most n) at to input x.steps.session ms f end_there x.member of_there session_there x.some keeps_there turn_there)

    pub acted_roomy : {n' : NetworkParts} {ms' : Membership P S} {lost lost' : As → List Lost} {f' : Flow} → Goes (λ k. input_at P S k show at to input) (here_of n ms lost f) (here_of n' ms' lost' f') → IsRoomy n ms' f'
    acted_roomy {n' = n'} {ms' = ms'} {lost = lost} {lost' = lost'} {f' = f'} goes =
        ends_roomy n 0 ms' f'
        (input_keeps show n 0 (own_most n) at to input x.steps.session (first_gone show n at to (state_of ms start)) n' ms ms' lost lost' f f' x.some end_there x.member of_there session_there turn_there
        (λ o one. inl (word_less n at to ms made f less word)) goes (first_leaves show n at to ms start made x.cleared f x.grows x.clears x.drops) keeps_there)

-- ---- a message is passed on, and nothing else is done

module _ {P : Type 0} {S : Type 0} (show : S → List Hop) {n : NetworkParts} {at : As} {to : Peer} {m heeded : Message} {next : Session} {ms mid : Membership P S} {letters : List Sent} {start made f : Flow} (x : Taking n at to (Pass m ∷ []) next ms start made f)
    (heeds : heeded ≡ heard_from to (ms.elements at).pending.rows m) (is_given : IsGiven n show at to start.clock heeded ms mid letters) where
  stays : (is_down x.steps.session.phase ≡ false) × (is_down next.phase ≡ false)
  stays =
      let s = x.steps.session in
      let input' = input_of wire x.steps.item in
      pass_stays s next input' m
      (ap (λ (l : List Action). let t : SessionStep = record { actions = l; next = (turn_of s input').next } in t) (sym x.steps.asks) ∙ ap (λ (q : Session). let t : SessionStep = record { actions = Pass m ∷ []; next = q } in t) (sym x.steps.becomes))

  pub passing : RoomToGive n at to (asked_in heeded) letters ms made → Passing n at to (asked_in heeded) letters ms mid start made (set_session_at at to next f)
  passing room =
      let left = taken show x in
      let kept = session_keeps at to next f in
      let before = same show x in
      record {
        roomy = x.roomy;
        own = own_is n start made x.of x.grows;
        grows = x.grows;
        room = room;
        from = from_is show n at to heeded ms mid letters start.clock is_given;
        no_less = no_less_then made f (set_session_at at to next f) (less show x) (session_no_less at to next f);
        said = subst (Grows made.room.said) (sym (kept.1 ∙ left.room)) (clear_said_grows made x.cleared x.clears);
        none = kept.0 ∙ left.said ∙ ap (λ (y : Flow). y.said) before;
        talking = λ j. session_talks at to x.steps.session next f (session_there show x) (stays.1 ∙ sym stays.0) j ∙ left.talking j ∙ ap (λ (y : Flow). is_talking (y.accesses j).connection) before;
        live = live_at n start at to x.steps.session x.end x.of x.steps.there stays.0;
        owed_more = owed_is show n at to heeded ms mid letters start.clock is_given;
        pending_more = pending_is show n at to heeded ms mid letters start.clock is_given;
      }

  calm : (p : Peer) → breaks_by p (Pass m ∷ []) ≡ false
  calm (Outside i) = refl
  calm (Inner b) = refl

  pub passed_goes : (n1 n2 : NetworkParts) (ms1 ms2 : Membership P S) (lost lost1 lost2 : As → List Lost) (f4 f5 : Flow) → n1 ≡ n → ms1 ≡ ms → lost1 ≡ lost → f4 ≡ set_session_at at to next f →
      (IsGiven n1 show at to f4.clock heeded ms1 mid letters → Goes (λ k. deeds.give P S wire k show at to heeded) (here_of n1 ms1 lost1 f4) (here_of n2 ms2 lost2 f5)) →
      Goes (λ k. input_at P S k show at to (input_of wire x.steps.item)) (here_of n ms lost f) (here_of n2 ms2 lost2 f5)
  passed_goes n1 n2 ms1 ms2 lost lost1 lost2 f4 f5 same_n same_ms same_lost f4_is goes_if =
      let after = here_of n2 ms2 lost2 f5 in
      let gives = λ (k : NetworkParts). deeds.give P S wire k show at to heeded in
      let clock : f4.clock ≡ start.clock = ap (λ (y : Flow). y.clock) f4_is ∙ (session_keeps at to next f).2 ∙ (taken show x).clock ∙ ap (λ (y : Flow). y.clock) (same show x) in
      let goes = goes_if
      (subst (λ (k : NetworkParts). IsGiven k show at to f4.clock heeded ms1 mid letters) (sym same_n)
      (subst (λ (y : Membership P S). IsGiven n show at to f4.clock heeded y mid letters) (sym same_ms) (subst (λ (t : ℕ). IsGiven n show at to t heeded ms mid letters) (sym clock) is_given))) in
      let heard_there : (g : Going P S) → IsAt g ms f4 → heard_from to (ms.elements at).pending.rows m ≡ heard_from to (g.state.elements at).pending.rows m =
      λ g is. ap (λ (y : State P S). heard_from to (y.elements at).pending.rows m) is.state in
      let here_goes : Goes gives (here_of n ms lost f4) after =
      subst (λ (l : As → List Lost). Goes gives (here_of n ms l f4) after) same_lost (subst (λ (y : Membership P S). Goes gives (here_of n y lost1 f4) after) same_ms (subst (λ (k : NetworkParts). Goes gives (here_of k ms1 lost1 f4) after) same_n goes)) in
      input_stays show n ms lost (input_of wire x.steps.item) f at to x.steps.session next false (Pass m ∷ []) f4 after (end_there show x) (session_there show x)
      x.steps.asks x.steps.becomes (no_tick x.steps.item) (calm to) f4_is (goes_as gives (λ k. acts_at P S k show at to false (Pass m ∷ [])) (here_of n ms lost f4) after (λ g is. ap (λ (y : Message). deeds.give P S wire n show at to y g) (heeds ∙ heard_there g is)) here_goes)
