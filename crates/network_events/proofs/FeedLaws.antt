-- A feed and a drain: what they are in the model, and the room that is kept.
use Rattle.std.proofs.Common.{◌≡◌, ◌∙◌, ℕ, Option, Some, None, Result, Ok, Err, List, [], inl, inr, refl, sym, ap, subst, arith, ◌==◌, Bool, true, false, not}
use Rattle.pce_common.specs.plant_model.Types.{As, Peer, Outside, Inner, Hop, NetworkParts}
use Rattle.network_links.specs.Ends.{fed_while_up}
use Rattle.network_links.specs.Rooms.{Frees, Grows, queue}
use Rattle.pce_common.specs.plant_model.declared.outcome.Outcome.TheVariants.{Done, Drained}
use Rattle.pce_common.specs.plant_model.declared.outcome.Refused.{Refused}
use Rattle.pce_common.specs.plant_model.declared.outcome.Refused.TheVariants.{NoSuchPeer, NotHolder, NoMemory}
use Rattle.pce_common.specs.plant_model.Names.{set_number}
use Rattle.pce_common.specs.plant_model.Wire.{Bytes}
use Rattle.pce_common.specs.plant_model.State.{Connection}
use Rattle.pce_common.specs.plant_model.Events as events
use Rattle.pce_common.specs.plant_model.Events.{Answered, Happened, drained, takes_feed}
use Rattle.pce_common.specs.plant_model.RealWire.{wire}
use Rattle.network_links.specs.declared.peers.Drained.{Drained as Handed}
use Rattle.network_links.specs.Flow.{Flow, Room, ClearsSaid, change_access, room_at}
use Rattle.network_links.specs.Happenings.{FeedsIn, FeedsConnectionIn, DrainsIn, DrainsConnectionIn, DrainsHeldIn, done_of, drained_of, hands_of}
use Rattle.network_links.proofs.HappenLemmas.{feed_happens, drain_happens}
use Rattle.pce_common.specs.Membership.{Membership}
use Rattle.network_events.specs.Giving.{OnlyGrows}
use Rattle.network_events.specs.Happening.{IsDone, IsDoneOrLacks}
use Rattle.network_events.specs.Rooms.{IsRoomy, emptied, own_most}
use Rattle.network_events.specs.Roomy.{KeepsOn}
use Rattle.network_events.specs.Standing.{state_of}
use Rattle.network_events.proofs.PassRoom.{roomy_grown}
use Rattle.network_events.proofs.RoomySteps.{emptied_keeps, ends_roomy}
use Rattle.network_events.proofs.RoomyOpens.{feed_keeps, drain_keeps}

-- ---- an event that clears what was said before

pub cleared_grows : (f f' : Flow) → ClearsSaid f f' → OnlyGrows (emptied f) f'
cleared_grows f f' clears = record {
  same = clears.kept ∙ ap (λ (r : Room). record f { said = []; room = r }) (sym (ap (λ (g : Flow). g.room) clears.kept));
  there = λ at to. subst (λ (g : Flow). Grows (room_at at to (emptied f)) (room_at at to g)) (sym clears.kept) (go at to);
  said = record { messages = omega (arith, clears.room.messages); bytes = omega (arith, clears.room.bytes) };
}
  where
    go : (at : As) (to : Peer) → Grows (room_at at to (emptied f)) (room_at at to (record f { said = []; room = record f.room { said = f'.room.said } }))
    go at (Outside i) = record { messages = omega arith; bytes = omega arith }
    go at (Inner b) = record { messages = omega arith; bytes = omega arith }

pub cleared_roomy : {P : Type 0} {S : Type 0} (n : NetworkParts) (ms : Membership P S) (f f' : Flow) → ClearsSaid f f' → KeepsOn (own_most n) n ms (emptied f) → IsRoomy n ms f'
cleared_roomy n ms f f' clears keeps = roomy_grown n ms (emptied f) f' (cleared_grows f f' clears) (ends_roomy n (own_most n) ms (emptied f) keeps)

-- ---- what calls of the traffic say where they are accepted, and where they are refused

pub feeds_ok : (i : ℕ) (piece : Bytes) (old new : Flow) → FeedsIn i piece old (Ok tt) new → new ≡ change_access i (fed_while_up piece) old
feeds_ok i piece old new feeds = go (old.accesses i).connection feeds
  where
    go : (o : Option Connection) → FeedsConnectionIn i piece o old (Ok tt) new → new ≡ change_access i (fed_while_up piece) old
    go None h = absurd (let both : Ok tt ≡ Err NoSuchPeer = h.0 in cc)
    go (Some x) h = h.ok

pub feeds_err : (i : ℕ) (piece : Bytes) (old new : Flow) (why : Refused) → FeedsIn i piece old (Err why) new → new ≡ old
feeds_err i piece old new why feeds = go (old.accesses i).connection feeds
  where
    go : (o : Option Connection) → FeedsConnectionIn i piece o old (Err why) new → new ≡ old
    go None h = h.1
    go (Some x) h = h.err.1

-- memory runs out only where something is taken
pub feeds_lack : (i : ℕ) (piece : Bytes) (old new : Flow) (why : Refused) → FeedsIn i piece old (Err why) new → why ≡ NoMemory → takes_feed (old.accesses i).connection ≡ true
feeds_lack i piece old new why feeds lacks = go (old.accesses i).connection feeds
  where
    go : (o : Option Connection) → FeedsConnectionIn i piece o old (Err why) new → takes_feed o ≡ true
    go None h = absurd (let both : Err NoSuchPeer ≡ Err NoMemory = sym h.0 ∙ ap (λ (w : Refused). let r : Result (Unit {0}) Refused = Err w in r) lacks in cc)
    go (Some x) h = ap not h.over

-- an accepted drain
pub record Drains (i : ℕ) (old new : Flow) : Type 0 where
  pub connection : Connection
  pub is_open : (old.accesses i).connection ≡ Some connection
  pub is : new ≡ record (change_access i drained old) { room = record old.room { outside = set_number i (new.room.outside i) old.room.outside } }
  pub frees : Frees (queue connection.out (old.room.outside i)) (queue [] (new.room.outside i))

pub drains_ok : (i holder : ℕ) (old new : Flow) (d : Handed) → DrainsIn i holder old (Ok d) new → Drains i old new
drains_ok i holder old new d drains = go (old.accesses i).connection refl drains
  where
    by_holder : (x : Connection) → (old.accesses i).connection ≡ Some x → (b : Bool) → DrainsHeldIn i b x old (Ok d) new → Drains i old new
    by_holder x is false h = absurd (let both : Ok d ≡ Err (NotHolder x.holder) = h.0 in cc)
    by_holder x is true h = record { connection = x; is_open = is; is = h.ok; frees = h.room }

    go : (o : Option Connection) → (old.accesses i).connection ≡ o → DrainsConnectionIn i holder o old (Ok d) new → Drains i old new
    go None is h = absurd (let both : Ok d ≡ Err NoSuchPeer = h.0 in cc)
    go (Some x) is h = by_holder x is (x.holder == holder) h

pub drains_err : (i holder : ℕ) (old new : Flow) (why : Refused) → DrainsIn i holder old (Err why) new → new ≡ old
drains_err i holder old new why drains = go (old.accesses i).connection drains
  where
    by_holder : (x : Connection) (b : Bool) → DrainsHeldIn i b x old (Err why) new → new ≡ old
    by_holder x false h = h.1
    by_holder x true h = h.err.1

    go : (o : Option Connection) → DrainsConnectionIn i holder o old (Err why) new → new ≡ old
    go None h = h.1
    go (Some x) h = by_holder x (x.holder == holder) h

module _ {P : Type 0} {S : Type 0} (show : S → List Hop) (n : NetworkParts) (ms : Membership P S) where
  pub feed_roomy : (i : ℕ) (piece : Bytes) (f f1 f2 : Flow) → f1 ≡ change_access i (fed_while_up piece) f → ClearsSaid f1 f2 → IsRoomy n ms f → IsRoomy n ms f2
  feed_roomy i piece f f1 f2 is clears roomy =
      let keeps = feed_keeps show n (own_most n) i piece ms (emptied f) (emptied_keeps n ms f roomy) in
      cleared_roomy n ms f1 f2 clears (subst (λ (g : Flow). KeepsOn (own_most n) n ms (emptied g)) (sym is) keeps)

  pub drain_roomy : (i : ℕ) (f f1 f2 : Flow) → Drains i f f1 → ClearsSaid f1 f2 → IsRoomy n ms f → IsRoomy n ms f2
  drain_roomy i f f1 f2 drains clears roomy =
      cleared_roomy n ms f1 f2 clears (drain_keeps show n (own_most n) i drains.connection ms (emptied f) (emptied f1) drains.is_open (ap emptied drains.is) drains.frees (emptied_keeps n ms f roomy))

  -- ---- what they are in the model

  done_by : (h h' : Happened P S) (told : Answered) (f : Flow) → h ≡ h' → IsDone h' told ms f → IsDone h told ms f
  done_by h h' told f is done = subst (λ (x : Happened P S). IsDone x told ms f) (sym is) done

  pub feed_done : (i : ℕ) (piece : Bytes) (f f1 f2 : Flow) → FeedsIn i piece f (Ok tt) f1 → ClearsSaid f1 f2 → IsDoneOrLacks (events.feed P S wire n show i piece (state_of ms f)) (Ok Done) ms f2
  feed_done i piece f f1 f2 feeds clears = elim (feed_happens P S n show i piece f f1 (state_of ms f) (Ok tt) feeds) [
    | inl is ↦ inl (done_by (events.feed P S wire n show i piece (state_of ms f)) (record { answer = Ok Done; state = state_of ms f1; deeds = [] }) (Ok Done) f2 is (record { answer = refl; state = ap (state_of ms) clears.kept; said = ap (λ (g : Flow). g.said) clears.kept }))
    | inr lacks ↦ absurd (let both : Ok tt ≡ Err NoMemory = lacks.1 in cc)
  ]

  pub feed_refused : (i : ℕ) (piece : Bytes) (f f1 : Flow) (why : Refused) → FeedsIn i piece f (Err why) f1 → IsDoneOrLacks (events.feed P S wire n show i piece (state_of ms f)) (Err why) ms f1
  feed_refused i piece f f1 why feeds = elim (feed_happens P S n show i piece f f1 (state_of ms f) (Err why) feeds) [
    | inl is ↦ inl (done_by (events.feed P S wire n show i piece (state_of ms f)) (record { answer = Err why; state = state_of ms f1; deeds = [] }) (Err why) f1 is (record { answer = refl; state = refl; said = tt }))
    | inr lacks ↦ inr (ap (λ (r : Result (Unit {0}) Refused). done_of r) lacks.1)
  ]

  pub drain_done : (i holder : ℕ) (f f1 f2 : Flow) (d : Handed) → DrainsIn i holder f (Ok d) f1 → ClearsSaid f1 f2 → IsDoneOrLacks (events.drain P S wire n show i holder (state_of ms f)) (Ok (Drained d.bytes d.ended)) ms f2
  drain_done i holder f f1 f2 d drains clears = elim (drain_happens P S wire n show i holder f f1 (state_of ms f) (Ok d) drains) [
    | inl is ↦ inl (done_by (events.drain P S wire n show i holder (state_of ms f)) (record { answer = Ok (Drained d.bytes d.ended); state = state_of ms f1; deeds = hands_of i (Ok d) }) (Ok (Drained d.bytes d.ended)) f2 is (record { answer = refl; state = ap (state_of ms) clears.kept; said = ap (λ (g : Flow). g.said) clears.kept }))
    | inr lacks ↦ absurd (let both : Ok d ≡ Err NoMemory = lacks.0 in cc)
  ]

  pub drain_refused : (i holder : ℕ) (f f1 : Flow) (why : Refused) → DrainsIn i holder f (Err why) f1 → IsDoneOrLacks (events.drain P S wire n show i holder (state_of ms f)) (Err why) ms f1
  drain_refused i holder f f1 why drains = elim (drain_happens P S wire n show i holder f f1 (state_of ms f) (Err why) drains) [
    | inl is ↦ inl (done_by (events.drain P S wire n show i holder (state_of ms f)) (record { answer = Err why; state = state_of ms f1; deeds = [] }) (Err why) f1 is (record { answer = refl; state = refl; said = tt }))
    | inr lacks ↦ inr (ap (λ (r : Result Handed Refused). drained_of r) lacks.0)
  ]
