-- What an end of a link that begins, and a link that is cleared, are in the model.
use Rattle.std.proofs.Common.{◌≡◌, ◌≤◌, ℕ, ◌+◌, Bool, true, false, cond, List, [], length, refl, ap, subst, ◌∙◌, arith}
use Rattle.pce_common.specs.plant_model.Types.{As, Peer, Outside, Inner, Hop, State as Session, NetworkParts}
use Rattle.pcep_session.specs.declared.actions.Own.TheVariants as own
use Rattle.pcep_session.specs.declared.session.Input.TheVariants as input
use Rattle.pcep_session.specs.Table.{new_state, turn_of}
use Rattle.plant_queues.specs.Messages.{Spare, total}
use Rattle.plant_queues.specs.Sents.{size_of}
use Rattle.plant_text.specs.Names.{same_as}
use Rattle.pce_common.specs.plant_model.declared.output.Lost.{Lost}
use Rattle.pce_common.specs.plant_model.Names.{set_pair}
use Rattle.pce_common.specs.plant_model.Wire.{Bytes}
use Rattle.pce_common.specs.plant_model.RealWire.{wire}
use Rattle.pce_common.specs.plant_model.State.{State, said}
use Rattle.pce_common.specs.plant_model.Deeds as deeds
use Rattle.pce_common.specs.plant_model.Deeds.{our_offer}
use Rattle.network_links.specs.Ends.{own_bytes}
use Rattle.network_links.specs.Rooms.{room_in_all}
use Rattle.network_links.specs.Flow.{Flow, Begins, Clears, Puts, set_session, room_at, queue_at}
use Rattle.network_events.specs.Accounts.{Accounts, count_into, bytes_into, queue_in, has_queue}
use Rattle.pce_common.specs.Membership.{Membership}
use Rattle.network_events.specs.Standing.{IsAt, here_of, Goes, state_of}
use Rattle.network_events.proofs.GoLaws.{goes_then, goes_say, as_is, said_none}

-- the same queues, and the same room
pub accounts_like : (f f' : Flow) → ((a : As) (q : Peer) → room_at a q f' ≡ room_at a q f) → ((a : As) (q : Peer) → queue_at a q f' ≡ queue_at a q f) → ((q : Peer) → has_queue q f' ≡ has_queue q f) →
    f'.said ≡ f.said → f'.room.said ≡ f.room.said → Accounts f f'
accounts_like f f' rooms queues open' said room = record {
  messages = λ a q. omega (arith, ap (λ (s : Spare). s.messages) (rooms a q), ap (count_into a q) said);
  bytes = λ a q. omega (arith, ap (λ (s : Spare). s.bytes) (rooms a q), ap (bytes_into a q) said);
  there = λ q is. open' q ∙ is;
  messages_in_all = λ a q is. omega (arith, ap (λ (s : Spare). s.messages) (rooms a q), ap length (queues a q));
  bytes_in_all = λ a q is. omega (arith, ap (λ (s : Spare). s.bytes) (rooms a q), ap (total (λ (m : Bytes). length m)) (queues a q));
  said = omega (arith, ap (λ (s : Spare). s.messages) room, ap length said);
  said_bytes = omega (arith, ap (λ (s : Spare). s.bytes) room, ap (total size_of) said);
}

session_accounts : (at b : As) (s : Session) (f : Flow) → Accounts f (set_session at b s f)
session_accounts at b s f = accounts_like f (set_session at b s f) rooms queues open' refl refl
  where
    rooms : (a : As) (q : Peer) → room_at a q (set_session at b s f) ≡ room_at a q f
    rooms a (Outside i) = refl
    rooms a (Inner c) = refl

    queues : (a : As) (q : Peer) → queue_at a q (set_session at b s f) ≡ queue_at a q f
    queues a (Outside i) = refl
    queues a (Inner c) = refl

    open' : (q : Peer) → has_queue q (set_session at b s f) ≡ has_queue q f
    open' (Outside i) = refl
    open' (Inner c) = refl

-- what stands between two ends after a link is cleared
record ClearCase (x y : As) (old new : Flow) : Type 0 where
  messages : (old.room.inner x y).messages ≤ (new.room.inner x y).messages
  bytes : (old.room.inner x y).bytes ≤ (new.room.inner x y).bytes
  messages_in_all : (old.room.inner x y).messages + length (old.queues x y) ≤ (new.room.inner x y).messages + length (new.queues x y)
  bytes_in_all : (old.room.inner x y).bytes + total (λ (m : Bytes). length m) (old.queues x y) ≤ (new.room.inner x y).bytes + total (λ (m : Bytes). length m) (new.queues x y)

clear_case : (a b : As) (old new : Flow) → Clears a b old new → (x y : As) → ClearCase x y old new
clear_case a b old new clears x y =
    go (same_as a x) (same_as b y) (same_as b x) (same_as a y) (λ e. as_is a x e) (λ e. as_is b y e) (λ e. as_is b x e) (λ e. as_is a y e)
    (ap (λ (f : Flow). f.room.inner x y) clears.kept) (ap (λ (f : Flow). f.queues x y) clears.kept)
  where
    same : new.room.inner x y ≡ old.room.inner x y → new.queues x y ≡ old.queues x y → ClearCase x y old new
    same room is = record {
      messages = omega (arith, ap (λ (t : Spare). t.messages) room);
      bytes = omega (arith, ap (λ (t : Spare). t.bytes) room);
      messages_in_all = omega (arith, ap (λ (t : Spare). t.messages) room, ap length is);
      bytes_in_all = omega (arith, ap (λ (t : Spare). t.bytes) room, ap (total (λ (m : Bytes). length m)) is);
    }

    first : a ≡ x → b ≡ y → new.queues x y ≡ [] → ClearCase x y old new
    first ax by is =
        subst (λ (z : As). ClearCase z y old new) ax (subst (λ (z : As). ClearCase a z old new) by (record {
          messages = omega (arith, clears.here.messages);
          bytes = omega (arith, clears.here.bytes);
          messages_in_all = omega (arith, clears.here.messages);
          bytes_in_all = omega (arith, clears.here.bytes);
        }))

    second : b ≡ x → a ≡ y → new.queues x y ≡ [] → ClearCase x y old new
    second bx ay is =
        subst (λ (z : As). ClearCase z y old new) bx (subst (λ (z : As). ClearCase b z old new) ay (record {
          messages = omega (arith, clears.there.messages);
          bytes = omega (arith, clears.there.bytes);
          messages_in_all = omega (arith, clears.there.messages);
          bytes_in_all = omega (arith, clears.there.bytes);
        }))

    go : (p q r s : Bool) → (p ≡ true → a ≡ x) → (q ≡ true → b ≡ y) → (r ≡ true → b ≡ x) → (s ≡ true → a ≡ y) →
        new.room.inner x y ≡ cond p (cond q (new.room.inner a b) (cond r (cond s (new.room.inner b a) (old.room.inner x y)) (old.room.inner x y))) (cond r (cond s (new.room.inner b a) (old.room.inner x y)) (old.room.inner x y)) →
        new.queues x y ≡ cond p (cond q [] (cond r (cond s [] (old.queues x y)) (old.queues x y))) (cond r (cond s [] (old.queues x y)) (old.queues x y)) →
        ClearCase x y old new
    go true true r s ax by bx ay room is = first (ax refl) (by refl) is
    go true false true true ax by bx ay room is = second (bx refl) (ay refl) is
    go true false true false ax by bx ay room is = same room is
    go true false false s ax by bx ay room is = same room is
    go false q true true ax by bx ay room is = second (bx refl) (ay refl) is
    go false q true false ax by bx ay room is = same room is
    go false q false s ax by bx ay room is = same room is

clears_accounts : (a b : As) (old new : Flow) → Clears a b old new → Accounts old new
clears_accounts a b old new clears = record {
  messages = messages;
  bytes = bytes;
  there = there;
  messages_in_all = messages_in_all;
  bytes_in_all = bytes_in_all;
  said = omega (arith, ap length said_is, ap (λ (f : Flow). f.room.said.messages) clears.kept);
  said_bytes = omega (arith, ap (total size_of) said_is, ap (λ (f : Flow). f.room.said.bytes) clears.kept);
}
  where
    said_is : new.said ≡ old.said
    said_is = ap (λ (f : Flow). f.said) clears.kept

    outside : (i : ℕ) → new.room.outside i ≡ old.room.outside i
    outside i = ap (λ (f : Flow). f.room.outside i) clears.kept

    outs : (x : As) (i : ℕ) → queue_at x (Outside i) new ≡ queue_at x (Outside i) old
    outs x i = ap (queue_at x (Outside i)) clears.kept

    there : (q : Peer) → has_queue q old ≡ true → has_queue q new ≡ true
    there (Outside i) is = ap (has_queue (Outside i)) clears.kept ∙ is
    there (Inner y) is = refl

    messages : (x : As) (q : Peer) → (room_at x q old).messages + count_into x q old.said ≤ (room_at x q new).messages + count_into x q new.said
    messages x (Outside i) = omega (arith, ap (λ (s : Spare). s.messages) (outside i), ap (count_into x (Outside i)) said_is)
    messages x (Inner y) = let case = clear_case a b old new clears x y in omega (arith, case.messages, ap (count_into x (Inner y)) said_is)

    bytes : (x : As) (q : Peer) → (room_at x q old).bytes + bytes_into x q old.said ≤ (room_at x q new).bytes + bytes_into x q new.said
    bytes x (Outside i) = omega (arith, ap (λ (s : Spare). s.bytes) (outside i), ap (bytes_into x (Outside i)) said_is)
    bytes x (Inner y) = let case = clear_case a b old new clears x y in omega (arith, case.bytes, ap (bytes_into x (Inner y)) said_is)

    messages_in_all : (x : As) (q : Peer) → has_queue q old ≡ true → (room_in_all (queue_in x q old)).messages ≤ (room_in_all (queue_in x q new)).messages
    messages_in_all x (Outside i) is = omega (arith, ap (λ (s : Spare). s.messages) (outside i), ap length (outs x i))
    messages_in_all x (Inner y) is = let case = clear_case a b old new clears x y in omega (arith, case.messages_in_all)

    bytes_in_all : (x : As) (q : Peer) → has_queue q old ≡ true → (room_in_all (queue_in x q old)).bytes ≤ (room_in_all (queue_in x q new)).bytes
    bytes_in_all x (Outside i) is = omega (arith, ap (λ (s : Spare). s.bytes) (outside i), ap (total (λ (m : Bytes). length m)) (outs x i))
    bytes_in_all x (Inner y) is = let case = clear_case a b old new clears x y in omega (arith, case.bytes_in_all)

begins_puts : (at b : As) (sid : ℕ) (f f' : Flow) → Begins at b sid f f' →
    Puts at (Inner b) (own_bytes (own.Open (our_offer sid))) (set_session at b (turn_of (new_state (our_offer sid) (record { 0 = f.clock })) input.Begin).next f) f'
begins_puts at b sid f f' begins = record { kept = begins.kept; room = record { there = begins.room.there; said = begins.room.said; elsewhere = begins.room.elsewhere } }

module _ {P : Type 0} {S : Type 0} (show : S → List Hop) (n : NetworkParts) (ms : Membership P S) (lost : As → List Lost) where
  pub goes_session : (at b : As) (s : Session) (f : Flow) →
      Goes (λ k g. record { state = deeds.with_inner P S wire k show at b s g.state; deeds = g.deeds }) (here_of n ms lost f) (here_of n ms lost (set_session at b s f))
  goes_session at b s f = record {
    network = refl;
    lost = λ none. none;
    adjacencies = refl;
    peers = refl;
    room = session_accounts at b s f;
    goes = λ g is. record { state = ap (deeds.with_inner P S wire n show at b s) is.state; said = is.said };
  }

  -- an end of a link is made anew and begun
  pub goes_begin : (at b : As) (sid : ℕ) (f f' : Flow) → Begins at b sid f f' → Goes (λ k. deeds.begin_end P S wire k show sid at b) (here_of n ms lost f) (here_of n ms lost f')
  goes_begin at b sid f f' begins =
      let next = (turn_of (new_state (our_offer sid) (record { 0 = f.clock })) input.Begin).next in
      let says = goes_say show n ms lost at (Inner b) (own.Open (our_offer sid)) (set_session at b next f) f' (begins_puts at b sid f f' begins) in
      let all = goes_then _ _ (here_of n ms lost f) (here_of n ms lost (set_session at b next f)) (here_of n ms lost f') (goes_session at b next f) says in
      record {
        network = refl;
        lost = λ none. none;
        adjacencies = all.adjacencies;
        peers = all.peers;
        room = all.room;
        goes = λ g is. subst (λ (now : ℕ). IsAt (deeds.say P S wire n show at (Inner b) (own.Open (our_offer sid)) (record { state = deeds.with_inner P S wire n show at b (turn_of (new_state (our_offer sid) (record { 0 = now })) input.Begin).next g.state; deeds = g.deeds })) ms f')
            (ap (λ (s : State P S). s.clock) is.state) (all.goes g is);
      }

  -- both queues of a link are emptied
  pub goes_clear : (a b : As) (f f' : Flow) → Clears a b f f' → Goes (λ k. deeds.clear P S wire k show (record { lower = a; upper = b })) (here_of n ms lost f) (here_of n ms lost f')
  goes_clear a b f f' clears = record {
    network = refl;
    lost = λ none. none;
    adjacencies = ap (λ (x : Flow). x.adjacencies) clears.kept;
    peers = ap (λ (x : Flow). x.peers) clears.kept;
    room = clears_accounts a b f f' clears;
    goes = λ g is. record {
      state = ap (state_of ms) clears.kept ∙ ap (λ (s : State P S). record s { queues = set_pair a b [] (set_pair b a [] s.queues) }) is.state;
      said = ap (λ (x : Flow). x.said) clears.kept ∙ is.said ∙ said_none (said wire g.deeds) [] refl;
    };
  }
