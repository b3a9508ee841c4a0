-- What is on its way, where the outside peers, the links or what is said change.
use Rattle.std.proofs.Common.{◌≡◌, ◌==◌, ℕ, Bool, true, false, cond, Option, Some, None, List, [], ◌∷◌, ◌++◌, Result, Ok, Err, OnOk, OnErr, drop, refl, sym, ◌∙◌, ap, subst}
use Rattle.plant_model.specs.Types.{As, NoMemory, State as Session, Sent, Outside, Inner}
use Rattle.pcep_session.specs.declared.actions.Own.TheVariants.{Open}
use Rattle.plant_queues.specs.Messages.{Queued, Spare}
use Rattle.plant_queues.specs.Sents.{sent_of}
use Rattle.plant_text.specs.Names.{same_as}
use Rattle.plant_model.specs.Names.{set_pair, set_number}
use Rattle.plant_model.specs.Wire.{Bytes}
use Rattle.plant_model.specs.State as model
use Rattle.plant_model.specs.Deeds.{on_connection, our_offer, with_more}
use Rattle.plant_model.specs.Events.{drained}
use Rattle.network_links.specs.Ends.{Sender, begun, fed_while_up, own_bytes, with_kept}
use Rattle.network_links.specs.Rooms.{Spends, Frees, queue}
use Rattle.network_links.specs.Flow.{Flow, Room, SameFlow, set_queue, set_session, set_room, change_access, put_at, put_flow, SpendsAt, Puts, Begins, DropsFirst, Clears, GrowsAt, KeepsRoomAt, Connects, just_opened}
use Rattle.network_links.specs.Sides as sides
use Rattle.network_links.specs.Sides.{Side, Row, set_side, SideChanges, BothSidesChange}
use Rattle.network_links.specs.Accesses.{ConnectsGuest, DrainsConnection, DrainsGuest, DrainsHeld, FeedsConnection, FeedsGuest, Goes, GrowsGuest, SendsGuest}
use Rattle.network_links.specs.Peers.{Changes, Guests, guest_at}
use Rattle.network_links.specs.Happenings.{FeedsIn, FeedsConnectionIn, DrainsIn, DrainsConnectionIn, DrainsHeldIn}
use Rattle.network_links.specs.declared.peers.Drained.{Drained}
use Rattle.plant_model.specs.declared.outcome.Refused.{Refused}
use Rattle.network_links.specs.Carried.{CarriedView, flow_in}
use Rattle.network_links.proofs.PeerLemmas.{gets, goes, keeps, stays}
use Rattle.network_links.proofs.SideLemmas.{one_as}
use Rattle.network_links.proofs.RowLemmas.{pair_field, pair_same}

-- what holds where a call did what it was asked
pub on_ok : {A : Type 0} {E : Type 0} {P : Type 0} {Q : Type 0} → (r : Result A E) → (P → Q) → OnOk r P → OnOk r Q
on_ok (Ok a) f p = f p
on_ok (Err e) f p = p

pub on_err : {A : Type 0} {E : Type 0} {P : Type 0} {Q : Type 0} → (r : Result A E) → (P → Q) → OnErr r P → OnErr r Q
on_err (Ok a) f p = p
on_err (Err e) f p = f p

-- the room is that of the one that is the same
pub own_room : (new old : Flow) (room : Room) → new ≡ record old { room = room } → SameFlow old new
own_room new old room is = is ∙ ap (λ (r : Room). let f : Flow = record old { room = r } in f) (sym (ap (λ (f : Flow). f.room) is))

-- ---- links

module _ (a : CarriedView) (at b : As) (r : Row) where
  abbrev here : Side
  here = r.sides at b

  abbrev was : Side
  was = a.links.sides at b

  abbrev old : Flow
  old = flow_in a

  -- a flow with these sessions, queues and rooms of links
  abbrev with_links : (As → As → Session) → (As → As → List Bytes) → (As → As → Spare) → Flow
  with_links sessions queues inner = record old { sessions = sessions; queues = queues; room = record old.room { inner = inner } }

  -- what one end sends is another
  row_flow : (s : Side) → r ≡ set_side at b s a.links →
      flow_in (record a { links = r }) ≡ with_links (set_pair at b s.kept.session old.sessions) (set_pair at b s.kept.out old.queues) (set_pair at b s.spare old.room.inner)
  row_flow s is =
      ap (λ (x : Row). flow_in (record a { links = x })) is
      ∙ ap (λ (f : As → As → Session). with_links f (λ (c d : As). (set_pair at b s a.links.sides c d).kept.out) (λ (c d : As). (set_pair at b s a.links.sides c d).spare)) (pair_field (λ (x : Side). x.kept.session) at b s a.links.sides)
      ∙ ap (λ (f : As → As → List Bytes). with_links (set_pair at b s.kept.session old.sessions) f (λ (c d : As). (set_pair at b s a.links.sides c d).spare)) (pair_field (λ (x : Side). x.kept.out) at b s a.links.sides)
      ∙ ap (with_links (set_pair at b s.kept.session old.sessions) (set_pair at b s.kept.out old.queues)) (pair_field (λ (x : Side). x.spare) at b s a.links.sides)

  -- another session
  pub session_changes : (session : Session) → r ≡ set_side at b (with_kept (record was.kept { session = session }) was) a.links → flow_in (record a { links = r }) ≡ set_session at b session old
  session_changes session is =
      row_flow (with_kept (record was.kept { session = session }) was) is
      ∙ ap (λ (f : As → As → List Bytes). with_links (set_pair at b session old.sessions) f (set_pair at b was.spare old.room.inner)) (pair_same at b was.kept.out old.queues refl)
      ∙ ap (with_links (set_pair at b session old.sessions) old.queues) (pair_same at b was.spare old.room.inner refl)

  -- another queue, and its room
  pub queue_changes : (s : Side) (out : List Bytes) → r ≡ set_side at b s a.links → s.kept ≡ record was.kept { out = out } →
      flow_in (record a { links = r }) ≡ record (set_queue at b out old) { room = set_room at (Inner b) s.spare old.room }
  queue_changes s out is kept =
      row_flow s is
      ∙ ap (λ (k : Sender). with_links (set_pair at b k.session old.sessions) (set_pair at b k.out old.queues) (set_pair at b s.spare old.room.inner)) kept
      ∙ ap (λ (f : As → As → Session). with_links f (set_pair at b out old.queues) (set_pair at b s.spare old.room.inner)) (pair_same at b was.kept.session old.sessions refl)

  -- another session and another queue
  pub side_changes : (session : Session) (out : List Bytes) → r ≡ set_side at b here a.links → here.kept ≡ record { session = session; out = out } →
      flow_in (record a { links = r }) ≡ record (set_queue at b out (set_session at b session old)) { room = set_room at (Inner b) here.spare old.room }
  side_changes session out is kept =
      row_flow here is
      ∙ ap (λ (s : Sender). with_links (set_pair at b s.session old.sessions) (set_pair at b s.out old.queues) (set_pair at b here.spare old.room.inner)) kept

  pub first_drops : SideChanges at b sides.DropsFirst a.links r → DropsFirst at b old (flow_in (record a { links = r }))
  first_drops h = record { kept = queue_changes here (drop 1 was.kept.out) h.rest h.does.kept; room = h.does.room }

  pub inner_reserves : (messages bytes : ℕ) (result : Result (Unit {0}) NoMemory) → SideChanges at b (sides.Reserves messages bytes result) a.links r →
      GrowsAt at (Inner b) old (flow_in (record a { links = r })) × OnOk result (KeepsRoomAt at (Inner b) messages bytes (flow_in (record a { links = r })))
  inner_reserves messages bytes result h = (
    record {
      same = queue_changes here was.kept.out h.rest h.does.same ∙ ap (λ (f : As → As → List Bytes). let g : Flow = record old { queues = f; room = set_room at (Inner b) here.spare old.room } in g) (pair_same at b was.kept.out old.queues refl);
      room = h.does.room;
    },
    h.does.ok,
  )

  -- a message was put there, and said
  module _ (said : Queued Sent) (message : Bytes) (is_said : said.kept ≡ a.said.kept ++ sent_of at (Inner b) message ∷ []) (spends : Spends message a.said.spare said.spare) where
    abbrev all : List Sent
    all = old.said ++ sent_of at (Inner b) message ∷ []

    abbrev now : Flow
    now = flow_in (record a { links = r; said = said })

    abbrev room_now : Room
    room_now = record old.room { inner = set_pair at b here.spare old.room.inner; said = said.spare }

    said_there : (sessions : As → As → Session) (queues : As → As → List Bytes) → flow_in (record a { links = r }) ≡ with_links sessions queues (set_pair at b here.spare old.room.inner) →
        now ≡ record old { sessions = sessions; queues = queues; said = all; room = room_now }
    said_there sessions queues is =
        ap (λ (f : Flow). let g : Flow = record f { said = said.kept; room = record f.room { said = said.spare } } in g) is
        ∙ ap (λ (s : List Sent). let g : Flow = record old { sessions = sessions; queues = queues; said = s; room = room_now } in g) is_said

    put_there : (sessions : As → As → Session) (queues : As → As → List Bytes) → flow_in (record a { links = r }) ≡ with_links sessions queues (set_pair at b here.spare old.room.inner) → Spends message was.spare here.spare →
        SameFlow (record old { sessions = sessions; queues = queues; said = all }) now × SpendsAt at (Inner b) message old now
    put_there sessions queues is there = (
      own_room now (record old { sessions = sessions; queues = queues; said = all }) room_now (said_there sessions queues is),
      record { there = there; said = spends; elsewhere = ap (λ (f : Flow). f.room) (said_there sessions queues is) },
    )

    pub inner_puts : SideChanges at b (sides.Sends message) a.links r → Puts at (Inner b) message old now
    inner_puts h =
        let both = put_there old.sessions (set_pair at b (was.kept.out ++ message ∷ []) old.queues) (queue_changes here (was.kept.out ++ message ∷ []) h.rest h.does.kept) h.does.room in
        record { kept = both.0; room = both.1 }

  abbrev open_of : ℕ → Bytes
  open_of sid = own_bytes (Open (our_offer sid))

  -- a session begins there
  pub inner_begins : (sid : ℕ) (said : Queued Sent) → said.kept ≡ a.said.kept ++ sent_of at (Inner b) (open_of sid) ∷ [] → Spends (open_of sid) a.said.spare said.spare →
      SideChanges at b (sides.Begins sid (record { 0 = a.clock })) a.links r → Begins at b sid old (flow_in (record a { links = r; said = said }))
  inner_begins sid said is_said spends h =
      let s = begun sid (record { 0 = a.clock }) was.kept in
      let both = put_there said (open_of sid) is_said spends (set_pair at b s.session old.sessions) (set_pair at b s.out old.queues) (side_changes s.session s.out h.rest h.does.kept) h.does.room in
      record { kept = both.0; room = both.1 }

-- ---- both ends of a link

abbrev none : Sender → Sender
none k = record k { out = [] }

-- both queues of a link are emptied
pub both_clear : (a : CarriedView) (c d : As) (r : Row) → BothSidesChange c d sides.Empties a.links r → Clears c d (flow_in a) (flow_in (record a { links = r }))
both_clear a c d r h = record { kept = kept; here = empties (a.links.sides c d) (r.sides c d) h.here; there = empties (a.links.sides d c) (r.sides d c) h.there }
  where
    empties : (x y : Side) → sides.Empties x y → Frees (queue x.kept.out x.spare) (queue [] y.spare)
    empties x y e = subst (λ (out : List Bytes). Frees (queue x.kept.out x.spare) (queue out y.spare)) (ap (λ (k : Sender). k.out) e.kept) e.room

    -- the first of them, once the second is empty
    first : (p q : Bool) → same_as d c ≡ p → same_as c d ≡ q → (r.sides c d).kept ≡ none (cond p (cond q (r.sides d c) (a.links.sides c d)) (a.links.sides c d)).kept
    first true true is also_is =
        h.here.kept ∙ sym (ap none h.here.kept) ∙ ap (λ (x : As). none (r.sides c x).kept) (one_as d c is) ∙ ap (λ (x : As). none (r.sides x c).kept) (sym (one_as d c is))
    first true false is also_is = h.here.kept
    first false q is also_is = h.here.kept

    second : flow_in (record a { links = set_side d c (r.sides d c) a.links }) ≡ record (set_queue d c [] (flow_in a)) { room = set_room d (Inner c) (r.sides d c).spare (flow_in a).room }
    second = queue_changes a d c (set_side d c (r.sides d c) a.links) (r.sides d c) [] refl h.there.kept

    kept : flow_in (record a { links = r }) ≡ record (set_queue c d [] (set_queue d c [] (flow_in a))) { room = set_room c (Inner d) (r.sides c d).spare (set_room d (Inner c) (r.sides d c).spare (flow_in a).room) }
    kept =
        queue_changes (record a { links = set_side d c (r.sides d c) a.links }) c d r (r.sides c d) [] h.rest (first (same_as d c) (same_as c d) refl refl)
        ∙ ap (λ (f : Flow). let g : Flow = record (set_queue c d [] f) { room = set_room c (Inner d) (r.sides c d).spare f.room } in g) second

-- ---- outside peers

module _ (a : CarriedView) (i : ℕ) (g : Guests) where
  abbrev before : Flow
  before = flow_in a

  abbrev with_peers : Guests → Flow
  with_peers h = flow_in (record a { peers = h })

  pub access_changes : (k : model.Connection → model.Connection) → Changes i (Goes k) a.peers g → with_peers g ≡ change_access i k before
  access_changes k h = ap with_peers (goes i a.peers g h.rest k h.does)

  pub outside_connects : (holder : ℕ) (result : Result (Unit {0}) NoMemory) → Changes i (ConnectsGuest holder (record { 0 = a.clock }) result) a.peers g → Connects i holder before result (with_peers g)
  outside_connects holder result h = record {
    ok = on_ok result (λ is. ap with_peers (gets i a.peers g h.rest (just_opened holder (record { 0 = a.clock }) (a.peers.accesses i)) is)) h.does.ok;
    room = h.does.room;
    err = on_err result (λ is. ap with_peers (stays i a.peers g h.rest is)) h.does.err;
  }

  pub outside_grows : (at : As) (messages bytes : ℕ) (result : Result (Unit {0}) NoMemory) → Changes i (GrowsGuest messages bytes result) a.peers g → GrowsAt at (Outside i) before (with_peers g)
  outside_grows at messages bytes result h = record { same = ap with_peers (keeps i a.peers g h.rest h.does.same); room = h.does.room }

  pub outside_puts : (at : As) (said : Queued Sent) (message : Bytes) → said.kept ≡ a.said.kept ++ sent_of at (Outside i) message ∷ [] → Spends message a.said.spare said.spare →
      Changes i (SendsGuest message) a.peers g → Puts at (Outside i) message before (flow_in (record a { peers = g; said = said }))
  outside_puts at said message is_said spends h =
      let now = flow_in (record a { peers = g; said = said }) in
      let room : Room = record before.room { outside = set_number i (g.room i) before.room.outside; said = said.spare } in
      let is : now ≡ record (put_flow at (Outside i) message before) { room = room } =
      ap (λ (k : Guests). flow_in (record a { peers = k; said = said })) (gets i a.peers g h.rest (on_connection (with_more message) (a.peers.accesses i)) h.does.kept)
      ∙ ap (λ (s : List Sent). let f : Flow = record (put_at at (Outside i) message before) { said = s; room = room } in f) is_said in
      record { kept = own_room now (put_flow at (Outside i) message before) room is; room = record { there = h.does.room; said = spends; elsewhere = ap (λ (f : Flow). f.room) is } }

  pub outside_feeds : (piece : Bytes) (result : Result (Unit {0}) Refused) → Changes i (FeedsGuest piece result) a.peers g → FeedsIn i piece before result (with_peers g)
  outside_feeds piece result h = go (a.peers.accesses i).connection h.does
    where
      go : (o : Option model.Connection) → FeedsConnection piece o result (guest_at i a.peers) (guest_at i g) → FeedsConnectionIn i piece o before result (with_peers g)
      go None does = (does.0, ap with_peers (stays i a.peers g h.rest does.1))
      go (Some x) does = record {
        ok = on_ok result (λ is. ap with_peers (goes i a.peers g h.rest (fed_while_up piece) is)) does.ok;
        err = on_err result (λ is. (is.0, ap with_peers (stays i a.peers g h.rest is.1))) does.err;
        over = does.over;
      }

  pub outside_drains : (holder : ℕ) (result : Result Drained Refused) → Changes i (DrainsGuest holder result) a.peers g → DrainsIn i holder before result (with_peers g)
  outside_drains holder result h = go (a.peers.accesses i).connection h.does
    where
      held : (x : model.Connection) (b : Bool) → DrainsHeld b x result (guest_at i a.peers) (guest_at i g) → DrainsHeldIn i b x before result (with_peers g)
      held x false does = (does.0, ap with_peers (stays i a.peers g h.rest does.1))
      held x true does = record {
        bytes = does.bytes;
        ok = on_ok result (λ is. ap with_peers (gets i a.peers g h.rest (on_connection drained (a.peers.accesses i)) is)) does.ok;
        room = does.room;
        err = on_err result (λ is. (is.0, ap with_peers (stays i a.peers g h.rest is.1))) does.err;
      }

      go : (o : Option model.Connection) → DrainsConnection holder o result (guest_at i a.peers) (guest_at i g) → DrainsConnectionIn i holder o before result (with_peers g)
      go None does = (does.0, ap with_peers (stays i a.peers g h.rest does.1))
      go (Some x) does = held x (x.holder == holder) does
