-- Deeds one after the other, and the deeds that messages, rises and falls are.
use Rattle.std.proofs.Common.{◌≡◌, ◌≤◌, ℕ, ◌+◌, Bool, true, false, cond, ◌==◌, is_some, Option, Some, None, List, [], ◌∷◌, ◌++◌, length, refl, ap, sym, subst, ◌∙◌, arith, inl, inr, append-nil}
use Rattle.std.proofs.lemmas.Bool.{cases_Bool, eqb-true, eq-eqb}
use Rattle.pce_common.specs.plant_model.Types.{As, Peer, Outside, Inner, Hop, Own, Sent, NetworkParts}
use Rattle.request_table.specs.Pending.{same_peer}
use Rattle.plant_queues.specs.Messages.{Spare, total}
use Rattle.plant_queues.specs.Sents.{size_of, sent_of}
use Rattle.plant_text.specs.Names.{same_as, parent_as}
use Rattle.pce_common.specs.plant_model.declared.output.Lost.{Lost}
use Rattle.pce_common.specs.plant_model.Wire.{Bytes}
use Rattle.pce_common.specs.plant_model.RealWire.{wire}
use Rattle.pce_common.specs.plant_model.State.{State, Connection, said}
use Rattle.pce_common.specs.plant_model.Deeds as deeds
use Rattle.pce_common.specs.plant_model.Deeds.{Going, on_connection, with_more}
use Rattle.pce_common.specs.plant_model.Element.{upped}
use Rattle.pce_common.specs.plant_model.Parent as parent
use Rattle.network_links.specs.Ends.{own_bytes}
use Rattle.network_links.specs.Flow.{Flow, Room, Puts, change_access, SameFlow, put_flow, put_at, room_at, queue_at, set_room, out_of}
use Rattle.network_events.specs.Accounts.{Accounts, count_into, bytes_into, goes_into, has_queue}
use Rattle.pce_common.specs.Membership.{Membership, raised}
use Rattle.network_events.specs.Standing.{IsAt, Here, here_of, Goes, state_of}

-- what is seen of each connection, where one changes in what is not seen
pub access_same : {A : Type 0} (Q : Option Connection → A) (h : Connection → Connection) (i j : ℕ) (f : Flow) → ((x : Connection) → Q (Some (h x)) ≡ Q (Some x)) → Q ((change_access i h f).accesses j).connection ≡ Q (f.accesses j).connection
access_same Q h i j f same = elim (cases_Bool (i == j)) [
  | inl hit ↦ ap (λ (b : Bool). Q (cond b (on_connection h (f.accesses i)) (f.accesses j)).connection) hit ∙ one (f.accesses i).opened (f.accesses i).connection ∙ ap (λ (k : ℕ). Q (f.accesses k).connection) (eqb-true i j hit)
  | inr miss ↦ ap (λ (b : Bool). Q (cond b (on_connection h (f.accesses i)) (f.accesses j)).connection) miss
]
  where
    one : (o : ℕ) (c : Option Connection) → Q (on_connection h (record { opened = o; connection = c })).connection ≡ Q c
    one o None = refl
    one o (Some x) = same x

pub accounts_same : (f : Flow) → Accounts f f
accounts_same f = record {
  messages = λ at to. omega arith;
  bytes = λ at to. omega arith;
  there = λ to is. is;
  messages_in_all = λ at to is. omega arith;
  bytes_in_all = λ at to is. omega arith;
  said = omega arith;
  said_bytes = omega arith;
}

pub accounts_then : (a b c : Flow) → Accounts a b → Accounts b c → Accounts a c
accounts_then a b c x y = record {
  messages = λ at to. omega (arith, x.messages at to, y.messages at to);
  bytes = λ at to. omega (arith, x.bytes at to, y.bytes at to);
  there = λ to is. y.there to (x.there to is);
  messages_in_all = λ at to is. omega (arith, x.messages_in_all at to is, y.messages_in_all at to (x.there to is));
  bytes_in_all = λ at to is. omega (arith, x.bytes_in_all at to is, y.bytes_in_all at to (x.there to is));
  said = omega (arith, x.said, y.said);
  said_bytes = omega (arith, x.said_bytes, y.said_bytes);
}

-- ---- a message

count_push : (at : As) (to : Peer) (ss : List Sent) (s : Sent) → count_into at to (ss ++ s ∷ []) ≡ count_into at to ss + cond (goes_into at to s) 1 0
count_push at to [] s = omega arith
count_push at to (x ∷ ss) s = omega (arith, count_push at to ss s)

bytes_push : (at : As) (to : Peer) (ss : List Sent) (s : Sent) → bytes_into at to (ss ++ s ∷ []) ≡ bytes_into at to ss + cond (goes_into at to s) (length s.bytes) 0
bytes_push at to [] s = omega arith
bytes_push at to (x ∷ ss) s = omega (arith, bytes_push at to ss s)

size_push : (ss : List Sent) (s : Sent) → total size_of (ss ++ s ∷ []) ≡ total size_of ss + length s.bytes
size_push [] s = omega arith
size_push (x ∷ ss) s = omega (arith, size_push ss s)

pub total_push : (out : List Bytes) (message : Bytes) → total (λ (m : Bytes). length m) (out ++ message ∷ []) ≡ total (λ (m : Bytes). length m) out + length message
total_push [] message = omega arith
total_push (x ∷ out) message = omega (arith, total_push out message)

pub length_push : {A : Type 0} (xs : List A) (x : A) → length (xs ++ x ∷ []) ≡ length xs + 1
length_push [] x = refl
length_push (y ∷ xs) x = omega (arith, length_push xs x)

pub as_is : (a b : As) → same_as a b ≡ true → a ≡ b
as_is a b e = ap (λ (n : ℕ). let d : As = record { 0 = n } in d) (eqb-true a.0 b.0 e)

both : (a b : Bool) → cond a b false ≡ true → (a ≡ true) × (b ≡ true)
both true b e = (refl, e)
both false b e = cc

-- a message that goes into a queue is one that was put there
pub peer_is : (p q : Peer) → same_peer p q ≡ true → p ≡ q
peer_is (Outside i) (Outside j) e = ap Outside (eqb-true i j e)
peer_is (Outside i) (Inner b) e = cc
peer_is (Inner a) (Outside j) e = cc
peer_is (Inner a) (Inner b) e = ap Inner (as_is a b e)

pub into_is : (a at : As) (q to : Peer) (m : Bytes) → goes_into a q (sent_of at to m) ≡ true → (f : Flow) → (room_at a q f ≡ room_at at to f) × (queue_at a q f ≡ queue_at at to f) × (has_queue q f ≡ has_queue to f)
into_is a at (Outside j) (Outside i) m e f =
    let is : i ≡ j = eqb-true i j e in
    subst (λ (k : ℕ). (room_at a (Outside k) f ≡ room_at at (Outside i) f) × (queue_at a (Outside k) f ≡ queue_at at (Outside i) f) × (has_queue (Outside k) f ≡ has_queue (Outside i) f)) is (refl, refl, refl)
into_is a at (Outside j) (Inner b) m e f = cc
into_is a at (Inner c) (Outside i) m e f = cc
into_is a at (Inner c) (Inner b) m e f =
    let parts = both (same_peer (Inner b) (Inner c)) (same_as at a) e in
    let is : b ≡ c = as_is b c parts.0 in
    let is' : at ≡ a = as_is at a parts.1 in
    subst (λ (d : As). (room_at a (Inner d) f ≡ room_at at (Inner b) f) × (queue_at a (Inner d) f ≡ queue_at at (Inner b) f) × (true ≡ true)) is
    (subst (λ (d : As). (room_at d (Inner b) f ≡ room_at at (Inner b) f) × (queue_at d (Inner b) f ≡ queue_at at (Inner b) f) × (true ≡ true)) is' (refl, refl, refl))

abbrev pub room_in : As → Peer → Room → Spare
room_in a (Outside i) r = r.outside i
room_in a (Inner b) r = r.inner a b

pub room_at_in : (a : As) (q : Peer) (f : Flow) → room_at a q f ≡ room_in a q f.room
room_at_in a (Outside i) f = refl
room_at_in a (Inner b) f = refl

both_miss : (b c : Bool) {A : Type 0} (x y : A) → cond b c false ≡ false → cond c (cond b x y) y ≡ y
both_miss true true x y e = cc
both_miss true false x y e = refl
both_miss false true x y e = refl
both_miss false false x y e = refl

-- another queue keeps its room and its messages
pub miss_room : (a at : As) (q to : Peer) (m : Bytes) → goes_into a q (sent_of at to m) ≡ false → (x : Spare) (r : Room) → room_in a q (set_room at to x r) ≡ room_in a q r
miss_room a at (Outside j) (Outside i) m e x r = ap (λ (b : Bool). cond b x (r.outside j)) e
miss_room a at (Outside j) (Inner b) m e x r = refl
miss_room a at (Inner c) (Outside i) m e x r = refl
miss_room a at (Inner c) (Inner b) m e x r = both_miss (same_as b c) (same_as at a) x (r.inner a c) e

miss_queue : (a at : As) (q to : Peer) (m : Bytes) → goes_into a q (sent_of at to m) ≡ false → (f : Flow) → queue_at a q (put_at at to m f) ≡ queue_at a q f
miss_queue a at (Outside j) (Outside i) m e f = ap (λ (b : Bool). out_of (cond b (on_connection (with_more m) (f.accesses i)) (f.accesses j)).connection) e
miss_queue a at (Outside j) (Inner b) m e f = refl
miss_queue a at (Inner c) (Outside i) m e f = refl
miss_queue a at (Inner c) (Inner b) m e f = both_miss (same_as b c) (same_as at a) (f.queues at b ++ m ∷ []) (f.queues a c) e

pub self : (n : ℕ) → (n == n) ≡ true
self n = eq-eqb n n refl

-- the queue has the message behind those that it had
hit_queue : (at : As) (to : Peer) (m : Bytes) (f : Flow) → has_queue to f ≡ true → queue_at at to (put_at at to m f) ≡ queue_at at to f ++ m ∷ []
hit_queue at (Outside i) m f is =
    ap (λ (b : Bool). out_of (cond b (on_connection (with_more m) (f.accesses i)) (f.accesses i)).connection) (self i) ∙ go (f.accesses i).connection is
  where
    go : (c : Option Connection) → is_some c ≡ true → out_of (on_connection (with_more m) (record { opened = (f.accesses i).opened; connection = c })).connection ≡ out_of c ++ m ∷ []
    go None e = cc
    go (Some x) e = refl
hit_queue at (Inner b) m f is =
    ap (λ (c : Bool). cond c (cond (same_as b b) (f.queues at b ++ m ∷ []) (f.queues at b)) (f.queues at b)) (self at.0)
    ∙ ap (λ (c : Bool). cond c (f.queues at b ++ m ∷ []) (f.queues at b)) (self b.0)

open_still : (q : Peer) (at : As) (to : Peer) (m : Bytes) (f : Flow) → has_queue q f ≡ true → has_queue q (put_at at to m f) ≡ true
open_still (Inner b) at (Outside i) m f is = refl
open_still (Inner b) at (Inner c) m f is = refl
open_still (Outside j) at (Inner c) m f is = is
open_still (Outside j) at (Outside i) m f is = elim (cases_Bool (i == j)) [
  | inl hit ↦
      let same : i ≡ j = eqb-true i j hit in
      let here : is_some (f.accesses i).connection ≡ true = subst (λ (k : ℕ). is_some (f.accesses k).connection ≡ true) (sym same) is in
      ap (λ (b : Bool). is_some (cond b (on_connection (with_more m) (f.accesses i)) (f.accesses j)).connection) hit ∙ go (f.accesses i).connection here
  | inr miss ↦ ap (λ (b : Bool). is_some (cond b (on_connection (with_more m) (f.accesses i)) (f.accesses j)).connection) miss ∙ is
]
  where
    go : (c : Option Connection) → is_some c ≡ true → is_some (on_connection (with_more m) (record { opened = (f.accesses i).opened; connection = c })).connection ≡ true
    go None e = cc
    go (Some x) e = refl

flow_queue : (a : As) (q : Peer) (f : Flow) (r : Room) (ss : List Sent) → queue_at a q (record f { room = r; said = ss }) ≡ queue_at a q f
flow_queue a (Outside i) f r ss = refl
flow_queue a (Inner b) f r ss = refl

flow_open : (q : Peer) (f : Flow) (r : Room) (ss : List Sent) → has_queue q (record f { room = r; said = ss }) ≡ has_queue q f
flow_open (Outside i) f r ss = refl
flow_open (Inner b) f r ss = refl

-- what a queue and its room are after a put
pub record PutCase (a : As) (q : Peer) (m : Bytes) (hit : Bool) (old new : Flow) : Type 0 where
  pub messages : (room_at a q old).messages ≤ (room_at a q new).messages + cond hit 1 0
  pub bytes : (room_at a q old).bytes ≤ (room_at a q new).bytes + cond hit (length m) 0
  pub count : has_queue q old ≡ true → length (queue_at a q new) ≡ length (queue_at a q old) + cond hit 1 0
  pub miss : hit ≡ false → room_at a q new ≡ room_at a q old
  pub size : has_queue q old ≡ true → total (λ (x : Bytes). length x) (queue_at a q new) ≡ total (λ (x : Bytes). length x) (queue_at a q old) + cond hit (length m) 0

pub put_case : (at : As) (to : Peer) (m : Bytes) (old new : Flow) → Puts at to m old new → (a : As) (q : Peer) → PutCase a q m (goes_into a q (sent_of at to m)) old new
put_case at to m old new puts a q = elim (cases_Bool (goes_into a q (sent_of at to m))) [
  | inl hit ↦
      let was = into_is a at q to m hit old in
      let is = into_is a at q to m hit new in
      let queue_is : has_queue q old ≡ true → queue_at a q new ≡ queue_at a q old ++ m ∷ [] = λ open'.
      is.1 ∙ after at to ∙ hit_queue at to m old (sym was.2 ∙ open') ∙ ap (λ (x : List Bytes). x ++ m ∷ []) (sym was.1) in
      rw hit (record {
        messages = rw (was.0, is.0) puts.room.there.messages;
        bytes = rw (was.0, is.0) puts.room.there.bytes;
        miss = λ e. absurd (let clash : true ≡ false = e in cc);
        count = λ open'. ap length (queue_is open') ∙ length_push (queue_at a q old) m;
        size = λ open'. ap (total (λ (x : Bytes). length x)) (queue_is open') ∙ total_push (queue_at a q old) m;
      })
  | inr miss ↦
      let room_is : room_at a q new ≡ room_at a q old =
      room_at_in a q new ∙ ap (room_in a q) puts.room.elsewhere ∙ miss_room a at q to m miss (room_at at to new) (record old.room { said = new.room.said }) ∙ plain q in
      let queue_is : queue_at a q new ≡ queue_at a q old = after a q ∙ miss_queue a at q to m miss old in
      rw miss (record {
        messages = rw room_is (omega arith);
        bytes = rw room_is (omega arith);
        miss = λ e. room_is;
        count = λ open'. rw queue_is (omega arith);
        size = λ open'. rw queue_is (omega arith);
      })
]
  where
    after : (b : As) (r : Peer) → queue_at b r new ≡ queue_at b r (put_at at to m old)
    after b r = ap (queue_at b r) puts.kept ∙ flow_queue b r (put_at at to m old) new.room (old.said ++ sent_of at to m ∷ [])

    plain : (r : Peer) → room_in a r (record old.room { said = new.room.said }) ≡ room_at a r old
    plain (Outside i) = refl
    plain (Inner b) = refl

pub puts_accounts : (at : As) (to : Peer) (m : Bytes) (old new : Flow) → Puts at to m old new → Accounts old new
puts_accounts at to m old new puts =
    let said_is : new.said ≡ old.said ++ sent_of at to m ∷ [] = ap (λ (f : Flow). f.said) puts.kept in
    record {
      messages = λ a q. let case = put_case at to m old new puts a q in omega (arith, case.messages, ap (count_into a q) said_is, count_push a q old.said (sent_of at to m));
      bytes = λ a q. let case = put_case at to m old new puts a q in omega (arith, case.bytes, ap (bytes_into a q) said_is, bytes_push a q old.said (sent_of at to m));
      there = λ q is. ap (has_queue q) puts.kept ∙ flow_open q (put_at at to m old) new.room (old.said ++ sent_of at to m ∷ []) ∙ open_still q at to m old is;
      messages_in_all = λ a q is. let case = put_case at to m old new puts a q in omega (arith, case.messages, case.count is);
      bytes_in_all = λ a q is. let case = put_case at to m old new puts a q in omega (arith, case.bytes, case.size is);
      said = omega (arith, ap length said_is, length_push old.said (sent_of at to m), puts.room.said.messages);
      said_bytes = omega (arith, ap (total size_of) said_is, size_push old.said (sent_of at to m), puts.room.said.bytes);
    }

pub said_none : (ss : List Sent) (more : List Sent) → more ≡ [] → ss ≡ ss ++ more
said_none ss more e = sym (append-nil ss) ∙ ap (λ (x : List Sent). ss ++ x) (sym e)

adjacencies_put : (at : As) (to : Peer) (m : Bytes) (f f' : Flow) → SameFlow (put_flow at to m f) f' → (f'.adjacencies ≡ f.adjacencies) × (f'.peers ≡ f.peers)
adjacencies_put at (Outside i) m f f' same = (ap (λ (x : Flow). x.adjacencies) same, ap (λ (x : Flow). x.peers) same)
adjacencies_put at (Inner b) m f f' same = (ap (λ (x : Flow). x.adjacencies) same, ap (λ (x : Flow). x.peers) same)

module _ {P : Type 0} {S : Type 0} where
  pub goes_then : (f h : NetworkParts → Going P S → Going P S) (a b c : Here P S) → Goes f a b → Goes h b c → Goes (λ n g. h n (f n g)) a c
  goes_then f h a b c x y = record {
    network = y.network ∙ x.network;
    lost = λ none. y.lost (x.lost none);
    adjacencies = y.adjacencies ∙ x.adjacencies;
    peers = y.peers ∙ x.peers;
    room = accounts_then a.flow b.flow c.flow x.room y.room;
    goes = λ g is. subst (λ (n : NetworkParts). IsAt (h n (f a.network g)) c.seen c.flow) x.network (y.goes (f a.network g) (x.goes g is));
  }

  pub goes_same : (a : Here P S) → Goes (λ n g. g) a a
  goes_same a = record { network = refl; lost = λ none. none; adjacencies = refl; peers = refl; room = accounts_same a.flow; goes = λ g is. is }

  module _ (n : NetworkParts) (show : S → List Hop) where
    state_put : (at : As) (to : Peer) (m : Bytes) (ms : Membership P S) (f f' : Flow) → SameFlow (put_flow at to m f) f' → state_of ms f' ≡ deeds.put_to P S wire n show at m (state_of ms f) to
    state_put at (Outside i) m ms f f' same = ap (state_of ms) same
    state_put at (Inner b) m ms f f' same = ap (state_of ms) same

  -- a session says a message of its own
  pub goes_say : (show : S → List Hop) (n : NetworkParts) (ms : Membership P S) (lost : As → List Lost) (at : As) (to : Peer) (o : Own) (f f' : Flow) → Puts at to (own_bytes o) f f' →
      Goes (λ k. deeds.say P S wire k show at to o) (here_of n ms lost f) (here_of n ms lost f')
  goes_say show n ms lost at to o f f' puts =
      let adjacencies = adjacencies_put at to (own_bytes o) f f' puts.kept in
      record {
        network = refl;
        lost = λ none. none;
        adjacencies = adjacencies.0;
        peers = adjacencies.1;
        room = puts_accounts at to (own_bytes o) f f' puts;
        goes = λ g is. record {
          state = state_put n show at to (own_bytes o) ms f f' puts.kept ∙ ap (λ (s : State P S). deeds.put_to P S wire n show at (own_bytes o) s to) is.state;
          said = ap (λ (x : Flow). x.said) puts.kept ∙ ap (λ (ss : List Sent). ss ++ sent_of at to (own_bytes o) ∷ []) is.said;
        };
      }

  -- a session of a member comes up
  pub goes_rise : (show : S → List Hop) (n : NetworkParts) (ms : Membership P S) (lost : As → List Lost) (at : As) (p : Peer) (f : Flow) →
      Goes (λ k. deeds.rise P S wire k show at p) (here_of n ms lost f) (here_of n (raised at p ms) lost f)
  goes_rise show n ms lost at p f = record {
    network = refl;
    lost = λ none. none;
    adjacencies = refl;
    peers = refl;
    room = accounts_same f;
    goes = λ g is. elim (cases_Bool (same_as at parent_as)) [
      | inl upper ↦ rw upper (record { state = ap (λ (s : State P S). deeds.with_parent P S wire n show (parent.upped p s.parent) s) is.state; said = is.said ∙ said_none (said wire g.deeds) [] refl })
      | inr inner ↦ rw inner (record { state = ap (λ (s : State P S). deeds.with_element P S wire n show at (upped p (s.elements at)) s) is.state; said = is.said ∙ said_none (said wire g.deeds) [] refl })
    ];
  }

  -- the same deed, said otherwise
  pub goes_as : (f h : NetworkParts → Going P S → Going P S) (a b : Here P S) → ((g : Going P S) → IsAt g a.seen a.flow → f a.network g ≡ h a.network g) → Goes f a b → Goes h a b
  goes_as f h a b same x = record {
    network = x.network;
    lost = x.lost;
    adjacencies = x.adjacencies;
    peers = x.peers;
    room = x.room;
    goes = λ g is. subst (λ (y : Going P S). IsAt y b.seen b.flow) (same g is) (x.goes g is);
  }

  pub goes_by : (f h : NetworkParts → Going P S → Going P S) (a b : Here P S) → ((k : NetworkParts) (g : Going P S) → f k g ≡ h k g) → Goes f a b → Goes h a b
  goes_by f h a b same = goes_as f h a b (λ g is. same a.network g)
