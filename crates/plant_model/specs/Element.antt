-- One element: its pending requests, its keys and its neighbours.
use Rattle.std.specs.Prelude.{ℕ, suc, Bool, true, false, not, cond, ◌==◌, List, [], ◌∷◌, ◌++◌, length, drop, map, filter, Option, Some, None}
use Rattle.std.specs.Option.{option_map}
use Rattle.plant_model.specs.Types.{As, Addr, Peer, Message, Wanted, Class, Deny, Held, Branch}
use Rattle.disclosure.specs.declared.class.Class.TheVariants.{Client, Neighbour, Parent}
use Rattle.request_table.specs.Pending.{Pending, closed_of, same_peer}
use Rattle.path_keys.specs.Keys.{Keys, expired_of}
use Rattle.plant_model.specs.declared.output.Output.{Output}
use Rattle.plant_model.specs.declared.output.Lost.{Lost}
use Rattle.plant_model.specs.declared.route.Route.{Route}
use Rattle.plant_model.specs.Names.{same_id}
use Rattle.plant_model.specs.Writing.{reply_message, unavailable}

-- A pending request waits for the answer to the id that was sent to a peer, or it is ready with the branches of that answer.
pub data Stage : Type 0 where
  Waits : (on : Peer) → (id : ℕ) → Stage
  Ready : List Branch → Stage

-- An accepted request. The sequence is that from the own domain on; a request that went to the parent has none.
pub record Item (P : Type 0) : Type 0 where
  pub class : Class
  pub flags : ℕ
  pub wanted : Wanted
  pub sequence : List As
  pub pin : P
  pub stage : Stage

-- a pending request with its number
abbrev pub Row : Type 0 → Type 0
Row P = ℕ × Held (Item P)

-- a peer to which requests are sent, whether its session is up, and the last id sent to it
pub record Way : Type 0 where
  pub peer : Peer
  pub up : Bool
  pub last_id : ℕ

-- P is what a pin is, and S what a key stands for.
pub record Element (P : Type 0) (S : Type 0) : Type 0 where
  pub pending : Pending (Item P)
  pub keys : Keys S
  pub ways : List Way

-- the settings of an element
pub record ElementSettings : Type 0 where
  pub own : As
  pub id : Addr
  pub parent : Bool
  pub deny : List Deny
  pub routes : List Route

-- a change, and what is sent with it
pub record Taken (P : Type 0) (S : Type 0) : Type 0 where
  pub element : Element P S
  pub outputs : List Output

abbrev pub silent : {P : Type 0} {S : Type 0} → Element P S → Taken P S
silent k = record { element = k; outputs = [] }

abbrev pub only : {P : Type 0} {S : Type 0} → Peer → Message → Element P S → Taken P S
only to m k = record { element = k; outputs = record { to = to; message = m } ∷ [] }

-- each of a list in turn
abbrev pub each : {P : Type 0} {S : Type 0} {X : Type 0} → (X → Element P S → Taken P S) → List X → Element P S → Taken P S
each f [] k = silent k
each f (x ∷ xs) k =
    let first = f x k in
    let rest = each f xs first.element in
    record { element = rest.element; outputs = first.outputs ++ rest.outputs }

-- a request ends, and its pin with it
abbrev pub ended : {P : Type 0} {S : Type 0} → ℕ → Element P S → Element P S
ended number k = record k { pending = closed_of k.pending number }

abbrev pub at_stage : {P : Type 0} → Stage → Item P → Item P
at_stage stage i = record i { stage = stage }

abbrev pub waits_for : Peer → ℕ → Stage → Bool
waits_for p y (Waits on id) = same_id on id p y
waits_for p y (Ready branches) = false

abbrev pub waits_on : Peer → Stage → Bool
waits_on p (Waits on id) = same_peer on p
waits_on p (Ready branches) = false

abbrev pub is_ready : Stage → Bool
is_ready (Waits on id) = false
is_ready (Ready branches) = true

-- the request that waits for the answer to the id
abbrev pub waiting : {P : Type 0} → Peer → ℕ → List (Row P) → Option (Row P)
waiting p y [] = None
waiting p y (h ∷ hs) = cond (waits_for p y h.1.item.stage) (Some h) (waiting p y hs)

-- through how many domains beyond the element's own that request was sent on
abbrev pub sent_through : {P : Type 0} → Peer → ℕ → List (Row P) → Option ℕ
sent_through p y rows = option_map (λ h. length (drop 1 h.1.item.sequence)) (waiting p y rows)

-- the greatest id of a request (RFC 5440, section 7.4)
abbrev pub id_most : ℕ
id_most = 4294967295

-- Ids towards a peer rise from 1, and 1 follows the last. An id that waits is skipped.
abbrev pub after_id : ℕ → ℕ
after_id n = cond (n == id_most) 1 (suc n)

abbrev pub pass_over : {A : Type 0} → List A → (ℕ → Bool) → ℕ → ℕ
pass_over [] waits y = y
pass_over (x ∷ xs) waits y = cond (waits y) (pass_over xs waits (after_id y)) y

abbrev pub is_waiting : {P : Type 0} → Peer → List (Row P) → ℕ → Bool
is_waiting p [] y = false
is_waiting p (h ∷ hs) y = cond (waits_for p y h.1.item.stage) true (is_waiting p hs y)

abbrev pub fresh_id : {P : Type 0} → Peer → ℕ → List (Row P) → ℕ
fresh_id p last rows = pass_over rows (is_waiting p rows) (after_id last)

-- ways by their peer
abbrev pub way_to : Peer → List Way → Option Way
way_to p [] = None
way_to p (w ∷ ws) = cond (same_peer w.peer p) (Some w) (way_to p ws)

abbrev pub with_last : Peer → ℕ → List Way → List Way
with_last p y [] = []
with_last p y (w ∷ ws) = cond (same_peer w.peer p) (record w { last_id = y } ∷ ws) (w ∷ with_last p y ws)

abbrev pub with_up : Peer → Bool → List Way → List Way
with_up p up [] = []
with_up p up (w ∷ ws) = cond (same_peer w.peer p) (record w { up = up } ∷ ws) (w ∷ with_up p up ws)

-- a session comes up
abbrev pub upped : {P : Type 0} {S : Type 0} → Peer → Element P S → Element P S
upped p k = record k { ways = with_up p true k.ways }

-- A session goes down: the peer's own requests are dropped, and those that wait on it are lost.
abbrev pub stays : {P : Type 0} → Peer → Row P → Bool
stays p h = cond (same_peer h.1.key.peer p) false (not (waits_on p h.1.item.stage))

abbrev pub is_lost : {P : Type 0} → Peer → Row P → Bool
is_lost p h = cond (same_peer h.1.key.peer p) false (waits_on p h.1.item.stage)

abbrev pub lost_of : {P : Type 0} → Row P → Lost
lost_of h = record { to = h.1.key.peer; flags = h.1.item.flags; id = h.1.key.id }

abbrev pub kept : {P : Type 0} → Peer → List (Row P) → List (Row P)
kept p hs = filter (stays p) hs

-- in the order of their numbers
abbrev pub lost : {P : Type 0} → Peer → List (Row P) → List Lost
lost p hs = map lost_of (filter (is_lost p) hs)

-- the answer to a lost request
abbrev pub lost_output : Lost → Output
lost_output l = record { to = l.to; message = reply_message l.flags l.id unavailable }

abbrev pub downed : {P : Type 0} {S : Type 0} → Peer → Element P S → Taken P S
downed p k = record {
  element = record k { pending = record k.pending { rows = kept p k.pending.rows }; ways = with_up p false k.ways };
  outputs = map lost_output (lost p k.pending.rows);
}

-- An element with the lost requests that it has yet to hand out, one by one.
pub record Losing (P : Type 0) (S : Type 0) : Type 0 where
  pub element : Element P S
  pub lost : List Lost

abbrev pub down_of : {P : Type 0} {S : Type 0} → Peer → Losing P S → Losing P S
down_of p l = record { element = (downed p l.element).element; lost = l.lost ++ lost p l.element.pending.rows }

abbrev pub handed_lost : {P : Type 0} {S : Type 0} → Element P S → List Lost → Option Lost × Losing P S
handed_lost k [] = (None, record { element = k; lost = [] })
handed_lost k (x ∷ xs) = (Some x, record { element = k; lost = xs })

abbrev pub next_lost_of : {P : Type 0} {S : Type 0} → Losing P S → Option Lost × Losing P S
next_lost_of l = handed_lost l.element l.lost

abbrev pub ticked : {P : Type 0} {S : Type 0} → ℕ → Element P S → Element P S
ticked now k = record k { keys = expired_of k.keys now }

abbrev pub is_client : Class → Bool
is_client (Client may) = true
is_client (Neighbour a) = false
is_client Parent = false

-- the numbers of the requests that can be solved, rising
abbrev pub ready_numbers : {P : Type 0} → List (Row P) → List ℕ
ready_numbers rows = map (λ h. h.0) (filter (λ h. is_ready h.1.item.stage) rows)
