-- The events of a network that take no topology: each with its answer, or its refusal, which changes nothing.
use Rattle.std.specs.Prelude.{ℕ, ◌+◌, ◌%◌, nat_eq, is_some, Bool, true, false, not, cond, ◌==◌, nat_lt, List, [], ◌∷◌, ◌++◌, map, Option, Some, None, Result, Ok, Err}
use Rattle.plant_model.specs.Types.{As, Hop, NetworkParts, Held, Phase, Outside}
use Rattle.pcep_session.specs.declared.session.Input.TheVariants as input
use Rattle.plant_model.specs.declared.outcome.Outcome.{Outcome}
use Rattle.plant_model.specs.declared.outcome.Outcome.TheVariants.{Done, Drained}
use Rattle.plant_model.specs.declared.outcome.Refused.{Refused}
use Rattle.plant_model.specs.declared.outcome.Refused.TheVariants.{NoSuchPeer, NotHolder, NothingToCarry}
use Rattle.std.specs.Map.{lookup}
use Rattle.request_table.specs.Pending.{pending_most}
use Rattle.pcep_session.specs.declared.state.Phase.TheVariants as phase
use Rattle.pcep_session.specs.Table.{new_state}
use Rattle.pcep_framing.specs.Frames.{joined}
use Rattle.plant_text.specs.Names.{same_as, parent_as}
use Rattle.plant_model.specs.Names.{set_pair, set_number}
use Rattle.plant_model.specs.Wire.{Bytes, Codec}
use Rattle.plant_model.specs.Element.{Item}
use Rattle.plant_model.specs.Element as element
use Rattle.plant_model.specs.Parent as parent
use Rattle.plant_text.specs.Settings.{Adjacency, adjacency, adjacencies, is_linked, is_element, elements_of, life, peer_row}
use Rattle.plant_model.specs.Settings.{inner_ways, ways}
use Rattle.plant_model.specs.State.{Connection, Access, State, Deed, Pops, Hands}
use Rattle.plant_model.specs.Deeds as deeds
use Rattle.plant_model.specs.Deeds.{Going, our_offer, as_sid, element_of, input_of, with_inbox}

abbrev pub Answered : Type 0
Answered = Result Outcome Refused

pub record Happened (P : Type 0) (S : Type 0) : Type 0 where
  pub answer : Answered
  pub state : State P S
  pub deeds : List (Deed S)

abbrev pub split_all : Codec → List Bytes → List (Option Bytes)
split_all c [] = []
split_all c (f ∷ fs) = map Some (c.split f) ++ split_all c fs

-- what a bad header puts into the inbox
abbrev pub bad_item : Bool → List (Option Bytes)
bad_item true = None ∷ []
bad_item false = []

-- A peer feeds bytes: their whole messages go into the inbox, one per request or reply.
abbrev pub fed : Codec → Bytes → Connection → Connection
fed c bytes x =
    let f = c.feed x.framing bytes in
    record x { framing = f.framing; inbox = x.inbox ++ split_all c f.frames ++ bad_item f.framing.bad }

abbrev pub drained : Connection → Connection
drained x = record x { out = [] }

-- a session that is over
abbrev pub is_down : Phase → Bool
is_down phase.Down = true
is_down phase.Idle = false
is_down phase.OpenWait = false
is_down phase.KeepWait = false
is_down phase.Up = false

-- whether bytes that a peer feeds are taken: it is open, and its session is not over
abbrev pub takes_feed : Option Connection → Bool
takes_feed None = false
takes_feed (Some x) = not (is_down x.session.phase)

-- the number is that of a ready job
abbrev pub is_ready_row : {P : Type 0} → Option (Held (Item P)) → Bool
is_ready_row None = false
is_ready_row (Some h) = element.is_ready h.item.stage

abbrev pub is_ready_asking : Option (Held parent.Asking) → Bool
is_ready_asking None = false
is_ready_asking (Some h) = parent.is_ready h.item

abbrev pub is_ready : {P : Type 0} {S : Type 0} → As → ℕ → State P S → Bool
is_ready d k s =
    cond (same_as d parent_as) (is_ready_asking (lookup (nat_eq k) s.parent.pending.rows)) (is_ready_row (lookup (nat_eq k) (s.elements d).pending.rows))

-- who has jobs: the elements, and the parent where there is one
abbrev pub has_jobs : NetworkParts → As → Bool
has_jobs n d = cond (same_as d parent_as) (is_some n.parent) (is_element n d)

-- the jobs that can be solved, by the domain and then by their number; the parent's are first
abbrev pub jobs_at : As → List ℕ → List (As × ℕ)
jobs_at d numbers = map (λ number. (d, number)) numbers

abbrev pub jobs_of : {P : Type 0} {S : Type 0} → State P S → List As → List (As × ℕ)
jobs_of s [] = []
jobs_of s (d ∷ ds) = jobs_at d (element.ready_numbers (s.elements d).pending.rows) ++ jobs_of s ds

abbrev pub ready_jobs : {P : Type 0} {S : Type 0} → NetworkParts → State P S → List (As × ℕ)
ready_jobs n s = jobs_at parent_as (parent.ready_numbers s.parent.pending.rows) ++ jobs_of s (elements_of n.elements)

abbrev pub later : ℕ → ℕ → ℕ
later now t = cond (nat_lt now t) t now

module _ (P : Type 0) (S : Type 0) (c : Codec) (n : NetworkParts) (show : S → List Hop) where
  abbrev pub refused : Refused → State P S → Happened P S
  refused why s = record { answer = Err why; state = s; deeds = [] }

  abbrev pub answered : Outcome → Going P S → Happened P S
  answered o g = record { answer = Ok o; state = g.state; deeds = g.deeds }

  abbrev pub idle : State P S → Going P S
  idle s = record { state = s; deeds = [] }

  abbrev pub set_access : ℕ → Access → State P S → State P S
  set_access i a s = record s { accesses = set_number i a s.accesses }

  -- a peer's connection is opened, and its session begun
  abbrev pub connect : ℕ → ℕ → State P S → State P S
  connect i holder s =
      let a = s.accesses i in
      set_access i (record {
        opened = a.opened + 1;
        connection = Some (record { holder = holder; session = new_state (our_offer (as_sid a.opened)) (record { 0 = s.clock }); framing = record { held = []; bad = false }; inbox = []; out = [] });
      }) s

  abbrev pub open_new : ℕ → ℕ → State P S → Option Connection → Happened P S
  open_new i holder s None = answered Done (deeds.outside_input P S c n show i input.Begin (idle (connect i holder s)))
  open_new i holder s (Some x) = refused NoSuchPeer s

  abbrev pub open_peer : ℕ → ℕ → State P S → Happened P S
  open_peer i holder s = cond (is_some (peer_row i n.peers)) (open_new i holder s (s.accesses i).connection) (refused NoSuchPeer s)

  -- it is closed, its requests are dropped, and its queues emptied
  abbrev pub shut_open : ℕ → State P S → Option Connection → Happened P S
  shut_open i s None = refused NoSuchPeer s
  shut_open i s (Some x) =
      let g = deeds.fall P S c n show (element_of n i) (Outside i) (idle s) in
      record { answer = Ok Done; state = set_access i (record { opened = (s.accesses i).opened; connection = None }) g.state; deeds = g.deeds }

  abbrev pub shut : ℕ → State P S → Happened P S
  shut i s = shut_open i s (s.accesses i).connection

  -- nothing is kept after the session went down
  abbrev pub feed_open : ℕ → Bytes → State P S → Option Connection → Happened P S
  feed_open i bytes s None = refused NoSuchPeer s
  feed_open i bytes s (Some x) =
      answered Done (idle (cond (is_down x.session.phase) s (deeds.with_access P S c n show i (fed c bytes) s)))

  abbrev pub feed : ℕ → Bytes → State P S → Happened P S
  feed i bytes s = feed_open i bytes s (s.accesses i).connection

  abbrev pub take_item : ℕ → State P S → List (Option Bytes) → Happened P S
  take_item i s [] = refused NothingToCarry s
  take_item i s (x ∷ rest) =
      answered Done (deeds.outside_input P S c n show i (input_of c x) (idle (deeds.with_access P S c n show i (with_inbox rest) s)))

  abbrev pub take_open : ℕ → State P S → Option Connection → Happened P S
  take_open i s None = refused NoSuchPeer s
  take_open i s (Some x) = take_item i s x.inbox

  abbrev pub take : ℕ → State P S → Happened P S
  take i s = take_open i s (s.accesses i).connection

  abbrev pub carry_first : As → As → State P S → List Bytes → Happened P S
  carry_first a b s [] = refused NothingToCarry s
  carry_first a b s (x ∷ rest) =
      answered Done (deeds.inner_input P S c n show (adjacency a b) b a (input_of c (Some x))
      (record { state = record s { queues = set_pair a b rest s.queues }; deeds = Pops a b ∷ [] }))

  abbrev pub carry : As → As → State P S → Happened P S
  carry a b s = cond (is_linked n a b) (carry_first a b s (s.queues a b)) (refused NoSuchPeer s)

  abbrev pub break : As → As → State P S → Happened P S
  break a b s = cond (is_linked n a b) (answered Done (deeds.break_adjacency P S c n show (adjacency a b) (idle s))) (refused NoSuchPeer s)

  abbrev pub tick : ℕ → State P S → Happened P S
  tick t s =
      let now = later s.clock t in
      answered Done (deeds.expire P S c n show now
      (deeds.tick_adjacencies P S c n show (adjacencies n) (record { 0 = now })
      (deeds.tick_outside P S c n show 0 n.peers (record { 0 = now }) (idle (record s { clock = now })))))

  abbrev pub drain_open : ℕ → ℕ → State P S → Option Connection → Happened P S
  drain_open i holder s None = refused NoSuchPeer s
  drain_open i holder s (Some x) =
      cond (x.holder == holder)
      (record {
        answer = Ok (Drained (joined x.out) (is_down x.session.phase));
        state = deeds.with_access P S c n show i drained s;
        deeds = Hands i (joined x.out) ∷ [];
      })
      (refused (NotHolder x.holder) s)

  abbrev pub drain : ℕ → ℕ → State P S → Happened P S
  drain i holder s = drain_open i holder s (s.accesses i).connection

  -- The state before the links are begun, and the opening state: one Open stands in each inner queue.
  abbrev pub bare : (As → P) → State P S
  bare pins = record {
    clock = 0;
    elements = λ d. record {
      pending = record { limit = pending_most; given = 0; rows = [] };
      keys = record { life = life n d; next = 1; clock = 0; issued = [] };
      ways = ways n d;
    };
    parent = record { pending = record { limit = parent.pending_most; given = 0; rows = [] }; ways = inner_ways n parent_as };
    current = pins;
    accesses = λ i. record { opened = 0; connection = None };
    sessions = λ a b. new_state (our_offer 0) (record { 0 = 0 });
    queues = λ a b. [];
  }

  abbrev pub begin_adjacencies : List Adjacency → Going P S → Going P S
  begin_adjacencies [] g = g
  begin_adjacencies (x ∷ xs) g = begin_adjacencies xs (deeds.begin_adjacency P S c n show 0 x g)

  abbrev pub opening : (As → P) → Going P S
  opening pins = begin_adjacencies (adjacencies n) (idle (bare pins))
