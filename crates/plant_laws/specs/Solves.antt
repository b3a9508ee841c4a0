-- What a solve sends: one message, to the peer that asked. To a client the path of its source, or that there is none; to the
-- others a branch for each entry of the join, that there is none, or that there are too few keys (RFC 5441, section 5).
use Rattle.std.specs.Prelude.{◌≡◌, ◌≢◌, ◌⊎◌, ◌≤◌, ◌<◌, ℕ, true, false, nat_eq, List, [], ◌∷◌, length, Option, Some, None, Ok}
use Rattle.std.specs.Map.{lookup}
use Rattle.plant_model.specs.Types.{As, Message, Answer as Answered, Held, Best, Branch, Issued, NetworkParts}
use Rattle.pcep_codes.specs.declared.no_paths.TheConstants as no_paths
use Rattle.pcep_messages.specs.declared.message.Answer.TheVariants.{Paths, NoPath}
use Rattle.border_costs.specs.declared.answer.Answer.{Answer}
use Rattle.border_costs.specs.Solutions.{AreRows}
use Rattle.path_keys.specs.Keys.{Keys}
use Rattle.plant_model.specs.declared.outcome.Outcome.{Outcome}
use Rattle.plant_model.specs.declared.event.Event.TheVariants as event
use Rattle.plant_text.specs.Names.{same_as, parent_as}
use Rattle.plant_model.specs.Wire.{Codec}
use Rattle.plant_model.specs.Writing.{reply_message, busy, no_path}
use Rattle.plant_model.specs.Branches.{open_branch, path_of}
use Rattle.plant_model.specs.Element.{Item, Row, ElementSettings, Ready, is_client}
use Rattle.plant_model.specs.Solving.{closed_paths, free}
use Rattle.plant_model.specs.Parent as parent
use Rattle.plant_model.specs.BorderGraph.{Found, SolvesBorder}
use Rattle.plant_model.specs.Settings.{place, family}
use Rattle.plant_model.specs.State.{Solves}
use Rattle.plant_model.specs.Plant.{Pin, Segment, Plant, PlantDeed, Happened, Entry, Run, Steps, ask}

-- the reply to the request of a row
abbrev pub reply_to : Row Pin → Answered → Message
reply_to h answer = reply_message h.1.item.flags h.1.key.id answer

-- to a client
pub data TellsClient (c : Codec) (h : Row Pin) (down : List Branch) (rows : Answer) (m : Message) : Type 0 where
  -- the join has a pair for its source, which is its one entry
  its_path : (b : Best) → rows.best ≡ b ∷ [] → b.entry ≡ h.1.item.wanted.source →
      m ≡ reply_to h (Paths (path_of c h.1.item.wanted.query.metric b.cost (open_branch b down) ∷ [])) → TellsClient c h down rows m
  -- it has none; the bits say which of its ends are no nodes here
  no_pair : rows.best ≡ [] → m ≡ reply_to h (no_path rows.source_known rows.target_known) → TellsClient c h down rows m

-- to a neighbour, or the parent, at a moment and with these keys
pub data TellsClosed (c : Codec) (e : ElementSettings) (h : Row Pin) (down : List Branch) (now : ℕ) (keys : Keys Segment) (best : List Best) (m : Message) : Type 0 where
  -- a branch for each entry that has a pair, in their order, each with its cost and a key of its own
  branches : best ≢ [] → length best ≤ free now keys →
      m ≡ reply_to h (Paths (closed_paths c e.id h.1.item.wanted.query.metric h.1.item.wanted.target down keys.next best)) → TellsClosed c e h down now keys best m
  -- no entry has one
  no_branch : best ≡ [] → m ≡ reply_to h (NoPath no_paths.NONE_FOUND 0) → TellsClosed c e h down now keys best m
  -- they need more keys than are free
  lacks_keys : free now keys < length best → m ≡ busy h.1.item.flags h.1.key.id → TellsClosed c e h down now keys best m

-- A solve at an element: the request was pending and ready, its job was solved over the topology that it pinned, and this is
-- what was sent.
pub record ElementTells (c : Codec) (n : NetworkParts) (before : Plant) (d : As) (k : ℕ) (deeds : List PlantDeed) : Type 0 where
  pub upper : same_as d parent_as ≡ false
  pub held : Held (Item Pin)
  pub is_held : lookup (nat_eq k) (before.elements d).pending.rows ≡ Some held
  pub down : List Branch
  pub ready : held.item.stage ≡ Ready down
  pub rows : Answer
  pub right : AreRows held.item.pin.topology (ask c n d (k, held) down) rows
  pub message : Message
  pub keys : List (Issued Segment)
  pub sends_one : deeds ≡ Solves d k (record { to = held.key.peer; message = message } ∷ []) keys ∷ []
  pub to_client : is_client held.item.class ≡ true → TellsClient c (k, held) down rows message
  pub to_closed : is_client held.item.class ≡ false → TellsClosed c (place n d) (k, held) down before.clock (before.elements d).keys rows.best message

-- the same at the parent, over its border graph
pub data TellsUpper (c : Codec) (h : parent.AskingRow) (answer : Option Found) (m : Message) : Type 0 where
  found : (a : Found) → answer ≡ Some a → m ≡ reply_message h.1.item.flags h.1.key.id (Paths (path_of c h.1.item.wanted.query.metric a.cost a.hops ∷ [])) → TellsUpper c h answer m
  no_walk : answer ≡ None → m ≡ reply_message h.1.item.flags h.1.key.id (NoPath no_paths.NONE_FOUND 0) → TellsUpper c h answer m

pub record ParentTells (c : Codec) (n : NetworkParts) (before : Plant) (k : ℕ) (deeds : List PlantDeed) : Type 0 where
  pub held : Held parent.Asking
  pub is_held : lookup (nat_eq k) before.parent.pending.rows ≡ Some held
  pub ready : parent.is_ready held.item ≡ true
  pub answer : Option Found
  pub solves : SolvesBorder (parent.job_of (family n) (k, held)) answer
  pub message : Message
  pub sends_one : deeds ≡ Solves parent_as k (record { to = held.key.peer; message = message } ∷ []) [] ∷ []
  pub tells : TellsUpper c (k, held) answer message

-- In every run, each solve that is accepted sends exactly one message, and this one.
abbrev pub SolvesTell : Type 0
SolvesTell = (c : Codec) (n : NetworkParts) (older : List Entry) (before : Plant) → Run c n older before →
    (d : As) (k : ℕ) (h : Happened) → Steps c n before (event.Solve d k) h → (o : Outcome) → h.answer ≡ Ok o →
    ElementTells c n before d k h.deeds ⊎ ((d ≡ parent_as) × ParentTells c n before k h.deeds)
