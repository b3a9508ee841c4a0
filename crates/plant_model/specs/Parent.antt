-- The parent (RFC 6805, section 4.6): it asks its children, one request for each end of interest, and joins what they answer.
-- What each letter stands for is in docs/GLOSSARY.md, under Letters.
use Rattle.std.specs.Prelude.{ℕ, Bool, true, false, not, cond, ◌==◌, List, [], ◌∷◌, ◌++◌, map, filter, Option, Some, None}
use Rattle.plant_model.specs.Types.{As, Addr, ParentLink, Peer, Outside, Inner, Message, Asked, Reply, Notice, ErrorReport, Answer, Request, Wanted, Wish, Branch, Held}
use Rattle.pcep_codes.specs.declared.errors.TheConstants as errors
use Rattle.pcep_codes.specs.declared.notices.TheConstants as notices
use Rattle.pcep_codes.specs.declared.no_paths.TheConstants as no_paths
use Rattle.pcep_messages.specs.declared.message.Message.TheVariants as messages
use Rattle.pcep_messages.specs.declared.message.Answer.TheVariants.{Paths, NoPath}
use Rattle.pcep_messages.specs.declared.message.Wish.TheVariants.{Path, Expand}
use Rattle.request_table.specs.Pending.{Pending, number_of, opened_of, closed_of, is_full, same_peer}
use Rattle.request_table.specs.Lends.{written_of}
use Rattle.plant_model.specs.declared.output.Output.{Output}
use Rattle.plant_model.specs.declared.output.Lost.{Lost}
use Rattle.plant_model.specs.declared.upper.ChildRow.{ChildRow}
use Rattle.plant_model.specs.declared.upper.BorderJob.{BorderJob}
use Rattle.plant_text.specs.Names.{same_as, parent_as}
use Rattle.plant_model.specs.Names.{same_id, has_pair}
use Rattle.plant_model.specs.Rising.{has_addr, insert_addr}
use Rattle.plant_model.specs.Wire.{Codec, Checked, Admitted, Wrong}
use Rattle.plant_model.specs.Writing.{request_message, reply_message, error_message, busy, unavailable, no_key, none_between}
use Rattle.plant_model.specs.Branches.{branches_in, path_of}
use Rattle.plant_model.specs.Element.{Way, way_to, with_last, with_up, after_id, pass_over, lost_output}
use Rattle.plant_model.specs.Taking.{error_answer}
use Rattle.plant_model.specs.BorderGraph.{Found}

-- a request to a child that is not answered yet
pub record Wait : Type 0 where
  pub peer : Peer
  pub id : ℕ
  pub child : As
  pub target : Addr

-- a request that the parent accepted
pub record Asking : Type 0 where
  pub flags : ℕ
  pub wanted : Wanted
  pub waits : List Wait
  pub rows : List ChildRow

abbrev pub AskingRow : Type 0
AskingRow = ℕ × Held Asking

pub record Parent : Type 0 where
  pub pending : Pending Asking
  pub ways : List Way

-- how many requests may be pending at the parent
abbrev pub pending_most : ℕ
pending_most = 64

-- the settings of the parent; the children in rising order
pub record Family : Type 0 where
  pub children : List As
  pub links : List ParentLink

pub record ParentTaken : Type 0 where
  pub parent : Parent
  pub outputs : List Output

abbrev pub silent : Parent → ParentTaken
silent k = record { parent = k; outputs = [] }

abbrev pub only : Peer → Message → Parent → ParentTaken
only to m k = record { parent = k; outputs = record { to = to; message = m } ∷ [] }

abbrev pub each : {X : Type 0} → (X → Parent → ParentTaken) → List X → Parent → ParentTaken
each f [] k = silent k
each f (x ∷ xs) k =
    let first = f x k in
    let rest = each f xs first.parent in
    record { parent = rest.parent; outputs = first.outputs ++ rest.outputs }

-- The ends of interest of a child: the tails of the links that leave it, rising, each once; last the destination, where it is
-- none of them.
abbrev pub tails : As → List ParentLink → List Addr
tails child [] = []
tails child (l ∷ ls) = cond (same_as l.from_as child) (insert_addr l.link.from (tails child ls)) (tails child ls)

abbrev pub with_end : Addr → List Addr → List Addr
with_end t ns = cond (has_addr t ns) ns (ns ++ t ∷ [])

pub record Errand : Type 0 where
  pub child : As
  pub target : Addr

abbrev pub errands_to : As → List Addr → List Errand
errands_to child [] = []
errands_to child (n ∷ ns) = record { child = child; target = n } ∷ errands_to child ns

abbrev pub errands : List ParentLink → Addr → List As → List Errand
errands links t [] = []
errands links t (child ∷ rest) = errands_to child (with_end t (tails child links)) ++ errands links t rest

-- the ids that wait
abbrev pub among : Peer → List Wait → ℕ → Bool
among p [] y = false
among p (w ∷ ws) y = cond (same_id w.peer w.id p y) true (among p ws y)

abbrev pub waiting : Peer → ℕ → List AskingRow → Option AskingRow
waiting p y [] = None
waiting p y (h ∷ hs) = cond (among p h.1.item.waits y) (Some h) (waiting p y hs)

-- every id that waits, as a bound on how many ids are skipped
abbrev pub all_waits : List AskingRow → List Wait
all_waits [] = []
all_waits (h ∷ hs) = h.1.item.waits ++ all_waits hs

-- the id that was sent last; each child has a way, so None is never asked
abbrev pub last_to : Option Way → ℕ
last_to None = 0
last_to (Some w) = w.last_id

abbrev pub next_id : Peer → List Wait → List Way → ℕ
next_id p waits ways = pass_over waits (among p waits) (after_id (last_to (way_to p ways)))

-- the requests to the children, one after the other
pub record Asks : Type 0 where
  pub waits : List Wait
  pub ways : List Way
  pub outputs : List Output

abbrev pub ask_all : Wanted → List Wait → List Errand → List Way → Asks
ask_all w taken [] ways = record { waits = []; ways = ways; outputs = [] }
ask_all w taken (r ∷ rs) ways =
    let p = Inner r.child in
    let y = next_id p taken ways in
    let one : Wait = record { peer = p; id = y; child = r.child; target = r.target } in
    let rest = ask_all w (one ∷ taken) rs (with_last p y ways) in
    record {
      waits = one ∷ rest.waits;
      ways = rest.ways;
      outputs = record { to = p; message = request_message y w r.target (r.child ∷ []) } ∷ rest.outputs;
    }

-- the session of each child is up; None is never asked here either
abbrev pub is_up : Option Way → Bool
is_up None = false
is_up (Some w) = w.up

abbrev pub all_up : List As → List Way → Bool
all_up [] ways = true
all_up (child ∷ rest) ways = cond (is_up (way_to (Inner child) ways)) (all_up rest ways) false

abbrev pub take_path : Family → Peer → ℕ → ℕ → Wanted → Parent → ParentTaken
take_path f p flags x w k =
    let asks = ask_all w (all_waits k.pending.rows) (errands f.links w.target f.children) k.ways in
    record {
      parent = record { pending = opened_of k.pending p x (record { flags = flags; wanted = w; waits = asks.waits; rows = [] }); ways = asks.ways };
      outputs = asks.outputs;
    }

abbrev pub take_wish : Family → Peer → ℕ → ℕ → Parent → Wish → ParentTaken
take_wish f p flags x k (Expand key pce) = only p (reply_message flags x no_key) k
take_wish f p flags x k (Path w) =
    cond (is_full k.pending) (only p (busy flags x) k)
    (cond (all_up f.children k.ways) (take_path f p flags x w k) (only p (reply_message flags x unavailable) k))

abbrev pub take_new : Family → Peer → Request → Parent → Option ℕ → ParentTaken
take_new f p r k (Some number) = silent k
take_new f p r k None = take_wish f p r.flags r.id k r.wish

abbrev pub take_checked : Family → Peer → Parent → Checked → ParentTaken
take_checked f p k (Wrong rp kind value) = only p (error_message rp kind value) k
take_checked f p k (Admitted r) = take_new f p r k (number_of k.pending p r.id)

abbrev pub take_asked : Codec → Family → Peer → Asked → Parent → ParentTaken
take_asked c f p a k = take_checked f p k (c.check a parent_as)

abbrev pub ended : ℕ → Parent → Parent
ended number k = record k { pending = closed_of k.pending number }

abbrev pub answered : AskingRow → Message → Parent → ParentTaken
answered h m k = only h.1.key.peer m (ended h.0 k)

-- the rows of a child's answer to one of its requests
abbrev pub rows_at : As → Addr → List Branch → List ChildRow
rows_at child target [] = []
rows_at child target (b ∷ bs) = record { at = child; entry = b.entry; target = target; cost = b.cost; hops = b.hops } ∷ rows_at child target bs

abbrev pub rows_for : Peer → ℕ → List Branch → List Wait → List ChildRow
rows_for p y bs [] = []
rows_for p y bs (w ∷ ws) = cond (same_id w.peer w.id p y) (rows_at w.child w.target bs) (rows_for p y bs ws)

abbrev pub without : Peer → ℕ → List Wait → List Wait
without p y [] = []
without p y (w ∷ ws) = cond (same_id w.peer w.id p y) ws (w ∷ without p y ws)

abbrev pub gathered : Peer → ℕ → List Branch → Asking → Asking
gathered p y bs i = record i { waits = without p y i.waits; rows = i.rows ++ rows_for p y bs i.waits }

abbrev pub gathers : Peer → ℕ → List Branch → AskingRow → Parent → ParentTaken
gathers p y bs h k = silent (record k { pending = written_of k.pending h.0 (gathered p y bs h.1.item) })

abbrev pub take_answer : Codec → Peer → ℕ → AskingRow → Parent → Answer → ParentTaken
take_answer c p y h k (Paths ps) = gathers p y (branches_in c h.1.item.wanted.query.metric ps) h k
take_answer c p y h k (NoPath nature vector) =
    cond (nature == no_paths.NONE_FOUND) (gathers p y [] h k) (answered h (reply_message h.1.item.flags h.1.key.id unavailable) k)

abbrev pub take_found : Codec → Peer → Reply → Parent → Option AskingRow → ParentTaken
take_found c p r k None = only p (error_message (Some (r.flags, r.id)) errors.UNKNOWN_REQUEST.0 errors.UNKNOWN_REQUEST.1) k
take_found c p r k (Some h) = take_answer c p r.id h k r.answer

abbrev pub take_reply : Codec → Peer → Reply → Parent → ParentTaken
take_reply c p r k = take_found c p r k (waiting p r.id k.pending.rows)

abbrev pub told_busy : Parent → Option AskingRow → ParentTaken
told_busy k None = silent k
told_busy k (Some h) = answered h (busy h.1.item.flags h.1.key.id) k

abbrev pub cancelled : Parent → Option ℕ → ParentTaken
cancelled k None = silent k
cancelled k (Some number) = silent (ended number k)

abbrev pub take_busy : Peer → ℕ × ℕ → Parent → ParentTaken
take_busy p rp k = told_busy k (waiting p rp.1 k.pending.rows)

abbrev pub take_cancel : Peer → ℕ × ℕ → Parent → ParentTaken
take_cancel p rp k = cancelled k (number_of k.pending p rp.1)

abbrev pub notice_steps : List (ℕ × ℕ) → List (Peer → ℕ × ℕ → Parent → ParentTaken)
notice_steps kinds =
    cond (has_pair notices.BUSY.0 notices.BUSY.1 kinds)
    (cond (has_pair notices.CANCELLED.0 notices.CANCELLED.1 kinds) (take_busy ∷ take_cancel ∷ []) (take_busy ∷ []))
    (cond (has_pair notices.CANCELLED.0 notices.CANCELLED.1 kinds) (take_cancel ∷ []) [])

abbrev pub take_notice : Peer → Notice → Parent → ParentTaken
take_notice p n = each (λ rp. each (λ step. step p rp) (notice_steps n.kinds)) n.ids

abbrev pub told_error : AskingRow → Parent → List Message → ParentTaken
told_error h k [] = silent k
told_error h k (m ∷ ms) = answered h m k

abbrev pub take_failure : ℕ × ℕ → Parent → Option AskingRow → ParentTaken
take_failure e k None = silent k
take_failure e k (Some h) = told_error h k (error_answer e h.1.item.flags h.1.key.id)

abbrev pub take_errors : Peer → List (ℕ × ℕ) → List (ℕ × ℕ) → Parent → ParentTaken
take_errors p ids [] = silent
take_errors p ids (e ∷ es) = each (λ rp k. take_failure e k (waiting p rp.1 k.pending.rows)) ids

abbrev pub take_report : Peer → ErrorReport → Parent → ParentTaken
take_report p r = take_errors p r.ids r.errors

-- What the parent does with a message that its session passes; the session takes the last four itself, so they are never asked.
abbrev pub take : Codec → Family → Peer → Message → Parent → ParentTaken
take c f p (messages.PcReq asks) = each (take_asked c f p) asks
take c f p (messages.PcRep replies) = each (take_reply c p) replies
take c f p (messages.PcNtf notices) = each (take_notice p) notices
take c f p (messages.PcErr reports) = each (take_report p) reports
take c f p (messages.Open body) = silent
take c f p messages.Keepalive = silent
take c f p (messages.Close reason) = silent
take c f p (messages.Other kind) = silent

-- a session comes up
abbrev pub upped : Peer → Parent → Parent
upped p k = record k { ways = with_up p true k.ways }

-- A session goes down: the peer's own requests are dropped, and those that wait on it are lost.
abbrev pub any_on : Peer → List Wait → Bool
any_on p [] = false
any_on p (w ∷ ws) = cond (same_peer w.peer p) true (any_on p ws)

abbrev pub stays : Peer → AskingRow → Bool
stays p h = cond (same_peer h.1.key.peer p) false (not (any_on p h.1.item.waits))

abbrev pub is_lost : Peer → AskingRow → Bool
is_lost p h = cond (same_peer h.1.key.peer p) false (any_on p h.1.item.waits)

abbrev pub lost_of : AskingRow → Lost
lost_of h = record { to = h.1.key.peer; flags = h.1.item.flags; id = h.1.key.id }

abbrev pub kept : Peer → List AskingRow → List AskingRow
kept p hs = filter (stays p) hs

-- in the order of their numbers
abbrev pub lost : Peer → List AskingRow → List Lost
lost p hs = map lost_of (filter (is_lost p) hs)

abbrev pub downed : Peer → Parent → ParentTaken
downed p k = record {
  parent = record { pending = record k.pending { rows = kept p k.pending.rows }; ways = with_up p false k.ways };
  outputs = map lost_output (lost p k.pending.rows);
}

-- The parent with the lost requests that it has yet to hand out, one by one.
pub record Losing : Type 0 where
  pub parent : Parent
  pub lost : List Lost

abbrev pub down_of : Peer → Losing → Losing
down_of p l = record { parent = (downed p l.parent).parent; lost = l.lost ++ lost p l.parent.pending.rows }

abbrev pub handed_lost : Parent → List Lost → Option Lost × Losing
handed_lost k [] = (None, record { parent = k; lost = [] })
handed_lost k (x ∷ xs) = (Some x, record { parent = k; lost = xs })

abbrev pub next_lost_of : Losing → Option Lost × Losing
next_lost_of l = handed_lost l.parent l.lost

-- a job is ready when every request to a child is answered
abbrev pub is_ready : Asking → Bool
is_ready i = elim i.waits [ [] ↦ true | w ∷ ws ↦ false ]

-- the numbers of the requests that can be solved, rising
abbrev pub ready_numbers : List AskingRow → List ℕ
ready_numbers rows = map (λ h. h.0) (filter (λ h. is_ready h.1.item) rows)

-- children alone ask, so an outside peer is never asked
abbrev pub start_of : Peer → As
start_of (Inner a) = a
start_of (Outside i) = parent_as

-- the job of a pending request
abbrev pub job_of : Family → AskingRow → BorderJob
job_of f h = record {
  number = h.0;
  start = start_of h.1.key.peer;
  source = h.1.item.wanted.source;
  target = h.1.item.wanted.target;
  query = h.1.item.wanted.query;
  rows = h.1.item.rows;
  links = f.links;
}

-- The answer to the child that asked.
abbrev pub commit : Codec → AskingRow → Option Found → Parent → ParentTaken
commit c h None k = answered h (reply_message h.1.item.flags h.1.key.id none_between) k
commit c h (Some a) k = answered h (reply_message h.1.item.flags h.1.key.id (Paths (path_of c h.1.item.wanted.query.metric a.cost a.hops ∷ []))) k
