-- The subject of an answer: the request that is open, and the chain that it took; or the parent, which asked its children.
use Rattle.std.specs.Prelude.{◌≡◌, ◌≤◌, ℕ, Bool, true, false, List, [], ◌∷◌, ◌++◌, Contains, Option, Some, bit_and}
use Rattle.plant_model.specs.Types.{As, Addr, Peer, Inner, Query, Reply, Path, Request, Wanted, NetworkParts, Issued, Metric, Answer, Branch}
use Rattle.te_links.specs.Rows.{Rows}
use Rattle.walk_laws.specs.Crossing.{Goal, Last, query_in, IsLeastCrossing, HasNoCrossing, crossing_cost}
use Rattle.walk_laws.specs.Crossing as crossing
use Rattle.pcep_codes.specs.declared.flags.TheConstants as flags
use Rattle.pcep_messages.specs.declared.message.Answer.TheVariants.{Paths, NoPath}
use Rattle.pcep_messages.specs.declared.message.Message.TheVariants as messages
use Rattle.pcep_messages.specs.declared.message.Wish.TheVariants as wishes
use Rattle.plant_model.specs.declared.output.Output.{Output}
use Rattle.plant_model.specs.declared.upper.ChildRow.{ChildRow}
use Rattle.plant_model.specs.declared.upper.BorderJob.{BorderJob}
use Rattle.plant_text.specs.Names.{parent_as}
use Rattle.plant_model.specs.Wire.{Codec}
use Rattle.pcep_messages.specs.Requests.{type_of_metric}
use Rattle.plant_model.specs.Writing.{request_message}
use Rattle.plant_model.specs.Branches.{branches_in}
use Rattle.plant_model.specs.Element.{id_most}
use Rattle.plant_model.specs.Taking.{sequence_or, goes_up}
use Rattle.plant_model.specs.BorderGraph.{SolvesBorder, Found}
use Rattle.plant_model.specs.Parent.{rows_at, Errand, errands}
use Rattle.plant_text.specs.Settings.{class_of}
use Rattle.plant_model.specs.Settings.{place, family}
use Rattle.plant_model.specs.State.{Takes, Solves}
use Rattle.plant_model.specs.Plant.{PlantDeed, Segment}
use Rattle.plant_laws.specs.Transcript.{Transcript, Within, opened, Delivered, Handed, SentIn, Visit, Chain, numbers, outputs_at, asks, effect, Ends}
use Rattle.plant_laws.specs.Ends.{End, goal_of, ChainEnds}
use Rattle.plant_laws.specs.Shown.{ShowsAlong}

-- no id wraps around
abbrev pub IsShort : Transcript → Type 0
IsShort now = (a b : As) → asks a b now ≤ id_most

-- without the flag of a key's expansion
abbrev pub IsPathAnswer : Reply → Type 0
IsPathAnswer r = bit_and r.flags flags.PATH_KEY ≡ 0

-- In this moment of a run d sends a peer a message with this reply.
pub record Replies (now m older : Transcript) (d : As) (p : Peer) (r : Reply) : Type 0 where
  pub deed : PlantDeed
  pub is : m ≡ deed ∷ older
  pub within : Within m now
  pub replies : List Reply
  pub sent : Contains (outputs_at d deed) (record { to = p; message = messages.PcRep replies })
  pub among : Contains replies r
  pub answer : IsPathAnswer r

-- The moment that answered a leg is the very solve that ended the request which the leg's moment delivered from this peer.
pub record IsSolvedFor (c : Codec) (p : Peer) (leg : Visit) : Type 0 where
  pub number : ℕ
  pub outputs : List Output
  pub keys : List (Issued Segment)
  pub before : Transcript
  pub is : leg.solved ≡ Solves leg.own number outputs keys ∷ before
  pub id : ℕ
  pub is_open : opened c leg.own p id before ≡ Some leg.at
  pub ends : effect c leg.own p id (Solves leg.own number outputs keys) ≡ Ends

-- of each leg: the peer asked the first, and each asked the next
abbrev pub AreSolved : Codec → Peer → List Visit → Type 0
AreSolved c p [] = Unit {0}
AreSolved c p (leg ∷ legs) = IsSolvedFor c p leg × AreSolved c (Inner leg.own) legs

-- The reply of d to the peer p, sent in the moment now, is about this request, which took this chain and ended so: in the last domain
-- of its sequence, or before those that an outside peer was asked for.
pub record IsAbout (c : Codec) (n : NetworkParts) (older now : Transcript) (d : As) (p : Peer) (r : Request) (w : Wanted) (chain : List Visit) (end : End) : Type 0 where
  pub at : Transcript
  pub is_open : opened c d p r.id older ≡ Some at
  pub delivered : Delivered c at d p r
  pub is_path : r.wish ≡ wishes.Path w
  pub stays : goes_up (place n d).parent (class_of n p) w.sequence ≡ false
  pub rest : List Visit
  pub begins : chain ≡ record { own = d; at = at; solved = now } ∷ rest
  pub chained : Chain now chain
  pub solved : AreSolved c p chain
  pub behind : List As
  pub along : numbers chain ++ behind ≡ sequence_or d w.sequence
  pub ends : ChainEnds c n w behind chain end

-- the branches that a reply tells
abbrev pub told_in : Codec → Metric → Answer → List Branch
told_in c m (Paths paths) = branches_in c m paths
told_in c m (NoPath nature vector) = []

-- A row that the parent has from a child: of a reply to one of the requests that it sent in that moment.
pub record IsGathered (c : Codec) (now asking : Transcript) (w : Wanted) (row : ChildRow) : Type 0 where
  pub reply : Reply
  pub sent : SentIn asking parent_as (Inner row.at) (request_message reply.id w row.target (row.at ∷ []))
  pub os : List Output
  pub older : Transcript
  pub within : Within (Takes parent_as (Inner row.at) (messages.PcRep (reply ∷ [])) os ∷ older) now
  pub is_row : Contains (rows_at row.at row.target (told_in c w.query.metric reply.answer)) row

-- A child was asked in that moment for one of its ends of interest, it replied, and all rows of its reply are among these.
pub record HasReplied (c : Codec) (now asking : Transcript) (w : Wanted) (rows : List ChildRow) (end : Errand) : Type 0 where
  pub reply : Reply
  pub sent : SentIn asking parent_as (Inner end.child) (request_message reply.id w end.target (end.child ∷ []))
  pub os : List Output
  pub older : Transcript
  pub within : Within (Takes parent_as (Inner end.child) (messages.PcRep (reply ∷ [])) os ∷ older) now
  pub all : (row : ChildRow) → Contains (rows_at end.child end.target (told_in c w.query.metric reply.answer)) row → Contains rows row

-- what the parent is asked of a request: the same, with its own number as the query's domain, and without a sequence
abbrev pub upward : Wanted → Wanted
upward w = record w { query = query_in w.query parent_as; sequence = [] }

-- The request of a peer that is open at d went up to the parent.
pub record WentUp (c : Codec) (n : NetworkParts) (older : Transcript) (d : As) (p : Peer) (x : ℕ) : Type 0 where
  pub at : Transcript
  pub is_open : opened c d p x older ≡ Some at
  pub request : Request
  pub wanted : Wanted
  pub delivered : Delivered c at d p request
  pub is_path : request.wish ≡ wishes.Path wanted
  pub goes : goes_up (place n d).parent (class_of n p) wanted.sequence ≡ true
  pub asking : Transcript
  pub handed : Handed d parent_as at asking

-- In that moment d asked the parent what it was asked itself.
pub record AsksParent (c : Codec) (d : As) (asking : Transcript) (wanted : Wanted) : Type 0 where
  pub upper : Request
  pub asked : Wanted
  pub taken : Delivered c asking parent_as (Inner d) upper
  pub is_asked : upper.wish ≡ wishes.Path asked
  pub question : asked ≡ upward wanted

-- What the parent found for d over its border graph, whose rows are those of its children's replies, one reply for each end of interest of
-- each child.
pub record ParentFinds (c : Codec) (n : NetworkParts) (now : Transcript) (d : As) (asking : Transcript) (asked : Wanted) (found : Option Found) : Type 0 where
  pub job : BorderJob
  pub start : job.start ≡ d
  pub source : job.source ≡ asked.source
  pub target : job.target ≡ asked.target
  pub query : job.query ≡ asked.query
  pub links : job.links ≡ n.parent_links
  pub each : (row : ChildRow) → Contains job.rows row → IsGathered c now asking asked row
  pub every : (end : Errand) → Contains (errands n.parent_links asked.target (family n).children) end → HasReplied c now asking asked job.rows end
  pub solved : SolvesBorder job found

-- The reply of d to its client is what the parent found.
pub record IsViaParent (c : Codec) (n : NetworkParts) (older now : Transcript) (d : As) (p : Peer) (x : ℕ) (found : Option Found) : Type 0 where
  pub up : WentUp c n older d p x
  pub asks : AsksParent c d up.asking up.wanted
  pub finds : ParentFinds c n now d up.asking asks.asked found

-- The first domain and the further ones of a chain, with a walk through them. No chain is empty, and nothing is said of one that were.
abbrev pub IsLeastAlong : Query → List Rows → Addr → Goal → List crossing.Leg → Last → Type 0
IsLeastAlong q [] s goal legs last = ⊥
IsLeastAlong q (g ∷ rest) s goal legs last = IsLeastCrossing q g rest s goal legs last

abbrev pub HasNoneAlong : Query → List Rows → Addr → Goal → Type 0
HasNoneAlong q [] s goal = ⊥
HasNoneAlong q (g ∷ rest) s goal = HasNoCrossing q g rest s goal

-- The path shows a walk from a node that is least through these domains, the first part open or closed, and its metric is the
-- walk's cost.
pub record IsLeastPath (c : Codec) (n : NetworkParts) (open' : Bool) (domains : List Rows) (chain : List Visit) (end : End) (w : Wanted) (from : Addr) (path : Path) : Type 0 where
  pub legs : List crossing.Leg
  pub last : Last
  pub least : IsLeastAlong w.query domains from (goal_of end) legs last
  pub metric : path.metric ≡ Some (type_of_metric w.query.metric, c.word (crossing_cost w.query legs last))
  pub shown : ShowsAlong n open' w.query end chain from path.hops legs last
