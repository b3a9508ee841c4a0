-- Why elements and the parent put out what they put out for their peers, by cases of what came (RFC 5440, sections 6 and 7; RFC 5441,
-- section 5; RFC 6805, section 4.6). Each case gives the whole list of messages, so where its cause holds these are sent, and no
-- others. That an answer of paths, or that there are none, is right is said in Solves and Headline.
use Rattle.std.specs.Prelude.{◌≡◌, ◌⊎◌, ℕ, Bool, true, false, List, [], ◌∷◌, ◌++◌, map, Contains, Option, Some, None}
use Rattle.plant_model.specs.Types.{As, Addr, Peer, Inner, Message, Asked, Reply, Notice, ErrorReport, Answer, Request, Wanted, NetworkParts}
use Rattle.pcep_codes.specs.declared.errors.TheConstants as errors
use Rattle.pcep_codes.specs.declared.notices.TheConstants as notices
use Rattle.pcep_codes.specs.declared.no_paths.TheConstants as no_paths
use Rattle.pcep_messages.specs.declared.message.Message.TheVariants as messages
use Rattle.pcep_messages.specs.declared.message.Answer.TheVariants.{Paths, NoPath}
use Rattle.pcep_messages.specs.declared.message.Wish.TheVariants as wishes
use Rattle.disclosure.specs.Policy.{can_expand, is_denied}
use Rattle.disclosure.specs.Shown.{open_of}
use Rattle.request_table.specs.Pending.{IsFull, number_of, same_peer}
use Rattle.path_keys.specs.Keys.{segment_of}
use Rattle.plant_text.specs.Names.{parent_as}
use Rattle.plant_text.specs.Settings.{class_of, children}
use Rattle.plant_model.specs.declared.output.Output.{Output}
use Rattle.plant_model.specs.Names.{the_parent, has_pair}
use Rattle.plant_model.specs.Wire.{Codec, Admitted, Wrong}
use Rattle.plant_model.specs.Writing.{request_message, reply_message, error_message, busy, unavailable, no_key}
use Rattle.plant_model.specs.Element.{Waits, Element, Row, Way, fresh_id, way_to}
use Rattle.plant_model.specs.Taking.{goes_up, sequence_or}
use Rattle.plant_model.specs.Taking as taking
use Rattle.plant_model.specs.Parent.{Wait, AskingRow, Parent, Errand, errands, is_up}
use Rattle.plant_model.specs.Parent as parent
use Rattle.plant_model.specs.Settings.{place, family}
use Rattle.plant_model.specs.Routes.{toward}
use Rattle.plant_model.specs.Plant.{Pin, Segment}
use Rattle.plant_laws.specs.Keys.{shown_answer}

-- ---- who asked, and what it is told

pub record Asker : Type 0 where
  pub peer : Peer
  pub flags : ℕ
  pub id : ℕ

abbrev pub told : Asker → Message → List Output
told a m = record { to = a.peer; message = m } ∷ []

abbrev pub replied : Asker → Answer → List Output
replied a answer = told a (reply_message a.flags a.id answer)

-- the chain is not available: NO-PATH of nature 1 with bit 28
abbrev pub chain_broken : Asker → List Output
chain_broken a = replied a unavailable

-- PCNtf 1/2
abbrev pub table_full : Asker → List Output
table_full a = told a (busy a.flags a.id)

-- who asked for what waits for the answer of a peer to an id, at an element and at the parent
pub record WaitsAt (k : Element Pin Segment) (p : Peer) (y : ℕ) (a : Asker) : Type 0 where
  pub row : Row Pin
  pub is_row : Contains k.pending.rows row
  pub waits : row.1.item.stage ≡ Waits p y
  pub asked : a ≡ record { peer = row.1.key.peer; flags = row.1.item.flags; id = row.1.key.id }

pub record WaitsAbove (k : Parent) (p : Peer) (y : ℕ) (a : Asker) : Type 0 where
  pub row : AskingRow
  pub is_row : Contains k.pending.rows row
  pub wait : Wait
  pub is_wait : Contains row.1.item.waits wait
  pub peer : wait.peer ≡ p
  pub id : wait.id ≡ y
  pub asked : a ≡ record { peer = row.1.key.peer; flags = row.1.item.flags; id = row.1.key.id }

-- ---- answers from where requests were sent: Waiting has whoever waits for one

abbrev pub IsNobody : (Asker → Type 0) → Type 0
IsNobody Waiting = (a : Asker) → ¬ Waiting a

-- paths, or that there are none
abbrev pub TellsOfPaths : Answer → Type 0
TellsOfPaths (Paths paths) = Unit {0}
TellsOfPaths (NoPath nature vector) = nature ≡ no_paths.NONE_FOUND

-- a reply of the peer p; the parent's, which goes on as it is
pub data OnReply (Waiting : Asker → Type 0) (of_parent : Bool) (p : Peer) (r : Reply) (os : List Output) : Type 0 where
  -- nothing waits for its id: PCErr 8/0 with that RP
  unknown : IsNobody Waiting → os ≡ record { to = p; message = error_message (Some (r.flags, r.id)) errors.UNKNOWN_REQUEST.0 errors.UNKNOWN_REQUEST.1 } ∷ [] → OnReply Waiting of_parent p r os
  goes_on : (a : Asker) → Waiting a → of_parent ≡ true → os ≡ replied a r.answer → OnReply Waiting of_parent p r os
  -- it is kept for the job
  is_kept : (a : Asker) → Waiting a → of_parent ≡ false → TellsOfPaths r.answer → os ≡ [] → OnReply Waiting of_parent p r os
  -- NO-PATH of another nature
  is_broken : (a : Asker) → Waiting a → of_parent ≡ false → ¬ TellsOfPaths r.answer → os ≡ chain_broken a → OnReply Waiting of_parent p r os

-- an id of a notice
pub data OnNotice (Waiting : Asker → Type 0) (kinds : List (ℕ × ℕ)) (os : List Output) : Type 0 where
  -- PCNtf 1/2 goes on to whoever asked
  next_is_full : (a : Asker) → has_pair notices.BUSY.0 notices.BUSY.1 kinds ≡ true → Waiting a → os ≡ table_full a → OnNotice Waiting kinds os
  noted_for_nobody : IsNobody Waiting → os ≡ [] → OnNotice Waiting kinds os
  -- another kind, as that the peer cancels its request
  of_other_kind : has_pair notices.BUSY.0 notices.BUSY.1 kinds ≡ false → os ≡ [] → OnNotice Waiting kinds os

abbrev pub IsError : ℕ × ℕ → ℕ × ℕ → Type 0
IsError e error = (e.0 ≡ error.0) × (e.1 ≡ error.1)

-- the request was not served there: PCErr 4/4, or 13/1 from further on
abbrev pub IsOutOfProfile : ℕ × ℕ → Type 0
IsOutOfProfile e = IsError e errors.PARAMETER_NOT_SERVED ⊎ IsError e errors.CHAIN_FAILED

-- an id of an error, by the first error that it came with
pub data OnError (Waiting : Asker → Type 0) (e : ℕ × ℕ) (os : List Output) : Type 0 where
  failed_for_nobody : IsNobody Waiting → os ≡ [] → OnError Waiting e os
  -- PCErr 8/0 answers a reply
  of_reply : IsError e errors.UNKNOWN_REQUEST → os ≡ [] → OnError Waiting e os
  -- PCErr 13/1
  out_of_profile : (a : Asker) → Waiting a → IsOutOfProfile e → os ≡ told a (error_message (Some (a.flags, a.id)) errors.CHAIN_FAILED.0 errors.CHAIN_FAILED.1) → OnError Waiting e os
  other_error : (a : Asker) → Waiting a → ¬ IsError e errors.UNKNOWN_REQUEST → ¬ IsOutOfProfile e → os ≡ chain_broken a → OnError Waiting e os

-- ---- a request

-- where a path request goes on from an element: to the parent, or to whom is asked for the next domain of its sequence
pub data GoesTo (n : NetworkParts) (d : As) (p : Peer) (w : Wanted) (next : Peer) (rest : List As) (denied : Bool) : Type 0 where
  upward : goes_up (place n d).parent (class_of n p) w.sequence ≡ true → next ≡ the_parent → rest ≡ [] → denied ≡ false → GoesTo n d p w next rest denied
  along : (own b : As) (more : List As) → goes_up (place n d).parent (class_of n p) w.sequence ≡ false → sequence_or d w.sequence ≡ own ∷ b ∷ more →
      next ≡ toward b (place n d).routes → rest ≡ b ∷ more → denied ≡ is_denied (place n d).deny (class_of n p) b → GoesTo n d p w next rest denied

pub data OnPath (n : NetworkParts) (d : As) (k : Element Pin Segment) (a : Asker) (w : Wanted) (os : List Output) : Type 0 where
  -- its sequence ends here: the job is ready, and nothing is said yet
  ends_here : (own : As) → goes_up (place n d).parent (class_of n a.peer) w.sequence ≡ false → sequence_or d w.sequence ≡ own ∷ [] → os ≡ [] → OnPath n d k a w os
  -- no link and no route leads to the next, or the session with it is not up
  no_session : (next : Peer) (rest : List As) (denied : Bool) → GoesTo n d a.peer w next rest denied → is_up (way_to next k.ways) ≡ false → os ≡ chain_broken a → OnPath n d k a w os
  -- policy denies the step
  is_refused : (next : Peer) (rest : List As) → GoesTo n d a.peer w next rest true → os ≡ chain_broken a → OnPath n d k a w os
  -- it is sent on
  sent_on : (next : Peer) (rest : List As) (way : Way) → GoesTo n d a.peer w next rest false → way_to next k.ways ≡ Some way → way.up ≡ true →
      os ≡ record { to = next; message = request_message (fresh_id next way.last_id k.pending.rows) w w.target rest } ∷ [] → OnPath n d k a w os

-- The key is the element's own, it is live, and the peer may have it expanded: this stands behind it.
pub record IsBehind (n : NetworkParts) (d : As) (p : Peer) (now : ℕ) (k : Element Pin Segment) (key : ℕ) (pce : Addr) (segment : Segment) : Type 0 where
  pub own : pce ≡ (place n d).id
  pub may : can_expand (class_of n p) ≡ true
  pub live : segment_of k.keys now key ≡ Some segment

-- at an element
pub data OnRequest (c : Codec) (n : NetworkParts) (d : As) (p : Peer) (now : ℕ) (asked : Asked) (k : Element Pin Segment) (os : List Output) : Type 0 where
  -- by the first rule that it breaks
  wrong : (rp : Option (ℕ × ℕ)) (kind value : ℕ) → c.check asked d ≡ Wrong rp kind value → os ≡ record { to = p; message = error_message rp kind value } ∷ [] → OnRequest c n d p now asked k os
  -- its id is pending for that peer
  again : (r : Request) (number : ℕ) → c.check asked d ≡ Admitted r → number_of k.pending p r.id ≡ Some number → os ≡ [] → OnRequest c n d p now asked k os
  key_shown : (r : Request) (key : ℕ) (pce : Addr) (segment : Segment) → c.check asked d ≡ Admitted r → number_of k.pending p r.id ≡ None → r.wish ≡ wishes.Expand key pce →
      IsBehind n d p now k key pce segment → os ≡ replied (record { peer = p; flags = r.flags; id = r.id }) (shown_answer segment) → OnRequest c n d p now asked k os
  -- NO-PATH of nature 0 with bit 27
  key_refused : (r : Request) (key : ℕ) (pce : Addr) → c.check asked d ≡ Admitted r → number_of k.pending p r.id ≡ None → r.wish ≡ wishes.Expand key pce →
      ((segment : Segment) → ¬ IsBehind n d p now k key pce segment) → os ≡ replied (record { peer = p; flags = r.flags; id = r.id }) no_key → OnRequest c n d p now asked k os
  no_room : (r : Request) (w : Wanted) → c.check asked d ≡ Admitted r → number_of k.pending p r.id ≡ None → r.wish ≡ wishes.Path w → IsFull k.pending →
      os ≡ table_full (record { peer = p; flags = r.flags; id = r.id }) → OnRequest c n d p now asked k os
  for_path : (r : Request) (w : Wanted) → c.check asked d ≡ Admitted r → number_of k.pending p r.id ≡ None → r.wish ≡ wishes.Path w → ¬ IsFull k.pending →
      OnPath n d k (record { peer = p; flags = r.flags; id = r.id }) w os → OnRequest c n d p now asked k os

-- a request to each child for each end of interest, in order
abbrev pub AreAsked : Wanted → List Errand → List Output → Type 0
AreAsked w [] os = os ≡ []
AreAsked w (r ∷ rs) os =
    (y : ℕ) × (rest : List Output) × (os ≡ record { to = Inner r.child; message = request_message y w r.target (r.child ∷ []) } ∷ rest) × AreAsked w rs rest

-- at the parent
pub data OnRequestAbove (c : Codec) (n : NetworkParts) (p : Peer) (asked : Asked) (k : Parent) (os : List Output) : Type 0 where
  wrong_above : (rp : Option (ℕ × ℕ)) (kind value : ℕ) → c.check asked parent_as ≡ Wrong rp kind value → os ≡ record { to = p; message = error_message rp kind value } ∷ [] → OnRequestAbove c n p asked k os
  again_above : (r : Request) (number : ℕ) → c.check asked parent_as ≡ Admitted r → number_of k.pending p r.id ≡ Some number → os ≡ [] → OnRequestAbove c n p asked k os
  key_above : (r : Request) (key : ℕ) (pce : Addr) → c.check asked parent_as ≡ Admitted r → number_of k.pending p r.id ≡ None → r.wish ≡ wishes.Expand key pce →
      os ≡ replied (record { peer = p; flags = r.flags; id = r.id }) no_key → OnRequestAbove c n p asked k os
  no_room_above : (r : Request) (w : Wanted) → c.check asked parent_as ≡ Admitted r → number_of k.pending p r.id ≡ None → r.wish ≡ wishes.Path w → IsFull k.pending →
      os ≡ table_full (record { peer = p; flags = r.flags; id = r.id }) → OnRequestAbove c n p asked k os
  -- the session of a child is not up
  child_down : (r : Request) (w : Wanted) (child : As) → c.check asked parent_as ≡ Admitted r → number_of k.pending p r.id ≡ None → r.wish ≡ wishes.Path w → ¬ IsFull k.pending →
      Contains (children n) child → is_up (way_to (Inner child) k.ways) ≡ false → os ≡ chain_broken (record { peer = p; flags = r.flags; id = r.id }) → OnRequestAbove c n p asked k os
  all_asked : (r : Request) (w : Wanted) → c.check asked parent_as ≡ Admitted r → number_of k.pending p r.id ≡ None → r.wish ≡ wishes.Path w → ¬ IsFull k.pending →
      ((child : As) → Contains (children n) child → is_up (way_to (Inner child) k.ways) ≡ true) → AreAsked w (errands n.parent_links w.target (children n)) os → OnRequestAbove c n p asked k os

-- ---- a message: its parts, each in turn, in the state that those before it left

pub data Part : Type 0 where
  Asks : Asked → Part
  Replies : Reply → Part
  -- an id of a notice, with the kinds of the notice
  Notes : (kinds : List (ℕ × ℕ)) → (rp : ℕ × ℕ) → Part
  -- an id of a report, with the first error of the report
  Fails : (error : ℕ × ℕ) → (rp : ℕ × ℕ) → Part

-- a message of one part
abbrev pub alone : Part → Message
alone (Asks a) = messages.PcReq (a ∷ [])
alone (Replies r) = messages.PcRep (r ∷ [])
alone (Notes kinds rp) = messages.PcNtf (record { ids = rp ∷ []; kinds = kinds } ∷ [])
alone (Fails error rp) = messages.PcErr (record { ids = rp ∷ []; errors = error ∷ []; opening = None } ∷ [])

abbrev pub noted : List Notice → List Part
noted [] = []
noted (notice ∷ notices) = map (Notes notice.kinds) notice.ids ++ noted notices

-- a report without an error says nothing
abbrev pub failed_by : List (ℕ × ℕ) → List (ℕ × ℕ) → List Part
failed_by ids [] = []
failed_by ids (e ∷ es) = map (Fails e) ids

abbrev pub failed : List ErrorReport → List Part
failed [] = []
failed (report ∷ reports) = failed_by report.ids report.errors ++ failed reports

abbrev pub parts : Message → List Part
parts (messages.PcReq asks) = map Asks asks
parts (messages.PcRep replies) = map Replies replies
parts (messages.PcNtf notices) = noted notices
parts (messages.PcErr reports) = failed reports
parts m = []

-- K is the state of an element, or of the parent, and left is what a message leaves of it.
module _ (K : Type 0) (Waiting : K → ℕ → Asker → Type 0) (OnAsked : Asked → K → List Output → Type 0) (left : Message → K → K) (of_parent : Bool) (p : Peer) where
  abbrev pub OnPart : Part → K → List Output → Type 0
  OnPart (Asks a) k os = OnAsked a k os
  OnPart (Replies r) k os = OnReply (Waiting k r.id) of_parent p r os
  OnPart (Notes kinds rp) k os = OnNotice (Waiting k rp.1) kinds os
  OnPart (Fails error rp) k os = OnError (Waiting k rp.1) error os

  abbrev pub OnParts : List Part → K → List Output → Type 0
  OnParts [] k os = os ≡ []
  OnParts (x ∷ xs) k os = (first : List Output) × (rest : List Output) × (os ≡ first ++ rest) × OnPart x k first × OnParts xs (left (alone x) k) rest

-- The messages with which an element answers a message of the peer p, with this pin of its newest topology.
abbrev pub OnMessage : Codec → NetworkParts → As → Pin → Peer → ℕ → Message → Element Pin Segment → List Output → Type 0
OnMessage c n d pin p now m k os =
    OnParts (Element Pin Segment) (λ k'. WaitsAt k' p) (OnRequest c n d p now) (λ m' k'. (taking.take c open_of (place n d) pin p (class_of n p) now m' k').element) (same_peer p the_parent) p (parts m) k os

-- the same of the parent
abbrev pub OnMessageAbove : Codec → NetworkParts → Peer → Message → Parent → List Output → Type 0
OnMessageAbove c n p m k os = OnParts Parent (λ k'. WaitsAbove k' p) (OnRequestAbove c n p) (λ m' k'. (parent.take c (family n) p m' k').parent) false p (parts m) k os
