-- What is read off a transcript: pinned topologies, open requests, the messages in queues, and the chain of a request.
use Rattle.std.specs.Prelude.{◌≡◌, ◌⊎◌, ◌+◌, ℕ, suc, Bool, true, false, cond, ◌==◌, List, [], ◌∷◌, ◌++◌, Contains, Option, Some, None}
use Rattle.plant_model.specs.Types.{As, Peer, Inner, Asked, Reply, Notice, ErrorReport, Message, Request, Wish, Issued}
use Rattle.te_links.specs.Rows.{Rows}
use Rattle.pcep_codes.specs.declared.errors.TheConstants as errors
use Rattle.pcep_codes.specs.declared.notices.TheConstants as notices
use Rattle.pcep_messages.specs.declared.message.Message.TheVariants as messages
use Rattle.pcep_messages.specs.declared.message.Wish.TheVariants.{Path, Expand}
use Rattle.plant_model.specs.declared.output.Output.{Output}
use Rattle.request_table.specs.Pending.{same_peer}
use Rattle.plant_text.specs.Names.{same_as, same_link}
use Rattle.plant_model.specs.Names.{has_pair}
use Rattle.plant_model.specs.Wire.{Codec, Checked, Admitted, Wrong}
use Rattle.te_generations.specs.Live.{empty_rows}
use Rattle.plant_model.specs.State.{Deed, Loads, Pops, Takes, Says, Downs, Clears, Solves}
use Rattle.plant_model.specs.Plant.{Segment}

-- A transcript has the newest deed first. A moment of it is one of its ends: a deed and all that was before.
abbrev pub Transcript : Type 0
Transcript = List (Deed Segment)

abbrev pub Within : Transcript → Transcript → Type 0
Within m [] = m ≡ []
Within m (e ∷ older) = (m ≡ e ∷ older) ⊎ Within m older

-- the topology that was last loaded at d, and, for a moment, the last one loaded before it
abbrev pub loaded : As → Transcript → Rows
loaded d [] = empty_rows d
loaded d (Loads at g ∷ older) = cond (same_as at d) g (loaded d older)
loaded d (e ∷ older) = loaded d older

-- how often d loaded a topology
abbrev pub loads : As → Transcript → ℕ
loads d [] = 0
loads d (Loads at g ∷ older) = cond (same_as at d) (suc (loads d older)) (loads d older)
loads d (e ∷ older) = loads d older

abbrev pub pinned : As → Transcript → Rows
pinned d [] = empty_rows d
pinned d (e ∷ older) = loaded d older

-- what a deed sends: from where, and the messages in order
abbrev pub outputs_at : {S : Type 0} → As → Deed S → List Output
outputs_at d (Takes at from m os) = cond (same_as at d) os []
outputs_at d (Says at o) = cond (same_as at d) (o ∷ []) []
outputs_at d (Downs at p os) = cond (same_as at d) os []
outputs_at d (Solves at k os keys) = cond (same_as at d) os []
outputs_at d e = []

-- How often a message answers the request x of its receiver. An error that a request is unknown answers a reply.
abbrev pub one_if : Bool → ℕ
one_if true = 1
one_if false = 0

abbrev pub has_id : ℕ → List (ℕ × ℕ) → Bool
has_id x [] = false
has_id x (rp ∷ rps) = cond (rp.1 == x) true (has_id x rps)

abbrev pub count_replies : ℕ → List Reply → ℕ
count_replies x [] = 0
count_replies x (r ∷ rs) = one_if (r.id == x) + count_replies x rs

abbrev pub count_notices : ℕ → List Notice → ℕ
count_notices x [] = 0
count_notices x (r ∷ rs) = one_if (has_id x r.ids) + count_notices x rs

abbrev pub count_reports : ℕ → List ErrorReport → ℕ
count_reports x [] = 0
count_reports x (r ∷ rs) = one_if (cond (has_pair errors.UNKNOWN_REQUEST.0 errors.UNKNOWN_REQUEST.1 r.errors) false (has_id x r.ids)) + count_reports x rs

abbrev pub count_answers : ℕ → Message → ℕ
count_answers x (messages.PcRep replies) = count_replies x replies
count_answers x (messages.PcNtf notices) = count_notices x notices
count_answers x (messages.PcErr reports) = count_reports x reports
count_answers x m = 0

abbrev pub answers_to : Peer → ℕ → List Output → ℕ
answers_to p x [] = 0
answers_to p x (o ∷ os) = cond (same_peer o.to p) (count_answers x o.message) 0 + answers_to p x os

-- What a deed does to the request x of p at d.
pub data Effect : Type 0 where
  Keeps Ends Begins : Effect

abbrev pub ends_if : ℕ → Effect
ends_if n = cond (n == 0) Keeps Ends

-- A path request that is admitted and not answered at once begins. What is said to its sender is about it, and not about an
-- older one.
abbrev pub begins : Codec → As → ℕ → ℕ → Request → Effect
begins c d x answers r = cond (r.id == x) (go r.wish) Keeps where
  go : Wish → Effect
  go (Path w) = cond (answers == 0) Begins Keeps
  go (Expand key pce) = Keeps

abbrev pub begins_if : Codec → As → ℕ → ℕ → Checked → Effect
begins_if c d x answers (Wrong rp kind value) = Keeps
begins_if c d x answers (Admitted r) = begins c d x answers r

abbrev pub asks_effect : Codec → As → ℕ → ℕ → List Asked → Effect
asks_effect c d x answers [] = Keeps
asks_effect c d x answers (a ∷ []) = begins_if c d x answers (c.check a d)
asks_effect c d x answers (a ∷ b ∷ rest) = Keeps

-- the peer cancels its request
abbrev pub cancels : ℕ → List Notice → Bool
cancels x [] = false
cancels x (r ∷ rs) = cond (has_pair notices.CANCELLED.0 notices.CANCELLED.1 r.kinds) (cond (has_id x r.ids) true (cancels x rs)) (cancels x rs)

abbrev pub take_effect : Codec → As → Peer → ℕ → Peer → Message → List Output → Effect
take_effect c d p x from (messages.PcReq asks) os = cond (same_peer from p) (asks_effect c d x (answers_to p x os) asks) Keeps
take_effect c d p x from (messages.PcNtf notices) os = cond (cond (same_peer from p) (cancels x notices) false) Ends (ends_if (answers_to p x os))
take_effect c d p x from (messages.PcRep replies) os = ends_if (answers_to p x os)
take_effect c d p x from (messages.PcErr reports) os = ends_if (answers_to p x os)
take_effect c d p x from m os = Keeps

abbrev pub effect : {S : Type 0} → Codec → As → Peer → ℕ → Deed S → Effect
effect c d p x (Takes at from m os) = cond (same_as at d) (take_effect c d p x from m os) Keeps
effect c d p x (Downs at q os) = cond (same_as at d) (cond (same_peer q p) Ends (ends_if (answers_to p x os))) Keeps
effect c d p x (Solves at k os keys) = cond (same_as at d) (ends_if (answers_to p x os)) Keeps
effect c d p x e = Keeps

-- one that is open already does not begin again
abbrev pub after : Effect → Option Transcript → Transcript → Option Transcript
after Keeps before now = before
after Ends before now = None
after Begins None now = Some now
after Begins (Some m) now = Some m

-- the moment that delivered the open request x of p at d, if there is one
abbrev pub opened : Codec → As → Peer → ℕ → Transcript → Option Transcript
opened c d p x [] = None
opened c d p x (e ∷ older) = after (effect c d p x e) (opened c d p x older) (e ∷ older)

-- The moment delivered this request of p to d. A moment has a deed: the empty transcript delivers nothing.
abbrev pub Delivered : Codec → Transcript → As → Peer → Request → Type 0
Delivered c [] d p r = ⊥
Delivered c (e ∷ older) d p r = (a : Asked) × (os : List Output) × (e ≡ Takes d p (messages.PcReq (a ∷ [])) os) × (c.check a d ≡ Admitted r)

-- A message in an inner queue, with the moment that put it there.
pub record Standing : Type 0 where
  pub message : Message
  pub put : Transcript

abbrev pub put_one : As → Output → List Message → List Message
put_one b o rest = cond (same_peer o.to (Inner b)) (o.message ∷ rest) rest

abbrev pub put_into : As → List Output → List Message
put_into b [] = []
put_into b (o ∷ os) = put_one b o (put_into b os)

abbrev pub standing_of : Transcript → List Message → List Standing
standing_of m [] = []
standing_of m (x ∷ xs) = record { message = x; put = m } ∷ standing_of m xs

abbrev pub tail_of : {A : Type 0} → List A → List A
tail_of [] = []
tail_of (x ∷ xs) = xs

-- the queue from a to b after a deed
abbrev pub left_of : {A : Type 0} {S : Type 0} → Deed S → As → As → List A → List A
left_of (Pops from to) a b xs = cond (same_as from a) (cond (same_as to b) (tail_of xs) xs) xs
left_of (Clears one other) a b xs = cond (same_link one other a b) [] xs
left_of e a b xs = xs

-- the messages in the queue from a to b: those that were put there since the link last broke and were not taken, in order
abbrev pub standing : As → As → Transcript → List Standing
standing a b [] = []
standing a b (e ∷ older) = left_of e a b (standing a b older) ++ standing_of (e ∷ older) (put_into b (outputs_at a e))

-- The moment n delivered to b the very request that a put into its queue in the moment m: it was popped and then taken, so there are
-- two deeds.
abbrev pub Handed : As → As → Transcript → Transcript → Type 0
Handed a b m [] = ⊥
Handed a b m (e ∷ []) = ⊥
Handed a b m (e ∷ f ∷ older) =
    (asks : List Asked) × (os : List Output) × (rest : List Standing) × (e ≡ Takes b (Inner a) (messages.PcReq asks) os) × (f ≡ Pops a b)
    × (standing a b older ≡ record { message = messages.PcReq asks; put = m } ∷ rest)

-- the element sent this message in the moment, by its deed
abbrev pub SentIn : Transcript → As → Peer → Message → Type 0
SentIn [] d p m = ⊥
SentIn (e ∷ older) d p m = Contains (outputs_at d e) (record { to = p; message = m })

-- A pair of a chain: an element, and the moment that delivered the request to it; besides, the moment that answered it there.
pub record Visit : Type 0 where
  pub own : As
  pub at : Transcript
  pub solved : Transcript

-- Each leg's request is the one that the leg before it sent on. A chain has a leg.
abbrev pub Chain : Transcript → List Visit → Type 0
Chain now [] = ⊥
Chain now (one ∷ []) = Within one.at now × Within one.solved now
Chain now (one ∷ next ∷ rest) =
    Within one.at now × Within one.solved now × Handed one.own next.own one.at next.at × Chain now (next ∷ rest)

abbrev pub numbers : List Visit → List As
numbers [] = []
numbers (leg ∷ legs) = leg.own ∷ numbers legs

-- the domains as they stood when their elements took the request
abbrev pub domains : List Visit → List Rows
domains [] = []
domains (leg ∷ legs) = pinned leg.own leg.at ∷ domains legs

-- the keys of the element right after a solve
abbrev pub keys_at : Transcript → List (Issued Segment)
keys_at [] = []
keys_at (Solves at k os keys ∷ older) = keys
keys_at (e ∷ older) = []

-- how many requests a sent to b
abbrev pub count_asks : List Message → ℕ
count_asks [] = 0
count_asks (messages.PcReq asks ∷ ms) = 1 + count_asks ms
count_asks (m ∷ ms) = count_asks ms

abbrev pub asks : As → As → Transcript → ℕ
asks a b [] = 0
asks a b (e ∷ older) = asks a b older + count_asks (put_into b (outputs_at a e))
