-- Where the chain of a request ends, and what was told of a request by the peer that was asked for it.
use Rattle.std.specs.Prelude.{◌≡◌, ℕ, List, [], ◌∷◌, length, Some}
use Rattle.plant_model.specs.Types.{Addr, As, Peer, Inner, Outside, Answer, Path, Reply, Wanted, Branch, NetworkParts}
use Rattle.walk_laws.specs.Crossing.{Goal, At, Told}
use Rattle.pcep_codes.specs.declared.no_paths.TheConstants as no_paths
use Rattle.pcep_messages.specs.declared.message.Answer.TheVariants.{Paths, NoPath}
use Rattle.pcep_messages.specs.declared.message.Message.TheVariants as messages
use Rattle.border_costs.specs.Asks.{beyond}
use Rattle.plant_model.specs.declared.output.Output.{Output}
use Rattle.plant_model.specs.Wire.{Codec}
use Rattle.plant_model.specs.Writing.{request_message}
use Rattle.plant_model.specs.Branches.{branches_in, downs}
use Rattle.plant_model.specs.Outside.{heeded_by}
use Rattle.plant_model.specs.Routes.{toward, StaysInside}
use Rattle.plant_model.specs.Settings.{place}
use Rattle.plant_model.specs.State.{Takes}
use Rattle.plant_laws.specs.Transcript.{Transcript, Within, SentIn, Visit}

-- A chain ends at the element of the last domain, or at one that asked an outside peer for the next domain, with the branches that it
-- was told.
pub data End : Type 0 where
  Inside : (t : Addr) → End
  Asked : (next : As) → (told : List Branch) → End

-- what walks along the chain are to reach
abbrev pub goal_of : End → Goal
goal_of (Inside t) = At t
goal_of (Asked next told) = Told next (beyond (downs told))

-- what an answer tells of paths: these, or that there are none
abbrev pub Tells : Answer → List Path → Type 0
Tells (Paths told) paths = told ≡ paths
Tells (NoPath nature vector) paths = (nature ≡ no_paths.NONE_FOUND) × (paths ≡ [])

-- Of an outside peer, a reply is what the element heeds of what the peer said, about a request that was sent on through so many domains.
abbrev pub IsHeeded : Codec → Peer → ℕ → Reply → Type 0
IsHeeded c (Inner b) domains reply = Unit {0}
IsHeeded c (Outside i) domains reply = (said : Reply) × (reply ≡ heeded_by c (Some domains) said)

-- The branches are those of a reply of the peer that was asked for the domain b, to the request that was sent to it in that moment.
pub record IsAnswered (c : Codec) (older : Transcript) (d : As) (at : Transcript) (w : Wanted) (on : Peer) (b : As) (rest : List As) (down : List Branch) : Type 0 where
  pub id : ℕ
  pub sent : SentIn at d on (request_message id w w.target (b ∷ rest))
  pub reply : Reply
  pub outputs : List Output
  pub before : Transcript
  pub within : Within (Takes d on (messages.PcRep (reply ∷ [])) outputs ∷ before) older
  pub same : reply.id ≡ id
  pub heeded : IsHeeded c on (length (b ∷ rest)) reply
  pub paths : List Path
  pub tells : Tells reply.answer paths
  pub is : down ≡ branches_in c w.query.metric paths

-- Where the last leg's element ended the chain, with these domains of the sequence behind its own: none, at the target; or the next of
-- them is asked for by a route, and that outside peer told these branches.
abbrev pub EndsAt : Codec → NetworkParts → Wanted → List As → Visit → End → Type 0
EndsAt c n w behind last (Inside t) = (behind ≡ []) × (t ≡ w.target)
EndsAt c n w behind last (Asked next told) = record {
  peer : ℕ;
  route : toward next (place n last.own).routes ≡ Outside peer;
  rest : List As;
  is_behind : behind ≡ next ∷ rest;
  answered : IsAnswered c last.solved last.own last.at w (Outside peer) next rest told;
}

-- the same of a chain. No chain is empty.
abbrev pub ChainEnds : Codec → NetworkParts → Wanted → List As → List Visit → End → Type 0
ChainEnds c n w behind [] end = ⊥
ChainEnds c n w behind (one ∷ []) end = EndsAt c n w behind one end
ChainEnds c n w behind (one ∷ next ∷ rest) end = ChainEnds c n w behind (next ∷ rest) end

-- ---- a law

-- Where paths go on through no outside peer, a chain goes through its whole sequence, to the target.
abbrev pub ChainsEndInside : Type 0
ChainsEndInside = (c : Codec) (n : NetworkParts) (w : Wanted) (behind : List As) (chain : List Visit) (end : End) → StaysInside n →
    ChainEnds c n w behind chain end → (behind ≡ []) × (end ≡ Inside w.target)
