-- Sample runs over the wire of PCEP: events, solved jobs with what they find, and the answers to outside peers.
use Rattle.std.specs.Prelude.{ℕ, nat_eq, List, [], ◌∷◌, ◌++◌, Bool, false, Option, Some, None}
use Rattle.std.specs.Map.{lookup}
use Rattle.plant_model.specs.Types.{As, Tick, Addr, Peer, Outside, Inner, Message, Wanted, Held, Best, Branch, NetworkParts}
use Rattle.dom_base.specs.declared.query.Metric.TheVariants.{Te}
use Rattle.pcep_messages.specs.declared.message.Message.TheVariants as messages
use Rattle.border_costs.specs.declared.answer.Answer.{Answer}
use Rattle.plant_model.specs.declared.event.Event.{Event}
use Rattle.plant_model.specs.declared.event.Event.TheVariants as event
use Rattle.plant_model.specs.declared.output.Output.{Output}
use Rattle.plant_model.specs.declared.outcome.Refused.TheVariants.{NoSuchJob}
use Rattle.plant_model.specs.Writing.{request_message}
use Rattle.plant_model.specs.RealWire.{wire}
use Rattle.plant_model.specs.Element.{Stage, Waits, Ready, Item}
use Rattle.plant_model.specs.BorderGraph.{Found}
use Rattle.plant_model.specs.Parent as parent
use Rattle.plant_model.specs.State.{Deed, Takes, Downs, Solves}
use Rattle.plant_model.specs.Plant.{Pin, Segment, Plant, Happened, happened, refused, solved, parent_solved, opened}

-- an event, a job of an element solved by best ways, or one of the parent
pub data Act : Type 0 where
  Do : Event → Act
  Solve : (at : As) → (number : ℕ) → List Best → (source_known target_known : Bool) → Act
  Join : (number : ℕ) → Option Found → Act

-- the findings of a solve
abbrev pub rows_with : List Best → Bool → Bool → Answer
rows_with best source_known target_known = record { best = best; source_known = source_known; target_known = target_known }

abbrev pub down_of : Stage → List Branch
down_of (Waits on id) = []
down_of (Ready branches) = branches

module _ (n : NetworkParts) where
  abbrev pub solve : As → ℕ → Answer → Plant → Option (Held (Item Pin)) → Happened
  solve d k rows s None = refused wire n NoSuchJob s
  solve d k rows s (Some h) = solved wire n d (k, h) (down_of h.item.stage) rows s

  abbrev pub join : ℕ → Option Found → Plant → Option (Held parent.Asking) → Happened
  join k a s None = refused wire n NoSuchJob s
  join k a s (Some h) = parent_solved wire n (k, h) a s

  abbrev pub act : Act → Plant → Happened
  act (Do e) s = happened wire n s e
  act (Solve d k best known known') s = solve d k (rows_with best known known') s (lookup (nat_eq k) (s.elements d).pending.rows)
  act (Join k a) s = join k a s (lookup (nat_eq k) s.parent.pending.rows)

  -- the state after acts, one after the other, from the opening state on
  abbrev pub after_from : List Act → Plant → Plant
  after_from [] s = s
  after_from (a ∷ acts) s = after_from acts (act a s).state

  unfoldable pub after : List Act → Plant
  after acts = after_from acts (opened wire n).state

-- the messages to outside peers
abbrev pub said_to : Peer → Message → List (ℕ × Message)
said_to (Outside i) m = (i, m) ∷ []
said_to (Inner a) m = []

abbrev pub said_in : List Output → List (ℕ × Message)
said_in [] = []
said_in (o ∷ os) = said_to o.to o.message ++ said_in os

-- The answers of elements in deeds, in order; the list of deeds has the newest first. A session's own messages are no answers.
abbrev pub answers_in : List (Deed Segment) → List (ℕ × Message)
answers_in [] = []
answers_in (Takes at from m os ∷ ds) = answers_in ds ++ said_in os
answers_in (Downs at p os ∷ ds) = answers_in ds ++ said_in os
answers_in (Solves at k os keys ∷ ds) = answers_in ds ++ said_in os
answers_in (d ∷ ds) = answers_in ds

module _ (n : NetworkParts) where
  abbrev pub answers_from : List Act → Plant → List (ℕ × Message)
  answers_from [] s = []
  answers_from (a ∷ acts) s = let h = act n a s in answers_in h.deeds ++ answers_from acts h.state

  -- the answers to outside peers, by the numbers of the peers
  unfoldable pub answers : List Act → List (ℕ × Message)
  answers acts = answers_from acts (opened wire n).state

-- both ends of a link say Open and Keepalive
abbrev pub link_up : As → As → List Act
link_up a b = Do (event.Carry a b) ∷ Do (event.Carry b a) ∷ Do (event.Carry a b) ∷ Do (event.Carry b a) ∷ []

abbrev pub the_open : Message
the_open = messages.Open (record { version = 1; offer = record { keepalive = 30; dead = 120; sid = 0; stateful = false } })

-- an outside peer opens a session, says something, and it is taken
abbrev pub comes : ℕ → Message → List Act
comes i m =
    Do (event.Open i i) ∷ Do (event.Feed i (wire.text the_open)) ∷ Do (event.Feed i (wire.text messages.Keepalive)) ∷ Do (event.Feed i (wire.text m))
    ∷ Do (event.Take i) ∷ Do (event.Take i) ∷ Do (event.Take i) ∷ []

-- it opens a session and says nothing yet
abbrev pub stands_by : ℕ → List Act
stands_by i = Do (event.Open i i) ∷ Do (event.Feed i (wire.text the_open)) ∷ Do (event.Feed i (wire.text messages.Keepalive)) ∷ Do (event.Take i) ∷ Do (event.Take i) ∷ []

-- it says something more, and it is taken
abbrev pub goes_on : ℕ → Message → List Act
goes_on i m = Do (event.Feed i (wire.text m)) ∷ Do (event.Take i) ∷ []

abbrev pub As_ : ℕ → As
As_ n = record { 0 = n }

abbrev pub moment : ℕ → Tick
moment t = record { 0 = t }

-- a request by TE metric, without constraints
abbrev pub wanted : Addr → Addr → Wanted
wanted source target = record {
  source = source;
  target = target;
  query = record { own = As_ 1; metric = Te; cap = 16777215; bandwidth = 0; exclude_any = 0; include_any = 0; include_all = 0; exclusions = [] };
  bandwidth_word = None;
  bound_word = None;
  masks = None;
  sequence = [];
}

abbrev pub asks : ℕ → Addr → Addr → List As → Message
asks id source target sequence = request_message id (wanted source target) target sequence
