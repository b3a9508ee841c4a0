-- The answer to the request of a solved job.
use Rattle.std.specs.Prelude.{◌≡◌, ℕ, true, nat_eq, List, [], ◌∷◌, Option, Some, None}
use Rattle.std.specs.Map.{lookup}
use Rattle.pce_common.specs.plant_model.Types.{Metric, Answer}
use Rattle.pcep_messages.specs.declared.message.Answer.TheVariants.{Paths}
use Rattle.pce_common.specs.plant_model.RealWire.{wire}
use Rattle.pce_common.specs.plant_model.declared.output.Output.{Output}
use Rattle.pce_common.specs.plant_model.Writing.{none_between, reply_message}
use Rattle.pce_common.specs.plant_model.Branches.{path_of}
use Rattle.pce_common.specs.plant_model.BorderGraph.{Found}
use Rattle.pce_common.specs.plant_model.Parent.{AskingRow, is_ready}
use Rattle.pce_parent.specs.declared.pending.Row.{Row}
use Rattle.pce_parent.specs.Pendings.{row_of}
use Rattle.pce_parent.specs.Seen.{Seen}

abbrev pub answer_of : Metric → Option Found → Answer
answer_of m None = none_between
answer_of m (Some a) = Paths (path_of wire m a.cost a.hops ∷ [])

-- to whom asked
abbrev pub outputs_for : AskingRow → Option Found → List Output
outputs_for h found = record { to = h.1.key.peer; message = reply_message h.1.item.flags h.1.key.id (answer_of h.1.item.wanted.query.metric found) } ∷ []

-- the request of a number, which can be solved
pub record IsReadyRow (s : Seen) (number : ℕ) (r : Row) : Type 0 where
  pub number_is : (row_of r).0 ≡ number
  pub here : lookup (nat_eq number) s.losing.parent.pending.rows ≡ Some (row_of r).1
  pub ready : is_ready (row_of r).1.item ≡ true
