-- The interfaces between the parts of the answer to a request for a pair.
use Rattle.std.specs.Prelude.{◌≡◌, ◌≤◌, ◌+◌, ℕ, List, [], ◌∷◌, length, Some}
use Rattle.dom_base.specs.declared.limits.TheConstants.{COST_MAX}
use Rattle.client_laws.specs.plant_model.Types.{Addr, Answer}
use Rattle.disclosure.specs.Shown.{open_of}
use Rattle.pcep_messages.specs.declared.message.Answer.TheVariants as answers
use Rattle.pce_tool.specs.declared.commands.pair.Costs.{Costs}
use Rattle.pce_tool.specs.declared.commands.pair.Answers.{Answers}

-- the costs, whose sum is within the greatest
pub record AreCosts (one other : ℕ) (costs : Costs) : Type 0 where
  pub same_one : costs.one ≡ one
  pub same_other : costs.other ≡ other
  pub within : one + other ≤ COST_MAX

-- a path of few hops, each of them strict, or none
abbrev pub IsSmallAnswer : Answer → Type 0
IsSmallAnswer (answers.Paths paths) = (addrs : List Addr) × (metric : ℕ × ℕ) × (length addrs ≤ 1024) × (paths ≡ record { hops = open_of addrs; metric = Some metric } ∷ [])
IsSmallAnswer (answers.NoPath nature vector) = nature ≡ 0

abbrev pub AreSmall : Answers → Type 0
AreSmall a = IsSmallAnswer a.one × IsSmallAnswer a.other
