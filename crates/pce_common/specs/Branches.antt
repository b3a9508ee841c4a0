-- The parts of a branch that a path of a reply tells.
use Rattle.std.specs.Prelude.{ℕ, cond, ◌==◌, nat_le, List, [], ◌∷◌, Option, Some, None}
use Rattle.dom_base.specs.Words.{units}
use Rattle.plant_model.specs.Types.{Addr, Metric, Hop}
use Rattle.dom_base.specs.declared.limits.TheConstants.{COST_MAX}
use Rattle.pcep_subobjects.specs.declared.hop.Hop.TheVariants.{Prefix, AsNumber, Key, Other}
use Rattle.pcep_messages.specs.Requests.{type_of_metric}

-- the address of the first hop
abbrev pub entry_in : List Hop → Option Addr
entry_in [] = None
entry_in (Prefix loose entry length ∷ rest) = Some entry
entry_in (AsNumber loose n ∷ rest) = None
entry_in (Key loose n pce ∷ rest) = None
entry_in (Other loose kind body ∷ rest) = None

-- the whole number of a word, where that is a cost
abbrev pub cost_in : Option ℕ → Option ℕ
cost_in None = None
cost_in (Some n) = cond (nat_le n COST_MAX) (Some n) None

-- the cost that a metric of the asked type tells
abbrev pub cost_told : Metric → Option (ℕ × ℕ) → Option ℕ
cost_told m None = None
cost_told m (Some told) = cond (told.0 == type_of_metric m) (cost_in (units told.1)) None
