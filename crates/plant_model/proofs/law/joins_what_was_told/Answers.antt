use Rattle.std.proofs.Common.{ℕ, subst}
use Rattle.std.specs.Prelude.{Contains}
use Rattle.plant_model.specs.Types.{Addr}
use Rattle.border_costs.specs.Asks.{beyond}
use Rattle.plant_model.proofs.law.joins_what_was_told.Goals as goal

pub returns : goal.returns
returns c cap next border down e cost exit head joins =
    (joins.0.beyond, subst (λ (n : Addr). Contains (beyond down) (record { node = n; cost = joins.0.beyond })) joins.1 joins.0.is_down.is_row)
