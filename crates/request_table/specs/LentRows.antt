-- A value of a row that is lent to be written.
use Rattle.std.specs.Prelude.{ℕ, nat_eq, Option, List}
use Rattle.std.specs.Borrow.{Fml, RattleType, MutBor, LendsIf}
use Rattle.std.specs.Map.{set_value}
use Rattle.dom_base.specs.Room.{Room}
use Rattle.request_table.specs.contracts.rows.Rows.{the_row}

-- the number has the last value written through r, and without one the rows stay
abbrev pub lends_value : (X : RattleType) → MutBor (Room (List (ℕ × X.Denot))) → ℕ → Option (MutBor X.Denot) → Fml
lends_value X m number r = LendsIf (the_row X) X m r (λ w. record m.now { kept = set_value (nat_eq number) m.now.kept w }) m.now
