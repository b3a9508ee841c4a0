-- Lists of addresses in rising order, each once.
use Rattle.std.specs.Prelude.{Bool, true, false, cond, nat_lt, List, [], ◌∷◌}
use Rattle.plant_model.specs.Types.{Addr}
use Rattle.dom_base.specs.AddrOrder.{rank}
use Rattle.plant_model.specs.Names.{same_addr}

abbrev pub has_addr : Addr → List Addr → Bool
has_addr n [] = false
has_addr n (a ∷ rest) = cond (same_addr n a) true (has_addr n rest)

abbrev pub insert_addr : Addr → List Addr → List Addr
insert_addr n [] = n ∷ []
insert_addr n (a ∷ rest) = cond (nat_lt (rank n) (rank a)) (n ∷ a ∷ rest) (cond (same_addr n a) (a ∷ rest) (a ∷ insert_addr n rest))
