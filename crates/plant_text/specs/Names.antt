-- When two names of domains or of links are the same, the parent's number, and domains in rising order.
use Rattle.std.specs.Prelude.{Bool, false, cond, nat_lt, ◌==◌, List, [], ◌∷◌}
use Rattle.dom_base.specs.declared.names.As.{As}

abbrev pub same_as : As → As → Bool
same_as a b = a.0 == b.0

-- one end and the other of a link, in either order
abbrev pub same_link : As → As → As → As → Bool
same_link a b c d = cond (same_as a c) (same_as b d) (cond (same_as a d) (same_as b c) false)

-- the number of the parent
abbrev pub parent_as : As
parent_as = record { 0 = 0 }

-- in rising order, each once
abbrev pub insert_as : As → List As → List As
insert_as n [] = n ∷ []
insert_as n (a ∷ rest) = cond (nat_lt n.0 a.0) (n ∷ a ∷ rest) (cond (same_as n a) (a ∷ rest) (a ∷ insert_as n rest))
