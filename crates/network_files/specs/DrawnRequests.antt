-- The requests over the drawn network: from a node of the first domain to one of the last, through all of them.
use Rattle.std.specs.Prelude.{ℕ, ◌+◌, ◌*◌, ◌%◌, List, [], ◌∷◌}
use Rattle.dom_base.specs.declared.names.As.{As}
use Rattle.network_files.specs.declared.requests.Ends.{Ends}
use Rattle.network_files.specs.Draws.{drawn}
use Rattle.network_files.specs.DrawnFiles.{links_draws}
use Rattle.network_files.specs.DrawnRows.{node}

-- the number of a node, by the k-th draw
abbrev pub number_at : ℕ → ℕ
number_at k = 1 + drawn k % 50

-- the ends of which the k-th draw makes the first
abbrev pub drawn_ends : ℕ → Ends
drawn_ends k = record { source = node 1 (number_at k); target = node 4 (number_at (k + 1)) }

-- those of the request behind so many others
abbrev pub ends_at : ℕ → Ends
ends_at request = drawn_ends (links_draws + 2 * request)

-- all domains in their order
abbrev pub sequence : List As
sequence = record { 0 = 1 } ∷ record { 0 = 2 } ∷ record { 0 = 3 } ∷ record { 0 = 4 } ∷ []
