-- The generations as contracts see them, by their fields.
use Rattle.std.specs.Prelude.{map}
use Rattle.te_links.specs.Rows.{Rows}
use Rattle.te_generations.specs.Shelf.{Shelf, IsShelf}
use Rattle.te_generations.specs.Live.{generation_of}
use Rattle.te_generations.specs.declared.generations.Generations.TheInside.{Inside}

abbrev pub shelf_of : Inside → Shelf Rows
shelf_of a = record { older = map generation_of a.older.items; current = generation_of a.current }

abbrev pub HoldsShelf : Inside → Type 0
HoldsShelf a = IsShelf (shelf_of a)
