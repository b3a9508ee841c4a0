use Rattle.std.proofs.Common.{map}
use Rattle.te_generations.specs.Live.{generation_of}
use Rattle.te_generations.proofs.ShelfLemmas.{shelf_released}
use Rattle.te_generations.proofs.generations.Generations.release.Goals as goal

pub invariant_of-self-2 : goal.invariant_of-self-2
invariant_of-self-2 c =
    shelf_released c.pin.inside.generation (map generation_of c.self.inside.older.items) (map generation_of c.release_among.new.older.items) (generation_of c.self.inside.current)
    c.self.invariant c.release_among.ensures
