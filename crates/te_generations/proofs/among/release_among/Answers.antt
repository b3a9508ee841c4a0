use Rattle.std.proofs.Common.{◌∙◌, sym, ap, arith, map}
use Rattle.te_generations.specs.declared.live.Live.{Live}
use Rattle.te_generations.specs.Live.{generation_of}
use Rattle.te_generations.proofs.ShelfLemmas.{pins_at, released_last, released_less}
use Rattle.te_generations.proofs.among.release_among.Goals as goal

pub overflow_sub-pins : goal.overflow_sub-pins
overflow_sub-pins c =
    omega (
      arith,
      c.requires,
      pins_at c.args.number c.place_of-i.result c.args.older.now.items c.index.result.now c.place_of-i.ensures.first,
      ap (λ (l : Live). l.pins) c.index.ensures,
    )

pub returns-then-pins-eq1 : goal.returns-then-pins-eq1
returns-then-pins-eq1 c =
    ap (map generation_of) c.remove.ensures.items
    ∙ released_last c.args.number c.place_of-i.result c.args.older.now.items c.index.result.now c.place_of-i.ensures.first
    (ap (λ (l : Live). l.pins) (sym c.index.ensures) ∙ c.if-pins-eq1.true)

pub returns-else-pins-eq1 : goal.returns-else-pins-eq1
returns-else-pins-eq1 c =
    released_less c.args.number c.place_of-i.result c.args.older.now.items c.index.result.now c.index_mut.result.now c.place_of-i.ensures.first
    c.index.ensures c.index_mut.ensures.value c.if-pins-eq1.false
