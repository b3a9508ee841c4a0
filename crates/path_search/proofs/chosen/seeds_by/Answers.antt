use Rattle.std.proofs.Common.{◌≡◌, ◌+◌, ◌++◌, ◌∷◌, [], ◌∙◌, take, sym, ap, arith}
use Rattle.std.proofs.lemmas.List.{take_more}
use Rattle.dom_base.specs.declared.query.Seed.{Seed}
use Rattle.path_search.proofs.OneExit.{by_more}
use Rattle.path_search.proofs.chosen.seeds_by.Goals as goal

pub loop-seed-preserved : goal.loop-seed-preserved
loop-seed-preserved c =
    let seeds = c.args.seeds.now in
    let i = c.loop-seed.seed-index in
    let seed = c.seed-item.result in
    let more : take (i + 1) seeds ≡ take i seeds ++ seed ∷ [] =
    take_more seeds i seed (omega arith) ∙ ap (λ (s : Seed). take i seeds ++ s ∷ []) (sym c.seed-item.is) in
    rw more (by_more c.args.exit (take i seeds) c.loop-seed.own.items c.keep_by.new.own.items seed c.loop-seed.invariant c.in_ok-keep_by.ensures)
