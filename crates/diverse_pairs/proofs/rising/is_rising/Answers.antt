use Rattle.std.proofs.Common.{◌≡◌, false, true, sym, arith}
use Rattle.te_links.proofs.Compared.{below_told, not_below_told}
use Rattle.diverse_pairs.proofs.Potentials.{rise_more, rise_not}
use Rattle.diverse_pairs.proofs.rising.is_rising.Goals as goal

pub loop-index-preserved : goal.loop-index-preserved
loop-index-preserved c = rise_more c.args.potentials.now c.loop-index.index _ (omega arith) (omega arith) c.loop-index.invariant (below_told _ _ (sym c.if-not-rises.ensures))

pub returns-then-not-rises : goal.returns-then-not-rises
returns-then-not-rises c = (
  λ bad. let no : false ≡ true = bad in absurd cc,
  λ up. absurd (rise_not c.args.potentials.now c.loop-index.index _ (omega arith) (omega arith) up (not_below_told _ _ (sym c.if-not-rises.ensures))),
)
