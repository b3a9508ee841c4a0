use Rattle.std.proofs.Common.{◌≡◌, ◌≢◌, ◌∙◌, ◌+◌, suc, sym, ap, subst, arith, get_or}
use Rattle.te_generations.specs.declared.live.Live.{Live}
use Rattle.te_generations.specs.Live.{Skips}
use Rattle.te_generations.proofs.ShelfLemmas.{skips_here, skips_more, skips_all}
use Rattle.te_generations.proofs.among.place_of.Goals as goal

pub returns-then-index-number-clause-first : goal.returns-then-index-number-clause-first
returns-then-index-number-clause-first c =
    let found = c.index.result.now in
    let lives = c.args.older.now.items in
    let same : (get_or lives c.loop-i.i found).number ≡ c.args.number =
    ap (λ (l : Live). l.number) (sym c.index.ensures) ∙ c.if-index-number.true in
    skips_here c.args.number c.loop-i.i lives found c.loop-i.invariant (omega arith) same

pub loop-i-preserved : goal.loop-i-preserved
loop-i-preserved c =
    let found = c.index.result.now in
    let lives = c.args.older.now.items in
    let other : (get_or lives c.loop-i.i found).number ≢ c.args.number = λ same.
    c.if-index-number.false (ap (λ (l : Live). l.number) c.index.ensures ∙ same) in
    let next : suc c.loop-i.i ≡ c.loop-i.i + 1 = omega arith in
    subst (λ i. Skips c.args.number i lives) next (skips_more c.args.number c.loop-i.i lives found c.loop-i.invariant (omega arith) other)

pub unreachable-requires : goal.unreachable-requires
unreachable-requires c =
    omega (arith, c.requires, skips_all c.args.number c.loop-i.i c.args.older.now.items c.loop-i.invariant (omega arith))
