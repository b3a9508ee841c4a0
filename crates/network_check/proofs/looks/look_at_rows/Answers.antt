use Rattle.std.proofs.Common.{◌≡◌, ◌∙◌, ◌+◌, ◌++◌, ◌∷◌, [], List, Option, ap, arith, sym, subst, take}
use Rattle.std.proofs.lemmas.List.{take_more}
use Rattle.dom_edge.specs.Stores.{Files}
use Rattle.plant_text.specs.declared.settings.ElementRow.{ElementRow}
use Rattle.network_check.specs.Looks.{AreSeen, SeesRow}
use Rattle.network_check.proofs.Looking.{row_seen}
use Rattle.network_check.proofs.looks.look_at_rows.Goals as goal

pub loop-i-preserved : goal.loop-i-preserved
loop-i-preserved g c =
    let rows : List ElementRow = c.args.rows.now in
    let row : ElementRow = c.index-rows-i.result in
    let files = g.S.Store.files c.args.store.now in
    let so_far = c.loop-i.invariant in
    let step = c.in_ok-look_at_row.ensures in
    let a = g.S.Store.faults c.args.store.now in
    let b = g.S.Store.faults c.loop-i.store in
    let d = g.S.Store.faults c.look_at_row.new.store in
    let sees : SeesRow files row.own row.topology (b, d) c.loop-i.seen c.look_at_row.new.seen = subst (λ (fs : Option Files). SeesRow fs row.own row.topology (b, d) c.loop-i.seen c.look_at_row.new.seen) so_far.files step.sees in
    let next = row_seen files (take c.loop-i.i rows) row a b d c.loop-i.seen c.look_at_row.new.seen so_far.later step.later so_far.seen sees in
    let more : take (c.loop-i.i + 1) rows ≡ take c.loop-i.i rows ++ row ∷ [] = take_more rows c.loop-i.i row c.loop-i-test.true ∙ ap (λ (r : ElementRow). take c.loop-i.i rows ++ r ∷ []) (sym c.index-rows-i.is) in
    record {
      seen = subst (λ (rs : List ElementRow). AreSeen files rs (a, d) c.look_at_row.new.seen) (sym more) next;
      files = step.files ∙ so_far.files;
      later = omega (arith, so_far.later, step.later);
    }
