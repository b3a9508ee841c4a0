use Rattle.std.proofs.Common.{List, [], arith, length, refl, sym, subst}
use Rattle.std.proofs.lemmas.List.{take_all}
use Rattle.std.proofs.lemmas.Option.{slice_get_read}
use Rattle.pce_common.specs.plant_model.Types.{Best}
use Rattle.pce_common.specs.plant_model.Branches.{downs}
use Rattle.pce_common.specs.plant_model.Jobs.{IsJoinOf}
use Rattle.pce_element.proofs.JoinLemmas.{no_rows, row_joined}
use Rattle.pce_element.proofs.joining.join_rows.Goals as goal

pub loop-row-init : goal.loop-row-init
loop-row-init c = subst (λ (bs : List Best). IsJoinOf c.args.cap c.args.target [] (downs c.args.down.now) bs) (sym c.new-best.ensures.items) (no_rows c.args.cap c.args.target (downs c.args.down.now))

pub loop-row-preserved : goal.loop-row-preserved
loop-row-preserved c =
    row_joined c.args.cap c.args.target (downs c.args.down.now) c.args.rows.now c.loop-row.row-index c.row-item.result c.loop-row.best.items c.join_row.new.best.items c.requires.order
    (slice_get_read c.args.rows.now (length c.args.rows.now) c.loop-row.row-index c.row-item.result refl (omega arith) c.row-item.is) c.loop-row.invariant c.in_ok-join_row.ensures

pub returns : goal.returns
returns c =
    subst (λ (bs : List Best). IsJoinOf c.args.cap c.args.target c.args.rows.now (downs c.args.down.now) bs) (sym c.from_vec.ensures) (rw (take_all c.loop-row.row-index c.args.rows.now c.loop-row-test.false) at c.loop-row.invariant)
