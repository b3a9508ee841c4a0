use Rattle.std.proofs.Common.{refl, subst}
use Rattle.request_table.specs.Pending.{NumbersRise, Pending}
use Rattle.pce_common.specs.plant_model.Element.{Item, Row}
use Rattle.pce_element.specs.Rows.{row_of}
use Rattle.pce_element.proofs.ReadyLemmas.{readied_row, row_waits}
use Rattle.pce_element.proofs.element.Element.readied.Goals as goal

pub returns : goal.returns
returns g c =
    let k = c.args.self.now.losing.element in
    let rises : NumbersRise 0 k.pending.rows k.pending.given = subst (λ (p : Pending (Item _)). NumbersRise 0 p.rows p.given) c.requests.ensures.pending c.len-count.ensures.rules.numbers in
    let h : Row _ = row_of c.args.row.now in
    record {
      fits = row_waits k h rises c.requires.has c.requires.waits;
      unsolved = refl;
      element = readied_row k h c.args.branches rises c.requires.has;
      outputs = c.new.ensures;
    }
