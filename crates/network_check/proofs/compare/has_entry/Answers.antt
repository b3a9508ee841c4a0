use Rattle.std.proofs.Common.{◌∙◌, sym}
use Rattle.network_check.specs.Compare.{is_entry}
use Rattle.network_check.proofs.Steps.{one_is, one_is_not}
use Rattle.network_check.proofs.compare.has_entry.Goals as goal

pub returns-then-is_entry : goal.returns-then-is_entry
returns-then-is_entry c =
    sym (one_is (is_entry c.args.node c.args.from) c.args.topology.now.entries c.loop-i.i c.entry_at.result c.entry_at.ensures (sym c.is_entry.ensures ∙ c.if-is_entry.true)) ∙ c.loop-i.invariant.same

pub loop-i-preserved : goal.loop-i-preserved
loop-i-preserved c = record {
  whole = c.loop-i.invariant.whole;
  same = one_is_not (is_entry c.args.node c.args.from) c.args.topology.now.entries c.loop-i.i c.entry_at.result c.entry_at.ensures (sym c.is_entry.ensures ∙ c.if-is_entry.false) ∙ c.loop-i.invariant.same;
}
