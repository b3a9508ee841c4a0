use Rattle.std.proofs.lemmas.Bool.Decides.{Decides-not}
use Rattle.te_links.specs.Faults.{OutBreaks, rows_of_parts}
use Rattle.te_links.proofs.Rules.{first_at}
use Rattle.te_links.proofs.RowRules.{not_told, told_by, read_at, told_node, out_repeat}
use Rattle.te_links.proofs.Within.{out_few, out_many}
use Rattle.te_links.proofs.checks.out_fault.Goals as goal

pub returns : goal.returns
returns c =
    let g = rows_of_parts c.args.parts.now in
    let s = c.args.survey.now in
    let i = c.args.i in
    let o = c.index-as_slice-i.result in
    let at = read_at g.outs c.as_slice.result.now i o c.as_slice.ensures c.requires.inside c.index-as_slice-i.is in
    first_at g.outs i o (OutBreaks g i) _ c.first_rule.result at
    (record {
      too_many = told_by c.is_out_past.result c.is_out_past.ensures (out_many g i s.tails_end o at c.requires.survey.tails) (out_few g i s.tails_end o at c.requires.survey.tails);
      duplicate_node = not_told;
      unknown_node = told_node g.nodes s.nodes.items c.deref.result.now o.link.from c.is_node.result c.requires.survey.nodes c.deref.ensures.value c.is_node.ensures;
      own_as = Decides-not c.is_foreign.result c.is_foreign.ensures;
      bad_metric = c.has_bad_metric.ensures;
      duplicate_near = out_repeat g (λ m. m.near) s.same_near.items i o c.index.result.now c.len.result at c.requires.survey.same_near c.len.ensures c.index.ensures;
      duplicate_far = out_repeat g (λ m. m.far) s.same_far.items i o c.index-2.result.now c.len.result at c.requires.survey.same_far c.len.ensures c.index-2.ensures;
      duplicate_entry = not_told;
      syntax = λ broken. broken;
      no_header = λ broken. broken;
    })
    c.first_rule.ensures
