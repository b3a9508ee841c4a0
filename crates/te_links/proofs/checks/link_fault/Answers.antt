use Rattle.te_links.specs.Faults.{LinkBreaks, rows_of_parts}
use Rattle.te_links.proofs.Rules.{first_at}
use Rattle.te_links.proofs.RowRules.{not_told, read_at, told_ends, link_repeat}
use Rattle.te_links.proofs.checks.link_fault.Goals as goal

pub returns : goal.returns
returns c =
    let g = rows_of_parts c.args.parts.now in
    let s = c.args.survey.now in
    let i = c.args.i in
    let l = c.index-as_slice-i.result in
    let at = read_at g.links c.as_slice.result.now i l c.as_slice.ensures c.requires.inside c.index-as_slice-i.is in
    first_at g.links i l (LinkBreaks g i) _ c.first_rule.result at
    (record {
      too_many = c.is_link_past.ensures;
      duplicate_node = not_told;
      unknown_node = told_ends g.nodes s.nodes.items c.deref.result.now l.from l.to c.has_unknown_end.result c.requires.survey.nodes c.deref.ensures.value c.has_unknown_end.ensures;
      own_as = not_told;
      bad_metric = c.has_bad_metric.ensures;
      duplicate_near = link_repeat g (λ m. m.near) s.same_near.items i l c.index.result.now at c.requires.survey.same_near c.index.ensures;
      duplicate_far = link_repeat g (λ m. m.far) s.same_far.items i l c.index-2.result.now at c.requires.survey.same_far c.index-2.ensures;
      duplicate_entry = not_told;
      syntax = λ broken. broken;
      no_header = λ broken. broken;
    })
    c.first_rule.ensures
