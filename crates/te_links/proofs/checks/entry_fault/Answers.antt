use Rattle.std.proofs.Common.{◌∙◌}
use Rattle.std.proofs.lemmas.Bool.Decides.{Decides-not}
use Rattle.std.proofs.lemmas.List.{get_or_default}
use Rattle.std.proofs.lemmas.Option.{slice_get_within}
use Rattle.te_links.specs.Faults.{EntryBreaks, rows_of_parts}
use Rattle.te_links.proofs.Rules.{first_at}
use Rattle.te_links.proofs.RowRules.{not_told, told_by, told_node, told_repeat}
use Rattle.te_links.proofs.Within.{entry_few, entry_many}
use Rattle.te_links.proofs.checks.entry_fault.Goals as goal

pub returns-clause-rule : goal.returns-clause-rule
returns-clause-rule c =
    let g = rows_of_parts c.args.parts.now in
    let s = c.args.survey.now in
    let i = c.args.i in
    let e = c.args.entry in
    let at = c.requires.inside in
    let v = c.index.result.now in
    let count = c.index.ensures ∙ get_or_default s.same_domain.items i v 0 (rw c.requires.survey.domains (slice_get_within g.entries i e at)) ∙ c.requires.survey.same_domain i e at in
    first_at g.entries i e (EntryBreaks g i) _ c.first_rule.result at
    (record {
      too_many = told_by c.is_entry_past.result c.is_entry_past.ensures (entry_many g i s.entry_nodes_end v e at c.requires.survey.entry_nodes count)
          (entry_few g i s.entry_nodes_end v e at c.requires.survey.entry_nodes count c.requires.few);
      duplicate_node = not_told;
      unknown_node = told_node g.nodes s.nodes.items c.deref.result.now e.node c.is_node.result c.requires.survey.nodes c.deref.ensures.value c.is_node.ensures;
      own_as = Decides-not c.is_foreign.result c.is_foreign.ensures;
      bad_metric = not_told;
      duplicate_near = not_told;
      duplicate_far = not_told;
      duplicate_entry = told_repeat g.entries s.same_entry.items i e c.index-2.result.now c.requires.survey.same_entry at c.index-2.ensures;
      syntax = λ broken. broken;
      no_header = λ broken. broken;
    })
    c.first_rule.ensures
