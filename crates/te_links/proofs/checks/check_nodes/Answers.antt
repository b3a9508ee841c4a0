use Rattle.std.proofs.Common.{◌≡◌, ℕ, ◌<◌, false, List, Option, length, get_or, subst, arith}
use Rattle.std.proofs.Math.Dec.{leb, ltb}
use Rattle.std.proofs.lemmas.Bool.Decides.{Decides-ltb}
use Rattle.std.proofs.lemmas.Option.{slice_get-get_or}
use Rattle.dom_base.specs.declared.addr.Addr.TheVariants.{V4}
use Rattle.te_links.specs.declared.fault.TopoFault.{TopoFault}
use Rattle.te_links.specs.declared.fault.RowKind.TheVariants.{Node}
use Rattle.te_links.specs.Rows.{Rows}
use Rattle.te_links.specs.Faults.{Breaks, NodeBreaks, rows_of_parts}
use Rattle.te_links.specs.Checks.{IsFirstRule, first_broken}
use Rattle.te_links.specs.Survey.{TellsRepeats}
use Rattle.te_links.proofs.Rules.{first_at}
use Rattle.te_links.proofs.RowRules.{not_told, told_repeat}
use Rattle.te_links.proofs.Listed.{none_yet, none_more, none_of_nodes, node_within, reason_of}
use Rattle.te_links.proofs.checks.check_nodes.Goals as goal

-- the first rule that a node breaks
node_first : (g : Rows) (counts : List ℕ) (i v : ℕ) (r : Option TopoFault) → i < length g.nodes → TellsRepeats g.nodes counts → v ≡ get_or counts i v →
    r ≡ first_broken (record { too_many = leb 1024 i; duplicate_node = ltb 0 v; unknown_node = false; own_as = false; bad_metric = false; duplicate_near = false; duplicate_far = false; duplicate_entry = false }) →
    IsFirstRule (Breaks g Node i) r
node_first g counts i v r inside tells read is =
    let n = get_or g.nodes i (V4 0) in
    let at = slice_get-get_or g.nodes i (V4 0) inside in
    first_at g.nodes i n (NodeBreaks g i) _ r at
    (record {
      too_many = Decides-ltb 1023 i;
      duplicate_node = told_repeat g.nodes counts i n v tells at read;
      unknown_node = not_told;
      own_as = not_told;
      bad_metric = not_told;
      duplicate_near = not_told;
      duplicate_far = not_told;
      duplicate_entry = not_told;
      syntax = λ broken. broken;
      no_header = λ broken. broken;
    })
    is

pub loop-i-init : goal.loop-i-init
loop-i-init c = record { none = none_yet (rows_of_parts c.args.parts.now) Node; few = omega arith }

pub loop-i-preserved : goal.loop-i-preserved
loop-i-preserved c =
    let g = rows_of_parts c.args.parts.now in
    let i = c.loop-i.i in
    let inside : i < length g.nodes = omega (arith, c.len-i-end.ensures, c.loop-i-test.true) in
    let none = subst (IsFirstRule (Breaks g Node i)) c.in_default.is
    (node_first g c.args.survey.now.same_node.items i c.index.result.now c.first_rule.result inside c.requires.same_node c.index.ensures c.first_rule.ensures) in
    record { none = none_more g Node i c.loop-i.invariant.none none; few = node_within g i inside none }

pub returns : goal.returns
returns c = none_of_nodes (rows_of_parts c.args.parts.now) c.loop-i.i (omega (arith, c.len-i-end.ensures, c.loop-i-test.false)) c.loop-i.invariant.none

pub returns-in-Some : goal.returns-in-Some
returns-in-Some c =
    let g = rows_of_parts c.args.parts.now in
    let i = c.loop-i.i in
    let inside : i < length g.nodes = omega (arith, c.len-i-end.ensures, c.loop-i-test.true) in
    let first = subst (IsFirstRule (Breaks g Node i)) c.in-Some.is
    (node_first g c.args.survey.now.same_node.items i c.index.result.now c.first_rule.result inside c.requires.same_node c.index.ensures c.first_rule.ensures) in
    reason_of g Node c.in-Some.fault i c.refusal.result c.refusal.ensures first.0 first.1 c.loop-i.invariant.none
