use Rattle.std.proofs.Common.{◌<◌, ◌≤◌, ◌^◌, length, arith}
use Rattle.std.proofs.lemmas.List.Elements.{All-nil, All-more}
use Rattle.dom_base.specs.declared.addr.Addr.TheVariants.{V4}
use Rattle.te_links.specs.declared.rows.Entry.{Entry}
use Rattle.te_links.specs.declared.fault.RowKind.TheVariants.{Entry as EntryRow}
use Rattle.te_links.specs.Faults.{rows_of_parts}
use Rattle.te_links.proofs.Within.{few_so_far}
use Rattle.te_links.proofs.Listed.{none_yet, none_more, none_of_entries, entries_short}
use Rattle.te_links.proofs.checks.check_entries.Goals as goal

pub loop-i-init : goal.loop-i-init
loop-i-init c = record { none = none_yet (rows_of_parts c.args.parts.now) EntryRow; numbers = All-nil (λ (e : Entry). e.from_as.0 < 2 ^ 16) }

pub entry_fault-requires-clause-few : goal.entry_fault-requires-clause-few
entry_fault-requires-clause-few c = few_so_far (rows_of_parts c.args.parts.now) c.loop-i.i c.loop-i.invariant.none

pub refusal-requires : goal.refusal-requires
refusal-requires c =
    let g = rows_of_parts c.args.parts.now in
    let inside : c.loop-i.i ≤ length g.entries = rw (← c.as_slice-entry-items.ensures) (omega (arith, c.loop-i-test.true)) in
    omega (arith, entries_short g c.loop-i.i inside c.loop-i.invariant.none c.loop-i.invariant.numbers)

pub loop-i-preserved : goal.loop-i-preserved
loop-i-preserved c =
    let g = rows_of_parts c.args.parts.now in
    let i = c.loop-i.i in
    let inside : i < length g.entries = rw (← c.as_slice-entry-items.ensures) c.loop-i-test.true in
    let number = c.entry_fault.ensures.number in
    record {
      none = none_more g EntryRow i c.loop-i.invariant.none c.in_default.ensures.rule;
      numbers = All-more (λ (e : Entry). e.from_as.0 < 2 ^ 16) g.entries i (record { from_as = record { 0 = 0 }; node = V4 0 }) inside c.loop-i.invariant.numbers (rw (← c.as_slice-entry-items.ensures) number);
    }

pub returns : goal.returns
returns c =
    let g = rows_of_parts c.args.parts.now in
    let i = c.loop-i.i in
    let inside : i ≤ length g.entries = rw (← c.as_slice-entry-items.ensures) c.loop-i.auto.i-end in
    let all : length g.entries ≤ i = rw (← c.as_slice-entry-items.ensures) c.loop-i-test.false in
    (none_of_entries g i all c.loop-i.invariant.none, omega (arith, all, entries_short g i inside c.loop-i.invariant.none c.loop-i.invariant.numbers))
