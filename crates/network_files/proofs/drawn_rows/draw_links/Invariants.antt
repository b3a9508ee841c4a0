use Rattle.std.proofs.Common.{◌≡◌, ◌+◌, ◌*◌, ◌++◌, drop}
use Rattle.network_files.specs.DrawnRows.{drawn_links}
use Rattle.network_files.proofs.drawn_rows.draw_links.Given as goal

abbrev pub invariant-loop-span : goal.invariant-loop-span
invariant-loop-span l = record {
  place : l.draws ≡ l.initial.draws + 2 * l.span-index;
  links : l.links.items ++ drawn_links l.domain l.draws (drop l.span-index l.spans) ≡ drawn_links l.domain l.initial.draws l.spans;
}
