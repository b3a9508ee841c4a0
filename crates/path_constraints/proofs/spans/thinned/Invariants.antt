use Rattle.std.proofs.Common.{◌<◌, length, get_or, take}
use Rattle.std.specs.Prelude.{◌↔◌}
use Rattle.dom_base.specs.declared.addr.Addr.{Addr}
use Rattle.path_constraints.specs.Spans.{Covers, AreRising, LeadsTo}
use Rattle.path_constraints.proofs.spans.thinned.Given as goal

abbrev pub invariant-loop-span : goal.invariant-loop-span
invariant-loop-span l = record {
  rising : AreRising l.kept.items;
  leads : (d : Addr × Addr) → l.span-index < length l.spans → LeadsTo l.kept.items (get_or l.spans l.span-index d);
  covers : (a : Addr) → Covers l.kept.items a ↔ Covers (take l.span-index l.spans) a;
}
