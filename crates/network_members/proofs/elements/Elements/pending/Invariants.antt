use Rattle.std.proofs.Common.{◌≡◌, ◌≤◌, ◌+◌, ◌*◌, drop}
use Rattle.network_members.specs.Becoming.{all_pending}
use Rattle.network_members.proofs.elements.Elements.pending.Given as goal

abbrev pub invariant-loop-element : goal.invariant-loop-element
invariant-loop-element g l = record {
  sum : l.count + all_pending (drop l.element-index l.self) ≡ all_pending l.self;
  few : l.count ≤ 1024 * l.element-index;
}
