use Rattle.std.proofs.Common.{◌≡◌}
use Rattle.worked_members.proofs.element.pins.Given as goal

abbrev pub invariant-loop-id : goal.invariant-loop-id
invariant-loop-id l = l.element.losing.element.keys ≡ l.initial.element.losing.element.keys
