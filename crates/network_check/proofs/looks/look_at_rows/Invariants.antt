use Rattle.std.proofs.Common.{◌≡◌, ◌≤◌, take}
use Rattle.network_check.specs.Looks.{AreSeen}
use Rattle.network_check.proofs.looks.look_at_rows.Given as goal

abbrev pub invariant-loop-i : goal.invariant-loop-i
invariant-loop-i g l = record {
  seen : AreSeen (g.S.Store.files l.initial.store) (take l.i l.rows) (g.S.Store.faults l.initial.store, g.S.Store.faults l.store) l.seen;
  files : g.S.Store.files l.store ≡ g.S.Store.files l.initial.store;
  later : g.S.Store.faults l.initial.store ≤ g.S.Store.faults l.store;
}
