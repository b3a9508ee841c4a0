use Rattle.std.proofs.Common.{◌≡◌, ◌≤◌, ◌+◌, take}
use Rattle.path_certificate.specs.Rows.{label_in}
use Rattle.path_certificate.specs.Claims.{LeadsByLabels}
use Rattle.path_certificate.proofs.false_path.false_step.Given as goal

-- the far addresses so far lead on, and each took away from the cost
abbrev pub invariant-loop-far : goal.invariant-loop-far
invariant-loop-far l = record {
  same_place : l.place ≡ l.far-index;
  leads : LeadsByLabels l.topology l.query (label_in l.rows) l.initial.here l.initial.rest (take l.far-index l.fars) l.here l.rest;
  falls : l.place + l.rest.cost ≤ l.initial.rest.cost;
}
