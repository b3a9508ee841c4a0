use Rattle.std.proofs.Common.{◌≡◌, ◌≤◌, take}
use Rattle.te_links.specs.declared.limits.TheConstants.{LINKS_MAX}
use Rattle.diverse_pairs.specs.Conditions.{Traces}
use Rattle.diverse_pairs.proofs.false_path.false_step.Given as goal

-- the far addresses so far trace, so they are few
abbrev pub invariant-loop-far : goal.invariant-loop-far
invariant-loop-far l = record {
  same_place : l.place ≡ l.far-index;
  few : l.place ≤ LINKS_MAX;
  traces : Traces l.topology l.query l.used l.initial.here (take l.far-index l.fars) l.here;
}
