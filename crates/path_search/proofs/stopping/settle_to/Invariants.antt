use Rattle.std.proofs.Common.{◌≡◌, ℕ, ◌+◌, ◌≤◌, length}
use Rattle.std.specs.Prelude.{IfSome}
use Rattle.path_search.specs.Reading.{IsResting}
use Rattle.path_search.proofs.ReadLinks.{open_count}
use Rattle.path_search.proofs.stopping.settle_to.Given as goal

abbrev pub invariant-loop-place : goal.invariant-loop-place
invariant-loop-place g l = record {
  n : ℕ;
  rests : IsResting (g.G.Links.rows l.initial.links) l.query l.initial.labels l.labels l.waiting l.done n;
  last : IfSome l.settled (λ m. rests.last.cost ≡ m);
  few : g.G.Links.reads l.links ≤ g.G.Links.reads l.initial.links + n;
  same : g.G.Links.rows l.links ≡ g.G.Links.rows l.initial.links;
  long : length l.labels ≡ length l.initial.labels;
  as_long : length l.waiting ≡ length l.initial.labels;
  places : length l.done ≡ length l.initial.labels;
}

abbrev pub decreases-loop-place : goal.decreases-loop-place
decreases-loop-place g l = open_count l.done
