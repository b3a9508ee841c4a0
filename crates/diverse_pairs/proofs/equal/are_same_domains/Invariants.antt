use Rattle.std.proofs.Common.{◌≡◌, take}
use Rattle.diverse_pairs.proofs.equal.are_same_domains.Given as goal

abbrev pub invariant-loop-index : goal.invariant-loop-index
invariant-loop-index l = take l.index l.some ≡ take l.index l.others
