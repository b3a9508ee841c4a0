use Rattle.std.proofs.Common.{◌≡◌, fold, drop}
use Rattle.std.specs.List.{flat_map}
use Rattle.std.specs.Hash as fed
use Rattle.cost_cache.proofs.key.hash_costs.Given as goal

abbrev pub invariant-loop-row : goal.invariant-loop-row
invariant-loop-row g l =
    fold g.H.Hasher.write l.state (flat_map (λ d. fed.u32 d.cost) (drop l.row-index l.down)) ≡ fold g.H.Hasher.write l.initial.state (flat_map (λ d. fed.u32 d.cost) l.down)
