-- One draw more.
use Rattle.std.proofs.Common.{◌≡◌, ◌+◌, ℕ, suc, arith, ap, refl}
use Rattle.network_files.specs.Draws.{state_after, state_at}

pub none_drawn : 1 ≡ state_at 0
unfolding state_at
none_drawn = refl

pub one_more : (k : ℕ) → state_at (k + 1) ≡ state_after (state_at k)
unfolding state_at
one_more k = let same : k + 1 ≡ suc k = omega arith in ap state_at same
