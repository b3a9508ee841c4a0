-- Turns of a port of watchers, one after the other.
use Rattle.std.proofs.Common.{◌≡◌, ◌+◌, ℕ, zero, suc, List, refl, subst, arith}
use Rattle.server_loops.specs.Serving.{Heard}
use Rattle.ted_watch.specs.declared.shown.Shown.{Shown}
use Rattle.network_serving.specs.Watching.{IsWatchTurn, WatchesPort}

one_turn : (n : ℕ) (old mid new : List Shown) (before between after : Heard) → WatchesPort n old mid before between → IsWatchTurn mid new between after → WatchesPort (suc n) old new before after
one_turn zero old mid new before between after none turn =
    (new, after, subst (λ (w : Heard). IsWatchTurn old new w after) none.1 (subst (λ (k : List Shown). IsWatchTurn k new between after) none.0 turn), (refl, refl))
one_turn (suc n) old mid new before between after are turn = (are.0, are.1, are.2, one_turn n are.0 mid new are.1 between after are.3 turn)

pub none_watched : (known : List Shown) (w : Heard) → WatchesPort 0 known known w w
none_watched known w = (refl, refl)

pub one_watched : (n : ℕ) (old mid new : List Shown) (before between after : Heard) → WatchesPort n old mid before between → IsWatchTurn mid new between after → WatchesPort (n + 1) old new before after
one_watched n old mid new before between after are turn =
    let same : suc n ≡ n + 1 = omega arith in subst (λ (k : ℕ). WatchesPort k old new before after) same (one_turn n old mid new before between after are turn)
