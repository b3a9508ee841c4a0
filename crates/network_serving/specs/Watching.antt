-- A port at which watchers are answered, one connection after the other.
use Rattle.std.specs.Prelude.{◌≡◌, ◌⊎◌, ◌-◌, ◌^◌, ℕ, zero, suc, List, [], ◌∷◌}
use Rattle.dom_edge.specs.Heeding.{Sides}
use Rattle.server_loops.specs.Serving.{Heard, IsIdle, IsLater}
use Rattle.ted_watch.specs.declared.shown.Shown.{Shown}
use Rattle.ted_watch.specs.Serving.{Watches}
use Rattle.ted_watch.specs.declared.serving.Watched.{Watched}

-- that connection is answered to its end
pub record IsAnswered (old new : List Shown) (link : Sides) : Type 0 where
  pub end : Watched
  pub after : Sides
  pub watches : Watches (2 ^ 64 - 1) end old new link after

-- one turn: nobody came, or a connection was handed out and that one was answered; `old` and `new` are what the watcher knows
abbrev pub IsWatchTurn : List Shown → List Shown → Heard → Heard → Type 0
IsWatchTurn old new before after = (IsIdle before after × (new ≡ old)) ⊎ ((link : Sides) × IsLater (link ∷ []) before after × IsAnswered old new link)

-- so many turns, one after the other
abbrev pub WatchesPort : ℕ → List Shown → List Shown → Heard → Heard → Type 0
WatchesPort zero old new before after = (new ≡ old) × (after ≡ before)
WatchesPort (suc turns) old new before after =
    (mid : List Shown) × (between : Heard) × IsWatchTurn old mid before between × WatchesPort turns mid new between after
