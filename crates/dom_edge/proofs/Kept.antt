-- What comes behind calls that left the known bytes as they were.
use Rattle.std.proofs.Common.{ℕ, List, ◌++◌, ◌∙◌, ap, sym, take, None, Some, Ok, Err}
use Rattle.std.specs.declared.option.Option.{Option}
use Rattle.std.specs.declared.result.Result.{Result}
use Rattle.std.proofs.KnownBytes.{Keeps-trans}
use Rattle.std.specs.Io.KnownBytes.{Appends, Consumes, Keeps, WriteAppends, ReadConsumes}

pub kept_appends : (old mid new : Option (List ℕ)) (bytes : List ℕ) → Keeps old mid → Appends mid new bytes → Appends old new bytes
kept_appends None mid new bytes kept more = tt
kept_appends (Some xs) None new bytes kept more = absurd kept
kept_appends (Some xs) (Some ys) None bytes kept more = absurd more
kept_appends (Some xs) (Some ys) (Some zs) bytes kept more = more ∙ ap (λ (ws : List ℕ). ws ++ bytes) kept

pub kept_consumes : (old mid new : Option (List ℕ)) (bytes : List ℕ) → Keeps old mid → Consumes mid new bytes → Consumes old new bytes
kept_consumes None mid new bytes kept took = tt
kept_consumes (Some xs) None new bytes kept took = absurd kept
kept_consumes (Some xs) (Some ys) None bytes kept took = absurd took
kept_consumes (Some xs) (Some ys) (Some zs) bytes kept took = sym kept ∙ took

-- a write behind them
pub kept_write : {E : Type 0} → (old mid new : Option (List ℕ)) (r : Result ℕ E) (buf : List ℕ) → Keeps old mid → WriteAppends mid new r buf → WriteAppends old new r buf
kept_write old mid new (Ok n) buf kept more = kept_appends old mid new (take n buf) kept more
kept_write old mid new (Err e) buf kept more = Keeps-trans old mid new kept more

-- a read behind them
pub kept_read : {E : Type 0} → (old mid new : Option (List ℕ)) (r : Result ℕ E) (buf : List ℕ) → Keeps old mid → ReadConsumes mid new r buf → ReadConsumes old new r buf
kept_read old mid new (Ok n) buf kept took = (kept_consumes old mid new (take n buf) kept took.0, took.1)
kept_read old mid new (Err e) buf kept took = Keeps-trans old mid new kept took
