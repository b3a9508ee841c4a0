-- The runs of a worker, one behind the other: where memory ran out in one, the next begins with a cache that is new.
use Rattle.std.specs.Prelude.{◌≡◌, ◌≢◌, ◌⊎◌, ℕ, zero, suc, List, []}
use Rattle.dom_base.specs.declared.names.As.{As}
use Rattle.cost_cache.specs.Entries.{Entries}
use Rattle.server_loops.specs.Benches.{Benched}
use Rattle.server_loops.specs.WorkerTurns.{Runs}
use Rattle.server_loops.specs.declared.working.Worked.{Worked}
use Rattle.server_loops.specs.declared.working.Worked.TheVariants.{NoMemory as OutOfMemory}

module _ (index turns : ℕ) where
  -- one try: a run of so many turns over a cache that was new and is this one now; or there was no memory for a cache, and nothing was done
  abbrev pub IsTry : Worked → Benched → Benched → Entries → Type 0
  IsTry end old new cache =
      ((passed : List (As × ℕ)) × Runs index turns end old new [] passed cache)
      ⊎ ((end ≡ OutOfMemory) × (new ≡ old))

  -- at most so many tries: memory ran out in each but the last, which ends as all of them do
  abbrev pub WorksOn : ℕ → Worked → Benched → Benched → Entries → Type 0
  WorksOn zero end old new cache = (new ≡ old) × (end ≢ OutOfMemory)
  WorksOn (suc tries) end old new cache =
      (IsTry end old new cache × (end ≢ OutOfMemory))
      ⊎ ((mid : Benched) × (lost : Entries) × IsTry OutOfMemory old mid lost × WorksOn tries end mid new cache)

  -- so many tries, in each of which memory ran out
  abbrev pub HaveLacked : ℕ → Benched → Benched → Type 0
  HaveLacked zero old new = new ≡ old
  HaveLacked (suc tries) old new = (mid : Benched) × (lost : Entries) × IsTry OutOfMemory old mid lost × HaveLacked tries mid new
