-- Tries of a worker, one behind the other.
use Rattle.std.proofs.Common.{◌≡◌, ◌≢◌, inl, inr, ◌+◌, ◌<◌, ℕ, zero, suc, List, [], refl, subst, arith}
use Rattle.dom_base.specs.declared.names.As.{As}
use Rattle.cost_cache.specs.Entries.{Entries}
use Rattle.server_loops.specs.Benches.{Benched}
use Rattle.server_loops.specs.WorkerTurns.{Runs}
use Rattle.server_loops.specs.declared.working.Worked.{Worked}
use Rattle.server_loops.specs.declared.working.Worked.TheVariants.{NoMemory as OutOfMemory}
use Rattle.network_serving.specs.Working.{HaveLacked, IsTry, WorksOn}

module _ (index turns : ℕ) where
  pub one_run : (end : Worked) (old new : Benched) (passed : List (As × ℕ)) (cache : Entries) → Runs index turns end old new [] passed cache → IsTry index turns end old new cache
  one_run end old new passed cache runs = inl (passed, runs)

  pub no_run : (old : Benched) (cache : Entries) → IsTry index turns OutOfMemory old old cache
  no_run old cache = inr (refl, refl)

  pub none_lacked : (old : Benched) → HaveLacked index turns 0 old old
  none_lacked old = refl

  lacked_more : (n : ℕ) (old mid new : Benched) (lost : Entries) → HaveLacked index turns n old mid → IsTry index turns OutOfMemory mid new lost → HaveLacked index turns (suc n) old new
  lacked_more zero old mid new lost same once = (new, lost, subst (λ (b : Benched). IsTry index turns OutOfMemory b new lost) same once, refl)
  lacked_more (suc n) old mid new lost have once = (have.0, have.1, have.2, lacked_more n have.0 mid new lost have.3 once)

  pub one_lacked : (n : ℕ) (old mid new : Benched) (lost : Entries) → HaveLacked index turns n old mid → IsTry index turns OutOfMemory mid new lost → HaveLacked index turns (n + 1) old new
  one_lacked n old mid new lost have once =
      let same : suc n ≡ n + 1 = omega arith in subst (λ (k : ℕ). HaveLacked index turns k old new) same (lacked_more n old mid new lost have once)

  pub works_by : (n all : ℕ) (end : Worked) (old mid new : Benched) (cache : Entries) → n < all → HaveLacked index turns n old mid → IsTry index turns end mid new cache → end ≢ OutOfMemory → WorksOn index turns all end old new cache
  works_by zero zero end old mid new cache below have once never = absurd (omega (arith, below))
  works_by (suc n) zero end old mid new cache below have once never = absurd (omega (arith, below))
  works_by zero (suc all) end old mid new cache below same once never = inl (subst (λ (b : Benched). IsTry index turns end b new cache) same once, never)
  works_by (suc n) (suc all) end old mid new cache below have once never = inr (have.0, have.1, have.2, works_by n all end have.0 mid new cache (omega (arith, below)) have.3 once never)

  pub works_out : (n : ℕ) (end : Worked) (old new : Benched) (cache : Entries) → HaveLacked index turns n old new → end ≢ OutOfMemory → WorksOn index turns n end old new cache
  works_out zero end old new cache same never = (same, never)
  works_out (suc n) end old new cache have never = inr (have.0, have.1, have.2, works_out n end have.0 new cache have.3 never)
