-- What contracts see of a spawner in memory, and of one that starts threads.
use Rattle.std.specs.Prelude.{◌≡◌, ◌≢◌, ◌∷◌, [], ◌++◌, ℕ, List, map}
use Rattle.dom_edge.specs.Causes.{HasCause}
use Rattle.dom_edge.specs.Memory.{Calls}
use Rattle.network_serving.specs.Bases.{Base, base_of}
use Rattle.network_serving.specs.declared.begun.Begun.{Begun}
use Rattle.network_serving.specs.declared.begun.Begun.TheVariants.{Started, Failed}
use Rattle.network_serving.specs.declared.duties.Duty.{Duty}
use Rattle.network_serving.specs.declared.footing.Footing.{Footing}

-- the duties that were kept, what stood behind their tasks, and the calls
pub record MemoryState : Type 0 where
  pub duties : List Duty
  pub footings : List Footing
  pub calls : Calls

-- the duties of the threads that were started, what stood behind their tasks, and how often none could be
pub record ThreadState : Type 0 where
  pub duties : List Duty
  pub footings : List Footing
  pub faults : ℕ

abbrev pub bases_in : List Footing → List Base
bases_in footings = map base_of footings

-- A start appends its duty, and what stands behind its task, where it is told as started, and nothing else. It failed only where the
-- count of faults rose.
pub record Starts (duty : Duty) (base : Base) (answer : Begun) (old new : List Duty) (from onto : List Base) (before after : ℕ) : Type 0 where
  pub started : answer ≡ Started → new ≡ old ++ duty ∷ []
  pub others : answer ≢ Started → new ≡ old
  pub behind : answer ≡ Started → onto ≡ from ++ base ∷ []
  pub kept : answer ≢ Started → onto ≡ from
  pub cause : HasCause before after (answer ≡ Failed)
