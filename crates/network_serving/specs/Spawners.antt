-- The state of a spawner: the duties that it started, the bases of their tasks, and how often it failed.
use Rattle.std.specs.Prelude.{ℕ, List}
use Rattle.network_serving.specs.declared.duties.Duty.{Duty}
use Rattle.network_serving.specs.declared.spawner.Spawner.{Spawner}
use Rattle.network_serving.specs.declared.spawner.Spawner.TheVariants as spawner
use Rattle.network_serving.specs.Bases.{Base}
use Rattle.network_serving.specs.SpawnerStates.{bases_in}

-- the duties that were started, the oldest first
abbrev pub started : {T : Type 0} → Spawner T → List Duty
started (spawner.Memory m) = m.duties
started (spawner.Threads t) = t.duties

-- what stands behind the tasks that were started, in the same order
abbrev pub bases : {T : Type 0} → Spawner T → List Base
bases (spawner.Memory m) = bases_in m.footings
bases (spawner.Threads t) = bases_in t.footings

-- how often a start failed
abbrev pub faults_of : {T : Type 0} → Spawner T → ℕ
faults_of (spawner.Memory m) = m.calls.faults
faults_of (spawner.Threads t) = t.faults
