-- The parts of a start: tasks that are planned, and why one is not started.
use Rattle.std.specs.Prelude.{◌≡◌, ◌+◌, ℕ, List, ◌++◌, All, map, slice_get, Option, Some}
use Rattle.dom_base.specs.declared.addr.Addr.{Addr}
use Rattle.dom_edge.specs.Causes.{Rose}
use Rattle.plant_text.specs.declared.settings.PeerRow.{PeerRow}
use Rattle.turn_desk.specs.Desks.{Stand, split_from}
use Rattle.network_serving.specs.Bases.{Desk, base_in}
use Rattle.network_serving.specs.Tasks.{IsNew, duty_of}
use Rattle.network_serving.specs.declared.duties.Duty.{Duty}
use Rattle.network_serving.specs.declared.tasks.Task.{Task}
use Rattle.network_serving.specs.Ends.{RoseBy}
use Rattle.network_serving.specs.declared.served.Served.{Served}
use Rattle.network_serving.specs.declared.served.Served.TheVariants as served

-- what is told of ports: their calls and faults before and after, and the port at which they last failed
pub record Called : Type 0 where
  pub calls : ℕ × ℕ
  pub faults : ℕ × ℕ
  pub failed_at : ℕ

abbrev pub called : ℕ × ℕ → ℕ × ℕ → ℕ → Called
called calls faults failed_at = record { calls = calls; faults = faults; failed_at = failed_at }

-- of these ports the one at some place can't be listened at, after one call for each before it
pub record IsUnlistened (ports : List ℕ) (x : Called) (port : ℕ) : Type 0 where
  pub place : ℕ
  pub at_place : slice_get ports place ≡ Some port
  pub calls : RoseBy (place + 1) x.calls
  pub failed : Rose x.faults.0 x.faults.1
  pub at_port : x.failed_at ≡ port

-- this port can't be listened at; the counts are the faults of the ports before and after
pub record IsClosed (port : ℕ) (faults : ℕ × ℕ) (failed_at : ℕ) (s : Served) : Type 0 where
  pub is : s ≡ served.NoPort port
  pub failed : Rose faults.0 faults.1
  pub at_port : failed_at ≡ port

-- one of these ports can't be listened at, or memory ran out
abbrev pub IsPlanEnd : List ℕ → Called → Served → Type 0
IsPlanEnd ports x (served.NoPort port) = IsUnlistened ports x port
IsPlanEnd ports x served.NoMemory = Unit {0}
IsPlanEnd ports x s = ⊥

-- a thread can't be started, or memory ran out
abbrev pub IsUnstarted : ℕ × ℕ → Served → Type 0
IsUnstarted faults served.NoThread = Rose faults.0 faults.1
IsUnstarted faults served.NoMemory = Unit {0}
IsUnstarted faults s = ⊥

-- one of these ports can't be listened at, or a thread can't be started, or memory ran out
abbrev pub IsStartEnd : List ℕ → Called → ℕ × ℕ → Served → Type 0
IsStartEnd ports x faults (served.NoPort port) = IsUnlistened ports x port
IsStartEnd ports x faults served.NoThread = Rose faults.0 faults.1
IsStartEnd ports x faults served.NoMemory = Unit {0}
IsStartEnd ports x faults s = ⊥

-- the ports of peers
abbrev pub peer_ports : List PeerRow → List ℕ
peer_ports rows = map (λ (row : PeerRow). row.port) rows

-- the desk has made no turn
abbrev pub IsFresh : Stand → Type 0
IsFresh s = split_from s ≡ s

-- the task may begin, at a desk that stands so
abbrev pub IsPlanned : {K F I O R : Type 0} → (K → Option Addr) → (K → Option Addr) → Stand → Task K F I O R → Type 0
IsPlanned {K} {F} {I} {O} {R} heeds dialled_to stand task = IsNew heeds dialled_to task × (base_in task ≡ Desk stand)

-- Tasks of these duties, which may begin at desks that stand so, were put behind others.
pub record Adds {K F I O R : Type 0} (opened_at : K → ℕ) (heeds dialled_to : K → Option Addr) (stand : Stand) (old new : List (Task K F I O R)) (duties : List Duty) : Type 0 where
  pub duties_are : map (duty_of opened_at) new ≡ map (duty_of opened_at) old ++ duties
  pub are_planned : All (IsPlanned heeds dialled_to stand) old → All (IsPlanned heeds dialled_to stand) new
