-- The reasons of faults, over several calls.
use Rattle.std.proofs.Common.{ℕ, ◌≤◌, Result, Ok, Err, arith}
use Rattle.plant_record.specs.Faults.{HasReason, IsJudged}
use Rattle.plant_record.specs.declared.fault.Fault.{Fault}
use Rattle.plant_record.specs.declared.fault.Fault.TheVariants as why

pub reason_wider : {F : Type 0} (faults : F → ℕ) (before mid now end : ℕ) (fault : Fault) → before ≤ mid → now ≤ end → HasReason faults mid now fault → HasReason faults before end fault
reason_wider faults before mid now end why.Folder low high is = omega (arith, low, high, is)
reason_wider faults before mid now end why.Write low high is = is
reason_wider faults before mid now end why.NoMemory low high is = tt

-- behind calls that were judged before
pub fault_behind : {F : Type 0} (faults : F → ℕ) (before mid now : ℕ) (fault : Fault) → before ≤ mid → (mid ≤ now) × HasReason faults mid now fault → (before ≤ now) × HasReason faults before now fault
fault_behind faults before mid now fault low (later, reason) = (omega (arith, low, later), reason_wider faults before mid now now fault low (omega arith) reason)

pub judged_behind : {F X : Type 0} (faults : F → ℕ) (before mid now : ℕ) (result : Result X Fault) → before ≤ mid → IsJudged faults mid now result → IsJudged faults before now result
judged_behind faults before mid now (Ok x) low is = omega (arith, low, is)
judged_behind faults before mid now (Err fault) low is = fault_behind faults before mid now fault low is

-- an error is handed on, behind which the count may have risen
pub judged_on : {F : Type 0} (X Y : Type 0) (faults : F → ℕ) (before mid now : ℕ) (fault : Fault) → mid ≤ now → IsJudged {F = F} {X = X} faults before mid (Err fault) → IsJudged {F = F} {X = Y} faults before now (Err fault)
judged_on X Y faults before mid now fault high is = (omega (arith, high, is.0), reason_wider faults before before mid now fault (omega arith) high is.1)
