-- A request that can be solved stays as it is until it ends, and keeps its job. Its number is never given again.
use Rattle.std.specs.Prelude.{◌≡◌, ◌⊎◌, ◌≤◌, ℕ, true, Option, Some, None}
use Rattle.request_table.specs.Pending.{Pending, ArePending, item_of}
use Rattle.pce_common.specs.plant_model.Element.{Item, is_ready}
use Rattle.pce_common.specs.plant_model.Plant.{Pin, Segment}
use Rattle.pce_element.specs.Jobs.{Work, job_at}
use Rattle.pce_element.specs.Seen.{Seen}

-- one that ended does not come again, and one that can be solved stays as it is until it ends
abbrev pub LastsAs : {P : Type 0} → Option (Item P) → Option (Item P) → Type 0
LastsAs old None = Unit {0}
LastsAs None (Some new) = ⊥
LastsAs (Some old) (Some new) = is_ready old.stage ≡ true → new ≡ old

-- for each number that was given
pub record RequestsLast {P : Type 0} (old new : Pending (Item P)) : Type 0 where
  pub given : old.given ≤ new.given
  pub each : (n : ℕ) → n ≤ old.given → LastsAs (item_of old n) (item_of new n)

-- The requests of an element before and after a call.
pub record ReadyLast {P : Type 0} {S : Type 0} (old new : Seen P S) : Type 0 where
  pub requests : RequestsLast old.losing.element.pending new.losing.element.pending

-- The jobs of an element with topologies, before and after a call.
pub record JobsLast (old new : Seen Pin Segment) : Type 0 where
  pub given : old.losing.element.pending.given ≤ new.losing.element.pending.given
  pub kept : (n : ℕ) (w : Work) → job_at old n ≡ Some w →
      (n ≤ old.losing.element.pending.given) × ((job_at new n ≡ Some w) ⊎ (item_of new.losing.element.pending n ≡ None))
  pub gone : (n : ℕ) → n ≤ old.losing.element.pending.given → item_of old.losing.element.pending n ≡ None → item_of new.losing.element.pending n ≡ None

-- with requests that last, jobs do
abbrev pub LastsWithRequests : Type 0
LastsWithRequests = (a b : Seen Pin Segment) → ArePending a.losing.element.pending → b.place ≡ a.place → ReadyLast a b → JobsLast a b

-- the same over any number of calls
abbrev pub LastsOn : Type 0
LastsOn = (a b c : Seen Pin Segment) → JobsLast a b → JobsLast b c → JobsLast a c

-- what leaves the settings and the pending requests as they are leaves all jobs
abbrev pub LastsStill : Type 0
LastsStill = (a b : Seen Pin Segment) → ArePending a.losing.element.pending → b.place ≡ a.place → b.losing.element.pending ≡ a.losing.element.pending → JobsLast a b
