-- The parent as its callers see it.
use Rattle.std.specs.Prelude.{◌≡◌, ℕ, cond, nat_eq, [], map, Option, Some, None}
use Rattle.std.specs.Map.{lookup}
use Rattle.pce_common.specs.plant_model.Types.{Addr, Held}
use Rattle.pce_common.specs.plant_model.declared.TheConstants.{PARENT_PENDING_MAX}
use Rattle.pce_common.specs.plant_model.declared.upper.BorderJob.{BorderJob}
use Rattle.pce_common.specs.plant_model.RealWire.{wire}
use Rattle.pce_common.specs.plant_model.Parent.{Parent, Family, ParentTaken, Losing, Asking, is_ready, job_of, commit}
use Rattle.pce_parent.specs.Solution.{BorderSolution}
use Rattle.pce_common.specs.Ways.{way_of}

-- its id and settings, what it holds, the lost requests that it has yet to hand out, and for how many more requests there is
-- memory
pub record Seen : Type 0 where
  pub id : Addr
  pub family : Family
  pub losing : Losing
  pub room : ℕ

abbrev pub with_losing : Losing → Seen → Seen
with_losing l s = record s { losing = l }

abbrev pub with_parent : Parent → Seen → Seen
with_parent k s = record s { losing = record s.losing { parent = k } }

-- the same, whatever memory there is
abbrev pub SameButRoom : Seen → Seen → Type 0
SameButRoom a b = b ≡ record a { room = b.room }

-- a parent without requests, whose sessions are not up
abbrev pub new_parent : Family → Parent
new_parent f = record { pending = record { limit = PARENT_PENDING_MAX; given = 0; rows = [] }; ways = map way_of f.children }

abbrev pub IsNew : Addr → Family → Seen → Type 0
IsNew id f s = s ≡ record { id = id; family = f; losing = record { parent = new_parent f; lost = [] }; room = s.room }

-- the job of a request that can be solved
abbrev pub job_when : Family → ℕ → Option (Held Asking) → Option BorderJob
job_when f n None = None
job_when f n (Some h) = cond (is_ready h.item) (Some (job_of f (n, h))) None

abbrev pub job_at : Seen → ℕ → Option BorderJob
job_at s n = job_when s.family n (lookup (nat_eq n) s.losing.parent.pending.rows)

-- the outcome of a solved job, where its request is ready
abbrev pub committed_when : BorderSolution → Parent → Option (Held Asking) → Option ParentTaken
committed_when solved k None = None
committed_when solved k (Some h) = cond (is_ready h.item) (Some (commit wire (solved.job.number, h) solved.answer k)) None

abbrev pub committed : BorderSolution → Parent → Option ParentTaken
committed solved k = committed_when solved k (lookup (nat_eq solved.job.number) k.pending.rows)
