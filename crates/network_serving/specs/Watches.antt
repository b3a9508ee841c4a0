-- The tasks that answer watchers, and the watchers that they are given.
use Rattle.std.specs.Prelude.{◌≡◌, ℕ, List, [], All, length, map, Option}
use Rattle.dom_base.specs.declared.addr.Addr.{Addr}
use Rattle.logbook.specs.Pages.{Book}
use Rattle.ted_watch.specs.declared.shown.Shown.{Shown}
use Rattle.ted_watch.specs.declared.watch.Watcher as watch
use Rattle.ted_watch.specs.Watch.{known, list_at}
use Rattle.network_serving.specs.Bases.{Watcher, base_in}
use Rattle.network_serving.specs.Tasks.{IsNew, duty_of}
use Rattle.network_serving.specs.declared.duties.Duty.{Duty}
use Rattle.network_serving.specs.declared.duties.TheConstants.{WATCHERS}
use Rattle.network_serving.specs.declared.tasks.Task.{Task}

-- a watcher of that list which knows nothing yet
abbrev pub IsUnused : Book → watch.Watcher → Type 0
IsUnused list w = (known w ≡ []) × (list_at w ≡ list)

-- one for each task
abbrev pub AreUnused : Book → List watch.Watcher → Type 0
AreUnused list ws = (length ws ≡ WATCHERS) × All (IsUnused list) ws

-- Tasks of these duties, which may begin, each with a watcher of that list which knows this.
pub record AreWatches {K F I O R : Type 0} (opened_at : K → ℕ) (heeds dialled_to : K → Option Addr) (shown : List Shown) (list : Book) (duties : List Duty) (tasks : List (Task K F I O R)) : Type 0 where
  pub duties_are : map (duty_of opened_at) tasks ≡ duties
  pub bases_are : map base_in tasks ≡ map (λ (d : Duty). Watcher shown list) duties
  pub are_new : All (IsNew heeds dialled_to) tasks
