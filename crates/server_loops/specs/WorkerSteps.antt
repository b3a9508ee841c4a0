-- The parts of a worker's turn.
use Rattle.std.specs.Prelude.{◌≡◌, ◌⊎◌, ℕ, List, [], ◌∷◌, ◌++◌, All, Contains, None, Some, Ok, IfSome, MatchResult, option_to_list}
use Rattle.std.specs.Arc.{arc_value}
use Rattle.std.specs.declared.option.Option.{Option}
use Rattle.std.specs.declared.result.Result.{Result}
use Rattle.dom_base.specs.declared.names.As.{As}
use Rattle.dom_base.specs.declared.names.NoMemory.{NoMemory}
use Rattle.te_links.specs.Rows.{Rows}
use Rattle.lru.specs.LruCache.{LruCache, lru_cache, put_entries}
use Rattle.border_costs.specs.declared.job.Job.{Job}
use Rattle.pce_parent.specs.Solution.{IsWeighed}
use Rattle.pce_parent.specs.declared.work.Work.{Work}
use Rattle.pce_parent.specs.declared.work.Work.TheVariants.{Domain, Border}
use Rattle.cost_cache.specs.Keys.{key_of, same_key}
use Rattle.cost_cache.specs.Entries.{Entries, IsGood, IsKept}
use Rattle.cost_cache.specs.declared.key.Key.{Key}
use Rattle.cost_cache.specs.declared.kept.Kept.{Kept}
use Rattle.pce_parent.specs.declared.work.Done.{Done}
use Rattle.server_loops.specs.Benches.{Call, Ready, Benched, IsGiven, IsOf}
use Rattle.server_loops.specs.WorkerTurns.{Asks, Follows, Breaks, IsTurn, IsCut, IsBroken, AreTurns, Stops, jobs_given, keys_given, key_of_work}

-- the topologies that a bench knows
abbrev pub Known : Type 0
Known = As → ℕ → Option Rows

-- each entry of a cache is right in the topology that is known of its element and generation
abbrev pub AreRight : Known → Entries → Type 0
AreRight known cache =
    (key : Key) (kept : Kept) → Contains cache.entries (key, kept) → (g : Rows) × (known key.at key.generation ≡ Some g) × IsKept g key kept

-- the topology of a domain's job is known
abbrev pub IsKnown : Known → Job → Type 0
IsKnown known job = known job.ask.at job.ask.generation ≡ Some (arc_value job.topology)

-- the cache is right, and the last job of a domain, if there is one, is known
pub record AreSound (known : Known) (cache : Entries) (last : Option Job) : Type 0 where
  pub right : AreRight known cache
  pub known_last : IfSome last (IsKnown known)

-- what keeping the costs of a domain's job asks for
abbrev pub CanKeep : Entries → Job → Type 0
CanKeep cache job = IsGood job.ask.at job.ask.generation (arc_value job.topology) cache

-- what solving a job asks for
abbrev pub CanSolve : Entries → Work → Type 0
CanSolve cache (Domain job) = CanKeep cache job
CanSolve cache (Border job) = All IsWeighed job.links

-- the keys that were asked for, the last first, and how many are remembered
abbrev pub Asked : Type 0
Asked = LruCache Key (Unit {0})

abbrev pub IsAsked : Asked → Key → Type 0
IsAsked asked key = Contains asked.entries (key, tt)

-- this key was asked for last; where there is no room for it, the one that was asked for longest ago goes
abbrev pub IsAskedNext : Asked → Key → Asked → Type 0
IsAskedNext old key new = new ≡ lru_cache (put_entries same_key old key tt) old.cap

-- a job that is the parent's, or the first under its key, leaves the cache as it was
abbrev pub LeavesCache : Asked → Work → Entries → Entries → Type 0
LeavesCache asked (Domain job) old new = (¬ IsAsked asked (key_of job.ask)) → new ≡ old
LeavesCache asked (Border job) old new = new ≡ old

-- the last job of a domain, once a job was finished
abbrev pub last_after : Work → Option Job → Option Job
last_after (Domain job) last = Some job
last_after (Border job) last = last

-- a cache that is right before is right after, whatever the bench of the job
abbrev pub KeepsRight : Work → Entries → Entries → Type 0
KeepsRight work old new = (b : Benched) → IsGiven b work → AreRight b.topologies old → AreRight b.topologies new

-- a job under this key is the last now; without a key the last one stays
abbrev pub IsLast : Option Key → Option Job → Option Job → Type 0
IsLast None old new = new ≡ old
IsLast (Some key) old new = (job : Job) × (new ≡ Some job) × (key_of job.ask ≡ key)

-- the last of these keys is that of this job
abbrev pub EndsWith : List Key → Option Job → Type 0
EndsWith keys None = keys ≡ []
EndsWith keys (Some job) = (before : List Key) × (keys ≡ before ++ key_of job.ask ∷ [])

-- the bench is not spent
abbrev pub IsLive : Benched → Type 0
IsLive b = (t : ℕ) → b.spent ≡ Some t → ⊥

-- calls that only add topologies, of a bench that stays spent
pub record OnlyAdds (old new : Benched) : Type 0 where
  pub topologies : (at : As) (generation : ℕ) (g : Rows) → old.topologies at generation ≡ Some g → new.topologies at generation ≡ Some g
  pub spent : (t : ℕ) → old.spent ≡ Some t → new.spent ≡ Some t

-- the calls that asked for the ready job, by whether the bench is spent then
abbrev pub AsksBy : Option ℕ → ℕ → List Call → Option (As × ℕ) → Type 0
AsksBy None index made found = Asks index made found
AsksBy (Some t) index made found = (found ≡ None) × ((made ≡ []) ⊎ (made ≡ Ready index None ∷ []))

-- what follows a look that gave a job
abbrev pub FollowsBy : Option ℕ → Work → List Call → Type 0
FollowsBy None work made = Follows (Ok (Some work)) made
FollowsBy (Some t) work made = ((done : Done) × IsOf done work) × (made ≡ [])

-- a turn
abbrev pub TurnBy : Option ℕ → ℕ → List Call → Type 0
TurnBy None index made = IsTurn index made
TurnBy (Some t) index made = IsCut index made

-- so many turns
abbrev pub TurnsBy : Option ℕ → ℕ → ℕ → List Call → Type 0
TurnsBy None index n made = AreTurns index n made
TurnsBy (Some t) index n made = Stops index n made

-- the ready job, and the calls that asked for it; a bench that is spent has none
pub record IsFound (index : ℕ) (old new : Benched) (found : Option (As × ℕ)) : Type 0 where
  pub made : List Call
  pub calls : new.calls ≡ old.calls ++ made
  pub asks : AsksBy new.spent index made found
  pub stays : OnlyAdds old new
  pub no_jobs : jobs_given made ≡ []
  pub no_keys : keys_given made ≡ []

-- a job that a look gave is solved and finished
pub record IsFinished (work : Work) (end : Result (Unit {0}) NoMemory) (old new : Benched) (before : Option Job) (cache : Entries) (last : Option Job) : Type 0 where
  pub made : List Call
  pub calls : new.calls ≡ old.calls ++ made
  pub stays : OnlyAdds old new
  pub ends : MatchResult end (λ _. FollowsBy new.spent work made × IsLast (key_of_work work) before last × AreSound new.topologies cache last) (λ _. Breaks (Ok (Some work)) made × IsLive new)
  pub no_jobs : jobs_given made ≡ []
  pub no_keys : keys_given made ≡ []

-- what a turn leaves where memory does not run out
pub record IsWhole (index : ℕ) (made : List Call) (new : Benched) (before : Option Job) (cache : Entries) (last : Option Job) : Type 0 where
  pub turn : TurnBy new.spent index made
  pub key : Option Key
  pub keys : keys_given made ≡ option_to_list key
  pub is_last : IsLast key before last
  pub sound : AreSound new.topologies cache last

-- a turn
pub record IsTurned (index : ℕ) (end : Result (Unit {0}) NoMemory) (old new : Benched) (passed passed_after : List (As × ℕ)) (before : Option Job) (cache : Entries) (last : Option Job) : Type 0 where
  pub made : List Call
  pub calls : new.calls ≡ old.calls ++ made
  pub stays : OnlyAdds old new
  pub gate : passed_after ≡ passed ++ jobs_given made
  pub ends : MatchResult end (λ _. IsWhole index made new before cache last) (λ _. IsBroken index made × IsLive new)

-- n turns of a run, or fewer where the bench is spent
pub record IsRunning (index n : ℕ) (old new : Benched) (passed passed_after : List (As × ℕ)) (cache : Entries) (last : Option Job) : Type 0 where
  pub made : List Call
  pub calls : new.calls ≡ old.calls ++ made
  pub turns : TurnsBy new.spent index n made
  pub gate : passed_after ≡ passed ++ jobs_given made
  pub is_last : EndsWith (keys_given made) last
  pub sound : AreSound new.topologies cache last
