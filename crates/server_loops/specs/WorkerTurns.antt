-- The turns of a worker: which calls it makes, in their order.
use Rattle.std.specs.Prelude.{◌≡◌, ◌≢◌, ◌⊎◌, ◌<◌, ◌≤◌, ℕ, zero, suc, List, [], ◌∷◌, ◌++◌, None, Some, Ok, Err}
use Rattle.std.specs.List.{filter_map}
use Rattle.std.specs.declared.option.Option.{Option}
use Rattle.std.specs.declared.result.Result.{Result}
use Rattle.dom_base.specs.declared.names.As.{As}
use Rattle.dom_base.specs.declared.names.NoMemory.{NoMemory}
use Rattle.pce_parent.specs.declared.work.Work.{Work}
use Rattle.pce_parent.specs.declared.work.Work.TheVariants.{Domain, Border}
use Rattle.pce_parent.specs.declared.work.Done.{Done}
use Rattle.cost_cache.specs.Keys.{key_of}
use Rattle.cost_cache.specs.Entries.{Entries, Has}
use Rattle.cost_cache.specs.declared.key.Key.{Key}
use Rattle.server_loops.specs.Benches.{Call, Ready, Look, Finish, Benched, IsOf}
use Rattle.server_loops.specs.declared.benches.Finished.{Finished}
use Rattle.server_loops.specs.declared.benches.Finished.TheVariants.{NoMemory as NoRoom}
use Rattle.server_loops.specs.declared.working.Worked.{Worked}
use Rattle.server_loops.specs.declared.working.Worked.TheVariants.{Turns, Spent, NoMemory as WantOfMemory}

-- A worker asks for the ready job at its own place, and for the first where there is none.
abbrev pub Asks : ℕ → List Call → Option (As × ℕ) → Type 0
Asks index calls found =
    ((job : As × ℕ) × (found ≡ Some job) × (calls ≡ Ready index found ∷ []))
    ⊎ (calls ≡ Ready index None ∷ Ready 0 found ∷ [])

-- what follows a look in a whole turn: a job that was given is finished
abbrev pub Follows : Result (Option Work) NoMemory → List Call → Type 0
Follows (Ok None) calls = calls ≡ []
Follows (Ok (Some work)) calls = (done : Done) × (answer : Finished) × IsOf done work × (answer ≢ NoRoom) × (calls ≡ Finish done answer ∷ [])
Follows (Err e) calls = ⊥

-- and in a turn in which memory runs out
abbrev pub Breaks : Result (Option Work) NoMemory → List Call → Type 0
Breaks (Ok None) calls = ⊥
Breaks (Ok (Some work)) calls = (calls ≡ []) ⊎ ((done : Done) × IsOf done work × (calls ≡ Finish done NoRoom ∷ []))
Breaks (Err e) calls = calls ≡ []

-- a look at the job that is ready, with its answer and what follows
pub record Looks (job : As × ℕ) (calls : List Call) : Type 0 where
  pub answer : Result (Option Work) NoMemory
  pub rest : List Call
  pub is : calls ≡ Look job.0 job.1 answer ∷ rest

-- no look where no job is ready
abbrev pub GoesOn : (Result (Option Work) NoMemory → List Call → Type 0) → Option (As × ℕ) → List Call → Type 0
GoesOn After None calls = calls ≡ []
GoesOn After (Some job) calls = (looks : Looks job calls) × After looks.answer looks.rest

pub record IsTurn (index : ℕ) (calls : List Call) : Type 0 where
  pub asked : List Call
  pub found : Option (As × ℕ)
  pub asks : Asks index asked found
  pub rest : List Call
  pub goes_on : GoesOn Follows found rest
  pub is : calls ≡ asked ++ rest

-- a turn in which memory runs out
pub record IsBroken (index : ℕ) (calls : List Call) : Type 0 where
  pub asked : List Call
  pub job : As × ℕ
  pub asks : Asks index asked (Some job)
  pub rest : List Call
  pub looks : Looks job rest
  pub breaks : Breaks looks.answer looks.rest
  pub is : calls ≡ asked ++ rest

-- so many turns
abbrev pub AreTurns : ℕ → ℕ → List Call → Type 0
AreTurns index zero calls = calls ≡ []
AreTurns index (suc n) calls = (first : List Call) × (rest : List Call) × IsTurn index first × AreTurns index n rest × (calls ≡ first ++ rest)

-- the beginning of a turn in which the bench was spent: at least the last call of the turn is missing
abbrev pub IsCut : ℕ → List Call → Type 0
IsCut index calls = (next : Call) × (rest : List Call) × IsTurn index (calls ++ next ∷ rest)

-- no more than so many turns, of which the last may be such a beginning
pub record Stops (index turns : ℕ) (calls : List Call) : Type 0 where
  pub count : ℕ
  pub whole : List Call
  pub part : List Call
  pub within : count ≤ turns
  pub below : part ≢ [] → count < turns
  pub are_turns : AreTurns index count whole
  pub cut : IsCut index part
  pub is : calls ≡ whole ++ part

-- The calls of a run by its end: all turns; those before the call at which the bench was spent; or, where memory ran out, those before a
-- turn that this ended and that turn, or, since what a worker keeps takes memory too, those of a run that stops anywhere.
abbrev pub Ends : ℕ → ℕ → Worked → List Call → Type 0
Ends index turns Turns calls = AreTurns index turns calls
Ends index turns (Spent t) calls = Stops index turns calls
Ends index turns WantOfMemory calls =
    ((n : ℕ) × (whole : List Call) × (broken : List Call) × (n < turns) × AreTurns index n whole × IsBroken index broken × (calls ≡ whole ++ broken))
    ⊎ Stops index turns calls

-- the job that passes the gate: one that a look gave
abbrev pub given_job : Call → Option (As × ℕ)
given_job (Look at number (Ok (Some work))) = Some (at, number)
given_job _ = None

abbrev pub jobs_given : List Call → List (As × ℕ)
jobs_given calls = filter_map given_job calls

abbrev pub key_of_work : Work → Option Key
key_of_work (Domain job) = Some (key_of job.ask)
key_of_work (Border job) = None

-- the key of a domain's job that a look gave
abbrev pub given_key : Call → Option Key
given_key (Look at number (Ok (Some work))) = key_of_work work
given_key _ = None

abbrev pub keys_given : List Call → List Key
keys_given calls = filter_map given_key calls

-- the cache has the last of these keys, if there is one
abbrev pub HasLast : List Key → Entries → Type 0
HasLast [] cache = Unit {0}
HasLast (key ∷ []) cache = Has cache key
HasLast (key ∷ (next ∷ keys)) cache = HasLast (next ∷ keys) cache

-- A run: its calls stand behind those before, each job that was given passed the gate, and the cache has the key of the last domain's job.
pub record Runs (index turns : ℕ) (end : Worked) (old new : Benched) (passed passed_after : List (As × ℕ)) (cache : Entries) : Type 0 where
  pub made : List Call
  pub calls : new.calls ≡ old.calls ++ made
  pub turns_made : Ends index turns end made
  pub gate : passed_after ≡ passed ++ jobs_given made
  pub last : end ≢ WantOfMemory → HasLast (keys_given made) cache
