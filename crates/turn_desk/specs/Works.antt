-- What a worker's bench notes, over the desk behind it.
use Rattle.std.specs.Prelude.{◌≡◌, ℕ, List, [], ◌∷◌, ◌++◌, map, Option, Some, None}
use Rattle.std.specs.List.{AllByRecursion, filter_map}
use Rattle.plant_network.specs.plant_model.Types.{As}
use Rattle.te_links.specs.Rows.{Rows}
use Rattle.plant_network.specs.declared.acts.Act.{Act}
use Rattle.plant_network.specs.declared.acts.Act.TheVariants.{Next}
use Rattle.plant_network.specs.declared.acts.Acted.TheVariants as acted
use Rattle.plant_network.specs.pce_element.pce_common.declared.rounds.AskedJob.{AskedJob}
use Rattle.plant_network.specs.pce_element.pce_common.declared.rounds.Behind.{Behind}
use Rattle.plant_network.specs.declared.acts.ActAnswer.{ActAnswer}
use Rattle.server_loops.specs.Benches as bench
use Rattle.server_loops.specs.Benches.{Benched, Call}
use Rattle.turn_desk.specs.Desks.{IsStill, Stand, benched_of}
use Rattle.turn_desk.specs.declared.notes.Note.{Note}
use Rattle.turn_desk.specs.declared.notes.Note.TheVariants.{Asked, Looked, Finished}

-- ---- notes

-- the call of a note
abbrev pub noted_call : Note → Call
noted_call (Asked k answer) = bench.Ready k answer
noted_call (Looked d k answer) = bench.Look d k answer.value
noted_call (Finished x answer) = bench.Finish x.value answer

abbrev pub noted_calls : List Note → List Call
noted_calls notes = map noted_call notes

-- the calls are those that were noted, and all else is the desk's
abbrev pub worked_of : Stand → List Note → Benched
worked_of s notes = record (benched_of s) { calls = noted_calls notes }

-- no question
abbrev pub work_call : Call → Option Call
work_call (bench.Ready k answer) = None
work_call (bench.Look d k answer) = Some (bench.Look d k answer)
work_call (bench.Finish x answer) = Some (bench.Finish x answer)

-- the calls but for the questions
abbrev pub works : List Call → List Call
works calls = filter_map work_call calls

-- but for questions the calls are those of the desk
abbrev pub AreDone : Stand → List Note → Type 0
AreDone s notes = works (noted_calls notes) ≡ works (benched_of s).calls

-- ---- questions

-- a turn that asked for the next job of a member
abbrev pub IsQuestion : Act × ActAnswer → Type 0
IsQuestion e = (d : As) × (behind : Behind) × (answer : Option AskedJob) × (e.0 ≡ Next d behind) × (e.1.acted ≡ acted.Next answer)

-- a job of that member
abbrev pub job_at : As → Option AskedJob → Option (As × ℕ)
job_at d None = None
job_at d (Some job) = Some (d, job.number)

-- the last of these turns found the job
pub record FoundLast (job : As × ℕ) (made : List (Act × ActAnswer)) : Type 0 where
  pub before : List (Act × ActAnswer)
  pub behind : Behind
  pub asked : AskedJob
  pub turn : ActAnswer
  pub is : made ≡ before ++ (Next job.0 behind, turn) ∷ []
  pub found : turn.acted ≡ acted.Next (Some asked)
  pub number : asked.number ≡ job.1

abbrev pub IsAnswer : Option (As × ℕ) → List (Act × ActAnswer) → Type 0
IsAnswer None made = Unit {0}
IsAnswer (Some job) made = FoundLast job made

-- The turns that were made asked for jobs, and the answer is that of the last.
pub record Asks (answer : Option (As × ℕ)) (old new : Stand) : Type 0 where
  pub made : List (Act × ActAnswer)
  pub own : new.own ≡ old.own ++ made
  pub each : AllByRecursion IsQuestion made
  pub answered : IsAnswer answer made

-- so many questions so far
pub record AreAsked (old new : Stand) : Type 0 where
  pub made : List (Act × ActAnswer)
  pub own : new.own ≡ old.own ++ made
  pub each : AllByRecursion IsQuestion made
  pub no_work : works (benched_of new).calls ≡ works (benched_of old).calls
  pub topologies : (at : As) (generation : ℕ) (g : Rows) → (benched_of old).topologies at generation ≡ Some g → (benched_of new).topologies at generation ≡ Some g
  pub stays : (t : ℕ) → old.spent ≡ Some t → new.spent ≡ Some t
  pub still : IsStill old new

-- and the answer is that of the last
pub record Finds (answer : Option (As × ℕ)) (old new : Stand) : Type 0 where
  pub asked : AreAsked old new
  pub answered : IsAnswer answer asked.made
  pub idle : (t : ℕ) → new.spent ≡ Some t → answer ≡ None
