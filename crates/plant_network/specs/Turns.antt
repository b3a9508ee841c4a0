-- What may be done to a network in a turn, which answers are allowed, and which look warrants a finish.
use Rattle.std.specs.Prelude.{◌≡◌, ℕ, Option, Some, None, Result, Ok, IfOk, IfErr, IfSome, slice_get}
use Rattle.std.specs.Arc.{arc_value}
use Rattle.std.specs.Option.{option_map}
use Rattle.network_events.specs.plant_model.Types.{As, NoMemory}
use Rattle.network_events.specs.plant_model.declared.event.Event.{Event}
use Rattle.network_events.specs.plant_model.declared.event.Event.TheVariants.{Solve, Take}
use Rattle.network_events.specs.plant_model.Events.{Answered, ready_jobs}
use Rattle.network_events.specs.network_links.Rests.{rest_of}
use Rattle.network_events.specs.network_links.declared.rest.Rest.{Rest}
use Rattle.network_events.specs.network_links.declared.rest.Rest.TheVariants.{Nothing}
use Rattle.network_events.specs.pce_common.Rounds.{IsNext, asked_jobs}
use Rattle.plant_laws.specs.Lasting.{HaveGiven, JobsLast}
use Rattle.network_members.specs.pce_element.Rows.{pin_with}
use Rattle.network_members.specs.pce_parent.declared.work.Done.{Done}
use Rattle.network_members.specs.pce_parent.declared.work.Work.{Work}
use Rattle.network_members.specs.Answering.{IsWeighedWork}
use Rattle.plant_network.specs.Current.{IsCurrent}
use Rattle.plant_network.specs.Topologies.{whole}
use Rattle.plant_network.specs.Jobs.{IsOwn, IsSolvedBy, IsWork, solved_at, solved_number, told}
use Rattle.plant_network.specs.Whole.{GoesOn, IsOwnLoad, Stepped, Whole}
use Rattle.plant_network.specs.declared.acts.Act.{Act}
use Rattle.plant_network.specs.declared.acts.Act.TheVariants.{Do, Look, Ready, Next, Finish, Map}
use Rattle.plant_network.specs.declared.acts.Acted.{Acted}
use Rattle.plant_network.specs.declared.acts.Acted.TheVariants as acted
use Rattle.plant_network.specs.declared.acts.Acted.TheVariants.{Did, Looked, Found, Committed, Mapped}
use Rattle.plant_network.specs.declared.acts.ActAnswer.{ActAnswer}

-- ---- what is admitted

abbrev pub Admits : Whole → Act → Type 0
Admits w (Do e) = IsOwnLoad e
Admits w (Finish x) = IsOwn w x
Admits w _ = Unit {0}

-- ---- what is answered

-- the event of a job that was solved
abbrev pub solve_of : Done → Event
solve_of x = Solve (solved_at x) (solved_number x)

-- the event is done, or refused
pub record IsDone (w : Whole) (e : Event) (answer : Answered) (next : Whole) : Type 0 where
  pub stepped : Stepped w e answer next
  pub goes : GoesOn w e answer next

-- the job of the request of a number, where it can be solved and memory does not lack
pub record IsShown (w : Whole) (d : As) (k : ℕ) (answer : Result (Option Work) NoMemory) : Type 0 where
  pub work : IfOk answer (IsWork w d k)
  pub weighed : IfOk answer (λ found. IfSome found IsWeighedWork)

-- the act is answered so, and leaves that state
abbrev pub IsAnswer : Whole → Act → Acted → Whole → Type 0
IsAnswer w (Do e) (Did r) next = IsDone w e r next
IsAnswer w (Look d k) (Looked r) next = (next ≡ w) × IsShown w d k r
IsAnswer w (Ready k) (Found r) next = (next ≡ w) × (r ≡ slice_get (ready_jobs w.network w.state) k)
IsAnswer w (Next d behind) (acted.Next r) next = (next ≡ w) × IsNext behind (asked_jobs d w.state) r
IsAnswer w (Finish x) (Committed r) next = IsDone w (solve_of x) (told r) next × IfErr r (λ refusal. refusal.back ≡ x)
IsAnswer w (Map d) (Mapped r) next = (next ≡ w) × IfOk r (λ found. IsCurrent w d (option_map (λ p. pin_with p.0 (arc_value p.1)) found))
IsAnswer w a r next = ⊥

-- the settings stay, and jobs last
pub record LastsTo (w next : Whole) : Type 0 where
  pub network : next.network ≡ w.network
  pub jobs : JobsLast w.state next.state

abbrev pub left_by : Whole → Act → ActAnswer → Whole
left_by w a t = whole t.left.value

-- the outside peer of whom an act takes a message
abbrev pub taken_of : Act → Option ℕ
taken_of (Do (Take i)) = Some i
taken_of a = None

-- what a take leaves to do for its peer
abbrev pub rest_for : Option ℕ → Whole → Rest
rest_for None w = Nothing
rest_for (Some i) w = rest_of (w.state.accesses i).connection

-- A state allows the answer to the act, with what it left. Whatever the act, each request has a number that was given, and jobs last.
pub record Allowed (w : Whole) (a : Act) (t : ActAnswer) : Type 0 where
  pub answer : IsAnswer w a t.acted (left_by w a t)
  pub rest : t.rest ≡ rest_for (taken_of a) (left_by w a t)
  pub given : HaveGiven w.state
  pub lasts : LastsTo w (left_by w a t)

-- ---- what is warranted

-- a look that answered a job warrants that its solution is answered
abbrev pub Warrants : Act → Acted → Act → Type 0
Warrants (Look d k) (Looked (Ok (Some w))) (Finish x) = IsSolvedBy w x
Warrants a r next = ⊥
