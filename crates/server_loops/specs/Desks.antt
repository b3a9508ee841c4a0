-- The calls of a desk with their answers, and the state of a desk.
use Rattle.std.specs.Prelude.{◌≡◌, ℕ, List, [], ◌∷◌, ◌++◌, None, Some, Ok, Err}
use Rattle.std.specs.declared.option.Option.{Option}
use Rattle.std.specs.declared.result.Result.{Result}
use Rattle.network_links.specs.declared.rest.Rest.{Rest}
use Rattle.network_links.specs.declared.rest.Rest.TheVariants.{Nothing}
use Rattle.plant_model.specs.declared.event.Event.{Event}
use Rattle.plant_model.specs.declared.event.Event.TheVariants as event
use Rattle.plant_model.specs.declared.outcome.Outcome.{Outcome}
use Rattle.server_loops.specs.declared.desks.DeskRefused.{DeskRefused}
use Rattle.server_loops.specs.declared.desks.DeskRefused.TheVariants.{Plant, Spent}

abbrev pub Answer : Type 0
Answer = Result Outcome DeskRefused

-- an event that was made, with its answer; and of a take that was accepted, what was told that it leaves to do for its peer
pub record Call : Type 0 where
  pub event : Event
  pub answer : Answer
  pub rest : Rest

abbrev pub call : Event → Answer → Call
call e a = record { event = e; answer = a; rest = Nothing }

abbrev pub call_telling : Event → Answer → Rest → Call
call_telling e a rest = record { event = e; answer = a; rest = rest }

-- the events that were made, the oldest first, and at which number the desk was spent
pub record Desked : Type 0 where
  pub calls : List Call
  pub spent : Option ℕ

-- a topology is loaded at its own domain
abbrev pub IsOwnLoad : Event → Type 0
IsOwnLoad (event.Load d g) = g.own ≡ d
IsOwnLoad e = Unit {0}

-- an event that is refused as spent is not made
abbrev pub made_by : Event → Answer → Rest → List Call
made_by e (Ok o) rest = call_telling e (Ok o) rest ∷ []
made_by e (Err (Plant why)) rest = call e (Err (Plant why)) ∷ []
made_by e (Err (Spent t)) rest = []

-- the number that an answer shows as that at which the desk was spent
abbrev pub spent_by : Answer → Option ℕ
spent_by (Ok o) = None
spent_by (Err (Plant why)) = None
spent_by (Err (Spent t)) = Some t

-- One more event. A desk that was spent answers so from then on, with the number of the first time.
pub record GoesTelling (old new : Desked) (e : Event) (answer : Answer) (rest : Rest) : Type 0 where
  pub calls : new.calls ≡ old.calls ++ made_by e answer rest
  pub spent : new.spent ≡ spent_by answer
  pub stays : (t : ℕ) → old.spent ≡ Some t → answer ≡ Err (Spent t)

-- no event but a take tells what it leaves to do
abbrev pub Goes : Desked → Desked → Event → Answer → Type 0
Goes old new (event.Take i) answer = (rest : Rest) × GoesTelling old new (event.Take i) answer rest
Goes old new e answer = GoesTelling old new e answer Nothing

-- a take, and what was told that it leaves to do
abbrev pub Takes : Desked → Desked → ℕ → Result Rest DeskRefused → Type 0
Takes old new i (Ok rest) = (o : Outcome) × GoesTelling old new (event.Take i) (Ok o) rest
Takes old new i (Err why) = GoesTelling old new (event.Take i) (Err why) Nothing
