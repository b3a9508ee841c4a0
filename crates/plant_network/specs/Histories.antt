-- A history of turns as a run of the network: the events of its entries, with their answers.
use Rattle.std.specs.Prelude.{◌≡◌, List, [], ◌∷◌, ◌++◌, map}
use Rattle.network_events.specs.plant_model.declared.event.Event.{Event}
use Rattle.network_events.specs.plant_model.Events.{Answered}
use Rattle.network_events.specs.plant_model.Plant.{Entry, IsGiven, Run}
use Rattle.network_events.specs.plant_model.RealWire.{wire}
use Rattle.plant_lock.specs.History.{Legal, replay}
use Rattle.plant_network.specs.Jobs.{told}
use Rattle.plant_network.specs.Turns.{Admits, Allowed, left_by, solve_of}
use Rattle.plant_network.specs.Whole.{Whole}
use Rattle.plant_network.specs.declared.acts.Act.{Act}
use Rattle.plant_network.specs.declared.acts.Act.TheVariants.{Do, Look, Ready, Finish, Map}
use Rattle.plant_network.specs.declared.acts.Acted.{Acted}
use Rattle.plant_network.specs.declared.acts.Acted.TheVariants.{Did, Committed}
use Rattle.plant_network.specs.declared.acts.ActAnswer.{ActAnswer}

-- the event of an act, with its answer; to look at a job, to ask which can be solved and to ask for a topology are none
abbrev pub event_of : Act → Acted → List (Event × Answered)
event_of (Do e) (Did r) = (e, r) ∷ []
event_of (Finish x) (Committed r) = (solve_of x, told r) ∷ []
event_of a r = []

-- the events of a history, the newest first
abbrev pub events_of : List (Act × ActAnswer) → List (Event × Answered)
events_of [] = []
events_of (e ∷ es) = events_of es ++ event_of e.0 e.1.acted

abbrev pub done_by : Entry → Event × Answered
done_by e = (e.event, e.answer)

-- what is given with each event is what its types say
abbrev pub IsGivenIn : Act → Type 0
IsGivenIn (Do e) = IsGiven e
IsGivenIn _ = Unit {0}

abbrev pub AreGiven : List (Act × ActAnswer) → Type 0
AreGiven [] = Unit {0}
AreGiven (e ∷ es) = IsGivenIn e.0 × AreGiven es

-- Where turns begin in a state of a run, a legal history leaves a state of that run as it goes on over the history's events, in order.
abbrev pub HistoriesAreRuns : Type 0
HistoriesAreRuns = (w : Whole) (older : List Entry) (es : List (Act × ActAnswer)) → AreGiven es → Run wire w.network older w.state → Legal Admits Allowed left_by w es →
    (newer : List Entry) × Run wire w.network (newer ++ older) (replay left_by w es).state × (map done_by newer ≡ events_of es)
