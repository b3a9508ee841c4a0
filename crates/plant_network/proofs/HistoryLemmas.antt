-- A legal history of turns is a run that goes on.
use Rattle.std.proofs.Common.{◌≡◌, ◌∙◌, List, [], ◌∷◌, ◌++◌, append_assoc, ap₂, refl, subst, sym}
use Rattle.std.specs.Prelude.{map}
use Rattle.std.proofs.lemmas.List.{map-append}
use Rattle.network_events.specs.plant_model.Types.{NetworkParts}
use Rattle.network_events.specs.plant_model.declared.event.Event.{Event}
use Rattle.network_events.specs.plant_model.Events.{Answered}
use Rattle.network_events.specs.plant_model.Plant.{Entry, IsGiven, Run}
use Rattle.network_events.specs.plant_model.RealWire.{wire}
use Rattle.plant_lock.specs.History.{replay}
use Rattle.plant_network.specs.Histories.{HistoriesAreRuns, IsGivenIn, event_of, done_by}
use Rattle.plant_network.specs.Turns.{IsAnswer, IsDone, left_by}
use Rattle.plant_network.specs.Whole.{Whole}
use Rattle.plant_network.specs.declared.acts.Act.{Act}
use Rattle.plant_network.specs.declared.acts.Act.TheVariants.{Do, Look, Ready, Next, Finish, Map}
use Rattle.plant_network.specs.declared.acts.Acted.{Acted}
use Rattle.plant_network.specs.declared.acts.Acted.TheVariants as acted
use Rattle.plant_network.specs.declared.acts.Acted.TheVariants.{Did, Looked, Found, Committed, Mapped}

-- a run goes on to the next state, by these events
abbrev pub Onward : Whole → List Entry → Whole → List (Event × Answered) → Type 0
Onward w older next events = (newer : List Entry) × Run wire w.network (newer ++ older) next.state × (map done_by newer ≡ events)

module _ (w next : Whole) (older : List Entry) (run : Run wire w.network older w.state) where
  done_onward : (e : Event) (r : Answered) → IsGiven e → IsDone w e r next → Onward w older next ((e, r) ∷ [])
  done_onward e r given is = let on = is.goes given older run in (record { event = e; answer = r; deeds = on.0 } ∷ [], on.1, refl)

  same_onward : next ≡ w → Onward w older next []
  same_onward same = ([], subst (λ (v : Whole). Run wire w.network older v.state) (sym same) run, refl)

  act_onward : (a : Act) (r : Acted) → IsGivenIn a → IsAnswer w a r next → Onward w older next (event_of a r)
  act_onward (Do e) (Did r) given answer = done_onward e r given answer
  act_onward (Look d k) (Looked r) given answer = same_onward answer.0
  act_onward (Ready k) (Found r) given answer = same_onward answer.0
  act_onward (Next d behind) (acted.Next r) given answer = same_onward answer.0
  act_onward (Finish x) (Committed r) given answer = done_onward _ _ tt answer.0
  act_onward (Map d) (Mapped r) given answer = same_onward answer.0
  act_onward a r given answer = absurd answer

pub histories_are_runs : HistoriesAreRuns
histories_are_runs w older [] given run legal = ([], run, refl)
histories_are_runs w older (e ∷ es) given run legal =
    let next : Whole = left_by w e.0 e.1 in
    let last : Whole = replay left_by next es in
    let first = act_onward w next older run e.0 e.1.acted given.0 legal.1.answer in
    let same : next.network ≡ w.network = legal.1.lasts.network in
    let rest = histories_are_runs next (first.0 ++ older) es given.1 (subst (λ (n : NetworkParts). Run wire n (first.0 ++ older) next.state) (sym same) first.1) legal.2 in (
      rest.0 ++ first.0,
      subst (λ (l : List Entry). Run wire w.network l last.state) (sym (append_assoc rest.0 first.0 older)) (subst (λ (n : NetworkParts). Run wire n (rest.0 ++ (first.0 ++ older)) last.state) same rest.1),
      map-append done_by rest.0 first.0 ∙ ap₂ (λ (xs ys : List (Event × Answered)). xs ++ ys) rest.2 first.2,
    )
