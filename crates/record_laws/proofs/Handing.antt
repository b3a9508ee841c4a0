-- What is handed out of a day is what is told of its run, and is of its network.
use Rattle.std.proofs.Common.{◌≡◌, ◌∙◌, List, [], ◌∷◌, ◌++◌, map, sym, ap, subst, append_assoc}
use Rattle.std.specs.List.{AllByRecursion}
use Rattle.std.proofs.lemmas.List.Elements.{filter_map-append}
use Rattle.plant_text.specs.declared.settings.NetworkParts.{NetworkParts}
use Rattle.event_tape.specs.Hands.{told_of}
use Rattle.event_tape.specs.Tapes.{event_of}
use Rattle.event_tape.specs.declared.tape.Handed.{Handed}
use Rattle.event_tape.specs.declared.told.Told.{Told}
use Rattle.event_tape.specs.declared.told.Told.TheVariants.{Load, Open, Shut, Receive, Take, Carry, Break, Solve, Tick, Drain}
use Rattle.event_lines.specs.EventLines.{IsOf}
use Rattle.plant_lock.specs.History.{replay}
use Rattle.plant_network.specs.Histories.{done_by, events_of}
use Rattle.plant_network.specs.Turns.{left_by}
use Rattle.plant_network.specs.Whole.{Whole}
use Rattle.plant_network.specs.declared.acts.Act.{Act}
use Rattle.plant_network.specs.declared.acts.ActAnswer.{ActAnswer}
use Rattle.plant_network.specs.plant_model.declared.event.Event.{Event}
use Rattle.plant_network.specs.plant_model.Plant.{Entry, Run}
use Rattle.plant_network.specs.plant_model.RealWire.{wire}
use Rattle.plant_network.proofs.HistoryLemmas.{histories_are_runs}
use Rattle.told_laws.specs.Telling.{told}
use Rattle.kept_plant.specs.Handing.{HandTells}
use Rattle.kept_plant.specs.Histories.{IsNetworks, turn_of, turns_of}
use Rattle.kept_plant.specs.Tellings.{tellings, told_event}
use Rattle.kept_plant.specs.TurnLaws.{kept_legal}
use Rattle.kept_plant.specs.Turns.{Kept, kept_after}
use Rattle.kept_plant.specs.declared.acts.KeptAct.{KeptAct}
use Rattle.kept_plant.specs.declared.acts.KeptAnswer.{KeptAnswer}
use Rattle.kept_plant.proofs.Handing.{hands_tell}
use Rattle.record_laws.specs.Days.{AreHandsOf, HandsAreSaid, IsDay, IsSayable, events_by}
use Rattle.record_laws.proofs.Known.{IsKnown, told_known}
use Rattle.record_laws.proofs.Shapes.{day_told}

-- ---- the run of a day

pub record DayRun (n : NetworkParts) (older : List Entry) (s : Kept) (es : List (KeptAct × KeptAnswer)) : Type 0 where
  pub newer : List Entry
  pub are_turns : map done_by newer ≡ events_of (turns_of es)
  pub run : Run wire n (newer ++ older) (replay kept_after s es).network.state
  pub tells : events_by (told (newer ++ older)) ≡ map event_of s.tape.items ++ tellings (turns_of es)

pub day_runs : (n : NetworkParts) (older : List Entry) (s : Kept) (es : List (KeptAct × KeptAnswer)) → IsDay n older s es → DayRun n older s es
day_runs n older s es day =
    let networks : IsNetworks s es = kept_legal s es day.legal in
    let before : Run wire s.network.network older s.network.state = subst (λ (m : NetworkParts). Run wire m older s.network.state) (sym day.network) day.run in
    let on = histories_are_runs s.network older (turns_of es) day.given before networks.legal in
    let run : Run wire n (on.0 ++ older) (replay kept_after s es).network.state =
    subst (λ (w : Whole). Run wire n (on.0 ++ older) w.state) networks.leaves (subst (λ (m : NetworkParts). Run wire m (on.0 ++ older) (replay left_by s.network (turns_of es)).state) day.network on.1) in
    record {
      newer = on.0;
      are_turns = on.2;
      run = run;
      tells = day_told n s.network (turns_of es) on.0 older (replay kept_after s es).network.state run on.2 networks.legal ∙ ap (λ (l : List Event). l ++ tellings (turns_of es)) (sym day.held);
    }

-- ---- what was handed out of it

turns_append : (xs ys : List (KeptAct × KeptAnswer)) → turns_of (xs ++ ys) ≡ turns_of xs ++ turns_of ys
turns_append xs ys = filter_map-append (λ (e : KeptAct × KeptAnswer). turn_of e.0 e.1) xs ys

tellings_append : (xs ys : List (Act × ActAnswer)) → tellings (xs ++ ys) ≡ tellings xs ++ tellings ys
tellings_append xs ys = filter_map-append (λ (e : Act × ActAnswer). told_event e.0 e.1.acted) xs ys

-- it is a first part of what is told
pub record HandsOfRun (n : NetworkParts) (older : List Entry) (s : Kept) (es : List (KeptAct × KeptAnswer)) (own : List Handed) : Type 0 where
  pub day : DayRun n older s es
  pub rest : List Event
  pub tells : events_by (told (day.newer ++ older)) ≡ map event_of (told_of own) ++ rest

pub hands_of_run : (n : NetworkParts) (older : List Entry) (s : Kept) (es : List (KeptAct × KeptAnswer)) → IsDay n older s es → (own : List Handed) → AreHandsOf s es own → HandsOfRun n older s es own
hands_of_run n older s es day own hands =
    let run : DayRun n older s es = day_runs n older s es day in
    let h : HandTells s es own = hands_tell s es own day.unended day.legal hands.0 hands.1 in
    let later : List Event = tellings (turns_of h.later) in
    let all : tellings (turns_of es) ≡ tellings (turns_of h.before) ++ later =
    ap (λ (l : List (KeptAct × KeptAnswer)). tellings (turns_of l)) h.is ∙ ap tellings (turns_append h.before h.later) ∙ tellings_append (turns_of h.before) (turns_of h.later) in
    record {
      day = run;
      rest = h.rest ++ later;
      tells =
          run.tells
          ∙ ap (λ (l : List Event). map event_of s.tape.items ++ l) all
          ∙ sym (append_assoc (map event_of s.tape.items) (tellings (turns_of h.before)) later)
          ∙ ap (λ (l : List Event). l ++ later) h.told
          ∙ append_assoc (map event_of (told_of own)) h.rest later;
    }

-- ---- its peers are those of the settings

pub is_of : (n : NetworkParts) (e : Told) → IsKnown n (event_of e) → IsSayable e → IsOf n e
is_of n (Load d g) known says = says.0
is_of n (Open p h) known says = (known, says.0)
is_of n (Shut p) known says = known
is_of n (Receive p octets) known says = (known, says.1, says.0)
is_of n (Take p) known says = known
is_of n (Carry a b) known says = says.0
is_of n (Break a b) known says = says.0
is_of n (Solve d k) known says = says.0
is_of n (Tick t) known says = says.0
is_of n (Drain p h) known says = (known, says.0)

all_of : (n : NetworkParts) (es : List Told) (rest : List Event) → AllByRecursion (IsKnown n) (map event_of es ++ rest) → AllByRecursion (λ (e : Told). IsSayable e → IsOf n e) es
all_of n [] rest known = tt
all_of n (e ∷ es) rest known = (is_of n e known.0, all_of n es rest known.1)

pub hands_are_said : HandsAreSaid
hands_are_said n older s es day own hands =
    let h : HandsOfRun n older s es own = hands_of_run n older s es day own hands in
    all_of n (told_of own) h.rest (subst (AllByRecursion (IsKnown n)) h.tells (told_known n (h.day.newer ++ older) (replay kept_after s es).network.state h.day.run))
