-- A legal history of turns leads by its events from one state to another, all pins are of the topologies that it tells, and these stay.
use Rattle.std.proofs.Common.{◌≡◌, ◌∙◌, ℕ, List, [], ◌∷◌, ◌++◌, append_assoc, ap, refl, subst, sym, Option, Some, None}
use Rattle.plant_network.specs.plant_model.Types.{As, NetworkParts}
use Rattle.te_links.specs.Rows.{Rows}
use Rattle.plant_lock.specs.History.{Legal, replay}
use Rattle.plant_network.specs.plant_model.declared.event.Event.{Event}
use Rattle.plant_network.specs.plant_model.Events.{Answered}
use Rattle.plant_network.specs.plant_model.Plant.{Plant}
use Rattle.plant_network.specs.plant_model.RealWire.{wire}
use Rattle.plant_network.specs.plant_model.Wire.{Codec}
use Rattle.plant_network.specs.Topologies.{Held, whole}
use Rattle.plant_network.specs.Histories.{event_of}
use Rattle.plant_network.specs.Jobs.{told}
use Rattle.plant_network.specs.Turns.{Admits, Allowed, IsAnswer, left_by, solve_of}
use Rattle.plant_network.specs.Whole.{Stepped, Whole}
use Rattle.plant_network.specs.declared.acts.Act.{Act}
use Rattle.plant_network.specs.declared.acts.Act.TheVariants.{Do, Look, Ready, Next, Finish, Map}
use Rattle.plant_network.specs.declared.acts.Acted.{Acted}
use Rattle.plant_network.specs.declared.acts.Acted.TheVariants as acted
use Rattle.plant_network.specs.declared.acts.Acted.TheVariants.{Did, Looked, Found, Committed, Mapped}
use Rattle.plant_network.specs.declared.acts.ActAnswer.{ActAnswer}
use Rattle.run_laws.specs.PinHistories.{Leads, PinsAreNow, Told, known_in}
use Rattle.run_laws.specs.PinSteps.{Known, KnowsPins}
use Rattle.run_laws.proofs.PinLemmas.HistoryLemmas.{histories_know_pins, known_stays}
use Rattle.turn_desk.specs.Histories.{known_by, told_by}

-- one history behind the other
leads_on : (c : Codec) (n : NetworkParts) (s : Plant) (xs ys : List Told) (t u : Plant) → Leads c n s xs t → Leads c n t ys u → Leads c n s (xs ++ ys) u
leads_on c n s [] ys t u first second = subst (λ (v : Plant). Leads c n v ys u) first second
leads_on c n s (x ∷ xs) ys t u first second = (first.0, first.1, first.2, leads_on c n first.0 xs ys t u first.3 second)

module _ (w next : Whole) where
  abbrev LeadsBy : List Told → Type 0
  LeadsBy told = Leads wire w.network w.state told next.state

  event_leads : (e : Event) (r : Answered) → Stepped w e r next → LeadsBy ((e, r) ∷ [])
  event_leads e r is = (next.state, is.deeds, is.steps, refl)

  same_leads : next ≡ w → LeadsBy []
  same_leads same = ap (λ (v : Whole). v.state) same

  act_leads : (a : Act) (r : Acted) → IsAnswer w a r next → LeadsBy (event_of a r)
  act_leads (Do e) (Did r) answer = event_leads e r answer.stepped
  act_leads (Look d k) (Looked r) answer = same_leads answer.0
  act_leads (Ready k) (Found r) answer = same_leads answer.0
  act_leads (Next d behind) (acted.Next r) answer = same_leads answer.0
  act_leads (Finish x) (Committed r) answer = event_leads (solve_of x) (told r) answer.0.stepped
  act_leads (Map d) (Mapped r) answer = same_leads answer.0
  act_leads a r answer = absurd answer

history_leads : (w : Whole) (es : List (Act × ActAnswer)) → Legal Admits Allowed left_by w es → Leads wire w.network w.state (told_by es) (replay left_by w es).state
history_leads w [] legal = refl
history_leads w (e ∷ es) legal =
    let next : Whole = left_by w e.0 e.1 in
    let last : Whole = replay left_by next es in
    let rest : Leads wire w.network next.state (told_by es) last.state =
    subst (λ (n : NetworkParts). Leads wire n next.state (told_by es) last.state) legal.1.lasts.network (history_leads next es legal.2) in
    leads_on wire w.network w.state (event_of e.0 e.1.acted) (told_by es) next.state last.state (act_leads w next e.0 e.1.acted legal.1.answer) rest

-- all pins are of the topologies that the history tells
pub pins_are_known : (h : Held) (es : List (Act × ActAnswer)) → PinsAreNow (whole h).state → Legal Admits Allowed left_by (whole h) es → KnowsPins (known_by (Some h) es) (replay left_by (whole h) es).state
pins_are_known h es now legal =
    let w : Whole = whole h in
    histories_know_pins wire w.network w.state (told_by es) (replay left_by w es).state now (history_leads w es legal)

pub knows_more : (known more : Known) (s : Plant) → ((d : As) (k : ℕ) (g : Rows) → known d k ≡ Some g → more d k ≡ Some g) → KnowsPins known s → KnowsPins more s
knows_more known more s grows knows = record {
  current = λ d. grows d (s.current d).number (s.current d).topology (knows.current d);
  pending = λ d h is. grows d h.1.item.pin.number h.1.item.pin.topology (knows.pending d h is);
}

told_append : (xs ys : List (Act × ActAnswer)) → told_by (xs ++ ys) ≡ told_by xs ++ told_by ys
told_append [] ys = refl
told_append (x ∷ xs) ys = ap (λ (l : List Told). event_of x.0 x.1.acted ++ l) (told_append xs ys) ∙ sym (append_assoc (event_of x.0 x.1.acted) (told_by xs) (told_by ys))

-- what a history tells stays, whatever comes later
pub known_grows : (start : Option Held) (es more : List (Act × ActAnswer)) (d : As) (k : ℕ) (g : Rows) → known_by start es d k ≡ Some g → known_by start (es ++ more) d k ≡ Some g
known_grows (Some h) es more d k g is =
    let w : Whole = whole h in
    subst (λ (l : List Told). known_in w.state l d k ≡ Some g) (sym (told_append es more)) (known_stays w.state (told_by es) (told_by more) d k g is)
known_grows None es more d k g is = absurd (let none : None ≡ Some g = is in let no : ⊥ = cc in no)
