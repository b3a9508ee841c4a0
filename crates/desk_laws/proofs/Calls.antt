-- The calls of a desk as events of the run.
use Rattle.std.proofs.Common.{◌≡◌, ◌∙◌, ◌&&◌, ℕ, Bool, true, false, cond, eq-eqb, List, [], ◌∷◌, ◌++◌, append-nil, append_assoc, Some, Ok, Err, ap, refl, sym}
use Rattle.std.specs.List.{AllByRecursion, cons_option, filter_map}
use Rattle.plant_network.specs.plant_model.declared.event.Event.{Event}
use Rattle.plant_network.specs.plant_model.declared.event.Event.TheVariants as event
use Rattle.plant_network.specs.plant_model.declared.outcome.Outcome.{Outcome}
use Rattle.plant_network.specs.plant_model.declared.outcome.Outcome.TheVariants.{Done, Drained, Loaded}
use Rattle.plant_network.specs.plant_model.Blind.{is_accepted}
use Rattle.plant_network.specs.plant_model.Events.{Answered}
use Rattle.plant_network.specs.Histories.{event_of, events_of}
use Rattle.plant_network.specs.Jobs.{told}
use Rattle.plant_network.specs.Turns.{solve_of}
use Rattle.plant_network.specs.declared.acts.Act.{Act}
use Rattle.plant_network.specs.declared.acts.Act.TheVariants.{Do, Finish}
use Rattle.plant_network.specs.network_links.declared.rest.Rest.{Rest}
use Rattle.plant_network.specs.declared.acts.Acted.{Acted}
use Rattle.plant_network.specs.declared.acts.Acted.TheVariants.{Committed, Did}
use Rattle.plant_network.specs.declared.acts.ActAnswer.{ActAnswer}
use Rattle.run_laws.specs.Outlets.{Drains, Opens, Stays, handed_in}
use Rattle.server_loops.specs.Desks.{Answer, Call}
use Rattle.server_loops.specs.Sessions.{drained, drained_by}
use Rattle.server_loops.specs.declared.desks.DeskRefused.TheVariants.{Plant, Spent}
use Rattle.turn_desk.specs.Desks.{desk_call}
use Rattle.desk_laws.specs.Connections.{at_peer, is_at}
use Rattle.desk_laws.proofs.Streams.{filter_on, stream, turn_stream}

abbrev Events : Type 0
Events = List (Event × Answered)

-- the event of a call
abbrev pub call_event : Event → Answer → Events
call_event e (Ok o) = (e, Ok o) ∷ []
call_event e (Err (Plant why)) = (e, Err why) ∷ []
call_event e (Err (Spent t)) = []

-- the newest first
abbrev pub call_events : List Call → Events
call_events [] = []
call_events (c ∷ cs) = call_events cs ++ call_event c.event c.answer

pub call_events_on : (xs ys : List Call) → call_events (xs ++ ys) ≡ call_events ys ++ call_events xs
call_events_on [] ys = sym (append-nil (call_events ys))
call_events_on (x ∷ xs) ys = ap (λ (es : Events). es ++ call_event x.event x.answer) (call_events_on xs ys) ∙ append_assoc (call_events ys) (call_events xs) (call_event x.event x.answer)

-- ---- a desk's own turns

module _ (i : ℕ) where
  and_false : (b : Bool) → (b && false) ≡ false
  and_false true = refl
  and_false false = refl

  abbrev Same : Events → List Call → Type 0
  Same es cs = at_peer i es ≡ at_peer i (call_events cs)

  one_more : (es : Events) (cs : List Call) (more : Events) → Same es cs → at_peer i (es ++ more) ≡ at_peer i (call_events cs ++ more)
  one_more es cs more same = filter_on (is_at i) es more ∙ ap (λ (xs : Events). xs ++ at_peer i more) same ∙ sym (filter_on (is_at i) (call_events cs) more)

  none_of : (es : Events) (cs : List Call) → Same es cs → Same (es ++ []) cs
  none_of es cs same = ap (at_peer i) (append-nil es) ∙ same

  own_step : (es : Events) (cs : List Call) (a : Act) (r : Acted) (rest : Rest) → Same es cs → Same (es ++ event_of a r) (cons_option (desk_call a r rest) cs)
  own_step es cs (Do e) (Did (Ok o)) rest same = one_more es cs ((e, Ok o) ∷ []) same
  own_step es cs (Do e) (Did (Err why)) rest same = one_more es cs ((e, Err why) ∷ []) same
  own_step es cs (Finish x) (Committed r) rest same =
      filter_on (is_at i) es ((solve_of x, told r) ∷ [])
      ∙ ap (λ (b : Bool). at_peer i es ++ cond b ((solve_of x, told r) ∷ []) []) (and_false (is_accepted (told r)))
      ∙ append-nil (at_peer i es) ∙ same
  own_step es cs a r rest same = none_of es cs same

  pub own_events : (own : List (Act × ActAnswer)) → Same (events_of own) (filter_map (λ (e : Act × ActAnswer). desk_call e.0 e.1.acted e.1.rest) own)
  own_events [] = refl
  own_events (e ∷ es) = own_step (events_of es) (filter_map (λ (x : Act × ActAnswer). desk_call x.0 x.1.acted x.1.rest) es) e.0 e.1.acted e.1.rest (own_events es)

  -- ---- the calls of a session

  -- it drains the peer, or leaves the connections
  abbrev pub IsWithin : Event → Type 0
  IsWithin (event.Drain j holder) = j ≡ i
  IsWithin (event.Feed j bytes) = Unit {0}
  IsWithin (event.Take j) = Unit {0}
  IsWithin e = ⊥

  abbrev pub AreWithin : List Call → Type 0
  AreWithin cs = AllByRecursion (λ (c : Call). IsWithin c.event) cs

  handed_same : (o : Outcome) → handed_in (Ok o) ≡ drained_by (event.Drain i 0) (Ok o)
  handed_same (Drained bytes ended) = refl
  handed_same Done = refl
  handed_same (Loaded generation) = refl

  module _ (es : Events) (b : List ℕ) (is : stream i es ≡ Some b) where
    stays : stream i es ≡ Some (b ++ [])
    stays = is ∙ ap (λ (xs : List ℕ). Some xs) (sym (append-nil b))

    drains : (j holder : ℕ) (o : Outcome) → j ≡ i → stream i ((event.Drain j holder, Ok o) ∷ es) ≡ Some (b ++ drained_by (event.Drain j holder) (Ok o))
    drains j holder o same =
        ap (λ (x : Bool). turn_stream (cond x Drains Stays) (handed_in (Ok o)) (stream i es)) (eq-eqb j i same)
        ∙ ap (turn_stream Drains (handed_in (Ok o))) is
        ∙ ap (λ (xs : List ℕ). Some (b ++ xs)) (handed_same o)

    within_one : (e : Event) (a : Answer) → IsWithin e → stream i (call_event e a ++ es) ≡ Some (b ++ drained_by e a)
    within_one (event.Drain j holder) (Ok o) within = drains j holder o within
    within_one (event.Drain j holder) (Err (Plant why)) within = stays
    within_one (event.Drain j holder) (Err (Spent t)) within = stays
    within_one (event.Feed j bytes) (Ok o) within = stays
    within_one (event.Feed j bytes) (Err (Plant why)) within = stays
    within_one (event.Feed j bytes) (Err (Spent t)) within = stays
    within_one (event.Take j) (Ok o) within = stays
    within_one (event.Take j) (Err (Plant why)) within = stays
    within_one (event.Take j) (Err (Spent t)) within = stays
    within_one e a within = absurd within

  -- what they drain is handed out
  pub within_all : (cs : List Call) (es : Events) (b : List ℕ) → AreWithin cs → stream i es ≡ Some b → stream i (call_events cs ++ es) ≡ Some (b ++ drained cs)
  within_all [] es b within is = stays es b is
  within_all (c ∷ cs) es b within is =
      ap (stream i) (append_assoc (call_events cs) (call_event c.event c.answer) es)
      ∙ within_all cs (call_event c.event c.answer ++ es) (b ++ drained_by c.event c.answer) within.1 (within_one es b is c.event c.answer within.0)
      ∙ ap (λ (xs : List ℕ). Some xs) (append_assoc b (drained_by c.event c.answer) (drained cs))

  pub opened : (holder : ℕ) (o : Outcome) (es : Events) → stream i (call_event (event.Open i holder) (Ok o) ++ es) ≡ Some []
  opened holder o es = ap (λ (x : Bool). turn_stream (cond x (Opens holder) Stays) (handed_in (Ok o)) (stream i es)) (eq-eqb i i refl)
