-- What the events of a line that is played are given is what their types say.
use Rattle.std.proofs.Common.{◌≡◌, ℕ, Bool, true, false, cond, List, [], ◌∷◌, Option, Some, None, option_map, Ok, Err, sym, subst, ◌∙◌}
use Rattle.plant_play.specs.plant_model.Types.{As, LineEvent, NetworkParts}
use Rattle.te_deltas.specs.ChangeText.{text_in}
use Rattle.te_deltas.specs.declared.changes.Change.{Change}
use Rattle.plant_text.specs.declared.line.LineEvent.TheVariants as line
use Rattle.plant_text.specs.Settings.{is_element}
use Rattle.plant_play.specs.plant_model.declared.event.Event.{Event}
use Rattle.plant_play.specs.plant_model.declared.event.Event.TheVariants as event
use Rattle.plant_play.specs.plant_model.declared.outcome.Refused.TheVariants.{NoSuchPeer}
use Rattle.plant_play.specs.plant_model.Blind.{is_accepted}
use Rattle.plant_play.specs.plant_model.Events.{Answered}
use Rattle.plant_play.specs.plant_model.Plant.{IsGiven, Plant}
use Rattle.plant_play.specs.plant_model.Wire.{Bytes}
use Rattle.plant_play.specs.declared.going.Until.{Until}
use Rattle.plant_play.specs.declared.going.Until.TheVariants.{Settled, Finished}
use Rattle.plant_play.specs.declared.showing.Modes.{Modes}
use Rattle.plant_play.specs.Due.{AreAllDue, AreDue, IsDue, IsDueTake}
use Rattle.plant_play.specs.Playing.{Changes, Plays, PlaysDue, PlaysFeedAt, PlaysNamed, PlaysNone, PlaysOne, PlayedNetwork}
use Rattle.plant_play.specs.Turns.{AreGiven, Turn}
use Rattle.run_laws.specs.Ranges.{AreOctets}
use Rattle.run_laws.proofs.TextLemmas.ChangeRanges.{changes_keep_range}
use Rattle.run_laws.proofs.TextLemmas.RowRanges.{text_in_range}
use Rattle.client_laws.specs.Laws.{AreLoadable, FeedsOctets}

-- ---- events that are due

due_given : (Due : Plant → Option Event → Type 0) (m : Modes) (n : NetworkParts) → ((s : Plant) (e : Event) → Due s (Some e) → IsGiven e) →
    (s : Plant) (ts : List Turn) (end : Plant) → AreDue Due m n s ts end → AreGiven ts
due_given Due m n each s [] end all = tt
due_given Due m n each s (t ∷ ts) end all = (each s t.entry.event all.0, due_given Due m n each t.after ts end all.3)

take_given : (peer : ℕ) (s : Plant) (e : Event) → IsDueTake peer s (Some e) → IsGiven e
take_given peer s e is = subst IsGiven (sym is) tt

going_given : (until : Until) (n : NetworkParts) (s : Plant) (e : Event) → IsDue until n s (Some e) → IsGiven e
going_given until n s (event.Load d g) is = absurd is
going_given until n s (event.Feed i bytes) is = absurd is
going_given until n s _ is = tt

-- ---- the kinds of lines

module _ (number : ℕ) (old : PlayedNetwork) (answer : Answered) (turns : List Turn) (told : List ℕ) (end : Plant) where
  one_given : (e : Event) → PlaysOne number old e answer turns told end → IsGiven e → AreGiven turns
  one_given e p given = subst AreGiven (sym p.one) (subst IsGiven (sym p.event) given, tt)

  none_given : (fixed : Answered) → PlaysNone number old fixed answer turns told end → AreGiven turns
  none_given fixed p = subst AreGiven (sym p.no_turn) tt

  named_given : (peer : Option ℕ) (make : ℕ → Event) → ((i : ℕ) → IsGiven (make i)) → PlaysNamed number old (option_map make peer) answer turns told end → AreGiven turns
  named_given None make given p = none_given (Err NoSuchPeer) p
  named_given (Some i) make given p = one_given (make i) p (given i)

  taken_given : (accepted : Bool) (peer : ℕ) (s : Plant) (taken : List Turn) →
      cond accepted (AreAllDue (IsDueTake peer) old.modes old.network s taken end) ((taken ≡ []) × (end ≡ s)) → AreGiven taken
  taken_given true peer s taken all = due_given (IsDueTake peer) old.modes old.network (take_given peer) s taken end all.due
  taken_given false peer s taken none = subst AreGiven (sym none.0) tt

  feed_given : (peer : Option ℕ) (bytes : Bytes) → AreOctets bytes → PlaysFeedAt number old peer bytes answer turns told end → AreGiven turns
  feed_given None bytes octets p = none_given (Err NoSuchPeer) p
  feed_given (Some i) bytes octets p =
      let fed : IsGiven p.fed.entry.event = subst IsGiven (sym p.event) octets in
      subst AreGiven (sym p.are) (fed, taken_given (is_accepted answer) i p.fed.after p.taken p.takes)

  change_given : (element : Bool) (at : As) (file : List ℕ) (changes : List Change) → text_in file ≡ Ok changes → AreLoadable old.state →
      cond element (Changes number old at changes answer turns told end) (PlaysNone number old (Err NoSuchPeer) answer turns told end) → AreGiven turns
  change_given true at file changes reads loadable p =
      let was = loadable at in
      one_given (event.Load at p.topology) p.loads
      (p.built.built.own ∙ was.0, p.rules, p.order, changes_keep_range file changes (old.state.current at).topology p.topology reads p.built was.3)
  change_given false at file changes reads loadable p = none_given (Err NoSuchPeer) p

  all_given : (until : Until) → PlaysDue number old (IsDue until old.network) answer turns told end → AreGiven turns
  all_given until p = due_given (IsDue until old.network) old.modes old.network (going_given until old.network) old.state turns end p.all.due

  given : (e : LineEvent) (file : List ℕ) → FeedsOctets e → AreLoadable old.state → Plays number old e file answer turns told end → AreGiven turns
  given (line.Load at name) file octets loadable p = one_given (event.Load at p.topology) p.loads (p.own, p.rules, p.order, text_in_range file p.topology p.reads)
  given (line.Change at name) file octets loadable p = change_given (is_element old.network at) at file p.changes p.reads loadable p.makes
  given (line.Open peer holder) file octets loadable p = named_given peer (λ i. event.Open i holder) (λ i. tt) p
  given (line.Shut peer) file octets loadable p = named_given peer event.Shut (λ i. tt) p
  given (line.Feed peer bytes) file octets loadable p = feed_given peer bytes octets p
  given (line.Receive peer bytes) file octets loadable p = named_given peer (λ i. event.Feed i bytes) (λ i. octets) p
  given (line.Take peer) file octets loadable p = named_given peer event.Take (λ i. tt) p
  given (line.Carry a b) file octets loadable p = one_given (event.Carry a b) p tt
  given (line.Break a b) file octets loadable p = one_given (event.Break a b) p tt
  given (line.Solve at k rows) file octets loadable p = one_given (event.Solve at k) p tt
  given (line.Tick now) file octets loadable p = one_given (event.Tick now) p tt
  given (line.Drain peer holder) file octets loadable p = named_given peer (λ i. event.Drain i holder) (λ i. tt) p
  given line.Settle file octets loadable p = all_given Settled p
  given line.Finish file octets loadable p = all_given Finished p
  given line.CertifyOn file octets loadable p = none_given _ p
  given line.DiscloseOn file octets loadable p = none_given _ p

pub lines_are_given : (number : ℕ) (old : PlayedNetwork) (e : LineEvent) (file : List ℕ) (answer : Answered) (turns : List Turn) (told : List ℕ) (end : Plant)
    → FeedsOctets e → AreLoadable old.state → Plays number old e file answer turns told end → AreGiven turns
lines_are_given number old e file answer turns told end octets loadable p = given number old answer turns told end e file octets loadable p
