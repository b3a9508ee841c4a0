-- The events of lines that are played happen one after the other.
use Rattle.std.proofs.Common.{◌≡◌, ℕ, Bool, true, false, cond, List, [], ◌∷◌, Option, Some, None, option_map, Err, sym, subst}
use Rattle.plant_play.specs.plant_model.Types.{As, LineEvent, NetworkParts}
use Rattle.te_deltas.specs.declared.changes.Change.{Change}
use Rattle.plant_text.specs.declared.line.LineEvent.TheVariants as line
use Rattle.plant_text.specs.Settings.{is_element}
use Rattle.plant_play.specs.plant_model.declared.event.Event.{Event}
use Rattle.plant_play.specs.plant_model.declared.event.Event.TheVariants as event
use Rattle.plant_play.specs.plant_model.declared.outcome.Refused.TheVariants.{NoSuchPeer}
use Rattle.plant_play.specs.plant_model.Blind.{is_accepted}
use Rattle.plant_play.specs.plant_model.Events.{Answered}
use Rattle.plant_play.specs.plant_model.Plant.{Plant}
use Rattle.plant_play.specs.plant_model.Wire.{Bytes}
use Rattle.plant_play.specs.declared.showing.Modes.{Modes}
use Rattle.plant_play.specs.Due.{AreAllDue, AreDue, IsDueTake}
use Rattle.plant_play.specs.Playing.{Changes, Plays, PlaysDue, PlaysFeedAt, PlaysNamed, PlaysNone, PlaysOne, PlayedNetwork}
use Rattle.plant_play.specs.Turns.{IsTurn, Turn}

-- each event happens in the state that the one before it leaves
abbrev pub AreTurns : Modes → NetworkParts → Plant → List Turn → Plant → Type 0
AreTurns m n s [] end = end ≡ s
AreTurns m n s (t ∷ ts) end = IsTurn m n s t × AreTurns m n t.after ts end

no_turns : (m : Modes) (n : NetworkParts) (s : Plant) (turns : List Turn) (end : Plant) → turns ≡ [] → end ≡ s → AreTurns m n s turns end
no_turns m n s turns end none same = subst (λ (ts : List Turn). AreTurns m n s ts end) (sym none) same

due_turns : (Due : Plant → Option Event → Type 0) (m : Modes) (n : NetworkParts) (s : Plant) (ts : List Turn) (end : Plant) → AreDue Due m n s ts end → AreTurns m n s ts end
due_turns Due m n s [] end all = all
due_turns Due m n s (t ∷ ts) end all = (all.1, due_turns Due m n t.after ts end all.3)

module _ (number : ℕ) (old : PlayedNetwork) (answer : Answered) (turns : List Turn) (told : List ℕ) (end : Plant) where
  abbrev Are : List Turn → Type 0
  Are ts = AreTurns old.modes old.network old.state ts end

  one_turn : (e : Event) → PlaysOne number old e answer turns told end → Are turns
  one_turn e p = subst Are (sym p.one) (p.is_turn, p.ends)

  none_played : (fixed : Answered) → PlaysNone number old fixed answer turns told end → Are turns
  none_played fixed p = no_turns old.modes old.network old.state turns end p.no_turn p.ends

  named_turns : (e : Option Event) → PlaysNamed number old e answer turns told end → Are turns
  named_turns None p = none_played (Err NoSuchPeer) p
  named_turns (Some e) p = one_turn e p

  taken_turns : (accepted : Bool) (peer : ℕ) (s : Plant) (taken : List Turn) →
      cond accepted (AreAllDue (IsDueTake peer) old.modes old.network s taken end) ((taken ≡ []) × (end ≡ s)) → AreTurns old.modes old.network s taken end
  taken_turns true peer s taken all = due_turns (IsDueTake peer) old.modes old.network s taken end all.due
  taken_turns false peer s taken none = no_turns old.modes old.network s taken end none.0 none.1

  feed_turns : (peer : Option ℕ) (bytes : Bytes) → PlaysFeedAt number old peer bytes answer turns told end → Are turns
  feed_turns None bytes p = none_played (Err NoSuchPeer) p
  feed_turns (Some i) bytes p = subst Are (sym p.are) (p.is_turn, taken_turns (is_accepted answer) i p.fed.after p.taken p.takes)

  change_turns : (element : Bool) (at : As) (changes : List Change) →
      cond element (Changes number old at changes answer turns told end) (PlaysNone number old (Err NoSuchPeer) answer turns told end) → Are turns
  change_turns true at changes p = one_turn (event.Load at p.topology) p.loads
  change_turns false at changes p = none_played (Err NoSuchPeer) p

  all_turns : (Due : Plant → Option Event → Type 0) → PlaysDue number old Due answer turns told end → Are turns
  all_turns Due p = due_turns Due old.modes old.network old.state turns end p.all.due

  pub line_turns : (e : LineEvent) (file : List ℕ) → Plays number old e file answer turns told end → AreTurns old.modes old.network old.state turns end
  line_turns (line.Load at name) file p = one_turn (event.Load at p.topology) p.loads
  line_turns (line.Change at name) file p = change_turns (is_element old.network at) at p.changes p.makes
  line_turns (line.Open peer holder) file p = named_turns (option_map (λ i. event.Open i holder) peer) p
  line_turns (line.Shut peer) file p = named_turns (option_map event.Shut peer) p
  line_turns (line.Feed peer bytes) file p = feed_turns peer bytes p
  line_turns (line.Receive peer bytes) file p = named_turns (option_map (λ i. event.Feed i bytes) peer) p
  line_turns (line.Take peer) file p = named_turns (option_map event.Take peer) p
  line_turns (line.Carry a b) file p = one_turn (event.Carry a b) p
  line_turns (line.Break a b) file p = one_turn (event.Break a b) p
  line_turns (line.Solve at k rows) file p = one_turn (event.Solve at k) p
  line_turns (line.Tick now) file p = one_turn (event.Tick now) p
  line_turns (line.Drain peer holder) file p = named_turns (option_map (λ i. event.Drain i holder) peer) p
  line_turns line.Settle file p = all_turns _ p
  line_turns line.Finish file p = all_turns _ p
  line_turns line.CertifyOn file p = none_played _ p
  line_turns line.DiscloseOn file p = none_played _ p
