-- The octets that the events of a script feed are those that its lines feed.
use Rattle.std.proofs.Common.{◌≡◌, ◌≤◌, ◌+◌, ℕ, Bool, true, false, cond, List, [], ◌∷◌, ◌++◌, Option, Some, None, option_map, Err, refl, sym, ap, subst, ◌∙◌, arith, length}
use Rattle.plant_play.specs.plant_model.Types.{As, LineEvent, NetworkParts}
use Rattle.te_deltas.specs.declared.changes.Change.{Change}
use Rattle.plant_text.specs.declared.line.LineEvent.TheVariants as line
use Rattle.plant_text.specs.Settings.{is_element}
use Rattle.plant_play.specs.plant_model.declared.event.Event.{Event}
use Rattle.plant_play.specs.plant_model.declared.event.Event.TheVariants as event
use Rattle.plant_play.specs.plant_model.declared.outcome.Refused.TheVariants.{NoSuchPeer}
use Rattle.plant_play.specs.plant_model.Blind.{is_accepted}
use Rattle.plant_play.specs.plant_model.Events.{Answered}
use Rattle.plant_play.specs.plant_model.Plant.{Entry, Plant}
use Rattle.plant_play.specs.plant_model.Wire.{Bytes}
use Rattle.run_laws.specs.Counting.{fed_by, fed_bytes}
use Rattle.plant_play.specs.declared.going.Until.{Until}
use Rattle.plant_play.specs.declared.going.Until.TheVariants.{Settled, Finished}
use Rattle.plant_play.specs.declared.showing.Modes.{Modes}
use Rattle.plant_play.specs.Due.{AreAllDue, AreDue, IsDue, IsDueTake}
use Rattle.plant_play.specs.Scripts.{AllPlayed}
use Rattle.plant_play.specs.Playing.{Changes, Cue, Plays, PlaysDue, PlaysFeedAt, PlaysNamed, PlaysNone, PlaysOne, PlayedNetwork}
use Rattle.plant_play.specs.Turns.{Turn, entries_of}
use Rattle.client_laws.specs.Headline.{all_octets, fed_octets}
use Rattle.client_laws.proofs.Onward.{entries_join}

-- what these events feed is this much
abbrev Feed : List Turn → ℕ → Type 0
Feed turns k = (older : List Entry) → fed_bytes (entries_of turns older) ≡ k + fed_bytes older

none_fed : (turns : List Turn) → turns ≡ [] → Feed turns 0
none_fed turns none = subst (λ (ts : List Turn). Feed ts 0) (sym none) (λ older. omega arith)

one_fed : (turns : List Turn) (t : Turn) (e : Event) → turns ≡ t ∷ [] → t.entry.event ≡ e → Feed turns (fed_by e)
one_fed turns t e one is =
    subst (λ (ts : List Turn). Feed ts (fed_by e)) (sym one) (λ older. ap (λ (x : Event). fed_by x + fed_bytes older) is)

due_fed : (Due : Plant → Option Event → Type 0) (m : Modes) (n : NetworkParts) → ((s : Plant) (e : Event) → Due s (Some e) → fed_by e ≡ 0) →
    (s : Plant) (ts : List Turn) (end : Plant) → AreDue Due m n s ts end → Feed ts 0
due_fed Due m n each s [] end all older = omega arith
due_fed Due m n each s (t ∷ ts) end all older =
    omega (arith, due_fed Due m n each t.after ts end all.3 (t.entry ∷ older), each s t.entry.event all.0)

take_fed : (peer : ℕ) (s : Plant) (e : Event) → IsDueTake peer s (Some e) → fed_by e ≡ 0
take_fed peer s e is = ap fed_by is

going_fed : (until : Until) (n : NetworkParts) (s : Plant) (e : Event) → IsDue until n s (Some e) → fed_by e ≡ 0
going_fed until n s (event.Feed i bytes) is = absurd is
going_fed until n s _ is = refl

module _ (number : ℕ) (old : PlayedNetwork) (answer : Answered) (turns : List Turn) (told : List ℕ) (end : Plant) where
  made_fed : (e : Event) → PlaysOne number old e answer turns told end → Feed turns (fed_by e)
  made_fed e p = one_fed turns p.turn e p.one p.event

  fixed_fed : (fixed : Answered) → PlaysNone number old fixed answer turns told end → Feed turns 0
  fixed_fed fixed p = none_fed turns p.no_turn

  named_fed : (peer : Option ℕ) (make : ℕ → Event) → ((i : ℕ) → fed_by (make i) ≡ 0) → PlaysNamed number old (option_map make peer) answer turns told end → Feed turns 0
  named_fed None make each p = fixed_fed (Err NoSuchPeer) p
  named_fed (Some i) make each p = subst (Feed turns) (each i) (made_fed (make i) p)

  taken_fed : (accepted : Bool) (peer : ℕ) (s : Plant) (taken : List Turn) →
      cond accepted (AreAllDue (IsDueTake peer) old.modes old.network s taken end) ((taken ≡ []) × (end ≡ s)) → Feed taken 0
  taken_fed true peer s taken all = due_fed (IsDueTake peer) old.modes old.network (take_fed peer) s taken end all.due
  taken_fed false peer s taken none = none_fed taken none.0

  due_all_fed : (until : Until) → PlaysDue number old (IsDue until old.network) answer turns told end → Feed turns 0
  due_all_fed until p = due_fed (IsDue until old.network) old.modes old.network (going_fed until old.network) old.state turns end p.all.due

  change_fed : (element : Bool) (at : As) (changes : List Change) →
      cond element (Changes number old at changes answer turns told end) (PlaysNone number old (Err NoSuchPeer) answer turns told end) → Feed turns 0
  change_fed true at changes p = made_fed (event.Load at p.topology) p.loads
  change_fed false at changes p = fixed_fed (Err NoSuchPeer) p

  -- a feed to a peer that there is not feeds nothing
  feed_fed : (peer : Option ℕ) (bytes : Bytes) → PlaysFeedAt number old peer bytes answer turns told end → (older : List Entry) →
      fed_bytes (entries_of turns older) ≤ length bytes + fed_bytes older
  feed_fed None bytes p older = omega (arith, fixed_fed (Err NoSuchPeer) p older)
  feed_fed (Some i) bytes p older =
      let taken = taken_fed (is_accepted answer) i p.fed.after p.taken p.takes (p.fed.entry ∷ older) in
      let first : fed_by p.fed.entry.event ≡ length bytes = ap fed_by p.event in
      omega (arith, ap (λ (ts : List Turn). fed_bytes (entries_of ts older)) p.are, taken, first)

  -- nor does one that is not taken
  receive_fed : (peer : Option ℕ) (bytes : Bytes) → PlaysNamed number old (option_map (λ i. event.Feed i bytes) peer) answer turns told end → (older : List Entry) →
      fed_bytes (entries_of turns older) ≤ length bytes + fed_bytes older
  receive_fed None bytes p older = omega (arith, fixed_fed (Err NoSuchPeer) p older)
  receive_fed (Some i) bytes p older = omega (arith, made_fed (event.Feed i bytes) p older)

  at_most : (k : ℕ) → Feed turns 0 → (older : List Entry) → fed_bytes (entries_of turns older) ≤ k + fed_bytes older
  at_most k none older = omega (arith, none older)

  line_fed : (e : LineEvent) (file : List ℕ) → Plays number old e file answer turns told end → (older : List Entry) →
      fed_bytes (entries_of turns older) ≤ fed_octets e + fed_bytes older
  line_fed (line.Load at name) file p older = at_most 0 (made_fed (event.Load at p.topology) p.loads) older
  line_fed (line.Change at name) file p older = at_most 0 (change_fed (is_element old.network at) at p.changes p.makes) older
  line_fed (line.Open peer holder) file p older = at_most 0 (named_fed peer (λ i. event.Open i holder) (λ i. refl) p) older
  line_fed (line.Shut peer) file p older = at_most 0 (named_fed peer event.Shut (λ i. refl) p) older
  line_fed (line.Feed peer bytes) file p older = feed_fed peer bytes p older
  line_fed (line.Receive peer bytes) file p older = receive_fed peer bytes p older
  line_fed (line.Take peer) file p older = at_most 0 (named_fed peer event.Take (λ i. refl) p) older
  line_fed (line.Carry a b) file p older = at_most 0 (made_fed (event.Carry a b) p) older
  line_fed (line.Break a b) file p older = at_most 0 (made_fed (event.Break a b) p) older
  line_fed (line.Solve at k rows) file p older = at_most 0 (made_fed (event.Solve at k) p) older
  line_fed (line.Tick now) file p older = at_most 0 (made_fed (event.Tick now) p) older
  line_fed (line.Drain peer holder) file p older = at_most 0 (named_fed peer (λ i. event.Drain i holder) (λ i. refl) p) older
  line_fed line.Settle file p older = at_most 0 (due_all_fed Settled p) older
  line_fed line.Finish file p older = at_most 0 (due_all_fed Finished p) older
  line_fed line.CertifyOn file p older = at_most 0 (fixed_fed _ p) older
  line_fed line.DiscloseOn file p older = at_most 0 (fixed_fed _ p) older

pub script_fed : (old end : PlayedNetwork) (cues : List Cue) (turns : List Turn) (told : List ℕ) → AllPlayed old cues turns told end → (older : List Entry) →
    fed_bytes (entries_of turns older) ≤ all_octets cues + fed_bytes older
script_fed old end [] turns told all older = omega (arith, none_fed turns all.0 older)
script_fed old end (c ∷ cs) turns told p older =
    let one = line_fed c.number old p.answer p.first p.said p.mid.state c.event c.file p.plays.plays older in
    let others = script_fed p.mid end cs p.later p.more p.others (entries_of p.first older) in
    let joined : fed_bytes (entries_of turns older) ≡ fed_bytes (entries_of p.later (entries_of p.first older)) =
    ap (λ (ts : List Turn). fed_bytes (entries_of ts older)) p.turns_are ∙ ap fed_bytes (entries_join p.first p.later older) in
    omega (arith, one, others, joined)
