-- What the lines of a client do to its connection.
use Rattle.std.proofs.Common.{◌≡◌, ℕ, Bool, true, false, cond, List, [], ◌∷◌, ◌++◌, Option, Some, None, option_map, sym, ap, subst, inl, refl}
use Rattle.plant_play.specs.plant_model.Types.{Message, LineEvent, NetworkParts}
use Rattle.plant_text.specs.declared.line.LineEvent.TheVariants as line
use Rattle.plant_play.specs.plant_model.declared.event.Event.{Event}
use Rattle.plant_play.specs.plant_model.declared.event.Event.TheVariants as event
use Rattle.plant_play.specs.plant_model.Blind.{is_accepted}
use Rattle.plant_play.specs.plant_model.Events.{Answered}
use Rattle.plant_play.specs.plant_model.Plant.{Entry, Plant}
use Rattle.plant_play.specs.plant_model.RealWire.{wire}
use Rattle.plant_play.specs.plant_model.Wire.{Bytes}
use Rattle.plant_play.specs.declared.going.Until.{Until}
use Rattle.plant_play.specs.declared.going.Until.TheVariants.{Finished, Settled}
use Rattle.plant_play.specs.declared.showing.Modes.{Modes}
use Rattle.plant_play.specs.Due.{AreAllDue, AreDue, IsDue, IsDueTake}
use Rattle.plant_play.specs.Playing.{Plays, PlaysDue, PlaysFeedAt, PlaysOne, PlayedNetwork}
use Rattle.plant_play.specs.Turns.{IsTurn, Turn, entries_of}
use Rattle.run_laws.specs.Outlets.{Outlet, Stays, ConnectionChange, handed_in, messages_for, outlet, turn_for, turned, with_put}
use Rattle.run_laws.proofs.PeerLemmas.OutletEvents.{Fits, steps_went}
use Rattle.run_laws.proofs.PeerLemmas.Growing.{View, view_of}

-- events that open, shut and drain no connection
abbrev pub AllStay : ℕ → List Turn → Type 0
AllStay i [] = Unit {0}
AllStay i (t ∷ ts) = (turn_for i t.entry.event ≡ Stays) × AllStay i ts

none_stay : (i : ℕ) (ts : List Turn) → ts ≡ [] → AllStay i ts
none_stay i ts none = subst (AllStay i) (sym none) tt

due_stay : (i : ℕ) (until : Until) (m : Modes) (n : NetworkParts) (s : Plant) (ts : List Turn) (end : Plant) → AreDue (IsDue until n) m n s ts end → AllStay i ts
due_stay i until m n s [] end all = tt
due_stay i until m n s (t ∷ ts) end all = (go t.entry.event all.0, due_stay i until m n t.after ts end all.3)
  where
    go : (e : Event) → IsDue until n s (Some e) → turn_for i e ≡ Stays
    go (event.Carry a b) h = refl
    go (event.Solve d k) h = refl
    go _ h = absurd h

takes_stay : (i peer : ℕ) (m : Modes) (n : NetworkParts) (s : Plant) (ts : List Turn) (end : Plant) → AreDue (IsDueTake peer) m n s ts end → AllStay i ts
takes_stay i peer m n s [] end all = tt
takes_stay i peer m n s (t ∷ ts) end all = (ap (turn_for i) all.0, takes_stay i peer m n t.after ts end all.3)

-- the lines of a client but its open
abbrev pub IsPlain : LineEvent → Type 0
IsPlain (line.Load at name) = Unit {0}
IsPlain (line.Feed peer bytes) = Unit {0}
IsPlain line.Settle = Unit {0}
IsPlain line.Finish = Unit {0}
IsPlain e = ⊥

module _ (i number : ℕ) (old : PlayedNetwork) (answer : Answered) (turns : List Turn) (told : List ℕ) (end : Plant) where
  fed_stay : (peer : Option ℕ) (bytes : Bytes) → PlaysFeedAt number old peer bytes answer turns told end → AllStay i turns
  fed_stay None bytes p = none_stay i turns p.no_turn
  fed_stay (Some j) bytes p = subst (AllStay i) (sym p.are) (ap (turn_for i) p.event, taken (is_accepted answer) p.takes)
    where
      taken : (b : Bool) → cond b (AreAllDue (IsDueTake j) old.modes old.network p.fed.after p.taken end) ((p.taken ≡ []) × (end ≡ p.fed.after)) → AllStay i p.taken
      taken true all = takes_stay i j old.modes old.network p.fed.after p.taken end all.due
      taken false none = none_stay i p.taken none.0

  pub plain_stays : (e : LineEvent) (file : List ℕ) → IsPlain e → Plays number old e file answer turns told end → AllStay i turns
  plain_stays (line.Load at name) file plain p = subst (AllStay i) (sym p.loads.one) (ap (turn_for i) p.loads.event, tt)
  plain_stays (line.Feed peer bytes) file plain p = fed_stay peer bytes p
  plain_stays line.Settle file plain p = due_stay i Settled old.modes old.network old.state turns end p.all.due
  plain_stays line.Finish file plain p = due_stay i Finished old.modes old.network old.state turns end p.all.due
  plain_stays (line.Change at name) file plain p = absurd plain
  plain_stays (line.Open peer holder) file plain p = absurd plain
  plain_stays (line.Shut peer) file plain p = absurd plain
  plain_stays (line.Receive peer bytes) file plain p = absurd plain
  plain_stays (line.Take peer) file plain p = absurd plain
  plain_stays (line.Carry a b) file plain p = absurd plain
  plain_stays (line.Break a b) file plain p = absurd plain
  plain_stays (line.Solve at k rows) file plain p = absurd plain
  plain_stays (line.Tick now) file plain p = absurd plain
  plain_stays (line.Drain peer holder) file plain p = absurd plain
  plain_stays line.CertifyOn file plain p = absurd plain
  plain_stays line.DiscloseOn file plain p = absurd plain

-- ---- events one after the other

-- each event happens in the state that the one before it leaves
abbrev pub AreTurns : Modes → NetworkParts → Plant → List Turn → Plant → Type 0
AreTurns m n s [] end = end ≡ s
AreTurns m n s (t ∷ ts) end = IsTurn m n s t × AreTurns m n t.after ts end

due_turns : (Due : Plant → Option Event → Type 0) (m : Modes) (n : NetworkParts) (s : Plant) (ts : List Turn) (end : Plant) → AreDue Due m n s ts end → AreTurns m n s ts end
due_turns Due m n s [] end all = all
due_turns Due m n s (t ∷ ts) end all = (all.1, due_turns Due m n t.after ts end all.3)

module _ (number : ℕ) (old : PlayedNetwork) (answer : Answered) (turns : List Turn) (told : List ℕ) (end : Plant) where
  abbrev Are : List Turn → Type 0
  Are ts = AreTurns old.modes old.network old.state ts end

  pub one_turn : (e : Event) → PlaysOne number old e answer turns told end → Are turns
  one_turn e p = subst Are (sym p.one) (p.is_turn, p.ends)

  due_line : (Due : Plant → Option Event → Type 0) → PlaysDue number old Due answer turns told end → Are turns
  due_line Due p = due_turns Due old.modes old.network old.state turns end p.all.due

  feed_turns : (peer : Option ℕ) (bytes : Bytes) → PlaysFeedAt number old peer bytes answer turns told end → Are turns
  feed_turns None bytes p = subst Are (sym p.no_turn) p.ends
  feed_turns (Some j) bytes p = subst Are (sym p.are) (p.is_turn, taken (is_accepted answer) p.takes)
    where
      taken : (b : Bool) → cond b (AreAllDue (IsDueTake j) old.modes old.network p.fed.after p.taken end) ((p.taken ≡ []) × (end ≡ p.fed.after)) → AreTurns old.modes old.network p.fed.after p.taken end
      taken true all = due_turns (IsDueTake j) old.modes old.network p.fed.after p.taken end all.due
      taken false none = subst (λ (ts : List Turn). AreTurns old.modes old.network p.fed.after ts end) (sym none.0) none.1

  pub plain_turns : (e : LineEvent) (file : List ℕ) → IsPlain e → Plays number old e file answer turns told end → Are turns
  plain_turns (line.Load at name) file plain p = one_turn (event.Load at p.topology) p.loads
  plain_turns (line.Feed peer bytes) file plain p = feed_turns peer bytes p
  plain_turns line.Settle file plain p = due_line (IsDue Settled old.network) p
  plain_turns line.Finish file plain p = due_line (IsDue Finished old.network) p
  plain_turns (line.Change at name) file plain p = absurd plain
  plain_turns (line.Open peer holder) file plain p = absurd plain
  plain_turns (line.Shut peer) file plain p = absurd plain
  plain_turns (line.Receive peer bytes) file plain p = absurd plain
  plain_turns (line.Take peer) file plain p = absurd plain
  plain_turns (line.Carry a b) file plain p = absurd plain
  plain_turns (line.Break a b) file plain p = absurd plain
  plain_turns (line.Solve at k rows) file plain p = absurd plain
  plain_turns (line.Tick now) file plain p = absurd plain
  plain_turns (line.Drain peer holder) file plain p = absurd plain
  plain_turns line.CertifyOn file plain p = absurd plain
  plain_turns line.DiscloseOn file plain p = absurd plain

pub entries_join : (first others : List Turn) (older : List Entry) → entries_of (first ++ others) older ≡ entries_of others (entries_of first older)
entries_join [] others older = refl
entries_join (t ∷ first) others older = entries_join first others (t.entry ∷ older)

-- ---- the connection by the transcript

-- it is open, this holder has it, and nothing was drained
abbrev pub IsUndrained : ℕ → Option Outlet → Type 0
IsUndrained holder None = ⊥
IsUndrained holder (Some x) = (x.holder ≡ holder) × (x.handed ≡ [])

abbrev pub kept_open : (ms : List Message) (o : Option Outlet) (holder : ℕ) → IsUndrained holder o → IsUndrained holder (option_map (with_put ms) o)
kept_open ms None holder h = h
kept_open ms (Some x) holder h = h

kept_shut : (ms : List Message) (o : Option Outlet) → o ≡ None → option_map (with_put ms) o ≡ None
kept_shut ms o is = ap (option_map (with_put ms)) is

pick : (P : Option Outlet → Type 0) (b : Bool) (o o' : Option Outlet) → P o → P o' → P (cond b o o')
pick P true o o' p p' = p
pick P false o o' p p' = p'

pub still_open : (i holder : ℕ) (ts : List Turn) (older : List Entry) → AllStay i ts → IsUndrained holder (outlet i older) → IsUndrained holder (outlet i (entries_of ts older))
still_open i holder [] older stay h = h
still_open i holder (t ∷ ts) older stay h =
    let more : IsUndrained holder (turned (turn_for i t.entry.event) (messages_for i t.entry.deeds) (handed_in t.entry.answer) (outlet i older)) =
    subst (λ (k : ConnectionChange). IsUndrained holder (turned k (messages_for i t.entry.deeds) (handed_in t.entry.answer) (outlet i older))) (sym stay.0) (kept_open (messages_for i t.entry.deeds) (outlet i older) holder h) in
    still_open i holder ts (t.entry ∷ older) stay.1 (pick (IsUndrained holder) (is_accepted t.entry.answer) _ (outlet i older) more h)

abbrev IsShut : Option Outlet → Type 0
IsShut o = o ≡ None

pub still_shut : (i : ℕ) (ts : List Turn) (older : List Entry) → AllStay i ts → outlet i older ≡ None → outlet i (entries_of ts older) ≡ None
still_shut i [] older stay h = h
still_shut i (t ∷ ts) older stay h =
    let more : turned (turn_for i t.entry.event) (messages_for i t.entry.deeds) (handed_in t.entry.answer) (outlet i older) ≡ None =
    subst (λ (k : ConnectionChange). turned k (messages_for i t.entry.deeds) (handed_in t.entry.answer) (outlet i older) ≡ None) (sym stay.0) (kept_shut (messages_for i t.entry.deeds) (outlet i older) h) in
    still_shut i ts (t.entry ∷ older) stay.1 (pick (IsShut) (is_accepted t.entry.answer) _ (outlet i older) more h)

-- ---- the connection in the state

abbrev pub view : ℕ → Plant → View
view i s = view_of (s.accesses i).connection

pub turns_fit : (i : ℕ) (m : Modes) (n : NetworkParts) (s : Plant) (ts : List Turn) (end : Plant) (older : List Entry) → AreTurns m n s ts end → Fits wire (outlet i older) (view i s) → Fits wire (outlet i (entries_of ts older)) (view i end)
turns_fit i m n s [] end older same fits = subst (λ (t : Plant). Fits wire (outlet i older) (view i t)) (sym same) fits
turns_fit i m n s (t ∷ ts) end older all fits =
    turns_fit i m n t.after ts end (t.entry ∷ older) all.1
    (steps_went wire n s t.entry.event (record { answer = t.entry.answer; state = t.after; deeds = t.entry.deeds }) (inl all.0.happens) i (outlet i older) fits)
