-- Who is opened, shut, fed, taken from or drained is a peer of the settings.
use Rattle.std.proofs.Common.{◌≡◌, ℕ, zero, suc, ◌<◌, Bool, true, false, cond, ◌==◌, length, List, [], ◌∷◌, ◌++◌, Option, Some, None, is_some, refl, sym, subst, inl, inr, arith}
use Rattle.std.specs.List.{AllByRecursion}
use Rattle.std.proofs.lemmas.Bool.{eqb-true}
use Rattle.disclosure.specs.Shown.{open_of}
use Rattle.plant_text.specs.declared.settings.NetworkParts.{NetworkParts}
use Rattle.plant_text.specs.declared.settings.PeerRow.{PeerRow}
use Rattle.plant_text.specs.Settings.{peer_row}
use Rattle.plant_network.specs.plant_model.Types.{Message}
use Rattle.plant_network.specs.plant_model.declared.event.Event.{Event}
use Rattle.plant_network.specs.plant_model.declared.event.Event.TheVariants as event
use Rattle.plant_network.specs.plant_model.declared.outcome.Refused.{Refused}
use Rattle.plant_network.specs.plant_model.declared.outcome.Refused.TheVariants.{NoMemory, NoSuchPeer}
use Rattle.plant_network.specs.plant_model.Wire.{Bytes}
use Rattle.plant_network.specs.plant_model.Blind.{is_accepted}
use Rattle.plant_network.specs.plant_model.State.{Connection}
use Rattle.plant_network.specs.plant_model.Events as events
use Rattle.plant_network.specs.plant_model.Plant.{Entry, Happened, Happens, Pin, Plant, Run, Segment, Steps}
use Rattle.plant_network.specs.plant_model.RealWire.{wire}
use Rattle.run_laws.specs.Outlets.{AreOne, ConnectionChange, Drains, Opens, Outlet, Shuts, Stays, handed_in, messages_for, outlet, turn_for, turned}
use Rattle.run_laws.proofs.PeerLemmas.OutletRuns.{outlets_stand}
use Rattle.told_laws.specs.Telling.{is_idle, is_told, told}
use Rattle.told_laws.proofs.Telling.{told_accepted}
use Rattle.record_laws.specs.Days.{events_by}

differ : {X : Type 0} → false ≡ true → X
differ e = cc

row_within : (rows : List PeerRow) (i : ℕ) → is_some (peer_row i rows) ≡ true → i < length rows
row_within [] i is = differ is
row_within (r ∷ rows) zero is = omega arith
row_within (r ∷ rows) (suc i) is = let below : i < length rows = row_within rows i is in omega arith

module _ (n : NetworkParts) where
  -- its peer is one of the settings
  abbrev pub IsKnown : Event → Type 0
  IsKnown (event.Open i holder) = i < length n.peers
  IsKnown (event.Shut i) = i < length n.peers
  IsKnown (event.Feed i bytes) = i < length n.peers
  IsKnown (event.Take i) = i < length n.peers
  IsKnown (event.Drain i holder) = i < length n.peers
  IsKnown e = Unit {0}

  -- ---- who is open was opened

  abbrev Opened : ℕ → Option Outlet → Type 0
  Opened i None = Unit {0}
  Opened i (Some x) = i < length n.peers

  abbrev OpensKnown : ℕ → ConnectionChange → Type 0
  OpensKnown i (Opens holder) = i < length n.peers
  OpensKnown i change = Unit {0}

  turned_opened : (i : ℕ) (change : ConnectionChange) (ms : List Message) (bytes : Bytes) (before : Option Outlet) → OpensKnown i change → Opened i before → Opened i (turned change ms bytes before)
  turned_opened i (Opens holder) ms bytes before known was = known
  turned_opened i Shuts ms bytes before known was = tt
  turned_opened i Drains ms bytes None known was = tt
  turned_opened i Drains ms bytes (Some x) known was = was
  turned_opened i Stays ms bytes None known was = tt
  turned_opened i Stays ms bytes (Some x) known was = was

  opens_known : (i : ℕ) (e : Event) → IsKnown e → OpensKnown i (turn_for i e)
  opens_known i (event.Open j holder) known = go (j == i) refl
    where
      go : (b : Bool) → (j == i) ≡ b → OpensKnown i (cond b (Opens holder) Stays)
      go true same = subst (λ (k : ℕ). k < length n.peers) (eqb-true j i same) known
      go false same = tt
  opens_known i (event.Shut j) known = go (j == i)
    where
      go : (b : Bool) → OpensKnown i (cond b Shuts Stays)
      go true = tt
      go false = tt
  opens_known i (event.Drain j holder) known = go (j == i)
    where
      go : (b : Bool) → OpensKnown i (cond b Drains Stays)
      go true = tt
      go false = tt
  opens_known i e known = tt

  -- ---- what is accepted

  abbrev IfAccepted : Event → Happened → Type 0
  IfAccepted e h = is_accepted h.answer ≡ true → IsKnown e

  abbrev AllOpened : Plant → Type 0
  AllOpened s = (i : ℕ) (x : Connection) → (s.accesses i).connection ≡ Some x → i < length n.peers

  refuses : (e : Event) (why : Refused) (s : Plant) → IfAccepted e (events.refused Pin Segment wire n open_of why s)
  refuses e why s fine = differ fine

  open_known : (j holder : ℕ) (s : Plant) → IfAccepted (event.Open j holder) (events.open_peer Pin Segment wire n open_of j holder s)
  open_known j holder s = go (is_some (peer_row j n.peers)) refl
    where
      go : (b : Bool) → is_some (peer_row j n.peers) ≡ b → IfAccepted (event.Open j holder) (cond b (events.open_new Pin Segment wire n open_of j holder s (s.accesses j).connection) (events.refused Pin Segment wire n open_of NoSuchPeer s))
      go true is fine = row_within n.peers j is
      go false is fine = differ fine

  shut_known : (j : ℕ) (s : Plant) → AllOpened s → IfAccepted (event.Shut j) (events.shut Pin Segment wire n open_of j s)
  shut_known j s all = go (s.accesses j).connection refl
    where
      go : (o : Option Connection) → (s.accesses j).connection ≡ o → IfAccepted (event.Shut j) (events.shut_open Pin Segment wire n open_of j s o)
      go None is fine = differ fine
      go (Some x) is fine = all j x is

  feed_known : (j : ℕ) (bytes : Bytes) (s : Plant) → AllOpened s → IfAccepted (event.Feed j bytes) (events.feed Pin Segment wire n open_of j bytes s)
  feed_known j bytes s all = go (s.accesses j).connection refl
    where
      go : (o : Option Connection) → (s.accesses j).connection ≡ o → IfAccepted (event.Feed j bytes) (events.feed_open Pin Segment wire n open_of j bytes s o)
      go None is fine = differ fine
      go (Some x) is fine = all j x is

  take_known : (j : ℕ) (s : Plant) → AllOpened s → IfAccepted (event.Take j) (events.take Pin Segment wire n open_of j s)
  take_known j s all = go (s.accesses j).connection refl
    where
      go : (o : Option Connection) → (s.accesses j).connection ≡ o → IfAccepted (event.Take j) (events.take_open Pin Segment wire n open_of j s o)
      go None is fine = differ fine
      go (Some x) is fine = all j x is

  drain_known : (j holder : ℕ) (s : Plant) → AllOpened s → IfAccepted (event.Drain j holder) (events.drain Pin Segment wire n open_of j holder s)
  drain_known j holder s all = go (s.accesses j).connection refl
    where
      go : (o : Option Connection) → (s.accesses j).connection ≡ o → IfAccepted (event.Drain j holder) (events.drain_open Pin Segment wire n open_of j holder s o)
      go None is fine = differ fine
      go (Some x) is fine = all j x is

  happens_known : (s : Plant) (e : Event) (h : Happened) → AllOpened s → Happens wire n s e h → IfAccepted e h
  happens_known s (event.Open j holder) h all is = subst (IfAccepted (event.Open j holder)) (sym is) (open_known j holder s)
  happens_known s (event.Shut j) h all is = subst (IfAccepted (event.Shut j)) (sym is) (shut_known j s all)
  happens_known s (event.Feed j bytes) h all is = subst (IfAccepted (event.Feed j bytes)) (sym is) (feed_known j bytes s all)
  happens_known s (event.Take j) h all is = subst (IfAccepted (event.Take j)) (sym is) (take_known j s all)
  happens_known s (event.Drain j holder) h all is = subst (IfAccepted (event.Drain j holder)) (sym is) (drain_known j holder s all)
  happens_known s (event.Load d g) h all is = λ fine. tt
  happens_known s (event.Carry a b) h all is = λ fine. tt
  happens_known s (event.Break a b) h all is = λ fine. tt
  happens_known s (event.Solve d k) h all is = λ fine. tt
  happens_known s (event.Tick t) h all is = λ fine. tt

  steps_known : (s : Plant) (e : Event) (h : Happened) → AllOpened s → Steps wire n s e h → IfAccepted e h
  steps_known s e h all (inl is) = happens_known s e h all is
  steps_known s e h all (inr none) = subst (IfAccepted e) (sym none.1) (refuses e NoMemory s)

  -- ---- in a run

  abbrev AllKnown : List Entry → Type 0
  AllKnown [] = Unit {0}
  AllKnown (e ∷ older) = (is_accepted e.answer ≡ true → IsKnown e.event) × AllKnown older

  outlet_opened : (i : ℕ) (es : List Entry) → AllKnown es → Opened i (outlet i es)
  outlet_opened i [] known = tt
  outlet_opened i (e ∷ older) known = go (is_accepted e.answer) refl (outlet_opened i older known.1)
    where
      go : (b : Bool) → is_accepted e.answer ≡ b → Opened i (outlet i older) → Opened i (cond b (turned (turn_for i e.event) (messages_for i e.deeds) (handed_in e.answer) (outlet i older)) (outlet i older))
      go true is below = turned_opened i (turn_for i e.event) (messages_for i e.deeds) (handed_in e.answer) (outlet i older) (opens_known i e.event (known.0 is)) below
      go false is below = below

  one_opened : (i : ℕ) (o : Option Outlet) (p : Option Connection) (x : Connection) → AreOne wire o p → Opened i o → p ≡ Some x → i < length n.peers
  one_opened i None None x one was is = absurd (let no : None ≡ Some x = is in cc)
  one_opened i None (Some k) x one was is = absurd one
  one_opened i (Some y) p x one was is = was

  all_opened : (es : List Entry) (s : Plant) → Run wire n es s → AllKnown es → AllOpened s
  all_opened es s run known = λ i x is. one_opened i (outlet i es) (s.accesses i).connection x (outlets_stand wire n es s run i) (outlet_opened i es known) is

  all_known : (es : List Entry) (s : Plant) → Run wire n es s → AllKnown es
  all_known [] s run = tt
  all_known (e ∷ older) s run =
      let below : AllKnown older = all_known older run.0 run.1 in
      (steps_known run.0 e.event (record { answer = e.answer; state = s; deeds = e.deeds }) (all_opened older run.0 run.1 below) run.3, below)

  -- ---- what is told of it

  snoc_known : (es : List Event) (e : Event) → AllByRecursion IsKnown es → IsKnown e → AllByRecursion IsKnown (es ++ e ∷ [])
  snoc_known [] e all here = (here, tt)
  snoc_known (x ∷ es) e all here = (all.0, snoc_known es e all.1 here)

  told_known_by : (es : List Entry) → AllKnown es → AllByRecursion IsKnown (events_by (told es))
  told_known_by [] known = tt
  told_known_by (e ∷ older) known = go (is_told e.event e.answer) refl (told_known_by older known.1)
    where
      go : (b : Bool) → is_told e.event e.answer ≡ b → AllByRecursion IsKnown (events_by (told older)) → AllByRecursion IsKnown (events_by (cond b (e ∷ told older) (told older)))
      go true is below = snoc_known (events_by (told older)) e.event below (known.0 (told_accepted (is_accepted e.answer) (is_idle e.event e.answer) is))
      go false is below = below

  pub told_known : (es : List Entry) (s : Plant) → Run wire n es s → AllByRecursion IsKnown (events_by (told es))
  told_known es s run = told_known_by es (all_known es s run)
