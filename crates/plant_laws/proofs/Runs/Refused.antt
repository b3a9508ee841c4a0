-- An event that is refused changes nothing.
use Rattle.std.proofs.Common.{◌≡◌, ℕ, Bool, true, false, cond, ◌==◌, List, [], ◌∷◌, Option, Some, None, is_some, sym, subst, inl, inr, refl}
use Rattle.plant_model.specs.Types.{As, Hop, NetworkParts}
use Rattle.te_links.specs.Rows.{Rows}
use Rattle.disclosure.specs.Shown.{open_of}
use Rattle.plant_model.specs.declared.event.Event.{Event}
use Rattle.plant_model.specs.declared.event.Event.TheVariants as event
use Rattle.plant_model.specs.Wire.{Bytes, Codec}
use Rattle.plant_text.specs.Settings.{is_linked, is_element, peer_row}
use Rattle.plant_model.specs.State.{State, Connection}
use Rattle.plant_model.specs.Events as events
use Rattle.plant_model.specs.Plant.{Pin, Segment, Plant, Happened, Steps, Happens, load, load_new, refused, is_full}
use Rattle.plant_model.specs.Blind.{is_accepted}

module _ (P : Type 0) (S : Type 0) (c : Codec) (n : NetworkParts) (show : S → List Hop) where
  pub record Same (s : State P S) (h : events.Happened P S) : Type 0 where
    pub state : h.state ≡ s
    pub deeds : h.deeds ≡ []

  abbrev pub Stays : State P S → events.Happened P S → Type 0
  Stays s h = is_accepted h.answer ≡ false → Same s h

  pub stays_pick : (s : State P S) (b : Bool) (h k : events.Happened P S) → Stays s h → Stays s k → Stays s (cond b h k)
  stays_pick s true h k x y = x
  stays_pick s false h k x y = y

  pub no : {X : Type 0} → true ≡ false → X
  no e = cc

  open_stays : (i holder : ℕ) (s : State P S) → Stays s (events.open_peer P S c n show i holder s)
  open_stays i holder s = stays_pick s (is_some (peer_row i n.peers)) (events.open_new P S c n show i holder s (s.accesses i).connection) (events.refused P S c n show _ s) (go (s.accesses i).connection) (λ e. record { state = refl; deeds = refl })
    where
      go : (o : Option Connection) → Stays s (events.open_new P S c n show i holder s o)
      go None = λ e. no e
      go (Some x) = λ e. record { state = refl; deeds = refl }

  shut_stays : (i : ℕ) (s : State P S) → Stays s (events.shut P S c n show i s)
  shut_stays i s = go (s.accesses i).connection
    where
      go : (o : Option Connection) → Stays s (events.shut_open P S c n show i s o)
      go None = λ e. record { state = refl; deeds = refl }
      go (Some x) = λ e. no e

  feed_stays : (i : ℕ) (bytes : Bytes) (s : State P S) → Stays s (events.feed P S c n show i bytes s)
  feed_stays i bytes s = go (s.accesses i).connection
    where
      go : (o : Option Connection) → Stays s (events.feed_open P S c n show i bytes s o)
      go None = λ e. record { state = refl; deeds = refl }
      go (Some x) = λ e. no e

  take_stays : (i : ℕ) (s : State P S) → Stays s (events.take P S c n show i s)
  take_stays i s = go (s.accesses i).connection
    where
      item : (inbox : List (Option Bytes)) → Stays s (events.take_item P S c n show i s inbox)
      item [] = λ e. record { state = refl; deeds = refl }
      item (x ∷ rest) = λ e. no e

      go : (o : Option Connection) → Stays s (events.take_open P S c n show i s o)
      go None = λ e. record { state = refl; deeds = refl }
      go (Some x) = item x.inbox

  carry_stays : (a b : As) (s : State P S) → Stays s (events.carry P S c n show a b s)
  carry_stays a b s = stays_pick s (is_linked n a b) (events.carry_first P S c n show a b s (s.queues a b)) (events.refused P S c n show _ s) (go (s.queues a b)) (λ e. record { state = refl; deeds = refl })
    where
      go : (q : List Bytes) → Stays s (events.carry_first P S c n show a b s q)
      go [] = λ e. record { state = refl; deeds = refl }
      go (x ∷ rest) = λ e. no e

  break_stays : (a b : As) (s : State P S) → Stays s (events.break P S c n show a b s)
  break_stays a b s = stays_pick s (is_linked n a b) (events.answered P S c n show _ _) (events.refused P S c n show _ s) (λ e. no e) (λ e. record { state = refl; deeds = refl })

  drain_stays : (i holder : ℕ) (s : State P S) → Stays s (events.drain P S c n show i holder s)
  drain_stays i holder s = go (s.accesses i).connection
    where
      go : (o : Option Connection) → Stays s (events.drain_open P S c n show i holder s o)
      go None = λ e. record { state = refl; deeds = refl }
      go (Some x) = stays_pick s (x.holder == holder) _ _ (λ e. no e) (λ e. record { state = refl; deeds = refl })

module _ (c : Codec) (n : NetworkParts) where
  load_stays : (d : As) (g : Rows) (s : Plant) → Stays Pin Segment c n open_of s (load c n d g s)
  load_stays d g s =
      stays_pick Pin Segment c n open_of s (is_element n d)
      (cond (is_full (s.current d).number (s.elements d).pending.rows) (refused c n _ s) (load_new c n d g s)) (refused c n _ s)
      (stays_pick Pin Segment c n open_of s (is_full (s.current d).number (s.elements d).pending.rows) (refused c n _ s) (load_new c n d g s) (λ e. record { state = refl; deeds = refl }) (λ e. no Pin Segment c n open_of e))
      (λ e. record { state = refl; deeds = refl })

  happens_stays : (s : Plant) (e : Event) (h : Happened) → Happens c n s e h → Stays Pin Segment c n open_of s h
  happens_stays s (event.Load d g) h is = subst (Stays Pin Segment c n open_of s) (sym is) (load_stays d g s)
  happens_stays s (event.Open i holder) h is = subst (Stays Pin Segment c n open_of s) (sym is) (open_stays Pin Segment c n open_of i holder s)
  happens_stays s (event.Shut i) h is = subst (Stays Pin Segment c n open_of s) (sym is) (shut_stays Pin Segment c n open_of i s)
  happens_stays s (event.Feed i bytes) h is = subst (Stays Pin Segment c n open_of s) (sym is) (feed_stays Pin Segment c n open_of i bytes s)
  happens_stays s (event.Take i) h is = subst (Stays Pin Segment c n open_of s) (sym is) (take_stays Pin Segment c n open_of i s)
  happens_stays s (event.Carry a b) h is = subst (Stays Pin Segment c n open_of s) (sym is) (carry_stays Pin Segment c n open_of a b s)
  happens_stays s (event.Break a b) h is = subst (Stays Pin Segment c n open_of s) (sym is) (break_stays Pin Segment c n open_of a b s)
  happens_stays s (event.Tick t) h is = subst (Stays Pin Segment c n open_of s) (sym is) (λ e. no Pin Segment c n open_of e)
  happens_stays s (event.Drain i holder) h is = subst (Stays Pin Segment c n open_of s) (sym is) (drain_stays Pin Segment c n open_of i holder s)
  happens_stays s (event.Solve d k) h (inl none) = subst (Stays Pin Segment c n open_of s) (sym none.1) (λ e. record { state = refl; deeds = refl })
  happens_stays s (event.Solve d k) h (inr (inl none)) = subst (Stays Pin Segment c n open_of s) (sym none.2) (λ e. record { state = refl; deeds = refl })
  happens_stays s (event.Solve d k) h (inr (inr (inl solves))) = subst (Stays Pin Segment c n open_of s) (sym solves.1.is) (λ e. no Pin Segment c n open_of e)
  happens_stays s (event.Solve d k) h (inr (inr (inr solves))) = subst (Stays Pin Segment c n open_of s) (sym solves.2.is) (λ e. no Pin Segment c n open_of e)

  pub refused_same : (s : Plant) (e : Event) (h : Happened) → Steps c n s e h → is_accepted h.answer ≡ false → Same Pin Segment c n open_of s h
  refused_same s e h (inl is) none = happens_stays s e h is none
  refused_same s e h (inr is) none = subst (Same Pin Segment c n open_of s) (sym is.1) (record { state = refl; deeds = refl })
