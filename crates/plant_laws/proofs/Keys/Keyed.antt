-- In every state of a run the keys of an element are those of its last solve that are live, and each message taken meets the
-- element as it stood.
use Rattle.std.proofs.Common.{◌≡◌, ◌⊎◌, ℕ, Bool, true, false, cond, ◌==◌, List, [], ◌∷◌, ◌++◌, Option, Some, None, is_some, sym, ◌∙◌, ap, subst, inl, inr, refl}
use Rattle.plant_model.specs.Types.{As, Peer, Outside, Inner, Message, Action, NetworkParts}
use Rattle.disclosure.specs.Shown.{open_of}
use Rattle.pcep_session.specs.declared.session.Input.TheVariants as input
use Rattle.pcep_session.specs.Table.{turn_of}
use Rattle.pcep_framing.specs.Frames.{joined}
use Rattle.plant_model.specs.declared.outcome.Refused.TheVariants.{NoSuchPeer}
use Rattle.plant_model.specs.declared.output.Output.{Output}
use Rattle.plant_text.specs.Names.{same_as, parent_as}
use Rattle.plant_model.specs.Names.{set_pair}
use Rattle.plant_model.specs.Wire.{Bytes, Codec}
use Rattle.plant_model.specs.Element.{Element}
use Rattle.plant_model.specs.Taking.{take}
use Rattle.plant_model.specs.Parent as parent
use Rattle.plant_text.specs.Settings.{adjacency, class_of, is_linked, peer_row}
use Rattle.plant_model.specs.Settings.{place, family}
use Rattle.plant_model.specs.State.{State, Connection, Loads, Pops, Takes, Says, Ups, Downs, Clears, Solves, Expires, Hands}
use Rattle.plant_model.specs.Deeds.{Going, element_of, is_tick, any_fall, input_of, with_session, with_inbox, with_element, with_parent, puts, give, fall, outside_acts, outside_step, inner_acts, break_adjacency, with_access, with_inner}
use Rattle.plant_model.specs.Outside.{heeded}
use Rattle.plant_model.specs.Events as events
use Rattle.plant_model.specs.Events.{is_down}
use Rattle.plant_model.specs.Plant.{Pin, Segment, PlantDeed, Happened}
use Rattle.plant_laws.specs.Transcript.{Transcript, Within}
use Rattle.plant_laws.specs.Keys.{clock_at, last_keys}
use Rattle.plant_laws.proofs.Runs.Decompose.{nil_right}
use Rattle.plant_laws.proofs.Runs.Shape.{shape}
use Rattle.plant_laws.proofs.Keys.KeysKept.{take_keys}
use Rattle.plant_laws.proofs.Runs.Calm.{is_plain, Plain, Calm, still, rest_on, one_on, fall_on, quiet_outside, quiet_input_on, break_adjacency_on, other_input_on, keys_set, puts_elements, puts_clock}

not_both : {X : Type 0} (t : Bool) → t ≡ true → t ≡ false → X
not_both true e f = cc
not_both false e f = cc

-- what plain deeds leave
pub plain_clock : (es ds : Transcript) → Plain es → clock_at (es ++ ds) ≡ clock_at ds
plain_clock [] ds plain = refl
plain_clock (Loads at g ∷ es) ds plain = plain_clock es ds plain.1
plain_clock (Pops a b ∷ es) ds plain = plain_clock es ds plain.1
plain_clock (Takes at from m os ∷ es) ds plain = let no : false ≡ true = plain.0 in cc
plain_clock (Says at o ∷ es) ds plain = plain_clock es ds plain.1
plain_clock (Ups at p ∷ es) ds plain = plain_clock es ds plain.1
plain_clock (Downs at p os ∷ es) ds plain = plain_clock es ds plain.1
plain_clock (Clears a b ∷ es) ds plain = plain_clock es ds plain.1
plain_clock (Solves at k os keys ∷ es) ds plain = let no : false ≡ true = plain.0 in cc
plain_clock (Expires now ∷ es) ds plain = let no : false ≡ true = plain.0 in cc
plain_clock (Hands i bytes ∷ es) ds plain = plain_clock es ds plain.1

pub plain_keys : (d : As) (es ds : Transcript) → Plain es → last_keys d (es ++ ds) ≡ last_keys d ds
plain_keys d [] ds plain = refl
plain_keys d (Loads at g ∷ es) ds plain = plain_keys d es ds plain.1
plain_keys d (Pops a b ∷ es) ds plain = plain_keys d es ds plain.1
plain_keys d (Takes at from m os ∷ es) ds plain = let no : false ≡ true = plain.0 in cc
plain_keys d (Says at o ∷ es) ds plain = plain_keys d es ds plain.1
plain_keys d (Ups at p ∷ es) ds plain = plain_keys d es ds plain.1
plain_keys d (Downs at p os ∷ es) ds plain = plain_keys d es ds plain.1
plain_keys d (Clears a b ∷ es) ds plain = plain_keys d es ds plain.1
plain_keys d (Solves at k os keys ∷ es) ds plain = let no : false ≡ true = plain.0 in cc
plain_keys d (Expires now ∷ es) ds plain = let no : false ≡ true = plain.0 in cc
plain_keys d (Hands i bytes ∷ es) ds plain = plain_keys d es ds plain.1

pub plain_nil : (es more : Transcript) → es ≡ more ++ [] → Plain more → Plain es
plain_nil es more is plain = subst Plain (sym (is ∙ nil_right more)) plain

-- a moment that took a message is not among deeds that take none
abbrev pub is_take : PlantDeed → Bool
is_take (Takes at from m os) = true
is_take _ = false

plain_no_take : (e : PlantDeed) → is_plain e ≡ true → is_take e ≡ false
plain_no_take (Takes at from m os) e = let no : false ≡ true = e in cc
plain_no_take _ e = refl

abbrev pub TakesNone : Transcript → Type 0
TakesNone [] = Unit {0}
TakesNone (e ∷ es) = (is_take e ≡ false) × TakesNone es

pub plain_none : (es : Transcript) → Plain es → TakesNone es
plain_none [] plain = tt
plain_none (e ∷ es) plain = (plain_no_take e plain.0, plain_none es plain.1)

abbrev first_take : Transcript → Bool
first_take [] = false
first_take (e ∷ es) = is_take e

pub earlier_take : (es ds : Transcript) (d : As) (p : Peer) (m : Message) (os : List Output) (older : Transcript) → TakesNone es → Within (Takes d p m os ∷ older) (es ++ ds) → Within (Takes d p m os ∷ older) ds
earlier_take [] ds d p m os older none within = within
earlier_take (e ∷ es) ds d p m os older none (inl is) = not_both (is_take e) (sym (ap first_take is)) none.0
earlier_take (e ∷ es) ds d p m os older none (inr there) = earlier_take es ds d p m os older none.1 there

module _ (c : Codec) (n : NetworkParts) where
  abbrev Core : Type 0
  Core = State Pin Segment

  -- a message is taken by an element as it stood
  pub record Gives (s : Core) (g : Going Pin Segment) : Type 0 where
    pub at : As
    pub from : Peer
    pub message : Message
    pub outputs : List Output
    pub before : Transcript
    pub deeds : g.deeds ≡ Takes at from message outputs ∷ before
    pub first : (before ≡ []) ⊎ ((a : As) × (b : As) × (before ≡ Pops a b ∷ []))
    pub is : same_as at parent_as ≡ false → outputs ≡ (take c open_of (place n at) (s.current at) from (class_of n from) s.clock message (s.elements at)).outputs
    pub clock : g.state.clock ≡ s.clock
    pub keys : (d : As) → (g.state.elements d).keys ≡ (s.elements d).keys

  give_gives : (s : Core) (at : As) (p : Peer) (m : Message) (queues : As → As → List Bytes) (accesses : ℕ → _) (sessions : As → As → _) (es : Transcript) → (es ≡ []) ⊎ ((a : As) × (b : As) × (es ≡ Pops a b ∷ [])) →
      Gives s (give Pin Segment c n open_of at p m (record { state = record s { queues = queues; accesses = accesses; sessions = sessions }; deeds = es }))
  give_gives s at p m queues accesses sessions es first = go (same_as at parent_as) refl
    where
      go : (b : Bool) → same_as at parent_as ≡ b →
          Gives s (cond b
          (let r = parent.take c (family n) p m s.parent in record { state = puts Pin Segment c n open_of at r.outputs (with_parent Pin Segment c n open_of r.parent (record s { queues = queues; accesses = accesses; sessions = sessions })); deeds = Takes at p m r.outputs ∷ es })
          (let r = take c open_of (place n at) (s.current at) p (class_of n p) s.clock m (s.elements at) in record { state = puts Pin Segment c n open_of at r.outputs (with_element Pin Segment c n open_of at r.element (record s { queues = queues; accesses = accesses; sessions = sessions })); deeds = Takes at p m r.outputs ∷ es }))
      go true e =
          let r = parent.take c (family n) p m s.parent in
          let u = with_parent Pin Segment c n open_of r.parent (record s { queues = queues; accesses = accesses; sessions = sessions }) in
          record {
            at = at;
            from = p;
            message = m;
            outputs = r.outputs;
            before = es;
            deeds = refl;
            first = first;
            is = λ f. not_both (same_as at parent_as) e f;
            clock = puts_clock c n at r.outputs u;
            keys = λ d. ap (λ (f : As → Element Pin Segment). (f d).keys) (puts_elements c n at r.outputs u);
          }
      go false e =
          let r = take c open_of (place n at) (s.current at) p (class_of n p) s.clock m (s.elements at) in
          let v = with_element Pin Segment c n open_of at r.element (record s { queues = queues; accesses = accesses; sessions = sessions }) in
          record {
            at = at;
            from = p;
            message = m;
            outputs = r.outputs;
            before = es;
            deeds = refl;
            first = first;
            is = λ f. refl;
            clock = puts_clock c n at r.outputs v;
            keys = λ d. ap (λ (f : As → Element Pin Segment). (f d).keys) (puts_elements c n at r.outputs v)
                ∙ keys_set c n at d r.element s (take_keys (s.current at) p (class_of n p) c open_of (place n at) s.clock m (s.elements at)) (same_as at d) refl;
          }

  abbrev pub going : Happened → Going Pin Segment
  going h = record { state = h.state; deeds = h.deeds }

  -- an event takes a message, or leaves the clock and the keys
  abbrev pub Kind : Core → Going Pin Segment → Type 0
  Kind s g = Calm c n s [] g ⊎ Gives s g

  calm_pick : (s : Core) (b : Bool) (h k : Happened) → Calm c n s [] (going h) → Calm c n s [] (going k) → Calm c n s [] (going (cond b h k))
  calm_pick s true h k x y = x
  calm_pick s false h k x y = y

  begin_is_other : (m : Message) → input.Begin ≡ input.Got m → ⊥
  begin_is_other m e = cc

  pub open_calm : (i holder : ℕ) (s : Core) → Calm c n s [] (going (events.open_peer Pin Segment c n open_of i holder s))
  open_calm i holder s =
      calm_pick s (is_some (peer_row i n.peers)) (events.open_new Pin Segment c n open_of i holder s (s.accesses i).connection) (events.refused Pin Segment c n open_of _ s) (go (s.accesses i).connection) (still c n s [])
    where
      go : (o : Option Connection) → Calm c n s [] (going (events.open_new Pin Segment c n open_of i holder s o))
      go None =
          let t = events.connect Pin Segment c n open_of i holder s in
          other_input_on c n s [] i input.Begin (record { state = t; deeds = [] }) begin_is_other (rest_on c n s [] (record { state = s; deeds = [] }) t refl refl (still c n s []))
      go (Some x) = still c n s []

  pub shut_calm : (i : ℕ) (s : Core) → Calm c n s [] (going (events.shut Pin Segment c n open_of i s))
  shut_calm i s = go (s.accesses i).connection
    where
      go : (o : Option Connection) → Calm c n s [] (going (events.shut_open Pin Segment c n open_of i s o))
      go None = still c n s []
      go (Some x) =
          let g = fall Pin Segment c n open_of (element_of n i) (Outside i) (record { state = s; deeds = [] }) in
          rest_on c n s [] g (events.set_access Pin Segment c n open_of i (record { opened = (s.accesses i).opened; connection = None }) g.state) refl refl
          (fall_on c n s [] (element_of n i) (Outside i) (record { state = s; deeds = [] }) (still c n s []))

  pub feed_calm : (i : ℕ) (bytes : Bytes) (s : Core) → Calm c n s [] (going (events.feed Pin Segment c n open_of i bytes s))
  feed_calm i bytes s = go (s.accesses i).connection
    where
      same : (b : Bool) → Calm c n s [] (record { state = cond b s (with_access Pin Segment c n open_of i (events.fed c bytes) s); deeds = [] })
      same true = still c n s []
      same false = rest_on c n s [] (record { state = s; deeds = [] }) (with_access Pin Segment c n open_of i (events.fed c bytes) s) refl refl (still c n s [])

      go : (o : Option Connection) → Calm c n s [] (going (events.feed_open Pin Segment c n open_of i bytes s o))
      go None = still c n s []
      go (Some x) = same (is_down x.session.phase)

  pub break_calm : (a b : As) (s : Core) → Calm c n s [] (going (events.break Pin Segment c n open_of a b s))
  break_calm a b s =
      calm_pick s (is_linked n a b) (events.answered Pin Segment c n open_of _ (break_adjacency Pin Segment c n open_of (adjacency a b) (record { state = s; deeds = [] }))) (events.refused Pin Segment c n open_of _ s)
      (break_adjacency_on c n s [] (adjacency a b) (record { state = s; deeds = [] }) (still c n s [])) (still c n s [])

  pub drain_calm : (i holder : ℕ) (s : Core) → Calm c n s [] (going (events.drain Pin Segment c n open_of i holder s))
  drain_calm i holder s = go (s.accesses i).connection
    where
      go : (o : Option Connection) → Calm c n s [] (going (events.drain_open Pin Segment c n open_of i holder s o))
      go None = still c n s []
      go (Some x) =
          calm_pick s (x.holder == holder) _ _
          (one_on c n s [] (record { state = s; deeds = [] }) (Hands i (joined x.out)) (with_access Pin Segment c n open_of i events.drained s) refl refl (λ d. refl) (still c n s []))
          (still c n s [])

  pub take_kind : (i : ℕ) (s : Core) → Kind s (going (events.take Pin Segment c n open_of i s))
  take_kind i s = go (s.accesses i).connection
    where
      step : (x : Option Bytes) (rest : List (Option Bytes)) (o : Option Connection) →
          Kind s (outside_step Pin Segment c n open_of i (input_of c x) (record { state = with_access Pin Segment c n open_of i (with_inbox rest) s; deeds = [] }) o)
      step x rest None = inl (rest_on c n s [] (record { state = s; deeds = [] }) (with_access Pin Segment c n open_of i (with_inbox rest) s) refl refl (still c n s []))
      step x rest (Some k) =
          let y = input_of c x in
          let r = turn_of k.session y in
          let t = with_access Pin Segment c n open_of i (with_session r.next) (with_access Pin Segment c n open_of i (with_inbox rest) s) in
          let h : Going Pin Segment = record { state = t; deeds = [] } in
          elim (shape k.session y) [
            | inl none ↦ inl (quiet_outside c n s [] i (is_tick y) r.actions h none (rest_on c n s [] (record { state = s; deeds = [] }) t refl refl (still c n s [])))
            | inr pass ↦ inr (subst (λ (as' : List Action). Gives s (outside_acts Pin Segment c n open_of i (is_tick y) as' h)) (sym pass.2)
                (give_gives s (element_of n i) (Outside i) (heeded c (Outside i) (s.elements (element_of n i)).pending.rows pass.0) s.queues t.accesses s.sessions [] (inl refl)))
          ]

      item : (inbox : List (Option Bytes)) → Kind s (going (events.take_item Pin Segment c n open_of i s inbox))
      item [] = inl (still c n s [])
      item (x ∷ rest) = step x rest ((with_access Pin Segment c n open_of i (with_inbox rest) s).accesses i).connection

      go : (o : Option Connection) → Kind s (going (events.take_open Pin Segment c n open_of i s o))
      go None = inl (still c n s [])
      go (Some x) = item x.inbox

  pub carry_kind : (a b : As) (s : Core) → Kind s (going (events.carry Pin Segment c n open_of a b s))
  carry_kind a b s = kind_pick (is_linked n a b) (go (s.queues a b))
    where
      kind_pick : (t : Bool) → Kind s (going (events.carry_first Pin Segment c n open_of a b s (s.queues a b))) →
          Kind s (going (cond t (events.carry_first Pin Segment c n open_of a b s (s.queues a b)) (events.refused Pin Segment c n open_of NoSuchPeer s)))
      kind_pick true k = k
      kind_pick false k = inl (still c n s [])

      go : (q : List Bytes) → Kind s (going (events.carry_first Pin Segment c n open_of a b s q))
      go [] = inl (still c n s [])
      go (x ∷ rest) =
          let y = input_of c (Some x) in
          let u : Core = record s { queues = set_pair a b rest s.queues } in
          let g : Going Pin Segment = record { state = u; deeds = Pops a b ∷ [] } in
          let r = turn_of (u.sessions b a) y in
          let t = with_inner Pin Segment c n open_of b a r.next u in
          elim (shape (u.sessions b a) y) [
            | inl none ↦ inl (quiet_input_on c n s [] (adjacency a b) b a y g none (one_on c n s [] (record { state = s; deeds = [] }) (Pops a b) u refl refl (λ d. refl) (still c n s [])))
            | inr pass ↦ inr (subst (λ (as' : List Action). Gives s
                (cond (any_fall as') (break_adjacency Pin Segment c n open_of (adjacency a b) g) (inner_acts Pin Segment c n open_of b a (is_tick y) as' (record { state = t; deeds = Pops a b ∷ [] })))) (sym pass.2)
                (give_gives s b (Inner a) pass.0 t.queues s.accesses t.sessions (Pops a b ∷ []) (inr (a, b, refl))))
          ]
