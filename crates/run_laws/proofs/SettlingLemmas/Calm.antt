-- Each deed keeps links calm, as long as what it sends is read again.
use Rattle.std.proofs.Common.{◌≡◌, ◌⊎◌, ◌∙◌, ◌+◌, ℕ, Bool, true, false, cond, List, [], ◌∷◌, ◌++◌, Option, Some, None, inl, inr, refl, sym, subst}
use Rattle.plant_laws.specs.plant_model.Types.{As, Tick, Peer, Outside, Inner, Message, Input, Action, Own, Phase, State as Session, NetworkParts, PeerRow}
use Rattle.disclosure.specs.Shown.{open_of}
use Rattle.pcep_session.specs.declared.session.Input.TheVariants as input
use Rattle.pcep_session.specs.declared.actions.Action.TheVariants as action
use Rattle.pcep_session.specs.declared.state.Phase.TheVariants as phase
use Rattle.pcep_session.specs.Table.{turn_of}
use Rattle.request_table.specs.Pending.{same_peer}
use Rattle.plant_text.specs.Names.{same_as, parent_as}
use Rattle.plant_text.specs.Settings.{class_of, is_linked}
use Rattle.plant_laws.specs.plant_model.declared.output.Output.{Output}
use Rattle.plant_laws.specs.plant_model.Settings.{place, family}
use Rattle.plant_laws.specs.plant_model.Wire.{Bytes, Codec}
use Rattle.plant_laws.specs.plant_model.Element as element
use Rattle.plant_laws.specs.plant_model.Element.{Element}
use Rattle.plant_laws.specs.plant_model.Outside.{heeded}
use Rattle.plant_laws.specs.plant_model.Taking as taking
use Rattle.plant_laws.specs.plant_model.Parent as parent
use Rattle.plant_laws.specs.plant_model.State.{State, Connection, Takes, Ups, Downs}
use Rattle.plant_laws.specs.plant_model.Deeds.{Going, element_of, is_due, is_tick, is_out_empty, with_session, with_inbox, put, put_to, puts, with_element, with_parent, with_access, give, rise, fall, say, outside_act, outside_acts, outside_step, outside_input, tick_outside}
use Rattle.plant_laws.specs.plant_model.Plant.{Pin, Segment, PlantDeed}
use Rattle.plant_laws.specs.Sending.{AllSent, AreAll}
use Rattle.plant_laws.proofs.Runs.Queues.{same_as_is}
use Rattle.run_laws.specs.Settling.{is_ordinary, IsOrdinary, Holds, Reaches, KeepsTo, TablesReach, IsUp, LinksAreCalm}
use Rattle.run_laws.proofs.SettlingLemmas.Pairs.{same_back, set_all}
use Rattle.run_laws.proofs.SettlingLemmas.Reaching.{AreSound, keeps_on}
use Rattle.run_laws.proofs.SettlingLemmas.ElementsReach as elements
use Rattle.run_laws.proofs.SettlingLemmas.ParentsReach as parents
use Rattle.run_laws.proofs.SettlingLemmas.Turns.{up_sends}

abbrev pub Core : Type 0
Core = State Pin Segment

abbrev pub Move : Type 0
Move = Going Pin Segment

-- ---- tables

pub tables_on : (Up Other : As → As → Type 0) (s : Core) → ((a b : As) → Up a b → Other a b) → TablesReach Up s → TablesReach Other s
tables_on Up Other s on tables = record {
  elements = λ d real. keeps_on (Up d) (Other d) (on d) (s.elements d).pending.rows (s.elements d).ways (tables.elements d real);
  parent = keeps_on (Up parent_as) (Other parent_as) (on parent_as) s.parent.pending.rows s.parent.ways tables.parent;
}

module _ (c : Codec) (n : NetworkParts) where
  -- what is written is read again
  abbrev pub ReadsAgain : Message → Type 0
  ReadsAgain m = c.read (c.text m) ≡ Some m

  abbrev pub Again : List PlantDeed → Type 0
  Again ds = AllSent ReadsAgain ds

  abbrev pub Calm : Core → Type 0
  Calm s = LinksAreCalm c n s

  abbrev pub QueuesCalm : Core → Type 0
  QueuesCalm s = (a b : As) → is_linked n a b ≡ true → Holds c (s.sessions a b).phase (s.sessions b a).phase (s.queues a b)

  -- sessions, queues and tables are the same
  pub same_calm : (s t : Core) → t.sessions ≡ s.sessions → t.queues ≡ s.queues → t.elements ≡ s.elements → t.parent ≡ s.parent → Calm s → Calm t
  same_calm s t sessions queues elements' parent' calm = record {
    queues = subst (λ (q : As → As → List Bytes). (a b : As) → is_linked n a b ≡ true → Holds c (t.sessions a b).phase (t.sessions b a).phase (q a b)) (sym queues)
        (subst (λ (f : As → As → Session). (a b : As) → is_linked n a b ≡ true → Holds c (f a b).phase (f b a).phase (s.queues a b)) (sym sessions) calm.queues);
    tables = tables_on (IsUp s) (IsUp t) t (λ a b up. subst (λ (f : As → As → Session). (f a b).phase ≡ phase.Up) (sym sessions) up) (record {
      elements = subst (λ (f : As → Element Pin Segment). (d : As) → same_as d parent_as ≡ false → KeepsTo (IsUp s d) (f d).pending.rows (f d).ways) (sym elements') calm.tables.elements;
      parent = subst (λ (k : parent.Parent). KeepsTo (IsUp s parent_as) k.pending.rows k.ways) (sym parent') calm.tables.parent;
    });
  }

  -- ---- what is put into queues

  put_up : (at : As) (bytes : Bytes) (s : Core) (to : Peer) (a b : As) → IsUp s a b → IsUp (put_to Pin Segment c n open_of at bytes s to) a b
  put_up at bytes s (Outside i) a b up = up
  put_up at bytes s (Inner d) a b up = up

  pub puts_up : (at : As) (os : List Output) (s : Core) (a b : As) → IsUp s a b → IsUp (puts Pin Segment c n open_of at os s) a b
  puts_up at [] s a b up = up
  puts_up at (o ∷ os) s a b up = puts_up at os (put Pin Segment c n open_of at o s) a b (put_up at (c.text o.message) s o.to a b up)

  put_sessions : (at : As) (bytes : Bytes) (s : Core) (to : Peer) → (put_to Pin Segment c n open_of at bytes s to).sessions ≡ s.sessions
  put_sessions at bytes s (Outside i) = refl
  put_sessions at bytes s (Inner b) = refl

  pub puts_sessions : (at : As) (os : List Output) (s : Core) → (puts Pin Segment c n open_of at os s).sessions ≡ s.sessions
  puts_sessions at [] s = refl
  puts_sessions at (o ∷ os) s = puts_sessions at os (put Pin Segment c n open_of at o s) ∙ put_sessions at (c.text o.message) s o.to

  -- one more message of an open session
  pub more_queues : (at b : As) (y : Bytes) (s : Core) → IsUp s at b → IsOrdinary c y → QueuesCalm s → QueuesCalm (put_to Pin Segment c n open_of at y s (Inner b))
  more_queues at b y s up one calm = λ a' b' linked. set_all
      (λ (z w : As) (q : List Bytes). is_linked n z w ≡ true → Holds c (s.sessions z w).phase (s.sessions w z).phase q) at b (s.queues at b ++ y ∷ []) s.queues
      (λ linked'. subst (λ (p : Phase). Holds c p (s.sessions b at).phase (s.queues at b ++ y ∷ [])) (sym up)
      (up_sends c (s.sessions b at).phase (s.queues at b) y (subst (λ (p : Phase). Holds c p (s.sessions b at).phase (s.queues at b)) up (calm at b linked')) one))
      (λ z w miss linked'. calm z w linked') a' b' linked

  put_queues : (Up : As → Type 0) (at : As) (m : Message) (s : Core) (to : Peer) → ((b : As) → Up b → IsUp s at b) → Reaches Up to → is_ordinary m ≡ true → ReadsAgain m → QueuesCalm s →
      QueuesCalm (put_to Pin Segment c n open_of at (c.text m) s to)
  put_queues Up at m s (Outside i) ups reached ordinary again calm = calm
  put_queues Up at m s (Inner b) ups reached ordinary again calm = more_queues at b (c.text m) s (ups b reached) (m, again, ordinary) calm

  pub puts_queues : (Up : As → Type 0) (at : As) (os : List Output) (s : Core) → ((b : As) → Up b → IsUp s at b) → AreSound Up os → AreAll ReadsAgain os → QueuesCalm s →
      QueuesCalm (puts Pin Segment c n open_of at os s)
  puts_queues Up at [] s ups sound again calm = calm
  puts_queues Up at (o ∷ os) s ups sound again calm =
      puts_queues Up at os (put Pin Segment c n open_of at o s) (λ b up. put_up at (c.text o.message) s o.to at b (ups b up)) sound.1 again.1
      (put_queues Up at o.message s o.to ups sound.0.0 sound.0.1 again.0 calm)

  put_tables : (Up : As → As → Type 0) (at : As) (bytes : Bytes) (s : Core) (to : Peer) → TablesReach Up s → TablesReach Up (put_to Pin Segment c n open_of at bytes s to)
  put_tables Up at bytes s (Outside i) tables = record { elements = tables.elements; parent = tables.parent }
  put_tables Up at bytes s (Inner b) tables = record { elements = tables.elements; parent = tables.parent }

  pub puts_tables : (Up : As → As → Type 0) (at : As) (os : List Output) (s : Core) → TablesReach Up s → TablesReach Up (puts Pin Segment c n open_of at os s)
  puts_tables Up at [] s tables = tables
  puts_tables Up at (o ∷ os) s tables = puts_tables Up at os (put Pin Segment c n open_of at o s) (put_tables Up at (c.text o.message) s o.to tables)

  -- ---- an element or the parent becomes another

  pub element_tables : (Up : As → As → Type 0) (at : As) (k : Element Pin Segment) (s : Core) → KeepsTo (Up at) k.pending.rows k.ways → TablesReach Up s → TablesReach Up (with_element Pin Segment c n open_of at k s)
  element_tables Up at k s keeps tables = record { elements = λ d real. go d real (same_as at d) refl; parent = tables.parent }
    where
      go : (d : As) → same_as d parent_as ≡ false → (b : Bool) → same_as at d ≡ b → KeepsTo (Up d) (cond b k (s.elements d)).pending.rows (cond b k (s.elements d)).ways
      go d real true is = subst (λ (a : As). KeepsTo (Up a) k.pending.rows k.ways) (same_as_is at d is) keeps
      go d real false is = tables.elements d real

  pub parent_tables : (Up : As → As → Type 0) (k : parent.Parent) (s : Core) → KeepsTo (Up parent_as) k.pending.rows k.ways → TablesReach Up s → TablesReach Up (with_parent Pin Segment c n open_of k s)
  parent_tables Up k s keeps tables = record { elements = tables.elements; parent = keeps }

  -- what one of them sends, after a change of it
  pub sends_calm : (at : As) (os : List Output) (s t : Core) → t.sessions ≡ s.sessions → t.queues ≡ s.queues → AreSound (IsUp s at) os → AreAll ReadsAgain os → QueuesCalm s → TablesReach (IsUp s) t →
      Calm (puts Pin Segment c n open_of at os t)
  sends_calm at os s t sessions queues sound again calm tables =
      let on : (a b : As) → IsUp s a b → IsUp t a b = λ a b up. subst (λ (f : As → As → Session). (f a b).phase ≡ phase.Up) (sym sessions) up in
      let calm' : QueuesCalm t =
      subst (λ (q : As → As → List Bytes). (a b : As) → is_linked n a b ≡ true → Holds c (t.sessions a b).phase (t.sessions b a).phase (q a b)) (sym queues)
      (subst (λ (f : As → As → Session). (a b : As) → is_linked n a b ≡ true → Holds c (f a b).phase (f b a).phase (s.queues a b)) (sym sessions) calm) in
      record {
        queues = puts_queues (IsUp s at) at os t (on at) sound again calm';
        tables = tables_on (IsUp s) (IsUp (puts Pin Segment c n open_of at os t)) (puts Pin Segment c n open_of at os t) (λ a b up. puts_up at os t a b (on a b up)) (puts_tables (IsUp s) at os t tables);
      }

  -- ---- deeds

  abbrev pub Kept : Move → Type 0
  Kept g = Again g.deeds → Calm g.state

  pick : (b : Bool) (g h : Move) → Kept g → Kept h → Kept (cond b g h)
  pick true g h r r' = r
  pick false g h r r' = r'

  pub give_kept : (at : As) (p : Peer) (m : Message) (g : Move) → (Calm g.state → Reaches (IsUp g.state at) p) → Kept g → Kept (give Pin Segment c n open_of at p m g)
  give_kept at p m g reached kept = go (same_as at parent_as) refl
    where
      r : parent.ParentTaken
      r = parent.take c (family n) p m g.state.parent

      e : element.Taken Pin Segment
      e = taking.take c open_of (place n at) (g.state.current at) p (class_of n p) g.state.clock m (g.state.elements at)

      go : (b : Bool) → same_as at parent_as ≡ b → Kept (cond b
          (record { state = puts Pin Segment c n open_of at r.outputs (with_parent Pin Segment c n open_of r.parent g.state); deeds = Takes at p m r.outputs ∷ g.deeds })
          (record { state = puts Pin Segment c n open_of at e.outputs (with_element Pin Segment c n open_of at e.element g.state); deeds = Takes at p m e.outputs ∷ g.deeds }))
      go true is again =
          let calm = kept again.1 in
          let same : at ≡ parent_as = same_as_is at parent_as is in
          let told = parents.take_tells (IsUp g.state parent_as) p (subst (λ (z : As). Reaches (IsUp g.state z) p) same (reached calm)) c (family n) m g.state.parent calm.tables.parent in
          sends_calm at r.outputs g.state (with_parent Pin Segment c n open_of r.parent g.state) refl refl
          (subst (λ (z : As). AreSound (IsUp g.state z) r.outputs) (sym same) told.sends) again.0 calm.queues
          (parent_tables (IsUp g.state) r.parent g.state told.keeps calm.tables)
      go false real again =
          let calm = kept again.1 in
          let told = elements.take_tells Pin Segment (IsUp g.state at) p (reached calm) c open_of (place n at) (g.state.current at) (class_of n p) g.state.clock m (g.state.elements at) (calm.tables.elements at real) in
          sends_calm at e.outputs g.state (with_element Pin Segment c n open_of at e.element g.state) refl refl told.sends again.0 calm.queues
          (element_tables (IsUp g.state) at e.element g.state told.keeps calm.tables)

  pub rise_kept : (at : As) (p : Peer) (g : Move) → (Calm g.state → Reaches (IsUp g.state at) p) → Kept g → Kept (rise Pin Segment c n open_of at p g)
  rise_kept at p g reached kept = go (same_as at parent_as) refl
    where
      go : (b : Bool) → same_as at parent_as ≡ b → Kept (cond b
          (record { state = with_parent Pin Segment c n open_of (parent.upped p g.state.parent) g.state; deeds = Ups at p ∷ g.deeds })
          (record { state = with_element Pin Segment c n open_of at (element.upped p (g.state.elements at)) g.state; deeds = Ups at p ∷ g.deeds }))
      go true is again =
          let calm = kept again.1 in
          let k = parents.upped_tells (IsUp g.state parent_as) p g.state.parent (subst (λ (z : As). Reaches (IsUp g.state z) p) (same_as_is at parent_as is) (reached calm)) calm.tables.parent in
          let t = parent_tables (IsUp g.state) (parent.upped p g.state.parent) g.state k calm.tables in
          record { queues = calm.queues; tables = record { elements = t.elements; parent = t.parent } }
      go false real again =
          let calm = kept again.1 in
          let k = elements.upped_tells Pin Segment (IsUp g.state at) p (g.state.elements at) (reached calm) (calm.tables.elements at real) in
          let t = element_tables (IsUp g.state) at (element.upped p (g.state.elements at)) g.state k calm.tables in
          record { queues = calm.queues; tables = record { elements = t.elements; parent = t.parent } }

  -- ---- a session goes down

  module _ (at : As) (p : Peer) (g : Move) where
    abbrev Above : Move
    Above = record { state = puts Pin Segment c n open_of at (parent.downed p g.state.parent).outputs (with_parent Pin Segment c n open_of (parent.downed p g.state.parent).parent g.state); deeds = Downs at p (parent.downed p g.state.parent).outputs ∷ g.deeds }

    abbrev Below : Move
    Below = record { state = puts Pin Segment c n open_of at (element.downed p (g.state.elements at)).outputs (with_element Pin Segment c n open_of at (element.downed p (g.state.elements at)).element g.state); deeds = Downs at p (element.downed p (g.state.elements at)).outputs ∷ g.deeds }

    pub fall_again : Again (fall Pin Segment c n open_of at p g).deeds → Again g.deeds
    fall_again = go (same_as at parent_as)
      where
        go : (b : Bool) → Again (cond b Above Below).deeds → Again g.deeds
        go true again = again.1
        go false again = again.1

    pub fall_sessions : (fall Pin Segment c n open_of at p g).state.sessions ≡ g.state.sessions
    fall_sessions = go (same_as at parent_as)
      where
        go : (b : Bool) → (cond b Above Below).state.sessions ≡ g.state.sessions
        go true = puts_sessions at (parent.downed p g.state.parent).outputs (with_parent Pin Segment c n open_of (parent.downed p g.state.parent).parent g.state)
        go false = puts_sessions at (element.downed p (g.state.elements at)).outputs (with_element Pin Segment c n open_of at (element.downed p (g.state.elements at)).element g.state)

    -- what is left keeps to others than the peer
    pub fall_tables : (Up Other : As → As → Type 0) → ((d b : As) → (same_as at d ≡ false) ⊎ (same_peer p (Inner b) ≡ false) → Up d b → Other d b) → TablesReach Up g.state → TablesReach Other (fall Pin Segment c n open_of at p g).state
    fall_tables Up Other on tables = go (same_as at parent_as) refl
      where
        go : (b : Bool) → same_as at parent_as ≡ b → TablesReach Other (cond b Above Below).state
        go true is =
            let k = parent.downed p g.state.parent in
            let same : at ≡ parent_as = same_as_is at parent_as is in
            puts_tables Other at k.outputs (with_parent Pin Segment c n open_of k.parent g.state) (record {
              elements = λ d real. keeps_on (Up d) (Other d)
                  (λ b up. on d b (inl (subst (λ (z : As). same_as z d ≡ false) (sym same) (same_back d parent_as real))) up)
                  (g.state.elements d).pending.rows (g.state.elements d).ways (tables.elements d real);
              parent = parents.downed_tells (Up parent_as) (Other parent_as) p g.state.parent (λ b miss up. on parent_as b (inr miss) up) tables.parent;
            })
        go false real =
            let k = element.downed p (g.state.elements at) in
            puts_tables Other at k.outputs (with_element Pin Segment c n open_of at k.element g.state) (record {
              elements = λ d real'. by d real' (same_as at d) refl;
              parent = keeps_on (Up parent_as) (Other parent_as) (λ b up. on parent_as b (inl real) up) g.state.parent.pending.rows g.state.parent.ways tables.parent;
            })
          where
            by : (d : As) → same_as d parent_as ≡ false → (b : Bool) → same_as at d ≡ b →
                KeepsTo (Other d) (cond b (element.downed p (g.state.elements at)).element (g.state.elements d)).pending.rows (cond b (element.downed p (g.state.elements at)).element (g.state.elements d)).ways
            by d real' true is =
                let same : at ≡ d = same_as_is at d is in
                subst (λ (z : As). KeepsTo (Other z) (element.downed p (g.state.elements at)).element.pending.rows (element.downed p (g.state.elements at)).element.ways) same
                (elements.downed_tells Pin Segment (Up at) (Other at) p (g.state.elements at) (λ b miss up. on at b (inr miss) up) (tables.elements at real))
            by d real' false is = keeps_on (Up d) (Other d) (λ b up. on d b (inl is) up) (g.state.elements d).pending.rows (g.state.elements d).ways (tables.elements d real')

    pub fall_queues : Again (fall Pin Segment c n open_of at p g).deeds → Calm g.state → QueuesCalm (fall Pin Segment c n open_of at p g).state
    fall_queues = go (same_as at parent_as) refl
      where
        go : (b : Bool) → same_as at parent_as ≡ b → Again (cond b Above Below).deeds → Calm g.state → QueuesCalm (cond b Above Below).state
        go true is again calm =
            let k = parent.downed p g.state.parent in
            let same : at ≡ parent_as = same_as_is at parent_as is in
            puts_queues (IsUp g.state at) at k.outputs (with_parent Pin Segment c n open_of k.parent g.state) (λ b up. up)
            (subst (λ (z : As). AreSound (IsUp g.state z) k.outputs) (sym same) (parents.downed_sends (IsUp g.state parent_as) p g.state.parent calm.tables.parent)) again.0 calm.queues
        go false real again calm =
            let k = element.downed p (g.state.elements at) in
            puts_queues (IsUp g.state at) at k.outputs (with_element Pin Segment c n open_of at k.element g.state) (λ b up. up)
            (elements.downed_sends Pin Segment (IsUp g.state at) p (g.state.elements at) (calm.tables.elements at real)) again.0 calm.queues

    pub fall_kept : Kept g → Kept (fall Pin Segment c n open_of at p g)
    fall_kept kept again =
        let calm = kept (fall_again again) in
        let t = (fall Pin Segment c n open_of at p g).state in
        record {
          queues = fall_queues again calm;
          tables = fall_tables (IsUp g.state) (IsUp t) (λ d b apart up. subst (λ (f : As → As → Session). (f d b).phase ≡ phase.Up) (sym fall_sessions) up) calm.tables;
        }

  -- ---- outside sessions

  say_outside : (at : As) (i : ℕ) (o : Own) (g : Move) → Kept g → Kept (say Pin Segment c n open_of at (Outside i) o g)
  say_outside at i o g kept again = same_calm g.state (say Pin Segment c n open_of at (Outside i) o g).state refl refl refl refl (kept again.1)

  outside_act_kept : (i : ℕ) (ticks : Bool) (a : Action) (g : Move) → Kept g → Kept (outside_act Pin Segment c n open_of i ticks a g)
  outside_act_kept i ticks (action.Send o) g h =
      pick (cond ticks (cond (is_due o) (cond (is_out_empty (g.state.accesses i).connection) false true) false) false) g (say Pin Segment c n open_of (element_of n i) (Outside i) o g) h (say_outside (element_of n i) i o g h)
  outside_act_kept i ticks action.Up g h = rise_kept (element_of n i) (Outside i) g (λ calm. tt) h
  outside_act_kept i ticks (action.Down why) g h =
      let k : Move = record { state = with_access Pin Segment c n open_of i (with_inbox []) g.state; deeds = g.deeds } in
      fall_kept (element_of n i) (Outside i) k (λ again. same_calm g.state k.state refl refl refl refl (h again))
  outside_act_kept i ticks (action.Pass m) g h =
      give_kept (element_of n i) (Outside i) (heeded c (Outside i) (g.state.elements (element_of n i)).pending.rows m) g (λ calm. tt) h

  outside_acts_kept : (i : ℕ) (ticks : Bool) (as' : List Action) (g : Move) → Kept g → Kept (outside_acts Pin Segment c n open_of i ticks as' g)
  outside_acts_kept i ticks [] g h = h
  outside_acts_kept i ticks (a ∷ as') g h = outside_acts_kept i ticks as' (outside_act Pin Segment c n open_of i ticks a g) (outside_act_kept i ticks a g h)

  outside_step_kept : (i : ℕ) (x : Input) (g : Move) (o : Option Connection) → Kept g → Kept (outside_step Pin Segment c n open_of i x g o)
  outside_step_kept i x g None h = h
  outside_step_kept i x g (Some k) h =
      let r = turn_of k.session x in
      let t = with_access Pin Segment c n open_of i (with_session r.next) g.state in
      outside_acts_kept i (is_tick x) r.actions (record { state = t; deeds = g.deeds }) (λ again. same_calm g.state t refl refl refl refl (h again))

  pub outside_input_kept : (i : ℕ) (x : Input) (g : Move) → Kept g → Kept (outside_input Pin Segment c n open_of i x g)
  outside_input_kept i x g h = outside_step_kept i x g (g.state.accesses i).connection h

  pub tick_outside_kept : (i : ℕ) (rs : List PeerRow) (now : Tick) (g : Move) → Kept g → Kept (tick_outside Pin Segment c n open_of i rs now g)
  tick_outside_kept i [] now g h = h
  tick_outside_kept i (row ∷ rs) now g h = tick_outside_kept (i + 1) rs now (outside_input Pin Segment c n open_of i (input.Tick now) g) (outside_input_kept i (input.Tick now) g h)
