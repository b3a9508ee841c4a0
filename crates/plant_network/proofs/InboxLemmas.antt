-- The inbox of an outside peer: each take that is accepted leaves less in it, and one is refused where it is empty.
use Rattle.std.proofs.Common.{◌≡◌, ℕ, ◌<◌, ◌≤◌, Bool, true, false, cond, ◌==◌, List, [], ◌∷◌, length, Option, Some, None, sym, subst, refl, arith}
use Rattle.std.proofs.lemmas.Bool.{eqb-true, eq-eqb}
use Rattle.network_events.specs.plant_model.Types.{As, Peer, Outside, Inner, Hop, Message, Input, Action, Own, NetworkParts}
use Rattle.pcep_session.specs.declared.actions.Action.TheVariants as action
use Rattle.pcep_session.specs.Table.{turn_of}
use Rattle.plant_text.specs.Names.{same_as, parent_as}
use Rattle.plant_text.specs.Settings.{class_of}
use Rattle.network_events.specs.plant_model.declared.output.Output.{Output}
use Rattle.network_events.specs.plant_model.Settings.{place, family}
use Rattle.network_events.specs.plant_model.Wire.{Bytes, Codec}
use Rattle.network_events.specs.plant_model.Element.{upped, downed}
use Rattle.network_events.specs.plant_model.Taking.{take}
use Rattle.network_events.specs.plant_model.Parent as parent
use Rattle.network_events.specs.plant_model.State.{State, Connection, Access, Takes, Ups, Downs}
use Rattle.network_events.specs.plant_model.Deeds.{Going, element_of, is_due, is_tick, is_out_empty, on_connection, with_more, with_session, with_inbox, input_of, with_parent, with_element, put, put_to, puts, give, rise, fall, say, outside_act, outside_acts, outside_step, outside_input, with_access}
use Rattle.network_events.specs.plant_model.Outside.{heeded}
use Rattle.network_events.specs.plant_model.Events as events
use Rattle.network_events.specs.plant_model.Blind.{is_accepted}
use Rattle.network_events.specs.plant_model.Events.{Happened}
use Rattle.plant_network.specs.Due.{inbox_from, inbox_of}
use Rattle.plant_network.specs.DueLaws.{FoundNothing}

module _ (P : Type 0) (S : Type 0) (c : Codec) (n : NetworkParts) (show : S → List Hop) (i k : ℕ) where
  -- no more than so many items wait
  abbrev HasFew : Option Connection → Type 0
  HasFew o = length (inbox_from o) ≤ k

  abbrev Few : State P S → Type 0
  Few s = HasFew (s.accesses i).connection

  abbrev Keeps : (Connection → Connection) → Type 0
  Keeps f = (x : Connection) → length x.inbox ≤ k → length (f x).inbox ≤ k

  on_few : (f : Connection → Connection) → Keeps f → (a : Access) → HasFew a.connection → HasFew (on_connection f a).connection
  on_few f keeps a h = go a.connection h
    where
      go : (o : Option Connection) → HasFew o → HasFew (on_connection f (record { opened = a.opened; connection = o })).connection
      go None h = h
      go (Some x) h = keeps x h

  access_few : (j : ℕ) (f : Connection → Connection) (s : State P S) → Keeps f → Few s → Few (with_access P S c n show j f s)
  access_few j f s keeps h = go (j == i) refl
    where
      go : (b : Bool) → (j == i) ≡ b → HasFew (cond b (on_connection f (s.accesses j)) (s.accesses i)).connection
      go false e = h
      go true e = on_few f keeps (s.accesses j) (subst (λ (m : ℕ). HasFew (s.accesses m).connection) (sym (eqb-true j i e)) h)

  put_few : (at : As) (bytes : Bytes) (s : State P S) (to : Peer) → Few s → Few (put_to P S c n show at bytes s to)
  put_few at bytes s (Outside j) h = access_few j (with_more bytes) s (λ x few. few) h
  put_few at bytes s (Inner b) h = h

  puts_few : (at : As) (os : List Output) (s : State P S) → Few s → Few (puts P S c n show at os s)
  puts_few at [] s h = h
  puts_few at (o ∷ os) s h = puts_few at os (put P S c n show at o s) (put_few at (c.text o.message) s o.to h)

  pick : (b : Bool) (g h : Going P S) → Few g.state → Few h.state → Few (cond b g h).state
  pick true g h x y = x
  pick false g h x y = y

  give_few : (at : As) (p : Peer) (m : Message) (g : Going P S) → Few g.state → Few (give P S c n show at p m g).state
  give_few at p m g few =
      let r = parent.take c (family n) p m g.state.parent in
      let t = take c show (place n at) (g.state.current at) p (class_of n p) g.state.clock m (g.state.elements at) in
      pick (same_as at parent_as)
      (record { state = puts P S c n show at r.outputs (with_parent P S c n show r.parent g.state); deeds = Takes at p m r.outputs ∷ g.deeds })
      (record { state = puts P S c n show at t.outputs (with_element P S c n show at t.element g.state); deeds = Takes at p m t.outputs ∷ g.deeds })
      (puts_few at r.outputs (with_parent P S c n show r.parent g.state) few)
      (puts_few at t.outputs (with_element P S c n show at t.element g.state) few)

  rise_few : (at : As) (p : Peer) (g : Going P S) → Few g.state → Few (rise P S c n show at p g).state
  rise_few at p g few =
      pick (same_as at parent_as)
      (record { state = with_parent P S c n show (parent.upped p g.state.parent) g.state; deeds = Ups at p ∷ g.deeds })
      (record { state = with_element P S c n show at (upped p (g.state.elements at)) g.state; deeds = Ups at p ∷ g.deeds })
      few few

  fall_few : (at : As) (p : Peer) (g : Going P S) → Few g.state → Few (fall P S c n show at p g).state
  fall_few at p g few =
      let r = parent.downed p g.state.parent in
      let t = downed p (g.state.elements at) in
      pick (same_as at parent_as)
      (record { state = puts P S c n show at r.outputs (with_parent P S c n show r.parent g.state); deeds = Downs at p r.outputs ∷ g.deeds })
      (record { state = puts P S c n show at t.outputs (with_element P S c n show at t.element g.state); deeds = Downs at p t.outputs ∷ g.deeds })
      (puts_few at r.outputs (with_parent P S c n show r.parent g.state) few)
      (puts_few at t.outputs (with_element P S c n show at t.element g.state) few)

  say_few : (at : As) (p : Peer) (o : Own) (g : Going P S) → Few g.state → Few (say P S c n show at p o g).state
  say_few at p o g few = puts_few at (_ ∷ []) g.state few

  acts_few : (j : ℕ) (ticks : Bool) (as' : List Action) (g : Going P S) → Few g.state → Few (outside_acts P S c n show j ticks as' g).state
  acts_few j ticks [] g few = few
  acts_few j ticks (action.Send o ∷ as') g few =
      acts_few j ticks as' (outside_act P S c n show j ticks (action.Send o) g)
      (pick (cond ticks (cond (is_due o) (cond (is_out_empty (g.state.accesses j).connection) false true) false) false) g (say P S c n show (element_of n j) (Outside j) o g) few (say_few (element_of n j) (Outside j) o g few))
  acts_few j ticks (action.Up ∷ as') g few = acts_few j ticks as' (rise P S c n show (element_of n j) (Outside j) g) (rise_few (element_of n j) (Outside j) g few)
  acts_few j ticks (action.Down why ∷ as') g few =
      let h : Going P S = record { state = with_access P S c n show j (with_inbox []) g.state; deeds = g.deeds } in
      acts_few j ticks as' (fall P S c n show (element_of n j) (Outside j) h) (fall_few (element_of n j) (Outside j) h (access_few j (with_inbox []) g.state (λ x z. omega arith) few))
  acts_few j ticks (action.Pass m ∷ as') g few =
      let heard = heeded c (Outside j) (g.state.elements (element_of n j)).pending.rows m in
      acts_few j ticks as' (give P S c n show (element_of n j) (Outside j) heard g) (give_few (element_of n j) (Outside j) heard g few)

  step_few : (j : ℕ) (x : Input) (g : Going P S) (o : Option Connection) → Few g.state → Few (outside_step P S c n show j x g o).state
  step_few j x g None few = few
  step_few j x g (Some y) few =
      let t = turn_of y.session x in
      acts_few j (is_tick x) t.actions (record { state = with_access P S c n show j (with_session t.next) g.state; deeds = g.deeds })
      (access_few j (with_session t.next) g.state (λ x z. z) few)

  input_few : (j : ℕ) (x : Input) (g : Going P S) → Few g.state → Few (outside_input P S c n show j x g).state
  input_few j x g few = step_few j x g (g.state.accesses j).connection few

module _ (P : Type 0) (S : Type 0) (c : Codec) (n : NetworkParts) (show : S → List Hop) (i : ℕ) (s : State P S) where
  abbrev LeavesLess : ℕ → Happened P S → Type 0
  LeavesLess k h = is_accepted h.answer ≡ true → length (inbox_of i h.state) < k

  -- a take that is refused finds nothing, and changes and says nothing
  abbrev IsEmptyAt : List (Option Bytes) → Happened P S → Type 0
  IsEmptyAt inbox h = is_accepted h.answer ≡ false → (inbox ≡ []) × (h.state ≡ s) × (h.deeds ≡ [])

  -- the rest of the inbox, put in its place
  rest_there : (rest : List (Option Bytes)) (x : Connection) → (s.accesses i).connection ≡ Some x →
      length (inbox_of i (with_access P S c n show i (with_inbox rest) s)) ≤ length rest
  rest_there rest x e = go (i == i) (eq-eqb i i refl)
    where
      on : (a : Access) → a.connection ≡ Some x → length (inbox_from (on_connection (with_inbox rest) a).connection) ≤ length rest
      on a e = subst (λ (o : Option Connection). length (inbox_from (on_connection (with_inbox rest) (record { opened = a.opened; connection = o })).connection) ≤ length rest) (sym e) (omega arith)

      go : (b : Bool) → b ≡ true → length (inbox_from (cond b (on_connection (with_inbox rest) (s.accesses i)) (s.accesses i)).connection) ≤ length rest
      go true h = on (s.accesses i) e
      go false h = absurd (let no : false ≡ true = h in cc)

  item_less : (x : Connection) → (s.accesses i).connection ≡ Some x → (inbox : List (Option Bytes)) → LeavesLess (length inbox) (events.take_item P S c n show i s inbox)
  item_less x e [] = λ no. absurd (let h : false ≡ true = no in cc)
  item_less x e (y ∷ rest) =
      λ yes.
      let few : length (inbox_of i (events.take_item P S c n show i s (y ∷ rest)).state) ≤ length rest =
      input_few P S c n show i (length rest) i (input_of c y) (record { state = with_access P S c n show i (with_inbox rest) s; deeds = [] }) (rest_there rest x e) in
      omega arith

  item_empty : (inbox : List (Option Bytes)) → IsEmptyAt inbox (events.take_item P S c n show i s inbox)
  item_empty [] = λ no. (refl, refl, refl)
  item_empty (y ∷ rest) = λ no. absurd (let h : true ≡ false = no in cc)

  open_less : (o : Option Connection) → (s.accesses i).connection ≡ o → LeavesLess (length (inbox_from o)) (events.take_open P S c n show i s o)
  open_less None e = λ no. absurd (let h : false ≡ true = no in cc)
  open_less (Some x) e = item_less x e x.inbox

  open_empty : (o : Option Connection) → IsEmptyAt (inbox_from o) (events.take_open P S c n show i s o)
  open_empty None = λ no. (refl, refl, refl)
  open_empty (Some x) = item_empty x.inbox

  pub take_less : (h : Happened P S) → h ≡ events.take P S c n show i s → is_accepted h.answer ≡ true → length (inbox_of i h.state) < length (inbox_of i s)
  take_less h is = subst (LeavesLess (length (inbox_of i s))) (sym is) (open_less (s.accesses i).connection refl)

  pub take_empty : (h : Happened P S) → h ≡ events.take P S c n show i s → is_accepted h.answer ≡ false → FoundNothing i s h
  take_empty h is not_taken = let found = subst (IsEmptyAt (inbox_of i s)) (sym is) (open_empty (s.accesses i).connection) not_taken in record { empty = found.0; state = found.1; deeds = found.2 }
