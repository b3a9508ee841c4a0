-- Each carry and each solve that is accepted makes the weight less, so no more of them follow one another than it is.
use Rattle.std.proofs.Common.{◌≡◌, ◌∙◌, ◌<◌, ◌≤◌, ◌+◌, ◌*◌, ℕ, suc, Bool, true, false, cond, List, [], ◌∷◌, Option, Some, None, length, refl, sym, ap, subst, arith}
use Rattle.std.proofs.Math.Nat.{le_refl}
use Rattle.plant_laws.specs.plant_model.Types.{As, Message, Action, State as Session, NetworkParts, Inner}
use Rattle.pcep_messages.specs.declared.message.Message.TheVariants as messages
use Rattle.pcep_session.specs.declared.actions.Action.TheVariants as action
use Rattle.pcep_session.specs.declared.actions.Own.TheVariants as own
use Rattle.pcep_session.specs.Table.{turn_of}
use Rattle.disclosure.specs.Shown.{open_of}
use Rattle.disclosure.specs.declared.class.Class.TheVariants.{Neighbour, Parent as ParentClass}
use Rattle.plant_text.specs.Names.{same_as, parent_as}
use Rattle.plant_text.specs.Settings.{Adjacency, class_of, elements_of}
use Rattle.plant_laws.specs.plant_model.Names.{set_pair}
use Rattle.plant_laws.specs.plant_model.Wire.{Bytes, Codec}
use Rattle.plant_laws.specs.plant_model.Laws.{IsCodec, IsNetwork}
use Rattle.plant_laws.specs.plant_model.Settings.{place, family}
use Rattle.plant_laws.specs.plant_model.Element as element
use Rattle.plant_laws.specs.plant_model.Element.{is_client}
use Rattle.plant_laws.specs.plant_model.Taking as taking
use Rattle.plant_laws.specs.plant_model.Parent as parent
use Rattle.plant_laws.specs.plant_model.State.{Loads, Pops, Takes, Says, Ups, Downs, Clears, Solves, Expires, Hands}
use Rattle.plant_laws.specs.plant_model.Deeds.{any_fall, is_tick, read_as, own_message, put_to, puts, with_element, with_parent, with_inner, give, rise, say, inner_acts, inner_input, break_adjacency}
use Rattle.plant_laws.specs.plant_model.Plant.{Pin, Segment, PlantDeed}
use Rattle.plant_laws.proofs.Runs.Queues.{same_as_is}
use Rattle.plant_laws.proofs.Once.Takes.{own_is}
use Rattle.plant_laws.proofs.WrittenForm.ElementSays.{WaysOk}
use Rattle.run_laws.specs.Settling.{total, ends, cost, read_weight, queues_weight, pending_count, weight}
use Rattle.run_laws.proofs.SettlingLemmas.Pairs.{same_back}
use Rattle.run_laws.proofs.SettlingLemmas.Turns.{Hears, opens, rises, keeps, passes}
use Rattle.run_laws.proofs.SettlingLemmas.Calm.{Core, Move, Again}
use Rattle.run_laws.proofs.SettlingLemmas.CalmLinks.{keepalive_again}
use Rattle.run_laws.proofs.SettlingLemmas.Sums.{stands, total_le, total_has}
use Rattle.run_laws.proofs.SettlingLemmas.Weighing.{asked_count, sent_weight}
use Rattle.run_laws.proofs.SettlingLemmas.ElementsWeigh as elements
use Rattle.run_laws.proofs.SettlingLemmas.ParentsWeigh as parents
use Rattle.run_laws.proofs.SettlingLemmas.Standing.{lower_stands}
use Rattle.run_laws.proofs.SettlingLemmas.Weights.{longer_weighs, shorter_weighs, puts_weigh, puts_count, element_count, parent_count}

-- queues and tables together, with one for each request that is sent
combine : (q' q sent asked k' k l' l w : ℕ) → q' ≤ q + sent → k' + l ≡ k + l' → sent + asked + 4 * l' ≤ 4 * l + w → asked + (q' + 4 * k') ≤ q + 4 * k + w
combine q' q sent asked k' k l' l w queues count less = omega (arith, queues, count, less)

pub combine_less : (q' q sent asked k' k l' l : ℕ) → q' ≤ q + sent → k' + l ≡ k + l' → sent + asked + 4 * l' < 4 * l → asked + (q' + 4 * k') < q + 4 * k
combine_less q' q sent asked k' k l' l queues count less = omega (arith, queues, count, less)

-- the requests in deeds
abbrev pub deed_asks : PlantDeed → ℕ
deed_asks (Takes at p m os) = asked_count os
deed_asks (Says at o) = asked_count (o ∷ [])
deed_asks (Downs at p os) = asked_count os
deed_asks (Solves at k os keys) = asked_count os
deed_asks _ = 0

abbrev pub all_asks : List PlantDeed → ℕ
all_asks ds = total deed_asks ds

neighbour_class : (n : NetworkParts) (a : As) → is_client (class_of n (Inner a)) ≡ false
neighbour_class n a = go (same_as a parent_as)
  where
    go : (b : Bool) → is_client (cond b ParentClass (Neighbour a)) ≡ false
    go true = refl
    go false = refl

module _ (c : Codec) (codec : IsCodec c) (n : NetworkParts) (net : IsNetwork n) where
  -- ---- an element or the parent takes a message from a link

  -- The requests that were sent are few whatever else was, and weigh, where what was sent is read again.
  pub record Gave (g t : Move) (w : ℕ) : Type 0 where
    pub few : all_asks t.deeds ≤ all_asks g.deeds + weight c n g.state + w
    pub less : Again c n t.deeds → all_asks t.deeds + weight c n t.state ≤ all_asks g.deeds + weight c n g.state + w

  gave : (q' q sent asked before k' k l' l w : ℕ) → l ≤ k → sent + asked + 4 * l' ≤ 4 * l + w → asked + before ≤ before + (q + 4 * k) + w
  gave q' q sent asked before k' k l' l w below less = omega (arith, below, less)

  added : (asked before new old w : ℕ) → asked + new ≤ old + w → asked + before + new ≤ before + old + w
  added asked before new old w less = omega (arith, less)

  give_weighs : (at a : As) (m : Message) (g : Move) → stands at (ends n) ≡ true → WaysOk (g.state.elements at).ways → WaysOk g.state.parent.ways → Gave g (give Pin Segment c n open_of at (Inner a) m g) (cost c n at m)
  give_weighs at a m g in_at ok ok_above = go (same_as at parent_as) refl
    where
      r : parent.ParentTaken
      r = parent.take c (family n) (Inner a) m g.state.parent

      e : element.Taken Pin Segment
      e = taking.take c open_of (place n at) (g.state.current at) (Inner a) (class_of n (Inner a)) g.state.clock m (g.state.elements at)

      above : Core
      above = with_parent Pin Segment c n open_of r.parent g.state

      below : Core
      below = with_element Pin Segment c n open_of at e.element g.state

      go : (b : Bool) → same_as at parent_as ≡ b → Gave g (cond {A = Move} b
          (record { state = puts Pin Segment c n open_of at r.outputs above; deeds = Takes at (Inner a) m r.outputs ∷ g.deeds })
          (record { state = puts Pin Segment c n open_of at e.outputs below; deeds = Takes at (Inner a) m e.outputs ∷ g.deeds })) (cost c n at m)
      go true is =
          let least : sent_weight c n r.outputs + asked_count r.outputs + 4 * length r.parent.pending.rows ≤ 4 * length g.state.parent.pending.rows + cost c n at m =
          subst (λ (z : As). sent_weight c n r.outputs + asked_count r.outputs + 4 * length r.parent.pending.rows ≤ 4 * length g.state.parent.pending.rows + cost c n z m) (sym (same_as_is at parent_as is))
          (parents.take_less c n codec net (Inner a) m g.state.parent ok_above).weighs.least in
          record {
            few = gave 0 (queues_weight c n g.state) (sent_weight c n r.outputs) (asked_count r.outputs) (all_asks g.deeds) 0 (pending_count c n g.state) (length r.parent.pending.rows) (length g.state.parent.pending.rows) (cost c n at m)
                (omega arith) least;
            less = λ again. added (asked_count r.outputs) (all_asks g.deeds) (weight c n (puts Pin Segment c n open_of at r.outputs above)) (weight c n g.state) (cost c n at m)
                (combine (queues_weight c n (puts Pin Segment c n open_of at r.outputs above)) (queues_weight c n g.state) (sent_weight c n r.outputs) (asked_count r.outputs)
                (pending_count c n (puts Pin Segment c n open_of at r.outputs above)) (pending_count c n g.state) (length r.parent.pending.rows) (length g.state.parent.pending.rows) (cost c n at m)
                (puts_weigh c n net at r.outputs above again.0)
                (ap (λ (k : ℕ). k + length g.state.parent.pending.rows) (puts_count c n net at r.outputs above) ∙ parent_count c n net r.parent g.state)
                least);
          }
      go false real =
          let there = lower_stands n at (same_back at parent_as real) in_at in
          let least = (elements.take_less Pin Segment c n codec (Inner a) (class_of n (Inner a)) (neighbour_class n a) open_of (place n at) at (own_is n at) real (g.state.current at) g.state.clock m (g.state.elements at) ok).weighs.least in
          record {
            few = gave 0 (queues_weight c n g.state) (sent_weight c n e.outputs) (asked_count e.outputs) (all_asks g.deeds) 0 (pending_count c n g.state) (length e.element.pending.rows) (length (g.state.elements at).pending.rows) (cost c n at m)
                (let all = total_has (λ d. length (g.state.elements d).pending.rows) at (elements_of n.elements) there in omega (arith, all)) least;
            less = λ again. added (asked_count e.outputs) (all_asks g.deeds) (weight c n (puts Pin Segment c n open_of at e.outputs below)) (weight c n g.state) (cost c n at m)
                (combine (queues_weight c n (puts Pin Segment c n open_of at e.outputs below)) (queues_weight c n g.state) (sent_weight c n e.outputs) (asked_count e.outputs)
                (pending_count c n (puts Pin Segment c n open_of at e.outputs below)) (pending_count c n g.state) (length e.element.pending.rows) (length (g.state.elements at).pending.rows) (cost c n at m)
                (puts_weigh c n net at e.outputs below again.0)
                (ap (λ (k : ℕ). k + length (g.state.elements at).pending.rows) (puts_count c n net at e.outputs below) ∙ element_count c n net at e.element g.state there)
                least);
          }

  -- ---- a message is carried

  module _ (a b : As) (in_a : stands a (ends n) ≡ true) (in_b : stands b (ends n) ≡ true) (s : Core) (ok : WaysOk (s.elements b).ways) (ok_above : WaysOk s.parent.ways) (x : Bytes) (rest : List Bytes) (is : s.queues a b ≡ x ∷ rest) where
    abbrev popped : Core
    popped = record s { queues = set_pair a b rest s.queues }

    abbrev moved : Session → Core
    moved next = with_inner Pin Segment c n open_of b a next popped

    abbrev after_pop : Move
    after_pop = record { state = popped; deeds = Pops a b ∷ [] }

    abbrev pub IsLess : Move → Type 0
    IsLess g = (all_asks g.deeds ≤ weight c n s) × (Again c n g.deeds → all_asks g.deeds + weight c n g.state < weight c n s)

    popped_weighs : weight c n popped + read_weight c n b (c.read x) ≤ weight c n s
    popped_weighs = plain (queues_weight c n popped) (queues_weight c n s) (pending_count c n s) (read_weight c n b (c.read x)) (shorter_weighs c n net a b x rest s.queues is in_a in_b)
      where
        plain : (q' q k w : ℕ) → q' + w ≤ q → q' + 4 * k + w ≤ q + 4 * k
        plain q' q k w less = omega (arith, less)

    -- what comes of the message weighs less than it did
    lighter : (g : Move) (w : ℕ) → suc w ≤ read_weight c n b (c.read x) → all_asks g.deeds ≤ weight c n popped + w → (Again c n g.deeds → all_asks g.deeds + weight c n g.state ≤ weight c n popped + w) → IsLess g
    lighter g w more few less = (
      plain (weight c n popped) (weight c n s) (read_weight c n b (c.read x)) w (all_asks g.deeds) popped_weighs more few,
      λ again. strict (weight c n popped) (weight c n s) (read_weight c n b (c.read x)) w (all_asks g.deeds + weight c n g.state) popped_weighs more (less again),
    )
      where
        plain : (p s' r w' z : ℕ) → p + r ≤ s' → suc w' ≤ r → z ≤ p + w' → z ≤ s'
        plain p s' r w' z all one two = omega (arith, all, one, two)

        strict : (p s' r w' z : ℕ) → p + r ≤ s' → suc w' ≤ r → z ≤ p + w' → z < s'
        strict p s' r w' z all one two = omega (arith, all, one, two)

    -- where nothing is asked
    asking_none : (g : Move) (w : ℕ) → suc w ≤ read_weight c n b (c.read x) → all_asks g.deeds ≡ 0 → weight c n g.state ≤ weight c n popped + w → IsLess g
    asking_none g w more none less = lighter g w more (plain (all_asks g.deeds) (weight c n popped) w none) (λ again. both' (all_asks g.deeds) (weight c n g.state) (weight c n popped + w) none less)
      where
        plain : (z p w' : ℕ) → z ≡ 0 → z ≤ p + w'
        plain z p w' none' = omega (arith, none')

        both' : (z g' p : ℕ) → z ≡ 0 → g' ≤ p → z + g' ≤ p
        both' z g' p none' less' = omega (arith, none', less')

    abbrev total_rows : Core → ℕ
    total_rows t = total (λ d. length (t.elements d).pending.rows) (elements_of n.elements)

    rise_count : (g : Move) → weight c n (rise Pin Segment c n open_of b (Inner a) g).state ≤ weight c n g.state
    rise_count g = go (same_as b parent_as)
      where
        each : (d : As) (t : Bool) → same_as b d ≡ t → length (cond t (element.upped (Inner a) (g.state.elements b)) (g.state.elements d)).pending.rows ≤ length (g.state.elements d).pending.rows
        each d true hit = subst (λ (z : As). length (g.state.elements b).pending.rows ≤ length (g.state.elements z).pending.rows) (same_as_is b d hit) (le_refl (length (g.state.elements b).pending.rows))
        each d false miss = le_refl (length (g.state.elements d).pending.rows)

        plain : (q k l l' : ℕ) → l' ≤ l → q + 4 * (k + l') ≤ q + 4 * (k + l)
        plain q k l l' less = omega (arith, less)

        go : (t : Bool) → weight c n (cond {A = Move} t
            (record { state = with_parent Pin Segment c n open_of (parent.upped (Inner a) g.state.parent) g.state; deeds = Ups b (Inner a) ∷ g.deeds })
            (record { state = with_element Pin Segment c n open_of b (element.upped (Inner a) (g.state.elements b)) g.state; deeds = Ups b (Inner a) ∷ g.deeds })).state ≤ weight c n g.state
        go true = le_refl (weight c n g.state)
        go false =
            plain (queues_weight c n g.state) (length g.state.parent.pending.rows) (total_rows g.state) (total_rows (with_element Pin Segment c n open_of b (element.upped (Inner a) (g.state.elements b)) g.state))
            (total_le (λ d. length (cond (same_as b d) (element.upped (Inner a) (g.state.elements b)) (g.state.elements d)).pending.rows) (λ d. length (g.state.elements d).pending.rows) (elements_of n.elements) (λ d. each d (same_as b d) refl))

    rise_asks : (g : Move) → all_asks (rise Pin Segment c n open_of b (Inner a) g).deeds ≡ all_asks g.deeds
    rise_asks g = go (same_as b parent_as)
      where
        go : (t : Bool) → all_asks (cond {A = Move} t
            (record { state = with_parent Pin Segment c n open_of (parent.upped (Inner a) g.state.parent) g.state; deeds = Ups b (Inner a) ∷ g.deeds })
            (record { state = with_element Pin Segment c n open_of b (element.upped (Inner a) (g.state.elements b)) g.state; deeds = Ups b (Inner a) ∷ g.deeds })).deeds ≡ all_asks g.deeds
        go true = omega arith
        go false = omega arith

    not_tick : (o : Option Message) → is_tick (read_as o) ≡ false
    not_tick None = refl
    not_tick (Some m) = refl

    pub carried_less : (z : Adjacency) → Hears c (s.sessions a b).phase (s.sessions b a).phase x rest (turn_of (s.sessions b a) (read_as (c.read x))) → IsLess (inner_input Pin Segment c n open_of z b a (read_as (c.read x)) after_pop)
    carried_less z heard = go heard
      where
        r_next : Session
        r_next = (turn_of (s.sessions b a) (read_as (c.read x))).next

        start : Move
        start = record { state = moved (turn_of (s.sessions b a) (read_as (c.read x))).next; deeds = Pops a b ∷ [] }

        by : (as' : List Action) → (turn_of (s.sessions b a) (read_as (c.read x))).actions ≡ as' → IsLess (cond (any_fall as') (break_adjacency Pin Segment c n open_of z after_pop) (inner_acts Pin Segment c n open_of b a false as' start)) →
            IsLess (inner_input Pin Segment c n open_of z b a (read_as (c.read x)) after_pop)
        by as' actions less =
            subst (λ (l : List Action). IsLess (cond (any_fall l) (break_adjacency Pin Segment c n open_of z after_pop) (inner_acts Pin Segment c n open_of b a (is_tick (read_as (c.read x))) l start))) (sym actions)
            (subst (λ (t : Bool). IsLess (cond (any_fall as') (break_adjacency Pin Segment c n open_of z after_pop) (inner_acts Pin Segment c n open_of b a t as' start))) (sym (not_tick (c.read x))) less)

        read_is : (m : Message) → c.read x ≡ Some m → read_weight c n b (c.read x) ≡ 1 + cost c n b m
        read_is m read = ap (λ (o : Option Message). read_weight c n b o) read

        said_weighs : weight c n (put_to Pin Segment c n open_of b (c.text (own_message own.Keepalive)) (moved r_next) (Inner a)) ≤ weight c n popped + 1
        said_weighs =
            plain (queues_weight c n (put_to Pin Segment c n open_of b (c.text (own_message own.Keepalive)) (moved r_next) (Inner a))) (queues_weight c n popped) (pending_count c n s) (read_weight c n a (c.read (c.text (own_message own.Keepalive))))
            (longer_weighs c n net b a (c.text (own_message own.Keepalive)) (moved r_next).queues) (ap (λ (o : Option Message). read_weight c n a o) (keepalive_again c codec n))
          where
            plain : (q' q k w : ℕ) → q' ≤ q + w → w ≡ 1 → q' + 4 * k ≤ q + 4 * k + 1
            plain q' q k w less one = omega (arith, less, one)

        go : Hears c (s.sessions a b).phase (s.sessions b a).phase x rest (turn_of (s.sessions b a) (read_as (c.read x))) → IsLess (inner_input Pin Segment c n open_of z b a (read_as (c.read x)) after_pop)
        go (opens is_open at actions next held) =
            by (action.Send own.Keepalive ∷ []) actions (asking_none (say Pin Segment c n open_of b (Inner a) own.Keepalive start) 1 (let w = read_is (messages.Open (record { version = 1; offer = is_open.0 })) is_open.1 in omega (arith, w)) (omega arith) said_weighs)
        go (rises is_keepalive at actions next held) =
            by (action.Up ∷ []) actions (asking_none (rise Pin Segment c n open_of b (Inner a) start) 0 (let w = read_is messages.Keepalive is_keepalive in omega (arith, w)) (let none = rise_asks start in omega (arith, none))
            (let same = rise_count start in plain (weight c n (rise Pin Segment c n open_of b (Inner a) start).state) (weight c n popped) same))
          where
            plain : (g' p : ℕ) → g' ≤ p → g' ≤ p + 0
            plain g' p less = omega (arith, less)
        go (keeps is_keepalive at actions next held) =
            by [] actions (asking_none start 0 (let w = read_is messages.Keepalive is_keepalive in omega (arith, w)) (omega arith) (plain (weight c n popped)))
          where
            plain : (p : ℕ) → p ≤ p + 0
            plain p = omega arith
        go (passes m read ordinary at actions next held) =
            let gave' = give_weighs b a m start in_b ok ok_above in
            by (action.Pass m ∷ []) actions (lighter (give Pin Segment c n open_of b (Inner a) m start) (cost c n b m) (let w = read_is m read in omega (arith, w)) (from_none (weight c n popped) (cost c n b m) (all_asks (give Pin Segment c n open_of b (Inner a) m start).deeds) gave'.few)
            (λ again. from_none (weight c n popped) (cost c n b m) (all_asks (give Pin Segment c n open_of b (Inner a) m start).deeds + weight c n (give Pin Segment c n open_of b (Inner a) m start).state) (gave'.less again)))
          where
            from_none : (p w z : ℕ) → z ≤ 0 + 0 + p + w → z ≤ p + w
            from_none p w z less = omega (arith, less)
