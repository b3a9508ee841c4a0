-- Over the events of a run: an accepted carry and an accepted solve make the weight less, so no more follow one another than it is.
use Rattle.std.proofs.Common.{◌≡◌, ◌∙◌, ◌<◌, ◌≤◌, ◌+◌, ◌*◌, ℕ, suc, Bool, true, false, cond, is_some, List, [], ◌∷◌, ◌++◌, Option, Err, length, inl, inr, refl, sym, ap, subst, arith}
use Rattle.plant_laws.specs.plant_model.Types.{As, Message, NetworkParts, Inner}
use Rattle.pcep_messages.specs.declared.message.Message.TheVariants as messages
use Rattle.pcep_messages.specs.Spelling.{IsWritten}
use Rattle.pcep_session.specs.declared.actions.Own.TheVariants as own
use Rattle.request_table.specs.Pending.{same_peer}
use Rattle.disclosure.specs.Shown.{open_of}
use Rattle.plant_text.specs.Names.{same_as, parent_as}
use Rattle.plant_text.specs.Settings.{Adjacency, adjacency, adjacencies, is_linked, is_element, elements_of}
use Rattle.plant_laws.specs.plant_model.declared.event.Event.{Event}
use Rattle.plant_laws.specs.plant_model.declared.event.Event.TheVariants as event
use Rattle.plant_laws.specs.plant_model.declared.outcome.Refused.{Refused}
use Rattle.plant_laws.specs.plant_model.declared.outcome.Refused.TheVariants.{NoSuchPeer}
use Rattle.plant_laws.specs.plant_model.declared.output.Output.{Output}
use Rattle.plant_laws.specs.plant_model.Names.{set_pair}
use Rattle.plant_laws.specs.plant_model.Wire.{Bytes, Codec}
use Rattle.plant_laws.specs.plant_model.Laws.{IsCodec, IsNetwork}
use Rattle.plant_laws.specs.plant_model.Settings.{place}
use Rattle.plant_laws.specs.plant_model.Solving as solving
use Rattle.plant_laws.specs.plant_model.Parent as parent
use Rattle.plant_laws.specs.plant_model.State.{Loads, Pops, Takes, Says, Ups, Downs, Clears, Solves, Expires, Hands}
use Rattle.plant_laws.specs.plant_model.Deeds.{our_offer, own_message, puts, with_element, with_parent, begin_adjacency}
use Rattle.plant_laws.specs.plant_model.Events as events
use Rattle.plant_laws.specs.plant_model.Events.{has_jobs}
use Rattle.plant_laws.specs.plant_model.Plant.{Pin, Segment, first_pin, Plant, PlantDeed, Happened, Entry, Run, Steps, IsGiven, deeds_of, ElementSolves, ParentSolves, Happens}
use Rattle.plant_laws.specs.Sending.{DeedSends, AllSent}
use Rattle.plant_laws.specs.Transcript.{outputs_at, put_into, count_asks, asks}
use Rattle.plant_laws.specs.About.{IsShort}
use Rattle.plant_laws.proofs.WrittenForm.AllWritten.{LeftSends, AllLeft, AllFit, left_is_all}
use Rattle.plant_laws.proofs.WrittenForm.EveryWritten.{every_written}
use Rattle.run_laws.specs.Settling.{Holds, total, ends, read_weight, queue_weight, queues_weight, pending_count, weight, IsWork, IsAccepted, HasIds, WorkWeighsLess, Works, WorkEnds, WorkKeepsIds, NewNetworksWeigh}
use Rattle.run_laws.proofs.SettlingLemmas.Turns.{hears}
use Rattle.run_laws.proofs.SettlingLemmas.Calm.{Move, Calm, Again}
use Rattle.run_laws.proofs.SettlingLemmas.CalmLinks.{open_again}
use Rattle.run_laws.proofs.SettlingLemmas.CalmEvents.{split_again, run_calm, written_again}
use Rattle.run_laws.proofs.SettlingLemmas.Sums.{total_all, total_has, stands, stands_rows, found_closes}
use Rattle.run_laws.proofs.SettlingLemmas.Weighing.{ask_count, asked_count, sent_weight}
use Rattle.run_laws.proofs.SettlingLemmas.ElementsWeigh as elements
use Rattle.run_laws.proofs.SettlingLemmas.ParentsWeigh as parents
use Rattle.run_laws.proofs.SettlingLemmas.Standing.{linked_stand}
use Rattle.run_laws.proofs.SettlingLemmas.Weights.{all_weight, longer_weighs, puts_weigh, puts_count, element_count, parent_count}
use Rattle.run_laws.proofs.SettlingLemmas.WorkLess.{deed_asks, all_asks, combine_less, carried_less}

-- ---- what all deeds send

left_one : (d : PlantDeed) → DeedSends IsWritten d → LeftSends IsWritten d
left_one (Solves at k os keys) written = written
left_one (Says at o) written = written
left_one _ written = tt

all_left : (ds : List PlantDeed) → AllSent IsWritten ds → AllLeft IsWritten ds
all_left [] written = tt
all_left (d ∷ ds) written = (left_one d written.0, all_left ds written.1)

older_written : (xs ys : List PlantDeed) → AllSent IsWritten (xs ++ ys) → AllSent IsWritten ys
older_written [] ys written = written
older_written (x ∷ xs) ys written = older_written xs ys written.1

short_before : (es ds : List PlantDeed) → IsShort (es ++ ds) → IsShort ds
short_before [] ds h = h
short_before (e ∷ es) ds h = short_before es ds (λ a b. (let le = h a b in omega (arith, le)))

given_work : (e : Event) → IsWork e → IsGiven e
given_work (event.Carry a b) work = tt
given_work (event.Solve d k) work = tt
given_work _ work = absurd work

-- ---- requests

count_one : (m : Message) (ms : List Message) → count_asks (m ∷ ms) ≤ ask_count m + count_asks ms
count_one (messages.PcReq asks') ms = omega arith
count_one (messages.PcRep replies) ms = omega arith
count_one (messages.PcNtf notices) ms = omega arith
count_one (messages.PcErr reports) ms = omega arith
count_one (messages.Open body) ms = omega arith
count_one messages.Keepalive ms = omega arith
count_one (messages.Close why) ms = omega arith
count_one (messages.Other kind) ms = omega arith

put_asks : (b : As) (os : List Output) → count_asks (put_into b os) ≤ asked_count os
put_asks b [] = omega arith
put_asks b (o ∷ os) = go (same_peer o.to (Inner b)) (put_asks b os) (count_one o.message (put_into b os))
  where
    go : (t : Bool) → count_asks (put_into b os) ≤ asked_count os → count_asks (o.message ∷ put_into b os) ≤ ask_count o.message + count_asks (put_into b os) →
        count_asks (cond t (o.message ∷ put_into b os) (put_into b os)) ≤ ask_count o.message + asked_count os
    go true more one = omega (arith, more, one)
    go false more one = omega (arith, more)

-- what a deed of an end sends, or nothing
sends_asks : (b : As) (os : List Output) (t : Bool) → count_asks (put_into b (cond t os [])) ≤ asked_count os
sends_asks b os true = put_asks b os
sends_asks b os false = omega arith

deed_sends : (a b : As) (d : PlantDeed) → count_asks (put_into b (outputs_at a d)) ≤ deed_asks d
deed_sends a b (Takes at p m os) = sends_asks b os (same_as at a)
deed_sends a b (Says at o) = sends_asks b (o ∷ []) (same_as at a)
deed_sends a b (Downs at p os) = sends_asks b os (same_as at a)
deed_sends a b (Solves at k os keys) = sends_asks b os (same_as at a)
deed_sends a b _ = omega arith

asks_more : (a b : As) (xs ds : List PlantDeed) → asks a b (xs ++ ds) ≤ asks a b ds + all_asks xs
asks_more a b [] ds = omega arith
asks_more a b (x ∷ xs) ds = let more = asks_more a b xs ds in let one = deed_sends a b x in omega (arith, more, one)

asks_all : (a b : As) (xs : List PlantDeed) → asks a b xs ≤ all_asks xs
asks_all a b [] = omega arith
asks_all a b (x ∷ xs) = let more = asks_all a b xs in let one = deed_sends a b x in omega (arith, more, one)

module _ (c : Codec) (codec : IsCodec c) (n : NetworkParts) (net : IsNetwork n) where
  -- ---- one event

  module _ (s : Plant) (calm : Calm c n s) (fit : AllFit c codec n net s) where
    -- few requests are sent, whatever else is, and all is less, where what is sent is read again
    abbrev IsLess : Happened → Type 0
    IsLess h = IsAccepted h → (all_asks h.deeds ≤ weight c n s) × (Again c n h.deeds → all_asks h.deeds + weight c n h.state < weight c n s)

    refused_less : (why : Refused) (t : Plant) → IsLess (record { answer = Err why; state = t; deeds = [] })
    refused_less why t accepted = cc

    carry_less : (a b : As) → IsLess (events.carry Pin Segment c n open_of a b s)
    carry_less a b = by (is_linked n a b) refl
      where
        go : is_linked n a b ≡ true → (q : List Bytes) → s.queues a b ≡ q → IsLess (events.carry_first Pin Segment c n open_of a b s q)
        go linked [] is = refused_less _ s
        go linked (x ∷ rest) is =
            λ accepted. let in' = linked_stand n net a b linked in
            carried_less c codec n net a b in'.0 in'.1 s (fit.elements b).1 fit.parent.1 x rest is (adjacency a b)
            (hears c (s.sessions b a) (s.sessions a b).phase x rest (subst (λ (q : List Bytes). Holds c (s.sessions a b).phase (s.sessions b a).phase q) is (calm.queues a b linked)))

        by : (t : Bool) → is_linked n a b ≡ t → IsLess (cond t (events.carry_first Pin Segment c n open_of a b s (s.queues a b)) (events.refused Pin Segment c n open_of NoSuchPeer s))
        by true linked = go linked (s.queues a b) refl
        by false linked = refused_less NoSuchPeer s

    -- the requests in what answers a job
    few : (sent asked l l' k q : ℕ) → l ≤ k → sent + asked + 4 * l' < 4 * l → asked + 0 ≤ q + 4 * k
    few sent asked l l' k q below less = omega (arith, below, less)

    less_asked : (asked new old : ℕ) → asked + new < old → asked + 0 + new < old
    less_asked asked new old less = omega (arith, less)

    element_less : (d : As) (k : ℕ) (h : Happened) → has_jobs n d ≡ true → ElementSolves c n d k s h → IsLess h
    element_less d k h jobs x =
        let r = solving.commit c (place n d) (k, x.held) x.down s.clock (λ b. b.segment) (solving.job_found x.rows.source_known x.rows.target_known x.rows.best) (s.elements d) in
        let t = with_element Pin Segment c n open_of d r.element s in
        let there : stands d (elements_of n.elements) ≡ true = stands_rows d n.elements ∙ subst (λ (b : Bool). cond b (is_some n.parent) (is_element n d) ≡ true) x.upper jobs in
        let lighter = (elements.commit_lighter Pin Segment c n (place n d) (k, x.held) x.down s.clock (λ b. b.segment) x.rows.source_known x.rows.target_known x.rows.best (s.elements d)
        (found_closes k (s.elements d).pending.rows x.held x.is_held)).less in
        subst IsLess (sym x.is) (λ accepted. (
          few (sent_weight c n r.outputs) (asked_count r.outputs) (length (s.elements d).pending.rows) (length r.element.pending.rows) (pending_count c n s) (queues_weight c n s)
              (let all = total_has (λ z. length (s.elements z).pending.rows) d (elements_of n.elements) there in omega (arith, all)) lighter,
          λ again. less_asked (asked_count r.outputs) (weight c n (puts Pin Segment c n open_of d r.outputs t)) (weight c n s)
              (combine_less (queues_weight c n (puts Pin Segment c n open_of d r.outputs t)) (queues_weight c n s) (sent_weight c n r.outputs) (asked_count r.outputs)
              (pending_count c n (puts Pin Segment c n open_of d r.outputs t)) (pending_count c n s) (length r.element.pending.rows) (length (s.elements d).pending.rows)
              (puts_weigh c n net d r.outputs t again.0)
              (ap (λ (z : ℕ). z + length (s.elements d).pending.rows) (puts_count c n net d r.outputs t) ∙ element_count c n net d r.element s there)
              lighter),
        ))

    parent_less : (k : ℕ) (h : Happened) → ParentSolves c n k s h → IsLess h
    parent_less k h x =
        let r = parent.commit c (k, x.held) x.answer s.parent in
        let t = with_parent Pin Segment c n open_of r.parent s in
        let lighter = (parents.commit_lighter c n (k, x.held) x.answer s.parent (found_closes k s.parent.pending.rows x.held x.is_held)).less in
        subst IsLess (sym x.is) (λ accepted. (
          few (sent_weight c n r.outputs) (asked_count r.outputs) (length s.parent.pending.rows) (length r.parent.pending.rows) (pending_count c n s) (queues_weight c n s) (omega arith) lighter,
          λ again. less_asked (asked_count r.outputs) (weight c n (puts Pin Segment c n open_of parent_as r.outputs t)) (weight c n s)
              (combine_less (queues_weight c n (puts Pin Segment c n open_of parent_as r.outputs t)) (queues_weight c n s) (sent_weight c n r.outputs) (asked_count r.outputs)
              (pending_count c n (puts Pin Segment c n open_of parent_as r.outputs t)) (pending_count c n s) (length r.parent.pending.rows) (length s.parent.pending.rows)
              (puts_weigh c n net parent_as r.outputs t again.0)
              (ap (λ (z : ℕ). z + length s.parent.pending.rows) (puts_count c n net parent_as r.outputs t) ∙ parent_count c n net r.parent s)
              lighter),
        ))

    by_less : (h k : Happened) → k ≡ h → IsLess h → IsLess k
    by_less h k is less = subst IsLess (sym is) less

    happens_less : (e : Event) (h : Happened) → IsWork e → Happens c n s e h → IsLess h
    happens_less (event.Carry a b) h work is = by_less (events.carry Pin Segment c n open_of a b s) h is (carry_less a b)
    happens_less (event.Solve d k) h work (inl none) = by_less _ h none.1 (refused_less _ s)
    happens_less (event.Solve d k) h work (inr (inl none)) = by_less _ h none.2 (refused_less _ s)
    happens_less (event.Solve d k) h work (inr (inr (inl solves))) = element_less d k h solves.0 solves.1
    happens_less (event.Solve d k) h work (inr (inr (inr solves))) = parent_less k h solves.2
    happens_less (event.Load d g) h work is = absurd work
    happens_less (event.Open i holder) h work is = absurd work
    happens_less (event.Shut i) h work is = absurd work
    happens_less (event.Feed i bytes) h work is = absurd work
    happens_less (event.Take i) h work is = absurd work
    happens_less (event.Break a b) h work is = absurd work
    happens_less (event.Tick t) h work is = absurd work
    happens_less (event.Drain i holder) h work is = absurd work

    steps_less : (e : Event) (h : Happened) → IsWork e → Steps c n s e h → IsLess h
    steps_less e h work (inl is) = happens_less e h work is
    steps_less e h work (inr none) = by_less _ h none.1 (refused_less _ s)

  -- ---- in a run

  -- a state with what holds of it, where all that was sent so far is written
  known : (es : List Entry) (s : Plant) → Run c n es s → AllSent IsWritten (deeds_of c n es) → Calm c n s × AllFit c codec n net s
  known es s run written =
      (run_calm c codec n net es s run (written_again c codec n net (deeds_of c n es) written), (left_is_all c codec n net es s run (all_left (deeds_of c n es) written)).2)

  pub step_less : (es : List Entry) (s : Plant) → Run c n es s → (e : Event) (h : Happened) → IsWork e → Steps c n s e h → IsAccepted h → IsShort (h.deeds ++ deeds_of c n es) → all_asks h.deeds + weight c n h.state < weight c n s
  step_less es s run e h work steps accepted short =
      let entry : Entry = record { event = e; answer = h.answer; deeds = h.deeds } in
      let after : Run c n (entry ∷ es) h.state = (s, run, given_work e work, steps) in
      let written = every_written c codec n net (entry ∷ es) h.state after short in
      let again = split_again c codec n net h.deeds (deeds_of c n es) (written_again c codec n net (h.deeds ++ deeds_of c n es) written) in
      let now = known es s run (older_written h.deeds (deeds_of c n es) written) in
      (steps_less s now.0 now.1 e h work steps accepted).1 again.0

  -- no id comes round, where ids are left for all that the weight allows
  step_short : (es : List Entry) (s : Plant) → Run c n es s → HasIds c n es s → (e : Event) (h : Happened) → IsWork e → Steps c n s e h → IsAccepted h → IsShort (h.deeds ++ deeds_of c n es)
  step_short es s run ids e h work steps accepted =
      let short : IsShort (deeds_of c n es) = λ a b. (let left = ids a b in omega (arith, left)) in
      let now = known es s run (every_written c codec n net es s run short) in
      let few' = (steps_less s now.0 now.1 e h work steps accepted).0 in
      λ a b. plain (asks a b (h.deeds ++ deeds_of c n es)) (asks a b (deeds_of c n es)) (all_asks h.deeds) (weight c n s) (asks_more a b h.deeds (deeds_of c n es)) few' (ids a b)
    where
      plain : (x y z w : ℕ) → x ≤ y + z → z ≤ w → y + w ≤ 4294967295 → x ≤ 4294967295
      plain x y z w more few' left = omega (arith, more, few', left)

  run_on : (es more : List Entry) (s t : Plant) → Run c n es s → Works c n s more t → Run c n (more ++ es) t
  run_on es [] s t run works = subst (Run c n es) (sym works) run
  run_on es (e ∷ more) s t run works = (works.0, run_on es more s works.0 run works.1, given_work e.event works.2, works.3)

  one_more : (l t' u' s' z : ℕ) → z + t' < u' → l + u' ≤ s' → suc l + t' ≤ s'
  one_more l t' u' s' z last earlier = omega (arith, last, earlier)

  pub work_counts : (es more : List Entry) (s t : Plant) → Run c n es s → Works c n s more t → IsShort (deeds_of c n (more ++ es)) → length more + weight c n t ≤ weight c n s
  work_counts es [] s t run works short = subst (λ (z : Plant). 0 + weight c n z ≤ weight c n s) (sym works) (plain (weight c n s))
    where
      plain : (w : ℕ) → 0 + w ≤ w
      plain w = omega arith
  work_counts es (e ∷ more) s t run works short =
      let u = works.0 in
      let h : Happened = record { answer = e.answer; state = t; deeds = e.deeds } in
      let earlier = work_counts es more s u run works.1 (short_before e.deeds (deeds_of c n (more ++ es)) short) in
      let last = step_less (more ++ es) u (run_on es more s u run works.1) e.event h works.2 works.3 works.4 short in
      one_more (length more) (weight c n t) (weight c n u) (weight c n s) (all_asks e.deeds) last earlier

  pub work_keeps : (es more : List Entry) (s t : Plant) → Run c n es s → HasIds c n es s → Works c n s more t → (length more + weight c n t ≤ weight c n s) × HasIds c n (more ++ es) t
  work_keeps es [] s t run ids works = subst (λ (z : Plant). (0 + weight c n z ≤ weight c n s) × HasIds c n es z) (sym works) (plain (weight c n s), ids)
    where
      plain : (w : ℕ) → 0 + w ≤ w
      plain w = omega arith
  work_keeps es (e ∷ more) s t run ids works =
      let u = works.0 in
      let h : Happened = record { answer = e.answer; state = t; deeds = e.deeds } in
      let earlier = work_keeps es more s u run ids works.1 in
      let on = run_on es more s u run works.1 in
      let short = step_short (more ++ es) u on earlier.1 e.event h works.2 works.3 works.4 in
      let last = step_less (more ++ es) u on e.event h works.2 works.3 works.4 short in (
        one_more (length more) (weight c n t) (weight c n u) (weight c n s) (all_asks e.deeds) last earlier.0,
        λ a b. plain (asks a b (e.deeds ++ deeds_of c n (more ++ es))) (asks a b (deeds_of c n (more ++ es))) (all_asks e.deeds) (weight c n t) (weight c n u) (asks_more a b e.deeds (deeds_of c n (more ++ es))) last (earlier.1 a b),
      )
    where
      plain : (x y z t' u' : ℕ) → x ≤ y + z → z + t' < u' → y + u' ≤ 4294967295 → x + t' ≤ 4294967295
      plain x y z t' u' more last left = omega (arith, more, last, left)

  -- ---- a network that has just been made

  began_weighs : (x : Adjacency) (g : Move) → weight c n (begin_adjacency Pin Segment c n open_of 0 x g).state ≤ 6 + weight c n g.state
  began_weighs x g =
      let text = c.text (own_message (own.Open (our_offer 0))) in
      let q = g.state.queues in
      let first' = set_pair x.lower x.upper (q x.lower x.upper ++ text ∷ []) q in
      let open' = open_again c codec n 0 (omega arith) in
      plain (queues_weight c n (begin_adjacency Pin Segment c n open_of 0 x g).state) (all_weight c n net first') (queues_weight c n g.state) (pending_count c n g.state)
      (read_weight c n x.upper (c.read text)) (read_weight c n x.lower (c.read text))
      (longer_weighs c n net x.lower x.upper text q) (longer_weighs c n net x.upper x.lower text first')
      (ap (λ (o : Option Message). read_weight c n x.upper o) open'.1) (ap (λ (o : Option Message). read_weight c n x.lower o) open'.1)
    where
      plain : (q2 q1 q0 k v w : ℕ) → q1 ≤ q0 + v → q2 ≤ q1 + w → v ≡ 3 → w ≡ 3 → q2 + 4 * k ≤ 6 + (q0 + 4 * k)
      plain q2 q1 q0 k v w one two up low = omega (arith, one, two, up, low)

  adjacencies_weigh : (xs : List Adjacency) (g : Move) → weight c n (events.begin_adjacencies Pin Segment c n open_of xs g).state ≤ 6 * length xs + weight c n g.state
  adjacencies_weigh [] g = plain (weight c n g.state)
    where
      plain : (w : ℕ) → w ≤ 0 + w
      plain w = omega arith
  adjacencies_weigh (x ∷ xs) g =
      plain (weight c n (events.begin_adjacencies Pin Segment c n open_of xs (begin_adjacency Pin Segment c n open_of 0 x g)).state) (weight c n (begin_adjacency Pin Segment c n open_of 0 x g).state) (weight c n g.state) (length xs)
      (adjacencies_weigh xs (begin_adjacency Pin Segment c n open_of 0 x g)) (began_weighs x g)
    where
      plain : (w2 w1 w0 l : ℕ) → w2 ≤ 6 * l + w1 → w1 ≤ 6 + w0 → w2 ≤ 6 * suc l + w0
      plain w2 w1 w0 l more one = omega (arith, more, one)

  adjacencies_ask : (xs : List Adjacency) (g : Move) → all_asks (events.begin_adjacencies Pin Segment c n open_of xs g).deeds ≡ all_asks g.deeds
  adjacencies_ask [] g = refl
  adjacencies_ask (x ∷ xs) g = adjacencies_ask xs (begin_adjacency Pin Segment c n open_of 0 x g) ∙ plain (all_asks g.deeds)
    where
      plain : (w : ℕ) → 0 + 0 + (0 + 0 + w) ≡ w
      plain w = omega arith

  bare_weighs : weight c n (events.bare Pin Segment c n open_of first_pin) ≡ 0
  bare_weighs =
      plain (queues_weight c n (events.bare Pin Segment c n open_of first_pin)) (total (λ (d : As). 0) (elements_of n.elements)) none (total_all {X = As} 0 (elements_of n.elements))
    where
      rows : (as' : List As) → total (λ (b : As). queue_weight c n b []) as' ≡ 0
      rows [] = refl
      rows (a ∷ as') = let more = rows as' in omega (arith, more)

      none_of : (as' : List As) → total (λ (a : As). total (λ (b : As). queue_weight c n b []) (ends n)) as' ≡ 0
      none_of [] = refl
      none_of (a ∷ as') = let one = rows (ends n) in let more = none_of as' in omega (arith, one, more)

      none : queues_weight c n (events.bare Pin Segment c n open_of first_pin) ≡ 0
      none = none_of (ends n)

      plain : (q k : ℕ) → q ≡ 0 → k ≡ 0 * length (elements_of n.elements) → q + 4 * (0 + k) ≡ 0
      plain q k one two = omega (arith, one, two)

  new_weighs : (s : Plant) → Run c n [] s → (weight c n s ≤ 6 * length (adjacencies n)) × ((a b : As) → asks a b (deeds_of c n []) ≡ 0)
  new_weighs s is =
      let b = events.bare Pin Segment c n open_of first_pin in
      let g : Move = record { state = b; deeds = [] } in (
        subst (λ (z : Plant). weight c n z ≤ 6 * length (adjacencies n)) (sym is) (plain (weight c n (events.opening Pin Segment c n open_of first_pin).state) (6 * length (adjacencies n)) (weight c n b) (adjacencies_weigh (adjacencies n) g) bare_weighs),
        λ a d. none (asks a d (deeds_of c n [])) (all_asks (deeds_of c n [])) (asks_all a d (deeds_of c n [])) (adjacencies_ask (adjacencies n) g),
      )
    where
      plain : (w l z : ℕ) → w ≤ l + z → z ≡ 0 → w ≤ l
      plain w l z more zero' = omega (arith, more, zero')

      none : (x y : ℕ) → x ≤ y → y ≡ 0 → x ≡ 0
      none x y less zero' = omega (arith, less, zero')

pub work_weighs_less : WorkWeighsLess
work_weighs_less c codec n net es s run e h work steps accepted short = plain (all_asks h.deeds) (weight c n h.state) (weight c n s) (step_less c codec n net es s run e h work steps accepted short)
  where
    plain : (z t s' : ℕ) → z + t < s' → t < s'
    plain z t s' less = omega (arith, less)

pub work_ends : WorkEnds
work_ends c codec n net es more s t run works short = work_counts c codec n net es more s t run works short

pub work_keeps_ids : WorkKeepsIds
work_keeps_ids c codec n net es more s t run ids works = work_keeps c codec n net es more s t run ids works

pub new_networks_weigh : NewNetworksWeigh
new_networks_weigh c codec n net s run = new_weighs c codec n net s run
