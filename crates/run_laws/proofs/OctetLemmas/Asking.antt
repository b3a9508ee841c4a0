-- Without a parent, the requests that were sent from one end to another, and those that what stands in queues may still bring about, are
-- no more than the messages that were taken from outside. One induction over the acts of a run.
use Rattle.std.proofs.Common.{◌≡◌, ◌∙◌, ◌≤◌, ◌+◌, ℕ, Bool, true, false, cond, List, [], ◌∷◌, ◌++◌, Option, Some, refl, sym, ap, subst, arith}
use Rattle.plant_laws.specs.plant_model.Types.{As, Peer, Outside, Inner, Answer, Message, Own, NetworkParts}
use Rattle.te_links.specs.Rows.{Rows as Topology}
use Rattle.disclosure.specs.Shown.{open_of}
use Rattle.pcep_subobjects.specs.Subobjects.{AreOctets}
use Rattle.pcep_messages.specs.declared.message.Message.TheVariants as messages
use Rattle.pcep_session.specs.declared.actions.Own.TheVariants as own
use Rattle.plant_text.specs.Names.{same_as, parent_as}
use Rattle.plant_text.specs.Settings.{class_of, Adjacency, adjacencies}
use Rattle.plant_laws.specs.plant_model.declared.event.Event.TheVariants as event
use Rattle.plant_laws.specs.plant_model.declared.output.Output.{Output}
use Rattle.plant_laws.specs.plant_model.Names.{set_pair}
use Rattle.plant_laws.specs.plant_model.Wire.{Bytes, Codec}
use Rattle.plant_laws.specs.plant_model.Laws.{IsCodec, IsNetwork}
use Rattle.plant_laws.specs.plant_model.Writing.{reply_message, error_message, busy}
use Rattle.plant_laws.specs.plant_model.Element.{Element, upped, downed, lost}
use Rattle.plant_laws.specs.plant_model.Taking.{take}
use Rattle.plant_laws.specs.plant_model.Solving.{commit, job_found}
use Rattle.plant_laws.specs.plant_model.Parent as parent
use Rattle.plant_laws.specs.plant_model.Routes.{routes}
use Rattle.plant_laws.specs.plant_model.Settings.{place, family, inner_ways, way, ways_along}
use Rattle.plant_laws.proofs.WrittenForm.AllWritten.{ways_fit_all}
use Rattle.plant_laws.proofs.Runs.Heeding.{asks_read, single_back}
use Rattle.plant_laws.specs.plant_model.State.{Loads, Pops, Takes, Says, Ups, Downs, Clears, Solves, Expires, Hands}
use Rattle.plant_laws.specs.plant_model.Deeds.{Going, element_of, own_message, with_parent, with_element, puts, give, rise, fall, clear}
use Rattle.plant_laws.specs.plant_model.Events as events
use Rattle.plant_laws.specs.plant_model.Plant.{Pin, Segment, first_pin, Plant, PlantDeed, Happened, Entry, Run, deeds_of, IsGiven, load_new, ElementSolves, ParentSolves}
use Rattle.plant_laws.specs.Transcript.{Transcript, asks}
use Rattle.plant_laws.specs.Sending.{AllSent}
use Rattle.plant_laws.specs.Reading.{AreRead}
use Rattle.plant_laws.proofs.Runs.Acts.{popped, Acts, rests, hears, carries, nods, hands, rises, falls, says, clears, expires}
use Rattle.plant_laws.proofs.Runs.Induction.{run_holds}
use Rattle.plant_laws.proofs.Once.Handing.{IsAsk}
use Rattle.plant_laws.proofs.Once.Takes.{IsSingle, own_is}
use Rattle.plant_laws.proofs.Runs.Inboxes.{AreOutsideSingle, run_outside}
use Rattle.plant_laws.proofs.WrittenForm.Sent.{run_sent}
use Rattle.plant_laws.proofs.Once.Opened.{puts_elements}
use Rattle.plant_laws.proofs.Numbering.Onward.{none_lost, calm_commit}
use Rattle.plant_laws.proofs.Runs.Reading as Reading
use Rattle.plant_laws.proofs.WrittenForm.ElementSays.{WaysOk, ways_up}
use Rattle.run_laws.specs.Counting.{HasNoParent, heard_in, heard}
use Rattle.run_laws.proofs.OctetLemmas.Below.{below_none}
use Rattle.run_laws.proofs.OctetLemmas.Heavy.{Queues, as_of, message_heavy, read_heavy, queue_heavy, row, grid, grid_no_more, popped_less}
use Rattle.run_laws.proofs.OctetLemmas.Putting.{Core, asked_by, IsFair, AreFair, QueuesFair, set_fair, IsMeant, Passes, passes_none}
use Rattle.run_laws.proofs.OctetLemmas.Passing as passing
use Rattle.run_laws.proofs.OctetLemmas.Passing.{ReadsAsks, message_few}
use Rattle.run_laws.proofs.OctetLemmas.NoChildren.{takes_none, commit_none, no_children}

-- what a session says of itself asks for nothing
own_quiet : (o : Own) → IsAsk (own_message o) → ⊥
own_quiet (own.Open offer) ask = ask
own_quiet own.Keepalive ask = ask
own_quiet (own.Error kind value) ask = ask
own_quiet (own.Close why) ask = ask

new_ways : (d : As) (xs : List Adjacency) → WaysOk (ways_along d xs)
new_ways d [] = tt
new_ways d (x ∷ xs) = go (same_as x.lower d) (same_as x.upper d) (new_ways d xs)
  where
    go : (p q : Bool) → WaysOk (ways_along d xs) → WaysOk (cond p (way x.upper ∷ ways_along d xs) (cond q (way x.lower ∷ ways_along d xs) (ways_along d xs)))
    go true q more = (omega arith, more)
    go false true more = (omega arith, more)
    go false false more = more

module _ (c : Codec) (codec : IsCodec c) (n : NetworkParts) where
  meant_reply : (flags id : ℕ) (a : Answer) → IsMeant c n (reply_message flags id a)
  meant_reply flags id a asked is = absurd (let clash : 4 ≡ 3 = codec.texts.kinds (reply_message flags id a) (messages.PcReq asked) is in omega (arith, clash))

  meant_busy : (flags id : ℕ) → IsMeant c n (busy flags id)
  meant_busy flags id asked is = absurd (let clash : 5 ≡ 3 = codec.texts.kinds (busy flags id) (messages.PcReq asked) is in omega (arith, clash))

  meant_error : (rp : Option (ℕ × ℕ)) (kind value : ℕ) → IsMeant c n (error_message rp kind value)
  meant_error rp kind value asked is = absurd (let clash : 6 ≡ 3 = codec.texts.kinds (error_message rp kind value) (messages.PcReq asked) is in omega (arith, clash))

  meant_own : (o : Own) → IsMeant c n (own_message o)
  meant_own (own.Open offer) asked is = absurd (let clash : 1 ≡ 3 = codec.texts.kinds (own_message (own.Open offer)) (messages.PcReq asked) is in omega (arith, clash))
  meant_own own.Keepalive asked is = absurd (let clash : 2 ≡ 3 = codec.texts.kinds (own_message own.Keepalive) (messages.PcReq asked) is in omega (arith, clash))
  meant_own (own.Error kind value) asked is = absurd (let clash : 6 ≡ 3 = codec.texts.kinds (own_message (own.Error kind value)) (messages.PcReq asked) is in omega (arith, clash))
  meant_own (own.Close why) asked is = absurd (let clash : 7 ≡ 3 = codec.texts.kinds (own_message (own.Close why)) (messages.PcReq asked) is in omega (arith, clash))

  run_meant : (es : List Entry) (s : Plant) → Run c n es s → AllSent (IsMeant c n) (deeds_of c n es)
  run_meant es s run = run_sent (IsMeant c n) (λ y w t rest asked is. tt) meant_reply meant_busy meant_error meant_own c n es s run

  -- a message from a fair queue has one request
  single_of : (bytes : Bytes) (m : Message) → IsFair c n bytes → c.read bytes ≡ Some m → IsSingle m
  single_of bytes (messages.PcReq asked) fair read = (fair asked read).1
  single_of bytes (messages.PcRep replies) fair read = tt
  single_of bytes (messages.PcNtf notices) fair read = tt
  single_of bytes (messages.PcErr reports) fair read = tt
  single_of bytes (messages.Open body) fair read = tt
  single_of bytes messages.Keepalive fair read = tt
  single_of bytes (messages.Close why) fair read = tt
  single_of bytes (messages.Other kind) fair read = tt

  module _ (net : IsNetwork n) (alone : HasNoParent n) (x y : As) where
    abbrev Prem : Transcript → Type 0
    Prem ds = AreRead c n ds × AreOutsideSingle ds × AllSent (IsMeant c n) ds

    older : (d : PlantDeed) (ds : Transcript) → Prem (d ∷ ds) → Prem ds
    older d ds p = (p.0.1, p.1.1, p.2.1)

    -- the requests so far and those to come are few, with so many that the message may bring about which was taken last
    record Good (w : ℕ) (ds : Transcript) (s : Core) : Type 0 where
      pub fair : QueuesFair c n s
      pub ways : (d : As) → WaysOk (s.elements d).ways
      pub few : (k : ℕ) → asks x y ds + w + grid x y c s.queues k ≤ heard ds

    abbrev I : Transcript → Core → Type 0
    I ds s = Prem ds → Good 0 ds s

    same_ways : (s t : Core) → t.elements ≡ s.elements → ((d : As) → WaysOk (s.elements d).ways) → (d : As) → WaysOk (t.elements d).ways
    same_ways s t is ways = subst (λ (f : As → Element Pin Segment). (d : As) → WaysOk (f d).ways) (sym is) ways

    same_fair : (s t : Core) → t.queues ≡ s.queues → QueuesFair c n s → QueuesFair c n t
    same_fair s t is fair = subst (λ (q : Queues). (a b : As) → AreFair c n (q a b)) (sym is) fair

    same_few : (s t : Core) (most other : ℕ) → t.queues ≡ s.queues → ((k : ℕ) → other + grid x y c s.queues k ≤ most) → (k : ℕ) → other + grid x y c t.queues k ≤ most
    same_few s t most other is few = subst (λ (q : Queues). (k : ℕ) → other + grid x y c q k ≤ most) (sym is) few

    -- neither queues nor ways change
    same_good : (w : ℕ) (ds : Transcript) (s t : Core) → t.queues ≡ s.queues → t.elements ≡ s.elements → Good w ds s → Good w ds t
    same_good w ds s t queues elements h = record {
      fair = same_fair s t queues h.fair;
      ways = same_ways s t elements h.ways;
      few = same_few s t (heard ds) (asks x y ds + w) queues h.few;
    }

    -- a deed that sends nothing, and takes nothing from outside
    quiet_good : (d : PlantDeed) (ds : Transcript) (s : Core) → asks x y (d ∷ ds) ≡ asks x y ds + 0 → heard (d ∷ ds) ≡ 0 + heard ds → Good 0 ds s → Good 0 (d ∷ ds) s
    quiet_good d ds s asked taken h = record {
      fair = h.fair;
      ways = h.ways;
      few = λ k. plain (asks x y (d ∷ ds)) (asks x y ds) (heard (d ∷ ds)) (heard ds) (grid x y c s.queues k) asked taken (h.few k);
    }
      where
        plain : (a' a t' t g : ℕ) → a' ≡ a + 0 → t' ≡ 0 + t → a + 0 + g ≤ t → a' + 0 + g ≤ t'
        plain a' a t' t g one two three = omega (arith, one, two, three)

    -- a deed that sends
    sent_good : (d : PlantDeed) (at : As) (os : List Output) (w v : ℕ) (ds : Transcript) (s u : Core) → asks x y (d ∷ ds) ≡ asks x y ds + asked_by (same_as at x) y os → heard (d ∷ ds) ≡ heard_in d + heard ds → v ≤ w + heard_in d →
        Passes c n x y at os v → u.queues ≡ s.queues → ((e : As) → WaysOk (u.elements e).ways) → Good w ds s → Good 0 (d ∷ ds) (puts Pin Segment c n open_of at os u)
    sent_good d at os w v ds s u asked taken most passes queues ways h = record {
      fair = passes.fair u (same_fair s u queues h.fair);
      ways = same_ways u (puts Pin Segment c n open_of at os u) (puts_elements c n at os u) ways;
      few = λ k. plain (asks x y (d ∷ ds)) (asks x y ds) (asked_by (same_as at x) y os) (heard (d ∷ ds)) (heard_in d) (heard ds) (grid x y c (puts Pin Segment c n open_of at os u).queues k) (grid x y c u.queues k)
          asked taken (passes.few u k) (same_few s u (heard ds) (asks x y ds + w) queues h.few k) most;
    }
      where
        plain : (a' a b t' e t g' g : ℕ) → a' ≡ a + b → t' ≡ e + t → b + g' ≤ g + v → a + w + g ≤ t → v ≤ w + e → a' + 0 + g' ≤ t'
        plain a' a b t' e t g' g one two three four five = omega (arith, one, two, three, four, five)

    set_ways : (at : As) (k : Element Pin Segment) (s : Core) → WaysOk k.ways → ((d : As) → WaysOk (s.elements d).ways) → (d : As) → WaysOk ((with_element Pin Segment c n open_of at k s).elements d).ways
    set_ways at k s new ways d = go (same_as at d)
      where
        go : (b : Bool) → WaysOk (cond b k (s.elements d)).ways
        go true = new
        go false = ways d

    pick : (ds : Transcript) (b : Bool) (g h : Going Pin Segment) → (b ≡ true → I (g.deeds ++ ds) g.state) → (b ≡ false → I (h.deeds ++ ds) h.state) → I ((cond b g h).deeds ++ ds) (cond b g h).state
    pick ds true g h p q = p refl
    pick ds false g h p q = q refl

    -- ---- what is given

    record Known (w : ℕ) (at : As) (p : Peer) (m : Message) (s : Core) (l : Transcript) (os : List Output) : Type 0 where
      pub bytes : Bytes
      pub read : ReadsAsks c bytes m
      pub fair : IsFair c n bytes
      pub single : IsSingle m
      pub heavy : message_heavy x y c at m ≤ w + heard_in (Takes at p m os)
      pub good : Good w l s

    give_good : (w : ℕ) (at : As) (p : Peer) (m : Message) (s : Core) (es ds : Transcript) → ((os : List Output) → Prem (Takes at p m os ∷ es ++ ds) → Known w at p m s (es ++ ds) os) →
        (let g = give Pin Segment c n open_of at p m (record { state = s; deeds = es }) in I (g.deeds ++ ds) g.state)
    give_good w at p m s es ds known =
        let r = parent.take c (family n) p m s.parent in
        let t = take c open_of (place n at) (s.current at) p (class_of n p) s.clock m (s.elements at) in
        let u = with_parent Pin Segment c n open_of r.parent s in
        let v = with_element Pin Segment c n open_of at t.element s in
        pick ds (same_as at parent_as)
        (record { state = puts Pin Segment c n open_of at r.outputs u; deeds = Takes at p m r.outputs ∷ es })
        (record { state = puts Pin Segment c n open_of at t.outputs v; deeds = Takes at p m t.outputs ∷ es })
        (λ is prem.
        let b = known r.outputs prem in
        sent_good (Takes at p m r.outputs) at r.outputs w 0 (es ++ ds) s u refl refl (omega arith)
        (passes_none c n x y at r.outputs prem.2.0 (takes_none c (family n) p (no_children n net alone) m s.parent)) refl b.good.ways b.good)
        (λ is prem.
        let b = known t.outputs prem in
        let x' = passing.takes x y c codec n at is (place n at) (own_is n at) (s.current at) p (class_of n p) s.clock (s.elements at) (b.good.ways at) b.bytes m b.read b.fair b.single prem.2.0 in
        sent_good (Takes at p m t.outputs) at t.outputs w (message_heavy x y c at m) (es ++ ds) s v refl refl b.heavy x'.passes refl (set_ways at t.element s x'.ways b.good.ways) b.good)

    fall_good : (at : As) (p : Peer) (s : Core) (ds : Transcript) → I ds s → (let g = fall Pin Segment c n open_of at p (record { state = s; deeds = [] }) in I (g.deeds ++ ds) g.state)
    fall_good at p s ds held =
        let r = parent.downed p s.parent in
        let t = downed p (s.elements at) in
        let u = with_parent Pin Segment c n open_of r.parent s in
        let v = with_element Pin Segment c n open_of at t.element s in
        pick ds (same_as at parent_as)
        (record { state = puts Pin Segment c n open_of at r.outputs u; deeds = Downs at p r.outputs ∷ [] })
        (record { state = puts Pin Segment c n open_of at t.outputs v; deeds = Downs at p t.outputs ∷ [] })
        (λ is prem.
        let h = held (older (Downs at p r.outputs) ds prem) in
        sent_good (Downs at p r.outputs) at r.outputs 0 0 ds s u refl refl (omega arith) (passes_none c n x y at r.outputs prem.2.0 (none_lost (parent.lost p s.parent.pending.rows))) refl h.ways h)
        (λ is prem.
        let h = held (older (Downs at p t.outputs) ds prem) in
        sent_good (Downs at p t.outputs) at t.outputs 0 0 ds s v refl refl (omega arith) (passes_none c n x y at t.outputs prem.2.0 (none_lost (lost p (s.elements at).pending.rows))) refl
        (set_ways at t.element s (ways_up p false (s.elements at).ways (h.ways at)) h.ways) h)

    rise_good : (at : As) (p : Peer) (s : Core) (ds : Transcript) → I ds s → (let g = rise Pin Segment c n open_of at p (record { state = s; deeds = [] }) in I (g.deeds ++ ds) g.state)
    rise_good at p s ds held =
        let u = with_parent Pin Segment c n open_of (parent.upped p s.parent) s in
        let v = with_element Pin Segment c n open_of at (upped p (s.elements at)) s in
        pick ds (same_as at parent_as)
        (record { state = u; deeds = Ups at p ∷ [] })
        (record { state = v; deeds = Ups at p ∷ [] })
        (λ is prem. let h = held (older (Ups at p) ds prem) in quiet_good (Ups at p) ds u refl refl (same_good 0 ds s u refl refl h))
        (λ is prem.
        let h = held (older (Ups at p) ds prem) in
        quiet_good (Ups at p) ds v refl refl (record { fair = h.fair; ways = set_ways at (upped p (s.elements at)) s (ways_up p true (s.elements at).ways (h.ways at)) h.ways; few = h.few }))

    -- ---- the first message of a queue is taken

    front_fair : (a b : As) (bytes : Bytes) (rest : List Bytes) (s : Core) → s.queues a b ≡ bytes ∷ rest → QueuesFair c n s → IsFair c n bytes × AreFair c n rest
    front_fair a b bytes rest s is fair = subst (λ (q : List Bytes). AreFair c n q) is (fair a b)

    pop_good : (a b : As) (bytes : Bytes) (rest : List Bytes) (s t : Core) (ds : Transcript) → s.queues a b ≡ bytes ∷ rest → t.queues ≡ set_pair a b rest s.queues → t.elements ≡ s.elements → Good 0 ds s →
        Good (read_heavy x y c b (c.read bytes)) (Pops a b ∷ ds) t
    pop_good a b bytes rest s t ds is queues elements h =
        let u : Core = record s { queues = set_pair a b rest s.queues } in
        same_good (read_heavy x y c b (c.read bytes)) (Pops a b ∷ ds) u t queues elements (record {
          fair = set_fair c n a b rest s.queues (front_fair a b bytes rest s is h.fair).1 h.fair;
          ways = h.ways;
          few = λ k. plain (asks x y (Pops a b ∷ ds)) (asks x y ds) (read_heavy x y c b (c.read bytes)) (grid x y c (set_pair a b rest s.queues) k) (heard (Pops a b ∷ ds)) (heard ds) refl refl
              (popped_less x y c a b bytes rest s.queues is (asks x y ds) (heard ds) (λ l. before (asks x y ds) (grid x y c s.queues l) (heard ds) (h.few l)) k);
        })
      where
        plain : (a' a'' r g t' t'' : ℕ) → a' ≡ a'' + 0 → t' ≡ 0 + t'' → a'' + r + g ≤ t'' → a' + r + g ≤ t'
        plain a' a'' r g t' t'' one two three = omega (arith, one, two, three)

        before : (a' g m : ℕ) → a' + 0 + g ≤ m → a' + g ≤ m
        before a' g m one = omega (arith, one)

    lighter : (w : ℕ) (ds : Transcript) (s : Core) → Good w ds s → Good 0 ds s
    lighter w ds s h = record { fair = h.fair; ways = h.ways; few = λ k. plain (asks x y ds) (grid x y c s.queues k) (heard ds) (h.few k) }
      where
        plain : (a g m : ℕ) → a + w + g ≤ m → a + 0 + g ≤ m
        plain a g m one = omega (arith, one)

    -- ---- links are cleared

    empty_less : (b : As) (q : List Bytes) → queue_heavy x y c b [] ≤ queue_heavy x y c b q
    empty_less b q = omega arith

    clear_good : (z : Adjacency) (s : Core) (ds : Transcript) → Good 0 ds s → Good 0 (Clears z.lower z.upper ∷ ds) (clear Pin Segment c n open_of z (record { state = s; deeds = [] })).state
    clear_good z s ds h =
        let q = set_pair z.upper z.lower [] s.queues in
        let t = (clear Pin Segment c n open_of z (record { state = s; deeds = [] })).state in
        quiet_good (Clears z.lower z.upper) ds t refl refl (record {
          fair = set_fair c n z.lower z.upper [] q tt (set_fair c n z.upper z.lower [] s.queues tt h.fair);
          ways = h.ways;
          few = λ k. plain (asks x y ds) (grid x y c (set_pair z.lower z.upper [] q) k) (grid x y c q k) (grid x y c s.queues k) (heard ds)
              (grid_no_more x y c z.lower z.upper [] q (empty_less z.upper (q z.lower z.upper)) k) (grid_no_more x y c z.upper z.lower [] s.queues (empty_less z.lower (s.queues z.upper z.lower)) k) (h.few k);
        })
      where
        plain : (a g'' g' g m : ℕ) → g'' ≤ g' → g' ≤ g → a + 0 + g ≤ m → a + 0 + g'' ≤ m
        plain a g'' g' g m one two three = omega (arith, one, two, three)

    -- ---- acts

    outside_fair : (bytes : Bytes) (m : Message) → AreOctets bytes → IsSingle m → c.read bytes ≡ Some m → IsFair c n bytes
    outside_fair bytes m octets single read asked is =
        let both : Some m ≡ Some (messages.PcReq asked) = sym read ∙ is in
        let same : m ≡ messages.PcReq asked = cc in
        (octets, subst (λ (z : Message). IsSingle z) same single)

    act_good : (ds : Transcript) (s t : Core) (es : Transcript) → I ds s → Acts Pin Segment c n open_of s es t → I (es ++ ds) t
    act_good ds s t es held (rests s' t' same) = λ prem. same_good 0 ds s t same.queues same.elements (held prem)
    act_good ds s t es held (hears i bytes m s' read) =
        give_good 0 (element_of n i) (Outside i) m s [] ds
        (λ os prem.
        let r = prem.0.0 in
        record {
          bytes = r.2;
          read = λ asks is. r.5 ∙ ap (λ (z : Message). Some z) (asks_read c r.6 r.4 asks (sym r.7 ∙ is));
          fair = outside_fair r.2 r.4 r.3 (single_back c r.6 r.4 (subst (λ (z : Message). IsSingle z) r.7 prem.1.0)) r.5;
          single = prem.1.0;
          heavy = let few = message_few x y c codec n (element_of n i) m prem.1.0 in omega (arith, few);
          good = held (older (Takes (element_of n i) (Outside i) m os) ds prem);
        })
    act_good ds s t es held (carries a b bytes rest m s' u is read same) =
        give_good (read_heavy x y c b (c.read bytes)) b (Inner a) m u (Pops a b ∷ []) ds
        (λ os prem.
        let h = held (older (Pops a b) ds (older (Takes b (Inner a) m os) (Pops a b ∷ ds) prem)) in
        let fair = (front_fair a b bytes rest s is h.fair).0 in
        record {
          bytes = bytes;
          read = λ asks is'. read ∙ ap (λ (z : Message). Some z) is';
          fair = fair;
          single = single_of bytes m fair read;
          heavy = let weighs : read_heavy x y c b (c.read bytes) ≡ message_heavy x y c b m = ap (λ (o : Option Message). read_heavy x y c b o) read in omega (arith, weighs);
          good = pop_good a b bytes rest s u ds is same.queues same.elements h;
        })
    act_good ds s t es held (nods a b bytes rest s' is) = λ prem.
        lighter (read_heavy x y c b (c.read bytes)) (Pops a b ∷ ds) (popped Pin Segment c n open_of a b rest s) (pop_good a b bytes rest s (popped Pin Segment c n open_of a b rest s) ds is refl refl (held (older (Pops a b) ds prem)))
    act_good ds s t es held (hands i bytes s' t' same) = λ prem. quiet_good (Hands i bytes) ds t refl refl (same_good 0 ds s t same.queues same.elements (held (older (Hands i bytes) ds prem)))
    act_good ds s t es held (rises at p s') = rise_good at p s ds held
    act_good ds s t es held (falls at p s') = fall_good at p s ds held
    act_good ds s t es held (says at p o s') = λ prem.
        let out : Output = record { to = p; message = own_message o } in
        let h = held (older (Says at out) ds prem) in
        sent_good (Says at out) at (out ∷ []) 0 0 ds s s refl refl (omega arith) (passes_none c n x y at (out ∷ []) prem.2.0 (own_quiet o, tt)) refl h.ways h
    act_good ds s t es held (clears z s') = λ prem. clear_good z s ds (held (older (Clears z.lower z.upper) ds prem))
    act_good ds s t es held (expires now s') = λ prem.
        let h = held (older (Expires now) ds prem) in
        quiet_good (Expires now) ds t refl refl (record { fair = h.fair; ways = h.ways; few = h.few })

    -- ---- loads and solves

    load_good : (ds : Transcript) (s : Plant) (d : As) (g : Topology) → IsGiven (event.Load d g) → I ds s → I (Loads d g ∷ ds) (load_new c n d g s).state
    load_good ds s d g given held = λ prem.
        let h = held (older (Loads d g) ds prem) in
        quiet_good (Loads d g) ds (load_new c n d g s).state refl refl (record { fair = h.fair; ways = h.ways; few = h.few })

    solve_good : (ds : Transcript) (s : Plant) (d : As) (k : ℕ) (h : Happened) → I ds s → ElementSolves c n d k s h → I (h.deeds ++ ds) h.state
    solve_good ds s d k h held z =
        let r = commit c (place n d) (k, z.held) z.down s.clock (λ b. b.segment) (job_found z.rows.source_known z.rows.target_known z.rows.best) (s.elements d) in
        let u = with_element Pin Segment c n open_of d r.element s in
        let calm = calm_commit Pin Segment c (place n d) (k, z.held) z.down s.clock (λ b. b.segment) z.rows.source_known z.rows.target_known z.rows.best (s.elements d) in
        subst (λ (h' : Happened). I (h'.deeds ++ ds) h'.state) (sym z.is) (λ prem.
        let old = held (older (Solves d k r.outputs r.element.keys.issued) ds prem) in
        sent_good (Solves d k r.outputs r.element.keys.issued) d r.outputs 0 0 ds s u refl refl (omega arith) (passes_none c n x y d r.outputs prem.2.0 calm.none) refl
        (set_ways d r.element s (subst WaysOk (sym calm.ways) (old.ways d)) old.ways) old)

    upper_good : (ds : Transcript) (s : Plant) (k : ℕ) (h : Happened) → I ds s → ParentSolves c n k s h → I (h.deeds ++ ds) h.state
    upper_good ds s k h held z =
        let r = parent.commit c (k, z.held) z.answer s.parent in
        let u = with_parent Pin Segment c n open_of r.parent s in
        subst (λ (h' : Happened). I (h'.deeds ++ ds) h'.state) (sym z.is) (λ prem.
        let old = held (older (Solves parent_as k r.outputs []) ds prem) in
        sent_good (Solves parent_as k r.outputs []) parent_as r.outputs 0 0 ds s u refl refl (omega arith) (passes_none c n x y parent_as r.outputs prem.2.0 (commit_none c (k, z.held) z.answer s.parent)) refl old.ways old)

    -- ---- the beginning

    bare_good : I [] (events.bare Pin Segment c n open_of first_pin)
    bare_good = λ prem. record {
      fair = λ a b. tt;
      ways = λ d. ways_fit_all (inner_ways n d) (routes n d) (new_ways d (adjacencies n));
      few = λ k. (let none = nothing k in omega (arith, none));
    }
      where
        nothing : (k : ℕ) → grid x y c (λ (a b : As). []) k ≡ 0
        nothing k = below_none (λ i. row x y c (λ (a b : As). []) k (as_of i)) (λ i. below_none (λ j. queue_heavy x y c (as_of j) []) (λ j. refl) k) k

    pub asked_few : (es : List Entry) (s : Plant) → Run c n es s → asks x y (deeds_of c n es) ≤ heard (deeds_of c n es)
    asked_few es s run =
        let good = run_holds c n I bare_good act_good load_good solve_good upper_good es s run (Reading.outside_is_read c codec n es s run, (run_outside c n codec es s run).1, run_meant es s run) in
        plain (asks x y (deeds_of c n es)) (heard (deeds_of c n es)) (good.few 0)
      where
        plain : (a m : ℕ) → a + 0 + 0 ≤ m → a ≤ m
        plain a m one = omega (arith, one)
