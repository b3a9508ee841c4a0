-- One induction over the acts of a run: where what solves and sessions sent is in written form, all is. What was sent so far is written,
-- so what is read has numbers that fit, so what is sent next is written.
use Rattle.std.proofs.Common.{◌≡◌, ℕ, Bool, true, false, cond, Option, Some, None, List, [], ◌∷◌, ◌++◌, length, map, sym, subst, refl, ap, ◌∙◌, inl, arith}
use Rattle.std.specs.List.{AllByRecursion}
use Rattle.te_links.specs.Rows.{Rows as Topology}
use Rattle.plant_model.specs.Types.{As, Peer, Outside, Inner, Message, Asked, Reply, Own, NetworkParts}
use Rattle.pcep_subobjects.specs.Subobjects.{AreOctets}
use Rattle.pcep_messages.specs.declared.message.Message.TheVariants as messages
use Rattle.pcep_messages.specs.Spelling.{IsWritten}
use Rattle.pcep_session.specs.declared.actions.Own.TheVariants as own
use Rattle.disclosure.specs.Shown.{open_of}
use Rattle.plant_text.specs.Names.{same_as, parent_as}
use Rattle.plant_text.specs.Settings.{class_of, Adjacency, adjacencies}
use Rattle.plant_model.specs.declared.output.Output.{Output}
use Rattle.plant_model.specs.declared.event.Event.TheVariants as event
use Rattle.plant_model.specs.Wire.{Bytes, Codec}
use Rattle.plant_model.specs.Laws.{IsCodec, IsNetwork, AreWords}
use Rattle.plant_model.specs.Element.{Element, Way, upped, downed}
use Rattle.plant_model.specs.Taking.{take}
use Rattle.plant_model.specs.Solving.{commit, job_found}
use Rattle.plant_model.specs.BorderGraph.{Found}
use Rattle.plant_model.specs.Parent as parent
use Rattle.plant_model.specs.Parent.{AskingRow}
use Rattle.plant_model.specs.declared.route.Route.{Route}
use Rattle.plant_model.specs.Routes.{routes}
use Rattle.plant_model.specs.Settings.{place, family, inner_ways, outer_way, way, ways_along}
use Rattle.plant_model.specs.State.{State, Deed, Loads, Pops, Takes, Says, Ups, Downs, Clears, Solves, Expires, Hands}
use Rattle.plant_model.specs.Deeds.{Going, element_of, own_message, with_parent, with_element, puts, give, rise, fall}
use Rattle.plant_model.specs.Outside.{heeded_by, heeded_in}
use Rattle.plant_model.specs.Events as events
use Rattle.plant_model.specs.Plant.{Pin, Segment, first_pin, Plant, Happened, Entry, Run, deeds_of, IsGiven, load_new, ask, ElementSolves, ParentSolves}
use Rattle.plant_laws.specs.Transcript.{Transcript, Standing, standing, outputs_at}
use Rattle.plant_laws.specs.Standing.{texts}
use Rattle.plant_laws.specs.Standing as standing_texts
use Rattle.plant_laws.specs.Sending.{AreAll, DeedSends, AllSent}
use Rattle.plant_laws.specs.Reading.{AreRead}
use Rattle.plant_laws.proofs.Runs.Acts.{Acts, rests, hears, carries, nods, hands, rises, falls, says, clears, expires}
use Rattle.plant_laws.proofs.Runs.Induction.{run_holds}
use Rattle.plant_laws.proofs.Runs.Queues.{Stand, act_stands, left_stands, solve_stands, upper_stands}
use Rattle.plant_laws.proofs.Runs.Rows.{In}
use Rattle.plant_laws.proofs.Once.Takes.{IsSingle, own_is}
use Rattle.plant_laws.proofs.Runs.Heeding.{heeded_words}
use Rattle.plant_laws.proofs.Runs.Inboxes.{AreOutsideSingle, run_outside}
use Rattle.plant_laws.proofs.WrittenForm.ReadBack.{standing_sent}
use Rattle.plant_laws.proofs.WrittenForm.Sent.{run_sent}
use Rattle.plant_laws.proofs.Once.Opened.{puts_elements, puts_parent}
use Rattle.plant_laws.proofs.Runs.Reading as Reading
use Rattle.plant_laws.proofs.Runs.Topologies as Topologies
use Rattle.plant_laws.proofs.Runs.ElementsKept as kept
use Rattle.plant_laws.proofs.WrittenForm.BestFits.{SegFits, seg_written, rows_fit, segments_fit}
use Rattle.plant_laws.proofs.WrittenForm.ElementSays.{IsKnown, ReplyKnown, Known, WaysOk, Holds, take_fine, downed_fine, upped_fine, ticked_fine, commit_keeps}
use Rattle.plant_laws.proofs.WrittenForm.ParentSays.{IsKnownAbove, KnownAbove, is_family, IsDown, OutsUp, ups_written, ParentHolds, given_take_fine, given_downed_fine, given_upped_fine, given_commit_keeps}

-- ---- what is left: what solves and sessions send

abbrev pub LeftSends : (Message → Type 0) → Deed Segment → Type 0
LeftSends Q (Solves at k os keys) = AreAll Q os
LeftSends Q (Says at o) = AreAll Q (o ∷ [])
LeftSends Q (Takes at p m os) = Unit {0}
LeftSends Q (Downs at p os) = Unit {0}
LeftSends Q (Loads at g) = Unit {0}
LeftSends Q (Pops a b) = Unit {0}
LeftSends Q (Ups at p) = Unit {0}
LeftSends Q (Clears a b) = Unit {0}
LeftSends Q (Expires now) = Unit {0}
LeftSends Q (Hands i bytes) = Unit {0}

abbrev pub AllLeft : (Message → Type 0) → Transcript → Type 0
AllLeft Q [] = Unit {0}
AllLeft Q (d ∷ ds) = LeftSends Q d × AllLeft Q ds

-- what the parent asks of its children
abbrev pub AllDown : Codec → Transcript → Type 0
AllDown c [] = Unit {0}
AllDown c (d ∷ ds) = AllByRecursion (λ (o : Output). IsDown c o.to o.message) (outputs_at parent_as d) × AllDown c ds

-- both of all deeds
abbrev DeedBoth : Codec → Deed Segment → Type 0
DeedBoth c d = DeedSends IsWritten d × AllByRecursion (λ (o : Output). IsDown c o.to o.message) (outputs_at parent_as d)

abbrev AllBoth : Codec → Transcript → Type 0
AllBoth c [] = Unit {0}
AllBoth c (d ∷ ds) = DeedBoth c d × AllBoth c ds

sent_of : (c : Codec) (ds : Transcript) → AllBoth c ds → AllSent IsWritten ds
sent_of c [] h = tt
sent_of c (d ∷ ds) h = (h.0.0, sent_of c ds h.1)

down_of : (c : Codec) (ds : Transcript) → AllBoth c ds → AllDown c ds
down_of c [] h = tt
down_of c (d ∷ ds) h = (h.0.1, down_of c ds h.1)

-- outputs of the parent, and of another
up_down : (c : Codec) (b : Bool) (os : List Output) → OutsUp c os → AllByRecursion (λ (o : Output). IsDown c o.to o.message) (cond b os [])
up_down c false os h = tt
up_down c true [] h = tt
up_down c true (o ∷ os) h = (h.0.1, up_down c true os h.1)

low_down : (c : Codec) (b : Bool) (os : List Output) → b ≡ false → AllByRecursion (λ (o : Output). IsDown c o.to o.message) (cond b os [])
low_down c false os is = tt
low_down c true os is = absurd (let out : true ≡ false = is in cc)

own_down : (c : Codec) (b : Bool) (p : Peer) (o : Own) → AllByRecursion (λ (o : Output). IsDown c o.to o.message) (let out : Output = record { to = p; message = own_message o } in cond b (out ∷ []) [])
own_down c false p o = tt
own_down c true p (own.Open offer) = (tt, tt)
own_down c true p own.Keepalive = (tt, tt)
own_down c true p (own.Error kind value) = (tt, tt)
own_down c true p (own.Close why) = (tt, tt)

commit_down : (c : Codec) (h : AskingRow) (o : Option Found) (k : parent.Parent) → AllByRecursion (λ (o : Output). IsDown c o.to o.message) (parent.commit c h o k).outputs
commit_down c h None k = (tt, tt)
commit_down c h (Some a) k = (tt, tt)

-- ---- what is known of what is read

asks_known : (c : Codec) → IsCodec c → (own : As) (bytes : Bytes) (asks : List Asked) → AreOctets bytes → c.read bytes ≡ Some (messages.PcReq asks) → length asks ≡ 1 → AllByRecursion (IsKnown c own) asks
asks_known c codec own bytes [] octets read one = absurd (let none : 0 ≡ 1 = one in omega (arith, none))
asks_known c codec own bytes (a ∷ []) octets read one = (record { numbers = codec.numbers.checks bytes a own octets read; sends = λ flags x w admits. codec.onward.sends bytes a own flags x w octets read admits }, tt)
asks_known c codec own bytes (a ∷ b ∷ rest) octets read one = absurd (omega (arith, one))

asks_above : (c : Codec) → IsCodec c → (bytes : Bytes) (asks : List Asked) → AreOctets bytes → c.read bytes ≡ Some (messages.PcReq asks) → length asks ≡ 1 → AllByRecursion (IsKnownAbove c) asks
asks_above c codec bytes [] octets read one = absurd (let none : 0 ≡ 1 = one in omega (arith, none))
asks_above c codec bytes (a ∷ []) octets read one =
    ((record { numbers = codec.numbers.checks bytes a parent_as octets read; sends = λ flags x w admits. codec.onward.sends bytes a parent_as flags x w octets read admits }, λ flags x w admits. codec.onward.admits_ipv4 bytes a flags x w octets read admits), tt)
asks_above c codec bytes (a ∷ b ∷ rest) octets read one = absurd (omega (arith, one))

-- a message of requests has one, and so has one of replies
abbrev pub IsAlone : Message → Type 0
IsAlone (messages.PcReq asks) = length asks ≡ 1
IsAlone (messages.PcRep replies) = length replies ≡ 1
IsAlone m = Unit {0}

own_alone : (o : Own) → IsAlone (own_message o)
own_alone (own.Open offer) = tt
own_alone own.Keepalive = tt
own_alone (own.Error kind value) = tt
own_alone (own.Close why) = tt

pub sent_alone : (c : Codec) (n : NetworkParts) (es : List Entry) (s : Plant) → Run c n es s → AllSent IsAlone (deeds_of c n es)
sent_alone c n es s run = run_sent IsAlone (λ y w t rest. refl) (λ flags id a. refl) (λ flags id. tt) (λ rp kind value. tt) own_alone c n es s run

module _ (c : Codec) (codec : IsCodec c) (bytes : Bytes) (octets : AreOctets bytes) where
  outside_replies : (i : ℕ) (rs : List Reply) → AllByRecursion (λ (r : Reply). AreWords (r.flags, r.id)) rs → AllByRecursion (ReplyKnown (Outside i)) rs
  outside_replies i [] words = tt
  outside_replies i (r ∷ rs) words = ((words.0, λ e. absurd (let out : false ≡ true = e in cc)), outside_replies i rs words.1)

  outside_known : (own : As) (i : ℕ) (m : Message) → c.read bytes ≡ Some m → IsSingle m → Known c own (Outside i) m
  outside_known own i (messages.PcReq asks) read one = asks_known c codec own bytes asks octets read one
  outside_known own i (messages.PcRep replies) read one = outside_replies i replies (codec.numbers.replies bytes replies octets read)
  outside_known own i (messages.PcNtf notices) read one = tt
  outside_known own i (messages.PcErr reports) read one = tt
  outside_known own i (messages.Open body) read one = tt
  outside_known own i messages.Keepalive read one = tt
  outside_known own i (messages.Close why) read one = tt
  outside_known own i (messages.Other kind) read one = tt

  module _ (sent : ℕ → Option ℕ) where
    heard_outside : (own : As) (i : ℕ) (raw m : Message) → c.read bytes ≡ Some raw → m ≡ heeded_in c sent raw → IsSingle m → Known c own (Outside i) m
    heard_outside own i raw m read heard one = subst (Known c own (Outside i)) (sym heard) (go raw read (subst IsSingle heard one))
      where
        go : (raw' : Message) → c.read bytes ≡ Some raw' → IsSingle (heeded_in c sent raw') → Known c own (Outside i) (heeded_in c sent raw')
        go (messages.PcReq asks) read' one' = outside_known own i (messages.PcReq asks) read' one'
        go (messages.PcRep replies) read' one' = outside_replies i (map (λ (r : Reply). heeded_by c (sent r.id) r) replies) (heeded_words c sent replies (codec.numbers.replies bytes replies octets read'))
        go (messages.PcNtf notices) read' one' = tt
        go (messages.PcErr reports) read' one' = tt
        go (messages.Open body) read' one' = tt
        go messages.Keepalive read' one' = tt
        go (messages.Close why) read' one' = tt
        go (messages.Other kind) read' one' = tt

  inner_known : (own : As) (p : Peer) (m : Message) → c.read bytes ≡ Some m → IsAlone m → IsWritten m → Known c own p m
  inner_known own p (messages.PcReq asks) read one written = asks_known c codec own bytes asks octets read one
  inner_known own p (messages.PcRep []) read one written = tt
  inner_known own p (messages.PcRep (r ∷ [])) read one written = (((codec.numbers.replies bytes (r ∷ []) octets read).0, λ e. written), tt)
  inner_known own p (messages.PcRep (r ∷ q ∷ rs)) read one written = absurd (omega (arith, one))
  inner_known own p (messages.PcNtf notices) read one written = tt
  inner_known own p (messages.PcErr reports) read one written = tt
  inner_known own p (messages.Open body) read one written = tt
  inner_known own p messages.Keepalive read one written = tt
  inner_known own p (messages.Close why) read one written = tt
  inner_known own p (messages.Other kind) read one written = tt

  above_known : (m : Message) → c.read bytes ≡ Some m → IsSingle m → KnownAbove c m
  above_known (messages.PcReq asks) read one = asks_above c codec bytes asks octets read one
  above_known (messages.PcRep replies) read one = codec.numbers.replies bytes replies octets read
  above_known (messages.PcNtf notices) read one = tt
  above_known (messages.PcErr reports) read one = tt
  above_known (messages.Open body) read one = tt
  above_known messages.Keepalive read one = tt
  above_known (messages.Close why) read one = tt
  above_known (messages.Other kind) read one = tt

module _ (c : Codec) (codec : IsCodec c) (bytes : Bytes) (octets : AreOctets bytes) (sent : ℕ → Option ℕ) where
  heard_above : (raw m : Message) → c.read bytes ≡ Some raw → m ≡ heeded_in c sent raw → IsSingle m → KnownAbove c m
  heard_above raw m read heard one = subst (KnownAbove c) (sym heard) (go raw read (subst IsSingle heard one))
    where
      go : (raw' : Message) → c.read bytes ≡ Some raw' → IsSingle (heeded_in c sent raw') → KnownAbove c (heeded_in c sent raw')
      go (messages.PcReq asks) read' one' = above_known c codec bytes octets (messages.PcReq asks) read' one'
      go (messages.PcRep replies) read' one' = heeded_words c sent replies (codec.numbers.replies bytes replies octets read')
      go (messages.PcNtf notices) read' one' = tt
      go (messages.PcErr reports) read' one' = tt
      go (messages.Open body) read' one' = tt
      go messages.Keepalive read' one' = tt
      go (messages.Close why) read' one' = tt
      go (messages.Other kind) read' one' = tt

alone_single : (m : Message) → IsAlone m → IsSingle m
alone_single (messages.PcReq asks) one = one
alone_single (messages.PcRep replies) one = tt
alone_single (messages.PcNtf notices) one = tt
alone_single (messages.PcErr reports) one = tt
alone_single (messages.Open body) one = tt
alone_single messages.Keepalive one = tt
alone_single (messages.Close why) one = tt
alone_single (messages.Other kind) one = tt

-- ---- the opening state

pub ways_fit_all : (ws : List Way) (rs : List Route) → WaysOk ws → WaysOk (ws ++ map outer_way rs)
ways_fit_all [] [] ok = tt
ways_fit_all [] (r ∷ rs) ok = (omega arith, ways_fit_all [] rs tt)
ways_fit_all (w ∷ ws) rs ok = (ok.0, ways_fit_all ws rs ok.1)

pub ways_fit : (d : As) (xs : List Adjacency) → WaysOk (ways_along d xs)
ways_fit d [] = tt
ways_fit d (x ∷ xs) = go (same_as x.lower d) (same_as x.upper d) (ways_fit d xs)
  where
    go : (a b : Bool) → WaysOk (ways_along d xs) → WaysOk (cond a (way x.upper ∷ ways_along d xs) (cond b (way x.lower ∷ ways_along d xs) (ways_along d xs)))
    go true b more = (omega arith, more)
    go false true more = (omega arith, more)
    go false false more = more

module _ (c : Codec) (codec : IsCodec c) (n : NetworkParts) (net : IsNetwork n) where
  abbrev Core : Type 0
  Core = State Pin Segment

  abbrev Fits : Element Pin Segment → Type 0
  Fits k = Holds Pin Segment open_of SegFits seg_written k

  abbrev pub Prem : Transcript → Type 0
  Prem ds = AreRead c n ds × AreOutsideSingle ds × AllSent IsAlone ds × AllLeft IsWritten ds

  older : (d : Deed Segment) (ds : Transcript) → Prem (d ∷ ds) → Prem ds
  older d ds p = (p.0.1, p.1.1, p.2.1, p.3.1)

  pub record AllFit (s : Core) : Type 0 where
    pub elements : (d : As) → Fits (s.elements d)
    pub parent : ParentHolds s.parent

  abbrev IfFit : Transcript → Core → Type 0
  IfFit ds s = Prem ds → AllBoth c ds × AllFit s

  pub record I (ds : Transcript) (s : Core) : Type 0 where
    pub stand : Stand c n ds s
    pub good : kept.Good c n Topologies.IsPinned Topologies.Pinned s
    pub fit : IfFit ds s

  fit_same : (s t : Core) → t.elements ≡ s.elements → t.parent ≡ s.parent → AllFit s → AllFit t
  fit_same s t e p h = record { elements = subst (λ (f : As → Element Pin Segment). (d : As) → Fits (f d)) (sym e) h.elements; parent = subst ParentHolds (sym p) h.parent }

  fit_puts : (at : As) (os : List Output) (s : Core) → AllFit s → AllFit (puts Pin Segment c n open_of at os s)
  fit_puts at os s h = fit_same s (puts Pin Segment c n open_of at os s) (puts_elements c n at os s) (puts_parent c n at os s) h

  fit_element : (at : As) (k : Element Pin Segment) (s : Core) → Fits k → AllFit s → AllFit (with_element Pin Segment c n open_of at k s)
  fit_element at k s new h = record { elements = λ d. pick d (same_as at d); parent = h.parent }
    where
      pick : (d : As) (b : Bool) → Fits (cond b k (s.elements d))
      pick d true = new
      pick d false = h.elements d

  fit_parent : (k : parent.Parent) (s : Core) → ParentHolds k → AllFit s → AllFit (with_parent Pin Segment c n open_of k s)
  fit_parent k s new h = record { elements = h.elements; parent = new }

  pick_fit : (ds : Transcript) (b : Bool) (g h : Going Pin Segment) → (b ≡ true → IfFit (g.deeds ++ ds) g.state) → (b ≡ false → IfFit (h.deeds ++ ds) h.state) → IfFit ((cond b g h).deeds ++ ds) (cond b g h).state
  pick_fit ds true g h x y = x refl
  pick_fit ds false g h x y = y refl

  -- what is given, where it is known
  give_fit : (at : As) (p : Peer) (m : Message) (s : Core) (es ds : Transcript) →
      ((os : List Output) → Prem (Takes at p m os ∷ es ++ ds) → AllBoth c (es ++ ds) → Known c at p m × KnownAbove c m) → IfFit (es ++ ds) s →
      (let g = give Pin Segment c n open_of at p m (record { state = s; deeds = es }) in IfFit (g.deeds ++ ds) g.state)
  give_fit at p m s es ds known held =
      let r = parent.take c (family n) p m s.parent in
      let t = take c open_of (place n at) (s.current at) p (class_of n p) s.clock m (s.elements at) in
      pick_fit ds (same_as at parent_as)
      (record { state = puts Pin Segment c n open_of at r.outputs (with_parent Pin Segment c n open_of r.parent s); deeds = Takes at p m r.outputs ∷ es })
      (record { state = puts Pin Segment c n open_of at t.outputs (with_element Pin Segment c n open_of at t.element s); deeds = Takes at p m t.outputs ∷ es })
      (λ is prem.
      let before = held (older (Takes at p m r.outputs) (es ++ ds) prem) in
      let x = given_take_fine c codec (family n) (is_family n net) p m s.parent (known r.outputs prem before.0).1 before.1.parent in
      (((ups_written c r.outputs x.0, up_down c (same_as at parent_as) r.outputs x.0), before.0), fit_puts at r.outputs (with_parent Pin Segment c n open_of r.parent s) (fit_parent r.parent s x.1 before.1)))
      (λ is prem.
      let before = held (older (Takes at p m t.outputs) (es ++ ds) prem) in
      let at_own : Known c (place n at).own p m = subst (λ (a : As). Known c a p m) (sym (own_is n at)) (known t.outputs prem before.0).0 in
      let x = take_fine Pin Segment open_of SegFits seg_written c codec (place n at) (s.current at) p (class_of n p) s.clock m (s.elements at) at_own (before.1.elements at) in
      (((x.0, low_down c (same_as at parent_as) t.outputs is), before.0), fit_puts at t.outputs (with_element Pin Segment c n open_of at t.element s) (fit_element at t.element s x.1 before.1)))

  fall_fit : (at : As) (p : Peer) (s : Core) (ds : Transcript) → IfFit ds s → (let g = fall Pin Segment c n open_of at p (record { state = s; deeds = [] }) in IfFit (g.deeds ++ ds) g.state)
  fall_fit at p s ds held =
      let r = parent.downed p s.parent in
      let t = downed p (s.elements at) in
      pick_fit ds (same_as at parent_as)
      (record { state = puts Pin Segment c n open_of at r.outputs (with_parent Pin Segment c n open_of r.parent s); deeds = Downs at p r.outputs ∷ [] })
      (record { state = puts Pin Segment c n open_of at t.outputs (with_element Pin Segment c n open_of at t.element s); deeds = Downs at p t.outputs ∷ [] })
      (λ is prem.
      let before = held (older (Downs at p r.outputs) ds prem) in
      let x = given_downed_fine c codec p s.parent before.1.parent in
      (((ups_written c r.outputs x.0, up_down c (same_as at parent_as) r.outputs x.0), before.0), fit_puts at r.outputs (with_parent Pin Segment c n open_of r.parent s) (fit_parent r.parent s x.1 before.1)))
      (λ is prem.
      let before = held (older (Downs at p t.outputs) ds prem) in
      let x = downed_fine Pin Segment open_of SegFits seg_written p (s.elements at) (before.1.elements at) in
      (((x.0, low_down c (same_as at parent_as) t.outputs is), before.0), fit_puts at t.outputs (with_element Pin Segment c n open_of at t.element s) (fit_element at t.element s x.1 before.1)))

  rise_fit : (at : As) (p : Peer) (s : Core) (ds : Transcript) → IfFit ds s → (let g = rise Pin Segment c n open_of at p (record { state = s; deeds = [] }) in IfFit (g.deeds ++ ds) g.state)
  rise_fit at p s ds held =
      pick_fit ds (same_as at parent_as)
      (record { state = with_parent Pin Segment c n open_of (parent.upped p s.parent) s; deeds = Ups at p ∷ [] })
      (record { state = with_element Pin Segment c n open_of at (upped p (s.elements at)) s; deeds = Ups at p ∷ [] })
      (λ is prem. let before = held (older (Ups at p) ds prem) in (((tt, tt), before.0), fit_parent (parent.upped p s.parent) s (given_upped_fine p s.parent before.1.parent) before.1))
      (λ is prem. let before = held (older (Ups at p) ds prem) in (((tt, tt), before.0), fit_element at (upped p (s.elements at)) s (upped_fine Pin Segment open_of SegFits seg_written p (s.elements at) (before.1.elements at)) before.1))

  -- the first message of a queue was written, and is what stood there
  front : (a b : As) (bytes : Bytes) (rest : List Bytes) (m : Message) (s : Core) (ds : Transcript) → Stand c n ds s → AllSent IsWritten ds → AllSent IsAlone ds → s.queues a b ≡ bytes ∷ rest → c.read bytes ≡ Some m →
      AreOctets bytes × IsWritten m × IsAlone m
  front a b bytes rest m s ds stand sent alone is read = go (standing a b ds) refl
    where
      go : (xs : List Standing) → standing a b ds ≡ xs → AreOctets bytes × IsWritten m × IsAlone m
      go [] e =
          let no : bytes ∷ rest ≡ [] = sym is ∙ stand a b ∙ ap (λ (l : List Standing). texts c (standing_texts.messages l)) e in
          absurd (let out : bytes ∷ rest ≡ [] = no in cc)
      go (x ∷ xs) e =
          let both : bytes ∷ rest ≡ c.text x.message ∷ texts c (standing_texts.messages xs) = sym is ∙ stand a b ∙ ap (λ (l : List Standing). texts c (standing_texts.messages l)) e in
          let same : bytes ≡ c.text x.message = cc in
          let inside : In x (standing a b ds) = subst (λ (l : List Standing). In x l) (sym e) (inl refl) in
          let written : IsWritten x.message = standing_sent IsWritten a b ds x sent inside in
          let some : Some m ≡ Some x.message = sym read ∙ ap (λ z. c.read z) same ∙ codec.texts.reads x.message written in
          let meant : x.message ≡ m = cc in
          (subst AreOctets (sym same) (codec.texts.bytes x.message written), subst IsWritten meant written, subst IsAlone meant (standing_sent IsAlone a b ds x alone inside))

  act_fit : (ds : Transcript) (s t : Core) (es : Transcript) → I ds s → Acts Pin Segment c n open_of s es t → IfFit (es ++ ds) t
  act_fit ds s t es held (rests s' t' same) = λ prem. let b = held.fit prem in (b.0, fit_same s t same.elements same.parent b.1)
  act_fit ds s t es held (hears i bytes m s' read) =
      give_fit (element_of n i) (Outside i) m s [] ds
      (λ os prem sent. let r = prem.0.0 in
      (heard_outside c codec r.2 r.3 r.6 (element_of n i) i r.4 m r.5 r.7 prem.1.0, heard_above c codec r.2 r.3 r.6 r.4 m r.5 r.7 prem.1.0)) held.fit
  act_fit ds s t es held (carries a b bytes rest m s' u is read same) =
      let popped : Deed Segment = Pops a b in
      give_fit b (Inner a) m u (popped ∷ []) ds
      (λ os prem sent.
      let p : Prem ds = older popped ds (older (Takes b (Inner a) m os) (popped ∷ ds) prem) in
      let x = front a b bytes rest m s ds held.stand (sent_of c ds sent.1) p.2 is read in
      (inner_known c codec bytes x.0 b (Inner a) m read x.2 x.1, above_known c codec bytes x.0 m read (alone_single m x.2)))
      (λ prem. let x = held.fit (older popped ds prem) in (((tt, tt), x.0), fit_same s u same.elements same.parent x.1))
  act_fit ds s t es held (nods a b bytes rest s' is) = λ prem. let x = held.fit (older (Pops a b) ds prem) in (((tt, tt), x.0), record { elements = x.1.elements; parent = x.1.parent })
  act_fit ds s t es held (hands i bytes s' t' same) = λ prem. let x = held.fit (older (Hands i bytes) ds prem) in (((tt, tt), x.0), fit_same s t same.elements same.parent x.1)
  act_fit ds s t es held (rises at p s') = rise_fit at p s ds held.fit
  act_fit ds s t es held (falls at p s') = fall_fit at p s ds held.fit
  act_fit ds s t es held (says at p o s') = λ prem.
      let out : Output = record { to = p; message = own_message o } in
      let x = held.fit (older (Says at out) ds prem) in (((prem.3.0, own_down c (same_as at parent_as) p o), x.0), fit_puts at (out ∷ []) s x.1)
  act_fit ds s t es held (clears x s') = λ prem. let y = held.fit (older (Clears x.lower x.upper) ds prem) in (((tt, tt), y.0), record { elements = y.1.elements; parent = y.1.parent })
  act_fit ds s t es held (expires now s') = λ prem.
      let x = held.fit (older (Expires now) ds prem) in
      (((tt, tt), x.0), record { elements = λ d. ticked_fine Pin Segment open_of SegFits seg_written now (s.elements d) (x.1.elements d); parent = x.1.parent })

  act_holds : (ds : Transcript) (s t : Core) (es : Transcript) → I ds s → Acts Pin Segment c n open_of s es t → I (es ++ ds) t
  act_holds ds s t es held act = record { stand = act_stands c n ds s t es held.stand act; good = (kept.act_keeps c n Topologies.IsPinned Topologies.Pinned (Topologies.kept c n) s t es act).good held.good; fit = act_fit ds s t es held act }

  load_holds : (ds : Transcript) (s : Plant) (d : As) (g : Topology) → IsGiven (event.Load d g) → I ds s → I (Loads d g ∷ ds) (load_new c n d g s).state
  load_holds ds s d g given held = record {
    stand = left_stands c n s s ds (Loads d g) (λ a. refl) (λ a b. held.stand a b);
    good = record { current = Topologies.loaded_pinned c n s d g given held.good.current; elements = held.good.elements };
    fit = λ prem. let x = held.fit (older (Loads d g) ds prem) in (((tt, tt), x.0), record { elements = x.1.elements; parent = x.1.parent });
  }

  solve_fit : (ds : Transcript) (s : Plant) (d : As) (k : ℕ) (h : Happened) → I ds s → ElementSolves c n d k s h → IfFit (h.deeds ++ ds) h.state
  solve_fit ds s d k h held x =
      let r = commit c (place n d) (k, x.held) x.down s.clock (λ b. b.segment) (job_found x.rows.source_known x.rows.target_known x.rows.best) (s.elements d) in
      let u = with_element Pin Segment c n open_of d r.element s in
      let domain = Topologies.domain_under d k (s.elements d).pending.rows x.held (held.good.elements d) x.is_held in
      let best = rows_fit d x.held.item.pin.topology domain (ask c n d (k, x.held) x.down) x.rows x.right in
      let segments = segments_fit d x.held.item.pin.topology domain (ask c n d (k, x.held) x.down) x.rows.best best.0 in
      subst (λ (h' : Happened). IfFit (h'.deeds ++ ds) h'.state) (sym x.is) (λ prem.
      let b = held.fit (older (Solves d k r.outputs r.element.keys.issued) ds prem) in
      let y = commit_keeps Pin Segment open_of SegFits seg_written c (place n d) (k, x.held) x.down s.clock (λ b. b.segment) x.rows.source_known x.rows.target_known x.rows.best (s.elements d) segments (b.1.elements d) in
      (((prem.3.0, low_down c (same_as d parent_as) r.outputs x.upper), b.0), fit_puts d r.outputs u (fit_element d r.element s y b.1)))

  upper_fit : (ds : Transcript) (s : Plant) (k : ℕ) (h : Happened) → I ds s → ParentSolves c n k s h → IfFit (h.deeds ++ ds) h.state
  upper_fit ds s k h held x =
      let r = parent.commit c (k, x.held) x.answer s.parent in
      let u = with_parent Pin Segment c n open_of r.parent s in
      subst (λ (h' : Happened). IfFit (h'.deeds ++ ds) h'.state) (sym x.is) (λ prem.
      let b = held.fit (older (Solves parent_as k r.outputs []) ds prem) in
      (((prem.3.0, commit_down c (k, x.held) x.answer s.parent), b.0), fit_puts parent_as r.outputs u (fit_parent r.parent s (given_commit_keeps c (k, x.held) x.answer s.parent b.1.parent) b.1)))

  solve_holds : (ds : Transcript) (s : Plant) (d : As) (k : ℕ) (h : Happened) → I ds s → ElementSolves c n d k s h → I (h.deeds ++ ds) h.state
  solve_holds ds s d k h held x = record { stand = solve_stands c n ds s d k h held.stand x; good = (kept.solve_keeps c n Topologies.IsPinned Topologies.Pinned (Topologies.kept c n) s d k h x).good held.good; fit = solve_fit ds s d k h held x }

  upper_holds : (ds : Transcript) (s : Plant) (k : ℕ) (h : Happened) → I ds s → ParentSolves c n k s h → I (h.deeds ++ ds) h.state
  upper_holds ds s k h held x = record { stand = upper_stands c n ds s k h held.stand x; good = (kept.upper_keeps c n Topologies.IsPinned Topologies.Pinned (Topologies.kept c n) s k h x).good held.good; fit = upper_fit ds s k h held x }

  bare_holds : I [] (events.bare Pin Segment c n open_of first_pin)
  bare_holds = record {
    stand = λ a b. refl;
    good = record { current = λ d. Topologies.empty_domain d; elements = λ d. tt };
    fit = λ prem. (tt, record { elements = λ d. (tt, ways_fit_all (inner_ways n d) (routes n d) (ways_fit d (adjacencies n)), tt); parent = (tt, ways_fit parent_as (adjacencies n)) });
  }

  pub run_fits : (es : List Entry) (s : Plant) → Run c n es s → I (deeds_of c n es) s
  run_fits = run_holds c n I bare_holds act_holds load_holds solve_holds upper_holds

  -- Where what solves and sessions sent is in written form, all is, and what is kept fits.
  pub left_is_all : (es : List Entry) (s : Plant) → Run c n es s → AllLeft IsWritten (deeds_of c n es) → AllSent IsWritten (deeds_of c n es) × AllDown c (deeds_of c n es) × AllFit s
  left_is_all es s run left =
      let x = (run_fits es s run).fit (Reading.outside_is_read c codec n es s run, (run_outside c n codec es s run).1, sent_alone c n es s run, left) in
      (sent_of c (deeds_of c n es) x.0, down_of c (deeds_of c n es) x.0, x.1)
