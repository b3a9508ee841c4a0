-- Between the lines of a script all that was fed was taken, and the line `finish` leaves the network at rest.
use Rattle.std.proofs.Common.{◌≡◌, ℕ, nat_eq, nat_lt, Bool, true, false, not, cond, ◌==◌, List, [], ◌∷◌, ◌++◌, All, map, Option, Some, None, is_some, Ok, Err, inl, inr, sym, ap, subst, ◌∙◌, refl}
use Rattle.std.specs.Prelude.{filter}
use Rattle.std.specs.Map.{lookup}
use Rattle.std.proofs.lemmas.Bool.{cases_Bool, eqb-true}
use Rattle.std.proofs.lemmas.List.Elements.{All-head, All-tail}
use Rattle.plant_play.specs.plant_model.Types.{As, Held, LineEvent, ElementRow, NetworkParts}
use Rattle.dom_edge.specs.Stores.{Files}
use Rattle.plant_text.specs.declared.line.LineEvent.TheVariants as line
use Rattle.plant_text.specs.Names.{insert_as, parent_as, same_as}
use Rattle.plant_text.specs.Settings.{Adjacency, elements_of, has_adjacency, is_element, adjacencies, row_of}
use Rattle.plant_play.specs.plant_model.declared.event.Event.{Event}
use Rattle.plant_play.specs.plant_model.declared.event.Event.TheVariants as event
use Rattle.plant_play.specs.plant_model.declared.outcome.Outcome.TheVariants.{Done}
use Rattle.plant_play.specs.plant_model.declared.outcome.Refused.TheVariants.{NoSuchPeer}
use Rattle.plant_play.specs.plant_model.Blind.{is_accepted}
use Rattle.plant_play.specs.plant_model.Element as element
use Rattle.plant_play.specs.plant_model.Element.{Item}
use Rattle.plant_play.specs.plant_model.Events.{Answered, has_jobs, is_ready, is_ready_asking, is_ready_row, jobs_at, jobs_of, ready_jobs}
use Rattle.plant_play.specs.plant_model.Names.{is_empty}
use Rattle.plant_play.specs.plant_model.Parent as parent
use Rattle.plant_play.specs.plant_model.Plant.{Happened, Happens, Pin, Plant}
use Rattle.plant_play.specs.plant_model.RealWire.{wire}
use Rattle.plant_play.specs.plant_model.State.{Connection}
use Rattle.plant_play.specs.plant_model.Wire.{Bytes}
use Rattle.run_laws.specs.plant_laws.Chains.{HasEmptyInbox}
use Rattle.run_laws.specs.plant_laws.Resting.{IsAtRest}
use Rattle.plant_network.specs.Due.{inbox_from}
use Rattle.plant_network.specs.network_links.Waiting.{ways}
use Rattle.plant_play.specs.declared.going.Until.{Until}
use Rattle.plant_play.specs.declared.going.Until.TheVariants.{Finished, Settled}
use Rattle.plant_play.specs.declared.showing.Modes.{Modes}
use Rattle.plant_play.specs.Due.{AreAllDue, AreDue, IsDue, IsDueTake}
use Rattle.plant_play.specs.Playing.{Changes, Cue, IsNewNetwork, Plays, PlaysDue, PlaysFeed, PlaysFeedAt, PlaysLine, PlaysNone, PlaysOne, PlayedNetwork}
use Rattle.plant_play.specs.Scripts.{AllPlayed}
use Rattle.plant_play.specs.Turns.{Turn, entries_of}
use Rattle.run_laws.proofs.plant_laws.Runs.Queues.{same_as_is}
use Rattle.plant_client.specs.declared.question.Question.{Question}
use Rattle.plant_client.specs.Asking.{AreCues, load_line, question_lines, topologies}
use Rattle.plant_client.specs.Questions.{opening_text, question_text}
use Rattle.run_laws.proofs.PeerLemmas.OutletRuns.{run_fits}
use Rattle.client_laws.proofs.Rightly.{scripts_are_right}
use Rattle.run_laws.proofs.plant_laws.Settled.Resting.{rest_is_quiet}
use Rattle.run_laws.proofs.plant_laws.plant_model.WireLaws.{wire_is_codec}
use Rattle.client_laws.proofs.Asking.{lines_feed, no_connection}
use Rattle.client_laws.proofs.Taking as taking
use Rattle.client_laws.proofs.Taking.{AreTakenBut, Keeps}
use Rattle.client_laws.specs.Resting.{AreNoReceives, AreTaken, AskedIsAtRest, AskedIsQuiet, FinishedIsAtRest, IsNoReceive, LinesTakeAll}

-- ---- all is taken, line by line

none_left : (o : Option Connection) → inbox_from o ≡ [] → HasEmptyInbox o
none_left None is = tt
none_left (Some x) is = is

module _ (m : Modes) (n : NetworkParts) where
  abbrev happened_at : Turn → Happened
  happened_at t = record { answer = t.entry.answer; state = t.after; deeds = t.entry.deeds }

  due_keeps : (until : Until) (s : Plant) (ts : List Turn) (end : Plant) → AreDue (IsDue until n) m n s ts end → AreTaken s → AreTaken end
  due_keeps until s [] end all taken = subst AreTaken (sym all) taken
  due_keeps until s (t ∷ ts) end all taken = due_keeps until t.after ts end all.3 (go t.entry.event all.0 all.1.happens)
    where
      go : (e : Event) → IsDue until n s (Some e) → Happens wire n s e (happened_at t) → AreTaken t.after
      go (event.Carry a b) due h = taking.keeps_carry n a b s (happened_at t) h taken
      go (event.Solve d k) due h = taking.keeps_solve n d k s (happened_at t) h taken
      go _ due h = absurd due

  takes_keep : (j : ℕ) (s : Plant) (ts : List Turn) (end : Plant) → AreDue (IsDueTake j) m n s ts end → AreTakenBut j s → AreTakenBut j end
  takes_keep j s [] end all taken = subst (AreTakenBut j) (sym all) taken
  takes_keep j s (t ∷ ts) end all taken =
      takes_keep j t.after ts end all.3
      (taking.leaves_take n j s (happened_at t) (subst (λ (e : Event). Happens wire n s e (happened_at t)) all.0 all.1.happens) taken)

  all_taken : (j : ℕ) (s : Plant) → AreTakenBut j s → inbox_from (s.accesses j).connection ≡ [] → AreTaken s
  all_taken j s but none i = elim (cases_Bool (j == i)) [
    | inl same ↦ subst (λ (k : ℕ). HasEmptyInbox (s.accesses k).connection) (eqb-true j i same) (none_left (s.accesses j).connection none)
    | inr other ↦ but i other
  ]

module _ (number : ℕ) (old : PlayedNetwork) (taken : AreTaken old.state) (answer : Answered) (turns : List Turn) (told : List ℕ) (end : Plant) where
  one_keeps : (e : Event) → Keeps old.network e → PlaysOne number old e answer turns told end → AreTaken end
  one_keeps e keeps p =
      let h = happened_at old.modes old.network p.turn in
      subst AreTaken (sym p.ends) (keeps old.state h (subst (λ (x : Event). Happens wire old.network old.state x h) p.event p.is_turn.happens) taken)

  none_keeps : (fixed : Answered) → PlaysNone number old fixed answer turns told end → AreTaken end
  none_keeps fixed p = subst AreTaken (sym p.ends) taken

  fed_keeps : (j : ℕ) (bytes : Bytes) → PlaysFeed number old j bytes answer turns told end → AreTaken end
  fed_keeps j bytes p = by (is_accepted answer) refl p.takes
    where
      h : Happened
      h = happened_at old.modes old.network p.fed

      happens : Happens wire old.network old.state (event.Feed j bytes) h
      happens = subst (λ (x : Event). Happens wire old.network old.state x h) p.event p.is_turn.happens

      by : (b : Bool) → is_accepted answer ≡ b → cond b (AreAllDue (IsDueTake j) old.modes old.network p.fed.after p.taken end) ((p.taken ≡ []) × (end ≡ p.fed.after)) → AreTaken end
      by true is all =
          all_taken old.modes old.network j end
          (takes_keep old.modes old.network j p.fed.after p.taken end all.due (taking.leaves_feed old.network j bytes old.state h happens taken)) all.over
      by false is none = subst AreTaken (sym none.1) (taking.keeps_refused_feed old.network j bytes old.state h happens (ap is_accepted p.answered ∙ is) taken)

  feed_keeps : (peer : Option ℕ) (bytes : Bytes) → PlaysFeedAt number old peer bytes answer turns told end → AreTaken end
  feed_keeps None bytes p = none_keeps _ p
  feed_keeps (Some j) bytes p = fed_keeps j bytes p

  -- any line but `receive`
  plays_keep : (e : LineEvent) (file : List ℕ) → IsNoReceive e → Plays number old e file answer turns told end → AreTaken end
  plays_keep (line.Load at name) file none p = one_keeps (event.Load at p.topology) (taking.keeps_load old.network at p.topology) p.loads
  plays_keep (line.Change at name) file none p = by (is_element old.network at) p.makes
    where
      by : (b : Bool) → cond b (Changes number old at p.changes answer turns told end) (PlaysNone number old (Err NoSuchPeer) answer turns told end) → AreTaken end
      by true c = one_keeps (event.Load at c.topology) (taking.keeps_load old.network at c.topology) c.loads
      by false none = none_keeps (Err NoSuchPeer) none
  plays_keep (line.Open None holder) file none p = none_keeps (Err NoSuchPeer) p
  plays_keep (line.Open (Some i) holder) file none p = one_keeps (event.Open i holder) (taking.keeps_open old.network i holder) p
  plays_keep (line.Shut None) file none p = none_keeps (Err NoSuchPeer) p
  plays_keep (line.Shut (Some i)) file none p = one_keeps (event.Shut i) (taking.keeps_shut old.network i) p
  plays_keep (line.Feed peer bytes) file none p = feed_keeps peer bytes p
  plays_keep (line.Receive peer bytes) file none p = absurd none
  plays_keep (line.Take None) file none p = none_keeps (Err NoSuchPeer) p
  plays_keep (line.Take (Some i)) file none p = one_keeps (event.Take i) (taking.keeps_take old.network i) p
  plays_keep (line.Carry a b) file none p = one_keeps (event.Carry a b) (taking.keeps_carry old.network a b) p
  plays_keep (line.Break a b) file none p = one_keeps (event.Break a b) (taking.keeps_break old.network a b) p
  plays_keep (line.Solve at k rows) file none p = one_keeps (event.Solve at k) (taking.keeps_solve old.network at k) p
  plays_keep (line.Tick now) file none p = one_keeps (event.Tick now) (taking.keeps_tick old.network now) p
  plays_keep (line.Drain None holder) file none p = none_keeps (Err NoSuchPeer) p
  plays_keep (line.Drain (Some i) holder) file none p = one_keeps (event.Drain i holder) (taking.keeps_drain old.network i holder) p
  plays_keep line.Settle file none p = due_keeps old.modes old.network Settled old.state turns end p.all.due taken
  plays_keep line.Finish file none p = due_keeps old.modes old.network Finished old.state turns end p.all.due taken
  plays_keep line.CertifyOn file none p = none_keeps (Ok Done) p
  plays_keep line.DiscloseOn file none p = none_keeps (Ok Done) p

line_keeps : (old : PlayedNetwork) (c : Cue) (answer : Answered) (turns : List Turn) (told : List ℕ) (new : PlayedNetwork) → IsNoReceive c.event → PlaysLine old c answer turns told new → AreTaken old.state → AreTaken new.state
line_keeps old c answer turns told new none p taken = plays_keep c.number old taken answer turns told new.state c.event c.file none p.plays

pub lines_keep : (cs : List Cue) (old : PlayedNetwork) (turns : List Turn) (told : List ℕ) (new : PlayedNetwork) → AreNoReceives cs → AllPlayed old cs turns told new → AreTaken old.state → AreTaken new.state
lines_keep [] old turns told new none p taken = subst (λ (x : PlayedNetwork). AreTaken x.state) (sym p.2) taken
lines_keep (c ∷ cs) old turns told new none p taken =
    let here = All-head (λ (d : Cue). IsNoReceive d.event) c cs none in
    let others = All-tail (λ (d : Cue). IsNoReceive d.event) c cs none in
    lines_keep cs p.mid p.later p.more new others p.others (line_keeps old c p.answer p.first p.said p.mid here p.plays taken)

-- a new network has no connection
pub new_is_taken : (n : NetworkParts) (new : PlayedNetwork) → IsNewNetwork n new → AreTaken new.state
new_is_taken n new is i = subst HasEmptyInbox (sym (no_connection i None (new.state.accesses i).connection refl (run_fits wire n [] new.state is.run i))) tt

pub lines_take_all : LinesTakeAll
lines_take_all n new end cues turns told is none p = lines_keep cues new turns told end none p (new_is_taken n new is)

-- ---- nothing is on its way

no_mail : (xs : List Bytes) → not (is_empty xs) ≡ false → xs ≡ []
no_mail [] e = refl
no_mail (x ∷ xs) e = (let clash : true ≡ false = e in cc)

module _ (queues : As → As → List Bytes) where
  abbrev IsCarried : As × As → Type 0
  IsCarried q = not (is_empty (queues q.0 q.1)) ≡ false

  along : (xs : List Adjacency) → All IsCarried (ways xs) → (a b : As) → has_adjacency a b xs ≡ true → queues a b ≡ []
  along [] all a b linked = (let clash : false ≡ true = linked in cc)
  along (x ∷ xs) all a b linked =
      here (along xs (All-tail IsCarried (x.upper, x.lower) (ways xs) (All-tail IsCarried (x.lower, x.upper) ((x.upper, x.lower) ∷ ways xs) all)) a b)
      (same_as x.lower a) refl (same_as x.upper b) refl (same_as x.lower b) refl (same_as x.upper a) refl linked
    where
      down : All IsCarried ((x.upper, x.lower) ∷ ways xs)
      down = All-tail IsCarried (x.lower, x.upper) ((x.upper, x.lower) ∷ ways xs) all

      up_empty : queues x.lower x.upper ≡ []
      up_empty = no_mail (queues x.lower x.upper) (All-head IsCarried (x.lower, x.upper) ((x.upper, x.lower) ∷ ways xs) all)

      down_empty : queues x.upper x.lower ≡ []
      down_empty = no_mail (queues x.upper x.lower) (All-head IsCarried (x.upper, x.lower) (ways xs) down)

      upward : same_as x.lower a ≡ true → same_as x.upper b ≡ true → queues a b ≡ []
      upward low up = subst (λ (z : As). queues z b ≡ []) (same_as_is x.lower a low) (subst (λ (z : As). queues x.lower z ≡ []) (same_as_is x.upper b up) up_empty)

      downward : same_as x.lower b ≡ true → same_as x.upper a ≡ true → queues a b ≡ []
      downward low up = subst (λ (z : As). queues z b ≡ []) (same_as_is x.upper a up) (subst (λ (z : As). queues x.upper z ≡ []) (same_as_is x.lower b low) down_empty)

      here : (has_adjacency a b xs ≡ true → queues a b ≡ []) → (p : Bool) → same_as x.lower a ≡ p → (q : Bool) → same_as x.upper b ≡ q → (r : Bool) → same_as x.lower b ≡ r → (t : Bool) → same_as x.upper a ≡ t →
          cond (cond p q (cond r t false)) true (has_adjacency a b xs) ≡ true → queues a b ≡ []
      here rest true low true up r e t f linked' = upward low up
      here rest true low false up r e t f linked' = rest linked'
      here rest false low q up true e true f linked' = downward e f
      here rest false low q up true e false f linked' = rest linked'
      here rest false low q up false e t f linked' = rest linked'

-- ---- no job can be solved

no_items : (xs : List ℕ) (d : As) → jobs_at d xs ≡ [] → xs ≡ []
no_items [] d e = refl
no_items (x ∷ xs) d e = (let clash : (d, x) ∷ jobs_at d xs ≡ [] = e in cc)

module _ {T : Type 0} (ready : T → Bool) (of_row : Option (Held T) → Bool) (of_none : of_row None ≡ false) (of_some : (h : Held T) → of_row (Some h) ≡ ready h.item) where
  none_ready : (rows : List (ℕ × Held T)) (k : ℕ) → map (λ h. h.0) (filter (λ h. ready h.1.item) rows) ≡ [] → of_row (lookup (nat_eq k) rows) ≡ false
  none_ready [] k e = of_none
  none_ready (x ∷ xs) k e = by (ready x.1.item) refl e (none_ready xs k)
    where
      at : (b : Bool) → ready x.1.item ≡ false → of_row (lookup (nat_eq k) xs) ≡ false → of_row (cond b (Some x.1) (lookup (nat_eq k) xs)) ≡ false
      at true is more = of_some x.1 ∙ is
      at false is more = more

      by : (b : Bool) → ready x.1.item ≡ b → map (λ h. h.0) (cond b (x ∷ filter (λ h. ready h.1.item) xs) (filter (λ h. ready h.1.item) xs)) ≡ [] →
          (map (λ h. h.0) (filter (λ h. ready h.1.item) xs) ≡ [] → of_row (lookup (nat_eq k) xs) ≡ false) → of_row (lookup (nat_eq k) (x ∷ xs)) ≡ false
      by true is none more = (let clash : x.0 ∷ map (λ h. h.0) (filter (λ h. ready h.1.item) xs) ≡ [] = none in cc)
      by false is none more = at (nat_eq k x.0) is (more none)

module _ (P : As → Type 0) where
  abbrev Each : List As → Type 0
  Each [] = Unit {0}
  Each (d ∷ ds) = P d × Each ds

  inserted : (d : As) (ds : List As) → Each (insert_as d ds) → P d × Each ds
  inserted d [] each = each
  inserted d (a ∷ rest) each = by (nat_lt d.0 a.0) (same_as d a) refl each (inserted d rest)
    where
      by : (b c : Bool) → same_as d a ≡ c → Each (cond b (d ∷ a ∷ rest) (cond c (a ∷ rest) (a ∷ insert_as d rest))) → (Each (insert_as d rest) → P d × Each rest) → P d × Each (a ∷ rest)
      by true c is all more = (all.0, all.1)
      by false true is all more = (subst P (sym (same_as_is d a is)) all.0, all)
      by false false is all more = let m = more all.1 in (m.0, (all.0, m.1))

  each_found : (rows : List ElementRow) (d : As) → is_some (row_of d rows) ≡ true → Each (elements_of rows) → P d
  each_found [] d has each = (let clash : false ≡ true = has in cc)
  each_found (r ∷ rows) d has each =
      let two : P r.own × Each (elements_of rows) = inserted r.own (elements_of rows) each in
      by two.0 (λ h. each_found rows d h two.1) (same_as r.own d) refl has
    where
      by : P r.own → (is_some (row_of d rows) ≡ true → P d) → (b : Bool) → same_as r.own d ≡ b → is_some (cond b (Some r) (row_of d rows)) ≡ true → P d
      by here more true is has' = subst P (same_as_is r.own d is) here
      by here more false is has' = more has'

no_first : (xs ys : List (As × ℕ)) → xs ++ ys ≡ [] → xs ≡ []
no_first [] ys e = refl
no_first (x ∷ xs) ys e = (let clash : x ∷ (xs ++ ys) ≡ [] = e in cc)

no_second : (xs ys : List (As × ℕ)) → xs ++ ys ≡ [] → ys ≡ []
no_second [] ys e = e
no_second (x ∷ xs) ys e = (let clash : x ∷ (xs ++ ys) ≡ [] = e in cc)

module _ (n : NetworkParts) (s : Plant) (none : ready_jobs n s ≡ []) where
  abbrev IsIdle : As → Type 0
  IsIdle d = element.ready_numbers (s.elements d).pending.rows ≡ []

  idle_each : (ds : List As) → jobs_of s ds ≡ [] → Each IsIdle ds
  idle_each [] e = tt
  idle_each (d ∷ ds) e =
      let here = jobs_at d (element.ready_numbers (s.elements d).pending.rows) in
      (no_items (element.ready_numbers (s.elements d).pending.rows) d (no_first here (jobs_of s ds) e), idle_each ds (no_second here (jobs_of s ds) e))

  none_solvable : (d : As) (k : ℕ) → has_jobs n d ≡ true → is_ready d k s ≡ false
  none_solvable d k has = by (same_as d parent_as) has
    where
      by : (b : Bool) → cond b (is_some n.parent) (is_element n d) ≡ true → cond b (is_ready_asking (lookup (nat_eq k) s.parent.pending.rows)) (is_ready_row (lookup (nat_eq k) (s.elements d).pending.rows)) ≡ false
      by true has' =
          none_ready parent.is_ready is_ready_asking refl (λ h. refl) s.parent.pending.rows k
          (no_items (parent.ready_numbers s.parent.pending.rows) parent_as (no_first (jobs_at parent_as (parent.ready_numbers s.parent.pending.rows)) (jobs_of s (elements_of n.elements)) none))
      by false has' =
          none_ready (λ (i : Item Pin). element.is_ready i.stage) (is_ready_row {P = Pin}) refl (λ h. refl) (s.elements d).pending.rows k
          (each_found IsIdle n.elements d has' (idle_each (elements_of n.elements) (no_second (jobs_at parent_as (parent.ready_numbers s.parent.pending.rows)) (jobs_of s (elements_of n.elements)) none)))

-- ---- the law

pub rests_at : (n : NetworkParts) (s : Plant) → AreTaken s → IsDue Finished n s None → IsAtRest n s
rests_at n s taken over = record { taken = taken; carried = along s.queues (adjacencies n) over.0; solved = none_solvable n s over.1 }

-- after a line that finishes
pub finish_rests : (old : PlayedNetwork) (c : Cue) (answer : Answered) (turns : List Turn) (told : List ℕ) (new : PlayedNetwork) → c.event ≡ line.Finish → PlaysLine old c answer turns told new → AreTaken old.state → IsAtRest old.network new.state
finish_rests old c answer turns told new is p taken =
    let due : PlaysDue c.number old (IsDue Finished old.network) answer turns told new.state = subst (λ (e : LineEvent). Plays c.number old e c.file answer turns told new.state) is p.plays in
    rests_at old.network new.state (line_keeps old c answer turns told new (subst IsNoReceive (sym is) tt) p taken) due.all.over

lines_network : (cs : List Cue) (old : PlayedNetwork) (ts : List Turn) (said : List ℕ) (end : PlayedNetwork) → AllPlayed old cs ts said end → end.network ≡ old.network
lines_network [] old ts said end p = ap (λ (x : PlayedNetwork). x.network) p.2
lines_network (c ∷ cs) old ts said end p = lines_network cs p.mid p.later p.more end p.others ∙ p.plays.network

pub finished_is_at_rest : FinishedIsAtRest
finished_is_at_rest n new mid end cues turns last told more c answer is played taken finish p =
    subst (λ (m : NetworkParts). IsAtRest m end.state) (lines_network cues new turns told mid played ∙ is.network) (finish_rests mid c answer last more end finish p taken)

-- ---- a client that asks once

module _ (files : Option Files) where
  abbrev Rests : List LineEvent → Type 0
  Rests es =
      (cs : List Cue) → AreCues files es cs → (old new : PlayedNetwork) (turns : List Turn) (told : List ℕ) → AllPlayed old cs turns told new → AreTaken old.state → IsAtRest old.network new.state

  last_line : Rests (line.Finish ∷ [])
  last_line [] are old new turns told p taken = absurd are
  last_line (c ∷ []) are old new turns told p taken =
      subst (λ (x : PlayedNetwork). IsAtRest old.network x.state) (sym p.others.2) (finish_rests old c p.answer p.first p.said p.mid are.0.event p.plays taken)
  last_line (c ∷ c' ∷ cs) are old new turns told p taken = absurd are.1

  one_line : (e : LineEvent) (es : List LineEvent) → IsNoReceive e → Rests es → Rests (e ∷ es)
  one_line e es none rests [] are old new turns told p taken = absurd are
  one_line e es none rests (c ∷ cs) are old new turns told p taken =
      subst (λ (m : NetworkParts). IsAtRest m new.state) p.plays.network
      (rests cs are.1 p.mid new p.later p.more p.others (line_keeps old c p.answer p.first p.said p.mid (subst IsNoReceive (sym are.0.event) none) p.plays taken))

  loads_first : (ts : List (As × List ℕ)) (es : List LineEvent) → Rests es → Rests (map load_line ts ++ es)
  loads_first [] es rests = rests
  loads_first (t ∷ ts) es rests = one_line (load_line t) (map load_line ts ++ es) tt (loads_first ts es rests)

  question_rests : (client : ℕ) (q : Question) → Rests (question_lines client q)
  question_rests client q =
      let asks = line.Feed (Some client) (question_text q) ∷ line.Finish ∷ [] in
      let opens = line.Feed (Some client) opening_text ∷ asks in
      one_line line.Settle (line.Open (Some client) 0 ∷ opens) tt
      (one_line (line.Open (Some client) 0) opens tt
      (one_line (line.Feed (Some client) opening_text) asks tt (one_line (line.Feed (Some client) (question_text q)) (line.Finish ∷ []) tt last_line)))

pub asked_is_at_rest : AskedIsAtRest
asked_is_at_rest files n client q received a =
    subst (λ (m : NetworkParts). IsAtRest m a.asked.state) a.new.network
    (loads_first files (topologies n.elements) (question_lines client q) (question_rests files client q) a.lines.cues a.lines.are_cues a.start a.asked a.lines.turns a.lines.told a.lines.played
    (new_is_taken n a.start a.new))

pub asked_is_quiet : AskedIsQuiet
asked_is_quiet files n client q received net a =
    let octets = lines_feed (topologies n.elements) client q a.octets files a.lines.cues a.lines.are_cues in
    let right = scripts_are_right n net a.start a.asked a.lines.cues a.lines.turns a.lines.told a.new octets a.lines.played in
    rest_is_quiet wire wire_is_codec n net (entries_of a.lines.turns []) a.asked.state right.0.run (asked_is_at_rest files n client q received a)
