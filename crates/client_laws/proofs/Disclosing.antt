-- While rows are shown, what is shown of each solve is what it discloses.
use Rattle.std.proofs.Common.{◌≡◌, ℕ, nat_eq, Bool, true, false, not, cond, ◌&&◌, List, [], ◌∷◌, ◌++◌, Some, Ok, Err, refl, sym, ap, subst, ◌∙◌, inl, inr}
use Rattle.std.specs.Map.{lookup}
use Rattle.std.proofs.lemmas.List.Elements.{All-head, All-tail}
use Rattle.plant_play.specs.plant_model.Types.{As, BorderRow, Held, Branch, Ask, Class, LineEvent, NetworkParts}
use Rattle.border_costs.specs.Tables.{IsBorderTable}
use Rattle.te_links.specs.Rows.{Rows}
use Rattle.plant_text.specs.declared.line.LineEvent.TheVariants as line
use Rattle.plant_text.specs.Names.{same_as, parent_as}
use Rattle.plant_text.specs.Settings.{class_of}
use Rattle.plant_play.specs.plant_model.declared.event.BlindEvent.{BlindEvent}
use Rattle.plant_play.specs.plant_model.declared.event.Event.{Event}
use Rattle.plant_play.specs.plant_model.declared.event.Event.TheVariants as event
use Rattle.plant_play.specs.plant_model.declared.outcome.Outcome.{Outcome}
use Rattle.plant_play.specs.plant_model.Blind.{Discloses, blind_of, is_accepted, with_event}
use Rattle.plant_play.specs.plant_model.Element.{Item, Ready, is_client}
use Rattle.plant_play.specs.plant_model.Events.{Answered}
use Rattle.plant_play.specs.plant_model.Plant.{Entry, Happened, Happens, Pin, Plant, PlantDeed, Run, SolveHappens, ask}
use Rattle.plant_play.specs.plant_model.RealWire.{wire}
use Rattle.plant_play.specs.plant_model.State.{said}
use Rattle.run_laws.specs.plant_laws.Solves.{ElementTells}
use Rattle.run_laws.specs.plant_laws.Worlds.{DisclosedRun}
use Rattle.run_laws.proofs.plant_laws.Blind.SaysBlind.{as_run}
use Rattle.run_laws.proofs.plant_laws.Least.Solved.{solves_tell}
use Rattle.run_laws.proofs.plant_laws.Runs.Sound.{run_sound}
use Rattle.plant_play.specs.declared.showing.Modes.{Modes}
use Rattle.plant_play.specs.Playing.{Cue, IsNewNetwork, Plays, PlaysLine, PlayedNetwork, modes_after}
use Rattle.plant_play.specs.Scripts.{AllPlayed}
use Rattle.plant_play.specs.Turns.{AreGiven, HasTable, IsTurn, TableAt, Turn, entries_of, is_domain_solve, tells_closed, unsaid}
use Rattle.client_laws.specs.Disclosing.{shown_trace}
use Rattle.client_laws.specs.Laws.{FeedOctets, FeedsOctets}
use Rattle.client_laws.proofs.Givens.{lines_are_given}
use Rattle.client_laws.proofs.Loadable.{runs_are_loadable}
use Rattle.client_laws.proofs.Onward.{entries_join}
use Rattle.client_laws.proofs.PlayedTurns.{AreTurns, line_turns}

-- ---- what is shown of an event, where rows are shown and it is accepted

-- by whether it is a domain's solve, and whether its message goes to a closed peer
shown_of : (accepted domain shows tells : Bool) (Table Hidden Labels Unlabelled : Type 0) → accepted ≡ true → shows ≡ true →
    cond (accepted && domain) (cond (shows && tells) Table Hidden × Labels) (Hidden × Unlabelled) → cond domain (cond tells Table Hidden) Hidden
shown_of false domain shows tells T N L M ok on shown = absurd (let no : false ≡ true = ok in cc)
shown_of true domain false tells T N L M ok on shown = absurd (let no : false ≡ true = on in cc)
shown_of true true true tells T N L M ok on shown = shown.0
shown_of true false true tells T N L M ok on shown = shown.0

module _ (n : NetworkParts) (s : Plant) (older : List Entry) (run : Run wire n older s) where
  -- the table of a job is that of the request that is pending
  same_table : (d : As) (k : ℕ) (rows : List BorderRow) (h : Held (Item Pin)) (down : List Branch) → lookup (nat_eq k) (s.elements d).pending.rows ≡ Some h → h.item.stage ≡ Ready down →
      HasTable (unsaid n s) d k rows → IsBorderTable h.item.pin.topology (ask wire n d (k, h) down) rows
  same_table d k rows h down found ready t =
      let asked = t.is_asked in
      let same : asked.held ≡ h = let one : Some asked.held ≡ Some h = sym asked.is_held ∙ found in cc in
      let stages : Ready asked.down ≡ Ready down = sym asked.ready ∙ ap (λ (x : Held (Item Pin)). x.item.stage) same ∙ ready in
      let downs : asked.down ≡ down = cc in
      let asks : t.asked ≡ ask wire n d (k, h) down =
      asked.asks ∙ ap (λ (x : Held (Item Pin)). ask wire n d (k, x) asked.down) same ∙ ap (λ (bs : List Branch). ask wire n d (k, h) bs) downs in
      let pinned : t.topology ≡ h.item.pin.topology = asked.pinned ∙ ap (λ (x : Held (Item Pin)). x.item.pin.topology) same in
      subst (λ (g : Rows). IsBorderTable g (ask wire n d (k, h) down) rows) pinned (subst (λ (a : Ask). IsBorderTable t.topology a rows) asks t.table)

  -- the one message of a solve goes to the peer that asked
  told_closed : (d : As) (k : ℕ) (deeds : List PlantDeed) (h : Held (Item Pin)) → lookup (nat_eq k) (s.elements d).pending.rows ≡ Some h → ElementTells wire n s d k deeds →
      tells_closed n (said wire deeds) ≡ cond (is_client h.item.class) false true
  told_closed d k deeds h found x =
      let same : x.held ≡ h = let one : Some x.held ≡ Some h = sym x.is_held ∙ found in cc in
      let class : class_of n x.held.key.peer ≡ h.item.class = ap (λ (y : Held (Item Pin)). class_of n y.key.peer) same ∙ sym (run_sound wire n older s run d k h found).0 in
      ap (λ (ds : List PlantDeed). tells_closed n (said wire ds)) x.sends_one ∙ ap (λ (c : Class). cond (is_client c) false true) class

  by_class : (d : As) (k : ℕ) (rows : List BorderRow) (h : Held (Item Pin)) (down : List Branch) (client : Bool) → lookup (nat_eq k) (s.elements d).pending.rows ≡ Some h →
      h.item.stage ≡ Ready down → cond (cond client false true) (HasTable (unsaid n s) d k rows) (rows ≡ []) →
      cond client (rows ≡ []) (IsBorderTable h.item.pin.topology (ask wire n d (k, h) down) rows)
  by_class d k rows h down true found ready shown = shown
  by_class d k rows h down false found ready shown = same_table d k rows h down found ready shown

  solve_tells : (d : As) (k : ℕ) (h : Happened) (o : Outcome) → SolveHappens wire n d k s h → h.answer ≡ Ok o → same_as d parent_as ≡ false → ElementTells wire n s d k h.deeds
  solve_tells d k h o happens ok below =
      elim (solves_tell wire n older s run d k h (inl happens) o ok) [
        | inl tells ↦ tells
        | inr above ↦ absurd (let no : same_as parent_as parent_as ≡ false = subst (λ (a : As). same_as a parent_as ≡ false) above.0 below in let yes : true ≡ false = no in cc)
      ]

  -- of a domain's solve, or of one of the parent
  solve_discloses : (d : As) (k : ℕ) (h : Happened) (o : Outcome) (rows : List BorderRow) (upper : Bool) → same_as d parent_as ≡ upper → SolveHappens wire n d k s h → h.answer ≡ Ok o →
      cond (not upper) (cond (tells_closed n (said wire h.deeds)) (HasTable (unsaid n s) d k rows) (rows ≡ [])) (rows ≡ []) → Discloses wire n s (event.Solve d k) rows
  solve_discloses d k h o rows true is happens ok shown = inl (is, shown)
  solve_discloses d k h o rows false is happens ok shown =
      inr (
        is,
        λ held down found ready.
            by_class d k rows held down (is_client held.item.class) found ready
            (subst (λ (b : Bool). cond b (HasTable (unsaid n s) d k rows) (rows ≡ [])) (told_closed d k h.deeds held found (solve_tells d k h o happens ok is)) shown),
      )

  event_discloses : (e : Event) (h : Happened) (o : Outcome) (rows : List BorderRow) → Happens wire n s e h → h.answer ≡ Ok o →
      cond (is_domain_solve e) (cond (tells_closed n (said wire h.deeds)) (TableAt (unsaid n s) e rows) (rows ≡ [])) (rows ≡ []) → Discloses wire n s e rows
  event_discloses (event.Solve d k) h o rows happens ok shown = solve_discloses d k h o rows (same_as d parent_as) refl happens ok shown
  event_discloses _ h o rows happens ok shown = shown

  -- a turn in which rows are shown
  module _ (m : Modes) (on : m.disclose ≡ true) (t : Turn) (is : IsTurn m n s t) where
    shown : is_accepted t.entry.answer ≡ true →
        cond (is_domain_solve t.entry.event) (cond (tells_closed n (said wire t.entry.deeds)) (TableAt (unsaid n s) t.entry.event t.rows) (t.rows ≡ [])) (t.rows ≡ [])
    shown ok =
        shown_of (is_accepted t.entry.answer) (is_domain_solve t.entry.event) m.disclose (tells_closed n (said wire t.entry.deeds)) (TableAt (unsaid n s) t.entry.event t.rows)
        (t.rows ≡ []) _ _ ok on is.shows

    discloses : (answer : Answered) → t.entry.answer ≡ answer → is_accepted answer ≡ true → Discloses wire n s t.entry.event t.rows
    discloses (Ok o) same ok =
        event_discloses t.entry.event (record { answer = t.entry.answer; state = t.after; deeds = t.entry.deeds }) o t.rows is.happens same
        (shown (ap is_accepted same))
    discloses (Err why) same ok = absurd (let no : false ≡ true = ok in cc)

    traces : (trace : List BlindEvent) (accepted : Bool) → is_accepted t.entry.answer ≡ accepted →
        cond accepted
        ((rows : List BorderRow) × Discloses wire n s t.entry.event rows × (cond accepted (with_event (blind_of t.entry.event t.rows) trace) trace ≡ with_event (blind_of t.entry.event rows) trace))
        (cond accepted (with_event (blind_of t.entry.event t.rows) trace) trace ≡ trace)
    traces trace true ok = (t.rows, discloses t.entry.answer refl ok, refl)
    traces trace false ok = refl

-- ---- turns one after the other

turns_disclose : (m : Modes) → m.disclose ≡ true → (n : NetworkParts) (s : Plant) (ts : List Turn) (end : Plant) → AreTurns m n s ts end → AreGiven ts →
    (older : List Entry) (trace : List BlindEvent) → DisclosedRun wire n older trace s → DisclosedRun wire n (entries_of ts older) (shown_trace ts trace) end
turns_disclose m on n s [] end same given older trace run = subst (DisclosedRun wire n older trace) (sym same) run
turns_disclose m on n s (t ∷ ts) end are given older trace run =
    let as_before = as_run wire n older trace s run in
    turns_disclose m on n t.after ts end are.1 given.1 (t.entry ∷ older) (cond (is_accepted t.entry.answer) (with_event (blind_of t.entry.event t.rows) trace) trace)
    (s, trace, run, given.0, inl are.0.happens, traces n s older as_before m on t are.0 trace (is_accepted t.entry.answer) refl)

-- ---- lines one after the other

trace_joins : (first others : List Turn) (older : List BlindEvent) → shown_trace (first ++ others) older ≡ shown_trace others (shown_trace first older)
trace_joins [] others older = refl
trace_joins (t ∷ first) others older = trace_joins first others (cond (is_accepted t.entry.answer) (with_event (blind_of t.entry.event t.rows) older) older)

-- no line hides them again
stays_on : (e : LineEvent) (m : Modes) → m.disclose ≡ true → (modes_after e m).disclose ≡ true
stays_on (line.Load at name) m on = on
stays_on (line.Change at name) m on = on
stays_on (line.Open peer holder) m on = on
stays_on (line.Shut peer) m on = on
stays_on (line.Feed peer bytes) m on = on
stays_on (line.Receive peer bytes) m on = on
stays_on (line.Take peer) m on = on
stays_on (line.Carry a b) m on = on
stays_on (line.Break a b) m on = on
stays_on (line.Solve at k rows) m on = on
stays_on (line.Tick now) m on = on
stays_on (line.Drain peer holder) m on = on
stays_on line.Settle m on = on
stays_on line.Finish m on = on
stays_on line.CertifyOn m on = on
stays_on line.DiscloseOn m on = refl

first_discloses : (n : NetworkParts) (old : PlayedNetwork) (cue : Cue) (answer : Answered) (turns : List Turn) (told : List ℕ) (next : PlayedNetwork) → old.network ≡ n → old.modes.disclose ≡ true →
    FeedsOctets cue.event → PlaysLine old cue answer turns told next → (older : List Entry) (trace : List BlindEvent) → DisclosedRun wire n older trace old.state →
    DisclosedRun wire n (entries_of turns older) (shown_trace turns trace) next.state
first_discloses n old cue answer turns told next is on octets p older trace run =
    let given = lines_are_given cue.number old cue.event cue.file answer turns told next.state octets (runs_are_loadable n older old.state (as_run wire n older trace old.state run)) p.plays in
    let are = line_turns cue.number old answer turns told next.state cue.event cue.file p.plays in
    turns_disclose old.modes on n old.state turns next.state (subst (λ (m : NetworkParts). AreTurns old.modes m old.state turns next.state) is are) given older trace run

lines_disclose : (n : NetworkParts) (old end : PlayedNetwork) (cues : List Cue) (turns : List Turn) (told : List ℕ) → old.network ≡ n → old.modes.disclose ≡ true → FeedOctets cues →
    AllPlayed old cues turns told end → (older : List Entry) (trace : List BlindEvent) → DisclosedRun wire n older trace old.state →
    DisclosedRun wire n (entries_of turns older) (shown_trace turns trace) end.state
lines_disclose n old end [] turns told is on octets all older trace run =
    subst (λ (ts : List Turn). DisclosedRun wire n (entries_of ts older) (shown_trace ts trace) end.state) (sym all.0)
    (subst (λ (s : PlayedNetwork). DisclosedRun wire n older trace s.state) (sym all.2) run)
lines_disclose n old end (cue ∷ cues) turns told is on octets p older trace run =
    let one = All-head (λ (c : Cue). FeedsOctets c.event) cue cues octets in
    let others = All-tail (λ (c : Cue). FeedsOctets c.event) cue cues octets in
    let now = first_discloses n old cue p.answer p.first p.said p.mid is on one p.plays older trace run in
    let still : p.mid.modes.disclose ≡ true = ap (λ (m : Modes). m.disclose) p.plays.modes ∙ stays_on cue.event old.modes on in
    let all = lines_disclose n p.mid end cues p.later p.more (p.plays.network ∙ is) still others p.others (entries_of p.first older) (shown_trace p.first trace) now in
    subst (λ (ts : List Turn). DisclosedRun wire n (entries_of ts older) (shown_trace ts trace) end.state) (sym p.turns_are)
    (subst (λ (es : List Entry). DisclosedRun wire n es (shown_trace (p.first ++ p.later) trace) end.state) (sym (entries_join p.first p.later older))
    (subst (λ (tr : List BlindEvent). DisclosedRun wire n (entries_of p.later (entries_of p.first older)) tr end.state) (sym (trace_joins p.first p.later trace)) all))

pub shown_is_disclosed : (old end : PlayedNetwork) (cues : List Cue) (turns : List Turn) (told : List ℕ) → FeedOctets cues → old.modes.disclose ≡ true → AllPlayed old cues turns told end
    → (older : List Entry) (trace : List BlindEvent) → DisclosedRun wire old.network older trace old.state → DisclosedRun wire old.network (entries_of turns older) (shown_trace turns trace) end.state
shown_is_disclosed old end cues turns told octets on all older trace run = lines_disclose old.network old end cues turns told refl on octets all older trace run

-- ---- from the first line on

-- the line that shows them has no event
shows_first : (n : NetworkParts) (new : PlayedNetwork) (first : Cue) (answer : Answered) (turns : List Turn) (told : List ℕ) (next : PlayedNetwork) → first.event ≡ line.DiscloseOn →
    PlaysLine new first answer turns told next → (turns ≡ []) × (next.state ≡ new.state) × (next.modes.disclose ≡ true)
shows_first n new first answer turns told next is p =
    let plays = subst (λ (e : LineEvent). Plays first.number new e first.file answer turns told next.state) is p.plays in
    (plays.no_turn, plays.ends, ap (λ (m : Modes). m.disclose) p.modes ∙ ap (λ (e : LineEvent). (modes_after e new.modes).disclose) is)

pub shown_from_the_first : (n : NetworkParts) (new end : PlayedNetwork) (first : Cue) (cues : List Cue) (turns : List Turn) (told : List ℕ) → IsNewNetwork n new → FeedOctets (first ∷ cues)
    → first.event ≡ line.DiscloseOn → AllPlayed new (first ∷ cues) turns told end → DisclosedRun wire n (entries_of turns []) (shown_trace turns []) end.state
shown_from_the_first n new end first cues turns told is octets on p =
    let shows = shows_first n new first p.answer p.first p.said p.mid on p.plays in
    let others = All-tail (λ (c : Cue). FeedsOctets c.event) first cues octets in
    let start : DisclosedRun wire n [] [] p.mid.state = (refl, shows.1 ∙ is.run) in
    let turns_are : turns ≡ p.later = p.turns_are ∙ ap (λ (ts : List Turn). ts ++ p.later) shows.0 in
    subst (λ (ts : List Turn). DisclosedRun wire n (entries_of ts []) (shown_trace ts []) end.state) (sym turns_are)
    (lines_disclose n p.mid end cues p.later p.more (p.plays.network ∙ is.network) shows.2 others p.others [] [] start)
