-- All that is sent in a run is in written form, as long as no id comes round: one induction over the events. What was sent so far is
-- written, so the laws of what was read hold, so what the next solve sends fits one message.
use Rattle.std.proofs.Common.{◌≡◌, ◌≢◌, Bool, true, false, cond, List, [], ◌∷◌, ◌++◌, sym, ◌∙◌, ap, subst, inl, inr, arith}
use Rattle.std.proofs.lemmas.Bool.{eq-eqb}
use Rattle.plant_model.specs.Types.{As, NetworkParts}
use Rattle.pcep_messages.specs.Spelling.{IsWritten}
use Rattle.disclosure.specs.Shown.{open_of}
use Rattle.plant_text.specs.Names.{same_as, parent_as}
use Rattle.plant_text.specs.Settings.{is_element}
use Rattle.plant_model.specs.declared.event.Event.{Event}
use Rattle.plant_model.specs.declared.event.Event.TheVariants as event
use Rattle.plant_model.specs.Wire.{Codec}
use Rattle.plant_model.specs.Laws.{IsCodec, IsNetwork}
use Rattle.plant_model.specs.State.{Loads, Pops, Takes, Says, Ups, Downs, Clears, Solves, Expires, Hands}
use Rattle.plant_model.specs.Events as events
use Rattle.plant_model.specs.Plant.{Pin, Segment, Plant, PlantDeed, Happened, Entry, Run, deeds_of, is_full, Happens}
use Rattle.plant_laws.specs.Transcript.{Transcript}
use Rattle.plant_laws.specs.About.{IsShort}
use Rattle.plant_laws.specs.Sending.{AllSent}
use Rattle.plant_laws.proofs.Runs.Acts.{Goes}
use Rattle.plant_laws.proofs.Runs.Decompose.{open_did, shut_did, feed_did, take_did, carry_did, break_did, tick_did, drain_did}
use Rattle.plant_laws.proofs.Runs.SolveMoments.{ArePlain, IsPlain, goes_plain, opening_plain}
use Rattle.plant_laws.proofs.Least.Told.{apart}
use Rattle.plant_laws.proofs.WrittenForm.AllWritten.{AllDown, AllFit}
use Rattle.plant_laws.proofs.WrittenForm.EachWritten.{SolveSends, SolvesSend, solved_is_all}
use Rattle.plant_laws.proofs.WrittenForm.SolvesWritten.{element_writes}
use Rattle.plant_laws.proofs.WrittenForm.ParentWritten.{upper_writes}
use Rattle.plant_laws.specs.Runs.{InShortRuns}
use Rattle.plant_laws.proofs.WrittenForm.WhereWritten.{OfRuns, Written, WrittenIds, WrittenNet, WrittenNetIds}

-- deeds that solve nothing
plain_one : (e : PlantDeed) → IsPlain e → SolveSends IsWritten e
plain_one (Solves at k os keys) none = absurd none
plain_one _ none = tt

plain_solves : (es : Transcript) → ArePlain es → SolvesSend IsWritten es
plain_solves [] plain = tt
plain_solves (e ∷ es) plain = (plain_one e plain.0, plain_solves es plain.1)

solves_append : (es ds : Transcript) → SolvesSend IsWritten es → SolvesSend IsWritten ds → SolvesSend IsWritten (es ++ ds)
solves_append [] ds h k = k
solves_append (e ∷ es) ds h k = (h.0, solves_append es ds h.1 k)

pub short_before : (es ds : Transcript) → IsShort (es ++ ds) → IsShort ds
short_before [] ds h = h
short_before (e ∷ es) ds h = short_before es ds (λ a b. (let le = h a b in omega (arith, le)))

module _ (c : Codec) (codec : IsCodec c) (n : NetworkParts) (net : IsNetwork n) where
  load_plain : (a : Bool) (h h' : Happened) → ArePlain h.deeds → ArePlain h'.deeds → ArePlain (cond a h h').deeds
  load_plain true h h' x y = x
  load_plain false h h' x y = y

  by_goes : (s : Plant) (h h' : Happened) → h' ≡ h → Goes Pin Segment c n open_of s h.deeds h.state → SolvesSend IsWritten h'.deeds
  by_goes s h h' is r = plain_solves h'.deeds (subst (λ (z : Happened). ArePlain z.deeds) (sym is) (goes_plain c n s h.state h.deeds r))

  real_from : (d : As) → same_as d parent_as ≡ false → d ≢ parent_as
  real_from d low same = apart (sym (eq-eqb d.0 parent_as.0 (ap (λ (a : As). a.0) same)) ∙ low)

  event_solves : (es : List Entry) (s : Plant) → Run c n es s → AllSent IsWritten (deeds_of c n es) → AllDown c (deeds_of c n es) → AllFit c codec n net s → IsShort (deeds_of c n es) → (e : Event) (h : Happened) → Happens c n s e h → SolvesSend IsWritten h.deeds
  event_solves es s run written down fit short (event.Load d g) h is =
      plain_solves h.deeds (subst (λ (z : Happened). ArePlain z.deeds) (sym is) (load_plain (is_element n d) _ _ (load_plain (is_full (s.current d).number (s.elements d).pending.rows) _ _ tt (tt, tt)) tt))
  event_solves es s run written down fit short (event.Open i holder) h is = by_goes s (events.open_peer Pin Segment c n open_of i holder s) h is (open_did Pin Segment c n open_of i holder s)
  event_solves es s run written down fit short (event.Shut i) h is = by_goes s (events.shut Pin Segment c n open_of i s) h is (shut_did Pin Segment c n open_of i s)
  event_solves es s run written down fit short (event.Feed i bytes) h is = by_goes s (events.feed Pin Segment c n open_of i bytes s) h is (feed_did Pin Segment c n open_of i bytes s)
  event_solves es s run written down fit short (event.Take i) h is = by_goes s (events.take Pin Segment c n open_of i s) h is (take_did Pin Segment c n open_of i s)
  event_solves es s run written down fit short (event.Carry a b) h is = by_goes s (events.carry Pin Segment c n open_of a b s) h is (carry_did Pin Segment c n open_of a b s)
  event_solves es s run written down fit short (event.Break a b) h is = by_goes s (events.break Pin Segment c n open_of a b s) h is (break_did Pin Segment c n open_of a b s)
  event_solves es s run written down fit short (event.Tick t) h is = by_goes s (events.tick Pin Segment c n open_of t.0 s) h is (tick_did Pin Segment c n open_of t.0 s)
  event_solves es s run written down fit short (event.Drain i holder) h is = by_goes s (events.drain Pin Segment c n open_of i holder s) h is (drain_did Pin Segment c n open_of i holder s)
  event_solves es s run written down fit short (event.Solve d k) h (inl none) = subst (λ (z : Happened). SolvesSend IsWritten z.deeds) (sym none.1) tt
  event_solves es s run written down fit short (event.Solve d k) h (inr (inl none)) = subst (λ (z : Happened). SolvesSend IsWritten z.deeds) (sym none.2) tt
  event_solves es s run written down fit short (event.Solve d k) h (inr (inr (inl solves))) =
      subst (λ (z : Happened). SolvesSend IsWritten z.deeds) (sym solves.1.is) (element_writes c codec n net es s run written fit short d (real_from d solves.1.upper) k h solves.1, tt)
  event_solves es s run written down fit short (event.Solve d k) h (inr (inr (inr solves))) =
      subst (λ (z : Happened). SolvesSend IsWritten z.deeds) (sym solves.2.is) (upper_writes c codec n net es s run written down fit short k h solves.2, tt)

  run_solves : (es : List Entry) (s : Plant) → Run c n es s → IsShort (deeds_of c n es) → SolvesSend IsWritten (deeds_of c n es)
  run_solves [] s run short = plain_solves (deeds_of c n []) (opening_plain c n)
  run_solves (e ∷ es) s run short =
      let earlier = short_before e.deeds (deeds_of c n es) short in
      let before = run_solves es run.0 run.1 earlier in
      let all = solved_is_all c codec n net es run.0 run.1 before in
      solves_append e.deeds (deeds_of c n es)
      (elim run.3 [
        | inl is ↦ event_solves es run.0 run.1 all.0 all.1 all.2 earlier e.event (record { answer = e.answer; state = s; deeds = e.deeds }) is
        | inr none ↦ subst (λ (z : Happened). SolvesSend IsWritten z.deeds) (sym none.1) tt
      ])
      before

-- Every message of a run is in written form.
pub every_written : (c : Codec) → IsCodec c → (n : NetworkParts) → IsNetwork n → (es : List Entry) (s : Plant) → Run c n es s → IsShort (deeds_of c n es) → AllSent IsWritten (deeds_of c n es)
every_written c codec n net es s run short = (solved_is_all c codec n net es s run (run_solves c codec n net es s run short)).0

-- What the parent asks an element is admitted there, for its own domain alone.
pub every_down : (c : Codec) → IsCodec c → (n : NetworkParts) → IsNetwork n → (es : List Entry) (s : Plant) → Run c n es s → IsShort (deeds_of c n es) → AllDown c (deeds_of c n es)
every_down c codec n net es s run short = (solved_is_all c codec n net es s run (run_solves c codec n net es s run short)).1

-- So laws of runs in written form are laws of all runs.
module _ (Holds : OfRuns) where
  pub of_written : Written Holds → InShortRuns Holds
  of_written law c codec n net es s run short = law c codec n es s run (every_written c codec n net es s run short)

  pub of_written_ids : WrittenIds Holds → InShortRuns Holds
  of_written_ids law c codec n net es s run short = law c codec n es s run (every_written c codec n net es s run short) short

  pub of_written_net : WrittenNet Holds → InShortRuns Holds
  of_written_net law c codec n net es s run short = law c codec n net es s run (every_written c codec n net es s run short)

  pub of_written_net_ids : WrittenNetIds Holds → InShortRuns Holds
  of_written_net_ids law c codec n net es s run short = law c codec n net es s run (every_written c codec n net es s run short) short
