-- Where what solves sent in a run is in written form, all that was sent in it is.
use Rattle.std.proofs.Common.{◌≡◌, Bool, true, false, cond, List, [], ◌∷◌, ◌++◌, sym, ◌∙◌, ap, subst, inl, inr, refl}
use Rattle.plant_model.specs.Types.{As, Message, NetworkParts}
use Rattle.pcep_subobjects.specs.Subobjects.{AreOctets}
use Rattle.pcep_messages.specs.Spelling.{IsWritten}
use Rattle.disclosure.specs.Shown.{open_of}
use Rattle.plant_text.specs.Names.{parent_as}
use Rattle.plant_text.specs.Settings.{is_element}
use Rattle.plant_model.specs.declared.event.Event.{Event}
use Rattle.plant_model.specs.declared.event.Event.TheVariants as event
use Rattle.plant_model.specs.Wire.{Bytes, Codec}
use Rattle.plant_model.specs.Laws.{IsCodec, IsNetwork}
use Rattle.plant_model.specs.Solving.{commit, job_found}
use Rattle.plant_model.specs.Parent as parent
use Rattle.plant_model.specs.Settings.{place}
use Rattle.plant_model.specs.State.{Deed, Loads, Pops, Takes, Says, Ups, Downs, Clears, Solves, Expires, Hands}
use Rattle.plant_model.specs.Deeds.{with_element, with_parent}
use Rattle.plant_model.specs.Plant.{Pin, Segment, first_pin, Plant, Happened, Entry, Run, deeds_of, is_full, Happens}
use Rattle.plant_laws.specs.Transcript.{Transcript, Standing, standing}
use Rattle.plant_laws.specs.Standing.{texts}
use Rattle.plant_laws.specs.Standing as standing_texts
use Rattle.plant_laws.specs.Sending.{AreAll, AllSent}
use Rattle.plant_laws.proofs.Runs.Queues.{Stand, run_stands}
use Rattle.plant_laws.proofs.Runs.Rows.{In}
use Rattle.plant_laws.proofs.WrittenForm.ReadBack.{standing_sent}
use Rattle.plant_laws.proofs.Runs.Reading as Reading
use Rattle.plant_laws.proofs.WrittenForm.AllWritten.{AllLeft, AllDown, AllFit, left_is_all}
use Rattle.plant_laws.proofs.WrittenForm.OwnSays.{SaysSend, SessionsFit, puts_fit, open_fits, shut_fits, feed_fits, take_fits, carry_fits, break_fits, clock_fits, drain_fits, opening_fits}

-- What is true of all messages that solves send.
abbrev pub SolveSends : (Message → Type 0) → Deed Segment → Type 0
SolveSends Q (Solves at k os keys) = AreAll Q os
SolveSends Q (Takes at p m os) = Unit {0}
SolveSends Q (Says at o) = Unit {0}
SolveSends Q (Downs at p os) = Unit {0}
SolveSends Q (Loads at g) = Unit {0}
SolveSends Q (Pops a b) = Unit {0}
SolveSends Q (Ups at p) = Unit {0}
SolveSends Q (Clears a b) = Unit {0}
SolveSends Q (Expires now) = Unit {0}
SolveSends Q (Hands i bytes) = Unit {0}

abbrev pub SolvesSend : (Message → Type 0) → Transcript → Type 0
SolvesSend Q [] = Unit {0}
SolvesSend Q (d ∷ ds) = SolveSends Q d × SolvesSend Q ds

says_append : (es ds : Transcript) → SaysSend es → SaysSend ds → SaysSend (es ++ ds)
says_append [] ds h k = k
says_append (Says at o ∷ es) ds h k = (h.0, says_append es ds h.1 k)
says_append (Takes at p m os ∷ es) ds h k = says_append es ds h k
says_append (Downs at p os ∷ es) ds h k = says_append es ds h k
says_append (Solves at n os keys ∷ es) ds h k = says_append es ds h k
says_append (Loads at g ∷ es) ds h k = says_append es ds h k
says_append (Pops a b ∷ es) ds h k = says_append es ds h k
says_append (Ups at p ∷ es) ds h k = says_append es ds h k
says_append (Clears a b ∷ es) ds h k = says_append es ds h k
says_append (Expires now ∷ es) ds h k = says_append es ds h k
says_append (Hands i bytes ∷ es) ds h k = says_append es ds h k

both_left : (ds : Transcript) → SaysSend ds → SolvesSend IsWritten ds → AllLeft IsWritten ds
both_left [] h k = tt
both_left (Says at o ∷ es) h k = ((h.0, tt), both_left es h.1 k.1)
both_left (Solves at n os keys ∷ es) h k = (k.0, both_left es h k.1)
both_left (Takes at p m os ∷ es) h k = (tt, both_left es h k.1)
both_left (Downs at p os ∷ es) h k = (tt, both_left es h k.1)
both_left (Loads at g ∷ es) h k = (tt, both_left es h k.1)
both_left (Pops a b ∷ es) h k = (tt, both_left es h k.1)
both_left (Ups at p ∷ es) h k = (tt, both_left es h k.1)
both_left (Clears a b ∷ es) h k = (tt, both_left es h k.1)
both_left (Expires now ∷ es) h k = (tt, both_left es h k.1)
both_left (Hands i bytes ∷ es) h k = (tt, both_left es h k.1)

pub solves_before : (es ds : Transcript) → SolvesSend IsWritten (es ++ ds) → SolvesSend IsWritten ds
solves_before [] ds h = h
solves_before (e ∷ es) ds h = solves_before es ds h.1

module _ (c : Codec) (codec : IsCodec c) (n : NetworkParts) (net : IsNetwork n) where
  abbrev Fit : Plant → Type 0
  Fit s = SessionsFit Pin Segment c codec n open_of s

  abbrev Kept : Transcript → Happened → Type 0
  Kept ds h = Fit h.state × SaysSend (h.deeds ++ ds)

  kept : (ds : Transcript) (h k : Happened) → k ≡ h → SaysSend ds → Fit h.state × SaysSend h.deeds → Kept ds k
  kept ds h k is says did = subst (Kept ds) (sym is) (did.0, says_append h.deeds ds did.1 says)

  kept_pick : (ds : Transcript) (b : Bool) (h k : Happened) → Kept ds h → Kept ds k → Kept ds (cond b h k)
  kept_pick ds true h k x y = x
  kept_pick ds false h k x y = y

  front : (a b : As) (s : Plant) (ds : Transcript) → Stand c n ds s → AllSent IsWritten ds → (bytes : Bytes) (rest : List Bytes) → s.queues a b ≡ bytes ∷ rest → AreOctets bytes
  front a b s ds stand sent bytes rest is = go (standing a b ds) refl
    where
      go : (xs : List Standing) → standing a b ds ≡ xs → AreOctets bytes
      go [] e =
          let no : bytes ∷ rest ≡ [] = sym is ∙ stand a b ∙ ap (λ (l : List Standing). texts c (standing_texts.messages l)) e in
          absurd (let out : bytes ∷ rest ≡ [] = no in cc)
      go (x ∷ xs) e =
          let both : bytes ∷ rest ≡ c.text x.message ∷ texts c (standing_texts.messages xs) = sym is ∙ stand a b ∙ ap (λ (l : List Standing). texts c (standing_texts.messages l)) e in
          let same : bytes ≡ c.text x.message = cc in
          let inside : In x (standing a b ds) = subst (λ (l : List Standing). In x l) (sym e) (inl refl) in
          subst AreOctets (sym same) (codec.texts.bytes x.message (standing_sent IsWritten a b ds x sent inside))

  happens_kept : (ds : Transcript) (s : Plant) (e : Event) (h : Happened) → Happens c n s e h → Reading.Ok Pin Segment c codec n open_of s → Stand c n ds s → AllSent IsWritten ds → Fit s → SaysSend ds → Kept ds h
  happens_kept ds s (event.Load d g) h is ok stand sent fit says =
      subst (Kept ds) (sym is)
      (kept_pick ds (is_element n d) _ _ (kept_pick ds (is_full (s.current d).number (s.elements d).pending.rows) _ _ (fit, says) (record { inner = fit.inner; outer = fit.outer }, says)) (fit, says))
  happens_kept ds s (event.Open i holder) h is ok stand sent fit says = kept ds _ h is says (open_fits Pin Segment c codec n open_of s fit i holder)
  happens_kept ds s (event.Shut i) h is ok stand sent fit says = kept ds _ h is says (shut_fits Pin Segment c codec n open_of s fit i)
  happens_kept ds s (event.Feed i bytes) h is ok stand sent fit says = kept ds _ h is says (feed_fits Pin Segment c codec n open_of s fit i bytes)
  happens_kept ds s (event.Take i) h is ok stand sent fit says = kept ds _ h is says (take_fits Pin Segment c codec n open_of s fit i (ok i))
  happens_kept ds s (event.Carry a b) h is ok stand sent fit says = kept ds _ h is says (carry_fits Pin Segment c codec n open_of s fit a b (front a b s ds stand sent))
  happens_kept ds s (event.Break a b) h is ok stand sent fit says = kept ds _ h is says (break_fits Pin Segment c codec n open_of s fit a b)
  happens_kept ds s (event.Tick t) h is ok stand sent fit says = kept ds _ h is says (clock_fits Pin Segment c codec n open_of s fit t.0)
  happens_kept ds s (event.Drain i holder) h is ok stand sent fit says = kept ds _ h is says (drain_fits Pin Segment c codec n open_of s fit i holder)
  happens_kept ds s (event.Solve d k) h (inl none) ok stand sent fit says = subst (Kept ds) (sym none.1) (fit, says)
  happens_kept ds s (event.Solve d k) h (inr (inl none)) ok stand sent fit says = subst (Kept ds) (sym none.2) (fit, says)
  happens_kept ds s (event.Solve d k) h (inr (inr (inl solves))) ok stand sent fit says =
      let x = solves.1 in
      let r = commit c (place n d) (k, x.held) x.down s.clock (λ b. b.segment) (job_found x.rows.source_known x.rows.target_known x.rows.best) (s.elements d) in
      subst (Kept ds) (sym x.is) (puts_fit Pin Segment c codec n open_of d r.outputs (with_element Pin Segment c n open_of d r.element s) (record { inner = fit.inner; outer = fit.outer }), says)
  happens_kept ds s (event.Solve d k) h (inr (inr (inr solves))) ok stand sent fit says =
      let x = solves.2 in
      let r = parent.commit c (k, x.held) x.answer s.parent in
      subst (Kept ds) (sym x.is) (puts_fit Pin Segment c codec n open_of parent_as r.outputs (with_parent Pin Segment c n open_of r.parent s) (record { inner = fit.inner; outer = fit.outer }), says)

  run_says : (es : List Entry) (s : Plant) → Run c n es s → SolvesSend IsWritten (deeds_of c n es) → Fit s × SaysSend (deeds_of c n es)
  run_says [] s is solves =
      let h = opening_fits Pin Segment c codec n open_of first_pin in
      (subst Fit (sym is) h.0, h.1)
  run_says (e ∷ es) s run solves =
      let earlier = solves_before e.deeds (deeds_of c n es) solves in
      let before = run_says es run.0 run.1 earlier in
      let sent = (left_is_all c codec n net es run.0 run.1 (both_left (deeds_of c n es) before.1 earlier)).0 in
      elim run.3 [
        | inl is ↦
            happens_kept (deeds_of c n es) run.0 e.event (record { answer = e.answer; state = s; deeds = e.deeds }) is (Reading.run_read c codec n es run.0 run.1).0 (run_stands c n es run.0 run.1) sent before.0 before.1
        | inr none ↦ subst (Kept (deeds_of c n es)) (sym none.1) before
      ]

  pub solved_is_all : (es : List Entry) (s : Plant) → Run c n es s → SolvesSend IsWritten (deeds_of c n es) → AllSent IsWritten (deeds_of c n es) × AllDown c (deeds_of c n es) × AllFit c codec n net s
  solved_is_all es s run solves = left_is_all c codec n net es s run (both_left (deeds_of c n es) (run_says es s run solves).1 solves)
