-- A solve in a transcript is an event of the run: what is shown of each such event holds of each such moment.
use Rattle.std.proofs.Common.{◌≡◌, ◌⊎◌, ℕ, Bool, true, false, cond, List, [], ◌∷◌, ◌++◌, sym, ap, subst, inl, inr}
use Rattle.plant_model.specs.Types.{As, Message, Issued, NetworkParts}
use Rattle.pcep_messages.specs.Spelling.{IsWritten}
use Rattle.disclosure.specs.Shown.{open_of}
use Rattle.plant_model.specs.declared.output.Output.{Output}
use Rattle.plant_model.specs.declared.event.Event.{Event}
use Rattle.plant_model.specs.declared.event.Event.TheVariants as event
use Rattle.plant_text.specs.Names.{same_as, parent_as}
use Rattle.plant_model.specs.Wire.{Codec}
use Rattle.plant_text.specs.Settings.{Adjacency, adjacencies, is_element}
use Rattle.plant_model.specs.Settings.{place}
use Rattle.plant_model.specs.Parent as parent
use Rattle.plant_model.specs.Solving.{commit, job_found}
use Rattle.plant_model.specs.State.{Loads, Pops, Takes, Says, Ups, Downs, Clears, Solves, Expires, Hands}
use Rattle.plant_model.specs.Deeds.{Going, element_of, begin_adjacency}
use Rattle.plant_model.specs.Events as events
use Rattle.plant_model.specs.Plant.{Pin, Segment, first_pin, Plant, PlantDeed, Happened, Entry, Run, deeds_of, is_full, ElementSolves, ParentSolves, Happens}
use Rattle.plant_laws.specs.Transcript.{Transcript, Within}
use Rattle.plant_laws.specs.Sending.{AllSent}
use Rattle.plant_laws.proofs.Runs.Acts.{Acts, Goes, rests, hears, carries, nods, hands, rises, falls, says, clears, expires, stands, goes_on}
use Rattle.plant_laws.proofs.Runs.Decompose.{nil_right, begin_adjacency_on, open_did, shut_did, feed_did, take_did, carry_did, break_did, tick_did, drain_did}

-- deeds that are no solves
abbrev pub IsPlain : PlantDeed → Type 0
IsPlain (Solves at k os keys) = ⊥
IsPlain _ = Unit {0}

abbrev pub ArePlain : Transcript → Type 0
ArePlain [] = Unit {0}
ArePlain (e ∷ es) = IsPlain e × ArePlain es

abbrev first_of_two : PlantDeed → Transcript → PlantDeed
first_of_two e [] = e
first_of_two e (d ∷ ds) = d

pub solve_is_before : (es ds : Transcript) (d : As) (k : ℕ) (os : List Output) (keys : List (Issued Segment)) (older : Transcript) → ArePlain es → Within (Solves d k os keys ∷ older) (es ++ ds) → Within (Solves d k os keys ∷ older) ds
solve_is_before [] ds d k os keys older plain w = w
solve_is_before (e ∷ es) ds d k os keys older plain (inl same) = absurd (subst IsPlain (sym (ap (first_of_two e) same)) plain.0)
solve_is_before (e ∷ es) ds d k os keys older plain (inr w) = solve_is_before es ds d k os keys older plain.1 w

plain_append : (xs ys : Transcript) → ArePlain xs → ArePlain ys → ArePlain (xs ++ ys)
plain_append [] ys h k = k
plain_append (x ∷ xs) ys h k = (h.0, plain_append xs ys h.1 k)

module _ (c : Codec) (n : NetworkParts) where
  abbrev Plain : Going Pin Segment → Type 0
  Plain g = ArePlain g.deeds

  plain_pick : (b : Bool) (g h : Going Pin Segment) → Plain g → Plain h → Plain (cond b g h)
  plain_pick true g h x y = x
  plain_pick false g h x y = y

  act_plain : (s t : Plant) (es : Transcript) → Acts Pin Segment c n open_of s es t → ArePlain es
  act_plain s t es (rests s' t' same) = tt
  act_plain s t es (hears i bytes m s' read) = plain_pick (same_as (element_of n i) parent_as) _ _ (tt, tt) (tt, tt)
  act_plain s t es (carries a b bytes rest m s' u is read same) = plain_pick (same_as b parent_as) _ _ (tt, (tt, tt)) (tt, (tt, tt))
  act_plain s t es (rises at p s') = plain_pick (same_as at parent_as) _ _ (tt, tt) (tt, tt)
  act_plain s t es (falls at p s') = plain_pick (same_as at parent_as) _ _ (tt, tt) (tt, tt)
  act_plain s t es _ = (tt, tt)

  pub goes_plain : (s t : Plant) (es : Transcript) → Goes Pin Segment c n open_of s es t → ArePlain es
  goes_plain s t es (stands s') = tt
  goes_plain s u es (goes_on s' t u' fs gs r a) = plain_append gs fs (act_plain t u gs a) (goes_plain s t fs r)

  begun : (xs : List Adjacency) (s0 : Plant) (g : Going Pin Segment) → Goes Pin Segment c n open_of s0 g.deeds g.state →
      Goes Pin Segment c n open_of s0 (events.begin_adjacencies Pin Segment c n open_of xs g).deeds (events.begin_adjacencies Pin Segment c n open_of xs g).state
  begun [] s0 g r = r
  begun (x ∷ xs) s0 g r = begun xs s0 (begin_adjacency Pin Segment c n open_of 0 x g) (begin_adjacency_on Pin Segment c n open_of s0 0 x g r)

  pub opening_plain : ArePlain (deeds_of c n [])
  opening_plain =
      let b = events.bare Pin Segment c n open_of first_pin in
      let g = events.opening Pin Segment c n open_of first_pin in
      goes_plain b g.state g.deeds (begun (adjacencies n) b (record { state = b; deeds = [] }) (stands b))

  pub sent_before : (Q : Message → Type 0) (es ds : Transcript) → AllSent Q (es ++ ds) → AllSent Q ds
  sent_before Q [] ds h = h
  sent_before Q (e ∷ es) ds h = sent_before Q es ds h.1

  abbrev pub element_deed : (d : As) (k : ℕ) (s : Plant) (h : Happened) → ElementSolves c n d k s h → PlantDeed
  element_deed d k s h x =
      let r = commit c (place n d) (k, x.held) x.down s.clock (λ b. b.segment) (job_found x.rows.source_known x.rows.target_known x.rows.best) (s.elements d) in
      Solves d k r.outputs r.element.keys.issued

  abbrev pub upper_deed : (k : ℕ) (s : Plant) (h : Happened) → ParentSolves c n k s h → PlantDeed
  upper_deed k s h x = Solves parent_as k (parent.commit c (k, x.held) x.answer s.parent).outputs []

  module _ (M : PlantDeed → Transcript → Type 0)
      (element_made : (es : List Entry) (s : Plant) → Run c n es s → AllSent IsWritten (deeds_of c n es) → (d : As) (k : ℕ) (h : Happened) (x : ElementSolves c n d k s h) → M (element_deed d k s h x) (deeds_of c n es))
      (upper_made : (es : List Entry) (s : Plant) → Run c n es s → AllSent IsWritten (deeds_of c n es) → (k : ℕ) (h : Happened) (x : ParentSolves c n k s h) → M (upper_deed k s h x) (deeds_of c n es)) where
    abbrev At : Transcript → Type 0
    At [] = Unit {0}
    At (e ∷ older) = M e older

    module _ (d : As) (k : ℕ) (os : List Output) (keys : List (Issued Segment)) (older : Transcript) where
      abbrev moment : Transcript
      moment = Solves d k os keys ∷ older

      -- it is the one of this event, or an older one
      one_deed : (ds : Transcript) (h : Happened) (f : PlantDeed) → h.deeds ≡ f ∷ [] → M f ds → (Within moment ds → At moment) → Within moment (h.deeds ++ ds) → At moment
      one_deed ds h f is made more w = go (subst (λ (l : Transcript). Within moment (l ++ ds)) is w)
        where
          go : (moment ≡ f ∷ ds) ⊎ Within moment ds → At moment
          go (inl same) = subst At (sym same) made
          go (inr inside) = more inside

      none_made : (es ds : Transcript) → es ≡ [] → (Within moment ds → At moment) → Within moment (es ++ ds) → At moment
      none_made es ds is more w = more (subst (λ (l : Transcript). Within moment (l ++ ds)) is w)

      load_plain : (a : Bool) (h h' : Happened) → ArePlain h.deeds → ArePlain h'.deeds → ArePlain (cond a h h').deeds
      load_plain true h h' x y = x
      load_plain false h h' x y = y

      by_goes : (s : Plant) (h h' : Happened) → h' ≡ h → Goes Pin Segment c n open_of s h.deeds h.state → ArePlain h'.deeds
      by_goes s h h' is r = subst (λ (z : Happened). ArePlain z.deeds) (sym is) (goes_plain s h.state h.deeds r)

      plain_at : (es : List Entry) (s : Plant) (h : Happened) → ArePlain h.deeds → (Within moment (deeds_of c n es) → At moment) → Within moment (h.deeds ++ deeds_of c n es) → At moment
      plain_at es s h plain more w = more (solve_is_before h.deeds (deeds_of c n es) d k os keys older plain w)

      event_at : (es : List Entry) (s : Plant) → Run c n es s → AllSent IsWritten (deeds_of c n es) → (e : Event) (h : Happened) → Happens c n s e h →
          (Within moment (deeds_of c n es) → At moment) → Within moment (h.deeds ++ deeds_of c n es) → At moment
      event_at es s run written (event.Load d' g) h is more w =
          plain_at es s h (subst (λ (z : Happened). ArePlain z.deeds) (sym is)
          (load_plain (is_element n d') _ _ (load_plain (is_full (s.current d').number (s.elements d').pending.rows) _ _ tt (tt, tt)) tt)) more w
      event_at es s run written (event.Open i holder) h is more w = plain_at es s h (by_goes s (events.open_peer Pin Segment c n open_of i holder s) h is (open_did Pin Segment c n open_of i holder s)) more w
      event_at es s run written (event.Shut i) h is more w = plain_at es s h (by_goes s (events.shut Pin Segment c n open_of i s) h is (shut_did Pin Segment c n open_of i s)) more w
      event_at es s run written (event.Feed i bytes) h is more w = plain_at es s h (by_goes s (events.feed Pin Segment c n open_of i bytes s) h is (feed_did Pin Segment c n open_of i bytes s)) more w
      event_at es s run written (event.Take i) h is more w = plain_at es s h (by_goes s (events.take Pin Segment c n open_of i s) h is (take_did Pin Segment c n open_of i s)) more w
      event_at es s run written (event.Carry a b) h is more w = plain_at es s h (by_goes s (events.carry Pin Segment c n open_of a b s) h is (carry_did Pin Segment c n open_of a b s)) more w
      event_at es s run written (event.Break a b) h is more w = plain_at es s h (by_goes s (events.break Pin Segment c n open_of a b s) h is (break_did Pin Segment c n open_of a b s)) more w
      event_at es s run written (event.Tick t) h is more w = plain_at es s h (by_goes s (events.tick Pin Segment c n open_of t.0 s) h is (tick_did Pin Segment c n open_of t.0 s)) more w
      event_at es s run written (event.Drain i holder) h is more w = plain_at es s h (by_goes s (events.drain Pin Segment c n open_of i holder s) h is (drain_did Pin Segment c n open_of i holder s)) more w
      event_at es s run written (event.Solve d' k') h (inl none) more w = none_made h.deeds (deeds_of c n es) (ap (λ (z : Happened). z.deeds) none.1) more w
      event_at es s run written (event.Solve d' k') h (inr (inl none)) more w = none_made h.deeds (deeds_of c n es) (ap (λ (z : Happened). z.deeds) none.2) more w
      event_at es s run written (event.Solve d' k') h (inr (inr (inl solves))) more w =
          one_deed (deeds_of c n es) h (element_deed d' k' s h solves.1) (ap (λ (z : Happened). z.deeds) solves.1.is) (element_made es s run written d' k' h solves.1) more w
      event_at es s run written (event.Solve d' k') h (inr (inr (inr solves))) more w =
          one_deed (deeds_of c n es) h (upper_deed k' s h solves.2) (ap (λ (z : Happened). z.deeds) solves.2.is) (upper_made es s run written k' h solves.2) more w

      pub run_moments : (es : List Entry) (s : Plant) → Run c n es s → AllSent IsWritten (deeds_of c n es) → Within moment (deeds_of c n es) → At moment
      run_moments [] s run written w = absurd (no_moment (solve_is_before (deeds_of c n []) [] d k os keys older opening_plain (subst (λ (l : Transcript). Within moment l) (sym (nil_right (deeds_of c n []))) w)))
        where
          no_moment : Within moment [] → ⊥
          no_moment e' = cc
      run_moments (e ∷ es) s run written w =
          let before = sent_before IsWritten e.deeds (deeds_of c n es) written in
          let more = run_moments es run.0 run.1 before in
          elim run.3 [
            | inl is ↦ event_at es run.0 run.1 before e.event (record { answer = e.answer; state = s; deeds = e.deeds }) is more w
            | inr none ↦ none_made e.deeds (deeds_of c n es) (ap (λ (z : Happened). z.deeds) none.1) more w
          ]
