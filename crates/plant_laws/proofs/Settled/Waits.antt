-- In every state of a run, a row that waits was sent on in the moment that opened it, under the id for which it waits.
use Rattle.std.proofs.Common.{◌≡◌, ◌⊎◌, ◌<◌, length, Bool, true, false, cond, Option, Some, None, List, [], ◌∷◌, inl, inr, sym, ◌∙◌, ap, subst, refl, arith}
use Rattle.std.proofs.lemmas.Bool.{cases_Bool}
use Rattle.std.proofs.lemmas.Grind.{common_steps}
use Rattle.plant_model.specs.Types.{As, RequestKey, NetworkParts}
use Rattle.disclosure.specs.Shown.{open_of}
use Rattle.request_table.specs.Pending.{Pending, key_of, same_key, number_among}
use Rattle.request_table.proofs.KeyLemmas.{same_key_self}
use Rattle.plant_model.specs.declared.output.Output.{Output}
use Rattle.plant_text.specs.Names.{same_as, parent_as}
use Rattle.plant_model.specs.Names.{the_parent, set_as}
use Rattle.plant_model.specs.Wire.{Codec}
use Rattle.plant_model.specs.Writing.{request_message}
use Rattle.plant_model.specs.Element.{Stage, Waits, Ready, Item, Element, Row, is_ready, upped, downed}
use Rattle.plant_model.specs.Taking.{take}
use Rattle.plant_model.specs.Solving.{commit, job_found}
use Rattle.plant_model.specs.Parent as parent
use Rattle.plant_text.specs.Settings.{class_of}
use Rattle.plant_model.specs.Settings.{place, family}
use Rattle.plant_model.specs.State.{State}
use Rattle.plant_model.specs.Deeds.{own_message, with_parent, with_element}
use Rattle.plant_model.specs.Plant.{Pin, Segment, Plant, PlantDeed, Entry, Run, deeds_of, first_pin}
use Rattle.plant_laws.specs.Transcript.{Transcript, Effect, Keeps, Ends, Begins, effect, after, opened, outputs_at, SentIn}
use Rattle.plant_laws.proofs.Runs.Queues.{same_as_is}
use Rattle.plant_laws.proofs.Runs.Seen.{seen_none}
use Rattle.plant_laws.proofs.Runs.Rows.{In, in_of, seen_in}
use Rattle.plant_laws.proofs.WrittenForm.RequestsWritten.{requests_are_single}
use Rattle.plant_laws.specs.Runs.{InRuns}
use Rattle.plant_laws.specs.Waiting.{WaitsAreSentIn, WaitsApartIn, wait_alike}
use Rattle.plant_laws.proofs.Runs.Inboxes.{contains}
use Rattle.plant_laws.proofs.Once.ElementSteps as lower
use Rattle.plant_laws.proofs.Once.Opened.{Matches, AreSingle, IsRequest, Holds, holds_same, puts_elements, set_pending, single_deed}
use Rattle.plant_laws.proofs.Once.OpenedRuns.{does_hold, bare_holds}
use Rattle.plant_laws.proofs.Once.DeedByDeed.{Does, takes_above, takes_below, downs_above, downs_below, ups_above, ups_below, solves_above, solves_below, pops, hands_out, says_own, clears_link, expires_at, loads_rows, run_singles}
use Rattle.plant_model.specs.Events as events
use Rattle.plant_laws.proofs.Once.OpenTables.{row_matched}
use Rattle.plant_laws.proofs.Least.Subsides.{IsOlder, commit_subs, downed_subs}
use Rattle.plant_laws.proofs.Numbering.SentOn.{IsRest, IsSentIn, take_news, same_id_back}

pub still : (eff : Effect) (o : Option Transcript) (now at at' : Transcript) → o ≡ Some at → after eff o now ≡ Some at' → after eff o now ≡ Some at
still Keeps o now at at' e f = e
still Ends o now at at' e f = absurd (let out : None ≡ Some at' = f in cc)
still Begins None now at at' e f = absurd (let out : None ≡ Some at = e in cc)
still Begins (Some m) now at at' e f = e

pub begun : (eff : Effect) (o : Option Transcript) (now at' : Transcript) → o ≡ None → after eff o now ≡ Some at' → after eff o now ≡ Some now
begun Keeps o now at' e f = absurd (let out : None ≡ Some at' = sym e ∙ f in cc)
begun Ends o now at' e f = absurd (let out : None ≡ Some at' = f in cc)
begun Begins None now at' e f = refl
begun Begins (Some m) now at' e f = absurd (let out : Some m ≡ None = e in cc)

module _ (c : Codec) (n : NetworkParts) where
  abbrev pub Core : Type 0
  Core = State Pin Segment

  abbrev pub SentAt : Transcript → As → Row Pin → Stage → Type 0
  SentAt ds d h (Ready branches) = Unit {0}
  SentAt ds d h (Waits b y) =
      (at : Transcript) × (opened c d h.1.key.peer h.1.key.id ds ≡ Some at)
      × ((rest : List As) × SentIn at d b (request_message y h.1.item.wanted h.1.item.wanted.target rest) × IsRest (place n d).routes h.1.item.sequence rest b)

  abbrev pub IsSentOn : Transcript → As → Row Pin → Type 0
  IsSentOn ds d h = SentAt ds d h h.1.item.stage

  -- different requests do not wait for one id
  abbrev pub AreApart : Core → Type 0
  AreApart s = (d : As) (h g : Row Pin) → In h (s.elements d).pending.rows → In g (s.elements d).pending.rows → same_key h.1.key g.1.key ≡ false → wait_alike h.1.item.stage g.1.item.stage ≡ false

  abbrev pub AreSentOn : Transcript → Core → Type 0
  AreSentOn ds s = ((d : As) (h : Row Pin) → In h (s.elements d).pending.rows → IsSentOn ds d h) × AreApart s

  -- one row after a deed
  abbrev Comes : PlantDeed → Core → As → RequestKey → Row Pin → Type 0
  Comes e s d key h =
      IsOlder Pin (s.elements d).pending.rows h
      ⊎ ((h.1.key ≡ key) × ((number_among h.1.key (s.elements d).pending.rows ≡ None) × IsSentIn (place n d).routes (outputs_at d e) h.1.item h.1.item.stage
      × ((g : Row Pin) → In g (s.elements d).pending.rows → wait_alike h.1.item.stage g.1.item.stage ≡ false)))

  -- the rows of an element after a deed
  abbrev Rows_come : PlantDeed → Core → Core → As → Type 0
  Rows_come e s t d = (key : RequestKey) × ((h : Row Pin) → In h (t.elements d).pending.rows → Comes e s d key h)

  in_none : (h : Row Pin) (rows : List (Row Pin)) → rows ≡ [] → In h rows → ⊥
  in_none h [] e none = none
  in_none h (row ∷ rows) e some = let out : row ∷ rows ≡ [] = e in cc

  pub is_open : (ds : Transcript) (s : Core) → Holds c n ds s → (d : As) (h : Row Pin) → In h (s.elements d).pending.rows → (same_as d parent_as ≡ false) × ((at : Transcript) × (opened c d h.1.key.peer h.1.key.id ds ≡ Some at))
  is_open ds s held d h i =
      elim (cases_Bool (same_as d parent_as)) [
        | inl up ↦ absurd (in_none h (s.elements parent_as).pending.rows held.nothing (subst (λ z. In h (s.elements z).pending.rows) (same_as_is d parent_as up) i))
        | inr low ↦
            let r = row_matched (IsRequest c n d h.1.key.peer h.1.key.id) (lower.core h.1.item) (opened c d h.1.key.peer h.1.key.id ds)
            (subst (λ o. Matches (IsRequest c n d h.1.key.peer h.1.key.id) o (opened c d h.1.key.peer h.1.key.id ds))
            (seen_in lower.core (s.elements d).pending.rows h (held.elements d).names i) (held.rows d h.1.key.peer h.1.key.id low)) in
            (low, (r.0, r.1))
      ]

  not_open : (ds : Transcript) (s : Core) → Holds c n ds s → (d : As) → same_as d parent_as ≡ false → (key : RequestKey) → number_among key (s.elements d).pending.rows ≡ None → opened c d key.peer key.id ds ≡ None
  not_open ds s held d low key none =
      go (opened c d key.peer key.id ds) (subst (λ o. Matches (IsRequest c n d key.peer key.id) o (opened c d key.peer key.id ds)) (seen_none lower.core key (s.elements d).pending.rows none) (held.rows d key.peer key.id low))
    where
      go : (o : Option Transcript) → Matches (IsRequest c n d key.peer key.id) None o → o ≡ None
      go None m = refl
      go (Some at) m = absurd m

  older_sent : (e : PlantDeed) (ds : Transcript) (d : As) (h g : Row Pin) (at' : Transcript) → opened c d h.1.key.peer h.1.key.id (e ∷ ds) ≡ Some at' → h.1.key ≡ g.1.key → (h.1.item ≡ g.1.item) ⊎ (is_ready h.1.item.stage ≡ true) →
      IsSentOn ds d g → IsSentOn (e ∷ ds) d h
  older_sent e ds d h g at' is key (inr ready) old = go h.1.item.stage ready
    where
      go : (stage : Stage) → is_ready stage ≡ true → SentAt (e ∷ ds) d h stage
      go (Ready branches) r = tt
      go (Waits b y) r = absurd (let out : false ≡ true = r in cc)
  older_sent e ds d h g at' is key (inl same) old = go h.1.item.stage refl
    where
      go : (stage : Stage) → h.1.item.stage ≡ stage → SentAt (e ∷ ds) d h stage
      go (Ready branches) st = tt
      go (Waits b y) st =
          let w : SentAt ds d g (Waits b y) = subst (SentAt ds d g) (sym (ap (λ (i : Item Pin). i.stage) same) ∙ st) old in
          let was : opened c d h.1.key.peer h.1.key.id ds ≡ Some w.0 = ap (λ (k : RequestKey). opened c d k.peer k.id ds) key ∙ w.1 in (
            w.0,
            still (effect c d h.1.key.peer h.1.key.id e) (opened c d h.1.key.peer h.1.key.id ds) (e ∷ ds) w.0 at' was is,
            (w.2.0, subst (λ (i : Item Pin). SentIn w.0 d b (request_message y i.wanted i.wanted.target w.2.0)) (sym same) w.2.1, subst (λ (i : Item Pin). IsRest (place n d).routes i.sequence w.2.0 b) (sym same) w.2.2),
          )

  new_sent : (e : PlantDeed) (ds : Transcript) (d : As) (h : Row Pin) (at' : Transcript) → opened c d h.1.key.peer h.1.key.id (e ∷ ds) ≡ Some at' → opened c d h.1.key.peer h.1.key.id ds ≡ None → (stage : Stage) →
      IsSentIn (place n d).routes (outputs_at d e) h.1.item stage → SentAt (e ∷ ds) d h stage
  new_sent e ds d h at' is none (Ready branches) sent = tt
  new_sent e ds d h at' is none (Waits b y) sent = (
    e ∷ ds,
    begun (effect c d h.1.key.peer h.1.key.id e) (opened c d h.1.key.peer h.1.key.id ds) (e ∷ ds) at' none is,
    (sent.0, contains _ (outputs_at d e) sent.1, sent.2),
  )

  wait_back : (x y : Stage) → wait_alike x y ≡ wait_alike y x
  wait_back (Waits p a) (Waits q b) = same_id_back p q a b
  wait_back (Waits p a) (Ready bs) = refl
  wait_back (Ready as') (Waits q b) = refl
  wait_back (Ready as') (Ready bs) = refl

  ready_apart : (x y : Stage) → is_ready x ≡ true → wait_alike x y ≡ false
  ready_apart (Waits p a) y r = absurd (let out : false ≡ true = r in cc)
  ready_apart (Ready as') y r = refl

  -- a row as an older one, or made ready, is as far from others
  as_older : (h h0 : Row Pin) (y : Stage) → (h.1.item ≡ h0.1.item) ⊎ (is_ready h.1.item.stage ≡ true) → wait_alike h0.1.item.stage y ≡ false → wait_alike h.1.item.stage y ≡ false
  as_older h h0 y (inl same) apart = subst (λ (i : Item Pin). wait_alike i.stage y ≡ false) (sym same) apart
  as_older h h0 y (inr ready) apart = ready_apart h.1.item.stage y ready

  apart_after : (e : PlantDeed) (s : Core) (d : As) (key : RequestKey) (h g : Row Pin) → AreApart s → same_key h.1.key g.1.key ≡ false → Comes e s d key h → Comes e s d key g → wait_alike h.1.item.stage g.1.item.stage ≡ false
  apart_after e s d key h g apart differ (inl a) (inl b) =
      let keys : same_key a.0.1.key b.0.1.key ≡ false = subst (λ (k : RequestKey). same_key k b.0.1.key ≡ false) a.2 (subst (λ (k : RequestKey). same_key h.1.key k ≡ false) b.2 differ) in
      as_older h a.0 g.1.item.stage a.3
      (wait_back a.0.1.item.stage g.1.item.stage ∙ as_older g b.0 a.0.1.item.stage b.3 (wait_back b.0.1.item.stage a.0.1.item.stage ∙ apart d a.0 b.0 a.1 b.1 keys))
  apart_after e s d key h g apart differ (inr a) (inl b) =
      wait_back h.1.item.stage g.1.item.stage ∙ as_older g b.0 h.1.item.stage b.3 (wait_back b.0.1.item.stage h.1.item.stage ∙ a.1.2 b.0 b.1)
  apart_after e s d key h g apart differ (inl a) (inr b) = as_older h a.0 g.1.item.stage a.3 (wait_back a.0.1.item.stage g.1.item.stage ∙ b.1.2 a.0 a.1)
  apart_after e s d key h g apart differ (inr a) (inr b) =
      let keys : h.1.key ≡ g.1.key = a.0 ∙ sym b.0 in
      absurd (let out : true ≡ false = sym (same_key_self h.1.key) ∙ ap (λ (k : RequestKey). same_key h.1.key k) keys ∙ differ in cc)

  sent_after : (e : PlantDeed) (ds : Transcript) (s t : Core) → Holds c n ds s → AreSentOn ds s → Holds c n (e ∷ ds) t → ((d : As) → Rows_come e s t d) → AreSentOn (e ∷ ds) t
  sent_after e ds s t held sent next comes = (
    (λ d h i.
        let o = is_open (e ∷ ds) t next d h i in
        elim ((comes d).1 h i) [
          | inl old ↦ older_sent e ds d h old.0 o.1.0 o.1.1 old.2 old.3 (sent.0 d old.0 old.1)
          | inr new ↦ new_sent e ds d h o.1.0 o.1.1 (not_open ds s held d o.0 h.1.key new.1.0) h.1.item.stage new.1.1
        ]),
    (λ d h g i j differ. apart_after e s d (comes d).0 h g sent.1 differ ((comes d).1 h i) ((comes d).1 g j)),
  )

  -- rows that stay
  stay : (e : PlantDeed) (s t : Core) → ((d : As) → (t.elements d).pending ≡ (s.elements d).pending) → (d : As) → Rows_come e s t d
  stay e s t same d = (key_of the_parent 0, λ h i. inl (h, subst (λ (q : Pending (Item Pin)). In h q.rows) (same d) i, refl, inl refl))

  -- rows of an element that does something
  come : (e : PlantDeed) (at : As) (k : Element Pin Segment) (s t : Core) → t.elements ≡ set_as at k s.elements →
      ((key : RequestKey) × ((h : Row Pin) → In h k.pending.rows → Comes e s at key h)) → (d : As) → Rows_come e s t d
  come e at k s t same one d = (
    one.0,
    λ h i. go h (same_as at d) refl (subst (λ (q : Pending (Item Pin)). In h q.rows) (ap (λ (f : As → Element Pin Segment). (f d).pending) same ∙ set_pending c n at d k s) i),
  )
    where
      go : (h : Row Pin) (b : Bool) → same_as at d ≡ b → In h (cond b k.pending (s.elements d).pending).rows → Comes e s d one.0 h
      go h true is j = subst (λ z. Comes e s z one.0 h) (same_as_is at d is) (one.1 h j)
      go h false is j = inl (h, j, refl, inl refl)

  few_rows : (ds : Transcript) (s : Core) → Holds c n ds s → (d : As) → length (s.elements d).pending.rows < 4294967294
  few_rows ds s held d = let few = (held.elements d).few in let limit = held.limits d in omega (arith, few, limit)

  abbrev pub Both : Transcript → Core → Type 0
  Both ds s = Holds c n ds s × AreSentOn ds s

  pub outputs_own : (at : As) (os : List Output) → cond (same_as at at) os [] ≡ os
  outputs_own at os = let own : same_as at at ≡ true = grind (arith, common_steps) in rw own refl

  sent_same : (ds : Transcript) (s t : Core) → t.elements ≡ s.elements → AreSentOn ds s → AreSentOn ds t
  sent_same ds s t same sent = (
    subst (λ (f : As → Element Pin Segment). (d : As) (h : Row Pin) → In h (f d).pending.rows → IsSentOn ds d h) (sym same) sent.0,
    subst (λ (f : As → Element Pin Segment). (d : As) (h g : Row Pin) → In h (f d).pending.rows → In g (f d).pending.rows → same_key h.1.key g.1.key ≡ false → wait_alike h.1.item.stage g.1.item.stage ≡ false) (sym same) sent.1,
  )

  -- elements' rows are as before
  as_before : (e : PlantDeed) (s t : Core) → t.elements ≡ s.elements → (d : As) → Rows_come e s t d
  as_before e s t same = stay e s t (λ d. ap (λ (f : As → Element Pin Segment). (f d).pending) same)

  comes_of : (s t : Core) (ds : Transcript) (e : PlantDeed) → Does c n s e t → single_deed e → Holds c n ds s → (d : As) → Rows_come e s t d
  comes_of s t ds e (takes_above at p m s' up) one held = as_before e s t (let r = parent.take c (family n) p m s.parent in puts_elements c n at r.outputs (with_parent Pin Segment c n open_of r.parent s))
  comes_of s t ds e (takes_below at p m s' low heard) one held =
      let r = take c open_of (place n at) (s.current at) p (class_of n p) s.clock m (s.elements at) in
      let news = take_news Pin Segment c open_of (place n at) (s.current at) p (class_of n p) s.clock (s.elements at) (few_rows ds s held at) m one in
      come e at r.element s t (puts_elements c n at r.outputs (with_element Pin Segment c n open_of at r.element s)) (
        news.0,
        (λ h i. elim (news.1 h i) [
          | inl old ↦ inl old
          | inr new ↦ inr (new.0, (new.1.0, subst (λ (os : List Output). IsSentIn (place n at).routes os h.1.item h.1.item.stage) (sym (outputs_own at r.outputs)) new.1.1, new.1.2))
        ]),
      )
  comes_of s t ds e (downs_above at p s' up) one held = as_before e s t (let r = parent.downed p s.parent in puts_elements c n at r.outputs (with_parent Pin Segment c n open_of r.parent s))
  comes_of s t ds e (downs_below at p s' low) one held =
      let r = downed p (s.elements at) in
      come e at r.element s t (puts_elements c n at r.outputs (with_element Pin Segment c n open_of at r.element s)) (key_of p 0, (λ h i. inl (downed_subs Pin Segment p (s.elements at) h i)))
  comes_of s t ds e (ups_above at p s' up) one held = as_before e s t refl
  comes_of s t ds e (ups_below at p s' low) one held = come e at (upped p (s.elements at)) s t refl (key_of p 0, (λ h i. inl (h, i, refl, inl refl)))
  comes_of s t ds e (solves_above k h s' x) one held =
      let r = parent.commit c (k, x.held) x.answer s.parent in
      as_before e s t (puts_elements c n parent_as r.outputs (with_parent Pin Segment c n open_of r.parent s))
  comes_of s t ds e (solves_below d k h s' x) one held =
      let r = commit c (place n d) (k, x.held) x.down s.clock (λ b. b.segment) (job_found x.rows.source_known x.rows.target_known x.rows.best) (s.elements d) in
      come e d r.element s t (puts_elements c n d r.outputs (with_element Pin Segment c n open_of d r.element s))
      (x.held.key, (λ g i. inl (commit_subs Pin Segment c (place n d) (k, x.held) x.down s.clock (λ b. b.segment) x.rows.source_known x.rows.target_known x.rows.best (s.elements d) g i)))
  comes_of s t ds e (says_own at p o s') one held = as_before e s t (puts_elements c n at (record { to = p; message = own_message o } ∷ []) s)
  comes_of s t ds e (loads_rows d g s') one held = stay e s t (λ d'. refl)
  comes_of s t ds e _ one held = stay e s t (λ d. refl)

  pub both_same : (ds : Transcript) (s t : Core) → t.elements ≡ s.elements → t.parent ≡ s.parent → t.current ≡ s.current → Both ds s → Both ds t
  both_same ds s t elements above current both = (holds_same c n ds s t elements above current both.0, sent_same ds s t elements both.1)

  pub does_both : (ds : Transcript) (s t : Core) (e : PlantDeed) → Does c n s e t → single_deed e → Both ds s → Both (e ∷ ds) t
  does_both ds s t e does one both =
      let next = does_hold c n ds s t e does one both.0 in
      (next, sent_after e ds s t both.0 both.1 next (comes_of s t ds e does one both.0))

  pub bare_both : AreSingle [] → Both [] (events.bare Pin Segment c n open_of first_pin)
  bare_both single = (bare_holds c n single, ((λ d h none. absurd none), (λ d h g none. absurd none)))

  pub run_sent_on : (es : List Entry) (s : Plant) → Run c n es s → AreSingle (deeds_of c n es) → AreSentOn (deeds_of c n es) s
  run_sent_on es s run single = (run_singles c n Both both_same does_both bare_both es s run single).1

pub waits_are_sent : InRuns WaitsAreSentIn
waits_are_sent c codec n net es s run d h i b y is =
    let all = run_sent_on c n es s run (requests_are_single c codec n net es s run) in
    let w = subst (λ (stage : Stage). SentAt c n (deeds_of c n es) d h stage) is (all.0 d h (in_of h (s.elements d).pending.rows i)) in
    record { at = w.0; is_open = w.1; rest = w.2.0; sent = w.2.1; goes = w.2.2 }

pub waits_apart : InRuns WaitsApartIn
waits_apart c codec n net es s run d h g i j differ =
    let all = run_sent_on c n es s run (requests_are_single c codec n net es s run) in
    all.1 d h g (in_of h (s.elements d).pending.rows i) (in_of g (s.elements d).pending.rows j) differ
