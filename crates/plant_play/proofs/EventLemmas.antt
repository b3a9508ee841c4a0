-- An event that was done, and what is shown and told of it.
use Rattle.std.proofs.Common.{◌≡◌, ℕ, Bool, true, false, not, cond, ◌&&◌, ◌||◌, List, [], ◌∷◌, ◌++◌, Option, Some, None, Ok, Err, inl, inr, sym, ◌∙◌, subst, ap, refl, OnOk}
use Rattle.std.specs.Arc.{arc_value}
use Rattle.plant_network.specs.plant_model.Types.{As, BorderRow, Ask, Job, Sent, NetworkParts}
use Rattle.path_certificate.specs.declared.certificate.Certificate.{Certificate}
use Rattle.te_links.specs.Rows.{Rows}
use Rattle.border_costs.specs.Solutions.{Solution}
use Rattle.plant_text.specs.Names.{same_as, parent_as}
use Rattle.plant_network.specs.plant_model.declared.event.Event.{Event}
use Rattle.plant_network.specs.plant_model.declared.event.Event.TheVariants as event
use Rattle.plant_network.specs.plant_model.declared.outcome.Outcome.{Outcome}
use Rattle.plant_network.specs.plant_model.Blind.{is_accepted}
use Rattle.plant_network.specs.plant_model.Events.{Answered, is_ready}
use Rattle.plant_network.specs.plant_model.State.{said}
use Rattle.plant_network.specs.plant_model.Plant.{Plant, PlantDeed, Happened, Happens, SolveHappens}
use Rattle.plant_network.specs.plant_model.RealWire.{wire}
use Rattle.plant_network.specs.pce_parent.declared.work.Done.TheVariants as done
use Rattle.plant_network.specs.pce_parent.declared.work.Work.TheVariants as work
use Rattle.plant_network.specs.Jobs.{IsAsked, IsOwn}
use Rattle.plant_network.proofs.JobLemmas.{solved_here}
use Rattle.plant_network.specs.Whole.{Whole}
use Rattle.transcript.specs.Lines.{answer_line, rows_text, sents_text}
use Rattle.plant_play.specs.declared.showing.Modes.{Modes}
use Rattle.plant_play.specs.Logs.{Told, behind}
use Rattle.plant_play.specs.Making.{Brings, CertificateOf, Does, IsJobAt, IsJobOf, IsToShow, Makes, MakesTurn, TableOf, shows_any, playing, told_of}
use Rattle.plant_play.specs.Playing.{PlaysOne}
use Rattle.plant_play.specs.Turns.{CertificateAt, HasTable, ShowsTurn, TableAt, Turn, brought_text, certificate_text, event_line, is_domain_solve, messages_of, tells_closed, unsaid}
use Rattle.plant_play.proofs.LogLemmas.{behind_twice}

-- ---- the job that is shown

none_there : (job : Job) → ◌≡◌ {A = Option Job} (Some job) None → ⊥
none_there job e = cc

-- the event solves what was solved, which is the own job of the network
pub record IsSolveOf (w : Whole) (e : Event) (x : Solution) : Type 0 where
  pub own : IsOwn w (done.Domain x)
  pub is : event.Solve x.ask.at x.ask.number ≡ e

module _ (w : Whole) (job : Job) (x : Solution) (asked : x.ask ≡ job.ask) (over : x.topology ≡ arc_value job.topology) where
  solve_at : (e : Event) → IsJobOf w e (Some job) → IsSolveOf w e x
  solve_at (event.Solve d k) h =
      let s = solved_here w d k (work.Domain job) (done.Domain x) (h.below, h.is_asked) (asked, over) in
      record { own = s.own; is = ap (λ (a : As). event.Solve a x.ask.number) s.at ∙ ap (event.Solve d) s.number }
  solve_at (event.Load d g) h = absurd (none_there job h)
  solve_at (event.Open i holder) h = absurd (none_there job h)
  solve_at (event.Shut i) h = absurd (none_there job h)
  solve_at (event.Feed i bytes) h = absurd (none_there job h)
  solve_at (event.Take i) h = absurd (none_there job h)
  solve_at (event.Carry a b) h = absurd (none_there job h)
  solve_at (event.Break a b) h = absurd (none_there job h)
  solve_at (event.Tick t) h = absurd (none_there job h)
  solve_at (event.Drain i holder) h = absurd (none_there job h)

  pub solve_of : (m : Modes) (e : Event) → IsToShow m w e (Some job) → IsSolveOf w e x
  solve_of m e to_show = go (shows_any m) to_show
    where
      go : (b : Bool) → cond b (IsJobOf w e (Some job)) (◌≡◌ {A = Option Job} (Some job) None) → IsSolveOf w e x
      go true h = solve_at e h
      go false h = absurd (none_there job h)

-- ---- what an accepted solve solved

-- a domain's job that was solved could be solved
pub was_ready : (n : NetworkParts) (d : As) (k : ℕ) (s : Plant) (h : Happened) (o : Outcome) → SolveHappens wire n d k s h → h.answer ≡ Ok o → same_as d parent_as ≡ false → is_ready d k s ≡ true
was_ready n d k s h o (inl x) ok below = absurd (let no : Err _ ≡ Ok o = sym (ap (λ (y : Happened). y.answer) x.1) ∙ ok in cc)
was_ready n d k s h o (inr (inl x)) ok below = absurd (let no : Err _ ≡ Ok o = sym (ap (λ (y : Happened). y.answer) x.2) ∙ ok in cc)
was_ready n d k s h o (inr (inr (inl x))) ok below = let e = x.1 in rw below (rw e.is_held (rw e.ready refl))
was_ready n d k s h o (inr (inr (inr x))) ok below = absurd (let no : same_as parent_as parent_as ≡ false = subst (λ (a : As). same_as a parent_as ≡ false) x.1 below in let yes : true ≡ false = no in cc)

-- ---- what is shown

-- the same job, of the network of which nothing is said
pub asked_unsaid : (w : Whole) (d : As) (k : ℕ) (asked : Ask) (g : Rows) → IsAsked w d k asked g → IsAsked (unsaid w.network w.state) d k asked g
asked_unsaid w d k asked g h = record { held = h.held; is_held = h.is_held; down = h.down; ready = h.ready; asks = h.asks; pinned = h.pinned }

nothing_rows : (b : Bool) (rows : List BorderRow) → cond b (rows ≡ []) (rows ≡ []) → rows ≡ []
nothing_rows true rows h = h
nothing_rows false rows h = h

nothing_certified : (b : Bool) (c : Option Certificate) → cond b (c ≡ None) (c ≡ None) → c ≡ None
nothing_certified true c h = h
nothing_certified false c h = h

no_job : (b : Bool) (job : Option Job) → cond b (job ≡ None) (job ≡ None) → job ≡ None
no_job true job h = h
no_job false job h = h

-- without a job
none_shown : (c d : Bool) (job : Option Job) (rows : List BorderRow) (cert : Option Certificate) → job ≡ None →
    cond d (TableOf job rows) (rows ≡ []) → cond c (CertificateOf job cert) (cert ≡ None) → (rows ≡ []) × (cert ≡ None)
none_shown c d job rows cert is h k =
    let h' : cond d (TableOf None rows) (rows ≡ []) = subst (λ (j : Option Job). cond d (TableOf j rows) (rows ≡ [])) is h in
    let k' : cond c (CertificateOf None cert) (cert ≡ None) = subst (λ (j : Option Job). cond c (CertificateOf j cert) (cert ≡ None)) is k in
    (nothing_rows d rows h', nothing_certified c cert k')

module _ (w : Whole) (at : As) (k : ℕ) where
  table_there : (b : Bool) (job : Job) (rows : List BorderRow) → IsAsked w at k job.ask (arc_value job.topology) → cond b (TableOf (Some job) rows) (rows ≡ []) →
      cond b (HasTable (unsaid w.network w.state) at k rows) (rows ≡ [])
  table_there true job rows asked h = record { asked = job.ask; topology = arc_value job.topology; is_asked = asked_unsaid w at k job.ask (arc_value job.topology) asked; table = h }
  table_there false job rows asked h = h

  labels_there : (c : Bool) (job : Job) (cert : Option Certificate) → IsAsked w at k job.ask (arc_value job.topology) → cond c (CertificateOf (Some job) cert) (cert ≡ None) →
      cond c (CertificateAt (unsaid w.network w.state) (event.Solve at k) cert) (cert ≡ None)
  labels_there false job cert asked h = h
  labels_there true job None asked h = absurd h
  labels_there true job (Some x) asked h = record {
    asked = job.ask;
    topology = arc_value job.topology;
    is_asked = asked_unsaid w at k job.ask (arc_value job.topology) asked;
    seeds = h.seeds;
    are_seeds = h.are_seeds;
    labels = h.labels;
  }

  is_asked_of : (b : Bool) (job : Job) → cond b (IsJobAt w at k job) (◌≡◌ {A = Option Job} (Some job) None) → IsJobAt w at k job
  is_asked_of true job h = h
  is_asked_of false job h = absurd (let no : ◌≡◌ {A = Option Job} (Some job) None = h in cc)

  -- where the job is one of the parent, nothing is shown
  above_shows : (c d : Bool) (b : Bool) (job : Option Job) (rows : List BorderRow) (cert : Option Certificate) → same_as at parent_as ≡ true →
      cond b (IsJobOf w (event.Solve at k) job) (job ≡ None) → cond d (TableOf job rows) (rows ≡ []) → cond c (CertificateOf job cert) (cert ≡ None) → (rows ≡ []) × (cert ≡ None)
  above_shows c d b None rows cert above to_show h l = none_shown c d None rows cert refl h l
  above_shows c d b (Some job) rows cert above to_show h l = absurd (let there = is_asked_of b job to_show in let no : true ≡ false = sym above ∙ there.below in cc)

  below_shows : (c d closed : Bool) (job : Option Job) (rows : List BorderRow) (cert : Option Certificate) → same_as at parent_as ≡ false → is_ready at k w.state ≡ true →
      cond (c || d) (IsJobOf w (event.Solve at k) job) (job ≡ None) → cond (d && closed) (TableOf job rows) (rows ≡ []) → cond c (CertificateOf job cert) (cert ≡ None) →
      cond (d && closed) (HasTable (unsaid w.network w.state) at k rows) (rows ≡ []) × cond c (CertificateAt (unsaid w.network w.state) (event.Solve at k) cert) (cert ≡ None)
  below_shows c d closed (Some job) rows cert below ready to_show h l =
      let there = is_asked_of (c || d) job to_show in (table_there (d && closed) job rows there.is_asked h, labels_there c job cert there.is_asked l)
  below_shows false false closed None rows cert below ready to_show h l = (h, l)
  below_shows true d closed None rows cert below ready to_show h l =
      absurd (let not_ready : is_ready at k w.state ≡ false = subst (λ (b : Bool). cond b (Unit {0}) (is_ready at k w.state ≡ false)) below to_show in let no : true ≡ false = sym ready ∙ not_ready in cc)
  below_shows false true closed None rows cert below ready to_show h l =
      absurd (let not_ready : is_ready at k w.state ≡ false = subst (λ (b : Bool). cond b (Unit {0}) (is_ready at k w.state ≡ false)) below to_show in let no : true ≡ false = sym ready ∙ not_ready in cc)

-- what is shown of an accepted event
abbrev ShownOf : Modes → Whole → Event → Bool → List BorderRow → Option Certificate → Type 0
ShownOf m w e closed rows cert =
    cond (is_domain_solve e)
    (cond (m.disclose && closed) (TableAt (unsaid w.network w.state) e rows) (rows ≡ []) × cond m.certify (CertificateAt (unsaid w.network w.state) e cert) (cert ≡ None))
    ((rows ≡ []) × (cert ≡ None))

module _ (m : Modes) (w : Whole) (o : Outcome) (deeds : List PlantDeed) (after : Plant) (closed : Bool) (job : Option Job) (rows : List BorderRow) (cert : Option Certificate) where
  shown_of : (e : Event) → Happens wire w.network w.state e (record { answer = Ok o; state = after; deeds = deeds }) → IsToShow m w e job →
      cond (m.disclose && closed) (TableOf job rows) (rows ≡ []) → cond m.certify (CertificateOf job cert) (cert ≡ None) → ShownOf m w e closed rows cert
  shown_of (event.Solve at k) happens to_show h l = go (same_as at parent_as) refl
    where
      go : (b : Bool) → same_as at parent_as ≡ b →
          cond (not b)
          (cond (m.disclose && closed) (HasTable (unsaid w.network w.state) at k rows) (rows ≡ [])
          × cond m.certify (CertificateAt (unsaid w.network w.state) (event.Solve at k) cert) (cert ≡ None))
          ((rows ≡ []) × (cert ≡ None))
      go true e = above_shows w at k m.certify (m.disclose && closed) (shows_any m) job rows cert e to_show h l
      go false e =
          below_shows w at k m.certify m.disclose closed job rows cert e (was_ready w.network at k w.state (record { answer = Ok o; state = after; deeds = deeds }) o happens refl e) to_show h l
  shown_of (event.Load d g) happens to_show h l = none_shown m.certify (m.disclose && closed) job rows cert (no_job (shows_any m) job to_show) h l
  shown_of (event.Open i holder) happens to_show h l = none_shown m.certify (m.disclose && closed) job rows cert (no_job (shows_any m) job to_show) h l
  shown_of (event.Shut i) happens to_show h l = none_shown m.certify (m.disclose && closed) job rows cert (no_job (shows_any m) job to_show) h l
  shown_of (event.Feed i bytes) happens to_show h l = none_shown m.certify (m.disclose && closed) job rows cert (no_job (shows_any m) job to_show) h l
  shown_of (event.Take i) happens to_show h l = none_shown m.certify (m.disclose && closed) job rows cert (no_job (shows_any m) job to_show) h l
  shown_of (event.Carry a b) happens to_show h l = none_shown m.certify (m.disclose && closed) job rows cert (no_job (shows_any m) job to_show) h l
  shown_of (event.Break a b) happens to_show h l = none_shown m.certify (m.disclose && closed) job rows cert (no_job (shows_any m) job to_show) h l
  shown_of (event.Tick t) happens to_show h l = none_shown m.certify (m.disclose && closed) job rows cert (no_job (shows_any m) job to_show) h l
  shown_of (event.Drain i holder) happens to_show h l = none_shown m.certify (m.disclose && closed) job rows cert (no_job (shows_any m) job to_show) h l

-- ---- an event as a turn

-- what an event left is what is told of its answer
pub told_is : (answer : Answered) (deeds : List PlantDeed) (sents : List Sent) → OnOk answer (sents ≡ said wire deeds) → told_of answer sents ≡ messages_of answer deeds
told_is (Ok o) deeds sents h = h
told_is (Err why) deeds sents h = refl

module _ (line : ℕ) (m : Modes) (old : Whole) (e : Event) (answer : Answered) (new : Whole) (job : Option Job) (b1 b2 : Told) where
  abbrev pub turn_of : Makes old e answer new → Brings line m new answer job b1 b2 → Turn
  turn_of makes brings = record { entry = record { event = e; answer = answer; deeds = makes.deeds }; after = new.state; rows = brings.rows; certificate = brings.certificate }

  pub turn_shows : (makes : Makes old e answer new) (brings : Brings line m new answer job b1 b2) → IsToShow m old e job → ShowsTurn m old.network old.state (turn_of makes brings)
  turn_shows makes brings to_show = go answer makes.happens makes.accepted brings.are_rows brings.is_certificate
    where
      go : (a : Answered) → Happens wire old.network old.state e (record { answer = a; state = new.state; deeds = makes.deeds }) → OnOk a (new.said ≡ said wire makes.deeds) →
          cond (is_accepted a && (m.disclose && tells_closed new.network new.said)) (TableOf job brings.rows) (brings.rows ≡ []) →
          cond (is_accepted a && m.certify) (CertificateOf job brings.certificate) (brings.certificate ≡ None) →
          ShowsTurn m old.network old.state (record { entry = record { event = e; answer = a; deeds = makes.deeds }; after = new.state; rows = brings.rows; certificate = brings.certificate })
      go (Err why) happens said h l = (h, l)
      go (Ok o) happens is_said h l =
          let closed : tells_closed new.network new.said ≡ tells_closed old.network (said wire makes.deeds) =
          ap (λ (n : NetworkParts). tells_closed n new.said) makes.network ∙ ap (tells_closed old.network) is_said in
          let h' : cond (m.disclose && tells_closed old.network (said wire makes.deeds)) (TableOf job brings.rows) (brings.rows ≡ []) =
          subst (λ (b : Bool). cond (m.disclose && b) (TableOf job brings.rows) (brings.rows ≡ [])) closed h in
          shown_of m old o makes.deeds new.state (tells_closed old.network (said wire makes.deeds)) job brings.rows brings.certificate e happens to_show h' l

  pub brought_is : (makes : Makes old e answer new) (brings : Brings line m new answer job b1 b2) → b2 ≡ behind b1 (brought_text line old.network.peers (turn_of makes brings))
  brought_is makes brings =
      brings.tells ∙ ap (λ (sents : List Sent). behind b1 (sents_text line new.network.peers sents ++ (rows_text line brings.rows ++ certificate_text line brings.certificate))) (told_is answer makes.deeds new.said makes.accepted)
      ∙ ap (λ (n : NetworkParts). behind b1 (sents_text line n.peers (messages_of answer makes.deeds) ++ (rows_text line brings.rows ++ certificate_text line brings.certificate))) makes.network

-- the own event of a line
pub one_event : (line : ℕ) (m : Modes) (old : Whole) (e : Event) (answer : Answered) (new : Whole) (job : Option Job) (b0 b1 b2 : Told) → IsToShow m old e job → Makes old e answer new →
    b1 ≡ behind b0 (answer_line line answer) → Brings line m new answer job b1 b2 → Does old (PlaysOne line (playing m old) e answer) new b0 b2
one_event line m old e answer new job b0 b1 b2 to_show makes answered brings =
    let t = turn_of line m old e answer new job b1 b2 makes brings in
    record {
      network = makes.network;
      turns = t ∷ [];
      told = answer_line line answer ++ brought_text line old.network.peers t;
      plays = record {
        turn = t;
        one = refl;
        event = refl;
        answered = refl;
        is_turn = record { happens = makes.happens; shows = turn_shows line m old e answer new job b1 b2 makes brings to_show };
        ends = refl;
        tells = refl;
      };
      goes = λ given older run. makes.goes given.0 older run;
      tells =
          brought_is line m old e answer new job b1 b2 makes brings ∙ ap (λ (b : Told). behind b (brought_text line old.network.peers t)) answered
          ∙ behind_twice b0 (answer_line line answer) (brought_text line old.network.peers t);
    }

-- an event that was due
pub due_event : (line : ℕ) (m : Modes) (old : Whole) (e : Event) (answer : Answered) (new : Whole) (job : Option Job) (b0 b1 b2 : Told) → IsToShow m old e job → Makes old e answer new → is_accepted answer ≡ true →
    b1 ≡ behind b0 (event_line line new.network.peers e) → Brings line m new answer job b1 b2 → MakesTurn line m old e new b0 b2
due_event line m old e answer new job b0 b1 b2 to_show makes ok headed brings =
    let t = turn_of line m old e answer new job b1 b2 makes brings in
    record {
      network = makes.network;
      turn = t;
      event = refl;
      is_turn = record { happens = makes.happens; shows = turn_shows line m old e answer new job b1 b2 makes brings to_show };
      accepted = ok;
      ends = refl;
      goes = makes.goes;
      tells =
          brought_is line m old e answer new job b1 b2 makes brings
          ∙ ap (λ (b : Told). behind b (brought_text line old.network.peers t)) (headed ∙ ap (λ (n : NetworkParts). behind b0 (event_line line n.peers e)) makes.network)
          ∙ behind_twice b0 (event_line line old.network.peers e) (brought_text line old.network.peers t);
    }
