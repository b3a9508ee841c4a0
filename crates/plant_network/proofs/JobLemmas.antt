-- A job of a network is that of its member, and what was solved of it is its own.
use Rattle.std.proofs.Common.{◌≡◌, ℕ, Bool, true, false, cond, nat_eq, option_map, Option, Some, None, Result, Ok, Err, List, refl, sym, ◌∙◌, ap, subst}
use Rattle.std.specs.Prelude.{IfOk, IfSome}
use Rattle.std.specs.Arc.{arc_value}
use Rattle.std.specs.Map.{lookup}
use Rattle.network_events.specs.plant_model.Types.{As, NoMemory, Held as Asked, Branch, Ask, Job}
use Rattle.border_costs.specs.Solutions.{Solution}
use Rattle.plant_text.specs.Names.{same_as, parent_as}
use Rattle.network_events.specs.plant_model.declared.upper.BorderJob.{BorderJob}
use Rattle.network_events.specs.plant_model.Element.{Element, Item, Stage, Waits, Ready}
use Rattle.network_events.specs.plant_model.Events.{is_ready_asking, is_ready_row}
use Rattle.network_events.specs.plant_model.Jobs.{ask_of}
use Rattle.network_events.specs.plant_model.Parent as parent
use Rattle.network_events.specs.plant_model.Plant.{Pin, Segment, ask}
use Rattle.network_events.specs.plant_model.RealWire.{wire}
use Rattle.network_events.specs.plant_model.Settings.{family}
use Rattle.network_members.specs.pce_element.Committing.{IsOwnJob}
use Rattle.network_members.specs.pce_element.Jobs as element
use Rattle.network_members.specs.pce_parent.Seen.{job_when}
use Rattle.network_members.specs.pce_parent.Solution.{BorderSolution}
use Rattle.network_members.specs.pce_parent.declared.work.Done.{Done}
use Rattle.network_members.specs.pce_parent.declared.work.Done.TheVariants as done
use Rattle.network_members.specs.pce_parent.declared.work.Work.{Work}
use Rattle.network_members.specs.pce_parent.declared.work.Work.TheVariants as work
use Rattle.network_members.specs.Answering.{IsElementWork, IsOwnDone, IsParentWork, border_job}
use Rattle.network_members.specs.Elements.{at_domain, element_or, own_of}
use Rattle.network_members.specs.Ready.{work_in}
use Rattle.network_members.proofs.AnswerLemmas.{no_border_job, no_job}
use Rattle.network_members.proofs.DomainLemmas.{as_self, found_own, same_as_is}
use Rattle.network_members.specs.Topologies.{Seen}
use Rattle.plant_network.specs.Topologies.{Held, whole}
use Rattle.plant_network.specs.Whole.{Whole}
use Rattle.plant_network.specs.Jobs.{IsAsked, IsAskedAbove, IsOwn, IsSolvedBy, IsWork, solved_at, solved_number}

some_one : {A : Type 0} (a b : A) → Some a ≡ Some b → a ≡ b
some_one a b e = cc

none_some : {A : Type 0} (a : A) → None ≡ Some a → ⊥
none_some a e = cc

-- ---- whose job was solved

-- the job of an element's request, in the model's words
module _ (d : As) (k : ℕ) (e : Seen) (own : own_of e ≡ d) where
  abbrev asked_at : Asked (Item Pin) → List Branch → element.Work
  asked_at h down = record { ask = ask_of d k h.item down h.item.pin.number h.item.pin.topology; topology = h.item.pin.topology }

  work_ready : (h : Asked (Item Pin)) (down : List Branch) → lookup (nat_eq k) e.losing.element.pending.rows ≡ Some h → h.item.stage ≡ Ready down → element.job_at e k ≡ Some (asked_at h down)
  work_ready h down found ready =
      ap (λ (o : Option (Asked (Item Pin))). element.work_for (own_of e) k (option_map (λ (x : Asked (Item Pin)). x.item) o)) found
      ∙ ap (element.work_at (own_of e) k h.item) ready
      ∙ ap (λ (a : As). let w : element.Work = record { ask = ask_of a k h.item down h.item.pin.number h.item.pin.topology; topology = h.item.pin.topology } in Some w) own

  -- the request of a job
  record IsJob (w : element.Work) : Type 0 where
    held : Asked (Item Pin)
    found : lookup (nat_eq k) e.losing.element.pending.rows ≡ Some held
    down : List Branch
    ready : held.item.stage ≡ Ready down
    is : w ≡ asked_at held down

  job_of : (w : element.Work) → element.job_at e k ≡ Some w → IsJob w
  job_of w is = go (lookup (nat_eq k) e.losing.element.pending.rows) refl is
    where
      at_stage : (h : Asked (Item Pin)) → lookup (nat_eq k) e.losing.element.pending.rows ≡ Some h → (stage : Stage) → h.item.stage ≡ stage → element.work_at (own_of e) k h.item stage ≡ Some w → IsJob w
      at_stage h found (Waits on id) stands clash = absurd (none_some w clash)
      at_stage h found (Ready down) stands one = record {
        held = h;
        found = found;
        down = down;
        ready = stands;
        is = some_one w (asked_at h down) (sym is ∙ work_ready h down found stands);
      }

      go : (o : Option (Asked (Item Pin))) → lookup (nat_eq k) e.losing.element.pending.rows ≡ o → element.work_for (own_of e) k (option_map (λ (x : Asked (Item Pin)). x.item) o) ≡ Some w → IsJob w
      go None found clash = absurd (none_some w clash)
      go (Some h) found one = at_stage h found h.item.stage refl one

-- what was solved is an element's own, where it is the job of each request of its number that is ready
own_below : (d : As) (e : Seen) (x : Solution) → own_of e ≡ d
    → ((h : Asked (Item Pin)) → lookup (nat_eq x.ask.number) e.losing.element.pending.rows ≡ Some h → (down : List Branch) → h.item.stage ≡ Ready down → (x.ask ≡ ask_of d x.ask.number h.item down h.item.pin.number h.item.pin.topology) × (x.topology ≡ h.item.pin.topology)) → IsOwnJob e x
own_below d e x own is = go (element.job_at e x.ask.number) refl
  where
    go : (o : Option element.Work) → element.job_at e x.ask.number ≡ o → IfSome o (λ w. (x.ask ≡ w.ask) × (x.topology ≡ w.topology))
    go None job = tt
    go (Some w) job =
        let j = job_of d x.ask.number e own w job in
        let same = is j.held j.found j.down j.ready in
        (same.0 ∙ sym (ap (λ (v : element.Work). v.ask) j.is), same.1 ∙ sym (ap (λ (v : element.Work). v.topology) j.is))

own_above : (f : parent.Family) (x : BorderSolution) (o : Option (Asked parent.Asking)) → ((h : Asked parent.Asking) → o ≡ Some h → parent.is_ready h.item ≡ true → x.job ≡ parent.job_of f (x.job.number, h)) → IfSome (job_when f x.job.number o) (λ j. x.job ≡ j)
own_above f x None is = tt
own_above f x (Some h) is = go (parent.is_ready h.item) refl
  where
    go : (b : Bool) → parent.is_ready h.item ≡ b → IfSome (cond b (Some (parent.job_of f (x.job.number, h))) None) (λ j. x.job ≡ j)
    go true ready = is h refl ready
    go false ready = tt

pub own_done : (h : Held) (x : Done) → IsOwn (whole h) x → IsOwnDone h.members (solved_at x) x
own_done h (done.Domain x) own = (own.0, go (at_domain x.ask.at h.members.elements) refl)
  where
    go : (o : Option Seen) → at_domain x.ask.at h.members.elements ≡ o → IfSome o (λ e. IsOwnJob e x)
    go None there = tt
    go (Some e) there =
        own_below x.ask.at e x (found_own x.ask.at h.members.elements e there)
        (λ held found down ready. own.1 held (ap (λ (o : Option Seen). lookup (nat_eq x.ask.number) (element_or h.members.network h.members.clock x.ask.at o).pending.rows) there ∙ found) down ready)
own_done h (done.Border x) own = (as_self parent_as, own_above (family h.members.network) x (lookup (nat_eq x.job.number) h.members.parent.losing.parent.pending.rows) own)

-- ---- the job of a number

module _ (h : Held) (d : As) (k : ℕ) where
  abbrev rows_with : Option Seen → Element Pin Segment
  rows_with o = element_or h.members.network h.members.clock d o

  no_work : (o : Option Seen) → work_in k o ≡ None → is_ready_row (lookup (nat_eq k) (rows_with o).pending.rows) ≡ false
  no_work None none = refl
  no_work (Some e) none = no_job e k none

  not_ready : (b : Bool) → (b ≡ false → work_in k (at_domain d h.members.elements) ≡ None) → (b ≡ true → border_job h.members k ≡ None) →
      cond b (is_ready_asking (lookup (nat_eq k) h.members.parent.losing.parent.pending.rows)) (is_ready_row (lookup (nat_eq k) (rows_with (at_domain d h.members.elements)).pending.rows)) ≡ false
  not_ready true below above = no_border_job (family h.members.network) k (lookup (nat_eq k) h.members.parent.losing.parent.pending.rows) (above refl)
  not_ready false below above = no_work (at_domain d h.members.elements) (below refl)

  is_asked : (j : Job) → work_in k (at_domain d h.members.elements) ≡ Some (element.work_of j) → IsAsked (whole h) d k j.ask (arc_value j.topology)
  is_asked j is = go (at_domain d h.members.elements) refl is
    where
      go : (o : Option Seen) → at_domain d h.members.elements ≡ o → work_in k o ≡ Some (element.work_of j) → IsAsked (whole h) d k j.ask (arc_value j.topology)
      go None there clash = absurd (none_some (element.work_of j) clash)
      go (Some e) there one =
          let w = job_of d k e (found_own d h.members.elements e there) (element.work_of j) one in
          record {
            held = w.held;
            is_held = ap (λ (o : Option Seen). lookup (nat_eq k) (rows_with o).pending.rows) there ∙ w.found;
            down = w.down;
            ready = w.ready;
            asks = ap (λ (v : element.Work). v.ask) w.is;
            pinned = ap (λ (v : element.Work). v.topology) w.is;
          }

  is_asked_above : (j : BorderJob) → border_job h.members k ≡ Some j → IsAskedAbove (whole h) k j
  is_asked_above j is = go (lookup (nat_eq k) h.members.parent.losing.parent.pending.rows) refl is
    where
      rows : List (ℕ × Asked parent.Asking)
      rows = h.members.parent.losing.parent.pending.rows

      at_test : (x : Asked parent.Asking) → lookup (nat_eq k) h.members.parent.losing.parent.pending.rows ≡ Some x → (b : Bool) → parent.is_ready x.item ≡ b → cond b (Some (parent.job_of (family h.members.network) (k, x))) None ≡ Some j → IsAskedAbove (whole h) k j
      at_test x found true ready one = record { held = x; is_held = found; ready = ready; asks = some_one j (parent.job_of (family h.members.network) (k, x)) (sym one) }
      at_test x found false ready clash = absurd (none_some j clash)

      go : (o : Option (Asked parent.Asking)) → lookup (nat_eq k) h.members.parent.losing.parent.pending.rows ≡ o → job_when (family h.members.network) k o ≡ Some j → IsAskedAbove (whole h) k j
      go None found clash = absurd (none_some j clash)
      go (Some x) found one = at_test x found (parent.is_ready x.item) refl one

  pub is_work : (o : Option Work) → (same_as d parent_as ≡ false → IsElementWork (work_in k (at_domain d h.members.elements)) o) → (same_as d parent_as ≡ true → IsParentWork (border_job h.members k) o) → IsWork (whole h) d k o
  is_work None below above = not_ready (same_as d parent_as) below above
  is_work (Some (work.Domain j)) below above = go (same_as d parent_as) refl
    where
      go : (b : Bool) → same_as d parent_as ≡ b → (same_as d parent_as ≡ false) × IsAsked (whole h) d k j.ask (arc_value j.topology)
      go true upper = absurd (above upper)
      go false lower = (lower, is_asked j (below lower))
  is_work (Some (work.Border j)) below above = go (same_as d parent_as) refl
    where
      go : (b : Bool) → same_as d parent_as ≡ b → (same_as d parent_as ≡ true) × IsAskedAbove (whole h) k j
      go true upper = (upper, is_asked_above j (above upper))
      go false lower = absurd (below lower)

  -- what a call told of it
  pub works : (r : Result (Option Work) NoMemory) → (same_as d parent_as ≡ false → IfOk r (IsElementWork (work_in k (at_domain d h.members.elements)))) → (same_as d parent_as ≡ true → IfOk r (IsParentWork (border_job h.members k))) → IfOk r (IsWork (whole h) d k)
  works (Ok o) below above = is_work o below above
  works (Err e) below above = tt

-- ---- what was solved of it

ready_one : (a b : List Branch) → Ready a ≡ Ready b → a ≡ b
ready_one a b e = cc

pub record IsSolvedHere (w : Whole) (d : As) (k : ℕ) (x : Done) : Type 0 where
  pub own : IsOwn w x
  pub at : solved_at x ≡ d
  pub number : solved_number x ≡ k

pub solved_here : (w : Whole) (d : As) (k : ℕ) (j : Work) (x : Done) → IsWork w d k (Some j) → IsSolvedBy j x → IsSolvedHere w d k x
solved_here w d k (work.Domain j) (done.Domain x) is solved =
    let asked : x.ask ≡ ask wire w.network d (k, is.1.held) is.1.down = solved.0 ∙ is.1.asks in
    let at : x.ask.at ≡ d = ap (λ (a : Ask). a.at) asked in
    let number : x.ask.number ≡ k = ap (λ (a : Ask). a.number) asked in
    let over : x.topology ≡ is.1.held.item.pin.topology = solved.1 ∙ is.1.pinned in
    record {
      own = (ap (λ (a : As). same_as a parent_as) at ∙ is.0, each at number asked over);
      at = at;
      number = number;
    }
  where
    each : x.ask.at ≡ d → x.ask.number ≡ k → x.ask ≡ ask wire w.network d (k, is.1.held) is.1.down → x.topology ≡ is.1.held.item.pin.topology →
        (held : Asked (Item Pin)) → lookup (nat_eq x.ask.number) (w.state.elements x.ask.at).pending.rows ≡ Some held → (down : List Branch) → held.item.stage ≡ Ready down →
        (x.ask ≡ ask wire w.network x.ask.at (x.ask.number, held) down) × (x.topology ≡ held.item.pin.topology)
    each at number asked over held found down ready =
        let there : lookup (nat_eq k) (w.state.elements d).pending.rows ≡ Some held =
        subst (λ (n : ℕ). lookup (nat_eq n) (w.state.elements d).pending.rows ≡ Some held) number (subst (λ (a : As). lookup (nat_eq x.ask.number) (w.state.elements a).pending.rows ≡ Some held) at found) in
        let one : is.1.held ≡ held = some_one is.1.held held (sym is.1.is_held ∙ there) in
        let same : is.1.down ≡ down = ready_one is.1.down down (sym is.1.ready ∙ ap (λ (y : Asked (Item Pin)). y.item.stage) one ∙ ready) in (
          asked ∙ ap (λ (y : Asked (Item Pin)). ask wire w.network d (k, y) is.1.down) one ∙ ap (ask wire w.network d (k, held)) same
              ∙ ap (λ (a : As). ask wire w.network a (k, held) down) (sym at) ∙ ap (λ (n : ℕ). ask wire w.network x.ask.at (n, held) down) (sym number),
          over ∙ ap (λ (y : Asked (Item Pin)). y.item.pin.topology) one,
        )
solved_here w d k (work.Border j) (done.Border x) is solved =
    let asked : x.job ≡ parent.job_of (family w.network) (k, is.1.held) = solved ∙ is.1.asks in
    let number : x.job.number ≡ k = ap (λ (a : BorderJob). a.number) asked in
    record { own = each number asked; at = sym (same_as_is d parent_as is.0); number = number }
  where
    each : x.job.number ≡ k → x.job ≡ parent.job_of (family w.network) (k, is.1.held) →
        (held : Asked parent.Asking) → lookup (nat_eq x.job.number) w.state.parent.pending.rows ≡ Some held → parent.is_ready held.item ≡ true → x.job ≡ parent.job_of (family w.network) (x.job.number, held)
    each number asked held found ready =
        let there : lookup (nat_eq k) w.state.parent.pending.rows ≡ Some held = subst (λ (n : ℕ). lookup (nat_eq n) w.state.parent.pending.rows ≡ Some held) number found in
        let one : is.1.held ≡ held = some_one is.1.held held (sym is.1.is_held ∙ there) in
        asked ∙ ap (λ (y : Asked parent.Asking). parent.job_of (family w.network) (k, y)) one ∙ ap (λ (n : ℕ). parent.job_of (family w.network) (n, held)) (sym number)
solved_here w d k (work.Domain j) (done.Border x) is solved = absurd solved
solved_here w d k (work.Border j) (done.Domain x) is solved = absurd solved
