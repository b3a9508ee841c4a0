-- After a look at a job its solution stays admitted while others take their turns: the job of that number stays, or ends.
use Rattle.std.proofs.Common.{◌≡◌, ◌∙◌, ℕ, false, List, [], ◌∷◌, Some, refl, ap, sym, subst}
use Rattle.std.specs.Prelude.{Ok}
use Rattle.std.specs.Arc.{arc_value}
use Rattle.network_events.specs.plant_model.Types.{As, Held as Asked, Branch, Ask, Job, NetworkParts}
use Rattle.te_links.specs.Rows.{Rows}
use Rattle.border_costs.specs.Solutions.{Solution}
use Rattle.plant_text.specs.Names.{same_as, parent_as}
use Rattle.network_events.specs.plant_model.declared.upper.BorderJob.{BorderJob}
use Rattle.network_events.specs.plant_model.Element.{Item, Ready as CanSolve, Stage, Waits, is_ready}
use Rattle.network_events.specs.plant_model.Parent as parent
use Rattle.network_events.specs.plant_model.Plant.{Pin, ask}
use Rattle.network_events.specs.plant_model.RealWire.{wire}
use Rattle.network_events.specs.plant_model.Settings.{family}
use Rattle.plant_laws.specs.Lasting.{HaveGiven, held_at}
use Rattle.plant_laws.specs.Onward.{jobs_on, jobs_still}
use Rattle.plant_laws.proofs.LastingLemmas.JobsKept.{elements_keep_jobs, parents_keep_jobs}
use Rattle.plant_lock.specs.History.{Legal, replay}
use Rattle.network_members.specs.pce_parent.Solution.{BorderSolution}
use Rattle.network_members.specs.pce_parent.declared.work.Done.{Done}
use Rattle.network_members.specs.pce_parent.declared.work.Done.TheVariants as done
use Rattle.network_members.specs.pce_parent.declared.work.Work.{Work}
use Rattle.network_members.specs.pce_parent.declared.work.Work.TheVariants as work
use Rattle.plant_network.specs.Jobs.{IsAsked, IsAskedAbove, IsOwn, IsSolvedBy, IsWork}
use Rattle.plant_network.specs.Turns.{Admits, Allowed, IsAnswer, LastsTo, Warrants, left_by}
use Rattle.plant_network.specs.Whole.{Whole}
use Rattle.plant_network.specs.declared.acts.Act.{Act}
use Rattle.plant_network.specs.declared.acts.Act.TheVariants.{Look, Finish}
use Rattle.plant_network.specs.declared.acts.Acted.{Acted}
use Rattle.plant_network.specs.declared.acts.Acted.TheVariants.{Looked}
use Rattle.plant_network.specs.declared.acts.ActAnswer.{ActAnswer}

-- ---- what lasts

pub stays : (w : Whole) → LastsTo w w
stays w = record { network = refl; jobs = jobs_still w.state }

pub lasts_on : (a b c : Whole) → LastsTo a b → LastsTo b c → LastsTo a c
lasts_on a b c first second = record { network = second.network ∙ first.network; jobs = jobs_on a.state b.state c.state first.jobs second.jobs }

-- over a legal list of entries
pub history_lasts : (w : Whole) (es : List (Act × ActAnswer)) → Legal Admits Allowed left_by w es → LastsTo w (replay left_by w es)
history_lasts w [] legal = stays w
history_lasts w (e ∷ es) legal =
    let next : Whole = left_by w e.0 e.1 in lasts_on w next (replay left_by next es) legal.1.lasts (history_lasts next es legal.2)

-- ---- the job of an element

abbrev branches_in : List Branch → Stage → List Branch
branches_in other (Waits on id) = other
branches_in other (CanSolve down) = down

same_branches : (a b : List Branch) → CanSolve a ≡ CanSolve b → a ≡ b
same_branches a b same = ap (branches_in []) same

-- what the request of a number asks does not change with the network's settings
same_ask : (n m : NetworkParts) (d e : As) (k l : ℕ) (h i : Asked (Item Pin)) (a b : List Branch) → d ≡ e → k ≡ l → h ≡ i → a ≡ b → ask wire n d (k, h) a ≡ ask wire m e (l, i) b
same_ask n m d e k l h i a b at number held down =
    ap (λ (x : As). ask wire n x (k, h) a) at ∙ ap (λ (x : ℕ). ask wire n e (x, h) a) number ∙ ap (λ (x : Asked (Item Pin)). ask wire n e (l, x) a) held ∙ ap (λ (x : List Branch). ask wire n e (l, i) x) down

-- The solution of a job is that of a later state too, where the request of its number is still the same.
module _ (w last : Whole) where
  element_solution : (d : As) (k : ℕ) (x : Solution) (asked : IsAsked w d k x.ask x.topology) → x.ask.at ≡ d → x.ask.number ≡ k → same_as d parent_as ≡ false →
      ((h : Asked (Item Pin)) → held_at k (last.state.elements d).pending ≡ Some h → h ≡ asked.held) → IsOwn last (done.Domain x)
  element_solution d k x asked at number below one = (
    subst (λ (e : As). same_as e parent_as ≡ false) (sym at) below,
    λ h found down is.
        let same : h ≡ asked.held = one h (subst (λ (l : ℕ). held_at l (last.state.elements d).pending ≡ Some h) number (subst (λ (e : As). held_at x.ask.number (last.state.elements e).pending ≡ Some h) at found)) in
        let branches : asked.down ≡ down = same_branches asked.down down (sym asked.ready ∙ ap (λ (z : Asked (Item Pin)). z.item.stage) (sym same) ∙ is) in (
          asked.asks ∙ same_ask w.network last.network d x.ask.at k x.ask.number asked.held h asked.down down (sym at) (sym number) (sym same) branches,
          asked.pinned ∙ ap (λ (z : Asked (Item Pin)). z.item.pin.topology) (sym same),
        ),
  )

  parent_solution : (k : ℕ) (x : BorderSolution) (asked : IsAskedAbove w k x.job) → last.network ≡ w.network →
      ((h : Asked parent.Asking) → held_at k last.state.parent.pending ≡ Some h → h ≡ asked.held) → IsOwn last (done.Border x)
  parent_solution k x asked network one = λ h found can.
      let number : x.job.number ≡ k = ap (λ (z : BorderJob). z.number) asked.asks in
      let same : h ≡ asked.held = one h (subst (λ (l : ℕ). held_at l last.state.parent.pending ≡ Some h) number found) in
      asked.asks
      ∙ ap (λ (n : NetworkParts). parent.job_of (family n) (k, asked.held)) (sym network)
      ∙ ap (λ (l : ℕ). parent.job_of (family last.network) (l, asked.held)) (sym number)
      ∙ ap (λ (z : Asked parent.Asking). parent.job_of (family last.network) (x.job.number, z)) (sym same)

asked_of : (w : Whole) (d : As) (k : ℕ) (j : Job) (x : Solution) → IsSolvedBy (work.Domain j) (done.Domain x) → IsAsked w d k j.ask (arc_value j.topology) → IsAsked w d k x.ask x.topology
asked_of w d k j x by asked = subst (λ (g : Rows). IsAsked w d k x.ask g) (sym by.1) (subst (λ (a : Ask). IsAsked w d k a (arc_value j.topology)) (sym by.0) asked)

asked_above_of : (w : Whole) (k : ℕ) (j : BorderJob) (x : BorderSolution) → x.job ≡ j → IsAskedAbove w k j → IsAskedAbove w k x.job
asked_above_of w k j x by asked = subst (λ (z : BorderJob). IsAskedAbove w k z) (sym by) asked

-- the solution of a job that was looked at is the network's own, as long as jobs last
pub solution_lasts : (w last : Whole) → HaveGiven w.state → LastsTo w last → (d : As) (k : ℕ) (job : Work) (x : Done) → IsWork w d k (Some job) → IsSolvedBy job x → IsOwn last x
solution_lasts w last given lasts d k (work.Domain j) (done.Domain x) is by =
    let asked : IsAsked w d k x.ask x.topology = asked_of w d k j x by is.1 in
    element_solution w last d k x asked (ap (λ (a : Ask). a.at) asked.asks) (ap (λ (a : Ask). a.number) asked.asks) is.0
    (λ h now. elements_keep_jobs w.state last.state given lasts.jobs d k asked.held h asked.is_held (ap is_ready asked.ready) now)
solution_lasts w last given lasts d k (work.Border j) (done.Border x) is by =
    let asked : IsAskedAbove w k x.job = asked_above_of w k j x by is.1 in
    parent_solution w last k x asked lasts.network (λ h now. parents_keep_jobs w.state last.state given lasts.jobs k asked.held h asked.is_held asked.ready now)
solution_lasts w last given lasts d k (work.Domain j) (done.Border x) is by = absurd by
solution_lasts w last given lasts d k (work.Border j) (done.Domain x) is by = absurd by

-- ---- the turn of its finish

finish_admitted : (w left last : Whole) → HaveGiven w.state → LastsTo w last → (a : Act) (r : Acted) (next : Act) → Warrants a r next → IsAnswer w a r left → Admits last next
finish_admitted w left last given lasts (Look d k) (Looked (Ok (Some job))) (Finish x) warrant answer = solution_lasts w last given lasts d k job x answer.1.work warrant
finish_admitted w left last given lasts a r next warrant answer = absurd warrant

pub looks_last : (w : Whole) (a : Act) (t : ActAnswer) (es : List (Act × ActAnswer)) (next : Act) → Warrants a t.acted next → Admits w a → Allowed w a t → Legal Admits Allowed left_by (left_by w a t) es → Admits (replay left_by (left_by w a t) es) next
looks_last w a t es next warrant admits allowed legal =
    let left : Whole = left_by w a t in
    finish_admitted w left (replay left_by left es) allowed.given (lasts_on w left (replay left_by left es) allowed.lasts (history_lasts left es legal)) a t.acted next warrant allowed.answer
