-- The tasks that answer watchers are planned one after the other.
use Rattle.std.proofs.Common.{◌≡◌, ◌∙◌, ◌+◌, ◌<◌, ℕ, zero, suc, List, [], ◌∷◌, ◌++◌, map, All, ap, refl, sym, subst, arith, Option, Some}
use Rattle.std.specs.Prelude.{IfSome, option_to_list, replicate, slice_get}
use Rattle.std.proofs.lemmas.List.{map-append}
use Rattle.std.proofs.lemmas.List.Elements.{All-nil, All-pop, All-push}
use Rattle.dom_base.specs.declared.addr.Addr.{Addr}
use Rattle.logbook.specs.Pages.{Book}
use Rattle.ted_watch.specs.declared.shown.Shown.{Shown}
use Rattle.ted_watch.specs.declared.watch.Watcher as watch
use Rattle.network_serving.specs.Bases.{Base, Watcher, base_in}
use Rattle.network_serving.specs.Duties.{watches_at}
use Rattle.network_serving.specs.Tasks.{IsNew, duty_of}
use Rattle.network_serving.specs.Watches.{AreWatches, IsUnused}
use Rattle.network_serving.specs.declared.duties.Duty.{Duty}
use Rattle.network_serving.specs.declared.duties.Duty.TheVariants.{Watch}
use Rattle.network_serving.specs.declared.tasks.Task.{Task}

-- ---- duties

watches_on : (port j n : ℕ) → watches_at port j (suc n) ≡ watches_at port j n ++ Watch port (j + n) ∷ []
watches_on port j zero = let same : j ≡ j + 0 = omega arith in ap (λ (i : ℕ). Watch port i ∷ []) same
watches_on port j (suc n) = let same : suc j + n ≡ j + suc n = omega arith in ap (λ (ds : List Duty). Watch port j ∷ ds) (watches_on port (suc j) n ∙ ap (λ (i : ℕ). watches_at port (suc j) n ++ Watch port i ∷ []) same)

watches_more : (port n : ℕ) → watches_at port 0 (n + 1) ≡ watches_at port 0 n ++ Watch port n ∷ []
watches_more port n =
    let same : n + 1 ≡ suc n = omega arith in
    let none : 0 + n ≡ n = omega arith in
    ap (watches_at port 0) same ∙ watches_on port 0 n ∙ ap (λ (i : ℕ). watches_at port 0 n ++ Watch port i ∷ []) none

-- the port at each place
pub port_in : (port n k : ℕ) → k < n → slice_get (replicate n port) k ≡ Some port
port_in port zero k below = absurd (let no : ⊥ = omega (arith, below) in no)
port_in port (suc n) zero below = refl
port_in port (suc n) (suc k) below = port_in port n k (omega (arith, below))

-- ---- tasks

module _ {K F I O R : Type 0} (opened_at : K → ℕ) (heeds dialled_to : K → Option Addr) (shown : List Shown) (list : Book) where
  abbrev Watches : List Duty → List (Task K F I O R) → Type 0
  Watches = AreWatches opened_at heeds dialled_to shown list

  pub no_watches : (tasks : List (Task K F I O R)) → tasks ≡ [] → Watches [] tasks
  no_watches tasks none = subst (Watches []) (sym none) (record { duties_are = refl; bases_are = refl; are_new = All-nil (IsNew heeds dialled_to) })

  -- one more
  pub watch_added : (port k : ℕ) (tasks : List (Task K F I O R)) (task : Task K F I O R) (new : List (Task K F I O R)) → Watches (watches_at port 0 k) tasks → new ≡ tasks ++ task ∷ [] → duty_of opened_at task ≡ Watch port k → base_in task ≡ Watcher shown list →
      IsNew heeds dialled_to task → Watches (watches_at port 0 (k + 1)) new
  watch_added port k tasks task new before is duty base is_new =
      let duties : List Duty = watches_at port 0 k in
      let watcher : Duty → Base = λ (d : Duty). Watcher shown list in
      subst (λ (ds : List Duty). Watches ds new) (sym (watches_more port k))
      (record {
        duties_are = ap (map (duty_of opened_at)) is ∙ map-append (duty_of opened_at) tasks (task ∷ []) ∙ ap (λ (ds : List Duty). ds ++ duty_of opened_at task ∷ []) before.duties_are ∙ ap (λ (d : Duty). duties ++ d ∷ []) duty;
        bases_are = ap (map base_in) is
            ∙ map-append base_in tasks (task ∷ [])
            ∙ ap (λ (bs : List Base). bs ++ base_in task ∷ []) before.bases_are
            ∙ ap (λ (b : Base). map watcher duties ++ b ∷ []) base
            ∙ sym (map-append watcher duties (Watch port k ∷ []));
        are_new = subst (All (IsNew heeds dialled_to)) (sym is) (All-push (IsNew heeds dialled_to) tasks task before.are_new is_new);
      })

-- ---- watchers

-- one is taken
pub last_unused : (list : Book) (old new : List watch.Watcher) (taken : Option watch.Watcher) → old ≡ new ++ option_to_list taken → All (IsUnused list) old → All (IsUnused list) new × IfSome taken (IsUnused list)
last_unused list old new taken is all = All-pop (IsUnused list) old new taken is all
