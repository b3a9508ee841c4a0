-- A network at rest is quiet, since in a run nothing stands beyond its links and elements.
use Rattle.std.proofs.Common.{◌≡◌, ℕ, nat_eq, Bool, true, false, cond, List, is_some, inl, inr, ap}
use Rattle.std.specs.Map.{lookup}
use Rattle.std.proofs.lemmas.Bool.{cases_Bool}
use Rattle.plant_model.specs.Types.{As, Held, NetworkParts}
use Rattle.plant_text.specs.Names.{same_as, parent_as}
use Rattle.plant_text.specs.Settings.{is_linked, is_element}
use Rattle.plant_model.specs.Element.{Item}
use Rattle.plant_model.specs.Parent.{Asking}
use Rattle.plant_model.specs.Events.{has_jobs, is_ready, is_ready_asking, is_ready_row}
use Rattle.plant_model.specs.Plant.{Pin, Plant}
use Rattle.plant_laws.specs.Chains.{IsQuiet}
use Rattle.plant_laws.specs.Confined.{IsConfined}
use Rattle.plant_laws.specs.Resting.{IsAtRest, RestIsQuietIn}
use Rattle.plant_laws.specs.Runs.{InRuns}
use Rattle.plant_laws.proofs.Settled.Confined.{runs_are_confined}

module _ (n : NetworkParts) (s : Plant) (confined : IsConfined n s) where
  none_ready : (d : As) (k : ℕ) → has_jobs n d ≡ false → is_ready d k s ≡ false
  none_ready d k none = by (same_as d parent_as) none
    where
      by : (b : Bool) → cond b (is_some n.parent) (is_element n d) ≡ false → cond b (is_ready_asking (lookup (nat_eq k) s.parent.pending.rows)) (is_ready_row (lookup (nat_eq k) (s.elements d).pending.rows)) ≡ false
      by true none' = ap (λ (rows : List (ℕ × Held Asking)). is_ready_asking (lookup (nat_eq k) rows)) (confined.table_above none')
      by false none' = ap (λ (rows : List (ℕ × Held (Item Pin))). is_ready_row (lookup (nat_eq k) rows)) (confined.tables d none')

  pub quiet_at_rest : IsAtRest n s → IsQuiet s
  quiet_at_rest rest = record {
    inboxes = rest.taken;
    queues = λ a b. elim (cases_Bool (is_linked n a b)) [ inl linked ↦ rest.carried a b linked | inr apart ↦ confined.queues a b apart ];
    jobs = λ d k. elim (cases_Bool (has_jobs n d)) [ inl has ↦ rest.solved d k has | inr none ↦ none_ready d k none ];
  }

pub rest_is_quiet : InRuns RestIsQuietIn
rest_is_quiet c codec n net es s run = quiet_at_rest n s (runs_are_confined c codec n net es s run)
