-- The jobs of a member, gone through by their places.
use Rattle.std.proofs.Common.{◌≡◌, ◌+◌, ◌≤◌, ℕ, suc, Bool, true, false, cond, Some, Option, None, List, [], ◌∷◌, ◌++◌, length, map, take, arith, inl, inr, refl, sym, ◌∙◌, ap, subst}
use Rattle.std.specs.Prelude.{slice_get, filter}
use Rattle.std.proofs.lemmas.Bool.{cases_Bool}
use Rattle.plant_model.specs.Types.{Held}
use Rattle.pce_common.specs.declared.rounds.AskedJob.{AskedJob}
use Rattle.pce_common.specs.declared.rounds.Behind.{Behind}
use Rattle.pce_common.specs.Rounds.{IsNext, jobs_by}
use Rattle.pce_common.proofs.HeldPlaces.{all_taken, taken_at}

abbrev pub job_of : {T : Type 0} → ℕ × Held T → AskedJob
job_of row = record { asker = row.1.key.peer; number = row.0 }

module _ {T : Type 0} (ready : T → Bool) where
  jobs_behind : (rows : List (ℕ × Held T)) (row : ℕ × Held T) → jobs_by ready (rows ++ row ∷ []) ≡ jobs_by ready rows ++ cond (ready row.1.item) (job_of row ∷ []) []
  jobs_behind [] row = elim (cases_Bool (ready row.1.item)) [ inl is ↦ rw is refl | inr is ↦ rw is refl ]
  jobs_behind (x ∷ rows) row = elim (cases_Bool (ready x.1.item)) [
    | inl is ↦ rw is (ap (λ (js : List AskedJob). job_of x ∷ js) (jobs_behind rows row))
    | inr is ↦ rw is (jobs_behind rows row)
  ]

  pub jobs_next : (rows : List (ℕ × Held T)) (i : ℕ) (row : ℕ × Held T) → slice_get rows i ≡ Some row → jobs_by ready (take (i + 1) rows) ≡ jobs_by ready (take i rows) ++ cond (ready row.1.item) (job_of row ∷ []) []
  jobs_next rows i row at =
      ap (λ (n : ℕ). jobs_by ready (take n rows)) (let e : i + 1 ≡ suc i = omega arith in e)
      ∙ ap (λ (rs : List (ℕ × Held T)). jobs_by ready rs) (taken_at rows i row at) ∙ jobs_behind (take i rows) row

  -- the row at the next place can be solved
  pub next_found : (behind : Behind) (rows : List (ℕ × Held T)) (i : ℕ) (row : ℕ × Held T) (best found : Option AskedJob) → slice_get rows i ≡ Some row → ready row.1.item ≡ true →
      IsNext behind (jobs_by ready (take i rows)) best → ((jobs : List AskedJob) → IsNext behind jobs best → IsNext behind (jobs ++ job_of row ∷ []) found) → IsNext behind (jobs_by ready (take (i + 1) rows)) found
  next_found behind rows i row best found at is before step =
      subst (λ (js : List AskedJob). IsNext behind js found)
      (sym (jobs_next rows i row at ∙ ap (λ (b : Bool). jobs_by ready (take i rows) ++ cond b (job_of row ∷ []) []) is)) (step (jobs_by ready (take i rows)) before)

  -- it can't
  pub next_passed : (behind : Behind) (rows : List (ℕ × Held T)) (i : ℕ) (row : ℕ × Held T) (best : Option AskedJob) → slice_get rows i ≡ Some row → ready row.1.item ≡ false →
      IsNext behind (jobs_by ready (take i rows)) best → IsNext behind (jobs_by ready (take (i + 1) rows)) best
  next_passed behind rows i row best at is before =
      subst (λ (js : List AskedJob). IsNext behind js best)
      (sym (jobs_next rows i row at ∙ ap (λ (b : Bool). jobs_by ready (take i rows) ++ cond b (job_of row ∷ []) []) is ∙ nothing (jobs_by ready (take i rows)))) before
    where
      nothing : (js : List AskedJob) → js ++ [] ≡ js
      nothing [] = refl
      nothing (j ∷ js) = ap (λ (rest : List AskedJob). j ∷ rest) (nothing js)

  -- all were looked at
  pub next_whole : (behind : Behind) (rows : List (ℕ × Held T)) (n : ℕ) (best : Option AskedJob) → length rows ≤ n → IsNext behind (jobs_by ready (take n rows)) best → IsNext behind (jobs_by ready rows) best
  next_whole behind rows n best past is = subst (λ (rs : List (ℕ × Held T)). IsNext behind (jobs_by ready rs) best) (all_taken rows n past) is
