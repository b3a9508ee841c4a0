-- Jobs that can be solved, by their place among those of all elements.
use Rattle.std.proofs.Common.{◌≡◌, ◌<◌, ◌≤◌, ◌-◌, ℕ, zero, suc, Bool, true, false, cond, Option, Some, None, List, [], ◌∷◌, ◌++◌, length, map, drop, get_or, arith, refl, sym, ◌∙◌, ap, subst}
use Rattle.std.specs.Prelude.{slice_get}
use Rattle.plant_text.specs.Names.{parent_as, same_as}
use Rattle.pce_common.specs.plant_model.Types.{As, NetworkParts}
use Rattle.pce_common.specs.plant_model.Element.{Element, ready_numbers}
use Rattle.pce_common.specs.plant_model.Parent as parent
use Rattle.pce_common.specs.plant_model.State.{State}
use Rattle.pce_common.specs.Rounds.{IsNext, asked_jobs, is_solvable, jobs_by}
use Rattle.pce_common.specs.declared.rounds.AskedJob.{AskedJob}
use Rattle.pce_common.specs.declared.rounds.Behind.{Behind}
use Rattle.pce_common.specs.plant_model.Events.{jobs_at}
use Rattle.pce_element.specs.Seen.{Seen}
use Rattle.network_members.specs.Elements.{at_domain, element_or, elements_in, own_of}
use Rattle.network_members.specs.Ready.{asked_in, jobs_in}

past_end : {A : Type 0} → (xs : List A) (k : ℕ) → slice_get xs k ≡ None → length xs ≤ k
past_end [] k none = omega arith
past_end (x ∷ xs) zero none = absurd (some_none x none)
  where
    some_none : {A : Type 0} → (y : A) → Some y ≡ None → ⊥
    some_none y is = cc
past_end (x ∷ xs) (suc k) none = omega (arith, past_end xs k none)

pub numbers_past : (numbers : List ℕ) (k : ℕ) → slice_get numbers k ≡ None → length numbers ≤ k
numbers_past numbers k none = past_end numbers k none

-- the rest of the jobs, behind the one element's
pub behind : (d : As) (numbers : List ℕ) (js : List (As × ℕ)) (k : ℕ) → slice_get numbers k ≡ None → slice_get (jobs_at d numbers ++ js) k ≡ slice_get js (k - length numbers)
behind d [] js k none = let e : k ≡ k - 0 = omega arith in ap (slice_get js) e
behind d (x ∷ xs) js zero none = absurd (some_none x none)
  where
    some_none : (y : ℕ) → Some y ≡ None → ⊥
    some_none y is = cc
behind d (x ∷ xs) js (suc k) none = behind d xs js k none ∙ (let e : k - length xs ≡ suc k - length (x ∷ xs) = omega arith in ap (slice_get js) e)

pub among : (d : As) (numbers : List ℕ) (js : List (As × ℕ)) (k n : ℕ) → slice_get numbers k ≡ Some n → slice_get (jobs_at d numbers ++ js) k ≡ Some (d, n)
among d [] js k n found = absurd (none_some n found)
  where
    none_some : (y : ℕ) → None ≡ Some y → ⊥
    none_some y is = cc
among d (x ∷ xs) js zero n found = ap (λ (o : ℕ). Some (d, o)) (one x n found)
  where
    one : (a b : ℕ) → Some a ≡ Some b → a ≡ b
    one a b is = cc
among d (x ∷ xs) js (suc k) n found = among d xs js k n found

module _ {P : Type 0} {S : Type 0} where
  abbrev pub numbers_of : Seen P S → List ℕ
  numbers_of e = ready_numbers e.losing.element.pending.rows

  pub drop_step : (es : List (Seen P S)) (i : ℕ) (e : Seen P S) → i < length es → e ≡ get_or es i e → jobs_in (drop i es) ≡ jobs_at (own_of e) (numbers_of e) ++ jobs_in (drop (suc i) es)
  drop_step [] i e inside is = absurd (omega arith)
  drop_step (x ∷ es) zero e inside is = ap (λ (y : Seen P S). jobs_at (own_of y) (numbers_of y) ++ jobs_in es) (sym is)
  drop_step (x ∷ es) (suc i) e inside is = drop_step es i e (omega arith) is

  pub ready_behind : (es : List (Seen P S)) (i k : ℕ) (e : Seen P S) → i < length es → e ≡ get_or es i e → slice_get (numbers_of e) k ≡ None → slice_get (jobs_in (drop i es)) k ≡ slice_get (jobs_in (drop (suc i) es)) (k - length (numbers_of e))
  ready_behind es i k e inside is none = ap (λ (js : List (As × ℕ)). slice_get js k) (drop_step es i e inside is) ∙ behind (own_of e) (numbers_of e) (jobs_in (drop (suc i) es)) k none

  pub ready_among : (es : List (Seen P S)) (i k n : ℕ) (e : Seen P S) → i < length es → e ≡ get_or es i e → slice_get (numbers_of e) k ≡ Some n → slice_get (jobs_in (drop i es)) k ≡ Some (own_of e, n)
  ready_among es i k n e inside is found = ap (λ (js : List (As × ℕ)). slice_get js k) (drop_step es i e inside is) ∙ among (own_of e) (numbers_of e) (jobs_in (drop (suc i) es)) k n found

  pub ready_none : (es : List (Seen P S)) (k : ℕ) → slice_get (jobs_in (drop (length es) es)) k ≡ None
  ready_none [] k = refl
  ready_none (e ∷ es) k = ready_none es k

  pub own_at : (es : List (Seen P S)) (i : ℕ) (e : Seen P S) (a : As) → i < length es → e ≡ get_or es i e → a ≡ get_or (map own_of es) i a → a ≡ own_of e
  own_at [] i e a inside is at = absurd (omega arith)
  own_at (x ∷ es) zero e a inside is at = at ∙ ap own_of (sym is)
  own_at (x ∷ es) (suc i) e a inside is at = own_at es i e a (omega arith) is at

-- ---- the next one

module _ {P : Type 0} {S : Type 0} where
  asked_as : (n : NetworkParts) (clock : ℕ) (d : As) (o : Option (Seen P S)) → asked_in o ≡ jobs_by is_solvable (element_or n clock d o).pending.rows
  asked_as n clock d None = refl
  asked_as n clock d (Some e) = refl

  -- of an element
  pub next_below : (n : NetworkParts) (clock : ℕ) (d : As) (es : List (Seen P S)) (s : State P S) (behind : Behind) (found : Option AskedJob) → same_as d parent_as ≡ false → s.elements ≡ elements_in n clock es →
      IsNext behind (asked_in (at_domain d es)) found → IsNext behind (asked_jobs d s) found
  next_below n clock d es s behind found below is next =
      subst (λ (js : List AskedJob). IsNext behind js found)
      (asked_as n clock d (at_domain d es) ∙ ap (λ (ks : As → Element P S). jobs_by is_solvable (ks d).pending.rows) (sym is)
      ∙ ap (λ (b : Bool). cond b (jobs_by parent.is_ready s.parent.pending.rows) (jobs_by is_solvable (s.elements d).pending.rows)) (sym below))
      next

  -- of the parent
  pub next_above : (d : As) (p : parent.Parent) (s : State P S) (behind : Behind) (found : Option AskedJob) → same_as d parent_as ≡ true → s.parent ≡ p →
      IsNext behind (jobs_by parent.is_ready p.pending.rows) found → IsNext behind (asked_jobs d s) found
  next_above d p s behind found above is next =
      subst (λ (js : List AskedJob). IsNext behind js found)
      (ap (λ (k : parent.Parent). jobs_by parent.is_ready k.pending.rows) (sym is)
      ∙ ap (λ (b : Bool). cond b (jobs_by parent.is_ready s.parent.pending.rows) (jobs_by is_solvable (s.elements d).pending.rows)) (sym above))
      next
