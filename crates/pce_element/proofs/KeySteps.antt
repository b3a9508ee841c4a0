-- Keys issued one by one.
use Rattle.std.proofs.Common.{None, Some, ◌≡◌, ◌≤◌, ◌+◌, ℕ, List, [], ◌∷◌, ◌++◌, length, arith, refl, sym, ◌∙◌, ap, subst}
use Rattle.path_keys.specs.Keys.{Keys, AreKeys, live_at, issue_of}
use Rattle.path_keys.proofs.RunLemmas.{adds_one}
use Rattle.pce_common.specs.plant_model.Element.{Element}
use Rattle.pce_element.specs.Changes.{MayIssue, all_issued, changed, solved_in}
use Rattle.pce_element.specs.declared.change.Change.{Change}
use Rattle.pce_element.specs.declared.change.Change.TheVariants.{Nothing, Opens, Readies, Ends, Solves}

pub issued_on : {S : Type 0} → (now : ℕ) (s : S) (items rest : List S) (keys new : Keys S) → items ≡ (s ∷ []) ++ rest → new ≡ issue_of keys now s → all_issued now rest new ≡ all_issued now items keys
issued_on {S} now s items rest keys new is made = ap (all_issued now rest) made ∙ sym (ap (λ (ss : List S). all_issued now ss keys) is)

pub may_on : {S : Type 0} → (now : ℕ) (s : S) (items rest : List S) (keys new : Keys S) → items ≡ (s ∷ []) ++ rest → new ≡ issue_of keys now s → AreKeys keys → MayIssue keys now items → MayIssue new now rest
may_on {S} now s items rest keys new is made are may =
    let one : length (live_at (issue_of keys now s) now) ≡ length (live_at keys now) + 1 = adds_one S keys now s are in
    let many : length items ≡ length rest + 1 = ap length is ∙ (let e : length ((s ∷ []) ++ rest) ≡ length rest + 1 = omega arith in e) in
    subst (λ (k : Keys S). MayIssue k now rest) (sym made) (record { clock = omega arith; free = omega (arith, one, many, may.free) })

pub fewer_left : {S : Type 0} → (s : S) (items rest : List S) (before after : ℕ) → items ≡ (s ∷ []) ++ rest → length items ≤ before → before ≤ after + 1 → length rest ≤ after
fewer_left s items rest before after is room one =
    let many : length items ≡ length rest + 1 = ap length is ∙ (let e : length ((s ∷ []) ++ rest) ≡ length rest + 1 = omega arith in e) in
    omega (arith, many)

-- ---- the clock of the keys

pub clock_after : {S : Type 0} → (now : ℕ) (segments : List S) (keys : Keys S) → keys.clock ≤ now → (all_issued now segments keys).clock ≤ now
clock_after now [] keys before = before
clock_after now (s ∷ segments) keys before = clock_after now segments (issue_of keys now s) (omega arith)

pub unsolved_keeps : {P : Type 0} {S : Type 0} {D : Type 0} → (current : P) (change : Change D S) (k : Element P S) → solved_in change ≡ None → (changed current change k).keys ≡ k.keys
unsolved_keeps current Nothing k none = refl
unsolved_keeps current (Opens peer id opening) k none = refl
unsolved_keeps current (Readies number branches) k none = refl
unsolved_keeps current (Ends numbers) k none = refl
unsolved_keeps {P} {S} {D} current (Solves number solved now segments) k none = absurd (some_none solved none)
  where
    some_none : (x : D) → Some x ≡ None → ⊥
    some_none x is = cc
