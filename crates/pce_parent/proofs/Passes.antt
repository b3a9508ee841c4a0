-- A pass over all edges: what has been relaxed so far, or that a cost fell.
use Rattle.std.proofs.Common.{◌≡◌, ℕ, ◌+◌, ◌<◌, ◌≤◌, List, length, take, Bool, true, false, arith, refl, sym, ◌∙◌, ap, subst}
use Rattle.std.specs.Prelude.{All, MatchBool, slice_index_or}
use Rattle.std.specs.declared.option.Option.{Option}
use Rattle.std.proofs.lemmas.List.{take_all}
use Rattle.std.proofs.lemmas.List.Elements.{All-more}
use Rattle.pce_parent.specs.declared.arcs.Arc.{Arc}
use Rattle.pce_parent.specs.Costs.{IsRelaxed, potential, Falls}

abbrev pub Passed : ℕ → List Arc → List (Option ℕ) → List (Option ℕ) → Bool → Type 0
Passed cap arcs start now changed = MatchBool changed (Falls start now) ((now ≡ start) × All (IsRelaxed cap now) arcs)

no_more : (cap : ℕ) (arcs : List Arc) (start now : List (Option ℕ)) (changed : Bool) → Passed cap arcs start now changed → potential now ≤ potential start
no_more cap arcs start now true passes = omega (arith, passes)
no_more cap arcs start now false passes = omega (arith, ap potential passes.0)

pub fell : (cap : ℕ) (arcs : List Arc) (start now next : List (Option ℕ)) (changed : Bool) → Passed cap arcs start now changed → Falls now next → Falls start next
fell cap arcs start now next changed passes falls = omega (arith, falls, no_more cap arcs start now changed passes)

pub same : (cap : ℕ) (arcs : List Arc) (start now next : List (Option ℕ)) (changed : Bool) (i : ℕ) (d : Arc) → i < length arcs →
    Passed cap (take i arcs) start now changed → (next ≡ now) × IsRelaxed cap now (slice_index_or arcs i d) → Passed cap (take (i + 1) arcs) start next changed
same cap arcs start now next true i d below passes stays = subst (Falls start) (sym stays.0) passes
same cap arcs start now next false i d below passes stays = (
  stays.0 ∙ passes.0,
  subst (λ (cs : List (Option ℕ)). All (IsRelaxed cap cs) (take (i + 1) arcs)) (sym stays.0) (All-more (IsRelaxed cap now) arcs i d below passes.1 stays.1),
)

pub told : (cap : ℕ) (arcs : List Arc) (start now : List (Option ℕ)) (b changed : Bool) → changed ≡ b → Passed cap arcs start now b → Passed cap arcs start now changed
told cap arcs start now b changed is passes = subst (Passed cap arcs start now) (sym is) passes

pub finished : (cap : ℕ) (arcs : List Arc) (start now : List (Option ℕ)) (changed : Bool) (i : ℕ) → length arcs ≤ i → Passed cap (take i arcs) start now changed → Passed cap arcs start now changed
finished cap arcs start now changed i past passes = subst (λ (as' : List Arc). Passed cap as' start now changed) (take_all i arcs past) passes

-- ---- two passes

pub one_fell : (cap : ℕ) (rows links : List Arc) (x y z : List (Option ℕ)) (b b' : Bool) → Passed cap rows x y b → Passed cap links y z b' → (b ≡ false → b' ≡ false → ⊥) → Falls x z
one_fell cap rows links x y z true b' first second some = omega (arith, first, no_more cap links y z b' second)
one_fell cap rows links x y z false true first second some = omega (arith, second, ap potential first.0)
one_fell cap rows links x y z false false first second some = absurd (some refl refl)

pub rows_relaxed : (cap : ℕ) (rows links : List Arc) (x y z : List (Option ℕ)) (b b' : Bool) → Passed cap rows x y b → Passed cap links y z b' → b ≡ false → b' ≡ false → All (IsRelaxed cap z) rows
rows_relaxed cap rows links x y z true b' first second is is' = absurd (cc)
rows_relaxed cap rows links x y z false true first second is is' = absurd (cc)
rows_relaxed cap rows links x y z false false first second is is' = subst (λ (cs : List (Option ℕ)). All (IsRelaxed cap cs) rows) (sym second.0) first.1

pub links_relaxed : (cap : ℕ) (links : List Arc) (y z : List (Option ℕ)) (b : Bool) → Passed cap links y z b → b ≡ false → All (IsRelaxed cap z) links
links_relaxed cap links y z true second is = absurd (cc)
links_relaxed cap links y z false second is = second.1
