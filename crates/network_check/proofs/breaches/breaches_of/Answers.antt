use Rattle.std.proofs.Common.{◌≡◌, ◌∙◌, ◌+◌, ◌≤◌, ◌++◌, ◌∷◌, [], ℕ, true, List, length, arith, subst, sym}
use Rattle.network_files.specs.Reading.{IsTopologyFault}
use Rattle.network_check.specs.declared.breaches.Breach.{Breach}
use Rattle.network_check.specs.Breaches.{IsNext, IsRefused, breaches_max, is_last}
use Rattle.network_check.proofs.Passing.{IsUnderWay, ends_there, one_more}
use Rattle.network_check.proofs.breaches.breaches_of.Goals as goal

pub returns-then-branch-2 : goal.returns-then-branch-2
returns-then-branch-2 c =
    let at = c.args.at in
    let u = c.loop-alloc.invariant in
    let b : Breach = c.in-Some.breach in
    let few : length c.loop-alloc.breaches + 1 ≤ breaches_max = omega (arith, c.len.ensures, c.loop-alloc-test.true) in
    let is : IsTopologyFault at c.loop-alloc.text.items b.line b.fault =
    subst (λ (t : List ℕ). IsTopologyFault at t b.line b.fault) c.as_slice.ensures.value (subst (IsNext at c.as_slice.result.now) c.in-Some.is c.in_ok-breach.ensures) in
    let last : true ≡ is_last b.fault = sym c.if-branch-2.true ∙ c.in_ok-note-2.ensures.last in
    subst (IsRefused at c.args.file) (sym c.in_ok-note-2.ensures.noted) (ends_there at c.args.file c.loop-alloc.text.items c.loop-alloc.breaches b few u.breaches u.left u.short is last)

pub loop-alloc-preserved : goal.loop-alloc-preserved
loop-alloc-preserved c =
    let at = c.args.at in
    let u = c.loop-alloc.invariant in
    let b : Breach = c.in-Some.breach in
    let few : length c.loop-alloc.breaches + 1 ≤ breaches_max = omega (arith, c.len.ensures, c.loop-alloc-test.true) in
    let is : IsTopologyFault at c.loop-alloc.text.items b.line b.fault =
    subst (λ (t : List ℕ). IsTopologyFault at t b.line b.fault) c.as_slice.ensures.value (subst (IsNext at c.as_slice.result.now) c.in-Some.is c.in_ok-breach.ensures) in
    let more = one_more at c.args.file c.loop-alloc.text.items c.loop-alloc.breaches b few u.breaches u.left u.short is in
    subst (λ (bs : List Breach). IsUnderWay at c.args.file c.note-in-loop-alloc.new.text.items bs) (sym c.in_ok-note-2.ensures.noted)
    (subst (λ (t : List ℕ). IsUnderWay at c.args.file t (c.loop-alloc.breaches ++ b ∷ [])) (sym c.in_ok-note-2.ensures.text) more)
