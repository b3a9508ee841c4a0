use Rattle.std.proofs.Common.{◌≡◌, ◌∙◌, ℕ, ap, arith, drop}
use Rattle.network_check.specs.Breaches.{place_behind}
use Rattle.network_check.proofs.Passing.{none_behind}
use Rattle.network_check.proofs.breaches.place_behind.Goals as goal

pub returns-then-left-eq0 : goal.returns-then-left-eq0
returns-then-left-eq0 c =
    let rest = drop c.loop-place.place c.args.text.now in
    let none : place_behind c.loop-place.left rest ≡ 0 = ap (λ (n : ℕ). place_behind n rest) c.if-left-eq0.true ∙ none_behind rest in
    omega (arith, c.loop-place.invariant, none)
