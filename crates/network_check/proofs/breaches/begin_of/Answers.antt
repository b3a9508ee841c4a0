use Rattle.std.proofs.Common.{◌∙◌, ◌-◌, ℕ, ap, sym}
use Rattle.network_check.specs.Breaches.{place_behind}
use Rattle.network_check.proofs.Passing.{none_behind}
use Rattle.network_check.proofs.breaches.begin_of.Goals as goal

pub returns-then-line-eq0 : goal.returns-then-line-eq0
returns-then-line-eq0 c = sym (ap (λ (n : ℕ). place_behind (n - 1) c.args.text.now) c.if-line-eq0.true ∙ none_behind c.args.text.now)
