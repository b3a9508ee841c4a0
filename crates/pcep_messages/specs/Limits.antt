-- How much a request may name, as numbers. The constants in the code are proved to be these numbers.
use Rattle.std.specs.Prelude.{◌≡◌}
use Rattle.pcep_messages.specs.declared.limits.TheConstants.{EXCLUSIONS_MAX, SEQUENCE_MAX}

pub record LimitsAreNumbers : Type 0 where
  pub exclusions : EXCLUSIONS_MAX ≡ 256
  pub sequence : SEQUENCE_MAX ≡ 16
