-- How much a certificate and a check may have, as numbers. The constants in the code are proved to be these numbers.
use Rattle.std.specs.Prelude.{◌≡◌}
use Rattle.path_certificate.specs.declared.limits.TheConstants.{SEEDS_MAX, CERTIFICATE_BYTES_MAX}

pub record LimitsAreNumbers : Type 0 where
  pub seeds : SEEDS_MAX ≡ 256
  pub certificate : CERTIFICATE_BYTES_MAX ≡ 1048576
