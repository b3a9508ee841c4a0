-- How long messages of sessions are, in octets, as numbers (RFC 5440, sections 6.1 and 7). The constants in the code are proved to be these.
use Rattle.std.specs.Prelude.{◌≡◌}
use Rattle.network_links.specs.declared.TheConstants.{OWN_LENGTH, ANSWER_LENGTH}

pub record LengthsAreNumbers : Type 0 where
  -- the common header, 4, and an object such as OPEN, 8
  pub own : OWN_LENGTH ≡ 12
  -- the common header, 4, an RP, 12, and a NO-PATH with its vector, 16
  pub answer : ANSWER_LENGTH ≡ 32
