use Rattle.std.proofs.Common.{◌≡◌, ℕ, ◌+◌, ◌*◌, ◌++◌, List, take, vec_len, vec_capacity}
use Rattle.line_text.specs.Hexadecimal.{hex_text}
use Rattle.event_lines.proofs.digits.put_hex.Given as goal

-- the digits of those before stand there
pub record Stand (done old new : List ℕ) (begun long count room most : ℕ) : Type 0 where
  pub items : new ≡ old ++ hex_text done
  pub len : long ≡ begun + 2 * count
  pub capacity : room ≡ most

abbrev pub invariant-loop-octet : goal.invariant-loop-octet
invariant-loop-octet l = Stand (take l.octet-index l.octets) l.initial.into.items l.into.items (vec_len l.initial.into) (vec_len l.into) l.octet-index (vec_capacity l.into) (vec_capacity l.initial.into)
