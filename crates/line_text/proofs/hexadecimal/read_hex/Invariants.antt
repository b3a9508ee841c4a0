use Rattle.std.proofs.Common.{◌≡◌, ◌++◌, length}
use Rattle.std.specs.Option.{option_map}
use Rattle.line_text.specs.Hexadecimal.{hex_bytes}
use Rattle.line_text.proofs.hexadecimal.read_hex.Given as goal

abbrev pub invariant-loop-first : goal.invariant-loop-first
invariant-loop-first l = option_map (λ bs. l.bytes.items ++ bs) (hex_bytes l.rest) ≡ hex_bytes l.text

abbrev pub decreases-loop-first : goal.decreases-loop-first
decreases-loop-first l = length l.rest
