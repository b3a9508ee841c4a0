use Rattle.std.proofs.Common.{◌≡◌, take}
use Rattle.line_text.specs.Hexadecimal.{hex_text}
use Rattle.line_text.proofs.hexadecimal.write_hex.Given as goal

abbrev pub invariant-loop-byte : goal.invariant-loop-byte
invariant-loop-byte l = l.text.items ≡ hex_text (take l.byte-index l.bytes)
