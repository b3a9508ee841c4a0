-- Addresses on the wire: four octets of IPv4 (RFC 3209, 4.3.3.2) or sixteen of IPv6 (RFC 3209, 4.3.3.3), the highest first.
use Rattle.std.specs.Prelude.{ℕ, ◌+◌, ◌*◌, ◌^◌, ◌<◌, List}
use Rattle.std.specs.Int.{w32, w128, to_be_bytes}
use Rattle.dom_base.specs.declared.addr.Addr.{Addr}
use Rattle.dom_base.specs.declared.addr.Addr.TheVariants.{V4, V6}
use Rattle.dom_base.specs.Parts.{word_at}

-- numbers of eight and of sixteen octets
abbrev pub long_at : List ℕ → ℕ → ℕ
long_at bytes k = 4294967296 * word_at bytes k + word_at bytes (k + 4)

abbrev pub wide_at : List ℕ → ℕ → ℕ
wide_at bytes k = 18446744073709551616 * long_at bytes k + long_at bytes (k + 8)

-- the octets of an address
abbrev pub addr_octets : Addr → List ℕ
addr_octets (V4 n) = to_be_bytes w32 n
addr_octets (V6 n) = to_be_bytes w128 n

-- how many bits an address of the kind has
abbrev pub bits_of : Addr → ℕ
bits_of (V4 n) = 32
bits_of (V6 n) = 128

-- the number of an address is one of its kind
abbrev pub IsAddr : Addr → Type 0
IsAddr (V4 n) = n < 2 ^ 32
IsAddr (V6 n) = n < 2 ^ 128
