-- The order of addresses.
use Rattle.std.specs.Prelude.{ℕ, ◌+◌, ◌*◌, ◌^◌, nat_lt, if◌then◌else◌}
use Rattle.dom_base.specs.declared.addr.Addr.{Addr}
use Rattle.dom_base.specs.declared.addr.Addr.TheVariants.{V4, V6}

-- The place of an address among all: the 2^32 addresses of IPv4 come first, then those of IPv6, in each kind by their numbers.
-- Numbers that no address of the kind has are put behind all of these, each at a place of its own, so that no two places are one.
unfoldable pub rank : Addr → ℕ
rank (V4 n) = if nat_lt n (2 ^ 32) then n else 2 ^ 129 + 2 * n
rank (V6 n) = if nat_lt n (2 ^ 128) then 2 ^ 32 + n else 2 ^ 129 + 2 * n + 1
