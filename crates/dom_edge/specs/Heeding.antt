-- From whom a listener accepts connections, and what its `accept` returns.
use Rattle.std.specs.Prelude.{◌≡◌, ◌/◌, ◌%◌, ◌^◌, List, [], ◌∷◌, ◌++◌, None, Some, nat_eq, if◌then◌else◌}
use Rattle.std.specs.declared.option.Option.{Option}
use Rattle.dom_base.specs.declared.addr.Addr.{Addr}
use Rattle.dom_base.specs.declared.addr.Addr.TheVariants.{V4, V6}
use Rattle.dom_edge.specs.declared.listener.Accepted.{Accepted}
use Rattle.dom_edge.specs.declared.listener.Accepted.TheVariants as accepted
use Rattle.dom_edge.specs.Streams.{Reading, Writing}

-- An IPv6 address that holds one of IPv4 is that one: 80 bits of 0, 16 bits of 1, and the address (RFC 4291, section 2.5.5.2).
abbrev pub canonical : Addr → Addr
canonical (V4 n) = V4 n
canonical (V6 n) = if nat_eq (n / 2 ^ 32) 0xffff then V4 (n % 2 ^ 32) else V6 n

-- who comes from there is heeded: anyone, or that address alone
abbrev pub IsHeeded : Option Addr → Option Addr → Type 0
IsHeeded None from = Unit {0}
IsHeeded (Some whom) None = ⊥
IsHeeded (Some whom) (Some from) = canonical from ≡ canonical whom

-- both sides of a link
pub record Sides : Type 0 where
  pub reading : Reading
  pub writing : Writing

abbrev pub sides : Reading → Writing → Sides
sides r w = record { reading = r; writing = w }

-- one more link was handed out, as it is now, or none
abbrev pub HandsOut : {L : Type 0} → (L → Reading) → (L → Writing) → List Sides → List Sides → Accepted L → Type 0
HandsOut reading writing old new (accepted.Link link) = new ≡ old ++ sides (reading link) (writing link) ∷ []
HandsOut reading writing old new accepted.Quiet = new ≡ old
HandsOut reading writing old new accepted.Failed = new ≡ old

-- a link that was handed out comes from whom is heeded
abbrev pub IsFor : {L : Type 0} → (L → Option Addr) → Option Addr → Accepted L → Type 0
IsFor comes_from heeds (accepted.Link link) = IsHeeded heeds (comes_from link)
IsFor comes_from heeds accepted.Quiet = Unit {0}
IsFor comes_from heeds accepted.Failed = Unit {0}
