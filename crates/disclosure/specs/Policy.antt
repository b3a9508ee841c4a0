-- Who may see what, and which requests may go on (RFC 5520, section 2.1; RFC 5440, section 8.1, on policy).
use Rattle.std.specs.Prelude.{◌≡◌, ◌↔◌, ◌==◌, ◌&&◌, ℕ, Bool, false, All, List}
use Rattle.std.specs.List.{list_any}
use Rattle.dom_base.specs.declared.names.As.{As}
use Rattle.disclosure.specs.declared.class.Class.{Class}
use Rattle.disclosure.specs.declared.class.Class.TheVariants.{Client, Neighbour, Parent}
use Rattle.disclosure.specs.declared.class.Deny.{Deny}

-- clients that have the right alone
abbrev pub can_expand : Class → Bool
can_expand (Client expand) = expand
can_expand (Neighbour number) = false
can_expand Parent = false

-- a row denies requests of this class to a next domain; a client counts as domain 0, and no row is about a parent
abbrev pub Denies : Class → As → Deny → Type 0
Denies (Client expand) next row = (row.from.0 ≡ 0) × (row.next ≡ next)
Denies (Neighbour number) next row = (row.from ≡ number) × (row.next ≡ next)
Denies Parent next row = ⊥

-- the same as a function: some row denies them
abbrev pub denies_from : ℕ → ℕ → List Deny → Bool
denies_from from next rows = list_any (λ (row : Deny). (row.from.0 == from) && (row.next.0 == next)) rows

abbrev pub is_denied : List Deny → Class → As → Bool
is_denied deny (Client expand) next = denies_from 0 next.0 deny
is_denied deny (Neighbour number) next = denies_from number.0 next.0 deny
is_denied deny Parent next = false

abbrev pub IsAllowed : List Deny → Class → As → Type 0
IsAllowed deny class next = All (λ row. ¬ Denies class next row) deny

-- ---- a law

-- The test finds no denial exactly where no row denies the request.
abbrev pub DenialIsTested : Type 0
DenialIsTested = (deny : List Deny) (class : Class) (next : As) → (is_denied deny class next ≡ false) ↔ IsAllowed deny class next
