-- An element as its callers see it.
use Rattle.std.specs.Prelude.{◌≡◌, ℕ, List, [], ◌++◌, map}
use Rattle.pce_common.specs.plant_model.Types.{As}
use Rattle.pce_common.specs.plant_model.declared.route.Route.{Route}
use Rattle.pce_common.specs.plant_model.Element.{Element, ElementSettings, Losing}
use Rattle.pce_common.specs.plant_model.Settings.{outer_way}
use Rattle.pce_common.specs.Ways.{way_of}

-- how many more requests and keys there is memory for
pub record Spare : Type 0 where
  pub requests : ℕ
  pub keys : ℕ

-- Its settings, what a request would pin, what it holds, and the lost requests that it has yet to hand out. P is what a pin
-- is, and S what a key stands for.
pub record Seen (P : Type 0) (S : Type 0) : Type 0 where
  pub place : ElementSettings
  pub current : P
  pub losing : Losing P S
  pub room : Spare

abbrev pub with_losing : {P : Type 0} {S : Type 0} → Losing P S → Seen P S → Seen P S
with_losing l s = record s { losing = l }

abbrev pub with_element : {P : Type 0} {S : Type 0} → Element P S → Seen P S → Seen P S
with_element k s = record s { losing = record s.losing { element = k } }

abbrev pub with_current : {P : Type 0} {S : Type 0} → P → Seen P S → Seen P S
with_current pin s = record s { current = pin }

-- the same, whatever memory there is
abbrev pub SameButRoom : {P : Type 0} {S : Type 0} → Seen P S → Seen P S → Type 0
SameButRoom a b = b ≡ record a { room = b.room }

-- an element without requests and keys, whose keys will live so long
abbrev pub new_element : {P : Type 0} {S : Type 0} → ℕ → List As → List Route → Element P S
new_element life links routes = record {
  pending = record { limit = 1024; given = 0; rows = [] };
  keys = record { life = life; next = 1; clock = 0; issued = [] };
  ways = map way_of links ++ map outer_way routes;
}

-- The first pin of a domain is that of a world that has just begun.
abbrev pub IsNew : {P : Type 0} {S : Type 0} → (As → P) → ElementSettings → ℕ → List As → Seen P S → Type 0
IsNew first place life links s =
    s ≡ record { place = place; current = first place.own; losing = record { element = new_element life links place.routes; lost = [] }; room = s.room }
