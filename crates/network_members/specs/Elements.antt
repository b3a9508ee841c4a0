-- Elements by their domains.
use Rattle.std.specs.Prelude.{◌≡◌, ◌↔◌, ◌⊎◌, ℕ, zero, suc, true, false, cond, List, [], ◌∷◌, Option, Some, None, Result, Ok, Err, IfOk, OnOk, OnErr, IsTrue}
use Rattle.pce_common.specs.plant_model.Types.{As, NetworkParts}
use Rattle.te_links.specs.Rows.{Rows}
use Rattle.te_generations.specs.declared.generations.LoadError.{LoadError}
use Rattle.te_generations.specs.declared.generations.LoadError.TheVariants as load_error
use Rattle.plant_text.specs.Names.{same_as}
use Rattle.plant_text.specs.Settings.{life}
use Rattle.pce_common.specs.plant_model.declared.outcome.Refused.{Refused}
use Rattle.pce_common.specs.plant_model.declared.outcome.Refused.TheVariants.{NoSuchPeer, GenerationsFull, NoMemory}
use Rattle.pce_common.specs.plant_model.Settings.{ways}
use Rattle.pce_common.specs.plant_model.Element.{Element}
use Rattle.pce_common.specs.plant_model.Plant.{Pin, Segment, is_full}
use Rattle.pce_element.specs.Seen.{Seen, SameButRoom, with_current}

-- the first element of the domain stands at this place
abbrev pub IsFirstAt : As → ℕ → List As → Type 0
IsFirstAt d i [] = ⊥
IsFirstAt d zero (a ∷ as') = same_as a d ≡ true
IsFirstAt d (suc i) (a ∷ as') = (same_as a d ≡ false) × IsFirstAt d i as'

abbrev pub IsNowhere : As → List As → Type 0
IsNowhere d [] = Unit {0}
IsNowhere d (a ∷ as') = (same_as a d ≡ false) × IsNowhere d as'

module _ {P : Type 0} {S : Type 0} where
  abbrev pub own_of : Seen P S → As
  own_of e = e.place.own

  -- ---- by domain

  abbrev pub at_domain : As → List (Seen P S) → Option (Seen P S)
  at_domain d [] = None
  at_domain d (e ∷ es) = cond (same_as (own_of e) d) (Some e) (at_domain d es)

  -- another one in the place of the element of its domain
  abbrev pub with_seen : Seen P S → List (Seen P S) → List (Seen P S)
  with_seen x [] = []
  with_seen x (e ∷ es) = cond (same_as (own_of e) (own_of x)) (x ∷ es) (e ∷ with_seen x es)

  -- ---- what the model has of them; a domain without an element has neither requests nor keys

  abbrev pub nobody : NetworkParts → ℕ → As → Element P S
  nobody n now d = record {
    pending = record { limit = 1024; given = 0; rows = [] };
    keys = record { life = life n d; next = 1; clock = now; issued = [] };
    ways = ways n d;
  }

  abbrev pub element_or : NetworkParts → ℕ → As → Option (Seen P S) → Element P S
  element_or n now d None = nobody n now d
  element_or n now d (Some e) = e.losing.element

  abbrev pub elements_in : NetworkParts → ℕ → List (Seen P S) → As → Element P S
  elements_in n now es = λ d. element_or n now d (at_domain d es)

  abbrev pub current_or : (As → P) → As → Option (Seen P S) → P
  current_or first d None = first d
  current_or first d (Some e) = e.current

  abbrev pub current_in : (As → P) → List (Seen P S) → As → P
  current_in first es = λ d. current_or first d (at_domain d es)

  -- ---- one element changes

  -- an element becomes this one, whatever memory there is
  abbrev pub Turns : Seen P S → List (Seen P S) → List (Seen P S) → Type 0
  Turns e old new = (x : Seen P S) × SameButRoom e x × (new ≡ with_seen x old)

-- ---- one element loads a topology

abbrev pub loaded : Rows → Seen Pin Segment → Seen Pin Segment
loaded g e = with_current (record { number = suc e.current.number; topology = g }) e

abbrev pub IsFull : Seen Pin Segment → Type 0
IsFull e = IsTrue (is_full e.current.number e.losing.element.pending.rows)

abbrev pub refused_of : LoadError → Refused
refused_of load_error.Full = GenerationsFull
refused_of load_error.NoMemory = NoMemory

abbrev pub told : Result ℕ LoadError → Result ℕ Refused
told (Ok k) = Ok k
told (Err e) = Err (refused_of e)

-- a topology is loaded, under the next number
pub record LoadsElement (e : Seen Pin Segment) (g : Rows) (old : List (Seen Pin Segment)) (r : Result ℕ Refused) (new : List (Seen Pin Segment)) : Type 0 where
  pub number : IfOk r (λ k. k ≡ suc e.current.number)
  pub ok : OnOk r (Turns (loaded g e) old new)
  pub full : (r ≡ Err GenerationsFull) ↔ IsFull e
  pub err : OnErr r (new ≡ old)
  pub why : (why : Refused) → r ≡ Err why → (why ≡ GenerationsFull) ⊎ (why ≡ NoMemory)

abbrev pub LoadsAt : Option (Seen Pin Segment) → Rows → List (Seen Pin Segment) → Result ℕ Refused → List (Seen Pin Segment) → Type 0
LoadsAt None g old r new = (r ≡ Err NoSuchPeer) × (new ≡ old)
LoadsAt (Some e) g old r new = LoadsElement e g old r new
