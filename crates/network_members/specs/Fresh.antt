-- The elements of a network that has just been made.
use Rattle.std.specs.Prelude.{◌≤◌, false, List, [], ◌∷◌, Option, Some, None}
use Rattle.pce_common.specs.plant_model.Types.{As, Addr, Hop, NetworkParts, ElementRow}
use Rattle.dom_base.specs.declared.addr.Addr.TheVariants.{V4}
use Rattle.plant_text.specs.Settings.{adjacencies, life}
use Rattle.pce_common.specs.plant_model.Events.{bare}
use Rattle.pce_common.specs.plant_model.RealWire.{wire}
use Rattle.pce_common.specs.plant_model.Settings.{place}
use Rattle.pce_common.specs.Membership.{Membership}
use Rattle.network_links.specs.Adjacencies.{others}
use Rattle.pce_element.specs.Seen.{Seen, IsNew}
use Rattle.network_members.specs.declared.fresh.Figures.{Figures}

-- an element for each of these domains, without requests and keys, in a world that has just begun
abbrev pub AreNew : {P : Type 0} {S : Type 0} → (As → P) → NetworkParts → List As → List (Seen P S) → Type 0
AreNew first n [] [] = Unit {0}
AreNew first n [] (e ∷ es) = ⊥
AreNew first n (d ∷ ds) [] = ⊥
AreNew first n (d ∷ ds) (e ∷ es) = IsNew first (place n d) (life n d) (others d (adjacencies n)) e × AreNew first n ds es

-- how long the keys of each element live
pub record LivesFit (n : NetworkParts) : Type 0 where
  pub least : (d : As) → 1 ≤ life n d
  pub most : (d : As) → life n d ≤ 3600

abbrev pub figures_from : Option ElementRow → Figures
figures_from None = record { id = V4 0; key_life = 600; parent = false }
figures_from (Some r) = record { id = r.id; key_life = r.key_life; parent = r.parent }

-- the address of the parent, where there is one
abbrev pub parent_id : Option Addr → Addr
parent_id None = V4 0
parent_id (Some id) = id

-- the members of a network in the model's beginning
abbrev pub begun : {P : Type 0} {S : Type 0} → (As → P) → (S → List Hop) → NetworkParts → Membership P S
begun {P} {S} first show n = let s = bare P S wire n show first in record { elements = s.elements; parent = s.parent; current = s.current }
