-- Two runs that differ in the topologies of one element alone, and that closed peers cannot tell them apart.
use Rattle.std.specs.Prelude.{◌≡◌, ℕ, nat_eq, false, List, [], ◌∷◌, Some}
use Rattle.std.specs.Map.{lookup}
use Rattle.plant_model.specs.Types.{As, BorderRow, Held, Branch, NetworkParts}
use Rattle.te_links.specs.Rows.{Rows}
use Rattle.border_costs.specs.Tables.{IsBorderTable}
use Rattle.plant_model.specs.declared.event.Event.TheVariants as event
use Rattle.plant_model.specs.Wire.{Codec}
use Rattle.plant_model.specs.Element.{Item, Ready, is_client}
use Rattle.plant_model.specs.Plant.{Pin, Plant, Entry, Steps, IsGiven, opened, deeds_of, ask}
use Rattle.plant_model.specs.Blind.{heard, is_accepted}
use Rattle.plant_model.specs.Laws.{IsNetwork}

-- a run goes from one state to another by an entry
abbrev pub Goes : Codec → NetworkParts → Plant → Entry → Plant → Type 0
Goes c n s e t = IsGiven e.event × Steps c n s e.event (record { answer = e.answer; state = t; deeds = e.deeds })

-- a closed peer's job k at d has one border table in both states
abbrev pub HasOneTable : Codec → NetworkParts → As → ℕ → Plant → Plant → Type 0
HasOneTable c n d k s t =
    (h h' : Held (Item Pin)) (down down' : List Branch) → lookup (nat_eq k) (s.elements d).pending.rows ≡ Some h → h.item.stage ≡ Ready down →
    lookup (nat_eq k) (t.elements d).pending.rows ≡ Some h' → h'.item.stage ≡ Ready down' → is_client h.item.class ≡ false →
    (rows : List BorderRow) × IsBorderTable h.item.pin.topology (ask c n d (k, h) down) rows × IsBorderTable h'.item.pin.topology (ask c n d (k, h') down') rows

-- Two runs, each with the newest entry first and with the state that it comes to. Either may load topologies at d by itself. All
-- other events are the same, accepted alike, and the jobs of closed peers at d have one border table in both.
pub data AreTwins (c : Codec) (n : NetworkParts) (d : As) : List Entry → Plant → List Entry → Plant → Type 0 where
  opening : AreTwins c n d [] (opened c n).state [] (opened c n).state
  one_loads : (es fs : List Entry) (s t s' : Plant) (e : Entry) (g : Rows) → AreTwins c n d es s fs t → e.event ≡ event.Load d g → Goes c n s e s' →
      AreTwins c n d (e ∷ es) s' fs t
  other_loads : (es fs : List Entry) (s t t' : Plant) (f : Entry) (g : Rows) → AreTwins c n d es s fs t → f.event ≡ event.Load d g → Goes c n t f t' →
      AreTwins c n d es s (f ∷ fs) t'
  both : (es fs : List Entry) (s t s' t' : Plant) (e f : Entry) → AreTwins c n d es s fs t → f.event ≡ e.event → is_accepted f.answer ≡ is_accepted e.answer →
      ((k : ℕ) → e.event ≡ event.Solve d k → HasOneTable c n d k s t) → Goes c n s e s' → Goes c n t f t' → AreTwins c n d (e ∷ es) s' (f ∷ fs) t'

-- They give closed peers the same bytes.
abbrev pub TwinWorlds : Type 0
TwinWorlds = (c : Codec) (n : NetworkParts) → IsNetwork n → (d : As) (es fs : List Entry) (s t : Plant) → AreTwins c n d es s fs t →
    heard c n (deeds_of c n es) ≡ heard c n (deeds_of c n fs)
