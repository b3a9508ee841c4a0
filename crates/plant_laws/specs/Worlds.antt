-- A network without topologies says on the disclosed trace of a run just what closed peers hear in that run.
use Rattle.std.specs.Prelude.{◌≡◌, ◌<◌, true, List, [], ◌∷◌, ◌++◌, AllPairs}
use Rattle.plant_model.specs.Types.{Addr, BorderRow, Ask, NetworkParts}
use Rattle.te_links.specs.Rows.{Rows, IsInOrder}
use Rattle.border_costs.specs.declared.answer.Answer.{Answer}
use Rattle.border_costs.specs.Solutions.{AreRows}
use Rattle.border_costs.specs.Tables.{IsBorderTable}
use Rattle.plant_model.specs.declared.event.BlindEvent.{BlindEvent}
use Rattle.plant_model.specs.Wire.{Codec}
use Rattle.plant_model.specs.Jobs.{IsJoinOf}
use Rattle.plant_model.specs.Plant.{Plant, Entry, Steps, IsGiven, opened, deeds_of}
use Rattle.plant_model.specs.Laws.{IsNetwork}
use Rattle.plant_model.specs.Blind.{BlindState, BlindHappened, BlindHappens, Heard, heard, BlindSays, AreBlindGiven, Traces, is_accepted}
use Rattle.dom_base.specs.AddrOrder.{rank}

-- The best rows of an ask are the join of its border table with the rows that the next domain told.
abbrev pub BorderJoins : Type 0
BorderJoins = (g : Rows) (a : Ask) (rows : Answer) (border : List BorderRow) → IsInOrder g → AllPairs (λ (x y : Addr). rank x < rank y) a.entries →
    AreRows g a rows → IsBorderTable g a border → IsJoinOf a.query.cap a.target border a.down rows.best

-- a run with its disclosed trace
abbrev pub DisclosedRun : Codec → NetworkParts → List Entry → List BlindEvent → Plant → Type 0
DisclosedRun c n [] trace s = (trace ≡ []) × (s ≡ (opened c n).state)
DisclosedRun c n (e ∷ older) trace s =
    (before : Plant) × (earlier : List BlindEvent) × DisclosedRun c n older earlier before × IsGiven e.event
    × Steps c n before e.event (record { answer = e.answer; state = s; deeds = e.deeds }) × Traces c n before e earlier trace

-- What closed peers hear in a run is what the blind plant says on its disclosed trace.
abbrev pub SaysAsBlind : Type 0
SaysAsBlind = (c : Codec) (n : NetworkParts) (es : List Entry) (trace : List BlindEvent) (s : Plant) → DisclosedRun c n es trace s →
    (b : BlindState) × BlindSays c n trace (heard c n (deeds_of c n es)) b

-- The blind plant accepts each event of a trace, and says this.
abbrev pub BlindAccepts : Codec → NetworkParts → List BlindEvent → List Heard → BlindState → Type 0
BlindAccepts c n [] hs b = BlindSays c n [] hs b
BlindAccepts c n (x ∷ older) hs b =
    (before : BlindState) × (earlier : List Heard) × (h : BlindHappened) × BlindAccepts c n older earlier before × BlindHappens c n before x h
    × (is_accepted h.answer ≡ true) × (b ≡ h.state) × (hs ≡ earlier ++ heard c n h.deeds)

-- So it does on the disclosed trace of a run, of which each event was accepted.
abbrev pub AcceptsAsBlind : Type 0
AcceptsAsBlind = (c : Codec) (n : NetworkParts) (es : List Entry) (trace : List BlindEvent) (s : Plant) → DisclosedRun c n es trace s →
    (b : BlindState) × BlindAccepts c n trace (heard c n (deeds_of c n es)) b

-- The blind plant says one thing on a trace.
abbrev pub SaysOneThing : Type 0
SaysOneThing = (c : Codec) (n : NetworkParts) → IsNetwork n → (trace : List BlindEvent) → AreBlindGiven trace → (xs ys : List Heard) (a b : BlindState) →
    BlindSays c n trace xs a → BlindSays c n trace ys b → xs ≡ ys

-- Two runs with one disclosed trace give closed peers the same bytes.
abbrev pub TwoWorlds : Type 0
TwoWorlds = (c : Codec) (n : NetworkParts) → IsNetwork n → (one other : List Entry) (trace : List BlindEvent) (s t : Plant) → DisclosedRun c n one trace s → DisclosedRun c n other trace t →
    heard c n (deeds_of c n one) ≡ heard c n (deeds_of c n other)
