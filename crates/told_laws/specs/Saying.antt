-- What a run says to everybody, and that what is told of it says all of that.
use Rattle.std.specs.Prelude.{◌≡◌, ◌==◌, ℕ, cond, List, [], ◌∷◌, ◌++◌}
use Rattle.plant_laws.specs.plant_model.Types.{NetworkParts}
use Rattle.plant_laws.specs.plant_model.Wire.{Bytes, Codec}
use Rattle.plant_laws.specs.plant_model.State.{Deed, Hands, said}
use Rattle.plant_laws.specs.plant_model.Plant.{Entry, Plant, Run, deeds_of}
use Rattle.plant_laws.specs.plant_model.RealWire.{wire}
use Rattle.run_laws.specs.Outlets.{outlet}
use Rattle.told_laws.specs.Telling.{told}

abbrev pub handed_by : {S : Type 0} → ℕ → Deed S → Bytes
handed_by i (Hands j bytes) = cond (j == i) bytes []
handed_by i d = []

-- the octets that drains handed out to an outside peer, in order, over all of its connections; deeds have the newest first
abbrev pub handed_to : {S : Type 0} → ℕ → List (Deed S) → Bytes
handed_to i [] = []
handed_to i (d ∷ older) = handed_to i older ++ handed_by i d

-- Two runs say the same: the same messages were put on their way, in order, whoever they are for; each outside peer was handed the same
-- octets, in order; and its connection is the same, with what was put there and handed out since it was opened.
pub record SayTheSame (c : Codec) (n : NetworkParts) (es fs : List Entry) : Type 0 where
  pub messages : said c (deeds_of c n fs) ≡ said c (deeds_of c n es)
  pub handed : (i : ℕ) → handed_to i (deeds_of c n fs) ≡ handed_to i (deeds_of c n es)
  pub connections : (i : ℕ) → outlet i fs ≡ outlet i es

-- What is told of a run says the same.
abbrev pub ToldSaysAll : Type 0
ToldSaysAll = (n : NetworkParts) (es : List Entry) (s : Plant) → Run wire n es s → SayTheSame wire n es (told es)
