-- The line that tells the tally.
use Rattle.std.specs.Prelude.{ℕ, List, [], ◌∷◌, ◌++◌, codes, decimal}
use Rattle.plant_client.specs.declared.tally.Tally.{Tally}

-- `bulk N paths P none M sum S max X`
abbrev pub tally_text : ℕ → Tally → List ℕ
tally_text n t =
    codes "bulk " ++ decimal n ++ codes " paths " ++ decimal t.paths ++ codes " none " ++ decimal t.none
    ++ codes " sum " ++ decimal t.sum ++ codes " max " ++ decimal t.greatest ++ 10 ∷ []
