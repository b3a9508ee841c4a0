-- Rows that have a number.
use Rattle.std.proofs.Common.{◌≡◌, is_some, List, [], ◌∷◌, refl, inl, inr}
use Rattle.std.proofs.lemmas.Bool.{cases_Bool}
use Rattle.std.specs.List.{list_any}
use Rattle.dom_base.specs.declared.names.As.{As}
use Rattle.plant_text.specs.declared.settings.ElementRow.{ElementRow}
use Rattle.plant_text.specs.Names.{same_as}
use Rattle.plant_text.specs.Settings.{row_of}

pub row_of_number : (d : As) (rows : List ElementRow) → list_any (λ (e : ElementRow). same_as e.own d) rows ≡ is_some (row_of d rows)
row_of_number d [] = refl
row_of_number d (r ∷ rs) =
    elim (cases_Bool (same_as r.own d)) [
      | inl t ↦ rw t refl
      | inr f ↦ rw f (row_of_number d rs)
    ]
