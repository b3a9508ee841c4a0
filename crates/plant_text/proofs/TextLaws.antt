-- The keys of a table, and the items of a list one by one.
use Rattle.std.proofs.Common.{◌≡◌, ℕ, Bool, ◌&&◌, String, Global, string_bytes, length, find, List, [], ◌∷◌, ◌++◌, Option, Some, None, option_map, refl, ap, add-one, inl, inr}
use Rattle.std.proofs.lemmas.Bool.{cases_Bool}
use Rattle.std.specs.List.{list_all}
use Rattle.std.specs.Map.{keys_of}
use Rattle.toml.specs.declared.value.Value.{Value}
use Rattle.toml.specs.View.{items_view, members_view}
use Rattle.plant_text.specs.declared.rows.Found.{Found}
use Rattle.plant_text.specs.SettingsText.{names, item_count}

-- ---- keys

pub all_names : (p : List ℕ → Bool) (es : List (String Global × Value)) → list_all (λ k. p (string_bytes k)) (keys_of es) ≡ list_all p (names (members_view es))
all_names p [] = refl
all_names p (e ∷ es) = ap (λ b. p (string_bytes e.0) && b) (all_names p es)

pub find_name : (p : List ℕ → Bool) (es : List (String Global × Value)) → option_map (λ k. string_bytes k) (find (λ k. p (string_bytes k)) (keys_of es)) ≡ find p (names (members_view es))
find_name p [] = refl
find_name p (e ∷ es) =
    elim (cases_Bool (p (string_bytes e.0))) [
      | inl t ↦ rw t refl
      | inr f ↦ rw f (find_name p es)
    ]

-- ---- items

pub count_is : (vs : List Value) → item_count (items_view vs) ≡ length vs
count_is [] = refl
count_is (v ∷ vs) = rw (count_is vs) (add-one (length vs))

-- numbers in front of those that are still to be read
abbrev pub in_front : List ℕ → Option (List ℕ) → Option (List ℕ)
in_front done (Some ns) = Some (done ++ ns)
in_front done None = None

-- rows in front of them
abbrev pub ahead : {R : Type 0} → List R → Found R → Found R
ahead done others = record { rows = done ++ others.rows; cut = others.cut }
