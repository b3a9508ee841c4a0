-- Rows and their keys, as values and as data.
use Rattle.std.proofs.Common.{◌≡◌, ◌∙◌, ◌+◌, ◌<◌, ℕ, List, [], ◌∷◌, ◌++◌, String, Global, drop, get_or, length, map, string_bytes, take, refl, ap, arith, sym}
use Rattle.std.proofs.lemmas.List.{drop_more, length-map, length-take-le, map_more}
use Rattle.std.specs.Map.{keys_of}
use Rattle.toml.specs.Data.{Data, as_table}
use Rattle.toml.specs.View.{items_view, members_view, view}
use Rattle.toml.specs.declared.value.Value.{Value}
use Rattle.plant_text.specs.SettingsText.{names}
use Rattle.network_check.specs.declared.sections.Section.{Section}
use Rattle.network_check.specs.Clashes.{Case, listed, rows_clashes, table_clashes}

pub names_seen : (es : List (String Global × Value)) → map string_bytes (keys_of es) ≡ names (members_view es)
names_seen [] = refl
names_seen (e ∷ es) = ap (λ (ks : List (List ℕ)). string_bytes e.0 ∷ ks) (names_seen es)

pub rows_seen : (vs : List Value) → listed (items_view vs) ≡ map view vs
rows_seen [] = refl
rows_seen (v ∷ vs) = ap (λ (ds : List Data). view v ∷ ds) (rows_seen vs)

-- one more row, behind those before it
pub rows_next : (b : Case) (s : Section) (vs : List Value) (i : ℕ) (v : Value) → i < length vs → v ≡ get_or vs i v →
    rows_clashes b s (map view (take i vs)) (map view (drop i vs)) ≡ table_clashes b s (map view (take i vs)) i (as_table (view v)) ++ rows_clashes b s (map view (take (i + 1) vs)) (map view (drop (i + 1) vs))
rows_next b s vs i v lt is =
    let next : drop i vs ≡ v ∷ drop (i + 1) vs = drop_more vs i v lt ∙ ap (λ (w : Value). w ∷ drop (i + 1) vs) (sym is) in
    let count : length (map view (take i vs)) ≡ i = length-map (take i vs) view ∙ length-take-le i vs (omega (arith, lt)) in
    let more : map view (take (i + 1) vs) ≡ map view (take i vs) ++ view v ∷ [] = map_more view vs i v lt ∙ ap (λ (w : Value). map view (take i vs) ++ view w ∷ []) (sym is) in
    ap (λ (ws : List Value). rows_clashes b s (map view (take i vs)) (map view ws)) next
    ∙ ap (λ (n : ℕ). table_clashes b s (map view (take i vs)) n (as_table (view v)) ++ rows_clashes b s (map view (take i vs) ++ view v ∷ []) (map view (drop (i + 1) vs))) count
    ∙ ap (λ (ds : List Data). table_clashes b s (map view (take i vs)) i (as_table (view v)) ++ rows_clashes b s ds (map view (drop (i + 1) vs))) (sym more)
