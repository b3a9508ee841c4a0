-- Two words, and three.
use Rattle.std.proofs.Common.{◌≡◌, ◌<◌, ◌≤◌, List, [], ◌∷◌, length, arith, sym, ◌∙◌, ap}
use Rattle.std.specs.Prelude.{slice_index_or}

pub two_words : {X : Type 0} (ws : List X) (v t : X) → 2 ≤ length ws → length ws < 3 → v ≡ slice_index_or ws 0 v → t ≡ slice_index_or ws 1 t → ws ≡ v ∷ t ∷ []
two_words [] v t least most at_v at_t = absurd (omega arith)
two_words (a ∷ []) v t least most at_v at_t = absurd (omega arith)
two_words {X} (a ∷ (b ∷ [])) v t least most at_v at_t = ap (λ (x : X). x ∷ b ∷ []) (sym at_v) ∙ ap (λ (x : X). v ∷ x ∷ []) (sym at_t)
two_words (a ∷ (b ∷ (c ∷ rest))) v t least most at_v at_t = absurd (omega arith)

pub three_words : {X : Type 0} (ws : List X) (v t u : X) → 3 ≤ length ws → length ws < 4 → v ≡ slice_index_or ws 0 v → t ≡ slice_index_or ws 1 t → u ≡ slice_index_or ws 2 u →
    ws ≡ v ∷ t ∷ u ∷ []
three_words [] v t u least most at_v at_t at_u = absurd (omega arith)
three_words (a ∷ []) v t u least most at_v at_t at_u = absurd (omega arith)
three_words (a ∷ (b ∷ [])) v t u least most at_v at_t at_u = absurd (omega arith)
three_words {X} (a ∷ (b ∷ (c ∷ []))) v t u least most at_v at_t at_u =
    ap (λ (x : X). x ∷ b ∷ c ∷ []) (sym at_v) ∙ ap (λ (x : X). v ∷ x ∷ c ∷ []) (sym at_t) ∙ ap (λ (x : X). v ∷ t ∷ x ∷ []) (sym at_u)
three_words (a ∷ (b ∷ (c ∷ (d ∷ rest)))) v t u least most at_v at_t at_u = absurd (omega arith)
