-- What is told, put behind what was told before.
use Rattle.std.proofs.Common.{◌≡◌, ℕ, Bool, true, false, cond, List, [], ◌∷◌, ◌++◌, sym, ◌∙◌, ap, refl, append_assoc, append-nil}
use Rattle.std.specs.List.{flat_map}
use Rattle.std.proofs.lemmas.List.{flat_map_more}
use Rattle.plant_play.specs.Logs.{Told, behind, untold}

abbrev pub told : Bool → List ℕ → Told
told k text = record { is_kept = k; text = text }

twice : (k : Bool) (x s t : List ℕ) → cond k (cond k (x ++ s) x ++ t) (cond k (x ++ s) x) ≡ cond k (x ++ (s ++ t)) x
twice true x s t = append_assoc x s t
twice false x s t = refl

nothing : (k : Bool) (x : List ℕ) → x ≡ cond k (x ++ []) x
nothing true x = sym (append-nil x)
nothing false x = refl

pub behind_twice : (a : Told) (s t : List ℕ) → behind (behind a s) t ≡ behind a (s ++ t)
behind_twice a s t = ap (λ (l : List ℕ). told a.is_kept l) (twice a.is_kept a.text s t)

pub behind_nothing : (a : Told) → a ≡ behind a []
behind_nothing a = ap (λ (l : List ℕ). told a.is_kept l) (nothing a.is_kept a.text)

waited : (k : Bool) (x t : List ℕ) → cond k (x ++ cond k ([] ++ t) []) x ≡ cond k (x ++ t) x
waited true x t = refl
waited false x t = refl

-- what was told beside, put behind
pub behind_waited : (a w : Told) (t : List ℕ) → w ≡ behind (untold a.is_kept) t → behind a w.text ≡ behind a t
behind_waited a w t is = ap (λ (v : Told). behind a v.text) is ∙ ap (λ (l : List ℕ). told a.is_kept l) (waited a.is_kept a.text t)

pub behind_more : {X : Type 0} (f : X → List ℕ) (a : Told) (xs : List X) (x : X) → behind (behind a (flat_map f xs)) (f x) ≡ behind a (flat_map f (xs ++ x ∷ []))
behind_more f a xs x = behind_twice a (flat_map f xs) (f x) ∙ ap (λ (l : List ℕ). behind a l) (flat_map_more f [] xs x)
