-- First lines of a text are first ones of its lines.
use Rattle.std.proofs.Common.{◌≡◌, ◌≢◌, ◌∙◌, ℕ, List, [], ◌∷◌, ◌++◌, reverse, refl, sym, ap, subst, append_assoc}
use Rattle.std.specs.List.{AllByRecursion}
use Rattle.std.proofs.lemmas.List.{reverse-append, reverse-reverse}
use Rattle.client_laws.specs.plant_play.Replays.{octets_of}
use Rattle.record_laws.proofs.Printed.{Within, within_all}

-- ---- one line

abbrev IsNotEnd : ℕ → Type 0
IsNotEnd c = c ≢ 10

-- up to their ends two texts have the same first line
pub record SameFirst (l m x y : List ℕ) : Type 0 where
  pub line : l ≡ m
  pub rest : x ≡ y

head_same : (c d : ℕ) (xs ys : List ℕ) → (c ∷ xs) ≡ (d ∷ ys) → c ≡ d
head_same c d xs ys e = cc

tail_same : (c d : ℕ) (xs ys : List ℕ) → (c ∷ xs) ≡ (d ∷ ys) → xs ≡ ys
tail_same c d xs ys e = cc

same_first : (l m x y : List ℕ) → AllByRecursion IsNotEnd l → AllByRecursion IsNotEnd m → l ++ 10 ∷ x ≡ m ++ 10 ∷ y → SameFirst l m x y
same_first [] [] x y h k e = record { line = refl; rest = tail_same 10 10 x y e }
same_first [] (d ∷ m) x y h k e = absurd (k.0 (sym (head_same 10 d x (m ++ 10 ∷ y) e)))
same_first (c ∷ l) [] x y h k e = absurd (h.0 (head_same c 10 (l ++ 10 ∷ x) y e))
same_first (c ∷ l) (d ∷ m) x y h k e =
    let below : SameFirst l m x y = same_first l m x y h.1 k.1 (tail_same c d (l ++ 10 ∷ x) (m ++ 10 ∷ y) e) in
    record { line = ap (λ (b : ℕ). b ∷ l) (head_same c d (l ++ 10 ∷ x) (m ++ 10 ∷ y) e) ∙ ap (λ (xs : List ℕ). d ∷ xs) below.line; rest = below.rest }

-- ---- lines, the first one first

abbrev text_of : List (List ℕ) → List ℕ
text_of [] = []
text_of (l ∷ ls) = l ++ 10 ∷ text_of ls

abbrev NoEnds : List (List ℕ) → Type 0
NoEnds ls = AllByRecursion (λ (l : List ℕ). AllByRecursion IsNotEnd l) ls

pub record AreFirst (all firsts : List (List ℕ)) : Type 0 where
  pub later : List (List ℕ)
  pub is : all ≡ firsts ++ later

none_first : (l : List ℕ) (x : List ℕ) → [] ≡ l ++ 10 ∷ x → ⊥
none_first [] x e = let no : [] ≡ 10 ∷ x = e in cc
none_first (c ∷ l) x e = let no : [] ≡ c ∷ (l ++ 10 ∷ x) = e in cc

are_first : (all firsts : List (List ℕ)) (rest : List ℕ) → NoEnds all → NoEnds firsts → text_of all ≡ text_of firsts ++ rest → AreFirst all firsts
are_first all [] rest h k e = record { later = all; is = refl }
are_first [] (m ∷ ms) rest h k e = absurd (none_first m (text_of ms ++ rest) (e ∙ append_assoc m (10 ∷ text_of ms) rest))
are_first (l ∷ ls) (m ∷ ms) rest h k e =
    let first : SameFirst l m (text_of ls) (text_of ms ++ rest) = same_first l m (text_of ls) (text_of ms ++ rest) h.0 k.0 (e ∙ append_assoc m (10 ∷ text_of ms) rest) in
    let below : AreFirst ls ms = are_first ls ms rest h.1 k.1 first.rest in
    record { later = below.later; is = ap (λ (x : List ℕ). x ∷ ls) first.line ∙ ap (λ (xs : List (List ℕ)). m ∷ xs) below.is }

-- ---- lines, the last one first

text_more : (ls : List (List ℕ)) (l : List ℕ) → text_of (ls ++ l ∷ []) ≡ text_of ls ++ (l ++ 10 ∷ [])
text_more [] l = refl
text_more (m ∷ ls) l = ap (λ (x : List ℕ). m ++ 10 ∷ x) (text_more ls l) ∙ sym (append_assoc m (10 ∷ text_of ls) (l ++ 10 ∷ []))

octets_are : (ls : List (List ℕ)) → octets_of ls ≡ text_of (reverse ls)
octets_are [] = refl
octets_are (l ∷ ls) = ap (λ (x : List ℕ). x ++ (l ++ 10 ∷ [])) (octets_are ls) ∙ sym (text_more (reverse ls) l) ∙ ap text_of (sym (reverse-append (l ∷ []) ls))

no_ends_append : (xs ys : List (List ℕ)) → NoEnds xs → NoEnds ys → NoEnds (xs ++ ys)
no_ends_append [] ys h k = k
no_ends_append (x ∷ xs) ys h k = (h.0, no_ends_append xs ys h.1 k)

abbrev pub AllWithin : List (List ℕ) → Type 0
AllWithin ls = AllByRecursion Within ls

no_ends_back : (ls : List (List ℕ)) → AllWithin ls → NoEnds (reverse ls)
no_ends_back [] h = tt
no_ends_back (l ∷ ls) h = subst NoEnds (sym (reverse-append (l ∷ []) ls)) (no_ends_append (reverse ls) (l ∷ []) (no_ends_back ls h.1) (within_all l h.0, tt))

pub record AreLast (all firsts : List (List ℕ)) : Type 0 where
  pub later : List (List ℕ)
  pub is : all ≡ later ++ firsts

-- lines of which the text begins with these are more lines behind these
pub first_lines : (all firsts : List (List ℕ)) (rest : List ℕ) → AllWithin all → AllWithin firsts → octets_of all ≡ octets_of firsts ++ rest → AreLast all firsts
first_lines all firsts rest h k e =
    let f : AreFirst (reverse all) (reverse firsts) =
    are_first (reverse all) (reverse firsts) rest (no_ends_back all h) (no_ends_back firsts k) (sym (octets_are all) ∙ e ∙ ap (λ (x : List ℕ). x ++ rest) (octets_are firsts)) in
    record { later = reverse f.later; is = sym (reverse-reverse all) ∙ ap reverse f.is ∙ reverse-append (reverse firsts) f.later ∙ ap (λ (x : List (List ℕ)). reverse f.later ++ x) (reverse-reverse firsts) }
