-- Addresses that were written are read again; dots that cut a word.
use Rattle.std.proofs.Common.{lit≤, ◌≡◌, ℕ, ◌<◌, ◌≤◌, ◌≢◌, ◌/◌, ◌%◌, ◌^◌, ltb, eqb, Bool, true, false, List, [], ◌∷◌, ◌++◌, length, Some, map, None, refl, ap, subst, ◌∙◌, arith}
use Rattle.std.proofs.lemmas.Bool.{le-leb, and_parts, ltb-true, ne_eqb, eq-eqb}
use Rattle.std.proofs.lemmas.Fmt.{length-decimal-le}
use Rattle.std.proofs.lemmas.List.Splits.{slice_split_at, slice_split_none, length-slice_split}
use Rattle.std.proofs.lemmas.List.Elements.{All-from_recursion}
use Rattle.std.specs.Fmt.{decimal}
use Rattle.std.specs.Char.{digit_value}
use Rattle.std.specs.List.{list_all, list_any, slice_split, join_with_byte, AllByRecursion, All}
use Rattle.std.proofs.lemmas.List.Folds.{list_any-append, list_any_none, list_any_at}
use Rattle.dom_base.specs.declared.addr.Addr.TheVariants.{V4, V6}
use Rattle.dom_base.specs.AddrText.{dot, colon, octet_in, addr_of_octets, addr_of_groups, addr_in, addr_text, group_text, groups_of, number_of_groups}
use Rattle.dom_base.specs.Parts.{word_at}
use Rattle.dom_base.proofs.NumeralLaws.{number_again, decimal_shape, group_shape, group_again}

abbrev pub is_dot : ℕ → Bool
is_dot c = eqb c dot

abbrev pub is_colon : ℕ → Bool
is_colon c = eqb c colon

no_mark : (base mark c : ℕ) → base ≤ digit_value mark → digit_value c < base → c ≡ mark → ⊥
no_mark base mark c large small is =
    let at_mark : digit_value mark < base = subst (λ x. digit_value x < base) is small in
    omega (arith, large, at_mark)

no_marks : (base mark : ℕ) → base ≤ digit_value mark → (digits : List ℕ) → list_all (λ c. ltb (digit_value c) base) digits ≡ true
    → AllByRecursion (λ c. eqb c mark ≡ false) digits
no_marks base mark large [] h = tt
no_marks base mark large (c ∷ digits) h =
    let parts = and_parts (ltb (digit_value c) base) (list_all (λ c. ltb (digit_value c) base) digits) h in
    (ne_eqb c mark (no_mark base mark c large (ltb-true (digit_value c) base parts.0)), no_marks base mark large digits parts.1)

-- digits of a base are no mark that is no digit of it
digits_apart : (base mark : ℕ) → base ≤ digit_value mark → (word : List ℕ) → list_all (λ c. ltb (digit_value c) base) word ≡ true
    → All (λ c. eqb c mark ≡ false) word
digits_apart base mark large word h = All-from_recursion (λ c. eqb c mark ≡ false) word (no_marks base mark large word h)

decimal_apart : (mark n : ℕ) → 10 ≤ digit_value mark → n < 256 → All (λ c. eqb c mark ≡ false) (decimal n)
decimal_apart mark n large small =
    let shape = decimal_shape n (omega arith) in
    digits_apart 10 mark large (decimal n) (and_parts (ltb 0 (length (decimal n))) (list_all (λ c. ltb (digit_value c) 10) (decimal n)) shape).1

group_apart : (n : ℕ) → n < 2 ^ 16 → All (λ c. is_colon c ≡ false) (group_text n)
group_apart n small = digits_apart 16 colon (lit≤ tt) (group_text n) (group_shape n small)

-- a mark behind a part that has none cuts it off
cut : (mark : ℕ) (part rest : List ℕ) → All (λ c. eqb c mark ≡ false) part
    → slice_split (λ c. eqb c mark) (part ++ mark ∷ rest) ≡ part ∷ slice_split (λ c. eqb c mark) rest
cut mark part rest none = slice_split_at (λ c. eqb c mark) part mark rest none (eq-eqb mark mark refl)

octet_again : (n : ℕ) → n < 256 → octet_in (decimal n) ≡ Some n
unfolding octet_in
octet_again n small =
    rw (le-leb (length (decimal n)) 3 (length-decimal-le 3 n (omega arith) (omega arith) (omega arith))) (number_again n (omega arith) 255 (omega arith))

four : (a b c d : ℕ) → a < 256 → b < 256 → c < 256 → d < 256
    → slice_split is_dot (decimal a ++ dot ∷ (decimal b ++ dot ∷ (decimal c ++ dot ∷ decimal d))) ≡ decimal a ∷ decimal b ∷ decimal c ∷ decimal d ∷ []
four a b c d p q r s =
    cut dot (decimal a) (decimal b ++ dot ∷ (decimal c ++ dot ∷ decimal d)) (decimal_apart dot a (lit≤ tt) p)
    ∙ ap (λ x. decimal a ∷ x) (cut dot (decimal b) (decimal c ++ dot ∷ decimal d) (decimal_apart dot b (lit≤ tt) q)
    ∙ ap (λ x. decimal b ∷ x) (cut dot (decimal c) (decimal d) (decimal_apart dot c (lit≤ tt) r)
    ∙ ap (λ x. decimal c ∷ x) (slice_split_none is_dot (decimal d) (decimal_apart dot d (lit≤ tt) s))))

no_colon : (a b c d : ℕ) → a < 256 → b < 256 → c < 256 → d < 256
    → list_any is_colon (decimal a ++ dot ∷ (decimal b ++ dot ∷ (decimal c ++ dot ∷ decimal d))) ≡ false
no_colon a b c d p q r s =
    rw (
      list_any-append is_colon (decimal a) (dot ∷ (decimal b ++ dot ∷ (decimal c ++ dot ∷ decimal d))),
      list_any_none is_colon (decimal a) (decimal_apart colon a (lit≤ tt) p),
      list_any-append is_colon (decimal b) (dot ∷ (decimal c ++ dot ∷ decimal d)),
      list_any_none is_colon (decimal b) (decimal_apart colon b (lit≤ tt) q),
      list_any-append is_colon (decimal c) (dot ∷ decimal d),
      list_any_none is_colon (decimal c) (decimal_apart colon c (lit≤ tt) r),
      list_any_none is_colon (decimal d) (decimal_apart colon d (lit≤ tt) s),
    ) refl

octets_again : (n : ℕ) → n < 2 ^ 32 → addr_of_octets (slice_split is_dot (addr_text (V4 n))) ≡ Some (V4 n)
unfolding addr_text
octets_again n small =
    let a = n / 16777216 % 256 in
    let b = n / 65536 % 256 in
    let c = n / 256 % 256 in
    let d = n % 256 in
    let whole : word_at (a ∷ b ∷ c ∷ d ∷ []) 0 ≡ n = omega arith in
    ap addr_of_octets (four a b c d (omega arith) (omega arith) (omega arith) (omega arith))
    ∙ rw (octet_again a (omega arith), octet_again b (omega arith), octet_again c (omega arith), octet_again d (omega arith)) (ap (λ k. Some (V4 k)) whole)

pub v4_again : (n : ℕ) → n < 2 ^ 32 → addr_in (addr_text (V4 n)) ≡ Some (V4 n)
unfolding addr_text addr_in
v4_again n small =
    let a = n / 16777216 % 256 in
    let b = n / 65536 % 256 in
    let c = n / 256 % 256 in
    let d = n % 256 in
    rw (no_colon a b c d (omega arith) (omega arith) (omega arith) (omega arith)) (octets_again n small)

-- ---- marks that cut a word

pub some_parts : (p : ℕ → Bool) (word : List ℕ) → 1 ≤ length (slice_split p word)
some_parts p word = omega (arith, length-slice_split p word)

-- four parts and no others make an IPv4 address
pub other_octets : (parts : List (List ℕ)) → length parts ≢ 4 → addr_of_octets parts ≡ None
other_octets [] h = refl
other_octets (a ∷ []) h = refl
other_octets (a ∷ b ∷ []) h = refl
other_octets (a ∷ b ∷ c ∷ []) h = refl
other_octets (a ∷ b ∷ c ∷ d ∷ []) h = absurd (h refl)
other_octets (a ∷ b ∷ c ∷ d ∷ e ∷ parts) h = refl

-- eight parts and no others make an IPv6 address
pub few_groups : (parts : List (List ℕ)) → length parts ≤ 4 → addr_of_groups parts ≡ None
few_groups [] h = refl
few_groups (a ∷ []) h = refl
few_groups (a ∷ b ∷ []) h = refl
few_groups (a ∷ b ∷ c ∷ []) h = refl
few_groups (a ∷ b ∷ c ∷ d ∷ []) h = refl
few_groups (a ∷ b ∷ c ∷ d ∷ e ∷ parts) h = absurd (omega (arith, h))

pub other_groups : (a b c d : List ℕ) (parts : List (List ℕ)) → length parts ≢ 4 → addr_of_groups (a ∷ b ∷ c ∷ d ∷ parts) ≡ None
other_groups a b c d [] h = refl
other_groups a b c d (e ∷ []) h = refl
other_groups a b c d (e ∷ f ∷ []) h = refl
other_groups a b c d (e ∷ f ∷ g ∷ []) h = refl
other_groups a b c d (e ∷ f ∷ g ∷ i ∷ []) h = absurd (h refl)
other_groups a b c d (e ∷ f ∷ g ∷ i ∷ j ∷ parts) h = refl

-- ---- addresses of eight groups that were written

eight : (a b c d e f g h : ℕ) → a < 2 ^ 16 → b < 2 ^ 16 → c < 2 ^ 16 → d < 2 ^ 16 → e < 2 ^ 16 → f < 2 ^ 16 → g < 2 ^ 16 → h < 2 ^ 16
    → slice_split is_colon (join_with_byte colon (map group_text (a ∷ b ∷ c ∷ d ∷ e ∷ f ∷ g ∷ h ∷ []))) ≡ map group_text (a ∷ b ∷ c ∷ d ∷ e ∷ f ∷ g ∷ h ∷ [])
eight a b c d e f g h pa pb pc pd pe pf pg ph =
    step a (b ∷ c ∷ d ∷ e ∷ f ∷ g ∷ h ∷ []) pa (step b (c ∷ d ∷ e ∷ f ∷ g ∷ h ∷ []) pb (step c (d ∷ e ∷ f ∷ g ∷ h ∷ []) pc
    (step d (e ∷ f ∷ g ∷ h ∷ []) pd (step e (f ∷ g ∷ h ∷ []) pe (step f (g ∷ h ∷ []) pf (step g (h ∷ []) pg
    (slice_split_none is_colon (group_text h) (group_apart h ph))))))))
  where
    all : List ℕ → List ℕ
    all groups = join_with_byte colon (map group_text groups)

    step : (k : ℕ) (groups : List ℕ) → k < 2 ^ 16 → slice_split is_colon (join_with_byte colon (map group_text groups)) ≡ map group_text groups
        → slice_split is_colon (group_text k ++ colon ∷ join_with_byte colon (map group_text groups)) ≡ group_text k ∷ map group_text groups
    step k groups small rest = cut colon (group_text k) (join_with_byte colon (map group_text groups)) (group_apart k small) ∙ ap (λ x. group_text k ∷ x) rest

groups_again : (n : ℕ) → n < 2 ^ 128 → number_of_groups 0 (groups_of n) ≡ n
groups_again n small = omega arith

pub v6_again : (n : ℕ) → n < 2 ^ 128 → addr_in (addr_text (V6 n)) ≡ Some (V6 n)
unfolding addr_text addr_in
v6_again n small =
    let high = n / 2 ^ 64 in
    let low = n % 2 ^ 64 in
    let a = high / 2 ^ 48 % 2 ^ 16 in
    let b = high / 2 ^ 32 % 2 ^ 16 in
    let c = high / 2 ^ 16 % 2 ^ 16 in
    let d = high % 2 ^ 16 in
    let e = low / 2 ^ 48 % 2 ^ 16 in
    let f = low / 2 ^ 32 % 2 ^ 16 in
    let g = low / 2 ^ 16 % 2 ^ 16 in
    let h = low % 2 ^ 16 in
    let with_colon : list_any is_colon (join_with_byte colon (map group_text (groups_of n))) ≡ true
    = list_any_at is_colon (join_with_byte colon (map group_text (groups_of n))) 4 0 (omega arith) refl in
    rw (
      with_colon,
      eight a b c d e f g h (omega arith) (omega arith) (omega arith) (omega arith) (omega arith) (omega arith) (omega arith) (omega arith),
      group_again a (omega arith),
      group_again b (omega arith),
      group_again c (omega arith),
      group_again d (omega arith),
      group_again e (omega arith),
      group_again f (omega arith),
      group_again g (omega arith),
      group_again h (omega arith),
    ) (ap (λ k. Some (V6 k)) (groups_again n small))
