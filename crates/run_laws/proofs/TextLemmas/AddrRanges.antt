-- What a word means as an address is a number of its kind.
use Rattle.std.proofs.Common.{◌≡◌, inl, inr, ℕ, ◌<◌, ◌≤◌, ◌^◌, Bool, true, false, cond, leb, ◌==◌, List, [], ◌∷◌, length, Option, Some, None, refl, subst, arith}
use Rattle.std.specs.List.{list_any, slice_split}
use Rattle.std.proofs.lemmas.Bool.Decides.{leb_tells}
use Rattle.plant_laws.specs.plant_model.Types.{Addr}
use Rattle.dom_base.specs.declared.addr.Addr.TheVariants.{V4, V6}
use Rattle.dom_base.specs.AddrText.{addr_in, addr_of_groups, addr_of_octets, colon, dot, group_in, number_of_groups, octet_in}
use Rattle.dom_base.specs.Numerals.{number_in}
use Rattle.dom_base.specs.Parts.{word_at}
use Rattle.dom_base.specs.Steps.{◌>>=◌}
use Rattle.dom_base.proofs.NumeralLaws.{at_most, group_length, group_none, group_some, wide}
use Rattle.pcep_subobjects.specs.Addresses.{IsAddr}

-- what was found first, and what was found behind it
pub by_parts : {X Y : Type 0} (o : Option X) (f : X → Option Y) (y : Y) → (o >>= f) ≡ Some y → (x : X) × (o ≡ Some x) × (f x ≡ Some y)
by_parts (Some x) f y is = (x, refl, is)
by_parts None f y is = absurd (cc)

-- what is only found where a test holds
pub under_test : {Y : Type 0} (b : Bool) (o : Option Y) (y : Y) → cond b o None ≡ Some y → o ≡ Some y
under_test true o y is = is
under_test false o y is = absurd (cc)

-- ---- four octets

octet_below : (word : List ℕ) (n : ℕ) → octet_in word ≡ Some n → n ≤ 255
unfolding octet_in
octet_below word n is = at_most 255 n word (under_test (leb (length word) 3) (number_in 255 word) n is)

below_v4 : (a b c d : ℕ) → a ≤ 255 → b ≤ 255 → c ≤ 255 → d ≤ 255 → word_at (a ∷ b ∷ c ∷ d ∷ []) 0 < 2 ^ 32
below_v4 a b c d p q r s = omega arith

octets_in_range : (words : List (List ℕ)) (addr : Addr) → addr_of_octets words ≡ Some addr → IsAddr addr
octets_in_range [] addr is = absurd (cc)
octets_in_range (a ∷ []) addr is = absurd (cc)
octets_in_range (a ∷ b ∷ []) addr is = absurd (cc)
octets_in_range (a ∷ b ∷ c ∷ []) addr is = absurd (cc)
octets_in_range (a ∷ b ∷ c ∷ d ∷ e ∷ words) addr is = absurd (cc)
octets_in_range (a ∷ b ∷ c ∷ d ∷ []) addr is =
    let p = by_parts (octet_in a) _ addr is in
    let q = by_parts (octet_in b) _ addr p.2 in
    let r = by_parts (octet_in c) _ addr q.2 in
    let s = by_parts (octet_in d) _ addr r.2 in
    let same : V4 (word_at (p.0 ∷ q.0 ∷ r.0 ∷ s.0 ∷ []) 0) ≡ addr = cc (s.2) in
    subst IsAddr same (below_v4 p.0 q.0 r.0 s.0 (octet_below a p.0 p.1) (octet_below b q.0 q.1) (octet_below c r.0 r.1) (octet_below d s.0 s.1))

-- ---- eight groups

group_below : (word : List ℕ) (n : ℕ) → group_in word ≡ Some n → n < 2 ^ 16
group_below word n is =
    elim (leb_tells (length word) 4) [
      | inl short ↦ within short.1 (wide 16 word) refl
      | inr long ↦ let none : group_in word ≡ None = group_length word long.1 in absurd (cc)
    ]
  where
    within : length word ≤ 4 → (o : Option ℕ) → wide 16 word ≡ o → n < 2 ^ 16
    within short None e = let none : group_in word ≡ None = group_none word short e in absurd (cc)
    within short (Some m) e =
        let found = group_some m word short e in
        let same : m ≡ n = cc (found.1) in
        subst (λ (k : ℕ). k < 2 ^ 16) same found.0

below_v6 : (a b c d e f g h : ℕ) → a < 2 ^ 16 → b < 2 ^ 16 → c < 2 ^ 16 → d < 2 ^ 16 → e < 2 ^ 16 → f < 2 ^ 16 → g < 2 ^ 16 → h < 2 ^ 16
    → number_of_groups 0 (a ∷ b ∷ c ∷ d ∷ e ∷ f ∷ g ∷ h ∷ []) < 2 ^ 128
below_v6 a b c d e f g h pa pb pc pd pe pf pg ph = omega arith

groups_in_range : (words : List (List ℕ)) (addr : Addr) → addr_of_groups words ≡ Some addr → IsAddr addr
groups_in_range [] addr is = absurd (cc)
groups_in_range (a ∷ []) addr is = absurd (cc)
groups_in_range (a ∷ b ∷ []) addr is = absurd (cc)
groups_in_range (a ∷ b ∷ c ∷ []) addr is = absurd (cc)
groups_in_range (a ∷ b ∷ c ∷ d ∷ []) addr is = absurd (cc)
groups_in_range (a ∷ b ∷ c ∷ d ∷ e ∷ []) addr is = absurd (cc)
groups_in_range (a ∷ b ∷ c ∷ d ∷ e ∷ f ∷ []) addr is = absurd (cc)
groups_in_range (a ∷ b ∷ c ∷ d ∷ e ∷ f ∷ g ∷ []) addr is = absurd (cc)
groups_in_range (a ∷ b ∷ c ∷ d ∷ e ∷ f ∷ g ∷ h ∷ i ∷ words) addr is = absurd (cc)
groups_in_range (a ∷ b ∷ c ∷ d ∷ e ∷ f ∷ g ∷ h ∷ []) addr is =
    let pa = by_parts (group_in a) _ addr is in
    let pb = by_parts (group_in b) _ addr pa.2 in
    let pc = by_parts (group_in c) _ addr pb.2 in
    let pd = by_parts (group_in d) _ addr pc.2 in
    let pe = by_parts (group_in e) _ addr pd.2 in
    let pf = by_parts (group_in f) _ addr pe.2 in
    let pg = by_parts (group_in g) _ addr pf.2 in
    let ph = by_parts (group_in h) _ addr pg.2 in
    let same : V6 (number_of_groups 0 (pa.0 ∷ pb.0 ∷ pc.0 ∷ pd.0 ∷ pe.0 ∷ pf.0 ∷ pg.0 ∷ ph.0 ∷ [])) ≡ addr = cc (ph.2) in
    subst IsAddr same (below_v6 pa.0 pb.0 pc.0 pd.0 pe.0 pf.0 pg.0 ph.0 (group_below a pa.0 pa.1) (group_below b pb.0 pb.1) (group_below c pc.0 pc.1) (group_below d pd.0 pd.1)
    (group_below e pe.0 pe.1) (group_below f pf.0 pf.1) (group_below g pg.0 pg.1) (group_below h ph.0 ph.1))

-- ---- both

pub addr_in_range : (word : List ℕ) (addr : Addr) → addr_in word ≡ Some addr → IsAddr addr
unfolding addr_in
addr_in_range word addr is = either (list_any (λ c. c == colon) word) is
  where
    either : (b : Bool) → cond b (addr_of_groups (slice_split (λ c. c == colon) word)) (addr_of_octets (slice_split (λ c. c == dot) word)) ≡ Some addr → IsAddr addr
    either true e = groups_in_range (slice_split (λ c. c == colon) word) addr e
    either false e = octets_in_range (slice_split (λ c. c == dot) word) addr e
