-- Numbers, colours and addresses in digits are words, which say again what was written.
use Rattle.std.proofs.Common.{◌≡◌, ℕ, ◌-◌, ◌/◌, ◌%◌, ◌^◌, ◌<◌, ◌≤◌, ltb, eqb, Bool, true, false, ◌&&◌, cond, List, [], ◌∷◌, ◌++◌, length, map, Some, None, refl, arith}
use Rattle.std.proofs.lemmas.Bool.{and_parts, ltb-true}
use Rattle.std.proofs.lemmas.Bool.Decides.{nat_tests}
use Rattle.std.proofs.lemmas.List.{length-append}
use Rattle.std.specs.Fmt.{decimal}
use Rattle.std.specs.Char.{digit_value}
use Rattle.std.specs.List.{join_with_byte, list_all, AllByRecursion}
use Rattle.dom_base.specs.declared.addr.Addr.{Addr}
use Rattle.dom_base.specs.declared.addr.Addr.TheVariants.{V4, V6}
use Rattle.dom_base.specs.declared.link.Link.{Link}
use Rattle.dom_base.specs.Numerals.{is_numeral, number_in, colour_in, colour_text, value}
use Rattle.dom_base.specs.AddrText.{addr_in, addr_text, colon, dot, group_text}
use Rattle.dom_base.proofs.NumeralLaws.{decimal_shape, group_shape, is_shaped}
use Rattle.line_text.specs.Spelling.{IsWord}
use Rattle.te_text.specs.RowText.{number_32, number_64, ends_in, traits_in}
use Rattle.te_text.specs.TopologyText.{ends_words, traits_words}
use Rattle.te_text.specs.Spelled.{ends_of, traits_of, SpellsEnds, SpellsTraits, SpellsSrlgs}

-- ---- digits are bytes of words

digit_printed : (base c : ℕ) → base ≤ 16 → digit_value c < base → 32 < c
digit_printed base c small digit = above c (omega arith)
  where
    above : (c : ℕ) → digit_value c < 16 → 32 < c
    above c h = grind (arith, nat_tests)

digits_printed : (base : ℕ) (digits : List ℕ) → base ≤ 16 → list_all (λ c. ltb (digit_value c) base) digits ≡ true → AllByRecursion (λ c. 32 < c) digits
digits_printed base [] small h = tt
digits_printed base (c ∷ digits) small h =
    let parts = and_parts (ltb (digit_value c) base) (list_all (λ c. ltb (digit_value c) base) digits) h in
    (digit_printed base c small (ltb-true (digit_value c) base parts.0), digits_printed base digits small parts.1)

numeral_word : (base : ℕ) (word : List ℕ) → base ≤ 16 → is_numeral base word ≡ true → IsWord word
numeral_word base word small h =
    let parts = and_parts (ltb 0 (length word)) (list_all (λ c. ltb (digit_value c) base) word) h in
    record { some = ltb-true 0 (length word) parts.0; bytes = digits_printed base word small parts.1 }

pub number_word : (most n : ℕ) (word : List ℕ) → number_in most word ≡ Some n → IsWord word
number_word most n word e = numeral_word 10 word (omega arith) (is_shaped most n word e)

first_true : (b t : Bool) (v n : ℕ) → cond (b && t) (Some v) None ≡ Some n → b ≡ true
first_true true t v n e = refl
first_true false t v n e = absurd (cc)

pub colour_word : (n : ℕ) (word : List ℕ) → colour_in word ≡ Some n → IsWord word
unfolding colour_in
colour_word n word e = numeral_word 16 word (omega arith) (first_true (is_numeral 16 word) (eqb (length word) 8) (value 16 word) n e)

-- ---- addresses

bytes_append : (xs ys : List ℕ) → AllByRecursion (λ c. 32 < c) xs → AllByRecursion (λ c. 32 < c) ys → AllByRecursion (λ c. 32 < c) (xs ++ ys)
bytes_append [] ys h k = k
bytes_append (x ∷ xs) ys h k = (h.0, bytes_append xs ys h.1 k)

octet_word : (n : ℕ) → n < 256 → IsWord (decimal n)
octet_word n small = numeral_word 10 (decimal n) (omega arith) (decimal_shape n (omega arith))

group_word : (n : ℕ) → n < 2 ^ 16 → IsWord (group_text n)
group_word n small = numeral_word 16 (group_text n) (omega arith) (group_shape n small)

marked : (mark : ℕ) → 32 < mark → (word rest : List ℕ) → IsWord word → IsWord rest → IsWord (word ++ mark ∷ rest)
marked mark printed word rest w r = record {
  some = omega (arith, length-append word (mark ∷ rest), w.some);
  bytes = bytes_append word (mark ∷ rest) w.bytes (printed, r.bytes);
}

groups_word : (n : ℕ) (groups : List ℕ) → AllByRecursion (λ k. k < 2 ^ 16) (n ∷ groups) → IsWord (join_with_byte colon (map group_text (n ∷ groups)))
groups_word n [] h = group_word n h.0
groups_word n (k ∷ groups) h =
    marked colon (omega arith) (group_text n) (join_with_byte colon (map group_text (k ∷ groups))) (group_word n h.0) (groups_word k groups h.1)

v4_word : (n : ℕ) → IsWord (addr_text (V4 n))
unfolding addr_text
v4_word n =
    let a = n / 16777216 % 256 in
    let b = n / 65536 % 256 in
    let c = n / 256 % 256 in
    let d = n % 256 in
    let last = octet_word d (omega arith) in
    let third = marked dot (omega arith) (decimal c) (decimal d) (octet_word c (omega arith)) last in
    let second = marked dot (omega arith) (decimal b) (decimal c ++ dot ∷ decimal d) (octet_word b (omega arith)) third in
    marked dot (omega arith) (decimal a) (decimal b ++ dot ∷ (decimal c ++ dot ∷ decimal d)) (octet_word a (omega arith)) second

v6_word : (n : ℕ) → IsWord (addr_text (V6 n))
unfolding addr_text
v6_word n =
    let high = n / 2 ^ 64 in
    let low = n % 2 ^ 64 in
    groups_word (high / 2 ^ 48 % 2 ^ 16)
    (high / 2 ^ 32 % 2 ^ 16 ∷ high / 2 ^ 16 % 2 ^ 16 ∷ high % 2 ^ 16 ∷ low / 2 ^ 48 % 2 ^ 16 ∷ low / 2 ^ 32 % 2 ^ 16 ∷ low / 2 ^ 16 % 2 ^ 16 ∷ low % 2 ^ 16 ∷ [])
    (omega arith, (omega arith, (omega arith, (omega arith, (omega arith, (omega arith, (omega arith, (omega arith, tt))))))))

pub addr_word : (addr : Addr) → IsWord (addr_text addr)
addr_word (V4 n) = v4_word n
addr_word (V6 n) = v6_word n

-- ---- parts of a row

ends_again : (l : Link) → addr_in (addr_text l.from) ≡ Some l.from → addr_in (addr_text l.to) ≡ Some l.to
    → addr_in (addr_text l.near) ≡ Some l.near → addr_in (addr_text l.far) ≡ Some l.far
    → (rest : List (List ℕ)) → ends_in (ends_words l ++ rest) ≡ Some (ends_of l, rest)
unfolding ends_in
ends_again l from to near far rest = rw (from, to, near, far) refl

pub spells_ends : (l : Link) → addr_in (addr_text l.from) ≡ Some l.from → addr_in (addr_text l.to) ≡ Some l.to
    → addr_in (addr_text l.near) ≡ Some l.near → addr_in (addr_text l.far) ≡ Some l.far → SpellsEnds l
spells_ends l from to near far = record {
  words = (addr_word l.from, (addr_word l.to, (addr_word l.near, (addr_word l.far, tt))));
  again = ends_again l from to near far;
}

traits_again : (l : Link) → number_32 (decimal l.igp) ≡ Some l.igp → number_32 (decimal l.te) ≡ Some l.te
    → number_64 (decimal l.bytes_per_second) ≡ Some l.bytes_per_second → colour_in (colour_text l.colour) ≡ Some l.colour
    → (rest : List (List ℕ)) → traits_in (traits_words l ++ rest) ≡ Some (traits_of l, rest)
unfolding traits_in
traits_again l igp te bandwidth colour rest = rw (igp, te, bandwidth, colour) refl

pub spells_traits : (l : Link) → number_32 (decimal l.igp) ≡ Some l.igp → number_32 (decimal l.te) ≡ Some l.te
    → number_64 (decimal l.bytes_per_second) ≡ Some l.bytes_per_second → colour_in (colour_text l.colour) ≡ Some l.colour → SpellsTraits l
spells_traits l igp te bandwidth colour = record {
  words = (
    number_word (2 ^ 32 - 1) l.igp (decimal l.igp) igp,
    (
      number_word (2 ^ 32 - 1) l.te (decimal l.te) te,
      (number_word (2 ^ 64 - 1) l.bytes_per_second (decimal l.bytes_per_second) bandwidth, (colour_word l.colour (colour_text l.colour) colour, tt)),
    ),
  );
  again = traits_again l igp te bandwidth colour;
}

pub spells_srlgs : (srlgs : List ℕ) → AllByRecursion (λ n. number_32 (decimal n) ≡ Some n) srlgs → SpellsSrlgs srlgs
spells_srlgs [] h = record { words = tt; again = refl }
spells_srlgs (n ∷ srlgs) h =
    let others = spells_srlgs srlgs h.1 in
    record { words = (number_word (2 ^ 32 - 1) n (decimal n) h.0, others.words); again = rw (h.0, others.again) refl }
