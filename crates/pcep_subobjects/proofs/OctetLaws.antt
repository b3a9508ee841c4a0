-- What is written of numbers, addresses, hops and exclusions is octets.
use Rattle.std.proofs.Common.{◌<◌, ◌+◌, ◌/◌, ◌%◌, ◌^◌, ℕ, Bool, true, false, List, [], ◌∷◌, ◌++◌, length, arith, lit<}
use Rattle.std.specs.List.{flat_map, AllByRecursion}
use Rattle.std.specs.Int.{w16, w32, w128, to_be_bytes}
use Rattle.std.proofs.lemmas.List.Elements.{All-nil, All-cons, All-append}
use Rattle.dom_base.specs.declared.addr.Addr.{Addr}
use Rattle.dom_base.specs.declared.addr.Addr.TheVariants.{V4, V6}
use Rattle.dom_base.specs.declared.query.Exclusion.{Exclusion}
use Rattle.dom_base.specs.declared.query.Excluded.{Excluded}
use Rattle.dom_base.specs.declared.query.Excluded.TheVariants as excluded
use Rattle.pcep_subobjects.specs.declared.hop.Hop.{Hop}
use Rattle.pcep_subobjects.specs.declared.hop.Hop.TheVariants as hops
use Rattle.pcep_subobjects.specs.Addresses.{addr_octets}
use Rattle.pcep_subobjects.specs.Subobjects.{AreOctets, first_octet}
use Rattle.pcep_subobjects.specs.Hops.{hop_text, IsWritten}
use Rattle.pcep_subobjects.specs.Exclusions.{exclusion_text}
use Rattle.pcep_subobjects.specs.Exclusions as exclusions

-- octets, as a record
pub record IsOctets (bytes : List ℕ) : Type 0 where
  pub all : AreOctets bytes

pub none : IsOctets []
none = record { all = All-nil (λ (b : ℕ). b < 256) }

pub one_more : (b : ℕ) (bytes : List ℕ) → b < 256 → IsOctets bytes → IsOctets (b ∷ bytes)
one_more b bytes lt rest = record { all = All-cons (λ (b : ℕ). b < 256) b bytes lt rest.all }

pub joined : (xs ys : List ℕ) → IsOctets xs → IsOctets ys → IsOctets (xs ++ ys)
joined xs ys a b = record { all = All-append (λ (b : ℕ). b < 256) xs ys a.all b.all }

octet : (n : ℕ) → n % 256 < 256
octet n = omega arith

pub half_octets : (n : ℕ) → IsOctets (to_be_bytes w16 n)
half_octets n = one_more _ _ (octet (n / 256)) (one_more _ [] (octet n) none)

pub word_octets : (n : ℕ) → IsOctets (to_be_bytes w32 n)
word_octets n = one_more _ _ (octet (n / 16777216)) (one_more _ _ (octet (n / 65536)) (one_more _ _ (octet (n / 256)) (one_more _ [] (octet n) none)))

pub wide_octets : (n : ℕ) → IsOctets (to_be_bytes w128 n)
wide_octets n =
    one_more _ _ (octet (n / 2 ^ 120)) (one_more _ _ (octet (n / 2 ^ 112)) (one_more _ _ (octet (n / 2 ^ 104)) (one_more _ _ (octet (n / 2 ^ 96))
    (one_more _ _ (octet (n / 2 ^ 88)) (one_more _ _ (octet (n / 2 ^ 80)) (one_more _ _ (octet (n / 2 ^ 72)) (one_more _ _ (octet (n / 2 ^ 64))
    (one_more _ _ (octet (n / 2 ^ 56)) (one_more _ _ (octet (n / 2 ^ 48)) (one_more _ _ (octet (n / 2 ^ 40)) (one_more _ _ (octet (n / 2 ^ 32))
    (one_more _ _ (octet (n / 2 ^ 24)) (one_more _ _ (octet (n / 2 ^ 16)) (one_more _ _ (octet (n / 2 ^ 8)) (one_more _ [] (octet n) none)))))))))))))))

pub addr_is_octets : (a : Addr) → IsOctets (addr_octets a)
addr_is_octets (V4 n) = word_octets n
addr_is_octets (V6 n) = wide_octets n

pub all_octets : {X : Type 0} (text : X → List ℕ) (P : X → Type 0) → ((x : X) → P x → IsOctets (text x)) → (xs : List X) → AllByRecursion P xs → IsOctets (flat_map text xs)
all_octets text P each [] all = none
all_octets text P each (x ∷ xs) all = joined (text x) (flat_map text xs) (each x all.0) (all_octets text P each xs all.1)

pub two : (a b : ℕ) → a < 256 → b < 256 → IsOctets (a ∷ b ∷ [])
two a b p q = one_more a (b ∷ []) p (one_more b [] q none)

pub four : (a b c d : ℕ) → a < 256 → b < 256 → c < 256 → d < 256 → IsOctets (a ∷ b ∷ c ∷ d ∷ [])
four a b c d p q r s = one_more a _ p (one_more b _ q (two c d r s))

first_fits : (bit : Bool) (kind : ℕ) → kind < 128 → first_octet bit kind < 256
first_fits true kind lt = omega arith
first_fits false kind lt = omega arith

pub hop_octets : (h : Hop) → IsWritten h → IsOctets (hop_text h)
hop_octets (hops.Prefix loose (V4 n) len) h = one_more 1 _ (lit< tt) (one_more 8 _ (lit< tt) (joined (to_be_bytes w32 n) (32 ∷ 0 ∷ []) (word_octets n) (two 32 0 (lit< tt) (lit< tt))))
hop_octets (hops.Prefix loose (V6 n) len) h = one_more 2 _ (lit< tt) (one_more 20 _ (lit< tt) (joined (to_be_bytes w128 n) (128 ∷ 0 ∷ []) (wide_octets n) (two 128 0 (lit< tt) (lit< tt))))
hop_octets (hops.AsNumber loose number) h = one_more (first_octet loose 32) _ (first_fits loose 32 (lit< tt)) (one_more 4 _ (lit< tt) (half_octets number.0))
hop_octets (hops.Key loose key (V4 n)) h =
    one_more (first_octet loose 64) _ (first_fits loose 64 (lit< tt)) (one_more 8 _ (lit< tt) (joined (to_be_bytes w16 key) (to_be_bytes w32 n) (half_octets key) (word_octets n)))
hop_octets (hops.Key loose key (V6 n)) h =
    one_more (first_octet loose 65) _ (first_fits loose 65 (lit< tt)) (one_more 20 _ (lit< tt) (joined (to_be_bytes w16 key) (to_be_bytes w128 n) (half_octets key) (wide_octets n)))
hop_octets (hops.Other loose kind body) h =
    one_more (first_octet loose (kind % 128)) _ (first_fits loose (kind % 128) (omega arith)) (one_more ((length body + 2) % 256) _ (octet (length body + 2)) (record { all = h.1.4 }))

excluded_octets : (avoid : Bool) (what : Excluded) → (let e : Exclusion = record { avoid = avoid; what = what } in exclusions.IsWritten e)
    → (let e : Exclusion = record { avoid = avoid; what = what } in IsOctets (exclusion_text e))
excluded_octets avoid (excluded.Prefix (V4 n) len attribute) h =
    one_more (first_octet avoid 1) _ (first_fits avoid 1 (lit< tt)) (one_more 8 _ (lit< tt) (joined (to_be_bytes w32 n) (len ∷ attribute ∷ []) (word_octets n) (two len attribute h.1 h.2)))
excluded_octets avoid (excluded.Prefix (V6 n) len attribute) h =
    one_more (first_octet avoid 2) _ (first_fits avoid 2 (lit< tt)) (one_more 20 _ (lit< tt) (joined (to_be_bytes w128 n) (len ∷ attribute ∷ []) (wide_octets n) (two len attribute h.1 h.2)))
excluded_octets avoid (excluded.AsNumber number) h = one_more (first_octet avoid 32) _ (first_fits avoid 32 (lit< tt)) (one_more 4 _ (lit< tt) (half_octets number.0))
excluded_octets avoid (excluded.Srlg number) h =
    one_more (first_octet avoid 34) _ (first_fits avoid 34 (lit< tt)) (one_more 8 _ (lit< tt) (joined (to_be_bytes w32 number) (0 ∷ 2 ∷ []) (word_octets number) (two 0 2 (lit< tt) (lit< tt))))
excluded_octets avoid (excluded.Other kind body) h =
    one_more (first_octet avoid (kind % 128)) _ (first_fits avoid (kind % 128) (omega arith)) (one_more ((length body + 2) % 256) _ (octet (length body + 2)) (record { all = h.1.4 }))

pub exclusion_octets : (e : Exclusion) → exclusions.IsWritten e → IsOctets (exclusion_text e)
exclusion_octets e h = excluded_octets e.avoid e.what h
