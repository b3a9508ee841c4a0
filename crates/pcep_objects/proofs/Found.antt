-- Looking through TLVs from left to right.
use Rattle.std.proofs.Common.{◌≡◌, ℕ, ◌+◌, ◌≤◌, List, [], ◌∷◌, length, drop, Option, Some, None, Result, Ok, Err, refl, sym, ap, ◌∙◌}
use Rattle.std.specs.Option.{option_or}
use Rattle.dom_base.specs.Parts.{parts_from, with_front}
use Rattle.dom_base.proofs.Parts.{goes_on, stops, ends, front_nil}
use Rattle.pcep_objects.specs.declared.object.TlvFault.TheVariants.{PastEnd}
use Rattle.pcep_objects.specs.Tlvs.{Tlv, tlv_at, word_here, first_word, word_among}
use Rattle.pcep_objects.specs.declared.object.TlvFault.{TlvFault}

-- what was found before counts
abbrev pub found_before : Option ℕ → Result (Option ℕ) TlvFault → Result (Option ℕ) TlvFault
found_before (Some n) (Ok o) = Ok (Some n)
found_before None (Ok o) = Ok o
found_before found (Err e) = Err e

both : (found : Option ℕ) (kind : ℕ) (t : Tlv) (r : Result (List Tlv) TlvFault) → found_before found (word_among kind (with_front (t ∷ []) r)) ≡ found_before (option_or found (word_here kind t)) (word_among kind r)
both found kind t (Ok ts) = merge found (word_here kind t) (first_word kind ts)
  where
    merge : (a b c : Option ℕ) → found_before a (Ok (option_or b c)) ≡ found_before (option_or a b) (Ok c)
    merge (Some n) b c = refl
    merge None (Some n) c = refl
    merge None None c = refl
both (Some n) kind t (Err e) = refl
both None kind t (Err e) = stays (word_here kind t) e
  where
    stays : (o : Option ℕ) (e : TlvFault) → found_before None (Err e) ≡ found_before o (Err e)
    stays (Some n) e = refl
    stays None e = refl

-- a TLV is passed
pub passes_tlv : (found : Option ℕ) (kind place : ℕ) (bytes : List ℕ) (t : Tlv) (len : ℕ) → 1 ≤ len → len ≤ length bytes → tlv_at bytes ≡ Ok (t, len)
    → found_before found (word_among kind (parts_from tlv_at place 0 bytes)) ≡ found_before (option_or found (word_here kind t)) (word_among kind (parts_from tlv_at (place + len) 0 (drop len bytes)))
passes_tlv found kind place bytes t len some within e =
    let one : parts_from tlv_at place 0 bytes ≡ with_front (t ∷ []) (parts_from tlv_at (place + len) 0 (drop len bytes)) = sym (front_nil (parts_from tlv_at place 0 bytes)) ∙ goes_on tlv_at [] place bytes t len some within e in
    ap (λ r. found_before found (word_among kind r)) one ∙ both found kind t (parts_from tlv_at (place + len) 0 (drop len bytes))

-- no TLV stands here
pub stops_tlv : (found : Option ℕ) (kind place : ℕ) (bytes : List ℕ) → 1 ≤ length bytes → tlv_at bytes ≡ Err (λ _. PastEnd) → found_before found (word_among kind (parts_from tlv_at place 0 bytes)) ≡ Err PastEnd
stops_tlv found kind place bytes some e =
    let one : parts_from tlv_at place 0 bytes ≡ Err PastEnd = sym (front_nil (parts_from tlv_at place 0 bytes)) ∙ stops tlv_at [] place bytes (λ _. PastEnd) some e in
    ap (λ r. found_before found (word_among kind r)) one ∙ failed found
  where
    failed : (o : Option ℕ) → found_before o (Err PastEnd) ≡ Err PastEnd
    failed (Some n) = refl
    failed None = refl

pub ends_tlvs : (found : Option ℕ) (kind place : ℕ) (bytes : List ℕ) → length bytes ≡ 0 → found_before found (word_among kind (parts_from tlv_at place 0 bytes)) ≡ Ok found
ends_tlvs found kind place bytes e =
    let one : parts_from tlv_at place 0 bytes ≡ Ok [] = sym (front_nil (parts_from tlv_at place 0 bytes)) ∙ ends tlv_at [] place bytes e in
    ap (λ r. found_before found (word_among kind r)) one ∙ nothing_more found
  where
    nothing_more : (o : Option ℕ) → found_before o (Ok None) ≡ Ok o
    nothing_more (Some n) = refl
    nothing_more None = refl

abbrev failure : TlvFault → Result (Option ℕ) TlvFault
failure e = Err e

pub only_fault : (e : TlvFault) → failure e ≡ failure PastEnd
only_fault PastEnd = refl
