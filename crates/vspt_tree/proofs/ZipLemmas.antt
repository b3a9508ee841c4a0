-- Rows and their parts, taken together one after another.
use Rattle.std.proofs.Common.{◌≡◌, ◌<◌, ◌≤◌, ◌+◌, ℕ, List, [], ◌∷◌, ◌++◌, length, take, get_or, min, arith}
use Rattle.std.specs.List.{AllZip, zip}
use Rattle.std.proofs.lemmas.List.{take_more, take_all}
use Rattle.std.proofs.lemmas.Slice.Zip.{all_zipped_more, length-zip, get_or-zip}

-- one more row with its part
pub parts_more : {A B C : Type 0} (R : A × B → C → Type 0) (rows : List A) (parts : List B) (made : List C) (i : ℕ) (row : A) (part : B) (next : C) →
    i < length rows → i < length parts → row ≡ get_or rows i row → part ≡ get_or parts i part →
    AllZip R (take i (zip rows parts)) made → R (row, part) next → AllZip R (take (i + 1) (zip rows parts)) (made ++ next ∷ [])
parts_more {A} {B} R rows parts made i row part next in_rows in_parts at_row at_part so_far here =
    let within : i < length (zip rows parts) = omega (arith, length-zip rows parts) in
    let both : get_or (zip rows parts) i (row, part) ≡ (row, part) = rw (get_or-zip rows parts i (row, part) in_rows in_parts, ← at_row, ← at_part) in
    rw (take_more (zip rows parts) i (row, part) within, both) (all_zipped_more R (take i (zip rows parts)) made (row, part) next so_far here)

-- all rows
pub parts_all : {A B C : Type 0} (R : A × B → C → Type 0) (rows : List A) (parts : List B) (made : List C) (i : ℕ) → i ≡ min (length rows) (length parts) → AllZip R (take i (zip rows parts)) made → AllZip R (zip rows parts) made
parts_all R rows parts made i end so_far =
    let long : length (zip rows parts) ≤ i = omega (arith, length-zip rows parts) in
    rw (take_all i (zip rows parts) long) at so_far
