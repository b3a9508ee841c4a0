-- Words that are names of files, and rows of border tables in front of those that are still to be read.
use Rattle.std.proofs.Common.{◌≡◌, ℕ, List, [], ◌∷◌, ◌++◌, Option, Some, None, refl, sym, ap, append_assoc, inl, inr}
use Rattle.std.proofs.lemmas.Bool.{cases_Bool}
use Rattle.std.proofs.lemmas.List.{append-nil}
use Rattle.std.proofs.lemmas.Str.{IsUtf8-from_is_utf8, is_utf8-from_IsUtf8}
use Rattle.std.specs.Str.{IsUtf8, is_utf8}
use Rattle.dom_base.specs.declared.border.BorderRow.{BorderRow}
use Rattle.plant_text.specs.Lines.{file_in, rows_in, with_row}

pub file_is : (word : List ℕ) → IsUtf8 word → file_in word ≡ Some word
file_is word is = rw (is_utf8-from_IsUtf8 word is) refl

pub no_file : (word : List ℕ) → ¬ IsUtf8 word → file_in word ≡ None
no_file word never =
    elim (cases_Bool (is_utf8 word)) [
      | inl t ↦ absurd (never (IsUtf8-from_is_utf8 word t))
      | inr f ↦ rw f refl
    ]

-- rows in front of those that are still to be read
abbrev pub in_front : List BorderRow → Option (List BorderRow) → Option (List BorderRow)
in_front done (Some rows) = Some (done ++ rows)
in_front done None = None

pub nothing_in_front : (rows : Option (List BorderRow)) → in_front [] rows ≡ rows
nothing_in_front (Some rows) = refl
nothing_in_front None = refl

pub one_more : (done : List BorderRow) (row : BorderRow) (others : Option (List BorderRow)) → in_front done (with_row row others) ≡ in_front (done ++ row ∷ []) others
one_more done row (Some rows) = ap (λ (rs : List BorderRow). Some rs) (sym (append_assoc done (row ∷ []) rows))
one_more done row None = refl

pub all_read : (done : List BorderRow) → in_front done (rows_in []) ≡ Some done
all_read done = ap (λ (rs : List BorderRow). Some rs) (append-nil done)
