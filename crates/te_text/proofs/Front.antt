-- Numbers in front of those that are still to be read.
use Rattle.std.proofs.Common.{◌≡◌, ℕ, List, [], ◌∷◌, ◌++◌, Option, Some, None, refl, sym, ap, append_assoc}
use Rattle.std.proofs.lemmas.List.{append-nil}
use Rattle.dom_base.specs.Steps.{◌>>=◌}
use Rattle.te_text.specs.RowText.{number_32, srlgs_in}

abbrev pub in_front : List ℕ → Option (List ℕ) → Option (List ℕ)
in_front done (Some numbers) = Some (done ++ numbers)
in_front done None = None

pub nothing_in_front : (numbers : Option (List ℕ)) → in_front [] numbers ≡ numbers
nothing_in_front (Some numbers) = refl
nothing_in_front None = refl

regroup : (done : List ℕ) (number : ℕ) (others : Option (List ℕ)) → in_front done (others >>= λ numbers. Some (number ∷ numbers)) ≡ in_front (done ++ number ∷ []) others
regroup done number (Some numbers) = ap (λ (ns : List ℕ). Some ns) (sym (append_assoc done (number ∷ []) numbers))
regroup done number None = refl

pub one_more : (done : List ℕ) (word : List ℕ) (words : List (List ℕ)) (number : ℕ) → number_32 word ≡ Some number
    → in_front done (srlgs_in (word ∷ words)) ≡ in_front (done ++ number ∷ []) (srlgs_in words)
one_more done word words number e = rw e (regroup done number (srlgs_in words))

pub no_number : (done : List ℕ) (word : List ℕ) (words : List (List ℕ)) → number_32 word ≡ None → in_front done (srlgs_in (word ∷ words)) ≡ None
no_number done word words e = rw e refl

pub all_read : (done : List ℕ) → in_front done (srlgs_in []) ≡ Some done
all_read done = ap (λ (ns : List ℕ). Some ns) (append-nil done)
