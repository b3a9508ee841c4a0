-- The changes that lines say, one line further.
use Rattle.std.proofs.Common.{◌≡◌, List, [], ◌∷◌, ◌++◌, Result, Ok, Err, refl, sym, ◌∙◌, ap, append_assoc}
use Rattle.std.proofs.lemmas.List.{append-nil}
use Rattle.line_text.specs.Lines.{NumberedLine}
use Rattle.te_text.specs.declared.error.TextError.{TextError}
use Rattle.te_text.specs.declared.error.TextError.TheVariants.{At, NoMemory}
use Rattle.te_text.specs.Given.{GivesText}
use Rattle.te_text.specs.Reading.{and_then}
use Rattle.te_deltas.specs.declared.changes.Change.{Change}
use Rattle.te_deltas.specs.ChangeText.{change_at, changes_in}

abbrev pub further : List Change → Result (List Change) TextError → Result (List Change) TextError
further done left = and_then left (λ others. Ok (done ++ others))

pub none_further : (left : Result (List Change) TextError) → further [] left ≡ left
none_further (Ok others) = refl
none_further (Err why) = refl

moves : (done : List Change) (change : Change) (left : Result (List Change) TextError) → further done (and_then left (λ others. Ok (change ∷ others))) ≡ further (done ++ change ∷ []) left
moves done change (Ok others) = ap (λ (l : List Change). let r : Result (List Change) TextError = Ok l in r) (sym (append_assoc done (change ∷ []) others))
moves done change (Err why) = refl

pub goes_on : (done : List Change) (line : NumberedLine) (lines : List NumberedLine) (change : Change) → change_at line ≡ Ok change → further done (changes_in (line ∷ lines)) ≡ further (done ++ change ∷ []) (changes_in lines)
unfolding changes_in
goes_on done line lines change is =
    ap (λ (r : Result Change TextError). further done (and_then r (λ c. and_then (changes_in lines) (λ others. Ok (c ∷ others))))) is ∙ moves done change (changes_in lines)

pub ends : (done : List Change) → further done (changes_in []) ≡ Ok done
unfolding changes_in
ends done = ap (λ (l : List Change). let r : Result (List Change) TextError = Ok l in r) (append-nil done)

pub stays : (done : List Change) (line : NumberedLine) (lines : List NumberedLine) (why : TextError) → GivesText {X = Change} (Err why) (change_at line) → GivesText {X = List Change} (Err why) (further done (changes_in (line ∷ lines)))
unfolding changes_in
stays done line lines (At n fault) is = ap (λ (r : Result Change TextError). further done (and_then r (λ c. and_then (changes_in lines) (λ others. Ok (c ∷ others))))) is
stays done line lines NoMemory is = tt
