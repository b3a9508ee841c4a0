-- Changes that are made one after the other.
use Rattle.std.proofs.Common.{◌≡◌, ℕ, zero, suc, ◌+◌, not, Bool, true, false, List, [], ◌∷◌, ◌++◌, take, Some, None, slice_get, refl, sym, ◌∙◌, ap, subst, inl, inr, arith}
use Rattle.std.proofs.lemmas.Bool.{cases_lt}
use Rattle.te_links.specs.Rows.{Rows}
use Rattle.te_text.specs.declared.row.TextRow.{TextRow}
use Rattle.te_text.specs.TopologyText.{rows_in_order}
use Rattle.te_deltas.specs.declared.changes.Change.{Change}
use Rattle.te_deltas.specs.declared.changes.Change.TheVariants.{AddNode, DropNode, AddLink, DropLink, AddOut, DropOut, AddEntry, DropEntry}
use Rattle.te_deltas.specs.Changes.{IsFirstMistake, NoneBefore, changed, is_mistake, rows_after}
use Rattle.te_deltas.specs.Answers.{IsWhy, mistake}

rows_after_push : (list : List TextRow) (changes : List Change) (change : Change) → rows_after list (changes ++ change ∷ []) ≡ changed (rows_after list changes) change
rows_after_push list [] change = refl
rows_after_push list (one ∷ changes) change = rows_after_push (changed list one) changes change

take_push : (changes : List Change) (i : ℕ) (change : Change) → slice_get changes i ≡ Some change → take (suc i) changes ≡ take i changes ++ change ∷ []
take_push [] i change at = absurd (let none : None ≡ Some change = at in cc)
take_push (one ∷ changes) zero change at = let same : Some one ≡ Some change = at in let is : one ≡ change = cc in ap (λ c. c ∷ []) is
take_push (one ∷ changes) (suc i) change at = ap (λ r. one ∷ r) (take_push changes i change at)

pub rows_more : (list : List TextRow) (changes : List Change) (i : ℕ) (change : Change) → slice_get changes i ≡ Some change → rows_after list (take (i + 1) changes) ≡ changed (rows_after list (take i changes)) change
rows_more list changes i change at =
    let one : i + 1 ≡ suc i = omega arith in
    ap (λ (k : ℕ). rows_after list (take k changes)) one ∙ ap (rows_after list) (take_push changes i change at) ∙ rows_after_push list (take i changes) change

pub none_more : (list : List TextRow) (changes : List Change) (i : ℕ) (change : Change) → NoneBefore list changes i → slice_get changes i ≡ Some change → is_mistake (rows_after list (take i changes)) change ≡ false →
    NoneBefore list changes (i + 1)
none_more list changes i change before at good j other below found =
    elim (cases_lt j i) [
      | inl lt ↦ before j other lt found
      | inr ge ↦
          let last : i ≡ j = omega (arith, ge, below) in
          let both : Some change ≡ Some other = sym at ∙ ap (slice_get changes) last ∙ found in
          let same : change ≡ other = cc in
          subst (λ (k : ℕ). is_mistake (rows_after list (take k changes)) other ≡ false) last (subst (λ (c : Change). is_mistake (rows_after list (take i changes)) c ≡ false) same good)
    ]

-- the first mistake, under its name, is why no topology is made
pub why_first : (g : Rows) (changes : List Change) (i : ℕ) (change : Change) → IsFirstMistake (rows_in_order g) changes i change → IsWhy g changes (mistake change i)
why_first g changes i (AddNode n) first = (AddNode n, first, refl)
why_first g changes i (AddLink l) first = (AddLink l, first, refl)
why_first g changes i (AddOut o) first = (AddOut o, first, refl)
why_first g changes i (AddEntry e) first = (AddEntry e, first, refl)
why_first g changes i (DropNode n) first = (DropNode n, first, refl)
why_first g changes i (DropLink far) first = (DropLink far, first, refl)
why_first g changes i (DropOut far) first = (DropOut far, first, refl)
why_first g changes i (DropEntry e) first = (DropEntry e, first, refl)

pub not_false : (b made : Bool) → made ≡ not b → made ≡ true → b ≡ false
not_false true made is yes_made = absurd (let no : true ≡ false = sym yes_made ∙ is in cc)
not_false false made is yes_made = refl

pub not_true : (b made : Bool) → made ≡ not b → made ≡ false → b ≡ true
not_true true made is unmade = refl
not_true false made is unmade = absurd (let no : false ≡ true = sym unmade ∙ is in cc)
