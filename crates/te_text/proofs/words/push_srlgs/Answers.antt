use Rattle.std.proofs.Common.{◌≡◌, ℕ, ◌-◌, ◌^◌, ◌∷◌, ◌++◌, [], List, Some, map, take, get_or, decimal, sym, ap, ◌∙◌, arith}
use Rattle.std.proofs.lemmas.List.{flat_map_more, map_more, take_all}
use Rattle.std.proofs.lemmas.List.Elements.{All-more, recursion_from_All}
use Rattle.te_text.specs.RowText.{number_32}
use Rattle.te_text.specs.Spelled.{spaced}
use Rattle.te_text.proofs.Spelling.{spells_srlgs}
use Rattle.te_text.proofs.words.push_srlgs.Goals as goal

pub loop-number-preserved : goal.loop-number-preserved
loop-number-preserved c =
    let srlgs = c.args.srlgs.now in
    let i = c.loop-number.number-index in
    let n = get_or srlgs i 0 in
    let again = rw c.from.ensures at (c.in_ok-push_number.ensures.again (2 ^ 32 - 1) (omega arith)) in
    record {
      written = c.in_ok-push_number.ensures.ok
          ∙ ap (λ (v : List ℕ). v ++ 32 ∷ decimal c.from.result) c.loop-number.invariant.written
          ∙ flat_map_more (λ (word : List ℕ). 32 ∷ word) c.args.into.now.items (map decimal (take i srlgs)) (decimal c.from.result)
          ∙ ap (λ (words : List (List ℕ)). c.args.into.now.items ++ spaced words) (ap (λ (n : ℕ). map decimal (take i srlgs) ++ decimal n ∷ []) c.from.ensures ∙ sym (map_more decimal srlgs i 0 (omega arith)));
      again = All-more (λ n. number_32 (decimal n) ≡ Some n) srlgs i 0 (omega arith) c.loop-number.invariant.again again;
    }

pub returns-clause-again : goal.returns-clause-again
returns-clause-again c =
    let srlgs = c.args.srlgs.now in
    spells_srlgs srlgs (recursion_from_All (λ n. number_32 (decimal n) ≡ Some n) srlgs (rw (take_all c.loop-number.number-index srlgs (omega arith)) at c.loop-number.invariant.again))
