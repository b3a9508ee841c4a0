use Rattle.std.proofs.Common.{ℕ, Bool, sym, ◌∙◌, ap, eqb, List, take, ◌∷◌, ◌+◌}
use Rattle.std.specs.List.{slice_split}
use Rattle.std.proofs.lemmas.List.{take_rest}
use Rattle.dom_base.proofs.Cuts.{uncut, cut_at}
use Rattle.dom_base.proofs.addr_text.cut_at.Goals as goal

pub returns-in_err-place : goal.returns-in_err-place
returns-in_err-place c = rw c.from_residual.ensures (uncut (λ (k : ℕ). eqb k c.args.mark) c.args.word.now (sym c.in_err-place.ensures))

pub returns : goal.returns
returns c =
    let is_mark : ℕ → Bool = λ k. eqb k c.args.mark in
    let cut = cut_at is_mark c.args.word.now c.in_ok-place.place 0 (sym c.in_ok-place.ensures) in
    cut.parts ∙ ap (λ (rest : List ℕ). take c.in_ok-place.place c.args.word.now ∷ slice_split is_mark rest) (sym (take_rest c.args.word.now (c.in_ok-place.place + 1)))
