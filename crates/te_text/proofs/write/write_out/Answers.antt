use Rattle.std.proofs.Common.{ℕ, List, [], ◌∷◌, ◌++◌, ◌-◌, ◌^◌, map, decimal, ap, ◌∙◌, arith}
use Rattle.te_links.specs.declared.fault.RowKind.TheVariants as kinds
use Rattle.te_text.specs.RowText.{kind_word}
use Rattle.te_text.specs.TopologyText.{ends_words, traits_words}
use Rattle.te_text.specs.Spelled.{spaced}
use Rattle.te_text.proofs.RowSpelling.{out_written, four_parts}
use Rattle.te_text.proofs.write.write_out.Goals as goal

pub returns-clause-ok : goal.returns-clause-ok
returns-clause-ok c =
    let o = c.args.out.now in
    let srlgs = map decimal o.link.srlgs in
    c.in_ok-push.ensures.items
    ∙ ap (λ (v : List ℕ). v ++ 10 ∷ []) (rw c.as_slice.ensures at c.in_ok-push_srlgs.ensures.ok
    ∙ ap (λ (v : List ℕ). v ++ spaced srlgs) (c.in_ok-push_traits.ensures.ok
    ∙ ap (λ (v : List ℕ). v ++ spaced (traits_words o.link)) (rw c.from.ensures at c.in_ok-push_number.ensures.ok
    ∙ ap (λ (v : List ℕ). v ++ 32 ∷ decimal o.to_as.0) (c.in_ok-push_ends.ensures.ok
    ∙ ap (λ (v : List ℕ). v ++ spaced (ends_words o.link)) c.in_ok-extend_from_slice.ensures.items))))
    ∙ four_parts c.args.into.now.items (kind_word kinds.Out) (ends_words o.link) (decimal o.to_as.0) (traits_words o.link) srlgs

pub returns-clause-again : goal.returns-clause-again
returns-clause-again c =
    out_written c.args.out.now (rw c.from.ensures at (c.in_ok-push_number.ensures.again (2 ^ 16 - 1) (omega arith)))
    c.in_ok-push_ends.ensures.again c.in_ok-push_traits.ensures.again (rw c.as_slice.ensures at c.in_ok-push_srlgs.ensures.again)
