use Rattle.std.proofs.Common.{ℕ, List, [], ◌∷◌, ◌++◌, map, decimal, ap, ◌∙◌}
use Rattle.te_links.specs.declared.fault.RowKind.TheVariants as kinds
use Rattle.te_text.specs.RowText.{kind_word}
use Rattle.te_text.specs.TopologyText.{ends_words, traits_words}
use Rattle.te_text.specs.Spelled.{spaced}
use Rattle.te_text.proofs.RowSpelling.{link_written, three_parts}
use Rattle.te_text.proofs.write.write_link.Goals as goal

pub returns-clause-ok : goal.returns-clause-ok
returns-clause-ok c =
    let l = c.args.link.now in
    let srlgs = map decimal l.srlgs in
    c.in_ok-push.ensures.items
    ∙ ap (λ (v : List ℕ). v ++ 10 ∷ []) (rw c.as_slice.ensures at c.in_ok-push_srlgs.ensures.ok
    ∙ ap (λ (v : List ℕ). v ++ spaced srlgs) (c.in_ok-push_traits.ensures.ok
    ∙ ap (λ (v : List ℕ). v ++ spaced (traits_words l)) (c.in_ok-push_ends.ensures.ok
    ∙ ap (λ (v : List ℕ). v ++ spaced (ends_words l)) c.in_ok-extend_from_slice.ensures.items)))
    ∙ three_parts c.args.into.now.items (kind_word kinds.Link) (ends_words l) (traits_words l) srlgs

pub returns-clause-again : goal.returns-clause-again
returns-clause-again c =
    link_written c.args.link.now c.in_ok-push_ends.ensures.again c.in_ok-push_traits.ensures.again (rw c.as_slice.ensures at c.in_ok-push_srlgs.ensures.again)
