use Rattle.std.proofs.Common.{ℕ, ◌++◌, List, take, get_or, sym, ap, ◌∙◌}
use Rattle.std.proofs.lemmas.List.{flat_map_more, take_more}
use Rattle.std.proofs.lemmas.List.Elements.{All-more}
use Rattle.std.specs.List.{flat_map}
use Rattle.dom_base.specs.declared.addr.Addr.{Addr}
use Rattle.dom_base.specs.declared.addr.Addr.TheVariants.{V4}
use Rattle.line_text.specs.Spelling.{line_text}
use Rattle.diverse_pairs.specs.declared.pair_row.PairRow.TheVariants as rows
use Rattle.diverse_pairs.specs.PairText.{potential_words, IsWritten}
use Rattle.diverse_pairs.proofs.writing.write_potentials.Goals as goal

pub loop-row-preserved : goal.loop-row-preserved
loop-row-preserved c =
    let all = c.args.potentials.now in
    let start = c.args.into.now.items in
    let i = c.loop-row.row-index in
    let zero : Addr × ℕ = (V4 0, 0) in
    let row : Addr × ℕ = get_or all i zero in
    record {
      written = c.in_ok-write_potential.ensures.ok
          ∙ ap (λ (v : List ℕ). v ++ line_text (potential_words row)) c.loop-row.invariant.written
          ∙ flat_map_more (λ (r : Addr × ℕ). line_text (potential_words r)) start (take i all) row
          ∙ ap (λ (rs : List (Addr × ℕ)). start ++ flat_map (λ s. line_text (potential_words s)) rs) (sym (take_more all i zero c.loop-row-test.true));
      again = All-more (λ r. IsWritten (rows.At r.0 r.1)) all i zero c.loop-row-test.true c.loop-row.invariant.again c.in_ok-write_potential.ensures.again;
    }
