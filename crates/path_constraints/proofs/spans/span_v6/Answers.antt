use Rattle.std.proofs.Common.{◌∙◌, ◌+◌, ◌-◌, ◌^◌, ℕ, bit_and, min, ap}
use Rattle.std.proofs.lemmas.Nat.{and_mask}
use Rattle.path_constraints.proofs.SpanNumbers.{span_v6}
use Rattle.path_constraints.proofs.spans.span_v6.Goals as goal

pub returns : goal.returns
returns c =
    let p = c.args.prefix in
    span_v6 p c.args.length _ _ c.ranges.prefix.fits
    (ap (λ (rest : ℕ). p - bit_and p rest) c.open_bits_longer-open.ensures ∙ ap (λ (low : ℕ). p - low) (and_mask p (128 - c.args.length)))
    (c.saturating_add.ensures ∙ ap (λ (rest : ℕ). min ((p - bit_and p c.open_bits_longer-open.result) + rest) (2 ^ 128 - 1)) c.open_bits_longer-open.ensures)
