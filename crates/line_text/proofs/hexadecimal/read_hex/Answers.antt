use Rattle.std.proofs.Common.{◌≡◌, sym, ◌∙◌, false}
use Rattle.line_text.specs.Hexadecimal.{is_blank}
use Rattle.line_text.proofs.HexLaws.{blank_skipped, pair_read}
use Rattle.line_text.proofs.hexadecimal.read_hex.Goals as goal

pub loop-first-preserved-then-is_space : goal.loop-first-preserved-then-is_space
loop-first-preserved-then-is_space c =
    blank_skipped c.loop-first.bytes.items c.loop-first.rest.now c.in-Some.tail.now c.args.text.now c.in-Some.first c.loop-first.invariant c.in-Some.ensures
    (sym c.is_space.ensures ∙ c.if-is_space.true)

pub loop-first-preserved : goal.loop-first-preserved
loop-first-preserved c =
    let not_blank : is_blank c.in-Some.first ≡ false = sym c.is_space.ensures ∙ c.if-is_space.false in
    rw c.in_ok-push.ensures.items
    (pair_read c.loop-first.bytes.items c.loop-first.rest.now c.in-Some.tail.now c.in-Some-first_of.tail.now c.args.text.now c.in-Some.first c.in-Some-first_of.second c.in-Some-pair_of.byte
    c.loop-first.invariant c.in-Some.ensures c.in-Some-first_of.ensures not_blank (sym c.in-Some-pair_of.ensures))
