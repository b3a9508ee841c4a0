use Rattle.std.proofs.Common.{List, ℕ, ◌++◌, ◌∷◌, [], ap, ◌∙◌, decimal}
use Rattle.line_text.specs.Hexadecimal.{hex_text}
use Rattle.transcript.specs.Lines.{name_of}
use Rattle.transcript.proofs.LineLemmas.{sent_parts}
use Rattle.transcript.proofs.lines.write_sent.Goals as goal

pub returns : goal.returns
returns c =
    let name = name_of c.args.peers.now c.args.to in
    c.in_ok-push.ensures.items
    ∙ ap (λ (v : List ℕ). v ++ 10 ∷ []) (c.in_ok-write_digits.ensures
    ∙ ap (λ (v : List ℕ). v ++ hex_text c.args.bytes.now) (c.in_ok-write_way.ensures
    ∙ ap (λ (v : List ℕ). v ++ decimal c.args.from.0 ++ 62 ∷ [] ++ name ++ 32 ∷ []) c.in_ok-write_head.ensures))
    ∙ sent_parts c.args.into.now.items c.args.line c.args.from name c.args.bytes.now
