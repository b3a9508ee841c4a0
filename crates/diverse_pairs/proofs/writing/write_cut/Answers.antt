use Rattle.std.proofs.Common.{◌<◌, List, ℕ, [], ◌∷◌, ◌++◌, length, map, ap, ◌∙◌, rules}
use Rattle.dom_base.specs.AddrText.{addr_text}
use Rattle.path_certificate.specs.CertificateText.{spaced}
use Rattle.diverse_pairs.proofs.RowSpelling.{cut_spelled}
use Rattle.diverse_pairs.proofs.writing.write_cut.Goals as goal

pub returns-clause-ok : goal.returns-clause-ok
returns-clause-ok c =
    let some : 0 < length c.args.nodes.now = search rules in
    c.in_ok-end_line.ensures.ok
    ∙ ap (λ (v : List ℕ). v ++ (spaced (map addr_text c.args.nodes.now) ++ 10 ∷ [])) c.in_ok-extend_from_slice-2.ensures.items
    ∙ cut_spelled c.args.into.now.items c.args.nodes.now some
