use Rattle.std.proofs.Common.{List, ℕ, [], ◌∷◌, ◌++◌, map, ap, ◌∙◌}
use Rattle.dom_base.specs.AddrText.{addr_text}
use Rattle.path_certificate.specs.CertificateText.{spaced}
use Rattle.diverse_pairs.specs.RowText.{first_word}
use Rattle.diverse_pairs.proofs.RowSpelling.{spelled}
use Rattle.diverse_pairs.proofs.writing.write_first.Goals as goal

pub returns-clause-ok : goal.returns-clause-ok
returns-clause-ok c =
    c.in_ok-end_line.ensures.ok
    ∙ ap (λ (v : List ℕ). v ++ (spaced (map addr_text c.args.addrs.now) ++ 10 ∷ [])) c.in_ok-extend_from_slice.ensures.items
    ∙ spelled c.args.into.now.items first_word (map addr_text c.args.addrs.now)
