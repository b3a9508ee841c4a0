use Rattle.std.proofs.Common.{List, ℕ, [], ◌∷◌, ◌++◌, map, ap, ◌∙◌}
use Rattle.dom_base.specs.AddrText.{addr_text}
use Rattle.path_certificate.specs.CertificateText.{spaced}
use Rattle.path_certificate.proofs.RowSpelling.{path_spelled}
use Rattle.path_certificate.proofs.writing.write_whole_path.Goals as goal

pub returns-clause-ok : goal.returns-clause-ok
returns-clause-ok c =
    c.in_ok-push.ensures.items
    ∙ ap (λ (v : List ℕ). v ++ 10 ∷ []) (c.in_ok-write_addrs.ensures.ok
    ∙ ap (λ (v : List ℕ). v ++ spaced (map addr_text c.args.addrs.now)) c.in_ok-extend_from_slice.ensures.items)
    ∙ path_spelled c.args.into.now.items (map addr_text c.args.addrs.now)
