-- `verify TOPO CERT`: whether a certificate of a request holds.
use Rattle.std.specs.Prelude.{ℕ, List, [], ◌∷◌, ◌++◌, codes}
use Rattle.te_links.specs.Rows.{Rows}
use Rattle.path_certificate.specs.declared.certificate.Certificate.{Certificate}
use Rattle.path_certificate.specs.Claims.{Claim, claim_of}
use Rattle.one_domain.specs.declared.replying.PathRequest.{PathRequest}
use Rattle.one_domain.specs.Domain.{target_seeds}

-- what the certificate claims of the topology and the request
abbrev pub claim : Rows → PathRequest → Certificate → Claim
claim g r c = claim_of g r.wanted.query (target_seeds r.wanted.target) r.wanted.source c

abbrev pub holds_text : List ℕ
holds_text = codes "holds" ++ 10 ∷ []
