-- `pair-certify TOPO`: the certificate of the chosen pair, or of a cut where there is no pair.
use Rattle.std.specs.Prelude.{◌≡◌, ℕ, List}
use Rattle.te_links.specs.Rows.{Rows}
use Rattle.path_certificate.specs.declared.verdict.Place.{Place}
use Rattle.diverse_pairs.specs.declared.certificate.PairCertificate.{PairCertificate}
use Rattle.diverse_pairs.specs.Conditions.{HoldsAt}
use Rattle.diverse_pairs.specs.Solution.{IsAnswer}
use Rattle.diverse_pairs.specs.PairText.{pair_text}
use Rattle.pce_tool.specs.declared.pair_reading.PairRequest.{PairRequest}
use Rattle.pce_tool.specs.Commands.PairVerify.{pair_asked}

pub record IsPairCertifiedText (g : Rows) (r : PairRequest) (text : List ℕ) : Type 0 where
  pub certificate : PairCertificate
  pub own : certificate.own ≡ g.own
  pub holds : (place : Place) → HoldsAt (pair_asked g r) certificate.form place
  pub answer : IsAnswer (pair_asked g r) certificate.form
  pub is_text : text ≡ pair_text certificate
