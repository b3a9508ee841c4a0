-- `certify TOPO`: the certificate of a request.
use Rattle.std.specs.Prelude.{◌≡◌, ℕ, List}
use Rattle.te_links.specs.Rows.{Rows}
use Rattle.client_laws.specs.plant_model.Types.{Wanted}
use Rattle.path_certificate.specs.declared.certificate.Certificate.{Certificate}
use Rattle.path_certificate.specs.CertificateText.{certificate_text}
use Rattle.one_domain.specs.Certified.{IsCertified}

pub record IsCertifiedText (g : Rows) (w : Wanted) (text : List ℕ) : Type 0 where
  pub certificate : Certificate
  pub is_certified : IsCertified g w certificate
  pub is_text : text ≡ certificate_text certificate
