-- The certificate of a request: the least labels of all nodes, and the chosen path.
use Rattle.std.specs.Prelude.{ℕ, MatchOption}
use Rattle.te_links.specs.Rows.{Rows}
use Rattle.pcep_messages.specs.declared.message.Wanted.{Wanted}
use Rattle.path_certificate.specs.declared.certificate.Certificate.{Certificate}
use Rattle.one_domain.specs.Domain.{HasLabels, ShowsLeast, HasNone}

-- each node in order with its least label; the chosen path, or none where there is no path within the cap
pub record IsCertified (g : Rows) (w : Wanted) (c : Certificate) : Type 0 where
  pub labels : HasLabels g w c
  pub path : MatchOption c.path (HasNone g w.query w.source w.target) (λ addrs. (cost : ℕ) × ShowsLeast g w.query w.source w.target addrs cost)
