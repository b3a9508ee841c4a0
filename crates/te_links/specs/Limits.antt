-- How much a topology may have, as numbers. The constants in the code are proved to be these numbers.
use Rattle.std.specs.Prelude.{◌≡◌}
use Rattle.te_links.specs.declared.limits.TheConstants.{NODES_MAX, LINKS_MAX, OUTS_MAX, TAILS_MAX, ENTRIES_MAX, ENTRY_NODES_MAX, SRLGS_MAX, METRIC_MAX}

pub record LimitsAreNumbers : Type 0 where
  pub nodes : NODES_MAX ≡ 1024
  pub links : LINKS_MAX ≡ 8192
  pub outs : OUTS_MAX ≡ 256
  pub tails : TAILS_MAX ≡ 16
  pub entries : ENTRIES_MAX ≡ 16
  pub entry_nodes : ENTRY_NODES_MAX ≡ 64
  pub srlgs : SRLGS_MAX ≡ 8
  pub metric : METRIC_MAX ≡ 16777215
