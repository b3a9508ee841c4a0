-- How much the settings of a network may have, as numbers. The constants in the code are proved to be these numbers.
use Rattle.std.specs.Prelude.{◌≡◌}
use Rattle.plant_text.specs.declared.limits.TheConstants.{ELEMENTS_MAX, LINKS_MAX, PEERS_MAX, DENY_MAX, PARENT_LINKS_MAX, KEY_LIFE_MAX, NAME_MAX, WORKERS_MAX, ROW_ENTRIES_MAX}

pub record LimitsAreNumbers : Type 0 where
  pub elements : ELEMENTS_MAX ≡ 16
  pub links : LINKS_MAX ≡ 120
  pub peers : PEERS_MAX ≡ 256
  pub deny : DENY_MAX ≡ 4096
  pub parent_links : PARENT_LINKS_MAX ≡ 256
  pub key_life : KEY_LIFE_MAX ≡ 3600
  pub name : NAME_MAX ≡ 16
  pub workers : WORKERS_MAX ≡ 8
  pub row_entries : ROW_ENTRIES_MAX ≡ 65
