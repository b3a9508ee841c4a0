-- Queries that ask nothing of a link, so that every link is allowed.
use Rattle.std.specs.Prelude.{◌≡◌, length}
use Rattle.dom_base.specs.declared.query.Query.{Query}

-- no bandwidth, no colours, and nothing excluded
pub record AsksNothing (q : Query) : Type 0 where
  pub bandwidth : q.bandwidth ≡ 0
  pub exclude_any : q.exclude_any ≡ 0
  pub include_any : q.include_any ≡ 0
  pub include_all : q.include_all ≡ 0
  pub exclusions : length q.exclusions ≡ 0
