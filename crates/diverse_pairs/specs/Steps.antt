-- One step along a path, and the first condition that is false.
use Rattle.std.specs.Prelude.{◌≡◌, ◌<◌, ℕ}
use Rattle.dom_base.specs.declared.addr.Addr.{Addr}
use Rattle.dom_base.specs.declared.link.Link.{Link}
use Rattle.dom_base.specs.declared.query.Query.{Query}
use Rattle.te_links.specs.Rows.{Rows}
use Rattle.walk_laws.specs.Walks.{AdmitsLink}

-- an admitted link with this far address leads from n to m
pub record IsStep (g : Rows) (q : Query) (n far m : Addr) : Type 0 where
  pub link : Link
  pub same_far : link.far ≡ far
  pub from : link.from ≡ n
  pub admitted : AdmitsLink g q link
  pub to : link.to ≡ m

-- the condition at place k is false, and those before it hold
pub record IsFirstNot (Holds : ℕ → Type 0) (k : ℕ) : Type 0 where
  pub fails : ¬ Holds k
  pub earlier : (j : ℕ) → j < k → Holds j
