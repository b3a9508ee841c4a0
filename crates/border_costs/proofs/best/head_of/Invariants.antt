use Rattle.std.proofs.Common.{◌≡◌, ◌≢◌, ◌<◌, ℕ, Some}
use Rattle.std.specs.Prelude.{slice_get}
use Rattle.te_links.specs.declared.rows.OutLink.{OutLink}
use Rattle.border_costs.proofs.best.head_of.Given as goal

abbrev pub invariant-loop-index : goal.invariant-loop-index
invariant-loop-index g l = (k : ℕ) (o : OutLink) → k < l.index → slice_get (g.G.Links.rows l.links).outs k ≡ Some o → o.link.far ≢ l.far
