-- The best ways, one entry after the other.
use Rattle.std.proofs.Common.{inl, inr, List, [], ◌∷◌, ◌++◌, refl, ap}
use Rattle.dom_base.specs.declared.addr.Addr.{Addr}
use Rattle.dom_base.specs.declared.query.Seed.{Seed}
use Rattle.te_links.specs.Rows.{Rows}
use Rattle.vspt_tree.specs.declared.branch.Best.{Best}
use Rattle.border_costs.specs.declared.job.Ask.{Ask}
use Rattle.border_costs.specs.Asks.{HasNoPair}
use Rattle.border_costs.specs.Solutions.{IsBest, AreBest}

module _ (g : Rows) (ask : Ask) (seeds : List Seed) where
  pub best_left : (entries : List Addr) (rows : List Best) (entry : Addr) → AreBest g ask seeds entries rows → HasNoPair g ask entry → AreBest g ask seeds (entries ++ entry ∷ []) rows
  best_left [] rows entry are none = inl (none, are)
  best_left (e ∷ es) rows entry (inl none_here) none = inl (none_here.0, best_left es rows entry none_here.1 none)
  best_left (e ∷ es) rows entry (inr here) none = inr (here.0, here.1, here.2, here.3, best_left es here.1 entry here.4 none)

  pub best_added : (entries : List Addr) (rows : List Best) (entry : Addr) (row : Best) → AreBest g ask seeds entries rows → IsBest g ask seeds entry row →
      AreBest g ask seeds (entries ++ entry ∷ []) (rows ++ row ∷ [])
  best_added [] rows entry row are is = inr (row, [], ap (λ (r : List Best). r ++ row ∷ []) are, is, refl)
  best_added (e ∷ es) rows entry row (inl none_here) is = inl (none_here.0, best_added es rows entry row none_here.1 is)
  best_added (e ∷ es) rows entry row (inr here) is =
      inr (here.0, here.1 ++ row ∷ [], ap (λ (r : List Best). r ++ row ∷ []) here.2, here.3, best_added es here.1 entry row here.4 is)
