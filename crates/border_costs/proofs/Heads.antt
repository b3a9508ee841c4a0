-- Where each row that the next domain told is of a branch, each node beyond an exit has a branch.
use Rattle.std.proofs.Common.{◌≡◌, List, [], ◌∷◌, inl, inr, sym, ap, subst}
use Rattle.std.specs.Prelude.{All, IfSome}
use Rattle.std.specs.declared.option.Option.{Option}
use Rattle.std.proofs.lemmas.List.Elements.{All-nil, All-cons, All-contains}
use Rattle.dom_base.specs.declared.addr.Addr.{Addr}
use Rattle.dom_base.specs.declared.query.Query.{Query}
use Rattle.dom_base.specs.declared.query.Seed.{Seed}
use Rattle.te_links.specs.Rows.{Rows}
use Rattle.walk_laws.specs.Borders.{Beyond}
use Rattle.vspt_tree.specs.Branches.{HasBranchAt}
use Rattle.vspt_tree.specs.declared.branch.Best.{Best}
use Rattle.vspt_tree.specs.declared.branch.Branch.{Branch}
use Rattle.border_costs.specs.declared.job.Target.{Target}
use Rattle.border_costs.specs.declared.job.Target.TheVariants.{Node, Next}
use Rattle.border_costs.specs.declared.job.Down.{Down}
use Rattle.border_costs.specs.declared.job.Ask.{Ask}
use Rattle.border_costs.specs.Solutions.{AreBest, IsHead, AreRows}
use Rattle.border_costs.specs.declared.answer.Answer.{Answer}
use Rattle.border_costs.proofs.Picked.{unmapped}

abbrev row_beyond : Down → Beyond
row_beyond d = record { node = d.node; cost = d.cost }

head_goes_on : (g : Rows) (q : Query) (down : List Down) (branches : List Branch) → All (λ d. HasBranchAt branches d.node) down →
    (t : Target) (exit : Addr) (head : Option Addr) → IsHead g q down t exit head → IfSome head (HasBranchAt branches)
head_goes_on g q down branches each (Node t) exit head none = subst (λ (o : Option Addr). IfSome o (HasBranchAt branches)) (sym none) tt
head_goes_on g q down branches each (Next b) exit head over =
    let row = unmapped row_beyond down (record { node = over.out.link.to; cost = over.least.beyond }) over.least.is_down.is_row in
    let node : row.0.node ≡ over.out.link.to = ap (λ (r : Beyond). r.node) row.2 in
    let at_head : HasBranchAt branches over.out.link.to =
    subst (HasBranchAt branches) node (All-contains (λ (d : Down). HasBranchAt branches d.node) down row.0 each row.1) in
    subst (λ (o : Option Addr). IfSome o (HasBranchAt branches)) (sym over.is_head) at_head

heads_of : (g : Rows) (ask : Ask) (seeds : List Seed) (branches : List Branch) → All (λ d. HasBranchAt branches d.node) ask.down →
    (entries : List Addr) (rows : List Best) → AreBest g ask seeds entries rows → All (λ row. IfSome row.head (HasBranchAt branches)) rows
heads_of g ask seeds branches each [] rows none =
    subst (All (λ (row : Best). IfSome row.head (HasBranchAt branches))) (sym none) (All-nil (λ (row : Best). IfSome row.head (HasBranchAt branches)))
heads_of g ask seeds branches each (entry ∷ entries) rows (inl lacks) = heads_of g ask seeds branches each entries rows lacks.1
heads_of g ask seeds branches each (entry ∷ entries) rows (inr has) =
    subst (All (λ (row : Best). IfSome row.head (HasBranchAt branches))) (sym has.2)
    (All-cons (λ (row : Best). IfSome row.head (HasBranchAt branches)) has.0 has.1
    (head_goes_on g ask.query ask.down branches each ask.target has.0.exit has.0.head has.3.is_head)
    (heads_of g ask seeds branches each entries has.1 has.4))

-- what `join` asks of the rows of a solution
pub heads_have_branches : (g : Rows) (ask : Ask) (rows : Answer) (branches : List Branch) → AreRows g ask rows →
    All (λ d. HasBranchAt branches d.node) ask.down → All (λ row. IfSome row.head (HasBranchAt branches)) rows.best
heads_have_branches g ask rows branches are each = heads_of g ask are.seeds branches each ask.entries rows.best are.best
