-- Rows and their own parts make one list of branches and no other.
use Rattle.std.proofs.Common.{◌≡◌, ◌<◌, ◌≤◌, ◌∙◌, All, List, [], ◌∷◌, ◌++◌, Option, Some, None, refl, sym, ap, subst, arith}
use Rattle.std.specs.List.{AllZip, zip}
use Rattle.std.proofs.lemmas.List.Elements.{All-head, All-tail}
use Rattle.dom_base.specs.declared.addr.Addr.{Addr}
use Rattle.dom_base.specs.declared.cost.Cost.{Cost}
use Rattle.pcep_subobjects.specs.declared.hop.Hop.{Hop}
use Rattle.vspt_tree.specs.declared.branch.Best.{Best}
use Rattle.vspt_tree.specs.declared.branch.Branch.{Branch}
use Rattle.pcep_subobjects.specs.Hops.{strict_hop}
use Rattle.vspt_tree.specs.Branches.{IsFirstLeast, IsOnward, IsBranchOf, AreBranchesOf}

in_the_middle : {X : Type 0} (P : X → Type 0) (before after : List X) (x : X) → All P (before ++ x ∷ after) → P x
in_the_middle P [] after x all = All-head P x after all
in_the_middle P (y ∷ before) after x all = in_the_middle P before after x (All-tail P y (before ++ x ∷ after) all)

-- a first of the least cannot stand in front of another
not_behind : (n : Addr) (a b : Branch) (rest before after : List Branch) → a.entry ≡ n → b.entry ≡ n → rest ≡ before ++ b ∷ after →
    All (λ d. d.entry ≡ n → a.cost ≤ d.cost) rest → (a.entry ≡ n → b.cost < a.cost) → ⊥
not_behind n a b rest before after at_a at_b is no_less above =
    let least = in_the_middle (λ (d : Branch). d.entry ≡ n → a.cost ≤ d.cost) before after b (subst (λ (xs : List Branch). All (λ d. d.entry ≡ n → a.cost ≤ d.cost) xs) is no_less) at_b in
    let less = above at_a in
    omega arith

least_at_one_place : (n : Addr) (before before' after after' : List Branch) (b b' : Branch) → before ++ b ∷ after ≡ before' ++ b' ∷ after' → b.entry ≡ n → b'.entry ≡ n →
    All (λ d. d.entry ≡ n → b.cost < d.cost) before → All (λ d. d.entry ≡ n → b.cost ≤ d.cost) after →
    All (λ d. d.entry ≡ n → b'.cost < d.cost) before' → All (λ d. d.entry ≡ n → b'.cost ≤ d.cost) after' → b ≡ b'
least_at_one_place n [] [] after after' b b' is at at' above no_less above' no_less' = cc
least_at_one_place n [] (e ∷ before') after after' b b' is at at' above no_less above' no_less' =
    let same : e ≡ b = cc in
    let rest : after ≡ before' ++ b' ∷ after' = cc in
    let less = subst (λ (x : Branch). x.entry ≡ n → b'.cost < x.cost) same (All-head (λ (d : Branch). d.entry ≡ n → b'.cost < d.cost) e before' above') in
    absurd (not_behind n b b' after before' after' at at' rest no_less less)
least_at_one_place n (e ∷ before) [] after after' b b' is at at' above no_less above' no_less' =
    let same : e ≡ b' = cc in
    let rest : after' ≡ before ++ b ∷ after = cc in
    let less = subst (λ (x : Branch). x.entry ≡ n → b.cost < x.cost) same (All-head (λ (d : Branch). d.entry ≡ n → b.cost < d.cost) e before above) in
    absurd (not_behind n b' b after' before after at' at rest no_less' less)
least_at_one_place n (e ∷ before) (e' ∷ before') after after' b b' is at at' above no_less above' no_less' =
    let rest : before ++ b ∷ after ≡ before' ++ b' ∷ after' = cc in
    least_at_one_place n before before' after after' b b' rest at at'
    (All-tail (λ (d : Branch). d.entry ≡ n → b.cost < d.cost) e before above) no_less
    (All-tail (λ (d : Branch). d.entry ≡ n → b'.cost < d.cost) e' before' above') no_less'

pub IsFirstLeast-unique : (down : List Branch) (n : Addr) (b b' : Branch) → IsFirstLeast down n b → IsFirstLeast down n b' → b ≡ b'
IsFirstLeast-unique down n b b' one other =
    least_at_one_place n one.before other.before one.after other.after b b' (sym one.is ∙ other.is) one.at_node other.at_node one.above one.no_less other.above other.no_less

IsOnward-unique : (down : List Branch) (exit : Addr) (head : Option Addr) (hops hops' : List Hop) → IsOnward down exit head hops → IsOnward down exit head hops' → hops ≡ hops'
IsOnward-unique down exit None hops hops' one other = one ∙ sym other
IsOnward-unique down exit (Some head) hops hops' one other =
    one.2 ∙ ap (λ (b : Branch). strict_hop exit ∷ b.hops) (IsFirstLeast-unique down head one.0 other.0 one.1 other.1) ∙ sym other.2

same_fields : (b b' : Branch) → b.entry ≡ b'.entry → b.cost ≡ b'.cost → b.hops ≡ b'.hops → b ≡ b'
same_fields b b' entry cost hops =
    let made : Addr → Cost → List Hop → Branch = λ e c h. record { entry = e; cost = c; hops = h } in
    ap (λ (e : Addr). made e b.cost b.hops) entry ∙ ap (λ (c : Cost). made b'.entry c b.hops) cost ∙ ap (λ (h : List Hop). made b'.entry b'.cost h) hops

pub IsBranchOf-unique : (down : List Branch) (row : Best) (own : List Hop) (b b' : Branch) → IsBranchOf down row own b → IsBranchOf down row own b' → b ≡ b'
IsBranchOf-unique down row own b b' one other =
    let onward = IsOnward-unique down row.exit row.head one.onward other.onward one.goes_on other.goes_on in
    same_fields b b' (one.entry ∙ sym other.entry) (one.cost ∙ sym other.cost) (one.hops ∙ ap (λ (h : List Hop). own ++ h) onward ∙ sym other.hops)

branches_alike : (down : List Branch) (parts : List (Best × List Hop)) (bs bs' : List Branch) →
    AllZip (λ part branch. IsBranchOf down part.0 part.1 branch) parts bs → AllZip (λ part branch. IsBranchOf down part.0 part.1 branch) parts bs' → bs ≡ bs'
branches_alike down [] [] [] one other = refl
branches_alike down [] [] (b ∷ bs) one other = absurd other
branches_alike down [] (b ∷ bs) bs' one other = absurd one
branches_alike down (part ∷ parts) [] bs' one other = absurd one
branches_alike down (part ∷ parts) (b ∷ bs) [] one other = absurd other
branches_alike down (part ∷ parts) (b ∷ bs) (b' ∷ bs') one other =
    let same = IsBranchOf-unique down part.0 part.1 b b' one.0 other.0 in
    let rest = branches_alike down parts bs bs' one.1 other.1 in
    cc

pub AreBranchesOf-unique : (down : List Branch) (best : List Best) (own : List (List Hop)) (bs bs' : List Branch) → AreBranchesOf down best own bs → AreBranchesOf down best own bs' → bs ≡ bs'
AreBranchesOf-unique down best own bs bs' one other = branches_alike down (zip best own) bs bs' one other
