-- The rows that the paths of an answer give.
use Rattle.std.proofs.Common.{◌≡◌, ℕ, Option, List, [], ◌∷◌, ◌++◌, refl, sym, ◌∙◌, ap, append_assoc}
use Rattle.std.specs.Option.{option_to_list}
use Rattle.pce_common.specs.plant_model.Types.{As, Addr, Metric, Hop, Path, Branch}
use Rattle.pce_common.specs.plant_model.declared.upper.ChildRow.{ChildRow}
use Rattle.pce_common.specs.plant_model.Branches.{branch_of, branches_in}
use Rattle.pce_common.specs.plant_model.Parent.{rows_at}
use Rattle.pce_common.specs.plant_model.RealWire.{wire}

abbrev pub row_made : As → Addr → Addr → ℕ → List Hop → ChildRow
row_made child target entry cost hs = record { at = child; entry = entry; target = target; cost = cost; hops = hs }

rows_append : (child : As) (target : Addr) (bs cs : List Branch) → rows_at child target (bs ++ cs) ≡ rows_at child target bs ++ rows_at child target cs
rows_append child target [] cs = refl
rows_append child target (b ∷ bs) cs = ap (λ (rs : List ChildRow). row_made child target b.entry b.cost b.hops ∷ rs) (rows_append child target bs cs)

pub rows_next : (child : As) (target : Addr) (m : Metric) (p : Path) (left rest : List Path) (rows more : List ChildRow) (found : Option ChildRow) → left ≡ p ∷ rest → option_to_list found ≡ rows_at child target (branch_of wire m p.hops p.metric) →
    more ≡ rows ++ option_to_list found → more ++ rows_at child target (branches_in wire m rest) ≡ rows ++ rows_at child target (branches_in wire m left)
rows_next child target m p left rest rows more found left_is found_is more_is =
    let behind : List ChildRow = rows_at child target (branches_in wire m rest) in
    ap (λ (rs : List ChildRow). rs ++ behind) more_is
    ∙ append_assoc rows (option_to_list found) behind
    ∙ ap (λ (rs : List ChildRow). rows ++ (rs ++ behind)) found_is
    ∙ ap (λ (rs : List ChildRow). rows ++ rs) (sym (rows_append child target (branch_of wire m p.hops p.metric) (branches_in wire m rest)))
    ∙ ap (λ (ps : List Path). rows ++ rows_at child target (branches_in wire m ps)) (sym left_is)
