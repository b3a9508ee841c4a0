-- The chosen segment of a best row is a walk of its label: it leads to a seed that makes up the rest of the cost.
use Rattle.std.proofs.Common.{◌≡◌, ◌+◌, List, [], ◌∷◌, ◌∙◌, refl, arith}
use Rattle.std.specs.Prelude.{Contains}
use Rattle.plant_model.specs.Types.{Addr, Link, Query, Seed, Label}
use Rattle.te_links.specs.Rows.{Rows}
use Rattle.walk_laws.specs.Walks.{AdmitsNode, Walk, cost}
use Rattle.walk_laws.specs.Labels.{IsSegment}

-- a walk to a seed, of the label's cost and exit
pub record LeadsToSeed (g : Rows) (q : Query) (seeds : List Seed) (u : Addr) (a : Label) (ls : List Link) : Type 0 where
  pub seed : Seed
  pub is_seed : Contains seeds seed
  pub walk : Walk g q u seed.node ls
  pub sum : a.cost ≡ cost q ls + seed.cost
  pub exit : a.exit ≡ seed.exit

pub segment_leads : (g : Rows) (q : Query) (seeds : List Seed) (u : Addr) (a : Label) (ls : List Link) → AdmitsNode g q u → IsSegment g q seeds u a ls → LeadsToSeed g q seeds u a ls
segment_leads g q seeds u a [] admits segment = record { seed = record { node = u; cost = a.cost; exit = a.exit }; is_seed = segment; walk = (refl, admits); sum = omega arith; exit = refl }
segment_leads g q seeds u a (l ∷ ls) admits segment =
    let rest = segment.1.0 in
    let chosen = segment.1.1 in
    let r = segment_leads g q seeds l.to rest ls chosen.tight.admitted.to segment.1.2 in
    record { seed = r.seed; is_seed = r.is_seed; walk = (chosen.from, chosen.tight.admitted, r.walk); sum = omega (arith, chosen.tight.sum, r.sum); exit = chosen.tight.exit ∙ r.exit }
