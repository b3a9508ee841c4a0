-- Every walk to a seed costs at least the label.
use Rattle.std.proofs.Common.{◌≡◌, inl, inr, ◌+◌, ◌≤◌, List, [], ◌∷◌, arith, refl, sym, ◌∙◌, ap, subst, None, Some}
use Rattle.std.specs.Prelude.{Contains}
use Rattle.std.specs.declared.option.Option.{Option}
use Rattle.dom_base.specs.AddrOrder.{rank}
use Rattle.dom_base.specs.declared.addr.Addr.{Addr}
use Rattle.dom_base.specs.declared.link.Link.{Link}
use Rattle.dom_base.specs.declared.query.Query.{Query}
use Rattle.dom_base.specs.declared.query.Seed.{Seed}
use Rattle.dom_base.specs.declared.query.Label.{Label}
use Rattle.dom_base.specs.Admission.{weight}
use Rattle.te_links.specs.Rows.{Rows}
use Rattle.walk_laws.specs.Walks.{AdmitsNode, AdmitsLink, Walk, cost}
use Rattle.walk_laws.specs.Labels.{◌≼◌}
use Rattle.walk_laws.specs.Certificate.{Labelling, AtMost, before, Certifies}

-- the label that a walk to a seed makes
abbrev pub made : Query → List Link → Seed → Label
made q ls s = record { cost = cost q ls + s.cost; exit = s.exit }

-- `≼` is transitive, and a link put before both sides keeps it
pub le_trans : (a b c : Label) → a ≼ b → b ≼ c → a ≼ c
le_trans a b c (inl lt) (inl lt') = inl (omega arith)
le_trans a b c (inl lt) (inr le') = inl (omega (arith, le'.0))
le_trans a b c (inr le) (inl lt') = inl (omega (arith, le.0))
le_trans a b c (inr le) (inr le') = inr (le.0 ∙ le'.0, omega (arith, le.1, le'.1))

pub before_le : (q : Query) (l : Link) (a b : Label) → a ≼ b → before q l a ≼ before q l b
before_le q l a b (inl lt) = inl (omega (arith, lt))
before_le q l a b (inr le) = inr (ap (λ n. weight q.metric l + n) le.0, le.1)

pub le_cost : (a b : Label) → a ≼ b → a.cost ≤ b.cost
le_cost a b (inl lt) = omega arith
le_cost a b (inr le) = omega (arith, le.0)

pub at_most_le : (o : Option Label) (a b : Label) → AtMost o a → a ≼ b → AtMost o b
at_most_le None a b h k = absurd h
at_most_le (Some c) a b h k = le_trans c a b h k

-- the same label, made up otherwise
pub same_le : (a b : Label) → a.cost ≡ b.cost → a.exit ≡ b.exit → a ≼ b
same_le a b costs exits = inr (costs, omega (arith, ap rank exits))

-- the label of a link's end bounds that of its beginning
step : (g : Rows) (q : Query) (seeds : List Seed) (label : Labelling) → Certifies g q seeds label →
    (l : Link) (b : Label) → AdmitsLink g q l → weight q.metric l + b.cost ≤ q.cap → (o : Option Label) → label l.to ≡ o → AtMost o b →
    AtMost (label l.from) (before q l b)
step g q seeds label holds l b admitted within None is below = absurd below
step g q seeds label holds l b admitted within (Some a) is below =
    let no_more : a.cost ≤ b.cost = le_cost a b below in
    at_most_le (label l.from) (before q l a) (before q l b)
    (holds.at_links l a admitted is (omega arith))
    (before_le q l a b below)

pub lower : (g : Rows) (q : Query) (seeds : List Seed) (label : Labelling) → Certifies g q seeds label →
    (ls : List Link) (s : Seed) → Contains seeds s → (u : Addr) → Walk g q u s.node ls → cost q ls + s.cost ≤ q.cap → AtMost (label u) (made q ls s)
lower g q seeds label holds [] s is_seed u walk within =
    let seed : Label = record { cost = s.cost; exit = s.exit } in
    let admitted : AdmitsNode g q s.node = subst (AdmitsNode g q) walk.0 walk.1 in
    let at_seed : AtMost (label s.node) seed = holds.at_seeds s is_seed admitted (omega arith) in
    let at_u : AtMost (label u) seed = subst (λ (n : Addr). AtMost (label n) seed) (sym walk.0) at_seed in
    at_most_le (label u) seed (made q [] s) at_u (same_le seed (made q [] s) (omega arith) refl)
lower g q seeds label holds (l ∷ ls) s is_seed u walk within =
    let rest : AtMost (label l.to) (made q ls s) = lower g q seeds label holds ls s is_seed l.to walk.2 (omega arith) in
    let at_from : AtMost (label l.from) (before q l (made q ls s)) =
    step g q seeds label holds l (made q ls s) walk.1 (omega arith) (label l.to) refl rest in
    let at_u : AtMost (label u) (before q l (made q ls s)) =
    subst (λ (n : Addr). AtMost (label n) (before q l (made q ls s))) walk.0 at_from in
    at_most_le (label u) (before q l (made q ls s)) (made q (l ∷ ls) s) at_u
    (same_le (before q l (made q ls s)) (made q (l ∷ ls) s) (omega arith) refl)
