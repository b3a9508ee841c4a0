-- Every label is reached by a walk, since each link weighs at least 1.
use Rattle.std.proofs.Common.{◌≡◌, inl, inr, ℕ, zero, suc, ◌<◌, ◌≤◌, List, [], ◌∷◌, arith, refl, sym, ◌∙◌, ap, subst, None, Some}
use Rattle.std.specs.declared.option.Option.{Option}
use Rattle.std.proofs.lemmas.List.Elements.{All-contains}
use Rattle.dom_base.specs.declared.addr.Addr.{Addr}
use Rattle.dom_base.specs.declared.link.Link.{Link}
use Rattle.dom_base.specs.declared.query.Metric.{Metric}
use Rattle.dom_base.specs.declared.query.Metric.TheVariants.{Igp, Te, Hops}
use Rattle.dom_base.specs.declared.query.Query.{Query}
use Rattle.dom_base.specs.declared.query.Seed.{Seed}
use Rattle.dom_base.specs.declared.query.Label.{Label}
use Rattle.dom_base.specs.Admission.{weight}
use Rattle.te_links.specs.Rows.{Rows, IsTopology, IsInnerLink}
use Rattle.walk_laws.specs.Labels.{◌≼◌, Reaches, IsLabel}
use Rattle.walk_laws.specs.Certificate.{Labelling, AtMost, Certifies, IsMadeBy}
use Rattle.walk_laws.proofs.Lower.{made, lower, le_trans, same_le}

pub weight_positive : (nodes : List Addr) (metric : Metric) (l : Link) → IsInnerLink nodes l → 1 ≤ weight metric l
weight_positive nodes Igp l among = among.link.igp.0
weight_positive nodes Te l among = among.link.te.0
weight_positive nodes Hops l among = omega arith

-- a link put before a walk
prepended : (g : Rows) (q : Query) (seeds : List Seed) (u : Addr) (a : Label) (label : Labelling) (l : Link) (m : IsMadeBy g q label u a l) →
    a.cost ≤ q.cap → Reaches g q seeds l.to m.rest → Reaches g q seeds u a
prepended g q seeds u a label l m within r = record {
  seed = r.seed;
  is_seed = r.is_seed;
  links = l ∷ r.links;
  walk = (m.from, m.admitted, r.walk);
  sum = ap (λ (b : Label). b.cost) m.sum ∙ omega (arith, r.sum);
  exit = ap (λ (b : Label). b.exit) m.sum ∙ r.exit;
  within = within;
}

pub reached : (g : Rows) (q : Query) (seeds : List Seed) (label : Labelling) → IsTopology g → Certifies g q seeds label →
    (n : ℕ) (u : Addr) (a : Label) → a.cost < n → label u ≡ Some a → Reaches g q seeds u a
reached g q seeds label valid holds zero u a below is = absurd (omega arith)
reached g q seeds label valid holds (suc n) u a below is =
    let node = holds.at_nodes u a is in
    elim node.made [
      | inl ends ↦ record {
        seed = record { node = u; cost = a.cost; exit = a.exit };
        is_seed = ends;
        links = [];
        walk = (refl, node.admitted);
        sum = omega arith;
        exit = refl;
        within = node.within;
      }
      | inr by_link ↦
          let l = by_link.0 in
          let m = by_link.1 in
          let heavy : 1 ≤ weight q.metric l = weight_positive g.nodes q.metric l (All-contains (IsInnerLink g.nodes) g.links l valid.links m.admitted.is_link) in
          let falls : m.rest.cost < n = omega (arith, ap (λ (b : Label). b.cost) m.sum) in
          prepended g q seeds u a label l m node.within (reached g q seeds label valid holds n l.to m.rest falls m.at_end)
    ]

labelled : (g : Rows) (q : Query) (seeds : List Seed) (label : Labelling) → IsTopology g → Certifies g q seeds label →
    (u : Addr) (o : Option Label) → label u ≡ o → IsLabel g q seeds u o
labelled g q seeds label valid holds u None is =
    λ a r.
    let low : AtMost (label u) (made q r.links r.seed) = lower g q seeds label holds r.links r.seed r.is_seed u r.walk (omega (arith, r.sum, r.within)) in
    subst (λ (o : Option Label). AtMost o (made q r.links r.seed)) is low
labelled g q seeds label valid holds u (Some a) is = (
  reached g q seeds label valid holds (suc a.cost) u a (omega arith) is,
  λ b r.
      let low : AtMost (label u) (made q r.links r.seed) = lower g q seeds label holds r.links r.seed r.is_seed u r.walk (omega (arith, r.sum, r.within)) in
      let at_a : a ≼ made q r.links r.seed = subst (λ (o : Option Label). AtMost o (made q r.links r.seed)) is low in
      le_trans a (made q r.links r.seed) b at_a (same_le (made q r.links r.seed) b (sym r.sum) (sym r.exit)),
)

pub certified : (g : Rows) (q : Query) (seeds : List Seed) (label : Labelling) → IsTopology g → Certifies g q seeds label →
    (u : Addr) → IsLabel g q seeds u (label u)
certified g q seeds label valid holds u = labelled g q seeds label valid holds u (label u) refl
