-- The least labels meet the conditions of a certificate, and the chosen segment leads on from them.
use Rattle.std.proofs.Common.{◌≡◌, inl, inr, ◌≤◌, List, [], ◌∷◌, map, arith, refl, ◌∙◌, ap, subst, None, Some}
use Rattle.std.specs.Prelude.{Contains}
use Rattle.std.specs.declared.option.Option.{Option}
use Rattle.dom_base.specs.declared.addr.Addr.{Addr}
use Rattle.dom_base.specs.declared.link.Link.{Link}
use Rattle.dom_base.specs.declared.query.Query.{Query}
use Rattle.dom_base.specs.declared.query.Seed.{Seed}
use Rattle.dom_base.specs.declared.query.Label.{Label}
use Rattle.te_links.specs.Rows.{Rows}
use Rattle.walk_laws.specs.Walks.{AdmitsLink}
use Rattle.walk_laws.specs.Labels.{Reaches, IsLabel, IsTight, IsSegment}
use Rattle.walk_laws.specs.Certificate.{Labelling, AtMost, before, SeedHolds, LinkHolds, NodeHolds, IsMadeBy, Certifies, Leads}
use Rattle.walk_laws.specs.Least.{IsWalkOf}
use Rattle.walk_laws.proofs.Admitted.{reaches_admits}
use Rattle.walk_laws.proofs.Tight.{same_label, label_unique, tight_or_end}

-- what is reached is at least the label
at_most : (g : Rows) (q : Query) (seeds : List Seed) (u : Addr) (o : Option Label) (b : Label) → IsLabel g q seeds u o → Reaches g q seeds u b → AtMost o b
at_most g q seeds u None b is r = is b r
at_most g q seeds u (Some a) b is r = is.1 b r

at_seeds : (g : Rows) (q : Query) (seeds : List Seed) (label : Labelling) → ((n : Addr) → IsLabel g q seeds n (label n)) →
    (s : Seed) → Contains seeds s → SeedHolds g q label s
at_seeds g q seeds label are s is_seed admitted within =
    at_most g q seeds s.node (label s.node) (record { cost = s.cost; exit = s.exit }) (are s.node)
    (record { seed = s; is_seed = is_seed; links = []; walk = (refl, admitted); sum = omega arith; exit = refl; within = within })

-- what is reached from a label at the end of a link
through : (g : Rows) (q : Query) (seeds : List Seed) (l : Link) (a : Label) → AdmitsLink g q l → Reaches g q seeds l.to a → (before q l a).cost ≤ q.cap →
    Reaches g q seeds l.from (before q l a)
through g q seeds l a admitted r within = record {
  seed = r.seed;
  is_seed = r.is_seed;
  links = l ∷ r.links;
  walk = (refl, admitted, r.walk);
  sum = omega (arith, r.sum);
  exit = r.exit;
  within = within;
}

reached_at : (g : Rows) (q : Query) (seeds : List Seed) (label : Labelling) → ((n : Addr) → IsLabel g q seeds n (label n)) →
    (u : Addr) (a : Label) → label u ≡ Some a → IsLabel g q seeds u (Some a)
reached_at g q seeds label are u a is = subst (IsLabel g q seeds u) is (are u)

at_links : (g : Rows) (q : Query) (seeds : List Seed) (label : Labelling) → ((n : Addr) → IsLabel g q seeds n (label n)) →
    (l : Link) → LinkHolds g q label l
at_links g q seeds label are l a admitted is within =
    at_most g q seeds l.from (label l.from) (before q l a) (are l.from)
    (through g q seeds l a admitted (reached_at g q seeds label are l.to a is).0 within)

-- a tight link makes the label
made_by : (g : Rows) (q : Query) (seeds : List Seed) (label : Labelling) → ((n : Addr) → IsLabel g q seeds n (label n)) →
    (u : Addr) (a : Label) (l : Link) (rest : Label) → l.from ≡ u → IsTight g q seeds l a rest → IsMadeBy g q label u a l
made_by g q seeds label are u a l rest from tight = record {
  admitted = tight.admitted;
  from = from;
  rest = rest;
  at_end = label_unique g q seeds l.to (label l.to) rest (are l.to) tight.at_end;
  sum = same_label a (before q l rest) tight.sum tight.exit;
}

at_nodes : (g : Rows) (q : Query) (seeds : List Seed) (label : Labelling) → ((n : Addr) → IsLabel g q seeds n (label n)) →
    (n : Addr) (a : Label) → label n ≡ Some a → NodeHolds g q seeds label n a
at_nodes g q seeds label are n a is =
    let here = reached_at g q seeds label are n a is in
    record {
      admitted = reaches_admits g q seeds n a here.0;
      within = here.0.within;
      made = elim (tight_or_end g q seeds n a here) [
        | inl ends ↦ inl ends
        | inr t ↦ inr (t.0, made_by g q seeds label are n a t.0 t.1 t.2 t.3)
      ];
    }

pub least_certified : (g : Rows) (q : Query) (seeds : List Seed) (label : Labelling) → ((n : Addr) → IsLabel g q seeds n (label n)) → Certifies g q seeds label
least_certified g q seeds label are = record {
  at_seeds = at_seeds g q seeds label are;
  at_links = at_links g q seeds label are;
  at_nodes = at_nodes g q seeds label are;
}

pub segment_leads : (g : Rows) (q : Query) (seeds : List Seed) (label : Labelling) → ((n : Addr) → IsLabel g q seeds n (label n)) →
    (u : Addr) (a : Label) (links : List Link) → IsSegment g q seeds u a links → Leads g q seeds label u a (map (λ l. l.far) links)
unfolding made_by
segment_leads g q seeds label are u a [] ends = ends
segment_leads g q seeds label are u a (l ∷ ls) segment =
    let rest = segment.1.0 in
    let chosen = segment.1.1 in
    (l, refl, (made_by g q seeds label are u a l rest chosen.from chosen.tight, segment_leads g q seeds label are l.to rest ls segment.1.2))

pub path_walks : (g : Rows) (q : Query) (seeds : List Seed) (label : Labelling) → Certifies g q seeds label →
    (u : Addr) (a : Label) (shown : List Addr) → label u ≡ Some a → Leads g q seeds label u a shown → IsWalkOf g q seeds u a shown
path_walks g q seeds label holds u a [] is ends = record {
  links = [];
  fars = refl;
  seed = record { node = u; cost = a.cost; exit = a.exit };
  is_seed = ends;
  walk = (refl, (holds.at_nodes u a is).admitted);
  sum = omega arith;
  exit = refl;
}
path_walks g q seeds label holds u a (far ∷ fars) is leads =
    let l = leads.0 in
    let made = leads.2.0 in
    let w = path_walks g q seeds label holds l.to made.rest fars made.at_end leads.2.1 in
    record {
      links = l ∷ w.links;
      fars = ap (λ (b : Addr). b ∷ map (λ (m : Link). m.far) w.links) leads.1 ∙ ap (λ (bs : List Addr). far ∷ bs) w.fars;
      seed = w.seed;
      is_seed = w.is_seed;
      walk = (made.from, made.admitted, w.walk);
      sum = ap (λ (b : Label). b.cost) made.sum ∙ omega (arith, w.sum);
      exit = ap (λ (b : Label). b.exit) made.sum ∙ w.exit;
    }
