-- Walks, labels and segments under two caps.
use Rattle.std.proofs.Common.{◌≡◌, inl, inr, ℕ, ◌+◌, ◌<◌, ◌≤◌, List, [], ◌∷◌, Bool, true, false, arith, refl, sym, ◌∙◌, ap, None, Some}
use Rattle.std.specs.Prelude.{nat_lt}
use Rattle.std.specs.declared.option.Option.{Option}
use Rattle.std.proofs.lemmas.Bool.{cases_lt, lt-ltb, ltb-true}
use Rattle.dom_base.specs.declared.addr.Addr.{Addr}
use Rattle.dom_base.specs.declared.link.Link.{Link}
use Rattle.dom_base.specs.declared.query.Query.{Query}
use Rattle.dom_base.specs.declared.query.Seed.{Seed}
use Rattle.dom_base.specs.declared.query.Label.{Label}
use Rattle.dom_base.specs.Admission.{weight, Allows}
use Rattle.te_links.specs.Rows.{Rows}
use Rattle.walk_laws.specs.Walks.{AdmitsNode, AdmitsLink, Walk, cost}
use Rattle.walk_laws.specs.Labels.{◌≼◌, Reaches, IsLabel, IsTight, IsChosen, IsSegment}
use Rattle.walk_laws.proofs.Lower.{le_cost}
use Rattle.walk_laws.specs.Capped.{capped, cut_if, cut}

allows : (c d : ℕ) (q : Query) (l : Link) → Allows (capped c q) l → Allows (capped d q) l
allows c d q l h = record {
  fits = record { bandwidth = h.fits.bandwidth; exclude_any = h.fits.exclude_any; include_any = h.fits.include_any; include_all = h.fits.include_all };
  free = λ b. h.free (record { row = b.row; is_row = b.is_row; strict = b.strict; names = b.names });
}

pub node : (c d : ℕ) (g : Rows) (q : Query) (n : Addr) → AdmitsNode g (capped c q) n → AdmitsNode g (capped d q) n
node c d g q n h = record { is_node = h.is_node; free = λ b. h.free (record { row = b.row; is_row = b.is_row; strict = b.strict; names = b.names }) }

pub link : (c d : ℕ) (g : Rows) (q : Query) (l : Link) → AdmitsLink g (capped c q) l → AdmitsLink g (capped d q) l
link c d g q l h = record { is_link = h.is_link; allowed = allows c d q l h.allowed; from = node c d g q l.from h.from; to = node c d g q l.to h.to }

walk : (c d : ℕ) (g : Rows) (q : Query) (u v : Addr) (ls : List Link) → Walk g (capped c q) u v ls → Walk g (capped d q) u v ls
walk c d g q u v [] h = (h.0, node c d g q u h.1)
walk c d g q u v (l ∷ ls) h = (h.0, link c d g q l h.1, walk c d g q l.to v ls h.2)

costs : (c d : ℕ) (q : Query) (ls : List Link) → cost (capped c q) ls ≡ cost (capped d q) ls
costs c d q [] = refl
costs c d q (l ∷ ls) = ap (λ n. weight q.metric l + n) (costs c d q ls)

reach : (c d : ℕ) (g : Rows) (q : Query) (seeds : List Seed) (u : Addr) (a : Label) → a.cost ≤ d → Reaches g (capped c q) seeds u a → Reaches g (capped d q) seeds u a
reach c d g q seeds u a within r = record {
  seed = r.seed;
  is_seed = r.is_seed;
  links = r.links;
  walk = walk c d g q u r.seed.node r.links r.walk;
  sum = r.sum ∙ ap (λ n. n + r.seed.cost) (costs c d q r.links);
  exit = r.exit;
  within = within;
}

pub up : (c d : ℕ) (g : Rows) (q : Query) (seeds : List Seed) (u : Addr) (a : Label) → c ≤ d → IsLabel g (capped c q) seeds u (Some a) → IsLabel g (capped d q) seeds u (Some a)
up c d g q seeds u a lower is = (
  reach c d g q seeds u a (omega (arith, is.0.within, lower)) is.0,
  (λ b r. elim (cases_lt c b.cost) [
    | inl over ↦ inl (omega (arith, over, is.0.within))
    | inr within ↦ is.1 b (reach d c g q seeds u b within r)
  ]),
)

pub down : (c d : ℕ) (g : Rows) (q : Query) (seeds : List Seed) (u : Addr) (a : Label) → c ≤ d → a.cost ≤ c → IsLabel g (capped d q) seeds u (Some a) → IsLabel g (capped c q) seeds u (Some a)
down c d g q seeds u a lower within is =
    (reach d c g q seeds u a within is.0, (λ b r. is.1 b (reach c d g q seeds u b (omega (arith, r.within, lower)) r)))

pub none : (c d : ℕ) (g : Rows) (q : Query) (seeds : List Seed) (u : Addr) → c ≤ d → IsLabel g (capped d q) seeds u None → IsLabel g (capped c q) seeds u None
none c d g q seeds u lower is b r = is b (reach c d g q seeds u b (omega (arith, r.within, lower)) r)

pub over : (c d : ℕ) (g : Rows) (q : Query) (seeds : List Seed) (u : Addr) (a : Label) → c ≤ d → IsLabel g (capped d q) seeds u (Some a) → c < a.cost → IsLabel g (capped c q) seeds u None
over c d g q seeds u a lower is more b r =
    let least : a ≼ b = is.1 b (reach c d g q seeds u b (omega (arith, r.within, lower)) r) in
    absurd (omega (arith, le_cost a b least, r.within, more))

tight_up : (c d : ℕ) (g : Rows) (q : Query) (seeds : List Seed) (l : Link) (a rest : Label) → c ≤ d → IsTight g (capped c q) seeds l a rest → IsTight g (capped d q) seeds l a rest
tight_up c d g q seeds l a rest lower t = record { admitted = link c d g q l t.admitted; at_end = up c d g q seeds l.to rest lower t.at_end; sum = t.sum; exit = t.exit }

tight_down : (c d : ℕ) (g : Rows) (q : Query) (seeds : List Seed) (l : Link) (a rest : Label) → c ≤ d → a.cost ≤ c → IsTight g (capped d q) seeds l a rest → IsTight g (capped c q) seeds l a rest
tight_down c d g q seeds l a rest lower within t = record {
  admitted = link d c g q l t.admitted;
  at_end = down c d g q seeds l.to rest lower (omega (arith, t.sum, within)) t.at_end;
  sum = t.sum;
  exit = t.exit;
}

chosen_up : (c d : ℕ) (g : Rows) (q : Query) (seeds : List Seed) (u : Addr) (a : Label) (l : Link) (rest : Label) → c ≤ d → a.cost ≤ c →
    IsChosen g (capped c q) seeds u a l rest → IsChosen g (capped d q) seeds u a l rest
chosen_up c d g q seeds u a l rest lower within h = record {
  from = h.from;
  tight = tight_up c d g q seeds l a rest lower h.tight;
  least = λ m r from t. h.least m r from (tight_down c d g q seeds m a r lower within t);
}

pub segment_up : (c d : ℕ) (g : Rows) (q : Query) (seeds : List Seed) (u : Addr) (a : Label) (ls : List Link) → c ≤ d → a.cost ≤ c →
    IsSegment g (capped c q) seeds u a ls → IsSegment g (capped d q) seeds u a ls
segment_up c d g q seeds u a [] lower within h = h
segment_up c d g q seeds u a (l ∷ ls) lower within h =
    let rest = h.1.0 in
    let chosen = h.1.1 in
    (h.0, (rest, chosen_up c d g q seeds u a l rest lower within chosen, segment_up c d g q seeds l.to rest ls lower (omega (arith, chosen.tight.sum, within)) h.1.2))

-- a label that is cut is the label under the lower cap
pub label_cut : (c d : ℕ) (g : Rows) (q : Query) (seeds : List Seed) (u : Addr) (o : Option Label) → c ≤ d → IsLabel g (capped d q) seeds u o → IsLabel g (capped c q) seeds u (cut c o)
label_cut c d g q seeds u None lower is = none c d g q seeds u lower is
label_cut c d g q seeds u (Some a) lower is = go (nat_lt c a.cost) refl
  where
    go : (b : Bool) → nat_lt c a.cost ≡ b → IsLabel g (capped c q) seeds u (cut_if b a)
    go true more = over c d g q seeds u a lower is (ltb-true c a.cost more)
    go false same = elim (cases_lt c a.cost) [
      | inl more ↦ absurd (let bad : true ≡ false = sym (lt-ltb c a.cost more) ∙ same in cc)
      | inr within ↦ down c d g q seeds u a lower within is
    ]
