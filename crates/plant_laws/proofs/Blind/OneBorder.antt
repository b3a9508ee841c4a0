-- A job of the parent has one answer.
use Rattle.std.proofs.Common.{◌≡◌, ◌⊎◌, ◌≢◌, ℕ, ◌+◌, List, [], ◌∷◌, ◌++◌, Option, Some, None, inl, inr, refl, sym, ◌∙◌, ap, subst, arith}
use Rattle.std.specs.Prelude.{AllPairs}
use Rattle.plant_model.specs.Types.{Addr, As, ParentLink, Hop, NetworkParts}
use Rattle.dom_base.specs.Admission.{weight}
use Rattle.plant_model.specs.Laws.{IsNetwork}
use Rattle.plant_model.specs.declared.upper.ChildRow.{ChildRow}
use Rattle.plant_model.specs.declared.upper.BorderJob.{BorderJob}
use Rattle.plant_model.specs.BorderGraph.{Vertex, Enter, Leave, Edge, IsEdge, IsFirstRow, IsLeastTo, Shows, Found, SolvesBorder}
use Rattle.plant_laws.proofs.Runs.Lists.{Stands, Rising, stands_of, contains_of}
use Rattle.pcep_subobjects.specs.Hops.{strict_hop}
use Rattle.dom_base.proofs.Ranks.{same_addr as one_place}
use Rattle.dom_base.specs.AddrOrder.{rank}

abbrev pub Apart : ParentLink → ParentLink → Type 0
Apart a b = a.link.far ≢ b.link.far

-- the links of the parent are told apart by their far addresses
abbrev pub FarsDiffer : NetworkParts → Type 0
FarsDiffer n = AllPairs Apart n.parent_links

pub fars_of : (n : NetworkParts) → IsNetwork n → FarsDiffer n
fars_of n network i j d before below = (network.parent_links_differ i j d before below).0

one_link : (ls : List ParentLink) → Rising Apart ls → (l m : ParentLink) → Stands l ls → Stands m ls → l.link.far ≡ m.link.far → l ≡ m
one_link [] rising l m in-l in-m far = absurd in-l
one_link (x ∷ xs) rising l m (inl is-l) (inl is-m) far = is-l ∙ sym is-m
one_link (x ∷ xs) rising l m (inl is-l) (inr in-m) far = absurd (rising.0 m in-m (ap (λ (p : ParentLink). p.link.far) (sym is-l) ∙ far))
one_link (x ∷ xs) rising l m (inr in-l) (inl is-m) far = absurd (rising.0 l in-l (ap (λ (p : ParentLink). p.link.far) (sym is-m) ∙ sym far))
one_link (x ∷ xs) rising l m (inr in-l) (inr in-m) far = one_link xs rising.1 l m in-l in-m far

-- two places of a list
places : (bs bs' as' as'' : List ChildRow) (r s : ChildRow) → bs ++ r ∷ as' ≡ bs' ++ s ∷ as'' → (r ≡ s) ⊎ (Stands r bs' ⊎ Stands s bs)
places [] [] as' as'' r s e = inl (cc)
places [] (x ∷ xs) as' as'' r s e = inr (inl (inl (let same : r ≡ x = cc in same)))
places (b ∷ bs) [] as' as'' r s e = inr (inr (inl (let same : b ≡ s = cc in sym same)))
places (b ∷ bs) (x ∷ xs) as' as'' r s e =
    elim (places bs xs as' as'' r s (cc)) [ inl same ↦ inl same | inr other ↦ elim other [ inl there ↦ inr (inl (inr there)) | inr there ↦ inr (inr (inr there)) ] ]

one_first : (rows : List ChildRow) (r s : ChildRow) → IsFirstRow rows r → IsFirstRow rows s → r.at ≡ s.at → r.entry ≡ s.entry → r.target ≡ s.target → r.cost ≡ s.cost → r ≡ s
one_first rows r s f g at entry target cost =
    elim (places f.before g.before f.after g.after r s (sym f.is ∙ g.is)) [
      | inl same ↦ same
      | inr other ↦ elim other [
        | inl there ↦ absurd (g.first r (contains_of g.before r there) (at, entry, target, cost))
        | inr there ↦ absurd (f.first s (contains_of f.before s there) (sym at, sym entry, sym target, sym cost))
      ]
    ]

addr_is : (a b : Addr) → rank a ≡ rank b → a ≡ b
addr_is a b e = one_place a b e

module _ (j : BorderJob) (apart : Rising Apart j.links) where
  least_one : (v : Vertex) (c d : ℕ) → IsLeastTo j v c → IsLeastTo j v d → c ≡ d
  least_one v c d x y = let low = x.least y.walk d y.is_walk in let high = y.least x.walk c x.is_walk in omega (arith, low, high)

  pub record OneEdge (u w : Vertex) (x y : Edge) : Type 0 where
    pub vertex : u ≡ w
    pub edge : x ≡ y

  sums : (x y : Edge) (c r r' : ℕ) → c ≡ x.cost + r → c ≡ y.cost + r' → r ≡ r' → x.cost ≡ y.cost
  sums x y c r r' e f g = omega (arith, e, f, g)

  one_edge : (v u w : Vertex) (x y : Edge) (c r r' : ℕ) → IsEdge j v u x → IsEdge j v w y → x.choice ≡ y.choice → IsLeastTo j u r → IsLeastTo j w r' → c ≡ x.cost + r → c ≡ y.cost + r' → OneEdge u w x y
  one_edge (Enter a e) (Leave b t) (Leave b' t') x y c r r' f g choice least least' sum sum' =
      let row = f.0 in
      let other = g.0 in
      let ts : t ≡ t' = sym (ap (λ (z : Edge). z.choice) f.7) ∙ choice ∙ ap (λ (z : Edge). z.choice) g.7 in
      let bs : b ≡ b' = sym f.3 ∙ g.3 in
      let vertex : Leave b t ≡ Leave b' t' = ap (λ (z : As). Leave z t) bs ∙ ap (λ (z : Addr). Leave b' z) ts in
      let rests : r ≡ r' = least_one (Leave b' t') r r' (subst (λ (z : Vertex). IsLeastTo j z r) vertex least) least' in
      let cost : row.cost ≡ other.cost = sym (ap (λ (z : Edge). z.cost) f.7) ∙ sums x y c r r' sum sum' rests ∙ ap (λ (z : Edge). z.cost) g.7 in
      let rows : row ≡ other = one_first j.rows row other f.1 g.1 (f.2 ∙ sym g.2) (f.4 ∙ sym g.4) (f.5 ∙ ts ∙ sym g.5) cost in
      let made : Addr → ChildRow → Edge = λ z q. record { cost = q.cost; choice = z; hops = q.hops } in
      record { vertex = vertex; edge = f.7 ∙ ap (λ (z : Addr). made z row) ts ∙ ap (λ (q : ChildRow). made t' q) rows ∙ sym g.7 }
  one_edge (Enter a e) (Leave b t) (Enter b' t') x y c r r' f g choice least least' sum sum' = absurd g
  one_edge (Enter a e) (Enter b t) w x y c r r' f g choice least least' sum sum' = absurd f
  one_edge (Leave a m) (Enter b k) (Enter b' k') x y c r r' f g choice least least' sum sum' =
      let l = f.0 in
      let l' = g.0 in
      let fars : l.link.far ≡ l'.link.far = sym (ap (λ (z : Edge). z.choice) f.9) ∙ choice ∙ ap (λ (z : Edge). z.choice) g.9 in
      let same : l ≡ l' = one_link j.links apart l l' (stands_of j.links l f.1) (stands_of j.links l' g.1) fars in
      let vertex : Enter b k ≡ Enter b' k' = ap (λ (z : As). Enter z k) (sym f.4 ∙ ap (λ (p : ParentLink). p.to_as) same ∙ g.4) ∙ ap (λ (z : Addr). Enter b' z) (sym f.5 ∙ ap (λ (p : ParentLink). p.link.to) same ∙ g.5) in
      let made : ParentLink → Edge = λ p. record { cost = weight j.query.metric p.link; choice = p.link.far; hops = strict_hop p.link.far ∷ [] } in
      record { vertex = vertex; edge = f.9 ∙ ap made same ∙ sym g.9 }
  one_edge (Leave a m) (Enter b k) (Leave b' k') x y c r r' f g choice least least' sum sum' = absurd g
  one_edge (Leave a m) (Leave b k) w x y c r r' f g choice least least' sum sum' = absurd f

  shows_one : (us ws : List Vertex) (v : Vertex) (c : ℕ) (hs hs' : List Hop) → Shows j us v c hs → Shows j ws v c hs' → hs ≡ hs'
  shows_one [] [] v c hs hs' s t = s.1 ∙ sym t.1
  shows_one [] (w ∷ ws) v c hs hs' s t = absurd (t.goes_on s.0)
  shows_one (u ∷ us) [] v c hs hs' s t = absurd (s.goes_on t.0)
  shows_one (u ∷ us) (w ∷ ws) v c hs hs' s t =
      let low = s.least w t.edge t.rest t.tight in
      let high = t.least u s.edge s.rest s.tight in
      let choice : s.edge.choice ≡ t.edge.choice = addr_is s.edge.choice t.edge.choice (omega (arith, low, high)) in
      let one = one_edge v u w s.edge t.edge c s.rest t.rest s.tight.0 t.tight.0 choice s.tight.1 t.tight.1 s.tight.2 t.tight.2 in
      let rests : t.rest ≡ s.rest = least_one u t.rest s.rest (subst (λ (z : Vertex). IsLeastTo j z t.rest) (sym one.vertex) t.tight.1) s.tight.1 in
      let below : s.below ≡ t.below = shows_one us ws u s.rest s.below t.below s.shown
      (subst (λ (n : ℕ). Shows j ws u n t.below) rests (subst (λ (z : Vertex). Shows j ws z t.rest t.below) (sym one.vertex) t.shown)) in
      s.is_hops ∙ ap (λ (x : Edge). x.hops ++ s.below) one.edge ∙ ap (λ (l : List Hop). t.edge.hops ++ l) below ∙ sym t.is_hops

  pub one_answer : (a b : Option Found) → SolvesBorder j a → SolvesBorder j b → a ≡ b
  one_answer None None x y = refl
  one_answer None (Some f) x y = absurd (x y.0.walk f.cost y.0.is_walk y.1)
  one_answer (Some f) None x y = absurd (y x.0.walk f.cost x.0.is_walk x.1)
  one_answer (Some f) (Some f') x y =
      let cost : f.cost ≡ f'.cost = least_one (Enter j.start j.source) f.cost f'.cost x.0 y.0 in
      let hops : f.hops ≡ f'.hops = shows_one x.2 y.2 (Enter j.start j.source) f'.cost f.hops f'.hops (subst (λ (n : ℕ). Shows j x.2 (Enter j.start j.source) n f.hops) cost x.3) y.3 in
      let made : ℕ → List Hop → Option Found = λ n l. Some (record { cost = n; hops = l }) in
      ap (λ (n : ℕ). made n f.hops) cost ∙ ap (λ (l : List Hop). made f'.cost l) hops
