-- Far addresses that lead on from a node, one step and many.
use Rattle.std.proofs.Common.{◌≡◌, inl, inr, ℕ, ◌+◌, ◌<◌, ◌≤◌, List, [], ◌∷◌, ◌++◌, length, take, drop, refl, sym, ◌∙◌, ap, subst, arith, Some, get_or}
use Rattle.std.specs.Prelude.{Contains}
use Rattle.std.proofs.lemmas.Bool.{cases_lt}
use Rattle.std.proofs.lemmas.List.{get_or_default, take_all, take-take, take_more, take-append-drop}
use Rattle.dom_base.specs.AddrOrder.{rank}
use Rattle.dom_base.specs.declared.addr.Addr.{Addr}
use Rattle.dom_base.specs.declared.link.Link.{Link}
use Rattle.dom_base.specs.declared.query.Query.{Query}
use Rattle.dom_base.specs.declared.query.Seed.{Seed}
use Rattle.dom_base.specs.declared.query.Label.{Label}
use Rattle.te_links.specs.Rows.{Rows, IsTopology, IsInOrder, IsInnerLink}
use Rattle.walk_laws.specs.Labels.{EndsAt}
use Rattle.walk_laws.specs.Certificate.{Labelling, before, IsMadeBy, Leads}
use Rattle.walk_laws.proofs.Reached.{weight_positive}
use Rattle.std.proofs.lemmas.List.Elements.{All-contains}
use Rattle.path_certificate.specs.declared.offers.Offer.{Offer}
use Rattle.path_certificate.specs.Claims.{LeadsByLabels, LeadsOver}
use Rattle.te_links.specs.Index.{IsLinkAt}
use Rattle.path_certificate.specs.Offers.{offered, IsOffer, IsNoOffer}
use Rattle.path_certificate.proofs.Making.{place_of, contains_at}

-- links with the same far address are the same
pub same_link : (g : Rows) (l m : Link) → IsInOrder g → Contains g.links l → Contains g.links m → l.far ≡ m.far → l ≡ m
same_link g l m order (i, below_i, at_i) (j, below_j, at_j) fars =
    let number : rank l.far ≡ rank m.far = ap rank fars in
    let far : Link → ℕ = λ k. rank k.far in
    let at_j' : get_or g.links j l ≡ m = get_or_default g.links j l m below_j ∙ at_j in
    let at_i' : get_or g.links i m ≡ l = get_or_default g.links i m l below_i ∙ at_i in
    elim (cases_lt i j) [
      | inl lt ↦ absurd (omega (arith, order.links i j l lt below_j, ap far at_i, ap far at_j', number))
      | inr ge ↦ elim (cases_lt j i) [
        | inl gt ↦ absurd (omega (arith, order.links j i m gt below_i, ap far at_j, ap far at_i', number))
        | inr le ↦ let same : i ≡ j = omega arith in sym at_i ∙ ap (λ k. get_or g.links k l) same ∙ at_j'
      ]
    ]

-- one step needs a link with the far address
pub no_link : (g : Rows) (q : Query) (label : Labelling) (n : Addr) (a : Label) (far : Addr) → ((i : ℕ) → IsLinkAt g.links far i → ⊥) →
    (m : Addr) (b : Label) → LeadsByLabels g q label n a (far ∷ []) m b → ⊥
no_link g q label n a far none m b leads =
    let at = place_of g.links leads.0 leads.2.0.admitted.is_link in
    none at.0 (record { link = leads.0; at_link = at.1; same_far = leads.1 })

-- the link of a step is the one at its place
step_link : (g : Rows) (q : Query) (label : Labelling) (n : Addr) (a : Label) (far : Addr) (i : ℕ) → IsInOrder g → (at : IsLinkAt g.links far i) →
    (m : Addr) (b : Label) → (leads : LeadsByLabels g q label n a (far ∷ []) m b) → at.link ≡ leads.0
step_link g q label n a far i order at m b leads =
    same_link g at.link leads.0 order (contains_at g.links i at.link at.at_link) leads.2.0.admitted.is_link (at.same_far ∙ sym leads.1)

pub no_offer : (g : Rows) (q : Query) (label : Labelling) (n : Addr) (a : Label) (far : Addr) (i : ℕ) → IsInOrder g → IsLinkAt g.links far i → IsNoOffer g q label i →
    (m : Addr) (b : Label) → LeadsByLabels g q label n a (far ∷ []) m b → ⊥
no_offer g q label n a far i order at none m b leads =
    let same : at.link ≡ leads.0 = step_link g q label n a far i order at m b leads in
    let made : IsMadeBy g q label n a leads.0 = leads.2.0 in
    none leads.0 made.rest (record { at_link = at.at_link ∙ ap (λ (l : Link). Some l) same; admitted = made.admitted }) made.at_end

-- a step takes what the link offers
pub step_is : (g : Rows) (q : Query) (label : Labelling) (n : Addr) (a : Label) (far : Addr) (i : ℕ) (offer : Offer) → IsInOrder g → IsLinkAt g.links far i → IsOffer g q label i offer →
    (m : Addr) (b : Label) → LeadsByLabels g q label n a (far ∷ []) m b → (offer.from ≡ n) × (a ≡ offered offer)
step_is g q label n a far i offer order at is m b leads =
    let same : at.link ≡ leads.0 = step_link g q label n a far i order at m b leads in
    let both : Some is.link ≡ Some at.link = sym is.at_place.at_link ∙ at.at_link in
    let one : is.link ≡ at.link = cc in
    let link : is.link ≡ leads.0 = one ∙ same in
    let made : IsMadeBy g q label n a leads.0 = leads.2.0 in
    let ends : Some made.rest ≡ Some offer.rest = sym made.at_end ∙ ap (λ (l : Link). label l.to) (sym link) ∙ is.at_end in
    let rest : made.rest ≡ offer.rest = cc in (
      is.from ∙ ap (λ (l : Link). l.from) link ∙ made.from,
      made.sum ∙ ap (λ (l : Link). before q l made.rest) (sym link) ∙ ap (before q is.link) rest ∙ sym is.sum,
    )

pub step_made : (g : Rows) (q : Query) (label : Labelling) (n : Addr) (a : Label) (far : Addr) (i : ℕ) (offer : Offer) → IsLinkAt g.links far i → IsOffer g q label i offer →
    offer.from ≡ n → a ≡ offered offer → LeadsByLabels g q label n a (far ∷ []) offer.to offer.rest
step_made g q label n a far i offer at is from sum =
    let both : Some is.link ≡ Some at.link = sym is.at_place.at_link ∙ at.at_link in
    let one : is.link ≡ at.link = cc in (
      is.link,
      ap (λ (l : Link). l.far) one ∙ at.same_far,
      (
        record { admitted = is.at_place.admitted; from = sym is.from ∙ from; rest = offer.rest; at_end = is.at_end; sum = sum ∙ is.sum },
        (sym is.to, refl),
      ),
    )

-- where the far addresses lead to is one node with one label
pub leads_once : (g : Rows) (q : Query) (label : Labelling) (fars : List Addr) (n : Addr) (a : Label) (m : Addr) (b : Label) (m' : Addr) (b' : Label) → IsInOrder g →
    LeadsByLabels g q label n a fars m b → LeadsByLabels g q label n a fars m' b' → (m ≡ m') × (b ≡ b')
leads_once g q label [] n a m b m' b' order one other = (sym one.0 ∙ other.0, sym one.1 ∙ other.1)
leads_once g q label (far ∷ fars) n a m b m' b' order one other =
    let l = one.0 in
    let l' = other.0 in
    let made : IsMadeBy g q label n a l = one.2.0 in
    let made' : IsMadeBy g q label n a l' = other.2.0 in
    let same : l' ≡ l = same_link g l' l order made'.admitted.is_link made.admitted.is_link (other.1 ∙ sym one.1) in
    let ends : Some made'.rest ≡ Some made.rest = sym made'.at_end ∙ ap (λ (k : Link). label k.to) same ∙ made.at_end in
    let rest : made'.rest ≡ made.rest = cc in
    let to : l'.to ≡ l.to = ap (λ (k : Link). k.to) same in
    let there : LeadsByLabels g q label l.to made.rest fars m' b' =
    subst (λ (c : Label). LeadsByLabels g q label l.to c fars m' b') rest (subst (λ (k : Addr). LeadsByLabels g q label k made'.rest fars m' b') to other.2.1) in
    leads_once g q label fars l.to made.rest m b m' b' order one.2.1 there

-- one way after another
pub leads_on : (g : Rows) (q : Query) (label : Labelling) (fars more : List Addr) (n : Addr) (a : Label) (m : Addr) (b : Label) (k : Addr) (c : Label) →
    LeadsByLabels g q label n a fars m b → LeadsByLabels g q label m b more k c → LeadsByLabels g q label n a (fars ++ more) k c
leads_on g q label [] more n a m b k c one next =
    subst (λ (u : Addr). LeadsByLabels g q label u a more k c) (sym one.0) (subst (λ (d : Label). LeadsByLabels g q label m d more k c) (sym one.1) next)
leads_on g q label (far ∷ fars) more n a m b k c one next =
    (one.0, one.1, (one.2.0, leads_on g q label fars more one.0.to one.2.0.rest m b k c one.2.1 next))

-- a way is cut in two
pub record Halves (g : Rows) (q : Query) (label : Labelling) (n : Addr) (a : Label) (fars more : List Addr) (k : Addr) (c : Label) : Type 0 where
  pub node : Addr
  pub rest : Label
  pub first : LeadsByLabels g q label n a fars node rest
  pub second : LeadsByLabels g q label node rest more k c

pub halves : (g : Rows) (q : Query) (label : Labelling) (fars more : List Addr) (n : Addr) (a : Label) (k : Addr) (c : Label) →
    LeadsByLabels g q label n a (fars ++ more) k c → Halves g q label n a fars more k c
halves g q label [] more n a k c leads = record { node = n; rest = a; first = (refl, refl); second = leads }
halves g q label (far ∷ fars) more n a k c leads =
    let h = halves g q label fars more leads.0.to leads.2.0.rest k c leads.2.1 in
    record { node = h.node; rest = h.rest; first = (leads.0, leads.1, (leads.2.0, h.first)); second = h.second }

-- as far as the first k far addresses lead, fewer of them lead too
pub leads_shorter : (g : Rows) (q : Query) (seeds : List Seed) (label : Labelling) (fars : List Addr) (j k : ℕ) (n : Addr) (a : Label) (m : Addr) (b : Label) →
    j < k → k ≤ length fars → LeadsByLabels g q label n a (take k fars) m b → LeadsOver g q seeds label n a fars j
leads_shorter g q seeds label fars j k n a m b before within leads =
    let cut : take j fars ++ drop j (take k fars) ≡ take k fars =
    ap (λ xs. xs ++ drop j (take k fars)) (sym (take-take j k fars (omega arith))) ∙ take-append-drop j (take k fars) in
    let h = halves g q label (take j fars) (drop j (take k fars)) n a m b (subst (λ xs. LeadsByLabels g q label n a xs m b) (sym cut) leads) in
    record { node = h.node; rest = h.rest; leads = h.first; ends = λ long. absurd (omega arith) }

pub leads_within : (g : Rows) (q : Query) (seeds : List Seed) (label : Labelling) (fars : List Addr) (j k : ℕ) (n : Addr) (a : Label) (m : Addr) (b : Label) →
    j ≤ k → k < length fars → LeadsByLabels g q label n a (take k fars) m b → LeadsOver g q seeds label n a fars j
leads_within g q seeds label fars j k n a m b within below leads =
    elim (cases_lt j k) [
      | inl lt ↦ leads_shorter g q seeds label fars j k n a m b lt (omega arith) leads
      | inr ge ↦
          let same : k ≡ j = omega arith in
          record { node = m; rest = b; leads = subst (λ i. LeadsByLabels g q label n a (take i fars) m b) same leads; ends = λ long. absurd (omega arith) }
    ]

-- the next far address doesn't lead on
pub stops_at : (g : Rows) (q : Query) (seeds : List Seed) (label : Labelling) (fars : List Addr) (k : ℕ) (n : Addr) (a : Label) (m : Addr) (b : Label) (far : Addr) → IsInOrder g →
    k < length fars → far ≡ get_or fars k far → LeadsByLabels g q label n a (take k fars) m b → ((u : Addr) (c : Label) → LeadsByLabels g q label m b (far ∷ []) u c → ⊥) →
    LeadsOver g q seeds label n a fars (k + 1) → ⊥
stops_at g q seeds label fars k n a m b far order below is leads none over =
    let more : take (k + 1) fars ≡ take k fars ++ far ∷ [] = take_more fars k far below ∙ ap (λ f. take k fars ++ f ∷ []) (sym is) in
    let h = halves g q label (take k fars) (far ∷ []) n a over.node over.rest (subst (λ xs. LeadsByLabels g q label n a xs over.node over.rest) more over.leads) in
    let one = leads_once g q label (take k fars) n a h.node h.rest m b order h.first leads in
    none over.node over.rest
    (subst (λ (u : Addr). LeadsByLabels g q label u b (far ∷ []) over.node over.rest) one.0
    (subst (λ (c : Label). LeadsByLabels g q label h.node c (far ∷ []) over.node over.rest) one.1 h.second))

-- the next far address leads on
pub goes_on : (g : Rows) (q : Query) (label : Labelling) (fars : List Addr) (k : ℕ) (n : Addr) (a : Label) (m : Addr) (b : Label) (u : Addr) (c : Label) (far : Addr) →
    k < length fars → far ≡ get_or fars k far → LeadsByLabels g q label n a (take k fars) m b → LeadsByLabels g q label m b (far ∷ []) u c →
    LeadsByLabels g q label n a (take (k + 1) fars) u c
goes_on g q label fars k n a m b u c far below is leads next =
    let more : take (k + 1) fars ≡ take k fars ++ far ∷ [] = take_more fars k far below ∙ ap (λ f. take k fars ++ f ∷ []) (sym is) in
    subst (λ xs. LeadsByLabels g q label n a xs u c) (sym more) (leads_on g q label (take k fars) (far ∷ []) n a m b u c leads next)

-- a step falls, since each link weighs at least 1
pub step_falls : (g : Rows) (q : Query) (label : Labelling) (n : Addr) (a : Label) (far : Addr) (m : Addr) (b : Label) → IsTopology g → LeadsByLabels g q label n a (far ∷ []) m b →
    b.cost < a.cost
step_falls g q label n a far m b valid leads =
    let made : IsMadeBy g q label n a leads.0 = leads.2.0 in
    let inner : IsInnerLink g.nodes leads.0 = All-contains (IsInnerLink g.nodes) g.links leads.0 valid.links made.admitted.is_link in
    omega (arith, weight_positive g.nodes q.metric leads.0 inner, ap (λ (c : Label). c.cost) made.sum, ap (λ (c : Label). c.cost) leads.2.1.1)

-- all far addresses lead to where no seed ends
pub not_ended : (g : Rows) (q : Query) (seeds : List Seed) (label : Labelling) (fars : List Addr) (k : ℕ) (n : Addr) (a : Label) (m : Addr) (b : Label) → IsInOrder g →
    length fars ≤ k → LeadsByLabels g q label n a (take k fars) m b → (EndsAt seeds m b → ⊥) → LeadsOver g q seeds label n a fars k → ⊥
not_ended g q seeds label fars k n a m b order long leads none over =
    let one = leads_once g q label (take k fars) n a over.node over.rest m b order over.leads leads in
    none (subst (λ (u : Addr). EndsAt seeds u b) one.0 (subst (λ (c : Label). EndsAt seeds over.node c) one.1 (over.ends long)))

-- all far addresses lead to a seed
pub ended : (g : Rows) (q : Query) (seeds : List Seed) (label : Labelling) (fars : List Addr) (k : ℕ) (n : Addr) (a : Label) (m : Addr) (b : Label) →
    length fars ≤ k → LeadsByLabels g q label n a (take k fars) m b → EndsAt seeds m b → (j : ℕ) → LeadsOver g q seeds label n a fars j
ended g q seeds label fars k n a m b long leads ends j =
    let whole : LeadsByLabels g q label n a fars m b = subst (λ xs. LeadsByLabels g q label n a xs m b) (take_all k fars long) leads in
    elim (cases_lt j (length fars)) [
      | inl lt ↦ leads_shorter g q seeds label fars j (length fars) n a m b lt (omega arith) (subst (λ xs. LeadsByLabels g q label n a xs m b) (sym (take_all (length fars) fars (omega arith))) whole)
      | inr ge ↦ record { node = m; rest = b; leads = subst (λ xs. LeadsByLabels g q label n a xs m b) (sym (take_all j fars ge)) whole; ends = λ _. ends }
    ]

-- far addresses that lead to a seed, in the words of a certificate
leads_ended : (g : Rows) (q : Query) (seeds : List Seed) (label : Labelling) (fars : List Addr) (n : Addr) (a : Label) (m : Addr) (b : Label) →
    LeadsByLabels g q label n a fars m b → EndsAt seeds m b → Leads g q seeds label n a fars
leads_ended g q seeds label [] n a m b leads ends =
    subst (λ (u : Addr). EndsAt seeds u a) (sym leads.0) (subst (λ (c : Label). EndsAt seeds m c) (sym leads.1) ends)
leads_ended g q seeds label (far ∷ fars) n a m b leads ends =
    (leads.0, leads.1, (leads.2.0, leads_ended g q seeds label fars leads.0.to leads.2.0.rest m b leads.2.1 ends))

pub over_all : (g : Rows) (q : Query) (seeds : List Seed) (label : Labelling) (fars : List Addr) (n : Addr) (a : Label) →
    ((k : ℕ) → LeadsOver g q seeds label n a fars k) → Leads g q seeds label n a fars
over_all g q seeds label fars n a over =
    let all = over (length fars) in
    let whole : LeadsByLabels g q label n a fars all.node all.rest = subst (λ xs. LeadsByLabels g q label n a xs all.node all.rest) (take_all (length fars) fars (omega arith)) all.leads in
    leads_ended g q seeds label fars n a all.node all.rest whole (all.ends (omega arith))

-- and back
record Arrives (g : Rows) (q : Query) (seeds : List Seed) (label : Labelling) (n : Addr) (a : Label) (fars : List Addr) : Type 0 where
  node : Addr
  rest : Label
  leads : LeadsByLabels g q label n a fars node rest
  ends : EndsAt seeds node rest

arrives : (g : Rows) (q : Query) (seeds : List Seed) (label : Labelling) (fars : List Addr) (n : Addr) (a : Label) → Leads g q seeds label n a fars →
    Arrives g q seeds label n a fars
arrives g q seeds label [] n a leads = record { node = n; rest = a; leads = (refl, refl); ends = leads }
arrives g q seeds label (far ∷ fars) n a leads =
    let r = arrives g q seeds label fars leads.0.to leads.2.0.rest leads.2.1 in
    record { node = r.node; rest = r.rest; leads = (leads.0, leads.1, (leads.2.0, r.leads)); ends = r.ends }

pub all_over : (g : Rows) (q : Query) (seeds : List Seed) (label : Labelling) (fars : List Addr) (n : Addr) (a : Label) → Leads g q seeds label n a fars →
    (k : ℕ) → LeadsOver g q seeds label n a fars k
all_over g q seeds label fars n a leads k =
    let r = arrives g q seeds label fars n a leads in
    ended g q seeds label fars (length fars) n a r.node r.rest (omega arith)
    (subst (λ xs. LeadsByLabels g q label n a xs r.node r.rest) (sym (take_all (length fars) fars (omega arith))) r.leads) r.ends k
