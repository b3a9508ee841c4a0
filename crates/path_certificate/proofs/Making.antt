-- What a link offers, and the nodes whose labels links make.
use Rattle.std.proofs.Common.{◌≡◌, ◌⊎◌, inl, inr, ℕ, ◌+◌, ◌<◌, ◌≤◌, List, Bool, true, false, length, set, sym, ◌∙◌, ap, subst, arith, None, Some, get_or-set_same, get_or-set_other}
use Rattle.std.specs.Prelude.{Contains, MatchOption, slice_get, slice_index_or}
use Rattle.std.specs.declared.option.Option.{Option}
use Rattle.std.proofs.lemmas.Bool.{cases_lt, cases_eq}
use Rattle.std.proofs.lemmas.Option.{slice_get_within, slice_get-get_or, get_or_from_slice_get}
use Rattle.dom_base.specs.declared.addr.Addr.{Addr}
use Rattle.dom_base.specs.declared.link.Link.{Link}
use Rattle.dom_base.specs.declared.query.Query.{Query}
use Rattle.dom_base.specs.declared.query.Label.{Label}
use Rattle.dom_base.specs.declared.query.Seed.{Seed}
use Rattle.dom_base.specs.Admission.{BarsNode}
use Rattle.te_links.specs.Rows.{Rows}
use Rattle.te_links.proofs.Ends.{one_place}
use Rattle.te_links.proofs.Rising.{AreRising}
use Rattle.walk_laws.specs.Labels.{EndsAt}
use Rattle.walk_laws.specs.Certificate.{Labelling, before, IsMadeBy, NodeHolds}
use Rattle.path_certificate.specs.declared.offers.Offer.{Offer}
use Rattle.path_certificate.specs.Claims.{NodeHoldsAt}
use Rattle.path_certificate.specs.Offers.{offered, IsOffer, MakesNode, AreMarks}

-- the row at a place
pub place_of : {X : Type 0} (xs : List X) (x : X) → Contains xs x → (i : ℕ) × (slice_get xs i ≡ Some x)
place_of xs x (k, below, is) = (k, slice_get-get_or xs k x below ∙ ap (λ y. Some y) is)

pub contains_at : {X : Type 0} (xs : List X) (i : ℕ) (x : X) → slice_get xs i ≡ Some x → Contains xs x
contains_at xs i x is = (i, slice_get_within xs i x is, get_or_from_slice_get xs i x x is)

-- a link makes the label of a node: what it offers is that label
pub made_is : (g : Rows) (q : Query) (label : Labelling) (i place : ℕ) (offer : Offer) → IsOffer g q label i offer → MakesNode g q label i place →
    (label offer.from ≡ Some (offered offer)) × (slice_get g.nodes place ≡ Some offer.from)
made_is g q label i place offer is m =
    let both : Some m.link ≡ Some is.link = sym m.at_link ∙ is.at_place.at_link in
    let same : m.link ≡ is.link = cc in
    let node : m.node ≡ offer.from = sym m.by_link.from ∙ ap (λ (l : Link). l.from) same ∙ sym is.from in
    let ends : Some m.by_link.rest ≡ Some offer.rest = sym m.by_link.at_end ∙ ap (λ (l : Link). label l.to) same ∙ is.at_end in
    let rest : m.by_link.rest ≡ offer.rest = cc in
    let made : m.made ≡ offered offer =
    m.by_link.sum ∙ ap (λ (l : Link). before q l m.by_link.rest) same ∙ ap (before q is.link) rest ∙ sym is.sum in (
      ap label (sym node) ∙ m.told ∙ ap (λ (a : Label). Some a) made,
      m.at_node ∙ ap (λ (n : Addr). Some n) node,
    )

-- and the other way round
pub makes : (g : Rows) (q : Query) (label : Labelling) (i place : ℕ) (offer : Offer) → IsOffer g q label i offer → label offer.from ≡ Some (offered offer) →
    slice_get g.nodes place ≡ Some offer.from → MakesNode g q label i place
makes g q label i place offer is told at_node = record {
  link = is.link;
  at_link = is.at_place.at_link;
  node = offer.from;
  at_node = at_node;
  made = offered offer;
  told = told;
  by_link = record {
    admitted = is.at_place.admitted;
    from = sym is.from;
    rest = offer.rest;
    at_end = is.at_end;
    sum = is.sum;
  };
}

-- a link makes the label of one node alone
one_node : (g : Rows) (q : Query) (label : Labelling) (i p r : ℕ) → AreRising g.nodes → MakesNode g q label i p → MakesNode g q label i r → p ≡ r
one_node g q label i p r up m n =
    let both : Some m.link ≡ Some n.link = sym m.at_link ∙ n.at_link in
    let same : m.link ≡ n.link = cc in
    let node : m.node ≡ n.node = sym m.by_link.from ∙ ap (λ (l : Link). l.from) same ∙ n.by_link.from in
    one_place g.nodes m.node p r up m.at_node (n.at_node ∙ ap (λ (a : Addr). Some a) (sym node))

pub marks_set : (g : Rows) (q : Query) (label : Labelling) (count place : ℕ) (marks : List Bool) → AreRising g.nodes → place < length marks →
    AreMarks g q label count marks → MakesNode g q label count place → AreMarks g q label (count + 1) (set marks place true)
marks_set g q label count place marks up inside old m = record {
  sound = λ p marked. elim (cases_eq p place) [
    | inl same ↦ subst (λ r. (i : ℕ) × MakesNode g q label i r) (sym same) (count, m)
    | inr differ ↦ old.sound p (sym (get_or-set_other marks place p true false differ) ∙ marked)
  ];
  whole = λ i p below n. elim (cases_eq p place) [
    | inl same ↦ subst (λ r. slice_index_or (set marks place true) r false ≡ true) (sym same) (get_or-set_same marks place true false inside)
    | inr differ ↦ elim (cases_lt i count) [
      | inl lt ↦ get_or-set_other marks place p true false differ ∙ old.whole i p lt n
      | inr ge ↦
          let last : i ≡ count = omega arith in
          absurd (differ (one_node g q label count p place up (subst (λ j. MakesNode g q label j p) last n) m))
    ]
  ];
}

pub marks_kept : (g : Rows) (q : Query) (label : Labelling) (count : ℕ) (marks : List Bool) →
    AreMarks g q label count marks → ((place : ℕ) → MakesNode g q label count place → ⊥) → AreMarks g q label (count + 1) marks
marks_kept g q label count marks old none = record {
  sound = old.sound;
  whole = λ i p below n. elim (cases_lt i count) [
    | inl lt ↦ old.whole i p lt n
    | inr ge ↦
        let last : i ≡ count = omega arith in
        absurd (none p (subst (λ j. MakesNode g q label j p) last n))
  ];
}

-- the marks tell of each node whether a link makes its label
pub marks_tell : (g : Rows) (q : Query) (label : Labelling) (marks : List Bool) (place : ℕ) → AreMarks g q label (length g.links) marks →
    (i : ℕ) × MakesNode g q label i place → slice_index_or marks place false ≡ true
marks_tell g q label marks place are (i, m) = are.whole i place (slice_get_within g.links i m.link m.at_link) m

-- a link that makes the label of the node at a place
pub made_by_link : (g : Rows) (q : Query) (label : Labelling) (i place : ℕ) (n : Addr) (a : Label) → slice_get g.nodes place ≡ Some n → label n ≡ Some a →
    MakesNode g q label i place → (l : Link) × IsMadeBy g q label n a l
made_by_link g q label i place n a at_n told m =
    let nodes : Some m.node ≡ Some n = sym m.at_node ∙ at_n in
    let node : m.node ≡ n = cc in
    let labels : Some m.made ≡ Some a = sym m.told ∙ ap label node ∙ told in
    let made : m.made ≡ a = cc in
    (m.link, subst (λ (k : Addr). IsMadeBy g q label k a m.link) node (subst (λ (b : Label). IsMadeBy g q label m.node b m.link) made m.by_link))

pub link_makes : (g : Rows) (q : Query) (label : Labelling) (place : ℕ) (n : Addr) (a : Label) (l : Link) → slice_get g.nodes place ≡ Some n → label n ≡ Some a →
    IsMadeBy g q label n a l → (i : ℕ) × MakesNode g q label i place
link_makes g q label place n a l at_n told by =
    let at = place_of g.links l by.admitted.is_link in
    (at.0, record { link = l; at_link = at.1; node = n; at_node = at_n; made = a; told = told; by_link = by })

-- the condition of a node with a label
abbrev pub MayHave : Query → List Seed → Addr → Label → Type 0 → Type 0
MayHave q seeds n a Made = (BarsNode q n → ⊥) × (a.cost ≤ q.cap) × (EndsAt seeds n a ⊎ Made)

pub node_holds : (g : Rows) (q : Query) (seeds : List Seed) (label : Labelling) (place : ℕ) (n : Addr) (a : Label) → slice_get g.nodes place ≡ Some n → label n ≡ Some a →
    MayHave q seeds n a ((i : ℕ) × MakesNode g q label i place) → NodeHoldsAt g q seeds label place
node_holds g q seeds label place n a at_n told may = λ m b at_m told_m.
    let nodes : Some n ≡ Some m = sym at_n ∙ at_m in
    let node : n ≡ m = cc in
    let labels : Some a ≡ Some b = sym told ∙ ap label node ∙ told_m in
    let same : a ≡ b = cc in
    let here : NodeHolds g q seeds label n a = record {
      admitted = record { is_node = contains_at g.nodes place n at_n; free = may.0 };
      within = may.1;
      made = elim may.2 [ inl ends ↦ inl ends | inr m ↦ inr (made_by_link g q label m.0 place n a at_n told m.1) ];
    } in
    subst (λ (k : Addr). NodeHolds g q seeds label k b) node (subst (λ (c : Label). NodeHolds g q seeds label n c) same here)

pub node_may : (g : Rows) (q : Query) (seeds : List Seed) (label : Labelling) (place : ℕ) (n : Addr) (a : Label) → slice_get g.nodes place ≡ Some n → label n ≡ Some a →
    NodeHoldsAt g q seeds label place → MayHave q seeds n a ((i : ℕ) × MakesNode g q label i place)
node_may g q seeds label place n a at_n told holds =
    let here = holds n a at_n told in
    (here.admitted.free, here.within, elim here.made [ inl ends ↦ inl ends | inr by ↦ inr (link_makes g q label place n a by.0 at_n told by.1) ])

-- the place of a link's beginning, where what is offered is the label that stands there
pub found_node : (g : Rows) (q : Query) (label : Labelling) (i : ℕ) (offer : Offer) (told : Label) (o : Option ℕ) → IsOffer g q label i offer →
    label offer.from ≡ Some told → told ≡ offered offer → MatchOption o (Contains g.nodes offer.from → ⊥) (λ p. slice_get g.nodes p ≡ Some offer.from) →
    MatchOption o ((place : ℕ) → MakesNode g q label i place → ⊥) (MakesNode g q label i)
found_node g q label i offer told None is at_from same none =
    absurd (none (subst (Contains g.nodes) (sym is.from) is.at_place.admitted.from.is_node))
found_node g q label i offer told (Some p) is at_from same at_node =
    makes g q label i p offer is (at_from ∙ ap (λ (a : Label). Some a) same) at_node
