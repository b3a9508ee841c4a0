-- Whether a link is admitted is decided by its row, the exclusions and the nodes that are barred.
use Rattle.std.proofs.Common.{◌≡◌, ◌⊎◌, ◌≤◌, ◌-◌, ◌/◌, ◌^◌, inl, inr, ℕ, zero, suc, Bool, true, false, List, [], ◌∷◌, length, ap, Some, arith, refl, subst, sym, ◌∙◌}
use Rattle.std.specs.Prelude.{Contains, bit_and, slice_get}
use Rattle.std.proofs.lemmas.Bool.{cases_lt}
use Rattle.std.proofs.lemmas.Bool.Decides.{eqb_tells}
use Rattle.std.proofs.lemmas.List.Elements.{All-contains}
use Rattle.dom_base.specs.Admission.{Fits, LiesIn, NamesLink, BarsLink, Allows, weight}
use Rattle.dom_base.specs.declared.addr.Addr.{Addr}
use Rattle.dom_base.specs.declared.addr.Addr.TheVariants.{V4, V6}
use Rattle.dom_base.specs.declared.link.Link.{Link}
use Rattle.dom_base.specs.declared.query.Query.{Query}
use Rattle.dom_base.specs.declared.query.Exclusion.{Exclusion}
use Rattle.dom_base.specs.declared.query.Excluded.{Excluded}
use Rattle.dom_base.specs.declared.query.Excluded.TheVariants.{Prefix, AsNumber, Srlg, Other}
use Rattle.te_links.specs.Rows.{Rows, IsTopology, IsInnerLink}
use Rattle.walk_laws.specs.Walks.{AdmitsNode}
use Rattle.path_search.specs.declared.arc.Arc.{Arc}
use Rattle.path_search.specs.Asked.{is_barred, AreBarred}
use Rattle.path_search.specs.Arcs.{IsRelaxed}
use Rattle.path_search.specs.Search.{IsArcOf, IsNoArc, IsIdle}
use Rattle.path_search.specs.Reading.{IsArcAt}
use Rattle.std.specs.declared.option.Option.{Option}
use Rattle.dom_base.specs.declared.query.Label.{Label}
use Rattle.path_search.proofs.Places.{contains_at, place_of, same_place}
use Rattle.path_search.proofs.Choosing.{link_admitted}
use Rattle.path_search.proofs.Barring.{barred_no_arc}

-- it holds, or it does not
abbrev Decided : Type 0 → Type 0
Decided P = P ⊎ (P → ⊥)

both : (P Q : Type 0) → Decided P → Decided Q → Decided (P × Q)
both P Q (inl p) (inl q) = inl (p, q)
both P Q (inl p) (inr never) = inr (λ pq. never pq.1)
both P Q (inr never) d = inr (λ pq. never pq.0)

either : (P Q : Type 0) → Decided P → Decided Q → Decided (P ⊎ Q)
either P Q (inl p) d = inl (inl p)
either P Q (inr never) (inl q) = inl (inr q)
either P Q (inr never) (inr none) = inr (λ pq. elim pq [ inl p ↦ never p | inr q ↦ none q ])

same : (a b : ℕ) → Decided (a ≡ b)
same a b = elim (eqb_tells a b) [ inl is ↦ inl is.1 | inr differs ↦ inr differs.1 ]

at_least : (a b : ℕ) → Decided (a ≤ b)
at_least a b = elim (cases_lt b a) [ inl lt ↦ inr (λ le. omega (arith, lt, le)) | inr ge ↦ inl ge ]

-- some element of a list has a property, or none has
some_of : {X : Type 0} (P : X → Type 0) → ((x : X) → Decided (P x)) → (xs : List X) → Decided ((x : X) × (Contains xs x × P x))
some_of {X = X} P decide [] = inr (λ some. absurd (let at = some.1.0 in omega (arith, at.1)))
some_of {X = X} P decide (y ∷ ys) = go (decide y) (some_of P decide ys)
  where
    later : (x : X) → Contains ys x → Contains (y ∷ ys) x
    later x (k, lt, is) = (suc k, omega (arith, lt), is)

    go : Decided (P y) → Decided ((x : X) × (Contains ys x × P x)) → Decided ((x : X) × (Contains (y ∷ ys) x × P x))
    go (inl here) d = inl (y, ((zero, omega arith, refl), here))
    go (inr never) (inl some) = inl (some.0, (later some.0 some.1.0, some.1.1))
    go (inr never) (inr none) = inr (λ some. first some.0 some.1.1 some.1.0)
      where
        first : (x : X) → P x → Contains (y ∷ ys) x → ⊥
        first x p (zero, lt, is) = never (subst P (sym is) p)
        first x p (suc k, lt, is) = none (x, ((k, omega (arith, lt), is), p))

member : (xs : List ℕ) (n : ℕ) → Decided (Contains xs n)
member xs n =
    elim (some_of (λ x. x ≡ n) (λ x. same x n) xs) [
      | inl some ↦ inl (subst (Contains xs) some.1.1 some.1.0)
      | inr none ↦ inr (λ has. none (n, (has, refl)))
    ]

lies : (a prefix : Addr) (n : ℕ) → Decided (LiesIn a prefix n)
lies (V4 a) (V4 b) n = same (a / 2 ^ (32 - n)) (b / 2 ^ (32 - n))
lies (V6 a) (V6 b) n = same (a / 2 ^ (128 - n)) (b / 2 ^ (128 - n))
lies (V4 a) (V6 b) n = inr (λ x. x)
lies (V6 a) (V4 b) n = inr (λ x. x)

names : (what : Excluded) (l : Link) → Decided (NamesLink what l)
names (Prefix addr length attribute) l =
    both (attribute ≡ 0) (LiesIn l.near addr length ⊎ LiesIn l.far addr length) (same attribute 0)
    (either (LiesIn l.near addr length) (LiesIn l.far addr length) (lies l.near addr length) (lies l.far addr length))
names (Srlg number) l = member l.srlgs number
names (AsNumber number) l = inr (λ x. x)
names (Other kind body) l = inr (λ x. x)

is_false : (b : Bool) → Decided (b ≡ false)
is_false false = inl refl
is_false true = inr (λ is. let bad : true ≡ false = is in cc)

bars : (q : Query) (l : Link) → Decided (BarsLink q l)
bars q l = go (some_of P decide q.exclusions)
  where
    P : Exclusion → Type 0
    P row = (row.avoid ≡ false) × NamesLink row.what l

    decide : (row : Exclusion) → Decided (P row)
    decide row = both (row.avoid ≡ false) (NamesLink row.what l) (is_false row.avoid) (names row.what l)

    go : Decided ((row : Exclusion) × (Contains q.exclusions row × P row)) → Decided (BarsLink q l)
    go (inl some) = inl (record { row = some.0; is_row = some.1.0; strict = some.1.1.0; names = some.1.1.1 })
    go (inr none) = inr (λ b. none (b.row, (b.is_row, (b.strict, b.names))))

fits : (q : Query) (l : Link) → Decided (Fits q l)
fits q l =
    go (at_least q.bandwidth l.bytes_per_second) (same (bit_and l.colour q.exclude_any) 0)
    (either (q.include_any ≡ 0) (1 ≤ bit_and l.colour q.include_any) (same q.include_any 0) (at_least 1 (bit_and l.colour q.include_any)))
    (same (bit_and l.colour q.include_all) q.include_all)
  where
    go : Decided (q.bandwidth ≤ l.bytes_per_second) → Decided (bit_and l.colour q.exclude_any ≡ 0) →
        Decided ((q.include_any ≡ 0) ⊎ (1 ≤ bit_and l.colour q.include_any)) → Decided (bit_and l.colour q.include_all ≡ q.include_all) → Decided (Fits q l)
    go (inl a) (inl b) (inl c) (inl d) = inl (record { bandwidth = a; exclude_any = b; include_any = c; include_all = d })
    go (inr never) b c d = inr (λ f. never f.bandwidth)
    go (inl a) (inr never) c d = inr (λ f. never f.exclude_any)
    go (inl a) (inl b) (inr never) d = inr (λ f. never f.include_any)
    go (inl a) (inl b) (inl c) (inr never) = inr (λ f. never f.include_all)

allowed : (q : Query) (l : Link) → Decided (Allows q l)
allowed q l = go (fits q l) (bars q l)
  where
    go : Decided (Fits q l) → Decided (BarsLink q l) → Decided (Allows q l)
    go (inl is) (inr free) = inl (record { fits = is; free = free })
    go (inr never) b = inr (λ a. never a.fits)
    go (inl is) (inl barred) = inr (λ a. a.free barred)

-- a link that is not allowed is not admitted
pub not_allowed : (g : Rows) (q : Query) (p : ℕ) (l : Link) → slice_get g.links p ≡ Some l → (Allows q l → ⊥) → IsNoArc g q p
not_allowed g q p l at never m at_m admitted =
    let one : Some l ≡ Some m = sym at ∙ at_m in
    let same_link : m ≡ l = cc in
    never (subst (Allows q) same_link admitted.allowed)

-- the link at a place has an arc, or is not admitted
pub link_or_none : (g : Rows) (q : Query) (barred : List Bool) (p : ℕ) (l : Link) → IsTopology g → AreBarred g q barred → slice_get g.links p ≡ Some l →
    IsNoArc g q p ⊎ ((a : Arc) × IsArcOf g q p a)
link_or_none g q barred p l valid are at =
    go (allowed q l) (is_barred barred tail.0) refl (is_barred barred head.0) refl
  where
    inner : IsInnerLink g.nodes l
    inner = All-contains (IsInnerLink g.nodes) g.links l valid.links (contains_at g.links p l at)

    tail : (i : ℕ) × (slice_get g.nodes i ≡ Some l.from)
    tail = place_of g.nodes l.from inner.link.from

    head : (i : ℕ) × (slice_get g.nodes i ≡ Some l.to)
    head = place_of g.nodes l.to inner.to

    none_at : (is_barred barred tail.0 ≡ true) ⊎ (is_barred barred head.0 ≡ true) → IsNoArc g q p
    none_at barred_end = barred_no_arc g q barred l tail.0 head.0 p are at tail.1 (record { link = l; at_link = at; at_node = head.1 }) barred_end

    open_at : (i : ℕ) (n : Addr) → slice_get g.nodes i ≡ Some n → is_barred barred i ≡ false → AdmitsNode g q n
    open_at i n at_i free = record {
      is_node = contains_at g.nodes i n at_i;
      free = λ bars_it. let bad : false ≡ true = sym free ∙ (are i n at_i).1 bars_it in cc;
    }

    go : Decided (Allows q l) → (b : Bool) → is_barred barred tail.0 ≡ b → (c : Bool) → is_barred barred head.0 ≡ c → IsNoArc g q p ⊎ ((a : Arc) × IsArcOf g q p a)
    go (inr never) b is_b c is_c = inl (not_allowed g q p l at never)
    go (inl is) true is_b c is_c = inl (none_at (inl is_b))
    go (inl is) false is_b true is_c = inl (none_at (inr is_c))
    go (inl is) false is_b false is_c = inr (
      record { tail = tail.0; head = head.0; weight = weight q.metric l; link = p },
      record {
        same_index = refl;
        link = l;
        at_link = at;
        admitted = link_admitted g q l p at is (open_at tail.0 l.from tail.1 is_b) (open_at head.0 l.to head.1 is_c);
        tail = tail.1;
        head = head.1;
        weight = refl;
      },
    )

-- a link that is not admitted has no arc to relax
pub idle_none : (g : Rows) (q : Query) (labels : List (Option Label)) (p : ℕ) → IsNoArc g q p → IsIdle g q labels p
idle_none g q labels p none a of = absurd (none of.link of.at_link of.admitted)

-- the arc of a link is one
same_arc : (g : Rows) (q : Query) (p : ℕ) (a b : Arc) → IsTopology g → IsArcOf g q p a → IsArcAt g q.metric p b → a ≡ b
same_arc g q p a b valid of at =
    let one : Some of.link ≡ Some at.link = sym of.at_link ∙ at.at_link in
    let link_is : of.link ≡ at.link = cc in
    let tail : a.tail ≡ b.tail = same_place g.nodes valid.nodes_differ a.tail b.tail at.link.from (of.tail ∙ ap (λ (m : Link). Some m.from) link_is) at.tail in
    let head : a.head ≡ b.head = same_place g.nodes valid.nodes_differ a.head b.head at.link.to (of.head ∙ ap (λ (m : Link). Some m.to) link_is) at.head in
    let weighs : a.weight ≡ b.weight = of.weight ∙ (ap (weight q.metric) link_is ∙ sym at.weight) in
    let link : a.link ≡ b.link = of.same_index ∙ sym at.same_index in
    let make : ℕ → ℕ → ℕ → ℕ → Arc = λ t h w l. record { tail = t; head = h; weight = w; link = l } in
    ap (λ t. make t a.head a.weight a.link) tail
    ∙ (ap (λ h. make b.tail h a.weight a.link) head ∙ (ap (λ w. make b.tail b.head w a.link) weighs ∙ ap (λ l. make b.tail b.head b.weight l) link))

-- nor has one whose arc is relaxed
pub idle_relaxed : (g : Rows) (q : Query) (labels : List (Option Label)) (p : ℕ) (b : Arc) → IsTopology g → IsArcAt g q.metric p b → IsRelaxed q.cap labels b → IsIdle g q labels p
idle_relaxed g q labels p b valid at relaxed a of = subst (IsRelaxed q.cap labels) (sym (same_arc g q p a b valid of at)) relaxed

-- neither is one of which an end is barred
pub end_barred : (g : Rows) (q : Query) (barred : List Bool) (p : ℕ) (a : Arc) → AreBarred g q barred → IsArcAt g q.metric p a →
    (is_barred barred a.tail ≡ true) ⊎ (is_barred barred a.head ≡ true) → IsNoArc g q p
end_barred g q barred p a are at bars =
    barred_no_arc g q barred at.link a.tail a.head p are at.at_link at.tail (record { link = at.link; at_link = at.at_link; at_node = at.head }) bars

-- one that is allowed, and of which no end is barred, is
pub admitted_arc : (g : Rows) (q : Query) (barred : List Bool) (p : ℕ) (a : Arc) (l : Link) → AreBarred g q barred → IsArcAt g q.metric p a → slice_get g.links p ≡ Some l → Allows q l →
    ((is_barred barred a.tail ≡ true) ⊎ (is_barred barred a.head ≡ true) → ⊥) → IsArcOf g q p a
admitted_arc g q barred p a l are at at_l allowed_l free =
    let one : Some l ≡ Some at.link = sym at_l ∙ at.at_link in
    let same_link : l ≡ at.link = cc in
    record {
      same_index = at.same_index;
      link = at.link;
      at_link = at.at_link;
      admitted = link_admitted g q at.link p at.at_link (subst (Allows q) same_link allowed_l)
          (record { is_node = contains_at g.nodes a.tail at.link.from at.tail; free = λ bars_it. free (inl ((are a.tail at.link.from at.tail).1 bars_it)) })
          (record { is_node = contains_at g.nodes a.head at.link.to at.head; free = λ bars_it. free (inr ((are a.head at.link.to at.head).1 bars_it)) });
      tail = at.tail;
      head = at.head;
      weight = at.weight;
    }
