-- Far addresses that lead on from a node, one step and many.
use Rattle.std.proofs.Common.{◌≡◌, ◌≢◌, inl, inr, ℕ, suc, ◌+◌, ◌<◌, ◌≤◌, List, [], ◌∷◌, ◌++◌, length, take, drop, map, get_or, refl, sym, ◌∙◌, ap, subst, arith, Some, append_assoc, length-append}
use Rattle.std.specs.Prelude.{All, AllPairs, Contains}
use Rattle.std.proofs.lemmas.Bool.{cases_lt}
use Rattle.std.proofs.lemmas.List.{get_or_default, get_or_append_left, get_or_at, get_or-map, length-map, length_push, length-take-le, take_all, take-take, take_more, take-append-drop}
use Rattle.std.proofs.lemmas.List.Elements.{All-nil, All-cons, All-contains_itself}
use Rattle.std.proofs.lemmas.List.Quantifiers.{all_pairs_push}
use Rattle.dom_base.specs.declared.addr.Addr.{Addr}
use Rattle.dom_base.specs.declared.link.Link.{Link}
use Rattle.dom_base.specs.declared.query.Query.{Query}
use Rattle.te_links.specs.Rows.{Rows, IsTopology, IsInOrder}
use Rattle.te_links.specs.declared.limits.TheConstants.{LINKS_MAX}
use Rattle.te_links.proofs.Different.{few_covered}
use Rattle.walk_laws.specs.Walks.{AdmitsNode}
use Rattle.te_links.specs.Index.{IsLinkAt}
use Rattle.path_certificate.specs.Offers.{IsAdmittedAt}
use Rattle.path_certificate.proofs.Making.{place_of, contains_at}
use Rattle.path_certificate.proofs.Leading.{same_link}
use Rattle.diverse_pairs.specs.Conditions.{LeadsAlong, Traces, TracesOver}
use Rattle.diverse_pairs.specs.Steps.{IsStep, IsFirstNot}

-- ---- one step

pub no_link : (g : Rows) (q : Query) (n far : Addr) → ((i : ℕ) → IsLinkAt g.links far i → ⊥) → (m : Addr) → IsStep g q n far m → ⊥
no_link g q n far none m step =
    let at = place_of g.links step.link step.admitted.is_link in
    none at.0 (record { link = step.link; at_link = at.1; same_far = step.same_far })

-- the link of a step is the one at its place
pub step_at : (g : Rows) (q : Query) (n far : Addr) (i : ℕ) → IsInOrder g → (at : IsLinkAt g.links far i) → (m : Addr) → (step : IsStep g q n far m) → at.link ≡ step.link
step_at g q n far i order at m step =
    same_link g at.link step.link order (contains_at g.links i at.link at.at_link) step.admitted.is_link (at.same_far ∙ sym step.same_far)

pub not_admitted : (g : Rows) (q : Query) (n far : Addr) (i : ℕ) → IsInOrder g → IsLinkAt g.links far i → ((l : Link) → IsAdmittedAt g q i l → ⊥) → (m : Addr) → IsStep g q n far m → ⊥
not_admitted g q n far i order at none m step =
    none step.link (record { at_link = at.at_link ∙ ap (λ (l : Link). Some l) (step_at g q n far i order at m step); admitted = step.admitted })

one_link : (g : Rows) (q : Query) (far : Addr) (i : ℕ) (l : Link) → (at : IsLinkAt g.links far i) → IsAdmittedAt g q i l → at.link ≡ l
one_link g q far i l at is = let both : Some at.link ≡ Some l = sym at.at_link ∙ is.at_link in cc

pub starts_elsewhere : (g : Rows) (q : Query) (n far : Addr) (i : ℕ) (l : Link) → IsInOrder g → IsLinkAt g.links far i → IsAdmittedAt g q i l → (l.from ≡ n → ⊥) → (m : Addr) → IsStep g q n far m → ⊥
starts_elsewhere g q n far i l order at is other m step =
    let same : l ≡ step.link = sym (one_link g q far i l at is) ∙ step_at g q n far i order at m step in
    other (ap (λ (k : Link). k.from) same ∙ step.from)

pub step_made : (g : Rows) (q : Query) (n far : Addr) (i : ℕ) (l : Link) → IsLinkAt g.links far i → IsAdmittedAt g q i l → l.from ≡ n → IsStep g q n far l.to
step_made g q n far i l at is from =
    record { link = l; same_far = ap (λ (k : Link). k.far) (sym (one_link g q far i l at is)) ∙ at.same_far; from = from; admitted = is.admitted; to = refl }

-- ---- many steps

pub lead_once : (g : Rows) (q : Query) (fars : List Addr) (n m k : Addr) → IsInOrder g → LeadsAlong g q n fars m → LeadsAlong g q n fars k → m ≡ k
lead_once g q [] n m k order one other = sym one.0 ∙ other.0
lead_once g q (far ∷ fars) n m k order one other =
    let same : other.0 ≡ one.0 = same_link g other.0 one.0 order other.3.is_link one.3.is_link (other.1 ∙ sym one.1) in
    lead_once g q fars one.0.to m k order one.4 (subst (λ (l : Link). LeadsAlong g q l.to fars k) same other.4)

pub step_leads : (g : Rows) (q : Query) (n far m : Addr) → IsStep g q n far m → LeadsAlong g q n (far ∷ []) m
step_leads g q n far m step = (step.link, step.same_far, step.from, step.admitted, (step.to, step.admitted.to))

pub leads_step : (g : Rows) (q : Query) (n far m : Addr) → LeadsAlong g q n (far ∷ []) m → IsStep g q n far m
leads_step g q n far m leads = record { link = leads.0; same_far = leads.1; from = leads.2; admitted = leads.3; to = leads.4.0 }

pub lead_on : (g : Rows) (q : Query) (fars more : List Addr) (n m k : Addr) → LeadsAlong g q n fars m → LeadsAlong g q m more k → LeadsAlong g q n (fars ++ more) k
lead_on g q [] more n m k one next = subst (λ (u : Addr). LeadsAlong g q u more k) (sym one.0) next
lead_on g q (far ∷ fars) more n m k one next = (one.0, one.1, one.2, one.3, lead_on g q fars more one.0.to m k one.4 next)

pub record Halves (g : Rows) (q : Query) (n : Addr) (fars more : List Addr) (k : Addr) : Type 0 where
  pub node : Addr
  pub first : LeadsAlong g q n fars node
  pub second : LeadsAlong g q node more k

starts : (g : Rows) (q : Query) (fars : List Addr) (n k : Addr) → LeadsAlong g q n fars k → AdmitsNode g q n
starts g q [] n k leads = leads.1
starts g q (far ∷ fars) n k leads = subst (AdmitsNode g q) leads.2 leads.3.from

pub halves : (g : Rows) (q : Query) (fars more : List Addr) (n k : Addr) → LeadsAlong g q n (fars ++ more) k → Halves g q n fars more k
halves g q [] more n k leads = record { node = n; first = (refl, starts g q more n k leads); second = leads }
halves g q (far ∷ fars) more n k leads =
    let h = halves g q fars more leads.0.to k leads.4 in
    record { node = h.node; first = (leads.0, leads.1, leads.2, leads.3, h.first); second = h.second }

-- ---- addresses that differ

pub front_differs : (xs ys : List Addr) → AllPairs (λ a b. a ≢ b) (xs ++ ys) → AllPairs (λ a b. a ≢ b) xs
front_differs xs ys differ i j d before below is =
    let longer : j < length (xs ++ ys) = omega (arith, below, length-append xs ys) in
    differ i j d before longer (get_or_append_left xs ys d i (omega arith) ∙ is ∙ sym (get_or_append_left xs ys d j below))

pub last_is_new : (xs : List Addr) (x : Addr) → AllPairs (λ a b. a ≢ b) (xs ++ x ∷ []) → ¬ Contains xs x
last_is_new xs x differ (i, below, is) =
    differ i (length xs) x below (omega (arith, length_push xs x))
    (get_or_append_left xs (x ∷ []) x i below ∙ is ∙ sym (get_or_at xs x [] x (length xs) refl))

pub push_differs : (xs : List Addr) (x : Addr) → AllPairs (λ a b. a ≢ b) xs → ¬ Contains xs x → AllPairs (λ a b. a ≢ b) (xs ++ x ∷ [])
push_differs xs x differ new =
    all_pairs_push (λ a b. a ≢ b) xs x differ (λ k d below is. new (k, below, get_or_default xs k x d below ∙ is))

-- ---- traces

-- fewer far addresses trace too
pub shorter : (g : Rows) (q : Query) (used : List Addr) (s t : Addr) (fars : List Addr) (j k : ℕ) (m : Addr) → j ≤ k → j < length fars → Traces g q used s (take k fars) m →
    TracesOver g q used s t fars j
shorter g q used s t fars j k m within below traces =
    let cut : take j fars ++ drop j (take k fars) ≡ take k fars =
    ap (λ xs. xs ++ drop j (take k fars)) (sym (take-take j k fars within)) ∙ take-append-drop j (take k fars) in
    let h = halves g q (take j fars) (drop j (take k fars)) s m (subst (λ xs. LeadsAlong g q s xs m) (sym cut) traces.leads) in
    let new : AllPairs (λ a b. a ≢ b) ((used ++ take j fars) ++ drop j (take k fars)) =
    subst (AllPairs (λ a b. a ≢ b)) (sym (append_assoc used (take j fars) (drop j (take k fars)) ∙ ap (λ xs. used ++ xs) cut)) traces.new in
    record {
      node = h.node;
      traces = record { leads = h.first; new = front_differs (used ++ take j fars) (drop j (take k fars)) new };
      ends = λ long. absurd (omega arith);
    }

one_more : (used fars : List Addr) (k : ℕ) (far : Addr) → k < length fars → far ≡ get_or fars k far → used ++ take (k + 1) fars ≡ (used ++ take k fars) ++ far ∷ []
one_more used fars k far below is =
    let more : take (k + 1) fars ≡ take k fars ++ far ∷ [] = take_more fars k far below ∙ ap (λ f. take k fars ++ f ∷ []) (sym is) in
    ap (λ xs. used ++ xs) more ∙ sym (append_assoc used (take k fars) (far ∷ []))

-- the next far address was used before
pub stops_used : (g : Rows) (q : Query) (used : List Addr) (s t : Addr) (fars : List Addr) (k : ℕ) (far : Addr) → k < length fars → far ≡ get_or fars k far →
    Contains (used ++ take k fars) far → TracesOver g q used s t fars (k + 1) → ⊥
stops_used g q used s t fars k far below is has over =
    last_is_new (used ++ take k fars) far (subst (AllPairs (λ a b. a ≢ b)) (one_more used fars k far below is) over.traces.new) has

-- the next far address is no step
pub stops_at : (g : Rows) (q : Query) (used : List Addr) (s t : Addr) (fars : List Addr) (k : ℕ) (m far : Addr) → IsInOrder g → k < length fars → far ≡ get_or fars k far →
    Traces g q used s (take k fars) m → ((u : Addr) → IsStep g q m far u → ⊥) → TracesOver g q used s t fars (k + 1) → ⊥
stops_at g q used s t fars k m far order below is traces none over =
    let more : take (k + 1) fars ≡ take k fars ++ far ∷ [] = take_more fars k far below ∙ ap (λ f. take k fars ++ f ∷ []) (sym is) in
    let h = halves g q (take k fars) (far ∷ []) s over.node (subst (λ xs. LeadsAlong g q s xs over.node) more over.traces.leads) in
    let one : h.node ≡ m = lead_once g q (take k fars) s h.node m order h.first traces.leads in
    none over.node (leads_step g q m far over.node (subst (λ (u : Addr). LeadsAlong g q u (far ∷ []) over.node) one h.second))

-- the next far address goes on
pub goes_on : (g : Rows) (q : Query) (used : List Addr) (s : Addr) (fars : List Addr) (k : ℕ) (m u far : Addr) → k < length fars → far ≡ get_or fars k far →
    Traces g q used s (take k fars) m → IsStep g q m far u → ¬ Contains (used ++ take k fars) far → Traces g q used s (take (k + 1) fars) u
goes_on g q used s fars k m u far below is traces step new =
    let more : take (k + 1) fars ≡ take k fars ++ far ∷ [] = take_more fars k far below ∙ ap (λ f. take k fars ++ f ∷ []) (sym is) in
    record {
      leads = subst (λ xs. LeadsAlong g q s xs u) (sym more) (lead_on g q (take k fars) (far ∷ []) s m u traces.leads (step_leads g q m far u step));
      new = subst (AllPairs (λ a b. a ≢ b)) (sym (one_more used fars k far below is)) (push_differs (used ++ take k fars) far traces.new new);
    }

-- all far addresses lead elsewhere
pub not_ended : (g : Rows) (q : Query) (used : List Addr) (s t : Addr) (fars : List Addr) (k : ℕ) (m : Addr) → IsInOrder g → length fars ≤ k → Traces g q used s (take k fars) m →
    (m ≡ t → ⊥) → TracesOver g q used s t fars k → ⊥
not_ended g q used s t fars k m order long traces other over =
    let one : over.node ≡ m = lead_once g q (take k fars) s over.node m order over.traces.leads traces.leads in
    other (sym one ∙ over.ends long)

-- all far addresses lead to the target
pub ended : (g : Rows) (q : Query) (used : List Addr) (s t : Addr) (fars : List Addr) (k : ℕ) (m : Addr) → length fars ≤ k → Traces g q used s (take k fars) m → m ≡ t →
    (j : ℕ) → TracesOver g q used s t fars j
ended g q used s t fars k m long traces ends j =
    elim (cases_lt j (length fars)) [
      | inl lt ↦ shorter g q used s t fars j k m (omega arith) lt traces
      | inr ge ↦
          let same : take k fars ≡ take j fars = take_all k fars long ∙ sym (take_all j fars ge) in
          record { node = m; traces = subst (λ xs. Traces g q used s xs m) same traces; ends = λ _. ends }
    ]

-- ---- how many there are

far_of : (g : Rows) (l : Link) → Contains g.links l → Contains (map (λ (k : Link). k.far) g.links) l.far
far_of g l (i, below, is) =
    (i, omega (arith, below, length-map {A = Link} {B = Addr} g.links (λ k. k.far)), get_or-map (λ (k : Link). k.far) g.links i l l.far below ∙ ap (λ (k : Link). k.far) is)

all_fars : (g : Rows) (q : Query) (fars : List Addr) (n m : Addr) → LeadsAlong g q n fars m → All (Contains (map (λ (k : Link). k.far) g.links)) fars
all_fars g q [] n m leads = All-nil (Contains (map (λ (k : Link). k.far) g.links))
all_fars g q (far ∷ fars) n m leads =
    All-cons (Contains (map (λ (k : Link). k.far) g.links)) far fars
    (subst (Contains (map (λ (k : Link). k.far) g.links)) leads.1 (far_of g leads.0 leads.3.is_link)) (all_fars g q fars leads.0.to m leads.4)

back_differs : (xs ys : List Addr) → AllPairs (λ a b. a ≢ b) (xs ++ ys) → AllPairs (λ a b. a ≢ b) ys
back_differs [] ys differ = differ
back_differs (x ∷ xs) ys differ = back_differs xs ys (λ i j d before below is. differ (suc i) (suc j) d (omega arith) (omega arith) is)

-- a trace has no more far addresses than there are links
pub few_traced : (g : Rows) (q : Query) (used : List Addr) (s : Addr) (fars : List Addr) (m : Addr) → IsTopology g → Traces g q used s fars m → length fars ≤ LINKS_MAX
few_traced g q used s fars m valid traces =
    let all = map (λ (k : Link). k.far) g.links in
    let long : length all ≤ LINKS_MAX = omega (arith, valid.few_links, length-map {A = Link} {B = Addr} g.links (λ k. k.far)) in
    few_covered LINKS_MAX all all (All-contains_itself all) long fars (back_differs used fars traces.new) (all_fars g q fars s m traces.leads)

pub few_before : (g : Rows) (q : Query) (used : List Addr) (s : Addr) (fars : List Addr) (k : ℕ) (m : Addr) → IsTopology g → k ≤ length fars → Traces g q used s (take k fars) m →
    k ≤ LINKS_MAX
few_before g q used s fars k m valid within traces = omega (arith, few_traced g q used s (take k fars) m valid traces, length-take-le k fars within)

-- where the next far address doesn't trace, that is the first false place
pub first_stop : (g : Rows) (q : Query) (used : List Addr) (s t : Addr) (fars : List Addr) (k : ℕ) (m : Addr) → k < length fars → Traces g q used s (take k fars) m →
    (TracesOver g q used s t fars (k + 1) → ⊥) → IsFirstNot (TracesOver g q used s t fars) (k + 1)
first_stop g q used s t fars k m below traces fails =
    record { fails = fails; earlier = λ j before. shorter g q used s t fars j k m (omega arith) (omega arith) traces }

pub first_end : (g : Rows) (q : Query) (used : List Addr) (s t : Addr) (fars : List Addr) (k : ℕ) (m : Addr) → IsInOrder g → k ≤ length fars → length fars ≤ k → Traces g q used s (take k fars) m →
    (m ≡ t → ⊥) → IsFirstNot (TracesOver g q used s t fars) k
first_end g q used s t fars k m order within long traces other =
    record { fails = not_ended g q used s t fars k m order long traces other; earlier = λ j before. shorter g q used s t fars j k m (omega arith) (omega arith) traces }
