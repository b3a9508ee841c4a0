-- The first of the least of a list of branches, as `min_by_key` keeps it, and among the branches of a node.
use Rattle.std.proofs.Common.{◌≡◌, ◌≢◌, ◌<◌, ◌≤◌, ℕ, All, List, [], ◌∷◌, ◌++◌, append_assoc, append-nil, Bool, true, false, refl, sym, ap, ◌∙◌, subst, arith, map, filter, Ordering, Option, Some, None, IsSomeAnd, nat_eq, inl, inr}
use Rattle.std.specs.declared.cmp.Ordering.TheVariants.{Less, Equal, Greater}
use Rattle.std.specs.Ordering.{MatchOrdering, min_by_ordering}
use Rattle.std.specs.Iterator.{PicksMinByKey, KeyTurn}
use Rattle.std.specs.List.{FoldsTo}
use Rattle.std.specs.Fn.{CalledAt}
use Rattle.std.proofs.lemmas.Bool.{cases_Bool, cond-true, cond-false, eqb-true, eqb-false}
use Rattle.std.proofs.lemmas.Iterator.{YieldsList, items_from_drains}
use Rattle.std.proofs.lemmas.List.Elements.{All-nil, All-cons, All-head, All-tail, All-append, All-push, All-weaker}
use denote.Param.Members.{Mut}
use denote.Ref.{Bor}
use Rattle.dom_base.specs.AddrOrder.{rank}
use Rattle.dom_base.proofs.Ranks.{same_addr}
use Rattle.dom_base.specs.declared.addr.Addr.{Addr}
use Rattle.vspt_tree.specs.declared.branch.Branch.{Branch}
use Rattle.vspt_tree.specs.Branches.{HasBranchAt, IsFirstLeast}

pub record IsFirstOf (xs : List Branch) (b : Branch) : Type 0 where
  pub before : List Branch
  pub after : List Branch
  pub is : xs ≡ before ++ b ∷ after
  pub above : All (λ d. b.cost < d.cost) before
  pub no_less : All (λ d. b.cost ≤ d.cost) after

IsFirstOf-one : (b : Branch) → IsFirstOf (b ∷ []) b
IsFirstOf-one b = record { before = []; after = []; is = refl; above = All-nil (λ d. b.cost < d.cost); no_less = All-nil (λ d. b.cost ≤ d.cost) }

IsFirstOf-keeps : (xs : List Branch) (b d : Branch) → IsFirstOf xs b → b.cost ≤ d.cost → IsFirstOf (xs ++ d ∷ []) b
IsFirstOf-keeps xs b d first le = record {
  before = first.before;
  after = first.after ++ d ∷ [];
  is = rw first.is (simp append_assoc);
  above = first.above;
  no_less = All-push (λ e. b.cost ≤ e.cost) first.after d first.no_less le;
}

IsFirstOf-takes : (xs : List Branch) (b d : Branch) → IsFirstOf xs b → d.cost < b.cost → IsFirstOf (xs ++ d ∷ []) d
IsFirstOf-takes xs b d first lt = record {
  before = xs;
  after = [];
  is = refl;
  above = rw first.is
      (All-append (λ e. d.cost < e.cost) first.before (b ∷ first.after)
      (All-weaker (λ e. b.cost < e.cost) (λ e. d.cost < e.cost) (λ e h. omega arith) first.before first.above)
      (All-cons (λ e. d.cost < e.cost) b first.after lt (All-weaker (λ e. b.cost ≤ e.cost) (λ e. d.cost < e.cost) (λ e h. omega arith) first.after first.no_less)));
  no_less = All-nil (λ e. d.cost ≤ e.cost);
}

-- one turn
picked : (o : Ordering) (xs : List Branch) (x d : Bor Branch) (k m : ℕ) → MatchOrdering o (k < m) (k ≡ m) (m < k) → k ≡ x.now.cost → m ≡ d.now.cost → IsFirstOf xs x.now →
    (min_by_ordering o k m ≡ (min_by_ordering o x d).now.cost) × IsFirstOf (xs ++ d.now ∷ []) (min_by_ordering o x d).now
picked Less xs x d k m order key other first = (key, IsFirstOf-keeps xs x.now d.now first (omega arith))
picked Equal xs x d k m order key other first = (key, IsFirstOf-keeps xs x.now d.now first (omega arith))
picked Greater xs x d k m order key other first = (other, IsFirstOf-takes xs x.now d.now first (omega arith))

module _ {F : Type 0} (g : Mut F (Bor (Bor Branch) × Unit {0}) ℕ) (cmp : ℕ → ℕ → Ordering) (f : F)
    (reads : (x : Bor Branch) (k : ℕ) (q : F) → CalledAt g f x k q → (q ≡ f) × (k ≡ x.now.cost))
    (ranks : (a b : ℕ) → MatchOrdering (cmp a b) (a < b) (a ≡ b) (b < a)) where
  -- all turns
  turns : (seen : List Branch) (x : Bor Branch) (k : ℕ) (xs : List (Bor Branch)) (h : F) (q : F × ℕ) (y : Bor Branch) → h ≡ f → k ≡ x.now.cost → IsFirstOf seen x.now →
      FoldsTo {P = (F × ℕ) × Bor Branch} (KeyTurn min_by_ordering min_by_ordering g cmp) ((h, k), x) xs (q, y) → IsFirstOf (seen ++ map (λ (b : Bor Branch). b.now) xs) y.now
  turns seen x k [] h q y same key first folds =
      rw append-nil (subst (λ (b : Bor Branch). IsFirstOf seen b.now) (ap (λ (p : (F × ℕ) × Bor Branch). p.1) folds) first)
  turns seen x k (d ∷ xs) h q y same key first folds =
      let next = folds.0 in
      let turn = folds.1 in
      let said = reads d turn.0 next.0.0 (subst (λ (j : F). CalledAt g j d turn.0 next.0.0) same turn.2) in
      let ranked : MatchOrdering turn.1 (k < turn.0) (k ≡ turn.0) (turn.0 < k) = subst (λ o. MatchOrdering o (k < turn.0) (k ≡ turn.0) (turn.0 < k)) turn.3 (ranks k turn.0) in
      let pick = picked turn.1 seen x d k turn.0 ranked key said.1 first in
      let rest = turns (seen ++ d.now ∷ []) next.1 next.0.1 xs next.0.0 q y said.0
      (turn.4 ∙ pick.0 ∙ sym (ap (λ (b : Bor Branch). b.now.cost) turn.5))
      (subst (λ (b : Bor Branch). IsFirstOf (seen ++ d.now ∷ []) b.now) (sym turn.5) pick.1) folds.2 in
      rw append_assoc at rest

  -- all that `min_by_key` did
  first_from_min : {S : Type 0} {steps : S → Option (Bor Branch) → S → Type 0} (s : S) (all : List Branch) (r : Option (Bor Branch)) → PicksMinByKey steps g cmp s f r →
      YieldsList steps (λ (b : Bor Branch). b.now) s all → all ≢ [] → IsSomeAnd r (λ b. IsFirstOf all b.now)
  first_from_min s all None none yields some = absurd (some (sym (items_from_drains [] (none.1.0, none.1.1, λ _. (none.0, none.1.2)) yields)))
  first_from_min s all (Some y) picks yields some =
      let drains = picks.5 in
      let x = picks.0 in
      let same = items_from_drains (x ∷ picks.1) (drains.1.0, drains.1.1, λ _. (drains.0, drains.1.2)) yields in
      let key = reads x picks.2 picks.3 picks.6 in
      subst (λ (xs : List Branch). IsFirstOf xs y.now) same (turns (x.now ∷ []) x picks.2 picks.1 picks.3 picks.4 y key.0 key.1 (IsFirstOf-one x.now) picks.7)

-- whether a branch begins at a node
abbrev pub is_at : Addr → Branch → Bool
is_at n d = nat_eq (rank d.entry) (rank n)

at_from_test : (n : Addr) (d : Branch) → is_at n d ≡ true → d.entry ≡ n
at_from_test n d test = same_addr d.entry n (eqb-true (rank d.entry) (rank n) test)

not_at_from_test : (n : Addr) (d : Branch) → is_at n d ≡ false → d.entry ≢ n
not_at_from_test n d test same = eqb-false (rank d.entry) (rank n) test (ap rank same)

-- what a filter does with a branch in front
kept : (n : Addr) (d : Branch) (down : List Branch) → is_at n d ≡ true → filter (is_at n) (d ∷ down) ≡ d ∷ filter (is_at n) down
kept n d down at = cond-true (is_at n d) (d ∷ filter (is_at n) down) (filter (is_at n) down) at

left_out : (n : Addr) (d : Branch) (down : List Branch) → is_at n d ≡ false → filter (is_at n) (d ∷ down) ≡ filter (is_at n) down
left_out n d down other = cond-false (is_at n d) (d ∷ filter (is_at n) down) (filter (is_at n) down) other

-- what holds of the branches of the node, of all where they are at the node
at_node : (n : Addr) (P : Branch → Type 0) (down : List Branch) → All P (filter (is_at n) down) → All (λ d. d.entry ≡ n → P d) down
at_node n P [] all = All-nil (λ d. d.entry ≡ n → P d)
at_node n P (d ∷ down) all =
    elim (cases_Bool (is_at n d)) [
      | inl at ↦
          let same = subst (λ (xs : List Branch). All P xs) (kept n d down at) all in
          All-cons (λ e. e.entry ≡ n → P e) d down (λ _. All-head P d (filter (is_at n) down) same) (at_node n P down (All-tail P d (filter (is_at n) down) same))
      | inr other ↦
          All-cons (λ e. e.entry ≡ n → P e) d down (λ same. absurd (not_at_from_test n d other same))
          (at_node n P down (subst (λ (xs : List Branch). All P xs) (left_out n d down other) all))
    ]

-- one more branch in front, dearer or of another node
behind : (n : Addr) (d b : Branch) (down : List Branch) → (d.entry ≡ n → b.cost < d.cost) → IsFirstLeast down n b → IsFirstLeast (d ∷ down) n b
behind n d b down dearer least = record {
  before = d ∷ least.before;
  after = least.after;
  is = ap (λ (xs : List Branch). d ∷ xs) least.is;
  at_node = least.at_node;
  above = All-cons (λ e. e.entry ≡ n → b.cost < e.cost) d least.before dearer least.above;
  no_less = least.no_less;
}

here : (n : Addr) (d b : Branch) (down : List Branch) → is_at n d ≡ true → d ≡ b → All (λ e. b.cost ≤ e.cost) (filter (is_at n) down) → IsFirstLeast (d ∷ down) n b
here n d b down at same all = record {
  before = [];
  after = down;
  is = ap (λ (e : Branch). e ∷ down) same;
  at_node = sym (ap (λ (e : Branch). e.entry) same) ∙ at_from_test n d at;
  above = All-nil (λ e. e.entry ≡ n → b.cost < e.cost);
  no_less = at_node n (λ e. b.cost ≤ e.cost) down all;
}

among : (n : Addr) (down before after : List Branch) (b : Branch) → filter (is_at n) down ≡ before ++ b ∷ after → All (λ d. b.cost < d.cost) before → All (λ d. b.cost ≤ d.cost) after → IsFirstLeast down n b
among n [] [] after b is above no_less = cc
among n [] (e ∷ before) after b is above no_less = cc
among n (d ∷ down) [] after b is above no_less =
    elim (cases_Bool (is_at n d)) [
      | inl at ↦
          let both = sym (kept n d down at) ∙ is in
          let rest : after ≡ filter (is_at n) down = cc in
          here n d b down at (cc) (subst (λ (xs : List Branch). All (λ e. b.cost ≤ e.cost) xs) rest no_less)
      | inr other ↦
          behind n d b down (λ same. absurd (not_at_from_test n d other same)) (among n down [] after b (sym (left_out n d down other) ∙ is) above no_less)
    ]
among n (d ∷ down) (e ∷ before) after b is above no_less =
    elim (cases_Bool (is_at n d)) [
      | inl at ↦
          let both = sym (kept n d down at) ∙ is in
          let first : e ≡ d = cc in
          let dearer = subst (λ (x : Branch). b.cost < x.cost) first (All-head (λ x. b.cost < x.cost) e before above) in
          behind n d b down (λ _. dearer) (among n down before after b (cc) (All-tail (λ x. b.cost < x.cost) e before above) no_less)
      | inr other ↦
          behind n d b down (λ same. absurd (not_at_from_test n d other same)) (among n down (e ∷ before) after b (sym (left_out n d down other) ∙ is) above no_less)
    ]

some_at : (n : Addr) (down : List Branch) → HasBranchAt down n → filter (is_at n) down ≢ []
some_at n down has none =
    let nowhere = at_node n (λ _. ⊥) down (subst (λ (xs : List Branch). All (λ _. ⊥) xs) (sym none) (All-nil {X = Branch} (λ _. ⊥))) in
    nowhere has.0 has.1 has.2 (ap (λ (d : Branch). d.entry) has.3 ∙ has.4)

-- the first of the least of those at the node
least_at : (n : Addr) (down : List Branch) (r : Option (Bor Branch)) → IsSomeAnd r (λ b. IsFirstOf (filter (is_at n) down) b.now) → IsSomeAnd r (λ b. IsFirstLeast down n b.now)
least_at n down None first = first
least_at n down (Some b) first = among n down first.before first.after b.now first.is first.above first.no_less

-- the branch that `min_by_key` finds among those at the node
pub least_from_min : {S F : Type 0} {steps : S → Option (Bor Branch) → S → Type 0} {s : S} {f : F} (g : Mut F (Bor (Bor Branch) × Unit {0}) ℕ) (cmp : ℕ → ℕ → Ordering) (n : Addr) (down : List Branch) (r : Option (Bor Branch)) →
    PicksMinByKey steps g cmp s f r → YieldsList steps (λ (b : Bor Branch). b.now) s (filter (is_at n) down) →
    ((x : Bor Branch) (k : ℕ) (q : F) → CalledAt g f x k q → (q ≡ f) × (k ≡ x.now.cost)) → ((a b : ℕ) → MatchOrdering (cmp a b) (a < b) (a ≡ b) (b < a)) →
    HasBranchAt down n → IsSomeAnd r (λ b. IsFirstLeast down n b.now)
least_from_min {s = s} {f = f} g cmp n down r picks yields reads ranks has =
    least_at n down r (first_from_min g cmp f reads ranks s (filter (is_at n) down) r picks yields (some_at n down has))
