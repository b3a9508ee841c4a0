-- Rows of a border table that are joined one after the other.
use Rattle.std.proofs.Common.{◌≡◌, ◌≢◌, ◌⊎◌, ◌∙◌, ◌+◌, ◌<◌, ◌≤◌, ℕ, zero, suc, Bool, cond, nat_lt, Option, Some, None, List, [], ◌∷◌, ◌++◌, length, get_or, take, drop, arith, inl, inr, refl, sym, ap, subst, length-append, append_assoc}
use Rattle.std.specs.Prelude.{All, AllPairs, Contains, IfSome, MatchOption, SomeIff, slice_get}
use Rattle.std.proofs.lemmas.List.{length_push, map-append, take_more}
use Rattle.std.proofs.lemmas.Bool.{cases_lt, lt-ltb, le-ltb}
use Rattle.std.proofs.lemmas.List.Elements.{All-nil, All-cons, Contains-append_left, Contains-push, Contains-push_cases}
use Rattle.std.proofs.lemmas.List.Quantifiers.{all_pairs_push}
use Rattle.dom_base.specs.AddrOrder.{rank}
use Rattle.pce_common.specs.plant_model.Types.{Addr, As, BorderRow, Label, Best, Branch, Down, Target}
use Rattle.walk_laws.specs.Borders.{Beyond, IsDown}
use Rattle.walk_laws.specs.TableJoins.{RowJoins, RowEnds}
use Rattle.vspt_tree.specs.Branches.{HasBranchAt}
use Rattle.border_costs.specs.Asks.{HasNoDown, beyond}
use Rattle.border_costs.specs.Tables.{IsRowBefore}
use Rattle.border_costs.specs.declared.job.Target.TheVariants.{Node, Next}
use Rattle.border_costs.proofs.Downs.{down_unique}
use Rattle.pce_common.specs.plant_model.Branches.{downs}
use Rattle.pce_common.specs.plant_model.Jobs.{IsJoinOf, JoinsBy}
use Rattle.pce_element.specs.Joining.{EndsElsewhere, IsJoinOfRow, JoinsNothing, JoinsOver, JoinsRow, TakesIn, head_over}
use Rattle.pce_common.proofs.HeldPlaces.{split_at, taken_at}
use Rattle.pce_common.proofs.HeldRows.{first_in, in_cases, later_in, none_in}

-- ---- pairs of a list

get_front : {X : Type 0} → (xs ys : List X) (i : ℕ) (d : X) → i < length xs → get_or (xs ++ ys) i d ≡ get_or xs i d
get_front [] ys i d within = absurd (omega (arith, within))
get_front (x ∷ xs) ys zero d within = refl
get_front (x ∷ xs) ys (suc i) d within = get_front xs ys i d (omega (arith, within))

get_behind : {X : Type 0} → (xs : List X) (y d : X) → get_or (xs ++ y ∷ []) (length xs) d ≡ y
get_behind [] y d = refl
get_behind (x ∷ xs) y d = get_behind xs y d

-- all before the last are related to it
pub before_last : {X : Type 0} → (R : X → X → Type 0) (xs : List X) (y x : X) → AllPairs R (xs ++ y ∷ []) → Contains xs x → R x y
before_last {X} R xs y x pairs has =
    let far = pairs has.0 (length xs) x has.1 (omega (arith, length_push xs y)) in
    let first : get_or (xs ++ y ∷ []) has.0 x ≡ x = get_front xs (y ∷ []) has.0 x has.1 ∙ has.2 in
    subst (λ (z : X). R x z) (get_behind xs y x) (subst (λ (z : X). R z (get_or (xs ++ y ∷ []) (length xs) x)) first far)

-- those in front are related
pub pairs_front : {X : Type 0} → (R : X → X → Type 0) (xs ys : List X) → AllPairs R (xs ++ ys) → AllPairs R xs
pairs_front {X} R xs ys pairs i j d less within =
    let there = pairs i j d less (omega (arith, within, length-append xs ys)) in
    subst (λ (z : X). R (get_or xs i d) z) (get_front xs ys j d within)
    (subst (λ (z : X). R z (get_or (xs ++ ys) j d)) (get_front xs ys i d (omega (arith, less, within))) there)

-- one more, to which all are related
pub pairs_more : {X : Type 0} → (R : X → X → Type 0) (xs : List X) (y : X) → AllPairs R xs → ((x : X) → Contains xs x → R x y) → AllPairs R (xs ++ y ∷ [])
pairs_more R xs y pairs each = all_pairs_push R xs y pairs (λ k d within. each (get_or xs k d) (k, within, get_same xs k d within))
  where
    get_same : {X : Type 0} → (xs : List X) (k : ℕ) (d : X) → k < length xs → get_or xs k (get_or xs k d) ≡ get_or xs k d
    get_same [] k d within = absurd (omega (arith, within))
    get_same (x ∷ xs) zero d within = refl
    get_same (x ∷ xs) (suc k) d within = get_same xs k d (omega (arith, within))

-- a list that has something has a last
last_of : {X : Type 0} → (x : X) (xs : List X) → (older : List X) × (last : X) × (x ∷ xs ≡ older ++ last ∷ [])
last_of x [] = ([], x, refl)
last_of {X} x (y ∷ xs) = let rest = last_of y xs in (x ∷ rest.0, rest.1, ap (λ (zs : List X). x ∷ zs) rest.2)

has_last : {X : Type 0} → (xs : List X) (x : X) → Contains xs x → (older : List X) × (last : X) × (xs ≡ older ++ last ∷ [])
has_last [] x has = absurd (none_in x has)
has_last (y ∷ xs) x has = last_of y xs

-- ---- what rows join to

abbrev pair : ℕ → Addr → Label
pair c exit = record { cost = c; exit = exit }

-- the same row among others
abbrev over_more : (bound : ℕ) (rows more : List BorderRow) (down : List Beyond) (e : Addr) (a : Label) (over : RowJoins bound rows down e a) → (Contains rows over.row → Contains more over.row) → RowJoins bound more down e a
over_more bound rows more down e a over there = record {
  row = over.row;
  is_row = there over.is_row;
  at_entry = over.at_entry;
  beyond = over.beyond;
  is_down = over.is_down;
  sum = over.sum;
  exit = over.exit;
  within = over.within;
}

abbrev ends_more : (bound : ℕ) (rows more : List BorderRow) (e : Addr) (a : Label) (over : RowEnds bound rows e a) → (Contains rows over.row → Contains more over.row) → RowEnds bound more e a
ends_more bound rows more e a over there = record { row = over.row; is_row = there over.is_row; at_entry = over.at_entry; sum = over.sum; exit = over.exit; within = over.within }

joins_more : (bound : ℕ) (target : Target) (rows more : List BorderRow) (down : List Down) (e : Addr) (c : ℕ) (exit : Addr) (head : Option Addr) → ((r : BorderRow) → Contains rows r → Contains more r) →
    JoinsBy bound target rows down e c exit head → JoinsBy bound target more down e c exit head
joins_more bound (Node t) rows more down e c exit None there joins = ends_more bound rows more e (pair c exit) joins (there joins.row)
joins_more bound (Node t) rows more down e c exit (Some head) there joins = absurd joins
joins_more bound (Next b) rows more down e c exit None there joins = absurd joins
joins_more bound (Next b) rows more down e c exit (Some head) there joins = (over_more bound rows more (beyond down) e (pair c exit) joins.0 (there joins.0.row), joins.1)

joins_split : (bound : ℕ) (target : Target) (rows : List BorderRow) (r : BorderRow) (down : List Down) (e : Addr) (c : ℕ) (exit : Addr) (head : Option Addr) → JoinsBy bound target (rows ++ r ∷ []) down e c exit head →
    JoinsBy bound target rows down e c exit head ⊎ JoinsBy bound target (r ∷ []) down e c exit head
joins_split bound (Node t) rows r down e c exit None joins = elim (Contains-push_cases rows r joins.row joins.is_row) [
  | inl before ↦ inl (ends_more bound (rows ++ r ∷ []) rows e (pair c exit) joins (λ has. before))
  | inr same ↦ inr (ends_more bound (rows ++ r ∷ []) (r ∷ []) e (pair c exit) joins (λ has. subst (λ (x : BorderRow). Contains (r ∷ []) x) same (first_in r [])))
]
joins_split bound (Node t) rows r down e c exit (Some head) joins = absurd joins
joins_split bound (Next b) rows r down e c exit None joins = absurd joins
joins_split bound (Next b) rows r down e c exit (Some head) joins = elim (Contains-push_cases rows r joins.0.row joins.0.is_row) [
  | inl before ↦ inl (over_more bound (rows ++ r ∷ []) rows (beyond down) e (pair c exit) joins.0 (λ has. before), joins.1)
  | inr same ↦ inr (over_more bound (rows ++ r ∷ []) (r ∷ []) (beyond down) e (pair c exit) joins.0 (λ has. subst (λ (x : BorderRow). Contains (r ∷ []) x) same (first_in r [])), joins.1)
]

-- the row over which a way goes
record GoesBy (rows : List BorderRow) (e exit : Addr) : Type 0 where
  row : BorderRow
  has : Contains rows row
  entry : row.entry ≡ e
  far : row.far ≡ exit

goes_by : (bound : ℕ) (target : Target) (rows : List BorderRow) (down : List Down) (e : Addr) (c : ℕ) (exit : Addr) (head : Option Addr) → JoinsBy bound target rows down e c exit head → GoesBy rows e exit
goes_by bound (Node t) rows down e c exit None joins = record { row = joins.row; has = joins.is_row; entry = joins.at_entry; far = sym joins.exit }
goes_by bound (Node t) rows down e c exit (Some head) joins = absurd joins
goes_by bound (Next b) rows down e c exit None joins = absurd joins
goes_by bound (Next b) rows down e c exit (Some head) joins = record { row = joins.0.row; has = joins.0.is_row; entry = joins.0.at_entry; far = sym joins.0.exit }

alone_is : (r x : BorderRow) → Contains (r ∷ []) x → r ≡ x
alone_is r x has = elim (in_cases r [] x has) [ inl same ↦ same | inr none ↦ absurd (none_in x none) ]

-- a row by itself
alone_entry : (bound : ℕ) (target : Target) (r : BorderRow) (down : List Down) (e : Addr) (c : ℕ) (exit : Addr) (head : Option Addr) → JoinsBy bound target (r ∷ []) down e c exit head → e ≡ r.entry
alone_entry bound target r down e c exit head joins =
    let by = goes_by bound target (r ∷ []) down e c exit head joins in
    sym (ap (λ (x : BorderRow). x.entry) (alone_is r by.row by.has) ∙ by.entry)

alone_exit : (bound : ℕ) (target : Target) (r : BorderRow) (down : List Down) (e : Addr) (c : ℕ) (exit : Addr) (head : Option Addr) → JoinsBy bound target (r ∷ []) down e c exit head → exit ≡ r.far
alone_exit bound target r down e c exit head joins =
    let by = goes_by bound target (r ∷ []) down e c exit head joins in
    sym (ap (λ (x : BorderRow). x.far) (alone_is r by.row by.has) ∙ by.far)

-- ---- one row more

module _ (bound : ℕ) (target : Target) (down : List Down) (rows : List BorderRow) (r : BorderRow) (order : (x : BorderRow) → Contains rows x → IsRowBefore x r) where
  -- a way over the rows before is not from a later entry, and from the same entry over a lower far address
  earlier : (e : Addr) (c : ℕ) (exit : Addr) (head : Option Addr) → JoinsBy bound target rows down e c exit head → (rank e < rank r.entry) ⊎ ((e ≡ r.entry) × (rank exit < rank r.far))
  earlier e c exit head joins =
      let by = goes_by bound target rows down e c exit head joins in
      elim (order by.row by.has) [
        | inl less ↦ inl (subst (λ (a : Addr). rank a < rank r.entry) by.entry less)
        | inr same ↦ inr (sym by.entry ∙ same.0, subst (λ (a : Addr). rank a < rank r.far) by.far same.1)
      ]

  from_before : (e : Addr) (c : ℕ) (exit : Addr) (head : Option Addr) → JoinsBy bound target rows down e c exit head → JoinsBy bound target (rows ++ r ∷ []) down e c exit head
  from_before e c exit head joins = joins_more bound target rows (rows ++ r ∷ []) down e c exit head (λ x has. Contains-append_left rows (r ∷ []) x has) joins

  from_row : (e : Addr) (c : ℕ) (exit : Addr) (head : Option Addr) → JoinsBy bound target (r ∷ []) down e c exit head → JoinsBy bound target (rows ++ r ∷ []) down e c exit head
  from_row e c exit head joins =
      joins_more bound target (r ∷ []) (rows ++ r ∷ []) down e c exit head (λ x has. subst (λ (y : BorderRow). Contains (rows ++ r ∷ []) y) (alone_is r x has) (Contains-push rows r)) joins

  -- the row joins to nothing
  pub skipped : (best : List Best) → JoinsNothing bound target down r → IsJoinOf bound target rows down best → IsJoinOf bound target (rows ++ r ∷ []) down best
  skipped best nothing is = record {
    rising = is.rising;
    each = λ b has. from_before b.entry b.cost b.exit b.head (is.each b has);
    least = λ b has c exit head joins. elim (joins_split bound target rows r down b.entry c exit head joins) [
      | inl before ↦ is.least b has c exit head before
      | inr here ↦ absurd (nothing b.entry c exit head here)
    ];
    all = λ e c exit head joins. elim (joins_split bound target rows r down e c exit head joins) [
      | inl before ↦ is.all e c exit head before
      | inr here ↦ absurd (nothing e c exit head here)
    ];
  }

  -- a way from an entry that has none yet
  pub added : (best : List Best) (w : Best) → IsJoinOfRow bound target down r w → IsJoinOf bound target rows down best → ((b : Best) → Contains best b → rank b.entry < rank w.entry) → IsJoinOf bound target (rows ++ r ∷ []) down (best ++ w ∷ [])
  added best w new is below = record {
    rising = pairs_more (λ (x y : Best). rank x.entry < rank y.entry) best w is.rising below;
    each = λ b has. elim (Contains-push_cases best w b has) [
      | inl old ↦ from_before b.entry b.cost b.exit b.head (is.each b old)
      | inr same ↦ subst (λ (x : Best). JoinsBy bound target (rows ++ r ∷ []) down x.entry x.cost x.exit x.head) same (from_row w.entry w.cost w.exit w.head new.joins)
    ];
    least = λ b has c exit head joins. elim (Contains-push_cases best w b has) [
      | inl old ↦ elim (joins_split bound target rows r down b.entry c exit head joins) [
        | inl before ↦ is.least b old c exit head before
        | inr here ↦ absurd (omega (arith, below b old, ap rank (alone_entry bound target r down b.entry c exit head here ∙ sym new.entry)))
      ]
      | inr same ↦
          let own : JoinsBy bound target (rows ++ r ∷ []) down w.entry c exit head = subst (λ (x : Best). JoinsBy bound target (rows ++ r ∷ []) down x.entry c exit head) (sym same) joins in
          subst (λ (x : Best). (x.cost < c) ⊎ ((x.cost ≡ c) × (rank x.exit ≤ rank exit))) same (elim (joins_split bound target rows r down w.entry c exit head own) [
            | inl before ↦ let there = is.all w.entry c exit head before in absurd (omega (arith, below there.0 there.1, ap rank there.2))
            | inr here ↦ inr (sym (new.cost w.entry c exit head here), (let exits : exit ≡ w.exit = alone_exit bound target r down w.entry c exit head here ∙ sym new.exit in omega (arith, ap rank exits)))
          ])
    ];
    all = λ e c exit head joins. elim (joins_split bound target rows r down e c exit head joins) [
      | inl before ↦ let there = is.all e c exit head before in (there.0, Contains-append_left best (w ∷ []) there.0 there.1, there.2)
      | inr here ↦ (w, Contains-push best w, new.entry ∙ sym (alone_entry bound target r down e c exit head here))
    ];
  }

  -- a way from the entry of the last one, which is kept
  pub kept_last : (older : List Best) (last w : Best) → IsJoinOfRow bound target down r w → IsJoinOf bound target rows down (older ++ last ∷ []) → last.entry ≡ w.entry → last.cost ≤ w.cost → IsJoinOf bound target (rows ++ r ∷ []) down (older ++ last ∷ [])
  kept_last older last w new is same cheap = record {
    rising = is.rising;
    each = λ b has. from_before b.entry b.cost b.exit b.head (is.each b has);
    least = λ b has c exit head joins. elim (joins_split bound target rows r down b.entry c exit head joins) [
      | inl before ↦ is.least b has c exit head before
      | inr here ↦ elim (Contains-push_cases older last b has) [
        | inl old ↦
            let less : rank b.entry < rank last.entry = before_last (λ (x y : Best). rank x.entry < rank y.entry) older last b is.rising old in
            absurd (omega (arith, less, ap rank (alone_entry bound target r down b.entry c exit head here ∙ sym new.entry ∙ sym same)))
        | inr is_last ↦
            let cost_is : c ≡ w.cost = new.cost b.entry c exit head here in
            let exit_is : exit ≡ r.far = alone_exit bound target r down b.entry c exit head here in
            let lower : rank last.exit < rank r.far = last_lower older last w new is same in
            subst (λ (x : Best). (x.cost < c) ⊎ ((x.cost ≡ c) × (rank x.exit ≤ rank exit))) is_last (elim (cases_lt last.cost c) [
              | inl less ↦ inl less
              | inr above ↦ inr (omega (arith, above, cost_is, cheap), omega (arith, lower, ap rank exit_is))
            ])
      ]
    ];
    all = λ e c exit head joins. elim (joins_split bound target rows r down e c exit head joins) [
      | inl before ↦ is.all e c exit head before
      | inr here ↦ (last, Contains-push older last, same ∙ new.entry ∙ sym (alone_entry bound target r down e c exit head here))
    ];
  }
    where
      last_lower : (older : List Best) (last w : Best) → IsJoinOfRow bound target down r w → IsJoinOf bound target rows down (older ++ last ∷ []) → last.entry ≡ w.entry → rank last.exit < rank r.far
      last_lower older last w new is same = elim (earlier last.entry last.cost last.exit last.head (is.each last (Contains-push older last))) [
        | inl less ↦ absurd (omega (arith, less, ap rank (same ∙ new.entry)))
        | inr here ↦ here.1
      ]

  -- a way from the entry of the last one, which is cheaper
  pub replaced : (older : List Best) (last w : Best) → IsJoinOfRow bound target down r w → IsJoinOf bound target rows down (older ++ last ∷ []) → last.entry ≡ w.entry → w.cost < last.cost → IsJoinOf bound target (rows ++ r ∷ []) down (older ++ w ∷ [])
  replaced older last w new is same cheap = record {
    rising = pairs_more (λ (x y : Best). rank x.entry < rank y.entry) older w (pairs_front (λ (x y : Best). rank x.entry < rank y.entry) older (last ∷ []) is.rising) (λ b has. below b has);
    each = λ b has. elim (Contains-push_cases older w b has) [
      | inl old ↦ from_before b.entry b.cost b.exit b.head (is.each b (Contains-append_left older (last ∷ []) b old))
      | inr is_w ↦ subst (λ (x : Best). JoinsBy bound target (rows ++ r ∷ []) down x.entry x.cost x.exit x.head) is_w (from_row w.entry w.cost w.exit w.head new.joins)
    ];
    least = λ b has c exit head joins. elim (Contains-push_cases older w b has) [
      | inl old ↦ elim (joins_split bound target rows r down b.entry c exit head joins) [
        | inl before ↦ is.least b (Contains-append_left older (last ∷ []) b old) c exit head before
        | inr here ↦ absurd (omega (arith, below b old, ap rank (alone_entry bound target r down b.entry c exit head here ∙ sym new.entry)))
      ]
      | inr is_w ↦
          let own : JoinsBy bound target (rows ++ r ∷ []) down w.entry c exit head = subst (λ (x : Best). JoinsBy bound target (rows ++ r ∷ []) down x.entry c exit head) (sym is_w) joins in
          subst (λ (x : Best). (x.cost < c) ⊎ ((x.cost ≡ c) × (rank x.exit ≤ rank exit))) is_w (elim (joins_split bound target rows r down w.entry c exit head own) [
            | inl before ↦
                let at_last : JoinsBy bound target rows down last.entry c exit head = subst (λ (a : Addr). JoinsBy bound target rows down a c exit head) (sym same) before in
                elim (is.least last (Contains-push older last) c exit head at_last) [
                  | inl less ↦ inl (omega (arith, less, cheap))
                  | inr equal ↦ inl (omega (arith, equal.0, cheap))
                ]
            | inr here ↦ inr (sym (new.cost w.entry c exit head here), (let exits : exit ≡ w.exit = alone_exit bound target r down w.entry c exit head here ∙ sym new.exit in omega (arith, ap rank exits)))
          ])
    ];
    all = λ e c exit head joins. elim (joins_split bound target rows r down e c exit head joins) [
      | inl before ↦
          let there = is.all e c exit head before in
          elim (Contains-push_cases older last there.0 there.1) [
            | inl old ↦ (there.0, Contains-append_left older (w ∷ []) there.0 old, there.2)
            | inr is_last ↦ (w, Contains-push older w, sym same ∙ ap (λ (x : Best). x.entry) is_last ∙ there.2)
          ]
      | inr here ↦ (w, Contains-push older w, new.entry ∙ sym (alone_entry bound target r down e c exit head here))
    ];
  }
    where
      below : (b : Best) → Contains older b → rank b.entry < rank w.entry
      below b has = subst (λ (a : Addr). rank b.entry < rank a) same (before_last (λ (x y : Best). rank x.entry < rank y.entry) older last b is.rising has)

  -- the last way is from another entry, so all are from lower ones
  all_lower : (best : List Best) (w : Best) → IsJoinOfRow bound target down r w → IsJoinOf bound target rows down best → EndsElsewhere w.entry best → (b : Best) → Contains best b → rank b.entry < rank w.entry
  all_lower best w new is elsewhere b has =
      let parts = has_last best b has in
      let there : IsJoinOf bound target rows down (parts.0 ++ parts.1 ∷ []) = subst (λ (bs : List Best). IsJoinOf bound target rows down bs) parts.2 is in
      let lower : rank parts.1.entry < rank w.entry = last_below parts.0 parts.1 there (elsewhere parts.0 parts.1 parts.2) in
      elim (Contains-push_cases parts.0 parts.1 b (subst (λ (bs : List Best). Contains bs b) parts.2 has)) [
        | inl old ↦ omega (arith, lower, before_last (λ (x y : Best). rank x.entry < rank y.entry) parts.0 parts.1 b there.rising old)
        | inr is_last ↦ subst (λ (x : Best). rank x.entry < rank w.entry) is_last lower
      ]
    where
      last_below : (older : List Best) (last : Best) → IsJoinOf bound target rows down (older ++ last ∷ []) → last.entry ≢ w.entry → rank last.entry < rank w.entry
      last_below older last there differs = elim (earlier last.entry last.cost last.exit last.head (there.each last (Contains-push older last))) [
        | inl less ↦ omega (arith, less, ap rank new.entry)
        | inr here ↦ absurd (differs (here.0 ∙ sym new.entry))
      ]

  -- a way that is taken in
  pub taken_in : (best after : List Best) (w : Best) → IsJoinOfRow bound target down r w → IsJoinOf bound target rows down best → TakesIn w best after → IsJoinOf bound target (rows ++ r ∷ []) down after
  taken_in best after w new is (inl same) =
      let older = same.0 in
      let last = same.1 in
      let there : IsJoinOf bound target rows down (older ++ last ∷ []) = subst (λ (bs : List Best). IsJoinOf bound target rows down bs) same.2 is in
      subst (λ (bs : List Best). IsJoinOf bound target (rows ++ r ∷ []) down bs) (sym same.4) (elim (cases_lt w.cost last.cost) [
        | inl less ↦ subst (λ (b : Bool). IsJoinOf bound target (rows ++ r ∷ []) down (older ++ cond b w last ∷ [])) (sym (lt-ltb w.cost last.cost less)) (replaced older last w new there same.3 less)
        | inr above ↦ subst (λ (b : Bool). IsJoinOf bound target (rows ++ r ∷ []) down (older ++ cond b w last ∷ [])) (sym (le-ltb w.cost last.cost above)) (kept_last older last w new there same.3 above)
      ])
  taken_in best after w new is (inr other) =
      subst (λ (bs : List Best). IsJoinOf bound target (rows ++ r ∷ []) down bs) (sym other.1) (added best w new is (all_lower best w new is other.0))

-- ---- the steps of a loop

pub no_rows : (bound : ℕ) (target : Target) (down : List Down) → IsJoinOf bound target [] down []
no_rows bound target down = record {
  rising = λ i j d less within. absurd (omega (arith, within));
  each = λ b has. absurd (none_in b has);
  least = λ b has c exit head joins. absurd (none_in b has);
  all = λ e c exit head joins. let by = goes_by bound target [] down e c exit head joins in absurd (none_in by.row by.has);
}

row_order : (rows : List BorderRow) (i : ℕ) (r : BorderRow) → AllPairs IsRowBefore rows → slice_get rows i ≡ Some r → (x : BorderRow) → Contains (take i rows) x → IsRowBefore x r
row_order rows i r pairs at x has =
    let whole : rows ≡ (take i rows ++ r ∷ []) ++ drop (suc i) rows = split_at rows i r at ∙ sym (append_assoc (take i rows) (r ∷ []) (drop (suc i) rows)) in
    before_last IsRowBefore (take i rows) r x (pairs_front IsRowBefore (take i rows ++ r ∷ []) (drop (suc i) rows) (subst (AllPairs IsRowBefore) whole pairs)) has

one_further : (rows : List BorderRow) (i : ℕ) (r : BorderRow) → slice_get rows i ≡ Some r → take i rows ++ r ∷ [] ≡ take (i + 1) rows
one_further rows i r at = sym (ap (λ (j : ℕ). take j rows) (let e : i + 1 ≡ suc i = omega arith in e) ∙ taken_at rows i r at)

pub row_joined : (bound : ℕ) (target : Target) (down : List Down) (rows : List BorderRow) (i : ℕ) (r : BorderRow) (best after : List Best) → AllPairs IsRowBefore rows → slice_get rows i ≡ Some r →
    IsJoinOf bound target (take i rows) down best → JoinsRow bound target down r best after → IsJoinOf bound target (take (i + 1) rows) down after
row_joined bound target down rows i r best after pairs at is (inl none) =
    subst (λ (rs : List BorderRow). IsJoinOf bound target rs down after) (one_further rows i r at)
    (subst (λ (bs : List Best). IsJoinOf bound target (take i rows ++ r ∷ []) down bs) (sym none.1) (skipped bound target down (take i rows) r (row_order rows i r pairs at) best none.0 is))
row_joined bound target down rows i r best after pairs at is (inr some) =
    subst (λ (rs : List BorderRow). IsJoinOf bound target rs down after) (one_further rows i r at) (taken_in bound target down (take i rows) r (row_order rows i r pairs at) best after some.0 some.1 is some.2)

-- ---- one row by itself

pub node_joins : (bound : ℕ) (t : Addr) (down : List Down) (r : BorderRow) → r.cost ≤ bound → JoinsOver bound (Node t) down r r.cost
node_joins bound t down r within = record {
  joins = record { row = r; is_row = first_in r []; at_entry = refl; sum = refl; exit = refl; within = within };
  one = one;
}
  where
    one : (e : Addr) (c : ℕ) (exit : Addr) (head : Option Addr) → JoinsBy bound (Node t) (r ∷ []) down e c exit head → c ≡ r.cost
    one e c exit None joins = joins.sum ∙ sym (ap (λ (x : BorderRow). x.cost) (alone_is r joins.row joins.is_row))
    one e c exit (Some head) joins = absurd joins

pub node_above : (bound : ℕ) (t : Addr) (down : List Down) (r : BorderRow) → bound < r.cost → JoinsNothing bound (Node t) down r
node_above bound t down r above e c exit None joins =
    let cost : r.cost ≡ joins.row.cost = ap (λ (x : BorderRow). x.cost) (alone_is r joins.row joins.is_row) in
    omega (arith, above, cost, joins.sum, joins.within)
node_above bound t down r above e c exit (Some head) joins = joins

-- what lies beyond the head of the row by itself
alone_beyond : (bound : ℕ) (down : List Down) (r : BorderRow) (e : Addr) (a : Label) (over : RowJoins bound (r ∷ []) (beyond down) e a) → (r.cost ≡ over.row.cost) × IsDown (beyond down) r.head over.beyond
alone_beyond bound down r e a over =
    let same : r ≡ over.row = alone_is r over.row over.is_row in
    (ap (λ (x : BorderRow). x.cost) same, subst (λ (x : BorderRow). IsDown (beyond down) x.head over.beyond) (sym same) over.is_down)

pub next_joins : (bound : ℕ) (b : As) (down : List Down) (r : BorderRow) (rest total : ℕ) → IsDown (beyond down) r.head rest → r.cost + rest ≤ bound → r.cost + rest ≡ total → JoinsOver bound (Next b) down r total
next_joins bound b down r rest total is within sum = record {
  joins = (record { row = r; is_row = first_in r []; at_entry = refl; beyond = rest; is_down = is; sum = sym sum; exit = refl; within = omega (arith, within, sum) }, refl);
  one = one;
}
  where
    one : (e : Addr) (c : ℕ) (exit : Addr) (head : Option Addr) → JoinsBy bound (Next b) (r ∷ []) down e c exit head → c ≡ total
    one e c exit None joins = absurd joins
    one e c exit (Some head) joins =
        let alone = alone_beyond bound down r e (pair c exit) joins.0 in
        let both : rest ≡ joins.0.beyond = down_unique (beyond down) r.head rest joins.0.beyond is alone.1 in
        omega (arith, joins.0.sum, alone.0, both, sum)

pub next_nowhere : (bound : ℕ) (b : As) (down : List Down) (r : BorderRow) → HasNoDown (beyond down) r.head → JoinsNothing bound (Next b) down r
next_nowhere bound b down r none e c exit None joins = joins
next_nowhere bound b down r none e c exit (Some head) joins =
    let alone = alone_beyond bound down r e (pair c exit) joins.0 in none joins.0.beyond alone.1.is_row

pub next_above : (bound : ℕ) (b : As) (down : List Down) (r : BorderRow) (rest : ℕ) → IsDown (beyond down) r.head rest → ¬ (r.cost + rest ≤ bound) → JoinsNothing bound (Next b) down r
next_above bound b down r rest is above e c exit None joins = joins
next_above bound b down r rest is above e c exit (Some head) joins =
    let alone = alone_beyond bound down r e (pair c exit) joins.0 in
    let both : rest ≡ joins.0.beyond = down_unique (beyond down) r.head rest joins.0.beyond is alone.1 in
    above (omega (arith, joins.0.sum, joins.0.within, alone.0, both))

pub node_within : (bound : ℕ) (t : Addr) (down : List Down) (r : BorderRow) (got : ℕ) (o : Option ℕ) → got ≡ r.cost → SomeIff o (got ≤ bound) got → MatchOption o (JoinsNothing bound (Node t) down r) (JoinsOver bound (Node t) down r)
node_within bound t down r got None own above = node_above bound t down r (elim (cases_lt bound r.cost) [ inl less ↦ less | inr within ↦ absurd (above (omega (arith, within, own))) ])
node_within bound t down r got (Some c) own some =
    subst (λ (n : ℕ). JoinsOver bound (Node t) down r n) (sym (some.1 ∙ own)) (node_joins bound t down r (omega (arith, some.0, own)))

pub next_within : (bound : ℕ) (b : As) (down : List Down) (r : BorderRow) (got rest more : ℕ) (o : Option ℕ) → got ≡ r.cost → more ≡ rest → IsDown (beyond down) r.head rest → SomeIff o (got + more ≤ bound) (got + more) →
    MatchOption o (JoinsNothing bound (Next b) down r) (JoinsOver bound (Next b) down r)
next_within bound b down r got rest more None own there is above = next_above bound b down r rest is (λ within. above (omega (arith, within, own, there)))
next_within bound b down r got rest more (Some c) own there is some = next_joins bound b down r rest c is (omega (arith, some.0, own, there)) (omega (arith, some.1, own, there))

pub way_is : (bound : ℕ) (target : Target) (down : List Down) (r : BorderRow) (w : Best) → JoinsOver bound target down r w.cost → w.entry ≡ r.entry → w.exit ≡ r.far → w.head ≡ head_over target r → IsJoinOfRow bound target down r w
way_is bound target down r w over entry exit head = record {
  joins = rw (entry, exit, head) over.joins;
  entry = entry;
  exit = exit;
  cost = over.one;
}

-- ---- a further way behind the others

pub with_last : (old older : List Best) (last w : Best) (chosen : Best) (after : List Best) → old ≡ older ++ last ∷ [] → last.entry ≡ w.entry → chosen ≡ cond (nat_lt w.cost last.cost) w last → after ≡ older ++ chosen ∷ [] → TakesIn w old after
with_last old older last w chosen after is same cheap made = inl (older, last, is, same, made ∙ ap (λ (b : Best). older ++ b ∷ []) cheap)

-- the last of a list is one alone
last_alone : {X : Type 0} → (xs ys : List X) (x y : X) → xs ++ x ∷ [] ≡ ys ++ y ∷ [] → x ≡ y
last_alone [] [] x y is = let same : x ∷ [] ≡ y ∷ [] = is in cc
last_alone [] (z ∷ ys) x y is = absurd (omega (arith, length_push ys y, ap length is))
last_alone (z ∷ xs) [] x y is = absurd (omega (arith, length_push xs x, ap length is))
last_alone {X} (z ∷ xs) (u ∷ ys) x y is = last_alone xs ys x y (ap (λ (zs : List X). drop 1 zs) is)

pub behind_other : (old older : List Best) (last w : Best) (after : List Best) → old ≡ older ++ last ∷ [] → (last.entry ≡ w.entry → ⊥) → after ≡ (older ++ last ∷ []) ++ w ∷ [] → TakesIn w old after
behind_other old older last w after is other made = inr ((λ front end whole same. other (ap (λ (b : Best). b.entry) (last_alone older front last end (sym is ∙ whole)) ∙ same)), made ∙ ap (λ (bs : List Best). bs ++ w ∷ []) (sym is))

pub first_way : (old : List Best) (w : Best) (after : List Best) → old ≡ [] → after ≡ w ∷ [] → TakesIn w old after
first_way old w after is made = inr ((λ front end whole same. none_ends front end (sym is ∙ whole)), made ∙ ap (λ (bs : List Best). bs ++ w ∷ []) (sym is))
  where
    none_ends : (front : List Best) (end : Best) → [] ≡ front ++ end ∷ [] → ⊥
    none_ends front end whole = omega (arith, length_push front end, ap length whole)

-- ---- ways lead to nodes of which the next domain told

told_at : (down : List Branch) (n : Addr) (c : ℕ) → Contains (beyond (downs down)) (record { node = n; cost = c }) → HasBranchAt down n
told_at [] n c has = absurd (none_in _ has)
told_at (b ∷ down) n c has = elim (in_cases _ (beyond (downs down)) _ has) [
  | inl same ↦ (0, b, omega arith, refl, ap (λ (x : Beyond). x.node) same)
  | inr there ↦ let rest = told_at down n c there in (suc rest.0, rest.1, omega (arith, rest.2), rest.3, rest.4)
]

head_told : (bound : ℕ) (target : Target) (rows : List BorderRow) (down : List Branch) (e : Addr) (c : ℕ) (exit : Addr) (head : Option Addr) → JoinsBy bound target rows (downs down) e c exit head → IfSome head (HasBranchAt down)
head_told bound (Node t) rows down e c exit None joins = tt
head_told bound (Node t) rows down e c exit (Some head) joins = absurd joins
head_told bound (Next b) rows down e c exit None joins = tt
head_told bound (Next b) rows down e c exit (Some head) joins = subst (λ (n : Addr). HasBranchAt down n) joins.1 (told_at down joins.0.row.head joins.0.beyond joins.0.is_down.is_row)

pub heads_told : (bound : ℕ) (target : Target) (rows : List BorderRow) (down : List Branch) (best : List Best) → IsJoinOf bound target rows (downs down) best → All (λ row. IfSome row.head (HasBranchAt down)) best
heads_told bound target rows down best is = each best (λ b has. head_told bound target rows down b.entry b.cost b.exit b.head (is.each b has))
  where
    each : (bs : List Best) → ((b : Best) → Contains bs b → IfSome b.head (HasBranchAt down)) → All (λ (row : Best). IfSome row.head (HasBranchAt down)) bs
    each [] all = All-nil (λ (row : Best). IfSome row.head (HasBranchAt down))
    each (b ∷ bs) all = All-cons (λ (row : Best). IfSome row.head (HasBranchAt down)) b bs (all b (first_in b bs)) (each bs (λ x has. all x (later_in b bs x has)))

-- ---- what the next domain told

abbrev pub beyond_of : Branch → Beyond
beyond_of b = record { node = b.entry; cost = b.cost }

pub one_more : (down : List Branch) (i : ℕ) (b : Branch) → i < length down → b ≡ get_or down i b → beyond (downs (take (i + 1) down)) ≡ beyond (downs (take i down)) ++ beyond_of b ∷ []
one_more down i b within is =
    ap (λ (bs : List Branch). beyond (downs bs)) (take_more down i b within) ∙ ap beyond (map-append down_of (take i down) (get_or down i b ∷ []))
    ∙ map-append (λ (d : Down). let x : Beyond = record { node = d.node; cost = d.cost } in x) (downs (take i down)) (down_of (get_or down i b) ∷ [])
    ∙ ap (λ (x : Branch). beyond (downs (take i down)) ++ beyond_of x ∷ []) (sym is)
  where
    down_of : Branch → Down
    down_of = λ x. record { node = x.entry; cost = x.cost }
