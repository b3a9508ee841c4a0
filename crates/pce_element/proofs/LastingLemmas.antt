-- What a change leaves of the requests that can be solved.
use Rattle.std.proofs.Common.{◌≡◌, ◌≢◌, ◌⊎◌, ◌∙◌, ◌+◌, ◌≤◌, ℕ, Bool, true, false, cond, Option, Some, None, List, [], ◌∷◌, ◌++◌, nat_eq, arith, inl, inr, refl, sym, ap, subst, option_map}
use Rattle.std.specs.Prelude.{filter}
use Rattle.std.specs.Map.{lookup, remove_entry}
use Rattle.std.proofs.lemmas.Bool.{cases_Bool, eqb-true, ne_eqb}
use Rattle.pce_common.specs.plant_model.Types.{As, Peer, Held, Branch}
use Rattle.request_table.specs.Pending.{Pending, ArePending, NumbersRise, item_of, opened_of, closed_of, key_of}
use Rattle.request_table.specs.Lends.{with_item}
use Rattle.request_table.proofs.PendingLemmas.{NumbersRise-last, NumbersRise-remove}
use Rattle.pce_common.specs.plant_model.Element as element
use Rattle.pce_common.specs.plant_model.Element.{Item, ElementSettings, Row, Stage, is_ready, at_stage, down_of, kept, stays}
use Rattle.pce_common.specs.plant_model.Plant.{Pin, Segment}
use Rattle.pce_element.specs.declared.change.Change.{Change}
use Rattle.pce_element.specs.declared.change.Change.TheVariants.{Nothing, Opens, Readies, Ends, Solves}
use Rattle.pce_element.specs.Changes.{Fits, all_closed, changed, readied, readied_item}
use Rattle.pce_element.specs.Items.{new_item}
use Rattle.pce_element.specs.Jobs.{Work, work_at, work_for}
use Rattle.pce_element.specs.Lasting.{LastsAs, RequestsLast, ReadyLast, JobsLast, LastsOn, LastsStill, LastsWithRequests}
use Rattle.pce_element.specs.Seen.{Seen, SameButRoom, with_element, with_losing}

-- ---- one request

pub same_lasts : {P : Type 0} → (o : Option (Item P)) → LastsAs o o
same_lasts None = tt
same_lasts (Some i) = λ ready. refl

pub none_lasts : {P : Type 0} → (o : Option (Item P)) (p : Option (Item P)) → p ≡ None → LastsAs o p
none_lasts {P} o p is = subst (LastsAs o) (sym is) (to_none o)
  where
    to_none : (o : Option (Item P)) → LastsAs o None
    to_none None = tt
    to_none (Some i) = tt

lasts_on : {P : Type 0} → (o p q : Option (Item P)) → LastsAs o p → LastsAs p q → LastsAs o q
lasts_on None None None first second = tt
lasts_on (Some i) None None first second = tt
lasts_on None (Some j) None first second = tt
lasts_on (Some i) (Some j) None first second = tt
lasts_on None None (Some k) first second = absurd second
lasts_on (Some i) None (Some k) first second = absurd second
lasts_on None (Some j) (Some k) first second = absurd first
lasts_on {P} (Some i) (Some j) (Some k) first second =
    λ ready. let same : j ≡ i = first ready in second (ap (λ (x : Item P). is_ready x.stage) same ∙ ready) ∙ same

-- ---- the request of a number

abbrev at : {P : Type 0} → List (Row P) → ℕ → Option (Item P)
at {P} rows n = option_map (λ (h : Held (Item P)). h.item) (lookup (nat_eq n) rows)

-- no request stands below the numbers of the rows
none_below : {P : Type 0} → (n low high : ℕ) (rows : List (Row P)) → NumbersRise low rows high → n ≤ low → at rows n ≡ None
none_below n low high [] rises below = refl
none_below n low high (h ∷ rows) rises below =
    rw (ne_eqb n h.0 (λ same. omega (arith, same, rises.0, below))) (none_below n h.0 high rows rises.1 (omega (arith, rises.0, below)))

found_below : {P : Type 0} → (n low high : ℕ) (rows : List (Row P)) (i : Item P) → NumbersRise low rows high → at rows n ≡ Some i → n ≤ high
found_below n low high [] i rises found = absurd (let no : None ≡ Some i = found in cc)
found_below n low high (h ∷ rows) i rises found =
    elim (cases_Bool (nat_eq n h.0)) [
      | inl hit ↦ omega (arith, eqb-true n h.0 hit, NumbersRise-last h.0 high rows rises.1)
      | inr miss ↦ found_below n h.0 high rows i rises.1 (rw miss at found)
    ]

closed_lasts : {P : Type 0} → (n m low high : ℕ) (rows : List (Row P)) → NumbersRise low rows high → LastsAs (at rows n) (at (remove_entry (nat_eq m) rows) n)
closed_lasts n m low high [] rises = tt
closed_lasts n m low high (h ∷ rows) rises =
    elim (cases_Bool (nat_eq m h.0)) [
      | inl hit ↦
          rw hit (elim (cases_Bool (nat_eq n h.0)) [
            | inl own ↦ none_lasts (at (h ∷ rows) n) (at rows n) (none_below n h.0 high rows rises.1 (omega (arith, eqb-true n h.0 own)))
            | inr other ↦ rw other (same_lasts (at rows n))
          ])
      | inr miss ↦
          rw miss (elim (cases_Bool (nat_eq n h.0)) [
            | inl own ↦ rw own (λ ready. refl)
            | inr other ↦ rw other (closed_lasts n m h.0 high rows rises.1)
          ])
    ]

written_lasts : {P : Type 0} → (n m : ℕ) (i : Item P) (rows : List (Row P)) (old : Item P) → at rows m ≡ Some old → is_ready old.stage ≡ false → LastsAs (at rows n) (at (with_item m i rows) n)
written_lasts n m i [] old found waits = tt
written_lasts {P} n m i (h ∷ rows) old found waits =
    elim (cases_Bool (nat_eq m h.0)) [
      | inl hit ↦
          let same : Some h.1.item ≡ Some old = rw hit at found in
          let is : h.1.item ≡ old = cc in
          rw hit (elim (cases_Bool (nat_eq n h.0)) [
            | inl own ↦ rw own (λ ready. absurd (never (is_ready h.1.item.stage) (ap (λ (x : Item P). is_ready x.stage) is ∙ waits) ready))
            | inr other ↦ rw other (same_lasts (at rows n))
          ])
      | inr miss ↦
          rw miss (elim (cases_Bool (nat_eq n h.0)) [
            | inl own ↦ rw own (λ ready. refl)
            | inr other ↦ rw other (written_lasts n m i rows old (rw miss at found) waits)
          ])
    ]
  where
    never : (b : Bool) → b ≡ false → b ≡ true → ⊥
    never b is other = cc

none_kept : {P : Type 0} → (test : Row P → Bool) (n low high : ℕ) (rows : List (Row P)) → NumbersRise low rows high → n ≤ low → at (filter test rows) n ≡ None
none_kept test n low high [] rises below = refl
none_kept test n low high (h ∷ rows) rises below = go (test h) (none_kept test n h.0 high rows rises.1 (omega (arith, rises.0, below)))
  where
    go : (b : Bool) → at (filter test rows) n ≡ None → at (cond b (h ∷ filter test rows) (filter test rows)) n ≡ None
    go true rest = rw (ne_eqb n h.0 (λ same. omega (arith, same, rises.0, below))) rest
    go false rest = rest

kept_lasts : {P : Type 0} → (test : Row P → Bool) (n low high : ℕ) (rows : List (Row P)) → NumbersRise low rows high → LastsAs (at rows n) (at (filter test rows) n)
kept_lasts test n low high [] rises = tt
kept_lasts test n low high (h ∷ rows) rises = go (test h) (kept_lasts test n h.0 high rows rises.1)
  where
    go : (b : Bool) → LastsAs (at rows n) (at (filter test rows) n) → LastsAs (at (h ∷ rows) n) (at (cond b (h ∷ filter test rows) (filter test rows)) n)
    go true rest = elim (cases_Bool (nat_eq n h.0)) [
      | inl own ↦ rw own (λ ready. refl)
      | inr other ↦ rw other rest
    ]
    go false rest = elim (cases_Bool (nat_eq n h.0)) [
      | inl own ↦ none_lasts (at (h ∷ rows) n) (at (filter test rows) n) (none_kept test n h.0 high rows rises.1 (omega (arith, eqb-true n h.0 own)))
      | inr other ↦ rw other rest
    ]

opened_lasts : {P : Type 0} → (n : ℕ) (rows : List (Row P)) (m : ℕ) (held : Held (Item P)) → n ≢ m → LastsAs (at rows n) (at (rows ++ (m, held) ∷ []) n)
opened_lasts n [] m held differ = rw (ne_eqb n m differ) tt
opened_lasts n (h ∷ rows) m held differ = elim (cases_Bool (nat_eq n h.0)) [
  | inl own ↦ rw own (λ ready. refl)
  | inr other ↦ rw other (opened_lasts n rows m held differ)
]

-- ---- all requests

pub pending_same : {P : Type 0} → (old new : Pending (Item P)) → new ≡ old → RequestsLast old new
pending_same old new is = subst (RequestsLast old) (sym is) (record { given = omega arith; each = λ n below. same_lasts (item_of old n) })

requests_on : {P : Type 0} → (a b c : Pending (Item P)) → RequestsLast a b → RequestsLast b c → RequestsLast a c
requests_on a b c first second = record {
  given = omega (arith, first.given, second.given);
  each = λ n below. lasts_on (item_of a n) (item_of b n) (item_of c n) (first.each n below) (second.each n (omega (arith, below, first.given)));
}

pub closed_last : {P : Type 0} → (n : ℕ) (p : Pending (Item P)) → NumbersRise 0 p.rows p.given → RequestsLast p (closed_of p n)
closed_last n p rises = record { given = omega arith; each = λ m below. closed_lasts m n 0 p.given p.rows rises }

pub all_last : {P : Type 0} → (ns : List ℕ) (p : Pending (Item P)) → NumbersRise 0 p.rows p.given → RequestsLast p (all_closed ns p)
all_last [] p rises = pending_same p p refl
all_last (n ∷ ns) p rises =
    requests_on p (closed_of p n) (all_closed ns (closed_of p n)) (closed_last n p rises)
    (all_last ns (closed_of p n) (NumbersRise-remove (nat_eq n) 0 p.given p.rows rises))

pub opened_last : {P : Type 0} → (peer : Peer) (id : ℕ) (i : Item P) (p : Pending (Item P)) → RequestsLast p (opened_of p peer id i)
opened_last peer id i p = record {
  given = omega arith;
  each = λ n below. opened_lasts n p.rows (p.given + 1) (record { key = key_of peer id; item = i }) (λ same. omega (arith, below, same));
}

pub left_last : {P : Type 0} → (peer : Peer) (p : Pending (Item P)) → NumbersRise 0 p.rows p.given → RequestsLast p (record p { rows = kept peer p.rows })
left_last peer p rises = record { given = omega arith; each = λ n below. kept_lasts (stays peer) n 0 p.given p.rows rises }

readied_last : {P : Type 0} → (number : ℕ) (branches : List Branch) (p : Pending (Item P)) → ((i : Item P) → item_of p number ≡ Some i → is_ready i.stage ≡ false) → RequestsLast p (readied number branches p)
readied_last {P} number branches p waits = go (item_of p number) refl
  where
    go : (o : Option (Item P)) → item_of p number ≡ o → RequestsLast p (readied_item number branches p o)
    go None found = pending_same p p refl
    go (Some i) found = record { given = omega arith; each = λ n below. written_lasts n number (at_stage (element.Ready branches) i) p.rows i found (waits i found) }

pub changed_last : {P : Type 0} {S : Type 0} {D : Type 0} → (s : Seen P S) (change : Change D S) → NumbersRise 0 s.losing.element.pending.rows s.losing.element.pending.given → Fits s change →
    RequestsLast s.losing.element.pending (changed s.current change s.losing.element).pending
changed_last s Nothing rises fits = pending_same s.losing.element.pending s.losing.element.pending refl
changed_last s (Opens peer id opening) rises fits = opened_last peer id (new_item opening s.current) s.losing.element.pending
changed_last s (Readies number branches) rises fits = readied_last number branches s.losing.element.pending fits
changed_last s (Ends numbers) rises fits = all_last numbers s.losing.element.pending rises
changed_last s (Solves number solved now segments) rises fits = closed_last number s.losing.element.pending rises

-- ---- jobs

module _ (s t : Seen Pin Segment) (rises : NumbersRise 0 s.losing.element.pending.rows s.losing.element.pending.given) (own : t.place.own ≡ s.place.own)
    (last : RequestsLast s.losing.element.pending t.losing.element.pending) where
  abbrev old : Pending (Item Pin)
  old = s.losing.element.pending

  abbrev new : Pending (Item Pin)
  new = t.losing.element.pending

  ready_at : (n : ℕ) (i : Item Pin) (w : Work) (stage : Stage) → work_at s.place.own n i stage ≡ Some w → is_ready stage ≡ true
  ready_at n i w (element.Waits on id) is = absurd (let no : None ≡ Some w = is in cc)
  ready_at n i w (element.Ready down) is = refl

  kept_job : (n : ℕ) (w : Work) (o p : Option (Item Pin)) → item_of old n ≡ o → (n ≤ old.given → LastsAs o p) → work_for s.place.own n o ≡ Some w →
      (n ≤ old.given) × ((work_for t.place.own n p ≡ Some w) ⊎ (p ≡ None))
  kept_job n w None p found lasts is = absurd (let no : None ≡ Some w = is in cc)
  kept_job n w (Some i) None found lasts is = (found_below n 0 old.given old.rows i rises found, inr refl)
  kept_job n w (Some i) (Some j) found lasts is =
      let below : n ≤ old.given = found_below n 0 old.given old.rows i rises found in
      let same : j ≡ i = lasts below (ready_at n i w i.stage is) in
      (below, inl (ap (λ (a : As). work_for a n (Some j)) own ∙ ap (λ (x : Item Pin). work_for s.place.own n (Some x)) same ∙ is))

  gone_on : (o p : Option (Item Pin)) → o ≡ None → LastsAs o p → p ≡ None
  gone_on o None none lasts = refl
  gone_on None (Some j) none lasts = absurd lasts
  gone_on (Some i) (Some j) none lasts = absurd (let no : Some i ≡ None = none in cc)

  pub jobs_last : JobsLast s t
  jobs_last = record {
    given = last.given;
    kept = λ n w is. kept_job n w (item_of old n) (item_of new n) refl (last.each n) is;
    gone = λ n below none. gone_on (item_of old n) (item_of new n) none (last.each n below);
  }

pub lasts_over : LastsOn
lasts_over a b c first second = record {
  given = omega (arith, first.given, second.given);
  kept = λ n w is.
      let one = first.kept n w is in (
        one.0,
        elim one.1 [
          | inl same ↦ (second.kept n w same).1
          | inr none ↦ inr (second.gone n (omega (arith, one.0, first.given)) none)
        ],
      );
  gone = λ n below none. second.gone n (omega (arith, below, first.given)) (first.gone n below none);
}

-- ---- calls

pub made_last : {P : Type 0} {S : Type 0} {D : Type 0} → (s t : Seen P S) (change : Change D S) → ArePending s.losing.element.pending → Fits s change → SameButRoom (with_element (changed s.current change s.losing.element) s) t → ReadyLast s t
made_last {P} {S} {D} s t change are fits is = record {
  requests = subst (λ (x : Seen P S). RequestsLast s.losing.element.pending x.losing.element.pending) (sym is) (changed_last s change are.numbers fits);
}

pub down_last : {P : Type 0} {S : Type 0} → (s t : Seen P S) (peer : Peer) → ArePending s.losing.element.pending → SameButRoom (with_losing (down_of peer s.losing) s) t → ReadyLast s t
down_last {P} {S} s t peer are is = record {
  requests = subst (λ (x : Seen P S). RequestsLast s.losing.element.pending x.losing.element.pending) (sym is) (left_last peer s.losing.element.pending are.numbers);
}

pub lasts_with : LastsWithRequests
lasts_with a b are place last = jobs_last a b are.numbers (ap (λ (x : ElementSettings). x.own) place) last.requests

pub still_last : LastsStill
still_last a b are place same = lasts_with a b are place (record { requests = pending_same a.losing.element.pending b.losing.element.pending same })
