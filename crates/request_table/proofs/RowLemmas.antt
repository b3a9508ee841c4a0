-- Rows that are read, added, written and taken out, by the places of their numbers.
use Rattle.std.proofs.Common.{◌≡◌, ◌≢◌, ◌∙◌, ◌∷◌, ◌++◌, ◌<◌, ◌≤◌, ◌-◌, [], ℕ, zero, suc, min, cond, List, Option, Some, None, true, false, is_some, length, nat_eq, get_or, slice_get, arith, refl, sym, ap, subst}
use Rattle.std.specs.Prelude.{IsSome, remove, slice_index_or}
use Rattle.std.specs.Map.{lookup, remove_entry, set_value}
use Rattle.std.proofs.lemmas.Bool.{ne_eqb, eq-eqb}
use Rattle.std.proofs.lemmas.List.Sums.{sum_by-set}
use Rattle.std.proofs.lemmas.Option.{none-some, same_Some, slice_get_past, slice_get_read}
use Rattle.dom_base.specs.Room.{Room}
use Rattle.slab.specs.Slab.{Slab, get, slab_len, with_value}
use Rattle.slab.proofs.SlabLemmas.{ContainsKey-within}
use Rattle.request_table.specs.declared.rows.Place.{Place}
use Rattle.request_table.specs.Rows.{AreAbove, AreApart, AreBelow, ArePlaces, HasNoPlace, IsPlaceOf, rows_in, with_row}

-- ---- one place

above_at : (number : ℕ) (places : List Place) (k : ℕ) (p : Place) → AreAbove number places → slice_get places k ≡ Some p → number < p.number
above_at number [] k p above is = absurd (none-some p is)
above_at number (q ∷ places) zero p above is = omega (arith, above.0, ap (λ (r : Place). r.number) (same_Some q p is))
above_at number (q ∷ places) (suc k) p above is = above_at number places k p above.1 is

apart_at : (slot : ℕ) (places : List Place) (k : ℕ) (p : Place) → AreApart slot places → slice_get places k ≡ Some p → p.slot ≢ slot
apart_at slot [] k p apart is = absurd (none-some p is)
apart_at slot (q ∷ places) zero p apart is = λ same. apart.0 (ap (λ (r : Place). r.slot) (same_Some q p is) ∙ same)
apart_at slot (q ∷ places) (suc k) p apart is = apart_at slot places k p apart.1 is

above_remove : (number : ℕ) (places : List Place) (k : ℕ) → AreAbove number places → AreAbove number (remove places k)
above_remove number [] zero above = tt
above_remove number [] (suc k) above = tt
above_remove number (q ∷ places) zero above = above.1
above_remove number (q ∷ places) (suc k) above = (above.0, above_remove number places k above.1)

apart_remove : (slot : ℕ) (places : List Place) (k : ℕ) → AreApart slot places → AreApart slot (remove places k)
apart_remove slot [] zero apart = tt
apart_remove slot [] (suc k) apart = tt
apart_remove slot (q ∷ places) zero apart = apart.1
apart_remove slot (q ∷ places) (suc k) apart = (apart.0, apart_remove slot places k apart.1)

above_push : (number : ℕ) (places : List Place) (p : Place) → AreAbove number places → number < p.number → AreAbove number (places ++ p ∷ [])
above_push number [] p above less = (less, tt)
above_push number (q ∷ places) p above less = (above.0, above_push number places p above.1 less)

apart_push : (slot : ℕ) (places : List Place) (p : Place) → AreApart slot places → p.slot ≢ slot → AreApart slot (places ++ p ∷ [])
apart_push slot [] p apart other = (other, tt)
apart_push slot (q ∷ places) p apart other = (apart.0, apart_push slot places p apart.1 other)

above_get : (number : ℕ) (places : List Place) (j : ℕ) (d : Place) → AreAbove number places → j < length places → number < (get_or places j d).number
above_get number [] j d above below = absurd (omega (arith, below))
above_get number (q ∷ places) zero d above below = above.0
above_get number (q ∷ places) (suc j) d above below = above_get number places j d above.1 (omega (arith, below))

module _ {X : Type 0} where
  some_of : (o : Option X) → IsSome o → (x : X) × (o ≡ Some x)
  some_of None some = absurd (let e : false ≡ true = some in cc)
  some_of (Some x) some = (x, refl)

  pub not_none : (o : Option X) → o ≡ None → IsSome o → ⊥
  not_none None none some = let e : false ≡ true = some in cc
  not_none (Some x) none some = let e : Some x ≡ None = none in cc

  -- ---- one row more in front

  skip_lookup : (o : Option X) (n number : ℕ) (rows : List (ℕ × X)) → n ≢ number → lookup (nat_eq number) (with_row n o rows) ≡ lookup (nat_eq number) rows
  skip_lookup None n number rows differ = refl
  skip_lookup (Some x) n number rows differ = rw (ne_eqb number n (λ e. differ (sym e))) refl

  skip_remove : (o : Option X) (n number : ℕ) (rows : List (ℕ × X)) → n ≢ number → remove_entry (nat_eq number) (with_row n o rows) ≡ with_row n o (remove_entry (nat_eq number) rows)
  skip_remove None n number rows differ = refl
  skip_remove (Some x) n number rows differ = rw (ne_eqb number n (λ e. differ (sym e))) refl

  skip_set : (o : Option X) (n number : ℕ) (rows : List (ℕ × X)) (w : X) → n ≢ number → set_value (nat_eq number) (with_row n o rows) w ≡ with_row n o (set_value (nat_eq number) rows w)
  skip_set None n number rows w differ = refl
  skip_set (Some x) n number rows w differ = rw (ne_eqb number n (λ e. differ (sym e))) refl

  with_row_push : (o : Option X) (n : ℕ) (rows : List (ℕ × X)) (row : ℕ × X) → with_row n o (rows ++ row ∷ []) ≡ with_row n o rows ++ row ∷ []
  with_row_push None n rows row = refl
  with_row_push (Some x) n rows row = refl

  -- ---- rows that are read

  pub found : (at : ℕ → Option X) (places : List Place) (k : ℕ) (p : Place) → ArePlaces at places → slice_get places k ≡ Some p → lookup (nat_eq p.number) (rows_in at places) ≡ at p.slot
  found at [] k p are is = absurd (none-some p is)
  found at (q ∷ places) zero p are is =
      let x = some_of (at q.slot) are.0 in
      let own : lookup (nat_eq q.number) (rows_in at (q ∷ places)) ≡ at q.slot = rw (x.1, eq-eqb q.number q.number refl) refl in
      subst (λ (r : Place). lookup (nat_eq r.number) (rows_in at (q ∷ places)) ≡ at r.slot) (same_Some q p is) own
  found at (q ∷ places) (suc k) p are is =
      let less = above_at q.number places k p are.2 is in
      skip_lookup (at q.slot) q.number p.number (rows_in at places) (λ e. omega (arith, e, less)) ∙ found at places k p are.3 is

  pub absent : (at : ℕ → Option X) (places : List Place) (number : ℕ) → HasNoPlace places number → lookup (nat_eq number) (rows_in at places) ≡ None
  absent at [] number none = refl
  absent at (q ∷ places) number none = skip_lookup (at q.slot) q.number number (rows_in at places) (none zero q refl) ∙ absent at places number (λ k. none (suc k))

  pub absent_removed : (at : ℕ → Option X) (places : List Place) (number : ℕ) → HasNoPlace places number → remove_entry (nat_eq number) (rows_in at places) ≡ rows_in at places
  absent_removed at [] number none = refl
  absent_removed at (q ∷ places) number none =
      skip_remove (at q.slot) q.number number (rows_in at places) (none zero q refl) ∙ ap (with_row q.number (at q.slot)) (absent_removed at places number (λ k. none (suc k)))

  pub length_rows : (at : ℕ → Option X) (places : List Place) → ArePlaces at places → length (rows_in at places) ≡ length places
  length_rows at [] are = refl
  length_rows at (q ∷ places) are =
      let x = some_of (at q.slot) are.0 in
      rw x.1 (ap suc (length_rows at places are.3))

  pub row_at : (at : ℕ → Option X) (places : List Place) (k : ℕ) (p : Place) (x : X) → ArePlaces at places → slice_get places k ≡ Some p → at p.slot ≡ Some x →
      slice_get (rows_in at places) k ≡ Some (p.number, x)
  row_at at [] k p x are is got = absurd (none-some p is)
  row_at at (q ∷ places) zero p x are is got =
      let same = same_Some q p is in
      rw (ap (λ (r : Place). at r.slot) same ∙ got) (ap (λ (r : Place). let row : ℕ × X = (r.number, x) in Some row) same)
  row_at at (q ∷ places) (suc k) p x are is got =
      let y = some_of (at q.slot) are.0 in
      rw y.1 (row_at at places k p x are.3 is got)

  pub none_past : (at : ℕ → Option X) (places : List Place) (k : ℕ) → ArePlaces at places → slice_get places k ≡ None → slice_get (rows_in at places) k ≡ None
  none_past at [] k are none = refl
  none_past at (q ∷ places) zero are none = absurd (none-some q (sym none))
  none_past at (q ∷ places) (suc k) are none =
      let y = some_of (at q.slot) are.0 in
      rw y.1 (none_past at places k are.3 none)

  pub value_at : (at : ℕ → Option X) (places : List Place) (k : ℕ) (p : Place) → ArePlaces at places → slice_get places k ≡ Some p → IsSome (at p.slot)
  value_at at [] k p are is = absurd (none-some p is)
  value_at at (q ∷ places) zero p are is = subst (λ (r : Place). IsSome (at r.slot)) (same_Some q p is) are.0
  value_at at (q ∷ places) (suc k) p are is = value_at at places k p are.3 is

  pub none_at : (at : ℕ → Option X) (places : List Place) (k : ℕ) (p : Place) → ArePlaces at places → slice_get places k ≡ Some p → at p.slot ≡ None → ⊥
  none_at at places k p are is none = not_none (at p.slot) none (value_at at places k p are is)

  -- ---- slots that change

  -- each slot but one has what it had
  abbrev pub Others : (ℕ → Option X) → (ℕ → Option X) → ℕ → Type 0
  Others at after slot = (other : ℕ) → other ≢ slot → after other ≡ at other

  rows_others : (at after : ℕ → Option X) (slot : ℕ) (places : List Place) → AreApart slot places → Others at after slot → rows_in after places ≡ rows_in at places
  rows_others at after slot [] apart others = refl
  rows_others at after slot (q ∷ places) apart others =
      ap (λ o. with_row q.number o (rows_in after places)) (others q.slot apart.0) ∙ ap (with_row q.number (at q.slot)) (rows_others at after slot places apart.1 others)

  some_other : (at after : ℕ → Option X) (slot other : ℕ) → Others at after slot → other ≢ slot → IsSome (at other) → IsSome (after other)
  some_other at after slot other others differ some = subst (λ (o : Option X). IsSome o) (sym (others other differ)) some

  places_others : (at after : ℕ → Option X) (slot : ℕ) (places : List Place) → ArePlaces at places → AreApart slot places → Others at after slot → ArePlaces after places
  places_others at after slot [] are apart others = tt
  places_others at after slot (q ∷ places) are apart others =
      (some_other at after slot q.slot others apart.0 are.0, are.1, are.2, places_others at after slot places are.3 apart.1 others)

  -- ---- a row more

  pub fresh_apart : (at : ℕ → Option X) (slot : ℕ) (places : List Place) → at slot ≡ None → ArePlaces at places → AreApart slot places
  fresh_apart at slot [] none are = tt
  fresh_apart at slot (q ∷ places) none are = ((λ same. not_none (at q.slot) (ap at same ∙ none) are.0), fresh_apart at slot places none are.3)

  pub pushed_rows : (at after : ℕ → Option X) (places : List Place) (p : Place) (x : X) → AreApart p.slot places → after p.slot ≡ Some x → Others at after p.slot →
      rows_in after (places ++ p ∷ []) ≡ rows_in at places ++ (p.number, x) ∷ []
  pushed_rows at after [] p x apart got others = rw got refl
  pushed_rows at after (q ∷ places) p x apart got others =
      ap (λ o. with_row q.number o (rows_in after (places ++ p ∷ []))) (others q.slot apart.0)
      ∙ ap (with_row q.number (at q.slot)) (pushed_rows at after places p x apart.1 got others)
      ∙ with_row_push (at q.slot) q.number (rows_in at places) (p.number, x)

  pub pushed_places : (at after : ℕ → Option X) (places : List Place) (p : Place) → ArePlaces at places → AreApart p.slot places → AreBelow p.number (rows_in at places) →
      IsSome (after p.slot) → Others at after p.slot → ArePlaces after (places ++ p ∷ [])
  pushed_places at after [] p are apart below some others = (some, tt, tt, tt)
  pushed_places at after (q ∷ places) p are apart below some others =
      let x = some_of (at q.slot) are.0 in
      let less : (q.number < p.number) × AreBelow p.number (rows_in at places) = rw x.1 at below in (
        some_other at after p.slot q.slot others apart.0 are.0,
        apart_push q.slot places p are.1 (λ same. apart.0 (sym same)),
        above_push q.number places p are.2 less.0,
        pushed_places at after places p are.3 apart.1 less.1 some others,
      )

  -- ---- a row less

  pub removed_rows : (at after : ℕ → Option X) (places : List Place) (k : ℕ) (p : Place) → ArePlaces at places → slice_get places k ≡ Some p → Others at after p.slot →
      rows_in after (remove places k) ≡ remove_entry (nat_eq p.number) (rows_in at places)
  removed_rows at after [] k p are is others = absurd (none-some p is)
  removed_rows at after (q ∷ places) zero p are is others =
      let same = same_Some q p is in
      let x = some_of (at q.slot) are.0 in
      let hit : nat_eq p.number q.number ≡ true = eq-eqb p.number q.number (ap (λ (r : Place). r.number) (sym same)) in
      rw (x.1, hit) (rows_others at after p.slot places (subst (λ (r : Place). AreApart r.slot places) same are.1) others)
  removed_rows at after (q ∷ places) (suc k) p are is others =
      let less = above_at q.number places k p are.2 is in
      let differ = apart_at q.slot places k p are.1 is in
      ap (λ o. with_row q.number o (rows_in after (remove places k))) (others q.slot (λ e. differ (sym e)))
      ∙ ap (with_row q.number (at q.slot)) (removed_rows at after places k p are.3 is others)
      ∙ sym (skip_remove (at q.slot) q.number p.number (rows_in at places) (λ e. omega (arith, e, less)))

  pub removed_places : (at after : ℕ → Option X) (places : List Place) (k : ℕ) (p : Place) → ArePlaces at places → slice_get places k ≡ Some p → Others at after p.slot →
      ArePlaces after (remove places k)
  removed_places at after [] k p are is others = absurd (none-some p is)
  removed_places at after (q ∷ places) zero p are is others =
      places_others at after p.slot places are.3 (subst (λ (r : Place). AreApart r.slot places) (same_Some q p is) are.1) others
  removed_places at after (q ∷ places) (suc k) p are is others =
      let differ = apart_at q.slot places k p are.1 is in (
        some_other at after p.slot q.slot others (λ e. differ (sym e)) are.0,
        apart_remove q.slot places k are.1,
        above_remove q.number places k are.2,
        removed_places at after places k p are.3 is others,
      )

  -- ---- a row that is written

  pub written_rows : (at after : ℕ → Option X) (places : List Place) (k : ℕ) (p : Place) (w : X) → ArePlaces at places → slice_get places k ≡ Some p → after p.slot ≡ Some w →
      Others at after p.slot → rows_in after places ≡ set_value (nat_eq p.number) (rows_in at places) w
  written_rows at after [] k p w are is got others = absurd (none-some p is)
  written_rows at after (q ∷ places) zero p w are is got others =
      let same = same_Some q p is in
      let x = some_of (at q.slot) are.0 in
      let hit : nat_eq p.number q.number ≡ true = eq-eqb p.number q.number (ap (λ (r : Place). r.number) (sym same)) in
      let own : after q.slot ≡ Some w = ap (λ (r : Place). after r.slot) same ∙ got in
      rw (own, x.1, hit) (ap (λ rows. (q.number, w) ∷ rows) (rows_others at after p.slot places (subst (λ (r : Place). AreApart r.slot places) same are.1) others))
  written_rows at after (q ∷ places) (suc k) p w are is got others =
      let less = above_at q.number places k p are.2 is in
      let differ = apart_at q.slot places k p are.1 is in
      ap (λ o. with_row q.number o (rows_in after places)) (others q.slot (λ e. differ (sym e)))
      ∙ ap (with_row q.number (at q.slot)) (written_rows at after places k p w are.3 is got others)
      ∙ sym (skip_set (at q.slot) q.number p.number (rows_in at places) w (λ e. omega (arith, e, less)))

  pub written_places : (at after : ℕ → Option X) (places : List Place) (k : ℕ) (p : Place) → ArePlaces at places → slice_get places k ≡ Some p → IsSome (after p.slot) →
      Others at after p.slot → ArePlaces after places
  written_places at after [] k p are is some others = absurd (none-some p is)
  written_places at after (q ∷ places) zero p are is some others =
      let same = same_Some q p is in (
        subst (λ (r : Place). IsSome (after r.slot)) (sym same) some,
        are.1,
        are.2,
        places_others at after p.slot places are.3 (subst (λ (r : Place). AreApart r.slot places) same are.1) others,
      )
  written_places at after (q ∷ places) (suc k) p are is some others =
      let differ = apart_at q.slot places k p are.1 is in (
        some_other at after p.slot q.slot others (λ e. differ (sym e)) are.0,
        are.1,
        are.2,
        written_places at after places k p are.3 is some others,
      )

  -- ---- in order

  pub rises : (at : ℕ → Option X) (places : List Place) → ArePlaces at places → (i j : ℕ) (d : Place) → i < j → j < length places → (get_or places i d).number < (get_or places j d).number
  rises at [] are i j d less below = absurd (omega (arith, below))
  rises at (q ∷ places) are i zero d less below = absurd (omega (arith, less))
  rises at (q ∷ places) are zero (suc j) d less below = above_get q.number places j d are.2 (omega (arith, below))
  rises at (q ∷ places) are (suc i) (suc j) d less below = rises at places are.3 i j d (omega (arith, less)) (omega (arith, below))

-- the place that a search hands out, as it is read
pub read_place : (places : List Place) (number k : ℕ) (p : Place) → IsPlaceOf places number k → p ≡ get_or places k p → (slice_get places k ≡ Some p) × (p.number ≡ number)
read_place places number k p found is =
    let at_place = slice_get_read places (length places) k p refl found.within is in
    (at_place, ap (λ (r : Place). r.number) (same_Some p found.place (sym at_place ∙ found.at_place)) ∙ found.is)

module _ {X : Type 0} (at : ℕ → Option X) (places slice : List Place) (are : ArePlaces at places) (same : slice ≡ places) where
  pub rises_in : (i j : ℕ) (d : Place) → i < j → j < length slice → (get_or slice i d).number < (get_or slice j d).number
  rises_in = subst (λ (xs : List Place). (i j : ℕ) (d : Place) → i < j → j < length xs → (get_or xs i d).number < (get_or xs j d).number) (sym same) (rises at places are)

  pub past_in : (k : ℕ) → length slice ≤ k → None ≡ slice_get (rows_in at places) k
  past_in k past = sym (none_past at places k are (slice_get_past places k (subst (λ (xs : List Place). length xs ≤ k) same past)))

  read_in : (k : ℕ) (p : Place) → k < length slice → p ≡ get_or slice k p → slice_get places k ≡ Some p
  read_in k p below read = subst (λ (xs : List Place). slice_get xs k ≡ Some p) same (slice_get_read slice (length slice) k p refl below read)

  pub row_in : (k : ℕ) (p : Place) (x : X) → k < length slice → p ≡ get_or slice k p → Some x ≡ at p.slot → Some (p.number, x) ≡ slice_get (rows_in at places) k
  row_in k p x below read got = sym (row_at at places k p x are (read_in k p below read) (sym got))

  pub none_at_in : (k : ℕ) (p : Place) → k < length slice → p ≡ get_or slice k p → None ≡ at p.slot → ⊥
  none_at_in k p below read none = none_at at places k p are (read_in k p below read) (sym none)

  module _ (number : ℕ) where
    none_in : HasNoPlace slice number → HasNoPlace places number
    none_in none = subst (λ (xs : List Place). HasNoPlace xs number) same none

    pub absent_in : HasNoPlace slice number → None ≡ lookup (nat_eq number) (rows_in at places)
    absent_in none = sym (absent at places number (none_in none))

    pub absent_removed_in : HasNoPlace slice number → rows_in at places ≡ remove_entry (nat_eq number) (rows_in at places)
    absent_removed_in none = sym (absent_removed at places number (none_in none))

    module _ (k : ℕ) (p : Place) (there : IsPlaceOf slice number k) (read : p ≡ get_or places k p) where
      place_in : (slice_get places k ≡ Some p) × (p.number ≡ number)
      place_in = read_place places number k p (subst (λ (xs : List Place). IsPlaceOf xs number k) same there) read

      pub found_in : lookup (nat_eq number) (rows_in at places) ≡ at p.slot
      found_in = subst (λ n. lookup (nat_eq n) (rows_in at places) ≡ at p.slot) place_in.1 (found at places k p are place_in.0)

      pub some_in : IsSome (at p.slot)
      some_in = value_at at places k p are place_in.0

      pub removed_rows_in : (after : ℕ → Option X) → Others at after p.slot → rows_in after (remove places k) ≡ remove_entry (nat_eq number) (rows_in at places)
      removed_rows_in after others = subst (λ n. rows_in after (remove places k) ≡ remove_entry (nat_eq n) (rows_in at places)) place_in.1 (removed_rows at after places k p are place_in.0 others)

      pub removed_places_in : (after : ℕ → Option X) → Others at after p.slot → ArePlaces after (remove places k)
      removed_places_in after others = removed_places at after places k p are place_in.0 others

      pub written_rows_in : (after : ℕ → Option X) (w : X) → after p.slot ≡ Some w → Others at after p.slot → rows_in after places ≡ set_value (nat_eq number) (rows_in at places) w
      written_rows_in after w got others = subst (λ n. rows_in after places ≡ set_value (nat_eq n) (rows_in at places) w) place_in.1 (written_rows at after places k p w are place_in.0 got others)

      pub written_places_in : (after : ℕ → Option X) (w : X) → after p.slot ≡ Some w → Others at after p.slot → ArePlaces after places
      written_places_in after w got others = written_places at after places k p are place_in.0 (ap is_some got) others

abbrev room : {Y : Type 0} → Y → ℕ → Room Y
room kept spare = record { kept = kept; spare = spare }

written_len : {X : Type 0} (values : Slab X) (slot : ℕ) (w : X) → IsSome (get values slot) → slab_len (with_value values slot w) ≡ slab_len values
written_len {X} values slot w some =
    let set = sum_by-set (λ (o : Option X). cond (is_some o) 1 0) values.slots slot (Some w) None (ContainsKey-within values slot some) in
    omega (arith, rw some at set)

-- the rows and their room, where the value of a slot is written
pub written_room : {X : Type 0} (values : Slab X) (slot more : ℕ) (w : X) (rows after : List (ℕ × X)) → IsSome (get values slot) → after ≡ rows →
    room after (min more (values.capacity - slab_len (with_value values slot w))) ≡ room rows (min more (values.capacity - slab_len values))
written_room values slot more w rows after some same = rw (same, written_len values slot w some) refl

-- values that have room for more
pub same_places : {X : Type 0} (values after : Slab X) (places kept : List Place) → after.slots ≡ values.slots → kept ≡ places → ArePlaces (get values) places → ArePlaces (get after) kept
same_places {X} values after places kept slots same are =
    rw same (subst (λ (xs : List (Option X)). ArePlaces (λ key. slice_index_or xs key None) places) (sym slots) are)
