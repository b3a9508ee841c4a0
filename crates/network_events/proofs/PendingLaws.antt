-- How many requests are pending at all members, where one of them loses some.
use Rattle.std.proofs.Common.{◌≡◌, ◌≤◌, ℕ, ◌+◌, Bool, true, false, cond, nat_lt, is_some, Some, List, [], ◌∷◌, length, refl, ap, sym, subst, arith}
use Rattle.std.proofs.lemmas.Bool.{eq-eqb}
use Rattle.pce_common.specs.plant_model.Types.{As, Peer, ElementRow}
use Rattle.plant_text.specs.Names.{same_as, parent_as, insert_as}
use Rattle.plant_text.specs.Settings.{row_of, elements_of}
use Rattle.pce_common.specs.plant_model.Element.{Element, downed, lost}
use Rattle.pce_common.specs.plant_model.Element as element
use Rattle.pce_common.specs.plant_model.Parent as parent
use Rattle.pce_common.specs.Membership.{Membership, fallen, lost_at, with_element, with_parent}
use Rattle.pce_common.specs.plant_model.declared.output.Lost.{Lost}
use Rattle.pce_common.specs.Owed.{pending_at, pending_in}
use Rattle.network_events.specs.Telling.{count_lost}
use Rattle.network_events.proofs.CountLaws.{count_all}
use Rattle.network_events.proofs.OwedLaws.{left_count, left_upper, same_as_is}

abbrev pub among : As → List As → Bool
among at [] = false
among at (d ∷ ds) = cond (same_as at d) true (among at ds)

lost_all : (ls : List Lost) → count_lost (λ q. true) ls ≡ length ls
lost_all [] = refl
lost_all (l ∷ ls) = omega (arith, lost_all ls)

module _ {P : Type 0} {S : Type 0} (at : As) (k : Element P S) (ms : Membership P S) (w : ℕ) (le : length k.pending.rows + w ≤ length (ms.elements at).pending.rows) where
  one_place : (d : As) (b : Bool) → (b ≡ true → at ≡ d) → length (cond b k (ms.elements d)).pending.rows + cond b w 0 ≤ length (ms.elements d).pending.rows
  one_place d true is = let same : ms.elements at ≡ ms.elements d = ap ms.elements (is refl) in rw same at le
  one_place d false is = omega arith

  no_more : (ds : List As) → pending_at ds (with_element at k ms) ≤ pending_at ds ms
  no_more [] = omega arith
  no_more (d ∷ ds) = omega (arith, one_place d (same_as at d) (same_as_is at d), no_more ds)

  less_at : (ds : List As) → pending_at ds (with_element at k ms) + cond (among at ds) w 0 ≤ pending_at ds ms
  less_at [] = omega arith
  less_at (d ∷ ds) = go (same_as at d) (one_place d (same_as at d) (same_as_is at d)) (no_more ds) (less_at ds)
    where
      go : (b : Bool) → length (cond b k (ms.elements d)).pending.rows + cond b w 0 ≤ length (ms.elements d).pending.rows → pending_at ds (with_element at k ms) ≤ pending_at ds ms →
          pending_at ds (with_element at k ms) + cond (among at ds) w 0 ≤ pending_at ds ms →
          length (cond b k (ms.elements d)).pending.rows + pending_at ds (with_element at k ms) + cond (cond b true (among at ds)) w 0 ≤ length (ms.elements d).pending.rows + pending_at ds ms
      go true one more less = omega (arith, one, more)
      go false one more less = omega (arith, one, less)

same_pending : {P : Type 0} {S : Type 0} (ds : List As) (k : parent.Parent) (ms : Membership P S) → pending_at ds (with_parent k ms) ≡ pending_at ds ms
same_pending [] k ms = refl
same_pending (d ∷ ds) k ms = ap (λ (m : ℕ). length (ms.elements d).pending.rows + m) (same_pending ds k ms)

-- what a member loses is no longer pending
pub fallen_pending : {P : Type 0} {S : Type 0} (ds : List As) (at : As) (p : Peer) (ms : Membership P S) → cond (same_as at parent_as) true (among at ds) ≡ true →
    pending_in ds (fallen at p ms) + length (lost_at at p ms) ≤ pending_in ds ms
fallen_pending {P} {S} ds at p ms there = go (same_as at parent_as) there
  where
    go : (b : Bool) → cond b true (among at ds) ≡ true →
        pending_in ds (cond b (with_parent (parent.downed p ms.parent).parent ms) (with_element at (downed p (ms.elements at)).element ms))
        + length (cond b (parent.lost p ms.parent.pending.rows) (lost p (ms.elements at).pending.rows)) ≤ pending_in ds ms
    go true is =
        omega (
          arith,
          left_upper (λ q. true) p ms.parent.pending.rows,
          count_all (parent.kept p ms.parent.pending.rows),
          count_all ms.parent.pending.rows,
          lost_all (parent.lost p ms.parent.pending.rows),
          same_pending ds (parent.downed p ms.parent).parent ms,
        )
    go false is =
        let rows = (ms.elements at).pending.rows in
        let le : length (element.kept p rows) + length (lost p rows) ≤ length rows = omega (arith, left_count (λ q. true) p rows, count_all (element.kept p rows), count_all rows, lost_all (lost p rows)) in
        let less = less_at at (downed p (ms.elements at)).element ms (length (lost p rows)) le ds in
        let hit : cond {A = ℕ} (among at ds) (length (lost p rows)) 0 ≡ length (lost p rows) = ap (λ (b : Bool). cond {A = ℕ} b (length (lost p rows)) 0) is in
        omega (arith, less, hit)

-- ---- each element is among those of the settings

among_insert : (at n : As) (ds : List As) → cond (same_as at n) true (among at ds) ≡ true → among at (insert_as n ds) ≡ true
among_insert at n [] e = e
among_insert at n (a ∷ rest) e = go (nat_lt n.0 a.0) (same_as n a) (same_as_is n a) e (among_insert at n rest)
  where
    swap : (x y z : Bool) → cond x true (cond y true z) ≡ true → (cond x true z ≡ true → among at (insert_as n rest) ≡ true) → cond y true (among at (insert_as n rest)) ≡ true
    swap x true z e' more = refl
    swap x false z e' more = more e'

    go : (b c : Bool) → (c ≡ true → n ≡ a) → cond (same_as at n) true (cond (same_as at a) true (among at rest)) ≡ true → (cond (same_as at n) true (among at rest) ≡ true → among at (insert_as n rest) ≡ true) →
        among at (cond b (n ∷ a ∷ rest) (cond c (a ∷ rest) (a ∷ insert_as n rest))) ≡ true
    go true c is e' more = e'
    go false true is e' more = both (same_as at a) (among at rest) (subst (λ (x : As). cond (same_as at x) true (cond (same_as at a) true (among at rest)) ≡ true) (is refl) e')
      where
        both : (x z : Bool) → cond x true (cond x true z) ≡ true → cond x true z ≡ true
        both true z e'' = refl
        both false z e'' = e''
    go false false is e' more = swap (same_as at n) (same_as at a) (among at rest) e' more

pub element_among : (at : As) (rows : List ElementRow) → is_some (row_of at rows) ≡ true → among at (elements_of rows) ≡ true
element_among at [] e = e
element_among at (r ∷ rows) e = among_insert at r.own (elements_of rows) (go (same_as r.own at) (same_as_is r.own at) e (element_among at rows))
  where
    go : (b : Bool) → (b ≡ true → r.own ≡ at) → is_some (cond b (Some r) (row_of at rows)) ≡ true → (is_some (row_of at rows) ≡ true → among at (elements_of rows) ≡ true) →
        cond (same_as at r.own) true (among at (elements_of rows)) ≡ true
    go true is e' more = ap (λ (b : Bool). cond b true (among at (elements_of rows))) (eq-eqb at.0 r.own.0 (ap (λ (a : As). a.0) (sym (is refl))))
    go false is e' more = right (same_as at r.own) (more e')
      where
        right : (x : Bool) {z : Bool} → z ≡ true → cond x true z ≡ true
        right true z = refl
        right false z = z
