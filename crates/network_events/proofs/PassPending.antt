-- How many requests are pending at all members, once one of them was given a message.
use Rattle.std.proofs.Common.{◌≡◌, ◌≤◌, ◌<◌, ℕ, ◌+◌, Bool, true, false, cond, nat_lt, List, [], ◌∷◌, length, refl, ap, subst, arith, inl, inr}
use Rattle.std.proofs.lemmas.Bool.{cases_Bool, eqb-true, eqb-false}
use Rattle.std.proofs.lemmas.Bool.Decides.{nat_tests}
use Rattle.pce_common.specs.plant_model.Types.{As, Peer, Hop, Message, NetworkParts, ElementRow}
use Rattle.plant_text.specs.Names.{same_as, parent_as, insert_as}
use Rattle.plant_text.specs.Settings.{class_of, elements_of}
use Rattle.pce_common.specs.plant_model.Settings.{place, family}
use Rattle.pce_common.specs.plant_model.Wire.{Codec}
use Rattle.pce_common.specs.plant_model.Element.{Element}
use Rattle.pce_common.specs.plant_model.Taking as taking
use Rattle.pce_common.specs.plant_model.Parent as parent
use Rattle.pce_common.specs.Membership.{Membership, given, with_element, with_parent}
use Rattle.pce_common.specs.Owed.{asked_in, pending_at, pending_in}
use Rattle.network_events.proofs.CountLaws.{count_all}
use Rattle.network_events.proofs.OwedLaws.{same_as_is}
use Rattle.network_events.proofs.TakeLaws as elements
use Rattle.network_events.proofs.ParentLaws as parents

-- ---- domains rise

abbrev Above : ℕ → List As → Type 0
Above low [] = Unit {0}
Above low (d ∷ ds) = (low < d.0) × Above d.0 ds

abbrev Rises : List As → Type 0
Rises [] = Unit {0}
Rises (d ∷ ds) = Above d.0 ds

above_insert : (low : ℕ) (n : As) (ds : List As) → low < n.0 → Above low ds → Above low (insert_as n ds)
above_insert low n [] less above = (less, tt)
above_insert low n (a ∷ rest) less above = go (nat_lt n.0 a.0) (same_as n a) refl refl (λ more. above_insert a.0 n rest more above.1)
  where
    go : (b c : Bool) → nat_lt n.0 a.0 ≡ b → same_as n a ≡ c → (a.0 < n.0 → Above a.0 (insert_as n rest)) → Above low (cond b (n ∷ a ∷ rest) (cond c (a ∷ rest) (a ∷ insert_as n rest)))
    go true c is same put = (less, (grind (arith, nat_tests), above.1))
    go false true is same put = above
    go false false is same put =
        let differ = eqb-false n.0 a.0 same in
        let more : a.0 < n.0 = grind (arith, nat_tests) in
        (above.0, put more)

rises_insert : (n : As) (ds : List As) → Rises ds → Rises (insert_as n ds)
rises_insert n [] rises = tt
rises_insert n (a ∷ rest) rises = go (nat_lt n.0 a.0) (same_as n a) refl refl
  where
    go : (b c : Bool) → nat_lt n.0 a.0 ≡ b → same_as n a ≡ c → Rises (cond b (n ∷ a ∷ rest) (cond c (a ∷ rest) (a ∷ insert_as n rest)))
    go true c is same = (grind (arith, nat_tests), rises)
    go false true is same = rises
    go false false is same =
        let differ = eqb-false n.0 a.0 same in
        let more : a.0 < n.0 = grind (arith, nat_tests) in
        above_insert a.0 n rest more rises

pub elements_rise : (rows : List ElementRow) → Rises (elements_of rows)
elements_rise [] = tt
elements_rise (r ∷ rows) = rises_insert r.own (elements_of rows) (elements_rise rows)

-- what is added at one domain, over a list of them
abbrev pub added : As → ℕ → List As → ℕ
added at w [] = 0
added at w (d ∷ ds) = cond (same_as at d) w 0 + added at w ds

added_above : (at : As) (w low : ℕ) (ds : List As) → at.0 ≤ low → Above low ds → added at w ds ≡ 0
added_above at w low [] less above = refl
added_above at w low (d ∷ ds) less above = go (same_as at d) refl (added_above at w d.0 ds (omega (arith, less, above.0)) above.1)
  where
    go : (b : Bool) → same_as at d ≡ b → added at w ds ≡ 0 → cond b w 0 + added at w ds ≡ 0
    go true is rest = absurd (omega (arith, less, above.0, eqb-true at.0 d.0 is))
    go false is rest = omega (arith, rest)

tail : (low : ℕ) (ds : List As) → Above low ds → Rises ds
tail low [] above = tt
tail low (d ∷ ds) above = above.1

pub added_once : (at : As) (w : ℕ) (ds : List As) → Rises ds → added at w ds ≤ w
added_once at w [] rises = omega arith
added_once at w (d ∷ ds) rises = go (same_as at d) refl (added_once at w ds (tail d.0 ds rises))
  where
    go : (b : Bool) → same_as at d ≡ b → added at w ds ≤ w → cond b w 0 + added at w ds ≤ w
    go true is rest = omega (arith, added_above at w d.0 ds (omega (arith, eqb-true at.0 d.0 is)) rises)
    go false is rest = omega (arith, rest)

module _ {P : Type 0} {S : Type 0} where
  pub at_element : (at : As) (k : Element P S) (ms : Membership P S) (w : ℕ) → length k.pending.rows ≤ length (ms.elements at).pending.rows + w → (ds : List As) →
      pending_at ds (with_element at k ms) ≤ pending_at ds ms + added at w ds
  at_element at k ms w le [] = omega arith
  at_element at k ms w le (d ∷ ds) = omega (arith, one (same_as at d) (same_as_is at d), at_element at k ms w le ds)
    where
      one : (b : Bool) → (b ≡ true → at ≡ d) → length (cond b k (ms.elements d)).pending.rows ≤ length (ms.elements d).pending.rows + cond b w 0
      one true is = subst (λ (x : Element P S). length k.pending.rows ≤ length x.pending.rows + w) (ap ms.elements (is refl)) le
      one false is = omega arith

  pub at_parent : (k : parent.Parent) (ms : Membership P S) (ds : List As) → pending_at ds (with_parent k ms) ≡ pending_at ds ms
  at_parent k ms [] = refl
  at_parent k ms (d ∷ ds) = ap (λ (n : ℕ). length (ms.elements d).pending.rows + n) (at_parent k ms ds)

  -- no more are pending than before, and those that the message asks for
  pub given_pending : (c : Codec) (n : NetworkParts) (show : S → List Hop) (at : As) (p : Peer) (now : ℕ) (m : Message) (ms : Membership P S) (rows : List ElementRow) →
      pending_in (elements_of rows) (given c n show at p now m ms).members ≤ pending_in (elements_of rows) ms + asked_in m
  given_pending c n show at p now m ms rows = elim (cases_Bool (same_as at parent_as)) [
    | inl upper ↦ rw upper (omega (arith, upper_raises, at_parent (parent.take c (family n) p m ms.parent).parent ms (elements_of rows)))
    | inr inner ↦ rw inner (omega (
      arith,
      at_element at (taking.take c show (place n at) (ms.current at) p (class_of n p) now m (ms.elements at)).element ms (asked_in m) inner_raises (elements_of rows),
      added_once at (asked_in m) (elements_of rows) (elements_rise rows),
    ))
  ]
    where
      upper_raises : length (parent.take c (family n) p m ms.parent).parent.pending.rows ≤ length ms.parent.pending.rows + asked_in m
      upper_raises =
          omega (arith, parents.take_raises (λ q. true) c (family n) p m ms.parent, count_all (parent.take c (family n) p m ms.parent).parent.pending.rows, count_all ms.parent.pending.rows)

      inner_raises : length (taking.take c show (place n at) (ms.current at) p (class_of n p) now m (ms.elements at)).element.pending.rows ≤ length (ms.elements at).pending.rows + asked_in m
      inner_raises =
          let k = (taking.take c show (place n at) (ms.current at) p (class_of n p) now m (ms.elements at)).element in
          omega (arith, elements.take_raises P S (λ q. true) c show (place n at) (ms.current at) p (class_of n p) now m (ms.elements at), count_all k.pending.rows, count_all (ms.elements at).pending.rows)
