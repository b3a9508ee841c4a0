-- How many requests of a peer are pending at a member, after each change.
use Rattle.std.proofs.Common.{◌≡◌, ℕ, ◌+◌, ◌≤◌, Bool, true, false, cond, not, inl, inr, List, [], ◌∷◌, length, map, filter, refl, ap, sym, ◌∙◌, arith}
use Rattle.std.proofs.lemmas.Bool.{cases_Bool, eqb-true, eq-eqb}
use Rattle.pce_common.specs.plant_model.Types.{As, Peer, Hop, Message, Held, NetworkParts}
use Rattle.request_table.specs.Pending.{same_peer}
use Rattle.plant_text.specs.Names.{same_as, parent_as}
use Rattle.plant_text.specs.Settings.{class_of}
use Rattle.pce_common.specs.plant_model.declared.output.Lost.{Lost}
use Rattle.pce_common.specs.plant_model.Settings.{place, family}
use Rattle.pce_common.specs.plant_model.Wire.{Codec}
use Rattle.pce_common.specs.plant_model.Element.{Row, Element, stays, is_lost, lost_of, lost, upped, downed, waits_on}
use Rattle.pce_common.specs.plant_model.Element as element
use Rattle.pce_common.specs.plant_model.Taking as taking
use Rattle.pce_common.specs.plant_model.Parent as parent
use Rattle.pce_common.specs.Membership.{Membership, given, raised, fallen, lost_at, expired, with_element, with_parent}
use Rattle.pce_common.specs.Owed.{count_by_asker, count_at, asked_in}
use Rattle.network_events.specs.Telling.{count_lost}
use Rattle.network_events.proofs.CountLaws.{count_apart, count_none}
use Rattle.network_events.proofs.TakeLaws as elements
use Rattle.network_events.proofs.ParentLaws as parents

pub same_as_is : (a b : As) → same_as a b ≡ true → a ≡ b
same_as_is a b e = ap (λ (n : ℕ). let d : As = record { 0 = n } in d) (eqb-true a.0 b.0 e)

-- lost requests are those rows that are lost
count_map : {T : Type 0} (test : Peer → Bool) (f : ℕ × Held T → Lost) → ((h : ℕ × Held T) → (f h).to ≡ h.1.key.peer) → (rows : List (ℕ × Held T)) →
    count_lost test (map f rows) ≡ count_by_asker test rows
count_map test f to [] = refl
count_map {T} test f to (x ∷ rows) =
    ap (λ (q : Peer). length (cond (test q) (f x ∷ filter (λ (l : Lost). test l.to) (map f rows)) (filter (λ (l : Lost). test l.to) (map f rows)))) (to x)
    ∙ go (test x.1.key.peer) (count_map test f to rows)
  where
    go : (b : Bool) → count_lost test (map f rows) ≡ count_by_asker test rows → length (cond b (f x ∷ filter (λ (l : Lost). test l.to) (map f rows)) (filter (λ (l : Lost). test l.to) (map f rows)))
        ≡ length (cond b (x ∷ filter (λ (h : ℕ × Held T). test h.1.key.peer) rows) (filter (λ (h : ℕ × Held T). test h.1.key.peer) rows))
    go true rest = omega (arith, rest)
    go false rest = rest

apart : (b c : Bool) → cond b false (not c) ≡ true → cond b false c ≡ false
apart true c e = refl
apart false true e = cc
apart false false e = refl

misses : (b c : Bool) → cond b false c ≡ true → b ≡ false
misses true c e = cc
misses false c e = refl

-- what is left and what is lost at an element, and at the parent
pub left_count : {P : Type 0} (test : Peer → Bool) (p : Peer) (rows : List (Row P)) → count_by_asker test (element.kept p rows) + count_lost test (lost p rows) ≤ count_by_asker test rows
left_count test p rows =
    omega (
      arith,
      count_map test lost_of (λ h. refl) (filter (is_lost p) rows),
      count_apart test (stays p) (is_lost p) (λ h e. apart (same_peer h.1.key.peer p) (waits_on p h.1.item.stage) e) rows,
    )

pub left_upper : (test : Peer → Bool) (p : Peer) (rows : List parent.AskingRow) → count_by_asker test (parent.kept p rows) + count_lost test (parent.lost p rows) ≤ count_by_asker test rows
left_upper test p rows =
    omega (
      arith,
      count_map test parent.lost_of (λ h. refl) (filter (parent.is_lost p) rows),
      count_apart test (parent.stays p) (parent.is_lost p) (λ h e. apart (same_peer h.1.key.peer p) (parent.any_on p h.1.item.waits) e) rows,
    )

module _ {P : Type 0} {S : Type 0} (test : Peer → Bool) where
  -- a member whose count is bounded by that before
  pub element_count : (at d : As) (k : Element P S) (ms : Membership P S) (w : ℕ) → count_by_asker test k.pending.rows ≤ count_by_asker test (ms.elements at).pending.rows + w →
      count_at test d (with_element at k ms) ≤ count_at test d ms + cond (same_as at d) w 0
  element_count at d k ms w le = go (same_as d parent_as) (same_as at d) (same_as_is at d)
    where
      go : (b c : Bool) → (c ≡ true → at ≡ d) →
          cond b (count_by_asker test ms.parent.pending.rows) (count_by_asker test (cond c k (ms.elements d)).pending.rows)
          ≤ cond b (count_by_asker test ms.parent.pending.rows) (count_by_asker test (ms.elements d).pending.rows) + cond c w 0
      go true c is = omega arith
      go false true is = let same : (ms.elements at) ≡ (ms.elements d) = ap ms.elements (is refl) in rw same at le
      go false false is = omega arith

  pub parent_count : (at d : As) (k : parent.Parent) (ms : Membership P S) (w : ℕ) → same_as at parent_as ≡ true → count_by_asker test k.pending.rows ≤ count_by_asker test ms.parent.pending.rows + w →
      count_at test d (with_parent k ms) ≤ count_at test d ms + cond (same_as at d) w 0
  parent_count at d k ms w upper le = go (same_as d parent_as) (same_as at d) (flip d)
    where
      flip : (e : As) → same_as e parent_as ≡ true → same_as at e ≡ true
      flip e is = let one = same_as_is e parent_as is in let two = same_as_is at parent_as upper in eq-eqb at.0 e.0 (ap (λ (a : As). a.0) (two ∙ sym one))

      go : (b c : Bool) → (b ≡ true → c ≡ true) →
          cond b (count_by_asker test k.pending.rows) (count_by_asker test (ms.elements d).pending.rows)
          ≤ cond b (count_by_asker test ms.parent.pending.rows) (count_by_asker test (ms.elements d).pending.rows) + cond c w 0
      go true true is = le
      go true false is = absurd (let clash : false ≡ true = is refl in cc)
      go false c is = omega arith

  -- ---- a message

  pub given_count : (c : Codec) (n : NetworkParts) (show : S → List Hop) (at d : As) (p : Peer) (now : ℕ) (m : Message) (ms : Membership P S) →
      count_at test d (given c n show at p now m ms).members ≤ count_at test d ms + cond (same_as at d) (cond (test p) (asked_in m) 0) 0
  given_count c n show at d p now m ms = elim (cases_Bool (same_as at parent_as)) [
    | inl upper ↦ rw upper (parent_count at d (parent.take c (family n) p m ms.parent).parent ms _ upper (parents.take_raises test c (family n) p m ms.parent))
    | inr inner ↦ rw inner (element_count at d (taking.take c show (place n at) (ms.current at) p (class_of n p) now m (ms.elements at)).element ms _
        (elements.take_raises P S test c show (place n at) (ms.current at) p (class_of n p) now m (ms.elements at)))
  ]

  -- ---- a session that comes up, and keys that expire

  pub raised_count : (at d : As) (p : Peer) (ms : Membership P S) → count_at test d (raised at p ms) ≤ count_at test d ms
  raised_count at d p ms = elim (cases_Bool (same_as at parent_as)) [
    | inl upper ↦ rw upper (none (same_as at d) (parent_count at d (parent.upped p ms.parent) ms 0 upper (omega arith)))
    | inr inner ↦ rw inner (none (same_as at d) (element_count at d (upped p (ms.elements at)) ms 0 (omega arith)))
  ]
    where
      none : {a b : ℕ} (c : Bool) → a ≤ b + cond c 0 0 → a ≤ b
      none true le = omega (arith, le)
      none false le = omega (arith, le)

  pub expired_count : (d : As) (now : ℕ) (ms : Membership P S) → count_at test d (expired now ms) ≡ count_at test d ms
  expired_count d now ms = refl

  -- ---- a session that goes down

  -- a member whose count falls by so many
  element_falls : (at d : As) (k : Element P S) (ms : Membership P S) (w : ℕ) → same_as at parent_as ≡ false → count_by_asker test k.pending.rows + w ≤ count_by_asker test (ms.elements at).pending.rows →
      count_at test d (with_element at k ms) + cond (same_as at d) w 0 ≤ count_at test d ms
  element_falls at d k ms w inner le = go (same_as d parent_as) (same_as at d) (same_as_is at d) (λ e. same_as_is d parent_as e)
    where
      go : (b c : Bool) → (c ≡ true → at ≡ d) → (b ≡ true → d ≡ parent_as) →
          cond b (count_by_asker test ms.parent.pending.rows) (count_by_asker test (cond c k (ms.elements d)).pending.rows) + cond c w 0
          ≤ cond b (count_by_asker test ms.parent.pending.rows) (count_by_asker test (ms.elements d).pending.rows)
      go true true is upper = absurd (let e : at ≡ parent_as = is refl ∙ upper refl in let hit : same_as at parent_as ≡ true = eq-eqb at.0 parent_as.0 (ap (λ (a : As). a.0) e) in let clash : true ≡ false = sym hit ∙ inner in cc)
      go true false is upper = omega arith
      go false true is upper = let same : (ms.elements at) ≡ (ms.elements d) = ap ms.elements (is refl) in rw same at le
      go false false is upper = omega arith

  parent_falls : (at d : As) (k : parent.Parent) (ms : Membership P S) (w : ℕ) → same_as at parent_as ≡ true → count_by_asker test k.pending.rows + w ≤ count_by_asker test ms.parent.pending.rows →
      count_at test d (with_parent k ms) + cond (same_as at d) w 0 ≤ count_at test d ms
  parent_falls at d k ms w upper le = go (same_as d parent_as) (same_as at d) (λ e. eq-eqb d.0 parent_as.0 (ap (λ (a : As). a.0) (sym (same_as_is at d e) ∙ same_as_is at parent_as upper)))
    where
      go : (b c : Bool) → (c ≡ true → b ≡ true) →
          cond b (count_by_asker test k.pending.rows) (count_by_asker test (ms.elements d).pending.rows) + cond c w 0
          ≤ cond b (count_by_asker test ms.parent.pending.rows) (count_by_asker test (ms.elements d).pending.rows)
      go true true is = le
      go true false is = omega (arith, le)
      go false true is = absurd (let clash : false ≡ true = is refl in cc)
      go false false is = omega arith

  -- The requests of a member fall by those that it loses.
  pub fallen_count : (at d : As) (p : Peer) (ms : Membership P S) →
      count_at test d (fallen at p ms) + cond (same_as at d) (count_lost test (lost_at at p ms)) 0 ≤ count_at test d ms
  fallen_count at d p ms = elim (cases_Bool (same_as at parent_as)) [
    | inl upper ↦ rw upper (parent_falls at d (parent.downed p ms.parent).parent ms _ upper (left_upper test p ms.parent.pending.rows))
    | inr inner ↦ rw inner (element_falls at d (downed p (ms.elements at)).element ms _ inner (left_count test p (ms.elements at).pending.rows))
  ]

  -- None of the askers that pass are left or lost, where only the peer passes.
  pub fallen_none : (at : As) (p : Peer) (ms : Membership P S) → ((q : Peer) → same_peer q p ≡ false → test q ≡ false) →
      (count_at test at (fallen at p ms) ≡ 0) × (count_lost test (lost_at at p ms) ≡ 0)
  fallen_none at p ms only = elim (cases_Bool (same_as at parent_as)) [
    | inl upper ↦ rw upper (
      count_none test (parent.stays p) (λ h e. only h.1.key.peer (misses (same_peer h.1.key.peer p) (not (parent.any_on p h.1.item.waits)) e)) ms.parent.pending.rows,
      count_map test parent.lost_of (λ h. refl) (filter (parent.is_lost p) ms.parent.pending.rows)
          ∙ count_none test (parent.is_lost p) (λ h e. only h.1.key.peer (misses (same_peer h.1.key.peer p) (parent.any_on p h.1.item.waits) e)) ms.parent.pending.rows,
    )
    | inr inner ↦ rw inner (
      ap (λ (b : Bool). count_by_asker test (cond b (downed p (ms.elements at)).element (ms.elements at)).pending.rows) (eq-eqb at.0 at.0 refl)
          ∙ count_none test (stays p) (λ h e. only h.1.key.peer (misses (same_peer h.1.key.peer p) (not (waits_on p h.1.item.stage)) e)) (ms.elements at).pending.rows,
      count_map test lost_of (λ h. refl) (filter (is_lost p) (ms.elements at).pending.rows)
          ∙ count_none test (is_lost p) (λ h e. only h.1.key.peer (misses (same_peer h.1.key.peer p) (waits_on p h.1.item.stage) e)) (ms.elements at).pending.rows,
    )
  ]
