-- The octets of items, one behind the other, are counted.
use Rattle.std.proofs.Common.{◌≡◌, ◌∙◌, ◌+◌, ◌^◌, ◌<◌, ◌≤◌, ◌&&◌, ℕ, Bool, true, false, List, [], ◌∷◌, ◌++◌, map, Some, ap, arith, leb, ltb, leb-true, ltb-true, length, length-append, refl, subst, sym}
use Rattle.event_tape.specs.Counting.{IsRoom}
use Rattle.event_tape.specs.Tapes.{Taped, event_of, octets_in, octets_of, tape_room}
use Rattle.event_tape.specs.declared.told.Told.{Told}

octets_behind : (xs : List Told) (x : Told) → octets_in (map event_of (xs ++ x ∷ [])) ≡ octets_in (map event_of xs) + octets_of (event_of x)
octets_behind [] x = omega arith
octets_behind (y ∷ ys) x = omega (arith, octets_behind ys x)

both_true : (a b : Bool) → (a && b) ≡ true → (a ≡ true) × (b ≡ true)
both_true true true is = (refl, refl)
both_true true false is = absurd (let no : ⊥ = cc in no)
both_true false b is = absurd (let no : ⊥ = cc in no)

-- a tape with one more item, for which there is room
module _ (t : Taped) (x : Told) (octets : ℕ) (room : IsRoom (Some octets) t (event_of x)) (new : List Told) (is : new ≡ t.items ++ x ∷ []) where
  parts : (leb (octets_in (map event_of t.items) + octets_of (event_of x)) tape_room ≡ true) × (ltb (t.handed + length t.items + 1) (2 ^ 64) ≡ true)
  parts = both_true (leb (octets_in (map event_of t.items) + octets_of (event_of x)) tape_room) (ltb (t.handed + length t.items + 1) (2 ^ 64)) room.0

  pub counted : octets ≡ octets_in (map event_of new)
  counted = room.1 ∙ sym (octets_behind t.items x) ∙ ap (λ (l : List Told). octets_in (map event_of l)) (sym is)

  pub most : octets ≤ tape_room
  most = subst (λ (n : ℕ). n ≤ tape_room) (sym room.1) (leb-true (octets_in (map event_of t.items) + octets_of (event_of x)) tape_room parts.0)

  longer : length new ≡ length t.items + 1
  longer = ap length is ∙ length-append t.items (x ∷ [])

  pub numbered : t.handed + length new < 2 ^ 64
  numbered = omega (arith, longer, ltb-true (t.handed + length t.items + 1) (2 ^ 64) parts.1)
