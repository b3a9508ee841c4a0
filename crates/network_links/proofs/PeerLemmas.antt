-- What the model has of outside peers, where one of them changes.
use Rattle.std.proofs.Common.{◌≡◌, ◌≤◌, ◌<◌, ◌==◌, ℕ, zero, suc, Bool, true, false, cond, Option, Some, None, List, [], ◌∷◌, length, set, arith, refl, sym, ◌∙◌, ap, subst}
use mathlib.Core.Path.{fun_ext}
use Rattle.std.specs.Prelude.{slice_get}
use Rattle.std.proofs.Math.ListN.{length-set}
use Rattle.std.proofs.lemmas.Bool.{eqb-true, eqb-false}
use Rattle.std.proofs.lemmas.Option.{slice_get_within, slice_get_past}
use Rattle.plant_queues.specs.Messages.{Spare}
use Rattle.plant_model.specs.Names.{set_number}
use Rattle.plant_model.specs.State as model
use Rattle.plant_model.specs.Deeds.{on_connection}
use Rattle.network_links.specs.declared.access.Access.{Access}
use Rattle.network_links.specs.Accesses.{Goes}
use Rattle.network_links.specs.Peers.{Changes, Guest, Guests, guest_at, guest_of, guests_of, access_of, access_or, nobody, room_or, set_guest, change_guest}

at_same : (i : ℕ) (as' : List Access) (a : Access) → i < length as' → slice_get (set as' i a) i ≡ Some a
at_same i [] a within = absurd (omega arith)
at_same zero (x ∷ as') a within = refl
at_same (suc i) (x ∷ as') a within = at_same i as' a (omega arith)

at_other : (i j : ℕ) (as' : List Access) (a : Access) → (i ≡ j → ⊥) → slice_get (set as' i a) j ≡ slice_get as' j
at_other i j [] a differ = refl
at_other zero zero (x ∷ as') a differ = absurd (differ refl)
at_other zero (suc j) (x ∷ as') a differ = refl
at_other (suc i) zero (x ∷ as') a differ = refl
at_other (suc i) (suc j) (x ∷ as') a differ = at_other i j as' a (λ is. differ (ap suc is))

-- what is seen of each peer, where one changes
pub numbers_set : {A : Type 0} → (f : Option Access → A) (i : ℕ) (as' : List Access) (a : Access) → i < length as' →
    (λ (j : ℕ). f (slice_get (set as' i a) j)) ≡ set_number i (f (Some a)) (λ (j : ℕ). f (slice_get as' j))
numbers_set f i as' a within = fun_ext (λ j. go j (i == j) refl)
  where
    go : (j : ℕ) (b : Bool) → (i == j) ≡ b → f (slice_get (set as' i a) j) ≡ cond b (f (Some a)) (f (slice_get as' j))
    go j true is = ap (λ (k : ℕ). f (slice_get (set as' i a) k)) (sym (eqb-true i j is)) ∙ ap f (at_same i as' a within)
    go j false is = ap f (at_other i j as' a (eqb-false i j is))

-- a value written where it stands
pub number_same : {A : Type 0} → (i : ℕ) (v : A) (f : ℕ → A) → v ≡ f i → set_number i v f ≡ f
number_same i v f is = fun_ext (λ j. go j (i == j) refl)
  where
    go : (j : ℕ) (b : Bool) → (i == j) ≡ b → cond b v (f j) ≡ f j
    go j true at = is ∙ ap f (eqb-true i j at)
    go j false at = refl

-- ---- one peer changes

guests_set : (i : ℕ) (as' : List Access) (a : Access) → i < length as' → guests_of (set as' i a) ≡ set_guest i (guest_of a) (guests_of as')
guests_set i as' a within =
    let old = guests_of as' in
    let new = guests_of (set as' i a) in
    ap (λ (count : ℕ). let g : Guests = record { count = count; accesses = new.accesses; room = new.room } in g) (length-set as' i a)
    ∙ ap (λ (f : ℕ → model.Access). let g : Guests = record { count = old.count; accesses = f; room = new.room } in g) (numbers_set access_or i as' a within)
    ∙ ap (λ (f : ℕ → Spare). let g : Guests = record { count = old.count; accesses = set_number i (access_of a) old.accesses; room = f } in g) (numbers_set room_or i as' a within)

guest_is : (i : ℕ) (as' : List Access) (o : Option Access) → slice_get as' i ≡ o → guest_at i (guests_of as') ≡ record { access = access_or o; room = room_or o }
guest_is i as' o is = ap (λ (p : Option Access). let g : Guest = record { access = access_or p; room = room_or p } in g) is

pub guest_changes : (so : Guest → Guest → Type 0) (i : ℕ) (old new : List Access) (a b : Access) → slice_get old i ≡ Some a → new ≡ set old i b → so (guest_of a) (guest_of b) → Changes i so (guests_of old) (guests_of new)
guest_changes so i old new a b found is does = subst (λ (as' : List Access). Changes i so (guests_of old) (guests_of as')) (sym is) (record {
  rest = guests_set i old b within ∙ ap (λ (g : Guest). set_guest i g (guests_of old)) (sym now);
  does = subst (λ (g : Guest). so g (guest_at i (guests_of (set old i b)))) (sym (guest_is i old (Some a) found)) (subst (so (guest_of a)) (sym now) does);
})
  where
    within : i < length old
    within = slice_get_within old i a found

    now : guest_at i (guests_of (set old i b)) ≡ guest_of b
    now = guest_is i (set old i b) (Some b) (at_same i old b within)

-- ---- what is changed, and what is not

set_same : (i : ℕ) (g : Guests) → g ≡ set_guest i (guest_at i g) g
set_same i g =
    sym (ap (λ (f : ℕ → model.Access). let h : Guests = record { count = g.count; accesses = f; room = set_number i (g.room i) g.room } in h) (number_same i (g.accesses i) g.accesses refl)
    ∙ ap (λ (f : ℕ → Spare). let h : Guests = record g { room = f } in h) (number_same i (g.room i) g.room refl))

-- there is no such peer
pub nobody_changes : (so : Guest → Guest → Type 0) (i : ℕ) (as' : List Access) → length as' ≤ i → so nobody nobody → Changes i so (guests_of as') (guests_of as')
nobody_changes so i as' past does = record {
  rest = set_same i (guests_of as');
  does = subst (λ (g : Guest). so g g) (sym (guest_is i as' None (slice_get_past as' i past))) does;
}

module _ (i : ℕ) (old new : Guests) (rest : new ≡ set_guest i (guest_at i new) old) where
  -- it is another, and its room
  pub gets : (a : model.Access) → new.accesses i ≡ a → new ≡ set_guest i (record { access = a; room = new.room i }) old
  gets a is = rest ∙ ap (λ (b : model.Access). set_guest i (record { access = b; room = new.room i }) old) is

  -- only its room is another
  pub keeps : new.accesses i ≡ old.accesses i → new ≡ record old { room = set_number i (new.room i) old.room }
  keeps is =
      gets (old.accesses i) is
      ∙ ap (λ (f : ℕ → model.Access). let g : Guests = record { count = old.count; accesses = f; room = set_number i (new.room i) old.room } in g) (number_same i (old.accesses i) old.accesses refl)

  -- its connection changes, if it is open
  pub goes : (f : model.Connection → model.Connection) → Goes f (guest_at i old) (guest_at i new) → new ≡ change_guest i f old
  goes f is =
      rest ∙ ap (λ (g : Guest). set_guest i g old) is
      ∙ ap (λ (r : ℕ → Spare). let g : Guests = record { count = old.count; accesses = set_number i (on_connection f (old.accesses i)) old.accesses; room = r } in g) (number_same i (old.room i) old.room refl)

  pub stays : guest_at i new ≡ guest_at i old → new ≡ old
  stays is = rest ∙ ap (λ (g : Guest). set_guest i g old) is ∙ sym (set_same i old)
