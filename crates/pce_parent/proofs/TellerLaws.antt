-- The request that waits for the answer to an id, found by who is said to wait.
use Rattle.std.proofs.Common.{◌≡◌, ◌∙◌, ◌==◌, ◌+◌, ℕ, suc, Bool, true, false, cond, nat_eq, Option, Some, None, List, [], ◌∷◌, ◌++◌, take, arith, refl, sym, ap, subst}
use Rattle.std.specs.Prelude.{MatchOption, filter, slice_get}
use Rattle.std.specs.Map.{lookup}
use Rattle.std.proofs.lemmas.List.{append-nil}
use Rattle.pce_common.specs.plant_model.Types.{Peer, Held}
use Rattle.request_table.specs.Pending.{ArePending, Pending, same_peer}
use Rattle.pce_common.specs.plant_model.Names.{same_id}
use Rattle.pce_common.specs.plant_model.Parent.{Asking, AskingRow, Wait, among}
use Rattle.pce_common.specs.plant_model.Plant.{has_number}
use Rattle.pce_common.specs.Waiting.{AreSaidOf, IsSaidOf, numbers_waiting, one_more, waiter_at}
use Rattle.pce_common.specs.declared.waiters.Waiter.{Waiter}
use Rattle.pce_common.specs.declared.waiters.Waiter.TheVariants.{One}
use Rattle.pce_common.specs.declared.waiters.Waiters.{Waiters}
use Rattle.pce_common.proofs.HeldPlaces.{taken_at}
use Rattle.pce_common.proofs.HeldRows.{in_found}
use Rattle.pce_common.proofs.WaiterLemmas.{IsFirstLeft, not_ended, nobody_waits, one_has_ended, one_waits, said_again, said_by, said_more}
use Rattle.pce_parent.specs.declared.pending.Row as pending
use Rattle.pce_parent.specs.declared.sought.Sought.TheVariants.{Awaited}
use Rattle.pce_parent.specs.Pendings.{row_of}
use Rattle.pce_parent.specs.Soughts.{first_sought, without_these}
use Rattle.pce_parent.specs.declared.tellers.Teller.{Teller}
use Rattle.pce_parent.specs.Tellers.{AreGathered, Knows, waits_under}

-- ---- the waits of one request

among_more : (p : Peer) (ws : List Wait) (w : Wait) (id : ℕ) → among p (ws ++ w ∷ []) id ≡ cond (among p ws id) true (same_id w.peer w.id p id)
among_more p [] w id = go (same_id w.peer w.id p id)
  where
    go : (b : Bool) → cond b true false ≡ b
    go true = refl
    go false = refl
among_more p (v ∷ ws) w id = go (same_id v.peer v.id p id) (among_more p ws w id)
  where
    go : (b : Bool) → among p (ws ++ w ∷ []) id ≡ cond (among p ws id) true (same_id w.peer w.id p id) → cond b true (among p (ws ++ w ∷ []) id) ≡ cond (cond b true (among p ws id)) true (same_id w.peer w.id p id)
    go true more = refl
    go false more = more

among_next : (p : Peer) (ws : List Wait) (k : ℕ) (w : Wait) (id : ℕ) → slice_get ws k ≡ Some w → among p (take (k + 1) ws) id ≡ cond (among p (take k ws) id) true (same_id w.peer w.id p id)
among_next p ws k w id at =
    ap (λ (j : ℕ). among p (take j ws) id) (let e : k + 1 ≡ suc k = omega arith in e) ∙ ap (λ (vs : List Wait). among p vs id) (taken_at ws k w at) ∙ among_more p (take k ws) w id

-- before these waits, and with the request where one of them is for the id
abbrev pub with_waits : Peer → ℕ → List Wait → (ℕ → List ℕ) → ℕ → List ℕ
with_waits p n ws before id = before id ++ cond (among p ws id) (n ∷ []) []

pub no_waits : (p : Peer) (n : ℕ) (ws : List Wait) (before : ℕ → List ℕ) (waiters : Waiters) → AreSaidOf before waiters → AreSaidOf (with_waits p n (take 0 ws) before) waiters
no_waits p n ws before waiters said id = said_by _ _ _ _ (append-nil (before id)) refl (said id)

module _ (p : Peer) (n : ℕ) (ws : List Wait) (k : ℕ) (w : Wait) (at : slice_get ws k ≡ Some w) (before : ℕ → List ℕ) where
  -- a wait on another
  pub wait_elsewhere : (waiters : Waiters) → same_peer w.peer p ≡ false → AreSaidOf (with_waits p n (take k ws) before) waiters → AreSaidOf (with_waits p n (take (k + 1) ws) before) waiters
  wait_elsewhere waiters other said id =
      said_by _ _ _ _ (ap (λ (b : Bool). before id ++ cond b (n ∷ []) []) (among_next p ws k w id at ∙ ap (λ (b : Bool). cond (among p (take k ws) id) true (cond b (w.id == id) false)) other ∙ go (among p (take k ws) id)))
      refl (said id)
    where
      go : (b : Bool) → cond b true false ≡ b
      go true = refl
      go false = refl

  -- a wait on the peer
  pub wait_added : (old new : Waiters) → same_peer w.peer p ≡ true → ((id : ℕ) → waiter_at new id ≡ cond (w.id == id) (Some (one_more n (waiter_at old id))) (waiter_at old id)) →
      AreSaidOf (with_waits p n (take k ws) before) old → AreSaidOf (with_waits p n (take (k + 1) ws) before) new
  wait_added old new same more said id =
      said_by _ _ _ _ (ap (λ (b : Bool). before id ++ cond b (n ∷ []) []) (among_next p ws k w id at ∙ ap (λ (b : Bool). cond (among p (take k ws) id) true (cond b (w.id == id) false)) same))
      (more id) (go (among p (take k ws) id) (w.id == id) (said id))
    where
      go : (b c : Bool) → IsSaidOf (before id ++ cond b (n ∷ []) []) (waiter_at old id) → IsSaidOf (before id ++ cond (cond b true c) (n ∷ []) []) (cond c (Some (one_more n (waiter_at old id))) (waiter_at old id))
      go true true is = said_again (before id) n (waiter_at old id) is
      go true false is = is
      go false true is = said_more (before id) n (waiter_at old id) (said_by _ _ _ _ (sym (append-nil (before id))) refl is)
      go false false is = is

-- ---- what was gathered

pub said_at : (rows : List AskingRow) (teller : Teller) (waiters : Waiters) (id : ℕ) (o : Option Waiter) → Knows rows teller → teller.waiters ≡ Some waiters → o ≡ waiter_at waiters id → IsSaidOf (numbers_waiting (waits_under teller.peer) rows id) o
said_at rows teller waiters id o knows is said =
    let gathered : AreSaidOf (numbers_waiting (waits_under teller.peer) rows) waiters = subst (AreGathered teller.peer rows) is knows in
    subst (IsSaidOf (numbers_waiting (waits_under teller.peer) rows id)) (sym said) (gathered id)

-- ---- the first that waits

sought_first : (p : Peer) (id : ℕ) (rows : List AskingRow) → first_sought (Awaited p id) rows ≡ slice_get (filter (waits_under p id) rows) 0
sought_first p id [] = refl
sought_first p id (h ∷ rows) = go (waits_under p id h) (sought_first p id rows)
  where
    those : List AskingRow
    those = filter (waits_under p id) rows

    go : (b : Bool) → first_sought (Awaited p id) rows ≡ slice_get those 0 → cond b (Some h) (first_sought (Awaited p id) rows) ≡ slice_get (cond b (h ∷ those) those) 0
    go true more = refl
    go false more = more

module _ (p : Peer) (id : ℕ) (ended : List ℕ) (table : Pending Asking) (are : ArePending table) where
  first_left : first_sought (Awaited p id) (without_these ended table.rows) ≡ slice_get (filter (waits_under p id) (not_ended ended table.rows)) 0
  first_left = sought_first p id (not_ended ended table.rows)

  pub nobody : IsSaidOf (numbers_waiting (waits_under p) table.rows id) None → first_sought (Awaited p id) (without_these ended table.rows) ≡ None
  nobody said = first_left ∙ nobody_waits ended (waits_under p id) table.rows said

  pub one_ended : (n : ℕ) → IsSaidOf (numbers_waiting (waits_under p) table.rows id) (Some (One n)) → has_number n ended ≡ true → first_sought (Awaited p id) (without_these ended table.rows) ≡ None
  one_ended n said gone = first_left ∙ one_has_ended ended (waits_under p id) table.rows n said.1 gone

  pub one_found : (n : ℕ) (o : Option pending.Row) → IsSaidOf (numbers_waiting (waits_under p) table.rows id) (Some (One n)) → has_number n ended ≡ false →
      MatchOption o (lookup (nat_eq n) table.rows ≡ None) (λ row. lookup (nat_eq n) table.rows ≡ Some (row_of row).1) → MatchOption o (Unit {0}) (λ row. row.number ≡ n) →
      MatchOption o (first_sought (Awaited p id) (without_these ended table.rows) ≡ None) (λ row. first_sought (Awaited p id) (without_these ended table.rows) ≡ Some (row_of row))
  one_found n o said there found number = go o found number
    where
      first : IsFirstLeft ended (waits_under p id) table.rows n
      first = one_waits ended (waits_under p id) table.rows n said.0 said.1 there

      held : lookup (nat_eq n) table.rows ≡ Some first.row.1
      held = ap (λ (m : ℕ). lookup (nat_eq m) table.rows) (sym first.number) ∙ in_found 0 table.given table.rows first.row are.numbers first.has

      go : (o : Option pending.Row) → MatchOption o (lookup (nat_eq n) table.rows ≡ None) (λ row. lookup (nat_eq n) table.rows ≡ Some (row_of row).1) → MatchOption o (Unit {0}) (λ row. row.number ≡ n) →
          MatchOption o (first_sought (Awaited p id) (without_these ended table.rows) ≡ None) (λ row. first_sought (Awaited p id) (without_these ended table.rows) ≡ Some (row_of row))
      go None none number = absurd (let no : Some first.row.1 ≡ None = sym held ∙ none in cc)
      go (Some row) is number =
          let one : Some first.row.1 ≡ Some (row_of row).1 = sym held ∙ is in
          let same : first.row.1 ≡ (row_of row).1 = cc in
          first_left ∙ first.first
          ∙ ap (λ (m : ℕ). let h : AskingRow = (m, first.row.1) in Some h) (first.number ∙ sym number)
          ∙ ap (λ (x : Held Asking). let h : AskingRow = (row.number, x) in Some h) same
