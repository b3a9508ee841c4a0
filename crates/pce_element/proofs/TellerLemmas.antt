-- The request that waits for the answer to an id, found by who is said to wait.
use Rattle.std.proofs.Common.{◌≡◌, ◌∙◌, ◌==◌, ℕ, Bool, true, false, cond, nat_eq, Option, Some, None, List, [], ◌∷◌, refl, sym, ap, subst}
use Rattle.std.specs.Prelude.{MatchOption, filter, slice_get}
use Rattle.std.specs.Map.{lookup}
use Rattle.pce_common.specs.plant_model.Types.{Peer, Held}
use Rattle.request_table.specs.Pending.{NumbersRise, Pending, same_peer}
use Rattle.pce_common.specs.plant_model.Element.{Item, Row, Stage, Waits, Ready, waiting, waits_for}
use Rattle.pce_common.specs.plant_model.Plant.{has_number}
use Rattle.pce_common.specs.Waiting.{AreSaidOf, IsSaidOf, numbers_waiting, waiter_at}
use Rattle.pce_common.specs.declared.waiters.Waiter.{Waiter}
use Rattle.pce_common.specs.declared.waiters.Waiter.TheVariants.{One}
use Rattle.pce_common.specs.declared.waiters.Waiters.{Waiters}
use Rattle.pce_common.proofs.HeldRows.{in_found}
use Rattle.pce_common.proofs.WaiterLemmas.{IsFirstLeft, not_ended, nobody_waits, one_has_ended, one_waits}
use Rattle.pce_element.specs.Changes.{all_closed}
use Rattle.pce_element.specs.Items.{id_sent_to}
use Rattle.pce_element.specs.Rows.{row_of}
use Rattle.pce_element.specs.Tellers.{AreGathered, Knows, waits_under}
use Rattle.pce_element.specs.declared.pinned.Row as pinned
use Rattle.pce_element.specs.declared.tellers.Teller.{Teller}
use Rattle.pce_element.proofs.SearchLemmas.{closed_rows}

-- ---- the id for whose answer a request waits

pub waits_for_id : (p : Peer) (stage : Stage) (y : ℕ) → id_sent_to p stage ≡ Some y → (id : ℕ) → waits_for p id stage ≡ (y == id)
waits_for_id p (Waits on x) y is id = go (same_peer on p) is
  where
    go : (b : Bool) → cond b (Some x) None ≡ Some y → cond b (x == id) false ≡ (y == id)
    go true is = ap (λ (z : ℕ). z == id) (let e : x ≡ y = cc in e)
    go false is = absurd (let no : None ≡ Some y = is in cc)
waits_for_id p (Ready branches) y is id = absurd (let no : None ≡ Some y = is in cc)

pub waits_for_none : (p : Peer) (stage : Stage) → id_sent_to p stage ≡ None → (id : ℕ) → waits_for p id stage ≡ false
waits_for_none p (Waits on x) is id = go (same_peer on p) is
  where
    go : (b : Bool) → cond b (Some x) None ≡ None → cond b (x == id) false ≡ false
    go true is = absurd (let no : Some x ≡ None = is in cc)
    go false is = refl
waits_for_none p (Ready branches) is id = refl

-- ---- what was gathered

pub said_at : {P : Type 0} → (rows : List (Row P)) (teller : Teller) (waiters : Waiters) (id : ℕ) (o : Option Waiter) → Knows rows teller → teller.waiters ≡ Some waiters → o ≡ waiter_at waiters id →
    IsSaidOf (numbers_waiting (waits_under teller.peer) rows id) o
said_at rows teller waiters id o knows is said =
    let gathered : AreSaidOf (numbers_waiting (waits_under teller.peer) rows) waiters = subst (AreGathered teller.peer rows) is knows in
    subst (IsSaidOf (numbers_waiting (waits_under teller.peer) rows id)) (sym said) (gathered id)

-- ---- the first that waits

waiting_first : {P : Type 0} → (p : Peer) (id : ℕ) (rows : List (Row P)) → waiting p id rows ≡ slice_get (filter (waits_under p id) rows) 0
waiting_first p id [] = refl
waiting_first {P} p id (h ∷ rows) = go (waits_under p id h) (waiting_first p id rows)
  where
    those : List (Row P)
    those = filter (waits_under p id) rows

    go : (b : Bool) → waiting p id rows ≡ slice_get those 0 → cond b (Some h) (waiting p id rows) ≡ slice_get (cond b (h ∷ those) those) 0
    go true more = refl
    go false more = more

module _ {P : Type 0} (p : Peer) (id : ℕ) (ended : List ℕ) (pending : Pending (Item P)) (rises : NumbersRise 0 pending.rows pending.given) where
  first_left : waiting p id (all_closed ended pending).rows ≡ slice_get (filter (waits_under p id) (not_ended ended pending.rows)) 0
  first_left = ap (waiting p id) (closed_rows ended pending rises) ∙ waiting_first p id (not_ended ended pending.rows)

  pub nobody : IsSaidOf (numbers_waiting (waits_under p) pending.rows id) None → waiting p id (all_closed ended pending).rows ≡ None
  nobody said = first_left ∙ nobody_waits ended (waits_under p id) pending.rows said

  pub one_ended : (n : ℕ) → IsSaidOf (numbers_waiting (waits_under p) pending.rows id) (Some (One n)) → has_number n ended ≡ true → waiting p id (all_closed ended pending).rows ≡ None
  one_ended n said gone = first_left ∙ one_has_ended ended (waits_under p id) pending.rows n said.1 gone

  pub one_found : (n : ℕ) (o : Option (pinned.Row P)) → IsSaidOf (numbers_waiting (waits_under p) pending.rows id) (Some (One n)) → has_number n ended ≡ false →
      MatchOption o (lookup (nat_eq n) pending.rows ≡ None) (λ row. lookup (nat_eq n) pending.rows ≡ Some (row_of row).1) → MatchOption o (Unit {0}) (λ row. row.number ≡ n) →
      MatchOption o (waiting p id (all_closed ended pending).rows ≡ None) (λ row. waiting p id (all_closed ended pending).rows ≡ Some (row_of row))
  one_found n o said there found number = go o found number
    where
      first : IsFirstLeft ended (waits_under p id) pending.rows n
      first = one_waits ended (waits_under p id) pending.rows n said.0 said.1 there

      held : lookup (nat_eq n) pending.rows ≡ Some first.row.1
      held = ap (λ (m : ℕ). lookup (nat_eq m) pending.rows) (sym first.number) ∙ in_found 0 pending.given pending.rows first.row rises first.has

      go : (o : Option (pinned.Row P)) → MatchOption o (lookup (nat_eq n) pending.rows ≡ None) (λ row. lookup (nat_eq n) pending.rows ≡ Some (row_of row).1) → MatchOption o (Unit {0}) (λ row. row.number ≡ n) →
          MatchOption o (waiting p id (all_closed ended pending).rows ≡ None) (λ row. waiting p id (all_closed ended pending).rows ≡ Some (row_of row))
      go None none number = absurd (let no : Some first.row.1 ≡ None = sym held ∙ none in cc)
      go (Some row) is number =
          let one : Some first.row.1 ≡ Some (row_of row).1 = sym held ∙ is in
          let same : first.row.1 ≡ (row_of row).1 = cc in
          first_left ∙ first.first
          ∙ ap (λ (m : ℕ). let h : Row P = (m, first.row.1) in Some h) (first.number ∙ sym number)
          ∙ ap (λ (x : Held (Item P)). let h : Row P = (row.number, x) in Some h) same
