-- Drafts of a change, one for each row of what a parent does with a message.
use Rattle.std.proofs.Common.{◌≡◌, ℕ, true, Option, Some, None, List, [], ◌∷◌, inl, inr, refl, sym, ◌∙◌, ap, subst, option_map}
use Rattle.std.specs.Prelude.{Contains}
use Rattle.std.proofs.lemmas.Bool.{cases_Bool}
use Rattle.pce_common.specs.plant_model.Types.{Peer, Branch, Held}
use Rattle.request_table.specs.Pending.{Pending, ArePending, item_of}
use Rattle.request_table.specs.Lends.{written_of}
use Rattle.pce_common.specs.plant_model.declared.upper.ChildRow.{ChildRow}
use Rattle.pce_common.specs.plant_model.Parent.{Parent, ParentTaken, Asking, AskingRow, Wait, among, gathered, gathers, rows_at, waiting}
use Rattle.pce_parent.specs.declared.change.Change.{Change}
use Rattle.pce_parent.specs.declared.change.Change.TheVariants.{Gathers, Ends}
use Rattle.pce_parent.specs.declared.change.Draft.{Draft}
use Rattle.pce_parent.specs.declared.ending.Ending.{Ending}
use Rattle.pce_parent.specs.Answered.{Answers}
use Rattle.pce_parent.specs.Changes.{Fits, IsDraft, Waits, answered_item, changed, solved_in, with_answer}
use Rattle.pce_parent.specs.Endings.{given_by}
use Rattle.pce_parent.specs.Seen.{Seen}
use Rattle.pce_common.proofs.HeldRows.{first_in, later_in, in_found}

module _ (s : Seen) (d : Draft) where
  of_change : (change : Change) (given : ParentTaken) → d.change ≡ change → Fits s change → solved_in change ≡ None → changed change s.losing.parent ≡ given.parent → d.outputs ≡ given.outputs → IsDraft s given d
  of_change change given is fits unsolved parent outputs = record {
    fits = subst (λ (c : Change). Fits s c) (sym is) fits;
    unsolved = ap solved_in is ∙ unsolved;
    parent = ap (λ (c : Change). changed c s.losing.parent) is ∙ parent;
    outputs = outputs;
  }

  pub these_end : (e : Ending) (given : ParentTaken) → d.change ≡ Ends e.numbers.items → d.outputs ≡ e.outputs → given_by s.losing.parent e ≡ given → IsDraft s given d
  these_end e given is outputs ends = of_change (Ends e.numbers.items) given is tt refl (ap (λ (g : ParentTaken). g.parent) ends) (outputs ∙ ap (λ (g : ParentTaken). g.outputs) ends)

-- ---- a request that waits

pub waiting_in : (p : Peer) (y : ℕ) (rows : List AskingRow) (h : AskingRow) → waiting p y rows ≡ Some h → Contains rows h × (among p h.1.item.waits y ≡ true)
waiting_in p y [] h found = absurd (let no : ◌≡◌ {A = Option AskingRow} None (Some h) = found in cc)
waiting_in p y (r ∷ rows) h found =
    elim (cases_Bool (among p r.1.item.waits y)) [
      | inl here ↦
          let is : Some r ≡ Some h = rw here at found in
          let same : r ≡ h = cc in
          (subst (λ (x : AskingRow). Contains (r ∷ rows) x) same (first_in r rows), subst (λ (x : AskingRow). among p x.1.item.waits y ≡ true) same here)
      | inr there ↦
          let more = waiting_in p y rows h (rw there at found) in
          (later_in r rows h more.0, more.1)
    ]

pub waiting_item : (p : Peer) (y : ℕ) (pending : Pending Asking) (h : AskingRow) → ArePending pending → waiting p y pending.rows ≡ Some h → item_of pending h.0 ≡ Some h.1.item
waiting_item p y pending h are found =
    ap (λ (o : Option (Held Asking)). option_map (λ (r : Held Asking). r.item) o) (in_found 0 pending.given pending.rows h are.numbers (waiting_in p y pending.rows h found).0)

pub these_rows : (s : Seen) (d : Draft) (p : Peer) (y : ℕ) (h : AskingRow) (w : Wait) (bs : List Branch) (rows : List ChildRow) → ArePending s.losing.parent.pending → waiting p y s.losing.parent.pending.rows ≡ Some h →
    Answers p y w h.1.item.waits → rows ≡ rows_at w.child w.target bs → d.change ≡ Gathers h.0 p y rows → d.outputs ≡ [] → IsDraft s (gathers p y bs h s.losing.parent) d
these_rows s d p y h w bs rows are found answers rows_are is outputs =
    of_change s d (Gathers h.0 p y rows) (gathers p y bs h k) is (subst (λ (o : Option Asking). Waits p y o) (sym item) (waiting_in p y k.pending.rows h found).1) refl parent outputs
  where
    k : Parent
    k = s.losing.parent

    item : item_of k.pending h.0 ≡ Some h.1.item
    item = waiting_item p y k.pending h are found

    with_pending : Pending Asking → Parent
    with_pending q = record k { pending = q }

    these : List ChildRow → Asking
    these rs = with_answer p y rs h.1.item

    parent : with_pending (answered_item h.0 p y rows k.pending (item_of k.pending h.0)) ≡ with_pending (written_of k.pending h.0 (gathered p y bs h.1.item))
    parent =
        ap (λ (o : Option Asking). with_pending (answered_item h.0 p y rows k.pending o)) item
        ∙ ap (λ (rs : List ChildRow). with_pending (written_of k.pending h.0 (these rs))) (rows_are ∙ sym (answers.rows bs))
