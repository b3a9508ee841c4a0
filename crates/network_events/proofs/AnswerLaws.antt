-- A member answers a pending request: the room that there is after it, and what is owed.
use Rattle.std.proofs.Common.{◌≡◌, ◌≤◌, ℕ, ◌+◌, Bool, true, false, cond, nat_eq, Some, None, List, [], ◌∷◌, ◌++◌, length, refl, ap, sym, subst, ◌∙◌, arith, inl, inr}
use Rattle.std.specs.Map.{lookup, remove_entry}
use Rattle.std.proofs.lemmas.Bool.{cases_Bool}
use Rattle.std.specs.Prelude.{slice_get}
use Rattle.pce_common.specs.plant_model.Types.{As, Peer, Hop, Held, Sent, NetworkParts, ElementRow}
use Rattle.request_table.specs.Pending.{closed_of}
use Rattle.plant_text.specs.Names.{same_as, parent_as}
use Rattle.plant_text.specs.Settings.{elements_of}
use Rattle.pce_common.specs.plant_model.declared.output.Output.{Output}
use Rattle.pce_common.specs.plant_model.Element.{Element}
use Rattle.pce_common.specs.plant_model.Parent.{Parent}
use Rattle.pce_common.specs.plant_model.RealWire.{wire}
use Rattle.pce_common.specs.plant_model.State.{sent_by}
use Rattle.pce_common.specs.plant_model.Deeds as deeds
use Rattle.network_links.specs.Flow.{Flow, ClearsSaid}
use Rattle.pce_common.specs.Membership.{Membership, with_element, with_parent}
use Rattle.pce_common.specs.Owed.{count_by_asker, is_peer, owed, pending_in}
use Rattle.network_events.specs.Answering.{IsAnswer, Sends}
use Rattle.network_events.specs.Giving.{OnlyGrows, PutsAll, RoomToAnswer, RoomToGive}
use Rattle.network_events.specs.Passing.{IsOf}
use Rattle.network_events.specs.Rooms.{IsRoomy, is_live, is_talking}
use Rattle.network_events.specs.Standing.{state_of}
use Rattle.network_events.proofs.CountLaws.{count_all, count_cons, count_removed, one_if}
use Rattle.network_events.proofs.OwedLaws.{element_count, parent_count}
use Rattle.network_events.proofs.PassPending.{added_once, at_element, at_parent, elements_rise}
use Rattle.network_events.proofs.GiveLaws.{sent_is}
use Rattle.network_events.proofs.LetterLaws.{puts_keep}
use Rattle.network_events.proofs.PassRoom.{Passing}
use Rattle.network_events.proofs.PassLaws.{clear_no_less, clear_said_grows}
use Rattle.network_events.proofs.PassEvents.{from_at, own_is, cleared_is}

-- ---- what is owed, once a request ended

nothing : (b : Bool) → cond {A = ℕ} b 0 0 ≡ 0
nothing true = refl
nothing false = refl

one_is : {A : Type 0} (x y : A) → Some x ≡ Some y → x ≡ y
one_is x y e = cc

none_is : {A : Type 0} (x : A) → None ≡ Some x → ⊥
none_is x e = cc

-- a request that is found is owed an answer
pub count_found : {T : Type 0} (test : Peer → Bool) (number : ℕ) (rows : List (ℕ × Held T)) (held : Held T) → lookup (nat_eq number) rows ≡ Some held → test held.key.peer ≡ true → 1 ≤ count_by_asker test rows
count_found test number [] held found passes = absurd (none_is held found)
count_found test number (row ∷ rows) held found passes = elim (cases_Bool (nat_eq number row.0)) [
  | inl hit ↦
      let here : Some row.1 ≡ Some held = sym (ap (λ (b : Bool). cond b (Some row.1) (lookup (nat_eq number) rows)) hit) ∙ found in
      let yes : one_if (test row.1.key.peer) ≡ 1 = ap (λ (h : Held _). one_if (test h.key.peer)) (one_is row.1 held here) ∙ ap one_if passes in
      omega (arith, yes, count_cons test row rows)
  | inr miss ↦
      let later : lookup (nat_eq number) rows ≡ Some held = sym (ap (λ (b : Bool). cond b (Some row.1) (lookup (nat_eq number) rows)) miss) ∙ found in
      omega (arith, count_found test number rows held later passes, count_cons test row rows)
]

module _ {P : Type 0} {S : Type 0} where
  pub owed_below : (at : As) (k : Element P S) (ms : Membership P S) (number : ℕ) → k.pending ≡ closed_of (ms.elements at).pending number → (a : As) (q : Peer) → owed a q (with_element at k ms) ≤ owed a q ms
  owed_below at k ms number ends a q =
      let rows : k.pending.rows ≡ remove_entry (nat_eq number) (ms.elements at).pending.rows = ap (λ (p : _). p.rows) ends in
      omega (
        arith,
        element_count (is_peer q) at a k ms 0 (omega (arith, count_removed (is_peer q) (nat_eq number) (ms.elements at).pending.rows, ap (count_by_asker (is_peer q)) rows)),
        nothing (same_as at a),
      )

  pub owed_above : (k : Parent) (ms : Membership P S) (number : ℕ) → k.pending ≡ closed_of ms.parent.pending number → (a : As) (q : Peer) → owed a q (with_parent k ms) ≤ owed a q ms
  owed_above k ms number ends a q =
      let rows : k.pending.rows ≡ remove_entry (nat_eq number) ms.parent.pending.rows = ap (λ (p : _). p.rows) ends in
      omega (
        arith,
        parent_count (is_peer q) parent_as a k ms 0 refl (omega (arith, count_removed (is_peer q) (nat_eq number) ms.parent.pending.rows, ap (count_by_asker (is_peer q)) rows)),
        nothing (same_as parent_as a),
      )

  pub pending_below : (at : As) (k : Element P S) (ms : Membership P S) (number : ℕ) (rows : List ElementRow) → k.pending ≡ closed_of (ms.elements at).pending number →
      pending_in (elements_of rows) (with_element at k ms) ≤ pending_in (elements_of rows) ms
  pending_below at k ms number rows ends =
      let left : k.pending.rows ≡ remove_entry (nat_eq number) (ms.elements at).pending.rows = ap (λ (p : _). p.rows) ends in
      let fewer : length k.pending.rows ≤ length (ms.elements at).pending.rows + 0 =
      omega (
        arith,
        count_removed (λ q. true) (nat_eq number) (ms.elements at).pending.rows,
        count_all (ms.elements at).pending.rows,
        count_all (remove_entry (nat_eq number) (ms.elements at).pending.rows),
        ap length left,
      ) in
      omega (arith, at_element at k ms 0 fewer (elements_of rows), added_once at 0 (elements_of rows) (elements_rise rows))

  pub pending_above : (k : Parent) (ms : Membership P S) (number : ℕ) (rows : List ElementRow) → k.pending ≡ closed_of ms.parent.pending number →
      pending_in (elements_of rows) (with_parent k ms) ≤ pending_in (elements_of rows) ms
  pending_above k ms number rows ends =
      let left : k.pending.rows ≡ remove_entry (nat_eq number) ms.parent.pending.rows = ap (λ (p : _). p.rows) ends in
      omega (
        arith,
        count_removed (λ q. true) (nat_eq number) ms.parent.pending.rows,
        count_all ms.parent.pending.rows,
        count_all (remove_entry (nat_eq number) ms.parent.pending.rows),
        ap length left,
        at_parent k ms (elements_of rows),
      )

-- ---- the room for the answer

module _ {P : Type 0} {S : Type 0} (n : NetworkParts) (at : As) (os : List Output) (ms mid : Membership P S) (x : IsAnswer n at os ms mid) (letters : List Sent) (are : letters ≡ sent_by wire at os) (start made cleared : Flow) where
  one_letter : letters ≡ record { from = at; to = x.to; bytes = wire.text x.message } ∷ []
  one_letter = are ∙ ap (sent_by wire at) x.outputs_are

  asker : RoomToAnswer n at letters ms made → RoomToGive n at x.to 0 letters ms made
  asker room = subst (λ (ls : List Sent). RoomToGive n at x.to 0 ls ms made) (sym one_letter) (subst (λ (ls : List Sent). RoomToAnswer n at ls ms made) one_letter room)

  used : IsRoomy n ms start → is_live n start at x.to ≡ true
  used roomy = elim (cases_Bool (is_live n start at x.to)) [
    | inl live ↦ live
    | inr dead ↦ absurd (omega (arith, x.owed_before, roomy.answers.dead at x.to dead))
  ]

  pub answer_passing : IsOf n start → IsRoomy n ms start → OnlyGrows start made → RoomToAnswer n at letters ms made → ClearsSaid made cleared → Passing n at x.to 0 letters ms mid start made cleared
  answer_passing of roomy grows room clears = record {
    roomy = roomy;
    own = own_is n start made of grows;
    grows = grows;
    room = asker room;
    from = λ k s found. from_at at os k s (ap (λ (ss : List Sent). slice_get ss k) (sym are) ∙ found);
    no_less = clear_no_less made cleared clears;
    said = clear_said_grows made cleared clears;
    none = ap (λ (f : Flow). f.said) clears.kept;
    talking = λ i. ap (λ (f : Flow). is_talking (f.accesses i).connection) (cleared_is start made cleared grows clears);
    live = used roomy;
    owed_more = λ a q. omega (arith, x.owed_after a q);
    pending_more = omega (arith, x.pending_after);
  }

  pub answer_sends : (show : S → List Hop) (end : Flow) → OnlyGrows start made → ClearsSaid made cleared → PutsAll letters cleared end → Sends n show at os mid start end
  answer_sends show end grows clears puts =
      let same = cleared_is start made cleared grows clears in
      let sent = sent_is show n at os mid cleared end (subst (λ (ss : List Sent). PutsAll ss cleared end) are puts) in
      record {
        state = sent.0 ∙ ap (λ (f : Flow). deeds.puts P S wire n show at os (state_of mid f)) same;
        said = sent.1 ∙ ap (λ (f : Flow). f.said ++ sent_by wire at os) same;
      }

  pub answer_of : (end : Flow) → IsOf n start → OnlyGrows start made → ClearsSaid made cleared → PutsAll letters cleared end → IsOf n end
  answer_of end of grows clears puts =
      let same = cleared_is start made cleared grows clears in
      let keeps = puts_keep letters cleared in
      record {
        adjacencies_are = ap (λ (f : Flow). f.adjacencies) puts.kept ∙ keeps.1 ∙ ap (λ (f : Flow). f.adjacencies) same ∙ of.adjacencies_are;
        peers_are = ap (λ (f : Flow). f.peers) puts.kept ∙ keeps.2 ∙ ap (λ (f : Flow). f.peers) same ∙ of.peers_are;
      }
