-- A member that answers a pending request sends one message, to its asker, and the request ends.
use Rattle.std.proofs.Common.{◌≡◌, ◌≤◌, ℕ, Bool, true, false, cond, nat_eq, nat_lt, Option, Some, None, List, [], ◌∷◌, length, refl, sym, subst}
use Rattle.std.specs.Map.{lookup}
use Rattle.network_events.specs.plant_model.Types.{As, Message, Held as Asked, Best, Branch, NetworkParts}
use Rattle.pcep_messages.specs.declared.message.Answer.TheVariants.{Paths}
use Rattle.request_table.specs.Pending.{closed_of}
use Rattle.request_table.proofs.KeyLemmas.{same_peer_self}
use Rattle.plant_text.specs.Names.{parent_as, same_as}
use Rattle.network_events.specs.plant_model.declared.output.Output.{Output}
use Rattle.network_events.specs.plant_model.BorderGraph.{Found}
use Rattle.network_events.specs.plant_model.Element.{Element, Item, ElementSettings, Row, Taken, is_client}
use Rattle.network_events.specs.plant_model.Parent as parent
use Rattle.network_events.specs.plant_model.RealWire.{wire}
use Rattle.network_events.specs.plant_model.Solving.{client_reply, closed_paths, closed_reply, commit, free, issued_all, job_found}
use Rattle.network_events.specs.plant_model.Taking.{answered}
use Rattle.network_events.specs.plant_model.Writing.{busy, reply_message}
use Rattle.network_events.specs.pce_common.Membership.{Membership, with_element, with_parent}
use Rattle.network_events.specs.pce_common.Owed.{count_by_asker, is_peer}
use Rattle.network_events.specs.Answering.{IsAnswer}
use Rattle.network_events.proofs.AnswerLaws.{count_found, owed_above, owed_below, pending_above, pending_below}

module _ {P : Type 0} {S : Type 0} where
  record Ends (h : Row P) (k : Element P S) (t : Taken P S) : Type 0 where
    message : Message
    outputs : t.outputs ≡ (let o : Output = record { to = h.1.key.peer; message = message } in o) ∷ []
    ends : t.element.pending ≡ closed_of k.pending h.0

  closed_ends : (e : ElementSettings) (h : Row P) (down : List Branch) (now : ℕ) (stands : Best → S) (best : List Best) (k : Element P S) → Ends h k (closed_reply wire e h down now stands k best)
  closed_ends e h down now stands [] k = record { message = _; outputs = refl; ends = refl }
  closed_ends e h down now stands (b ∷ bs) k = go (nat_lt (free now k.keys) (length (b ∷ bs)))
    where
      go : (c : Bool) → Ends h k (cond c (answered h (busy h.1.item.flags h.1.key.id) k)
          (answered h (reply_message h.1.item.flags h.1.key.id (Paths (closed_paths wire e.id h.1.item.wanted.query.metric h.1.item.wanted.target down k.keys.next (b ∷ bs)))) (record k { keys = issued_all now stands (b ∷ bs) k.keys })))
      go true = record { message = busy h.1.item.flags h.1.key.id; outputs = refl; ends = refl }
      go false = record { message = reply_message h.1.item.flags h.1.key.id (Paths (closed_paths wire e.id h.1.item.wanted.query.metric h.1.item.wanted.target down k.keys.next (b ∷ bs))); outputs = refl; ends = refl }

  commit_ends : (e : ElementSettings) (h : Row P) (down : List Branch) (now : ℕ) (stands : Best → S) (source_known target_known : Bool) (best : List Best) (k : Element P S) → Ends h k (commit wire e h down now stands (job_found source_known target_known best) k)
  commit_ends e h down now stands source_known target_known best k = go (is_client h.1.item.class)
    where
      go : (c : Bool) → Ends h k (cond c (answered h (client_reply wire h down source_known target_known best) k) (closed_reply wire e h down now stands k best))
      go true = record { message = client_reply wire h down source_known target_known best; outputs = refl; ends = refl }
      go false = closed_ends e h down now stands best k

record EndsAbove (h : parent.AskingRow) (k : parent.Parent) (g : parent.ParentTaken) : Type 0 where
  message : Message
  outputs : g.outputs ≡ (let o : Output = record { to = h.1.key.peer; message = message } in o) ∷ []
  ends : g.parent.pending ≡ closed_of k.pending h.0

commit_ends_above : (h : parent.AskingRow) (a : Option Found) (k : parent.Parent) → EndsAbove h k (parent.commit wire h a k)
commit_ends_above h None k = record { message = _; outputs = refl; ends = refl }
commit_ends_above h (Some a) k = record { message = _; outputs = refl; ends = refl }

module _ {P : Type 0} {S : Type 0} (n : NetworkParts) (ms : Membership P S) where
  pub element_answer : (e : ElementSettings) (now : ℕ) (d : As) (k : ℕ) (held : Asked (Item P)) (down : List Branch) (stands : Best → S) (source_known target_known : Bool) (best : List Best) →
      same_as d parent_as ≡ false → lookup (nat_eq k) (ms.elements d).pending.rows ≡ Some held →
      IsAnswer n d (commit wire e (k, held) down now stands (job_found source_known target_known best) (ms.elements d)).outputs ms
      (with_element d (commit wire e (k, held) down now stands (job_found source_known target_known best) (ms.elements d)).element ms)
  element_answer e now d k held down stands source_known target_known best below found =
      let t = commit wire e (k, held) down now stands (job_found source_known target_known best) (ms.elements d) in
      let ends : Ends (k, held) (ms.elements d) t = commit_ends e (k, held) down now stands source_known target_known best (ms.elements d) in
      record {
        to = held.key.peer;
        message = ends.message;
        outputs_are = ends.outputs;
        owed_before =
            subst (λ (b : Bool). 1 ≤ cond b (count_by_asker (is_peer held.key.peer) ms.parent.pending.rows) (count_by_asker (is_peer held.key.peer) (ms.elements d).pending.rows)) (sym below)
            (count_found (is_peer held.key.peer) k (ms.elements d).pending.rows held found (same_peer_self held.key.peer));
        owed_after = owed_below d t.element ms k ends.ends;
        pending_after = pending_below d t.element ms k n.elements ends.ends;
      }

  pub parent_answer : (k : ℕ) (held : Asked parent.Asking) (a : Option Found) → lookup (nat_eq k) ms.parent.pending.rows ≡ Some held →
      IsAnswer n parent_as (parent.commit wire (k, held) a ms.parent).outputs ms (with_parent (parent.commit wire (k, held) a ms.parent).parent ms)
  parent_answer k held a found =
      let g = parent.commit wire (k, held) a ms.parent in
      let ends : EndsAbove (k, held) ms.parent g = commit_ends_above (k, held) a ms.parent in
      record {
        to = held.key.peer;
        message = ends.message;
        outputs_are = ends.outputs;
        owed_before = count_found (is_peer held.key.peer) k ms.parent.pending.rows held found (same_peer_self held.key.peer);
        owed_after = owed_above g.parent ms k ends.ends;
        pending_after = pending_above g.parent ms k n.elements ends.ends;
      }
