-- A parent without children asks nobody.
use Rattle.std.proofs.Common.{◌≡◌, ◌∙◌, ℕ, Bool, true, false, cond, ◌==◌, List, [], ◌∷◌, Option, Some, None, is_some, refl, sym, ap, subst}
use Rattle.std.specs.Prelude.{All}
use Rattle.std.proofs.lemmas.List.Elements.{All-head, All-tail}
use Rattle.plant_laws.specs.plant_model.Types.{Addr, As, Peer, Answer, Message, Reply, Request, Wanted, Wish, NetworkParts, ElementRow}
use Rattle.pcep_codes.specs.declared.errors.TheConstants as errors
use Rattle.pcep_codes.specs.declared.no_paths.TheConstants as no_paths
use Rattle.pcep_codes.specs.declared.notices.TheConstants as notices
use Rattle.pcep_messages.specs.declared.message.Answer.TheVariants.{Paths, NoPath}
use Rattle.pcep_messages.specs.declared.message.Message.TheVariants as messages
use Rattle.pcep_messages.specs.declared.message.Wish.TheVariants.{Path, Expand}
use Rattle.request_table.specs.Pending.{number_of, is_full}
use Rattle.plant_text.specs.Names.{parent_as, insert_as}
use Rattle.plant_text.specs.Settings.{children, children_of}
use Rattle.plant_laws.specs.plant_model.Laws.{IsNetwork}
use Rattle.plant_laws.specs.plant_model.Names.{has_pair}
use Rattle.plant_laws.specs.plant_model.Wire.{Codec, Checked, Admitted, Wrong}
use Rattle.plant_laws.specs.plant_model.Writing.{reply_message, error_message, unavailable}
use Rattle.plant_laws.specs.plant_model.Taking.{error_answer}
use Rattle.plant_laws.specs.plant_model.BorderGraph.{Found}
use Rattle.plant_laws.specs.plant_model.Parent.{Parent, Family, ParentTaken, AskingRow, each, errands, ask_all, all_waits, all_up, take, take_asked, take_checked, take_new, take_wish, take_path, take_reply, take_found, take_answer, take_notice, notice_steps, take_busy, take_cancel, told_busy, cancelled, take_report, take_errors, take_failure, told_error, only, waiting, commit}
use Rattle.plant_laws.proofs.Numbering.Sends.{NoneAsks}
use Rattle.plant_laws.proofs.Numbering.Onward.{none_append}
use Rattle.run_laws.specs.Counting.{HasNoParent}

pick : (b : Bool) (t u : ParentTaken) → NoneAsks t.outputs → NoneAsks u.outputs → NoneAsks (cond b t u).outputs
pick true t u x y = x
pick false t u x y = y

each_none : {X : Type 0} (f : X → Parent → ParentTaken) → ((x : X) (k : Parent) → NoneAsks (f x k).outputs) → (xs : List X) (k : Parent) → NoneAsks (each f xs k).outputs
each_none f one [] k = tt
each_none f one (x ∷ xs) k = none_append (f x k).outputs (each f xs (f x k).parent).outputs (one x k) (each_none f one xs (f x k).parent)

module _ (c : Codec) (f : Family) (p : Peer) where
  -- ---- requests

  path_none : f.children ≡ [] → (flags x : ℕ) (w : Wanted) (k : Parent) → NoneAsks (take_path f p flags x w k).outputs
  path_none none flags x w k =
      subst (λ (l : List As). NoneAsks (ask_all w (all_waits k.pending.rows) (errands f.links w.target l) k.ways).outputs) (sym none) tt

  wish_none : f.children ≡ [] → (flags x : ℕ) (k : Parent) (wish : Wish) → NoneAsks (take_wish f p flags x k wish).outputs
  wish_none none flags x k (Expand key pce) = ((λ never. never), tt)
  wish_none none flags x k (Path w) =
      pick (is_full k.pending) _ (cond (all_up f.children k.ways) (take_path f p flags x w k) (only p (reply_message flags x unavailable) k)) ((λ never. never), tt)
      (pick (all_up f.children k.ways) (take_path f p flags x w k) _ (path_none none flags x w k) ((λ never. never), tt))

  new_none : f.children ≡ [] → (r : Request) (k : Parent) (o : Option ℕ) → NoneAsks (take_new f p r k o).outputs
  new_none none r k (Some number) = tt
  new_none none r k None = wish_none none r.flags r.id k r.wish

  checked_none : f.children ≡ [] → (k : Parent) (o : Checked) → NoneAsks (take_checked f p k o).outputs
  checked_none none k (Wrong rp kind value) = ((λ never. never), tt)
  checked_none none k (Admitted r) = new_none none r k (number_of k.pending p r.id)

  -- ---- replies, notices and errors

  answer_none : (y : ℕ) (h : AskingRow) (k : Parent) (a : Answer) → NoneAsks (take_answer c p y h k a).outputs
  answer_none y h k (Paths ps) = tt
  answer_none y h k (NoPath nature vector) = pick (nature == no_paths.NONE_FOUND) _ _ tt ((λ never. never), tt)

  found_none : (r : Reply) (k : Parent) (o : Option AskingRow) → NoneAsks (take_found c p r k o).outputs
  found_none r k None = ((λ never. never), tt)
  found_none r k (Some h) = answer_none r.id h k r.answer

  busy_none : (k : Parent) (o : Option AskingRow) → NoneAsks (told_busy k o).outputs
  busy_none k None = tt
  busy_none k (Some h) = ((λ never. never), tt)

  cancel_none : (k : Parent) (o : Option ℕ) → NoneAsks (cancelled k o).outputs
  cancel_none k None = tt
  cancel_none k (Some number) = tt

  abbrev Step : Type 0
  Step = Peer → ℕ × ℕ → Parent → ParentTaken

  steps_none : (kinds : List (ℕ × ℕ)) (rp : ℕ × ℕ) (k : Parent) → NoneAsks (each (λ (step : Step). step p rp) (notice_steps kinds) k).outputs
  steps_none kinds rp k = go (has_pair notices.BUSY.0 notices.BUSY.1 kinds) (has_pair notices.CANCELLED.0 notices.CANCELLED.1 kinds)
    where
      busy : (j : Parent) → NoneAsks (take_busy p rp j).outputs
      busy j = busy_none j (waiting p rp.1 j.pending.rows)

      cancel : (j : Parent) → NoneAsks (take_cancel p rp j).outputs
      cancel j = cancel_none j (number_of j.pending p rp.1)

      go : (b b' : Bool) → NoneAsks (each (λ (step : Step). step p rp) (cond b (cond b' (take_busy ∷ take_cancel ∷ []) (take_busy ∷ [])) (cond b' (take_cancel ∷ []) [])) k).outputs
      go true true = none_append (take_busy p rp k).outputs _ (busy k) (none_append (take_cancel p rp (take_busy p rp k).parent).outputs [] (cancel (take_busy p rp k).parent) tt)
      go true false = none_append (take_busy p rp k).outputs [] (busy k) tt
      go false true = none_append (take_cancel p rp k).outputs [] (cancel k) tt
      go false false = tt

  error_none : (e : ℕ × ℕ) (h : AskingRow) (k : Parent) → NoneAsks (told_error h k (error_answer e h.1.item.flags h.1.key.id)).outputs
  error_none e h k = go (has_pair errors.UNKNOWN_REQUEST.0 errors.UNKNOWN_REQUEST.1 (e ∷ [])) (has_pair e.0 e.1 (errors.PARAMETER_NOT_SERVED ∷ errors.CHAIN_FAILED ∷ []))
    where
      go : (b b' : Bool) → NoneAsks (told_error h k (cond b [] (cond b'
          (error_message (Some (h.1.item.flags, h.1.key.id)) errors.CHAIN_FAILED.0 errors.CHAIN_FAILED.1 ∷ [])
          (reply_message h.1.item.flags h.1.key.id unavailable ∷ [])))).outputs
      go true b' = tt
      go false true = ((λ never. never), tt)
      go false false = ((λ never. never), tt)

  failure_none : (e : ℕ × ℕ) (k : Parent) (o : Option AskingRow) → NoneAsks (take_failure e k o).outputs
  failure_none e k None = tt
  failure_none e k (Some h) = error_none e h k

  errors_none : (ids reported : List (ℕ × ℕ)) (k : Parent) → NoneAsks (take_errors p ids reported k).outputs
  errors_none ids [] k = tt
  errors_none ids (e ∷ es) k = each_none (λ rp j. take_failure e j (waiting p rp.1 j.pending.rows)) (λ rp j. failure_none e j (waiting p rp.1 j.pending.rows)) ids k

  -- what the parent says to a message
  pub takes_none : f.children ≡ [] → (m : Message) (k : Parent) → NoneAsks (take c f p m k).outputs
  takes_none none (messages.PcReq asked) k = each_none (take_asked c f p) (λ a j. checked_none none j (c.check a parent_as)) asked k
  takes_none none (messages.PcRep replies) k = each_none (take_reply c p) (λ r j. found_none r j (waiting p r.id j.pending.rows)) replies k
  takes_none none (messages.PcNtf notices') k =
      each_none (take_notice p) (λ r j. each_none (λ (rp : ℕ × ℕ). each (λ (step : Step). step p rp) (notice_steps r.kinds)) (λ rp j'. steps_none r.kinds rp j') r.ids j) notices' k
  takes_none none (messages.PcErr reports) k = each_none (take_report p) (λ r j. errors_none r.ids r.errors j) reports k
  takes_none none (messages.Open body) k = tt
  takes_none none messages.Keepalive k = tt
  takes_none none (messages.Close why) k = tt
  takes_none none (messages.Other kind) k = tt

-- and when a job is answered
pub commit_none : (c : Codec) (h : AskingRow) (a : Option Found) (k : Parent) → NoneAsks (commit c h a k).outputs
commit_none c h None k = ((λ never. never), tt)
commit_none c h (Some a) k = ((λ never. never), tt)

-- ---- without a parent there are no children

module _ (n : NetworkParts) (net : IsNetwork n) (alone : HasNoParent n) where
  abbrev Asks : ElementRow → Type 0
  Asks a = a.parent ≡ true → is_some n.parent ≡ true

  rows_none : (rows : List ElementRow) → All Asks rows → children_of rows ≡ []
  rows_none [] all = refl
  rows_none (r ∷ rows) all = go r.parent (All-head Asks r rows all) (rows_none rows (All-tail Asks r rows all))
    where
      go : (b : Bool) → (b ≡ true → is_some n.parent ≡ true) → children_of rows ≡ [] → cond b (insert_as r.own (children_of rows)) (children_of rows) ≡ []
      go true has more = absurd (let clash : false ≡ true = ap (λ (o : Option Addr). is_some o) (sym alone) ∙ has refl in cc)
      go false has more = more

  pub no_children : children n ≡ []
  no_children = rows_none n.elements net.has_parent
