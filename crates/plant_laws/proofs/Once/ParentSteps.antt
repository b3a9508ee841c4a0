-- What the parent's taking of replies, notices and errors, its answer to a job, and the fall of a peer leave of its requests.
use Rattle.std.proofs.Common.{◌≡◌, ℕ, Bool, true, false, cond, ◌==◌, Option, Some, None, List, [], ◌∷◌, inl, inr, ◌∙◌, ap, subst, refl}
use Rattle.std.proofs.lemmas.Bool.{cases_Bool}
use Rattle.plant_model.specs.Types.{Peer, Message, Reply, Notice, ErrorReport, Answer, RequestKey}
use Rattle.pcep_messages.specs.declared.message.Answer.TheVariants.{Paths, NoPath}
use Rattle.request_table.specs.Pending.{ArePending, key_of, same_peer, same_key, number_of}
use Rattle.plant_model.specs.Names.{has_pair}
use Rattle.plant_model.specs.Wire.{Codec}
use Rattle.plant_model.specs.Writing.{reply_message, error_message, unavailable, no_path}
use Rattle.plant_model.specs.Branches.{branches_in, path_of}
use Rattle.plant_model.specs.Parent as parent
use Rattle.plant_model.specs.Taking.{error_answer}
use Rattle.plant_model.specs.Parent.{Parent, ParentTaken, Asking, AskingRow}
use Rattle.plant_model.specs.BorderGraph.{Found}
use Rattle.plant_laws.specs.Transcript.{answers_to}
use Rattle.plant_laws.proofs.Runs.Seen.{seen, ended_if}
use Rattle.plant_laws.proofs.Runs.Rows.{In, seen_kept, filtered_pending}
use Rattle.plant_laws.proofs.Once.TableSteps.{any_by, AnswersOnly, reply_answers, busy_answers, failure_answers, unknown_answers, IsStep, nobody, no_step, say_step, then_step, answer_step, stage_step, cancel_step, cancel_none}
use Rattle.plant_laws.proofs.Once.ElementSteps.{any_none, gone_by}

-- the request, whatever is gathered
abbrev pub core : Asking → Asking
core i = record i { waits = []; rows = [] }

abbrev pub Steps : Parent → ParentTaken → (RequestKey → Bool) → Type 0
Steps k t gone = IsStep (core) k.pending t.parent.pending gone t.outputs

pub each_step : {X : Type 0} (f : X → Parent → ParentTaken) (g : X → RequestKey → Bool) → ((x : X) (k : Parent) → ArePending k.pending → Steps k (f x k) (g x)) →
    (xs : List X) (k : Parent) → ArePending k.pending → Steps k (parent.each f xs k) (λ key. any_by (λ x. g x key) xs)
each_step f g one [] k are = no_step core k.pending are
each_step f g one (x ∷ xs) k are =
    let first = one x k are in
    let rest = each_step f g one xs (f x k).parent first.pending in
    then_step core k.pending (f x k).parent.pending (parent.each f xs (f x k).parent).parent.pending (g x) (λ key. any_by (λ y. g y key) xs) (f x k).outputs (parent.each f xs (f x k).parent).outputs first rest

regone : (k : Parent) (t : ParentTaken) (f g : RequestKey → Bool) → ((key : RequestKey) → f key ≡ g key) → Steps k t f → Steps k t g
regone k t f g same s = record { pending = s.pending; limit = s.limit; table = λ key. s.table key ∙ ap (λ b. ended_if b (answers_to key.peer key.id t.outputs) (seen core key k.pending.rows)) (same key) }

pub waiting_in : (p : Peer) (y : ℕ) (rows : List (AskingRow)) (h : AskingRow) → parent.waiting p y rows ≡ Some h → In h rows × (parent.among p h.1.item.waits y ≡ true)
waiting_in p y [] h e = absurd (let no : None ≡ Some h = e in cc)
waiting_in p y (row ∷ rows) h e =
    elim (cases_Bool (parent.among p row.1.item.waits y)) [
      | inl hit ↦
          let at : Some row ≡ Some h = rw hit at e in
          let is : row ≡ h = cc in
          (inl is, subst (λ (r : AskingRow). parent.among p r.1.item.waits y ≡ true) is hit)
      | inr miss ↦ let r = waiting_in p y rows h (rw miss at e) in (inr r.0, r.1)
    ]

abbrev pub IsHeld : Parent → Option (AskingRow) → Type 0
IsHeld k o = (h : AskingRow) → o ≡ Some h → In h k.pending.rows

held : (p : Peer) (y : ℕ) (k : Parent) → IsHeld k (parent.waiting p y k.pending.rows)
held p y k h e = (waiting_in p y k.pending.rows h e).0

pub answered_step : (h : AskingRow) (m : Message) (k : Parent) → ArePending k.pending → In h k.pending.rows → AnswersOnly h.1.key.id m → Steps k (parent.answered h m k) nobody
answered_step h m k are there only = answer_step core k.pending h m are there only

-- replies
ready_step : (c : Codec) (p : Peer) (y : ℕ) (h : AskingRow) (a : Answer) (k : Parent) → ArePending k.pending → In h k.pending.rows → Steps k (parent.take_answer c p y h k a) nobody
ready_step c p y h (Paths ps) k are there = stage_step core k.pending h (parent.gathered p y (branches_in c h.1.item.wanted.query.metric ps) h.1.item) are there refl
ready_step c p y h (NoPath nature vector) k are there = go (nature == 0)
  where
    go : (b : Bool) → Steps k (cond b (parent.gathers p y [] h k) (parent.answered h (reply_message h.1.item.flags h.1.key.id unavailable) k)) nobody
    go true = stage_step core k.pending h (parent.gathered p y [] h.1.item) are there refl
    go false = answered_step h (reply_message h.1.item.flags h.1.key.id unavailable) k are there (reply_answers h.1.item.flags h.1.key.id unavailable)

reply_step : (c : Codec) (p : Peer) (r : Reply) (k : Parent) → ArePending k.pending → Steps k (parent.take_reply c p r k) nobody
reply_step c p r k are = go (parent.waiting p r.id k.pending.rows) (held p r.id k)
  where
    go : (o : Option AskingRow) → IsHeld k o → Steps k (parent.take_found c p r k o) nobody
    go None there = say_step core k.pending (record { to = p; message = error_message (Some (r.flags, r.id)) 8 0 } ∷ []) are (λ key. unknown_answers p key.peer (r.flags, r.id) key.id)
    go (Some h) there = ready_step c p r.id h r.answer k are (there h refl)

pub replies_step : (c : Codec) (p : Peer) (rs : List Reply) (k : Parent) → ArePending k.pending → Steps k (parent.each (parent.take_reply c p) rs k) nobody
replies_step c p rs k are = regone k (parent.each (parent.take_reply c p) rs k) (λ key. any_by (λ (r : Reply). false) rs) nobody (λ key. any_none rs) (each_step (parent.take_reply c p) (λ r. nobody) (λ r k are. reply_step c p r k are) rs k are)

-- notices
busy_step : (p : Peer) (rp : ℕ × ℕ) (k : Parent) → ArePending k.pending → Steps k (parent.take_busy p rp k) nobody
busy_step p rp k are = go (parent.waiting p rp.1 k.pending.rows) (held p rp.1 k)
  where
    go : (o : Option (AskingRow)) → IsHeld k o → Steps k (parent.told_busy k o) nobody
    go None there = no_step core k.pending are
    go (Some h) there = answered_step h _ k are (there h refl) (busy_answers h.1.item.flags h.1.key.id)

cancels_step : (p : Peer) (rp : ℕ × ℕ) (k : Parent) → ArePending k.pending → Steps k (parent.take_cancel p rp k) (same_key (key_of p rp.1))
cancels_step p rp k are = go (number_of k.pending p rp.1) refl
  where
    go : (o : Option ℕ) → number_of k.pending p rp.1 ≡ o → Steps k (parent.cancelled k o) (same_key (key_of p rp.1))
    go None e = cancel_none core k.pending p rp.1 are e
    go (Some number) e = cancel_step core k.pending p rp.1 number are e

abbrev Step : Type 0
Step = Peer → ℕ × ℕ → Parent → ParentTaken

id_step : (p : Peer) (kinds : List (ℕ × ℕ)) (rp : ℕ × ℕ) (k : Parent) → ArePending k.pending →
    Steps k (parent.each (λ (step : Step). step p rp) (parent.notice_steps kinds) k) (λ key. cond (has_pair 1 1 kinds) (same_key (key_of p rp.1) key) false)
id_step p kinds rp k are = go (has_pair 1 2 kinds) (has_pair 1 1 kinds)
  where
    last : (k : Parent) → ArePending k.pending → Steps k (parent.each (λ (step : Step). step p rp) (parent.take_cancel ∷ []) k) (same_key (key_of p rp.1))
    last k are =
        let one = cancels_step p rp k are in
        let t = parent.take_cancel p rp k in
        regone k (parent.each (λ (step : Step). step p rp) (parent.take_cancel ∷ []) k) (λ key. cond (same_key (key_of p rp.1) key) true false) (same_key (key_of p rp.1))
        (λ key. elim (cases_Bool (same_key (key_of p rp.1) key)) [ inl own ↦ rw own refl | inr other ↦ rw other refl ])
        (then_step core k.pending t.parent.pending t.parent.pending (same_key (key_of p rp.1)) nobody t.outputs [] one (no_step core t.parent.pending one.pending))

    first : (rest : List Step) (g : RequestKey → Bool) → ((k : Parent) → ArePending k.pending → Steps k (parent.each (λ (step : Step). step p rp) rest k) g) → Steps k (parent.each (λ (step : Step). step p rp) (parent.take_busy ∷ rest) k) g
    first rest g more =
        let one = busy_step p rp k are in
        let t = parent.take_busy p rp k in
        let u = parent.each (λ (step : Step). step p rp) rest t.parent in
        then_step core k.pending t.parent.pending u.parent.pending nobody g t.outputs u.outputs one (more t.parent one.pending)

    go : (a b : Bool) → Steps k
        (parent.each (λ (step : Step). step p rp) (cond a (cond b (parent.take_busy ∷ parent.take_cancel ∷ []) (parent.take_busy ∷ [])) (cond b (parent.take_cancel ∷ []) [])) k)
        (λ key. cond b (same_key (key_of p rp.1) key) false)
    go true true = first (parent.take_cancel ∷ []) (same_key (key_of p rp.1)) last
    go true false = first [] nobody (λ k are. no_step core k.pending are)
    go false true = last k are
    go false false = no_step core k.pending are

pub notices_step : (p : Peer) (ns : List Notice) (k : Parent) → ArePending k.pending → Steps k (parent.each (parent.take_notice p) ns k) (λ key. any_by (λ (n : Notice). gone_by p n key) ns)
notices_step p ns k are =
    each_step (parent.take_notice p) (gone_by p)
    (λ n k are. each_step (λ (rp : ℕ × ℕ). parent.each (λ (step : Step). step p rp) (parent.notice_steps n.kinds)) (λ rp key. cond (has_pair 1 1 n.kinds) (same_key (key_of p rp.1) key) false)
    (λ rp k are. id_step p n.kinds rp k are) n.ids k are) ns k are

-- errors
failure_step : (p : Peer) (e : ℕ × ℕ) (rp : ℕ × ℕ) (k : Parent) → ArePending k.pending → Steps k (parent.take_failure e k (parent.waiting p rp.1 k.pending.rows)) nobody
failure_step p e rp k are = go (parent.waiting p rp.1 k.pending.rows) (held p rp.1 k)
  where
    told : (h : AskingRow) → In h k.pending.rows → (ms : List Message) → ((m : Message) → In m ms → AnswersOnly h.1.key.id m) → Steps k (parent.told_error h k ms) nobody
    told h there [] only = no_step core k.pending are
    told h there (m ∷ ms) only = answered_step h m k are there (only m (inl refl))

    go : (o : Option (AskingRow)) → IsHeld k o → Steps k (parent.take_failure e k o) nobody
    go None there = no_step core k.pending are
    go (Some h) there = told h (there h refl) (error_answer e h.1.item.flags h.1.key.id) (failure_answers e h.1.item.flags h.1.key.id)

report_step : (p : Peer) (r : ErrorReport) (k : Parent) → ArePending k.pending → Steps k (parent.take_report p r k) nobody
report_step p r k are = go r.errors
  where
    go : (es : List (ℕ × ℕ)) → Steps k (parent.take_errors p r.ids es k) nobody
    go [] = no_step core k.pending are
    go (e ∷ es) =
        regone k (parent.each (λ (rp : ℕ × ℕ) k. parent.take_failure e k (parent.waiting p rp.1 k.pending.rows)) r.ids k) (λ key. any_by (λ (rp : ℕ × ℕ). false) r.ids) nobody (λ key. any_none r.ids)
        (each_step (λ (rp : ℕ × ℕ) k. parent.take_failure e k (parent.waiting p rp.1 k.pending.rows)) (λ rp. nobody) (λ rp k are. failure_step p e rp k are) r.ids k are)

pub reports_step : (p : Peer) (rs : List ErrorReport) (k : Parent) → ArePending k.pending → Steps k (parent.each (parent.take_report p) rs k) nobody
reports_step p rs k are = regone k (parent.each (parent.take_report p) rs k) (λ key. any_by (λ (r : ErrorReport). false) rs) nobody (λ key. any_none rs) (each_step (parent.take_report p) (λ r. nobody) (λ r k are. report_step p r k are) rs k are)

-- a job is answered
pub commit_step : (c : Codec) (h : AskingRow) (o : Option Found) (k : Parent) → ArePending k.pending → In h k.pending.rows → Steps k (parent.commit c h o k) nobody
commit_step c h None k are there =
    answered_step h (reply_message h.1.item.flags h.1.key.id (no_path true true)) k are there (reply_answers h.1.item.flags h.1.key.id (no_path true true))
commit_step c h (Some a) k are there =
    let answer : Answer = Paths (path_of c h.1.item.wanted.query.metric a.cost a.hops ∷ []) in
    answered_step h (reply_message h.1.item.flags h.1.key.id answer) k are there (reply_answers h.1.item.flags h.1.key.id answer)

-- a peer goes down
pub downed_step : (p : Peer) (k : Parent) → ArePending k.pending → Steps k (parent.downed p k) (λ key. same_peer p key.peer)
downed_step p k are = record {
  pending = filtered_pending (parent.stays p) k.pending are;
  limit = refl;
  table = λ key. seen_kept p (λ (i : Asking). parent.any_on p i.waits) (λ (i : Asking). i.flags) core key k.pending.rows are.names;
}
