-- The law that what waits is under way, from the invariant of a run; and what it makes of a quiet state.
use Rattle.std.proofs.Common.{◌≡◌, ◌≢◌, ◌⊎◌, ◌≤◌, ℕ, Bool, true, false, cond, List, [], ◌∷◌, sym, ◌∙◌, ap, subst, inl, inr, refl, arith}
use Rattle.std.specs.Prelude.{Contains}
use Rattle.std.proofs.lemmas.Bool.{cases_Bool}
use Rattle.std.proofs.lemmas.List.Elements.{All-head, All-tail}
use Rattle.plant_model.specs.Types.{As, Peer, Outside, Inner, Message, Wanted, Wish, Request, NetworkParts, Own, Answer, Notice, Addr}
use Rattle.pcep_messages.specs.declared.message.Wish.TheVariants.{Path}
use Rattle.plant_text.specs.Names.{same_as, parent_as}
use Rattle.plant_model.specs.Wire.{Bytes, Codec, Admitted}
use Rattle.plant_model.specs.Writing.{request_message, reply_message, busy, error_message}
use Rattle.plant_model.specs.Deeds.{own_message}
use Rattle.pcep_session.specs.declared.actions.Own.TheVariants as own
use Rattle.std.specs.Prelude.{Option}
use Rattle.plant_model.specs.Laws.{IsCodec, IsSequence}
use Rattle.plant_text.specs.Settings.{class_of}
use Rattle.plant_model.specs.Routes.{toward}
use Rattle.plant_model.specs.Settings.{place}
use Rattle.plant_model.specs.Element.{Waits, Row}
use Rattle.plant_model.specs.Taking.{sequence_or, goes_up}
use Rattle.plant_model.specs.Plant.{Pin, Segment, Plant, deeds_of}
use Rattle.plant_laws.specs.Transcript.{Transcript, opened, Delivered, tail_of}
use Rattle.plant_laws.specs.Standing.{texts}
use Rattle.plant_laws.specs.Chains.{QuietIsAnsweredIn, QuietHasNonePendingIn}
use Rattle.plant_laws.specs.Waiting as waiting
use Rattle.plant_laws.specs.UnderWay.{IsUnderWay, coming, taken, taken_up, answered, GoesOn, along, outside, upward, WaitsAreUnderWayIn}
use Rattle.plant_laws.proofs.Runs.Queues.{same_as_is, Stand}
use Rattle.plant_laws.proofs.Once.Handing.{In}
use Rattle.plant_laws.proofs.Runs.Rows as table
use Rattle.plant_laws.proofs.Runs.Inboxes.{contains}
use Rattle.plant_laws.proofs.Once.ElementSteps as lower_steps
use Rattle.plant_laws.proofs.Once.Opened.{IsRequest, Matches, Holds}
use Rattle.plant_laws.proofs.Once.OpenTables.{row_matched}
use Rattle.plant_laws.proofs.WrittenForm.ReadBack.{run_single}
use Rattle.plant_laws.proofs.WrittenForm.Sent.{run_sent}
use Rattle.plant_laws.proofs.Settled.Waits.{waits_are_sent}
use Rattle.plant_laws.proofs.Once.Answering.{run_kept}
use Rattle.plant_laws.proofs.Numbering.NumberRuns.{toward_inner}
use Rattle.plant_laws.proofs.Settled.PassedOn.{passed_on}
use Rattle.plant_laws.proofs.Runs.Unrouted.{unrouted}
use Rattle.plant_laws.proofs.Settled.Quiet as quiet
use Rattle.plant_laws.proofs.Once.Leaving as lower
use Rattle.plant_laws.proofs.Once.Leaving.{answers_count, CancelNone}
use Rattle.plant_laws.proofs.Once.LeavingUpper as upper
use Rattle.plant_laws.proofs.Settled.UnderWay.{Alive, coming as is_coming, held, back, queues_at}
use Rattle.plant_laws.proofs.Runs.NodeMoves.{named_of, waits_of, ElementWaits, ParentWaits}
use Rattle.plant_laws.proofs.Once.Asks.{Asks}
use Rattle.plant_laws.proofs.Settled.Alive.{IsAlive, CancelsNone}
use Rattle.plant_laws.proofs.Numbering.Known.{IsForm, own_none, Prem}
use Rattle.plant_laws.proofs.Settled.UnderWayRuns.{run_inv}
use Rattle.plant_laws.proofs.WrittenForm.WhereWritten.{WrittenNetIds}

in_flip : {A : Type 0} (x : A) (xs : List A) → table.In x xs → In x xs
in_flip x [] h = absurd h
in_flip x (y ∷ ys) (inl e) = inl (sym e)
in_flip x (y ∷ ys) (inr h) = inr (in_flip x ys h)

in_unflip : {A : Type 0} (x : A) (xs : List A) → In x xs → table.In x xs
in_unflip x [] h = absurd h
in_unflip x (y ∷ ys) (inl e) = inl (sym e)
in_unflip x (y ∷ ys) (inr h) = inr (in_unflip x ys h)

in_text : (c : Codec) (m : Message) (ms : List Message) → In m ms → In (c.text m) (texts c ms)
in_text c m [] h = h
in_text c m (x ∷ ms) (inl e) = inl (ap c.text e)
in_text c m (x ∷ ms) (inr h) = inr (in_text c m ms h)

-- what is sent cancels nothing
cancels_ask : (y : ℕ) (w : Wanted) (t : Addr) (l : List As) → CancelsNone (request_message y w t l)
cancels_ask y w t l notices is = cc

cancels_reply : (flags id : ℕ) (a : Answer) → CancelsNone (reply_message flags id a)
cancels_reply flags id a notices is = cc

cancels_busy : (flags id : ℕ) → CancelsNone (busy flags id)
cancels_busy flags id notices is =
    let one : Notice = record { ids = (flags, id) ∷ []; kinds = (1, 2) ∷ [] } in
    let same : one ∷ [] ≡ notices = cc in
    subst CancelNone same (refl, tt)

cancels_error : (rp : Option (ℕ × ℕ)) (kind value : ℕ) → CancelsNone (error_message rp kind value)
cancels_error rp kind value notices is = cc

cancels_own : (o : Own) → CancelsNone (own_message o)
cancels_own (own.Open offer) notices is = cc
cancels_own own.Keepalive notices is = cc
cancels_own (own.Error kind value) notices is = cc
cancels_own (own.Close why) notices is = cc

module _ (c : Codec) (n : NetworkParts) (codec : IsCodec c) (ds : Transcript) (s : Plant) (stand : Stand c n ds s) (tables : Holds c n ds s) where
  text_there : (a b : As) (m : Message) → In m (queues_at ds a b) → Contains (s.queues a b) (c.text m)
  text_there a b m h =
      subst (λ (q : List Bytes). Contains q (c.text m)) (sym (stand a b))
      (contains (c.text m) (texts c (queues_at ds a b)) (in_unflip (c.text m) (texts c (queues_at ds a b)) (in_text c m (queues_at ds a b) h)))

  under : (a b : As) (id : ℕ) (l : List As) → (same_as b parent_as ≡ true) ⊎ (same_as b parent_as ≡ false) → Alive (Asks c) (named_of s.elements s.parent) (queues_at ds) a b id l → IsUnderWay c s a b id l
  under a b id l side (is_coming m h ask) = coming ask.sent ask.end (subst (λ (m' : Message). Contains (s.queues a b) (c.text m')) ask.is (text_there a b m h))
  under a b id l side (back m h answers) = answered m (text_there b a m h) (answers_count id m answers)
  under a b id l (inl up) (held h) =
      let g : upper.Named s.parent (Inner a) id = subst (λ (x : Bool). cond x (upper.Named s.parent (Inner a) id) (lower.Named Pin Segment (s.elements b) (Inner a) id l)) up h in
      taken_up g.0 (same_as_is b parent_as up) (contains g.0 s.parent.pending.rows (in_unflip g.0 s.parent.pending.rows g.1)) g.2
  under a b id l (inr real) (held h) =
      let g : lower.Named Pin Segment (s.elements b) (Inner a) id l = subst (λ (x : Bool). cond x (upper.Named s.parent (Inner a) id) (lower.Named Pin Segment (s.elements b) (Inner a) id l)) real h in
      taken g.0 (λ up. (let clash : true ≡ false = sym (ap (λ (z : As). same_as z parent_as) up) ∙ real in cc)) (contains g.0 (s.elements b).pending.rows (in_unflip g.0 (s.elements b).pending.rows g.1)) g.2 g.3

  -- the request of a row was admitted at its element
  was_admitted : (at : Transcript) (d : As) (p : Peer) (r : Request) (w : Wanted) → Delivered c at d p r → r.wish ≡ Path w → (w.sequence ≡ []) ⊎ ((rest : List As) × (w.sequence ≡ d ∷ rest) × IsSequence d rest)
  was_admitted [] d p r w delivered is = absurd delivered
  was_admitted (e ∷ older) d p r w delivered is =
      (codec.onward.own delivered.0 d r.flags r.id w (delivered.3 ∙ ap (λ (x : Wish). Admitted (record { flags = r.flags; id = r.id; wish = x })) is)).2

  -- a row that goes on along its sequence
  goes_along : (d : As) (own next : As) (more : List As) (w : Wanted) (b : Bool) (l : List As) → (w.sequence ≡ []) ⊎ ((rest : List As) × (w.sequence ≡ d ∷ rest) × IsSequence d rest) → l ≡ cond b [] (sequence_or d w.sequence) → l ≡ own ∷ next ∷ more →
      (l ≡ d ∷ next ∷ more) × (next ≢ parent_as)
  goes_along d own next more w true l side is shape = absurd (let out : [] ≡ own ∷ next ∷ more = sym is ∙ shape in cc)
  goes_along d own next more w false l (inl none) is shape =
      absurd (let out : d ∷ [] ≡ own ∷ next ∷ more = sym (is ∙ ap (λ (x : List As). sequence_or d x) none) ∙ shape in (let tails : [] ≡ next ∷ more = cc in cc))
  goes_along d own next more w false l (inr r) is shape =
      let whole : l ≡ d ∷ r.0 = is ∙ ap (λ (x : List As). sequence_or d x) r.1 in
      let both : d ∷ r.0 ≡ own ∷ next ∷ more = sym whole ∙ shape in
      let rest : r.0 ≡ next ∷ more = cc in
      let sequence : IsSequence d (next ∷ more) = subst (λ (x : List As). IsSequence d x) rest r.2 in
      let real = All-head (λ (a : As). 1 ≤ a.0) next more (All-tail (λ (a : As). 1 ≤ a.0) d (next ∷ more) sequence.real) in
      (whole ∙ ap (λ (x : List As). d ∷ x) rest, λ up. (let zero : next.0 ≡ 0 = ap (λ (a : As). a.0) up in omega arith))

  real_node : (d : As) (h : Row Pin) → table.In h (s.elements d).pending.rows → same_as d parent_as ≡ false
  real_node d h i = elim (cases_Bool (same_as d parent_as)) [
    | inr low ↦ low
    | inl up ↦
        absurd (subst (λ (rows : List (Row Pin)). table.In h rows) tables.nothing (subst (λ (z : As). table.In h (s.elements z).pending.rows) (same_as_is d parent_as up) i))
  ]

  element_goes : IsAlive c n ds s → (d : As) (h : Row Pin) (on : Peer) (id : ℕ) → Contains (s.elements d).pending.rows h → h.1.item.stage ≡ Waits on id → waiting.WasSentOn c n ds d h on id → GoesOn c n s d h on id
  element_goes alive d h on id there stage sent = go sent.goes
    where
      row : table.In h (s.elements d).pending.rows
      row = table.in_of h (s.elements d).pending.rows there

      real : same_as d parent_as ≡ false
      real = real_node d h (table.in_of h (s.elements d).pending.rows there)

      wait : (b : As) → on ≡ Inner b → waits_of s.elements s.parent d b id (tail_of h.1.item.sequence)
      wait b peer =
          subst (λ (x : Bool). cond x (ParentWaits s.parent b id (tail_of h.1.item.sequence)) (ElementWaits (s.elements d) b id (tail_of h.1.item.sequence))) (sym real)
          (h.1.item.sequence, (h, in_flip h (s.elements d).pending.rows row, stage ∙ ap (λ (q : Peer). Waits q id) peer, refl), refl)

      shape : (own next : As) (more : List As) → h.1.item.sequence ≡ own ∷ next ∷ more → (h.1.item.sequence ≡ d ∷ next ∷ more) × (next ≢ parent_as)
      shape own next more is =
          let r = row_matched (IsRequest c n d h.1.key.peer h.1.key.id) (lower_steps.core h.1.item) (opened c d h.1.key.peer h.1.key.id ds)
          (subst (λ o. Matches (IsRequest c n d h.1.key.peer h.1.key.id) o (opened c d h.1.key.peer h.1.key.id ds))
          (table.seen_in lower_steps.core (s.elements d).pending.rows h (tables.elements d).names row) (tables.rows d h.1.key.peer h.1.key.id real)) in
          let q = r.2 in
          goes_along d own next more h.1.item.wanted (goes_up (place n d).parent (class_of n h.1.key.peer) h.1.item.wanted.sequence) h.1.item.sequence
          (was_admitted r.0 d h.1.key.peer q.request h.1.item.wanted q.delivered q.wish') q.sequence' is

      -- along its sequence, to an outside peer or to an element
      on_along : (own next : As) (more : List As) → h.1.item.sequence ≡ own ∷ next ∷ more → (p : Peer) → toward next (place n d).routes ≡ p → on ≡ p → GoesOn c n s d h on id
      on_along own next more whole (Outside i) is to = outside i next more to is (shape own next more whole).0
      on_along own next more whole (Inner b) is to =
          let peer : on ≡ Inner next = to ∙ ap (λ (z : As). Inner z) (toward_inner next b (place n d).routes (sym is)) in
          let g = shape own next more whole in
          let w = subst (λ (l : List As). waits_of s.elements s.parent d next id l) (ap (λ (l : List As). tail_of l) whole) (wait next peer) in
          along next more peer g.1 g.0 (under d next id (next ∷ more) (cases_Bool (same_as next parent_as)) (alive d next id (next ∷ more) w))

      go : waiting.GoesOn (place n d).routes h.1.item.sequence sent.rest on → GoesOn c n s d h on id
      go (inl up) =
          let w = subst (λ (l : List As). waits_of s.elements s.parent d parent_as id l) (ap (λ (l : List As). tail_of l) up.0) (wait parent_as up.2) in
          upward up.2 up.0 (under d parent_as id [] (cases_Bool (same_as parent_as parent_as)) (alive d parent_as id [] w))
      go (inr on') =
          let whole : h.1.item.sequence ≡ on'.0 ∷ on'.1 ∷ on'.2 = on'.3 ∙ ap (λ (l : List As). on'.0 ∷ l) on'.4 in
          on_along on'.0 on'.1 on'.2 whole (toward on'.1 (place n d).routes) refl on'.5

pub waits_are_under_way : WrittenNetIds WaitsAreUnderWayIn
waits_are_under_way c codec n net es s run written short =
    let inv = run_inv c n codec net es s run in
    let single = run_single c n codec es s run written in
    let form = run_sent IsForm (λ y w t rest ask. (y, w, t, rest, refl)) (λ flags id a ask. absurd ask) (λ flags id ask. absurd ask) (λ rp kind value ask. absurd ask) (λ o ask. absurd (own_none o ask)) c n es s run in
    let cancels = run_sent CancelsNone cancels_ask cancels_reply cancels_busy cancels_error cancels_own c n es s run in
    let prem : Prem c n codec net (deeds_of c n es) = (written, form, single, short) in
    let alive = inv.1 prem cancels in
    let known = inv.0.2 prem in
    let both = inv.0.0 single in
    record {
      elements = λ d h on id there stage. element_goes c n codec (deeds_of c n es) s inv.0.1 both.0 alive d h on id there stage (waits_are_sent c codec n net es s run d h there on id stage);
      parent = λ h w there in'.
          let i = in_flip h s.parent.pending.rows (table.in_of h s.parent.pending.rows there) in
          let j = in_flip w h.1.item.waits (table.in_of w h.1.item.waits in') in
          let kid = known.kids w (h, i, j) in (
            (λ up. (let zero : w.child.0 ≡ 0 = ap (λ (a : As). a.0) up in let one = kid.1 in omega arith)),
            under c n codec (deeds_of c n es) s inv.0.1 both.0 parent_as w.child w.id (w.child ∷ []) (cases_Bool (same_as w.child parent_as))
                (alive parent_as w.child w.id (w.child ∷ []) (w, (h, i, j), kid.0, refl, refl)),
          );
    }

pub quiet_is_answered : WrittenNetIds QuietIsAnsweredIn
quiet_is_answered c codec n net es s run written short quiet' =
    quiet.quiet_ends c n s (deeds_of c n es) quiet' (run_kept c n es s run).0 (quiet.run_none c n es s run) (waits_are_under_way c codec n net es s run written short) (passed_on c codec n net es s run written short)

pub quiet_has_none_pending : WrittenNetIds QuietHasNonePendingIn
quiet_has_none_pending c codec n net es s run written short downs quiet' =
    quiet.quiet_none c n s (deeds_of c n es) quiet' (run_kept c n es s run).0 (quiet.run_none c n es s run) (waits_are_under_way c codec n net es s run written short) (passed_on c codec n net es s run written short)
    (unrouted n downs)
