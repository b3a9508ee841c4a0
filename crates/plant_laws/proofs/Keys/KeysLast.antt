-- A key that a solve told lasts for its life.
use Rattle.std.proofs.Common.{◌≡◌, ◌<◌, ◌≤◌, ◌+◌, arith, ℕ, Bool, true, false, cond, nat_lt, List, [], ◌∷◌, ◌++◌, length, sym, ◌∙◌, ap, subst, inl, inr, refl}
use Rattle.std.proofs.lemmas.Bool.{eq-eqb}
use Rattle.plant_model.specs.Types.{As, Issued, Best, Branch, NetworkParts, Message}
use Rattle.path_keys.specs.Keys.{Keys, is_live, live_at, issue_of}
use Rattle.plant_model.specs.declared.outcome.Refused.TheVariants.{GenerationsFull, NoSuchPeer}
use Rattle.plant_model.specs.declared.event.Event.{Event}
use Rattle.plant_model.specs.declared.event.Event.TheVariants as event
use Rattle.plant_model.specs.declared.output.Output.{Output}
use Rattle.plant_text.specs.Names.{same_as, parent_as}
use Rattle.plant_model.specs.Wire.{Codec}
use Rattle.plant_model.specs.Element.{Element, ElementSettings, Row, Taken, is_client}
use Rattle.plant_model.specs.Taking.{answered}
use Rattle.plant_model.specs.Solving.{commit, client_reply, closed_reply, issued_all, job_found}
use Rattle.plant_text.specs.Settings.{life, is_element}
use Rattle.plant_model.specs.Settings.{place}
use Rattle.plant_model.specs.State.{Solves}
use Rattle.plant_model.specs.Plant.{Pin, Segment, Plant, Happened, Entry, Run, Steps, Happens, deeds_of, load_new, refused, is_full, ElementSolves}
use Rattle.plant_laws.specs.Transcript.{Transcript}
use Rattle.plant_laws.specs.Keys.{clock_at, last_keys}
use Rattle.plant_laws.proofs.Keys.KeysIssued.{Leaves, happens_leaves}
use Rattle.plant_laws.proofs.Keys.KeysHold.{lives_of}
use Rattle.path_keys.proofs.KeyLemmas.{live_if}
use Rattle.pcep_messages.specs.declared.message.Message.TheVariants as messages
use Rattle.plant_model.specs.Events as events
use Rattle.std.proofs.lemmas.Bool.{eqb-true}
use Rattle.pcep_messages.specs.declared.message.Answer.TheVariants.{Paths}
use Rattle.plant_model.specs.Writing.{reply_message, busy}
use Rattle.plant_model.specs.Solving.{closed_paths, free}
use Rattle.plant_laws.specs.Issuing.{numbered, TellsKeys, ToldKeysLast}
use Rattle.plant_laws.proofs.Runs.Lists.{Stands, contains_of, stands_of}
use Rattle.plant_laws.proofs.Keys.KeyedRuns.{KeysAre, run_keys, before_plain, in_filtered, later_least}
use Rattle.plant_laws.proofs.Keys.Keyed.{plain_clock, plain_nil, Kind, going, open_calm, shut_calm, feed_calm, break_calm, drain_calm, take_kind, carry_kind}

not_both : {X : Type 0} (t : Bool) → t ≡ true → t ≡ false → X
not_both true e f = cc
not_both false e f = cc

push_left : {X : Type 0} (xs : List X) (y x : X) → Stands x xs → Stands x (xs ++ y ∷ [])
push_left [] y x stands = absurd stands
push_left (z ∷ zs) y x (inl is) = inl is
push_left (z ∷ zs) y x (inr there) = inr (push_left zs y x there)

push_last : {X : Type 0} (xs : List X) (y : X) → Stands y (xs ++ y ∷ [])
push_last [] y = inl refl
push_last (z ∷ zs) y = inr (push_last zs y)

module _ (now : ℕ) where
  -- a live key stays as more are issued
  keeps : (bs : List Best) (keys : Keys Segment) (x : Issued Segment) → Stands x keys.issued → is_live keys.life now x ≡ true → Stands x (issued_all now (λ b. b.segment) bs keys).issued
  keeps [] keys x stands live = stands
  keeps (b ∷ bs) keys x stands live =
      keeps bs (issue_of keys now b.segment) x (push_left (live_at keys now) _ x (in_filtered (is_live keys.life now) keys.issued x stands live)) live

  pub record Has (issued : List (Issued Segment)) (number : ℕ) (b : Best) : Type 0 where
    pub key : Issued Segment
    pub stands : Stands key issued
    pub number' : key.number ≡ number
    pub segment' : key.segment ≡ b.segment
    pub at' : key.at.0 ≡ now

  -- each that is told is issued
  issues : (bs : List Best) (keys : Keys Segment) (number : ℕ) (b : Best) → 1 ≤ keys.life → Stands (number, b) (numbered keys.next bs) → Has (issued_all now (λ b. b.segment) bs keys).issued number b
  issues [] keys number b some stands = absurd stands
  issues (o ∷ os) keys number b some (inl is) =
      let new : Issued Segment = record { number = keys.next; at = record { 0 = now }; segment = o.segment } in
      record {
        key = new;
        stands = keeps os (issue_of keys now o.segment) new (push_last (live_at keys now) new) (live_if keys.life now new (omega (arith, some)));
        number' = ap (λ (p : ℕ × Best). p.0) (sym is);
        segment' = ap (λ (p : ℕ × Best). p.1.segment) (sym is);
        at' = refl;
      }
  issues (o ∷ os) keys number b some (inr there) = issues os (issue_of keys now o.segment) number b some there

-- a reply is no notice
abbrev is_reply : Message → Bool
is_reply (messages.PcRep replies) = true
is_reply (messages.Open body) = false
is_reply messages.Keepalive = false
is_reply (messages.PcReq asks) = false
is_reply (messages.PcNtf notices) = false
is_reply (messages.PcErr reports) = false
is_reply (messages.Close why) = false
is_reply (messages.Other kind) = false

abbrev first_reply : List Output → Bool
first_reply [] = false
first_reply (o ∷ os) = is_reply o.message

module _ (c : Codec) (e : ElementSettings) (h : Row Pin) (down : List Branch) (now : ℕ) (k : Element Pin Segment) where
  taken_pick : (x : Issued Segment) (b : Bool) (t u : Taken Pin Segment) → Stands x t.element.keys.issued → Stands x u.element.keys.issued → Stands x (cond b t u).element.keys.issued
  taken_pick x true t u f g = f
  taken_pick x false t u f g = g

  closed_keeps : (x : Issued Segment) (best : List Best) → Stands x k.keys.issued → is_live k.keys.life now x ≡ true → Stands x (closed_reply c e h down now (λ b. b.segment) k best).element.keys.issued
  closed_keeps x [] stands live = stands
  closed_keeps x (b ∷ bs) stands live = taken_pick x (nat_lt (free now k.keys) (length (b ∷ bs))) _ _ stands (keeps now (b ∷ bs) k.keys x stands live)

  pub commit_keeps : (x : Issued Segment) (sk tk : Bool) (best : List Best) → Stands x k.keys.issued → is_live k.keys.life now x ≡ true → Stands x (commit c e h down now (λ b. b.segment) (job_found sk tk best) k).element.keys.issued
  commit_keeps x sk tk best stands live =
      taken_pick x (is_client h.1.item.class) (answered h (client_reply c h down sk tk best) k) (closed_reply c e h down now (λ b. b.segment) k best) stands (closed_keeps x best stands live)

  closed_issues : (best : List Best) (number : ℕ) (b : Best) → 1 ≤ k.keys.life → Stands (number, b) (numbered k.keys.next best) → first_reply (closed_reply c e h down now (λ b. b.segment) k best).outputs ≡ true →
      Has now (closed_reply c e h down now (λ b. b.segment) k best).element.keys.issued number b
  closed_issues [] number b some stands told = absurd stands
  closed_issues (o ∷ os) number b some stands told = go (nat_lt (free now k.keys) (length (o ∷ os))) told
    where
      go : (x : Bool) →
          first_reply (cond x (answered h (busy h.1.item.flags h.1.key.id) k)
          (answered h (reply_message h.1.item.flags h.1.key.id (Paths (closed_paths c e.id h.1.item.wanted.query.metric h.1.item.wanted.target down k.keys.next (o ∷ os)))) (record k { keys = issued_all now (λ b. b.segment) (o ∷ os) k.keys }))).outputs ≡ true →
          Has now (cond x (answered h (busy h.1.item.flags h.1.key.id) k)
          (answered h (reply_message h.1.item.flags h.1.key.id (Paths (closed_paths c e.id h.1.item.wanted.query.metric h.1.item.wanted.target down k.keys.next (o ∷ os)))) (record k { keys = issued_all now (λ b. b.segment) (o ∷ os) k.keys }))).element.keys.issued number b
      go true told = let no : false ≡ true = told in cc
      go false told = issues now (o ∷ os) k.keys number b some stands

  pub commit_issues : (sk tk : Bool) (best : List Best) (number : ℕ) (b : Best) → 1 ≤ k.keys.life → is_client h.1.item.class ≡ false → Stands (number, b) (numbered k.keys.next best) →
      first_reply (commit c e h down now (λ b. b.segment) (job_found sk tk best) k).outputs ≡ true → Has now (commit c e h down now (λ b. b.segment) (job_found sk tk best) k).element.keys.issued number b
  commit_issues sk tk best number b some closed stands told = go (is_client h.1.item.class) closed told
    where
      go : (x : Bool) → x ≡ false → first_reply (cond x (answered h (client_reply c h down sk tk best) k) (closed_reply c e h down now (λ b. b.segment) k best)).outputs ≡ true →
          Has now (cond x (answered h (client_reply c h down sk tk best) k) (closed_reply c e h down now (λ b. b.segment) k best)).element.keys.issued number b
      go true is told = let no : true ≡ false = is in cc
      go false is told = closed_issues best number b some stands told

abbrev outputs_in : Transcript → List Output
outputs_in [] = []
outputs_in (Solves at k os keys ∷ es) = os
outputs_in (e ∷ es) = []

module _ (c : Codec) (n : NetworkParts) (lives : (d : As) → (1 ≤ life n d) × (life n d ≤ 3600)) (d : As) (upper : same_as d parent_as ≡ false) where
  -- the clock does not go back
  kind_rises : (ds : Transcript) (s : Plant) (h k : Happened) → h ≡ k → Kind c n s (going c n k) → clock_at ds ≤ clock_at (h.deeds ++ ds)
  kind_rises ds s h k is (inl calm) =
      let same = ap (λ (g : Happened). clock_at (g.deeds ++ ds)) is ∙ plain_clock k.deeds ds (plain_nil k.deeds calm.more calm.is calm.plain) in omega (arith, same)
  kind_rises ds s h k is (inr gives) =
      let same = ap (λ (g : Happened). clock_at (g.deeds ++ ds)) is ∙ ap (λ (l : Transcript). clock_at (l ++ ds)) gives.deeds ∙ plain_clock gives.before ds (before_plain c n gives.before gives.first) in omega (arith, same)

  same_rises : (ds : Transcript) (h k : Happened) → h ≡ k → clock_at (k.deeds ++ ds) ≡ clock_at ds → clock_at ds ≤ clock_at (h.deeds ++ ds)
  same_rises ds h k is e = let same = ap (λ (g : Happened). clock_at (g.deeds ++ ds)) is ∙ e in omega (arith, same)

  happens_rises : (ds : Transcript) (s : Plant) (e : Event) (h : Happened) → Happens c n s e h → clock_at ds ≡ s.clock → clock_at ds ≤ clock_at (h.deeds ++ ds)
  happens_rises ds s (event.Load x g) h is clock = same_rises ds h _ is (go (is_element n x) (is_full (s.current x).number (s.elements x).pending.rows))
    where
      go : (t u : Bool) → clock_at ((cond t (cond u (refused c n GenerationsFull s) (load_new c n x g s)) (refused c n NoSuchPeer s)).deeds ++ ds) ≡ clock_at ds
      go true true = refl
      go false u = refl
      go true false = refl
  happens_rises ds s (event.Open i holder) h is clock = kind_rises ds s h _ is (inl (open_calm c n i holder s))
  happens_rises ds s (event.Shut i) h is clock = kind_rises ds s h _ is (inl (shut_calm c n i s))
  happens_rises ds s (event.Feed i bytes) h is clock = kind_rises ds s h _ is (inl (feed_calm c n i bytes s))
  happens_rises ds s (event.Take i) h is clock = kind_rises ds s h _ is (take_kind c n i s)
  happens_rises ds s (event.Carry a b) h is clock = kind_rises ds s h _ is (carry_kind c n a b s)
  happens_rises ds s (event.Break a b) h is clock = kind_rises ds s h _ is (inl (break_calm c n a b s))
  happens_rises ds s (event.Tick t) h is clock =
      let same : clock_at (h.deeds ++ ds) ≡ events.later s.clock t.0 = ap (λ (g : Happened). clock_at (g.deeds ++ ds)) is in
      omega (arith, same, later_least s.clock t.0, clock)
  happens_rises ds s (event.Drain i holder) h is clock = kind_rises ds s h _ is (inl (drain_calm c n i holder s))
  happens_rises ds s (event.Solve x k) h (inl none) clock = same_rises ds h _ none.1 refl
  happens_rises ds s (event.Solve x k) h (inr (inl none)) clock = same_rises ds h _ none.2 refl
  happens_rises ds s (event.Solve x k) h (inr (inr (inl solves))) clock = same_rises ds h _ solves.1.is refl
  happens_rises ds s (event.Solve x k) h (inr (inr (inr solves))) clock = same_rises ds h _ solves.2.is refl

  steps_rises : (ds : Transcript) (s : Plant) (e : Event) (h : Happened) → Steps c n s e h → clock_at ds ≡ s.clock → clock_at ds ≤ clock_at (h.deeds ++ ds)
  steps_rises ds s e h (inl is) clock = happens_rises ds s e h is clock
  steps_rises ds s e h (inr none) clock = same_rises ds h _ none.1 refl

  -- the keys right after a solve
  after_solve : (ds : Transcript) (s : Plant) (k : ℕ) (h : Happened) (y : ElementSolves c n d k s h) → last_keys d (h.deeds ++ ds) ≡ (commit c (place n d) (k, y.held) y.down s.clock (λ b. b.segment) (job_found y.rows.source_known y.rows.target_known y.rows.best) (s.elements d)).element.keys.issued
  after_solve ds s k h y =
      let r = commit c (place n d) (k, y.held) y.down s.clock (λ b. b.segment) (job_found y.rows.source_known y.rows.target_known y.rows.best) (s.elements d) in
      ap (λ (g : Happened). last_keys d (g.deeds ++ ds)) y.is ∙ ap (λ (b : Bool). cond b r.element.keys.issued (last_keys d ds)) (eq-eqb d.0 d.0 refl)

  -- a live key stays among the keys of the last solve
  stays : (ds : Transcript) (s : Plant) (e : Event) (h : Happened) → Steps c n s e h → KeysAre c n ds s → (x : Issued Segment) → clock_at (h.deeds ++ ds) < x.at.0 + life n d → Stands x (last_keys d ds) → Stands x (last_keys d (h.deeds ++ ds))
  stays ds s e h (inr none) keys x live stands = subst (λ (g : Happened). Stands x (last_keys d (g.deeds ++ ds))) (sym none.1) stands
  stays ds s e h (inl is) keys x live stands = go (happens_leaves c n d upper ds s e h is)
    where
      go : Leaves c n d upper ds s h → Stands x (last_keys d (h.deeds ++ ds))
      go (inl same) = subst (λ (l : List (Issued Segment)). Stands x l) (sym same) stands
      go (inr new) =
          let y = new.1 in
          let up = happens_rises ds s e h is keys.clock in
          let at : s.clock < x.at.0 + life n d = omega (arith, live, up, keys.clock) in
          subst (λ (l : List (Issued Segment)). Stands x l) (sym (after_solve ds s new.0 h y))
          (commit_keeps c (place n d) (new.0, y.held) y.down s.clock (s.elements d) x y.rows.source_known y.rows.target_known y.rows.best (keys.all d upper x stands at)
          (live_if (s.elements d).keys.life s.clock x (subst (λ (z : ℕ). s.clock < x.at.0 + z) (sym (keys.life' d)) at)))

  lasts : (later : List Entry) (entry : Entry) (older : List Entry) (s : Plant) → Run c n (later ++ entry ∷ older) s → (before : Plant) (best : List Best) → TellsKeys c n d older before entry best →
      (number : ℕ) (b : Best) → Stands (number, b) (numbered (before.elements d).keys.next best) → clock_at (deeds_of c n (later ++ entry ∷ older)) < before.clock + life n d →
      Has before.clock (last_keys d (deeds_of c n (later ++ entry ∷ older))) number b
  lasts [] entry older s run before best tells number b stands live =
      let y = tells.solves in
      let h : Happened = record { answer = entry.answer; state = tells.after; deeds = entry.deeds } in
      let keys = run_keys c n older before tells.run in
      let r = commit c (place n d) (tells.number, y.held) y.down before.clock (λ b. b.segment) (job_found y.rows.source_known y.rows.target_known y.rows.best) (before.elements d) in
      let outputs = ap (λ (g : Happened). outputs_in g.deeds) (sym y.is) ∙ ap outputs_in tells.told in
      subst (λ (l : List (Issued Segment)). Has before.clock l number b) (sym (after_solve (deeds_of c n older) before tells.number h y))
      (commit_issues c (place n d) (tells.number, y.held) y.down before.clock (before.elements d) y.rows.source_known y.rows.target_known y.rows.best number b
      (omega (arith, keys.life' d, (lives d).0)) tells.closed
      (subst (λ (l : List Best). Stands (number, b) (numbered (before.elements d).keys.next l)) (sym tells.is_best) stands) (ap first_reply outputs))
  lasts (e ∷ later) entry older s run before best tells number b stands live =
      let es = later ++ entry ∷ older in
      let h : Happened = record { answer = e.answer; state = s; deeds = e.deeds } in
      let keys = run_keys c n es run.0 run.1 in
      let up = steps_rises (deeds_of c n es) run.0 e.event h run.3 keys.clock in
      let has = lasts later entry older run.0 run.1 before best tells number b stands (omega (arith, live, up)) in
      record {
        key = has.key;
        stands = stays (deeds_of c n es) run.0 e.event h run.3 keys has.key (subst (λ (z : ℕ). clock_at (e.deeds ++ deeds_of c n es) < z + life n d) (sym has.at') live) has.stands;
        number' = has.number';
        segment' = has.segment';
        at' = has.at';
      }

pub told_keys_last : ToldKeysLast
told_keys_last c n network later entry older s run d other before best tells number b has live =
    let x = lasts c n (lives_of n network) d (upper (same_as d parent_as) refl) later entry older s run before best tells number b (stands_of (numbered (before.elements d).keys.next best) (number, b) has) live in
    (x.key, contains_of (last_keys d (deeds_of c n (later ++ entry ∷ older))) x.key x.stands, x.number', x.segment')
  where
    upper : (b : Bool) → same_as d parent_as ≡ b → b ≡ false
    upper true e = absurd (other (ap (λ (z : ℕ). let y : As = record { 0 = z } in y) (eqb-true d.0 parent_as.0 e)))
    upper false e = refl
