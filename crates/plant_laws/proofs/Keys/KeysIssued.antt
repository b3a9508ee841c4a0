-- Each key of an element was issued by a solve that chose the segment that it stands for.
use Rattle.std.proofs.Common.{◌≡◌, ◌⊎◌, ℕ, Bool, true, false, cond, nat_lt, List, [], ◌∷◌, ◌++◌, length, sym, ◌∙◌, ap, subst, inl, inr, refl}
use Rattle.std.proofs.lemmas.Bool.{eq-eqb}
use Rattle.plant_model.specs.Types.{As, Addr, Issued, Best, Branch, NetworkParts, Metric, Path}
use Rattle.path_keys.specs.Keys.{Keys, is_live, live_at, issue_of, number_after}
use Rattle.plant_model.specs.declared.outcome.Refused.TheVariants.{GenerationsFull, NoSuchPeer}
use Rattle.plant_model.specs.declared.event.Event.{Event}
use Rattle.plant_model.specs.declared.event.Event.TheVariants as event
use Rattle.plant_model.specs.declared.output.Output.{Output}
use Rattle.plant_text.specs.Names.{same_as, parent_as}
use Rattle.plant_model.specs.Wire.{Codec}
use Rattle.plant_model.specs.Element.{Element, ElementSettings, Row, Taken, is_client}
use Rattle.plant_model.specs.Taking.{answered}
use Rattle.plant_model.specs.Solving.{commit, client_reply, closed_reply, issued_all, job_found}
use Rattle.plant_text.specs.Settings.{is_element}
use Rattle.plant_model.specs.Settings.{place}
use Rattle.plant_model.specs.State.{Solves}
use Rattle.plant_model.specs.Plant.{Pin, Segment, Plant, Happened, Entry, Run, Steps, Happens, opened, deeds_of, load_new, refused, is_full, ElementSolves}
use Rattle.plant_laws.specs.Transcript.{Transcript}
use Rattle.plant_laws.specs.Keys.{last_keys}
use Rattle.plant_laws.proofs.Runs.Decompose.{nil_right}
use Rattle.plant_laws.proofs.Runs.Queues.{same_as_is}
use Rattle.std.proofs.lemmas.Bool.{eqb-true}
use Rattle.std.specs.Prelude.{Contains}
use Rattle.pcep_messages.specs.declared.message.Answer.TheVariants.{Paths}
use Rattle.plant_model.specs.Branches.{closed_branch, path_of}
use Rattle.plant_model.specs.Writing.{reply_message}
use Rattle.plant_model.specs.Solving.{closed_paths, free}
use Rattle.plant_laws.specs.Issuing.{IsIssued, KeysAreIssued, ExpandedAreIssued}
use Rattle.plant_laws.proofs.Runs.Lists.{Stands, contains_of, stands_of}
use Rattle.plant_laws.proofs.Keys.KeyedRuns.{run_keys, taken_from, ticked_calm, opened_calm, before_plain, filtered_in}
use Rattle.plant_laws.proofs.Keys.Keyed.{plain_keys, plain_nil, Kind, going, open_calm, shut_calm, feed_calm, break_calm, drain_calm, take_kind, carry_kind}

not_both : {X : Type 0} (t : Bool) → t ≡ true → t ≡ false → X
not_both true e f = cc
not_both false e f = cc

pushed : {X : Type 0} (xs : List X) (y x : X) → Stands x (xs ++ y ∷ []) → Stands x xs ⊎ (x ≡ y)
pushed [] y x (inl is) = inr is
pushed [] y x (inr none) = absurd none
pushed (z ∷ zs) y x (inl is) = inl (inl is)
pushed (z ∷ zs) y x (inr there) = elim (pushed zs y x there) [ inl at ↦ inl (inr at) | inr is ↦ inr is ]

module _ (c : Codec) (pce : Addr) (m : Metric) (target : Addr) (down : List Branch) (now : ℕ) where
  abbrev pub path_with : ℕ → Best → Path
  path_with number b = path_of c m b.cost (closed_branch number pce target b down)

  -- a key that was issued for one of these
  pub record IsNew (bs : List Best) (paths : List Path) (x : Issued Segment) : Type 0 where
    pub best : Best
    pub is_best : Stands best bs
    pub stands : x.segment ≡ best.segment
    pub at : x.at.0 ≡ now
    pub is_path : Stands (path_with x.number best) paths

  all_from : (bs : List Best) (keys : Keys Segment) (x : Issued Segment) → Stands x (issued_all now (λ b. b.segment) bs keys).issued →
      Stands x keys.issued ⊎ IsNew bs (closed_paths c pce m target down keys.next bs) x
  all_from [] keys x stands = inl stands
  all_from (b ∷ bs) keys x stands = go (all_from bs (issue_of keys now b.segment) x stands)
    where
      new : Issued Segment
      new = record { number = keys.next; at = record { 0 = now }; segment = b.segment }

      go : Stands x (live_at keys now ++ new ∷ []) ⊎ IsNew bs (closed_paths c pce m target down (number_after keys.next) bs) x →
          Stands x keys.issued ⊎ IsNew (b ∷ bs) (closed_paths c pce m target down keys.next (b ∷ bs)) x
      go (inr later) = inr (record { best = later.best; is_best = inr later.is_best; stands = later.stands; at = later.at; is_path = inr later.is_path })
      go (inl here) =
          elim (pushed (live_at keys now) new x here) [
            | inl old ↦ inl (filtered_in (is_live keys.life now) keys.issued x old)
            | inr is ↦ inr (record {
              best = b;
              is_best = inl refl;
              stands = ap (λ (z : Issued Segment). z.segment) is;
              at = ap (λ (z : Issued Segment). z.at.0) is;
              is_path = inl (ap (λ (z : Issued Segment). path_with z.number b) is);
            })
          ]

-- what a commit issues
record IsTold (c : Codec) (e : ElementSettings) (h : Row Pin) (down : List Branch) (now : ℕ) (best : List Best) (t : Taken Pin Segment) (x : Issued Segment) : Type 0 where
  pub closed : is_client h.1.item.class ≡ false
  pub paths : List Path
  pub outputs : t.outputs ≡ record { to = h.1.key.peer; message = reply_message h.1.item.flags h.1.key.id (Paths paths) } ∷ []
  pub new : IsNew c e.id h.1.item.wanted.query.metric h.1.item.wanted.target down now best paths x

module _ (c : Codec) (e : ElementSettings) (h : Row Pin) (down : List Branch) (now : ℕ) (k : Element Pin Segment) (x : Issued Segment) where
  abbrev Comes : List Best → Taken Pin Segment → Type 0
  Comes best t = Stands x t.element.keys.issued → Stands x k.keys.issued ⊎ IsTold c e h down now best t x

  comes_pick : (best : List Best) (b : Bool) (t u : Taken Pin Segment) → Comes best t → Comes best u → Comes best (cond b t u)
  comes_pick best true t u f g = f
  comes_pick best false t u f g = g

  closed_comes : is_client h.1.item.class ≡ false → (best : List Best) → Comes best (closed_reply c e h down now (λ b. b.segment) k best)
  closed_comes closed [] = λ stands. inl stands
  closed_comes closed (b ∷ bs) =
      comes_pick (b ∷ bs) (nat_lt (free now k.keys) (length (b ∷ bs))) _ _ (λ stands. inl stands)
      (λ stands. elim (all_from c e.id h.1.item.wanted.query.metric h.1.item.wanted.target down now (b ∷ bs) k.keys x stands) [
        | inl old ↦ inl old
        | inr new ↦ inr (record { closed = closed; paths = closed_paths c e.id h.1.item.wanted.query.metric h.1.item.wanted.target down k.keys.next (b ∷ bs); outputs = refl; new = new })
      ])

  commit_comes : (sk tk : Bool) (best : List Best) → Comes best (commit c e h down now (λ b. b.segment) (job_found sk tk best) k)
  commit_comes sk tk best = go (is_client h.1.item.class) refl
    where
      go : (b : Bool) → is_client h.1.item.class ≡ b → Comes best (cond b (answered h (client_reply c h down sk tk best) k) (closed_reply c e h down now (λ b. b.segment) k best))
      go true is = λ stands. inl stands
      go false is = closed_comes is best

module _ (c : Codec) (n : NetworkParts) (d : As) (upper : same_as d parent_as ≡ false) where
  -- an event leaves the keys of the last solve, or solves anew
  abbrev pub Leaves : Transcript → Plant → Happened → Type 0
  Leaves ds s h = (last_keys d (h.deeds ++ ds) ≡ last_keys d ds) ⊎ ((k : ℕ) × ElementSolves c n d k s h)

  by_kind : (ds : Transcript) (s : Plant) (h k : Happened) → h ≡ k → Kind c n s (going c n k) → Leaves ds s h
  by_kind ds s h k is (inl calm) = inl (ap (λ (g : Happened). last_keys d (g.deeds ++ ds)) is ∙ plain_keys d k.deeds ds (plain_nil k.deeds calm.more calm.is calm.plain))
  by_kind ds s h k is (inr gives) =
      inl (ap (λ (g : Happened). last_keys d (g.deeds ++ ds)) is ∙ ap (λ (l : Transcript). last_keys d (l ++ ds)) gives.deeds ∙ plain_keys d gives.before ds (before_plain c n gives.before gives.first))

  pub happens_leaves : (ds : Transcript) (s : Plant) (e : Event) (h : Happened) → Happens c n s e h → Leaves ds s h
  happens_leaves ds s (event.Load x g) h is = inl (ap (λ (z : Happened). last_keys d (z.deeds ++ ds)) is ∙ go (is_element n x) (is_full (s.current x).number (s.elements x).pending.rows))
    where
      go : (t u : Bool) → last_keys d ((cond t (cond u (refused c n GenerationsFull s) (load_new c n x g s)) (refused c n NoSuchPeer s)).deeds ++ ds) ≡ last_keys d ds
      go true true = refl
      go false u = refl
      go true false = refl
  happens_leaves ds s (event.Open i holder) h is = by_kind ds s h _ is (inl (open_calm c n i holder s))
  happens_leaves ds s (event.Shut i) h is = by_kind ds s h _ is (inl (shut_calm c n i s))
  happens_leaves ds s (event.Feed i bytes) h is = by_kind ds s h _ is (inl (feed_calm c n i bytes s))
  happens_leaves ds s (event.Take i) h is = by_kind ds s h _ is (take_kind c n i s)
  happens_leaves ds s (event.Carry a b) h is = by_kind ds s h _ is (carry_kind c n a b s)
  happens_leaves ds s (event.Break a b) h is = by_kind ds s h _ is (inl (break_calm c n a b s))
  happens_leaves ds s (event.Tick t) h is =
      let calm = ticked_calm c n t.0 s in
      inl (ap (λ (z : Happened). last_keys d (z.deeds ++ ds)) is ∙ plain_keys d _ ds (plain_nil _ calm.more calm.is calm.plain))
  happens_leaves ds s (event.Drain i holder) h is = by_kind ds s h _ is (inl (drain_calm c n i holder s))
  happens_leaves ds s (event.Solve x k) h (inl none) = inl (ap (λ (z : Happened). last_keys d (z.deeds ++ ds)) none.1)
  happens_leaves ds s (event.Solve x k) h (inr (inl none)) = inl (ap (λ (z : Happened). last_keys d (z.deeds ++ ds)) none.2)
  happens_leaves ds s (event.Solve x k) h (inr (inr (inl solves))) = go (same_as x d) refl
    where
      go : (b : Bool) → same_as x d ≡ b → Leaves ds s h
      go true e = inr (k, subst (λ (z : As). ElementSolves c n z k s h) (same_as_is x d e) solves.1)
      go false e =
          let y = solves.1 in
          let r = commit c (place n x) (k, y.held) y.down s.clock (λ b. b.segment) (job_found y.rows.source_known y.rows.target_known y.rows.best) (s.elements x) in
          inl (ap (λ (z : Happened). last_keys d (z.deeds ++ ds)) y.is ∙ ap (λ (b : Bool). cond b r.element.keys.issued (last_keys d ds)) e)
  happens_leaves ds s (event.Solve x k) h (inr (inr (inr solves))) = inl (ap (λ (z : Happened). last_keys d (z.deeds ++ ds)) solves.2.is ∙ go (same_as parent_as d) refl)
    where
      go : (b : Bool) → same_as parent_as d ≡ b → cond b [] (last_keys d ds) ≡ last_keys d ds
      go true e = not_both (same_as d parent_as) (eq-eqb d.0 parent_as.0 (ap (λ (z : As). z.0) (sym (same_as_is parent_as d e)))) upper
      go false e = refl

  -- one entry more
  longer : (e : Entry) (es : List Entry) (x : Issued Segment) → IsIssued c n es d x → IsIssued c n (e ∷ es) d x
  longer e es x i = record {
    later = e ∷ i.later;
    entry = i.entry;
    older = i.older;
    is_earlier = ap (λ (l : List Entry). e ∷ l) i.is_earlier;
    before = i.before;
    run = i.run;
    after = i.after;
    number = i.number;
    solves = i.solves;
    closed = i.closed;
    best = i.best;
    is_best = i.is_best;
    stands = i.stands;
    at = i.at;
    keys = i.keys;
    paths = i.paths;
    told = i.told;
    is_path = i.is_path;
  }

  issued : (es : List Entry) (s : Plant) → Run c n es s → (x : Issued Segment) → Stands x (last_keys d (deeds_of c n es)) → IsIssued c n es d x
  issued [] s is x stands =
      let calm = opened_calm c n in
      absurd (subst (λ (l : List (Issued Segment)). Stands x l)
      (ap (λ (l : Transcript). last_keys d l) (sym (nil_right (opened c n).deeds)) ∙ plain_keys d (opened c n).deeds [] (plain_nil (opened c n).deeds calm.more calm.is calm.plain)) stands)
  issued (e ∷ es) s run x stands = steps run.3 (issued es run.0 run.1 x)
    where
      solved : (k : ℕ) (y : ElementSolves c n d k run.0 (record { answer = e.answer; state = s; deeds = e.deeds })) → (Stands x (last_keys d (deeds_of c n es)) → IsIssued c n es d x) → IsIssued c n (e ∷ es) d x
      solved k y rec =
          let p = run.0 in
          let r = commit c (place n d) (k, y.held) y.down p.clock (λ b. b.segment) (job_found y.rows.source_known y.rows.target_known y.rows.best) (p.elements d) in
          let deeds' : e.deeds ≡ Solves d k r.outputs r.element.keys.issued ∷ [] = ap (λ (z : Happened). z.deeds) y.is in
          let self : same_as d d ≡ true = eq-eqb d.0 d.0 refl in
          let here : Stands x r.element.keys.issued =
          subst (λ (b : Bool). Stands x (cond b r.element.keys.issued (last_keys d (deeds_of c n es)))) self
          (subst (λ (l : Transcript). Stands x (last_keys d (l ++ deeds_of c n es))) deeds' stands) in
          elim (commit_comes c (place n d) (k, y.held) y.down p.clock (p.elements d) x y.rows.source_known y.rows.target_known y.rows.best here) [
            | inl old ↦ longer e es x (rec ((run_keys c n es p run.1).kept d upper x old))
            | inr told ↦ record {
              later = [];
              entry = e;
              older = es;
              is_earlier = refl;
              before = p;
              run = run.1;
              after = s;
              number = k;
              solves = y;
              closed = told.closed;
              best = told.new.best;
              is_best = contains_of y.rows.best told.new.best told.new.is_best;
              stands = told.new.stands;
              at = told.new.at;
              keys = r.element.keys.issued;
              paths = told.paths;
              told = deeds' ∙ ap (λ (os : List Output). Solves d k os r.element.keys.issued ∷ []) told.outputs;
              is_path = contains_of told.paths _ told.new.is_path;
            }
          ]

      steps : Steps c n run.0 e.event (record { answer = e.answer; state = s; deeds = e.deeds }) → (Stands x (last_keys d (deeds_of c n es)) → IsIssued c n es d x) → IsIssued c n (e ∷ es) d x
      steps (inr none) rec = longer e es x (rec (subst (λ (l : Transcript). Stands x (last_keys d (l ++ deeds_of c n es))) (ap (λ (z : Happened). z.deeds) none.1) stands))
      steps (inl is) rec =
          elim (happens_leaves (deeds_of c n es) run.0 e.event (record { answer = e.answer; state = s; deeds = e.deeds }) is) [
            | inl same ↦ longer e es x (rec (subst (λ (l : List (Issued Segment)). Stands x l) same stands))
            | inr new ↦ solved new.0 new.1 rec
          ]

pub keys_are_issued : KeysAreIssued
keys_are_issued c n es s run d other x has = issued c n d (upper (same_as d parent_as) refl) es s run x (stands_of (last_keys d (deeds_of c n es)) x has)
  where
    upper : (b : Bool) → same_as d parent_as ≡ b → b ≡ false
    upper true e = absurd (other (ap (λ (z : ℕ). let y : As = record { 0 = z } in y) (eqb-true d.0 parent_as.0 e)))
    upper false e = refl

pub expanded_are_issued : ExpandedAreIssued
expanded_are_issued c n es s run d other p m os older within x has =
    let from = taken_from c n es s run d p m os older (upper (same_as d parent_as) refl) within in
    let same : last_keys d older ≡ last_keys d (deeds_of c n from.entries) = elim from.before [ inl is ↦ ap (λ (l : Transcript). last_keys d l) is | inr is ↦ ap (λ (l : Transcript). last_keys d l) is.2 ] in
    (from.entries, keys_are_issued c n from.entries from.state from.run d other x (subst (λ (l : List (Issued Segment)). Contains l x) same has), from.before)
  where
    upper : (b : Bool) → same_as d parent_as ≡ b → b ≡ false
    upper true e = absurd (other (ap (λ (z : ℕ). let y : As = record { 0 = z } in y) (eqb-true d.0 parent_as.0 e)))
    upper false e = refl
