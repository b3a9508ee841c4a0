-- The inner queues hold the texts of what stands in them.
use Rattle.std.proofs.Common.{◌≡◌, ℕ, Bool, true, false, cond, List, [], ◌∷◌, ◌++◌, sym, ◌∙◌, ap, subst, refl}
use Rattle.std.proofs.lemmas.Bool.{eqb-true, eq-eqb}
use Rattle.plant_model.specs.Types.{As, Addr, Peer, Outside, Inner, Message, NetworkParts}
use Rattle.plant_model.specs.declared.output.Output.{Output}
use Rattle.request_table.specs.Pending.{same_peer}
use Rattle.disclosure.specs.Shown.{open_of}
use Rattle.plant_text.specs.Names.{same_as, parent_as}
use Rattle.plant_model.specs.Wire.{Bytes, Codec}
use Rattle.plant_text.specs.Settings.{Adjacency, class_of}
use Rattle.plant_model.specs.Settings.{place, family}
use Rattle.plant_model.specs.State.{State, Deed, Loads, Pops, Takes, Says, Ups, Downs, Clears, Solves, Expires, Hands}
use Rattle.plant_model.specs.Element.{upped, downed}
use Rattle.plant_model.specs.Taking.{take}
use Rattle.plant_model.specs.Solving.{commit, job_found}
use Rattle.plant_model.specs.Parent as parent
use Rattle.plant_model.specs.Deeds.{Going, element_of, own_message, with_parent, with_element, put, put_to, puts, give, rise, fall, clear, expire}
use Rattle.plant_model.specs.Plant.{Pin, Segment, Plant, Happened, Entry, Run, deeds_of, ElementSolves, ParentSolves}
use Rattle.plant_laws.specs.Transcript.{Transcript, Standing, standing, standing_of, put_into, left_of, tail_of, outputs_at}
use Rattle.plant_laws.proofs.Runs.Acts.{popped, Acts, rests, hears, carries, nods, hands, rises, falls, says, clears, expires}
use Rattle.plant_laws.specs.Standing.{messages, texts, QueuesStand}
use Rattle.plant_laws.proofs.Runs.Decompose.{nil_right, append_assoc}
use Rattle.plant_laws.proofs.Runs.Induction.{run_holds}

pub same_as_is : (a b : As) → same_as a b ≡ true → a ≡ b
same_as_is a b e = ap (λ (n : ℕ). let x : As = record { 0 = n } in x) (eqb-true a.0 b.0 e)

messages_append : (xs ys : List Standing) → messages (xs ++ ys) ≡ messages xs ++ messages ys
messages_append [] ys = refl
messages_append (x ∷ xs) ys = ap (λ l. x.message ∷ l) (messages_append xs ys)

texts_append : (c : Codec) (xs ys : List Message) → texts c (xs ++ ys) ≡ texts c xs ++ texts c ys
texts_append c [] ys = refl
texts_append c (x ∷ xs) ys = ap (λ l. c.text x ∷ l) (texts_append c xs ys)

pub messages_of : (m : Transcript) (ms : List Message) → messages (standing_of m ms) ≡ ms
messages_of m [] = refl
messages_of m (x ∷ xs) = ap (λ l. x ∷ l) (messages_of m xs)

module _ (c : Codec) (n : NetworkParts) where
  abbrev pub Core : Type 0
  Core = State Pin Segment

  put_to_queue : (at : As) (m : Message) (s : Core) (to : Peer) (a b : As) (rest : List Message) →
      (put_to Pin Segment c n open_of at (c.text m) s to).queues a b ++ texts c (cond (same_as at a) rest [])
      ≡ s.queues a b ++ texts c (cond (same_as at a) (cond (same_peer to (Inner b)) (m ∷ rest) rest) [])
  put_to_queue at m s (Outside i) a b rest = refl
  put_to_queue at m s (Inner b0) a b rest = go (same_as at a) (same_as b0 b) refl refl
    where
      go : (x y : Bool) → same_as at a ≡ x → same_as b0 b ≡ y →
          cond x (cond y (s.queues at b0 ++ c.text m ∷ []) (s.queues a b)) (s.queues a b) ++ texts c (cond x rest []) ≡ s.queues a b ++ texts c (cond x (cond y (m ∷ rest) rest) [])
      go true true e f =
          append_assoc (s.queues at b0) (c.text m ∷ []) (texts c rest)
          ∙ ap (λ (q : List Bytes). q ++ c.text m ∷ texts c rest) (ap (λ (z : As). s.queues z b0) (same_as_is at a e) ∙ ap (λ (z : As). s.queues a z) (same_as_is b0 b f))
      go true false e f = refl
      go false true e f = refl
      go false false e f = refl

  no_texts : (x : Bool) (q : List Bytes) → q ≡ q ++ texts c (cond x [] [])
  no_texts true q = sym (nil_right q)
  no_texts false q = sym (nil_right q)

  pub puts_queue : (at : As) (os : List Output) (s : Core) (a b : As) →
      (puts Pin Segment c n open_of at os s).queues a b ≡ s.queues a b ++ texts c (cond (same_as at a) (put_into b os) [])
  puts_queue at [] s a b = no_texts (same_as at a) (s.queues a b)
  puts_queue at (o ∷ os) s a b =
      puts_queue at os (put Pin Segment c n open_of at o s) a b ∙ put_to_queue at o.message s o.to a b (put_into b os)

  put_cond : (x : Bool) (b : As) (os : List Output) → put_into b (cond x os []) ≡ cond x (put_into b os) []
  put_cond true b os = refl
  put_cond false b os = refl

  abbrev pub Stand : Transcript → Core → Type 0
  Stand ds s = (a b : As) → s.queues a b ≡ texts c (messages (standing a b ds))

  -- what is put into queues stands there
  pub sent_stands : (at : As) (os : List Output) (s t : Core) (ds : Transcript) (d : Deed (List Addr)) → t.queues ≡ s.queues →
      ((a : As) → outputs_at a d ≡ cond (same_as at a) os []) → ((a b : As) (xs : List Standing) → left_of d a b xs ≡ xs) → Stand ds s → Stand (d ∷ ds) (puts Pin Segment c n open_of at os t)
  sent_stands at os s t ds d same outs left stand a b =
      puts_queue at os t a b
      ∙ ap (λ (q : List Bytes). q ++ texts c (cond (same_as at a) (put_into b os) [])) (ap (λ (f : As → As → List Bytes). f a b) same ∙ stand a b)
      ∙ sym (
      ap (λ (xs : List Standing). texts c (messages (xs ++ standing_of (d ∷ ds) (put_into b (outputs_at a d))))) (left a b (standing a b ds))
      ∙ ap (λ (ms : List Message). texts c ms) (messages_append (standing a b ds) (standing_of (d ∷ ds) (put_into b (outputs_at a d))))
      ∙ texts_append c (messages (standing a b ds)) (messages (standing_of (d ∷ ds) (put_into b (outputs_at a d))))
      ∙ ap (λ (ms : List Message). texts c (messages (standing a b ds)) ++ texts c ms)
      (messages_of (d ∷ ds) (put_into b (outputs_at a d)) ∙ ap (λ (l : List Output). put_into b l) (outs a) ∙ put_cond (same_as at a) b os)
      )

  -- a deed that puts nothing, and leaves or takes from queues
  pub left_stands : (s t : Core) (ds : Transcript) (d : Deed (List Addr)) → ((a : As) → outputs_at a d ≡ []) →
      ((a b : As) → t.queues a b ≡ texts c (messages (left_of d a b (standing a b ds)))) → Stand (d ∷ ds) t
  left_stands s t ds d outs left a b =
      left a b ∙ ap (λ (xs : List Standing). texts c (messages xs)) (sym (
      ap (λ (l : List Output). left_of d a b (standing a b ds) ++ standing_of (d ∷ ds) (put_into b l)) (outs a)
      ∙ nil_right (left_of d a b (standing a b ds))))

  stand_pick : (ds : Transcript) (b : Bool) (g h : Going Pin Segment) → Stand (g.deeds ++ ds) g.state → Stand (h.deeds ++ ds) h.state → Stand ((cond b g h).deeds ++ ds) (cond b g h).state
  stand_pick ds true g h x y = x
  stand_pick ds false g h x y = y

  same_stands : (s t : Core) (ds : Transcript) → t.queues ≡ s.queues → Stand ds s → Stand ds t
  same_stands s t ds same stand a b = ap (λ (f : As → As → List Bytes). f a b) same ∙ stand a b

  -- what is given after these deeds
  give_stands : (at : As) (p : Peer) (m : Message) (s : Core) (es ds : Transcript) → Stand (es ++ ds) s →
      (let g = give Pin Segment c n open_of at p m (record { state = s; deeds = es }) in Stand (g.deeds ++ ds) g.state)
  give_stands at p m s es ds stand =
      let r = parent.take c (family n) p m s.parent in
      let t = take c open_of (place n at) (s.current at) p (class_of n p) s.clock m (s.elements at) in
      let u = with_parent Pin Segment c n open_of r.parent s in
      let v = with_element Pin Segment c n open_of at t.element s in
      stand_pick ds (same_as at parent_as)
      (record { state = puts Pin Segment c n open_of at r.outputs u; deeds = Takes at p m r.outputs ∷ es })
      (record { state = puts Pin Segment c n open_of at t.outputs v; deeds = Takes at p m t.outputs ∷ es })
      (sent_stands at r.outputs s u (es ++ ds) (Takes at p m r.outputs) refl (λ a. refl) (λ a b xs. refl) stand)
      (sent_stands at t.outputs s v (es ++ ds) (Takes at p m t.outputs) refl (λ a. refl) (λ a b xs. refl) stand)

  fall_stands : (at : As) (p : Peer) (s : Core) (ds : Transcript) → Stand ds s →
      (let g = fall Pin Segment c n open_of at p (record { state = s; deeds = [] }) in Stand (g.deeds ++ ds) g.state)
  fall_stands at p s ds stand =
      let r = parent.downed p s.parent in
      let t = downed p (s.elements at) in
      let u = with_parent Pin Segment c n open_of r.parent s in
      let v = with_element Pin Segment c n open_of at t.element s in
      stand_pick ds (same_as at parent_as)
      (record { state = puts Pin Segment c n open_of at r.outputs u; deeds = Downs at p r.outputs ∷ [] })
      (record { state = puts Pin Segment c n open_of at t.outputs v; deeds = Downs at p t.outputs ∷ [] })
      (sent_stands at r.outputs s u ds (Downs at p r.outputs) refl (λ a. refl) (λ a b xs. refl) stand)
      (sent_stands at t.outputs s v ds (Downs at p t.outputs) refl (λ a. refl) (λ a b xs. refl) stand)

  rise_stands : (at : As) (p : Peer) (s : Core) (ds : Transcript) → Stand ds s →
      (let g = rise Pin Segment c n open_of at p (record { state = s; deeds = [] }) in Stand (g.deeds ++ ds) g.state)
  rise_stands at p s ds stand =
      let u = with_parent Pin Segment c n open_of (parent.upped p s.parent) s in
      let v = with_element Pin Segment c n open_of at (upped p (s.elements at)) s in
      stand_pick ds (same_as at parent_as)
      (record { state = u; deeds = Ups at p ∷ [] })
      (record { state = v; deeds = Ups at p ∷ [] })
      (left_stands s u ds (Ups at p) (λ a. refl) (λ a b. stand a b))
      (left_stands s v ds (Ups at p) (λ a. refl) (λ a b. stand a b))

  tail_texts : (x : Bytes) (rest : List Bytes) (xs : List Standing) → texts c (messages xs) ≡ x ∷ rest → rest ≡ texts c (messages (tail_of xs))
  tail_texts x rest [] e = cc
  tail_texts x rest (y ∷ ys) e = cc

  -- the first message of a queue is taken
  pop_stands : (a b : As) (x : Bytes) (rest : List Bytes) (s : Core) (ds : Transcript) → s.queues a b ≡ x ∷ rest → Stand ds s → Stand (Pops a b ∷ ds) (popped Pin Segment c n open_of a b rest s)
  pop_stands a b x rest s ds is stand = left_stands s (popped Pin Segment c n open_of a b rest s) ds (Pops a b) (λ d. refl) (λ a' b'. go a' b' (same_as a a') (same_as b b') refl refl)
    where
      go : (a' b' : As) (t u : Bool) → same_as a a' ≡ t → same_as b b' ≡ u →
          cond t (cond u rest (s.queues a' b')) (s.queues a' b') ≡ texts c (messages (cond t (cond u (tail_of (standing a' b' ds)) (standing a' b' ds)) (standing a' b' ds)))
      go a' b' true true e f =
          tail_texts x rest (standing a' b' ds) (sym (stand a' b') ∙ ap (λ (z : As). s.queues z b') (sym (same_as_is a a' e)) ∙ ap (λ (z : As). s.queues a z) (sym (same_as_is b b' f)) ∙ is)
      go a' b' true false e f = stand a' b'
      go a' b' false u e f = stand a' b'

  cleared : (x : Adjacency) (s : Core) (ds : Transcript) → Stand ds s → (a b : As) (l u l' u' : Bool) → same_as x.lower a ≡ l → same_as x.upper b ≡ u → same_as x.lower b ≡ l' → same_as x.upper a ≡ u' →
      cond l (cond u [] (cond u' (cond l' [] (s.queues a b)) (s.queues a b))) (cond u' (cond l' [] (s.queues a b)) (s.queues a b))
      ≡ texts c (messages (cond (cond l u (cond l' u' false)) [] (standing a b ds)))
  cleared x s ds stand a b true true l' u' e f g h = refl
  cleared x s ds stand a b true false true true e f g h =
      let p : x.lower.0 ≡ a.0 = eqb-true x.lower.0 a.0 e in
      let q : x.lower.0 ≡ b.0 = eqb-true x.lower.0 b.0 g in
      let r : x.upper.0 ≡ a.0 = eqb-true x.upper.0 a.0 h in
      let is : same_as x.upper b ≡ true = eq-eqb x.upper.0 b.0 (r ∙ sym p ∙ q) in
      let no : true ≡ false = sym is ∙ f in cc
  cleared x s ds stand a b true false false true e f g h = stand a b
  cleared x s ds stand a b true false l' false e f g h = stand a b
  cleared x s ds stand a b false u true true e f g h = refl
  cleared x s ds stand a b false u false true e f g h = stand a b
  cleared x s ds stand a b false u true false e f g h = stand a b
  cleared x s ds stand a b false u false false e f g h = stand a b

  pub act_stands : (ds : Transcript) (s t : Core) (es : Transcript) → Stand ds s → Acts Pin Segment c n open_of s es t → Stand (es ++ ds) t
  act_stands ds s t es stand (rests s' t' same) = same_stands s t ds same.queues stand
  act_stands ds s t es stand (hears i bytes m s' read) = give_stands (element_of n i) (Outside i) m s [] ds stand
  act_stands ds s t es stand (carries a b bytes rest m s' u is read same) =
      give_stands b (Inner a) m u (Pops a b ∷ []) ds (same_stands (popped Pin Segment c n open_of a b rest s) u (Pops a b ∷ ds) same.queues (pop_stands a b bytes rest s ds is stand))
  act_stands ds s t es stand (nods a b bytes rest s' is) = pop_stands a b bytes rest s ds is stand
  act_stands ds s t es stand (hands i bytes s' t' same) = left_stands s t ds (Hands i bytes) (λ a. refl) (λ a b. ap (λ (f : As → As → List Bytes). f a b) same.queues ∙ stand a b)
  act_stands ds s t es stand (rises at p s') = rise_stands at p s ds stand
  act_stands ds s t es stand (falls at p s') = fall_stands at p s ds stand
  act_stands ds s t es stand (says at p o s') =
      let out : Output = record { to = p; message = own_message o } in
      sent_stands at (out ∷ []) s s ds (Says at out) refl (λ a. refl) (λ a b xs. refl) stand
  act_stands ds s t es stand (clears x s') =
      left_stands s (clear Pin Segment c n open_of x (record { state = s; deeds = [] })).state ds (Clears x.lower x.upper) (λ a. refl)
      (λ a b. cleared x s ds stand a b (same_as x.lower a) (same_as x.upper b) (same_as x.lower b) (same_as x.upper a) refl refl refl refl)
  act_stands ds s t es stand (expires now s') =
      left_stands s (expire Pin Segment c n open_of now (record { state = s; deeds = [] })).state ds (Expires now) (λ a. refl) (λ a b. stand a b)

  abbrev StandIn : Transcript → Plant → Type 0
  StandIn ds s = Stand ds s

  pub solve_stands : (ds : Transcript) (s : Plant) (d : As) (k : ℕ) (h : Happened) → StandIn ds s → ElementSolves c n d k s h → StandIn (h.deeds ++ ds) h.state
  solve_stands ds s d k h stand x =
      let r = commit c (place n d) (k, x.held) x.down s.clock (λ b. b.segment) (job_found x.rows.source_known x.rows.target_known x.rows.best) (s.elements d) in
      subst (λ (h' : Happened). StandIn (h'.deeds ++ ds) h'.state) (sym x.is)
      (sent_stands d r.outputs s (with_element Pin Segment c n open_of d r.element s) ds (Solves d k r.outputs r.element.keys.issued) refl (λ a. refl) (λ a b xs. refl) stand)

  pub upper_stands : (ds : Transcript) (s : Plant) (k : ℕ) (h : Happened) → StandIn ds s → ParentSolves c n k s h → StandIn (h.deeds ++ ds) h.state
  upper_stands ds s k h stand x =
      let r = parent.commit c (k, x.held) x.answer s.parent in
      subst (λ (h' : Happened). StandIn (h'.deeds ++ ds) h'.state) (sym x.is)
      (sent_stands parent_as r.outputs s (with_parent Pin Segment c n open_of r.parent s) ds (Solves parent_as k r.outputs []) refl (λ a. refl) (λ a b xs. refl) stand)

  pub run_stands : (es : List Entry) (s : Plant) → Run c n es s → StandIn (deeds_of c n es) s
  run_stands = run_holds c n StandIn (λ a b. refl) (λ ds s t es held act. act_stands ds s t es held act)
      (λ ds s d g given held. left_stands s s ds (Loads d g) (λ a. refl) (λ a b. held a b)) solve_stands upper_stands

pub queues_stand : QueuesStand
queues_stand c n es s run a b = run_stands c n es s run a b
