-- What waits stays under way in each step, where requests in queues are new to their receivers and no two waits are for one answer.
use Rattle.std.proofs.Common.{◌≡◌, ◌≤◌, nat_lt, ◌==◌, ◌&&◌, ℕ, Bool, true, false, cond, List, [], ◌∷◌, ◌++◌, Option, Some, None, sym, ◌∙◌, ap, subst, inl, inr, refl}
use Rattle.std.proofs.lemmas.Bool.{eq-eqb}
use Rattle.plant_model.specs.Types.{As, Peer, Outside, Inner, Message, NetworkParts}
use Rattle.te_links.specs.Rows.{Rows}
use Rattle.disclosure.specs.Shown.{open_of}
use Rattle.pcep_messages.specs.Spelling.{IsWritten}
use Rattle.request_table.specs.Pending.{Pending, ArePending, number_of}
use Rattle.plant_model.specs.declared.output.Output.{Output}
use Rattle.plant_text.specs.Names.{same_as, same_link, parent_as}
use Rattle.plant_model.specs.Names.{set_as}
use Rattle.plant_model.specs.Wire.{Bytes, Codec}
use Rattle.plant_model.specs.Laws.{IsCodec}
use Rattle.plant_text.specs.Settings.{Adjacency, adjacency}
use Rattle.plant_model.specs.Settings.{place}
use Rattle.plant_model.specs.Element.{Item, Waits, Row, Element, upped, downed, ticked}
use Rattle.plant_model.specs.Solving.{commit, job_found}
use Rattle.plant_model.specs.Parent as parent
use Rattle.plant_model.specs.State.{Deed, Loads, Pops, Says, Ups, Downs, Solves, Expires, Hands}
use Rattle.plant_model.specs.Deeds.{Going, element_of, own_message, with_parent, with_element, puts, give, rise, fall}
use Rattle.plant_model.specs.Plant.{Pin, Segment, Plant, Happened, load_new, ElementSolves, ParentSolves}
use Rattle.plant_laws.specs.Transcript.{Transcript, Standing, standing, put_into}
use Rattle.plant_laws.specs.Sending.{AllSent}
use Rattle.plant_laws.specs.Standing.{messages as messages_in, texts}
use Rattle.plant_laws.proofs.Runs.Decompose.{nil_right}
use Rattle.plant_laws.proofs.Runs.Queues.{same_as_is, Stand}
use Rattle.plant_laws.proofs.Runs.Rows as table
use Rattle.plant_laws.proofs.Once.OpenedRuns.{lookup_in}
use Rattle.plant_laws.proofs.WrittenForm.ReadBack.{standing_sent}
use Rattle.plant_laws.proofs.Once.Opened.{set_pending, puts_elements, puts_parent}
use Rattle.plant_laws.proofs.Once.Handing.{In}
use Rattle.plant_laws.proofs.Runs.Sessions.{IsKept}
use Rattle.plant_laws.proofs.Runs.Trips.{Step, rests, hears, carries, keeps, hands, rises, shuts, says, expires, breaks, drops, with_rest}
use Rattle.plant_laws.proofs.Once.Leaving as lower
use Rattle.plant_laws.proofs.Once.Leaving.{In-front, Answers, by_reply, by_notice, by_error, by_refusal}
use Rattle.plant_laws.proofs.Once.LeavingUpper as upper
use Rattle.plant_laws.proofs.Numbering.TakenUpper as taken_up
use Rattle.plant_laws.proofs.Numbering.TakenUpper.{count_waits}
use Rattle.plant_laws.proofs.Settled.UnderWay.{Queues, Alive, coming, held, back, AllAlive, queues_at, queue_now, popped_now}
use Rattle.plant_laws.proofs.Runs.NodeMoves.{Elements, named_of, waits_of, ElementWaits, ParentWaits, no_message, no_answer}
use Rattle.plant_laws.proofs.Once.Asks.{Asks, asks_nothing, kept_asks, element_seen, parent_seen, element_over, parent_over}
use Rattle.plant_laws.proofs.Settled.Alive.{Core, IsAlive, alive_state, AreSound, CancelsNone, after_pick, give_alive, element_moved, parent_moved}
use Rattle.plant_laws.proofs.Settled.Breaking.{broken_alive}

as_self : (d : As) → same_as d d ≡ true
as_self d = eq-eqb d.0 d.0 refl

in_flipped : {A : Type 0} (x : A) (xs : List A) → table.In x xs → In x xs
in_flipped x [] h = absurd h
in_flipped x (y ∷ ys) (inl e) = inl (sym e)
in_flipped x (y ∷ ys) (inr h) = inr (in_flipped x ys h)

in_back : {A : Type 0} (x : A) (xs : List A) → In x xs → table.In x xs
in_back x [] h = absurd h
in_back x (y ∷ ys) (inl e) = inl (sym e)
in_back x (y ∷ ys) (inr h) = inr (in_back x ys h)

-- What a step rests on: tables are well formed, a request in front of a queue is new to its receiver, and no two waits are for one
-- answer.
pub record Fits (c : Codec) (ds : Transcript) (E : Elements) (K : parent.Parent) : Type 0 where
  pub are : (d : As) → ArePending (E d).pending
  pub are_up : ArePending K.pending
  pub once : (d : As) (q : Peer) (y : ℕ) (g h : Row Pin) → In g (E d).pending.rows → In h (E d).pending.rows → g.1.item.stage ≡ Waits q y → h.1.item.stage ≡ Waits q y → g ≡ h
  pub once_up : (q : Peer) (y : ℕ) → count_waits q y (parent.all_waits K.pending.rows) ≤ 1
  pub fresh : (a b : As) (x : Standing) (xs : List Standing) → standing a b ds ≡ x ∷ xs → (id : ℕ) (l : List As) → Asks c x.message b id l →
      (same_as b parent_as ≡ false → number_of (E b).pending (Inner a) id ≡ None) × (b ≡ parent_as → number_of K.pending (Inner a) id ≡ None)

kept_answers : (id : ℕ) (m : Message) → IsKept m → Answers id m → ⊥
kept_answers id m kept (by_reply flags a is) = subst IsKept is kept
kept_answers id m kept (by_notice flags is) = subst IsKept is kept
kept_answers id m kept (by_error flags is) =
    let k = subst IsKept is kept in
    let e : (13, 1) ≡ k.0 = some k.0 k.1 in
    let hit : false ≡ true = ap (λ (p : ℕ × ℕ). (p.0 == 1) && (p.1 == 4)) e ∙ k.2 in cc
  where
    some : (e : ℕ × ℕ) → ◌≡◌ {A = Option (ℕ × ℕ)} (Some (13, 1)) (Some e) → (13, 1) ≡ e
    some e is = cc
kept_answers id m kept (by_refusal flags is) =
    let k = subst IsKept is kept in
    let e : (4, 2) ≡ k.0 = some k.0 k.1 in
    let hit : false ≡ true = ap (λ (p : ℕ × ℕ). (p.0 == 1) && (p.1 == 4)) e ∙ k.2 in cc
  where
    some : (e : ℕ × ℕ) → ◌≡◌ {A = Option (ℕ × ℕ)} (Some (4, 2)) (Some e) → (4, 2) ≡ e
    some e is = cc

module _ (c : Codec) (n : NetworkParts) (codec : IsCodec c) where
  -- more stands in queues, or rows are the same
  alive_more : (asks : _) (named : _) (waits : _) (queues queues' : Queues) → ((a b : As) (m : Message) → In m (queues a b) → In m (queues' a b)) → AllAlive asks named waits queues → AllAlive asks named waits queues'
  alive_more asks named waits queues queues' more alive a b id l w = go (alive a b id l w)
    where
      go : Alive asks named queues a b id l → Alive asks named queues' a b id l
      go (coming m h ask) = coming m (more a b m h) ask
      go (held h) = held h
      go (back m h answers) = back m (more b a m h) answers

  alive_rows : (queues : Queues) (E E' : Elements) (K K' : parent.Parent) → ((d : As) → (E' d).pending ≡ (E d).pending) → K'.pending ≡ K.pending →
      AllAlive (Asks c) (named_of E K) (waits_of E K) queues → AllAlive (Asks c) (named_of E' K') (waits_of E' K') queues
  alive_rows queues E E' K K' same above alive a b id l w = go (alive a b id l (before (same_as a parent_as) w))
    where
      before : (x : Bool) → cond x (ParentWaits K' b id l) (ElementWaits (E' a) b id l) → cond x (ParentWaits K b id l) (ElementWaits (E a) b id l)
      before true h = (h.0, (h.1.0, subst (λ (p : Pending parent.Asking). In h.1.0 p.rows) above h.1.1, h.1.2), h.2, h.3, h.4)
      before false h = (h.0, (h.1.0, subst (λ (p : Pending (Item Pin)). In h.1.0 p.rows) (same a) h.1.1, h.1.2, h.1.3), h.2)

      after : (x : Bool) → cond x (upper.Named K (Inner a) id) (lower.Named Pin Segment (E b) (Inner a) id l) → cond x (upper.Named K' (Inner a) id) (lower.Named Pin Segment (E' b) (Inner a) id l)
      after true h = (h.0, subst (λ (p : Pending parent.Asking). In h.0 p.rows) (sym above) h.1, h.2)
      after false h = (h.0, subst (λ (p : Pending (Item Pin)). In h.0 p.rows) (sym (same b)) h.1, h.2, h.3)

      go : Alive (Asks c) (named_of E K) queues a b id l → Alive (Asks c) (named_of E' K') queues a b id l
      go (coming m h ask) = coming m h ask
      go (held h) = held (after (same_as b parent_as) h)
      go (back m h answers) = back m h answers

  -- a deed that puts nothing into queues and takes nothing
  alive_still : (e : Deed Segment) (ds : Transcript) (s : Core) → ((a b : As) → standing a b (e ∷ ds) ≡ standing a b ds ++ []) → IsAlive c n ds s → IsAlive c n (e ∷ ds) s
  alive_still e ds s same alive =
      alive_more (Asks c) (named_of s.elements s.parent) (waits_of s.elements s.parent) (queues_at ds) (queues_at (e ∷ ds))
      (λ a b m h. subst (λ (xs : List Standing). In m (messages_in xs)) (sym (same a b ∙ nil_right (standing a b ds))) h) alive

  -- the first message of a queue, which is read as it was written
  abbrev First : As → As → Transcript → Type 0
  First a b ds = (x : Standing) × (xs : List Standing) × (standing a b ds ≡ x ∷ xs)

  first : (a b : As) (bytes : Bytes) (rest : List Bytes) (s : Core) (ds : Transcript) → Stand c n ds s → s.queues a b ≡ bytes ∷ rest → First a b ds
  first a b bytes rest s ds stand is = go (standing a b ds) refl
    where
      go : (xs : List Standing) → standing a b ds ≡ xs → First a b ds
      go [] e =
          let no : bytes ∷ rest ≡ [] = sym is ∙ stand a b ∙ ap (λ (l : List Standing). texts c (messages_in l)) e in
          absurd (let out : bytes ∷ rest ≡ [] = no in cc)
      go (x ∷ xs) e = (x, xs, e)

  first_is : (a b : As) (bytes : Bytes) (rest : List Bytes) (m : Message) (s : Core) (ds : Transcript) → Stand c n ds s → AllSent IsWritten ds → s.queues a b ≡ bytes ∷ rest → c.read bytes ≡ Some m →
      (x : Standing) (xs : List Standing) → standing a b ds ≡ x ∷ xs → x.message ≡ m
  first_is a b bytes rest m s ds stand sent is read x xs e =
      let both : bytes ∷ rest ≡ c.text x.message ∷ texts c (messages_in xs) = sym is ∙ stand a b ∙ ap (λ (l : List Standing). texts c (messages_in l)) e in
      let same : bytes ≡ c.text x.message = cc in
      let written : IsWritten x.message = standing_sent IsWritten a b ds x sent (subst (λ (l : List Standing). table.In x l) (sym e) (inl refl)) in
      let some : Some m ≡ Some x.message = sym read ∙ ap (λ z. c.read z) same ∙ codec.texts.reads x.message written in
      let meant : x.message ≡ m = cc in
      meant

  -- a message is taken from the front of a queue
  carried : (a b : As) (m : Message) (u : Core) (ds : Transcript) (x : Standing) (xs : List Standing) → standing a b ds ≡ x ∷ xs → x.message ≡ m → AreSound c ds → Fits c ds u.elements u.parent → IsAlive c n ds u →
      (let g = give Pin Segment c n open_of b (Inner a) m (record { state = u; deeds = Pops a b ∷ [] }) in AreSound c (g.deeds ++ ds) → IsAlive c n (g.deeds ++ ds) g.state)
  carried a b m u ds x xs stands meant sound fits alive =
      give_alive c n a m (Inner a) m u (queues_at ds) (Pops a b ∷ []) ds alive
      (λ a' notices is. inr (subst CancelsNone meant (standing_sent CancelsNone a b ds x sound.1 (subst (λ (l : List Standing). table.In x l) (sym stands) (inl refl))) notices is))
      fits.are fits.are_up b
      (λ a' b' m' h. elim (popped_now a b ds x xs stands a' b' m' h) [ inl stays ↦ inl stays | inr taken ↦ inr (taken.0, taken.1, taken.2 ∙ meant) ])
      (λ low. (
        λ id l ask. element_seen c n a b (u.current b) u.clock (u.elements b) m id l low ask ((fits.fresh a b x xs stands id l (subst (λ (m' : Message). Asks c m' b id l) (sym meant) ask)).0 low),
        λ id whole answers w. element_over c n a id b (u.current b) u.clock (u.elements b) m (fits.are b) (fits.once b (Inner a) id) answers whole w,
      ))
      (λ up. (
        λ id l ask. parent_seen c n a u.parent m id l ask
            ((fits.fresh a b x xs stands id l (subst (λ (m' : Message). Asks c m' b id l) (sym meant) (subst (λ (z : As). Asks c m z id l) (sym up) ask))).1 up),
        λ id w answers h peer is. parent_over c n a id u.parent m fits.are_up (fits.once_up (Inner a) id) answers w h peer is,
      ))

  -- one is kept
  kept_alive : (a b : As) (m : Message) (s : Core) (ds : Transcript) (x : Standing) (xs : List Standing) → standing a b ds ≡ x ∷ xs → x.message ≡ m → IsKept m → IsAlive c n ds s → IsAlive c n (Pops a b ∷ ds) s
  kept_alive a b m s ds x xs stands meant kept alive a' b' id l w = go (alive a' b' id l w)
    where
      go : Alive (Asks c) (named_of s.elements s.parent) (queues_at ds) a' b' id l → Alive (Asks c) (named_of s.elements s.parent) (queues_at (Pops a b ∷ ds)) a' b' id l
      go (coming m' h ask) = elim (popped_now a b ds x xs stands a' b' m' h) [
        | inl stays ↦ coming m' stays ask
        | inr taken ↦ absurd (kept_asks c m b' id l kept (subst (λ (z : Message). Asks c z b' id l) (taken.2 ∙ meant) ask))
      ]
      go (held h) = held h
      go (back m' h answers) = elim (popped_now a b ds x xs stands b' a' m' h) [
        | inl stays ↦ back m' stays answers
        | inr taken ↦ absurd (kept_answers id m kept (subst (λ (z : Message). Answers id z) (taken.2 ∙ meant) answers))
      ]

  adjacency_linked : (a b : As) → same_link (adjacency a b).lower (adjacency a b).upper a b ≡ true
  adjacency_linked a b = go (nat_lt b.0 a.0)
    where
      swap : (x : Bool) → same_as b a ≡ x → cond x (same_as a b) (cond (same_as b b) (same_as a a) false) ≡ true
      swap true e = ap (λ (z : As). same_as a z) (same_as_is b a e) ∙ as_self a
      swap false e = ap (λ (x : Bool). cond x (same_as a a) false) (as_self b) ∙ as_self a

      go : (x : Bool) → (let y : Adjacency = cond x (record { lower = b; upper = a }) (record { lower = a; upper = b }) in same_link y.lower y.upper a b ≡ true)
      go true = swap (same_as b a) refl
      go false = ap (λ (x : Bool). cond x (same_as b b) (cond (same_as a b) (same_as b a) false)) (as_self a) ∙ as_self b

  set_same : (at : As) (k : Element Pin Segment) (s : Core) → k.pending ≡ (s.elements at).pending → (d : As) → (set_as at k s.elements d).pending ≡ (s.elements d).pending
  set_same at k s same d = set_pending c n at d k s ∙ go (same_as at d) refl
    where
      go : (x : Bool) → same_as at d ≡ x → cond x k.pending (s.elements d).pending ≡ (s.elements d).pending
      go true e = same ∙ ap (λ (z : As). (s.elements z).pending) (same_as_is at d e)
      go false e = refl

  rise_alive : (at : As) (p : Peer) (s : Core) (ds : Transcript) → IsAlive c n ds s → (let g = rise Pin Segment c n open_of at p (record { state = s; deeds = [] }) in IsAlive c n (g.deeds ++ ds) g.state)
  rise_alive at p s ds alive =
      let u = with_parent Pin Segment c n open_of (parent.upped p s.parent) s in
      let v = with_element Pin Segment c n open_of at (upped p (s.elements at)) s in
      let still = alive_still (Ups at p) ds s (λ a b. refl) alive in
      pick (same_as at parent_as)
      (record { state = u; deeds = Ups at p ∷ [] })
      (record { state = v; deeds = Ups at p ∷ [] })
      (alive_rows (queues_at (Ups at p ∷ ds)) s.elements s.elements s.parent (parent.upped p s.parent) (λ d. refl) refl still)
      (alive_rows (queues_at (Ups at p ∷ ds)) s.elements v.elements s.parent s.parent (set_same at (upped p (s.elements at)) s refl) refl still)
    where
      pick : (x : Bool) (g h : Going Pin Segment) → IsAlive c n (g.deeds ++ ds) g.state → IsAlive c n (h.deeds ++ ds) h.state → IsAlive c n ((cond x g h).deeds ++ ds) (cond x g h).state
      pick true g h y z = y
      pick false g h y z = z

  shut_alive : (at : As) (i : ℕ) (s : Core) (ds : Transcript) → IsAlive c n ds s →
      (let g = fall Pin Segment c n open_of at (Outside i) (record { state = s; deeds = [] }) in AreSound c (g.deeds ++ ds) → IsAlive c n (g.deeds ++ ds) g.state)
  shut_alive at i s ds alive =
      let p = Outside i in
      let r = parent.downed p s.parent in
      let t = downed p (s.elements at) in
      after_pick c n ds (same_as at parent_as)
      (record { state = puts Pin Segment c n open_of at r.outputs (with_parent Pin Segment c n open_of r.parent s); deeds = Downs at p r.outputs ∷ [] })
      (record { state = puts Pin Segment c n open_of at t.outputs (with_element Pin Segment c n open_of at t.element s); deeds = Downs at p t.outputs ∷ [] })
      (λ up.
      subst (λ (z : As). AreSound c (Downs z p r.outputs ∷ ds) → IsAlive c n (Downs z p r.outputs ∷ ds) (puts Pin Segment c n open_of z r.outputs (with_parent Pin Segment c n open_of r.parent s))) (sym (same_as_is at parent_as up))
      (λ sound. parent_moved c n s r (Downs parent_as p r.outputs) ds (λ a. refl) (λ a b xs. refl) (λ a. taken_up.downed_moves (Inner a) p s.parent refl) sound.2.0 alive))
      (λ low sound. element_moved c n at s t (Downs at p t.outputs) ds low (λ a. refl) (λ a b xs. refl) (λ a. lower.downed_moves Pin Segment (Inner a) p (s.elements at) refl) sound.2.0 alive)

  -- ---- steps

  module _ (R : Bytes → Type 0) where
    pub step_alive : (ds : Transcript) (s t : Core) (es : Transcript) → Step c n R s es t → AreSound c ds → Stand c n ds s → Fits c ds s.elements s.parent → IsAlive c n ds s → AreSound c (es ++ ds) → IsAlive c n (es ++ ds) t
    step_alive ds s t es (rests s' t' same) sound stand fits alive = λ now. alive_state c n ds s.elements s.parent t same.elements same.parent alive
    step_alive ds s t es (hears i bytes m s' read known) sound stand fits alive =
        give_alive c n parent_as no_message (Outside i) m s (queues_at ds) [] ds alive (λ a notices is. inl refl) fits.are fits.are_up (element_of n i) (λ a b m' h. inl h)
        (λ low. (λ id l ask. absurd (asks_nothing c (element_of n i) id l ask), λ id whole answers w. no_answer id answers))
        (λ up. (λ id l ask. absurd (asks_nothing c parent_as id l ask), λ id w answers h peer is. no_answer id answers))
    step_alive ds s t es (carries a b bytes rest m s' u is read same) sound stand fits alive =
        let f = first a b bytes rest s ds stand is in
        carried a b m u ds f.0 f.1 f.2 (first_is a b bytes rest m s ds stand sound.0 is read f.0 f.1 f.2) sound
        (subst (λ (E : Elements). Fits c ds E u.parent) (sym same.elements) (subst (λ (K : parent.Parent). Fits c ds s.elements K) (sym same.parent) fits))
        (alive_state c n ds s.elements s.parent u same.elements same.parent alive)
    step_alive ds s t es (keeps a b bytes rest m s' is read kept) sound stand fits alive = λ now.
        let f = first a b bytes rest s ds stand is in
        kept_alive a b m s ds f.0 f.1 f.2 (first_is a b bytes rest m s ds stand sound.0 is read f.0 f.1 f.2) kept alive
    step_alive ds s t es (hands i bytes s' t' same) sound stand fits alive = λ now.
        alive_state c n (Hands i bytes ∷ ds) s.elements s.parent t same.elements same.parent (alive_still (Hands i bytes) ds s (λ a b. refl) alive)
    step_alive ds s t es (rises at p s') sound stand fits alive = λ now. rise_alive at p s ds alive
    step_alive ds s t es (shuts i s') sound stand fits alive = shut_alive (element_of n i) i s ds alive
    step_alive ds s t es (says at p o s') sound stand fits alive = λ now.
        let out : Output = record { to = p; message = own_message o } in
        alive_state c n (Says at out ∷ ds) s.elements s.parent (puts Pin Segment c n open_of at (out ∷ []) s) (puts_elements c n at (out ∷ []) s) (puts_parent c n at (out ∷ []) s)
        (alive_more (Asks c) (named_of s.elements s.parent) (waits_of s.elements s.parent) (queues_at ds) (queues_at (Says at out ∷ ds))
        (λ a b m h.
        subst (λ (l : List Message). In m l) (sym (queue_now at (out ∷ []) ds (Says at out) (λ a'. refl) (λ a' b' xs. refl) a b))
        (In-front m (queues_at ds a b) (cond (same_as at a) (put_into b (out ∷ [])) []) h)) alive)
    step_alive ds s t es (expires now' s') sound stand fits alive = λ now.
        alive_rows (queues_at (Expires now' ∷ ds)) s.elements (λ d. ticked now' (s.elements d)) s.parent s.parent (λ d. refl) refl (alive_still (Expires now') ds s (λ a b. refl) alive)
    step_alive ds s t es (breaks x s') sound stand fits alive = λ now. broken_alive c n x s (queues_at ds) [] ds (λ a b m apart h. h) alive
    step_alive ds s t es (drops a b bytes rest s' is) sound stand fits alive = λ now.
        let f = first a b bytes rest s ds stand is in
        broken_alive c n (adjacency a b) (with_rest a b rest s) (queues_at ds) (Pops a b ∷ []) ds
        (λ a' b' m apart h. elim (popped_now a b ds f.0 f.1 f.2 a' b' m h) [
          | inl stays ↦ stays
          | inr taken ↦
              absurd (let clash : true ≡ false = sym (adjacency_linked a b) ∙ ap (λ (z : As). same_link (adjacency a b).lower (adjacency a b).upper z b) (sym taken.0)
              ∙ ap (λ (z : As). same_link (adjacency a b).lower (adjacency a b).upper a' z) (sym taken.1) ∙ apart in cc)
        ]) alive

  -- ---- loads and solves

  pub load_alive : (ds : Transcript) (s : Plant) (d : As) (g : Rows) → IsAlive c n ds s → IsAlive c n (Loads d g ∷ ds) (load_new c n d g s).state
  load_alive ds s d g alive = alive_still (Loads d g) ds s (λ a b. refl) alive

  pub solve_alive : (ds : Transcript) (s : Plant) (d : As) (k : ℕ) (h : Happened) → ElementSolves c n d k s h → Fits c ds s.elements s.parent → IsAlive c n ds s → AreSound c (h.deeds ++ ds) → IsAlive c n (h.deeds ++ ds) h.state
  solve_alive ds s d k h x fits alive =
      let r = commit c (place n d) (k, x.held) x.down s.clock (λ b. b.segment) (job_found x.rows.source_known x.rows.target_known x.rows.best) (s.elements d) in
      subst (λ (h' : Happened). AreSound c (h'.deeds ++ ds) → IsAlive c n (h'.deeds ++ ds) h'.state) (sym x.is)
      (λ sound.
      element_moved c n d s r (Solves d k r.outputs r.element.keys.issued) ds x.upper (λ a. refl) (λ a b xs. refl)
      (λ a. lower.commit_moves Pin Segment (Inner a) c (place n d) (k, x.held) x.down s.clock (λ b. b.segment) x.rows.source_known x.rows.target_known x.rows.best (s.elements d) (fits.are d)
      (in_flipped (k, x.held) (s.elements d).pending.rows (lookup_in k (s.elements d).pending.rows x.held x.is_held))) sound.2.0 alive)

  pub upper_alive : (ds : Transcript) (s : Plant) (k : ℕ) (h : Happened) → ParentSolves c n k s h → Fits c ds s.elements s.parent → IsAlive c n ds s → AreSound c (h.deeds ++ ds) → IsAlive c n (h.deeds ++ ds) h.state
  upper_alive ds s k h x fits alive =
      let r = parent.commit c (k, x.held) x.answer s.parent in
      subst (λ (h' : Happened). AreSound c (h'.deeds ++ ds) → IsAlive c n (h'.deeds ++ ds) h'.state) (sym x.is)
      (λ sound.
      parent_moved c n s r (Solves parent_as k r.outputs []) ds (λ a. refl) (λ a b xs. refl)
      (λ a. upper.commit_moves (Inner a) c (k, x.held) x.answer s.parent fits.are_up (in_flipped (k, x.held) s.parent.pending.rows (lookup_in k s.parent.pending.rows x.held x.is_held))) sound.2.0 alive)
