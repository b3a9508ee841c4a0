-- The ids of a run, act by act, and that each request that is sent asks its receiver.
use Rattle.std.proofs.Common.{◌≡◌, ◌≤◌, ◌+◌, nat_eq, ℕ, Bool, true, false, cond, List, [], ◌∷◌, ◌++◌, Option, Some, None, sym, ◌∙◌, ap, subst, inl, inr, refl, arith}
use Rattle.plant_model.specs.Types.{As, Addr, Peer, Outside, Inner, Message, Asked, Request, Wanted, Own, NetworkParts}
use Rattle.te_links.specs.Rows.{Rows}
use Rattle.disclosure.specs.Shown.{open_of}
use Rattle.pcep_messages.specs.declared.message.Message.TheVariants as messages
use Rattle.pcep_messages.specs.declared.message.Wish.TheVariants.{Path}
use Rattle.pcep_messages.specs.Spelling.{IsWritten}
use Rattle.pcep_session.specs.declared.actions.Own.TheVariants as own
use Rattle.request_table.specs.Pending.{ArePending, same_peer}
use Rattle.plant_model.specs.declared.output.Output.{Output}
use Rattle.plant_text.specs.Names.{same_as, parent_as}
use Rattle.plant_model.specs.Names.{set_as}
use Rattle.plant_model.specs.Wire.{Bytes, Codec, Admitted, Wrong}
use Rattle.plant_model.specs.Writing.{asked_of, request_message}
use Rattle.plant_model.specs.Laws.{IsCodec, IsNetwork}
use Rattle.plant_text.specs.Settings.{class_of}
use Rattle.plant_model.specs.Settings.{place, family}
use Rattle.plant_model.specs.Element as element
use Rattle.plant_model.specs.Element.{Element, upped, downed, ticked, lost}
use Rattle.plant_model.specs.Taking.{take}
use Rattle.plant_model.specs.Solving.{commit, job_found}
use Rattle.plant_model.specs.BorderGraph.{Found}
use Rattle.plant_model.specs.Parent as parent
use Rattle.plant_model.specs.Parent.{AskingRow}
use Rattle.plant_model.specs.State.{Deed, Loads, Pops, Takes, Says, Ups, Downs, Clears, Solves, Expires, Hands}
use Rattle.plant_model.specs.Deeds.{Going, element_of, own_message, with_parent, with_element, puts, give, rise, fall}
use Rattle.plant_model.specs.Plant.{Pin, Segment, Plant, Happened, load_new, ElementSolves, ParentSolves}
use Rattle.plant_laws.specs.Transcript.{Transcript, Standing, standing, standing_of, put_into, outputs_at, left_of, asks, count_asks}
use Rattle.plant_laws.specs.Sending.{AllSent}
use Rattle.plant_laws.specs.About.{IsShort}
use Rattle.plant_laws.specs.Standing.{messages as messages_in, texts}
use Rattle.plant_laws.proofs.Runs.Acts.{Acts, rests, hears, carries, nods, hands, rises, falls, says, clears, expires}
use Rattle.plant_laws.proofs.Runs.Queues.{same_as_is, Stand}
use Rattle.plant_laws.proofs.Once.Handing.{In, In-append, In-left, IsAsk}
use Rattle.plant_laws.proofs.Numbering.Sends.{NoneAsks, Each}
use Rattle.plant_laws.proofs.Runs.Rows as table
use Rattle.plant_laws.proofs.WrittenForm.ReadBack.{standing_sent}
use Rattle.plant_laws.proofs.Once.Opened.{AreSingle, set_pending, puts_elements, puts_parent}
use Rattle.plant_laws.proofs.Once.OpenedRuns.{lookup_in}
use Rattle.plant_laws.proofs.Least.Subsides.{commit_subs}
use Rattle.plant_laws.proofs.Once.Leaving as lower
use Rattle.plant_laws.proofs.Once.Leaving.{was_in}
use Rattle.plant_laws.proofs.Once.LeavingUpper as upper
use Rattle.plant_laws.proofs.Runs.NodeMoves.{Elements}
use Rattle.plant_laws.proofs.Once.Asks.{Asks, IsMet, admitted as meets, refused}
use Rattle.plant_laws.proofs.Settled.Alive.{Core, IsSound}
use Rattle.plant_laws.proofs.Numbering.Decode.{request_id, id_of, Rising, rising_none}
use Rattle.plant_laws.proofs.Numbering.Errands.{Last}
use Rattle.plant_laws.proofs.Numbering.Onward.{last_up, none_lost, calm_commit}
use Rattle.plant_laws.proofs.Numbering.OnwardUpper as above
use Rattle.plant_laws.proofs.Numbering.SentOnAsks.{good_none, sound_deed, quiet_sound}
use Rattle.plant_laws.proofs.Numbering.Ids.{Ids, last_of, node_ids, element_ids, parent_ids, pop_ids, clear_ids, quiet_ids}
use Rattle.plant_laws.proofs.Numbering.IdsSteps.{AreKids, element_given, parent_given}

-- a request that is sent is written as one
abbrev pub IsForm : Message → Type 0
IsForm m = IsAsk m → (y : ℕ) × (w : Wanted) × (t : Addr) × (l : List As) × (m ≡ request_message y w t l)

pub own_none : (o : Own) → IsAsk (own_message o) → ⊥
own_none (own.Open offer) ask = ask
own_none own.Keepalive ask = ask
own_none (own.Error kind value) ask = ask
own_none (own.Close why) ask = ask

in_flip : {A : Type 0} (x : A) (xs : List A) → table.In x xs → In x xs
in_flip x [] h = absurd h
in_flip x (y ∷ ys) (inl e) = inl (sym e)
in_flip x (y ∷ ys) (inr h) = inr (in_flip x ys h)

in_unflip : {A : Type 0} (x : A) (xs : List A) → In x xs → table.In x xs
in_unflip x [] h = absurd h
in_unflip x (y ∷ ys) (inl e) = inl (sym e)
in_unflip x (y ∷ ys) (inr h) = inr (in_unflip x ys h)

peer_is : (b : As) (o : Output) → same_peer o.to (Inner b) ≡ true → o.to ≡ Inner b
peer_is b o e = go o.to e
  where
    go : (p : Peer) → same_peer p (Inner b) ≡ true → p ≡ Inner b
    go (Outside i) e' = absurd (let out : false ≡ true = e' in cc)
    go (Inner a) e' = ap (λ (z : As). Inner z) (same_as_is a b e')

-- what was put into a queue was sent to its end
out_of_put : (b : As) (m : Message) (os : List Output) → In m (put_into b os) → In {A = Output} (record { to = Inner b; message = m }) os
out_of_put b m [] h = absurd h
out_of_put b m (o ∷ os) h = go (same_peer o.to (Inner b)) refl h (out_of_put b m os)
  where
    go : (x : Bool) → same_peer o.to (Inner b) ≡ x → In m (cond x (o.message ∷ put_into b os) (put_into b os)) → (In m (put_into b os) → In {A = Output} (record { to = Inner b; message = m }) os) →
        In {A = Output} (record { to = Inner b; message = m }) (o ∷ os)
    go true e (inl same) rec = inl (λ i. record { to = (sym (peer_is b o e)) i; message = same i })
    go true e (inr i) rec = inr (rec i)
    go false e i rec = inr (rec i)

in_standing : (m : Transcript) (x : Standing) (ms : List Message) → In x (standing_of m ms) → In x.message ms
in_standing m x [] h = absurd h
in_standing m x (y ∷ ys) (inl e) = inl (ap (λ (z : Standing). z.message) e)
in_standing m x (y ∷ ys) (inr h) = inr (in_standing m x ys h)

module _ (c : Codec) (n : NetworkParts) (codec : IsCodec c) (net : IsNetwork n) where
  standing_asks : (a b : As) (ds : Transcript) (x : Standing) → Each (IsSound c) ds → In x (standing a b ds) → (y : ℕ) (w : Wanted) (t : Addr) (l : List As) → x.message ≡ request_message y w t l → Asks c x.message b y l
  standing_asks a b [] x sound h y w t l is = absurd h
  standing_asks a b (e ∷ ds) x sound h y w t l is =
      elim (In-append x (left_of e a b (standing a b ds)) (standing_of (e ∷ ds) (put_into b (outputs_at a e))) h) [
        | inl old ↦ standing_asks a b ds x sound.1 (In-left e a b x (standing a b ds) old) y w t l is
        | inr new ↦
            let out = out_of_put b x.message (outputs_at a e) (in_standing (e ∷ ds) x (put_into b (outputs_at a e)) new) in
            subst (λ (m : Message). Asks c m b y l) (sym is) (sound.0 a b y w t l (subst (λ (m : Message). In {A = Output} (record { to = Inner b; message = m }) (outputs_at a e)) is out))
      ]

  -- the premises on a transcript
  abbrev pub Prem : Transcript → Type 0
  Prem ds = AllSent IsWritten ds × AllSent IsForm ds × AreSingle ds × IsShort ds

  short_tail : (e : Deed Segment) (ds : Transcript) → IsShort (e ∷ ds) → IsShort ds
  short_tail e ds s a b = let h = s a b in omega (arith, h)

  pub prem_tail : (e : Deed Segment) (ds : Transcript) → Prem (e ∷ ds) → Prem ds
  prem_tail e ds p = (p.0.1, p.1.1, p.2.1, short_tail e ds p.3)

  pub record Known (ds : Transcript) (s : Core) : Type 0 where
    pub low : As → As → ℕ
    pub ids : Ids low ds s.elements s.parent
    pub kids : AreKids s.parent
    pub sound : Each (IsSound c) ds

  known_state : (ds : Transcript) (low : As → As → ℕ) (E : Elements) (K : parent.Parent) (t : Core) → t.elements ≡ E → t.parent ≡ K → Ids low ds E K → AreKids K → Each (IsSound c) ds → Known ds t
  known_state ds low E K t elements up ids kids sound = record {
    low = low;
    ids = subst (λ (f : Elements). Ids low ds f t.parent) (sym elements) (subst (λ (k : parent.Parent). Ids low ds E k) (sym up) ids);
    kids = subst AreKids (sym up) kids;
    sound = sound;
  }

  after_pick : (ds : Transcript) (b : Bool) (g h : Going Pin Segment) → (b ≡ true → Prem (g.deeds ++ ds) → Known (g.deeds ++ ds) g.state) → (b ≡ false → Prem (h.deeds ++ ds) → Known (h.deeds ++ ds) h.state) →
      Prem ((cond b g h).deeds ++ ds) → Known ((cond b g h).deeds ++ ds) (cond b g h).state
  after_pick ds true g h x y = x refl
  after_pick ds false g h x y = y refl

  give_known : (at : As) (p : Peer) (m : Message) (s : Core) (es ds : Transcript) → ((d : As) → ArePending (s.elements d).pending) → ArePending s.parent.pending → (k : Known (es ++ ds) s) →
      ((a : As) → p ≡ Inner a → (asked : Asked) → m ≡ messages.PcReq (asked ∷ []) → (r : Request) → c.check asked at ≡ Admitted r → r.id ≤ k.low a at) →
      (let g = give Pin Segment c n open_of at p m (record { state = s; deeds = es }) in Prem (g.deeds ++ ds) → Known (g.deeds ++ ds) g.state)
  give_known at p m s es ds are are_up k new =
      let r = parent.take c (family n) p m s.parent in
      let t = take c open_of (place n at) (s.current at) p (class_of n p) s.clock m (s.elements at) in
      let u = with_parent Pin Segment c n open_of r.parent s in
      let v = with_element Pin Segment c n open_of at t.element s in
      after_pick ds (same_as at parent_as)
      (record { state = puts Pin Segment c n open_of at r.outputs u; deeds = Takes at p m r.outputs ∷ es })
      (record { state = puts Pin Segment c n open_of at t.outputs v; deeds = Takes at p m t.outputs ∷ es })
      (λ up. upward (same_as_is at parent_as up))
      (λ low' prem.
      let g = element_given c n codec p m prem.2.0 k.low (es ++ ds) s.elements s.parent k.ids at low' (are at) new (s.current at) s.clock prem.3 in
      known_state (Takes at p m t.outputs ∷ (es ++ ds)) k.low (set_as at t.element s.elements) s.parent (puts Pin Segment c n open_of at t.outputs v) (puts_elements c n at t.outputs v) (puts_parent c n at t.outputs v) g.0 k.kids (g.1, k.sound))
    where
      upward : at ≡ parent_as → (let r = parent.take c (family n) p m s.parent in
          Prem (Takes at p m r.outputs ∷ (es ++ ds)) → Known (Takes at p m r.outputs ∷ (es ++ ds)) (puts Pin Segment c n open_of at r.outputs (with_parent Pin Segment c n open_of r.parent s)))
      upward is =
          let r = parent.take c (family n) p m s.parent in
          let u = with_parent Pin Segment c n open_of r.parent s in
          subst (λ (z : As). Prem (Takes z p m r.outputs ∷ (es ++ ds)) → Known (Takes z p m r.outputs ∷ (es ++ ds)) (puts Pin Segment c n open_of z r.outputs u)) (sym is)
          (λ prem.
          let g = parent_given c n codec p m prem.2.0 k.low (es ++ ds) s.elements s.parent k.ids net are_up k.kids
          (subst (λ (z : As). (a : As) → p ≡ Inner a → (asked : Asked) → m ≡ messages.PcReq (asked ∷ []) → (r' : Request) → c.check asked z ≡ Admitted r' → r'.id ≤ k.low a z) is new) prem.3 in
          known_state (Takes parent_as p m r.outputs ∷ (es ++ ds)) k.low s.elements r.parent (puts Pin Segment c n open_of parent_as r.outputs u) (puts_elements c n parent_as r.outputs u) (puts_parent c n parent_as r.outputs u) g.0 g.2 (g.1, k.sound))

  -- a session goes down
  fall_known : (at : As) (p : Peer) (s : Core) (ds : Transcript) → Known ds s →
      (let g = fall Pin Segment c n open_of at p (record { state = s; deeds = [] }) in Prem (g.deeds ++ ds) → Known (g.deeds ++ ds) g.state)
  fall_known at p s ds k =
      let r = parent.downed p s.parent in
      let t = downed p (s.elements at) in
      let u = with_parent Pin Segment c n open_of r.parent s in
      let v = with_element Pin Segment c n open_of at t.element s in
      after_pick ds (same_as at parent_as)
      (record { state = puts Pin Segment c n open_of at r.outputs u; deeds = Downs at p r.outputs ∷ [] })
      (record { state = puts Pin Segment c n open_of at t.outputs v; deeds = Downs at p t.outputs ∷ [] })
      (λ up prem.
      subst (λ (z : As). Known (Downs z p r.outputs ∷ ds) (puts Pin Segment c n open_of z r.outputs u)) (sym (same_as_is at parent_as up))
      (known_state (Downs parent_as p r.outputs ∷ ds) k.low s.elements r.parent (puts Pin Segment c n open_of parent_as r.outputs u) (puts_elements c n parent_as r.outputs u) (puts_parent c n parent_as r.outputs u)
      (parent_ids k.low (Downs parent_as p r.outputs) ds s.elements s.parent (λ a b xs. refl) k.ids r (λ a. refl)
      (λ a x h. k.ids.names a parent_as x [] (h.0, (lower.filter_was Pin Segment (parent.stays p) s.parent.pending.rows h.0 h.1).0, h.2))
      (λ b. let same = last_up (Inner b) p false s.parent.ways in (subst (λ (z : ℕ). Rising (put_into b r.outputs) (Last s.parent.ways b) z) (sym same) (rising_none b r.outputs (Last s.parent.ways b) (none_lost (parent.lost p s.parent.pending.rows))), omega (arith, same)))
      (λ w h. inl (h.0, (lower.filter_was Pin Segment (parent.stays p) s.parent.pending.rows h.0 h.1).0, h.2))
      (λ q y. let a = above.fewer_kept q y (parent.stays p) s.parent.pending.rows in let b = k.ids.once q y in omega arith))
      (λ w h. k.kids w (h.0, (lower.filter_was Pin Segment (parent.stays p) s.parent.pending.rows h.0 h.1).0, h.2))
      (sound_deed c parent_as r.outputs (Downs parent_as p r.outputs) (λ a. refl) (good_none c r.outputs (none_lost (parent.lost p s.parent.pending.rows))), k.sound)))
      (λ real prem.
      known_state (Downs at p t.outputs ∷ ds) k.low (set_as at t.element s.elements) s.parent (puts Pin Segment c n open_of at t.outputs v) (puts_elements c n at t.outputs v) (puts_parent c n at t.outputs v)
      (element_ids k.low (Downs at p t.outputs) ds s.elements s.parent (λ a b xs. refl) k.ids at real t (λ a. refl)
      (λ a x l h. k.ids.names a at x l
      (subst (λ (z : Bool). cond z (upper.Named s.parent (Inner a) x) (lower.Named Pin Segment (s.elements at) (Inner a) x l)) (sym real) (h.0, (lower.filter_was Pin Segment (element.stays p) (s.elements at).pending.rows h.0 h.1).0, h.2, h.3)))
      (λ b. let same = last_up (Inner b) p false (s.elements at).ways in
      (subst (λ (z : ℕ). Rising (put_into b t.outputs) (Last (s.elements at).ways b) z) (sym same) (rising_none b t.outputs (Last (s.elements at).ways b) (none_lost (lost p (s.elements at).pending.rows))), omega (arith, same)))
      (λ on id whole h. inl (h.0, (lower.filter_was Pin Segment (element.stays p) (s.elements at).pending.rows h.0 h.1).0, h.2, h.3)))
      k.kids (sound_deed c at t.outputs (Downs at p t.outputs) (λ a. refl) (good_none c t.outputs (none_lost (lost p (s.elements at).pending.rows))), k.sound))

  set_ways : (at : As) (k : Element Pin Segment) (s : Core) → ((b : As) → Last k.ways b ≡ Last (s.elements at).ways b) → (d b : As) → Last (set_as at k s.elements d).ways b ≡ Last (s.elements d).ways b
  set_ways at k s same d b = go (same_as at d) refl
    where
      go : (x : Bool) → same_as at d ≡ x → Last (cond x k (s.elements d)).ways b ≡ Last (s.elements d).ways b
      go true e = same b ∙ ap (λ (z : As). Last (s.elements z).ways b) (same_as_is at d e)
      go false e = refl

  set_rows : (at : As) (k : Element Pin Segment) (s : Core) → k.pending ≡ (s.elements at).pending → (d : As) → (set_as at k s.elements d).pending ≡ (s.elements d).pending
  set_rows at k s same d = set_pending c n at d k s ∙ go (same_as at d) refl
    where
      go : (x : Bool) → same_as at d ≡ x → cond x k.pending (s.elements d).pending ≡ (s.elements d).pending
      go true e = same ∙ ap (λ (z : As). (s.elements z).pending) (same_as_is at d e)
      go false e = refl

  rise_known : (at : As) (p : Peer) (s : Core) (ds : Transcript) → Known ds s → (let g = rise Pin Segment c n open_of at p (record { state = s; deeds = [] }) in Prem (g.deeds ++ ds) → Known (g.deeds ++ ds) g.state)
  rise_known at p s ds k =
      let u = with_parent Pin Segment c n open_of (parent.upped p s.parent) s in
      let v = with_element Pin Segment c n open_of at (upped p (s.elements at)) s in
      after_pick ds (same_as at parent_as)
      (record { state = u; deeds = Ups at p ∷ [] })
      (record { state = v; deeds = Ups at p ∷ [] })
      (λ up prem. record {
        low = k.low;
        ids = quiet_ids k.low (Ups at p) ds s.elements s.elements s.parent (parent.upped p s.parent) (λ a b. refl) (λ a b. refl) (λ d. refl) (λ d b. refl) refl (λ b. last_up (Inner b) p true s.parent.ways) k.ids;
        kids = k.kids;
        sound = (quiet_sound c (Ups at p) (λ a. refl), k.sound);
      })
      (λ real prem. record {
        low = k.low;
        ids = quiet_ids k.low (Ups at p) ds s.elements v.elements s.parent s.parent (λ a b. refl) (λ a b. refl) (set_rows at (upped p (s.elements at)) s refl) (set_ways at (upped p (s.elements at)) s (λ b. last_up (Inner b) p true (s.elements at).ways)) refl (λ b. refl) k.ids;
        kids = k.kids;
        sound = (quiet_sound c (Ups at p) (λ a. refl), k.sound);
      })

  -- the first message of a queue
  abbrev pub First : As → As → Transcript → Type 0
  First a b ds = (x : Standing) × (xs : List Standing) × (standing a b ds ≡ x ∷ xs)

  pub first : (a b : As) (bytes : Bytes) (rest : List Bytes) (s : Core) (ds : Transcript) → Stand c n ds s → s.queues a b ≡ bytes ∷ rest → First a b ds
  first a b bytes rest s ds stand is = go (standing a b ds) refl
    where
      go : (xs : List Standing) → standing a b ds ≡ xs → First a b ds
      go [] e =
          let none : bytes ∷ rest ≡ [] = sym is ∙ stand a b ∙ ap (λ (l : List Standing). texts c (messages_in l)) e in
          absurd (let out : bytes ∷ rest ≡ [] = none in cc)
      go (x ∷ xs) e = (x, xs, e)

  first_is : (a b : As) (bytes : Bytes) (rest : List Bytes) (m : Message) (s : Core) (ds : Transcript) → Stand c n ds s → AllSent IsWritten ds → s.queues a b ≡ bytes ∷ rest → c.read bytes ≡ Some m →
      (x : Standing) (xs : List Standing) → standing a b ds ≡ x ∷ xs → x.message ≡ m
  first_is a b bytes rest m s ds stand sent is read x xs e =
      let both : bytes ∷ rest ≡ c.text x.message ∷ texts c (messages_in xs) = sym is ∙ stand a b ∙ ap (λ (l : List Standing). texts c (messages_in l)) e in
      let same : bytes ≡ c.text x.message = cc in
      let written : IsWritten x.message = standing_sent IsWritten a b ds x sent (subst (λ (l : List Standing). table.In x l) (sym e) (inl refl)) in
      let some : Some m ≡ Some x.message = sym read ∙ ap (λ z. c.read z) same ∙ codec.texts.reads x.message written in
      let meant : x.message ≡ m = cc in
      meant

  pop_known : (a b : As) (s : Core) (ds : Transcript) (x : Standing) (xs : List Standing) → standing a b ds ≡ x ∷ xs → (k : Known ds s) → (k' : Known (Pops a b ∷ ds) s) × ((y : ℕ) → request_id x.message ≡ Some y → y ≤ k'.low a b)
  pop_known a b s ds x xs stands k =
      let p = pop_ids k.low a b ds s.elements s.parent x xs stands k.ids in
      (record { low = p.low; ids = p.ids; kids = k.kids; sound = (quiet_sound c (Pops a b) (λ z. refl), k.sound) }, p.new)

  -- the id that is admitted is that of the message
  taken_id : (a b : As) (ds : Transcript) (x : Standing) (xs : List Standing) → standing a b ds ≡ x ∷ xs → Each (IsSound c) ds → AllSent IsForm ds → (m : Message) → x.message ≡ m → (asked : Asked) → m ≡ messages.PcReq (asked ∷ []) → (r : Request) →
      c.check asked b ≡ Admitted r → request_id x.message ≡ Some r.id
  taken_id a b ds x xs stands sound form m meant asked is r admitted =
      let there : In x (standing a b ds) = subst (λ (l : List Standing). In x l) (sym stands) (inl refl) in
      let f = standing_sent IsForm a b ds x form (in_unflip x (standing a b ds) there) (subst IsAsk (sym (meant ∙ is)) tt) in
      let ask = standing_asks a b ds x sound there f.0 f.1 f.2 f.3 f.4 in
      let lists : messages.PcReq (asked ∷ []) ≡ messages.PcReq (asked_of f.0 ask.sent ask.end f.3 ∷ []) = sym is ∙ sym meant ∙ ask.is in
      let same : asked ≡ asked_of f.0 ask.sent ask.end f.3 = heads asked (asked_of f.0 ask.sent ask.end f.3) lists in
      ap request_id f.4 ∙ id_of f.0 f.1 f.2 f.3 ∙ ap (λ (z : ℕ). Some z) (sym (ids (asked_of f.0 ask.sent ask.end f.3) f.0 f.3 (sym admitted ∙ ap (λ (z : Asked). c.check z b) same) ask.met))
    where
      heads : (u v : Asked) → messages.PcReq (u ∷ []) ≡ messages.PcReq (v ∷ []) → u ≡ v
      heads u v e = cc

      same_id : (r' : Request) (flags y : ℕ) (w : Wanted) → Admitted r' ≡ Admitted (record { flags = flags; id = y; wish = Path w }) → r'.id ≡ y
      same_id r' flags y w e = let same : r' ≡ record { flags = flags; id = y; wish = Path w } = cc in ap (λ (z : Request). z.id) same

      ids : (u : Asked) (y : ℕ) (l : List As) → Admitted r ≡ c.check u b → IsMet c u b y l → r.id ≡ y
      ids u y l e (meets flags w is along) = same_id r flags y w (e ∙ is)
      ids u y l e (refused flags above is) = absurd (let clash : Admitted r ≡ Wrong (Some (flags, y)) 4 2 = e ∙ is in cc)

  quiet_known : (e : Deed Segment) (ds : Transcript) (s t : Core) → ((a b : As) → standing a b (e ∷ ds) ≡ standing a b ds ++ []) → ((a b : As) → asks a b (e ∷ ds) ≡ asks a b ds + 0) → ((a : As) → outputs_at a e ≡ []) →
      ((d : As) → (t.elements d).pending ≡ (s.elements d).pending) → ((d b : As) → Last (t.elements d).ways b ≡ Last (s.elements d).ways b) → t.parent ≡ s.parent → Known ds s → Known (e ∷ ds) t
  quiet_known e ds s t same count outs rows ways up k = record {
    low = k.low;
    ids = quiet_ids k.low e ds s.elements t.elements s.parent t.parent same count rows ways (ap (λ (z : parent.Parent). z.pending) up) (λ b. ap (λ (z : parent.Parent). Last z.ways b) up) k.ids;
    kids = subst AreKids (sym up) k.kids;
    sound = (quiet_sound c e outs, k.sound);
  }

  pub act_known : (ds : Transcript) (s t : Core) (es : Transcript) → Stand c n ds s → Prem ds → ((d : As) → ArePending (s.elements d).pending) → ArePending s.parent.pending → Known ds s → Acts Pin Segment c n open_of s es t → Prem (es ++ ds) → Known (es ++ ds) t
  act_known ds s t es stand old are are_up k (rests s' t' same) = λ prem. known_state ds k.low s.elements s.parent t same.elements same.parent k.ids k.kids k.sound
  act_known ds s t es stand old are are_up k (hears i bytes m s' read) =
      give_known (element_of n i) (Outside i) m s [] ds are are_up k (λ a is. absurd (let out : Outside i ≡ Inner a = is in cc))
  act_known ds s t es stand old are are_up k (carries a b bytes rest m s' u is read same) =
      let f = first a b bytes rest s ds stand is in
      let meant = first_is a b bytes rest m s ds stand old.0 is read f.0 f.1 f.2 in
      let q = pop_known a b s ds f.0 f.1 f.2 k in
      give_known b (Inner a) m u (Pops a b ∷ []) ds
      (subst (λ (E : Elements). (d : As) → ArePending (E d).pending) (sym same.elements) are) (subst (λ (K : parent.Parent). ArePending K.pending) (sym same.parent) are_up)
      (record {
        low = q.0.low;
        ids = subst (λ (E : Elements). Ids q.0.low (Pops a b ∷ ds) E u.parent) (sym same.elements) (subst (λ (K : parent.Parent). Ids q.0.low (Pops a b ∷ ds) s.elements K) (sym same.parent) q.0.ids);
        kids = subst AreKids (sym same.parent) q.0.kids;
        sound = q.0.sound;
      })
      (λ a' peer asked is' r admitted.
      let here : a ≡ a' = cc in
      subst (λ (z : As). r.id ≤ q.0.low z b) here (q.1 r.id (taken_id a b ds f.0 f.1 f.2 k.sound old.1 m meant asked is' r admitted)))
  act_known ds s t es stand old are are_up k (nods a b bytes rest s' is) = λ prem.
      let f = first a b bytes rest s ds stand is in
      let q = (pop_known a b s ds f.0 f.1 f.2 k).0 in record { low = q.low; ids = q.ids; kids = q.kids; sound = q.sound }
  act_known ds s t es stand old are are_up k (hands i bytes s' t' same) = λ prem.
      quiet_known (Hands i bytes) ds s t (λ a b. refl) (λ a b. refl) (λ a. refl) (λ d. ap (λ (f : Elements). (f d).pending) same.elements) (λ d b. ap (λ (f : Elements). Last (f d).ways b) same.elements) same.parent k
  act_known ds s t es stand old are are_up k (rises at p s') = rise_known at p s ds k
  act_known ds s t es stand old are are_up k (falls at p s') = fall_known at p s ds k
  act_known ds s t es stand old are are_up k (says at p o s') = λ prem.
      let out : Output = record { to = p; message = own_message o } in
      let none : NoneAsks (out ∷ []) = (own_none o, tt) in
      known_state (Says at out ∷ ds) k.low s.elements s.parent (puts Pin Segment c n open_of at (out ∷ []) s) (puts_elements c n at (out ∷ []) s) (puts_parent c n at (out ∷ []) s)
      (node_ids k.low at (out ∷ []) (Says at out) ds s.elements s.elements s.parent s.parent (λ a. refl) (λ a b xs. refl) k.ids.names (λ a b miss. refl)
      (λ b. (rising_none b (out ∷ []) (last_of s.elements s.parent at b) none, omega arith)) (λ a b id l w. inl w) k.ids.once k.ids)
      k.kids (sound_deed c at (out ∷ []) (Says at out) (λ a. refl) (good_none c (out ∷ []) none), k.sound)
  act_known ds s t es stand old are are_up k (clears x s') = λ prem. record {
    low = k.low;
    ids = clear_ids k.low x.lower x.upper ds s.elements s.parent k.ids;
    kids = k.kids;
    sound = (quiet_sound c (Clears x.lower x.upper) (λ a. refl), k.sound);
  }
  act_known ds s t es stand old are are_up k (expires now s') = λ prem. record {
    low = k.low;
    ids = quiet_ids k.low (Expires now) ds s.elements (λ d. ticked now (s.elements d)) s.parent s.parent (λ a b. refl) (λ a b. refl) (λ d. refl) (λ d b. refl) refl (λ b. refl) k.ids;
    kids = k.kids;
    sound = (quiet_sound c (Expires now) (λ a. refl), k.sound);
  }

  pub load_known : (ds : Transcript) (s : Plant) (d : As) (g : Rows) → Known ds s → Known (Loads d g ∷ ds) (load_new c n d g s).state
  load_known ds s d g k = quiet_known (Loads d g) ds s (load_new c n d g s).state (λ a b. refl) (λ a b. refl) (λ a. refl) (λ d'. refl) (λ d' b. refl) refl k

  pub solve_known : (ds : Transcript) (s : Plant) (d : As) (k : ℕ) (h : Happened) → ((d' : As) → ArePending (s.elements d').pending) → Known ds s → ElementSolves c n d k s h → Known (h.deeds ++ ds) h.state
  solve_known ds s d k h are known x =
      let r = commit c (place n d) (k, x.held) x.down s.clock (λ b. b.segment) (job_found x.rows.source_known x.rows.target_known x.rows.best) (s.elements d) in
      let v = with_element Pin Segment c n open_of d r.element s in
      let e : Deed Segment = Solves d k r.outputs r.element.keys.issued in
      let calm = calm_commit Pin Segment c (place n d) (k, x.held) x.down s.clock (λ b. b.segment) x.rows.source_known x.rows.target_known x.rows.best (s.elements d) in
      let subs = commit_subs Pin Segment c (place n d) (k, x.held) x.down s.clock (λ b. b.segment) x.rows.source_known x.rows.target_known x.rows.best (s.elements d) in
      let moves = lower.commit_moves Pin Segment (Outside 0) c (place n d) (k, x.held) x.down s.clock (λ b. b.segment) x.rows.source_known x.rows.target_known x.rows.best (s.elements d) (are d)
      (in_flip (k, x.held) (s.elements d).pending.rows (lookup_in k (s.elements d).pending.rows x.held x.is_held)) in
      subst (λ (h' : Happened). Known (h'.deeds ++ ds) h'.state) (sym x.is)
      (known_state (e ∷ ds) known.low (set_as d r.element s.elements) s.parent (puts Pin Segment c n open_of d r.outputs v) (puts_elements c n d r.outputs v) (puts_parent c n d r.outputs v)
      (element_ids known.low e ds s.elements s.parent (λ a b xs. refl) known.ids d x.upper r (λ a. refl)
      (λ a y l w.
      let g = subs w.0 (in_unflip w.0 r.element.pending.rows w.1) in
      known.ids.names a d y g.0.1.item.sequence
      (subst (λ (z : Bool). cond z (upper.Named s.parent (Inner a) y) (lower.Named Pin Segment (s.elements d) (Inner a) y g.0.1.item.sequence)) (sym x.upper) (g.0, in_flip g.0 (s.elements d).pending.rows g.1, sym g.2 ∙ w.2, refl)))
      (λ b. subst (λ (ws : List element.Way). Rising (put_into b r.outputs) (Last (s.elements d).ways b) (Last ws b) × (Last ws b ≤ Last (s.elements d).ways b + count_asks (put_into b r.outputs))) (sym calm.ways)
      (rising_none b r.outputs (Last (s.elements d).ways b) calm.none, omega arith))
      moves.old)
      known.kids (sound_deed c d r.outputs e (λ a. refl) (good_none c r.outputs calm.none), known.sound))

  commit_rows : (h : AskingRow) (a : Option Found) (k : parent.Parent) (g : AskingRow) → In g (parent.commit c h a k).parent.pending.rows → In g k.pending.rows
  commit_rows h None k g i = was_in (nat_eq h.0) k.pending.rows g i
  commit_rows h (Some a) k g i = was_in (nat_eq h.0) k.pending.rows g i

  pub upper_known : (ds : Transcript) (s : Plant) (k : ℕ) (h : Happened) → ArePending s.parent.pending → Known ds s → ParentSolves c n k s h → Known (h.deeds ++ ds) h.state
  upper_known ds s k h are known x =
      let r = parent.commit c (k, x.held) x.answer s.parent in
      let v = with_parent Pin Segment c n open_of r.parent s in
      let e : Deed Segment = Solves parent_as k r.outputs [] in
      let calm = above.calm_commit c (k, x.held) x.answer s.parent are in
      subst (λ (h' : Happened). Known (h'.deeds ++ ds) h'.state) (sym x.is)
      (known_state (e ∷ ds) known.low s.elements r.parent (puts Pin Segment c n open_of parent_as r.outputs v) (puts_elements c n parent_as r.outputs v) (puts_parent c n parent_as r.outputs v)
      (parent_ids known.low e ds s.elements s.parent (λ a b xs. refl) known.ids r (λ a. refl)
      (λ a y w. known.ids.names a parent_as y [] (w.0, commit_rows (k, x.held) x.answer s.parent w.0 w.1, w.2))
      (λ b. subst (λ (ws : List element.Way). Rising (put_into b r.outputs) (Last s.parent.ways b) (Last ws b) × (Last ws b ≤ Last s.parent.ways b + count_asks (put_into b r.outputs))) (sym calm.ways)
      (rising_none b r.outputs (Last s.parent.ways b) calm.none, omega arith))
      (λ w i. inl (i.0, commit_rows (k, x.held) x.answer s.parent i.0 i.1, i.2))
      (λ q y. let a = calm.fewer q y in let b = known.ids.once q y in omega arith))
      (λ w i. known.kids w (i.0, commit_rows (k, x.held) x.answer s.parent i.0 i.1, i.2))
      (sound_deed c parent_as r.outputs e (λ a. refl) (good_none c r.outputs calm.none), known.sound))
