-- What is taken from an inner queue is what stood there first, as long as all that is sent is in written form; so messages of
-- requests have one each.
use Rattle.std.proofs.Common.{◌≡◌, ℕ, Bool, true, false, cond, Some, List, [], ◌∷◌, ◌++◌, inl, inr, sym, ◌∙◌, ap, subst, refl}
use Rattle.plant_model.specs.Types.{As, Peer, Outside, Inner, Message, Own, NetworkParts}
use Rattle.pcep_messages.specs.Spelling.{IsWritten}
use Rattle.pcep_session.specs.declared.actions.Own.TheVariants as own
use Rattle.request_table.specs.Pending.{same_peer}
use Rattle.disclosure.specs.Shown.{open_of}
use Rattle.plant_model.specs.declared.output.Output.{Output}
use Rattle.plant_text.specs.Names.{same_as, same_link, parent_as}
use Rattle.plant_model.specs.Wire.{Bytes, Codec}
use Rattle.plant_model.specs.Laws.{IsCodec}
use Rattle.plant_model.specs.Element.{upped, downed}
use Rattle.plant_model.specs.Taking.{take}
use Rattle.plant_model.specs.Solving.{commit, job_found}
use Rattle.plant_model.specs.Parent as parent
use Rattle.plant_text.specs.Settings.{class_of}
use Rattle.plant_model.specs.Settings.{place, family}
use Rattle.plant_model.specs.State.{State, Loads, Pops, Takes, Says, Ups, Downs, Clears, Solves, Expires, Hands}
use Rattle.plant_model.specs.Deeds.{Going, element_of, own_message, with_parent, with_element, puts, give, rise, fall}
use Rattle.plant_model.specs.Plant.{Pin, Segment, Plant, PlantDeed, Happened, Entry, Run, deeds_of, ElementSolves, ParentSolves}
use Rattle.plant_laws.specs.Transcript.{Transcript, Standing, standing, standing_of, put_into, left_of, tail_of, outputs_at}
use Rattle.plant_laws.proofs.Runs.Acts.{Acts, rests, hears, carries, nods, hands, rises, falls, says, clears, expires}
use Rattle.plant_laws.specs.Standing.{messages, texts}
use Rattle.plant_laws.proofs.Runs.Induction.{run_holds}
use Rattle.plant_laws.proofs.Runs.Queues.{Stand, act_stands, sent_stands, left_stands}
use Rattle.plant_laws.proofs.Runs.Rows.{In, in_append}
use Rattle.plant_laws.proofs.Once.Takes.{IsSingle}
use Rattle.plant_laws.proofs.Once.Opened.{AreSingle, single_deed, Holds}
use Rattle.plant_laws.proofs.Once.OpenedRuns.{run_opened}
use Rattle.plant_laws.proofs.Runs.Inboxes.{outside_deed, AreOutsideSingle, run_outside}
use Rattle.plant_laws.proofs.WrittenForm.Sent.{Outs, AreSent, deed_outs, run_sent}

-- the message stood first in the queue, and was popped just before
abbrev pub StoodFirst : As → As → Message → Transcript → Type 0
StoodFirst a b m [] = ⊥
StoodFirst a b m (f ∷ older) = (f ≡ Pops a b) × ((put : Transcript) × (rest : List Standing) × (standing a b older ≡ record { message = m; put = put } ∷ rest))

abbrev pub read_deed : PlantDeed → Transcript → Type 0
read_deed (Takes b (Inner a) m os) older = StoodFirst a b m older
read_deed (Takes b (Outside i) m os) older = Unit {0}
read_deed (Loads at g) older = Unit {0}
read_deed (Pops a b) older = Unit {0}
read_deed (Says at o) older = Unit {0}
read_deed (Ups at p) older = Unit {0}
read_deed (Downs at p os) older = Unit {0}
read_deed (Clears a b) older = Unit {0}
read_deed (Solves at k os keys) older = Unit {0}
read_deed (Expires now) older = Unit {0}
read_deed (Hands i bytes) older = Unit {0}

-- each message that was taken from an inner queue is the one that stood there first
abbrev pub AreRead : Transcript → Type 0
AreRead [] = Unit {0}
AreRead (d ∷ ds) = read_deed d ds × AreRead ds

-- what stands in a queue was sent
module _ (Q : Message → Type 0) where
  in_put : (b : As) (os : List Output) (m : Message) → Outs Q os → In m (put_into b os) → Q m
  in_put b [] m outs none = absurd none
  in_put b (o ∷ os) m outs h = go (same_peer o.to (Inner b)) (in_put b os m outs.1) h
    where
      go : (t : Bool) → (In m (put_into b os) → Q m) → In m (cond t (o.message ∷ put_into b os) (put_into b os)) → Q m
      go true rec (inl e) = subst Q e outs.0
      go true rec (inr h) = rec h
      go false rec h = rec h

  outs_at : (a : As) (d : PlantDeed) → deed_outs Q d → Outs Q (outputs_at a d)
  outs_at a (Takes at p m os) h = pick (same_as at a) os h
    where
      pick : (b : Bool) (os : List Output) → Outs Q os → Outs Q (cond b os [])
      pick true os h = h
      pick false os h = tt
  outs_at a (Says at o) h = pick (same_as at a) (o ∷ []) h
    where
      pick : (b : Bool) (os : List Output) → Outs Q os → Outs Q (cond b os [])
      pick true os h = h
      pick false os h = tt
  outs_at a (Downs at p os) h = pick (same_as at a) os h
    where
      pick : (b : Bool) (os : List Output) → Outs Q os → Outs Q (cond b os [])
      pick true os h = h
      pick false os h = tt
  outs_at a (Solves at k os keys) h = pick (same_as at a) os h
    where
      pick : (b : Bool) (os : List Output) → Outs Q os → Outs Q (cond b os [])
      pick true os h = h
      pick false os h = tt
  outs_at a (Loads at g) h = tt
  outs_at a (Pops x y) h = tt
  outs_at a (Ups at p) h = tt
  outs_at a (Clears x y) h = tt
  outs_at a (Expires now) h = tt
  outs_at a (Hands i bytes) h = tt

in_tail : {A : Type 0} (x : A) (xs : List A) → In x (tail_of xs) → In x xs
in_tail x [] h = h
in_tail x (y ∷ ys) h = inr h

in_cond : {A : Type 0} (b : Bool) (x : A) (xs ys zs : List A) → (In x xs → In x zs) → (In x ys → In x zs) → In x (cond b xs ys) → In x zs
in_cond true x xs ys zs f g h = f h
in_cond false x xs ys zs f g h = g h

pub in_left : {A : Type 0} (d : PlantDeed) (a b : As) (x : A) (xs : List A) → In x (left_of d a b xs) → In x xs
in_left (Pops from to) a b x xs h = in_cond (same_as from a) x (cond (same_as to b) (tail_of xs) xs) xs xs (in_cond (same_as to b) x (tail_of xs) xs xs (in_tail x xs) (λ h. h)) (λ h. h) h
in_left (Clears one other) a b x xs h = in_cond (same_link one other a b) x [] xs xs (λ h. absurd h) (λ h. h) h
in_left _ a b x xs h = h

pub in_standing_of : (m : Transcript) (x : Standing) (ms : List Message) → In x (standing_of m ms) → (x.put ≡ m) × In x.message ms
in_standing_of m x [] h = absurd h
in_standing_of m x (y ∷ ys) (inl e) = (sym (ap (λ (z : Standing). z.put) e), inl (ap (λ (z : Standing). z.message) e))
in_standing_of m x (y ∷ ys) (inr h) = let r = in_standing_of m x ys h in (r.0, inr r.1)

pub standing_sent : (Q : Message → Type 0) (a b : As) (ds : Transcript) (x : Standing) → AreSent Q ds → In x (standing a b ds) → Q x.message
standing_sent Q a b [] x sent none = absurd none
standing_sent Q a b (d ∷ ds) x sent h =
    elim (in_append x (left_of d a b (standing a b ds)) (standing_of (d ∷ ds) (put_into b (outputs_at a d))) h) [
      | inl old ↦ standing_sent Q a b ds x sent.1 (in_left d a b x (standing a b ds) old)
      | inr new ↦ in_put Q b (outputs_at a d) x.message (outs_at Q a d sent.0) (in_standing_of (d ∷ ds) x (put_into b (outputs_at a d)) new).1
    ]

own_single : (o : Own) → IsSingle (own_message o)
own_single (own.Open offer) = tt
own_single own.Keepalive = tt
own_single (own.Error kind value) = tt
own_single (own.Close why) = tt

-- every message of requests that is sent has one
pub sent_single : (c : Codec) (n : NetworkParts) (es : List Entry) (s : Plant) → Run c n es s → AreSent IsSingle (deeds_of c n es)
sent_single c n es s run = run_sent IsSingle (λ y w t rest. refl) (λ flags id a. tt) (λ flags id. tt) (λ rp kind value. tt) own_single c n es s run

pub are_single : (ds : Transcript) → AreOutsideSingle ds → AreRead ds → AreSent IsSingle ds → AreSingle ds
are_single [] out read sent = tt
are_single (d ∷ ds) out read sent = (one d ds out.0 read.0 sent.1, are_single ds out.1 read.1 sent.1)
  where
    first : (a b : As) (m : Message) (older : Transcript) → StoodFirst a b m older → AreSent IsSingle older → IsSingle m
    first a b m [] stood sent = absurd stood
    first a b m (f ∷ older) stood sent =
        let x : Standing = record { message = m; put = stood.1.0 } in
        standing_sent IsSingle a b older x sent.1 (subst (λ (xs : List Standing). In x xs) (sym stood.1.2) (inl refl))

    one : (d : PlantDeed) (older : Transcript) → outside_deed d → read_deed d older → AreSent IsSingle older → single_deed d
    one (Takes b (Inner a) m os) older out read sent = first a b m older read sent
    one (Takes b (Outside i) m os) older out read sent = out
    one (Loads at g) older out read sent = tt
    one (Pops a b) older out read sent = tt
    one (Says at o) older out read sent = tt
    one (Ups at p) older out read sent = tt
    one (Downs at p os) older out read sent = tt
    one (Clears a b) older out read sent = tt
    one (Solves at k os keys) older out read sent = tt
    one (Expires now) older out read sent = tt
    one (Hands i bytes) older out read sent = tt

module _ (c : Codec) (n : NetworkParts) (codec : IsCodec c) where
  abbrev Core : Type 0
  Core = State Pin Segment

  -- what a deed of each kind is, whether of an element or the parent
  give_shape : (at : As) (p : Peer) (m : Message) (s : Core) (es : Transcript) → (os : List Output) × ((give Pin Segment c n open_of at p m (record { state = s; deeds = es })).deeds ≡ Takes at p m os ∷ es)
  give_shape at p m s es = go (same_as at parent_as)
    where
      go : (b : Bool) → (os : List Output) × ((cond b
          (let r = parent.take c (family n) p m s.parent in
          let g : Going Pin Segment = record { state = puts Pin Segment c n open_of at r.outputs (with_parent Pin Segment c n open_of r.parent s); deeds = Takes at p m r.outputs ∷ es } in g)
          (let r = take c open_of (place n at) (s.current at) p (class_of n p) s.clock m (s.elements at) in
          let g : Going Pin Segment = record { state = puts Pin Segment c n open_of at r.outputs (with_element Pin Segment c n open_of at r.element s); deeds = Takes at p m r.outputs ∷ es } in g)).deeds ≡ Takes at p m os ∷ es)
      go true = ((parent.take c (family n) p m s.parent).outputs, refl)
      go false = ((take c open_of (place n at) (s.current at) p (class_of n p) s.clock m (s.elements at)).outputs, refl)

  fall_shape : (at : As) (p : Peer) (s : Core) → (os : List Output) × ((fall Pin Segment c n open_of at p (record { state = s; deeds = [] })).deeds ≡ Downs at p os ∷ [])
  fall_shape at p s = go (same_as at parent_as)
    where
      go : (b : Bool) → (os : List Output) × ((cond b
          (let r = parent.downed p s.parent in
          let g : Going Pin Segment = record { state = puts Pin Segment c n open_of at r.outputs (with_parent Pin Segment c n open_of r.parent s); deeds = Downs at p r.outputs ∷ [] } in g)
          (let r = downed p (s.elements at) in
          let g : Going Pin Segment = record { state = puts Pin Segment c n open_of at r.outputs (with_element Pin Segment c n open_of at r.element s); deeds = Downs at p r.outputs ∷ [] } in g)).deeds ≡ Downs at p os ∷ [])
      go true = ((parent.downed p s.parent).outputs, refl)
      go false = ((downed p (s.elements at)).outputs, refl)

  rise_shape : (at : As) (p : Peer) (s : Core) → (rise Pin Segment c n open_of at p (record { state = s; deeds = [] })).deeds ≡ Ups at p ∷ []
  rise_shape at p s = go (same_as at parent_as)
    where
      go : (b : Bool) → (cond b
          (let g : Going Pin Segment = record { state = with_parent Pin Segment c n open_of (parent.upped p s.parent) s; deeds = Ups at p ∷ [] } in g)
          (let g : Going Pin Segment = record { state = with_element Pin Segment c n open_of at (upped p (s.elements at)) s; deeds = Ups at p ∷ [] } in g)).deeds ≡ Ups at p ∷ []
      go true = refl
      go false = refl

  abbrev IfRead : Transcript → Type 0
  IfRead ds = AreSent IsWritten ds → AreRead ds

  abbrev Stands : Transcript → Core → Type 0
  Stands ds s = Stand c n ds s × IfRead ds

  -- the first message of a queue
  front : (a b : As) (bytes : Bytes) (rest : List Bytes) (m : Message) (s : Core) (ds : Transcript) → Stand c n ds s → AreSent IsWritten ds → s.queues a b ≡ bytes ∷ rest → c.read bytes ≡ Some m → StoodFirst a b m (Pops a b ∷ ds)
  front a b bytes rest m s ds stand sent is read = go (standing a b ds) refl
    where
      go : (xs : List Standing) → standing a b ds ≡ xs → StoodFirst a b m (Pops a b ∷ ds)
      go [] e =
          let no : bytes ∷ rest ≡ [] = sym is ∙ stand a b ∙ ap (λ (l : List Standing). texts c (messages l)) e in
          absurd (let out : bytes ∷ rest ≡ [] = no in cc)
      go (x ∷ xs) e =
          let both : bytes ∷ rest ≡ c.text x.message ∷ texts c (messages xs) = sym is ∙ stand a b ∙ ap (λ (l : List Standing). texts c (messages l)) e in
          let same : bytes ≡ c.text x.message = cc in
          let written : IsWritten x.message = standing_sent IsWritten a b ds x sent (subst (λ (l : List Standing). In x l) (sym e) (inl refl)) in
          let some : Some m ≡ Some x.message = sym read ∙ ap (λ z. c.read z) same ∙ codec.texts.reads x.message written in
          let meant : x.message ≡ m = cc in
          (refl, (x.put, xs, e ∙ ap (λ z. let y : Standing = record { message = z; put = x.put } in y ∷ xs) meant))

  act_read : (ds : Transcript) (s t : Core) (es : Transcript) → Stands ds s → Acts Pin Segment c n open_of s es t → IfRead (es ++ ds)
  act_read ds s t es held (rests s' t' same) = λ sent. held.1 sent
  act_read ds s t es held (hears i bytes m s' read) =
      let x = give_shape (element_of n i) (Outside i) m s [] in
      subst (λ (l : Transcript). IfRead (l ++ ds)) (sym x.1) (λ sent. (tt, held.1 sent.1))
  act_read ds s t es held (carries a b bytes rest m s' u is read same) =
      let x = give_shape b (Inner a) m u (Pops a b ∷ []) in
      subst (λ (l : Transcript). IfRead (l ++ ds)) (sym x.1) (λ sent. (front a b bytes rest m s ds held.0 sent.1.1 is read, (tt, held.1 sent.1.1)))
  act_read ds s t es held (rises at p s') = subst (λ (l : Transcript). IfRead (l ++ ds)) (sym (rise_shape at p s)) (λ sent. (tt, held.1 sent.1))
  act_read ds s t es held (falls at p s') = let x = fall_shape at p s in subst (λ (l : Transcript). IfRead (l ++ ds)) (sym x.1) (λ sent. (tt, held.1 sent.1))
  act_read ds s t es held _ = λ sent. (tt, held.1 sent.1)

  solve_stands : (ds : Transcript) (s : Plant) (d : As) (k : ℕ) (h : Happened) → Stands ds s → ElementSolves c n d k s h → Stands (h.deeds ++ ds) h.state
  solve_stands ds s d k h held x =
      let r = commit c (place n d) (k, x.held) x.down s.clock (λ b. b.segment) (job_found x.rows.source_known x.rows.target_known x.rows.best) (s.elements d) in
      subst (λ (h' : Happened). Stands (h'.deeds ++ ds) h'.state) (sym x.is)
      (sent_stands c n d r.outputs s (with_element Pin Segment c n open_of d r.element s) ds (Solves d k r.outputs r.element.keys.issued) refl (λ a. refl) (λ a b xs. refl) held.0, (λ sent. (tt, held.1 sent.1)))

  upper_stands : (ds : Transcript) (s : Plant) (k : ℕ) (h : Happened) → Stands ds s → ParentSolves c n k s h → Stands (h.deeds ++ ds) h.state
  upper_stands ds s k h held x =
      let r = parent.commit c (k, x.held) x.answer s.parent in
      subst (λ (h' : Happened). Stands (h'.deeds ++ ds) h'.state) (sym x.is)
      (sent_stands c n parent_as r.outputs s (with_parent Pin Segment c n open_of r.parent s) ds (Solves parent_as k r.outputs []) refl (λ a. refl) (λ a b xs. refl) held.0, (λ sent. (tt, held.1 sent.1)))

  -- Where all that is sent is in written form, each message is read as what was meant.
  pub run_read : (es : List Entry) (s : Plant) → Run c n es s → AreSent IsWritten (deeds_of c n es) → AreRead (deeds_of c n es)
  run_read es s run =
      (run_holds c n Stands ((λ a b. refl), (λ sent. tt))
      (λ ds s t es held act. (act_stands c n ds s t es held.0 act, act_read ds s t es held act))
      (λ ds s d g given held. (left_stands c n s s ds (Loads d g) (λ a. refl) (λ a b. held.0 a b), (λ sent. (tt, held.1 sent.1))))
      solve_stands upper_stands es s run).1

  pub run_single : (es : List Entry) (s : Plant) → Run c n es s → AreSent IsWritten (deeds_of c n es) → AreSingle (deeds_of c n es)
  run_single es s run sent = are_single (deeds_of c n es) (run_outside c n codec es s run).1 (run_read es s run sent) (sent_single c n es s run)

  -- The tables of every state of a run are those of the transcript.
  pub run_tables : (es : List Entry) (s : Plant) → Run c n es s → AreSent IsWritten (deeds_of c n es) → Holds c n (deeds_of c n es) s
  run_tables es s run sent = run_opened c n es s run (run_single es s run sent)
