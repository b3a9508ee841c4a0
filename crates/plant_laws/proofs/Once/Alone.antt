-- Each message that is taken asks once, or has one reply at most: from outside since frames are split, and between elements since
-- what is written is read again.
use Rattle.std.proofs.Common.{◌≡◌, ℕ, Bool, true, false, cond, List, [], ◌∷◌, ◌++◌, map, Option, Some, sym, ◌∙◌, ap, subst, inl, inr, refl, arith}
use Rattle.plant_model.specs.Types.{As, Addr, Peer, Outside, Inner, Answer, Wanted, Message, Own, NetworkParts}
use Rattle.disclosure.specs.Shown.{open_of}
use Rattle.pcep_messages.specs.declared.message.Message.TheVariants as messages
use Rattle.pcep_session.specs.declared.actions.Own.TheVariants as own
use Rattle.request_table.specs.Pending.{same_peer}
use Rattle.plant_model.specs.declared.output.Output.{Output}
use Rattle.plant_text.specs.Names.{same_as, parent_as}
use Rattle.plant_model.specs.Wire.{Bytes, Codec}
use Rattle.plant_model.specs.Writing.{reply_message, busy, error_message, request_message}
use Rattle.plant_model.specs.Element.{upped, downed, lost, sent_through}
use Rattle.plant_model.specs.Taking.{take}
use Rattle.plant_model.specs.Solving.{commit, job_found}
use Rattle.plant_model.specs.Parent as parent
use Rattle.plant_text.specs.Settings.{Adjacency, adjacency, class_of}
use Rattle.plant_model.specs.Settings.{place, family}
use Rattle.plant_model.specs.State.{Deed, Loads, Pops, Takes, Says, Ups, Downs, Clears, Solves, Expires, Hands}
use Rattle.plant_model.specs.Deeds.{element_of, own_message, with_parent, with_element, puts, give, rise, fall}
use Rattle.plant_model.specs.Plant.{Pin, Segment, Plant, Happened, Entry, Run, deeds_of, ElementSolves, ParentSolves}
use Rattle.plant_model.specs.Laws.{IsCodec}
use Rattle.plant_laws.specs.Transcript.{Transcript, Within, Standing, standing, standing_of, left_of, outputs_at, put_into}
use Rattle.plant_laws.specs.Standing.{messages as messages_in, texts}
use Rattle.plant_laws.proofs.Runs.Queues.{Stand, act_stands, left_stands, sent_stands}
use Rattle.plant_laws.proofs.Once.Handing.{In, In-append, In-left}
use Rattle.plant_laws.proofs.Numbering.Sends.{IsAlone, Each, Each-within}
use Rattle.plant_laws.proofs.WrittenForm.Written.{AllOut, take_all, take_up, commit_all, commit_up, lost_all}
use Rattle.plant_laws.proofs.Runs.Trips.{AllIn, Core, Move, at_start, after_pop, with_rest, broken, Step, rests, hears, carries, keeps, hands, rises, shuts, says, expires, breaks, drops}
use Rattle.plant_laws.proofs.Runs.StepActs.{step_holds}
use Rattle.plant_laws.proofs.Runs.Acts.{IsHeard}
use Rattle.plant_laws.proofs.Runs.Heeding.{heeded_alone}
use Rattle.plant_laws.proofs.Runs.Travel.{run_travels}
use Rattle.plant_laws.proofs.WrittenForm.Again.{EachRead, AreReadAgain}
use Rattle.std.specs.Prelude.{Contains}
use Rattle.std.proofs.lemmas.List.Elements.{Contains-push, Contains-append_left, Contains-append_right}
use Rattle.plant_model.specs.Events.{split_all}

-- a message split off a frame
abbrev pub IsSplit : Codec → Bytes → Type 0
IsSplit c bytes = (frame : Bytes) × Contains (c.split frame) bytes

abbrev AloneOut : Peer → Message → Type 0
AloneOut p m = IsAlone m

abbrev pub AllAlone : List Output → Type 0
AllAlone os = AllOut AloneOut os

alone_reply : (p : Peer) (flags id : ℕ) (a : Answer) → AloneOut p (reply_message flags id a)
alone_reply p flags id a = omega arith

alone_busy : (p : Peer) (flags id : ℕ) → AloneOut p (busy flags id)
alone_busy p flags id = tt

alone_error : (p : Peer) (rp : Option (ℕ × ℕ)) (kind value : ℕ) → AloneOut p (error_message rp kind value)
alone_error p rp kind value = tt

alone_request : (p : Peer) (id : ℕ) (w : Wanted) (t : Addr) (rest : List As) → AloneOut p (request_message id w t rest)
alone_request p id w t rest = refl

alone_own : (o : Own) → IsAlone (own_message o)
alone_own (own.Open offer) = tt
alone_own own.Keepalive = tt
alone_own (own.Error kind value) = tt
alone_own (own.Close why) = tt

abbrev pub IsAloneDeed : Deed Segment → Type 0
IsAloneDeed (Takes at p m os) = IsAlone m × AllAlone os
IsAloneDeed (Says at o) = IsAlone o.message
IsAloneDeed (Downs at p os) = AllAlone os
IsAloneDeed (Solves at k os keys) = AllAlone os
IsAloneDeed _ = Unit {0}

-- what is put into a queue
put_in : (b : As) (os : List Output) → AllAlone os → (m : Message) → In m (put_into b os) → IsAlone m
put_in b [] h m in' = absurd in'
put_in b (o ∷ os) h m in' = go (same_peer o.to (Inner b)) in' (put_in b os h.1 m)
  where
    go : (t : Bool) → In m (cond t (o.message ∷ put_into b os) (put_into b os)) → (In m (put_into b os) → IsAlone m) → IsAlone m
    go true (inl is) rec = subst IsAlone (sym is) h.0
    go true (inr in'') rec = rec in''
    go false in'' rec = rec in''

cond_alone : (t : Bool) (os : List Output) → AllAlone os → AllAlone (cond t os [])
cond_alone true os h = h
cond_alone false os h = tt

outputs_alone : (a : As) (e : Deed Segment) → IsAloneDeed e → AllAlone (outputs_at a e)
outputs_alone a (Takes at p m os) h = cond_alone (same_as at a) os h.1
outputs_alone a (Says at o) h = cond_alone (same_as at a) (o ∷ []) (h, tt)
outputs_alone a (Downs at p os) h = cond_alone (same_as at a) os h
outputs_alone a (Solves at k os keys) h = cond_alone (same_as at a) os h
outputs_alone a _ h = tt

new_in : (m : Transcript) (s : Standing) (ms : List Message) → In s (standing_of m ms) → In s.message ms
new_in m s [] h = absurd h
new_in m s (x ∷ ms) (inl same) = inl (ap (λ (t : Standing). t.message) same)
new_in m s (x ∷ ms) (inr h) = inr (new_in m s ms h)

standing_alone : (a b : As) (ds : Transcript) → Each IsAloneDeed ds → (s : Standing) → In s (standing a b ds) → IsAlone s.message
standing_alone a b [] all s h = absurd h
standing_alone a b (e ∷ ds) all s h =
    elim (In-append s (left_of e a b (standing a b ds)) (standing_of (e ∷ ds) (put_into b (outputs_at a e))) h) [
      | inl old ↦ standing_alone a b ds all.1 s (In-left e a b s (standing a b ds) old)
      | inr new ↦ put_in b (outputs_at a e) (outputs_alone a e all.0) s.message (new_in (e ∷ ds) s (put_into b (outputs_at a e)) new)
    ]

module _ (c : Codec) where
  read_in : (ms : List Message) → EachRead c ms → (m : Message) → In m ms → c.read (c.text m) ≡ Some m
  read_in [] h m in' = absurd in'
  read_in (x ∷ ms) h m (inl is) = subst (λ (y : Message). c.read (c.text y) ≡ Some y) (sym is) h.0
  read_in (x ∷ ms) h m (inr in') = read_in ms h.1 m in'

  pub standing_read : (a b : As) (ds : Transcript) → AreReadAgain c ds → (s : Standing) → In s (standing a b ds) → c.read (c.text s.message) ≡ Some s.message
  standing_read a b [] all s h = absurd h
  standing_read a b (e ∷ ds) all s h =
      elim (In-append s (left_of e a b (standing a b ds)) (standing_of (e ∷ ds) (put_into b (outputs_at a e))) h) [
        | inl old ↦ standing_read a b ds all.1 s (In-left e a b s (standing a b ds) old)
        | inr new ↦ read_in (put_into b (outputs_at a e)) (all.0 a b) s.message (new_in (e ∷ ds) s (put_into b (outputs_at a e)) new)
      ]

  -- the first that stands is what is read
  first_of : (bytes : Bytes) (rest : List Bytes) (l : List Standing) → texts c (messages_in l) ≡ bytes ∷ rest → (x : Standing) × (xs : List Standing) × (l ≡ x ∷ xs) × (c.text x.message ≡ bytes)
  first_of bytes rest [] e = cc
  first_of bytes rest (x ∷ xs) e = (x, xs, refl, (cc))

  pub first_read : (n : NetworkParts) (a b : As) (ds : Transcript) (s : Core) (bytes : Bytes) (rest : List Bytes) (m : Message) → AreReadAgain c ds → Stand c n ds s → s.queues a b ≡ bytes ∷ rest → c.read bytes ≡ Some m →
      (x : Standing) × (xs : List Standing) × (standing a b ds ≡ x ∷ xs) × (x.message ≡ m)
  first_read n a b ds s bytes rest m again stand is read =
      let f = first_of bytes rest (standing a b ds) (sym (stand a b) ∙ is) in
      let read' = standing_read a b ds again f.0 (subst (λ (l : List Standing). In f.0 l) (sym f.2) (inl refl)) in
      let same : Some f.0.message ≡ Some m = sym read' ∙ ap c.read f.3 ∙ read in
      (f.0, f.1, f.2, (cc))

tail_again : (c : Codec) (es ds : Transcript) → AreReadAgain c (es ++ ds) → AreReadAgain c ds
tail_again c [] ds h = h
tail_again c (e ∷ es) ds h = tail_again c es ds h.1

-- what goes into an inbox is split off a frame
items_are_split : (c : Codec) (n : NetworkParts) (fs : List Bytes) → AllIn c n (IsSplit c) (split_all c fs)
items_are_split c n [] = tt
items_are_split c n (f ∷ fs) = go (c.split f) (λ bytes in'. (f, in')) (items_are_split c n fs)
  where
    go : (xs : List Bytes) → ((bytes : Bytes) → Contains xs bytes → IsSplit c bytes) → AllIn c n (IsSplit c) (split_all c fs) → AllIn c n (IsSplit c) (map Some xs ++ split_all c fs)
    go [] all rest = rest
    go (x ∷ xs) all rest = (all x (Contains-append_left (x ∷ []) xs x (Contains-push [] x)), go xs (λ bytes in'. all bytes (Contains-append_right (x ∷ []) xs bytes in')) rest)

module _ (c : Codec) (codec : IsCodec c) (n : NetworkParts) where
  abbrev AllSo : Transcript → Type 0
  AllSo ds = Each IsAloneDeed ds

  alone_pick : (ds : Transcript) (b : Bool) (g h : Move) → AllSo (g.deeds ++ ds) → AllSo (h.deeds ++ ds) → AllSo ((cond b g h).deeds ++ ds)
  alone_pick ds true g h x y = x
  alone_pick ds false g h x y = y

  give_alone : (at : As) (p : Peer) (m : Message) (s : Core) (es ds : Transcript) → IsAlone m → AllSo (es ++ ds) →
      AllSo ((give Pin Segment c n open_of at p m (record { state = s; deeds = es })).deeds ++ ds)
  give_alone at p m s es ds alone all =
      let r = parent.take c (family n) p m s.parent in
      let t = take c open_of (place n at) (s.current at) p (class_of n p) s.clock m (s.elements at) in
      alone_pick ds (same_as at parent_as)
      (record { state = puts Pin Segment c n open_of at r.outputs (with_parent Pin Segment c n open_of r.parent s); deeds = Takes at p m r.outputs ∷ es })
      (record { state = puts Pin Segment c n open_of at t.outputs (with_element Pin Segment c n open_of at t.element s); deeds = Takes at p m t.outputs ∷ es })
      ((alone, take_up AloneOut alone_reply alone_busy alone_error alone_request c (family n) p m s.parent), all)
      ((alone, take_all AloneOut alone_reply alone_busy alone_error alone_request Pin Segment c open_of (place n at) (s.current at) p (class_of n p) s.clock m (s.elements at)), all)

  fall_alone : (at : As) (p : Peer) (g : Move) (ds : Transcript) → AllSo (g.deeds ++ ds) → AllSo ((fall Pin Segment c n open_of at p g).deeds ++ ds)
  fall_alone at p g ds all =
      let r = parent.downed p g.state.parent in
      let t = downed p (g.state.elements at) in
      alone_pick ds (same_as at parent_as)
      (record { state = puts Pin Segment c n open_of at r.outputs (with_parent Pin Segment c n open_of r.parent g.state); deeds = Downs at p r.outputs ∷ g.deeds })
      (record { state = puts Pin Segment c n open_of at t.outputs (with_element Pin Segment c n open_of at t.element g.state); deeds = Downs at p t.outputs ∷ g.deeds })
      (lost_all AloneOut alone_reply alone_busy alone_error alone_request (parent.lost p g.state.parent.pending.rows), all)
      (lost_all AloneOut alone_reply alone_busy alone_error alone_request (lost p (g.state.elements at).pending.rows), all)

  rise_alone : (at : As) (p : Peer) (s : Core) (ds : Transcript) → AllSo ds → AllSo ((rise Pin Segment c n open_of at p (at_start s)).deeds ++ ds)
  rise_alone at p s ds all =
      alone_pick ds (same_as at parent_as)
      (record { state = with_parent Pin Segment c n open_of (parent.upped p s.parent) s; deeds = Ups at p ∷ [] })
      (record { state = with_element Pin Segment c n open_of at (upped p (s.elements at)) s; deeds = Ups at p ∷ [] })
      (tt, all) (tt, all)

  broken_alone : (x : Adjacency) (g : Move) (ds : Transcript) → AllSo (g.deeds ++ ds) → AllSo ((broken c n x g).deeds ++ ds)
  broken_alone x g ds all =
      let f = fall Pin Segment c n open_of x.lower (Inner x.upper) g in
      (tt, fall_alone x.upper (Inner x.lower) f ds (fall_alone x.lower (Inner x.upper) g ds all))

  read_alone : (bytes : Bytes) (m : Message) → c.read bytes ≡ Some m → IsSplit c bytes → IsAlone m
  read_alone bytes (messages.PcReq asks) read split = codec.stream.splits split.0 bytes asks split.1 read
  read_alone bytes (messages.PcRep replies) read split = codec.stream.splits_replies split.0 bytes replies split.1 read
  read_alone bytes (messages.PcNtf notices) read split = tt
  read_alone bytes (messages.PcErr reports) read split = tt
  read_alone bytes (messages.Open body) read split = tt
  read_alone bytes messages.Keepalive read split = tt
  read_alone bytes (messages.Close why) read split = tt
  read_alone bytes (messages.Other kind) read split = tt

  heard_alone : (i : ℕ) (s : Core) (bytes : Bytes) (m : Message) → IsHeard Pin Segment c n open_of i s bytes m → IsSplit c bytes → IsAlone m
  heard_alone i s bytes m heard split =
      subst IsAlone (sym heard.2) (heeded_alone c (λ id. sent_through (Outside i) id (s.elements (element_of n i)).pending.rows) heard.0 (read_alone bytes heard.0 heard.1 split))

  step_alone : (ds : Transcript) (s t : Core) (es : Transcript) → AreReadAgain c ds → Stand c n ds s → AllSo ds → Step c n (IsSplit c) s es t → AllSo (es ++ ds)
  step_alone ds s t es again stand all (rests s' t' same) = all
  step_alone ds s t es again stand all (hears i bytes m s' read split) = give_alone (element_of n i) (Outside i) m s [] ds (heard_alone i s bytes m read split) all
  step_alone ds s t es again stand all (carries a b bytes rest m s' u is read same) =
      let f = first_read c n a b ds s bytes rest m again stand is read in
      let first = standing_alone a b ds all f.0 (subst (λ (l : List Standing). In f.0 l) (sym f.2) (inl refl)) in
      give_alone b (Inner a) m u (Pops a b ∷ []) ds (subst IsAlone f.3 first) (tt, all)
  step_alone ds s t es again stand all (rises at p s') = rise_alone at p s ds all
  step_alone ds s t es again stand all (shuts i s') = fall_alone (element_of n i) (Outside i) (at_start s) ds all
  step_alone ds s t es again stand all (says at p o s') = (alone_own o, all)
  step_alone ds s t es again stand all (breaks x s') = broken_alone x (at_start s) ds all
  step_alone ds s t es again stand all (drops a b bytes rest s' is) = broken_alone (adjacency a b) (after_pop a b (with_rest a b rest s)) ds (tt, all)
  step_alone ds s t es again stand all _ = (tt, all)

  abbrev Both : Transcript → Plant → Type 0
  Both ds s = AreReadAgain c ds → Stand c n ds s × AllSo ds

  solve_alone : (ds : Transcript) (s : Plant) (d : As) (k : ℕ) (h : Happened) → Both ds s → ElementSolves c n d k s h → Both (h.deeds ++ ds) h.state
  solve_alone ds s d k h held x =
      let r = commit c (place n d) (k, x.held) x.down s.clock (λ b. b.segment) (job_found x.rows.source_known x.rows.target_known x.rows.best) (s.elements d) in
      subst (λ (h' : Happened). Both (h'.deeds ++ ds) h'.state) (sym x.is)
      (λ again. (
        sent_stands c n d r.outputs s (with_element Pin Segment c n open_of d r.element s) ds (Solves d k r.outputs r.element.keys.issued) refl (λ a. refl) (λ a b xs. refl) (held again.1).0,
        (commit_all AloneOut alone_reply alone_busy alone_error alone_request Pin Segment c (place n d) (k, x.held) x.down s.clock (λ b. b.segment) x.rows.source_known x.rows.target_known x.rows.best (s.elements d), (held again.1).1),
      ))

  upper_alone : (ds : Transcript) (s : Plant) (k : ℕ) (h : Happened) → Both ds s → ParentSolves c n k s h → Both (h.deeds ++ ds) h.state
  upper_alone ds s k h held x =
      let r = parent.commit c (k, x.held) x.answer s.parent in
      subst (λ (h' : Happened). Both (h'.deeds ++ ds) h'.state) (sym x.is)
      (λ again. (
        sent_stands c n parent_as r.outputs s (with_parent Pin Segment c n open_of r.parent s) ds (Solves parent_as k r.outputs []) refl (λ a. refl) (λ a b xs. refl) (held again.1).0,
        (commit_up AloneOut alone_reply alone_busy alone_error alone_request c (k, x.held) x.answer s.parent, (held again.1).1),
      ))

  run_alone : (es : List Entry) (s : Plant) → Run c n es s → AreReadAgain c (deeds_of c n es) → Each IsAloneDeed (deeds_of c n es)
  run_alone es s run again =
      ((run_travels c n (IsSplit c) (items_are_split c n) Both (λ none. ((λ a b. refl), tt))
      (λ ds s t es held step again.
      let h = held (tail_again c es ds again) in (
        step_holds c n (IsSplit c) (λ ds s. Stand c n ds s) (λ ds s t es h a. act_stands c n ds s t es h a) ds s t es h.0 step,
        step_alone ds s t es (tail_again c es ds again) h.0 h.1 step,
      ))
      (λ ds s d g given held again. (left_stands c n s s ds (Loads d g) (λ a. refl) (λ a b. (held again.1).0 a b), (tt, (held again.1).1)))
      solve_alone upper_alone es s run).0 again).1

pub takes_alone : (c : Codec) → IsCodec c → (n : NetworkParts) (es : List Entry) (s : Plant) → Run c n es s → AreReadAgain c (deeds_of c n es) →
    (d : As) (p : Peer) (m : Message) (os : List Output) (older : Transcript) → Within (Takes d p m os ∷ older) (deeds_of c n es) → IsAlone m
takes_alone c codec n es s run again d p m os older w =
    (Each-within IsAloneDeed (deeds_of c n es) (run_alone c codec n es s run again) (Takes d p m os) older w).0

-- and so has each message that is sent
in_alone : (os : List Output) → AllAlone os → (o : Output) → In o os → IsAlone o.message
in_alone [] all o none = absurd none
in_alone (x ∷ os) all o (inl is) = subst (λ (y : Output). IsAlone y.message) (sym is) all.0
in_alone (x ∷ os) all o (inr there) = in_alone os all.1 o there

pub sent_alone : (c : Codec) → IsCodec c → (n : NetworkParts) (es : List Entry) (s : Plant) → Run c n es s → AreReadAgain c (deeds_of c n es) →
    (e : Deed Segment) (older : Transcript) → Within (e ∷ older) (deeds_of c n es) → (a : As) (o : Output) → In o (outputs_at a e) → IsAlone o.message
sent_alone c codec n es s run again e older w a o there =
    in_alone (outputs_at a e) (outputs_alone a e (Each-within IsAloneDeed (deeds_of c n es) (run_alone c codec n es s run again) e older w)) o there
