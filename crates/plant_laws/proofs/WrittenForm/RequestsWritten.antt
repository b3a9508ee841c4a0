-- Requests are in written form in every run, also where ids come round: each goes on from one that came as octets and was admitted,
-- under an id that fits its word, whatever replies say. So each is read as it was meant: it is taken by itself, and is the one that
-- stood first in its queue.
use Rattle.std.proofs.Common.{◌≡◌, ◌⊎◌, ◌≤◌, ℕ, Bool, true, false, cond, Option, Some, None, List, [], ◌∷◌, ◌++◌, length, sym, ◌∙◌, ap, subst, inl, inr, refl, arith}
use Rattle.plant_model.specs.Types.{As, Peer, Outside, Inner, Hop, Message, Asked, Request, Wanted, Wish, Own, Class, NetworkParts}
use Rattle.te_links.specs.Rows.{Rows as Topology}
use Rattle.pcep_subobjects.specs.Subobjects.{AreOctets}
use Rattle.pcep_messages.specs.declared.message.Message.TheVariants as messages
use Rattle.pcep_messages.specs.declared.message.Wish.TheVariants.{Path, Expand}
use Rattle.pcep_session.specs.declared.actions.Own.TheVariants as own
use Rattle.disclosure.specs.Policy.{is_denied}
use Rattle.disclosure.specs.Shown.{open_of}
use Rattle.request_table.specs.Pending.{ArePending, number_of, is_full}
use Rattle.plant_text.specs.Names.{same_as, parent_as}
use Rattle.plant_text.specs.Settings.{class_of, adjacencies}
use Rattle.plant_model.specs.declared.output.Output.{Output}
use Rattle.plant_model.specs.Names.{the_parent}
use Rattle.plant_model.specs.Wire.{Bytes, Codec, Checked, Admitted, Wrong}
use Rattle.plant_model.specs.Laws.{IsCodec, IsNetwork, IsSequence, Admits}
use Rattle.plant_model.specs.Writing.{reply_message, error_message, busy, unavailable}
use Rattle.plant_model.specs.Element.{Way, Element, ElementSettings, Taken, only, is_waiting, fresh_id, way_to, upped, downed, lost}
use Rattle.plant_model.specs.Routes.{routes, toward}
use Rattle.plant_model.specs.Taking.{take, take_asked, take_checked, take_new, take_wish, take_path, take_along, send_on, sequence_or, goes_up, sight, wanting}
use Rattle.plant_model.specs.Solving.{commit, job_found}
use Rattle.plant_model.specs.BorderGraph.{Found}
use Rattle.plant_model.specs.Parent as parent
use Rattle.plant_model.specs.Parent.{Parent, ParentTaken, Family, AskingRow, errands}
use Rattle.plant_model.specs.Settings.{place, family, inner_ways}
use Rattle.plant_model.specs.State.{State, Deed, Loads, Pops, Takes, Says, Ups, Downs, Clears, Solves, Expires, Hands}
use Rattle.plant_model.specs.Deeds.{Going, element_of, own_message, with_parent, with_element, puts, give, rise, fall}
use Rattle.plant_model.specs.Events as events
use Rattle.plant_model.specs.Outside.{heeded_in}
use Rattle.plant_model.specs.Plant.{Pin, Segment, first_pin, Plant, Happened, Entry, Run, deeds_of, load_new, ElementSolves, ParentSolves}
use Rattle.plant_laws.specs.Transcript.{Transcript, Standing, standing}
use Rattle.plant_laws.specs.Standing.{messages as messages_in, texts}
use Rattle.plant_laws.specs.Sending.{AreAll, AllSent}
use Rattle.plant_laws.specs.Reading.{AreRead}
use Rattle.plant_laws.specs.Runs.{IsWrittenRequest}
use Rattle.plant_laws.proofs.Runs.Acts.{Acts, rests, hears, carries, nods, hands, rises, falls, says, clears, expires}
use Rattle.plant_laws.proofs.WrittenForm.AllWritten.{ways_fit, ways_fit_all}
use Rattle.plant_laws.proofs.Runs.Decompose.{nil_right}
use Rattle.plant_laws.proofs.WrittenForm.ElementSays.{Outs, IsId, next_fits, WaysOk, WayOk, way_fits, ways_last, ways_up, Goes, goes_up_written, goes_along}
use Rattle.plant_laws.proofs.Once.Handing.{IsAsk}
use Rattle.plant_laws.proofs.Runs.Inboxes.{AreOutsideSingle, run_outside}
use Rattle.plant_laws.proofs.Runs.Induction.{run_holds}
use Rattle.plant_laws.proofs.Numbering.Onward as lower
use Rattle.plant_laws.proofs.Numbering.OnwardUpper as upper
use Rattle.plant_laws.proofs.Once.Opened.{AreSingle, puts_elements, puts_parent, holds_same}
use Rattle.plant_laws.proofs.Once.OpenedRuns as opened
use Rattle.plant_laws.proofs.Once.DeedByDeed as deeds
use Rattle.plant_laws.proofs.WrittenForm.ParentSays.{AreAsked, IsFamily, is_family, all_asks, to_children, ups_written}
use Rattle.plant_laws.proofs.Runs.Queues.{Stand, act_stands, left_stands, solve_stands, upper_stands}
use Rattle.plant_laws.proofs.WrittenForm.ReadBack.{StoodFirst, standing_sent}
use Rattle.plant_laws.proofs.Runs.Reading as Reading
use Rattle.plant_laws.proofs.Runs.Rows.{In}
use Rattle.plant_laws.proofs.Numbering.Sends.{NoneAsks}
use Rattle.plant_laws.proofs.WrittenForm.Sent.{run_sent}
use Rattle.plant_laws.proofs.Once.Takes.{IsSingle}

-- ---- what is sent

abbrev pub AsksFit : List Output → Type 0
AsksFit os = AreAll IsWrittenRequest os

-- what asks for nothing
not_asked : (m : Message) → (IsAsk m → ⊥) → IsWrittenRequest m
not_asked m never asks is = absurd (never (subst IsAsk (sym is) tt))

none_fits : (os : List Output) → NoneAsks os → AsksFit os
none_fits [] none = tt
none_fits (o ∷ os) none = (not_asked o.message none.0, none_fits os none.1)

written_fits : (os : List Output) → Outs os → AsksFit os
written_fits [] h = tt
written_fits (o ∷ os) h = ((λ asks is. h.0), written_fits os h.1)

own_never : (o : Own) → IsAsk (own_message o) → ⊥
own_never (own.Open offer) h = h
own_never own.Keepalive h = h
own_never (own.Error kind value) h = h
own_never (own.Close why) h = h

-- A request of the message, where it has one, came as octets.
abbrev pub CameAsOctets : Codec → Message → Type 0
CameAsOctets c m = (a : Asked) → m ≡ messages.PcReq (a ∷ []) → (bytes : Bytes) × AreOctets bytes × (c.read bytes ≡ Some (messages.PcReq (a ∷ [])))

-- ---- an element

module _ (P : Type 0) (S : Type 0) where
  abbrev Fits : Taken P S → Type 0
  Fits t = AsksFit t.outputs × WaysOk t.element.ways

  calm_fits : (k : Element P S) (t : Taken P S) → lower.IsCalm P S k t → WaysOk k.ways → Fits t
  calm_fits k t calm ok = (none_fits t.outputs calm.none, subst WaysOk (sym calm.ways) ok)

  pick : (b : Bool) (t u : Taken P S) → Fits t → Fits u → Fits (cond b t u)
  pick true t u x y = x
  pick false t u x y = y

  module _ (c : Codec) (codec : IsCodec c) (show : S → List Hop) (e : ElementSettings) (pin : P) (p : Peer) (class : Class) (now : ℕ) where
    tells : (m : Message) (k : Element P S) → (IsAsk m → ⊥) → WaysOk k.ways → Fits (only p m k)
    tells m k never ok = ((not_asked m never, tt), ok)

    sends : (flags x : ℕ) (w : Wanted) (sequence rest : List As) (refused : Bool) (k : Element P S) (o : Option Way) → Goes w w.target rest → WayOk o → WaysOk k.ways →
        Fits (send_on (sight pin p class) (wanting flags x w) sequence rest refused k o)
    sends flags x w sequence rest refused k None goes is ok = tells (reply_message flags x unavailable) k (λ none. none) ok
    sends flags x w sequence rest refused k (Some way) goes is ok =
        let denied = tells (reply_message flags x unavailable) k (λ none. none) ok in
        let y = fresh_id way.peer way.last_id k.pending.rows in
        let fits : IsId y = next_fits k.pending.rows (is_waiting way.peer k.pending.rows) way.last_id is in
        pick way.up _ _ (pick refused _ _ denied (((λ asks same. goes y fits), tt), ways_last way.peer y k.ways fits ok)) denied

    along : (flags x : ℕ) (w : Wanted) (k : Element P S) (sequence : List As) → ((a b : As) (rest : List As) → sequence ≡ a ∷ b ∷ rest → Goes w w.target (b ∷ rest)) → WaysOk k.ways → Fits (take_along e (sight pin p class) (wanting flags x w) k sequence)
    along flags x w k [] goes ok = tells (reply_message flags x unavailable) k (λ none. none) ok
    along flags x w k (a ∷ []) goes ok = (tt, ok)
    along flags x w k (a ∷ b ∷ rest) goes ok =
        sends flags x w (a ∷ b ∷ rest) (b ∷ rest) (is_denied e.deny class b) k (way_to (toward b e.routes) k.ways) (goes a b rest refl) (way_fits (toward b e.routes) k.ways ok) ok

    -- where an admitted request goes on, it is written
    abbrev GoesOn : Wanted → Type 0
    GoesOn w = Goes w w.target [] × ((a b : As) (rest : List As) → sequence_or e.own w.sequence ≡ a ∷ b ∷ rest → Goes w w.target (b ∷ rest))

    wishes : (flags x : ℕ) (k : Element P S) (wish : Wish) → ((w : Wanted) → wish ≡ Path w → GoesOn w) → WaysOk k.ways → Fits (take_wish show e (sight pin p class) now flags x k wish)
    wishes flags x k (Expand key pce) goes ok = tells (reply_message flags x _) k (λ none. none) ok
    wishes flags x k (Path w) goes ok =
        let on = goes w refl in
        pick (is_full k.pending) _ (take_path e (sight pin p class) (wanting flags x w) k) (tells (busy flags x) k (λ none. none) ok)
        (pick (goes_up e.parent class w.sequence) _ _
        (sends flags x w [] [] false k (way_to the_parent k.ways) on.0 (way_fits the_parent k.ways ok) ok)
        (along flags x w k (sequence_or e.own w.sequence) on.1 ok))

    admitted_goes : (a : Asked) → CameAsOctets c (messages.PcReq (a ∷ [])) → (flags x : ℕ) (w : Wanted) → Admits c a e.own flags x w → GoesOn w
    admitted_goes a came flags x w admits =
        let octets = came a refl in
        let known = codec.onward.sends octets.0 a e.own flags x w octets.1 octets.2 admits in
        (goes_up_written flags x w known.0 known.1, goes_along e.own flags x w known.0 known.1 (few (codec.onward.own a e.own flags x w admits).2))
      where
        few : (w.sequence ≡ []) ⊎ ((rest : List As) × (w.sequence ≡ e.own ∷ rest) × IsSequence e.own rest) → length w.sequence ≤ 16
        few (inl none) = subst (λ (l : List As). length l ≤ 16) (sym none) (omega arith)
        few (inr some) = subst (λ (l : List As). length l ≤ 16) (sym some.1) some.2.few

    asked_fits : (a : Asked) (k : Element P S) → CameAsOctets c (messages.PcReq (a ∷ [])) → WaysOk k.ways → Fits (take_asked c show e pin p class now a k)
    asked_fits a k came ok = go (c.check a e.own) refl
      where
        new : (r : Request) → c.check a e.own ≡ Admitted r → (o : Option ℕ) → Fits (take_new show e pin p class now r k o)
        new r is (Some number) = (tt, ok)
        new r is None = wishes r.flags r.id k r.wish (λ w wish. admitted_goes a came r.flags r.id w (subst (λ (z : Wish). c.check a e.own ≡ Admitted (record { flags = r.flags; id = r.id; wish = z })) wish is)) ok

        go : (o : Checked) → c.check a e.own ≡ o → Fits (take_checked show e pin p class now k o)
        go (Wrong rp kind value) is = tells (error_message rp kind value) k (λ none. none) ok
        go (Admitted r) is = new r is (number_of k.pending p r.id)

    pub take_fits : (m : Message) (k : Element P S) → IsSingle m → CameAsOctets c m → WaysOk k.ways → Fits (take c show e pin p class now m k)
    take_fits (messages.PcReq []) k one came ok = (tt, ok)
    take_fits (messages.PcReq (a ∷ [])) k one came ok =
        let t = take_asked c show e pin p class now a k in
        subst (λ (os : List Output). AsksFit os × WaysOk t.element.ways) (sym (nil_right t.outputs)) (asked_fits a k came ok)
    take_fits (messages.PcReq (a ∷ b ∷ rest)) k one came ok = absurd (let none : length (a ∷ b ∷ rest) ≡ 1 = one in omega (arith, none))
    take_fits (messages.PcRep replies) k one came ok = calm_fits k _ (lower.calm_replies P S c p replies k) ok
    take_fits (messages.PcNtf notices) k one came ok = calm_fits k _ (lower.calm_notices P S c p notices k) ok
    take_fits (messages.PcErr reports) k one came ok = calm_fits k _ (lower.calm_reports P S c p reports k) ok
    take_fits (messages.Open body) k one came ok = (tt, ok)
    take_fits messages.Keepalive k one came ok = (tt, ok)
    take_fits (messages.Close why) k one came ok = (tt, ok)
    take_fits (messages.Other kind) k one came ok = (tt, ok)

-- ---- the parent

abbrev GivenFits : ParentTaken → Type 0
GivenFits t = AsksFit t.outputs × WaysOk t.parent.ways

given_pick : (b : Bool) (t u : ParentTaken) → GivenFits t → GivenFits u → GivenFits (cond b t u)
given_pick true t u x y = x
given_pick false t u x y = y

given_calm : (k : Parent) (t : ParentTaken) → upper.IsCalm k t → WaysOk k.ways → GivenFits t
given_calm k t calm ok = (none_fits t.outputs calm.none, subst WaysOk (sym calm.ways) ok)

module _ (c : Codec) (codec : IsCodec c) (f : Family) (fam : IsFamily f) (p : Peer) where
  given_tells : (m : Message) (k : Parent) → (IsAsk m → ⊥) → WaysOk k.ways → GivenFits (parent.only p m k)
  given_tells m k never ok = ((not_asked m never, tt), ok)

  given_wishes : (flags x : ℕ) (k : Parent) (wish : Wish) → ((w : Wanted) → wish ≡ Path w → AreAsked c w (errands f.links w.target f.children)) → WaysOk k.ways → GivenFits (parent.take_wish f p flags x k wish)
  given_wishes flags x k (Expand key pce) asked ok = given_tells (reply_message flags x _) k (λ none. none) ok
  given_wishes flags x k (Path w) asked ok =
      let all = all_asks c codec w (parent.all_waits k.pending.rows) (errands f.links w.target f.children) k.ways (asked w refl) ok in
      given_pick (is_full k.pending) _ _ (given_tells (busy flags x) k (λ none. none) ok)
      (given_pick (parent.all_up f.children k.ways) (parent.take_path f p flags x w k) _
      (written_fits _ (ups_written c _ all.0), all.1) (given_tells (reply_message flags x unavailable) k (λ none. none) ok))

  given_asked : (a : Asked) (k : Parent) → CameAsOctets c (messages.PcReq (a ∷ [])) → WaysOk k.ways → GivenFits (parent.take_asked c f p a k)
  given_asked a k came ok = go (c.check a parent_as) refl
    where
      asked : (flags x : ℕ) (w : Wanted) → Admits c a parent_as flags x w → AreAsked c w (errands f.links w.target f.children)
      asked flags x w admits =
          let octets = came a refl in
          let known = codec.onward.sends octets.0 a parent_as flags x w octets.1 octets.2 admits in
          to_children c codec a flags x w admits known.0 known.1 (codec.onward.admits_ipv4 octets.0 a flags x w octets.1 octets.2 admits) f.links f.children fam.links fam.children

      new : (r : Request) → c.check a parent_as ≡ Admitted r → (o : Option ℕ) → GivenFits (parent.take_new f p r k o)
      new r is (Some number) = (tt, ok)
      new r is None = given_wishes r.flags r.id k r.wish (λ w wish. asked r.flags r.id w (subst (λ (z : Wish). c.check a parent_as ≡ Admitted (record { flags = r.flags; id = r.id; wish = z })) wish is)) ok

      go : (o : Checked) → c.check a parent_as ≡ o → GivenFits (parent.take_checked f p k o)
      go (Wrong rp kind value) is = given_tells (error_message rp kind value) k (λ none. none) ok
      go (Admitted r) is = new r is (number_of k.pending p r.id)

  pub given_fits : (m : Message) (k : Parent) → IsSingle m → CameAsOctets c m → ArePending k.pending → WaysOk k.ways → GivenFits (parent.take c f p m k)
  given_fits (messages.PcReq []) k one came are ok = (tt, ok)
  given_fits (messages.PcReq (a ∷ [])) k one came are ok =
      let t = parent.take_asked c f p a k in
      subst (λ (os : List Output). AsksFit os × WaysOk t.parent.ways) (sym (nil_right t.outputs)) (given_asked a k came ok)
  given_fits (messages.PcReq (a ∷ b ∷ rest)) k one came are ok = absurd (let none : length (a ∷ b ∷ rest) ≡ 1 = one in omega (arith, none))
  given_fits (messages.PcRep replies) k one came are ok = given_calm k _ (upper.calm_replies c p replies k are) ok
  given_fits (messages.PcNtf notices) k one came are ok = given_calm k _ (upper.calm_notices c p notices k are) ok
  given_fits (messages.PcErr reports) k one came are ok = given_calm k _ (upper.calm_reports c p reports k are) ok
  given_fits (messages.Open body) k one came are ok = (tt, ok)
  given_fits messages.Keepalive k one came are ok = (tt, ok)
  given_fits (messages.Close why) k one came are ok = (tt, ok)
  given_fits (messages.Other kind) k one came are ok = (tt, ok)

-- a solve of the parent asks for nothing
solve_fits : (c : Codec) (h : AskingRow) (o : Option Found) (k : Parent) → WaysOk k.ways → GivenFits (parent.commit c h o k)
solve_fits c h None k ok = (((λ asks is. absurd (subst IsAsk (sym is) tt)), tt), ok)
solve_fits c h (Some a) k ok = (((λ asks is. absurd (subst IsAsk (sym is) tt)), tt), ok)

-- ---- what is taken

-- a message as a network sends it: requests one by one, and none of another type
abbrev IsOrdinary : Message → Type 0
IsOrdinary (messages.PcReq asks) = length asks ≡ 1
IsOrdinary (messages.Other kind) = ⊥
IsOrdinary m = Unit {0}

own_ordinary : (o : Own) → IsOrdinary (own_message o)
own_ordinary (own.Open offer) = tt
own_ordinary own.Keepalive = tt
own_ordinary (own.Error kind value) = tt
own_ordinary (own.Close why) = tt

module _ (c : Codec) (codec : IsCodec c) where
  -- What is read as requests was sent as just these.
  read_asks : (x : Message) (asks : List Asked) → IsOrdinary x → IsWrittenRequest x → c.read (c.text x) ≡ Some (messages.PcReq asks) → (x ≡ messages.PcReq asks) × (length asks ≡ 1) × AreOctets (c.text x)
  read_asks (messages.PcReq asks') asks one fits read =
      let written = fits asks' refl in
      let some : Some (messages.PcReq asks) ≡ Some (messages.PcReq asks') = sym read ∙ codec.texts.reads (messages.PcReq asks') written in
      let same : asks' ≡ asks = cc in
      (ap (λ (l : List Asked). messages.PcReq l) same, subst (λ (l : List Asked). length l ≡ 1) same one, codec.texts.bytes (messages.PcReq asks') written)
  read_asks (messages.PcRep replies) asks one fits read = absurd (let none : 4 ≡ 3 = codec.texts.kinds (messages.PcRep replies) (messages.PcReq asks) read in omega (arith, none))
  read_asks (messages.PcNtf notices) asks one fits read = absurd (let none : 5 ≡ 3 = codec.texts.kinds (messages.PcNtf notices) (messages.PcReq asks) read in omega (arith, none))
  read_asks (messages.PcErr reports) asks one fits read = absurd (let none : 6 ≡ 3 = codec.texts.kinds (messages.PcErr reports) (messages.PcReq asks) read in omega (arith, none))
  read_asks (messages.Open body) asks one fits read = absurd (let none : 1 ≡ 3 = codec.texts.kinds (messages.Open body) (messages.PcReq asks) read in omega (arith, none))
  read_asks messages.Keepalive asks one fits read = absurd (let none : 2 ≡ 3 = codec.texts.kinds messages.Keepalive (messages.PcReq asks) read in omega (arith, none))
  read_asks (messages.Close why) asks one fits read = absurd (let none : 7 ≡ 3 = codec.texts.kinds (messages.Close why) (messages.PcReq asks) read in omega (arith, none))
  read_asks (messages.Other kind) asks none fits read = absurd none

  abbrev pub IsTaken : Message → Type 0
  IsTaken m = IsSingle m × CameAsOctets c m

  read_taken : (x m : Message) → IsOrdinary x → IsWrittenRequest x → c.read (c.text x) ≡ Some m → IsTaken m
  read_taken x (messages.PcReq asks) one fits read =
      let r = read_asks x asks one fits read in
      (r.1, λ a is. (c.text x, r.2, read ∙ ap (λ (y : Message). Some y) is))
  read_taken x (messages.PcRep replies) one fits read = (tt, λ a is. cc)
  read_taken x (messages.PcNtf notices) one fits read = (tt, λ a is. cc)
  read_taken x (messages.PcErr reports) one fits read = (tt, λ a is. cc)
  read_taken x (messages.Open body) one fits read = (tt, λ a is. cc)
  read_taken x messages.Keepalive one fits read = (tt, λ a is. cc)
  read_taken x (messages.Close why) one fits read = (tt, λ a is. cc)
  read_taken x (messages.Other kind) one fits read = (tt, λ a is. cc)

  -- heeding leaves requests as they are
  heard_asks : (sent : ℕ → Option ℕ) (raw : Message) (asks : List Asked) → heeded_in c sent raw ≡ messages.PcReq asks → raw ≡ messages.PcReq asks
  heard_asks sent (messages.PcReq asks') asks is = is
  heard_asks sent (messages.PcRep replies) asks is = cc
  heard_asks sent (messages.PcNtf notices) asks is = cc
  heard_asks sent (messages.PcErr reports) asks is = cc
  heard_asks sent (messages.Open body) asks is = cc
  heard_asks sent messages.Keepalive asks is = cc
  heard_asks sent (messages.Close why) asks is = cc
  heard_asks sent (messages.Other kind) asks is = cc

-- a request that was taken from an inner queue is the one that stood there first
abbrev pub stood_deed : Deed Segment → Transcript → Type 0
stood_deed (Takes b (Inner a) m os) older = (asks : List Asked) → m ≡ messages.PcReq asks → StoodFirst a b m older
stood_deed (Takes b (Outside i) m os) older = Unit {0}
stood_deed (Loads at g) older = Unit {0}
stood_deed (Pops a b) older = Unit {0}
stood_deed (Says at o) older = Unit {0}
stood_deed (Ups at p) older = Unit {0}
stood_deed (Downs at p os) older = Unit {0}
stood_deed (Clears a b) older = Unit {0}
stood_deed (Solves at k os keys) older = Unit {0}
stood_deed (Expires now) older = Unit {0}
stood_deed (Hands i bytes) older = Unit {0}

abbrev pub HaveStood : Transcript → Type 0
HaveStood [] = Unit {0}
HaveStood (d ∷ ds) = stood_deed d ds × HaveStood ds

-- ---- a run

module _ (c : Codec) (codec : IsCodec c) (n : NetworkParts) (net : IsNetwork n) where
  abbrev Core : Type 0
  Core = State Pin Segment

  -- what holds of every run, without an induction over what was sent
  abbrev Prem : Transcript → Type 0
  Prem ds = AreRead c n ds × AreOutsideSingle ds × AllSent IsOrdinary ds

  older : (d : Deed Segment) (ds : Transcript) → Prem (d ∷ ds) → Prem ds
  older d ds p = (p.0.1, p.1.1, p.2.1)

  record WaysFit (s : Core) : Type 0 where
    pub elements : (d : As) → WaysOk (s.elements d).ways
    pub parent : WaysOk s.parent.ways

  -- what was sent, and what was taken
  abbrev Asked_well : Transcript → Type 0
  Asked_well ds = AllSent IsWrittenRequest ds × AreSingle ds × HaveStood ds

  abbrev IfFit : Transcript → Core → Type 0
  IfFit ds s = Prem ds → Asked_well ds × WaysFit s

  record I (ds : Transcript) (s : Core) : Type 0 where
    pub stand : Stand c n ds s
    pub tables : deeds.If c n (opened.Good c n) ds s
    pub fit : IfFit ds s

  fit_same : (s t : Core) → t.elements ≡ s.elements → t.parent ≡ s.parent → WaysFit s → WaysFit t
  fit_same s t e p h = record { elements = subst (λ (f : As → Element Pin Segment). (d : As) → WaysOk (f d).ways) (sym e) h.elements; parent = subst (λ (k : Parent). WaysOk k.ways) (sym p) h.parent }

  fit_puts : (at : As) (os : List Output) (s : Core) → WaysFit s → WaysFit (puts Pin Segment c n open_of at os s)
  fit_puts at os s h = fit_same s (puts Pin Segment c n open_of at os s) (puts_elements c n at os s) (puts_parent c n at os s) h

  fit_element : (at : As) (k : Element Pin Segment) (s : Core) → WaysOk k.ways → WaysFit s → WaysFit (with_element Pin Segment c n open_of at k s)
  fit_element at k s new h = record { elements = λ d. go d (same_as at d); parent = h.parent }
    where
      go : (d : As) (b : Bool) → WaysOk (cond b k (s.elements d)).ways
      go d true = new
      go d false = h.elements d

  fit_parent : (k : Parent) (s : Core) → WaysOk k.ways → WaysFit s → WaysFit (with_parent Pin Segment c n open_of k s)
  fit_parent k s new h = record { elements = h.elements; parent = new }

  pick_fit : (ds : Transcript) (b : Bool) (g h : Going Pin Segment) → IfFit (g.deeds ++ ds) g.state → IfFit (h.deeds ++ ds) h.state → IfFit ((cond b g h).deeds ++ ds) (cond b g h).state
  pick_fit ds true g h x y = x
  pick_fit ds false g h x y = y

  -- what is given, where it is known
  give_fit : (at : As) (p : Peer) (m : Message) (s : Core) (es ds : Transcript) → ((os : List Output) → Prem (Takes at p m os ∷ es ++ ds) → Asked_well (es ++ ds) → IsTaken c codec m × stood_deed (Takes at p m os) (es ++ ds) × ArePending s.parent.pending) →
      IfFit (es ++ ds) s → (let g = give Pin Segment c n open_of at p m (record { state = s; deeds = es }) in IfFit (g.deeds ++ ds) g.state)
  give_fit at p m s es ds known held =
      let r = parent.take c (family n) p m s.parent in
      let t = take c open_of (place n at) (s.current at) p (class_of n p) s.clock m (s.elements at) in
      pick_fit ds (same_as at parent_as)
      (record { state = puts Pin Segment c n open_of at r.outputs (with_parent Pin Segment c n open_of r.parent s); deeds = Takes at p m r.outputs ∷ es })
      (record { state = puts Pin Segment c n open_of at t.outputs (with_element Pin Segment c n open_of at t.element s); deeds = Takes at p m t.outputs ∷ es })
      (λ prem.
      let before = held (older (Takes at p m r.outputs) (es ++ ds) prem) in
      let is = known r.outputs prem before.0 in
      let x = given_fits c codec (family n) (is_family n net) p m s.parent is.0.0 is.0.1 is.2 before.1.parent in
      (((x.0, before.0.0), (is.0.0, before.0.1), (is.1, before.0.2)), fit_puts at r.outputs (with_parent Pin Segment c n open_of r.parent s) (fit_parent r.parent s x.1 before.1)))
      (λ prem.
      let before = held (older (Takes at p m t.outputs) (es ++ ds) prem) in
      let is = known t.outputs prem before.0 in
      let x = take_fits Pin Segment c codec open_of (place n at) (s.current at) p (class_of n p) s.clock m (s.elements at) is.0.0 is.0.1 (before.1.elements at) in
      (((x.0, before.0.0), (is.0.0, before.0.1), (is.1, before.0.2)), fit_puts at t.outputs (with_element Pin Segment c n open_of at t.element s) (fit_element at t.element s x.1 before.1)))

  fall_fit : (at : As) (p : Peer) (s : Core) (ds : Transcript) → IfFit ds s → (let g = fall Pin Segment c n open_of at p (record { state = s; deeds = [] }) in IfFit (g.deeds ++ ds) g.state)
  fall_fit at p s ds held =
      let r = parent.downed p s.parent in
      let t = downed p (s.elements at) in
      pick_fit ds (same_as at parent_as)
      (record { state = puts Pin Segment c n open_of at r.outputs (with_parent Pin Segment c n open_of r.parent s); deeds = Downs at p r.outputs ∷ [] })
      (record { state = puts Pin Segment c n open_of at t.outputs (with_element Pin Segment c n open_of at t.element s); deeds = Downs at p t.outputs ∷ [] })
      (λ prem.
      let before = held (older (Downs at p r.outputs) ds prem) in
      let none = none_fits r.outputs (lower.none_lost (parent.lost p s.parent.pending.rows)) in
      (((none, before.0.0), (tt, before.0.1), (tt, before.0.2)), fit_puts at r.outputs (with_parent Pin Segment c n open_of r.parent s) (fit_parent r.parent s (ways_up p false s.parent.ways before.1.parent) before.1)))
      (λ prem.
      let before = held (older (Downs at p t.outputs) ds prem) in
      let none = none_fits t.outputs (lower.none_lost (lost p (s.elements at).pending.rows)) in
      (((none, before.0.0), (tt, before.0.1), (tt, before.0.2)), fit_puts at t.outputs (with_element Pin Segment c n open_of at t.element s) (fit_element at t.element s (ways_up p false (s.elements at).ways (before.1.elements at)) before.1)))

  rise_fit : (at : As) (p : Peer) (s : Core) (ds : Transcript) → IfFit ds s → (let g = rise Pin Segment c n open_of at p (record { state = s; deeds = [] }) in IfFit (g.deeds ++ ds) g.state)
  rise_fit at p s ds held =
      pick_fit ds (same_as at parent_as)
      (record { state = with_parent Pin Segment c n open_of (parent.upped p s.parent) s; deeds = Ups at p ∷ [] })
      (record { state = with_element Pin Segment c n open_of at (upped p (s.elements at)) s; deeds = Ups at p ∷ [] })
      (λ prem. let before = held (older (Ups at p) ds prem) in (((tt, before.0.0), (tt, before.0.1), (tt, before.0.2)), fit_parent (parent.upped p s.parent) s (ways_up p true s.parent.ways before.1.parent) before.1))
      (λ prem. let before = held (older (Ups at p) ds prem) in (((tt, before.0.0), (tt, before.0.1), (tt, before.0.2)), fit_element at (upped p (s.elements at)) s (ways_up p true (s.elements at).ways (before.1.elements at)) before.1))

  -- the first message of a queue, as it is read
  front : (a b : As) (bytes : Bytes) (rest : List Bytes) (m : Message) (s : Core) (ds : Transcript) → Stand c n ds s → AllSent IsWrittenRequest ds → AllSent IsOrdinary ds → s.queues a b ≡ bytes ∷ rest → c.read bytes ≡ Some m → IsTaken c codec m × ((asks : List Asked) → m ≡ messages.PcReq asks → StoodFirst a b m (Pops a b ∷ ds))
  front a b bytes rest m s ds stand sent ordinary is read = go (standing a b ds) refl
    where
      go : (xs : List Standing) → standing a b ds ≡ xs → IsTaken c codec m × ((asks : List Asked) → m ≡ messages.PcReq asks → StoodFirst a b m (Pops a b ∷ ds))
      go [] e =
          let no : bytes ∷ rest ≡ [] = sym is ∙ stand a b ∙ ap (λ (l : List Standing). texts c (messages_in l)) e in
          absurd (let out : bytes ∷ rest ≡ [] = no in cc)
      go (x ∷ xs) e =
          let both : bytes ∷ rest ≡ c.text x.message ∷ texts c (messages_in xs) = sym is ∙ stand a b ∙ ap (λ (l : List Standing). texts c (messages_in l)) e in
          let same : bytes ≡ c.text x.message = cc in
          let inside : In x (standing a b ds) = subst (λ (l : List Standing). In x l) (sym e) (inl refl) in
          let one = standing_sent IsOrdinary a b ds x ordinary inside in
          let fits = standing_sent IsWrittenRequest a b ds x sent inside in
          let again : c.read (c.text x.message) ≡ Some m = ap (λ z. c.read z) (sym same) ∙ read in (
            read_taken c codec x.message m one fits again,
            λ asks is'.
                let meant = (read_asks c codec x.message asks one fits (again ∙ ap (λ (y : Message). Some y) is')).0 ∙ sym is' in
                (refl, (x.put, xs, e ∙ ap (λ z. let y : Standing = record { message = z; put = x.put } in y ∷ xs) meant)),
          )

  act_fit : (ds : Transcript) (s t : Core) (es : Transcript) → I ds s → Acts Pin Segment c n open_of s es t → IfFit (es ++ ds) t
  act_fit ds s t es held (rests s' t' same) = λ prem. let b = held.fit prem in (b.0, fit_same s t same.elements same.parent b.1)
  act_fit ds s t es held (hears i bytes m s' read) =
      give_fit (element_of n i) (Outside i) m s [] ds
      (λ os prem well. let r = prem.0.0 in
      ((prem.1.0, λ a is. (r.2, r.3, r.5 ∙ ap (λ (y : Message). Some y) (heard_asks c codec r.6 r.4 (a ∷ []) (sym r.7 ∙ is)))), tt, (held.tables well.1).parent)) held.fit
  act_fit ds s t es held (carries a b bytes rest m s' u is read same) =
      let popped : Deed Segment = Pops a b in
      give_fit b (Inner a) m u (popped ∷ []) ds
      (λ os prem well.
      let p : Prem ds = older popped ds (older (Takes b (Inner a) m os) (popped ∷ ds) prem) in
      let x = front a b bytes rest m s ds held.stand well.0.1 p.2 is read in
      (x.0, x.1, subst (λ (k : Parent). ArePending k.pending) (sym same.parent) (held.tables well.1.1).parent))
      (λ prem. let x = held.fit (older popped ds prem) in (((tt, x.0.0), (tt, x.0.1), (tt, x.0.2)), fit_same s u same.elements same.parent x.1))
  act_fit ds s t es held (nods a b bytes rest s' is) = λ prem. let x = held.fit (older (Pops a b) ds prem) in (((tt, x.0.0), (tt, x.0.1), (tt, x.0.2)), record { elements = x.1.elements; parent = x.1.parent })
  act_fit ds s t es held (hands i bytes s' t' same) = λ prem. let x = held.fit (older (Hands i bytes) ds prem) in (((tt, x.0.0), (tt, x.0.1), (tt, x.0.2)), fit_same s t same.elements same.parent x.1)
  act_fit ds s t es held (rises at p s') = rise_fit at p s ds held.fit
  act_fit ds s t es held (falls at p s') = fall_fit at p s ds held.fit
  act_fit ds s t es held (says at p o s') = λ prem.
      let out : Output = record { to = p; message = own_message o } in
      let x = held.fit (older (Says at out) ds prem) in ((((not_asked (own_message o) (own_never o), tt), x.0.0), (tt, x.0.1), (tt, x.0.2)), fit_puts at (out ∷ []) s x.1)
  act_fit ds s t es held (clears x s') = λ prem. let y = held.fit (older (Clears x.lower x.upper) ds prem) in (((tt, y.0.0), (tt, y.0.1), (tt, y.0.2)), record { elements = y.1.elements; parent = y.1.parent })
  act_fit ds s t es held (expires now s') = λ prem. let x = held.fit (older (Expires now) ds prem) in (((tt, x.0.0), (tt, x.0.1), (tt, x.0.2)), record { elements = x.1.elements; parent = x.1.parent })

  act_holds : (ds : Transcript) (s t : Core) (es : Transcript) → I ds s → Acts Pin Segment c n open_of s es t → I (es ++ ds) t
  act_holds ds s t es held act = record { stand = act_stands c n ds s t es held.stand act; tables = deeds.act_keeps c n (deeds.If c n (opened.Good c n)) (deeds.if_same c n (opened.Good c n) (holds_same c n)) (deeds.if_kept c n (opened.Good c n) (opened.does_hold c n)) ds s t es held.tables act; fit = act_fit ds s t es held act }

  load_holds : (ds : Transcript) (s : Plant) (d : As) (g : Topology) → I ds s → I (Loads d g ∷ ds) (load_new c n d g s).state
  load_holds ds s d g held = record {
    stand = left_stands c n s s ds (Loads d g) (λ a. refl) (λ a b. held.stand a b);
    tables = deeds.load_keeps c n (deeds.If c n (opened.Good c n)) (deeds.if_same c n (opened.Good c n) (holds_same c n)) (deeds.if_kept c n (opened.Good c n) (opened.does_hold c n)) ds s d g held.tables;
    fit = λ prem. let x = held.fit (older (Loads d g) ds prem) in (((tt, x.0.0), (tt, x.0.1), (tt, x.0.2)), record { elements = x.1.elements; parent = x.1.parent });
  }

  solve_fit : (ds : Transcript) (s : Plant) (d : As) (k : ℕ) (h : Happened) → I ds s → ElementSolves c n d k s h → IfFit (h.deeds ++ ds) h.state
  solve_fit ds s d k h held x =
      let r = commit c (place n d) (k, x.held) x.down s.clock (λ b. b.segment) (job_found x.rows.source_known x.rows.target_known x.rows.best) (s.elements d) in
      let calm = lower.calm_commit Pin Segment c (place n d) (k, x.held) x.down s.clock (λ b. b.segment) x.rows.source_known x.rows.target_known x.rows.best (s.elements d) in
      subst (λ (h' : Happened). IfFit (h'.deeds ++ ds) h'.state) (sym x.is) (λ prem.
      let b = held.fit (older (Solves d k r.outputs r.element.keys.issued) ds prem) in
      let y = calm_fits Pin Segment (s.elements d) r calm (b.1.elements d) in
      (((y.0, b.0.0), (tt, b.0.1), (tt, b.0.2)), fit_puts d r.outputs (with_element Pin Segment c n open_of d r.element s) (fit_element d r.element s y.1 b.1)))

  upper_fit : (ds : Transcript) (s : Plant) (k : ℕ) (h : Happened) → I ds s → ParentSolves c n k s h → IfFit (h.deeds ++ ds) h.state
  upper_fit ds s k h held x =
      let r = parent.commit c (k, x.held) x.answer s.parent in
      subst (λ (h' : Happened). IfFit (h'.deeds ++ ds) h'.state) (sym x.is) (λ prem.
      let b = held.fit (older (Solves parent_as k r.outputs []) ds prem) in
      let y = solve_fits c (k, x.held) x.answer s.parent b.1.parent in
      (((y.0, b.0.0), (tt, b.0.1), (tt, b.0.2)), fit_puts parent_as r.outputs (with_parent Pin Segment c n open_of r.parent s) (fit_parent r.parent s y.1 b.1)))

  solve_holds : (ds : Transcript) (s : Plant) (d : As) (k : ℕ) (h : Happened) → I ds s → ElementSolves c n d k s h → I (h.deeds ++ ds) h.state
  solve_holds ds s d k h held x = record { stand = solve_stands c n ds s d k h held.stand x; tables = deeds.solve_keeps c n (deeds.If c n (opened.Good c n)) (deeds.if_same c n (opened.Good c n) (holds_same c n)) (deeds.if_kept c n (opened.Good c n) (opened.does_hold c n)) ds s d k h held.tables x; fit = solve_fit ds s d k h held x }

  upper_holds : (ds : Transcript) (s : Plant) (k : ℕ) (h : Happened) → I ds s → ParentSolves c n k s h → I (h.deeds ++ ds) h.state
  upper_holds ds s k h held x = record { stand = upper_stands c n ds s k h held.stand x; tables = deeds.upper_keeps c n (deeds.If c n (opened.Good c n)) (deeds.if_same c n (opened.Good c n) (holds_same c n)) (deeds.if_kept c n (opened.Good c n) (opened.does_hold c n)) ds s k h held.tables x; fit = upper_fit ds s k h held x }

  bare_holds : I [] (events.bare Pin Segment c n open_of first_pin)
  bare_holds = record {
    stand = λ a b. refl;
    tables = opened.bare_holds c n;
    fit = λ prem. ((tt, tt, tt), record { elements = λ d. ways_fit_all (inner_ways n d) (routes n d) (ways_fit d (adjacencies n)); parent = ways_fit parent_as (adjacencies n) });
  }

  well : (es : List Entry) (s : Plant) → Run c n es s → Asked_well (deeds_of c n es)
  well es s run =
      ((run_holds c n I bare_holds act_holds (λ ds s d g given held. load_holds ds s d g held) solve_holds upper_holds es s run).fit
      (Reading.outside_is_read c codec n es s run, (run_outside c n codec es s run).1, run_sent IsOrdinary (λ y w t rest. refl) (λ flags id a. tt) (λ flags id. tt) (λ rp kind value. tt) own_ordinary c n es s run)).0

  -- All requests that a run sends are in written form.
  pub requests_are_written : (es : List Entry) (s : Plant) → Run c n es s → AllSent IsWrittenRequest (deeds_of c n es)
  requests_are_written es s run = (well es s run).0

  -- Each message of requests that is taken in a run has one.
  pub requests_are_single : (es : List Entry) (s : Plant) → Run c n es s → AreSingle (deeds_of c n es)
  requests_are_single es s run = (well es s run).1

  -- Each request that is taken from an inner queue in a run is the one that stood there first.
  pub requests_have_stood : (es : List Entry) (s : Plant) → Run c n es s → HaveStood (deeds_of c n es)
  requests_have_stood es s run = (well es s run).2
