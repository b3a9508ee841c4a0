-- A client that asks one question behind the other receives what was put for it.
use Rattle.std.proofs.Common.{◌≡◌, ℕ, Bool, true, false, cond, ◌==◌, List, [], ◌∷◌, ◌++◌, map, Option, Some, None, option_map, Ok, append_assoc, sym, ap, subst, ◌∙◌, refl}
use Rattle.std.specs.Prelude.{Contains}
use Rattle.std.specs.List.{AllByRecursion}
use Rattle.std.proofs.lemmas.Bool.{eq-eqb}
use Rattle.std.proofs.lemmas.List.{append-nil}
use Rattle.dom_edge.specs.Stores.{Files}
use Rattle.border_costs.proofs.Members.{contains_head, contains_tail}
use Rattle.disclosure.specs.Shown.{open_of}
use Rattle.pcep_framing.specs.Frames.{joined}
use Rattle.plant_play.specs.plant_model.Types.{Message, LineEvent, NetworkParts}
use Rattle.pcep_messages.specs.Spelling.{IsWritten}
use Rattle.plant_text.specs.declared.line.LineEvent.TheVariants as line
use Rattle.plant_play.specs.plant_model.declared.event.Event.{Event}
use Rattle.plant_play.specs.plant_model.declared.event.Event.TheVariants as event
use Rattle.plant_play.specs.plant_model.declared.outcome.Outcome.TheVariants.{Drained}
use Rattle.plant_play.specs.plant_model.declared.outcome.Refused.TheVariants.{NotHolder}
use Rattle.plant_play.specs.plant_model.Blind.{is_accepted}
use Rattle.plant_play.specs.plant_model.Deeds.{with_access}
use Rattle.plant_play.specs.plant_model.Events as events
use Rattle.plant_play.specs.plant_model.Events.{Answered, is_down}
use Rattle.plant_play.specs.plant_model.Plant.{Entry, Happened, Happens, Pin, Plant, Segment, deeds_of}
use Rattle.plant_play.specs.plant_model.RealWire.{wire}
use Rattle.plant_play.specs.plant_model.State.{Connection, Hands}
use Rattle.plant_play.specs.plant_model.Wire.{Bytes}
use Rattle.plant_play.specs.Playing.{Cue, Plays, PlaysLine, PlaysOne, PlayedNetwork}
use Rattle.plant_play.specs.Scripts.{AllPlayed}
use Rattle.plant_play.specs.Turns.{Turn, entries_of}
use Rattle.run_laws.proofs.plant_laws.plant_model.WireLaws.{wire_is_codec}
use Rattle.run_laws.proofs.plant_laws.WrittenForm.EveryWritten.{every_written}
use Rattle.plant_client.specs.declared.question.Question.{Question}
use Rattle.plant_client.specs.Asking.{AreCues, Exchanges, asking_lines, received_in, topologies}
use Rattle.plant_client.specs.Hearing.{heard_in}
use Rattle.plant_client.specs.Questions.{opening_text}
use Rattle.plant_client.specs.Bulk.{AsksAll, turns_of}
use Rattle.run_laws.specs.Outlets.{Drains, Outlet, Stays, bytes_of, handed_in, messages_for, outlet, turn_for, turned, with_handed}
use Rattle.run_laws.proofs.PeerLemmas.OutletEvents.{Fits}
use Rattle.run_laws.proofs.PeerLemmas.Growing.{view_of}
use Rattle.run_laws.proofs.PeerLemmas.OutletRuns.{run_fits}
use Rattle.run_laws.proofs.PeerLemmas.Answering.{answers_are_right}
use Rattle.run_laws.proofs.PeerLemmas.Putting.{of_sent, put_is}
use Rattle.client_laws.proofs.Asking as asking
use Rattle.client_laws.proofs.Asking.{Fit, on, one_fits, plain_fits}
use Rattle.client_laws.proofs.Lines.{IsPlain, IsUndrained, entries_join, plain_stays}
use Rattle.client_laws.specs.Received.{ManyAreReceived, all_of}
use Rattle.client_laws.proofs.Growing.{AreHeld, IsHeld, all_heard, bytes_append, first_written, front_off, still_held}

module _ (i : ℕ) where
  -- the client's connection is open, and these messages were handed out over it
  abbrev IsOpen : List Message → List Entry → Plant → Type 0
  IsOpen done es s = AreHeld 0 done (outlet i es) × Fit i es s

  plain_open : (e : LineEvent) → IsPlain e → (done : List Message) (old : PlayedNetwork) (c : Cue) (answer : Answered) (turns : List Turn) (told : List ℕ) (new : PlayedNetwork) (older : List Entry) → c.event ≡ e → PlaysLine old c answer turns told new →
      IsOpen done older old.state → IsOpen done (entries_of turns older) new.state
  plain_open e plain done old c answer turns told new older is p h = (
    still_held i 0 done turns older
        (plain_stays i c.number old answer turns told new.state e c.file plain (subst (λ (x : LineEvent). Plays c.number old x c.file answer turns told new.state) is p.plays)) h.0,
    plain_fits i e plain old c answer turns told new older is p h.1,
  )

  abbrev AllPlain : List LineEvent → Type 0
  AllPlain [] = Unit {0}
  AllPlain (e ∷ es) = IsPlain e × AllPlain es

  plain_lines : (files : Option Files) (es : List LineEvent) → AllPlain es → (done : List Message) (cs : List Cue) → AreCues files es cs → (old new : PlayedNetwork) (turns : List Turn) (told : List ℕ) (older : List Entry) → AllPlayed old cs turns told new →
      IsOpen done older old.state → IsOpen done (entries_of turns older) new.state
  plain_lines files [] plain done [] are old new turns told older p h =
      subst (λ (ts : List Turn). IsOpen done (entries_of ts older) new.state) (sym p.0) (subst (λ (x : PlayedNetwork). IsOpen done older x.state) (sym p.2) h)
  plain_lines files [] plain done (c ∷ cs) are old new turns told older p h = absurd are
  plain_lines files (e ∷ es) plain done [] are old new turns told older p h = absurd are
  plain_lines files (e ∷ es) plain done (c ∷ cs) are old new turns told older p h =
      on i (IsOpen done) turns p.first p.later older new.state p.turns_are
      (plain_lines files es plain.1 done cs are.1 p.mid new p.later p.more (entries_of p.first older) p.others
      (plain_open e plain.0 done old c p.answer p.first p.said p.mid older are.0.event p.plays h))

  -- ---- what waits is handed out

  -- the messages that wait, and the connection
  pub record Waits (done : List Message) (o : Option Outlet) (k : Option Connection) : Type 0 where
    pub rest : List Message
    pub standing : Outlet
    pub is : o ≡ Some standing
    pub held : IsHeld 0 done standing
    pub all : standing.put ≡ done ++ rest
    pub connection : Connection
    pub there : k ≡ Some connection
    pub holder : connection.holder ≡ 0
    pub bytes : joined connection.out ≡ bytes_of wire rest

  waits : (done : List Message) (o : Option Outlet) (k : Option Connection) → AreHeld 0 done o → Fits wire o (view_of k) → Waits done o k
  waits done None k h fits = absurd h
  waits done (Some x) None h fits = absurd fits
  waits done (Some x) (Some c) h fits = record {
    rest = h.rest;
    standing = x;
    is = refl;
    held = h;
    all = h.put;
    connection = c;
    there = refl;
    holder = fits.0 ∙ h.holder;
    bytes = front_off (bytes_of wire done) (joined c.out) (bytes_of wire h.rest)
        (ap (λ (l : Bytes). l ++ joined c.out) (sym h.handed) ∙ fits.1 ∙ ap (bytes_of wire) h.put ∙ bytes_append done h.rest);
  }

  yes_drained : (n : NetworkParts) (s : Plant) (k : Connection) → (s.accesses i).connection ≡ Some k → k.holder ≡ 0 → (events.drain Pin Segment wire n open_of i 0 s).answer ≡ Ok (Drained (joined k.out) (is_down k.session.phase))
  yes_drained n s k is holder =
      subst (λ (o : Option Connection). (events.drain_open Pin Segment wire n open_of i 0 s o).answer ≡ Ok (Drained (joined k.out) (is_down k.session.phase))) (sym is) (go (k.holder == 0) (eq-eqb k.holder 0 holder))
    where
      handed : Happened
      handed = record { answer = Ok (Drained (joined k.out) (is_down k.session.phase)); state = with_access Pin Segment wire n open_of i events.drained s; deeds = Hands i (joined k.out) ∷ [] }

      go : (b : Bool) → b ≡ true → (cond b handed (events.refused Pin Segment wire n open_of (NotHolder k.holder) s)).answer ≡ Ok (Drained (joined k.out) (is_down k.session.phase))
      go true agreed = refl
      go false agreed = cc

  -- the outlet behind it
  after_drain : (done : List Message) (o : Option Outlet) (k : Option Connection) (w : Waits done o k) (answer : Answered) (e : Event) (ms : List Message) (over : Bool) → answer ≡ Ok (Drained (joined w.connection.out) over) → e ≡ event.Drain i 0 →
      AreHeld 0 (done ++ w.rest) (cond (is_accepted answer) (turned (turn_for i e) ms (handed_in answer) o) o)
  after_drain done o k w answer e ms over is is' =
      subst (λ (a : Answered). AreHeld 0 (done ++ w.rest) (cond (is_accepted a) (turned (turn_for i e) ms (handed_in a) o) o)) (sym is)
      (subst (λ (x : Event). AreHeld 0 (done ++ w.rest) (turned (turn_for i x) ms (joined w.connection.out) o)) (sym is')
      (subst (λ (b : Bool). AreHeld 0 (done ++ w.rest) (turned (cond b Drains Stays) ms (joined w.connection.out) o)) (sym (eq-eqb i i refl))
      (subst (λ (p : Option Outlet). AreHeld 0 (done ++ w.rest) (option_map (with_handed (joined w.connection.out)) p)) (sym w.is) (record {
        holder = w.held.holder;
        handed = ap (λ (l : Bytes). l ++ joined w.connection.out) w.held.handed ∙ ap (λ (l : Bytes). bytes_of wire done ++ l) w.bytes ∙ sym (bytes_append done w.rest);
        rest = [];
        put = w.all ∙ sym (append-nil (done ++ w.rest));
      }))))

  -- one question
  pub record IsExchanged (done : List Message) (came : List ℕ) (turns : List Turn) (older : List Entry) (new : Plant) : Type 0 where
    pub rest : List Message
    pub bytes : came ≡ bytes_of wire rest
    pub open' : IsOpen (done ++ rest) (entries_of turns older) new

  exchanged : (files : Option Files) (q : Question) (done : List Message) (old new : PlayedNetwork) (came : List ℕ) (x : Exchanges files i q old came new) (older : List Entry) → IsOpen done older old.state → IsExchanged done came (turns_of x) older new.state
  exchanged files q done old new came x older h =
      let asked = plain_lines files (asking_lines i q) (tt, (tt, tt)) done x.lines.cues x.lines.are_cues old x.asked x.lines.turns x.lines.told older x.lines.played h in
      let es = entries_of x.lines.turns older in
      let w = waits done (outlet i es) (x.asked.state.accesses i).connection asked.0 asked.1 in
      let d = x.receives.drains in
      let one : PlaysOne d.cue.number x.asked (event.Drain i 0) x.receives.answer d.turns d.told new.state =
      subst (λ (y : LineEvent). Plays d.cue.number x.asked y d.cue.file x.receives.answer d.turns d.told new.state) d.is_cue.event d.plays.plays in
      let t = one.turn in
      let h' : Happened = record { answer = t.entry.answer; state = t.after; deeds = t.entry.deeds } in
      let happens : Happens wire x.asked.network x.asked.state (event.Drain i 0) h' = subst (λ (e : Event). Happens wire x.asked.network x.asked.state e h') one.event one.is_turn.happens in
      let answer : t.entry.answer ≡ Ok (Drained (joined w.connection.out) (is_down w.connection.session.phase)) = ap (λ (y : Happened). y.answer) happens ∙ yes_drained x.asked.network x.asked.state w.connection w.there w.holder in
      let behind : AreHeld 0 (done ++ w.rest) (outlet i (t.entry ∷ es)) =
      after_drain done (outlet i es) (x.asked.state.accesses i).connection w t.entry.answer t.entry.event (messages_for i t.entry.deeds) (is_down w.connection.session.phase) answer one.event in
      record {
        rest = w.rest;
        bytes = x.receives.bytes ∙ ap received_in (sym one.answered ∙ answer) ∙ w.bytes;
        open' = (
          subst (λ (fs : List Entry). AreHeld 0 (done ++ w.rest) (outlet i fs)) (sym (entries_join x.lines.turns d.turns older)) (subst (λ (ts : List Turn). AreHeld 0 (done ++ w.rest) (outlet i (entries_of ts es))) (sym one.one) behind),
          subst (λ (fs : List Entry). Fit i fs new.state) (sym (entries_join x.lines.turns d.turns older)) (one_fits i (event.Drain i 0) d.cue.number x.asked x.receives.answer d.turns d.told new.state es one asked.1),
        );
      }

  -- ---- one behind the other

  pub record AreExchanged (done : List Message) (received : List (List ℕ)) (turns : List Turn) (older : List Entry) (new : Plant) : Type 0 where
    pub news : List (List Message)
    pub each : received ≡ map (bytes_of wire) news
    pub open' : IsOpen (done ++ all_of news) (entries_of turns older) new

  all_exchanged : (files : Option Files) (qs : List Question) (done : List Message) (old new : PlayedNetwork) (received : List (List ℕ)) (turns : List Turn) (older : List Entry) → AsksAll files i qs old received turns new → IsOpen done older old.state →
      AreExchanged done received turns older new.state
  all_exchanged files [] done old new received turns older p h = record {
    news = [];
    each = p.0;
    open' = subst (λ (l : List Message). IsOpen l (entries_of turns older) new.state) (sym (append-nil done))
        (subst (λ (ts : List Turn). IsOpen done (entries_of ts older) new.state) (sym p.1) (subst (λ (x : PlayedNetwork). IsOpen done older x.state) (sym p.2) h));
  }
  all_exchanged files (q ∷ qs) done old new received turns older p h =
      let first = exchanged files q done old p.mid p.came p.exchange older h in
      let others = all_exchanged files qs (done ++ first.rest) p.mid new p.later p.more (entries_of (turns_of p.exchange) older) p.others first.open' in
      record {
        news = first.rest ∷ others.news;
        each = p.received_are ∙ ap (λ (b : List ℕ). b ∷ p.later) first.bytes ∙ ap (λ (l : List (List ℕ)). bytes_of wire first.rest ∷ l) others.each;
        open' = on i (IsOpen (done ++ all_of (first.rest ∷ others.news))) turns (turns_of p.exchange) p.more older new.state p.turns_are
            (subst (λ (l : List Message). IsOpen l (entries_of p.more (entries_of (turns_of p.exchange) older)) new.state) (append_assoc done first.rest (all_of others.news)) others.open');
      }

  -- ---- the beginning

  first_held : (o : Option Outlet) → IsUndrained 0 o → AreHeld 0 [] o
  first_held None h = h
  first_held (Some x) h = record { holder = h.0; handed = h.1; rest = x.put; put = refl }

each_of : (Q : Message → Type 0) (ms : List Message) → ((m : Message) → Contains ms m → Q m) → AllByRecursion Q ms
each_of Q [] h = tt
each_of Q (m ∷ ms) h = (h m (contains_head m ms), each_of Q ms (λ m' h'. h m' (contains_tail m ms m' h')))

pub record IsEnd (i : ℕ) (news : List Message) (o : Option Outlet) : Type 0 where
  pub standing : Outlet
  pub is : o ≡ Some standing
  pub waiting : List Message
  pub put : standing.put ≡ news ++ waiting

the_end : (i : ℕ) (news : List Message) (o : Option Outlet) → AreHeld 0 news o → IsEnd i news o
the_end i news None h = absurd h
the_end i news (Some x) h = record { standing = x; is = refl; waiting = h.rest; put = h.put }

pub many_are_received : ManyAreReceived
many_are_received files n client questions received net is begun end b turns p run short =
    let es = entries_of (b.lines.turns ++ turns) [] in
    let opened =
    asking.after_loads client n is.known files (topologies n.elements) (line.Feed (Some client) opening_text ∷ []) (tt, tt)
    b.lines.cues b.lines.are_cues b.start begun b.lines.turns b.lines.told [] b.lines.played b.new.network (refl, run_fits wire n [] b.start.state b.new.run client) in
    let all = all_exchanged client files questions [] begun end received turns (entries_of b.lines.turns []) p (first_held client (outlet client (entries_of b.lines.turns [])) opened.0, opened.1) in
    let held : AreHeld 0 (all_of all.news) (outlet client es) = subst (λ (fs : List Entry). AreHeld 0 (all_of all.news) (outlet client fs)) (sym (entries_join b.lines.turns turns [])) all.open'.0 in
    let x = the_end client (all_of all.news) (outlet client es) held in
    let written : AllByRecursion IsWritten x.standing.put =
    each_of IsWritten x.standing.put (put_is client IsWritten wire n es (of_sent client IsWritten (deeds_of wire n es) (every_written wire wire_is_codec n net es end.state run short)) x.standing x.is) in
    let of_news : AllByRecursion IsWritten (all_of all.news) = first_written (all_of all.news) x.waiting (subst (AllByRecursion IsWritten) x.put written) in
    record {
      connection = x.standing;
      is_open = x.is;
      news = all.news;
      waiting = x.waiting;
      put = sym x.put;
      each = all.each;
      heard = ap (map heard_in) all.each ∙ all_heard all.news of_news;
      right = answers_are_right n net es end.state run short client is.class x.standing x.is;
    }
