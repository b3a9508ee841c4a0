-- The session of a client that asks once comes up, its question is taken, and nothing of what follows ends the session.
use Rattle.std.proofs.Common.{◌≡◌, ◌⊎◌, ℕ, Bool, true, false, cond, List, [], ◌∷◌, ◌++◌, map, Option, Some, None, is_some, sym, ap, subst, ◌∙◌, inl, inr, refl}
use Rattle.std.specs.List.{AllByRecursion}
use Rattle.std.proofs.lemmas.List.{append-nil}
use Rattle.plant_play.specs.plant_model.Types.{As, Message, Input, Phase, LineEvent, NetworkParts, Outside}
use Rattle.dom_edge.specs.Stores.{Files}
use Rattle.disclosure.specs.Shown.{open_of}
use Rattle.pcep_framing.specs.Frames.{Framing, joined}
use Rattle.pcep_framing.specs.Feeding.{feed_of}
use Rattle.pcep_messages.specs.declared.message.Message.TheVariants as messages
use Rattle.pcep_messages.specs.Spelling.{IsWritten, message_text}
use Rattle.pcep_messages.specs.Splitting.{split_of}
use Rattle.pcep_messages.proofs.MessageLaws as message_laws
use Rattle.pcep_session.specs.declared.session.Input.TheVariants as input
use Rattle.pcep_session.specs.declared.state.Phase.TheVariants as phase
use Rattle.plant_text.specs.declared.line.LineEvent.TheVariants as line
use Rattle.plant_text.specs.Settings.{peer_row}
use Rattle.plant_play.specs.plant_model.declared.event.Event.{Event}
use Rattle.plant_play.specs.plant_model.declared.event.Event.TheVariants as event
use Rattle.plant_play.specs.plant_model.declared.output.Output.{Output}
use Rattle.plant_play.specs.plant_model.Blind.{is_accepted}
use Rattle.plant_play.specs.plant_model.Deeds.{element_of, input_of, read_as, with_more}
use Rattle.plant_play.specs.plant_model.Events as events
use Rattle.plant_play.specs.plant_model.Events.{Answered, bad_item, is_down, split_all}
use Rattle.plant_play.specs.plant_model.Plant.{Entry, Happened, Happens, Pin, Plant, Segment, deeds_of}
use Rattle.plant_play.specs.plant_model.RealWire.{message_or_none, wire}
use Rattle.plant_play.specs.plant_model.State.{Connection, Takes}
use Rattle.plant_play.specs.plant_model.Wire.{Bytes}
use Rattle.run_laws.specs.plant_laws.Transcript.{Transcript, Within}
use Rattle.plant_play.specs.declared.going.Until.{Until}
use Rattle.plant_play.specs.declared.going.Until.TheVariants.{Finished, Settled}
use Rattle.plant_play.specs.declared.showing.Modes.{Modes}
use Rattle.plant_play.specs.Due.{AreAllDue, AreDue, IsDue, IsDueTake}
use Rattle.plant_play.specs.Playing.{Cue, Plays, PlaysFeed, PlaysLine, PlaysOne, PlayedNetwork}
use Rattle.plant_play.specs.Scripts.{AllPlayed}
use Rattle.plant_play.specs.Turns.{Turn, entries_of}
use Rattle.client_laws.proofs.OutsideStays.{AreHarmless, Has, Leads, carry_stays, feed_stays, harmless_append, keepalive_leads, load_stays, open_leads, open_stays, request_leads, request_taken, solve_stays, take_stays}
use Rattle.plant_network.specs.Due.{inbox_from}
use Rattle.run_laws.proofs.PeerLemmas.Streams.{stream_of}
use Rattle.run_laws.specs.Received.{IsStreamOf}
use Rattle.plant_client.specs.declared.question.Question.{Question}
use Rattle.plant_client.specs.Asking.{AreCues, load_line, question_lines}
use Rattle.plant_client.specs.Questions.{asked_of, open_message, opening_text, question_message, question_text}
use Rattle.client_laws.proofs.Asked.{keepalive_written, open_written}
use Rattle.client_laws.proofs.Asking.{on}
use Rattle.client_laws.proofs.Splitting.{question_alone}

-- ---- what is fed comes to the inbox, a message an item

abbrev Empty : Framing
Empty = record { held = []; bad = false }

-- each is read as it is, and no frame is split
abbrev AreWhole : List Message → Type 0
AreWhole [] = Unit {0}
AreWhole (m ∷ ms) = (IsWritten m × (split_of (message_text m) ≡ message_text m ∷ [])) × AreWhole ms

abbrev items : List Message → List (Option Bytes)
items [] = []
items (m ∷ ms) = Some (message_text m) ∷ items ms

are_written : (ms : List Message) → AreWhole ms → AllByRecursion IsWritten ms
are_written [] whole = tt
are_written (m ∷ ms) whole = (whole.0.0, are_written ms whole.1)

split_items : (ms : List Message) → AreWhole ms → split_all wire (map message_text ms) ≡ items ms
split_items [] whole = refl
split_items (m ∷ ms) whole = ap (λ (xs : List Bytes). map Some xs ++ split_all wire (map message_text ms)) whole.0.1 ∙ ap (λ (xs : List (Option Bytes)). Some (message_text m) ∷ xs) (split_items ms whole.1)

-- what a feed of them leaves
abbrev Comes : Bytes → List Message → Type 0
Comes bytes ms =
    ((feed_of Empty bytes).framing ≡ Empty) × ([] ++ split_all wire (feed_of Empty bytes).frames ++ bad_item (feed_of Empty bytes).framing.bad ≡ items ms)

comes : (ms : List Message) (bytes : Bytes) → AreWhole ms → bytes ≡ joined (map message_text ms) → Comes bytes ms
comes ms bytes whole is =
    subst (λ (z : Bytes). Comes z ms) (sym is)
    (let s : IsStreamOf ms (joined (map message_text ms)) = stream_of ms (are_written ms whole) in (
      s.whole,
      ap (λ (fs : List Bytes). split_all wire fs ++ bad_item (feed_of Empty (joined (map message_text ms))).framing.bad) s.frames
          ∙ ap (λ (f : Framing). split_all wire (map message_text ms) ++ bad_item f.bad) s.whole
          ∙ append-nil (split_all wire (map message_text ms))
          ∙ split_items ms whole,
    ))

got : (m : Message) → IsWritten m → input_of wire (Some (message_text m)) ≡ input.Got m
got m fits = ap (λ r. read_as (message_or_none r)) (message_laws.written_is_read m fits)

-- an event of others
abbrev pub IsOfOthers : Event → Type 0
IsOfOthers (event.Carry a b) = Unit {0}
IsOfOthers (event.Solve d k) = Unit {0}
IsOfOthers e = ⊥

-- ---- the walk

-- what is known of the connection, and that nothing dropped a request of the peer
pub record Walks (n : NetworkParts) (i : ℕ) (P : Option Connection → Type 0) (es : List Entry) (s : Plant) : Type 0 where
  pub at : P (s.accesses i).connection
  pub calm : AreHarmless i (deeds_of wire n es)

abbrev pub IsNone : Option Connection → Type 0
IsNone None = Unit {0}
IsNone (Some k) = ⊥

is_none : (o : Option Connection) → IsNone o → o ≡ None
is_none None h = refl
is_none (Some k) h = absurd h

within_behind : (es ds m : Transcript) → Within m ds → Within m (es ++ ds)
within_behind [] ds m h = h
within_behind (e ∷ es) ds m h = inr (within_behind es ds m h)

module _ (n : NetworkParts) (i : ℕ) where
  abbrev happened_at : Turn → Happened
  happened_at t = record { answer = t.entry.answer; state = t.after; deeds = t.entry.deeds }

  stepped : (P : Option Connection → Type 0) (t : Turn) (older : List Entry) → AreHarmless i (deeds_of wire n older) → P (t.after.accesses i).connection × AreHarmless i t.entry.deeds → Walks n i P (t.entry ∷ older) t.after
  stepped P t older calm h = record { at = h.0; calm = harmless_append i t.entry.deeds (deeds_of wire n older) h.1 calm }

  -- ---- what others do

  module _ (P : Option Connection → Type 0) (none : P None → P None) (more : (k : Connection) (bytes : Bytes) → P (Some k) → P (Some (with_more bytes k))) where
    due_walks : (until : Until) (m : Modes) (s : Plant) (ts : List Turn) (end : Plant) (older : List Entry) → AreDue (IsDue until n) m n s ts end → Walks n i P older s → Walks n i P (entries_of ts older) end
    due_walks until m s [] end older all w = subst (Walks n i P older) (sym all) w
    due_walks until m s (t ∷ ts) end older all w = due_walks until m t.after ts end (t.entry ∷ older) all.3 (go t.entry.event all.0 all.1.happens)
      where
        go : (e : Event) → IsDue until n s (Some e) → Happens wire n s e (happened_at t) → Walks n i P (t.entry ∷ older) t.after
        go (event.Carry a b) due h = stepped P t older w.calm (carry_stays wire n i P none more a b s (happened_at t) h w.at)
        go (event.Solve d k) due h = stepped P t older w.calm (solve_stays wire n i P none more d k s (happened_at t) h w.at)
        go _ due h = absurd due

  -- ---- what the peer fed is taken

  -- the messages lead the session from one phase to another
  abbrev Goes : Phase → List Message → Phase → Type 0
  Goes p [] q = p ≡ q
  Goes p (m ∷ ms) q = (p' : Phase) × Leads p (input.Got m) p' × Goes p' ms q

  none_there : (p : Phase) (f : Framing) (s : Plant) → Has p f [] (s.accesses i).connection → is_accepted (events.take Pin Segment wire n open_of i s).answer ≡ false
  none_there p f s has = go (s.accesses i).connection has
    where
      by : (inbox : List (Option Bytes)) → inbox ≡ [] → is_accepted (events.take_item Pin Segment wire n open_of i s inbox).answer ≡ false
      by [] is = refl
      by (x ∷ rest) is = (let no : x ∷ rest ≡ [] = is in cc)

      go : (o : Option Connection) → Has p f [] o → is_accepted (events.take_open Pin Segment wire n open_of i s o).answer ≡ false
      go None h = absurd h
      go (Some k) h = by k.inbox h.2

  waits_there : (p : Phase) (f : Framing) (x : Option Bytes) (xs : List (Option Bytes)) (o : Option Connection) → Has p f (x ∷ xs) o → inbox_from o ≡ [] → ⊥
  waits_there p f x xs None has empty = has
  waits_there p f x xs (Some k) has empty = (let no : x ∷ xs ≡ [] = sym has.2 ∙ empty in cc)

  takes_walk : (ms : List Message) (p q : Phase) → AreWhole ms → Goes p ms q → (m : Modes) (s : Plant) (ts : List Turn) (end : Plant) (older : List Entry) → AreDue (IsDueTake i) m n s ts end → inbox_from (end.accesses i).connection ≡ [] →
      Walks n i (Has p Empty (items ms)) older s → Walks n i (Has q Empty []) (entries_of ts older) end
  takes_walk [] p q whole goes m s [] end older all over w =
      subst (λ (z : Phase). Walks n i (Has z Empty []) older end) goes (subst (Walks n i (Has p Empty []) older) (sym all) w)
  takes_walk [] p q whole goes m s (t ∷ ts) end older all over w =
      let happens : Happens wire n s (event.Take i) (happened_at t) = subst (λ (e : Event). Happens wire n s e (happened_at t)) all.0 all.1.happens in
      absurd (let clash : true ≡ false = sym all.2 ∙ ap (λ (x : Happened). is_accepted x.answer) happens ∙ none_there p Empty s w.at in cc)
  takes_walk (x ∷ ms) p q whole goes m s [] end older all over w =
      absurd (waits_there p Empty (Some (message_text x)) (items ms) (s.accesses i).connection w.at (subst (λ (z : Plant). inbox_from (z.accesses i).connection ≡ []) all over))
  takes_walk (x ∷ ms) p q whole goes m s (t ∷ ts) end older all over w =
      let happens : Happens wire n s (event.Take i) (happened_at t) = subst (λ (e : Event). Happens wire n s e (happened_at t)) all.0 all.1.happens in
      let leads : Leads p (input_of wire (Some (message_text x))) goes.0 = subst (λ (y : Input). Leads p y goes.0) (sym (got x whole.0.0)) goes.1 in
      takes_walk ms goes.0 q whole.1 goes.2 m t.after ts end (t.entry ∷ older) all.3 over
      (stepped (Has goes.0 Empty (items ms)) t older w.calm (take_stays wire n i s (happened_at t) p goes.0 Empty (Some (message_text x)) (items ms) happens leads w.at))

  feed_accepted : (bytes : Bytes) (s : Plant) (p : Phase) (xs : List (Option Bytes)) → Has p Empty xs (s.accesses i).connection → is_accepted (events.feed Pin Segment wire n open_of i bytes s).answer ≡ true
  feed_accepted bytes s p xs has = go (s.accesses i).connection has
    where
      go : (o : Option Connection) → Has p Empty xs o → is_accepted (events.feed_open Pin Segment wire n open_of i bytes s o).answer ≡ true
      go None h = absurd h
      go (Some k) h = refl

  -- ---- lines

  module _ (old : PlayedNetwork) (same : old.network ≡ n) (c : Cue) (answer : Answered) (turns : List Turn) (told : List ℕ) (new : PlayedNetwork) (older : List Entry) where
    -- a line of others
    module _ (P : Option Connection → Type 0) (none : P None → P None) (more : (k : Connection) (bytes : Bytes) → P (Some k) → P (Some (with_more bytes k))) where
      load_walks : (topology : As × List ℕ) → c.event ≡ load_line topology → PlaysLine old c answer turns told new → Walks n i P older old.state → Walks n i P (entries_of turns older) new.state
      load_walks topology is p w =
          let q = subst (λ (x : LineEvent). Plays c.number old x c.file answer turns told new.state) is p.plays in
          let t = q.loads.turn in
          let happens : Happens wire n old.state (event.Load topology.0 q.topology) (happened_at t) =
          subst (λ (m : NetworkParts). Happens wire m old.state (event.Load topology.0 q.topology) (happened_at t)) same
          (subst (λ (e : Event). Happens wire old.network old.state e (happened_at t)) q.loads.event q.loads.is_turn.happens) in
          subst (λ (ts : List Turn). Walks n i P (entries_of ts older) new.state) (sym q.loads.one)
          (subst (λ (s : Plant). Walks n i P (t.entry ∷ older) s) (sym q.loads.ends) (stepped P t older w.calm (load_stays wire n i P none more topology.0 q.topology old.state (happened_at t) happens w.at)))

      all_due : (until : Until) → AreAllDue (IsDue until old.network) old.modes old.network old.state turns new.state → Walks n i P older old.state → Walks n i P (entries_of turns older) new.state
      all_due until all w = due_walks P none more until old.modes old.state turns new.state older (subst (λ (m : NetworkParts). AreDue (IsDue until m) old.modes m old.state turns new.state) same all.due) w

      settle_walks : c.event ≡ line.Settle → PlaysLine old c answer turns told new → Walks n i P older old.state → Walks n i P (entries_of turns older) new.state
      settle_walks is p w =
          let q = subst (λ (x : LineEvent). Plays c.number old x c.file answer turns told new.state) is p.plays in
          all_due Settled q.all w

      finish_walks : c.event ≡ line.Finish → PlaysLine old c answer turns told new → Walks n i P older old.state → Walks n i P (entries_of turns older) new.state
      finish_walks is p w =
          let q = subst (λ (x : LineEvent). Plays c.number old x c.file answer turns told new.state) is p.plays in
          all_due Finished q.all w

    -- the client opens its connection
    open_walks : is_some (peer_row i n.peers) ≡ true → c.event ≡ line.Open (Some i) 0 → PlaysLine old c answer turns told new → Walks n i IsNone older old.state → Walks n i (Has phase.OpenWait Empty []) (entries_of turns older) new.state
    open_walks known is p w =
        let one : PlaysOne c.number old (event.Open i 0) answer turns told new.state = subst (λ (x : LineEvent). Plays c.number old x c.file answer turns told new.state) is p.plays in
        let t = one.turn in
        let happens : Happens wire n old.state (event.Open i 0) (happened_at t) =
        subst (λ (m : NetworkParts). Happens wire m old.state (event.Open i 0) (happened_at t)) same
        (subst (λ (e : Event). Happens wire old.network old.state e (happened_at t)) one.event one.is_turn.happens) in
        subst (λ (ts : List Turn). Walks n i (Has phase.OpenWait Empty []) (entries_of ts older) new.state) (sym one.one)
        (subst (λ (s : Plant). Walks n i (Has phase.OpenWait Empty []) (t.entry ∷ older) s) (sym one.ends)
        (stepped (Has phase.OpenWait Empty []) t older w.calm (open_stays wire n i 0 old.state (happened_at t) happens known (is_none (old.state.accesses i).connection w.at))))

    -- what it feeds is taken
    module _ (p : Phase) (up : is_down p ≡ false) (ms : List Message) (bytes : Bytes) (whole : AreWhole ms) (is_text : bytes ≡ joined (map message_text ms)) (is : c.event ≡ line.Feed (Some i) bytes) (line_p : PlaysLine old c answer turns told new) (w : Walks n i (Has p Empty []) older old.state) where
      abbrev feeds : PlaysFeed c.number old i bytes answer turns told new.state
      feeds = subst (λ (x : LineEvent). Plays c.number old x c.file answer turns told new.state) is line_p.plays

      fed_happens : Happens wire n old.state (event.Feed i bytes) (happened_at feeds.fed)
      fed_happens =
          subst (λ (m : NetworkParts). Happens wire m old.state (event.Feed i bytes) (happened_at feeds.fed)) same
          (subst (λ (e : Event). Happens wire old.network old.state e (happened_at feeds.fed)) feeds.event feeds.is_turn.happens)

      fed_walks : Walks n i (Has p Empty (items ms)) (feeds.fed.entry ∷ older) feeds.fed.after
      fed_walks =
          let come = comes ms bytes whole is_text in
          let h = feed_stays wire n i bytes old.state (happened_at feeds.fed) p Empty [] fed_happens up w.at in
          stepped (Has p Empty (items ms)) feeds.fed older w.calm (
            subst (λ (xs : List (Option Bytes)). Has p Empty xs (feeds.fed.after.accesses i).connection) come.1
                (subst (λ (f : Framing). Has p f ([] ++ split_all wire (feed_of Empty bytes).frames ++ bad_item (feed_of Empty bytes).framing.bad) (feeds.fed.after.accesses i).connection) come.0 h.0),
            h.1,
          )

      fed_due : AreAllDue (IsDueTake i) old.modes n feeds.fed.after feeds.taken new.state
      fed_due =
          let agreed : is_accepted answer ≡ true =
          sym (ap is_accepted feeds.answered) ∙ ap (λ (x : Happened). is_accepted x.answer) fed_happens ∙ feed_accepted bytes old.state p [] w.at in
          subst (λ (m : NetworkParts). AreAllDue (IsDueTake i) old.modes m feeds.fed.after feeds.taken new.state) same
          (subst (λ (b : Bool). cond b (AreAllDue (IsDueTake i) old.modes old.network feeds.fed.after feeds.taken new.state) ((feeds.taken ≡ []) × (new.state ≡ feeds.fed.after))) agreed feeds.takes)

      feed_walks : (q : Phase) → Goes p ms q → Walks n i (Has q Empty []) (entries_of turns older) new.state
      feed_walks q goes =
          subst (λ (ts : List Turn). Walks n i (Has q Empty []) (entries_of ts older) new.state) (sym feeds.are)
          (takes_walk ms p q whole goes old.modes feeds.fed.after feeds.taken new.state (feeds.fed.entry ∷ older) fed_due.due fed_due.over fed_walks)

  -- ---- the question is taken

  module _ (question : Question) where
    -- the entry that takes it
    pub record IsTaking (e : Entry) : Type 0 where
      pub outputs : List Output
      pub accepted : is_accepted e.answer ≡ true
      pub takes : e.event ≡ event.Take i
      pub deeds : e.deeds ≡ Takes (element_of n i) (Outside i) (question_message question) outputs ∷ []

    -- It was taken, and what follows is done by others alone.
    abbrev pub IsTail : List Entry → Type 0
    IsTail [] = ⊥
    IsTail (e ∷ es) = IsTaking e ⊎ ((is_accepted e.answer ≡ true) × IsOfOthers e.event × IsTail es)

    pub record IsTaken (es : List Entry) : Type 0 where
      pub outputs : List Output
      pub older : Transcript
      pub within : Within (Takes (element_of n i) (Outside i) (question_message question) outputs ∷ older) (deeds_of wire n es)

    pub tail_taken : (es : List Entry) → IsTail es → IsTaken es
    tail_taken [] tail = absurd tail
    tail_taken (e ∷ es) (inl x) = record {
      outputs = x.outputs;
      older = deeds_of wire n es;
      within = subst (λ (ds : Transcript). Within (Takes (element_of n i) (Outside i) (question_message question) x.outputs ∷ deeds_of wire n es) (ds ++ deeds_of wire n es)) (sym x.deeds) (inl refl);
    }
    tail_taken (e ∷ es) (inr later) =
        let t = tail_taken es later.2 in
        record { outputs = t.outputs; older = t.older; within = within_behind e.deeds (deeds_of wire n es) (Takes (element_of n i) (Outside i) (question_message question) t.outputs ∷ t.older) t.within }

    others_tail : (until : Until) (m : Modes) (s : Plant) (ts : List Turn) (end : Plant) (older : List Entry) → AreDue (IsDue until n) m n s ts end → IsTail older → IsTail (entries_of ts older)
    others_tail until m s [] end older all tail = tail
    others_tail until m s (t ∷ ts) end older all tail = others_tail until m t.after ts end (t.entry ∷ older) all.3 (inr (all.2, go t.entry.event all.0, tail))
      where
        go : (e : Event) → IsDue until n s (Some e) → IsOfOthers e
        go (event.Carry a b) due = tt
        go (event.Solve d k) due = tt
        go _ due = absurd due

    -- it is the one that is taken
    one_taken : IsWritten (question_message question) → (m : Modes) (s : Plant) (ts : List Turn) (end : Plant) (older : List Entry) → AreDue (IsDueTake i) m n s ts end → inbox_from (end.accesses i).connection ≡ [] →
        Has phase.Up Empty (items (question_message question ∷ [])) (s.accesses i).connection → IsTail (entries_of ts older)
    one_taken fits m s [] end older all over has =
        absurd (waits_there phase.Up Empty (Some (question_text question)) [] (s.accesses i).connection has (subst (λ (z : Plant). inbox_from (z.accesses i).connection ≡ []) all over))
    one_taken fits m s (t ∷ []) end older all over has =
        let happens : Happens wire n s (event.Take i) (happened_at t) = subst (λ (e : Event). Happens wire n s e (happened_at t)) all.0 all.1.happens in
        let says =
        request_taken wire n i s (happened_at t) Empty (question_text question) (asked_of question ∷ []) [] happens (ap message_or_none (message_laws.written_is_read (question_message question) fits)) has in
        inl (record { outputs = says.0; accepted = all.2; takes = all.0; deeds = says.1 })
    one_taken fits m s (t ∷ u ∷ us) end older all over has =
        let happens : Happens wire n s (event.Take i) (happened_at t) = subst (λ (e : Event). Happens wire n s e (happened_at t)) all.0 all.1.happens in
        let leads : Leads phase.Up (input_of wire (Some (question_text question))) phase.Up =
        subst (λ (y : Input). Leads phase.Up y phase.Up) (sym (got (question_message question) fits)) (request_leads (asked_of question ∷ [])) in
        let then = take_stays wire n i s (happened_at t) phase.Up phase.Up Empty (Some (question_text question)) [] happens leads has in
        let again : Happens wire n t.after (event.Take i) (happened_at u) = subst (λ (e : Event). Happens wire n t.after e (happened_at u)) all.3.0 all.3.1.happens in
        absurd (let clash : true ≡ false = sym all.3.2 ∙ ap (λ (x : Happened). is_accepted x.answer) again ∙ none_there phase.Up Empty t.after then.0 in cc)

    question_whole : IsWritten (question_message question) → AreWhole (question_message question ∷ [])
    question_whole fits = ((fits, question_alone question fits), tt)

    question_is : question_text question ≡ joined (map message_text (question_message question ∷ []))
    question_is = sym (append-nil (question_text question))

    opening_whole : AreWhole (open_message ∷ messages.Keepalive ∷ [])
    opening_whole = ((open_written, refl), ((keepalive_written, refl), tt))

    opening_is : opening_text ≡ joined (map message_text (open_message ∷ messages.Keepalive ∷ []))
    opening_is = ap (λ (l : Bytes). message_text open_message ++ l) (sym (append-nil (message_text messages.Keepalive)))

    opening_goes : Goes phase.OpenWait (open_message ∷ messages.Keepalive ∷ []) phase.Up
    opening_goes = (phase.KeepWait, open_leads (record { keepalive = 0; dead = 0; sid = 1; stateful = false }), (phase.Up, keepalive_leads, refl))

    question_goes : Goes phase.Up (question_message question ∷ []) phase.Up
    question_goes = (phase.Up, request_leads (asked_of question ∷ []), refl)

    finish_tail : (old : PlayedNetwork) → old.network ≡ n → (c : Cue) (answer : Answered) (turns : List Turn) (told : List ℕ) (new : PlayedNetwork) (older : List Entry) → c.event ≡ line.Finish → PlaysLine old c answer turns told new →
        IsTail older → IsTail (entries_of turns older)
    finish_tail old same c answer turns told new older is p tail =
        let q = subst (λ (x : LineEvent). Plays c.number old x c.file answer turns told new.state) is p.plays in
        others_tail Finished old.modes old.state turns new.state older (subst (λ (m : NetworkParts). AreDue (IsDue Finished m) old.modes m old.state turns new.state) same q.all.due) tail

    -- ---- lines one after the other

    abbrev pub Ends : List Entry → Plant → Type 0
    Ends es s = Walks n i (Has phase.Up Empty []) es s × IsTail es

    module _ (fits : IsWritten (question_message question)) (known : is_some (peer_row i n.peers) ≡ true) (files : Option Files) where
      finishing : (cs : List Cue) → AreCues files (line.Finish ∷ []) cs → (old new : PlayedNetwork) (turns : List Turn) (told : List ℕ) (older : List Entry) → AllPlayed old cs turns told new → old.network ≡ n → Ends older old.state → Ends (entries_of turns older) new.state
      finishing [] are old new turns told older p same h = absurd are
      finishing (c ∷ d ∷ cs) are old new turns told older p same h = absurd are.1
      finishing (c ∷ []) are old new turns told older p same h =
          on i Ends turns p.first p.later older new.state p.turns_are
          (subst (λ (ts : List Turn). Ends (entries_of ts (entries_of p.first older)) new.state) (sym p.others.0)
          (subst (λ (x : PlayedNetwork). Ends (entries_of p.first older) x.state) (sym p.others.2)
          (finish_walks old same c p.answer p.first p.said p.mid older (Has phase.Up Empty []) (λ z. z) (λ k bytes z. z) are.0.event p.plays h.0, finish_tail old same c p.answer p.first p.said p.mid older are.0.event p.plays h.1)))

      asking : (cs : List Cue) → AreCues files (line.Feed (Some i) (question_text question) ∷ line.Finish ∷ []) cs → (old new : PlayedNetwork) (turns : List Turn) (told : List ℕ) (older : List Entry) → AllPlayed old cs turns told new → old.network ≡ n →
          Walks n i (Has phase.Up Empty []) older old.state → Ends (entries_of turns older) new.state
      asking [] are old new turns told older p same w = absurd are
      asking (c ∷ cs) are old new turns told older p same w =
          let ms = question_message question ∷ [] in
          let bytes = question_text question in
          let q = feeds old same c p.answer p.first p.said p.mid older phase.Up refl ms bytes (question_whole fits) question_is are.0.event p.plays w in
          let due = fed_due old same c p.answer p.first p.said p.mid older phase.Up refl ms bytes (question_whole fits) question_is are.0.event p.plays w in
          let fed = fed_walks old same c p.answer p.first p.said p.mid older phase.Up refl ms bytes (question_whole fits) question_is are.0.event p.plays w in
          let taken : IsTail (entries_of p.first older) =
          subst (λ (ts : List Turn). IsTail (entries_of ts older)) (sym q.are) (one_taken fits old.modes q.fed.after q.taken p.mid.state (q.fed.entry ∷ older) due.due due.over fed.at) in
          on i Ends turns p.first p.later older new.state p.turns_are
          (finishing cs are.1 p.mid new p.later p.more (entries_of p.first older) p.others (p.plays.network ∙ same)
          (feed_walks old same c p.answer p.first p.said p.mid older phase.Up refl ms bytes (question_whole fits) question_is are.0.event p.plays w phase.Up question_goes, taken))

      greeting : (cs : List Cue) → AreCues files (line.Feed (Some i) opening_text ∷ line.Feed (Some i) (question_text question) ∷ line.Finish ∷ []) cs → (old new : PlayedNetwork) (turns : List Turn) (told : List ℕ) (older : List Entry) → AllPlayed old cs turns told new →
          old.network ≡ n → Walks n i (Has phase.OpenWait Empty []) older old.state → Ends (entries_of turns older) new.state
      greeting [] are old new turns told older p same w = absurd are
      greeting (c ∷ cs) are old new turns told older p same w =
          on i Ends turns p.first p.later older new.state p.turns_are
          (asking cs are.1 p.mid new p.later p.more (entries_of p.first older) p.others (p.plays.network ∙ same)
          (feed_walks old same c p.answer p.first p.said p.mid older phase.OpenWait refl (open_message ∷ messages.Keepalive ∷ []) opening_text opening_whole opening_is are.0.event p.plays w phase.Up opening_goes))

      opening : (cs : List Cue) → AreCues files (line.Open (Some i) 0 ∷ line.Feed (Some i) opening_text ∷ line.Feed (Some i) (question_text question) ∷ line.Finish ∷ []) cs → (old new : PlayedNetwork) (turns : List Turn) (told : List ℕ) (older : List Entry) →
          AllPlayed old cs turns told new → old.network ≡ n → Walks n i IsNone older old.state → Ends (entries_of turns older) new.state
      opening [] are old new turns told older p same w = absurd are
      opening (c ∷ cs) are old new turns told older p same w =
          on i Ends turns p.first p.later older new.state p.turns_are
          (greeting cs are.1 p.mid new p.later p.more (entries_of p.first older) p.others (p.plays.network ∙ same) (open_walks old same c p.answer p.first p.said p.mid older known are.0.event p.plays w))

      settling : (cs : List Cue) → AreCues files (question_lines i question) cs → (old new : PlayedNetwork) (turns : List Turn) (told : List ℕ) (older : List Entry) → AllPlayed old cs turns told new → old.network ≡ n → Walks n i IsNone older old.state →
          Ends (entries_of turns older) new.state
      settling [] are old new turns told older p same w = absurd are
      settling (c ∷ cs) are old new turns told older p same w =
          on i Ends turns p.first p.later older new.state p.turns_are
          (opening cs are.1 p.mid new p.later p.more (entries_of p.first older) p.others (p.plays.network ∙ same)
          (settle_walks old same c p.answer p.first p.said p.mid older IsNone (λ z. z) (λ k bytes z. z) are.0.event p.plays w))

      pub loading : (ts : List (As × List ℕ)) (cs : List Cue) → AreCues files (map load_line ts ++ question_lines i question) cs → (old new : PlayedNetwork) (turns : List Turn) (told : List ℕ) (older : List Entry) → AllPlayed old cs turns told new → old.network ≡ n →
          Walks n i IsNone older old.state → Ends (entries_of turns older) new.state
      loading [] cs are old new turns told older p same w = settling cs are old new turns told older p same w
      loading (t ∷ ts) [] are old new turns told older p same w = absurd are
      loading (t ∷ ts) (c ∷ cs) are old new turns told older p same w =
          on i Ends turns p.first p.later older new.state p.turns_are
          (loading ts cs are.1 p.mid new p.later p.more (entries_of p.first older) p.others (p.plays.network ∙ same)
          (load_walks old same c p.answer p.first p.said p.mid older IsNone (λ z. z) (λ k bytes z. z) t are.0.event p.plays w))
