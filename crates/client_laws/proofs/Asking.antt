-- A client that asks once receives all that was put for it.
use Rattle.std.proofs.Common.{◌≡◌, ◌<◌, ℕ, Bool, true, false, cond, ◌==◌, List, [], ◌∷◌, ◌++◌, All, map, Option, Some, None, is_some, Ok, sym, ap, subst, ◌∙◌, refl}
use Rattle.std.proofs.Math.Dec.{ltb}
use Rattle.std.proofs.lemmas.Bool.{eq-eqb, ltb-true}
use Rattle.std.proofs.lemmas.List.Elements.{All-cons, All-nil, All-weaker}
use Rattle.std.proofs.lemmas.List.Sums.{AllPass-from_list_all}
use Rattle.std.specs.List.{list_all}
use Rattle.plant_play.specs.plant_model.Types.{As, Message, LineEvent, NetworkParts}
use Rattle.dom_edge.specs.Stores.{Files}
use Rattle.disclosure.specs.Shown.{open_of}
use Rattle.pcep_framing.specs.Frames.{joined}
use Rattle.plant_text.specs.declared.line.LineEvent.TheVariants as line
use Rattle.plant_text.specs.Settings.{peer_row}
use Rattle.plant_play.specs.plant_model.declared.event.Event.{Event}
use Rattle.plant_play.specs.plant_model.declared.event.Event.TheVariants as event
use Rattle.plant_play.specs.plant_model.declared.outcome.Outcome.TheVariants.{Drained}
use Rattle.plant_play.specs.plant_model.declared.outcome.Refused.TheVariants.{NoSuchPeer, NotHolder}
use Rattle.plant_play.specs.plant_model.Blind.{is_accepted}
use Rattle.plant_play.specs.plant_model.Deeds.{with_access}
use Rattle.plant_play.specs.plant_model.Events as events
use Rattle.plant_play.specs.plant_model.Events.{Answered, is_down}
use Rattle.plant_play.specs.plant_model.Plant.{Entry, Happened, Happens, Pin, Plant, Run, Segment}
use Rattle.plant_play.specs.plant_model.RealWire.{wire}
use Rattle.plant_play.specs.plant_model.State.{Connection, Hands}
use Rattle.plant_play.specs.Playing.{Cue, Plays, PlaysLine, PlaysOne, PlayedNetwork}
use Rattle.plant_play.specs.Scripts.{AllPlayed}
use Rattle.plant_play.specs.Turns.{Turn, entries_of}
use Rattle.client_laws.specs.Laws.{FeedOctets, FeedsOctets}
use Rattle.client_laws.proofs.Rightly.{scripts_are_right}
use Rattle.plant_client.specs.declared.question.Question.{Question}
use Rattle.plant_client.specs.Asking.{AreCues, load_line, question_lines, received_in, topologies}
use Rattle.plant_client.specs.Questions.{opening_text, question_text}
use Rattle.plant_client.specs.Telling.{told_text}
use Rattle.run_laws.specs.Outlets.{Opens, Outlet, Stays, bytes_of, handed_in, messages_for, outlet, turn_for, turned}
use Rattle.run_laws.proofs.PeerLemmas.OutletEvents.{Fits}
use Rattle.run_laws.proofs.PeerLemmas.Growing.{view_of}
use Rattle.run_laws.proofs.PeerLemmas.OutletRuns.{run_fits}
use Rattle.run_laws.proofs.PeerLemmas.Reading.{handed_is_read}
use Rattle.run_laws.proofs.PeerLemmas.Answering.{answers_are_right}
use Rattle.client_laws.specs.Told.{ClientsAreTold}
use Rattle.client_laws.proofs.Lines.{AllStay, IsPlain, IsUndrained, entries_join, one_turn, plain_stays, plain_turns, still_open, still_shut, turns_fit, view}
use Rattle.client_laws.proofs.Telling.{stream_told}

-- ---- what the lines feed is octets

below : (bytes : List ℕ) → list_all (λ (b : ℕ). ltb b 256) bytes ≡ true → All (λ (b : ℕ). b < 256) bytes
below bytes is =
    All-weaker (λ (b : ℕ). ltb b 256 ≡ true) (λ (b : ℕ). b < 256) (λ b agreed. ltb-true b 256 agreed) bytes (AllPass-from_list_all (λ (b : ℕ). ltb b 256) bytes is)

abbrev pub FeedAll : List LineEvent → Type 0
FeedAll es = (files : Option Files) (cs : List Cue) → AreCues files es cs → FeedOctets cs

no_lines : FeedAll []
no_lines files [] are = All-nil (λ (c : Cue). FeedsOctets c.event)
no_lines files (c ∷ cs) are = absurd are

one_line : (e : LineEvent) (es : List LineEvent) → FeedsOctets e → FeedAll es → FeedAll (e ∷ es)
one_line e es feeds all files [] are = absurd are
one_line e es feeds all files (c ∷ cs) are = All-cons (λ (x : Cue). FeedsOctets x.event) c cs (subst FeedsOctets (sym are.0.event) feeds) (all files cs are.1)

loads_feed : (ts : List (As × List ℕ)) (es : List LineEvent) → FeedAll es → FeedAll (map load_line ts ++ es)
loads_feed [] es all = all
loads_feed (t ∷ ts) es all = one_line (load_line t) (map load_line ts ++ es) tt (loads_feed ts es all)

pub lines_feed : (ts : List (As × List ℕ)) (client : ℕ) (q : Question) → FeedsOctets (line.Feed (Some client) (question_text q)) → FeedAll (map load_line ts ++ question_lines client q)
lines_feed ts client q octets =
    let last = line.Finish ∷ [] in
    let asks = line.Feed (Some client) (question_text q) ∷ last in
    let opens = line.Feed (Some client) opening_text ∷ asks in
    loads_feed ts (question_lines client q)
    (one_line line.Settle (line.Open (Some client) 0 ∷ opens) tt
    (one_line (line.Open (Some client) 0) opens tt
    (one_line (line.Feed (Some client) opening_text) asks (below opening_text refl)
    (one_line (line.Feed (Some client) (question_text q)) last octets
    (one_line line.Finish [] tt no_lines)))))

-- ---- the connection, line by line

module _ (i : ℕ) where
  -- the transcript's connection is the state's
  abbrev pub Fit : List Entry → Plant → Type 0
  Fit es s = Fits wire (outlet i es) (view i s)

  abbrev pub IsShut : List Entry → Plant → Type 0
  IsShut es s = (outlet i es ≡ None) × Fit es s

  abbrev pub IsOpen : List Entry → Plant → Type 0
  IsOpen es s = IsUndrained 0 (outlet i es) × Fit es s

  pub plain_fits : (e : LineEvent) → IsPlain e → (old : PlayedNetwork) (c : Cue) (answer : Answered) (turns : List Turn) (told : List ℕ) (new : PlayedNetwork) (older : List Entry) → c.event ≡ e → PlaysLine old c answer turns told new → Fit older old.state → Fit (entries_of turns older) new.state
  plain_fits e plain old c answer turns told new older is p fits =
      turns_fit i old.modes old.network old.state turns new.state older
      (plain_turns c.number old answer turns told new.state e c.file plain (subst (λ (x : LineEvent). Plays c.number old x c.file answer turns told new.state) is p.plays)) fits

  pub one_fits : (e : Event) (number : ℕ) (old : PlayedNetwork) (answer : Answered) (turns : List Turn) (told : List ℕ) (end : Plant) (older : List Entry) → PlaysOne number old e answer turns told end → Fit older old.state → Fit (entries_of turns older) end
  one_fits e number old answer turns told end older p fits = turns_fit i old.modes old.network old.state turns end older (one_turn number old answer turns told end e p) fits

  -- a line of another kind than that which opens
  plain_line : (e : LineEvent) → IsPlain e → (old : PlayedNetwork) (c : Cue) (answer : Answered) (turns : List Turn) (told : List ℕ) (new : PlayedNetwork) → c.event ≡ e → PlaysLine old c answer turns told new → AllStay i turns
  plain_line e plain old c answer turns told new is p =
      plain_stays i c.number old answer turns told new.state e c.file plain (subst (λ (x : LineEvent). Plays c.number old x c.file answer turns told new.state) is p.plays)

  pub plain_shut : (e : LineEvent) → IsPlain e → (old : PlayedNetwork) (c : Cue) (answer : Answered) (turns : List Turn) (told : List ℕ) (new : PlayedNetwork) (older : List Entry) → c.event ≡ e → PlaysLine old c answer turns told new →
      IsShut older old.state → IsShut (entries_of turns older) new.state
  plain_shut e plain old c answer turns told new older is p h = (
    still_shut i turns older (plain_line e plain old c answer turns told new is p) h.0,
    plain_fits e plain old c answer turns told new older is p h.1,
  )

  pub plain_open : (e : LineEvent) → IsPlain e → (old : PlayedNetwork) (c : Cue) (answer : Answered) (turns : List Turn) (told : List ℕ) (new : PlayedNetwork) (older : List Entry) → c.event ≡ e → PlaysLine old c answer turns told new →
      IsOpen older old.state → IsOpen (entries_of turns older) new.state
  plain_open e plain old c answer turns told new older is p h = (
    still_open i 0 turns older (plain_line e plain old c answer turns told new is p) h.0,
    plain_fits e plain old c answer turns told new older is p h.1,
  )

  -- the open is accepted
  pub no_connection : (o : Option Outlet) (k : Option Connection) → o ≡ None → Fits wire o (view_of k) → k ≡ None
  no_connection None None is fits = refl
  no_connection None (Some k) is fits = absurd fits
  no_connection (Some x) k is fits = cc

  pub accepted : (n : NetworkParts) (s : Plant) → is_some (peer_row i n.peers) ≡ true → (s.accesses i).connection ≡ None → is_accepted (events.open_peer Pin Segment wire n open_of i 0 s).answer ≡ true
  accepted n s known none = go (is_some (peer_row i n.peers)) known (s.accesses i).connection none
    where
      go : (b : Bool) → b ≡ true → (o : Option Connection) → o ≡ None →
          is_accepted (cond b (events.open_new Pin Segment wire n open_of i 0 s o) (events.refused Pin Segment wire n open_of NoSuchPeer s)).answer ≡ true
      go true agreed None is = refl
      go true agreed (Some k) is = cc
      go false agreed o is = cc

  made : (answer : Answered) (e : Event) (ms : List Message) (bytes : List ℕ) (o : Option Outlet) → is_accepted answer ≡ true → e ≡ event.Open i 0 →
      IsUndrained 0 (cond (is_accepted answer) (turned (turn_for i e) ms bytes o) o)
  made answer e ms bytes o agreed is =
      subst (λ (b : Bool). IsUndrained 0 (cond b (turned (turn_for i e) ms bytes o) o)) (sym agreed)
      (subst (λ (x : Event). IsUndrained 0 (turned (turn_for i x) ms bytes o)) (sym is)
      (subst (λ (b : Bool). IsUndrained 0 (turned (cond b (Opens 0) Stays) ms bytes o)) (sym (eq-eqb i i refl)) (refl, refl)))

  pub opening_line : (n : NetworkParts) → is_some (peer_row i n.peers) ≡ true → (old : PlayedNetwork) (c : Cue) (answer : Answered) (turns : List Turn) (told : List ℕ) (new : PlayedNetwork) (older : List Entry) → old.network ≡ n →
      c.event ≡ line.Open (Some i) 0 → PlaysLine old c answer turns told new → IsShut older old.state → IsOpen (entries_of turns older) new.state
  opening_line n known old c answer turns told new older same is p h =
      let one : PlaysOne c.number old (event.Open i 0) answer turns told new.state = subst (λ (x : LineEvent). Plays c.number old x c.file answer turns told new.state) is p.plays in
      let t = one.turn in
      let h' : Happened = record { answer = t.entry.answer; state = t.after; deeds = t.entry.deeds } in
      let happens : Happens wire old.network old.state (event.Open i 0) h' = subst (λ (e : Event). Happens wire old.network old.state e h') one.event one.is_turn.happens in
      let known' : is_some (peer_row i old.network.peers) ≡ true = ap (λ (m : NetworkParts). is_some (peer_row i m.peers)) same ∙ known in
      let agreed : is_accepted t.entry.answer ≡ true =
      ap (λ (x : Happened). is_accepted x.answer) happens ∙ accepted old.network old.state known' (no_connection (outlet i older) (old.state.accesses i).connection h.0 h.1) in (
        subst (λ (ts : List Turn). IsUndrained 0 (outlet i (entries_of ts older))) (sym one.one)
            (made t.entry.answer t.entry.event (messages_for i t.entry.deeds) (handed_in t.entry.answer) (outlet i older) agreed one.event),
        one_fits (event.Open i 0) c.number old answer turns told new.state older one h.1,
      )

  -- ---- lines one after the other

  abbrev AllPlain : List LineEvent → Type 0
  AllPlain [] = Unit {0}
  AllPlain (e ∷ es) = IsPlain e × AllPlain es

  pub on : (P : List Entry → Plant → Type 0) (turns first later : List Turn) (older : List Entry) (s : Plant) → turns ≡ first ++ later → P (entries_of later (entries_of first older)) s → P (entries_of turns older) s
  on P turns first later older s are h =
      subst (λ (ts : List Turn). P (entries_of ts older) s) (sym are) (subst (λ (es : List Entry). P es s) (sym (entries_join first later older)) h)

  plain_lines : (files : Option Files) (es : List LineEvent) → AllPlain es → (cs : List Cue) → AreCues files es cs → (old new : PlayedNetwork) (turns : List Turn) (told : List ℕ) (older : List Entry) → AllPlayed old cs turns told new →
      IsOpen older old.state → IsOpen (entries_of turns older) new.state
  plain_lines files [] plain [] are old new turns told older p h =
      subst (λ (ts : List Turn). IsOpen (entries_of ts older) new.state) (sym p.0) (subst (λ (x : PlayedNetwork). IsOpen older x.state) (sym p.2) h)
  plain_lines files [] plain (c ∷ cs) are old new turns told older p h = absurd are
  plain_lines files (e ∷ es) plain [] are old new turns told older p h = absurd are
  plain_lines files (e ∷ es) plain (c ∷ cs) are old new turns told older p h =
      on IsOpen turns p.first p.later older new.state p.turns_are
      (plain_lines files es plain.1 cs are.1 p.mid new p.later p.more (entries_of p.first older) p.others
      (plain_open e plain.0 old c p.answer p.first p.said p.mid older are.0.event p.plays h))

  module _ (n : NetworkParts) (known : is_some (peer_row i n.peers) ≡ true) (files : Option Files) where
    after_open : (es : List LineEvent) → AllPlain es → (cs : List Cue) → AreCues files (line.Open (Some i) 0 ∷ es) cs → (old new : PlayedNetwork) (turns : List Turn) (told : List ℕ) (older : List Entry) → AllPlayed old cs turns told new →
        old.network ≡ n → IsShut older old.state → IsOpen (entries_of turns older) new.state
    after_open es plain [] are old new turns told older p same h = absurd are
    after_open es plain (c ∷ cs) are old new turns told older p same h =
        on IsOpen turns p.first p.later older new.state p.turns_are
        (plain_lines files es plain cs are.1 p.mid new p.later p.more (entries_of p.first older) p.others
        (opening_line n known old c p.answer p.first p.said p.mid older same are.0.event p.plays h))

    after_settling : (es : List LineEvent) → AllPlain es → (cs : List Cue) → AreCues files (line.Settle ∷ line.Open (Some i) 0 ∷ es) cs → (old new : PlayedNetwork) (turns : List Turn) (told : List ℕ) (older : List Entry) → AllPlayed old cs turns told new →
        old.network ≡ n → IsShut older old.state → IsOpen (entries_of turns older) new.state
    after_settling es plain [] are old new turns told older p same h = absurd are
    after_settling es plain (c ∷ cs) are old new turns told older p same h =
        on IsOpen turns p.first p.later older new.state p.turns_are
        (after_open es plain cs are.1 p.mid new p.later p.more (entries_of p.first older) p.others (p.plays.network ∙ same)
        (plain_shut line.Settle tt old c p.answer p.first p.said p.mid older are.0.event p.plays h))

    pub after_loads : (ts : List (As × List ℕ)) (es : List LineEvent) → AllPlain es → (cs : List Cue) → AreCues files (map load_line ts ++ line.Settle ∷ line.Open (Some i) 0 ∷ es) cs →
        (old new : PlayedNetwork) (turns : List Turn) (told : List ℕ) (older : List Entry) → AllPlayed old cs turns told new → old.network ≡ n → IsShut older old.state → IsOpen (entries_of turns older) new.state
    after_loads [] es plain cs are old new turns told older p same h = after_settling es plain cs are old new turns told older p same h
    after_loads (t ∷ ts) es plain [] are old new turns told older p same h = absurd are
    after_loads (t ∷ ts) es plain (c ∷ cs) are old new turns told older p same h =
        on IsOpen turns p.first p.later older new.state p.turns_are
        (after_loads ts es plain cs are.1 p.mid new p.later p.more (entries_of p.first older) p.others (p.plays.network ∙ same)
        (plain_shut (load_line t) tt old c p.answer p.first p.said p.mid older are.0.event p.plays h))

  -- ---- the drain

  pub drained : (n : NetworkParts) (s : Plant) (k : Connection) → (s.accesses i).connection ≡ Some k → k.holder ≡ 0 → received_in (events.drain Pin Segment wire n open_of i 0 s).answer ≡ joined k.out
  drained n s k is holder =
      subst (λ (o : Option Connection). received_in (events.drain_open Pin Segment wire n open_of i 0 s o).answer ≡ joined k.out) (sym is) (go (k.holder == 0) (eq-eqb k.holder 0 holder))
    where
      handed : Happened
      handed = record { answer = Ok (Drained (joined k.out) (is_down k.session.phase)); state = with_access Pin Segment wire n open_of i events.drained s; deeds = Hands i (joined k.out) ∷ [] }

      go : (b : Bool) → b ≡ true → received_in (cond b handed (events.refused Pin Segment wire n open_of (NotHolder k.holder) s)).answer ≡ joined k.out
      go true agreed = refl
      go false agreed = cc

  -- all that waits, of a connection from which nothing was drained
  pub all_waits : (o : Option Outlet) (k : Option Connection) → IsUndrained 0 o → Fits wire o (view_of k) → (x : Outlet) × (o ≡ Some x) × (c : Connection) × (k ≡ Some c) × (c.holder ≡ 0) × (joined c.out ≡ bytes_of wire x.put)
  all_waits None k h fits = absurd h
  all_waits (Some x) None h fits = absurd fits
  all_waits (Some x) (Some c) h fits = (x, refl, c, refl, fits.0 ∙ h.0, ap (λ (l : List ℕ). l ++ joined c.out) (sym h.1) ∙ fits.1)

pub clients_are_told : ClientsAreTold
clients_are_told files n client question received net is a short =
    let es = entries_of a.lines.turns [] in
    let octets = lines_feed (topologies n.elements) client question a.octets files a.lines.cues a.lines.are_cues in
    let run : Run wire n es a.asked.state = (scripts_are_right n net a.start a.asked a.lines.cues a.lines.turns a.lines.told a.new octets a.lines.played).0.run in
    let open_now =
    after_loads client n is.known files (topologies n.elements) (line.Feed (Some client) opening_text ∷ line.Feed (Some client) (question_text question) ∷ line.Finish ∷ []) (tt, (tt, (tt, tt)))
    a.lines.cues a.lines.are_cues a.start a.asked a.lines.turns a.lines.told [] a.lines.played a.new.network (refl, run_fits wire n [] a.start.state a.new.run client) in
    let all = all_waits client (outlet client es) (a.asked.state.accesses client).connection open_now.0 open_now.1 in
    let d = a.receives.drains in
    let one : PlaysOne d.cue.number a.asked (event.Drain client 0) a.receives.answer d.turns d.told a.end.state =
    subst (λ (x : LineEvent). Plays d.cue.number a.asked x d.cue.file a.receives.answer d.turns d.told a.end.state) d.is_cue.event d.plays.plays in
    let h : Happened = record { answer = one.turn.entry.answer; state = one.turn.after; deeds = one.turn.entry.deeds } in
    let happens : Happens wire a.asked.network a.asked.state (event.Drain client 0) h = subst (λ (e : Event). Happens wire a.asked.network a.asked.state e h) one.event one.is_turn.happens in
    let bytes : received ≡ bytes_of wire all.0.put =
    a.receives.bytes ∙ ap received_in (sym one.answered) ∙ ap (λ (x : Happened). received_in x.answer) happens ∙ drained client a.asked.network a.asked.state all.2 all.3 all.4 ∙ all.5 in
    record {
      connection = all.0;
      is_open = all.1;
      all = bytes;
      told = ap told_text bytes ∙ stream_told all.0.put (bytes_of wire all.0.put) (handed_is_read n net es a.asked.state run short client all.0 all.1);
      right = answers_are_right n net es a.asked.state run short client is.class all.0 all.1;
    }
