-- What a session writes is a first part of what the run put for its peer.
use Rattle.std.proofs.Common.{◌≡◌, ◌≢◌, ◌∙◌, ◌⊎◌, ◌&&◌, ◌==◌, inl, inr, ℕ, Bool, true, false, cond, eq-eqb, List, [], ◌∷◌, ◌++◌, append-nil, append_assoc, drop, map, take, Option, Some, None, Ok, ap, refl, sym, subst}
use Rattle.std.specs.Io.KnownBytes.{Appends}
use Rattle.std.proofs.lemmas.Bool.{eqb-true}
use Rattle.std.proofs.lemmas.List.{append_cancel_left, map-append, take-append-drop}
use Rattle.dom_edge.specs.Streams.{Writing}
use Rattle.dom_edge.specs.Whole.{AppendsSome}
use Rattle.pcep_framing.specs.Frames as frames
use Rattle.plant_network.specs.plant_model.declared.event.Event.{Event}
use Rattle.plant_network.specs.plant_model.declared.event.Event.TheVariants as event
use Rattle.plant_network.specs.plant_model.Blind.{is_accepted}
use Rattle.plant_network.specs.plant_model.Events.{Answered}
use Rattle.plant_network.specs.plant_model.Plant.{Entry, Plant, Run}
use Rattle.plant_network.specs.plant_model.RealWire.{wire}
use Rattle.plant_network.specs.plant_model.State.{Connection}
use Rattle.plant_network.specs.plant_model.Types.{NetworkParts}
use Rattle.plant_network.specs.Histories.{done_by, events_of}
use Rattle.run_laws.specs.Outlets.{AreOne, ConnectionChange, Drains, IsHandedOut, Opens, Outlet, Shuts, Stays, bytes_of, handed_in, messages_for, outlet, turn_for, turned}
use Rattle.run_laws.proofs.PeerLemmas.Answering.{answers_are_right}
use Rattle.run_laws.proofs.PeerLemmas.OutletRuns.{drains_hand_out_all, outlets_stand}
use Rattle.run_laws.proofs.PeerLemmas.Reading.{handed_is_read}
use Rattle.server_loops.specs.Desks.{Call, call}
use Rattle.server_loops.specs.Sessions.{Writes, drained}
use Rattle.server_loops.specs.declared.sessions.Ended.{Ended}
use Rattle.server_loops.specs.declared.sessions.Ended.TheVariants.{Closed, Lost, NoMemory, NotOpened, PeerEnd, ReadFault, Spent, Turns, WriteFault}
use Rattle.turn_desk.specs.Desks.{Stand, desked_of}
use Rattle.desk_laws.specs.Connections.{IsAlone, at_peer, is_at, is_use}
use Rattle.desk_laws.specs.Written.{IsPutFor, WrittenWasPut, Wrote}
use Rattle.desk_laws.proofs.Calls.{call_event, call_events, call_events_on, opened, own_events, within_all}
use Rattle.desk_laws.proofs.Sessions.{IsOpenedBy, Shape, drained_on, session_shape}
use Rattle.desk_laws.proofs.Streams.{filter_cut, filter_first, filter_on, first_of, map_cut, outlet_streams, run_at, stream, stream_at}

abbrev Events : Type 0
Events = List (Event × Answered)

-- ---- what was written

abbrev Begins : List ℕ → List ℕ → Type 0
Begins all front = (rest : List ℕ) × (all ≡ front ++ rest)

appended : (old new : Option (List ℕ)) (all front bytes : List ℕ) → old ≡ Some front → new ≡ Some (front ++ bytes) → Appends old new all → bytes ≡ all
appended old new all front bytes before after is =
    let told : Appends (Some front) (Some (front ++ bytes)) all = subst (λ (o : Option (List ℕ)). Appends (Some front) o all) after (subst (λ (o : Option (List ℕ)). Appends o new all) before is) in
    append_cancel_left front bytes all told

whole : (all bytes : List ℕ) → bytes ≡ all → Begins all bytes
whole all bytes is = ([], sym is ∙ sym (append-nil bytes))

module _ (old new : Writing) (bytes : List ℕ) (wrote : Wrote old new bytes) (all : List ℕ) where
  all_written : Appends old.written new.written all → Begins all bytes
  all_written is = whole all bytes (appended old.written new.written all wrote.0 bytes wrote.1 wrote.2 is)

  some_written : AppendsSome old.written new.written all → Begins all bytes
  some_written is =
      let part : bytes ≡ take is.count all = appended old.written new.written (take is.count all) wrote.0 bytes wrote.1 wrote.2 is.added in
      (drop is.count all, sym (take-append-drop is.count all) ∙ ap (λ (xs : List ℕ). xs ++ drop is.count all) (sym part))

  written_begins : (end : Ended) → Writes end old new all → Begins all bytes
  written_begins WriteFault is = some_written is
  written_begins (Spent t) is = some_written is
  written_begins Closed is = all_written is
  written_begins PeerEnd is = all_written is
  written_begins ReadFault is = all_written is
  written_begins Turns is = all_written is
  written_begins NotOpened is = all_written is
  written_begins (Lost why) is = all_written is
  written_begins NoMemory is = all_written is

none_begins : (all bytes : List ℕ) → all ≡ [] → Begins all bytes → bytes ≡ []
none_begins all [] none is = refl
none_begins all (b ∷ bytes) none is = absurd (let both : (b ∷ bytes) ++ is.0 ≡ [] = sym is.1 ∙ none in let no : ⊥ = cc in no)

-- ---- the moment of the last drain

-- an accepted event opens or drains the connection: it is open behind it
module _ (n : NetworkParts) (i : ℕ) where
  abbrev IsOpen : List Entry → Type 0
  IsOpen es = (x : Outlet) × (outlet i es ≡ Some x)

  some_open : (holder : ℕ) (o : Option Outlet) → IsHandedOut wire holder o → (x : Outlet) × (o ≡ Some x)
  some_open holder None handed = absurd handed
  some_open holder (Some x) handed = (x, refl)

  and_left : (a b : Bool) → (a && b) ≡ true → a ≡ true
  and_left true b is = refl
  and_left false b is = absurd (let no : ⊥ = cc in no)

  and_right : (a b : Bool) → (a && b) ≡ true → b ≡ true
  and_right true b is = is
  and_right false b is = absurd (let no : ⊥ = cc in no)

  module _ (e : Entry) (older : List Entry) (t : Plant) (run : Run wire n (e ∷ older) t) (accepted : is_accepted e.answer ≡ true) where
    by_turn : (turn : ConnectionChange) → turn_for i e.event ≡ turn → ((holder : ℕ) → turn ≡ Drains → IsOpen (e ∷ older)) → is_use turn ≡ true → IsOpen (e ∷ older)
    by_turn (Opens holder) is drains used = (
      record { holder = holder; put = messages_for i e.deeds; handed = [] },
      ap (λ (b : Bool). cond b (turned (turn_for i e.event) (messages_for i e.deeds) (handed_in e.answer) (outlet i older)) (outlet i older)) accepted
          ∙ ap (λ (c : ConnectionChange). turned c (messages_for i e.deeds) (handed_in e.answer) (outlet i older)) is,
    )
    by_turn Drains is drains used = drains 0 refl
    by_turn Shuts is drains used = absurd (let no : ⊥ = cc in no)
    by_turn Stays is drains used = absurd (let no : ⊥ = cc in no)

    drain_open : (j holder : ℕ) → e.event ≡ event.Drain j holder → cond (j == i) Drains Stays ≡ Drains → IsOpen (e ∷ older)
    drain_open j holder is turn = by (j == i) refl turn
      where
        by : (b : Bool) → (j == i) ≡ b → cond b Drains Stays ≡ Drains → IsOpen (e ∷ older)
        by true same here =
            some_open holder (outlet i (e ∷ older))
            (drains_hand_out_all wire n e older t run i holder (is ∙ ap (λ (k : ℕ). event.Drain k holder) (eqb-true j i same)) accepted)
        by false same here = absurd (let no : ⊥ = cc in no)

    no_drain : (b : Bool) (turn : ConnectionChange) → turn ≢ Drains → cond b turn Stays ≡ Drains → ⊥
    no_drain true turn other is = other is
    no_drain false turn other is = let no : ⊥ = cc in no

    drains_open : (v : Event) → e.event ≡ v → turn_for i v ≡ Drains → IsOpen (e ∷ older)
    drains_open (event.Drain j holder) is turn = drain_open j holder is turn
    drains_open (event.Open j holder) is turn = absurd (no_drain (j == i) (Opens holder) (λ same. cc same) turn)
    drains_open (event.Shut j) is turn = absurd (no_drain (j == i) Shuts (λ same. cc same) turn)
    drains_open v is turn = absurd (let no : ⊥ = cc in no)

  used_open : (e : Entry) (older : List Entry) (t : Plant) → Run wire n (e ∷ older) t → is_at i (done_by e) ≡ true → IsOpen (e ∷ older)
  used_open e older t run is =
      let accepted = and_left (is_accepted e.answer) (is_use (turn_for i e.event)) is in
      by_turn e older t run accepted (turn_for i e.event) refl (λ holder turn. drains_open e older t run accepted e.event refl turn) (and_right (is_accepted e.answer) (is_use (turn_for i e.event)) is)

  pub open_behind : (ms older : List Entry) (z : Event × Answered) (zs : Events) (t : Plant) → map done_by ms ≡ z ∷ zs → is_at i z ≡ true → Run wire n (ms ++ older) t → IsOpen (ms ++ older)
  open_behind [] older z zs t is used run = absurd (let no : ⊥ = cc in no)
  open_behind (e ∷ ms) older z zs t is used run =
      let heads : done_by e ≡ z = cc in
      used_open e (ms ++ older) t run (subst (λ (y : Event × Answered). is_at i y ≡ true) (sym heads) used)

stands : (x : Outlet) (k : Option Connection) → AreOne wire (Some x) k → (rest : List ℕ) × (bytes_of wire x.put ≡ x.handed ++ rest)
stands x None one = absurd one
stands x (Some k) one = (frames.joined k.out, sym one.all)

module _ (n : NetworkParts) (newer older : List Entry) (t : Plant) (run : Run wire n (newer ++ older) t) (i : ℕ) (quiet : at_peer i (map done_by older) ≡ []) (s : Stand) (are : map done_by newer ≡ events_of s.seen) (alone : IsAlone i s) where
  module _ (front made back : List Call) (calls : (desked_of s).calls ≡ front ++ (made ++ back)) (o : IsOpenedBy i made) where
    abbrev first : List Call
    first = front ++ call (event.Open i o.holder) (Ok o.outcome) ∷ o.mid

    abbrev behind : List Call
    behind = o.shut ++ back

    parts : front ++ (made ++ back) ≡ first ++ behind
    parts =
        let opening : Call = call (event.Open i o.holder) (Ok o.outcome) in
        ap (λ (cs : List Call). front ++ (cs ++ back)) o.is
        ∙ ap (λ (cs : List Call). front ++ opening ∷ cs) (append_assoc o.mid o.shut back)
        ∙ sym (append_assoc front (opening ∷ o.mid) behind)

    kept : at_peer i (map done_by newer) ≡ at_peer i (call_events behind) ++ at_peer i (call_events first)
    kept =
        ap (at_peer i) are ∙ alone ∙ own_events i s.own ∙ ap (λ (cs : List Call). at_peer i (call_events cs)) (calls ∙ parts)
        ∙ ap (at_peer i) (call_events_on first behind) ∙ filter_on (is_at i) (call_events behind) (call_events first)

    opened_first : at_peer i (call_events first) ≡ at_peer i (call_events o.mid) ++ ((event.Open i o.holder, Ok o.outcome) ∷ at_peer i (call_events front))
    opened_first =
        let opening : Call = call (event.Open i o.holder) (Ok o.outcome) in
        ap (at_peer i) (call_events_on front (opening ∷ o.mid) ∙ append_assoc (call_events o.mid) (call_event opening.event opening.answer) (call_events front))
        ∙ filter_on (is_at i) (call_events o.mid) ((event.Open i o.holder, Ok o.outcome) ∷ call_events front)
        ∙ ap (λ (b : Bool). at_peer i (call_events o.mid) ++ cond (is_use (cond b (Opens o.holder) Stays)) ((event.Open i o.holder, Ok o.outcome) ∷ at_peer i (call_events front)) (at_peer i (call_events front))) (eq-eqb i i refl)

    handed_by : stream i (call_events first) ≡ Some (drained o.mid)
    handed_by =
        let opening : Call = call (event.Open i o.holder) (Ok o.outcome) in
        ap (stream i) (call_events_on front (opening ∷ o.mid) ∙ append_assoc (call_events o.mid) (call_event opening.event opening.answer) (call_events front))
        ∙ within_all i o.mid (call_event opening.event opening.answer ++ call_events front) [] o.within (opened i o.holder o.outcome (call_events front))

    drained_all : drained made ≡ drained o.mid
    drained_all = ap drained o.is ∙ drained_on o.mid o.shut ∙ ap (λ (bs : List ℕ). drained o.mid ++ bs) o.none ∙ append-nil (drained o.mid)

    put_for : (bytes : List ℕ) → Begins (drained made) bytes → IsPutFor n (newer ++ older) i bytes
    put_for bytes begins =
        let events = filter_cut (is_at i) (map done_by newer) (at_peer i (call_events behind)) (at_peer i (call_events first)) kept in
        let top = first_of (at_peer i (call_events o.mid)) (event.Open i o.holder, Ok o.outcome) (at_peer i (call_events front)) in
        let last = filter_first (is_at i) events.1 top.0 top.1 (events.3 ∙ opened_first ∙ top.2) in
        let cut = map_cut done_by newer (events.0 ++ last.0) (top.0 ∷ last.1) (events.2 ∙ ap (λ (es : Events). events.0 ++ es) last.2 ∙ sym (append_assoc events.0 last.0 (top.0 ∷ last.1))) in
        let moment : List Entry = cut.1 ++ older in
        let all : newer ++ older ≡ cut.0 ++ moment = ap (λ (es : List Entry). es ++ older) cut.2 ∙ append_assoc cut.0 cut.1 older in
        let at = run_at wire n cut.0 moment t (subst (λ (es : List Entry). Run wire n es t) all run) in
        let used : at_peer i (top.0 ∷ last.1) ≡ at_peer i (call_events first) =
        ap (λ (b : Bool). cond b (top.0 ∷ at_peer i last.1) (at_peer i last.1)) last.3 ∙ ap (λ (es : Events). top.0 ∷ es) last.4 ∙ sym (opened_first ∙ top.2) in
        let done : at_peer i (map done_by moment) ≡ at_peer i (call_events first) =
        ap (at_peer i) (map-append done_by cut.1 older) ∙ filter_on (is_at i) (map done_by cut.1) (map done_by older) ∙ ap (λ (es : Events). at_peer i es ++ at_peer i (map done_by older)) cut.3
        ∙ ap (λ (es : Events). es ++ at_peer i (map done_by older)) used ∙ ap (λ (es : Events). at_peer i (call_events first) ++ es) quiet ∙ append-nil (at_peer i (call_events first)) in
        let x = open_behind n i cut.1 older top.0 last.1 at.0 cut.3 last.3 at.1 in
        let streamed : stream i (map done_by moment) ≡ Some (drained o.mid) = stream_at i (map done_by moment) ∙ ap (stream i) done ∙ sym (stream_at i (call_events first)) ∙ handed_by in
        let handed : x.0.handed ≡ drained o.mid = (let both : Some x.0.handed ≡ Some (drained o.mid) = sym (outlet_streams i moment x.0 x.1) ∙ streamed in cc) in
        let one : AreOne wire (Some x.0) (at.0.accesses i).connection = subst (λ (z : Option Outlet). AreOne wire z (at.0.accesses i).connection) x.1 (outlets_stand wire n moment at.0 at.1 i) in
        let put = stands x.0 (at.0.accesses i).connection one in
        record {
          later = cut.0;
          moment = moment;
          is = all;
          connection = x.0;
          is_open = x.1;
          rest = begins.0 ++ put.0;
          front = put.1 ∙ ap (λ (bs : List ℕ). bs ++ put.0) (handed ∙ sym drained_all ∙ begins.1) ∙ append_assoc bytes begins.0 put.0;
          read = λ net short. handed_is_read n net moment at.0 at.1 short i x.0 x.1;
          right = λ net short client. answers_are_right n net moment at.0 at.1 short i client x.0 x.1;
        }

  by_shape : (front made back : List Call) → (desked_of s).calls ≡ front ++ (made ++ back) → Shape i made → (bytes : List ℕ) → Begins (drained made) bytes → (bytes ≡ []) ⊎ IsPutFor n (newer ++ older) i bytes
  by_shape front made back calls (inl idle) bytes begins = inl (none_begins (drained made) bytes idle begins)
  by_shape front made back calls (inr o) bytes begins = inr (put_for front made back calls o bytes begins)

pub written_was_put : WrittenWasPut
written_was_put n newer older t run i quiet s are alone front made back calls holder turns end before after over bytes wrote =
    by_shape n newer older t run i quiet s are alone front made back calls (session_shape i holder turns end made before after over.order) bytes (written_begins before.writing after.writing bytes wrote (drained made) end over.written)
