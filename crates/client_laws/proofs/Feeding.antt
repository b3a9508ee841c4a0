-- What the lines of a client feed: its opening, and then its question.
use Rattle.std.proofs.Common.{◌≡◌, ℕ, Bool, true, false, cond, List, [], ◌∷◌, ◌++◌, map, Option, Some, is_some, sym, ap, subst, ◌∙◌, refl}
use Rattle.std.proofs.lemmas.Bool.{eq-eqb}
use Rattle.plant_play.specs.plant_model.Types.{As, LineEvent, NetworkParts}
use Rattle.dom_edge.specs.Stores.{Files}
use Rattle.disclosure.specs.Shown.{open_of}
use Rattle.plant_text.specs.declared.line.LineEvent.TheVariants as line
use Rattle.plant_text.specs.Settings.{peer_row}
use Rattle.plant_play.specs.plant_model.declared.event.Event.{Event}
use Rattle.plant_play.specs.plant_model.declared.event.Event.TheVariants as event
use Rattle.plant_play.specs.plant_model.Blind.{is_accepted}
use Rattle.plant_play.specs.plant_model.Events as events
use Rattle.plant_play.specs.plant_model.Events.{Answered}
use Rattle.plant_play.specs.plant_model.Plant.{Entry, Happened, Happens, Pin, Plant, Segment}
use Rattle.plant_play.specs.plant_model.RealWire.{wire}
use Rattle.plant_play.specs.plant_model.State.{Connection}
use Rattle.plant_play.specs.plant_model.Wire.{Bytes}
use Rattle.plant_play.specs.declared.going.Until.{Until}
use Rattle.plant_play.specs.declared.going.Until.TheVariants.{Finished, Settled}
use Rattle.plant_play.specs.declared.showing.Modes.{Modes}
use Rattle.plant_play.specs.Due.{AreAllDue, AreDue, IsDue, IsDueTake}
use Rattle.plant_play.specs.Playing.{Cue, Plays, PlaysFeed, PlaysLine, PlaysOne, PlayedNetwork}
use Rattle.plant_play.specs.Scripts.{AllPlayed}
use Rattle.plant_play.specs.Turns.{Turn, entries_of}
use Rattle.plant_client.specs.declared.question.Question.{Question}
use Rattle.plant_client.specs.Asking.{AreCues, load_line, question_lines}
use Rattle.plant_client.specs.Questions.{opening_text, question_text}
use Rattle.run_laws.specs.Outlets.{outlet}
use Rattle.run_laws.specs.Inlets.{fed_to, streams, streams_with}
use Rattle.client_laws.proofs.Asking.{IsOpen, IsShut, accepted, all_waits, no_connection, on, opening_line, plain_open, plain_shut}

-- ---- events that feed nothing

abbrev IsIdle : Event → Type 0
IsIdle e = (i : ℕ) (xs : List Bytes) → streams_with i e xs ≡ xs

abbrev AllIdle : List Turn → Type 0
AllIdle [] = Unit {0}
AllIdle (t ∷ ts) = IsIdle t.entry.event × AllIdle ts

idle_if : (e e' : Event) → e ≡ e' → IsIdle e' → IsIdle e
idle_if e e' same idle = subst IsIdle (sym same) idle

due_idle : (until : Until) (m : Modes) (n : NetworkParts) (s : Plant) (ts : List Turn) (end : Plant) → AreDue (IsDue until n) m n s ts end → AllIdle ts
due_idle until m n s [] end all = tt
due_idle until m n s (t ∷ ts) end all = (go t.entry.event all.0, due_idle until m n t.after ts end all.3)
  where
    go : (e : Event) → IsDue until n s (Some e) → IsIdle e
    go (event.Carry a b) h = λ i xs. refl
    go (event.Solve d k) h = λ i xs. refl
    go _ h = absurd h

takes_idle : (peer : ℕ) (m : Modes) (n : NetworkParts) (s : Plant) (ts : List Turn) (end : Plant) → AreDue (IsDueTake peer) m n s ts end → AllIdle ts
takes_idle peer m n s [] end all = tt
takes_idle peer m n s (t ∷ ts) end all = (idle_if t.entry.event (event.Take peer) all.0 (λ i xs. refl), takes_idle peer m n t.after ts end all.3)

module _ (i : ℕ) where
  same_if : (b : Bool) (x y : List Bytes) → x ≡ y → cond b x y ≡ y
  same_if true x y same = same
  same_if false x y same = refl

  still : (ts : List Turn) (older : List Entry) → AllIdle ts → streams i (entries_of ts older) ≡ streams i older
  still [] older idle = refl
  still (t ∷ ts) older idle =
      still ts (t.entry ∷ older) idle.1 ∙ same_if (is_accepted t.entry.answer) (streams_with i t.entry.event (streams i older)) (streams i older) (idle.0 i (streams i older))

  -- ---- lines

  load_idle : (topology : As × List ℕ) (old : PlayedNetwork) (c : Cue) (answer : Answered) (turns : List Turn) (told : List ℕ) (new : PlayedNetwork) → c.event ≡ load_line topology → PlaysLine old c answer turns told new → AllIdle turns
  load_idle topology old c answer turns told new is p =
      let q = subst (λ (x : LineEvent). Plays c.number old x c.file answer turns told new.state) is p.plays in
      subst AllIdle (sym q.loads.one) (idle_if q.loads.turn.entry.event (event.Load topology.0 q.topology) q.loads.event (λ j xs. refl), tt)

  settle_idle : (old : PlayedNetwork) (c : Cue) (answer : Answered) (turns : List Turn) (told : List ℕ) (new : PlayedNetwork) → c.event ≡ line.Settle → PlaysLine old c answer turns told new → AllIdle turns
  settle_idle old c answer turns told new is p =
      let q = subst (λ (x : LineEvent). Plays c.number old x c.file answer turns told new.state) is p.plays in
      due_idle Settled old.modes old.network old.state turns new.state q.all.due

  finish_idle : (old : PlayedNetwork) (c : Cue) (answer : Answered) (turns : List Turn) (told : List ℕ) (new : PlayedNetwork) → c.event ≡ line.Finish → PlaysLine old c answer turns told new → AllIdle turns
  finish_idle old c answer turns told new is p =
      let q = subst (λ (x : LineEvent). Plays c.number old x c.file answer turns told new.state) is p.plays in
      due_idle Finished old.modes old.network old.state turns new.state q.all.due

  -- a feed that is accepted
  feed_accepted : (n : NetworkParts) (s : Plant) (bytes : Bytes) (k : Connection) → (s.accesses i).connection ≡ Some k → is_accepted (events.feed Pin Segment wire n open_of i bytes s).answer ≡ true
  feed_accepted n s bytes k is = subst (λ (o : Option Connection). is_accepted (events.feed_open Pin Segment wire n open_of i bytes s o).answer ≡ true) (sym is) refl

  fed_now : (answer : Answered) (e : Event) (bytes : Bytes) (xs : List Bytes) → is_accepted answer ≡ true → e ≡ event.Feed i bytes → cond (is_accepted answer) (streams_with i e xs) xs ≡ fed_to bytes xs
  fed_now answer e bytes xs agreed is =
      ap (λ (b : Bool). cond b (streams_with i e xs) xs) agreed
      ∙ ap (λ (x : Event). streams_with i x xs) is
      ∙ ap (λ (b : Bool). cond b (fed_to bytes xs) xs) (eq-eqb i i refl)

  taken_idle : (b : Bool) (m : Modes) (n : NetworkParts) (s : Plant) (ts : List Turn) (end : Plant) → cond b (AreAllDue (IsDueTake i) m n s ts end) ((ts ≡ []) × (end ≡ s)) → AllIdle ts
  taken_idle true m n s ts end all = takes_idle i m n s ts end all.due
  taken_idle false m n s ts end none = subst AllIdle (sym none.0) tt

  feed_line : (bytes : Bytes) (old : PlayedNetwork) (c : Cue) (answer : Answered) (turns : List Turn) (told : List ℕ) (new : PlayedNetwork) (older : List Entry) → c.event ≡ line.Feed (Some i) bytes → PlaysLine old c answer turns told new →
      IsOpen i older old.state → streams i (entries_of turns older) ≡ fed_to bytes (streams i older)
  feed_line bytes old c answer turns told new older is p h =
      let q : PlaysFeed c.number old i bytes answer turns told new.state = subst (λ (x : LineEvent). Plays c.number old x c.file answer turns told new.state) is p.plays in
      let t = q.fed in
      let h' : Happened = record { answer = t.entry.answer; state = t.after; deeds = t.entry.deeds } in
      let happens : Happens wire old.network old.state (event.Feed i bytes) h' = subst (λ (e : Event). Happens wire old.network old.state e h') q.event q.is_turn.happens in
      let k = all_waits i (outlet i older) (old.state.accesses i).connection h.0 h.1 in
      let agreed : is_accepted t.entry.answer ≡ true = ap (λ (x : Happened). is_accepted x.answer) happens ∙ feed_accepted old.network old.state bytes k.2 k.3 in
      ap (λ (ts : List Turn). streams i (entries_of ts older)) q.are
      ∙ still q.taken (t.entry ∷ older) (taken_idle (is_accepted answer) old.modes old.network t.after q.taken new.state q.takes)
      ∙ fed_now t.entry.answer t.entry.event bytes (streams i older) agreed q.event

  opened_now : (answer : Answered) (e : Event) (xs : List Bytes) → is_accepted answer ≡ true → e ≡ event.Open i 0 → cond (is_accepted answer) (streams_with i e xs) xs ≡ [] ∷ xs
  opened_now answer e xs agreed is =
      ap (λ (b : Bool). cond b (streams_with i e xs) xs) agreed
      ∙ ap (λ (x : Event). streams_with i x xs) is
      ∙ ap (λ (b : Bool). cond b ([] ∷ xs) xs) (eq-eqb i i refl)

  open_line : (n : NetworkParts) → is_some (peer_row i n.peers) ≡ true → (old : PlayedNetwork) (c : Cue) (answer : Answered) (turns : List Turn) (told : List ℕ) (new : PlayedNetwork) (older : List Entry) → old.network ≡ n →
      c.event ≡ line.Open (Some i) 0 → PlaysLine old c answer turns told new → IsShut i older old.state → streams i (entries_of turns older) ≡ [] ∷ streams i older
  open_line n known old c answer turns told new older same is p h =
      let one : PlaysOne c.number old (event.Open i 0) answer turns told new.state = subst (λ (x : LineEvent). Plays c.number old x c.file answer turns told new.state) is p.plays in
      let t = one.turn in
      let h' : Happened = record { answer = t.entry.answer; state = t.after; deeds = t.entry.deeds } in
      let happens : Happens wire old.network old.state (event.Open i 0) h' = subst (λ (e : Event). Happens wire old.network old.state e h') one.event one.is_turn.happens in
      let known' : is_some (peer_row i old.network.peers) ≡ true = ap (λ (m : NetworkParts). is_some (peer_row i m.peers)) same ∙ known in
      let agreed : is_accepted t.entry.answer ≡ true =
      ap (λ (x : Happened). is_accepted x.answer) happens ∙ accepted i old.network old.state known' (no_connection i (outlet i older) (old.state.accesses i).connection h.0 h.1) in
      ap (λ (ts : List Turn). streams i (entries_of ts older)) one.one ∙ opened_now t.entry.answer t.entry.event (streams i older) agreed one.event

  -- ---- lines one after the other

  abbrev Shut : List Entry → Plant → Type 0
  Shut es s = IsShut i es s × (streams i es ≡ [])

  abbrev Open : Bytes → List Entry → Plant → Type 0
  Open stream es s = IsOpen i es s × (streams i es ≡ stream ∷ [])

  module _ (n : NetworkParts) (known : is_some (peer_row i n.peers) ≡ true) (files : Option Files) where
    finishing : (stream : Bytes) (cs : List Cue) → AreCues files (line.Finish ∷ []) cs → (old new : PlayedNetwork) (turns : List Turn) (told : List ℕ) (older : List Entry) → AllPlayed old cs turns told new → Open stream older old.state →
        streams i (entries_of turns older) ≡ stream ∷ []
    finishing stream [] are old new turns told older p h = absurd are
    finishing stream (c ∷ d ∷ cs) are old new turns told older p h = absurd are.1
    finishing stream (c ∷ []) are old new turns told older p h =
        on i (λ es s. streams i es ≡ stream ∷ []) turns p.first p.later older new.state p.turns_are
        (subst (λ (ts : List Turn). streams i (entries_of ts (entries_of p.first older)) ≡ stream ∷ []) (sym p.others.0)
        (still p.first older (finish_idle old c p.answer p.first p.said p.mid are.0.event p.plays) ∙ h.1))

    asking' : (stream bytes : Bytes) (cs : List Cue) → AreCues files (line.Feed (Some i) bytes ∷ line.Finish ∷ []) cs → (old new : PlayedNetwork) (turns : List Turn) (told : List ℕ) (older : List Entry) → AllPlayed old cs turns told new → Open stream older old.state →
        streams i (entries_of turns older) ≡ (stream ++ bytes) ∷ []
    asking' stream bytes [] are old new turns told older p h = absurd are
    asking' stream bytes (c ∷ cs) are old new turns told older p h =
        on i (λ es s. streams i es ≡ (stream ++ bytes) ∷ []) turns p.first p.later older new.state p.turns_are
        (finishing (stream ++ bytes) cs are.1 p.mid new p.later p.more (entries_of p.first older) p.others (
          plain_open i (line.Feed (Some i) bytes) tt old c p.answer p.first p.said p.mid older are.0.event p.plays h.0,
          feed_line bytes old c p.answer p.first p.said p.mid older are.0.event p.plays h.0 ∙ ap (fed_to bytes) h.1,
        ))

    greeting : (stream opening bytes : Bytes) (cs : List Cue) → AreCues files (line.Feed (Some i) opening ∷ line.Feed (Some i) bytes ∷ line.Finish ∷ []) cs → (old new : PlayedNetwork) (turns : List Turn) (told : List ℕ) (older : List Entry) → AllPlayed old cs turns told new →
        Open stream older old.state → streams i (entries_of turns older) ≡ ((stream ++ opening) ++ bytes) ∷ []
    greeting stream opening bytes [] are old new turns told older p h = absurd are
    greeting stream opening bytes (c ∷ cs) are old new turns told older p h =
        on i (λ es s. streams i es ≡ ((stream ++ opening) ++ bytes) ∷ []) turns p.first p.later older new.state p.turns_are
        (asking' (stream ++ opening) bytes cs are.1 p.mid new p.later p.more (entries_of p.first older) p.others (
          plain_open i (line.Feed (Some i) opening) tt old c p.answer p.first p.said p.mid older are.0.event p.plays h.0,
          feed_line opening old c p.answer p.first p.said p.mid older are.0.event p.plays h.0 ∙ ap (fed_to opening) h.1,
        ))

    opening' : (opening bytes : Bytes) (cs : List Cue) → AreCues files (line.Open (Some i) 0 ∷ line.Feed (Some i) opening ∷ line.Feed (Some i) bytes ∷ line.Finish ∷ []) cs → (old new : PlayedNetwork) (turns : List Turn) (told : List ℕ) (older : List Entry) →
        AllPlayed old cs turns told new → old.network ≡ n → Shut older old.state → streams i (entries_of turns older) ≡ (opening ++ bytes) ∷ []
    opening' opening bytes [] are old new turns told older p same h = absurd are
    opening' opening bytes (c ∷ cs) are old new turns told older p same h =
        on i (λ es s. streams i es ≡ (opening ++ bytes) ∷ []) turns p.first p.later older new.state p.turns_are
        (greeting [] opening bytes cs are.1 p.mid new p.later p.more (entries_of p.first older) p.others (
          opening_line i n known old c p.answer p.first p.said p.mid older same are.0.event p.plays h.0,
          open_line n known old c p.answer p.first p.said p.mid older same are.0.event p.plays h.0 ∙ ap (λ (xs : List Bytes). [] ∷ xs) h.1,
        ))

    settling : (opening bytes : Bytes) (cs : List Cue) → AreCues files (line.Settle ∷ line.Open (Some i) 0 ∷ line.Feed (Some i) opening ∷ line.Feed (Some i) bytes ∷ line.Finish ∷ []) cs → (old new : PlayedNetwork) (turns : List Turn) (told : List ℕ) (older : List Entry) →
        AllPlayed old cs turns told new → old.network ≡ n → Shut older old.state → streams i (entries_of turns older) ≡ (opening ++ bytes) ∷ []
    settling opening bytes [] are old new turns told older p same h = absurd are
    settling opening bytes (c ∷ cs) are old new turns told older p same h =
        on i (λ es s. streams i es ≡ (opening ++ bytes) ∷ []) turns p.first p.later older new.state p.turns_are
        (opening' opening bytes cs are.1 p.mid new p.later p.more (entries_of p.first older) p.others (p.plays.network ∙ same) (
          plain_shut i line.Settle tt old c p.answer p.first p.said p.mid older are.0.event p.plays h.0,
          still p.first older (settle_idle old c p.answer p.first p.said p.mid are.0.event p.plays) ∙ h.1,
        ))

    pub loading : (ts : List (As × List ℕ)) (q : Question) (cs : List Cue) → AreCues files (map load_line ts ++ question_lines i q) cs → (old new : PlayedNetwork) (turns : List Turn) (told : List ℕ) (older : List Entry) →
        AllPlayed old cs turns told new → old.network ≡ n → Shut older old.state → streams i (entries_of turns older) ≡ (opening_text ++ question_text q) ∷ []
    loading [] q cs are old new turns told older p same h = settling opening_text (question_text q) cs are old new turns told older p same h
    loading (t ∷ ts) q [] are old new turns told older p same h = absurd are
    loading (t ∷ ts) q (c ∷ cs) are old new turns told older p same h =
        on i (λ es s. streams i es ≡ (opening_text ++ question_text q) ∷ []) turns p.first p.later older new.state p.turns_are
        (loading ts q cs are.1 p.mid new p.later p.more (entries_of p.first older) p.others (p.plays.network ∙ same) (
          plain_shut i (load_line t) tt old c p.answer p.first p.said p.mid older are.0.event p.plays h.0,
          still p.first older (load_idle t old c p.answer p.first p.said p.mid are.0.event p.plays) ∙ h.1,
        ))
