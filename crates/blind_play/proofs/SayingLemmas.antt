-- What is told of lines is what the network without topologies says on their trace.
use Rattle.std.proofs.Common.{◌≡◌, ℕ, Bool, true, false, cond, List, [], ◌∷◌, ◌++◌, All, Option, Some, None, sym, ◌∙◌, subst, ap, refl, append_assoc, append-nil}
use Rattle.std.specs.List.{flat_map}
use Rattle.std.proofs.lemmas.List.Elements.{All-head, All-tail}
use Rattle.plant_network.specs.plant_model.Types.{LineEvent, NetworkParts}
use Rattle.plant_text.specs.declared.line.LineEvent.TheVariants as line
use Rattle.run_laws.specs.Given.{IsBlindLine}
use Rattle.plant_network.specs.plant_model.declared.event.BlindEvent.{BlindEvent}
use Rattle.plant_network.specs.plant_model.declared.event.BlindEvent.TheVariants as blind
use Rattle.plant_network.specs.plant_model.Blind.{AreBlindGiven, BlindSays, BlindState, Heard, IsBlindGiven, blind_opened, heard, is_accepted}
use Rattle.plant_network.specs.plant_model.RealWire.{wire}
use Rattle.plant_network.specs.plant_model.Wire.{Bytes}
use Rattle.blind_play.specs.Due.{AreAllDue, AreDue, IsDueCarry, IsDueTake}
use Rattle.blind_play.specs.Laws.{SaysSo, Tells}
use Rattle.blind_play.specs.Playing.{Cue, IsNewNetwork, Plays, PlaysFeed, PlaysFeedAt, PlaysNone, PlaysOne, PlayedNetwork}
use Rattle.blind_play.specs.Scripts.{AllPlayed}
use Rattle.blind_play.specs.Turns.{IsTurn, Turn, all_heard, happened_in, heard_text, trace_of, turn_text, turns_text}

trace_append : (ts us : List Turn) (older : List BlindEvent) → trace_of (ts ++ us) older ≡ trace_of us (trace_of ts older)
trace_append [] us older = refl
trace_append (t ∷ ts) us older = trace_append ts us (t.event ∷ older)

module _ (n : NetworkParts) where
  -- events of which each happens where the one before left off, and is given what a caller may give
  abbrev Follow : BlindState → List Turn → BlindState → Type 0
  Follow s [] end = end ≡ s
  Follow s (t ∷ ts) end = IsTurn n s t × IsBlindGiven t.event × Follow t.after ts end

  -- ---- the events of a line

  one_follows : (e : BlindEvent) (s : BlindState) (ts : List Turn) (end : BlindState) → IsBlindGiven e → PlaysOne e n s ts end → Follow s ts end
  one_follows e s ts end given p =
      subst (λ (us : List Turn). Follow s us end) (sym p.one) (p.is_turn, subst (λ (x : BlindEvent). IsBlindGiven x) (sym p.event) given, p.ends)

  none_follows : (s : BlindState) (ts : List Turn) (end : BlindState) → PlaysNone n s ts end → Follow s ts end
  none_follows s ts end p = subst (λ (us : List Turn). Follow s us end) (sym p.0) p.1

  due_follows : (Due : NetworkParts → BlindState → Option BlindEvent → Type 0) → ((s : BlindState) (e : BlindEvent) → Due n s (Some e) → IsBlindGiven e) → (s : BlindState) (ts : List Turn) (end : BlindState) →
      AreDue Due n s ts end → Follow s ts end
  due_follows Due given s [] end are = are
  due_follows Due given s (t ∷ ts) end are = (are.1, given s t.event are.0, due_follows Due given t.after ts end are.3)

  take_given : (i : ℕ) (s : BlindState) (e : BlindEvent) → IsDueTake i n s (Some e) → IsBlindGiven e
  take_given i s e is = subst (λ (x : BlindEvent). IsBlindGiven x) (sym is) tt

  carry_given : (s : BlindState) (e : BlindEvent) → IsDueCarry n s (Some e) → IsBlindGiven e
  carry_given s (blind.Carry a b) is = tt
  carry_given s _ is = absurd is

  feed_follows : (i : ℕ) (bytes : Bytes) (s : BlindState) (ts : List Turn) (end : BlindState) → PlaysFeed i bytes n s ts end → Follow s ts end
  feed_follows i bytes s ts end p =
      subst (λ (us : List Turn). Follow s us end) (sym p.are) (p.is_turn, subst (λ (x : BlindEvent). IsBlindGiven x) (sym p.event) tt, taken (is_accepted p.fed.answer) p.takes)
    where
      taken : (b : Bool) → cond b (AreAllDue (IsDueTake i) n p.fed.after p.taken end) ((p.taken ≡ []) × (end ≡ p.fed.after)) → Follow p.fed.after p.taken end
      taken true all = due_follows (IsDueTake i) (take_given i) p.fed.after p.taken end all.due
      taken false none = subst (λ (us : List Turn). Follow p.fed.after us end) (sym none.0) none.1

  feed_at_follows : (peer : Option ℕ) (bytes : Bytes) (s : BlindState) (ts : List Turn) (end : BlindState) → PlaysFeedAt peer bytes n s ts end → Follow s ts end
  feed_at_follows None bytes s ts end p = none_follows s ts end p
  feed_at_follows (Some i) bytes s ts end p = feed_follows i bytes s ts end p

  open_given : (peer : Option ℕ) (holder : ℕ) (s : BlindState) (ts : List Turn) (end : BlindState) → Plays (line.Open peer holder) n s ts end → Follow s ts end
  open_given None holder s ts end p = none_follows s ts end p
  open_given (Some i) holder s ts end p = one_follows (blind.Open i holder) s ts end tt p

  shut_given : (peer : Option ℕ) (s : BlindState) (ts : List Turn) (end : BlindState) → Plays (line.Shut peer) n s ts end → Follow s ts end
  shut_given None s ts end p = none_follows s ts end p
  shut_given (Some i) s ts end p = one_follows (blind.Shut i) s ts end tt p

  receive_given : (peer : Option ℕ) (bytes : Bytes) (s : BlindState) (ts : List Turn) (end : BlindState) → Plays (line.Receive peer bytes) n s ts end → Follow s ts end
  receive_given None bytes s ts end p = none_follows s ts end p
  receive_given (Some i) bytes s ts end p = one_follows (blind.Feed i bytes) s ts end tt p

  take_line_given : (peer : Option ℕ) (s : BlindState) (ts : List Turn) (end : BlindState) → Plays (line.Take peer) n s ts end → Follow s ts end
  take_line_given None s ts end p = none_follows s ts end p
  take_line_given (Some i) s ts end p = one_follows (blind.Take i) s ts end tt p

  drain_given : (peer : Option ℕ) (holder : ℕ) (s : BlindState) (ts : List Turn) (end : BlindState) → Plays (line.Drain peer holder) n s ts end → Follow s ts end
  drain_given None holder s ts end p = none_follows s ts end p
  drain_given (Some i) holder s ts end p = one_follows (blind.Drain i holder) s ts end tt p

  line_follows : (e : LineEvent) (s : BlindState) (ts : List Turn) (end : BlindState) → IsBlindLine e → Plays e n s ts end → Follow s ts end
  line_follows (line.Load at name) s ts end given p = absurd given
  line_follows (line.Change at name) s ts end given p = absurd given
  line_follows (line.Open peer holder) s ts end given p = open_given peer holder s ts end p
  line_follows (line.Shut peer) s ts end given p = shut_given peer s ts end p
  line_follows (line.Feed peer bytes) s ts end given p = feed_at_follows peer bytes s ts end p
  line_follows (line.Receive peer bytes) s ts end given p = receive_given peer bytes s ts end p
  line_follows (line.Take peer) s ts end given p = take_line_given peer s ts end p
  line_follows (line.Carry a b) s ts end given p = one_follows (blind.Carry a b) s ts end tt p
  line_follows (line.Break a b) s ts end given p = one_follows (blind.Break a b) s ts end tt p
  line_follows (line.Solve at k rows) s ts end given p = one_follows (blind.Solve at k rows) s ts end given p
  line_follows (line.Tick now) s ts end given p = one_follows (blind.Tick now) s ts end tt p
  line_follows (line.Drain peer holder) s ts end given p = drain_given peer holder s ts end p
  line_follows line.Settle s ts end given p = due_follows IsDueCarry carry_given s ts end p.due
  line_follows line.Finish s ts end given p = absurd given
  line_follows line.CertifyOn s ts end given p = absurd given
  line_follows line.DiscloseOn s ts end given p = absurd given

  -- ---- the trace of events that follow

  says_more : (older : List BlindEvent) (hs : List Heard) (s : BlindState) (ts : List Turn) (end : BlindState) → BlindSays wire n older hs s → Follow s ts end →
      BlindSays wire n (trace_of ts older) (hs ++ all_heard n ts) end
  says_more older hs s [] end says follow =
      subst (λ (u : BlindState). BlindSays wire n older (hs ++ []) u) (sym follow) (subst (λ (ks : List Heard). BlindSays wire n older ks s) (sym (append-nil hs)) says)
  says_more older hs s (t ∷ ts) end says follow =
      subst (λ (ks : List Heard). BlindSays wire n (trace_of ts (t.event ∷ older)) ks end) (append_assoc hs (heard wire n t.deeds) (all_heard n ts))
      (says_more (t.event ∷ older) (hs ++ heard wire n t.deeds) t.after ts end (s, hs, happened_in t, says, follow.0, refl, refl) follow.2)

  given_more : (older : List BlindEvent) (s : BlindState) (ts : List Turn) (end : BlindState) → AreBlindGiven older → Follow s ts end → AreBlindGiven (trace_of ts older)
  given_more older s [] end given follow = given
  given_more older s (t ∷ ts) end given follow = given_more (t.event ∷ older) t.after ts end (follow.1, given) follow.2

  -- ---- text

  tells_append : (hs ks : List Heard) (xs ys : List ℕ) → Tells n hs xs → Tells n ks ys → Tells n (hs ++ ks) (xs ++ ys)
  tells_append [] ks xs ys one two = subst (λ (t : List ℕ). Tells n ks (t ++ ys)) (sym one) two
  tells_append (h ∷ hs) ks xs ys one two =
      let text = heard_text one.0 n.peers one.1 h in
      (one.0, one.1, one.2 ++ ys, ap (λ (t : List ℕ). t ++ ys) one.3 ∙ append_assoc text one.2 ys, tells_append hs ks one.2 ys one.4 two)

  tells_each : (number : ℕ) (ended : Bool) (hs : List Heard) → Tells n hs (flat_map (heard_text number n.peers ended) hs)
  tells_each number ended [] = refl
  tells_each number ended (h ∷ hs) = (number, ended, flat_map (heard_text number n.peers ended) hs, refl, tells_each number ended hs)

  tells_turns : (number : ℕ) (ts : List Turn) → Tells n (all_heard n ts) (turns_text number n ts)
  tells_turns number [] = refl
  tells_turns number (t ∷ ts) = tells_append (heard wire n t.deeds) (all_heard n ts) (turn_text number n t) (turns_text number n ts) (tells_each number _ (heard wire n t.deeds)) (tells_turns number ts)

  heard_append : (ts us : List Turn) → all_heard n (ts ++ us) ≡ all_heard n ts ++ all_heard n us
  heard_append [] us = refl
  heard_append (t ∷ ts) us = ap (λ (hs : List Heard). heard wire n t.deeds ++ hs) (heard_append ts us) ∙ sym (append_assoc (heard wire n t.deeds) (all_heard n ts) (all_heard n us))

  -- ---- lines

  -- what is said up to here, and what is told of it
  abbrev SoFar : List BlindEvent → List Heard → List Turn → List ℕ → BlindState → Type 0
  SoFar older hs turns told end = BlindSays wire n (trace_of turns older) (hs ++ all_heard n turns) end × Tells n (all_heard n turns) told × AreBlindGiven (trace_of turns older)

  lines_say : (cues : List Cue) (old end : PlayedNetwork) (turns : List Turn) (told : List ℕ) (older : List BlindEvent) (hs : List Heard) → old.network ≡ n → All (λ (c : Cue). IsBlindLine c.event) cues →
      BlindSays wire n older hs old.state → AreBlindGiven older → AllPlayed old cues turns told end → SoFar older hs turns told end.state
  lines_say [] old end turns told older hs same given says were p =
      let none : SoFar older hs [] [] old.state = (subst (λ (ks : List Heard). BlindSays wire n older ks old.state) (sym (append-nil hs)) says, refl, were) in
      subst (λ (s : PlayedNetwork). SoFar older hs turns told s.state) (sym p.2)
      (subst (λ (text : List ℕ). SoFar older hs turns text old.state) (sym p.1) (subst (λ (ts : List Turn). SoFar older hs ts [] old.state) (sym p.0) none))
  lines_say (c ∷ cues) old end turns told older hs same given says were p =
      let one = p.plays in
      let plays : Plays c.event n old.state p.first p.mid.state = subst (λ (m : NetworkParts). Plays c.event m old.state p.first p.mid.state) same one.plays in
      let follow = line_follows c.event old.state p.first p.mid.state (All-head (λ (x : Cue). IsBlindLine x.event) c cues given) plays in
      let here : BlindSays wire n (trace_of p.first older) (hs ++ all_heard n p.first) p.mid.state = says_more older hs old.state p.first p.mid.state says follow in
      let text : Tells n (all_heard n p.first) p.said =
      subst (λ (t : List ℕ). Tells n (all_heard n p.first) t) (sym (one.tells ∙ ap (λ (m : NetworkParts). turns_text c.number m p.first) same)) (tells_turns c.number p.first) in
      let rest = lines_say cues p.mid end p.later p.more (trace_of p.first older) (hs ++ all_heard n p.first) (one.network ∙ same) (All-tail (λ (x : Cue). IsBlindLine x.event) c cues given) here
      (given_more older old.state p.first p.mid.state were follow) p.others in
      let whole : SoFar older hs (p.first ++ p.later) (p.said ++ p.more) end.state = (
        subst (λ (es : List BlindEvent). BlindSays wire n es (hs ++ all_heard n (p.first ++ p.later)) end.state) (sym (trace_append p.first p.later older))
            (subst (λ (ks : List Heard). BlindSays wire n (trace_of p.later (trace_of p.first older)) ks end.state)
            (append_assoc hs (all_heard n p.first) (all_heard n p.later) ∙ ap (λ (ks : List Heard). hs ++ ks) (sym (heard_append p.first p.later))) rest.0),
        subst (λ (ks : List Heard). Tells n ks (p.said ++ p.more)) (sym (heard_append p.first p.later)) (tells_append (all_heard n p.first) (all_heard n p.later) p.said p.more text rest.1),
        subst (λ (es : List BlindEvent). AreBlindGiven es) (sym (trace_append p.first p.later older)) rest.2,
      ) in
      subst (λ (ts : List Turn). SoFar older hs ts told end.state) (sym p.turns_are) (subst (λ (t : List ℕ). SoFar older hs (p.first ++ p.later) t end.state) (sym p.told_is) whole)

pub says_so : (n : NetworkParts) (new end : PlayedNetwork) (cues : List Cue) (turns : List Turn) (told : List ℕ) → All (λ (c : Cue). IsBlindLine c.event) cues → IsNewNetwork n new → AllPlayed new cues turns told end →
    SaysSo n turns told end
says_so n new end cues turns told given begun played =
    let opening : BlindSays wire n [] (heard wire n (blind_opened wire n).deeds) new.state = (refl, begun.opened) in
    let all = lines_say n cues new end turns told [] (heard wire n (blind_opened wire n).deeds) begun.network given opening tt played in
    record { says = all.0; tells = all.1; given = all.2 }
