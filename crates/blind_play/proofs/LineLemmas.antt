-- A line by its kind, and its text.
use Rattle.std.proofs.Common.{◌≡◌, ℕ, Bool, true, false, cond, List, [], ◌∷◌, ◌++◌, Option, Some, None, Result, Ok, Err, OnOk, sym, ◌∙◌, subst, ap, refl, append_assoc, append-nil}
use Rattle.std.specs.Prelude.{MatchOption}
use Rattle.plant_network.specs.plant_model.Types.{As, LineEvent, NetworkParts}
use Rattle.plant_network.specs.plant_model.declared.event.BlindEvent.{BlindEvent}
use Rattle.plant_network.specs.plant_model.declared.event.BlindEvent.TheVariants as blind
use Rattle.plant_network.specs.plant_model.Blind.{BlindState}
use Rattle.plant_network.specs.plant_model.Wire.{Bytes}
use Rattle.plant_text.specs.Settings.{adjacencies}
use Rattle.plant_network.specs.network_links.Carried.{flow_of}
use Rattle.plant_network.specs.network_links.Waiting.{WaitsNext}
use Rattle.plant_network.specs.Due.{IsLeast, IsSettled}
use Rattle.plant_network.proofs.CarryLemmas.{least_here, settled_here}
use Rattle.plant_network.specs.Blind.{Held, whole}
use Rattle.plant_network.specs.Blind.{Whole}
use Rattle.blind_play.specs.Due.{AreAllDue, AreDue, IsDueTake}
use Rattle.blind_play.specs.Making.{Does, DoesAll, MakesTurn}
use Rattle.blind_play.specs.Playing.{Played, Plays, PlaysFeed, PlaysNone, PlaysOne, cue}
use Rattle.blind_play.specs.Turns.{Turn, turn_text, turns_text}

pub on_ok : {T E A B : Type 0} (r : Result T E) → (A → B) → OnOk r A → OnOk r B
on_ok (Ok x) f h = f h
on_ok (Err x) f h = tt

-- one event
pub one_played : (line : ℕ) (old new : Whole) (e : BlindEvent) (accepted : Bool) (b0 b1 : List ℕ) → MakesTurn line old e accepted new b0 b1 → Does line (PlaysOne e) old new b0 b1
one_played line old new e accepted b0 b1 makes = record {
  network = makes.network;
  turns = makes.turn ∷ [];
  plays = record { turn = makes.turn; one = refl; event = makes.event; is_turn = makes.is_turn; ends = makes.ends };
  tells = makes.tells ∙ ap (λ (t : List ℕ). b0 ++ t) (sym (append-nil (turn_text line old.network makes.turn)));
}

-- none
pub none_played : (line : ℕ) (w : Whole) (b : List ℕ) → Does line PlaysNone w w b b
none_played line w b = record { network = refl; turns = []; plays = (refl, refl); tells = sym (append-nil b) }

-- ---- a feed

pub feed_refused : (line i : ℕ) (bytes : Bytes) (old new : Whole) (accepted : Bool) (b0 b1 : List ℕ) → accepted ≡ false → MakesTurn line old (blind.Feed i bytes) accepted new b0 b1 → Does line (PlaysFeed i bytes) old new b0 b1
feed_refused line i bytes old new accepted b0 b1 is makes =
    let fed = makes.turn in
    record {
      network = makes.network;
      turns = fed ∷ [];
      plays = record {
        fed = fed;
        taken = [];
        are = refl;
        event = makes.event;
        is_turn = makes.is_turn;
        takes = subst (λ (b : Bool). cond b (AreAllDue (IsDueTake i) old.network fed.after [] new.state) ((◌≡◌ {A = List Turn} [] []) × (new.state ≡ fed.after))) (sym (makes.answers ∙ is)) (refl, makes.ends);
      };
      tells = makes.tells ∙ ap (λ (t : List ℕ). b0 ++ t) (sym (append-nil (turn_text line old.network fed)));
    }

pub feed_taken : (line i : ℕ) (bytes : Bytes) (old mid new : Whole) (accepted : Bool) (b0 b1 b2 : List ℕ) → accepted ≡ true → MakesTurn line old (blind.Feed i bytes) accepted mid b0 b1 → DoesAll line (IsDueTake i) mid new b1 b2 →
    Does line (PlaysFeed i bytes) old new b0 b2
feed_taken line i bytes old mid new accepted b0 b1 b2 is makes all =
    let fed = makes.turn in
    let ts = all.some.turns in
    let due : AreDue (IsDueTake i) old.network fed.after ts new.state =
    subst (λ (s : BlindState). AreDue (IsDueTake i) old.network s ts new.state) makes.ends (subst (λ (n : NetworkParts). AreDue (IsDueTake i) n mid.state ts new.state) makes.network all.some.plays) in
    record {
      network = all.some.network ∙ makes.network;
      turns = fed ∷ ts;
      plays = record {
        fed = fed;
        taken = ts;
        are = refl;
        event = makes.event;
        is_turn = makes.is_turn;
        takes = subst (λ (b : Bool). cond b (AreAllDue (IsDueTake i) old.network fed.after ts new.state) ((ts ≡ []) × (new.state ≡ fed.after))) (sym (makes.answers ∙ is)) (record { due = due; over = all.over });
      };
      tells =
          all.some.tells ∙ ap (λ (n : NetworkParts). b1 ++ turns_text line n ts) makes.network ∙ ap (λ (b : List ℕ). b ++ turns_text line old.network ts) makes.tells
          ∙ append_assoc b0 (turn_text line old.network fed) (turns_text line old.network ts);
    }

-- ---- a line

-- a line of a kind
pub of_kind : (line : ℕ) (e kind : LineEvent) (old new : Whole) (b0 b1 : List ℕ) {T E : Type 0} (r : Result T E) → e ≡ kind → OnOk r (Does line (Plays kind) old new b0 b1) → OnOk r (Does line (Plays e) old new b0 b1)
of_kind line e kind old new b0 b1 {T} {E} r is does = subst (λ (x : LineEvent). OnOk r (Does line (Plays x) old new b0 b1)) (sym is) does

-- the text of a line
pub played : (line : ℕ) (e : LineEvent) (old new : Whole) (t0 t1 : List ℕ) → t0 ≡ [] → Does line (Plays e) old new t0 t1 →
    Played (cue line e) (record { network = old.network; state = old.state }) t1 (record { network = new.network; state = new.state })
played line e old new t0 t1 empty does = record {
  turns = does.turns;
  line = record { network = does.network; plays = does.plays; tells = does.tells ∙ ap (λ (t : List ℕ). t ++ turns_text line old.network does.turns) empty };
}

-- ---- what is on its way

pub waiting_is : (h : Held) (found : Option (As × As)) → WaitsNext (flow_of h.carried) found → (flow_of h.carried).adjacencies ≡ adjacencies (whole h).network →
    MatchOption found (IsSettled (whole h).network (whole h).state) (IsLeast (whole h).network (whole h).state)
waiting_is h None waits along = settled_here (whole h).network (flow_of h.carried) (whole h).state refl waits along
waiting_is h (Some p) waits along = least_here (whole h).network (flow_of h.carried) (whole h).state p refl waits along
