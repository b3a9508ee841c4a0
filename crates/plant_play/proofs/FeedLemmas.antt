-- A feed and the takes behind it, and all that was due with its answer.
use Rattle.std.proofs.Common.{◌≡◌, ℕ, true, false, List, [], ◌∷◌, ◌++◌, Option, None, Ok, Err, is_err, sym, ◌∙◌, subst, ap, refl}
use Rattle.plant_network.specs.plant_model.Types.{NetworkParts}
use Rattle.plant_network.specs.plant_model.declared.event.Event.{Event}
use Rattle.plant_network.specs.plant_model.declared.event.Event.TheVariants as event
use Rattle.plant_network.specs.plant_model.declared.outcome.Outcome.TheVariants.{Done}
use Rattle.plant_network.specs.plant_model.Events.{Answered}
use Rattle.plant_network.specs.plant_model.Wire.{Bytes}
use Rattle.plant_network.specs.plant_model.Plant.{Plant, PlantDeed, Run}
use Rattle.plant_network.specs.plant_model.RealWire.{wire}
use Rattle.plant_network.specs.Whole.{Whole}
use Rattle.transcript.specs.Lines.{answer_line}
use Rattle.plant_play.specs.declared.showing.Modes.{Modes}
use Rattle.plant_play.specs.Due.{AreDue, IsDueTake}
use Rattle.plant_play.specs.Logs.{Told, behind}
use Rattle.plant_play.specs.Making.{Does, DoesAll, Makes, playing}
use Rattle.plant_play.specs.Playing.{PlaysDue, PlaysFeed}
use Rattle.plant_play.specs.Turns.{IsTurn, ShowsTurn, Turn, entries_of, turns_text}
use Rattle.plant_play.proofs.LogLemmas.{behind_twice}

-- an event of which nothing is shown
abbrev pub plain : Event → Answered → Whole → Whole → List PlantDeed → Turn
plain e answer old new deeds = record { entry = record { event = e; answer = answer; deeds = deeds }; after = new.state; rows = []; certificate = None }

module _ (line : ℕ) (m : Modes) (old : Whole) (i : ℕ) (bytes : Bytes) where
  fed_turn : (answer : Answered) (new : Whole) (makes : Makes old (event.Feed i bytes) answer new) → IsTurn m old.network old.state (plain (event.Feed i bytes) answer old new makes.deeds)
  fed_turn answer new makes = record { happens = makes.happens; shows = shows answer }
    where
      shows : (a : Answered) → ShowsTurn m old.network old.state (plain (event.Feed i bytes) a old new makes.deeds)
      shows (Ok o) = (refl, refl)
      shows (Err why) = (refl, refl)

  pub feed_refused : (answer : Answered) (new : Whole) (b0 b1 : Told) → is_err answer ≡ true → Makes old (event.Feed i bytes) answer new → b1 ≡ behind b0 (answer_line line answer) → Does old (PlaysFeed line (playing m old) i bytes answer) new b0 b1
  feed_refused (Ok o) new b0 b1 e makes told = absurd (let no : false ≡ true = e in cc)
  feed_refused (Err why) new b0 b1 e makes told =
      let fed = plain (event.Feed i bytes) (Err why) old new makes.deeds in
      record {
        network = makes.network;
        turns = fed ∷ [];
        told = answer_line line (Err why);
        plays = record { fed = fed; taken = []; are = refl; event = refl; answered = refl; is_turn = fed_turn (Err why) new makes; takes = (refl, refl); tells = refl };
        goes = λ given older run. makes.goes given.0 older run;
        tells = told;
      }

  pub feed_taken : (answer : Answered) (mid new : Whole) (b0 b1 b2 : Told) → is_err answer ≡ false → Makes old (event.Feed i bytes) answer mid → DoesAll line m (IsDueTake i) mid new b0 b1 → b2 ≡ behind b1 (answer_line line answer) →
      Does old (PlaysFeed line (playing m old) i bytes answer) new b0 b2
  feed_taken (Err why) mid new b0 b1 b2 e makes all told = absurd (let no : true ≡ false = e in cc)
  feed_taken (Ok o) mid new b0 b1 b2 e makes all told =
      let fed = plain (event.Feed i bytes) (Ok o) old mid makes.deeds in
      let ts = all.some.turns in
      record {
        network = all.some.network ∙ makes.network;
        turns = fed ∷ ts;
        told = turns_text line old.network.peers ts ++ answer_line line (Ok o);
        plays = record {
          fed = fed;
          taken = ts;
          are = refl;
          event = refl;
          answered = refl;
          is_turn = fed_turn (Ok o) mid makes;
          takes = record { due = subst (λ (n : NetworkParts). AreDue (IsDueTake i) m n mid.state ts new.state) makes.network all.some.due; over = all.over };
          tells = refl;
        };
        goes = λ given older run.
            let first : Run wire mid.network (fed.entry ∷ older) mid.state = subst (λ (n : NetworkParts). Run wire n (fed.entry ∷ older) mid.state) (sym makes.network) (makes.goes given.0 older run) in
            subst (λ (n : NetworkParts). Run wire n (entries_of ts (fed.entry ∷ older)) new.state) makes.network (all.some.goes (fed.entry ∷ older) first);
        tells =
            told ∙ ap (λ (b : Told). behind b (answer_line line (Ok o))) (all.some.tells ∙ ap (λ (n : NetworkParts). behind b0 (turns_text line n.peers ts)) makes.network)
            ∙ behind_twice b0 (turns_text line old.network.peers ts) (answer_line line (Ok o));
      }

-- all that was due, and its answer
pub all_told : (line : ℕ) (m : Modes) (Due : Plant → Option Event → Type 0) (old new : Whole) (b0 b1 b2 : Told) → DoesAll line m Due old new b0 b1 → b2 ≡ behind b1 (answer_line line (Ok Done)) → Does old (PlaysDue line (playing m old) Due (Ok Done)) new b0 b2
all_told line m Due old new b0 b1 b2 all told = record {
  network = all.some.network;
  turns = all.some.turns;
  told = turns_text line old.network.peers all.some.turns ++ answer_line line (Ok Done);
  plays = record { answered = refl; all = record { due = all.some.due; over = all.over }; tells = refl };
  goes = λ given older run. all.some.goes older run;
  tells =
      told ∙ ap (λ (b : Told). behind b (answer_line line (Ok Done))) all.some.tells ∙ behind_twice b0 (turns_text line old.network.peers all.some.turns) (answer_line line (Ok Done));
}
