-- A run goes on by the events of lines that are played.
use Rattle.std.proofs.Common.{◌≡◌, ℕ, List, [], ◌∷◌, ◌++◌, refl, sym, ap, subst, ◌∙◌, inl}
use Rattle.std.proofs.lemmas.List.Elements.{All-head, All-tail}
use Rattle.plant_play.specs.plant_model.Types.{LineEvent, NetworkParts}
use Rattle.plant_play.specs.plant_model.Events.{Answered}
use Rattle.plant_play.specs.plant_model.Plant.{Entry, Plant, Run}
use Rattle.plant_play.specs.plant_model.RealWire.{wire}
use Rattle.plant_play.specs.declared.showing.Modes.{Modes}
use Rattle.plant_play.specs.Scripts.{AllPlayed}
use Rattle.plant_play.specs.Playing.{Cue, IsNewNetwork, Plays, PlaysLine, PlayedNetwork}
use Rattle.plant_play.specs.Turns.{AreGiven, Turn, entries_of}
use Rattle.client_laws.specs.Laws.{FeedOctets, FeedsOctets, RunsAreLoadable}
use Rattle.client_laws.proofs.Givens.{lines_are_given}
use Rattle.client_laws.proofs.PlayedTurns.{AreTurns, line_turns}

-- a run goes on by these events, to this state
abbrev GoesOn : NetworkParts → Plant → List Turn → Plant → Type 0
GoesOn n s turns end = AreGiven turns → (older : List Entry) → Run wire n older s → Run wire n (entries_of turns older) end

turns_go : (m : Modes) (n : NetworkParts) (s : Plant) (ts : List Turn) (end : Plant) → AreTurns m n s ts end → GoesOn n s ts end
turns_go m n s [] end same given older run = subst (Run wire n older) (sym same) run
turns_go m n s (t ∷ ts) end are given older run = turns_go m n t.after ts end are.1 given.1 (t.entry ∷ older) (s, run, given.0, inl are.0.happens)

pub lines_go_on : (number : ℕ) (old : PlayedNetwork) (e : LineEvent) (file : List ℕ) (answer : Answered) (turns : List Turn) (told : List ℕ) (end : Plant)
    → Plays number old e file answer turns told end → AreGiven turns
    → (older : List Entry) → Run wire old.network older old.state → Run wire old.network (entries_of turns older) end
lines_go_on number old e file answer turns told end p = turns_go old.modes old.network old.state turns end (line_turns number old answer turns told end e file p)

-- ---- lines one after the other

pub entries_join : (first others : List Turn) (older : List Entry) → entries_of (first ++ others) older ≡ entries_of others (entries_of first older)
entries_join [] others older = refl
entries_join (t ∷ first) others older = entries_join first others (t.entry ∷ older)

pub settings_stay : (old end : PlayedNetwork) (cues : List Cue) (turns : List Turn) (told : List ℕ) → AllPlayed old cues turns told end → end.network ≡ old.network
settings_stay old end [] turns told all = ap (λ (s : PlayedNetwork). s.network) all.2
settings_stay old end (cue ∷ cues) turns told p = settings_stay p.mid end cues p.later p.more p.others ∙ p.plays.network

module _ (loadable : RunsAreLoadable) where
  -- the first line
  first_goes : (n : NetworkParts) (old : PlayedNetwork) (cue : Cue) (answer : Answered) (turns : List Turn) (told : List ℕ) (next : PlayedNetwork) → old.network ≡ n → FeedsOctets cue.event →
      PlaysLine old cue answer turns told next → (older : List Entry) → Run wire n older old.state → Run wire n (entries_of turns older) next.state
  first_goes n old cue answer turns told next is octets p older run =
      let given = lines_are_given cue.number old cue.event cue.file answer turns told next.state octets (loadable n older old.state run) p.plays in
      let more = lines_go_on cue.number old cue.event cue.file answer turns told next.state p.plays given older in
      subst (λ (m : NetworkParts). Run wire m older old.state → Run wire m (entries_of turns older) next.state) is more run

  scripts_go : (n : NetworkParts) (old end : PlayedNetwork) (cues : List Cue) (turns : List Turn) (told : List ℕ) → old.network ≡ n → FeedOctets cues → AllPlayed old cues turns told end →
      (older : List Entry) → Run wire n older old.state → Run wire n (entries_of turns older) end.state
  scripts_go n old end [] turns told is octets all older run =
      subst (λ (ts : List Turn). Run wire n (entries_of ts older) end.state) (sym all.0)
      (subst (λ (s : PlayedNetwork). Run wire n older s.state) (sym all.2) run)
  scripts_go n old end (cue ∷ cues) turns told is octets p older run =
      let one = All-head (λ (c : Cue). FeedsOctets c.event) cue cues octets in
      let others = All-tail (λ (c : Cue). FeedsOctets c.event) cue cues octets in
      let now = first_goes n old cue p.answer p.first p.said p.mid is one p.plays older run in
      let all = scripts_go n p.mid end cues p.later p.more (p.plays.network ∙ is) others p.others (entries_of p.first older) now in
      subst (λ (ts : List Turn). Run wire n (entries_of ts older) end.state) (sym p.turns_are)
      (subst (λ (entries : List Entry). Run wire n entries end.state) (sym (entries_join p.first p.later older)) all)

  pub scripts_go_on : (old end : PlayedNetwork) (cues : List Cue) (turns : List Turn) (told : List ℕ) → FeedOctets cues → AllPlayed old cues turns told end
      → (older : List Entry) → Run wire old.network older old.state → Run wire old.network (entries_of turns older) end.state
  scripts_go_on old end cues turns told octets all older run = scripts_go old.network old end cues turns told refl octets all older run

  pub scripts_are_runs : (n : NetworkParts) (new end : PlayedNetwork) (cues : List Cue) (turns : List Turn) (told : List ℕ) → IsNewNetwork n new → FeedOctets cues
      → AllPlayed new cues turns told end → Run wire n (entries_of turns []) end.state
  scripts_are_runs n new end cues turns told is octets all = scripts_go n new end cues turns told is.network octets all [] is.run
