-- Lines that are played one after the other: one more at the end.
use Rattle.std.proofs.Common.{ℕ, List, [], ◌∷◌, ◌++◌, refl, sym, ap, subst, ◌∙◌, append_assoc}
use Rattle.std.proofs.lemmas.List.{append-nil}
use Rattle.std.specs.declared.option.Option.{Option}
use Rattle.dom_edge.specs.Stores.{Files}
use Rattle.line_text.specs.Lines.{NumberedLine}
use Rattle.plant_network.specs.plant_model.Types.{NetworkParts}
use Rattle.plant_network.specs.plant_model.Events.{Answered}
use Rattle.plant_play.specs.Playing.{Cue, PlaysLine, PlayedNetwork}
use Rattle.plant_play.specs.Scripts.{AllPlayed}
use Rattle.plant_play.specs.Turns.{Turn}
use Rattle.plant_play.specs.WholeScripts.{AreCues, IsCue}

pub none_yet : (old : PlayedNetwork) → AllPlayed old [] [] [] old
none_yet old = (refl, refl, refl)

pub one_more : (old now new : PlayedNetwork) (cues : List Cue) (cue : Cue) (answer : Answered) (turns more : List Turn) (told more_told : List ℕ) →
    AllPlayed old cues turns told now → PlaysLine now cue answer more more_told new → AllPlayed old (cues ++ cue ∷ []) (turns ++ more) (told ++ more_told) new
one_more old now new [] cue answer turns more told more_told all p = record {
  answer = answer;
  first = more;
  said = more_told;
  mid = new;
  plays = subst (λ (s : PlayedNetwork). PlaysLine s cue answer more more_told new) all.2 p;
  later = [];
  more = [];
  others = none_yet new;
  turns_are = ap (λ (ts : List Turn). ts ++ more) all.0 ∙ sym (append-nil more);
  told_is = ap (λ (text : List ℕ). text ++ more_told) all.1 ∙ sym (append-nil more_told);
}
one_more old now new (first ∷ cues) cue answer turns more told more_told q p = record {
  answer = q.answer;
  first = q.first;
  said = q.said;
  mid = q.mid;
  plays = q.plays;
  later = q.later ++ more;
  more = q.more ++ more_told;
  others = one_more q.mid now new cues cue answer q.later more q.more more_told q.others p;
  turns_are = ap (λ (ts : List Turn). ts ++ more) q.turns_are ∙ append_assoc q.first q.later more;
  told_is = ap (λ (text : List ℕ). text ++ more_told) q.told_is ∙ append_assoc q.said q.more more_told;
}

pub one_more_cue : (files : Option Files) (n : NetworkParts) (ls : List NumberedLine) (cs : List Cue) (l : NumberedLine) (c : Cue) →
    AreCues files n ls cs → IsCue files n l c → AreCues files n (ls ++ l ∷ []) (cs ++ c ∷ [])
one_more_cue files n [] [] l c all is = (is, tt)
one_more_cue files n [] (d ∷ cs) l c all is = absurd all
one_more_cue files n (k ∷ ls) [] l c all is = absurd all
one_more_cue files n (k ∷ ls) (d ∷ cs) l c all is = (all.0, one_more_cue files n ls cs l c all.1 is)
