-- A script that is played as it comes is worth what one is that is read whole.
use Rattle.std.proofs.Common.{◌≡◌, ◌≤◌, ◌-◌, ◌+◌, ◌==◌, ℕ, Bool, true, false, List, [], ◌∷◌, ◌++◌, length, take, Option, refl, sym, ap, subst, ◌∙◌, if◌then◌else◌, slice_index, append-nil, inl, inr, arith}
use Rattle.std.proofs.lemmas.List.{length-append, length-take}
use Rattle.std.specs.Str.Lines.{strip_carriage_return}
use Rattle.client_laws.specs.plant_model.Types.{NetworkParts}
use Rattle.client_laws.specs.run_laws.Sizes.{all_lengths}
use Rattle.client_laws.specs.plant_play.Playing.{Cue, PlayedNetwork}
use Rattle.client_laws.specs.plant_play.Scripts.{AllPlayed}
use Rattle.client_laws.specs.plant_play.Turns.{Turn}
use Rattle.client_laws.proofs.run_laws.TextLemmas.Lengths.{all_lengths_append, all_lengths_cons}
use Rattle.client_laws.proofs.run_laws.TextLemmas.ModelledNetworks.{settings_are_modelled}
use Rattle.client_laws.proofs.Rightly.{scripts_are_right}
use Rattle.dom_edge.specs.Stores.{Files}
use Rattle.line_text.specs.Lines.{NumberedLine}
use Rattle.plant_client.specs.plant_play.Replays.{IsPassed, IsPlayedLine, PassesLine, Replays, octets_of}
use Rattle.plant_client.specs.plant_play.WholeScripts.{AreCues}
use Rattle.plant_client.specs.plant_play.declared.replaying.Span.{Span}
use Rattle.plant_client.specs.plant_play.transcript.Stops.{numbered}
use Rattle.plant_client.proofs.plant_play.PlayedLines.{one_more, one_more_cue}
use Rattle.pce_tool.specs.Headline.{ReplaysAreWorth}
use Rattle.pce_tool.proofs.HeadlineLemmas.{script_feeds}

stripped_by : (strips : Bool) (line : List ℕ) → length (if strips then take (length line - 1) line else line) ≤ length line
stripped_by true line = omega (arith, length-take (length line - 1) line)
stripped_by false line = omega arith

strip_short : (line : List ℕ) → length (strip_carriage_return line) ≤ length line
strip_short line = stripped_by (slice_index line (length line - 1) == 13) line

one_line_longer : (line : List ℕ) (lines : List (List ℕ)) → length (octets_of (line ∷ lines)) ≡ length (octets_of lines) + (length line + 1)
one_line_longer line lines = omega (arith, length-append (octets_of lines) (line ++ 10 ∷ []), length-append line (10 ∷ []))

-- The lines that are played of them are cues, as those of a script, and are no longer.
record IsPlayedAs (files : Option Files) (n : NetworkParts) (start : PlayedNetwork) (lines : List (List ℕ)) (turns : List Turn) (end : PlayedNetwork) : Type 0 where
  done : List NumberedLine
  cues : List Cue
  said : List ℕ
  are_cues : AreCues files n done cues
  short : all_lengths done ≤ length (octets_of lines)
  played : AllPlayed start cues turns said end

module _ (files : Option Files) (span : Option Span) (n : NetworkParts) (start : PlayedNetwork) where
  none_played : (turns : List Turn) (end : PlayedNetwork) → turns ≡ [] → end ≡ start → IsPlayedAs files n start [] turns end
  none_played turns end none same = record {
    done = [];
    cues = [];
    said = [];
    are_cues = tt;
    short = omega arith;
    played = (none, refl, same);
  }

  passed : (line : List ℕ) (lines : List (List ℕ)) (text : List ℕ) (mid end : PlayedNetwork) (earlier first : List Turn) (more : List ℕ) → IsPlayedAs files n start lines earlier mid →
      IsPassed n text mid end first more → IsPlayedAs files n start (line ∷ lines) (earlier ++ first) end
  passed line lines text mid end earlier first more was is =
      let none : earlier ≡ earlier ++ first = sym (append-nil earlier) ∙ ap (λ (ts : List Turn). earlier ++ ts) (sym is.no_turns) in
      record {
        done = was.done;
        cues = was.cues;
        said = was.said;
        are_cues = was.are_cues;
        short = omega (arith, was.short, one_line_longer line lines);
        played = subst (λ (ts : List Turn). AllPlayed start was.cues ts was.said end) none (subst (AllPlayed start was.cues earlier was.said) (sym is.state) was.played);
      }

  one_played : (line : List ℕ) (lines : List (List ℕ)) (number : ℕ) (mid end : PlayedNetwork) (earlier first : List Turn) (more : List ℕ) → IsPlayedAs files n start lines earlier mid →
      IsPlayedLine files span n number (strip_carriage_return line) mid end first more → IsPlayedAs files n start (line ∷ lines) (earlier ++ first) end
  one_played line lines number mid end earlier first more was is =
      let l = numbered number (strip_carriage_return line) in
      record {
        done = was.done ++ l ∷ [];
        cues = was.cues ++ is.cue ∷ [];
        said = was.said ++ is.said;
        are_cues = one_more_cue files n was.done was.cues l is.cue was.are_cues is.is_cue;
        short = omega (arith, was.short, one_line_longer line lines, all_lengths_append was.done (l ∷ []), all_lengths_cons l [], strip_short line);
        played = one_more start mid end was.cues is.cue is.answer earlier first was.said is.said was.played is.plays;
      }

  one_further : (line : List ℕ) (lines : List (List ℕ)) (number : ℕ) (mid end : PlayedNetwork) (earlier first : List Turn) (more : List ℕ) → IsPlayedAs files n start lines earlier mid →
      PassesLine files span n number (strip_carriage_return line) mid end first more → IsPlayedAs files n start (line ∷ lines) (earlier ++ first) end
  one_further line lines number mid end earlier first more was (inl is) = passed line lines (strip_carriage_return line) mid end earlier first more was is
  one_further line lines number mid end earlier first more was (inr is) = one_played line lines number mid end earlier first more was is

  played_as : (lines : List (List ℕ)) (turns : List Turn) (told : List ℕ) (end : PlayedNetwork) → Replays files span n start lines turns told end → IsPlayedAs files n start lines turns end
  played_as [] turns told end is = none_played turns end is.0 is.2
  played_as (line ∷ lines) turns told end is =
      subst (λ (ts : List Turn). IsPlayedAs files n start (line ∷ lines) ts end) (sym is.turns_are)
      (one_further line lines (length lines + 1) is.mid end is.earlier is.first is.more (played_as lines is.earlier is.before is.mid is.others) is.passes)

pub replays_are_worth : (files : Option Files) (net : List ℕ) (span : Option Span) → ReplaysAreWorth files net span
replays_are_worth files net span n lines turns told end has within r =
    let p = played_as files span n r.start lines turns told end r.played in
    let feeds = script_feeds files n p.done p.cues p.are_cues in
    let right = scripts_are_right n (settings_are_modelled has.bytes n has.is_text) r.start end p.cues turns p.said r.new feeds.0 p.played in
    record { right = right.0; short = λ alone. right.1 alone (omega (arith, feeds.1, p.short, within)) }
