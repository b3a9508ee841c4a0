-- A script from line to line: what is reached after one more line, and what a line that stops it leaves.
use Rattle.std.proofs.Common.{◌≡◌, ◌≤◌, ℕ, List, [], ◌∷◌, ◌++◌, All, refl, sym, ap, subst, ◌∙◌, append_assoc}
use Rattle.std.proofs.lemmas.List.{append-nil}
use Rattle.std.proofs.lemmas.List.Elements.{All-nil, All-cons}
use Rattle.std.proofs.KnownBytes.{Appends-nil, Appends-trans, Appends-kept}
use Rattle.std.specs.declared.option.Option.{Option}
use Rattle.std.specs.Io.KnownBytes.{Appends, Keeps}
use Rattle.dom_edge.specs.Whole.{AppendsSome}
use Rattle.line_text.specs.Lines.{NumberedLine, told_lines}
use Rattle.plant_network.specs.plant_model.Types.{NetworkParts}
use Rattle.plant_network.specs.plant_model.Blind.{blind_opened}
use Rattle.plant_network.specs.plant_model.RealWire.{wire}
use Rattle.run_laws.specs.Given.{IsBlindLine}
use Rattle.run_laws.proofs.TextLemmas.GivenRows.{blind_line_given}
use Rattle.transcript.specs.declared.stop.Stop.{Stop}
use Rattle.transcript.specs.declared.stop.Stop.TheVariants as stop
use Rattle.transcript.proofs.ScriptParts.{rose_before, some_more, some_of_all}
use Rattle.blind_play.specs.Playing.{Cue, IsNewNetwork, PlaysLine, PlayedNetwork}
use Rattle.blind_play.specs.Scripts.{AllPlayed}
use Rattle.blind_play.specs.Turns.{Turn}
use Rattle.blind_play.specs.WholeScripts.{AreCues, IsCue, IsNoEvent, LinePlays, LineStops, Reached, ScriptStops, StopsAt}

-- ---- lines that are played one after the other, and one more at the end

none_yet : (old : PlayedNetwork) → AllPlayed old [] [] [] old
none_yet old = (refl, refl, refl)

one_more : (old now new : PlayedNetwork) (cues : List Cue) (cue : Cue) (turns more : List Turn) (told more_told : List ℕ) →
    AllPlayed old cues turns told now → PlaysLine now cue more more_told new → AllPlayed old (cues ++ cue ∷ []) (turns ++ more) (told ++ more_told) new
one_more old now new [] cue turns more told more_told all p = record {
  first = more;
  said = more_told;
  mid = new;
  plays = subst (λ (s : PlayedNetwork). PlaysLine s cue more more_told new) all.2 p;
  later = [];
  more = [];
  others = none_yet new;
  turns_are = ap (λ (ts : List Turn). ts ++ more) all.0 ∙ sym (append-nil more);
  told_is = ap (λ (text : List ℕ). text ++ more_told) all.1 ∙ sym (append-nil more_told);
}
one_more old now new (first ∷ cues) cue turns more told more_told q p = record {
  first = q.first;
  said = q.said;
  mid = q.mid;
  plays = q.plays;
  later = q.later ++ more;
  more = q.more ++ more_told;
  others = one_more q.mid now new cues cue q.later more q.more more_told q.others p;
  turns_are = ap (λ (ts : List Turn). ts ++ more) q.turns_are ∙ append_assoc q.first q.later more;
  told_is = ap (λ (text : List ℕ). text ++ more_told) q.told_is ∙ append_assoc q.said q.more more_told;
}

one_more_cue : (n : NetworkParts) (ls : List NumberedLine) (cs : List Cue) (l : NumberedLine) (c : Cue) → AreCues n ls cs → IsCue n l c → AreCues n (ls ++ l ∷ []) (cs ++ c ∷ [])
one_more_cue n [] [] l c all is = (is, tt)
one_more_cue n [] (d ∷ cs) l c all is = absurd all
one_more_cue n (k ∷ ls) [] l c all is = absurd all
one_more_cue n (k ∷ ls) (d ∷ cs) l c all is = (all.0, one_more_cue n ls cs l c all.1 is)

-- each cue asks for an event that a network without topologies has
pub cues_given : (n : NetworkParts) (ls : List NumberedLine) (cs : List Cue) → AreCues n ls cs → All (λ (c : Cue). IsBlindLine c.event) cs
cues_given n [] [] all = All-nil (λ (c : Cue). IsBlindLine c.event)
cues_given n [] (c ∷ cs) all = absurd all
cues_given n (l ∷ ls) [] all = absurd all
cues_given n (l ∷ ls) (c ∷ cs) all = All-cons (λ (d : Cue). IsBlindLine d.event) c cs (blind_line_given n l.text c.event all.0.says) (cues_given n ls cs all.1)

-- ---- one line further

-- Lines are played up to here; what is told of them is written.
abbrev pub IsAt : NetworkParts → List ℕ → Option (List ℕ) → Option (List ℕ) → List NumberedLine → PlayedNetwork → Type 0
IsAt n script before now others end = Reached n script (λ told. Appends before now told) others end

module _ (n : NetworkParts) (script : List ℕ) (w0 : Option (List ℕ)) where
  pub at_start : (start : PlayedNetwork) → IsNewNetwork n start → IsAt n script w0 w0 (told_lines script) start
  at_start start new = record {
    done = [];
    parts = refl;
    turns = [];
    told = [];
    playing = record { cues = []; are_cues = tt; start = start; new = new; played = none_yet start };
    wrote = Appends-nil w0;
  }

  -- one line more, told in any way
  further : (w1 : Option (List ℕ)) (l : NumberedLine) (others : List NumberedLine) (now new : PlayedNetwork) (Line Wrote : List ℕ → Type 0) →
      ((xs ys : List ℕ) → Appends w0 w1 xs → Line ys → Wrote (xs ++ ys)) →
      IsAt n script w0 w1 (l ∷ others) now → LinePlays n l now new Line → Reached n script Wrote others new
  further w1 l others now new Line Wrote join r p =
      let was = r.playing in record {
        done = r.done ++ l ∷ [];
        parts = r.parts ∙ sym (append_assoc r.done (l ∷ []) others);
        turns = r.turns ++ p.turns;
        told = r.told ++ p.told;
        playing = record {
          cues = was.cues ++ p.cue ∷ [];
          are_cues = one_more_cue n r.done was.cues l p.cue was.are_cues p.is_cue;
          start = was.start;
          new = was.new;
          played = one_more was.start now new was.cues p.cue r.turns p.turns r.told p.told was.played p.plays;
        };
        wrote = join r.told p.told r.wrote p.wrote;
      }

  pub line_more : (w1 w2 : Option (List ℕ)) (l : NumberedLine) (others : List NumberedLine) (now new : PlayedNetwork) →
      IsAt n script w0 w1 (l ∷ others) now → LinePlays n l now new (λ told. Appends w1 w2 told) → IsAt n script w0 w2 others new
  line_more w1 w2 l others now new r p =
      further w1 l others now new (λ told. Appends w1 w2 told) (λ told. Appends w0 w2 told) (λ xs ys one two. Appends-trans w0 w1 w2 xs ys one two) r p

  cut_more : (w1 w2 : Option (List ℕ)) (l : NumberedLine) (others : List NumberedLine) (now new : PlayedNetwork) →
      IsAt n script w0 w1 (l ∷ others) now → LinePlays n l now new (λ told. AppendsSome w1 w2 told) → Reached n script (λ told. AppendsSome w0 w2 told) others new
  cut_more w1 w2 l others now new r p =
      further w1 l others now new (λ told. AppendsSome w1 w2 told) (λ told. AppendsSome w0 w2 told) (λ xs ys one two. some_more w0 w1 w2 xs ys one two) r p

  rewritten : (Old New : List ℕ → Type 0) (others : List NumberedLine) (end : PlayedNetwork) → ((xs : List ℕ) → Old xs → New xs) → Reached n script Old others end → Reached n script New others end
  rewritten Old New others end turn r =
      record { done = r.done; parts = r.parts; turns = r.turns; told = r.told; playing = r.playing; wrote = turn r.told r.wrote }

  pub kept : (w1 w2 : Option (List ℕ)) (others : List NumberedLine) (now : PlayedNetwork) → Keeps w1 w2 → IsAt n script w0 w1 others now → IsAt n script w0 w2 others now
  kept w1 w2 others now same r = rewritten (λ told. Appends w0 w1 told) (λ told. Appends w0 w2 told) others now (λ xs is. Appends-kept w0 w1 w2 xs is same) r

  pub cut_here : (w1 : Option (List ℕ)) (others : List NumberedLine) (now : PlayedNetwork) → IsAt n script w0 w1 others now → Reached n script (λ told. AppendsSome w0 w1 told) others now
  cut_here w1 others now r = rewritten (λ told. Appends w0 w1 told) (λ told. AppendsSome w0 w1 told) others now (λ xs is. some_of_all w0 w1 xs is) r

-- ---- a line that stops the script

module _ (n : NetworkParts) (script : List ℕ) (w0 w1 w2 : Option (List ℕ)) (o0 o1 o2 : ℕ) where
  stops_at : (l : NumberedLine) (others : List NumberedLine) (now : PlayedNetwork) (why : Stop) → IsAt n script w0 w1 (l ∷ others) now → Keeps w1 w2 → IsNoEvent n l why → StopsAt (w0, w2) n script why
  stops_at l others now why r same is = record {
    line = l;
    others = others;
    end = now;
    reached = kept n script w0 w1 w2 (l ∷ others) now same r;
    stops = is;
  }

  pub stops_here : (l : NumberedLine) (others : List NumberedLine) (now new : PlayedNetwork) → IsAt n script w0 w1 (l ∷ others) now → o0 ≤ o1 → (why : Stop) →
      LineStops (w1, w2) (o1, o2) n l now new why → ScriptStops (w0, w2) (o0, o2) n script why
  stops_here l others now new r lo stop.ReadFault is = stops_at l others now stop.ReadFault r is.0 is.1
  stops_here l others now new r lo stop.WriteFault is = (rose_before o0 o1 o2 lo is.0, (others, (new, cut_more n script w0 w1 w2 l others now new r is.1)))
  stops_here l others now new r lo (stop.BadNetwork file line fault) is = stops_at l others now (stop.BadNetwork file line fault) r is.0 is.1
  stops_here l others now new r lo (stop.BadLine line) is = stops_at l others now (stop.BadLine line) r is.0 is.1
  stops_here l others now new r lo (stop.TooLarge name) is = stops_at l others now (stop.TooLarge name) r is.0 is.1
  stops_here l others now new r lo stop.NoMemory is = (l ∷ others, (now, cut_here n script w0 w2 (l ∷ others) now (kept n script w0 w1 w2 (l ∷ others) now is r)))

-- a network that could not be made
abbrev pub new_stage : NetworkParts → PlayedNetwork
new_stage n = record { network = n; state = (blind_opened wire n).state }

pub stops_unbegun : (n : NetworkParts) (script : List ℕ) (w : Option (List ℕ)) (o : ℕ) → ScriptStops (w, w) (o, o) n script stop.NoMemory
stops_unbegun n script w o =
    let start = new_stage n in (told_lines script, (start, cut_here n script w w (told_lines script) start (at_start n script w start (record { network = refl; opened = refl }))))
