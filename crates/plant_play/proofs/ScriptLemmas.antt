-- A script from line to line: what is reached after one more line, and what a line that stops it leaves.
use Rattle.std.proofs.Common.{◌≤◌, ℕ, false, List, [], ◌∷◌, ◌++◌, refl, sym, ◌∙◌, append_assoc, inl, inr}
use Rattle.std.proofs.KnownBytes.{Appends-nil, Appends-trans, Appends-kept}
use Rattle.std.specs.declared.option.Option.{Option}
use Rattle.std.specs.Io.KnownBytes.{Appends, Keeps}
use Rattle.dom_edge.specs.Stores.{Files}
use Rattle.dom_edge.specs.Whole.{AppendsSome}
use Rattle.line_text.specs.Lines.{NumberedLine, told_lines}
use Rattle.plant_network.specs.plant_model.Types.{NetworkParts, LineEvent}
use Rattle.plant_network.specs.plant_model.Plant.{opened}
use Rattle.plant_network.specs.plant_model.RealWire.{wire}
use Rattle.plant_play.specs.Playing.{IsNewNetwork, PlayedNetwork}
use Rattle.transcript.specs.declared.stop.Stop.{Stop}
use Rattle.transcript.specs.declared.stop.Stop.TheVariants as stop
use Rattle.transcript.proofs.ScriptParts.{rose_before, some_more, some_of_all}
use Rattle.plant_play.specs.Cues.{IsFileStop}
use Rattle.plant_play.specs.WholeScripts.{IsLineStop, LinePlays, LineStops, Reached, ScriptStops, StopsAt, StopsAtFile, around}
use Rattle.plant_play.proofs.PlayedLines.{none_yet, one_more, one_more_cue}

-- ---- one line further

-- Lines are played up to here; what is told of them is written.
abbrev pub IsAt : Option Files → NetworkParts → List ℕ → Option (List ℕ) → Option (List ℕ) → List NumberedLine → PlayedNetwork → Type 0
IsAt files n script before now others end = Reached files n script (λ told. Appends before now told) others end

module _ (files : Option Files) (n : NetworkParts) (script : List ℕ) (w0 : Option (List ℕ)) where
  pub at_start : (start : PlayedNetwork) → IsNewNetwork n start → IsAt files n script w0 w0 (told_lines script) start
  at_start start new = record {
    done = [];
    parts = refl;
    turns = [];
    told = [];
    playing = record { cues = []; are_cues = tt; start = start; new = new; played = none_yet start };
    wrote = Appends-nil w0;
  }

  -- one line more, told in any way
  further : (w1 : Option (List ℕ)) (l : NumberedLine) (others : List NumberedLine) (now new : PlayedNetwork) (Line Wrote : List ℕ → Type 0) →
      ((xs ys : List ℕ) → Appends w0 w1 xs → Line ys → Wrote (xs ++ ys)) →
      IsAt files n script w0 w1 (l ∷ others) now → LinePlays files n l now new Line → Reached files n script Wrote others new
  further w1 l others now new Line Wrote join r p =
      let was = r.playing in record {
        done = r.done ++ l ∷ [];
        parts = r.parts ∙ sym (append_assoc r.done (l ∷ []) others);
        turns = r.turns ++ p.turns;
        told = r.told ++ p.told;
        playing = record {
          cues = was.cues ++ p.cue ∷ [];
          are_cues = one_more_cue files n r.done was.cues l p.cue was.are_cues p.is_cue;
          start = was.start;
          new = was.new;
          played = one_more was.start now new was.cues p.cue p.answer r.turns p.turns r.told p.told was.played p.plays;
        };
        wrote = join r.told p.told r.wrote p.wrote;
      }

  pub line_more : (w1 w2 : Option (List ℕ)) (l : NumberedLine) (others : List NumberedLine) (now new : PlayedNetwork) →
      IsAt files n script w0 w1 (l ∷ others) now → LinePlays files n l now new (λ told. Appends w1 w2 told) → IsAt files n script w0 w2 others new
  line_more w1 w2 l others now new r p =
      further w1 l others now new (λ told. Appends w1 w2 told) (λ told. Appends w0 w2 told) (λ xs ys one two. Appends-trans w0 w1 w2 xs ys one two) r p

  cut_more : (w1 w2 : Option (List ℕ)) (l : NumberedLine) (others : List NumberedLine) (now new : PlayedNetwork) →
      IsAt files n script w0 w1 (l ∷ others) now → LinePlays files n l now new (λ told. AppendsSome w1 w2 told) → Reached files n script (λ told. AppendsSome w0 w2 told) others new
  cut_more w1 w2 l others now new r p =
      further w1 l others now new (λ told. AppendsSome w1 w2 told) (λ told. AppendsSome w0 w2 told) (λ xs ys one two. some_more w0 w1 w2 xs ys one two) r p

  rewritten : (Old New : List ℕ → Type 0) (others : List NumberedLine) (end : PlayedNetwork) → ((xs : List ℕ) → Old xs → New xs) →
      Reached files n script Old others end → Reached files n script New others end
  rewritten Old New others end turn r =
      record { done = r.done; parts = r.parts; turns = r.turns; told = r.told; playing = r.playing; wrote = turn r.told r.wrote }

  pub kept : (w1 w2 : Option (List ℕ)) (others : List NumberedLine) (now : PlayedNetwork) → Keeps w1 w2 → IsAt files n script w0 w1 others now → IsAt files n script w0 w2 others now
  kept w1 w2 others now same r = rewritten (λ told. Appends w0 w1 told) (λ told. Appends w0 w2 told) others now (λ xs is. Appends-kept w0 w1 w2 xs is same) r

  pub cut_here : (w1 : Option (List ℕ)) (others : List NumberedLine) (now : PlayedNetwork) → IsAt files n script w0 w1 others now → Reached files n script (λ told. AppendsSome w0 w1 told) others now
  cut_here w1 others now r = rewritten (λ told. Appends w0 w1 told) (λ told. AppendsSome w0 w1 told) others now (λ xs is. some_of_all w0 w1 xs is) r

-- ---- a line that stops the script

pub file_before : (files : Option Files) (name : List ℕ) (e : LineEvent) (old new : PlayedNetwork) (f0 f1 f2 : ℕ) (failed : List ℕ) → f0 ≤ f1 → (why : Stop) →
    IsFileStop files name e old new (f1, f2) failed why → IsFileStop files name e old new (f0, f2) failed why
file_before files name e old new f0 f1 f2 failed le stop.ReadFault is = (rose_before f0 f1 f2 le is.0, is.1)
file_before files name e old new f0 f1 f2 failed le stop.WriteFault is = is
file_before files name e old new f0 f1 f2 failed le (stop.BadNetwork file line fault) is = is
file_before files name e old new f0 f1 f2 failed le (stop.BadLine line) is = is
file_before files name e old new f0 f1 f2 failed le (stop.TooLarge file) is = is
file_before files name e old new f0 f1 f2 failed le stop.NoMemory is = is

pub at_file_before : (files : Option Files) (n : NetworkParts) (l : NumberedLine) (old new : PlayedNetwork) (f0 f1 f2 : ℕ) (failed : List ℕ) → f0 ≤ f1 → (why : Stop) →
    StopsAtFile files n l old new (f1, f2) failed why → StopsAtFile files n l old new (f0, f2) failed why
at_file_before files n l old new f0 f1 f2 failed le why is = record {
  event = is.event;
  says = is.says;
  name = is.name;
  named = is.named;
  stops = file_before files is.name is.event old new f0 f1 f2 failed le why is.stops;
}

large_before : (files : Option Files) (n : NetworkParts) (l : NumberedLine) (old new : PlayedNetwork) (f0 f1 f2 : ℕ) (failed name : List ℕ) → f0 ≤ f1 →
    IsLineStop files n l old new (f1, f2) failed (stop.TooLarge name) → IsLineStop files n l old new (f0, f2) failed (stop.TooLarge name)
large_before files n l old new f0 f1 f2 failed name le (inl is) = inl is
large_before files n l old new f0 f1 f2 failed name le (inr is) = inr (at_file_before files n l old new f0 f1 f2 failed le (stop.TooLarge name) is)

line_before : (files : Option Files) (n : NetworkParts) (l : NumberedLine) (old new : PlayedNetwork) (f0 f1 f2 : ℕ) (failed : List ℕ) → f0 ≤ f1 → (why : Stop) →
    IsLineStop files n l old new (f1, f2) failed why → IsLineStop files n l old new (f0, f2) failed why
line_before files n l old new f0 f1 f2 failed le stop.ReadFault is = at_file_before files n l old new f0 f1 f2 failed le stop.ReadFault is
line_before files n l old new f0 f1 f2 failed le stop.WriteFault is = at_file_before files n l old new f0 f1 f2 failed le stop.WriteFault is
line_before files n l old new f0 f1 f2 failed le (stop.BadNetwork file line fault) is = at_file_before files n l old new f0 f1 f2 failed le (stop.BadNetwork file line fault) is
line_before files n l old new f0 f1 f2 failed le (stop.BadLine line) is = is
line_before files n l old new f0 f1 f2 failed le (stop.TooLarge name) is = large_before files n l old new f0 f1 f2 failed name le is
line_before files n l old new f0 f1 f2 failed le stop.NoMemory is = at_file_before files n l old new f0 f1 f2 failed le stop.NoMemory is

-- what a script met may begin earlier
at_before : (files : Option Files) (n : NetworkParts) (script : List ℕ) (w : Option (List ℕ) × Option (List ℕ)) (f0 f1 f2 : ℕ) (o : ℕ × ℕ) (failed : List ℕ) → f0 ≤ f1 → (why : Stop) →
    StopsAt (around files w (f1, f2) o failed) n script why → StopsAt (around files w (f0, f2) o failed) n script why
at_before files n script w f0 f1 f2 o failed le why is = record {
  line = is.line;
  others = is.others;
  end = is.end;
  reached = is.reached;
  new = is.new;
  stops = line_before files n is.line is.end is.new f0 f1 f2 failed le why is.stops;
}

pub script_before : (files : Option Files) (n : NetworkParts) (script : List ℕ) (w : Option (List ℕ) × Option (List ℕ)) (f0 f1 f2 : ℕ) (o : ℕ × ℕ) (failed : List ℕ) → f0 ≤ f1 → (why : Stop) →
    ScriptStops (around files w (f1, f2) o failed) n script why → ScriptStops (around files w (f0, f2) o failed) n script why
script_before files n script w f0 f1 f2 o failed le stop.ReadFault is = at_before files n script w f0 f1 f2 o failed le stop.ReadFault is
script_before files n script w f0 f1 f2 o failed le stop.WriteFault is = is
script_before files n script w f0 f1 f2 o failed le (stop.BadNetwork file line fault) is = at_before files n script w f0 f1 f2 o failed le (stop.BadNetwork file line fault) is
script_before files n script w f0 f1 f2 o failed le (stop.BadLine line) is = at_before files n script w f0 f1 f2 o failed le (stop.BadLine line) is
script_before files n script w f0 f1 f2 o failed le (stop.TooLarge name) is = at_before files n script w f0 f1 f2 o failed le (stop.TooLarge name) is
script_before files n script w f0 f1 f2 o failed le stop.NoMemory is = is

module _ (files : Option Files) (n : NetworkParts) (script : List ℕ) (w0 w1 w2 : Option (List ℕ)) (f0 f1 f2 o0 o1 o2 : ℕ) (failed : List ℕ) where
  stops_at : (l : NumberedLine) (others : List NumberedLine) (now new : PlayedNetwork) (why : Stop) → IsAt files n script w0 w1 (l ∷ others) now → Keeps w1 w2 → f0 ≤ f1 →
      IsLineStop files n l now new (f1, f2) failed why → StopsAt (around files (w0, w2) (f0, f2) (o0, o2) failed) n script why
  stops_at l others now new why r same le is = record {
    line = l;
    others = others;
    end = now;
    reached = kept files n script w0 w1 w2 (l ∷ others) now same r;
    new = new;
    stops = line_before files n l now new f0 f1 f2 failed le why is;
  }

  pub stops_here : (l : NumberedLine) (others : List NumberedLine) (now new : PlayedNetwork) → IsAt files n script w0 w1 (l ∷ others) now → f0 ≤ f1 → o0 ≤ o1 → (why : Stop) →
      LineStops (around files (w1, w2) (f1, f2) (o1, o2) failed) n l now new why → ScriptStops (around files (w0, w2) (f0, f2) (o0, o2) failed) n script why
  stops_here l others now new r le lo stop.ReadFault is = stops_at l others now new stop.ReadFault r is.0 le is.1
  stops_here l others now new r le lo stop.WriteFault is =
      (rose_before o0 o1 o2 lo is.0, (others, (new, cut_more files n script w0 w1 w2 l others now new r is.1)))
  stops_here l others now new r le lo (stop.BadNetwork file line fault) is = stops_at l others now new (stop.BadNetwork file line fault) r is.0 le is.1
  stops_here l others now new r le lo (stop.BadLine line) is = stops_at l others now new (stop.BadLine line) r is.0 le is.1
  stops_here l others now new r le lo (stop.TooLarge name) is = stops_at l others now new (stop.TooLarge name) r is.0 le is.1
  stops_here l others now new r le lo stop.NoMemory is =
      (l ∷ others, (now, cut_here files n script w0 w2 (l ∷ others) now (kept files n script w0 w1 w2 (l ∷ others) now is r)))

-- a network that could not be made
abbrev pub new_stage : NetworkParts → PlayedNetwork
new_stage n = record { network = n; state = (opened wire n).state; modes = record { certify = false; disclose = false } }

pub stops_unbegun : (files : Option Files) (n : NetworkParts) (script : List ℕ) (w : Option (List ℕ)) (f o : ℕ) (failed : List ℕ) →
    ScriptStops (around files (w, w) (f, f) (o, o) failed) n script stop.NoMemory
stops_unbegun files n script w f o failed =
    let start = new_stage n in (
      told_lines script,
      (
        start,
        cut_here files n script w w (told_lines script) start
            (at_start files n script w start (record { network = refl; run = refl; modes = refl })),
      ),
    )
