-- A script that comes in pieces, from line to line: what is reached after one more line, and what is left where it stops.
use Rattle.std.proofs.Common.{◌≡◌, ◌≤◌, ℕ, ◌+◌, List, [], ◌∷◌, ◌++◌, All, Some, None, IfSome, length, refl, sym, ap, subst, ◌∙◌, append_assoc, inl, inr, arith}
use Rattle.std.proofs.KnownBytes.{Appends-nil, Appends-trans, Appends-kept}
use Rattle.std.proofs.lemmas.List.Elements.{All-nil, All-cons}
use Rattle.std.specs.declared.option.Option.{Option}
use Rattle.std.specs.Io.KnownBytes.{Appends, Keeps}
use Rattle.std.specs.Str.Lines.{strip_carriage_return}
use Rattle.dom_edge.specs.Stores.{Files}
use Rattle.dom_edge.specs.Whole.{AppendsSome}
use Rattle.plant_network.specs.plant_model.Types.{LineEvent, NetworkParts}
use Rattle.plant_network.specs.plant_model.Events.{Answered}
use Rattle.plant_play.specs.Cues.{IsCueStop, IsFileStop, PlaysCue, file_name}
use Rattle.plant_play.specs.Logs.{Told, untold}
use Rattle.plant_play.specs.Playing.{IsNewNetwork, PlayedNetwork, cue}
use Rattle.plant_play.specs.Reels.{Gives, IsReelEnd, ahead}
use Rattle.plant_play.specs.Replays.{AreAllOf, AreFirstOf, BeginsWith, Comes, DoesLine, HasNoEnd, IsLineEnd, IsReplayed, IsReplayedTo, LineEnds, PassesLine, ReplayStops, StopsAtLine, is_told, octets_of}
use Rattle.plant_play.specs.Turns.{Turn}
use Rattle.plant_play.specs.WholeScripts.{HasEvent, around}
use Rattle.plant_play.specs.declared.replaying.Span.{Span}
use Rattle.transcript.specs.declared.stop.Stop.{Stop}
use Rattle.transcript.specs.declared.stop.Stop.TheVariants as stop
use Rattle.transcript.specs.Stops.{numbered}
use Rattle.transcript.proofs.ScriptParts.{rose_before, some_more, some_of_all}
use Rattle.plant_play.proofs.ScriptLemmas.{at_file_before, new_stage}

-- ---- what comes

pub begun_with_none : (input : Option (List ℕ)) → BeginsWith input [] (ahead [] input)
begun_with_none None = tt
begun_with_none (Some all) = (all, refl, refl)

pub one_line_more : (input : Option (List ℕ)) (lines : List (List ℕ)) (line : List ℕ) (now later : Option (List ℕ)) → BeginsWith input lines now → Gives now (line ++ 10 ∷ []) later → BeginsWith input (line ∷ lines) later
one_line_more None lines line now later begins gives = tt
one_line_more (Some all) lines line now later begins gives =
    let behind = begins.0 in
    let more : Gives (Some behind) (line ++ 10 ∷ []) later = subst (λ (x : Option (List ℕ)). Gives x (line ++ 10 ∷ []) later) begins.1 gives in
    (more.0, more.1, begins.2 ∙ ap (λ (xs : List ℕ). octets_of lines ++ xs) more.2 ∙ sym (append_assoc (octets_of lines) (line ++ 10 ∷ []) more.0))

pub are_first : (input : Option (List ℕ)) (lines : List (List ℕ)) (now : Option (List ℕ)) → All HasNoEnd lines → BeginsWith input lines now → AreFirstOf input lines
are_first None lines now no_ends begins = (no_ends, tt)
are_first (Some all) lines now no_ends begins = (no_ends, (begins.0, begins.2))

pub are_all : (input : Option (List ℕ)) (lines : List (List ℕ)) (now : Option (List ℕ)) → All HasNoEnd lines → BeginsWith input lines now → IfSome now HasNoEnd → AreAllOf input lines
are_all None lines now no_ends begins over = (no_ends, tt)
are_all (Some all) lines now no_ends begins over =
    (no_ends, (begins.0, begins.2, subst (λ (x : Option (List ℕ)). IfSome x HasNoEnd) begins.1 over))

-- the begin of what is ahead comes behind these lines
pub begun_behind : (input : Option (List ℕ)) (lines : List (List ℕ)) (now : Option (List ℕ)) (begun : List ℕ) → BeginsWith input lines now
    → IfSome now (λ bytes. (rest : List ℕ) × (bytes ≡ begun ++ rest)) → IfSome input (λ all. (rest : List ℕ) × (all ≡ octets_of lines ++ (begun ++ rest)))
begun_behind None lines now begun begins comes = tt
begun_behind (Some all) lines now begun begins comes =
    let more = subst (λ (x : Option (List ℕ)). IfSome x (λ bytes. (rest : List ℕ) × (bytes ≡ begun ++ rest))) begins.1 comes in
    (more.0, begins.2 ∙ ap (λ (xs : List ℕ). octets_of lines ++ xs) more.1)

-- ---- one line further

-- So many lines were played up to here; what is told of them is written, and that is ahead.
pub record IsAtLine (files : Option Files) (span : Option Span) (n : NetworkParts) (input before now ahead : Option (List ℕ)) (number : ℕ) (end : PlayedNetwork) : Type 0 where
  pub lines : List (List ℕ)
  pub count : length lines ≡ number
  pub no_ends : All HasNoEnd lines
  pub begins : BeginsWith input lines ahead
  pub comes : Comes files span n lines (λ told. Appends before now told) end

module _ (files : Option Files) (span : Option Span) (n : NetworkParts) (input w0 : Option (List ℕ)) where
  pub at_start : (start : PlayedNetwork) → IsNewNetwork n start → IsAtLine files span n input w0 w0 (ahead [] input) 0 start
  at_start start new = record {
    lines = [];
    count = refl;
    no_ends = All-nil HasNoEnd;
    begins = begun_with_none input;
    comes = record { turns = []; told = []; replaying = record { start = start; new = new; played = (refl, refl, refl) }; wrote = Appends-nil w0 };
  }

  -- one line more, told in any way
  further : (lines : List (List ℕ)) (line : List ℕ) (now new : PlayedNetwork) (turns : List Turn) (told : List ℕ) (Old Line New : List ℕ → Type 0) →
      ((xs ys : List ℕ) → Old xs → Line ys → New (xs ++ ys)) → Comes files span n lines Old now →
      PassesLine files span n (length lines + 1) (strip_carriage_return line) now new turns told → Line told → Comes files span n (line ∷ lines) New new
  further lines line now new turns told Old Line New join was passes wrote = record {
    turns = was.turns ++ turns;
    told = was.told ++ told;
    replaying = record {
      start = was.replaying.start;
      new = was.replaying.new;
      played = record {
        mid = now;
        earlier = was.turns;
        before = was.told;
        others = was.replaying.played;
        first = turns;
        more = told;
        passes = passes;
        turns_are = refl;
        told_is = refl;
      };
    };
    wrote = join was.told told was.wrote wrote;
  }

  rewritten : (lines : List (List ℕ)) (Old New : List ℕ → Type 0) (end : PlayedNetwork) → ((xs : List ℕ) → Old xs → New xs) → Comes files span n lines Old end → Comes files span n lines New end
  rewritten lines Old New end turn was = record { turns = was.turns; told = was.told; replaying = was.replaying; wrote = turn was.told was.wrote }

  kept : (w1 w2 : Option (List ℕ)) (lines : List (List ℕ)) (end : PlayedNetwork) → Keeps w1 w2 → Comes files span n lines (λ told. Appends w0 w1 told) end → Comes files span n lines (λ told. Appends w0 w2 told) end
  kept w1 w2 lines end same was = rewritten lines (λ told. Appends w0 w1 told) (λ told. Appends w0 w2 told) end (λ xs is. Appends-kept w0 w1 w2 xs is same) was

  cut_here : (w1 : Option (List ℕ)) (lines : List (List ℕ)) (end : PlayedNetwork) → Comes files span n lines (λ told. Appends w0 w1 told) end → Comes files span n lines (λ told. AppendsSome w0 w1 told) end
  cut_here w1 lines end was = rewritten lines (λ told. Appends w0 w1 told) (λ told. AppendsSome w0 w1 told) end (λ xs is. some_of_all w0 w1 xs is) was

  pub line_more : (w1 w2 now later : Option (List ℕ)) (number : ℕ) (line : List ℕ) (old new : PlayedNetwork) (f o : ℕ × ℕ) (failed : List ℕ) →
      IsAtLine files span n input w0 w1 now number old → HasNoEnd line → Gives now (line ++ 10 ∷ []) later →
      DoesLine span (around files (w1, w2) f o failed) n (number + 1) (strip_carriage_return line) old new → IsAtLine files span n input w0 w2 later (number + 1) new
  line_more w1 w2 now later number line old new f o failed at no_end gives does = record {
    lines = line ∷ at.lines;
    count = omega (arith, at.count);
    no_ends = All-cons HasNoEnd line at.lines no_end at.no_ends;
    begins = one_line_more input at.lines line now later at.begins gives;
    comes = further at.lines line old new does.0 does.1 (λ told. Appends w0 w1 told) (λ told. Appends w1 w2 told) (λ told. Appends w0 w2 told)
        (λ xs ys one two. Appends-trans w0 w1 w2 xs ys one two) at.comes
        (subst (λ (k : ℕ). PassesLine files span n (k + 1) (strip_carriage_return line) old new does.0 does.1) (sym at.count) does.2) does.3;
  }

  -- ---- where it ends

  pub over : (w1 now : Option (List ℕ)) (number : ℕ) (end : PlayedNetwork) (f o : ℕ × ℕ) (failed : List ℕ) → IsAtLine files span n input w0 w1 now number end → IfSome now HasNoEnd →
      IsReplayed span (around files (w0, w1) f o failed) n input
  over w1 now number end f o failed at none = (at.lines, are_all input at.lines now at.no_ends at.begins none, (end, at.comes))

  some_first : (w1 now : Option (List ℕ)) (number : ℕ) (end : PlayedNetwork) (f o : ℕ × ℕ) (failed : List ℕ) → IsAtLine files span n input w0 w1 now number end →
      IsReplayedTo span (around files (w0, w1) f o failed) n input (λ told. Appends w0 w1 told)
  some_first w1 now number end f o failed at = (at.lines, are_first input at.lines now at.no_ends at.begins, (end, at.comes))

  pub cut_short : (w1 now : Option (List ℕ)) (number : ℕ) (end : PlayedNetwork) (f o : ℕ × ℕ) (failed : List ℕ) → IsAtLine files span n input w0 w1 now number end →
      IsReplayedTo span (around files (w0, w1) f o failed) n input (λ told. AppendsSome w0 w1 told)
  cut_short w1 now number end f o failed at = (at.lines, are_first input at.lines now at.no_ends at.begins, (end, cut_here w1 at.lines end at.comes))

  -- no line came
  pub reel_stops : (w1 now : Option (List ℕ)) (number : ℕ) (end : PlayedNetwork) (f o : ℕ × ℕ) (failed : List ℕ) (i0 i1 i2 : ℕ) → IsAtLine files span n input w0 w1 now number end → i0 ≤ i1 → (why : Stop) →
      IsReelEnd now (i1, i2) why → ReplayStops span (around files (w0, w1) f o failed) n input (i0, i2) why
  reel_stops w1 now number end f o failed i0 i1 i2 at le stop.ReadFault is = inl (rose_before i0 i1 i2 le is, some_first w1 now number end f o failed at)
  reel_stops w1 now number end f o failed i0 i1 i2 at le stop.WriteFault is = absurd is
  reel_stops w1 now number end f o failed i0 i1 i2 at le (stop.BadNetwork file line fault) is = absurd is
  reel_stops w1 now number end f o failed i0 i1 i2 at le (stop.BadLine line) is = absurd is
  reel_stops w1 now number end f o failed i0 i1 i2 at le (stop.TooLarge name) is = inl (
    is.0,
    record {
      lines = at.lines;
      are_first = are_first input at.lines now at.no_ends at.begins;
      end = end;
      comes = at.comes;
      begun = is.1.begun;
      begins = begun_behind input at.lines now is.1.begun at.begins is.1.begins;
      long = (is.1.long, is.1.no_end);
    },
  )
  reel_stops w1 now number end f o failed i0 i1 i2 at le stop.NoMemory is = cut_short w1 now number end f o failed at

-- ---- a line that stops it

line_before : (files : Option Files) (n : NetworkParts) (number : ℕ) (text : List ℕ) (old new : PlayedNetwork) (f0 f1 f2 : ℕ) (failed : List ℕ) → f0 ≤ f1 → (why : Stop) →
    IsLineEnd files n number text old new (f1, f2) failed why → IsLineEnd files n number text old new (f0, f2) failed why
line_before files n number text old new f0 f1 f2 failed le stop.ReadFault is = at_file_before files n _ old new f0 f1 f2 failed le stop.ReadFault is
line_before files n number text old new f0 f1 f2 failed le stop.WriteFault is = at_file_before files n _ old new f0 f1 f2 failed le stop.WriteFault is
line_before files n number text old new f0 f1 f2 failed le (stop.BadNetwork file line fault) is = at_file_before files n _ old new f0 f1 f2 failed le (stop.BadNetwork file line fault) is
line_before files n number text old new f0 f1 f2 failed le (stop.BadLine line) is = is
line_before files n number text old new f0 f1 f2 failed le (stop.TooLarge name) is = at_file_before files n _ old new f0 f1 f2 failed le (stop.TooLarge name) is
line_before files n number text old new f0 f1 f2 failed le stop.NoMemory is = at_file_before files n _ old new f0 f1 f2 failed le stop.NoMemory is

module _ (files : Option Files) (span : Option Span) (n : NetworkParts) (input w0 w1 w2 now later : Option (List ℕ)) (number f0 f1 f2 o0 o1 o2 : ℕ) (failed line : List ℕ) (old new : PlayedNetwork) where
  stops_at : IsAtLine files span n input w0 w1 now number old → HasNoEnd line → Gives now (line ++ 10 ∷ []) later → Keeps w1 w2 → f0 ≤ f1 → (why : Stop) →
      IsLineEnd files n (number + 1) (strip_carriage_return line) old new (f1, f2) failed why → StopsAtLine span (around files (w0, w2) (f0, f2) (o0, o2) failed) n input why
  stops_at at no_end gives same le why is = record {
    lines = at.lines;
    line = line;
    are_first = are_first input (line ∷ at.lines) later (All-cons HasNoEnd line at.lines no_end at.no_ends) (one_line_more input at.lines line now later at.begins gives);
    end = old;
    comes = kept files span n input w0 w1 w2 at.lines old same at.comes;
    new = new;
    stops = line_before files n (length at.lines + 1) (strip_carriage_return line) old new f0 f1 f2 failed le why
        (subst (λ (k : ℕ). IsLineEnd files n (k + 1) (strip_carriage_return line) old new (f1, f2) failed why) (sym at.count) is);
  }

  cut_in : (turns : List Turn) (told : List ℕ) → IsAtLine files span n input w0 w1 now number old → HasNoEnd line → Gives now (line ++ 10 ∷ []) later →
      PassesLine files span n (number + 1) (strip_carriage_return line) old new turns told → AppendsSome w1 w2 told →
      IsReplayedTo span (around files (w0, w2) (f0, f2) (o0, o2) failed) n input (λ told. AppendsSome w0 w2 told)
  cut_in turns told at no_end gives passes wrote = (
    line ∷ at.lines,
    are_first input (line ∷ at.lines) later (All-cons HasNoEnd line at.lines no_end at.no_ends) (one_line_more input at.lines line now later at.begins gives),
    (
      new,
      further files span n input w0 at.lines line old new turns told (λ told. Appends w0 w1 told) (λ told. AppendsSome w1 w2 told) (λ told. AppendsSome w0 w2 told)
          (λ xs ys one two. some_more w0 w1 w2 xs ys one two) at.comes
          (subst (λ (k : ℕ). PassesLine files span n (k + 1) (strip_carriage_return line) old new turns told) (sym at.count) passes) wrote,
    ),
  )

  pub line_stops : IsAtLine files span n input w0 w1 now number old → HasNoEnd line → Gives now (line ++ 10 ∷ []) later → f0 ≤ f1 → o0 ≤ o1 → (i : ℕ × ℕ) (why : Stop) →
      LineEnds span (around files (w1, w2) (f1, f2) (o1, o2) failed) n (number + 1) (strip_carriage_return line) old new why →
      ReplayStops span (around files (w0, w2) (f0, f2) (o0, o2) failed) n input i why
  line_stops at no_end gives le lo i stop.ReadFault is = inr (stops_at at no_end gives is.0 le stop.ReadFault is.1)
  line_stops at no_end gives le lo i stop.WriteFault is = (rose_before o0 o1 o2 lo is.0, cut_in is.1.0 is.1.1 at no_end gives is.1.2 is.1.3)
  line_stops at no_end gives le lo i (stop.BadNetwork file line fault) is = stops_at at no_end gives is.0 le (stop.BadNetwork file line fault) is.1
  line_stops at no_end gives le lo i (stop.BadLine line) is = stops_at at no_end gives is.0 le (stop.BadLine line) is.1
  line_stops at no_end gives le lo i (stop.TooLarge name) is = inr (stops_at at no_end gives is.0 le (stop.TooLarge name) is.1)
  line_stops at no_end gives le lo i stop.NoMemory is = (
    at.lines,
    are_first input at.lines now at.no_ends at.begins,
    (old, cut_here files span n input w0 w2 at.lines old (kept files span n input w0 w1 w2 at.lines old is at.comes)),
  )

-- a script that could not be begun
pub replay_unbegun : (files : Option Files) (span : Option Span) (n : NetworkParts) (input w : Option (List ℕ)) (f o i : ℕ × ℕ) (failed : List ℕ) → ReplayStops span (around files (w, w) f o failed) n input i stop.NoMemory
replay_unbegun files span n input w f o i failed =
    let start = new_stage n in
    cut_short files span n input w w (ahead [] input) 0 start f o failed (at_start files span n input w start (record { network = refl; run = refl; modes = refl }))

-- ---- what it met may begin earlier

module _ (files : Option Files) (span : Option Span) (n : NetworkParts) (input : Option (List ℕ)) (w : Option (List ℕ) × Option (List ℕ)) (f0 f1 f2 : ℕ) (o : ℕ × ℕ) (failed : List ℕ) (le : f0 ≤ f1) where
  stop_before : (why : Stop) → StopsAtLine span (around files w (f1, f2) o failed) n input why → StopsAtLine span (around files w (f0, f2) o failed) n input why
  stop_before why is = record {
    lines = is.lines;
    line = is.line;
    are_first = is.are_first;
    end = is.end;
    comes = is.comes;
    new = is.new;
    stops = line_before files n (length is.lines + 1) (strip_carriage_return is.line) is.end is.new f0 f1 f2 failed le why is.stops;
  }

  large_before : (i : ℕ × ℕ) (name : List ℕ) → ReplayStops span (around files w (f1, f2) o failed) n input i (stop.TooLarge name) → ReplayStops span (around files w (f0, f2) o failed) n input i (stop.TooLarge name)
  large_before i name (inl is) =
      inl (is.0, record { lines = is.1.lines; are_first = is.1.are_first; end = is.1.end; comes = is.1.comes; begun = is.1.begun; begins = is.1.begins; long = is.1.long })
  large_before i name (inr is) = inr (stop_before (stop.TooLarge name) is)

  read_before : (i : ℕ × ℕ) → ReplayStops span (around files w (f1, f2) o failed) n input i stop.ReadFault → ReplayStops span (around files w (f0, f2) o failed) n input i stop.ReadFault
  read_before i (inl is) = inl is
  read_before i (inr is) = inr (stop_before stop.ReadFault is)

  pub replay_before : (i : ℕ × ℕ) (why : Stop) → ReplayStops span (around files w (f1, f2) o failed) n input i why → ReplayStops span (around files w (f0, f2) o failed) n input i why
  replay_before i stop.ReadFault is = read_before i is
  replay_before i stop.WriteFault is = is
  replay_before i (stop.BadNetwork file line fault) is = stop_before (stop.BadNetwork file line fault) is
  replay_before i (stop.BadLine line) is = stop_before (stop.BadLine line) is
  replay_before i (stop.TooLarge name) is = large_before i name is
  replay_before i stop.NoMemory is = is

-- ---- one line

module _ (files : Option Files) (span : Option Span) (n : NetworkParts) (number : ℕ) (text : List ℕ) (event : LineEvent) (has : HasEvent n (numbered number text) event) (old new : PlayedNetwork) where
  pub cue_passes : (answer : Answered) (after : Told) (p : PlaysCue files number event answer old new (untold (is_told span number)) after) → PassesLine files span n number text old new p.turns after.text
  cue_passes answer after p = inr (record {
    cue = cue number event p.file;
    is_cue = record { within = has.within; number = refl; says = has.says; has = p.has };
    answer = answer;
    said = p.told;
    plays = p.plays;
    told_is = ap (λ (t : Told). t.text) p.tells;
  })

  file_stops : (w : Option (List ℕ) × Option (List ℕ)) (f o : ℕ × ℕ) (failed name : List ℕ) → Keeps w.0 w.1 → file_name event ≡ Some name → (why : Stop) → IsFileStop files name event old new f failed why →
      LineEnds span (around files w f o failed) n number text old new why
  file_stops w f o failed name same named stop.ReadFault is = (same, record { event = event; says = has.says; name = name; named = named; stops = is })
  file_stops w f o failed name same named stop.WriteFault is = absurd is
  file_stops w f o failed name same named (stop.BadNetwork file line fault) is = (same, record { event = event; says = has.says; name = name; named = named; stops = is })
  file_stops w f o failed name same named (stop.BadLine line) is = absurd is
  file_stops w f o failed name same named (stop.TooLarge file) is = (same, record { event = event; says = has.says; name = name; named = named; stops = is })
  file_stops w f o failed name same named stop.NoMemory is = same

  stops_by : (w : Option (List ℕ) × Option (List ℕ)) (f o : ℕ × ℕ) (failed : List ℕ) → Keeps w.0 w.1 → (name : Option (List ℕ)) → file_name event ≡ name → (why : Stop) → IsCueStop files name event old new f failed why →
      LineEnds span (around files w f o failed) n number text old new why
  stops_by w f o failed same None named why is = subst (λ (x : Stop). LineEnds span (around files w f o failed) n number text old new x) (sym is) same
  stops_by w f o failed same (Some name) named why is = file_stops w f o failed name same named why is

  pub cue_stops : (w : Option (List ℕ) × Option (List ℕ)) (f o : ℕ × ℕ) (failed : List ℕ) → Keeps w.0 w.1 → (why : Stop) → IsCueStop files (file_name event) event old new f failed why →
      LineEnds span (around files w f o failed) n number text old new why
  cue_stops w f o failed same why is = stops_by w f o failed same (file_name event) refl why is

-- a line leaves the settings
pub line_settings : (files : Option Files) (span : Option Span) (n : NetworkParts) (number : ℕ) (text : List ℕ) (old new : PlayedNetwork) (told : List ℕ) (turns : List Turn) →
    PassesLine files span n number text old new turns told → new.network ≡ old.network
line_settings files span n number text old new told turns (inl is) = ap (λ (x : PlayedNetwork). x.network) is.state
line_settings files span n number text old new told turns (inr is) = is.plays.network
