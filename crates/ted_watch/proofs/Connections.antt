-- A connection from turn to turn.
use Rattle.std.proofs.Common.{◌≡◌, ◌≢◌, ◌≤◌, ◌<◌, ◌+◌, ℕ, Bool, true, false, List, [], ◌++◌, Ok, Err, Some, None, length, length-append, length-take, take, append-nil, arith, refl, sym, ◌∙◌, ap, subst}
use Rattle.std.specs.declared.option.Option.{Option}
use Rattle.std.specs.Io.KnownBytes.{Appends, Consumes, Keeps, IsAtEnd}
use Rattle.std.proofs.KnownBytes.{Appends-nil, Appends-trans, Consumes-nil, Consumes-trans, Consumes-kept}
use Rattle.std.proofs.lemmas.List.Elements.{All-nil}
use Rattle.dom_edge.specs.Streams.{Reading, Writing, IsRead}
use Rattle.dom_edge.specs.declared.stream.Got.TheVariants as got
use Rattle.ted_watch.specs.declared.shown.Shown.{Shown}
use Rattle.ted_watch.specs.Serving.{AreTaken, AreTurns, Comes, Cuts, Feeds, HasCause, IsOpen, IsReadOut, RoseBy, Sides, Stops, TakesOn, Watches, Writes, quiet_most, quiets_behind}
use Rattle.ted_watch.specs.declared.serving.Watched.{Watched}
use Rattle.ted_watch.specs.declared.serving.Watched.TheVariants.{PeerEnd, ReadFault, WriteFault, LongLine, Silent, Turns, NoMemory}
use Rattle.ted_watch.proofs.Pieces.{taken_none, taken_on, writes_on}

-- so many turns were made, of which so many at their end were quiet one behind the other, and the connection is still served
pub record IsServed (turns still : ℕ) (line : List ℕ) (a b : List Shown) (old new : Sides) : Type 0 where
  pub taken : List ℕ
  pub took : Consumes old.reading.left new.reading.left taken
  pub are_taken : AreTaken taken line a b (Appends old.writing.written new.writing.written)
  pub is_open : IsOpen line
  pub are_turns : AreTurns turns (length taken) old.reading.quiets new.reading.quiets
  pub silent : RoseBy still old.reading.quiets new.reading.quiets
  pub faults : old.reading.faults ≤ new.reading.faults
  pub ends : old.reading.ends ≤ new.reading.ends
  pub failed : old.writing.faults ≤ new.writing.faults

pub none_served : (k : List Shown) (s : Sides) → IsServed 0 0 [] k k s s
none_served k s = record {
  taken = [];
  took = Consumes-nil s.reading.left;
  are_taken = taken_none [] k (Appends s.writing.written s.writing.written) (Appends-nil s.writing.written);
  is_open = (All-nil (λ (c : ℕ). c ≢ 10), omega arith);
  are_turns = record { reads = 0; quiets = 0; all = refl; took = omega arith; quiet = omega arith };
  silent = omega arith;
  faults = omega arith;
  ends = omega arith;
  failed = omega arith;
}

turns_on : (came : Bool) (turns m q : ℕ) (piece : List ℕ) (mid new : Sides) → AreTurns turns m q mid.reading.quiets → Comes came piece mid new → mid.reading.quiets ≤ new.reading.quiets → AreTurns (turns + 1) (m + length piece) q new.reading.quiets
turns_on true turns m q piece mid new are some later = record { reads = are.reads + 1; quiets = are.quiets; all = omega (arith, are.all); took = omega (arith, are.took, some); quiet = omega (arith, are.quiet, later) }
turns_on false turns m q piece mid new are none later = record { reads = are.reads; quiets = are.quiets + 1; all = omega (arith, are.all); took = omega (arith, are.took); quiet = omega (arith, are.quiet, none.1) }

silent_on : (came : Bool) (still q : ℕ) (piece : List ℕ) (mid new : Sides) → RoseBy still q mid.reading.quiets → Comes came piece mid new → mid.reading.quiets ≤ new.reading.quiets → RoseBy (quiets_behind came still) q new.reading.quiets
silent_on true still q piece mid new silent some later = omega (arith, silent, later)
silent_on false still q piece mid new silent none later = omega (arith, silent, none.1)

-- fewer than six reads were quiet, since the sixth ends it
pub few_behind : (came : Bool) (quiets next : ℕ) → quiets < quiet_most → next ≡ quiets_behind came quiets → next ≢ quiet_most → next < quiet_most
few_behind true quiets next few is other = omega (arith, is)
few_behind false quiets next few is other = omega (arith, is, few, other)

module _ (a b c : List Shown) (old mid new : Sides) where
  pub served_on : (came : Bool) (turns still : ℕ) (line left : List ℕ) → IsServed turns still line a b old mid → TakesOn came line left b c mid new → IsServed (turns + 1) (quiets_behind came still) left a c old new
  served_on came turns still line left is on = record {
    taken = is.taken ++ on.piece;
    took = Consumes-trans old.reading.left mid.reading.left new.reading.left is.taken on.piece is.took on.took;
    are_taken = taken_on is.taken line on.piece left a b c (Appends old.writing.written mid.writing.written) (Appends mid.writing.written new.writing.written) (Appends old.writing.written new.writing.written)
        (λ s t f g. Appends-trans old.writing.written mid.writing.written new.writing.written s t f g) is.are_taken on.are_taken;
    is_open = on.is_open;
    are_turns = subst (λ (n : ℕ). AreTurns (turns + 1) n old.reading.quiets new.reading.quiets) (sym (length-append is.taken on.piece))
        (turns_on came turns (length is.taken) old.reading.quiets on.piece mid new is.are_turns on.comes on.quiets);
    silent = silent_on came still old.reading.quiets on.piece mid new is.silent on.comes on.quiets;
    faults = omega (arith, is.faults, on.faults);
    ends = omega (arith, is.ends, on.ends);
    failed = omega (arith, is.failed, on.failed);
  }

  out_on : (x y z : Option (List ℕ)) (taken : List ℕ) → Consumes x y taken → IsReadOut y z → IsReadOut x z
  out_on None y z taken took out = tt
  out_on (Some xs) None z taken took out = absurd took
  out_on (Some xs) (Some ys) z taken took out = out

  cause_on : (turns still : ℕ) (end : Watched) (line taken piece : List ℕ) → end ≢ Turns → end ≢ Silent → IsServed turns still line a b old mid → Consumes old.reading.left mid.reading.left taken → HasCause 0 0 end mid new → (m n : ℕ) → HasCause m n end old new
  cause_on turns still PeerEnd line taken piece never heard is took cause m n = (omega (arith, is.ends, cause.0), out_on old.reading.left mid.reading.left new.reading.left taken took cause.1)
  cause_on turns still ReadFault line taken piece never heard is took cause m n = omega (arith, is.faults, cause)
  cause_on turns still WriteFault line taken piece never heard is took cause m n = omega (arith, is.failed, cause)
  cause_on turns still LongLine line taken piece never heard is took cause m n = tt
  cause_on turns still Silent line taken piece never heard is took cause m n = absurd (heard refl)
  cause_on turns still Turns line taken piece never heard is took cause m n = absurd (never refl)
  cause_on turns still NoMemory line taken piece never heard is took cause m n = tt

  pub served_out : (turns still all : ℕ) (line : List ℕ) (end : Watched) → IsServed turns still line a b old mid → Stops end line b c mid new → Watches all end a c old new
  served_out turns still all line end is stops = record {
    taken = is.taken ++ stops.piece;
    took = Consumes-trans old.reading.left mid.reading.left new.reading.left is.taken stops.piece is.took stops.took;
    rest = stops.rest;
    leaves = stops.leaves;
    are_taken = taken_on is.taken line stops.piece stops.rest a b c (Appends old.writing.written mid.writing.written) (Writes end mid.writing.written new.writing.written) (Writes end old.writing.written new.writing.written)
        (λ s t f g. writes_on end old.writing.written mid.writing.written new.writing.written s t f g) is.are_taken stops.are_taken;
    cause = cause_on turns still end line is.taken stops.piece stops.ends stops.heard is is.took stops.cause all (length (is.taken ++ stops.piece));
  }

pub all_served : (turns still : ℕ) (line : List ℕ) (a b : List Shown) (old new : Sides) → IsServed turns still line a b old new → Watches turns Turns a b old new
all_served turns still line a b old new is = record { taken = is.taken; took = is.took; rest = line; leaves = is.is_open; are_taken = is.are_taken; cause = is.are_turns }

pub all_silent : (turns all : ℕ) (line : List ℕ) (a b : List Shown) (old new : Sides) → IsServed turns quiet_most line a b old new → Watches all Silent a b old new
all_silent turns all line a b old new is = record { taken = is.taken; took = is.took; rest = line; leaves = is.is_open; are_taken = is.are_taken; cause = is.silent }

-- ---- a turn

-- what a read tells of a connection whose other side stays
module _ (line : List ℕ) (k : List Shown) (old new : Sides) (into : List ℕ) (begun : IsOpen line) (same : new.writing ≡ old.writing) where
  nothing : (W : Option (List ℕ) → List ℕ → Type 0) → W old.writing.written [] → AreTaken (line ++ []) line k k (W new.writing.written)
  nothing W w = subst (λ (x : List ℕ). AreTaken x line k k (W new.writing.written)) (sym (append-nil line))
      (taken_none line k (W new.writing.written) (subst (λ (v : Writing). W v.written []) (sym same) w))

  kept : Keeps old.reading.left new.reading.left → Consumes old.reading.left new.reading.left []
  kept keeps = Consumes-kept old.reading.left old.reading.left new.reading.left [] (Consumes-nil old.reading.left) keeps

  pub quiet : IsRead old.reading new.reading got.Quiet into → TakesOn false line line k k old new
  quiet read = record {
    piece = [];
    took = kept read.takes;
    are_taken = nothing (λ v. Appends old.writing.written v) (Appends-nil old.writing.written);
    is_open = begun;
    comes = (refl, read.quiet.failed refl);
    faults = read.failed.later;
    quiets = read.quiet.later;
    ends = read.ended.later;
    failed = omega (arith, ap (λ (v : Writing). v.faults) same);
  }

  read_out : (x y : Option (List ℕ)) → Keeps x y → IsAtEnd x → IsReadOut x y
  read_out None y keeps end = tt
  read_out (Some xs) None keeps end = absurd keeps
  read_out (Some xs) (Some ys) keeps end = ap Some (keeps ∙ end)

  pub at_end : IsRead old.reading new.reading got.End into → Stops PeerEnd line k k old new
  at_end read = record {
    piece = [];
    took = kept read.takes.0;
    rest = line;
    leaves = begun;
    are_taken = nothing (λ v. Appends old.writing.written v) (Appends-nil old.writing.written);
    ends = λ e. absurd (cc e);
    heard = λ e. absurd (cc e);
    cause = (read.ended.failed refl, read_out old.reading.left new.reading.left read.takes.0 read.takes.1);
  }

  pub failed : IsRead old.reading new.reading got.Failed into → Stops ReadFault line k k old new
  failed read = record {
    piece = [];
    took = kept read.takes;
    rest = line;
    leaves = begun;
    are_taken = nothing (λ v. Appends old.writing.written v) (Appends-nil old.writing.written);
    ends = λ e. absurd (cc e);
    heard = λ e. absurd (cc e);
    cause = read.failed.failed refl;
  }

-- a piece that was read, and taken
module _ (line left : List ℕ) (k m : List Shown) (old mid new : Sides) (into : List ℕ) (n : ℕ) (read : IsRead old.reading mid.reading (got.Bytes n) into) (written : mid.writing ≡ old.writing) (same : new.reading ≡ mid.reading) where
  cut : (end : Watched) → Cuts end old.writing new.writing → HasCause 0 0 end old new
  cut WriteFault cuts = cuts
  cut LongLine cuts = tt
  cut NoMemory cuts = tt
  cut PeerEnd cuts = absurd cuts
  cut ReadFault cuts = absurd cuts
  cut Silent cuts = absurd cuts
  cut Turns cuts = absurd cuts

  is_end : (end : Watched) → Cuts end old.writing new.writing → end ≢ Turns
  is_end Silent cuts = absurd cuts
  is_end Turns cuts = absurd cuts
  is_end WriteFault cuts = λ e. absurd (cc e)
  is_end LongLine cuts = λ e. absurd (cc e)
  is_end NoMemory cuts = λ e. absurd (cc e)
  is_end PeerEnd cuts = absurd cuts
  is_end ReadFault cuts = absurd cuts

  is_heard : (end : Watched) → Cuts end old.writing new.writing → end ≢ Silent
  is_heard Silent cuts = absurd cuts
  is_heard Turns cuts = absurd cuts
  is_heard WriteFault cuts = λ e. absurd (cc e)
  is_heard LongLine cuts = λ e. absurd (cc e)
  is_heard NoMemory cuts = λ e. absurd (cc e)
  is_heard PeerEnd cuts = absurd cuts
  is_heard ReadFault cuts = absurd cuts

  took : Consumes old.reading.left new.reading.left (take n into)
  took = subst (λ (r : Reading). Consumes old.reading.left r.left (take n into)) (sym same) read.takes.2

  pub taken : Feeds (take n into) (Ok tt) line left k m mid.writing new.writing → TakesOn true line left k m old new
  taken fed = by (subst (λ (v : Writing). Feeds (take n into) (Ok tt) line left k m v new.writing) written fed)
    where
      by : Feeds (take n into) (Ok tt) line left k m old.writing new.writing → TakesOn true line left k m old new
      by fed = record {
        piece = take n into;
        took = took;
        are_taken = fed.0;
        is_open = fed.1;
        comes = omega (arith, length-take n into, read.takes.0, read.takes.1);
        faults = omega (arith, read.failed.later, ap (λ (x : Reading). x.faults) same);
        quiets = omega (arith, read.quiet.later, ap (λ (x : Reading). x.quiets) same);
        ends = omega (arith, read.ended.later, ap (λ (x : Reading). x.ends) same);
        failed = fed.2;
      }

  pub cut_off : (end : Watched) → Feeds (take n into) (Err end) line left k m mid.writing new.writing → Stops end line k m old new
  cut_off end fed = by (subst (λ (v : Writing). Feeds (take n into) (Err end) line left k m v new.writing) written fed)
    where
      by : Feeds (take n into) (Err end) line left k m old.writing new.writing → Stops end line k m old new
      by fed = record {
        piece = take n into;
        took = took;
        rest = fed.0;
        leaves = fed.1;
        are_taken = fed.2;
        ends = is_end end fed.3;
        heard = is_heard end fed.3;
        cause = cut end fed.3;
      }
