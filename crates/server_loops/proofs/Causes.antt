-- Why a session ends, and what passed over its link by then.
use Rattle.std.proofs.Common.{◌≡◌, inl, inr, ◌≤◌, ℕ, List, [], ◌++◌, None, Some, append_assoc, append-nil, arith, refl, ◌∙◌, ap, subst}
use Rattle.std.specs.Io.KnownBytes.{Appends, Consumes, Keeps, IsAtEnd}
use Rattle.std.specs.declared.option.Option.{Option}
use Rattle.std.proofs.KnownBytes.{Appends-nil, Consumes-nil}
use Rattle.dom_edge.specs.Causes.{Rose}
use Rattle.dom_edge.specs.Streams.{Reading, Writing}
use Rattle.dom_edge.specs.Whole.{AppendsSome}
use Rattle.plant_model.specs.declared.outcome.Refused.{Refused}
use Rattle.plant_model.specs.declared.outcome.Refused.TheVariants.{NoSuchPeer, NoMemory as NoRoom}
use Rattle.server_loops.specs.Desks.{Call}
use Rattle.dom_edge.specs.Heeding.{Sides}
use Rattle.server_loops.specs.Sessions.{drained, fed, Makes, Runs, IsUnopened, IsCutOff, IsSession, Writes, Feeds, HasCauses, IsReadOut, joined}
use Rattle.server_loops.specs.declared.sessions.Ended.{Ended}
use Rattle.server_loops.specs.declared.sessions.Ended.TheVariants.{Closed, PeerEnd, ReadFault, WriteFault, Turns, NotOpened, Lost, Spent, NoMemory}
use Rattle.server_loops.proofs.Passing.{drained_on, fed_on, turns_later, turns_feed, makes_write, makes_fed, whole_is_some}

-- ---- counts

rose_before : (old mid new : ℕ) → old ≤ mid → Rose mid new → Rose old new
rose_before old mid new less rose = omega (arith, less, rose)

read_out : (old mid new : Option (List ℕ)) (bytes : List ℕ) → Consumes old mid bytes → Keeps mid new → IsAtEnd mid → IsReadOut old new
read_out None mid new bytes took keeps end = tt
read_out (Some xs) None new bytes took keeps end = absurd took
read_out (Some xs) (Some ys) None bytes took keeps end = absurd keeps
read_out (Some xs) (Some ys) (Some zs) bytes took keeps end = ap (λ (bs : List ℕ). Some bs) (keeps ∙ end)

module _ (peer holder turns : ℕ) (made : List Call) (old new : Sides) where
  pub makes_cause : (end : Ended) → Makes peer holder turns end made old new → HasCauses end old new
  makes_cause PeerEnd m =
      let later = turns_later peer holder m.whole old m.mid m.are_turns in
      let read = m.is_last.2.read in (
        rose_before old.reading.ends m.mid.reading.ends new.reading.ends later.ends (read.ended.failed refl),
        read_out old.reading.left m.mid.reading.left new.reading.left (fed (joined m.whole)) (turns_feed peer holder m.whole old m.mid m.are_turns) read.takes.0 read.takes.1,
      )
  makes_cause ReadFault m =
      let later = turns_later peer holder m.whole old m.mid m.are_turns in
      rose_before old.reading.faults m.mid.reading.faults new.reading.faults later.faults (m.is_last.2.read.failed.failed refl)
  makes_cause WriteFault m =
      let later = turns_later peer holder m.whole old m.mid m.are_turns in
      rose_before old.writing.faults m.mid.writing.faults new.writing.faults later.write_faults m.is_last.failed
  makes_cause Closed m = tt
  makes_cause Turns m = tt
  makes_cause NotOpened m = tt
  makes_cause (Lost why) m = tt
  makes_cause (Spent t) m = tt
  makes_cause NoMemory m = tt

-- ---- an Open that was refused

unopened_writes : (peer holder : ℕ) (why : Refused) (made : List Call) (old new : Sides) → IsUnopened peer holder why made old new → Appends old.writing.written new.writing.written (drained made)
unopened_writes peer holder why made old new is = rw (is.1, is.0) (Appends-nil old.writing.written)

unopened_feeds : (peer holder : ℕ) (why : Refused) (made : List Call) (old new : Sides) → IsUnopened peer holder why made old new → Consumes old.reading.left new.reading.left (fed made)
unopened_feeds peer holder why made old new is = rw (is.1, is.0) (Consumes-nil old.reading.left)

-- ---- any end

-- what a session leaves of what it was to write and to feed, and why it ended
pub record Passes (end : Ended) (made : List Call) (old new : Sides) : Type 0 where
  pub written : Writes end old.writing new.writing (drained made)
  pub fed : Feeds end old.reading new.reading (fed made)
  pub causes : HasCauses end old new

module _ (peer holder turns : ℕ) (made : List Call) (old new : Sides) where
  makes_pass : (end : Ended) → Makes peer holder turns end made old new → Passes end made old new
  makes_pass end m = record {
    written = makes_write peer holder turns end made old new m;
    fed = makes_fed peer holder turns end made old new m;
    causes = makes_cause peer holder turns made old new end m;
  }

  pub run_passes : (end : Ended) → Runs peer holder turns end made old new → Passes end made old new
  run_passes Closed m = makes_pass Closed m
  run_passes PeerEnd m = makes_pass PeerEnd m
  run_passes ReadFault m = makes_pass ReadFault m
  run_passes WriteFault m = makes_pass WriteFault m
  run_passes Turns m = makes_pass Turns m
  run_passes NotOpened is =
      record { written = unopened_writes peer holder NoSuchPeer made old new is; fed = unopened_feeds peer holder NoSuchPeer made old new is; causes = tt }
  run_passes (Lost why) (inl is) =
      record { written = unopened_writes peer holder why made old new is.2; fed = unopened_feeds peer holder why made old new is.2; causes = tt }
  run_passes (Lost why) (inr m) = makes_pass (Lost why) m
  run_passes (Spent t) never = absurd never
  run_passes NoMemory (inl is) = record {
    written = unopened_writes peer holder NoRoom made old new is;
    fed = ([], rw (append-nil (fed made)) (unopened_feeds peer holder NoRoom made old new is));
    causes = tt;
  }
  run_passes NoMemory (inr m) = makes_pass NoMemory m

some_written : (end : Ended) (old new : Writing) (bytes : List ℕ) → Writes end old new bytes → AppendsSome old.written new.written bytes
some_written Closed old new bytes w = whole_is_some old.written new.written bytes w
some_written PeerEnd old new bytes w = whole_is_some old.written new.written bytes w
some_written ReadFault old new bytes w = whole_is_some old.written new.written bytes w
some_written WriteFault old new bytes w = w
some_written Turns old new bytes w = whole_is_some old.written new.written bytes w
some_written NotOpened old new bytes w = whole_is_some old.written new.written bytes w
some_written (Lost why) old new bytes w = whole_is_some old.written new.written bytes w
some_written (Spent t) old new bytes w = w
some_written NoMemory old new bytes w = whole_is_some old.written new.written bytes w

some_fed : (end : Ended) (old new : Reading) (bytes : List ℕ) → Feeds end old new bytes → Feeds NoMemory old new bytes
some_fed Closed old new bytes f = ([], rw (append-nil bytes) f)
some_fed PeerEnd old new bytes f = ([], rw (append-nil bytes) f)
some_fed ReadFault old new bytes f = ([], rw (append-nil bytes) f)
some_fed WriteFault old new bytes f = ([], rw (append-nil bytes) f)
some_fed Turns old new bytes f = ([], rw (append-nil bytes) f)
some_fed NotOpened old new bytes f = ([], rw (append-nil bytes) f)
some_fed (Lost why) old new bytes f = ([], rw (append-nil bytes) f)
some_fed (Spent t) old new bytes f = f
some_fed NoMemory old new bytes f = f

module _ (peer holder turns : ℕ) (made : List Call) (old new : Sides) where
  cut_passes : (t : ℕ) → IsCutOff peer holder turns made old new → Passes (Spent t) made old new
  cut_passes t cut =
      let p = run_passes peer holder turns (made ++ cut.rest) old new cut.end cut.runs in
      let written = some_written cut.end old.writing new.writing (drained (made ++ cut.rest)) p.written in
      let more = some_fed cut.end old.reading new.reading (fed (made ++ cut.rest)) p.fed in
      let none : drained (made ++ cut.rest) ≡ drained made =
      drained_on made cut.rest ∙ ap (λ (xs : List ℕ). drained made ++ xs) cut.nothing ∙ append-nil (drained made) in
      let all : fed (made ++ cut.rest) ++ more.0 ≡ fed made ++ (fed cut.rest ++ more.0) =
      ap (λ (xs : List ℕ). xs ++ more.0) (fed_on made cut.rest) ∙ append_assoc (fed made) (fed cut.rest) more.0 in
      record {
        written = subst (AppendsSome old.writing.written new.writing.written) none written;
        fed = (fed cut.rest ++ more.0, subst (Consumes old.reading.left new.reading.left) all more.1);
        causes = tt;
      }

  pub session_passes : (end : Ended) → IsSession peer holder turns end made old new → Passes end made old new
  session_passes Closed r = run_passes peer holder turns made old new Closed r
  session_passes PeerEnd r = run_passes peer holder turns made old new PeerEnd r
  session_passes ReadFault r = run_passes peer holder turns made old new ReadFault r
  session_passes WriteFault r = run_passes peer holder turns made old new WriteFault r
  session_passes Turns r = run_passes peer holder turns made old new Turns r
  session_passes NotOpened r = run_passes peer holder turns made old new NotOpened r
  session_passes (Lost why) r = run_passes peer holder turns made old new (Lost why) r
  session_passes (Spent t) cut = cut_passes t cut
  session_passes NoMemory r = run_passes peer holder turns made old new NoMemory r
