-- What passes over a link in the turns of a session: what was drained is written, and what was read is fed.
use Rattle.std.proofs.Common.{◌≡◌, inl, inr, ◌≤◌, ◌+◌, ℕ, suc, Bool, List, [], ◌∷◌, ◌++◌, Ok, length, length-append, take, append_assoc, append-nil, arith, refl, sym, ◌∙◌, ap, subst, true, false}
use Rattle.std.specs.List.{AllByRecursion}
use Rattle.std.specs.Io.KnownBytes.{Appends, Consumes, Keeps}
use Rattle.std.specs.declared.option.Option.{Option}
use Rattle.std.proofs.KnownBytes.{Appends-nil, Appends-trans, Consumes-nil, Consumes-trans, Consumes-kept}
use Rattle.std.proofs.lemmas.List.{take_all}
use Rattle.std.proofs.lemmas.List.Concat.{flat_map-append}
use Rattle.dom_edge.specs.Streams.{Reading, Writing, IsRead}
use Rattle.dom_edge.specs.Whole.{AppendsSome}
use Rattle.dom_edge.specs.declared.stream.Got.{Got}
use Rattle.dom_edge.specs.declared.stream.Got.TheVariants as got
use Rattle.network_links.specs.declared.rest.Rest.TheVariants.{Messages}
use Rattle.plant_model.specs.declared.event.Event.{Event}
use Rattle.plant_model.specs.declared.event.Event.TheVariants.{Open, Feed, Take}
use Rattle.plant_model.specs.declared.outcome.Refused.{Refused}
use Rattle.plant_model.specs.declared.outcome.Refused.TheVariants.{NoMemory as NoRoom}
use Rattle.server_loops.specs.Desks.{Call, call}
use Rattle.dom_edge.specs.Heeding.{Sides}
use Rattle.server_loops.specs.Sessions.{bytes_of, drained, drained_by, fed, fed_by, joined, refused, IsDrained, HasRead, IsFed, EndsTakes, IsLastTake, IsTake, AreTakes, IsTurn, AreTurns, IsRefused, Last, IsShut, Makes, Writes, Feeds}
use Rattle.server_loops.specs.declared.sessions.Ended.{Ended}
use Rattle.server_loops.specs.declared.sessions.Ended.TheVariants.{Closed, PeerEnd, ReadFault, WriteFault, Turns, NotOpened, Lost, Spent, NoMemory}

-- ---- lists

pub drained_on : (a b : List Call) → drained (a ++ b) ≡ drained a ++ drained b
drained_on a b = flat_map-append (λ (c : Call). drained_by c.event c.answer) a b

pub fed_on : (a b : List Call) → fed (a ++ b) ≡ fed a ++ fed b
fed_on a b = flat_map-append (λ (c : Call). fed_by c.event) a b

-- ---- parts of a turn

-- Takes drain and feed nothing
module _ (peer : ℕ) where
  accepted_drain : (takes : List Call) → AllByRecursion (IsTake peer Messages) takes → drained takes ≡ []
  accepted_drain [] each = refl
  accepted_drain (c ∷ cs) each = ap (λ (e : Event). drained_by e c.answer ++ drained cs) each.0.accepted.event ∙ accepted_drain cs each.1

  accepted_feed : (takes : List Call) → AllByRecursion (IsTake peer Messages) takes → fed takes ≡ []
  accepted_feed [] each = refl
  accepted_feed (c ∷ cs) each = ap (λ (e : Event). fed_by e ++ fed cs) each.0.accepted.event ∙ accepted_feed cs each.1

  last_event : (c : Call) → IsLastTake peer c → c.event ≡ Take peer
  last_event c (inl is) = ap (λ (x : Call). x.event) is.1
  last_event c (inr is) = is.2.accepted.event

  last_drains : (count : ℕ) (last : List Call) → EndsTakes peer count last → drained last ≡ []
  last_drains count last (inl is) = ap drained is.1
  last_drains count last (inr is) = ap drained is.1.2 ∙ ap (λ (e : Event). drained_by e is.1.0.answer ++ []) (last_event is.1.0 is.1.1)

  last_feeds : (count : ℕ) (last : List Call) → EndsTakes peer count last → fed last ≡ []
  last_feeds count last (inl is) = ap fed is.1
  last_feeds count last (inr is) = ap fed is.1.2 ∙ ap (λ (e : Event). fed_by e ++ []) (last_event is.1.0 is.1.1)

  takes_drain : (takes : List Call) → AreTakes peer takes → drained takes ≡ []
  takes_drain takes are =
      ap drained are.is ∙ drained_on are.taken are.last ∙ ap (λ (xs : List ℕ). xs ++ drained are.last) (accepted_drain are.taken are.each) ∙ last_drains (length are.taken) are.last are.ends

  takes_feed : (takes : List Call) → AreTakes peer takes → fed takes ≡ []
  takes_feed takes are =
      ap fed are.is ∙ fed_on are.taken are.last ∙ ap (λ (xs : List ℕ). xs ++ fed are.last) (accepted_feed are.taken are.each) ∙ last_feeds (length are.taken) are.last are.ends

  feeds_drain : (answer : Got) (into : List ℕ) (feeds : List Call) → IsFed peer answer into feeds → drained feeds ≡ []
  feeds_drain (got.Bytes n) into feeds is = ap drained is.1
  feeds_drain got.Quiet into feeds is = ap drained is
  feeds_drain got.End into feeds never = absurd never
  feeds_drain got.Failed into feeds never = absurd never

  feeds_feed : (old new : Reading) (answer : Got) (into : List ℕ) (feeds : List Call) → IsRead old new answer into → IsFed peer answer into feeds → Consumes old.left new.left (fed feeds)
  feeds_feed old new (got.Bytes n) into feeds read is =
      subst (Consumes old.left new.left) (sym (append-nil (take n into)) ∙ sym (ap fed is.1)) read.takes.2
  feeds_feed old new got.Quiet into feeds read is =
      subst (Consumes old.left new.left) (sym (ap fed is)) (Consumes-kept old.left old.left new.left [] (Consumes-nil old.left) read.takes)
  feeds_feed old new got.End into feeds read never = absurd never
  feeds_feed old new got.Failed into feeds read never = absurd never

module _ (peer holder : ℕ) where
  first_drains : (ended : Bool) (first : Call) (old new : Writing) → IsDrained peer holder ended first old new → Appends old.written new.written (drained (first ∷ []))
  first_drains ended first old new is =
      subst (Appends old.written new.written) (sym (append-nil (bytes_of is.outcome)) ∙ sym (ap (λ (c : Call). drained (c ∷ [])) is.is)) is.written

  first_feeds : (ended : Bool) (first : Call) (old new : Writing) → IsDrained peer holder ended first old new → fed (first ∷ []) ≡ []
  first_feeds ended first old new is = ap (λ (c : Call). fed (c ∷ [])) is.is

  -- ---- a whole turn

  module _ (calls : List Call) (old new : Sides) (t : IsTurn peer holder calls old new) where
    pub turn_writes : Appends old.writing.written new.writing.written (drained calls)
    turn_writes =
        let rest : drained (t.feeds ++ t.takes) ≡ [] =
        drained_on t.feeds t.takes ∙ ap (λ (xs : List ℕ). xs ++ drained t.takes) (feeds_drain peer t.answer t.into t.feeds t.is_fed) ∙ takes_drain peer t.takes t.are_takes in
        let all : drained calls ≡ drained (t.first ∷ []) =
        ap drained t.is ∙ drained_on (t.first ∷ []) (t.feeds ++ t.takes) ∙ ap (λ (xs : List ℕ). drained (t.first ∷ []) ++ xs) rest ∙ append-nil (drained (t.first ∷ [])) in
        subst (Appends old.writing.written new.writing.written) (sym all) (first_drains false t.first old.writing new.writing t.has_read.drained)

    pub turn_feeds : Consumes old.reading.left new.reading.left (fed calls)
    turn_feeds =
        let all : fed calls ≡ fed t.feeds =
        ap fed t.is ∙ fed_on (t.first ∷ []) (t.feeds ++ t.takes) ∙ ap (λ (xs : List ℕ). xs ++ fed (t.feeds ++ t.takes)) (first_feeds false t.first old.writing new.writing t.has_read.drained)
        ∙ fed_on t.feeds t.takes ∙ ap (λ (xs : List ℕ). fed t.feeds ++ xs) (takes_feed peer t.takes t.are_takes) ∙ append-nil (fed t.feeds) in
        subst (Consumes old.reading.left new.reading.left) (sym all) (feeds_feed peer old.reading new.reading t.answer t.into t.feeds t.has_read.read t.is_fed)

-- the counts of a link do not fall
pub record IsLater (old new : Sides) : Type 0 where
  pub faults : old.reading.faults ≤ new.reading.faults
  pub ends : old.reading.ends ≤ new.reading.ends
  pub write_faults : old.writing.faults ≤ new.writing.faults

module _ (peer holder : ℕ) where
  read_later : (answer : Got) (into : List ℕ) (first : Call) (old new : Sides) → HasRead peer holder answer into first old new → IsLater old new
  read_later answer into first old new has = record { faults = has.read.failed.later; ends = has.read.ended.later; write_faults = has.drained.later }

  -- ---- turns

  pub turns_write : (turns : List (List Call)) (old new : Sides) → AreTurns peer holder turns old new → Appends old.writing.written new.writing.written (drained (joined turns))
  turns_write [] old new same = rw same (Appends-nil old.writing.written)
  turns_write (turn ∷ turns) old new are =
      subst (Appends old.writing.written new.writing.written) (sym (drained_on turn (joined turns)))
      (Appends-trans old.writing.written are.0.writing.written new.writing.written (drained turn) (drained (joined turns)) (turn_writes peer holder turn old are.0 are.1) (turns_write turns are.0 new are.2))

  pub turns_feed : (turns : List (List Call)) (old new : Sides) → AreTurns peer holder turns old new → Consumes old.reading.left new.reading.left (fed (joined turns))
  turns_feed [] old new same = rw same (Consumes-nil old.reading.left)
  turns_feed (turn ∷ turns) old new are =
      subst (Consumes old.reading.left new.reading.left) (sym (fed_on turn (joined turns)))
      (Consumes-trans old.reading.left are.0.reading.left new.reading.left (fed turn) (fed (joined turns)) (turn_feeds peer holder turn old are.0 are.1) (turns_feed turns are.0 new are.2))

  pub turns_later : (turns : List (List Call)) (old new : Sides) → AreTurns peer holder turns old new → IsLater old new
  turns_later [] old new same = rw same (record { faults = omega arith; ends = omega arith; write_faults = omega arith })
  turns_later (turn ∷ turns) old new are =
      let first = read_later are.1.answer are.1.into are.1.first old are.0 are.1.has_read in
      let rest = turns_later turns are.0 new are.2 in
      record { faults = omega (arith, first.faults, rest.faults); ends = omega (arith, first.ends, rest.ends); write_faults = omega (arith, first.write_faults, rest.write_faults) }

  -- ---- the last turn

  stop_drains : (answer : Got) (into : List ℕ) (first : Call) (calls : List Call) (old new : Sides) → HasRead peer holder answer into first old new → calls ≡ first ∷ [] →
      Appends old.writing.written new.writing.written (drained calls)
  stop_drains answer into first calls old new has is = rw is (first_drains peer holder false first old.writing new.writing has.drained)

  refused_writes : (why : Refused) (calls : List Call) (old new : Sides) → IsRefused peer holder why calls old new → Appends old.writing.written new.writing.written (drained calls)
  refused_writes why calls old new (inl is) = rw (is.1, is.0) (Appends-nil old.writing.written)
  refused_writes why calls old new (inr r) =
      let feed = refused (Feed peer (take r.count r.into)) why ∷ [] in
      subst (Appends old.writing.written new.writing.written) (sym (ap drained r.is ∙ drained_on (r.first ∷ []) feed ∙ append-nil (drained (r.first ∷ []))))
      (first_drains peer holder false r.first old.writing new.writing r.has_read.drained)

  last_writes : (end : Ended) (calls : List Call) (old new : Sides) → Last peer holder end calls old new → Writes end old.writing new.writing (drained calls)
  last_writes Closed calls old new l = rw l.3 (first_drains peer holder true l.0 old.writing new.writing l.1)
  last_writes PeerEnd calls old new l = stop_drains got.End l.1 l.0 calls old new l.2 l.3
  last_writes ReadFault calls old new l = stop_drains got.Failed l.1 l.0 calls old new l.2 l.3
  last_writes WriteFault calls old new l =
      subst (AppendsSome old.writing.written new.writing.written) (sym (append-nil (bytes_of l.outcome)) ∙ sym (ap drained l.is)) l.written
  last_writes Turns calls old new l = rw (l.1, l.0) (Appends-nil old.writing.written)
  last_writes NotOpened calls old new never = absurd never
  last_writes (Lost why) calls old new l = refused_writes why calls old new l.1
  last_writes (Spent t) calls old new never = absurd never
  last_writes NoMemory calls old new (inl r) = refused_writes NoRoom calls old new r
  last_writes NoMemory calls old new (inr (inl l)) = stop_drains (got.Bytes l.0) l.1.1 l.1.0 calls old new l.1.2 l.1.3
  last_writes NoMemory calls old new (inr (inr l)) = rw (l.1, l.0) (Appends-nil old.writing.written)

  stop_feeds : (answer : Got) (into : List ℕ) (first : Call) (calls : List Call) (old new : Sides) → HasRead peer holder answer into first old new → calls ≡ first ∷ [] → fed calls ≡ []
  stop_feeds answer into first calls old new has is = ap fed is ∙ first_feeds peer holder false first old.writing new.writing has.drained

  -- what was read stands behind what was fed
  kept_feeds : (calls : List Call) (old new : Reading) → fed calls ≡ [] → Keeps old.left new.left → Consumes old.left new.left (fed calls)
  kept_feeds calls old new none keeps = rw none (Consumes-kept old.left old.left new.left [] (Consumes-nil old.left) keeps)

  same_feeds : (calls : List Call) (old new : Reading) → fed calls ≡ [] → new ≡ old → Consumes old.left new.left (fed calls)
  same_feeds calls old new none same = rw (none, same) (Consumes-nil old.left)

  refused_feeds : (why : Refused) (calls : List Call) (old new : Sides) → IsRefused peer holder why calls old new → Consumes old.reading.left new.reading.left (fed calls)
  refused_feeds why calls old new (inl is) = rw (is.1, is.0) (Consumes-nil old.reading.left)
  refused_feeds why calls old new (inr r) =
      let piece = take r.count r.into in
      let feed = refused (Feed peer piece) why ∷ [] in
      let all : fed calls ≡ piece =
      ap fed r.is ∙ fed_on (r.first ∷ []) feed ∙ ap (λ (xs : List ℕ). xs ++ fed feed) (first_feeds peer holder false r.first old.writing new.writing r.has_read.drained) ∙ append-nil piece in
      subst (Consumes old.reading.left new.reading.left) (sym all) r.has_read.read.takes.2

  unread : (calls : List Call) (old new : Reading) → Consumes old.left new.left (fed calls) → Feeds NoMemory old new (fed calls)
  unread calls old new all = ([], rw (append-nil (fed calls)) all)

  last_feed : (end : Ended) (calls : List Call) (old new : Sides) → Last peer holder end calls old new → Feeds end old.reading new.reading (fed calls)
  last_feed Closed calls old new l = same_feeds calls old.reading new.reading (ap fed l.3 ∙ first_feeds peer holder true l.0 old.writing new.writing l.1) l.2
  last_feed PeerEnd calls old new l = kept_feeds calls old.reading new.reading (stop_feeds got.End l.1 l.0 calls old new l.2 l.3) l.2.read.takes.0
  last_feed ReadFault calls old new l = kept_feeds calls old.reading new.reading (stop_feeds got.Failed l.1 l.0 calls old new l.2 l.3) l.2.read.takes
  last_feed WriteFault calls old new l = same_feeds calls old.reading new.reading (ap fed l.is) l.reading
  last_feed Turns calls old new l = rw (l.1, l.0) (Consumes-nil old.reading.left)
  last_feed NotOpened calls old new never = absurd never
  last_feed (Lost why) calls old new l = refused_feeds why calls old new l.1
  last_feed (Spent t) calls old new never = absurd never
  last_feed NoMemory calls old new (inl r) = unread calls old.reading new.reading (refused_feeds NoRoom calls old new r)
  last_feed NoMemory calls old new (inr (inl l)) =
      (take l.0 l.1.1, rw (stop_feeds (got.Bytes l.0) l.1.1 l.1.0 calls old new l.1.2 l.1.3) l.1.2.read.takes.2)
  last_feed NoMemory calls old new (inr (inr l)) = unread calls old.reading new.reading (rw (l.1, l.0) (Consumes-nil old.reading.left))

  -- ---- behind the turns before it

  shut_passes : (end : Ended) (shut : List Call) → IsShut peer end shut → (drained shut ≡ []) × (fed shut ≡ [])
  shut_passes (Lost why) shut is = (ap drained is, ap fed is)
  shut_passes Closed shut is = (ap drained is.1, ap fed is.1)
  shut_passes PeerEnd shut is = (ap drained is.1, ap fed is.1)
  shut_passes ReadFault shut is = (ap drained is.1, ap fed is.1)
  shut_passes WriteFault shut is = (ap drained is.1, ap fed is.1)
  shut_passes Turns shut is = (ap drained is.1, ap fed is.1)
  shut_passes NotOpened shut is = (ap drained is.1, ap fed is.1)
  shut_passes (Spent t) shut is = (ap drained is.1, ap fed is.1)
  shut_passes NoMemory shut is = (ap drained is.1, ap fed is.1)

take_over : (a b : List ℕ) (n : ℕ) → take (length a + n) (a ++ b) ≡ a ++ take n b
take_over [] b n = let e : 0 + n ≡ n = omega arith in rw e refl
take_over (x ∷ xs) b n = let e : suc (length xs) + n ≡ suc (length xs + n) = omega arith in rw e (ap (λ (ys : List ℕ). x ∷ ys) (take_over xs b n))

pub whole_is_some : (old new : Option (List ℕ)) (bytes : List ℕ) → Appends old new bytes → AppendsSome old new bytes
whole_is_some old new bytes all = record { count = length bytes; within = omega arith; added = rw (take_all (length bytes) bytes (omega arith)) all }

module _ (old mid new : Writing) (a b : List ℕ) (first : Appends old.written mid.written a) where
  part_on : AppendsSome mid.written new.written b → AppendsSome old.written new.written (a ++ b)
  part_on some = record {
    count = length a + some.count;
    within = rw (length-append a b) (omega (arith, some.within));
    added = rw (take_over a b some.count) (Appends-trans old.written mid.written new.written a (take some.count b) first some.added);
  }

  all_on : Appends mid.written new.written b → Appends old.written new.written (a ++ b)
  all_on second = Appends-trans old.written mid.written new.written a b first second

  writes_on : (end : Ended) → Writes end mid new b → Writes end old new (a ++ b)
  writes_on Closed w = all_on w
  writes_on PeerEnd w = all_on w
  writes_on ReadFault w = all_on w
  writes_on WriteFault w = part_on w
  writes_on Turns w = all_on w
  writes_on NotOpened w = all_on w
  writes_on (Lost why) w = all_on w
  writes_on (Spent t) w = part_on w
  writes_on NoMemory w = all_on w

module _ (old mid new : Reading) (a b : List ℕ) (first : Consumes old.left mid.left a) where
  fed_all : Consumes mid.left new.left b → Consumes old.left new.left (a ++ b)
  fed_all second = Consumes-trans old.left mid.left new.left a b first second

  fed_some : (piece : List ℕ) → Consumes mid.left new.left (b ++ piece) → Consumes old.left new.left ((a ++ b) ++ piece)
  fed_some piece second = rw (append_assoc a b piece) (Consumes-trans old.left mid.left new.left a (b ++ piece) first second)

  feeds_on : (end : Ended) → Feeds end mid new b → Feeds end old new (a ++ b)
  feeds_on Closed f = fed_all f
  feeds_on PeerEnd f = fed_all f
  feeds_on ReadFault f = fed_all f
  feeds_on WriteFault f = fed_all f
  feeds_on Turns f = fed_all f
  feeds_on NotOpened f = fed_all f
  feeds_on (Lost why) f = fed_all f
  feeds_on (Spent t) f = (f.0, fed_some f.0 f.1)
  feeds_on NoMemory f = (f.0, fed_some f.0 f.1)

-- ---- a session

module _ (peer holder turns : ℕ) (end : Ended) (made : List Call) (old new : Sides) (m : Makes peer holder turns end made old new) where
  abbrev open_call : Call
  open_call = call (Open peer holder) (Ok m.opened)

  makes_drain : drained made ≡ drained (joined m.whole) ++ drained m.last
  makes_drain =
      ap drained m.is ∙ drained_on (joined m.whole) (m.last ++ m.shut) ∙ ap (λ (xs : List ℕ). drained (joined m.whole) ++ xs)
      (drained_on m.last m.shut ∙ ap (λ (xs : List ℕ). drained m.last ++ xs) (shut_passes peer holder end m.shut m.is_shut).0 ∙ append-nil (drained m.last))

  makes_feed : fed made ≡ fed (joined m.whole) ++ fed m.last
  makes_feed =
      ap fed m.is ∙ fed_on (joined m.whole) (m.last ++ m.shut) ∙ ap (λ (xs : List ℕ). fed (joined m.whole) ++ xs)
      (fed_on m.last m.shut ∙ ap (λ (xs : List ℕ). fed m.last ++ xs) (shut_passes peer holder end m.shut m.is_shut).1 ∙ append-nil (fed m.last))

  pub makes_write : Writes end old.writing new.writing (drained made)
  makes_write =
      subst (Writes end old.writing new.writing) (sym makes_drain)
      (writes_on old.writing m.mid.writing new.writing (drained (joined m.whole)) (drained m.last) (turns_write peer holder m.whole old m.mid m.are_turns) end
      (last_writes peer holder end m.last m.mid new m.is_last))

  pub makes_fed : Feeds end old.reading new.reading (fed made)
  makes_fed =
      subst (Feeds end old.reading new.reading) (sym makes_feed)
      (feeds_on old.reading m.mid.reading new.reading (fed (joined m.whole)) (fed m.last) (turns_feed peer holder m.whole old m.mid m.are_turns) end
      (last_feed peer holder end m.last m.mid new m.is_last))
