-- The parts of a turn.
use Rattle.std.proofs.Common.{◌≡◌, ◌≢◌, inl, inr, ◌<◌, ◌+◌, ℕ, List, [], ◌∷◌, ◌++◌, None, Ok, Err, length, length-append, take, append_assoc, append-nil, arith, refl, sym, ◌∙◌, ap, subst, false, Bool, true}
use Rattle.std.specs.List.{AllByRecursion}
use Rattle.std.specs.declared.result.Result.{Result}
use Rattle.dom_edge.specs.Streams.{Reading, Writing, IsRead}
use Rattle.dom_edge.specs.declared.stream.Got.{Got}
use Rattle.dom_edge.specs.declared.stream.Got.TheVariants as got
use Rattle.network_links.specs.declared.rest.Rest.{Rest}
use Rattle.network_links.specs.declared.rest.Rest.TheVariants.{Messages}
use Rattle.plant_model.specs.declared.event.Event.TheVariants.{Feed, Take, Drain}
use Rattle.plant_model.specs.declared.outcome.Outcome.TheVariants.{Drained}
use Rattle.plant_model.specs.declared.outcome.Refused.{Refused}
use Rattle.plant_model.specs.declared.outcome.Refused.TheVariants.{NoSuchPeer, NoMemory as NoRoom}
use Rattle.server_loops.specs.Desks.{Call, Desked, Goes, Takes, call, call_telling}
use Rattle.dom_edge.specs.Heeding.{Sides, sides}
use Rattle.server_loops.specs.Sessions.{refused, AreTakes, IsDrained, HasRead, IsFed, IsLastTake, IsTake, IsTurn, IsRefused}
use Rattle.server_loops.specs.Steps.{IsHandedOn, IsEndOf, IsCut, Drains, IsHanded, IsTaken, IsReceived, IsTurned, FailsToFeed, AreCutTakes}
use Rattle.server_loops.specs.declared.desks.DeskRefused.{DeskRefused}
use Rattle.server_loops.specs.declared.desks.DeskRefused.TheVariants as desk
use Rattle.server_loops.specs.declared.sessions.Ended.{Ended}
use Rattle.server_loops.specs.declared.sessions.Ended.TheVariants.{Closed, PeerEnd, ReadFault, WriteFault, Turns, NotOpened, Lost, Spent, NoMemory}

-- ---- calls one behind the other

pub on : (old mid new : Desked) (a b : List Call) → mid.calls ≡ old.calls ++ a → new.calls ≡ mid.calls ++ b → new.calls ≡ old.calls ++ (a ++ b)
on old mid new a b first second = second ∙ ap (λ (cs : List Call). cs ++ b) first ∙ append_assoc old.calls a b

pub all_on : {A : Type 0} (P : A → Type 0) (xs ys : List A) → AllByRecursion P xs → AllByRecursion P ys → AllByRecursion P (xs ++ ys)
all_on P [] ys first second = second
all_on P (x ∷ xs) ys first second = (first.0, all_on P xs ys first.1 second)

-- ---- the Drain

pub drain_refused : (peer holder : ℕ) (old new : Desked) (s : Sides) (why : DeskRefused) (end : Ended) → Goes old new (Drain peer holder) (Err why) → IsEndOf why end →
    Drains peer holder (Err end) old new s s
drain_refused peer holder old new s (desk.Plant why) end goes (inl is) =
    subst (λ (e : Ended). Drains peer holder (Err e) old new s s) (sym is.1)
    (record {
      made = refused (Drain peer holder) why ∷ [];
      calls = goes.calls;
      ends = (inl (inl (ap (λ (r : Refused). refused (Drain peer holder) r ∷ []) is.0, refl)), goes.spent);
    })
drain_refused peer holder old new s (desk.Plant why) end goes (inr is) =
    subst (λ (e : Ended). Drains peer holder (Err e) old new s s) (sym is.1)
    (record { made = refused (Drain peer holder) why ∷ []; calls = goes.calls; ends = ((is.0, inl (refl, refl)), goes.spent) })
drain_refused peer holder old new s (desk.Spent t) end goes is =
    subst (λ (e : Ended). Drains peer holder (Err e) old new s s) (sym is)
    (record { made = []; calls = goes.calls; ends = ((refused (Drain peer holder) NoSuchPeer ∷ [], refl, inl (inl (refl, refl))), goes.spent) })

-- a Drain that was accepted, and what it handed out
drained_by : (peer holder : ℕ) (old new : Desked) (r : Reading) (w0 w1 : Writing) (bytes : List ℕ) (ended : Bool) (result : Result (Unit {0}) Ended) → Goes old new (Drain peer holder) (Ok (Drained bytes ended)) → IsHandedOn bytes ended result w0 w1 →
    Drains peer holder result old new (sides r w0) (sides r w1)
drained_by peer holder old new r w0 w1 bytes ended (Ok u) goes is =
    let first = call (Drain peer holder) (Ok (Drained bytes ended)) in
    let whole : IsDrained peer holder false first w0 w1 = record { outcome = Drained bytes ended; is = refl; says = is.0; written = is.1; later = is.2 } in
    record { made = first ∷ []; calls = goes.calls; ends = ((first, whole, refl), goes.spent) }
drained_by peer holder old new r w0 w1 bytes ended (Err Closed) goes is =
    let first = call (Drain peer holder) (Ok (Drained bytes ended)) in
    let whole : IsDrained peer holder true first w0 w1 = record { outcome = Drained bytes ended; is = refl; says = is.0; written = is.1; later = is.2 } in
    record { made = first ∷ []; calls = goes.calls; ends = ((first, whole, refl, refl), goes.spent) }
drained_by peer holder old new r w0 w1 bytes ended (Err WriteFault) goes is = record {
  made = call (Drain peer holder) (Ok (Drained bytes ended)) ∷ [];
  calls = goes.calls;
  ends = (record { outcome = Drained bytes ended; is = refl; written = is.0; failed = is.1; reading = refl }, goes.spent);
}
drained_by peer holder old new r w0 w1 bytes ended (Err PeerEnd) goes never = absurd never
drained_by peer holder old new r w0 w1 bytes ended (Err ReadFault) goes never = absurd never
drained_by peer holder old new r w0 w1 bytes ended (Err Turns) goes never = absurd never
drained_by peer holder old new r w0 w1 bytes ended (Err NotOpened) goes never = absurd never
drained_by peer holder old new r w0 w1 bytes ended (Err (Lost why)) goes never = absurd never
drained_by peer holder old new r w0 w1 bytes ended (Err (Spent t)) goes never = absurd never
drained_by peer holder old new r w0 w1 bytes ended (Err NoMemory) goes never = absurd never

-- the same where the link's other side is told to stay
pub drained_so : (peer holder : ℕ) (old new : Desked) (r r1 : Reading) (w0 w1 : Writing) (bytes : List ℕ) (ended : Bool) (result : Result (Unit {0}) Ended) → r1 ≡ r → Goes old new (Drain peer holder) (Ok (Drained bytes ended)) →
    IsHandedOn bytes ended result w0 w1 → Drains peer holder result old new (sides r w0) (sides r1 w1)
drained_so peer holder old new r r1 w0 w1 bytes ended result same goes is =
    subst (λ (v : Reading). Drains peer holder result old new (sides r w0) (sides v w1)) (sym same) (drained_by peer holder old new r w0 w1 bytes ended result goes is)

-- ---- Takes

-- so many were accepted so far
pub record IsTaking (peer n : ℕ) (old new : Desked) : Type 0 where
  pub made : List Call
  pub calls : new.calls ≡ old.calls ++ made
  pub each : AllByRecursion (IsTake peer Messages) made
  pub count : length made ≡ n
  pub spent : new.spent ≡ None

pub none_taken : (peer : ℕ) (d : Desked) → d.spent ≡ None → IsTaking peer 0 d d
none_taken peer d unspent = record { made = []; calls = sym (append-nil d.calls); each = tt; count = refl; spent = unspent }

module _ (peer n : ℕ) (old mid new : Desked) (so_far : IsTaking peer n old mid) where
  pub one_taken : Takes mid new peer (Ok Messages) → IsTaking peer (n + 1) old new
  one_taken (o, goes) =
      let last = call_telling (Take peer) (Ok o) Messages ∷ [] in
      record {
        made = so_far.made ++ last;
        calls = on old mid new so_far.made last so_far.calls goes.calls;
        each = all_on (IsTake peer Messages) so_far.made last so_far.each (record { accepted = record { event = refl; accepted = refl }; told = refl }, tt);
        count = length-append so_far.made last ∙ ap (λ k. k + 1) so_far.count;
        spent = goes.spent;
      }

  ended_by : (c : Call) → n < 65536 → IsLastTake peer c → new.calls ≡ mid.calls ++ c ∷ [] → new.spent ≡ None → IsTaken peer (Ok tt) old new
  ended_by c below is_last made spent = record {
    made = so_far.made ++ c ∷ [];
    calls = on old mid new so_far.made (c ∷ []) so_far.calls made;
    ends = (record { taken = so_far.made; each = so_far.each; last = c ∷ []; ends = inr (omega (arith, so_far.count), (c, is_last, refl)); is = refl }, spent);
  }

  pub taken_last : (rest : Rest) → rest ≢ Messages → n < 65536 → Takes mid new peer (Ok rest) → IsTaken peer (Ok tt) old new
  taken_last rest other below (o, goes) =
      ended_by (call_telling (Take peer) (Ok o) rest) below (inr (rest, other, record { accepted = record { event = refl; accepted = refl }; told = refl })) goes.calls goes.spent

  pub taken_until : (why : Refused) → n < 65536 → Takes mid new peer (Err (desk.Plant why)) → IsTaken peer (Ok tt) old new
  taken_until why below goes = ended_by (refused (Take peer) why) below (inl (why, refl)) goes.calls goes.spent

  pub taken_cut : (t : ℕ) → n < 65536 → Takes mid new peer (Err (desk.Spent t)) → IsTaken peer (Err (Spent t)) old new
  taken_cut t below goes = record {
    made = so_far.made;
    calls = goes.calls ∙ append-nil mid.calls ∙ so_far.calls;
    ends = ((so_far.each, omega (arith, so_far.count)), goes.spent);
  }

pub all_taken : (peer : ℕ) (old new : Desked) → IsTaking peer 65536 old new → IsTaken peer (Ok tt) old new
all_taken peer old new are = record {
  made = are.made;
  calls = are.calls;
  ends = (record { taken = are.made; each = are.each; last = []; ends = inl (are.count, refl); is = sym (append-nil are.made) }, are.spent);
}

-- ---- a read and what follows it

module _ (peer : ℕ) (r0 r1 : Reading) (w : Writing) (into : List ℕ) (room : length into ≡ 65536) where
  -- the turn as far as the read
  abbrev has_read : (holder : ℕ) (answer : Got) (first : Call) (w0 : Writing) → IsRead r0 r1 answer into → IsDrained peer holder false first w0 w →
      HasRead peer holder answer into first (sides r0 w0) (sides r1 w)
  has_read holder answer first w0 read is = record { drained = is; read = read; room = room }

  pub at_end : (d : Desked) → d.spent ≡ None → IsRead r0 r1 got.End into → IsReceived peer (Err PeerEnd) d d (sides r0 w) (sides r1 w)
  at_end d unspent read = record {
    made = [];
    calls = sym (append-nil d.calls);
    ends = (λ holder first w0 is. (first, into, has_read holder got.End first w0 read is, refl), unspent);
  }

  pub at_fault : (d : Desked) → d.spent ≡ None → IsRead r0 r1 got.Failed into → IsReceived peer (Err ReadFault) d d (sides r0 w) (sides r1 w)
  at_fault d unspent read = record {
    made = [];
    calls = sym (append-nil d.calls);
    ends = (λ holder first w0 is. (first, into, has_read holder got.Failed first w0 read is, refl), unspent);
  }

  module _ (n : ℕ) (read : IsRead r0 r1 (got.Bytes n) into) where
    abbrev refuses : (holder : ℕ) (why : Refused) (first : Call) (w0 : Writing) → IsDrained peer holder false first w0 w →
        IsRefused peer holder why (first ∷ (refused (Feed peer (take n into)) why ∷ [])) (sides r0 w0) (sides r1 w)
    refuses holder why first w0 is = inr (record { first = first; count = n; into = into; has_read = has_read holder (got.Bytes n) first w0 read is; is = refl })

    unfed_by : (end : Ended) (made : List Call) → FailsToFeed peer (take n into) end made → (holder : ℕ) (first : Call) (w0 : Writing) → IsDrained peer holder false first w0 w →
        IsCut peer holder end (first ∷ made) (sides r0 w0) (sides r1 w)
    unfed_by (Lost why) made fails holder first w0 is = rw fails.1 (fails.0, refuses holder why first w0 is)
    unfed_by NoMemory made (inl none) holder first w0 is = rw none (inr (inl (n, (first, into, has_read holder (got.Bytes n) first w0 read is, refl))))
    unfed_by NoMemory made (inr one) holder first w0 is = rw one (inl (refuses holder NoRoom first w0 is))
    unfed_by (Spent t) made none holder first w0 is = rw none (refused (Feed peer (take n into)) NoSuchPeer ∷ [], refl, inl (refuses holder NoSuchPeer first w0 is))
    unfed_by Closed made never holder first w0 is = absurd never
    unfed_by PeerEnd made never holder first w0 is = absurd never
    unfed_by ReadFault made never holder first w0 is = absurd never
    unfed_by WriteFault made never holder first w0 is = absurd never
    unfed_by Turns made never holder first w0 is = absurd never
    unfed_by NotOpened made never holder first w0 is = absurd never

    pub unfed : (end : Ended) (old new : Desked) → IsHanded peer (take n into) (Err end) old new → IsReceived peer (Err end) old new (sides r0 w) (sides r1 w)
    unfed end old new is = record { made = is.made; calls = is.calls; ends = (unfed_by end is.made is.ends.0, is.ends.1) }

  -- Takes behind a Feed, or where nothing came by now
  module _ (answer : Got) (read : IsRead r0 r1 answer into) (feeds : List Call) (is_fed : IsFed peer answer into feeds) where
    abbrev whole : (holder : ℕ) (first : Call) (w0 : Writing) (takes calls : List Call) → IsDrained peer holder false first w0 w → AreTakes peer takes → calls ≡ first ∷ (feeds ++ takes) →
        IsTurn peer holder calls (sides r0 w0) (sides r1 w)
    whole holder first w0 takes calls is are form = record {
      first = first;
      answer = answer;
      into = into;
      has_read = has_read holder answer first w0 read is;
      feeds = feeds;
      is_fed = is_fed;
      takes = takes;
      are_takes = are;
      is = form;
    }

    cut_takes : (end : Ended) (made : List Call) → AreCutTakes peer end made → (holder : ℕ) (first : Call) (w0 : Writing) → IsDrained peer holder false first w0 w →
        IsCut peer holder end (first ∷ (feeds ++ made)) (sides r0 w0) (sides r1 w)
    cut_takes (Spent t) made are holder first w0 is =
        let last = refused (Take peer) NoSuchPeer ∷ [] in
        let takes : AreTakes peer (made ++ last) = record { taken = made; each = are.0; last = last; ends = inr (are.1, (refused (Take peer) NoSuchPeer, inl (NoSuchPeer, refl), refl)); is = refl } in
        (last, refl, inr (whole holder first w0 (made ++ last) ((first ∷ (feeds ++ made)) ++ last) is takes (ap (λ (cs : List Call). first ∷ cs) (append_assoc feeds made last))))
    cut_takes (Lost why) made never holder first w0 is = absurd never
    cut_takes NoMemory made never holder first w0 is = absurd never
    cut_takes Closed made never holder first w0 is = absurd never
    cut_takes PeerEnd made never holder first w0 is = absurd never
    cut_takes ReadFault made never holder first w0 is = absurd never
    cut_takes WriteFault made never holder first w0 is = absurd never
    cut_takes Turns made never holder first w0 is = absurd never
    cut_takes NotOpened made never holder first w0 is = absurd never

    pub taken : (result : Result (Unit {0}) Ended) (old mid new : Desked) → mid.calls ≡ old.calls ++ feeds → IsTaken peer result mid new → IsReceived peer result old new (sides r0 w) (sides r1 w)
    taken (Ok u) old mid new is are = record {
      made = feeds ++ are.made;
      calls = on old mid new feeds are.made is are.calls;
      ends = (λ holder first w0 d. whole holder first w0 are.made (first ∷ (feeds ++ are.made)) d are.ends.0 refl, are.ends.1);
    }
    taken (Err end) old mid new is are = record {
      made = feeds ++ are.made;
      calls = on old mid new feeds are.made is are.calls;
      ends = (cut_takes end are.made are.ends.0, are.ends.1);
    }

-- ---- the turn

module _ (peer holder : ℕ) (old mid new : Desked) (r0 r1 : Reading) (w0 w1 w2 : Writing) where
  pub turned : (result : Result (Unit {0}) Ended) → Drains peer holder (Ok tt) old mid (sides r0 w0) (sides r0 w1) → IsReceived peer result mid new (sides r0 w1) (sides r1 w2) →
      IsTurned peer holder result old new (sides r0 w0) (sides r1 w2)
  turned (Ok u) d t =
      let one = d.ends.0 in
      record {
        made = one.0 ∷ t.made;
        calls = on old mid new (one.0 ∷ []) t.made (d.calls ∙ ap (λ (cs : List Call). old.calls ++ cs) one.2) t.calls;
        ends = (t.ends.0 holder one.0 w0 one.1, t.ends.1);
      }
  turned (Err end) d t =
      let one = d.ends.0 in
      record {
        made = one.0 ∷ t.made;
        calls = on old mid new (one.0 ∷ []) t.made (d.calls ∙ ap (λ (cs : List Call). old.calls ++ cs) one.2) t.calls;
        ends = (t.ends.0 holder one.0 w0 one.1, t.ends.1);
      }

  pub cut_short : (end : Ended) → Drains peer holder (Err end) old new (sides r0 w0) (sides r0 w1) → IsTurned peer holder (Err end) old new (sides r0 w0) (sides r0 w1)
  cut_short end d = record { made = d.made; calls = d.calls; ends = d.ends }
