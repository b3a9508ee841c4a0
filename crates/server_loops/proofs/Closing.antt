-- A session, from its Open to its Shut.
use Rattle.std.proofs.Common.{◌≡◌, ◌⊎◌, inl, inr, ◌<◌, ℕ, List, [], ◌∷◌, ◌++◌, Ok, Err, length, length-append, append_assoc, append-nil, arith, refl, sym, ◌∙◌, ap, subst}
use Rattle.plant_model.specs.declared.event.Event.TheVariants.{Open, Shut}
use Rattle.plant_model.specs.declared.outcome.Outcome.{Outcome}
use Rattle.plant_model.specs.declared.outcome.Refused.{Refused}
use Rattle.plant_model.specs.declared.outcome.Refused.TheVariants.{NoSuchPeer, NoMemory as NoRoom}
use Rattle.server_loops.specs.Desks.{Answer, Call, Desked, Goes, call}
use Rattle.dom_edge.specs.Heeding.{Sides}
use Rattle.server_loops.specs.Sessions.{drained, joined, refused, IsCount, IsShut, IsTurn, IsRefused, AreTurns, Last, Makes, Runs, IsCutOff, IsSession, Serves}
use Rattle.server_loops.specs.Steps.{Leaves, AreServed, IsClosedBy, IsEndOfOpen, Shuts}
use Rattle.server_loops.specs.declared.desks.DeskRefused.{DeskRefused}
use Rattle.server_loops.specs.declared.desks.DeskRefused.TheVariants as desk
use Rattle.server_loops.specs.declared.sessions.Ended.{Ended}
use Rattle.server_loops.specs.declared.sessions.Ended.TheVariants.{Closed, PeerEnd, ReadFault, WriteFault, Turns, NotOpened, Lost, Spent, NoMemory}
use Rattle.server_loops.proofs.Turning.{on}
use Rattle.server_loops.proofs.Serving.{joined_on, turns_more}
use Rattle.server_loops.proofs.Passing.{drained_on}
use Rattle.server_loops.proofs.Causes.{session_passes}

module _ (peer holder turns : ℕ) (opened : Outcome) (before mid after : Sides) (whole : List (List Call)) (are_turns : AreTurns peer holder whole before mid) (last made : List Call) where
  abbrev first : Call
  first = call (Open peer holder) (Ok opened)

  -- the events of the session
  abbrev all : List Call
  all = first ∷ ((joined whole ++ last) ++ made)

  abbrev whole_session : (end : Ended) → IsCount end (length whole) turns → Last peer holder end last mid after → IsShut peer end made → Makes peer holder turns end all before after
  whole_session end count is_last is_shut = record {
    opened = opened;
    whole = whole;
    mid = mid;
    are_turns = are_turns;
    count = count;
    last = last;
    is_last = is_last;
    shut = made;
    is_shut = is_shut;
    is = ap (λ (cs : List Call). first ∷ cs) (append_assoc (joined whole) last made);
  }

  -- the desk was spent before a Shut
  cut_off : (end : Ended) → ((cs : List Call) → Makes peer holder turns end cs before after → Runs peer holder turns end cs before after) →
      ((cs : List Call) → (answer : Answer) × (cs ≡ call (Shut peer) answer ∷ []) → IsShut peer end cs) →
      IsCount end (length whole) turns → Last peer holder end last mid after → made ≡ [] → IsCutOff peer holder turns all before after
  cut_off end runs shut count is_last none =
      let answer : Answer = Err (desk.Plant NoSuchPeer) in
      let rest = call (Shut peer) answer ∷ [] in
      record {
        end = end;
        rest = rest;
        nothing = refl;
        runs = runs (all ++ rest) (record {
          opened = opened;
          whole = whole;
          mid = mid;
          are_turns = are_turns;
          count = count;
          last = last;
          is_last = is_last;
          shut = rest;
          is_shut = shut rest (answer, refl);
          is = rw none (ap (λ (cs : List Call). first ∷ cs) (ap (λ (cs : List Call). cs ++ rest) (append-nil (joined whole ++ last)) ∙ append_assoc (joined whole) last rest));
        });
      }

  -- the desk was spent in a turn
  spent_off : length whole < turns → (rest : List Call) × (drained rest ≡ []) × (IsRefused peer holder NoSuchPeer (last ++ rest) mid after ⊎ IsTurn peer holder (last ++ rest) mid after) → made ≡ [] →
      IsCutOff peer holder turns all before after
  spent_off less (rest, nothing, inl refuses) none = record {
    end = Lost NoSuchPeer;
    rest = rest;
    nothing = nothing;
    runs = inr (record {
      opened = opened;
      whole = whole;
      mid = mid;
      are_turns = are_turns;
      count = less;
      last = last ++ rest;
      is_last = (λ same. let never : NoSuchPeer ≡ NoRoom = same in cc, refuses);
      shut = [];
      is_shut = refl;
      is = rw none (ap (λ (cs : List Call). first ∷ cs) (
          ap (λ (cs : List Call). cs ++ rest) (append-nil (joined whole ++ last)) ∙ append_assoc (joined whole) last rest
          ∙ ap (λ (cs : List Call). joined whole ++ cs) (sym (append-nil (last ++ rest)))));
    });
  }
  spent_off less (rest, nothing, inr turn) none =
      let answer : Answer = Err (desk.Plant NoSuchPeer) in
      let shut = call (Shut peer) answer ∷ [] in
      let turn_calls = last ++ rest in
      record {
        end = NoMemory;
        rest = rest ++ shut;
        nothing = drained_on rest shut ∙ append-nil (drained rest) ∙ nothing;
        runs = inr (record {
          opened = opened;
          whole = whole ++ turn_calls ∷ [];
          mid = after;
          are_turns = turns_more peer holder whole turn_calls before mid after are_turns turn;
          count = omega (arith, length-append whole (turn_calls ∷ []), less);
          last = [];
          is_last = inr (inr (refl, refl));
          shut = shut;
          is_shut = (answer, refl);
          is = rw none (ap (λ (cs : List Call). first ∷ cs) (
              ap (λ (cs : List Call). cs ++ (rest ++ shut)) (append-nil (joined whole ++ last)) ∙ append_assoc (joined whole) last (rest ++ shut)
              ∙ ap (λ (cs : List Call). joined whole ++ cs) (sym (append_assoc last rest shut)) ∙ sym (append_assoc (joined whole) turn_calls shut)
              ∙ ap (λ (cs : List Call). cs ++ shut) (ap (λ (cs : List Call). joined whole ++ cs) (sym (append-nil turn_calls)) ∙ sym (joined_on whole (turn_calls ∷ [])))));
        });
      }

  -- Shut was made, or the desk was spent
  shut_or_spent : (end : Ended) → ((cs : List Call) → Makes peer holder turns end cs before after → Runs peer holder turns end cs before after) →
      ((cs : List Call) → Runs peer holder turns end cs before after → IsSession peer holder turns end cs before after) →
      ((cs : List Call) → (answer : Answer) × (cs ≡ call (Shut peer) answer ∷ []) → IsShut peer end cs) →
      IsCount end (length whole) turns → Last peer holder end last mid after → (result : Ended) →
      ((result ≡ end) × ((answer : Answer) × (made ≡ call (Shut peer) answer ∷ []))) ⊎ ((t : ℕ) × (result ≡ Spent t) × (made ≡ [])) → IsSession peer holder turns result all before after
  shut_or_spent end runs session shut count is_last result (inl is) =
      subst (λ (e : Ended). IsSession peer holder turns e all before after) (sym is.0) (session all (runs all (whole_session end count is_last (shut made is.1))))
  shut_or_spent end runs session shut count is_last result (inr is) =
      subst (λ (e : Ended). IsSession peer holder turns e all before after) (sym is.1) (cut_off end runs shut count is_last is.2)

  ends_by : (end : Ended) → IsCount end (length whole) turns → Leaves peer holder end last mid after → (result : Ended) → Shuts peer end result made → IsSession peer holder turns result all before after
  ends_by (Lost why) count leaves result is =
      subst (λ (e : Ended). IsSession peer holder turns e all before after) (sym is.0) (inr (whole_session (Lost why) count leaves is.1))
  ends_by (Spent t) count leaves result is =
      subst (λ (e : Ended). IsSession peer holder turns e all before after) (sym is.0) (spent_off count leaves is.1)
  ends_by Closed count leaves result is = shut_or_spent Closed (λ cs m. m) (λ cs r. r) (λ cs s. s) count leaves result is
  ends_by PeerEnd count leaves result is = shut_or_spent PeerEnd (λ cs m. m) (λ cs r. r) (λ cs s. s) count leaves result is
  ends_by ReadFault count leaves result is = shut_or_spent ReadFault (λ cs m. m) (λ cs r. r) (λ cs s. s) count leaves result is
  ends_by WriteFault count leaves result is = shut_or_spent WriteFault (λ cs m. m) (λ cs r. r) (λ cs s. s) count leaves result is
  ends_by Turns count leaves result is = shut_or_spent Turns (λ cs m. m) (λ cs r. r) (λ cs s. s) count leaves result is
  ends_by NotOpened count never result is = absurd never
  ends_by NoMemory count leaves result is = shut_or_spent NoMemory (λ cs m. inr m) (λ cs r. r) (λ cs s. s) count leaves result is

-- the events of the session as they stand behind those before
pub closed : (peer holder turns : ℕ) (opened : Outcome) (old d e new : Desked) (before after : Sides) (end result : Ended) → Goes old d (Open peer holder) (Ok opened) →
    AreServed peer holder turns end d e before after → IsClosedBy peer end result e new → Serves peer holder turns result old new before after
closed peer holder turns opened old d e new before after end result goes are is =
    let first = call (Open peer holder) (Ok opened) in
    let whole = joined are.whole ++ are.last in
    let made = first ∷ (whole ++ is.made) in
    let order = ends_by peer holder turns opened before are.mid after are.whole are.are_turns are.last is.made end are.count are.leaves result is.shuts in
    let p = session_passes peer holder turns made before after result order in
    record {
      made = made;
      calls = on old e new (first ∷ whole) is.made (on old d e (first ∷ []) whole goes.calls are.calls) is.calls;
      over = record { order = order; written = p.written; fed = p.fed; causes = p.causes };
    }

-- an Open that was refused
module _ (peer holder turns : ℕ) (old new : Desked) (s : Sides) where
  refused_open : (why : Refused) (end : Ended) → new.calls ≡ old.calls ++ refused (Open peer holder) why ∷ [] → IsSession peer holder turns end (refused (Open peer holder) why ∷ []) s s →
      Serves peer holder turns end old new s s
  refused_open why end calls order =
      let p = session_passes peer holder turns (refused (Open peer holder) why ∷ []) s s end order in
      record { made = refused (Open peer holder) why ∷ []; calls = calls; over = record { order = order; written = p.written; fed = p.fed; causes = p.causes } }

  pub unopened_session : (why : DeskRefused) (end : Ended) → Goes old new (Open peer holder) (Err why) → IsEndOfOpen why end → Serves peer holder turns end old new s s
  unopened_session (desk.Plant why) end goes (inl is) =
      subst (λ (e : Ended). Serves peer holder turns e old new s s) (sym is.1)
      (refused_open why NotOpened goes.calls (ap (λ (r : Refused). refused (Open peer holder) r ∷ []) is.0, refl))
  unopened_session (desk.Plant why) end goes (inr (inl is)) =
      subst (λ (e : Ended). Serves peer holder turns e old new s s) (sym is.1)
      (refused_open why NoMemory goes.calls (inl (ap (λ (r : Refused). refused (Open peer holder) r ∷ []) is.0, refl)))
  unopened_session (desk.Plant why) end goes (inr (inr is)) =
      subst (λ (e : Ended). Serves peer holder turns e old new s s) (sym is.2)
      (refused_open why (Lost why) goes.calls (inl (is.0, is.1, (refl, refl))))
  unopened_session (desk.Spent t) end goes is =
      let cut : IsCutOff peer holder turns [] s s = record { end = NotOpened; rest = refused (Open peer holder) NoSuchPeer ∷ []; nothing = refl; runs = (refl, refl) } in
      let p = session_passes peer holder turns [] s s (Spent t) cut in
      subst (λ (e : Ended). Serves peer holder turns e old new s s) (sym is)
      (record { made = []; calls = goes.calls; over = record { order = cut; written = p.written; fed = p.fed; causes = p.causes } })
