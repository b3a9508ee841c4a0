-- What becomes of a network by an event is a step of its model.
use Rattle.std.proofs.Common.{◌≡◌, ◌∙◌, Bool, true, Ok, Err, List, [], refl, sym, ap, ap₂, subst, inl, inr, arith}
use Rattle.pce_common.specs.plant_model.Types.{As, Hop, NetworkParts}
use Rattle.pce_common.specs.plant_model.declared.outcome.Outcome.{Outcome}
use Rattle.pce_common.specs.plant_model.declared.outcome.Refused.{Refused}
use Rattle.pce_common.specs.plant_model.declared.outcome.Refused.TheVariants.{NoMemory}
use Rattle.pce_common.specs.plant_model.Events.{Answered, Happened}
use Rattle.pce_common.specs.plant_model.State.{Deed, State}
use Rattle.network_links.specs.Flow.{ClearsSaid, Flow}
use Rattle.network_events.specs.Giving.{OnlyGrows}
use Rattle.network_events.specs.Happening.{IsDone, IsDoneOrLacks}
use Rattle.network_events.specs.Moving.{IsKept, Moves, OrLacks, whole}
use Rattle.network_events.specs.Passing.{IsOf}
use Rattle.network_events.specs.Rooms.{IsRoomy}
use Rattle.network_events.specs.Standing.{Here, state_of}
use Rattle.network_events.proofs.PassRoom.{roomy_grown}

-- ---- what is kept

of_grown : (n : NetworkParts) (f f' : Flow) → OnlyGrows f f' → IsOf n f → IsOf n f'
of_grown n f f' grows of = record { adjacencies_are = ap (λ (y : Flow). y.adjacencies) grows.same ∙ of.adjacencies_are; peers_are = ap (λ (y : Flow). y.peers) grows.same ∙ of.peers_are }

-- nothing has grown
grows_none : (f : Flow) → OnlyGrows f f
grows_none f = record {
  same = refl;
  there = λ at to. record { messages = omega arith; bytes = omega arith };
  said = record { messages = omega arith; bytes = omega arith };
}

pub same_grows : (f f' : Flow) → f' ≡ f → OnlyGrows f f'
same_grows f f' same = subst (λ (y : Flow). OnlyGrows f y) (sym same) (grows_none f)

-- the links and peers stay once what was said is cleared
pub cleared_of : (n : NetworkParts) (f f1 f2 : Flow) → f1.adjacencies ≡ f.adjacencies → f1.peers ≡ f.peers → ClearsSaid f1 f2 → IsOf n f → IsOf n f2
cleared_of n f f1 f2 adjacencies peers clears of = record {
  adjacencies_are = ap (λ (y : Flow). y.adjacencies) clears.kept ∙ adjacencies ∙ of.adjacencies_are;
  peers_are = ap (λ (y : Flow). y.peers) clears.kept ∙ peers ∙ of.peers_are;
}

module _ {P : Type 0} {S : Type 0} where
  -- what is kept by the clauses of an event
  pub kept : (old new : Here P S) → new.network ≡ old.network → IsOf old.network new.flow → ((d : As) → new.lost d ≡ []) → IsRoomy old.network new.seen new.flow → IsKept new
  kept old new network of none roomy = record {
    of = subst (λ (n : NetworkParts). IsOf n new.flow) (sym network) of;
    none = none;
    roomy = subst (λ (n : NetworkParts). IsRoomy n new.seen new.flow) (sym network) roomy;
  }

  -- and where nothing changes but room
  pub kept_grown : (h : Here P S) (f : Flow) → OnlyGrows h.flow f → IsKept h → IsKept (record h { flow = f })
  kept_grown h f grows is = record { of = of_grown h.network h.flow f grows is.of; none = is.none; roomy = roomy_grown h.network h.seen h.flow f grows is.roomy }

-- ---- an event

module _ {P : Type 0} {S : Type 0} (show : S → List Hop) (event : NetworkParts → State P S → Happened P S) where
  -- it is accepted
  pub done_moves : (old new : Here P S) → new.network ≡ old.network → IsOf old.network new.flow → ((d : As) → new.lost d ≡ []) → IsRoomy old.network new.seen new.flow → (needs : State P S → Bool) (o : Outcome) →
      IsDone (event old.network (whole old).state) (Ok o) new.seen new.flow → Moves (OrLacks show needs event) old (Ok o) new
  done_moves old new network of none roomy needs o done =
      let all : List (Deed S) = (event old.network (whole old).state).deeds in
      record {
        stepped = record {
          network = network;
          deeds = all;
          steps = inl (ap₂ (λ (a : Answered) (s : State P S). let x : Happened P S = record { answer = a; state = s; deeds = all } in x) done.answer done.state);
          accepted = done.said;
          refused = tt;
        };
        kept = kept old new network of none roomy;
      }

  module _ (old : Here P S) (f : Flow) (needs : State P S → Bool) where
    -- it is accepted, and leaves members as they are
    pub still_moves : (o : Outcome) → IsKept (record old { flow = f }) → IsDoneOrLacks (event old.network (whole old).state) (Ok o) old.seen f → Moves (OrLacks show needs event) old (Ok o) (record old { flow = f })
    still_moves o is (inl done) = done_moves old (record old { flow = f }) refl is.of is.none is.roomy needs o done
    still_moves o is (inr lacks) = absurd (let both : Ok o ≡ Err NoMemory = lacks in cc)

    -- it is refused, and nothing changes but room
    pub refused_moves : (why : Refused) → IsKept old → OnlyGrows old.flow f → (why ≡ NoMemory → needs (whole old).state ≡ true) → IsDoneOrLacks (event old.network (whole old).state) (Err why) old.seen f →
        Moves (OrLacks show needs event) old (Err why) (record old { flow = f })
    refused_moves why is grows may (inl done) =
        let all : List (Deed S) = (event old.network (whole old).state).deeds in
        record {
          stepped = record {
            network = refl;
            deeds = all;
            steps = inl (ap₂ (λ (a : Answered) (s : State P S). let x : Happened P S = record { answer = a; state = s; deeds = all } in x) done.answer done.state);
            accepted = tt;
            refused = ap (λ (x : Flow). x.said) grows.same;
          };
          kept = kept_grown old f grows is;
        }
    refused_moves why is grows may (inr lacks) = record {
      stepped = record {
        network = refl;
        deeds = [];
        steps = inr (
          may (let same : why ≡ NoMemory = cc in same),
          ap₂ (λ (a : Answered) (s : State P S). let x : Happened P S = record { answer = a; state = s; deeds = [] } in x) lacks (ap (state_of old.seen) grows.same),
        );
        accepted = tt;
        refused = ap (λ (x : Flow). x.said) grows.same;
      };
      kept = kept_grown old f grows is;
    }

    -- memory ran out
    pub lacks_moves : IsKept old → OnlyGrows old.flow f → needs (whole old).state ≡ true → Moves (OrLacks show needs event) old (Err NoMemory) (record old { flow = f })
    lacks_moves is grows may = refused_moves NoMemory is grows (λ lacks. may) (inr refl)

  -- it finds nothing to do
  pub unmoved : (h : Here P S) (needs : State P S → Bool) (why : Refused) → IsKept h → (why ≡ NoMemory → ⊥) → IsDone (event h.network (whole h).state) (Err why) h.seen h.flow →
      Moves (OrLacks show needs event) h (Err why) (record h { flow = h.flow })
  unmoved h needs why is other done = refused_moves h h.flow needs why is (grows_none h.flow) (λ lacks. absurd (other lacks)) (inl done)
