-- Sessions, by their turns.
use Rattle.std.proofs.Common.{◌≡◌, inr, ◌<◌, ◌+◌, ℕ, List, [], ◌∷◌, ◌++◌, None, Ok, Err, length, length-append, append-nil, arith, refl, sym, ◌∙◌, ap, subst}
use Rattle.std.proofs.lemmas.List.Concat.{flat_map-append}
use Rattle.server_loops.specs.Desks.{Call, Desked}
use Rattle.dom_edge.specs.Heeding.{Sides}
use Rattle.server_loops.specs.Sessions.{joined, IsCount, IsTurn, AreTurns}
use Rattle.server_loops.specs.Steps.{IsCut, IsTurned, AreServed, Leaves}
use Rattle.server_loops.specs.declared.sessions.Ended.{Ended}
use Rattle.server_loops.specs.declared.sessions.Ended.TheVariants.{Closed, PeerEnd, ReadFault, WriteFault, Turns, NotOpened, Lost, Spent, NoMemory}
use Rattle.server_loops.proofs.Turning.{on}

pub joined_on : (a b : List (List Call)) → joined (a ++ b) ≡ joined a ++ joined b
joined_on a b = flat_map-append (λ (calls : List Call). calls) a b

-- so many whole turns so far
pub record IsServing (peer holder n : ℕ) (old new : Desked) (before after : Sides) : Type 0 where
  pub whole : List (List Call)
  pub are_turns : AreTurns peer holder whole before after
  pub count : length whole ≡ n
  pub calls : new.calls ≡ old.calls ++ joined whole
  pub spent : new.spent ≡ None

pub set_out : (peer holder : ℕ) (d : Desked) (s : Sides) → d.spent ≡ None → IsServing peer holder 0 d d s s
set_out peer holder d s unspent = record { whole = []; are_turns = refl; count = refl; calls = sym (append-nil d.calls); spent = unspent }

pub turns_more : (peer holder : ℕ) (turns : List (List Call)) (turn : List Call) (old mid new : Sides) → AreTurns peer holder turns old mid → IsTurn peer holder turn mid new →
    AreTurns peer holder (turns ++ turn ∷ []) old new
turns_more peer holder [] turn old mid new same is = (new, subst (λ (s : Sides). IsTurn peer holder turn s new) same is, refl)
turns_more peer holder (t ∷ ts) turn old mid new are is = (are.0, are.1, turns_more peer holder ts turn are.0 mid new are.2 is)

module _ (peer holder n : ℕ) (old mid new : Desked) (before between after : Sides) (s : IsServing peer holder n old mid before between) where
  pub one_more : IsTurned peer holder (Ok tt) mid new between after → IsServing peer holder (n + 1) old new before after
  one_more t = record {
    whole = s.whole ++ t.made ∷ [];
    are_turns = turns_more peer holder s.whole t.made before between after s.are_turns t.ends.0;
    count = length-append s.whole (t.made ∷ []) ∙ ap (λ k. k + 1) s.count;
    calls = on old mid new (joined s.whole) t.made s.calls t.calls
        ∙ ap (λ (cs : List Call). old.calls ++ cs) (ap (λ (cs : List Call). joined s.whole ++ cs) (sym (append-nil t.made)) ∙ sym (joined_on s.whole (t.made ∷ [])));
    spent = t.ends.1;
  }

  below : (end : Ended) (turns : ℕ) (made : List Call) → n < turns → IsCut peer holder end made between after → IsCount end (length s.whole) turns × Leaves peer holder end made between after
  below Closed turns made less cut = (omega (arith, s.count), cut)
  below PeerEnd turns made less cut = (omega (arith, s.count), cut)
  below ReadFault turns made less cut = (omega (arith, s.count), cut)
  below WriteFault turns made less cut = (omega (arith, s.count), cut)
  below Turns turns made less never = absurd never
  below NotOpened turns made less never = absurd never
  below (Lost why) turns made less cut = (omega (arith, s.count), cut)
  below (Spent t) turns made less cut = (omega (arith, s.count), cut)
  below NoMemory turns made less cut = (omega (arith, s.count), cut)

  pub cut_turn : (end : Ended) (turns : ℕ) → n < turns → IsTurned peer holder (Err end) mid new between after → AreServed peer holder turns end old new before after
  cut_turn end turns less t =
      let b = below end turns t.made less t.ends.0 in
      record {
        whole = s.whole;
        mid = between;
        are_turns = s.are_turns;
        last = t.made;
        leaves = b.1;
        count = b.0;
        calls = on old mid new (joined s.whole) t.made s.calls t.calls;
        spent = t.ends.1;
      }

  pub all_turns : AreServed peer holder n Turns old mid before between
  all_turns = record {
    whole = s.whole;
    mid = between;
    are_turns = s.are_turns;
    last = [];
    leaves = (refl, refl);
    count = s.count;
    calls = s.calls ∙ ap (λ (cs : List Call). old.calls ++ cs) (sym (append-nil (joined s.whole)));
    spent = s.spent;
  }

-- there was no memory for what is read
pub no_room : (peer holder turns : ℕ) (d : Desked) (s : Sides) → d.spent ≡ None → AreServed peer holder turns NoMemory d d s s
no_room peer holder turns d s unspent = record {
  whole = [];
  mid = s;
  are_turns = refl;
  last = [];
  leaves = inr (inr (refl, refl));
  count = omega arith;
  calls = sym (append-nil d.calls);
  spent = unspent;
}
