-- The turns of a carrier.
use Rattle.std.proofs.Common.{◌≡◌, ◌<◌, ◌≤◌, ◌+◌, ℕ, zero, suc, List, [], ◌∷◌, ◌++◌, Ok, Err, length, length-append, drop, append_assoc, append-nil, arith, refl, sym, ◌∙◌, ap}
use Rattle.std.specs.List.{AllByRecursion}
use Rattle.std.proofs.lemmas.List.{map-append, drop_all}
use Rattle.dom_base.specs.declared.names.As.{As}
use Rattle.plant_model.specs.declared.event.Event.{Event}
use Rattle.plant_model.specs.declared.event.Event.TheVariants.{Carry}
use Rattle.server_loops.specs.Desks.{Call, Desked, call}
use Rattle.server_loops.specs.Sessions.{joined}
use Rattle.server_loops.specs.Serving.{events, carries, CarriesLinks}
use Rattle.server_loops.specs.Steps.{IsCarried, IsRound}
use Rattle.server_loops.specs.declared.port.Ran.{Ran}
use Rattle.server_loops.specs.declared.port.Ran.TheVariants.{Turns, Spent}
use Rattle.server_loops.proofs.Turning.{on, all_on}
use Rattle.server_loops.proofs.Serving.{joined_on}

-- ---- one turn

-- the pairs before this place were carried
pub record IsCarrying (links : List (As × As)) (i : ℕ) (old new : Desked) : Type 0 where
  pub made : List Call
  pub calls : new.calls ≡ old.calls ++ made
  pub done : events made ++ carries (drop i links) ≡ carries links

pub none_carried : (links : List (As × As)) (d : Desked) → IsCarrying links 0 d d
none_carried links d = record { made = []; calls = sym (append-nil d.calls); done = refl }

pub all_carried : (links : List (As × As)) (i : ℕ) (old new : Desked) → length links ≤ i → IsCarrying links i old new → IsRound links (Ok tt) old new
all_carried links i old new all is = record {
  made = is.made;
  calls = is.calls;
  rounds = sym (append-nil (events is.made)) ∙ ap (λ (ls : List (As × As)). events is.made ++ carries ls) (sym (drop_all i links all)) ∙ is.done;
}

pub one_carried : (links : List (As × As)) (i : ℕ) (pair : As × As) (old mid new : Desked) → drop i links ≡ pair ∷ drop (i + 1) links → IsCarrying links i old mid →
    IsCarried pair.0 pair.1 (Ok tt) mid new → IsCarrying links (i + 1) old new
one_carried links i pair old mid new next is carried =
    let last = call (Carry pair.0 pair.1) carried.0 ∷ [] in
    record {
      made = is.made ++ last;
      calls = on old mid new is.made last is.calls carried.1;
      done = ap (λ (es : List Event). es ++ carries (drop (i + 1) links)) (map-append (λ (c : Call). c.event) is.made last)
          ∙ append_assoc (events is.made) (events last) (carries (drop (i + 1) links)) ∙ ap (λ (ls : List (As × As)). events is.made ++ carries ls) (sym next) ∙ is.done;
    }

pub cut_carried : (links : List (As × As)) (i t : ℕ) (from to : As) (old mid new : Desked) → IsCarrying links i old mid → IsCarried from to (Err t) mid new → IsRound links (Err t) old new
cut_carried links i t from to old mid new is cut = record {
  made = is.made;
  calls = cut.0 ∙ is.calls;
  rounds = ((carries (drop i links), sym is.done), cut.1);
}

-- ---- all turns

-- so many turns so far
pub record IsMaking (links : List (As × As)) (n : ℕ) (old new : Desked) : Type 0 where
  pub rounds : List (List Call)
  pub calls : new.calls ≡ old.calls ++ joined rounds
  pub each : AllByRecursion (λ (round : List Call). events round ≡ carries links) rounds
  pub count : length rounds ≡ n

pub none_made : (links : List (As × As)) (d : Desked) → IsMaking links 0 d d
none_made links d = record { rounds = []; calls = sym (append-nil d.calls); each = tt; count = refl }

module _ (links : List (As × As)) (n : ℕ) (old mid : Desked) (s : IsMaking links n old mid) where
  pub one_made : (new : Desked) → IsRound links (Ok tt) mid new → IsMaking links (n + 1) old new
  one_made new r = record {
    rounds = s.rounds ++ r.made ∷ [];
    calls = on old mid new (joined s.rounds) r.made s.calls r.calls
        ∙ ap (λ (cs : List Call). old.calls ++ cs) (ap (λ (cs : List Call). joined s.rounds ++ cs) (sym (append-nil r.made)) ∙ sym (joined_on s.rounds (r.made ∷ [])));
    each = all_on (λ (round : List Call). events round ≡ carries links) s.rounds (r.made ∷ []) s.each (r.rounds, tt);
    count = length-append s.rounds (r.made ∷ []) ∙ ap (λ k. k + 1) s.count;
  }

  all_made : CarriesLinks links n Turns old mid
  all_made = record {
    rounds = s.rounds;
    last = [];
    calls = s.calls ∙ ap (λ (cs : List Call). old.calls ++ cs) (sym (append-nil (joined s.rounds)));
    each = s.each;
    ends = (s.count, refl);
  }

  spent_made : (t : ℕ) → CarriesLinks links n (Spent t) old mid
  spent_made t = record {
    rounds = s.rounds;
    last = [];
    calls = s.calls ∙ ap (λ (cs : List Call). old.calls ++ cs) (sym (append-nil (joined s.rounds)));
    each = s.each;
    ends = (omega (arith, s.count), λ other. absurd (other refl), (carries links, refl));
  }

  -- however the desk stands behind all turns
  pub whole_made : (end : Ran) → CarriesLinks links n end old mid
  whole_made Turns = all_made
  whole_made (Spent t) = spent_made t

  pub cut_made : (turns t : ℕ) (new : Desked) → n < turns → IsRound links (Err t) mid new → CarriesLinks links turns (Spent t) old new
  cut_made turns t new below r = record {
    rounds = s.rounds;
    last = r.made;
    calls = on old mid new (joined s.rounds) r.made s.calls r.calls;
    each = s.each;
    ends = (omega (arith, s.count, below), λ other. omega (arith, s.count, below), r.rounds.0);
  }

-- over no pairs each turn is empty
idle_made : (n : ℕ) (d : Desked) → IsMaking [] n d d
idle_made zero d = none_made [] d
idle_made (suc n) d =
    let before = idle_made n d in
    record { rounds = [] ∷ before.rounds; calls = before.calls; each = (refl, before.each); count = ap suc before.count }

pub idly_made : (links : List (As × As)) (n : ℕ) (end : Ran) (d : Desked) → length links ≡ 0 → CarriesLinks links n end d d
idly_made [] n end d none = whole_made [] n d d (idle_made n d) end
idly_made (l ∷ ls) n end d none = cc
