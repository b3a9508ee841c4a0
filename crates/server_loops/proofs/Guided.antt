-- The turns of a carrier that has a guide.
use Rattle.std.proofs.Common.{◌≡◌, ◌<◌, ◌+◌, ℕ, List, [], ◌∷◌, ◌++◌, Ok, Err, get_or, length, length-append, append-nil, arith, refl, sym, ◌∙◌, ap}
use Rattle.std.specs.Prelude.{Contains}
use Rattle.std.specs.List.{AllByRecursion}
use Rattle.std.proofs.lemmas.List.Elements.{Contains-get_or}
use Rattle.dom_base.specs.declared.names.As.{As}
use Rattle.plant_model.specs.declared.event.Event.TheVariants.{Carry}
use Rattle.server_loops.specs.Desks.{Answer, Call, Desked, Goes, call}
use Rattle.server_loops.specs.declared.desks.DeskRefused.TheVariants as desk
use Rattle.server_loops.specs.Serving.{CarriesGuided, IsCarryCount, IsCarryOf, IsTurnCount}
use Rattle.server_loops.specs.Steps.{IsCarriedOf, carried_at}
use Rattle.server_loops.specs.declared.port.Ran.{Ran}
use Rattle.server_loops.specs.declared.port.Ran.TheVariants.{Turns, Spent}
use Rattle.server_loops.proofs.Turning.{on, all_on}

-- ---- one turn

carried_of : (links : List (As × As)) (place : ℕ) (pair : As × As) (answer : Answer) (old new : Desked) → Contains links pair → Goes old new (Carry pair.0 pair.1) answer → IsCarriedOf links (carried_at place answer) old new
carried_of links place pair (Ok o) old new there goes = (call (Carry pair.0 pair.1) (Ok o), (pair, there, refl), goes.calls)
carried_of links place pair (Err (desk.Plant why)) old new there goes = (call (Carry pair.0 pair.1) (Err (desk.Plant why)), (pair, there, refl), goes.calls)
carried_of links place pair (Err (desk.Spent t)) old new there goes = (goes.calls ∙ append-nil old.calls, goes.spent)

-- the pair at a place
pub carried_there : (links : List (As × As)) (place : ℕ) (none : As × As) (answer : Answer) (old new : Desked) → place < length links →
    Goes old new (Carry (get_or links place none).0 (get_or links place none).1) answer → IsCarriedOf links (carried_at place answer) old new
carried_there links place none answer old new below goes = carried_of links place (get_or links place none) answer old new (Contains-get_or links place none below) goes

-- ---- all turns

-- so many turns so far
pub record IsGuided (links : List (As × As)) (n : ℕ) (old new : Desked) : Type 0 where
  pub made : List Call
  pub calls : new.calls ≡ old.calls ++ made
  pub each : AllByRecursion (IsCarryOf links) made
  pub count : length made ≡ n

pub none_guided : (links : List (As × As)) (d : Desked) → IsGuided links 0 d d
none_guided links d = record { made = []; calls = sym (append-nil d.calls); each = tt; count = refl }

-- where there are pairs
some_count : (links : List (As × As)) (end : Ran) (made turns : ℕ) → 0 < length links → IsTurnCount end made turns → IsCarryCount links end made turns
some_count [] end made turns some is = absurd (omega (arith, some))
some_count (pair ∷ links) end made turns some is = is

all_counted : (end : Ran) (made turns : ℕ) → made ≡ turns → IsTurnCount end made turns
all_counted Turns made turns is = is
all_counted (Spent t) made turns is = omega (arith, is)

module _ (links : List (As × As)) (n : ℕ) (old mid : Desked) (s : IsGuided links n old mid) where
  pub one_guided : (place : ℕ) (new : Desked) → IsCarriedOf links (Ok place) mid new → IsGuided links (n + 1) old new
  one_guided place new r = record {
    made = s.made ++ r.0 ∷ [];
    calls = on old mid new s.made (r.0 ∷ []) s.calls r.2;
    each = all_on (IsCarryOf links) s.made (r.0 ∷ []) s.each (r.1, tt);
    count = length-append s.made (r.0 ∷ []) ∙ ap (λ k. k + 1) s.count;
  }

  -- however the desk stands behind all turns
  pub all_guided : (end : Ran) → 0 < length links → CarriesGuided links n end old mid
  all_guided end some = record { made = s.made; calls = s.calls; each = s.each; count = some_count links end (length s.made) n some (all_counted end (length s.made) n s.count) }

  pub cut_guided : (turns t : ℕ) (new : Desked) → 0 < length links → n < turns → IsCarriedOf links (Err t) mid new → CarriesGuided links turns (Spent t) old new
  cut_guided turns t new some below r = record {
    made = s.made;
    calls = r.0 ∙ s.calls;
    each = s.each;
    count = some_count links (Spent t) (length s.made) turns some (omega (arith, s.count, below));
  }

pub idly_guided : (links : List (As × As)) (turns : ℕ) (end : Ran) (d : Desked) → length links ≡ 0 → CarriesGuided links turns end d d
idly_guided [] turns end d none = record { made = []; calls = sym (append-nil d.calls); each = tt; count = refl }
idly_guided (l ∷ ls) turns end d none = cc
