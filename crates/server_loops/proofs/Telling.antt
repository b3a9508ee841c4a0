-- Readings that are told.
use Rattle.std.proofs.Common.{◌≡◌, inl, inr, ◌<◌, ◌≤◌, ◌+◌, ℕ, Bool, true, false, cond, nat_lt, List, [], ◌∷◌, ◌++◌, None, Some, Ok, Err, length, length-append, append_assoc, append-nil, arith, refl, sym, ◌∙◌, ap, subst}
use Rattle.std.specs.Prelude.{MatchOption}
use Rattle.std.specs.declared.option.Option.{Option}
use Rattle.std.proofs.lemmas.List.{map-append}
use Rattle.std.proofs.lemmas.Bool.{lt-ltb, le-ltb}
use Rattle.plant_model.specs.declared.event.Event.{Event}
use Rattle.plant_model.specs.declared.event.Event.TheVariants.{Tick}
use Rattle.server_loops.specs.Desks.{Answer, Call, Desked, call, made_by, spent_by}
use Rattle.network_links.specs.declared.rest.Rest.TheVariants.{Nothing}
use Rattle.server_loops.specs.Serving.{BeginsWith, events, AreReadings, ticks, told_last, TellsTime}
use Rattle.server_loops.specs.Steps.{IsTold}
use Rattle.server_loops.specs.declared.desks.DeskRefused.TheVariants as desk
use Rattle.server_loops.proofs.Turning.{on}

abbrev tick : ℕ → Event
tick reading = Tick (record { 0 = reading })

-- ---- one more reading

readings_more : (last : ℕ) (rs : List ℕ) (mid r : ℕ) → AreReadings last rs mid → mid ≤ r → AreReadings last (rs ++ r ∷ []) r
readings_more last [] mid r is less = (omega (arith, is, less), refl)
readings_more last (x ∷ rs) mid r are less = (are.0, readings_more x rs mid r are.1 less)

module _ (r : ℕ) where
  -- where the last one that was told is below it, it is told
  abbrev more : ℕ → List Event
  more told = cond (nat_lt told r) (tick r ∷ []) []

  abbrev then_told : ℕ → ℕ
  then_told told = cond (nat_lt told r) r told

  one_tick : (told x : ℕ) (rs : List ℕ) (b : Bool) → ticks x (rs ++ r ∷ []) ≡ ticks x rs ++ more (told_last x (ticks x rs)) → ticks told (rs ++ r ∷ []) ≡ ticks told rs ++ more (told_last told (ticks told rs)) →
      cond b (tick x ∷ ticks x (rs ++ r ∷ [])) (ticks told (rs ++ r ∷ [])) ≡ cond b (tick x ∷ ticks x rs) (ticks told rs) ++ more (told_last told (cond b (tick x ∷ ticks x rs) (ticks told rs)))
  one_tick told x rs true rises stays = ap (λ (es : List Event). tick x ∷ es) rises
  one_tick told x rs false rises stays = stays

  ticks_more : (told : ℕ) (rs : List ℕ) → ticks told (rs ++ r ∷ []) ≡ ticks told rs ++ more (told_last told (ticks told rs))
  ticks_more told [] = refl
  ticks_more told (x ∷ rs) = one_tick told x rs (nat_lt told x) (ticks_more x rs) (ticks_more told rs)

  one_told_last : (told x : ℕ) (rs : List ℕ) (b : Bool) → told_last x (ticks x (rs ++ r ∷ [])) ≡ then_told (told_last x (ticks x rs)) →
      told_last told (ticks told (rs ++ r ∷ [])) ≡ then_told (told_last told (ticks told rs)) →
      told_last told (cond b (tick x ∷ ticks x (rs ++ r ∷ [])) (ticks told (rs ++ r ∷ []))) ≡ then_told (told_last told (cond b (tick x ∷ ticks x rs) (ticks told rs)))
  one_told_last told x rs true rises stays = rises
  one_told_last told x rs false rises stays = stays

  first_told : (told : ℕ) (b : Bool) → told_last told (cond b (tick r ∷ []) []) ≡ cond b r told
  first_told told true = refl
  first_told told false = refl

  told_more : (told : ℕ) (rs : List ℕ) → told_last told (ticks told (rs ++ r ∷ [])) ≡ then_told (told_last told (ticks told rs))
  told_more told [] = first_told told (nat_lt told r)
  told_more told (x ∷ rs) = one_told_last told x rs (nat_lt told x) (told_more x rs) (told_more told rs)

-- ---- the turns so far

-- so many readings so far, and the last one that was told
pub record IsTelling (n top : ℕ) (old new : Desked) (last now : ℕ) : Type 0 where
  pub readings : List ℕ
  pub count : length readings ≡ n
  pub are_readings : AreReadings last readings now
  pub told_is : told_last 0 (ticks 0 readings) ≡ top
  pub below : top ≤ now
  pub now_told : 0 < n → top ≡ now
  pub made : List Call
  pub calls : new.calls ≡ old.calls ++ made
  pub told : MatchOption new.spent (events made ≡ ticks 0 readings) (λ t. BeginsWith (ticks 0 readings) (events made))

pub none_told : (d : Desked) (last : ℕ) → IsTelling 0 0 d d last last
none_told d last = record {
  readings = [];
  count = refl;
  are_readings = refl;
  told_is = refl;
  below = omega arith;
  now_told = λ some. absurd (omega (arith, some));
  made = [];
  calls = sym (append-nil d.calls);
  told = none_yet d.spent;
}
  where
    none_yet : (spent : Option ℕ) → MatchOption spent ((let es : List Event = [] in es) ≡ []) (λ t. BeginsWith (let es : List Event = [] in es) [])
    none_yet None = refl
    none_yet (Some t) = ([], refl)

-- ---- one turn

-- a Tick that was made, or that the desk was spent for
tick_made : (made : List Call) (all : List Event) (e : Event) (before : Option ℕ) (answer : Answer) → ((t : ℕ) → before ≡ Some t → answer ≡ Err (desk.Spent t)) →
    MatchOption before (events made ≡ all) (λ t. BeginsWith all (events made)) →
    MatchOption (spent_by answer) (events (made ++ made_by e answer Nothing) ≡ all ++ e ∷ []) (λ t. BeginsWith (all ++ e ∷ []) (events (made ++ made_by e answer Nothing)))
tick_made made all e None (Ok o) stays told = map-append (λ (c : Call). c.event) made (call e (Ok o) ∷ []) ∙ ap (λ (es : List Event). es ++ e ∷ []) told
tick_made made all e None (Err (desk.Plant why)) stays told = map-append (λ (c : Call). c.event) made (call e (Err (desk.Plant why)) ∷ []) ∙ ap (λ (es : List Event). es ++ e ∷ []) told
tick_made made all e None (Err (desk.Spent t)) stays told =
    (e ∷ [], ap (λ (es : List Event). es ++ e ∷ []) (sym told) ∙ ap (λ (cs : List Call). events cs ++ e ∷ []) (sym (append-nil made)))
tick_made made all e (Some t) (Ok o) stays told =
    let given : Answer = Ok o in
    let never : given ≡ Err (desk.Spent t) = stays t refl in cc
tick_made made all e (Some t) (Err (desk.Plant why)) stays told =
    let given : Answer = Err (desk.Plant why) in
    let never : given ≡ Err (desk.Spent t) = stays t refl in cc
tick_made made all e (Some t) (Err (desk.Spent u)) stays told =
    (told.0 ++ e ∷ [], ap (λ (es : List Event). es ++ e ∷ []) told.1 ∙ append_assoc (events made) told.0 (e ∷ []) ∙ ap (λ (cs : List Call). events cs ++ (told.0 ++ e ∷ [])) (sym (append-nil made)))

module _ (n top : ℕ) (old mid new : Desked) (last now : ℕ) (s : IsTelling n top old mid last now) (r : ℕ) (later : now ≤ r) where
  pub one_told : (result : ℕ) → IsTold top r result mid new → IsTelling (n + 1) result old new last r
  one_told result (inl is) =
      let rises : nat_lt top r ≡ true = lt-ltb top r is.0 in
      let more_is : ticks 0 (s.readings ++ r ∷ []) ≡ ticks 0 s.readings ++ tick r ∷ [] =
      ticks_more r 0 s.readings ∙ ap (λ t. ticks 0 s.readings ++ more r t) s.told_is ∙ ap (λ (b : Bool). ticks 0 s.readings ++ cond b (tick r ∷ []) []) rises in
      record {
        readings = s.readings ++ r ∷ [];
        count = length-append s.readings (r ∷ []) ∙ ap (λ k. k + 1) s.count;
        are_readings = readings_more last s.readings now r s.are_readings later;
        told_is = told_more r 0 s.readings ∙ ap (then_told r) s.told_is ∙ ap (λ (b : Bool). cond b r top) rises ∙ sym is.1;
        below = omega (arith, is.1);
        now_told = λ some. is.1;
        made = s.made ++ made_by (tick r) is.2.0 Nothing;
        calls = on old mid new s.made (made_by (tick r) is.2.0 Nothing) s.calls is.2.1.calls;
        told = subst (λ (o : Option ℕ). MatchOption o (events (s.made ++ made_by (tick r) is.2.0 Nothing) ≡ ticks 0 (s.readings ++ r ∷ [])) (λ t. BeginsWith (ticks 0 (s.readings ++ r ∷ [])) (events (s.made ++ made_by (tick r) is.2.0 Nothing)))) (sym is.2.1.spent)
            (subst (λ (es : List Event). MatchOption (spent_by is.2.0) (events (s.made ++ made_by (tick r) is.2.0 Nothing) ≡ es) (λ t. BeginsWith es (events (s.made ++ made_by (tick r) is.2.0 Nothing)))) (sym more_is)
            (tick_made s.made (ticks 0 s.readings) (tick r) mid.spent is.2.0 is.2.1.stays s.told));
      }
  one_told result (inr is) =
      let stays : nat_lt top r ≡ false = le-ltb top r is.0 in
      let more_is : ticks 0 (s.readings ++ r ∷ []) ≡ ticks 0 s.readings =
      ticks_more r 0 s.readings ∙ ap (λ t. ticks 0 s.readings ++ more r t) s.told_is ∙ ap (λ (b : Bool). ticks 0 s.readings ++ cond b (tick r ∷ []) []) stays ∙ append-nil (ticks 0 s.readings) in
      record {
        readings = s.readings ++ r ∷ [];
        count = length-append s.readings (r ∷ []) ∙ ap (λ k. k + 1) s.count;
        are_readings = readings_more last s.readings now r s.are_readings later;
        told_is = told_more r 0 s.readings ∙ ap (then_told r) s.told_is ∙ ap (λ (b : Bool). cond b r top) stays ∙ sym is.1;
        below = omega (arith, is.1, s.below, later);
        now_told = λ some. omega (arith, is.0, is.1, s.below, later);
        made = s.made;
        calls = ap (λ (d : Desked). d.calls) is.2 ∙ s.calls;
        told = subst (λ (d : Desked). MatchOption d.spent (events s.made ≡ ticks 0 (s.readings ++ r ∷ [])) (λ t. BeginsWith (ticks 0 (s.readings ++ r ∷ [])) (events s.made))) (sym is.2)
            (subst (λ (es : List Event). MatchOption mid.spent (events s.made ≡ es) (λ t. BeginsWith es (events s.made))) (sym more_is) s.told);
      }

-- ---- all turns

told_at_last : (spent : Option ℕ) (made : List Call) (all : List Event) (n top now : ℕ) → told_last 0 all ≡ top → (0 < n → top ≡ now) → MatchOption spent (events made ≡ all) (λ t. BeginsWith all (events made)) →
    MatchOption spent ((events made ≡ all) × (0 < n → told_last 0 (events made) ≡ now)) (λ t. BeginsWith all (events made))
told_at_last None made all n top now told_is now_told told = (told, λ some. ap (told_last 0) told ∙ told_is ∙ now_told some)
told_at_last (Some t) made all n top now told_is now_told told = told

pub all_told : (n top : ℕ) (old new : Desked) (last now : ℕ) → IsTelling n top old new last now → TellsTime n old new last now
all_told n top old new last now s = record {
  readings = s.readings;
  count = s.count;
  are_readings = s.are_readings;
  made = s.made;
  calls = s.calls;
  told = told_at_last new.spent s.made (ticks 0 s.readings) n top now s.told_is s.now_told s.told;
}
