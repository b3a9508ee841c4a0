-- A run, one turn further.
use Rattle.std.proofs.Common.{◌≡◌, inl, inr, ℕ, zero, suc, ◌+◌, ◌<◌, ◌≤◌, List, [], ◌∷◌, ◌++◌, None, Some, Ok, Err, append_assoc, add-one, arith, refl, sym, ◌∙◌, ap, subst}
use Rattle.std.specs.Prelude.{IfSome, option_to_list}
use Rattle.std.specs.declared.option.Option.{Option}
use Rattle.std.proofs.lemmas.List.{append-nil}
use Rattle.std.proofs.lemmas.List.Elements.{filter_map-append}
use Rattle.dom_base.specs.declared.names.As.{As}
use Rattle.dom_base.specs.declared.names.NoMemory.{NoMemory}
use Rattle.border_costs.specs.declared.job.Job.{Job}
use Rattle.cost_cache.specs.Entries.{Entries, Has}
use Rattle.cost_cache.specs.Keys.{key_of}
use Rattle.cost_cache.specs.declared.key.Key.{Key}
use Rattle.server_loops.specs.Benches.{Call, Benched, Ready}
use Rattle.server_loops.specs.WorkerTurns.{IsTurn, AreTurns, Stops, HasLast, Runs, given_job, given_key, jobs_given, keys_given}
use Rattle.server_loops.specs.WorkerSteps.{EndsWith, IsLast, IsRunning, IsTurned, TurnBy, TurnsBy}
use Rattle.server_loops.specs.declared.working.Worked.TheVariants.{Turns, Spent, NoMemory as WantOfMemory}
use Rattle.server_loops.proofs.Righting.{sound_new}

-- whole turns, and none that was begun
stops_behind : (index n turns : ℕ) (calls : List Call) → n ≤ turns → AreTurns index n calls → Stops index turns calls
stops_behind index n turns calls within are = record {
  count = n;
  whole = calls;
  part = [];
  within = within;
  below = λ some. absurd (some refl);
  are_turns = are;
  cut = (
    Ready index None,
    Ready 0 None ∷ [],
    record { asked = Ready index None ∷ Ready 0 None ∷ []; found = None; asks = inr refl; rest = []; goes_on = refl; is = refl },
  );
  is = sym (append-nil calls);
}

no_turns : (index : ℕ) (s : Option ℕ) → TurnsBy s index 0 []
no_turns index None = refl
no_turns index (Some t) = stops_behind index 0 0 [] (omega arith) refl

pub set_out : (index : ℕ) (b : Benched) (passed : List (As × ℕ)) (cache : Entries) (last : Option Job) → cache.entries ≡ [] → last ≡ None → IsRunning index 0 b b passed passed cache last
set_out index b passed cache last empty none = record {
  made = [];
  calls = sym (append-nil b.calls);
  turns = no_turns index b.spent;
  gate = sym (append-nil passed);
  is_last = subst (EndsWith []) (sym none) refl;
  sound = sound_new b.topologies cache last empty none;
}

turns_more : (index n : ℕ) (calls last : List Call) → AreTurns index n calls → IsTurn index last → AreTurns index (suc n) (calls ++ last)
turns_more index zero calls last none turn = (last, [], turn, refl, ap (λ (cs : List Call). cs ++ last) none ∙ sym (append-nil last))
turns_more index (suc n) calls last are turn =
    let rest = turns_more index n are.1 last are.3 turn in
    (are.0, are.1 ++ last, are.2, rest, ap (λ (cs : List Call). cs ++ last) are.4 ∙ append_assoc are.0 are.1 last)

has_last : (keys : List Key) (key : Key) (cache : Entries) → Has cache key → HasLast (keys ++ key ∷ []) cache
has_last [] key cache has = has
has_last (k ∷ []) key cache has = has
has_last (k ∷ (next ∷ keys)) key cache has = has_last (next ∷ keys) key cache has

-- the last of the keys so far, and then of those of one turn more
last_more : (keys more : List Key) (o : Option Key) (before last : Option Job) → more ≡ option_to_list o → EndsWith keys before → IsLast o before last → EndsWith (keys ++ more) last
last_more keys more None before last is ends same =
    subst (λ (ks : List Key). EndsWith ks last) (sym (append-nil keys) ∙ ap (λ (ks : List Key). keys ++ ks) (sym is)) (subst (EndsWith keys) (sym same) ends)
last_more keys more (Some key) before last is ends now =
    subst (EndsWith (keys ++ more)) (sym now.1)
    (keys, ap (λ (ks : List Key). keys ++ ks) is ∙ ap (λ (k : Key). keys ++ k ∷ []) (sym now.2))

-- a cache that has the key of the last job has the last of the keys
has_kept : (keys : List Key) (last : Option Job) (cache : Entries) → EndsWith keys last → IfSome last (λ job. Has cache (key_of job.ask)) → HasLast keys cache
has_kept keys None cache none has = subst (λ (ks : List Key). HasLast ks cache) (sym none) tt
has_kept keys (Some job) cache ends has = subst (λ (ks : List Key). HasLast ks cache) (sym ends.1) (has_last ends.0 (key_of job.ask) cache has)

module _ (index n : ℕ) (old mid new : Benched) (passed passed_mid passed_after : List (As × ℕ)) (cache cache_after : Entries) (before last : Option Job) (r : IsRunning index n old mid passed passed_mid cache before) where
  abbrev on : (t : List Call) → new.calls ≡ mid.calls ++ t → new.calls ≡ old.calls ++ (r.made ++ t)
  on t is = is ∙ ap (λ (cs : List Call). cs ++ t) r.calls ∙ append_assoc old.calls r.made t

  abbrev through : (t : List Call) → passed_after ≡ passed_mid ++ jobs_given t → passed_after ≡ passed ++ jobs_given (r.made ++ t)
  through t is =
      is ∙ ap (λ (js : List (As × ℕ)). js ++ jobs_given t) r.gate ∙ append_assoc passed (jobs_given r.made) (jobs_given t)
      ∙ ap (λ (js : List (As × ℕ)). passed ++ js) (sym (filter_map-append given_job r.made t))

  -- the whole turns of a bench that was not spent before this one
  abbrev all_whole : mid.spent ≡ None → AreTurns index n r.made
  all_whole live = subst (λ (s : Option ℕ). TurnsBy s index n r.made) live r.turns

  more_by : (s : Option ℕ) (last : List Call) → mid.spent ≡ None → TurnBy s index last → TurnsBy s index (n + 1) (r.made ++ last)
  more_by None last live turn = rw add-one (turns_more index n r.made last (all_whole live) turn)
  more_by (Some t) last live turn = record {
    count = n;
    whole = r.made;
    part = last;
    within = omega arith;
    below = λ some. omega arith;
    are_turns = all_whole live;
    cut = turn;
    is = refl;
  }

  pub one_more : mid.spent ≡ None → IsTurned index (Ok tt) mid new passed_mid passed_after before cache_after last → IsRunning index (n + 1) old new passed passed_after cache_after last
  one_more live t = record {
    made = r.made ++ t.made;
    calls = on t.made t.calls;
    turns = more_by new.spent t.made live t.ends.turn;
    gate = through t.made t.gate;
    is_last = subst (λ (ks : List Key). EndsWith ks last) (sym (filter_map-append given_key r.made t.made))
        (last_more (keys_given r.made) (keys_given t.made) t.ends.key before last t.ends.keys r.is_last t.ends.is_last);
    sound = t.ends.sound;
  }

  -- a run in which memory runs out
  pub broken : (turns : ℕ) (e : NoMemory) → mid.spent ≡ None → n < turns → IsTurned index (Err e) mid new passed_mid passed_after before cache_after last →
      Runs index turns WantOfMemory old new passed passed_after cache_after
  broken turns e live below t = record {
    made = r.made ++ t.made;
    calls = on t.made t.calls;
    turns_made = inl (n, r.made, t.made, below, all_whole live, t.ends.0, refl);
    gate = through t.made t.gate;
    last = λ other. absurd (other refl);
  }

module _ (index turns : ℕ) (old new : Benched) (passed passed_after : List (As × ℕ)) where
  -- where the bench was spent before all turns were made
  pub cut : (n t : ℕ) (cache : Entries) (last : Option Job) → n ≤ turns → new.spent ≡ Some t → IsRunning index n old new passed passed_after cache last →
      IsRunning index turns old new passed passed_after cache last
  cut n t cache last within spent r =
      let stops : Stops index n r.made = subst (λ (s : Option ℕ). TurnsBy s index n r.made) spent r.turns in
      let wider : Stops index turns r.made = record {
        count = stops.count;
        whole = stops.whole;
        part = stops.part;
        within = let low = stops.within in omega arith;
        below = λ some. let low = stops.below some in omega arith;
        are_turns = stops.are_turns;
        cut = stops.cut;
        is = stops.is;
      } in
      record {
        made = r.made;
        calls = r.calls;
        turns = subst (λ (s : Option ℕ). TurnsBy s index turns r.made) (sym spent) wider;
        gate = r.gate;
        is_last = r.is_last;
        sound = r.sound;
      }

  module _ (cache kept : Entries) (last : Option Job) (r : IsRunning index turns old new passed passed_after cache last) where
    -- all turns
    pub whole : new.spent ≡ None → IfSome last (λ job. Has kept (key_of job.ask)) → Runs index turns Turns old new passed passed_after kept
    whole live has = record {
      made = r.made;
      calls = r.calls;
      turns_made = subst (λ (s : Option ℕ). TurnsBy s index turns r.made) live r.turns;
      gate = r.gate;
      last = λ other. has_kept (keys_given r.made) last kept r.is_last has;
    }

    -- a run that ends where the bench was spent
    pub spent_run : (t : ℕ) → new.spent ≡ Some t → IfSome last (λ job. Has kept (key_of job.ask)) → Runs index turns (Spent t) old new passed passed_after kept
    spent_run t spent has = record {
      made = r.made;
      calls = r.calls;
      turns_made = subst (λ (s : Option ℕ). TurnsBy s index turns r.made) spent r.turns;
      gate = r.gate;
      last = λ other. has_kept (keys_given r.made) last kept r.is_last has;
    }

    stops_by : (s : Option ℕ) → TurnsBy s index turns r.made → Stops index turns r.made
    stops_by None are = stops_behind index turns turns r.made (omega arith) are
    stops_by (Some t) stops = stops

    -- one whose last job found no memory
    pub unkept_run : Runs index turns WantOfMemory old new passed passed_after kept
    unkept_run = record {
      made = r.made;
      calls = r.calls;
      turns_made = inr (stops_by new.spent r.turns);
      gate = r.gate;
      last = λ other. absurd (other refl);
    }

-- a run that found no memory at its start
pub unbegun_run : (index turns : ℕ) (b : Benched) (passed : List (As × ℕ)) (cache : Entries) → Runs index turns WantOfMemory b b passed passed cache
unbegun_run index turns b passed cache = record {
  made = [];
  calls = sym (append-nil b.calls);
  turns_made = inr (stops_behind index 0 turns [] (omega arith) refl);
  gate = sym (append-nil passed);
  last = λ other. absurd (other refl);
}
