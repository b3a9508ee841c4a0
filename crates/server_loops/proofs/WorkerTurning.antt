-- One turn, by its parts.
use Rattle.std.proofs.Common.{◌≡◌, ◌≢◌, inl, inr, ℕ, List, [], ◌∷◌, ◌++◌, None, Some, Ok, Err, append_assoc, refl, sym, ◌∙◌, ap, subst}
use Rattle.std.specs.Prelude.{option_to_list}
use Rattle.std.specs.declared.option.Option.{Option}
use Rattle.std.specs.declared.result.Result.{Result}
use Rattle.std.proofs.lemmas.List.{append-nil}
use Rattle.std.proofs.lemmas.List.Elements.{filter_map-append}
use Rattle.dom_base.specs.declared.names.As.{As}
use Rattle.dom_base.specs.declared.names.NoMemory.{NoMemory}
use Rattle.pce_parent.specs.declared.work.Work.{Work}
use Rattle.pce_parent.specs.declared.work.Work.TheVariants.{Domain, Border}
use Rattle.pce_parent.specs.declared.work.Done.{Done}
use Rattle.border_costs.specs.declared.job.Job.{Job}
use Rattle.cost_cache.specs.Entries.{Entries}
use Rattle.cost_cache.specs.Keys.{key_of}
use Rattle.cost_cache.specs.declared.key.Key.{Key}
use Rattle.server_loops.specs.Benches.{Call, Ready, Look, Finish, Benched, Goes, IsOf, made_by}
use Rattle.server_loops.specs.WorkerTurns.{Asks, Follows, IsTurn, IsCut, given_job, given_key, jobs_given, keys_given, key_of_work}
use Rattle.server_loops.specs.WorkerSteps.{AreSound, IsLast, IsLive, OnlyAdds, AsksBy, FollowsBy, TurnBy, IsFound, IsFinished, IsTurned}
use Rattle.server_loops.specs.declared.benches.Finished.{Finished}
use Rattle.server_loops.specs.declared.benches.Finished.TheVariants.{Kept as Taken, Stranger, NoMemory as NoRoom}
use Rattle.server_loops.proofs.Righting.{sound_grows}

pub stays_of : (old new : Benched) (call : Call) → Goes old new call → OnlyAdds old new
stays_of old new call goes = record { topologies = goes.topologies; spent = goes.stays }

pub stays_on : (a b c : Benched) → OnlyAdds a b → OnlyAdds b c → OnlyAdds a c
stays_on a b c ab bc = record {
  topologies = λ at generation g is. bc.topologies at generation g (ab.topologies at generation g is);
  spent = λ t is. bc.spent t (ab.spent t is);
}

pub stays_here : (a : Benched) → OnlyAdds a a
stays_here a = record { topologies = λ at generation g is. is; spent = λ t is. is }

-- the calls of one part behind those of another
pub joined : (a b c : Benched) (xs ys : List Call) → b.calls ≡ a.calls ++ xs → c.calls ≡ b.calls ++ ys → c.calls ≡ a.calls ++ (xs ++ ys)
joined a b c xs ys first second = second ∙ ap (λ (cs : List Call). cs ++ ys) first ∙ append_assoc a.calls xs ys

-- a bench that is not spent
pub none_of : (s : Option ℕ) → ((t : ℕ) → s ≡ Some t → ⊥) → s ≡ None
none_of None live = refl
none_of (Some t) live = absurd (live t refl)

-- one call more, of a bench that is not spent
pub one_call : (old new : Benched) (call : Call) → Goes old new call → new.spent ≡ None → new.calls ≡ old.calls ++ call ∷ []
one_call old new call goes live = goes.calls ∙ ap (λ (s : Option ℕ). old.calls ++ made_by s call) live

-- and none of one that is
pub no_call : (old new : Benched) (call : Call) (t : ℕ) → Goes old new call → new.spent ≡ Some t → new.calls ≡ old.calls
no_call old new call t goes spent = goes.calls ∙ ap (λ (s : Option ℕ). old.calls ++ made_by s call) spent ∙ append-nil old.calls

-- one call
pub found_one : (index : ℕ) (old new : Benched) (job : As × ℕ) → Goes old new (Ready index (Some job)) → IsFound index old new (Some job)
found_one index old new job goes =
    let made : List Call = Ready index (Some job) ∷ [] in
    let live = none_of new.spent (λ t is. let idle : Some job ≡ None = goes.idle t is in cc) in
    record {
      made = made;
      calls = one_call old new (Ready index (Some job)) goes live;
      asks = subst (λ (s : Option ℕ). AsksBy s index made (Some job)) (sym live) (inl (job, refl, refl));
      stays = stays_of old new (Ready index (Some job)) goes;
      no_jobs = refl;
      no_keys = refl;
    }

module _ (index : ℕ) (old mid new : Benched) (found : Option (As × ℕ)) (first : Goes old mid (Ready index None)) (second : Goes mid new (Ready 0 found)) where
  abbrev both_stay : OnlyAdds old new
  both_stay = stays_on old mid new (stays_of old mid (Ready index None) first) (stays_of mid new (Ready 0 found) second)

  found_by : (m s : Option ℕ) → mid.spent ≡ m → new.spent ≡ s → IsFound index old new found
  found_by None None at is = record {
    made = Ready index None ∷ Ready 0 found ∷ [];
    calls = joined old mid new (Ready index None ∷ []) (Ready 0 found ∷ []) (one_call old mid (Ready index None) first at) (one_call mid new (Ready 0 found) second is);
    asks = subst (λ (s : Option ℕ). AsksBy s index (Ready index None ∷ Ready 0 found ∷ []) found) (sym is) (inr refl);
    stays = both_stay;
    no_jobs = refl;
    no_keys = refl;
  }
  found_by None (Some t) at is = record {
    made = Ready index None ∷ [];
    calls = no_call mid new (Ready 0 found) t second is ∙ one_call old mid (Ready index None) first at;
    asks = subst (λ (s : Option ℕ). AsksBy s index (Ready index None ∷ []) found) (sym is) (second.idle t is, inr refl);
    stays = both_stay;
    no_jobs = refl;
    no_keys = refl;
  }
  found_by (Some t) None at is = let both : None ≡ Some t = sym is ∙ second.stays t at in absurd (let no : ⊥ = cc in no)
  found_by (Some u) (Some t) at is = record {
    made = [];
    calls = no_call mid new (Ready 0 found) t second is ∙ no_call old mid (Ready index None) u first at ∙ sym (append-nil old.calls);
    asks = subst (λ (s : Option ℕ). AsksBy s index [] found) (sym is) (second.idle t is, inl refl);
    stays = both_stay;
    no_jobs = refl;
    no_keys = refl;
  }

  -- or two
  pub found_two : IsFound index old new found
  found_two = found_by mid.spent new.spent refl refl

-- a job that was not solved since memory ran out
pub unsolved : (work : Work) (b : Benched) (before : Option Job) (cache : Entries) (last : Option Job) (e : NoMemory) → IsLive b → IsFinished work (Err e) b b before cache last
unsolved work b before cache last e live = record {
  made = [];
  calls = sym (append-nil b.calls);
  stays = stays_here b;
  ends = (inl refl, live);
  no_jobs = refl;
  no_keys = refl;
}

-- a solution that found no room
pub no_room : (work : Work) (old new : Benched) (before : Option Job) (cache : Entries) (last : Option Job) (done : Done) (e : NoMemory) → IsOf done work → Goes old new (Finish done NoRoom) →
    IsFinished work (Err e) old new before cache last
no_room work old new before cache last done e is_of goes = record {
  made = Finish done NoRoom ∷ [];
  calls = one_call old new (Finish done NoRoom) goes (none_of new.spent (λ t is. let idle : NoRoom ≡ Stranger = goes.idle t is in cc));
  stays = stays_of old new (Finish done NoRoom) goes;
  ends = (inr (done, is_of, refl), λ t is. let idle : NoRoom ≡ Stranger = goes.idle t is in cc);
  no_jobs = refl;
  no_keys = refl;
}

-- one that was taken, came too late, or was not handed back since the bench is spent
module _ (work : Work) (old new : Benched) (before : Option Job) (cache : Entries) (last : Option Job) (done : Done) (answer : Finished) (is_of : IsOf done work) (room : answer ≢ NoRoom)
    (goes : Goes old new (Finish done answer)) (is_last : IsLast (key_of_work work) before last) (sound : AreSound old.topologies cache last) where
  back_by : (s : Option ℕ) → new.spent ≡ s → IsFinished work (Ok tt) old new before cache last
  back_by None is = let stays = stays_of old new (Finish done answer) goes in record {
    made = Finish done answer ∷ [];
    calls = one_call old new (Finish done answer) goes is;
    stays = stays;
    ends = (subst (λ (s : Option ℕ). FollowsBy s work (Finish done answer ∷ [])) (sym is) (done, answer, is_of, room, refl), is_last, sound_grows old new cache last stays sound);
    no_jobs = refl;
    no_keys = refl;
  }
  back_by (Some t) is = let stays = stays_of old new (Finish done answer) goes in record {
    made = [];
    calls = no_call old new (Finish done answer) t goes is ∙ sym (append-nil old.calls);
    stays = stays;
    ends = (subst (λ (s : Option ℕ). FollowsBy s work []) (sym is) ((done, is_of), refl), is_last, sound_grows old new cache last stays sound);
    no_jobs = refl;
    no_keys = refl;
  }

  pub handed_back : IsFinished work (Ok tt) old new before cache last
  handed_back = back_by new.spent refl

jobs_on : (xs ys : List Call) → jobs_given xs ≡ [] → jobs_given (xs ++ ys) ≡ jobs_given ys
jobs_on xs ys none = filter_map-append given_job xs ys ∙ ap (λ (js : List (As × ℕ)). js ++ jobs_given ys) none

keys_on : (xs ys : List Call) → keys_given xs ≡ [] → keys_given (xs ++ ys) ≡ keys_given ys
keys_on xs ys none = filter_map-append given_key xs ys ∙ ap (λ (ks : List Key). ks ++ keys_given ys) none

-- no job is ready
no_job : (index : ℕ) (s : Option ℕ) (made : List Call) → AsksBy s index made None → TurnBy s index made
no_job index None made asks = record { asked = made; found = None; asks = asks; rest = []; goes_on = refl; is = sym (append-nil made) }
no_job index (Some t) made asks =
    let twice : IsTurn index (Ready index None ∷ Ready 0 None ∷ []) = record { asked = Ready index None ∷ Ready 0 None ∷ []; found = None; asks = inr refl; rest = []; goes_on = refl; is = refl } in
    elim asks.1 [
      | inl none ↦ subst (λ (cs : List Call). IsCut index cs) (sym none) (Ready index None, Ready 0 None ∷ [], twice)
      | inr once ↦ subst (λ (cs : List Call). IsCut index cs) (sym once) (Ready 0 None, [], twice)
    ]

pub idle_turn : (index : ℕ) (old new : Benched) (passed : List (As × ℕ)) (cache : Entries) (last : Option Job) → IsFound index old new None → AreSound old.topologies cache last →
    IsTurned index (Ok tt) old new passed passed last cache last
idle_turn index old new passed cache last f sound = record {
  made = f.made;
  calls = f.calls;
  stays = f.stays;
  gate = sym (ap (λ (js : List (As × ℕ)). passed ++ js) f.no_jobs ∙ append-nil passed);
  ends = record {
    turn = no_job index new.spent f.made f.asks;
    key = None;
    keys = f.no_keys;
    is_last = refl;
    sound = sound_grows old new cache last f.stays sound;
  };
}

-- a bench that has a ready job is not spent
asks_of : (index : ℕ) (s : Option ℕ) (made : List Call) (job : As × ℕ) → AsksBy s index made (Some job) → Asks index made (Some job)
asks_of index None made job asks = asks
asks_of index (Some t) made job asks = let both : Some job ≡ None = asks.0 in absurd (let no : ⊥ = cc in no)

-- a turn up to a look
looked_turn : (index : ℕ) (made more : List Call) (job : As × ℕ) (answer : Result (Option Work) NoMemory) → Asks index made (Some job) → Follows answer more →
    IsTurn index (made ++ Look job.0 job.1 answer ∷ more)
looked_turn index made more job answer asks follows = record {
  asked = made;
  found = Some job;
  asks = asks;
  rest = Look job.0 job.1 answer ∷ more;
  goes_on = (record { answer = answer; rest = more; is = refl }, follows);
  is = refl;
}

-- the job is no longer ready
module _ (index : ℕ) (old mid new : Benched) (passed : List (As × ℕ)) (cache : Entries) (last : Option Job) (job : As × ℕ) (f : IsFound index old mid (Some job))
    (looked : Goes mid new (Look job.0 job.1 (Ok None))) (sound : AreSound old.topologies cache last) where
  abbrev none_there : Call
  none_there = Look job.0 job.1 (Ok None)

  abbrev stays_late : OnlyAdds old new
  stays_late = stays_on old mid new f.stays (stays_of mid new none_there looked)

  abbrev late : IsTurn index (f.made ++ none_there ∷ [])
  late = looked_turn index f.made [] job (Ok None) (asks_of index mid.spent f.made job f.asks) refl

  late_by : (s : Option ℕ) → new.spent ≡ s → IsTurned index (Ok tt) old new passed passed last cache last
  late_by None is = record {
    made = f.made ++ none_there ∷ [];
    calls = joined old mid new f.made (none_there ∷ []) f.calls (one_call mid new none_there looked is);
    stays = stays_late;
    gate = sym (ap (λ (js : List (As × ℕ)). passed ++ js) (jobs_on f.made (none_there ∷ []) f.no_jobs) ∙ append-nil passed);
    ends = record {
      turn = subst (λ (s : Option ℕ). TurnBy s index (f.made ++ none_there ∷ [])) (sym is) late;
      key = None;
      keys = keys_on f.made (none_there ∷ []) f.no_keys;
      is_last = refl;
      sound = sound_grows old new cache last stays_late sound;
    };
  }
  late_by (Some t) is = record {
    made = f.made;
    calls = no_call mid new none_there t looked is ∙ f.calls;
    stays = stays_late;
    gate = sym (ap (λ (js : List (As × ℕ)). passed ++ js) f.no_jobs ∙ append-nil passed);
    ends = record {
      turn = subst (λ (s : Option ℕ). TurnBy s index f.made) (sym is) (none_there, [], late);
      key = None;
      keys = f.no_keys;
      is_last = refl;
      sound = sound_grows old new cache last stays_late sound;
    };
  }

  pub late_turn : IsTurned index (Ok tt) old new passed passed last cache last
  late_turn = late_by new.spent refl

-- there was no memory for the job
pub broken_look : (index : ℕ) (old mid new : Benched) (passed : List (As × ℕ)) (cache : Entries) (last : Option Job) (job : As × ℕ) (e : NoMemory) → IsFound index old mid (Some job) →
    Goes mid new (Look job.0 job.1 (Err e)) → IsTurned index (Err e) old new passed passed last cache last
broken_look index old mid new passed cache last job e f looked =
    let look = Look job.0 job.1 (Err e) in
    let live : IsLive new = λ t is. let idle : Err e ≡ Ok None = looked.idle t is in cc in
    record {
      made = f.made ++ look ∷ [];
      calls = joined old mid new f.made (look ∷ []) f.calls (one_call mid new look looked (none_of new.spent live));
      stays = stays_on old mid new f.stays (stays_of mid new look looked);
      gate = sym (ap (λ (js : List (As × ℕ)). passed ++ js) (jobs_on f.made (look ∷ []) f.no_jobs) ∙ append-nil passed);
      ends = (
        record {
          asked = f.made;
          job = job;
          asks = asks_of index mid.spent f.made job f.asks;
          rest = look ∷ [];
          looks = record { answer = Err e; rest = []; is = refl };
          breaks = refl;
          is = refl;
        },
        live,
      );
    }

-- a bench that gave a job is not spent
pub live : (mid new : Benched) (job : As × ℕ) (work : Work) → Goes mid new (Look job.0 job.1 (Ok (Some work))) → IsLive new
live mid new job work looked t is = let idle : Ok (Some work) ≡ Ok None = looked.idle t is in cc

key_list : (work : Work) (rest : List Call) (job : As × ℕ) → keys_given rest ≡ [] →
    keys_given (Look job.0 job.1 (Ok (Some work)) ∷ rest) ≡ option_to_list (key_of_work work)
key_list (Domain d) rest job none = ap (λ (ks : List Key). key_of d.ask ∷ ks) none
key_list (Border d) rest job none = none

module _ (index : ℕ) (old mid looked_at new : Benched) (passed : List (As × ℕ)) (before : Option Job) (cache : Entries) (last : Option Job) (job : As × ℕ) (work : Work)
    (f : IsFound index old mid (Some job)) (looked : Goes mid looked_at (Look job.0 job.1 (Ok (Some work)))) where
  abbrev look : Call
  look = Look job.0 job.1 (Ok (Some work))

  abbrev looked_calls : looked_at.calls ≡ old.calls ++ (f.made ++ look ∷ [])
  looked_calls = joined old mid looked_at f.made (look ∷ []) f.calls (one_call mid looked_at look looked (none_of looked_at.spent (live mid looked_at job work looked)))

  abbrev asked_first : Asks index f.made (Some job)
  asked_first = asks_of index mid.spent f.made job f.asks

  finished_by : (s : Option ℕ) (made : List Call) → FollowsBy s work made → TurnBy s index (f.made ++ (look ∷ made))
  finished_by None made follows = looked_turn index f.made made job (Ok (Some work)) asked_first follows
  finished_by (Some t) made follows =
      let done = follows.0.0 in
      let full : IsTurn index (f.made ++ (look ∷ Finish done Taken ∷ [])) = looked_turn index f.made (Finish done Taken ∷ []) job (Ok (Some work)) asked_first (done, Taken, follows.0.1, (λ is. let no : Taken ≡ NoRoom = is in cc), refl) in
      subst (λ (cs : List Call). IsCut index (f.made ++ (look ∷ cs))) (sym follows.1)
      (Finish done Taken, [], subst (λ (cs : List Call). IsTurn index cs) (sym (append_assoc f.made (look ∷ []) (Finish done Taken ∷ []))) full)

  abbrev on_calls : (made : List Call) → new.calls ≡ looked_at.calls ++ made → new.calls ≡ old.calls ++ (f.made ++ (look ∷ made))
  on_calls made is = joined old looked_at new (f.made ++ look ∷ []) made looked_calls is ∙ ap (λ (cs : List Call). old.calls ++ cs) (append_assoc f.made (look ∷ []) made)

  -- a job that was given is finished, or there was no memory
  pub full_turn : (end : Result (Unit {0}) NoMemory) → IsFinished work end looked_at new before cache last → IsTurned index end old new passed (passed ++ job ∷ []) before cache last
  full_turn (Ok u) d = record {
    made = f.made ++ (look ∷ d.made);
    calls = on_calls d.made d.calls;
    stays = stays_on old looked_at new (stays_on old mid looked_at f.stays (stays_of mid looked_at look looked)) d.stays;
    gate = sym (ap (λ (js : List (As × ℕ)). passed ++ js) (jobs_on f.made (look ∷ d.made) f.no_jobs ∙ ap (λ (js : List (As × ℕ)). job ∷ js) d.no_jobs));
    ends = record {
      turn = finished_by new.spent d.made d.ends.0;
      key = key_of_work work;
      keys = keys_on f.made (look ∷ d.made) f.no_keys ∙ key_list work d.made job d.no_keys;
      is_last = d.ends.1;
      sound = d.ends.2;
    };
  }
  full_turn (Err e) d = record {
    made = f.made ++ (look ∷ d.made);
    calls = on_calls d.made d.calls;
    stays = stays_on old looked_at new (stays_on old mid looked_at f.stays (stays_of mid looked_at look looked)) d.stays;
    gate = sym (ap (λ (js : List (As × ℕ)). passed ++ js) (jobs_on f.made (look ∷ d.made) f.no_jobs ∙ ap (λ (js : List (As × ℕ)). job ∷ js) d.no_jobs));
    ends = (
      record {
        asked = f.made;
        job = job;
        asks = asked_first;
        rest = look ∷ d.made;
        looks = record { answer = Ok (Some work); rest = d.made; is = refl };
        breaks = d.ends.0;
        is = refl;
      },
      d.ends.1,
    );
  }
