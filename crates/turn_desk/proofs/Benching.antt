-- What a worker's bench notes is what its desk did, but for questions.
use Rattle.std.proofs.Common.{◌≡◌, ◌∙◌, ℕ, List, [], ◌∷◌, ◌++◌, ap, sym, refl, subst, append-nil, append_assoc, Option, Some, None, Ok, Err}
use Rattle.std.specs.Prelude.{Contains, IfOk, IfSome, Result}
use Rattle.std.specs.List.{AllByRecursion}
use Rattle.std.proofs.lemmas.List.Elements.{filter_map-append}
use Rattle.plant_network.specs.plant_model.Types.{As, NoMemory}
use Rattle.plant_network.specs.declared.acts.Act.{Act}
use Rattle.plant_network.specs.declared.acts.Act.TheVariants.{Next}
use Rattle.plant_network.specs.declared.acts.Acted.TheVariants as acted
use Rattle.plant_network.specs.declared.acts.ActAnswer.{ActAnswer}
use Rattle.plant_network.specs.pce_element.pce_common.declared.rounds.AskedJob.{AskedJob}
use Rattle.plant_network.specs.pce_element.pce_common.declared.rounds.Behind.{Behind}
use Rattle.plant_network.specs.pce_parent.declared.work.Done.{Done}
use Rattle.plant_network.specs.pce_parent.declared.work.Work.{Work}
use Rattle.plant_network.specs.pce_parent.declared.work.Work.TheVariants as work
use Rattle.server_loops.specs.Benches as bench
use Rattle.server_loops.specs.Benches.{Call}
use Rattle.server_loops.proofs.Turning.{all_on}
use Rattle.te_links.specs.Rows.{Rows}
use Rattle.turn_desk.specs.Desks.{IsTurn, Rests, Stand, benched_of}
use Rattle.turn_desk.specs.Works.{AreAsked, AreDone, Finds, IsAnswer, IsQuestion, job_at, noted_calls, work_call, worked_of, works}
use Rattle.turn_desk.specs.declared.notes.Note.{Note}
use Rattle.turn_desk.proofs.Found.{picked_from, picked_in}
use Rattle.turn_desk.proofs.Turning.{no_call_of, none_spent, rests_calls, rests_known, rests_still, still_known, turn_still}

pub works_more : (calls made : List Call) → works (calls ++ made) ≡ works calls ++ works made
works_more calls made = filter_map-append work_call calls made

-- a question is no work
pub no_question : (s : Option ℕ) (k : ℕ) (answer : Option (As × ℕ)) → works (bench.made_by s (bench.Ready k answer)) ≡ []
no_question None k answer = refl
no_question (Some n) k answer = refl

-- ---- questions

pub none_asked : (s : Stand) → AreAsked s s
none_asked s = record {
  made = [];
  own = sym (append-nil s.own);
  each = tt;
  no_work = refl;
  topologies = λ at generation g known. known;
  stays = λ n is. is;
  still = λ first at. at;
}

-- questions behind others
abbrev pub asked_on : (old mid new : Stand) → AreAsked old mid → AreAsked mid new → AreAsked old new
asked_on old mid new a b = record {
  made = a.made ++ b.made;
  own = b.own ∙ ap (λ (es : List (Act × ActAnswer)). es ++ b.made) a.own ∙ append_assoc old.own a.made b.made;
  each = all_on IsQuestion a.made b.made a.each b.each;
  no_work = b.no_work ∙ a.no_work;
  topologies = λ at generation g known. b.topologies at generation g (a.topologies at generation g known);
  stays = λ n was. b.stays n (a.stays n was);
  still = λ first at. b.still first (a.still first at);
}

answer_on : (answer : Option (As × ℕ)) (before made : List (Act × ActAnswer)) → IsAnswer answer made → IsAnswer answer (before ++ made)
answer_on None before made is = tt
answer_on (Some job) before made is = record {
  before = before ++ is.before;
  behind = is.behind;
  asked = is.asked;
  turn = is.turn;
  is = ap (λ (es : List (Act × ActAnswer)). before ++ es) is.is ∙ sym (append_assoc before is.before ((Next job.0 is.behind, is.turn) ∷ []));
  found = is.found;
  number = is.number;
}

pub found_on : (old mid new : Stand) (answer : Option (As × ℕ)) → AreAsked old mid → Finds answer mid new → Finds answer old new
found_on old mid new answer a f = record {
  asked = asked_on old mid new a f.asked;
  answered = answer_on answer a.made f.asked.made f.answered;
  idle = f.idle;
}

-- the answer to one question
job_found : (d : As) (behind : Behind) (turn : ActAnswer) (answer : Option AskedJob) → turn.acted ≡ acted.Next answer → IsAnswer (job_at d answer) ((Next d behind, turn) ∷ [])
job_found d behind turn None is = tt
job_found d behind turn (Some job) is = record { before = []; behind = behind; asked = job; turn = turn; is = refl; found = is; number = refl }

pub one_told : (d : As) (behind : Behind) (answer : Option AskedJob) (old new : Stand) → IsTurn (Next d behind) (Ok (acted.Next answer)) old new → Finds (job_at d answer) old new
one_told d behind answer old new t = record {
  asked = record {
    made = (Next d behind, t.0) ∷ [];
    own = t.2.own;
    each = ((d, behind, answer, refl, t.1), tt);
    no_work = ap works (no_call_of (Next d behind) (acted.Next answer) old new t refl);
    topologies = λ at generation g known. still_known old new (Next d behind) t.0 t.2 at generation g known;
    stays = λ n was. absurd (none_spent n old.spent t.2.spent.0 was);
    still = turn_still old new (Next d behind) (Ok (acted.Next answer)) t;
  };
  answered = job_found d behind t.0 answer t.1;
  idle = λ n now. absurd (none_spent n new.spent t.2.spent.1 now);
}

pub none_told : (d : As) (number : ℕ) (old new : Stand) → Rests old new number → Finds None old new
none_told d number old new r = record {
  asked = record {
    made = [];
    own = r.own ∙ sym (append-nil old.own);
    each = tt;
    no_work = ap works (rests_calls old new number r);
    topologies = λ at generation g known. rests_known old new number r at generation g known;
    stays = λ n was. r.spent ∙ ap (λ (m : ℕ). Some m) (sym (r.stays n was));
    still = rests_still old new number r;
  };
  answered = tt;
  idle = λ n now. refl;
}

pub none_found : (old new : Stand) → AreAsked old new → Finds None old new
none_found old new a = record { asked = a; answered = tt; idle = λ n spent. refl }

-- ---- notes

-- a call that its desk made, and that is noted
module _ (old new : Stand) (notes more : List Note) (c : Call) (noted : noted_calls more ≡ noted_calls notes ++ bench.made_by new.spent c) where
  pub noted_goes : bench.Goes (benched_of old) (benched_of new) c → bench.Goes (worked_of old notes) (worked_of new more) c
  noted_goes goes = record { calls = noted; topologies = goes.topologies; stays = goes.stays; idle = goes.idle }

  pub noted_done : AreDone old notes → bench.Goes (benched_of old) (benched_of new) c → AreDone new more
  noted_done done goes =
      ap works noted ∙ works_more (noted_calls notes) (bench.made_by new.spent c) ∙ ap (λ (cs : List Call). cs ++ works (bench.made_by new.spent c)) done
      ∙ sym (works_more (benched_of old).calls (bench.made_by new.spent c)) ∙ ap works (sym goes.calls)

-- an answer to questions, which is noted as one
module _ (old new : Stand) (notes more : List Note) (k : ℕ) (answer : Option (As × ℕ)) (noted : noted_calls more ≡ noted_calls notes ++ bench.made_by new.spent (bench.Ready k answer)) where
  pub found_goes : Finds answer old new → bench.Goes (worked_of old notes) (worked_of new more) (bench.Ready k answer)
  found_goes found = record { calls = noted; topologies = found.asked.topologies; stays = found.asked.stays; idle = found.idle }

  pub found_done : AreDone old notes → Finds answer old new → AreDone new more
  found_done done found =
      ap works noted ∙ works_more (noted_calls notes) (bench.made_by new.spent (bench.Ready k answer))
      ∙ ap (λ (cs : List Call). works (noted_calls notes) ++ cs) (no_question new.spent k answer) ∙ append-nil (works (noted_calls notes)) ∙ done ∙ sym found.asked.no_work

-- ---- what the desk is asked for

given_too : (s : Stand) (notes : List Note) (job : Work) → bench.IsGiven (benched_of s) job → bench.IsGiven (worked_of s notes) job
given_too s notes (work.Domain j) given = given
given_too s notes (work.Border j) given = given

pub looked_given : (s : Stand) (notes : List Note) (answer : Result (Option Work) NoMemory) → IfOk answer (λ found. IfSome found (bench.IsGiven (benched_of s))) → IfOk answer (λ found. IfSome found (bench.IsGiven (worked_of s notes)))
looked_given s notes (Ok (Some job)) given = given_too s notes job given
looked_given s notes (Ok None) given = tt
looked_given s notes (Err why) given = tt

is_work : (c d : Call) → work_call c ≡ Some d → c ≡ d
is_work (bench.Ready k answer) d is = absurd (let no : ⊥ = cc in no)
is_work (bench.Look at number answer) d is = let same : bench.Look at number answer ≡ d = cc in same
is_work (bench.Finish x answer) d is = let same : bench.Finish x answer ≡ d = cc in same

pub was_given : (s : Stand) (notes : List Note) (x : Done) → AreDone s notes → bench.WasGiven (worked_of s notes) x → bench.WasGiven (benched_of s) x
was_given s notes x done given =
    let c : Call = bench.Look given.at given.number (Ok (Some given.work)) in
    let found = picked_from work_call (benched_of s).calls c (subst (λ (cs : List Call). Contains cs c) done (picked_in work_call (noted_calls notes) c c given.looked refl)) in
    record {
      at = given.at;
      number = given.number;
      work = given.work;
      looked = subst (λ (d : Call). Contains (benched_of s).calls d) (is_work found.0 c found.2) found.1;
      is_of = given.is_of;
    }
