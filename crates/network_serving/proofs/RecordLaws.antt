-- What is handed out at a seat, and what a record is told of it.
use Rattle.std.proofs.Common.{inl, inr, ◌≡◌, ◌∙◌, ◌⊎◌, ℕ, List, [], ◌∷◌, ◌++◌, Option, Some, None, Ok, Err, ap, append-nil, append_assoc, refl, subst, sym}
use Rattle.std.specs.declared.result.Result.{Result}
use Rattle.std.proofs.lemmas.List.Elements.{filter_map-append}
use Rattle.plant_text.specs.declared.settings.ElementRow.{ElementRow}
use Rattle.event_tape.specs.Tapes.{Taped, end_after, ended_by}
use Rattle.event_tape.specs.declared.tape.TapeEnd.{TapeEnd}
use Rattle.event_tape.specs.declared.tape.TapeEnd.TheVariants.{Behind, NoMemory}
use Rattle.event_tape.specs.declared.tape.Handed.{Handed as HandedOut}
use Rattle.event_tape.specs.declared.told.Told.{Told}
use Rattle.kept_plant.specs.Handing.{hand_of, hands_in}
use Rattle.kept_plant.specs.Tellings.{Folds, IsToldOpen, IsToldTo}
use Rattle.kept_plant.specs.declared.acts.KeptAct.{KeptAct}
use Rattle.kept_plant.specs.declared.acts.KeptAct.TheVariants.{Hand, Stop}
use Rattle.kept_plant.specs.declared.acts.KeptAnswer.{KeptAnswer}
use Rattle.kept_plant.specs.declared.acts.KeptAnswer.TheVariants.{Handed, Stopped}
use Rattle.plant_network.specs.Whole.{Whole}
use Rattle.plant_network.specs.plant_model.declared.event.Event.TheVariants.{Load}
use Rattle.plant_record.specs.Hands.{Goes, Hands}
use Rattle.plant_record.specs.Recording.{HasCause, Records}
use Rattle.plant_record.specs.declared.recorded.Recorded.{Recorded}
use Rattle.plant_record.specs.declared.recorded.Recorded.TheVariants as recorded
use Rattle.turn_desk.specs.Seats.{IsHand, IsStop, Seated}
use Rattle.network_serving.specs.Records.{AreFirst, IsFirst, IsLeft, IsNoRecord, IsPushedFirst, hands_at}
use Rattle.network_serving.specs.declared.served.Served.{Served}
use Rattle.network_serving.specs.declared.served.Served.TheVariants as served

-- one entry more at a seat
entry_more : (old new : List (KeptAct × KeptAnswer)) (e : KeptAct × KeptAnswer) → new ≡ old ++ e ∷ [] → hands_in new ≡ hands_in old ++ hands_in (e ∷ [])
entry_more old new e is = ap hands_in is ∙ filter_map-append (λ (x : KeptAct × KeptAnswer). hand_of x.0 x.1) old (e ∷ [])

-- what the tape hands out
pub hand_goes : (old new : Seated) (empty : List Told) (r : Result HandedOut ℕ) → IsHand empty r old new → Goes (hands_at old) (hands_at new) r
hand_goes old new empty (Ok h) e = (entry_more old.own new.own (Hand empty, Handed h) e.own, e.spent.1)
hand_goes old new empty (Err t) k = (ap hands_in k.own, k.spent)

-- the end of the tape hands out nothing
pub stop_stays : (old new : Seated) (r : Result (Unit {0}) ℕ) → IsStop r old new → (hands_at new).hands ≡ (hands_at old).hands
stop_stays old new (Ok done) e = entry_more old.own new.own (Stop, Stopped) e.own ∙ append-nil (hands_in old.own)
stop_stays old new (Err t) k = ap hands_in k.own

stop_last : (old new : Seated) (r : Result (Unit {0}) ℕ) → IsStop r old new → ((front : List (KeptAct × KeptAnswer)) × (new.own ≡ front ++ (Stop, Stopped) ∷ [])) ⊎ ((number : ℕ) × (new.spent ≡ Some number))
stop_last old new (Ok done) e = inl (old.own, e.own)
stop_last old new (Err number) k = inr (number, k.spent)

-- behind it the tape takes nothing more
pub stop_left : (old new : Seated) (r : Result (Unit {0}) ℕ) (end : Recorded) → IsStop r old new → IsLeft end new
stop_left old new r (recorded.Ended why) is = tt
stop_left old new r recorded.Turns is = stop_last old new r is
stop_left old new r (recorded.Spent number) is = stop_last old new r is
stop_left old new r recorded.Lost is = stop_last old new r is
stop_left old new r (recorded.Fault why) is = stop_last old new r is

-- a desk that is spent stays so
pub stop_spent : (old new : Seated) (r : Result (Unit {0}) ℕ) → IsStop r old new → (t : ℕ) → old.spent ≡ Some t → new.spent ≡ Some t
stop_spent old new (Ok done) e t was = absurd (let none : Some t ≡ None = sym was ∙ e.spent.0 in let no : ⊥ = cc in no)
stop_spent old new (Err number) k t was = k.spent ∙ ap (λ (n : ℕ). Some n) (sym (k.stays t was))

-- ---- what was written, and then the tape was ended

cause_stays : {F : Type 0} (faults : F → ℕ) (before now turns events : ℕ) (hands stray : List HandedOut) (mid new : Option ℕ) (end : Recorded) → ((t : ℕ) → mid ≡ Some t → new ≡ Some t) →
    HasCause faults before now turns (record { events = events; hands = hands; stray = stray; spent = mid }) end → HasCause faults before now turns (record { events = events; hands = hands; stray = stray; spent = new }) end
cause_stays faults before now turns events hands stray mid new (recorded.Ended why) still is = is
cause_stays faults before now turns events hands stray mid new recorded.Turns still is = is
cause_stays faults before now turns events hands stray mid new (recorded.Spent t) still is = (is.0, still t is.1)
cause_stays faults before now turns events hands stray mid new recorded.Lost still is = is
cause_stays faults before now turns events hands stray mid new (recorded.Fault why) still is = is

pub records_still : {F : Type 0} (faults : F → ℕ) (before now turns events : ℕ) (end : Recorded) (old mid new : Hands) (Then : List Told → Type 0) →
    Records faults before now turns events end old mid Then → new.hands ≡ mid.hands → ((t : ℕ) → mid.spent ≡ Some t → new.spent ≡ Some t) → Records faults before now turns events end old new Then
records_still faults before now turns events end old mid new Then r same still = record {
  hands = r.hands;
  stray = r.stray;
  handed = same ∙ r.handed;
  are_whole = r.are_whole;
  later = r.later;
  cause = cause_stays faults before now turns events r.hands r.stray mid.spent new.spent end still r.cause;
  comes = r.comes;
}

-- ---- no record

pub want_record : (Reason : Type 0) (s : Served) → s ≡ served.NoMemory → IsNoRecord Reason s
want_record Reason s is = subst (IsNoRecord Reason) (sym is) tt

-- there is none for a reason that there is
pub record_lacks : (Reason : Type 0) (s : Served) → Reason → IsNoRecord (Unit {0}) s → IsNoRecord Reason s
record_lacks Reason (served.NoRecord name) why is = why
record_lacks Reason served.NoMemory why is = tt
record_lacks Reason served.Turns why is = absurd is
record_lacks Reason served.Stopped why is = absurd is
record_lacks Reason served.ReadFault why is = absurd is
record_lacks Reason (served.TooLarge file) why is = absurd is
record_lacks Reason (served.BadNetwork file line fault) why is = absurd is
record_lacks Reason (served.NoPort port) why is = absurd is
record_lacks Reason served.NoThread why is = absurd is

-- ---- the tape at the beginning

-- a row that names no topology
pub no_first : (w : Whole) (row : ElementRow) (tape : Taped) → row.topology ≡ None → IsPushedFirst w row tape tape
no_first w row tape none = ([], subst (λ (o : Option (List ℕ)). IsFirst w row.own o []) (sym none) refl, ap (λ (items : List Told). record tape { items = items }) (sym (append-nil tape.items)))

-- a tape that was ended is not open
not_open : (why : TapeEnd) (tape new : Taped) → tape.ended ≡ None → new ≡ ended_by why tape → new.ended ≡ None → ⊥
not_open why tape new was is now =
    let some : new.ended ≡ Some (end_after tape.ended why) = ap (λ (t : Taped). t.ended) is in
    let none : Some (end_after tape.ended why) ≡ None = sym some ∙ now in cc

-- a row whose topology is told
pub one_first : (w : Whole) (row : ElementRow) (name : List ℕ) (tape new : Taped) → tape.ended ≡ None → new.ended ≡ None → row.topology ≡ Some name → Folds (Some (Load row.own (w.state.current row.own).topology)) tape new → IsPushedFirst w row tape new
one_first w row name tape new was now some folds = go (subst (λ (o : Option TapeEnd). IsToldTo o (Load row.own (w.state.current row.own).topology) tape new) was folds)
  where
    go : IsToldOpen (Load row.own (w.state.current row.own).topology) tape new → IsPushedFirst w row tape new
    go (inl told) = (told.0 ∷ [], subst (λ (o : Option (List ℕ)). IsFirst w row.own o (told.0 ∷ [])) (sym some) (told.0, refl, told.1), told.3)
    go (inr (inl full)) = absurd (not_open Behind tape new was full.1 now)
    go (inr (inr lack)) = absurd (not_open NoMemory tape new was lack now)

-- rows one after the other
pub first_none : (w : Whole) → AreFirst w [] []
first_none w = refl

pub first_more : (w : Whole) (rows : List ElementRow) (row : ElementRow) (items first : List Told) → AreFirst w rows items → IsFirst w row.own row.topology first → AreFirst w (rows ++ row ∷ []) (items ++ first)
first_more w [] row items first are is = (first, [], ap (λ (xs : List Told). xs ++ first) are ∙ sym (append-nil first), is, refl)
first_more w (r ∷ rows) row items first are is = (are.0, are.1 ++ first, ap (λ (xs : List Told). xs ++ first) are.2 ∙ append_assoc are.0 are.1 first, are.3, first_more w rows row are.1 first are.4 is)
