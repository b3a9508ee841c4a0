-- What is seen at the lock of a server that writes a record is a day.
use Rattle.std.proofs.Common.{◌≡◌, ◌≢◌, ◌∙◌, ℕ, suc, true, List, [], ◌∷◌, ◌++◌, map, reverse, Option, Some, None, AllPairs, sym, ap, subst, arith}
use Rattle.std.specs.List.{AllByRecursion, cons_option}
use Rattle.std.specs.Option.{option_map}
use Rattle.std.proofs.lemmas.List.{map-append, reverse-reverse}
use Rattle.std.proofs.lemmas.List.Elements.{recursion_from_All}
use Rattle.te_links.specs.Rows.{Rows}
use Rattle.plant_text.specs.declared.settings.ElementRow.{ElementRow}
use Rattle.plant_text.proofs.SettingLaws.{rules_are_worth}
use Rattle.event_tape.specs.Tapes.{event_of}
use Rattle.event_tape.specs.declared.told.Told.{Told}
use Rattle.plant_lock.specs.Views.{LegalFrom}
use Rattle.plant_network.specs.Topologies.{Held, whole}
use Rattle.plant_network.specs.Whole.{Whole}
use Rattle.plant_network.specs.plant_model.Types.{As}
use Rattle.plant_network.specs.plant_model.declared.event.Event.{Event}
use Rattle.plant_network.specs.plant_model.declared.event.Event.TheVariants as event
use Rattle.plant_network.specs.plant_model.Plant.{Run}
use Rattle.plant_network.specs.plant_model.RealWire.{wire}
use Rattle.kept_plant.specs.Turns.{KeptAdmits, KeptAllows, kept_after, kept_of}
use Rattle.kept_plant.specs.declared.kept.KeptPlant.{KeptPlant}
use Rattle.turn_desk.specs.Desks.{Stand}
use Rattle.turn_desk.specs.Histories.{plant_at}
use Rattle.network_serving.specs.Loaded.{IsLoaded, Load, named, place_of}
use Rattle.network_serving.specs.Records.{AreFirst, HasTapeOf, IsFirst, IsTapeOf}
use Rattle.record_laws.proofs.Replaying.{rules_hold}
use Rattle.serving_laws.specs.Opening.{ServersHaveDays}
use Rattle.serving_laws.proofs.Loads.{AllDiffer, AreCurrent, DifferFrom, differ_reversed, events_reversed, all_reversed, loaded, loads_current, loads_told}

-- ---- elements differ, so do loads

abbrev OwnDiffers : As → List ElementRow → Type 0
OwnDiffers d rows = AllByRecursion (λ (r : ElementRow). d ≢ r.own) rows

abbrev RowsDiffer : List ElementRow → Type 0
RowsDiffer [] = Unit {0}
RowsDiffer (r ∷ rows) = OwnDiffers r.own rows × RowsDiffer rows

rows_differ : (rows : List ElementRow) → AllPairs (λ (d e : ElementRow). d.own ≢ e.own) rows → RowsDiffer rows
rows_differ [] pairs = tt
rows_differ (r ∷ rows) pairs = (
  recursion_from_All (λ (e : ElementRow). r.own ≢ e.own) rows (λ k d lt. pairs 0 (suc k) d (omega arith) (omega arith)),
  rows_differ rows (λ i j d lt len. pairs (suc i) (suc j) d (omega arith) (omega arith)),
)

place_head : (p q : As × List ℕ) (ps qs : List (As × List ℕ)) → (p ∷ ps) ≡ (q ∷ qs) → p ≡ q
place_head p q ps qs e = cc

place_tail : (p q : As × List ℕ) (ps qs : List (As × List ℕ)) → (p ∷ ps) ≡ (q ∷ qs) → ps ≡ qs
place_tail p q ps qs e = cc

no_place : {X : Type 0} → (p : As × List ℕ) (ps : List (As × List ℕ)) → [] ≡ (p ∷ ps) → X
no_place p ps e = cc

place_at : As → Option (List ℕ) → Option (As × List ℕ)
place_at own name = option_map (λ (file : List ℕ). (own, file)) name

-- the loads of rows that an element is none of
loads_from : (d : As) (rows : List ElementRow) (ls : List Load) → OwnDiffers d rows → map place_of ls ≡ named rows → DifferFrom d ls
loads_from d [] [] differ are = tt
loads_from d [] (l ∷ ls) differ are = no_place (place_of l) (map place_of ls) (sym are)
loads_from d (r ∷ rows) ls differ are = by r.topology ls (λ ms same. loads_from d rows ms differ.1 same) are
  where
    by : (o : Option (List ℕ)) (ls : List Load) → ((ms : List Load) → map place_of ms ≡ named rows → DifferFrom d ms) → map place_of ls ≡ cons_option (option_map (λ (file : List ℕ). (r.own, file)) o) (named rows) → DifferFrom d ls
    by None ls on are = on ls are
    by (Some name) [] on are = no_place (r.own, name) (named rows) are
    by (Some name) (l ∷ ls) on are =
        let at : l.at ≡ r.own = ap (λ (p : As × List ℕ). p.0) (place_head (place_of l) (r.own, name) (map place_of ls) (named rows) are) in
        (λ same. differ.0 (same ∙ at), on ls (place_tail (place_of l) (r.own, name) (map place_of ls) (named rows) are))

loads_differ : (rows : List ElementRow) (ls : List Load) → RowsDiffer rows → map place_of ls ≡ named rows → AllDiffer ls
loads_differ [] [] differ are = tt
loads_differ [] (l ∷ ls) differ are = no_place (place_of l) (map place_of ls) (sym are)
loads_differ (r ∷ rows) ls differ are = by r.topology ls (λ ms same. loads_differ rows ms differ.1 same) are
  where
    by : (o : Option (List ℕ)) (ls : List Load) → ((ms : List Load) → map place_of ms ≡ named rows → AllDiffer ms) → map place_of ls ≡ cons_option (option_map (λ (file : List ℕ). (r.own, file)) o) (named rows) → AllDiffer ls
    by None ls on are = on ls are
    by (Some name) [] on are = no_place (r.own, name) (named rows) are
    by (Some name) (l ∷ ls) on are =
        let at : l.at ≡ r.own = ap (λ (p : As × List ℕ). p.0) (place_head (place_of l) (r.own, name) (map place_of ls) (named rows) are) in
        let rest : map place_of ls ≡ named rows = place_tail (place_of l) (r.own, name) (map place_of ls) (named rows) are in
        (loads_from l.at rows ls (subst (λ (d : As). OwnDiffers d rows) (sym at) differ.0) rest, on ls rest)

-- ---- the first events

module _ (w : Whole) where
  first_are : (rows : List ElementRow) (ls : List Load) (items : List Told) → map place_of ls ≡ named rows → AreCurrent w.state ls → AreFirst w rows items → map event_of items ≡ map loaded ls
  first_are [] [] items are current first = ap (map event_of) first
  first_are [] (l ∷ ls) items are current first = no_place (place_of l) (map place_of ls) (sym are)
  first_are (r ∷ rows) ls items are current first =
      ap (map event_of) first.2 ∙ map-append event_of first.0 first.1
      ∙ by r.topology ls first.0 first.3 (λ ms same now. first_are rows ms first.1 same now first.4) are current
    where
      by : (o : Option (List ℕ)) (ls : List Load) (front : List Told) → IsFirst w r.own o front → ((ms : List Load) → map place_of ms ≡ named rows → AreCurrent w.state ms → map event_of first.1 ≡ map loaded ms)
          → map place_of ls ≡ cons_option (option_map (λ (file : List ℕ). (r.own, file)) o) (named rows) → AreCurrent w.state ls → map event_of front ++ map event_of first.1 ≡ map loaded ls
      by None ls front is on are current = ap (λ (es : List Told). map event_of es ++ map event_of first.1) is ∙ on ls are current
      by (Some name) [] front is on are current = no_place (r.own, name) (named rows) are
      by (Some name) (l ∷ ls) front is on are current =
          let at : l.at ≡ r.own = ap (λ (p : As × List ℕ). p.0) (place_head (place_of l) (r.own, name) (map place_of ls) (named rows) are) in
          let here : event_of is.0 ≡ loaded l = is.2 ∙ ap (λ (d : As). event.Load d (w.state.current d).topology) (sym at) ∙ ap (λ (g : Rows). event.Load l.at g) current.0 in
          ap (λ (es : List Told). map event_of es ++ map event_of first.1) is.1
          ∙ ap (λ (v : Event). v ∷ map event_of first.1) here
          ∙ ap (λ (vs : List Event). loaded l ∷ vs) (on ls (place_tail (place_of l) (r.own, name) (map place_of ls) (named rows) are) current.1)

-- ---- the law

held_is : (o : Option KeptPlant) (kept : KeptPlant) (h : Held) → o ≡ Some kept → plant_at o ≡ Some h → kept.plant ≡ h
held_is o kept h is at = some_same kept.plant h (ap plant_at (sym is) ∙ at)
  where
    some_same : (a b : Held) → (let p : Option Held = Some a in let q : Option Held = Some b in p ≡ q) → a ≡ b
    some_same a b e = cc

pub servers_have_days : ServersHaveDays
servers_have_days files n x first m kept is s start legal given =
    let h : Held = m.ready.held in
    let same : kept.plant ≡ h = held_is first.start kept h is (ap (λ (d : Stand). d.start) (sym m.at ∙ m.ready.opened)) in
    let l : IsLoaded files n n.elements x.shown (whole h) = m.ready.loaded in
    let tape : IsTapeOf true n (whole kept.plant) kept.tape = subst (HasTapeOf true n) is m.taped.0 in
    let first_events : AreFirst (whole h) n.elements kept.tape.items = subst (λ (p : Held). AreFirst (whole p) n.elements kept.tape.items) same tape.0 in
    let apart : AllDiffer l.loads = loads_differ n.elements l.loads (rows_differ n.elements (rules_are_worth n (rules_hold m.settings n m.reads)).elements.numbers_differ) l.are_named in
    let newest : AreCurrent (whole h).state (reverse l.loads) = loads_current n (reverse l.loads) l.entries (whole h).state l.run (l.are_loads ∙ events_reversed l.loads) (differ_reversed l.loads apart) in
    let current : AreCurrent (whole h).state l.loads = subst (AreCurrent (whole h).state) (reverse-reverse l.loads) (all_reversed (λ (k : Load). ((whole h).state.current k.at).topology ≡ k.rows) (reverse l.loads) newest) in
    record {
      network = ap (λ (p : Held). (whole p).network) same ∙ l.network;
      run = subst (λ (p : Held). Run wire n l.entries (whole p).state) (sym same) l.run;
      held = first_are (whole h) n.elements l.loads kept.tape.items l.are_named current first_events ∙ sym (loads_told l.loads l.entries l.are_loads);
      unended = tape.2;
      legal = subst (λ (o : Option KeptPlant). LegalFrom kept_of KeptAdmits KeptAllows kept_after o s.seen) (start ∙ is) legal;
      given = given;
    }
