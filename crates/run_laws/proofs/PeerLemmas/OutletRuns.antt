-- In every run the connections of outside peers are as the transcript shows them.
use Rattle.std.proofs.Common.{◌≡◌, ℕ, List, [], ◌∷◌, Option, Some, None, sym, ◌∙◌, ap, subst}
use Rattle.disclosure.specs.Shown.{open_of}
use Rattle.plant_laws.specs.plant_model.Types.{NetworkParts}
use Rattle.plant_text.specs.Settings.{Adjacency, adjacencies}
use Rattle.plant_laws.specs.plant_model.declared.event.Event.{Event}
use Rattle.plant_laws.specs.plant_model.declared.event.Event.TheVariants as event
use Rattle.plant_laws.specs.plant_model.Wire.{Codec}
use Rattle.plant_laws.specs.plant_model.State.{Connection}
use Rattle.plant_laws.specs.plant_model.Deeds.{Going, begin_adjacency}
use Rattle.plant_laws.specs.plant_model.Events as events
use Rattle.plant_laws.specs.plant_model.Plant.{Entry, Pin, Plant, Run, Segment, Steps, first_pin}
use Rattle.run_laws.specs.Outlets.{AreOne, DrainsHandOutAll, IsHandedOut, Outlet, OutletsStand, outlet}
use Rattle.run_laws.proofs.PeerLemmas.Growing as growing
use Rattle.run_laws.proofs.PeerLemmas.Growing.{View, nil_right, view_of}
use Rattle.run_laws.proofs.PeerLemmas.OutletEvents.{Fits, drained_view, steps_went}

module _ (c : Codec) (n : NetworkParts) where
  abbrev view : ℕ → Plant → View
  view i s = growing.view Pin Segment c n open_of i s

  begun : (xs : List Adjacency) (start : Plant) (g : Going Pin Segment) → growing.Grown Pin Segment c n open_of start g → growing.Grown Pin Segment c n open_of start (events.begin_adjacencies Pin Segment c n open_of xs g)
  begun [] start g r = r
  begun (x ∷ xs) start g r = begun xs start (begin_adjacency Pin Segment c n open_of 0 x g) (growing.begin_adjacency_on Pin Segment c n open_of start 0 x g r)

  opening : (s : Plant) → Run c n [] s → (i : ℕ) → view i s ≡ None
  opening s is i =
      let bare = events.bare Pin Segment c n open_of first_pin in
      ap (λ (t : Plant). view i t) is ∙ begun (adjacencies n) bare (record { state = bare; deeds = [] }) (growing.at_start Pin Segment c n open_of bare) i

  pub run_fits : (es : List Entry) (s : Plant) → Run c n es s → (i : ℕ) → Fits c (outlet i es) (view i s)
  run_fits [] s is i = subst (λ (v : View). Fits c None v) (sym (opening s is i)) tt
  run_fits (e ∷ older) s run i =
      steps_went c n run.0 e.event (record { answer = e.answer; state = s; deeds = e.deeds }) run.3 i (outlet i older) (run_fits older run.0 run.1 i)

one : (c : Codec) (o : Option Outlet) (k : Option Connection) → Fits c o (view_of k) → AreOne c o k
one c None None h = tt
one c None (Some k) h = h
one c (Some x) None h = h
one c (Some x) (Some k) h = record { holder = h.0; all = h.1 }

pub outlets_stand : OutletsStand
outlets_stand c n es s run i = one c (outlet i es) (s.accesses i).connection (run_fits c n es s run i)

all_out : (c : Codec) (holder : ℕ) (o : Option Outlet) → Fits c o (Some (holder, [])) → IsHandedOut c holder o
all_out c holder None h = h
all_out c holder (Some x) h = (sym h.0, sym (nil_right x.handed) ∙ h.1)

pub drains_hand_out_all : DrainsHandOutAll
drains_hand_out_all c n e older s run i holder is ok =
    let step : Steps c n run.0 (event.Drain i holder) (record { answer = e.answer; state = s; deeds = e.deeds }) = subst (λ (x : Event). Steps c n run.0 x (record { answer = e.answer; state = s; deeds = e.deeds })) is run.3 in
    all_out c holder (outlet i (e ∷ older)) (subst (λ (v : View). Fits c (outlet i (e ∷ older)) v) (drained_view c n i holder run.0 (record { answer = e.answer; state = s; deeds = e.deeds }) step ok) (run_fits c n (e ∷ older) s run i))
