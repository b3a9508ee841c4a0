-- Each pending request of a run has the class of the peer that asked.
use Rattle.std.proofs.Common.{◌≡◌, List, refl, arith}
use Rattle.plant_model.specs.Types.{As, NetworkParts, Held}
use Rattle.disclosure.specs.Shown.{open_of}
use Rattle.plant_model.specs.Wire.{Codec}
use Rattle.plant_model.specs.Element.{Item, Element}
use Rattle.plant_text.specs.Settings.{class_of}
use Rattle.plant_model.specs.Settings.{place}
use Rattle.plant_model.specs.Plant.{Pin, Segment, Plant, Entry, Run}
use Rattle.plant_laws.proofs.Least.RowsKept.{Holds, take_keeps, downed_keeps, commit_keeps}
use Rattle.plant_laws.proofs.Runs.ElementsKept.{KeptAlways, run_good}

module _ (n : NetworkParts) where
  abbrev pub HasClass : Held (Item Pin) → Type 0
  HasClass h = h.item.class ≡ class_of n h.key.peer

  abbrev pub Classed : Element Pin Segment → Type 0
  Classed k = Holds HasClass k

module _ (c : Codec) (n : NetworkParts) where
  abbrev Any : As → Pin → Type 0
  Any d pin = Unit {0}

  abbrev AllClassed : As → Element Pin Segment → Type 0
  AllClassed d k = Classed n k

  kept : KeptAlways c n Any AllClassed
  kept = record {
    takes = λ d pin p now m k other any old. take_keeps (HasClass n) c (place n d) pin p (class_of n p) open_of now m (λ none a r w is path sequence stage fresh. refl) (λ h r paths i below waits tells has. has) k old;
    ups = λ d p k other old. old;
    downs = λ d p k other old. downed_keeps (HasClass n) p k old;
    ticks = λ d now k old. old;
    commits = λ d h down now source_known target_known best k other old. commit_keeps (HasClass n) c (place n d) h down now (λ b. b.segment) source_known target_known best k old;
  }

  pub run_classed : (es : List Entry) (s : Plant) → Run c n es s → (d : As) → Classed n (s.elements d)
  run_classed es s run =
      (run_good c n Any AllClassed kept (record { current = λ d. tt; elements = λ d. record { rise = omega arith; rows = tt } }) (λ s' d g given old e. tt) es s run).elements
