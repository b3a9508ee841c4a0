-- Every topology of a run is a topology of its element's domain.
use Rattle.std.proofs.Common.{◌≡◌, ℕ, ◌<◌, suc, Bool, true, false, cond, List, [], ◌∷◌, subst, refl, arith, Some, nat_eq}
use Rattle.std.specs.Prelude.{Contains}
use Rattle.std.proofs.lemmas.List.Elements.{All-head, All-nil}
use Rattle.plant_model.specs.Types.{As, Held, NetworkParts}
use Rattle.std.specs.Map.{lookup}
use Rattle.te_links.specs.Rows.{Rows, IsTopology, FewDifferent}
use Rattle.te_generations.specs.Live.{empty_rows}
use Rattle.disclosure.specs.Shown.{open_of}
use Rattle.plant_text.specs.Names.{same_as}
use Rattle.plant_model.specs.Wire.{Codec}
use Rattle.plant_model.specs.Element.{Item, Element, Row}
use Rattle.plant_text.specs.Settings.{class_of}
use Rattle.plant_model.specs.Settings.{place}
use Rattle.plant_model.specs.declared.event.Event.TheVariants as event
use Rattle.plant_model.specs.Plant.{Pin, Segment, Plant, Entry, Run, IsGiven, load_new}
use Rattle.plant_laws.specs.Topologies.{IsDomain, PinsAreDomains}
use Rattle.border_costs.proofs.Members.{contains_none}
use Rattle.plant_laws.proofs.Least.PinsKept.{Rows as RowsHold, Holds, take_keeps, downed_keeps, commit_keeps}
use Rattle.plant_laws.proofs.Runs.Rows.{in_of}
use Rattle.plant_laws.proofs.Runs.TablesKept.{found_under, in_rows}
use Rattle.plant_laws.proofs.Runs.ElementsKept.{KeptAlways, Good, run_good}
use Rattle.plant_laws.proofs.Runs.Queues.{same_as_is}

below_none : (j : ℕ) → j < 0 → ⊥
below_none j less = omega (arith, less)

few_none : (most : ℕ) → FewDifferent most []
few_none most [] differ all = omega arith
few_none most (x ∷ xs) differ all = absurd (contains_none x (All-head (Contains []) x xs all))

empty_topology : (d : As) → IsTopology (empty_rows d)
empty_topology d = record {
  few_nodes = omega arith;
  nodes_differ = λ i j e less within. absurd (below_none j within);
  few_links = omega arith;
  links = All-nil _;
  few_outs = omega arith;
  few_tails = few_none _;
  outs = All-nil _;
  nears_differ = λ i j e less within. absurd (below_none j within);
  fars_differ = λ i j e less within. absurd (below_none j within);
  few_entries = λ other. omega arith;
  few_entry_nodes = few_none _;
  entries = All-nil _;
  entries_differ = λ i j e less within. absurd (below_none j within);
}

pub empty_domain : (d : As) → IsDomain d (empty_rows d)
empty_domain d = record {
  own = refl;
  topology = empty_topology d;
  order = record { nodes = λ i j e less within. absurd (below_none j within); links = λ i j e less within. absurd (below_none j within); outs = λ i j e less within. absurd (below_none j within); entries = λ i j e less within. absurd (below_none j within) };
  range = record { nodes = All-nil _; links = All-nil _; entries = All-nil _ };
}

abbrev pub IsPinned : As → Pin → Type 0
IsPinned d pin = IsDomain d pin.topology

abbrev pub Pinned : As → Element Pin Segment → Type 0
Pinned d k = Holds (IsPinned d) k

module _ (c : Codec) (n : NetworkParts) where
  pub kept : KeptAlways c n IsPinned Pinned
  kept = record {
    takes = λ d pin p now m k other is old. take_keeps (IsPinned d) pin is c open_of (place n d) p (class_of n p) now m k old;
    ups = λ d p k other old. old;
    downs = λ d p k other old. downed_keeps (IsPinned d) p k old;
    ticks = λ d now k old. old;
    commits = λ d h down now source_known target_known best k other old. commit_keeps (IsPinned d) c (place n d) h down now (λ b. b.segment) source_known target_known best k old;
  }

  pub loaded_pinned : (s : Plant) (d : As) (g : Rows) → IsGiven (event.Load d g) → ((e : As) → IsPinned e (s.current e)) → (e : As) → IsPinned e ((load_new c n d g s).state.current e)
  loaded_pinned s d g given old e = go (same_as d e) refl
    where
      go : (b : Bool) → same_as d e ≡ b → IsPinned e (cond b (record { number = suc (s.current d).number; topology = g }) (s.current e))
      go true is = subst (λ (x : As). IsDomain x g) (same_as_is d e is) (record { own = given.0; topology = given.1; order = given.2; range = given.3 })
      go false is = old e

  -- the current pins, and those of pending requests
  pub run_pinned : (es : List Entry) (s : Plant) → Run c n es s → Good c n IsPinned Pinned s
  run_pinned = run_good c n IsPinned Pinned kept (record { current = λ d. empty_domain d; elements = λ d. tt }) loaded_pinned

-- what is found under a number
pub domain_under : (d : As) (k : ℕ) (hs : List (Row Pin)) (h : Held (Item Pin)) → RowsHold (IsPinned d) hs → lookup (nat_eq k) hs ≡ Some h → IsDomain d h.item.pin.topology
domain_under d k hs h all e = found_under (λ (x : Held (Item Pin)). IsPinned d x.item.pin) k hs h all e

pub pins_are_domains : PinsAreDomains
pins_are_domains c n es s run =
    let good = run_pinned c n es s run in
    record { current = good.current; pinned = λ d h is. in_rows (λ (x : Held (Item Pin)). IsPinned d x.item.pin) h (s.elements d).pending.rows (good.elements d) (in_of h (s.elements d).pending.rows is) }
