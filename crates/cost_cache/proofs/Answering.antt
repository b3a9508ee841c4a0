-- The best way from an entry, by what is kept.
use Rattle.std.proofs.Common.{◌≡◌, ℕ, List, refl, Some}
use Rattle.std.specs.Prelude.{slice_get}
use Rattle.std.specs.declared.option.Option.{Option}
use Rattle.dom_base.specs.declared.addr.Addr.{Addr}
use Rattle.dom_base.specs.declared.query.Seed.{Seed}
use Rattle.dom_base.specs.declared.query.Label.{Label}
use Rattle.te_links.specs.Rows.{Rows}
use Rattle.walk_laws.specs.Labels.{IsLabel}
use Rattle.path_search.specs.Arcs.{label_at}
use Rattle.border_costs.specs.declared.job.Ask.{Ask}
use Rattle.border_costs.specs.Asks.{AreSeeds}
use Rattle.border_costs.specs.Solutions.{IsHead, IsBest}
use Rattle.border_costs.proofs.Pairs.{pair_of, label_is}
use Rattle.cost_cache.specs.declared.kept.Kept.{Kept}
use Rattle.cost_cache.specs.Entries.{AreKept}
use Rattle.cost_cache.specs.Shown.{HasShown}

-- an entry with a label has its best way
pub best_kept : (g : Rows) (ask : Ask) (seeds : List Seed) (kept : Kept) (from : ℕ) (entry : Addr) (a : Label) (shown : List Addr) (head : Option Addr) →
    AreSeeds g ask seeds → AreKept g ask.query seeds kept → slice_get g.nodes from ≡ Some entry → label_at kept.labels from ≡ Some a →
    HasShown g ask.query seeds entry a shown → IsHead g ask.query ask.down ask.target a.exit head →
    IsBest g ask seeds entry (record { entry = entry; cost = a.cost; exit = a.exit; head = head; segment = shown })
best_kept g ask seeds kept from entry a shown head seeded are at_entry at_a has is_head =
    let label : IsLabel g ask.query seeds entry (Some a) = label_is g ask.query seeds kept.labels from entry (Some a) are.labels at_entry at_a in
    record {
      is_entry = refl;
      pair = pair_of g ask seeds seeded entry (Some a) label;
      label = label;
      is_head = is_head;
      links = has.links;
      chosen = has.segment;
      shown = has.is;
    }
