-- A topology without rows.
use Rattle.std.proofs.Common.{◌≡◌, inl, inr, ℕ, [], length, refl, arith}
use Rattle.std.proofs.lemmas.Bool.{cases_lt}
use Rattle.dom_base.specs.declared.addr.Addr.TheVariants.{V4}
use Rattle.dom_base.specs.declared.addr.Addr.{Addr}
use Rattle.dom_base.specs.declared.names.As.{As}
use Rattle.te_links.specs.Rows.{Rows, IsTopology, IsInOrder, FewDifferent}
use Rattle.te_links.specs.declared.groups.Groups.{Groups}
use Rattle.te_links.specs.declared.index.Index.{Index}
use Rattle.te_links.specs.Grouped.{AreBounds}
use Rattle.te_links.specs.Indexed.{IsIndex}

pub few_of_none : (most : ℕ) → FewDifferent most []
few_of_none most list differ within =
    elim (cases_lt 0 (length list)) [
      | inl some ↦ let first : Addr = V4 0 in absurd (omega (arith, (within 0 first some).1))
      | inr no_one ↦ omega arith
    ]

abbrev pub nothing : As → Rows
nothing own = record { own = own; nodes = []; links = []; outs = []; entries = [] }

pub nothing_is : (own : As) → IsTopology (nothing own)
nothing_is own = record {
  few_nodes = omega arith;
  nodes_differ = λ i j d before below. absurd (omega arith);
  few_links = omega arith;
  links = λ k d below. absurd (omega arith);
  few_outs = omega arith;
  few_tails = few_of_none 16;
  outs = λ k d below. absurd (omega arith);
  nears_differ = λ i j d before below. absurd (omega arith);
  fars_differ = λ i j d before below. absurd (omega arith);
  few_entries = λ other. omega arith;
  few_entry_nodes = few_of_none 64;
  entries = λ k d below. absurd (omega arith);
  entries_differ = λ i j d before below. absurd (omega arith);
}

pub nothing_in_order : (own : As) → IsInOrder (nothing own)
nothing_in_order own = record {
  nodes = λ i j d before below. absurd (omega arith);
  links = λ i j d before below. absurd (omega arith);
  outs = λ i j d before below. absurd (omega arith);
  entries = λ i j d before below. absurd (omega arith);
}

no_groups : (g : Groups) → g.first.items ≡ [] → g.places.items ≡ [] → AreBounds 0 (length g.places.items) g.first.items
no_groups g first places = record { each = λ i below. absurd (omega arith); up = λ i below. absurd (omega arith); within = λ i below. absurd (omega arith) }

pub nothing_indexed : (x : Index) → x.heads.items ≡ [] → x.into.first.items ≡ [] → x.into.places.items ≡ [] → x.arcs.items ≡ [] → x.from.first.items ≡ [] → x.from.places.items ≡ [] → IsIndex [] [] x
nothing_indexed x heads into_first into_places arcs from_first from_places = record {
  heads = rw heads (record { each = refl; at_link = λ p d below. absurd (omega arith) });
  into = record { bounds = no_groups x.into into_first into_places; at_node = λ i below. absurd (omega arith) };
  arcs = rw (into_places, arcs) (record { each = refl; at_place = λ k p a below. absurd (omega arith) });
  from = record { bounds = no_groups x.from from_first from_places; at_node = λ i below. absurd (omega arith) };
}
