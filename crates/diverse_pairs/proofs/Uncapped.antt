-- What a query admits doesn't depend on its cap.
use Rattle.std.proofs.Common.{ℕ, List, None, Some}
use Rattle.std.specs.Prelude.{MatchOption, slice_index_or}
use Rattle.std.specs.declared.option.Option.{Option}
use Rattle.dom_base.specs.declared.addr.Addr.{Addr}
use Rattle.dom_base.specs.declared.link.Link.{Link}
use Rattle.dom_base.specs.declared.query.Query.{Query}
use Rattle.te_links.specs.Rows.{Rows}
use Rattle.walk_laws.specs.Walks.{AdmitsNode, AdmitsLink}
use Rattle.path_certificate.specs.Offers.{IsAdmittedAt}
use Rattle.diverse_pairs.specs.declared.arcs.Arc.{Arc}
use Rattle.diverse_pairs.specs.Chosen.{uncapped}
use Rattle.diverse_pairs.specs.Network.{IsArcOf, AreArcs}

pub node_up : (g : Rows) (q : Query) (n : Addr) → AdmitsNode g q n → AdmitsNode g (uncapped q) n
node_up g q n a = record { is_node = a.is_node; free = λ bars. a.free (record { row = bars.row; is_row = bars.is_row; strict = bars.strict; names = bars.names }) }

pub node_down : (g : Rows) (q : Query) (n : Addr) → AdmitsNode g (uncapped q) n → AdmitsNode g q n
node_down g q n a = record { is_node = a.is_node; free = λ bars. a.free (record { row = bars.row; is_row = bars.is_row; strict = bars.strict; names = bars.names }) }

pub link_up : (g : Rows) (q : Query) (l : Link) → AdmitsLink g q l → AdmitsLink g (uncapped q) l
link_up g q l a = record {
  is_link = a.is_link;
  allowed = record {
    fits = record { bandwidth = a.allowed.fits.bandwidth; exclude_any = a.allowed.fits.exclude_any; include_any = a.allowed.fits.include_any; include_all = a.allowed.fits.include_all };
    free = λ bars. a.allowed.free (record { row = bars.row; is_row = bars.is_row; strict = bars.strict; names = bars.names });
  };
  from = node_up g q l.from a.from;
  to = node_up g q l.to a.to;
}

pub link_down : (g : Rows) (q : Query) (l : Link) → AdmitsLink g (uncapped q) l → AdmitsLink g q l
link_down g q l a = record {
  is_link = a.is_link;
  allowed = record {
    fits = record { bandwidth = a.allowed.fits.bandwidth; exclude_any = a.allowed.fits.exclude_any; include_any = a.allowed.fits.include_any; include_all = a.allowed.fits.include_all };
    free = λ bars. a.allowed.free (record { row = bars.row; is_row = bars.is_row; strict = bars.strict; names = bars.names });
  };
  from = node_down g q l.from a.from;
  to = node_down g q l.to a.to;
}

pub arcs_up : (g : Rows) (q : Query) (arcs : List (Option Arc)) → AreArcs g q arcs → AreArcs g (uncapped q) arcs
arcs_up g q arcs are = record { long = are.long; each = λ i inside. go i (slice_index_or arcs i None) (are.each i inside) }
  where
    go : (i : ℕ) (o : Option Arc) → MatchOption o ((l : Link) → ¬ IsAdmittedAt g q i l) (IsArcOf g q i) → MatchOption o ((l : Link) → ¬ IsAdmittedAt g (uncapped q) i l) (IsArcOf g (uncapped q) i)
    go i None none = λ l at. none l (record { at_link = at.at_link; admitted = link_down g q l at.admitted })
    go i (Some a) of = record {
      link = of.link;
      at_place = record { at_link = of.at_place.at_link; admitted = link_up g q of.link of.at_place.admitted };
      tail = of.tail;
      head = of.head;
      weight = of.weight;
    }
