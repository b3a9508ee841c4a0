-- A topology that is refused for its form is outside it.
use Rattle.std.proofs.Common.{◌≡◌, ℕ, true, false, List, inl, inr}
use Rattle.dom_base.specs.declared.names.As.{As}
use Rattle.te_links.specs.Rows.{Rows}
use Rattle.te_links.specs.Faults.{Breaks, rows_of_parts}
use Rattle.te_links.specs.declared.fault.RowKind.{RowKind}
use Rattle.te_links.specs.declared.fault.RowKind.TheVariants as kinds
use Rattle.te_links.specs.declared.fault.TopoFault.{TopoFault}
use Rattle.te_links.specs.declared.fault.TopoFault.TheVariants as topo
use Rattle.te_text.specs.declared.error.TextError.TheVariants.{At}
use Rattle.te_text.specs.Reads.{IsFaulty}
use Rattle.plant_text.specs.declared.fault.NetFault.{NetFault}
use Rattle.plant_text.specs.declared.fault.NetFault.TheVariants as fault
use Rattle.network_files.specs.Reading.{IsTopologyFault}
use Rattle.network_check.specs.Forms.{IsMalformed, is_form_fault}

no_syntax : (g : Rows) (kind : RowKind) (i : ℕ) → Breaks g kind i topo.Syntax → ⊥
no_syntax g kinds.Node i is = is.2
no_syntax g kinds.Link i is = is.2
no_syntax g kinds.Out i is = is.2
no_syntax g kinds.Entry i is = is.2

no_header : (g : Rows) (kind : RowKind) (i : ℕ) → Breaks g kind i topo.NoHeader → ⊥
no_header g kinds.Node i is = is.2
no_header g kinds.Link i is = is.2
no_header g kinds.Out i is = is.2
no_header g kinds.Entry i is = is.2

of_syntax : (text : List ℕ) (line : ℕ) → IsFaulty text line topo.Syntax → IsMalformed text
of_syntax text line (inl is) = (At line topo.Syntax, is)
of_syntax text line (inr b) = absurd (no_syntax (rows_of_parts b.reading.parts) b.row.kind b.row.index b.breach.breaks)

of_header : (text : List ℕ) (line : ℕ) → IsFaulty text line topo.NoHeader → IsMalformed text
of_header text line (inl is) = (At line topo.NoHeader, is)
of_header text line (inr b) = absurd (no_header (rows_of_parts b.reading.parts) b.row.kind b.row.index b.breach.breaks)

by_fault : (text : List ℕ) (line : ℕ) (f : TopoFault) → IsFaulty text line f → true ≡ is_form_fault (fault.Topo f) → IsMalformed text
by_fault text line topo.Syntax is form = of_syntax text line is
by_fault text line topo.NoHeader is form = of_header text line is
by_fault text line topo.TooMany is form = absurd (let never : true ≡ false = form in cc)
by_fault text line topo.DuplicateNode is form = absurd (let never : true ≡ false = form in cc)
by_fault text line topo.UnknownNode is form = absurd (let never : true ≡ false = form in cc)
by_fault text line topo.OwnAs is form = absurd (let never : true ≡ false = form in cc)
by_fault text line topo.BadMetric is form = absurd (let never : true ≡ false = form in cc)
by_fault text line topo.DuplicateNear is form = absurd (let never : true ≡ false = form in cc)
by_fault text line topo.DuplicateFar is form = absurd (let never : true ≡ false = form in cc)
by_fault text line topo.DuplicateEntry is form = absurd (let never : true ≡ false = form in cc)

pub is_malformed : (at : As) (text : List ℕ) (line : ℕ) (f : NetFault) → IsTopologyFault at text line f → true ≡ is_form_fault f → IsMalformed text
is_malformed at text line (fault.Topo told) is form = by_fault text line told is form
is_malformed at text line fault.OtherAs is form = absurd (let never : true ≡ false = form in cc)
is_malformed at text line fault.NotToml is form = absurd is
is_malformed at text line (fault.TooMany name) is form = absurd is
is_malformed at text line (fault.Shape name i) is form = absurd is
is_malformed at text line (fault.Duplicate name i) is form = absurd is
is_malformed at text line (fault.Unknown name i) is form = absurd is
is_malformed at text line (fault.NoParent i) is form = absurd is
is_malformed at text line fault.NoElement is form = absurd is
is_malformed at text line fault.Absent is form = absurd is
is_malformed at text line fault.Present is form = absurd is
