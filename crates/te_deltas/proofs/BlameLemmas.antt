-- Rows after changes: which change added one, and which were there before.
use Rattle.std.proofs.Common.{◌≡◌, ◌≢◌, ◌⊎◌, inl, inr, ℕ, zero, suc, ◌+◌, ◌<◌, ◌||◌, Bool, true, false, Option, Some, None, Result, Ok, Err, option_map, List, [], ◌∷◌, ◌++◌, length, take, slice_get, refl, sym, ◌∙◌, ap, subst, arith}
use Rattle.std.specs.Prelude.{Contains}
use Rattle.std.proofs.lemmas.Bool.{cases_Bool, cases_lt}
use Rattle.std.proofs.lemmas.Option.{slice_get_within}
use Rattle.dom_base.specs.declared.addr.Addr.{Addr}
use Rattle.dom_base.specs.declared.names.As.{As}
use Rattle.dom_base.specs.declared.link.Link.{Link}
use Rattle.line_text.specs.Lines.{NumberedLine, told_lines}
use Rattle.te_links.specs.declared.fault.RowKind.{RowKind}
use Rattle.te_links.specs.declared.fault.RowKind.TheVariants as kinds
use Rattle.te_links.specs.declared.rows.OutLink.{OutLink}
use Rattle.te_links.specs.declared.rows.Entry.{Entry}
use Rattle.te_links.specs.Rows.{Rows}
use Rattle.te_text.specs.declared.error.TextError.{TextError}
use Rattle.te_text.specs.declared.row.TextRow.{TextRow}
use Rattle.te_text.specs.declared.row.TextRow.TheVariants as rows
use Rattle.te_text.specs.Reading.{and_then}
use Rattle.te_text.specs.TopologyText.{rows_in_order}
use Rattle.te_deltas.specs.declared.name.RowName.{RowName}
use Rattle.te_deltas.specs.declared.changes.Change.{Change}
use Rattle.te_deltas.specs.declared.changes.Change.TheVariants.{AddNode, DropNode, AddLink, DropLink, AddOut, DropOut, AddEntry, DropEntry}
use Rattle.te_deltas.specs.ChangeText.{change_at, changes_in, text_in}
use Rattle.te_deltas.specs.Changes.{CanBeMade, added, changed, changed_by, entries_in, has_name, is_mistake, is_mistake_by, links_in, name_of, named, nodes_in, outs_in, rows_after, rows_of, same_name, without}
use Rattle.te_deltas.specs.Answers.{NamesFirst, changed_rows}
use Rattle.te_deltas.specs.declared.making.ChangeError.{ChangeError}
use Rattle.te_deltas.specs.Blame.{AddedBy, IsLastOf, NoneFrom, WasThere, row_at}
use Rattle.te_deltas.proofs.Names.{compared_same, name_is, name_self}
use Rattle.te_deltas.specs.contracts.name.RowNamePartialEq.TheImpl as compared

-- ---- a row stands in a list

abbrev pub Among : List TextRow → TextRow → Type 0
Among [] row = ⊥
Among (one ∷ list) row = (one ≡ row) ⊎ Among list row

pub contains_among : (list : List TextRow) (row : TextRow) → Among list row → Contains list row
contains_among [] row among = absurd among
contains_among (one ∷ list) row (inl is) = (0, omega arith, is)
contains_among (one ∷ list) row (inr among) =
    let rest = contains_among list row among in
    (suc rest.0, omega (arith, rest.1), rest.2)

among_push : (list : List TextRow) (last row : TextRow) → Among (list ++ last ∷ []) row → Among list row ⊎ (last ≡ row)
among_push [] last row (inl is) = inr is
among_push [] last row (inr none) = absurd none
among_push (one ∷ list) last row (inl is) = inl (inl is)
among_push (one ∷ list) last row (inr among) = elim (among_push list last row among) [ inl here ↦ inl (inr here) | inr is ↦ inr is ]

among_without : (name : RowName) (list : List TextRow) (row : TextRow) → Among (without name list) row → Among list row × (same_name name (name_of row) ≡ false)
among_without name [] row among = absurd among
among_without name (one ∷ list) row among =
    elim (cases_Bool (same_name name (name_of one))) [
      | inl hit ↦ let rest = among_without name list row (rw hit at among) in (inr rest.0, rest.1)
      | inr miss ↦
          let either : (one ≡ row) ⊎ Among (without name list) row = rw miss at among in
          elim either [
            | inl is ↦ (inl is, subst (λ (r : TextRow). same_name name (name_of r) ≡ false) is miss)
            | inr later ↦ let rest = among_without name list row later in (inr rest.0, rest.1)
          ]
    ]

or_true : (b : Bool) → (b || true) ≡ true
or_true true = refl
or_true false = refl

has_among : (list : List TextRow) (row : TextRow) → Among list row → has_name (name_of row) list ≡ true
has_among [] row among = absurd among
has_among (one ∷ list) row (inl is) =
    let own : same_name (name_of row) (name_of one) ≡ true = subst (λ (r : TextRow). same_name (name_of row) (name_of r) ≡ true) (sym is) (name_self (name_of row)) in
    rw own refl
has_among (one ∷ list) row (inr among) = ap (λ (b : Bool). same_name (name_of row) (name_of one) || b) (has_among list row among) ∙ or_true (same_name (name_of row) (name_of one))

-- ---- one change

abbrev Names : Option TextRow → RowName → Type 0
Names o name = (x : TextRow) → o ≡ Some x → name ≡ name_of x

added_names : (change : Change) → Names (added change) (named change)
added_names (AddNode n) row is = let same : rows.Node n ≡ row = cc in ap name_of same
added_names (AddLink l) row is = let same : rows.Link l ≡ row = cc in ap name_of same
added_names (AddOut o) row is = let same : rows.Out o ≡ row = cc in ap name_of same
added_names (AddEntry e) row is = let same : rows.Entry e ≡ row = cc in ap name_of same
added_names (DropNode n) row is = absurd (let no : None ≡ Some row = is in cc)
added_names (DropLink far) row is = absurd (let no : None ≡ Some row = is in cc)
added_names (DropOut far) row is = absurd (let no : None ≡ Some row = is in cc)
added_names (DropEntry e) row is = absurd (let no : None ≡ Some row = is in cc)

-- a row of another name was there before
keeps_by : (o : Option TextRow) (name : RowName) (list : List TextRow) (row : TextRow) → Names o name → name ≢ name_of row → Among (changed_by o name list) row → Among list row
keeps_by (Some one) name list row names other among =
    elim (among_push list one row among) [ inl here ↦ here | inr is ↦ absurd (other (names one refl ∙ ap name_of is)) ]
keeps_by None name list row names other among = (among_without name list row among).0

-- a row of the name of a change that is no mistake was added by it
adds_by : (o : Option TextRow) (name : RowName) (list : List TextRow) (row : TextRow) → is_mistake_by o (has_name name list) ≡ false → name ≡ name_of row → Among (changed_by o name list) row → o ≡ Some row
adds_by (Some one) name list row good is among =
    elim (among_push list one row among) [
      | inl here ↦ absurd (let no : true ≡ false = sym (has_among list row here) ∙ ap (λ (n : RowName). has_name n list) (sym is) ∙ good in cc)
      | inr same ↦ ap (λ (r : TextRow). Some r) same
    ]
adds_by None name list row good is among =
    absurd (let no : true ≡ false = sym (name_self name) ∙ ap (λ (n : RowName). same_name name n) is ∙ (among_without name list row among).1 in cc)

-- ---- changes one after the other

-- where no change is of its name, a row was there before
was_among : (list : List TextRow) (changes : List Change) (row : TextRow) → NoneFrom 0 changes (name_of row) → Among (rows_after list changes) row → Among list row
was_among list [] row none among = among
was_among list (one ∷ changes) row none among =
    let rest : NoneFrom 0 changes (name_of row) = λ j other from at. none (suc j) other (omega arith) at in
    keeps_by (added one) (named one) list row (added_names one) (none 0 one (omega arith) refl) (was_among (changed list one) changes row rest among)

last_adds : (list : List TextRow) (changes : List Change) (i : ℕ) (change : Change) (row : TextRow) → slice_get changes i ≡ Some change → is_mistake (rows_after list (take i changes)) change ≡ false →
    NoneFrom (i + 1) changes (name_of row) → named change ≡ name_of row → Among (rows_after list changes) row → added change ≡ Some row
last_adds list [] i change row at good none is among = absurd (let no : None ≡ Some change = at in cc)
last_adds list (one ∷ changes) zero change row at good none is among =
    let both : Some one ≡ Some change = at in
    let same : change ≡ one = cc in
    let rest : NoneFrom 0 changes (name_of row) = λ j other from found. none (suc j) other (omega arith) found in
    let here : Among (changed list change) row = subst (λ (c : Change). Among (changed list c) row) (sym same) (was_among (changed list one) changes row rest among) in
    adds_by (added change) (named change) list row good is here
last_adds list (one ∷ changes) (suc i) change row at good none is among =
    let rest : NoneFrom (i + 1) changes (name_of row) = λ j other from found. none (suc j) other (omega (arith, from)) found in
    last_adds (changed list one) changes i change row at good rest is among

-- ---- the last change of a name

pub told_same : (a b : RowName) (t : Bool) → t ≡ compared.eq-value.it a b → t ≡ true → a ≡ b
told_same a b t is told = name_is a b (sym (compared_same a b) ∙ sym is ∙ told)

pub told_other : (a b : RowName) (t : Bool) → t ≡ compared.eq-value.it a b → t ≡ false → a ≢ b
told_other a b t is told same =
    let own : same_name a b ≡ true = subst (λ (c : RowName). same_name a c ≡ true) same (name_self a) in
    let both : true ≡ false = sym own ∙ sym (compared_same a b) ∙ sym is ∙ told in
    cc

pub one_before : (changes : List Change) (name : RowName) (i : ℕ) (change : Change) → NoneFrom (i + 1) changes name → slice_get changes i ≡ Some change → named change ≢ name → NoneFrom i changes name
one_before changes name i change none at differ j other from found =
    elim (cases_lt i j) [
      | inl later ↦ none j other (omega (arith, later)) found
      | inr here ↦
          let place : j ≡ i = omega (arith, from, here) in
          let both : Some other ≡ Some change = sym found ∙ ap (slice_get changes) place ∙ at in
          let same : other ≡ change = cc in
          λ names. differ (sym (ap named same) ∙ names)
    ]

-- ---- the rows by their kinds

from_made : {X : Type 0} (make : X → TextRow) (o : Option X) (row : TextRow) → option_map make o ≡ Some row → (x : X) × (o ≡ Some x) × (make x ≡ row)
from_made make None row is = absurd (let no : None ≡ Some row = is in cc)
from_made make (Some x) row is = (x, refl, (let both : Some (make x) ≡ Some row = is in cc))

node_among : (list : List TextRow) (i : ℕ) (n : Addr) → slice_get (nodes_in list) i ≡ Some n → Among list (rows.Node n)
node_among [] i n at = absurd (let no : None ≡ Some n = at in cc)
node_among (rows.Node m ∷ list) zero n at = let both : Some m ≡ Some n = at in let same : m ≡ n = cc in inl (ap (λ (x : Addr). rows.Node x) same)
node_among (rows.Node m ∷ list) (suc i) n at = inr (node_among list i n at)
node_among (rows.Link l ∷ list) i n at = inr (node_among list i n at)
node_among (rows.Out o ∷ list) i n at = inr (node_among list i n at)
node_among (rows.Entry e ∷ list) i n at = inr (node_among list i n at)

link_among : (list : List TextRow) (i : ℕ) (l : Link) → slice_get (links_in list) i ≡ Some l → Among list (rows.Link l)
link_among [] i l at = absurd (let no : None ≡ Some l = at in cc)
link_among (rows.Link m ∷ list) zero l at = let both : Some m ≡ Some l = at in let same : m ≡ l = cc in inl (ap (λ (x : Link). rows.Link x) same)
link_among (rows.Link m ∷ list) (suc i) l at = inr (link_among list i l at)
link_among (rows.Node n ∷ list) i l at = inr (link_among list i l at)
link_among (rows.Out o ∷ list) i l at = inr (link_among list i l at)
link_among (rows.Entry e ∷ list) i l at = inr (link_among list i l at)

out_among : (list : List TextRow) (i : ℕ) (o : OutLink) → slice_get (outs_in list) i ≡ Some o → Among list (rows.Out o)
out_among [] i o at = absurd (let no : None ≡ Some o = at in cc)
out_among (rows.Out m ∷ list) zero o at = let both : Some m ≡ Some o = at in let same : m ≡ o = cc in inl (ap (λ (x : OutLink). rows.Out x) same)
out_among (rows.Out m ∷ list) (suc i) o at = inr (out_among list i o at)
out_among (rows.Node n ∷ list) i o at = inr (out_among list i o at)
out_among (rows.Link l ∷ list) i o at = inr (out_among list i o at)
out_among (rows.Entry e ∷ list) i o at = inr (out_among list i o at)

entry_among : (list : List TextRow) (i : ℕ) (e : Entry) → slice_get (entries_in list) i ≡ Some e → Among list (rows.Entry e)
entry_among [] i e at = absurd (let no : None ≡ Some e = at in cc)
entry_among (rows.Entry m ∷ list) zero e at = let both : Some m ≡ Some e = at in let same : m ≡ e = cc in inl (ap (λ (x : Entry). rows.Entry x) same)
entry_among (rows.Entry m ∷ list) (suc i) e at = inr (entry_among list i e at)
entry_among (rows.Node n ∷ list) i e at = inr (entry_among list i e at)
entry_among (rows.Link l ∷ list) i e at = inr (entry_among list i e at)
entry_among (rows.Out o ∷ list) i e at = inr (entry_among list i e at)

row_among : (own : As) (list : List TextRow) (kind : RowKind) (i : ℕ) (row : TextRow) → row_at (rows_of own list) kind i ≡ Some row → Among list row
row_among own list kinds.Node i row at =
    let p = from_made (λ (n : Addr). rows.Node n) (slice_get (nodes_in list) i) row at in subst (Among list) p.2 (node_among list i p.0 p.1)
row_among own list kinds.Link i row at =
    let p = from_made (λ (l : Link). rows.Link l) (slice_get (links_in list) i) row at in subst (Among list) p.2 (link_among list i p.0 p.1)
row_among own list kinds.Out i row at =
    let p = from_made (λ (o : OutLink). rows.Out o) (slice_get (outs_in list) i) row at in subst (Among list) p.2 (out_among list i p.0 p.1)
row_among own list kinds.Entry i row at =
    let p = from_made (λ (e : Entry). rows.Entry e) (slice_get (entries_in list) i) row at in subst (Among list) p.2 (entry_among list i p.0 p.1)

-- ---- the changed rows of a topology

-- where no change is of its name, a row stood in the topology
pub was_there : (g : Rows) (changes : List Change) (kind : RowKind) (i : ℕ) (row : TextRow) → row_at (changed_rows g changes) kind i ≡ Some row → NoneFrom 0 changes (name_of row) → WasThere g changes row
was_there g changes kind i row at none =
    let among = row_among g.own (rows_after (rows_in_order g) changes) kind i row at in
    record { there = contains_among (rows_in_order g) row (was_among (rows_in_order g) changes row none among); kept = none }

-- where changes can be made, the last one of a row's name added it
pub added_by : (g : Rows) (changes : List Change) (kind : RowKind) (i : ℕ) (row : TextRow) (place : ℕ) (change : Change) → CanBeMade (rows_in_order g) changes → row_at (changed_rows g changes) kind i ≡ Some row →
    IsLastOf changes (name_of row) place change → AddedBy changes row place
added_by g changes kind i row place change made at is =
    let list = rows_in_order g in
    let among = row_among g.own (rows_after list changes) kind i row at in
    let good = made place change (slice_get_within changes place change is.at) is.at in
    (change, is, last_adds list changes place change row is.at good is.last is.names among)

-- a row of a name that was told
pub named_row : (o : Option TextRow) (name : RowName) → option_map name_of o ≡ Some name → (row : TextRow) × (o ≡ Some row) × (name ≡ name_of row)
named_row None name is = absurd (let no : None ≡ Some name = is in cc)
named_row (Some row) name is = (row, refl, (let both : Some (name_of row) ≡ Some name = is in cc))

-- ---- places in lists

-- ---- lines and changes

one_more : (first : Result Change TextError) (rest : Result (List Change) TextError) (changes : List Change) → and_then first (λ change. and_then rest (λ others. Ok (change ∷ others))) ≡ Ok changes →
    (others : List Change) × (rest ≡ Ok others) × (length changes ≡ length others + 1)
one_more (Ok change) (Ok others) changes is =
    let both : Ok (change ∷ others) ≡ Ok changes = is in
    let same : change ∷ others ≡ changes = cc in
    (others, refl, omega (arith, ap length same))
one_more (Ok change) (Err why) changes is = absurd (let no : Err why ≡ Ok changes = is in cc)
one_more (Err why) rest changes is = absurd (let no : Err why ≡ Ok changes = is in cc)

line_for_each : (lines : List NumberedLine) (changes : List Change) → changes_in lines ≡ Ok changes → length changes ≡ length lines
unfolding changes_in
line_for_each [] changes is =
    let both : Ok [] ≡ Ok changes = is in
    let same : [] ≡ changes = cc in
    sym (ap length same)
line_for_each (line ∷ lines) changes is =
    let p = one_more (change_at line) (changes_in lines) changes is in
    omega (arith, p.2, line_for_each lines p.0 p.1)

-- each change has its line
pub line_there : (file : List ℕ) (changes : List Change) (i : ℕ) (change : Change) → text_in file ≡ Ok changes → slice_get changes i ≡ Some change → i < length (told_lines file)
line_there file changes i change says at = omega (arith, line_for_each (told_lines file) changes says, slice_get_within changes i change at)

pub first_there : (file : List ℕ) (list : List TextRow) (changes : List Change) (i : ℕ) (why : ChangeError) → text_in file ≡ Ok changes → NamesFirst list changes i why → i < length (told_lines file)
first_there file list changes i why says is = line_there file changes i is.0 says is.1.at
