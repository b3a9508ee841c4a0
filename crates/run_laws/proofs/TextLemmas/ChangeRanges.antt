-- Changes that a text gives make of a topology in range one in range.
use Rattle.std.proofs.Common.{◌≡◌, ℕ, ◌++◌, Bool, true, false, cond, List, [], ◌∷◌, map, filter, Some, None, Result, Ok, Err, not, refl, subst, codes}
use Rattle.std.specs.List.{AllByRecursion}
use Rattle.std.specs.Str.{bytes_eq}
use Rattle.std.proofs.lemmas.List.Elements.{recursion_from_All}
use Rattle.plant_laws.specs.plant_model.Types.{As, Link, Entry, OutLink}
use Rattle.dom_base.specs.Steps.{◌>>=◌}
use Rattle.line_text.specs.Lines.{NumberedLine, told_lines}
use Rattle.line_text.specs.Words.{words_of}
use Rattle.pcep_subobjects.specs.Addresses.{IsAddr}
use Rattle.te_links.specs.Rows.{Rows}
use Rattle.te_text.specs.declared.error.TextError.{TextError}
use Rattle.te_text.specs.declared.row.TextRow.{TextRow}
use Rattle.te_text.specs.declared.row.TextRow.TheVariants as rows
use Rattle.te_text.specs.Reading.{and_then}
use Rattle.te_text.specs.RowText.{row_in}
use Rattle.te_text.specs.TopologyText.{rows_in_order}
use Rattle.te_deltas.specs.Answers.{IsBuiltOf, changed_rows}
use Rattle.te_deltas.specs.Changes.{changed, name_of, named, rows_after, rows_of, same_name}
use Rattle.te_deltas.specs.ChangeText.{add_of, change_at, change_in, changes_in, drop_of, dropped_in, far_in, text_in}
use Rattle.te_deltas.specs.declared.changes.Change.{Change}
use Rattle.te_deltas.specs.declared.changes.Change.TheVariants as change
use Rattle.te_deltas.specs.declared.name.RowName.{RowName}
use Rattle.plant_laws.specs.plant_model.Plant.{AreInRange, IsLinkInRange}
use Rattle.run_laws.proofs.TextLemmas.AddrRanges.{by_parts}
use Rattle.run_laws.proofs.TextLemmas.RowRanges.{AreWithin, IsRowInRange, moved, row_in_range, said_by}

-- ---- a change

-- the row that is added is in range
abbrev IsChangeInRange : Change → Type 0
IsChangeInRange (change.AddNode n) = IsAddr n
IsChangeInRange (change.AddLink l) = IsLinkInRange l
IsChangeInRange (change.AddOut o) = IsLinkInRange o.link
IsChangeInRange (change.AddEntry e) = IsAddr e.node
IsChangeInRange _ = Unit {0}

is_change : (made c : Change) → Some made ≡ Some c → IsChangeInRange made → IsChangeInRange c
is_change made c is h = let same : made ≡ c = cc in subst IsChangeInRange same h

added_in_range : (row : TextRow) → IsRowInRange row → IsChangeInRange (add_of row)
added_in_range (rows.Node n) h = h
added_in_range (rows.Link l) h = h
added_in_range (rows.Out o) h = h
added_in_range (rows.Entry e) h = h

drop_in_range : (row : TextRow) (c : Change) → drop_of row ≡ Some c → IsChangeInRange c
drop_in_range (rows.Node n) c is = is_change (change.DropNode n) c is tt
drop_in_range (rows.Link l) c is = absurd (cc)
drop_in_range (rows.Out o) c is = absurd (cc)
drop_in_range (rows.Entry e) c is = is_change (change.DropEntry e) c is tt

dropped_in_range : (words : List (List ℕ)) (c : Change) → dropped_in words ≡ Some c → IsChangeInRange c
unfolding dropped_in
dropped_in_range [] c is = absurd (cc)
dropped_in_range (kind ∷ words) c is = go (bytes_eq kind (codes "link")) (bytes_eq kind (codes "out")) is
  where
    go : (l o : Bool) → cond l (far_in words >>= λ far. Some (change.DropLink far)) (cond o (far_in words >>= λ far. Some (change.DropOut far)) (row_in (kind ∷ words) >>= drop_of)) ≡ Some c → IsChangeInRange c
    go true o e = let far = by_parts (far_in words) (λ far. Some (change.DropLink far)) c e in is_change (change.DropLink far.0) c far.2 tt
    go false true e = let far = by_parts (far_in words) (λ far. Some (change.DropOut far)) c e in is_change (change.DropOut far.0) c far.2 tt
    go false false e = let row = by_parts (row_in (kind ∷ words)) drop_of c e in drop_in_range row.0 c row.2

change_in_range : (words : List (List ℕ)) (c : Change) → change_in words ≡ Some c → IsChangeInRange c
unfolding change_in
change_in_range [] c is = absurd (cc)
change_in_range (verb ∷ words) c is = go (bytes_eq verb (codes "add")) (bytes_eq verb (codes "drop")) is
  where
    go : (a d : Bool) → cond a (row_in words >>= λ row. Some (add_of row)) (cond d (dropped_in words) None) ≡ Some c → IsChangeInRange c
    go true d e =
        let row = by_parts (row_in words) (λ row. Some (add_of row)) c e in
        is_change (add_of row.0) c row.2 (added_in_range row.0 (row_in_range words row.0 row.1))
    go false true e = dropped_in_range words c e
    go false false e = absurd (cc)

line_in_range : (line : NumberedLine) (c : Change) → change_at line ≡ Ok c → IsChangeInRange c
unfolding change_at
line_in_range line c is =
    let words = by_parts (words_of line.text) change_in c (said_by line.number (words_of line.text >>= change_in) c is) in
    change_in_range words.0 c words.2

changes_in_range : (lines : List NumberedLine) (changes : List Change) → changes_in lines ≡ Ok changes → AllByRecursion IsChangeInRange changes
unfolding changes_in
changes_in_range [] changes is = let same : [] ≡ changes = cc in subst (AllByRecursion IsChangeInRange) same tt
changes_in_range (line ∷ lines) changes is =
    go (change_at line) (λ c e. line_in_range line c e) (changes_in lines) (λ others e. changes_in_range lines others e) is
  where
    go : (r : Result Change TextError) → ((c : Change) → r ≡ Ok c → IsChangeInRange c) →
        (s : Result (List Change) TextError) → ((others : List Change) → s ≡ Ok others → AllByRecursion IsChangeInRange others) →
        and_then r (λ c. and_then s (λ others. Ok (c ∷ others))) ≡ Ok changes → AllByRecursion IsChangeInRange changes
    go (Err fault) one s rest e = absurd (cc)
    go (Ok c) one (Err fault) rest e = absurd (cc)
    go (Ok c) one (Ok others) rest e =
        let same : c ∷ others ≡ changes = cc in
        subst (AllByRecursion IsChangeInRange) same (one c refl, rest others refl)

-- ---- rows after changes

abbrev AreRows : List TextRow → Type 0
AreRows list = AllByRecursion IsRowInRange list

both_rows : (xs ys : List TextRow) → AreRows xs → AreRows ys → AreRows (xs ++ ys)
both_rows [] ys h k = k
both_rows (x ∷ xs) ys h k = (h.0, both_rows xs ys h.1 k)

kept_rows : (test : TextRow → Bool) (xs : List TextRow) → AreRows xs → AreRows (filter test xs)
kept_rows test [] h = tt
kept_rows test (x ∷ xs) h = go (test x) (kept_rows test xs h.1)
  where
    go : (b : Bool) → AreRows (filter test xs) → AreRows (cond b (x ∷ filter test xs) (filter test xs))
    go true rest = (h.0, rest)
    go false rest = rest

without_rows : (name : RowName) (list : List TextRow) → AreRows list → AreRows (filter (λ row. not (same_name name (name_of row))) list)
without_rows name list h = kept_rows (λ row. not (same_name name (name_of row))) list h

pushed : (list : List TextRow) (row : TextRow) → AreRows list → IsRowInRange row → AreRows (list ++ row ∷ [])
pushed list row h k = both_rows list (row ∷ []) h (k, tt)

changed_in_range : (list : List TextRow) (c : Change) → AreRows list → IsChangeInRange c → AreRows (changed list c)
changed_in_range list (change.AddNode n) h k = pushed list (rows.Node n) h k
changed_in_range list (change.AddLink l) h k = pushed list (rows.Link l) h k
changed_in_range list (change.AddOut o) h k = pushed list (rows.Out o) h k
changed_in_range list (change.AddEntry e) h k = pushed list (rows.Entry e) h k
changed_in_range list (change.DropNode n) h k = without_rows (named (change.DropNode n)) list h
changed_in_range list (change.DropLink far) h k = without_rows (named (change.DropLink far)) list h
changed_in_range list (change.DropOut far) h k = without_rows (named (change.DropOut far)) list h
changed_in_range list (change.DropEntry e) h k = without_rows (named (change.DropEntry e)) list h

after_in_range : (list : List TextRow) (changes : List Change) → AreRows list → AllByRecursion IsChangeInRange changes → AreRows (rows_after list changes)
after_in_range list [] h k = h
after_in_range list (c ∷ changes) h k = after_in_range (changed list c) changes (changed_in_range list c h k.0) k.1

-- ---- rows by their kinds

kinds_in_range : (own : As) (list : List TextRow) → AreRows list → AreWithin (rows_of own list)
kinds_in_range own [] h = record { nodes = tt; links = tt; outs = tt; entries = tt }
kinds_in_range own (rows.Node n ∷ list) h =
    let w = kinds_in_range own list h.1 in
    record { nodes = (h.0, w.nodes); links = w.links; outs = w.outs; entries = w.entries }
kinds_in_range own (rows.Link l ∷ list) h =
    let w = kinds_in_range own list h.1 in
    record { nodes = w.nodes; links = (h.0, w.links); outs = w.outs; entries = w.entries }
kinds_in_range own (rows.Out o ∷ list) h =
    let w = kinds_in_range own list h.1 in
    record { nodes = w.nodes; links = w.links; outs = (h.0, w.outs); entries = w.entries }
kinds_in_range own (rows.Entry e ∷ list) h =
    let w = kinds_in_range own list h.1 in
    record { nodes = w.nodes; links = w.links; outs = w.outs; entries = (h.0, w.entries) }

mapped : {X : Type 0} (P : X → Type 0) (make : X → TextRow) → ((x : X) → P x → IsRowInRange (make x)) → (xs : List X) → AllByRecursion P xs → AreRows (map make xs)
mapped P make one [] h = tt
mapped P make one (x ∷ xs) h = (one x h.0, mapped P make one xs h.1)

first_links : (links : List Link) (outs : List OutLink) → AllByRecursion IsLinkInRange (links ++ map (λ o. o.link) outs) → AllByRecursion IsLinkInRange links
first_links [] outs h = tt
first_links (l ∷ links) outs h = (h.0, first_links links outs h.1)

out_links : (outs : List OutLink) → AllByRecursion IsLinkInRange (map (λ o. o.link) outs) → AllByRecursion (λ (o : OutLink). IsLinkInRange o.link) outs
out_links [] h = tt
out_links (o ∷ outs) h = (h.0, out_links outs h.1)

last_links : (links : List Link) (outs : List OutLink) → AllByRecursion IsLinkInRange (links ++ map (λ o. o.link) outs) → AllByRecursion (λ (o : OutLink). IsLinkInRange o.link) outs
last_links [] outs h = out_links outs h
last_links (l ∷ links) outs h = last_links links outs h.1

before_in_range : (g : Rows) → AreInRange g → AreRows (rows_in_order g)
before_in_range g range =
    let links = recursion_from_All IsLinkInRange (g.links ++ map (λ (o : OutLink). o.link) g.outs) range.links in
    both_rows (map rows.Node g.nodes) (map rows.Link g.links ++ (map rows.Out g.outs ++ map rows.Entry g.entries))
    (mapped IsAddr rows.Node (λ n h. h) g.nodes (recursion_from_All IsAddr g.nodes range.nodes))
    (both_rows (map rows.Link g.links) (map rows.Out g.outs ++ map rows.Entry g.entries)
    (mapped IsLinkInRange rows.Link (λ l h. h) g.links (first_links g.links g.outs links))
    (both_rows (map rows.Out g.outs) (map rows.Entry g.entries)
    (mapped (λ (o : OutLink). IsLinkInRange o.link) rows.Out (λ o h. h) g.outs (last_links g.links g.outs links))
    (mapped (λ (e : Entry). IsAddr e.node) rows.Entry (λ e h. h) g.entries (recursion_from_All (λ (e : Entry). IsAddr e.node) g.entries range.entries))))

pub changes_keep_range : (text : List ℕ) (changes : List Change) (g t : Rows) → text_in text ≡ Ok changes → IsBuiltOf g changes t → AreInRange g → AreInRange t
changes_keep_range text changes g t is built range =
    moved (changed_rows g changes) t built.built.nodes built.built.links built.built.outs built.built.entries
    (kinds_in_range g.own (rows_after (rows_in_order g) changes) (after_in_range (rows_in_order g) changes (before_in_range g range) (changes_in_range (told_lines text) changes is)))
