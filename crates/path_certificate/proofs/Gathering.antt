-- What was gathered from some words or lines, and what those behind them add.
use Rattle.std.proofs.Common.{◌≡◌, ℕ, ◌+◌, List, [], ◌∷◌, ◌++◌, map, true, false, leb, Option, Some, None, Result, Ok, Err, refl, sym, ap, ◌∙◌, append_assoc, append-nil}
use Rattle.dom_base.specs.AddrOrder.{rank}
use Rattle.dom_base.specs.declared.addr.Addr.{Addr}
use Rattle.dom_base.specs.declared.query.Label.{Label}
use Rattle.dom_base.specs.AddrText.{addr_in}
use Rattle.dom_base.specs.Steps.{◌>>=◌}
use Rattle.line_text.specs.Lines.{NumberedLine}
use Rattle.te_links.specs.declared.fault.TopoFault.TheVariants.{Syntax}
use Rattle.path_certificate.specs.declared.text_row.TextRow.{TextRow}
use Rattle.path_certificate.specs.declared.text_row.TextRow.TheVariants as rows
use Rattle.path_certificate.specs.declared.reading.Gathered.{Gathered}
use Rattle.te_text.specs.declared.error.TextError.{TextError}
use Rattle.te_text.specs.declared.error.TextError.TheVariants.{At, NoMemory}
use Rattle.te_text.specs.Given.{GivesText}
use Rattle.path_certificate.specs.RowText.{addrs_in}
use Rattle.te_text.specs.Reading.{and_then}
use Rattle.path_certificate.specs.Text.{row_at, body_in, with_label, Body, LabelLine, stranger_at, or_first, first_stranger, gathered}

abbrev pub in_front : List Addr → Option (List Addr) → Option (List Addr)
in_front done (Some addrs) = Some (done ++ addrs)
in_front done None = None

pub one_in_front : (start : Addr) (addrs : Option (List Addr)) → in_front (start ∷ []) addrs ≡ (addrs >>= λ others. Some (start ∷ others))
one_in_front start (Some addrs) = refl
one_in_front start None = refl

regroup : (done : List Addr) (addr : Addr) (others : Option (List Addr)) → in_front done (others >>= λ addrs. Some (addr ∷ addrs)) ≡ in_front (done ++ addr ∷ []) others
regroup done addr (Some addrs) = ap (λ (as' : List Addr). Some as') (sym (append_assoc done (addr ∷ []) addrs))
regroup done addr None = refl

pub one_more : (done : List Addr) (word : List ℕ) (words : List (List ℕ)) (addr : Addr) → addr_in word ≡ Some addr
    → in_front done (addrs_in (word ∷ words)) ≡ in_front (done ++ addr ∷ []) (addrs_in words)
one_more done word words addr e = rw e (regroup done addr (addrs_in words))

pub no_addr : (done : List Addr) (word : List ℕ) (words : List (List ℕ)) → addr_in word ≡ None → in_front done (addrs_in (word ∷ words)) ≡ None
no_addr done word words e = rw e refl

pub all_read : (done : List Addr) → in_front done (addrs_in []) ≡ Some done
all_read done = ap (λ (xs : List Addr). Some xs) (append-nil done)

-- ---- lines

abbrev pub Labels : Type 0
Labels = List (Addr × Option Label)

-- what was gathered, with what further lines say
abbrev pub further : List Addr → Labels → Option ℕ → Result Body TextError → Result Gathered TextError
further nodes labels stranger said =
    and_then said (λ body. Ok (record {
      labels = labels ++ map (λ row. row.1) body.labels;
      stranger = or_first stranger (first_stranger nodes body.labels);
      path = body.path;
    }))

pub nothing_yet : (nodes : List Addr) (said : Result Body TextError) → further nodes [] None said ≡ and_then said (λ body. Ok (gathered nodes body))
nothing_yet nodes (Ok body) = refl
nothing_yet nodes (Err e) = refl

or_first_assoc : (a b c : Option ℕ) → or_first a (or_first b c) ≡ or_first (or_first a b) c
or_first_assoc (Some l) b c = refl
or_first_assoc None b c = refl

moves : (nodes : List Addr) (labels : Labels) (stranger : Option ℕ) (number : ℕ) (addr : Addr) (label : Option Label) (said : Result Body TextError)
    → further nodes labels stranger (and_then said (λ body. Ok (with_label (number, (addr, label)) body)))
    ≡ further nodes (labels ++ (addr, label) ∷ []) (or_first stranger (stranger_at nodes number addr)) said
moves nodes labels stranger number addr label (Err e) = refl
moves nodes labels stranger number addr label (Ok body) =
    let row : Addr × Option Label = (addr, label) in
    let make : Labels → Option ℕ → Result Gathered TextError = λ xs s. Ok (record { labels = xs; stranger = s; path = body.path }) in
    let rest : Labels = map (λ (r : LabelLine). r.1) body.labels in
    ap (λ s. make (labels ++ row ∷ rest) s) (or_first_assoc stranger (stranger_at nodes number addr) (first_stranger nodes body.labels))
    ∙ ap (λ xs. make xs (or_first (or_first stranger (stranger_at nodes number addr)) (first_stranger nodes body.labels))) (sym (append_assoc labels (row ∷ []) rest))

-- a line with a label
pub goes_on : (nodes : List Addr) (labels : Labels) (stranger : Option ℕ) (end least : ℕ) (line : NumberedLine) (others : List NumberedLine) (addr : Addr) (label : Option Label)
    → row_at line ≡ Ok (rows.Label addr label) → leb least (rank addr) ≡ true
    → further nodes labels stranger (body_in end least (line ∷ others))
    ≡ further nodes (labels ++ (addr, label) ∷ []) (or_first stranger (stranger_at nodes line.number addr)) (body_in end (rank addr + 1) others)
unfolding body_in
goes_on nodes labels stranger end least line others addr label e above = rw (e, above) (moves nodes labels stranger line.number addr label (body_in end (rank addr + 1) others))

-- a label out of order
pub out_of_order : (nodes : List Addr) (labels : Labels) (stranger : Option ℕ) (end least : ℕ) (line : NumberedLine) (others : List NumberedLine) (addr : Addr) (label : Option Label)
    → row_at line ≡ Ok (rows.Label addr label) → leb least (rank addr) ≡ false
    → further nodes labels stranger (body_in end least (line ∷ others)) ≡ Err (At line.number Syntax)
unfolding body_in
out_of_order nodes labels stranger end least line others addr label e below = rw (e, below) refl

-- a line that is outside the form
pub stops : (nodes : List Addr) (labels : Labels) (stranger : Option ℕ) (end least : ℕ) (line : NumberedLine) (others : List NumberedLine) (fault : TextError)
    → row_at line ≡ Err fault → further nodes labels stranger (body_in end least (line ∷ others)) ≡ Err fault
unfolding body_in
stops nodes labels stranger end least line others fault e = rw e refl

or_none : (o : Option ℕ) → or_first o None ≡ o
or_none (Some l) = refl
or_none None = refl

-- the path, and nothing behind it
pub ends : (nodes : List Addr) (labels : Labels) (stranger : Option ℕ) (end least : ℕ) (line : NumberedLine) (path : Option (List Addr))
    → row_at line ≡ Ok (rows.Path path)
    → further nodes labels stranger (body_in end least (line ∷ [])) ≡ Ok (record { labels = labels; stranger = stranger; path = path })
unfolding body_in
ends nodes labels stranger end least line path e = rw (e, append-nil labels, or_none stranger) refl

-- something behind the path
pub goes_past : (nodes : List Addr) (labels : Labels) (stranger : Option ℕ) (end least : ℕ) (line other : NumberedLine) (others : List NumberedLine) (path : Option (List Addr))
    → row_at line ≡ Ok (rows.Path path) → further nodes labels stranger (body_in end least (line ∷ other ∷ others)) ≡ Err (At other.number Syntax)
unfolding body_in
goes_past nodes labels stranger end least line other others path e = rw e refl

pub missing : (nodes : List Addr) (labels : Labels) (stranger : Option ℕ) (end least : ℕ) → further nodes labels stranger (body_in end least []) ≡ Err (At end Syntax)
unfolding body_in
missing nodes labels stranger end least = refl

-- where a line was not read
pub fault_stays : (nodes : List Addr) (labels : Labels) (stranger : Option ℕ) (end least : ℕ) (lines left : List NumberedLine) (line : NumberedLine) (e : TextError)
    (all : Result Gathered TextError) → further nodes labels stranger (body_in end least lines) ≡ all → lines ≡ line ∷ left
    → GivesText {X = TextRow} (Err e) (row_at line) → GivesText {X = Gathered} (Err e) all
fault_stays nodes labels stranger end least lines left line (At number fault) all so_far split said =
    sym so_far ∙ ap (λ (ls : List NumberedLine). further nodes labels stranger (body_in end least ls)) split ∙ stops nodes labels stranger end least line left (At number fault) said
fault_stays nodes labels stranger end least lines left line NoMemory all so_far split said = tt

-- a line with a label, as the loop goes over it
pub moved_on : (nodes : List Addr) (labels : Labels) (stranger : Option ℕ) (end least : ℕ) (lines left : List NumberedLine) (line : NumberedLine) (row : TextRow)
    (addr : Addr) (label : Option Label) (labels' : Labels) (stranger' : Option ℕ) (n : ℕ) (all : Result Gathered TextError)
    → row_at line ≡ Ok row → row ≡ rows.Label addr label → leb least (rank addr) ≡ true → lines ≡ line ∷ left
    → labels' ≡ labels ++ (addr, label) ∷ [] → stranger' ≡ or_first stranger (stranger_at nodes line.number addr) → n ≡ rank addr
    → further nodes labels stranger (body_in end least lines) ≡ all → further nodes labels' stranger' (body_in end (n + 1) left) ≡ all
moved_on nodes labels stranger end least lines left line row addr label labels' stranger' n all at is above split labels_are stranger_is next so_far =
    ap (λ xs. further nodes xs stranger' (body_in end (n + 1) left)) labels_are
    ∙ ap (λ s. further nodes (labels ++ (addr, label) ∷ []) s (body_in end (n + 1) left)) stranger_is
    ∙ ap (λ k. further nodes (labels ++ (addr, label) ∷ []) (or_first stranger (stranger_at nodes line.number addr)) (body_in end (k + 1) left)) next
    ∙ sym (goes_on nodes labels stranger end least line left addr label (at ∙ ap (λ (r : TextRow). Ok r) is) above)
    ∙ ap (λ (ls : List NumberedLine). further nodes labels stranger (body_in end least ls)) (sym split)
    ∙ so_far
