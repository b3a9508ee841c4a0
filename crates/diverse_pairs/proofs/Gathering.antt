-- What was gathered from some words or lines, and what those behind them add.
use Rattle.std.proofs.Common.{◌≡◌, ℕ, ◌+◌, List, [], ◌∷◌, ◌++◌, true, false, leb, Option, Some, None, Result, Ok, Err, refl, sym, ap, ◌∙◌, append_assoc, append-nil}
use Rattle.dom_base.specs.AddrOrder.{rank}
use Rattle.dom_base.specs.declared.addr.Addr.{Addr}
use Rattle.dom_base.specs.AddrText.{addr_in}
use Rattle.dom_base.specs.Steps.{◌>>=◌}
use Rattle.line_text.specs.Lines.{NumberedLine}
use Rattle.te_links.specs.declared.fault.TopoFault.TheVariants.{Syntax}
use Rattle.te_text.specs.declared.error.TextError.{TextError}
use Rattle.te_text.specs.declared.error.TextError.TheVariants.{At, NoMemory}
use Rattle.te_text.specs.Given.{GivesText}
use Rattle.te_text.specs.Reading.{and_then}
use Rattle.path_certificate.specs.Text.{least_behind}
use Rattle.path_certificate.proofs.Gathering.{in_front}
use Rattle.diverse_pairs.specs.declared.certificate.PairForm.{PairForm}
use Rattle.diverse_pairs.specs.declared.certificate.PairForm.TheVariants.{Paths, Cut}
use Rattle.diverse_pairs.specs.declared.pair_row.PairRow.{PairRow}
use Rattle.diverse_pairs.specs.declared.pair_row.PairRow.TheVariants as rows
use Rattle.diverse_pairs.specs.RowText.{rising_in}
use Rattle.diverse_pairs.specs.Text.{row_at, body_in, second_in, cut_says, with_potential}

-- ---- words

regroup : (done : List Addr) (addr : Addr) (others : Option (List Addr)) → in_front done (others >>= λ addrs. Some (addr ∷ addrs)) ≡ in_front (done ++ addr ∷ []) others
regroup done addr (Some addrs) = ap (λ (xs : List Addr). Some xs) (sym (append_assoc done (addr ∷ []) addrs))
regroup done addr None = refl

pub risen : (done : List Addr) (least : ℕ) (word : List ℕ) (words : List (List ℕ)) (addr : Addr) → addr_in word ≡ Some addr → leb least (rank addr) ≡ true
    → in_front done (rising_in least (word ∷ words)) ≡ in_front (done ++ addr ∷ []) (rising_in (rank addr + 1) words)
risen done least word words addr e above = rw (e, above) (regroup done addr (rising_in (rank addr + 1) words))

pub no_addr : (done : List Addr) (least : ℕ) (word : List ℕ) (words : List (List ℕ)) → addr_in word ≡ None → in_front done (rising_in least (word ∷ words)) ≡ None
no_addr done least word words e = rw e refl

-- ---- lines

abbrev pub Potentials : Type 0
Potentials = List (Addr × ℕ)

abbrev pub behind : Potentials → PairForm → PairForm
behind done (Paths potentials one other) = Paths (done ++ potentials) one other
behind done (Cut nodes) = Cut nodes

-- what was gathered, with what further lines say
abbrev pub further : Potentials → Result PairForm TextError → Result PairForm TextError
further done said = and_then said (λ form. Ok (behind done form))

pub nothing_yet : (said : Result PairForm TextError) → further [] said ≡ said
nothing_yet (Ok (Paths potentials one other)) = refl
nothing_yet (Ok (Cut nodes)) = refl
nothing_yet (Err e) = refl

moves : (done : Potentials) (row : Addr × ℕ) (said : Result PairForm TextError) →
    further done (and_then said (λ form. Ok (with_potential row form))) ≡ further (done ++ row ∷ []) said
moves done row (Err e) = refl
moves done row (Ok (Paths potentials one other)) = ap (λ (ps : Potentials). Ok (Paths ps one other)) (sym (append_assoc done (row ∷ []) potentials))
moves done row (Ok (Cut nodes)) = refl

-- a line with a potential
goes_on : (done : Potentials) (end : ℕ) (before : Option Addr) (line : NumberedLine) (others : List NumberedLine) (addr : Addr) (number : ℕ)
    → row_at line ≡ Ok (rows.At addr number) → leb (least_behind before) (rank addr) ≡ true
    → further done (body_in end before (line ∷ others)) ≡ further (done ++ (addr, number) ∷ []) (body_in end (Some addr) others)
unfolding body_in
goes_on done end before line others addr number e above = rw (e, above) (moves done (addr, number) (body_in end (Some addr) others))

-- a potential out of order
pub out_of_order : (done : Potentials) (end : ℕ) (before : Option Addr) (line : NumberedLine) (others : List NumberedLine) (addr : Addr) (number : ℕ)
    → row_at line ≡ Ok (rows.At addr number) → leb (least_behind before) (rank addr) ≡ false
    → further done (body_in end before (line ∷ others)) ≡ Err (At line.number Syntax)
unfolding body_in
out_of_order done end before line others addr number e below = rw (e, below) refl

-- a line that is outside the form
stops : (done : Potentials) (end : ℕ) (before : Option Addr) (line : NumberedLine) (others : List NumberedLine) (fault : TextError)
    → row_at line ≡ Err fault → further done (body_in end before (line ∷ others)) ≡ Err fault
unfolding body_in
stops done end before line others fault e = rw e refl

-- the first path, and what stands behind it
pub first_said : (done : Potentials) (end : ℕ) (before : Option Addr) (line : NumberedLine) (others : List NumberedLine) (one : List Addr)
    → row_at line ≡ Ok (rows.First one)
    → further done (body_in end before (line ∷ others)) ≡ and_then (second_in end others) (λ other. Ok (Paths done one other))
unfolding body_in
first_said done end before line others one e = rw e (go (second_in end others))
  where
    go : (said : Result (List Addr) TextError) → further done (and_then said (λ other. Ok (Paths [] one other))) ≡ and_then said (λ other. Ok (Paths done one other))
    go (Ok other) = ap (λ (ps : Potentials). Ok (Paths ps one other)) (append-nil done)
    go (Err fault) = refl

-- the second path before the first
pub second_first : (done : Potentials) (end : ℕ) (before : Option Addr) (line : NumberedLine) (others : List NumberedLine) (other : List Addr)
    → row_at line ≡ Ok (rows.Second other) → further done (body_in end before (line ∷ others)) ≡ Err (At line.number Syntax)
unfolding body_in
second_first done end before line others other e = rw e refl

-- a cut
pub cut_said : (done : Potentials) (end : ℕ) (before : Option Addr) (line : NumberedLine) (others : List NumberedLine) (nodes : List Addr)
    → row_at line ≡ Ok (rows.Cut nodes) → further done (body_in end before (line ∷ others)) ≡ cut_says before line.number others nodes
unfolding body_in
cut_said done end before line others nodes e = rw e (go before others)
  where
    go : (b : Option Addr) (left : List NumberedLine) → further done (cut_says b line.number left nodes) ≡ cut_says b line.number left nodes
    go None [] = refl
    go None (next ∷ left) = refl
    go (Some addr) left = refl

pub missing : (done : Potentials) (end : ℕ) (before : Option Addr) → further done (body_in end before []) ≡ Err (At end Syntax)
unfolding body_in
missing done end before = refl

-- where a line was not read
pub fault_stays : (done : Potentials) (end : ℕ) (before : Option Addr) (lines left : List NumberedLine) (line : NumberedLine) (e : TextError)
    (all : Result PairForm TextError) → further done (body_in end before lines) ≡ all → lines ≡ line ∷ left
    → GivesText {X = PairRow} (Err e) (row_at line) → GivesText {X = PairForm} (Err e) all
fault_stays done end before lines left line (At number fault) all so_far split said =
    sym so_far ∙ ap (λ (ls : List NumberedLine). further done (body_in end before ls)) split ∙ stops done end before line left (At number fault) said
fault_stays done end before lines left line NoMemory all so_far split said = tt

-- a line with a potential, as the loop goes over it
pub moved_on : (done : Potentials) (end : ℕ) (before : Option Addr) (lines left : List NumberedLine) (line : NumberedLine) (row : PairRow)
    (addr : Addr) (number : ℕ) (done' : Potentials) (all : Result PairForm TextError)
    → row_at line ≡ Ok row → row ≡ rows.At addr number → leb (least_behind before) (rank addr) ≡ true → lines ≡ line ∷ left
    → done' ≡ done ++ (addr, number) ∷ []
    → further done (body_in end before lines) ≡ all → further done' (body_in end (Some addr) left) ≡ all
moved_on done end before lines left line row addr number done' all at is above split done_are so_far =
    ap (λ ps. further ps (body_in end (Some addr) left)) done_are
    ∙ sym (goes_on done end before line left addr number (at ∙ ap (λ (r : PairRow). Ok r) is) above)
    ∙ ap (λ (ls : List NumberedLine). further done (body_in end before ls)) (sym split)
    ∙ so_far

-- the second path was not read
pub first_stays : (done : Potentials) (end : ℕ) (before : Option Addr) (lines left : List NumberedLine) (line : NumberedLine) (one : List Addr) (e : TextError)
    (all : Result PairForm TextError) → further done (body_in end before lines) ≡ all → lines ≡ line ∷ left → row_at line ≡ Ok (rows.First one)
    → GivesText {X = List Addr} (Err e) (second_in end left) → GivesText {X = PairForm} (Err e) all
first_stays done end before lines left line one (At number fault) all so_far split at said =
    sym so_far ∙ ap (λ (ls : List NumberedLine). further done (body_in end before ls)) split ∙ first_said done end before line left one at
    ∙ ap (λ (s : Result (List Addr) TextError). and_then s (λ other. Ok (Paths done one other))) said
first_stays done end before lines left line one NoMemory all so_far split at said = tt

pub first_accepted : (done : Potentials) (end : ℕ) (before : Option Addr) (lines left : List NumberedLine) (line : NumberedLine) (one other : List Addr)
    (all : Result PairForm TextError) → further done (body_in end before lines) ≡ all → lines ≡ line ∷ left → row_at line ≡ Ok (rows.First one)
    → second_in end left ≡ Ok other → all ≡ Ok (Paths done one other)
first_accepted done end before lines left line one other all so_far split at said =
    sym so_far ∙ ap (λ (ls : List NumberedLine). further done (body_in end before ls)) split ∙ first_said done end before line left one at
    ∙ ap (λ (s : Result (List Addr) TextError). and_then s (λ o. Ok (Paths done one o))) said

same_gives : (r s : Result PairForm TextError) → s ≡ r → GivesText r s
same_gives (Ok form) s is = is
same_gives (Err (At number fault)) s is = is
same_gives (Err NoMemory) s is = tt

pub cut_gives : (done : Potentials) (end : ℕ) (before : Option Addr) (lines left : List NumberedLine) (line : NumberedLine) (nodes : List Addr) (r : Result PairForm TextError)
    (all : Result PairForm TextError) → further done (body_in end before lines) ≡ all → lines ≡ line ∷ left → row_at line ≡ Ok (rows.Cut nodes)
    → r ≡ cut_says before line.number left nodes → GivesText r all
cut_gives done end before lines left line nodes r all so_far split at said =
    same_gives r all
    (sym so_far ∙ ap (λ (ls : List NumberedLine). further done (body_in end before ls)) split ∙ cut_said done end before line left nodes at ∙ sym said)
