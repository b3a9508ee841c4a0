-- Rows by their kinds, as further ones come; lists of rows as they grow.
use Rattle.std.proofs.Common.{◌≡◌, ℕ, zero, suc, ◌+◌, List, [], ◌∷◌, ◌++◌, length, take, map, Option, Some, None, slice_get, refl, sym, ◌∙◌, ap, append_assoc, arith}
use Rattle.std.proofs.lemmas.List.{append-nil, take_all}
use Rattle.dom_base.specs.declared.names.As.{As}
use Rattle.dom_base.specs.declared.addr.Addr.{Addr}
use Rattle.dom_base.specs.declared.link.Link.{Link}
use Rattle.te_links.specs.declared.rows.OutLink.{OutLink}
use Rattle.te_links.specs.declared.rows.Entry.{Entry}
use Rattle.te_links.specs.Rows.{Rows}
use Rattle.te_text.specs.declared.row.TextRow.{TextRow}
use Rattle.te_text.specs.declared.row.TextRow.TheVariants as rows
use Rattle.te_deltas.specs.Changes.{nodes_in, links_in, outs_in, entries_in, rows_of}
use Rattle.te_deltas.specs.Gathered.{with_last}
use Rattle.te_deltas.specs.Slots.{live}

-- the rows of each kind in two lists, one behind the other
parts_push : (list more : List TextRow) → (nodes_in (list ++ more) ≡ nodes_in list ++ nodes_in more) × (links_in (list ++ more) ≡ links_in list ++ links_in more)
    × (outs_in (list ++ more) ≡ outs_in list ++ outs_in more) × (entries_in (list ++ more) ≡ entries_in list ++ entries_in more)
parts_push [] more = (refl, refl, refl, refl)
parts_push (rows.Node n ∷ list) more = let p = parts_push list more in (ap (λ r. n ∷ r) p.0, p.1, p.2, p.3)
parts_push (rows.Link l ∷ list) more = let p = parts_push list more in (p.0, ap (λ r. l ∷ r) p.1, p.2, p.3)
parts_push (rows.Out o ∷ list) more = let p = parts_push list more in (p.0, p.1, ap (λ r. o ∷ r) p.2, p.3)
parts_push (rows.Entry e ∷ list) more = let p = parts_push list more in (p.0, p.1, p.2, ap (λ r. e ∷ r) p.3)

abbrev made : As → List Addr → List Link → List OutLink → List Entry → Rows
made own nodes links outs entries = record { own = own; nodes = nodes; links = links; outs = outs; entries = entries }

rows_behind : (own : As) (list more : List TextRow) → rows_of own (list ++ more) ≡ made own (nodes_in list ++ nodes_in more) (links_in list ++ links_in more) (outs_in list ++ outs_in more) (entries_in list ++ entries_in more)
rows_behind own list more = let p = parts_push list more in rw (p.0, p.1, p.2, p.3) refl

-- a further row stands last in the list of its kind
pub rows_push : (own : As) (list : List TextRow) (row : TextRow) → rows_of own (list ++ row ∷ []) ≡ with_last (rows_of own list) row
rows_push own list (rows.Node n) = rows_behind own list (rows.Node n ∷ []) ∙ rw (append-nil (links_in list), append-nil (outs_in list), append-nil (entries_in list)) refl
rows_push own list (rows.Link l) = rows_behind own list (rows.Link l ∷ []) ∙ rw (append-nil (nodes_in list), append-nil (outs_in list), append-nil (entries_in list)) refl
rows_push own list (rows.Out o) = rows_behind own list (rows.Out o ∷ []) ∙ rw (append-nil (nodes_in list), append-nil (links_in list), append-nil (entries_in list)) refl
rows_push own list (rows.Entry e) = rows_behind own list (rows.Entry e ∷ []) ∙ rw (append-nil (nodes_in list), append-nil (links_in list), append-nil (outs_in list)) refl

pub live_some : (slots : List (Option TextRow)) (row : TextRow) → live (slots ++ Some row ∷ []) ≡ live slots ++ row ∷ []
live_some [] row = refl
live_some (None ∷ slots) row = live_some slots row
live_some (Some one ∷ slots) row = ap (λ r. one ∷ r) (live_some slots row)

pub live_none : (slots : List (Option TextRow)) → live (slots ++ None ∷ []) ≡ live slots
live_none [] = refl
live_none (None ∷ slots) = live_none slots
live_none (Some one ∷ slots) = ap (λ r. one ∷ r) (live_none slots)

-- one further item that was taken from the front of what is left
pub turn : {X : Type 0} (done left after whole : List X) (x : X) → done ++ left ≡ whole → left ≡ x ∷ after → (done ++ x ∷ []) ++ after ≡ whole
turn done left after whole x is front = append_assoc done (x ∷ []) after ∙ ap (λ r. done ++ r) (sym front) ∙ is

pub no_more : {X : Type 0} (done left whole : List X) → done ++ left ≡ whole → length left ≡ 0 → done ≡ whole
no_more done [] whole is none = sym (append-nil done) ∙ is
no_more done (x ∷ left) whole is none = absurd (omega (arith, none))

-- a mapped list, one further
step : {X : Type 0} (make : X → TextRow) (xs : List X) (i : ℕ) (x : X) → slice_get xs i ≡ Some x → map make (take i xs) ++ make x ∷ [] ≡ map make (take (suc i) xs)
step make [] i x at = absurd (let none : None ≡ Some x = at in cc)
step make (y ∷ xs) zero x at = let same : Some y ≡ Some x = at in let is : y ≡ x = cc in ap (λ z. make z ∷ []) (sym is)
step make (y ∷ xs) (suc i) x at = ap (λ r. make y ∷ r) (step make xs i x at)

pub map_further : {X : Type 0} (make : X → TextRow) (xs : List X) (i : ℕ) (x : X) (old now next : List TextRow) → slice_get xs i ≡ Some x → now ≡ old ++ map make (take i xs) → next ≡ now ++ make x ∷ [] →
    next ≡ old ++ map make (take (i + 1) xs)
map_further make xs i x old now next at so_far more =
    let one : suc i ≡ i + 1 = omega arith in
    more ∙ ap (λ (v : List TextRow). v ++ make x ∷ []) so_far ∙ append_assoc old (map make (take i xs)) (make x ∷ [])
    ∙ ap (λ (v : List TextRow). old ++ v) (step make xs i x at) ∙ ap (λ (k : ℕ). old ++ map make (take k xs)) one

pub map_whole : {X : Type 0} (make : X → TextRow) (xs : List X) (i : ℕ) (old now : List TextRow) → i ≡ length xs → now ≡ old ++ map make (take i xs) → now ≡ old ++ map make xs
map_whole make xs i old now all so_far = so_far ∙ ap (λ (v : List _). old ++ map make v) (take_all i xs (omega (arith, all)))
