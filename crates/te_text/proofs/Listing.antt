-- Rows that are written one after another.
use Rattle.std.proofs.Common.{◌≡◌, ℕ, ◌+◌, List, [], ◌∷◌, ◌++◌, take, map, Some, refl, sym, ap, ◌∙◌, append_assoc}
use Rattle.std.specs.List.{flat_map, All, slice_get}
use Rattle.std.proofs.lemmas.List.{take_more, flat_map_more}
use Rattle.std.proofs.lemmas.List.Elements.{All-push}
use Rattle.std.proofs.lemmas.Option.{slice_get_within, get_or_from_slice_get}
use Rattle.line_text.specs.Spelling.{line_text, text_of}
use Rattle.te_links.specs.Rows.{Rows}
use Rattle.te_text.specs.declared.row.TextRow.{TextRow}
use Rattle.te_text.specs.declared.row.TextRow.TheVariants as rows
use Rattle.te_text.specs.TopologyText.{row_words, header_words, topology_text}
use Rattle.te_text.specs.Spelled.{row_text}

one_further : {X : Type 0} (xs : List X) (i : ℕ) (x : X) → slice_get xs i ≡ Some x → take (i + 1) xs ≡ take i xs ++ x ∷ []
one_further xs i x e = take_more xs i x (slice_get_within xs i x e) ∙ ap (λ y. take i xs ++ y ∷ []) (get_or_from_slice_get xs i x x e)

pub rows_more : {X : Type 0} (f : X → List ℕ) (old now next : List ℕ) (xs : List X) (i : ℕ) (x : X) → slice_get xs i ≡ Some x
    → now ≡ old ++ flat_map f (take i xs) → next ≡ now ++ f x → next ≡ old ++ flat_map f (take (i + 1) xs)
rows_more f old now next xs i x e so_far more =
    more ∙ ap (λ (v : List ℕ). v ++ f x) so_far ∙ flat_map_more f old (take i xs) x ∙ ap (λ ys. old ++ flat_map f ys) (sym (one_further xs i x e))

pub all_more : {X : Type 0} (P : X → Type 0) (xs : List X) (i : ℕ) (x : X) → slice_get xs i ≡ Some x → All P (take i xs) → P x → All P (take (i + 1) xs)
all_more P xs i x e so_far here = rw (one_further xs i x e) (All-push P (take i xs) x so_far here)

rows_text : {X : Type 0} (make : X → TextRow) (xs : List X) (rest : List TextRow)
    → text_of (map row_words (map make xs ++ rest)) ≡ flat_map (λ x. row_text (make x)) xs ++ text_of (map row_words rest)
rows_text make [] rest = refl
rows_text make (x ∷ xs) rest =
    ap (λ (v : List ℕ). row_text (make x) ++ v) (rows_text make xs rest)
    ∙ sym (append_assoc (row_text (make x)) (flat_map (λ y. row_text (make y)) xs) (text_of (map row_words rest)))

last_rows : {X : Type 0} (make : X → TextRow) (xs : List X) → text_of (map row_words (map make xs)) ≡ flat_map (λ x. row_text (make x)) xs
last_rows make [] = refl
last_rows make (x ∷ xs) = ap (λ (v : List ℕ). row_text (make x) ++ v) (last_rows make xs)

regroup : (h a b c d : List ℕ) → (((h ++ a) ++ b) ++ c) ++ d ≡ h ++ (a ++ (b ++ (c ++ d)))
regroup h a b c d = simp append_assoc

-- the header and the four lists of rows make the text
pub whole_text : (t : Rows)
    → (((line_text (header_words t.own) ++ flat_map (λ n. row_text (rows.Node n)) t.nodes) ++ flat_map (λ l. row_text (rows.Link l)) t.links)
    ++ flat_map (λ o. row_text (rows.Out o)) t.outs) ++ flat_map (λ e. row_text (rows.Entry e)) t.entries ≡ topology_text t
whole_text t =
    let h = line_text (header_words t.own) in
    let a = flat_map (λ n. row_text (rows.Node n)) t.nodes in
    let b = flat_map (λ l. row_text (rows.Link l)) t.links in
    let c = flat_map (λ o. row_text (rows.Out o)) t.outs in
    regroup h a b c (flat_map (λ e. row_text (rows.Entry e)) t.entries)
    ∙ ap (λ (v : List ℕ). h ++ v) (sym (rows_text rows.Node t.nodes (map rows.Link t.links ++ (map rows.Out t.outs ++ map rows.Entry t.entries))
    ∙ ap (λ (v : List ℕ). a ++ v) (rows_text rows.Link t.links (map rows.Out t.outs ++ map rows.Entry t.entries)
    ∙ ap (λ (v : List ℕ). b ++ v) (rows_text rows.Out t.outs (map rows.Entry t.entries)
    ∙ ap (λ (v : List ℕ). c ++ v) (last_rows rows.Entry t.entries)))))
