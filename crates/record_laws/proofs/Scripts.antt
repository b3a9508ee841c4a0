-- The script of a folder is the texts of its parts.
use Rattle.std.proofs.Common.{◌≡◌, ◌∙◌, ℕ, ◌+◌, ◌-◌, Bool, true, false, cond, codes, decimal, drop, take, length, List, [], ◌∷◌, ◌++◌, replicate, reverse, refl, sym, ap, append_assoc, append-nil, length-append, arith, inl, inr}
use Rattle.std.specs.Str.{bytes_eq}
use Rattle.std.proofs.Math.Seq.{drop-append_seam}
use Rattle.std.proofs.lemmas.Bool.{cases_Bool}
use Rattle.std.proofs.lemmas.Grind.{flat_map-append}
use Rattle.std.proofs.lemmas.List.{reverse-append, take-append-drop}
use Rattle.std.proofs.lemmas.Slice.Eq.{bytes_eq-Decides}
use Rattle.plant_text.specs.declared.settings.PeerRow.{PeerRow}
use Rattle.event_lines.specs.EventLines.{load_name}
use Rattle.te_text.specs.TopologyText.{topology_text}
use Rattle.plant_record.specs.Books.{Deed, File, Script, Topology, files, kept, next_part, part_count}
use Rattle.plant_record.specs.Parts.{Title, part_name, part_text}
use Rattle.record_laws.specs.Records.{is_part, script_of}
use Rattle.record_laws.proofs.Items.{parts_text}

-- ---- names

play_name : (a : List ℕ) → is_part (a ++ codes ".play") ≡ true
play_name a =
    let place : length (a ++ codes ".play") - 5 ≡ length a = omega (arith, length-append a (codes ".play")) in
    ap (λ (k : ℕ). bytes_eq (drop k (a ++ codes ".play")) (codes ".play")) place ∙ ap (λ (xs : List ℕ). bytes_eq xs (codes ".play")) (drop-append_seam a (codes ".play"))

pub parts_are : (k : ℕ) → is_part (part_name k) ≡ true
parts_are k =
    let zeros : List ℕ = replicate (6 - length (decimal k)) 48 in
    ap is_part (sym (append_assoc zeros (decimal k) (codes ".play"))) ∙ play_name (zeros ++ decimal k)

-- of two texts that are one the last octets are one
last_same : (a b : List ℕ) → a ++ codes ".play" ≡ b ++ codes ".txt" → ⊥
last_same a b e =
    let back : 121 ∷ 97 ∷ 108 ∷ 112 ∷ 46 ∷ reverse a ≡ 116 ∷ 120 ∷ 116 ∷ 46 ∷ reverse b = sym (reverse-append a (codes ".play")) ∙ ap reverse e ∙ reverse-append b (codes ".txt") in
    heads 121 116 _ _ back (λ same. absurd (omega (arith, same)))
  where
    heads : (c d : ℕ) (xs ys : List ℕ) → (c ∷ xs) ≡ (d ∷ ys) → (c ≡ d → ⊥) → ⊥
    heads c d xs ys e differ = differ cc

text_name : (b : List ℕ) → is_part (b ++ codes ".txt") ≡ false
text_name b =
    let name : List ℕ = b ++ codes ".txt" in
    let k : ℕ = length name - 5 in
    elim (cases_Bool (is_part name)) [
      | inl is ↦ absurd (last_same (take k name) b (ap (λ (xs : List ℕ). take k name ++ xs) (sym ((bytes_eq-Decides (drop k name) (codes ".play")).0 is)) ∙ take-append-drop k name))
      | inr other ↦ other
    ]

pub loads_are_none : (k : ℕ) → is_part (load_name k) ≡ false
loads_are_none k = ap is_part (sym (append_assoc (codes "load-") (decimal k) (codes ".txt"))) ∙ text_name (codes "load-" ++ decimal k)

-- ---- files

part_of : File → List ℕ
part_of f = cond (is_part f.0) f.1 []

pub script_append : (xs ys : List File) → script_of (xs ++ ys) ≡ script_of xs ++ script_of ys
script_append xs ys = flat_map-append (λ (f : File). cond (is_part f.0) f.1 []) xs ys

pub script_part : (k : ℕ) (text : List ℕ) → script_of ((part_name k, text) ∷ []) ≡ text
script_part k text = ap (λ (b : Bool). cond b text [] ++ []) (parts_are k) ∙ append-nil text

script_load : (k : ℕ) (text : List ℕ) → script_of ((load_name k, text) ∷ []) ≡ []
script_load k text = ap (λ (b : Bool). cond b text [] ++ []) (loads_are_none k)

pub script_book : (peers : List PeerRow) (t : Title) (book : List Deed) → script_of (files peers t book) ≡ parts_text peers t book
script_book peers t [] = refl
script_book peers t (Topology g ∷ book) =
    script_append (files peers t book) _ ∙ ap (λ (text : List ℕ). script_of (files peers t book) ++ text) (script_load (length (kept book) + 1) (topology_text g)) ∙ append-nil (script_of (files peers t book)) ∙ script_book peers t book
script_book peers t (Script moment events ∷ book) =
    let text : List ℕ = part_text peers t (next_part book moment events) in
    script_append (files peers t book) _ ∙ ap (λ (more : List ℕ). script_of (files peers t book) ++ more) (script_part (part_count book + 1) text) ∙ ap (λ (before : List ℕ). before ++ text) (script_book peers t book)
