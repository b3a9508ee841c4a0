-- Rows that were written are lines, which say the rows again.
use Rattle.std.proofs.Common.{◌≡◌, ℕ, ◌-◌, ◌^◌, List, [], ◌∷◌, ◌++◌, map, Some, refl, sym, ap, ◌∙◌, append_assoc, arith}
use Rattle.std.proofs.lemmas.List.{append-nil}
use Rattle.std.specs.Fmt.{decimal}
use Rattle.std.specs.List.{AllByRecursion}
use Rattle.dom_base.specs.declared.addr.Addr.{Addr}
use Rattle.dom_base.specs.declared.names.As.{As}
use Rattle.dom_base.specs.declared.link.Link.{Link}
use Rattle.dom_base.specs.AddrText.{addr_in, addr_text}
use Rattle.line_text.specs.Spelling.{joined, line_text, IsWord}
use Rattle.te_links.specs.declared.rows.OutLink.{OutLink}
use Rattle.te_links.specs.declared.rows.Entry.{Entry}
use Rattle.te_links.specs.declared.fault.RowKind.TheVariants as kinds
use Rattle.te_text.specs.declared.row.TextRow.TheVariants as rows
use Rattle.te_text.specs.RowText.{number_16, kind_word, fields_in, row_in}
use Rattle.te_text.specs.Reading.{topology_word, own_behind}
use Rattle.te_text.specs.TopologyText.{ends_words, traits_words, row_words, IsWritten, IsWrittenHeader}
use Rattle.te_text.specs.Spelled.{spaced, SpellsEnds, SpellsTraits, SpellsSrlgs}
use Rattle.te_text.proofs.Spelling.{addr_word, number_word}

-- ---- words

abbrev AreWords : List (List ℕ) → Type 0
AreWords words = AllByRecursion IsWord words

words_append : (xs ys : List (List ℕ)) → AreWords xs → AreWords ys → AreWords (xs ++ ys)
words_append [] ys h k = k
words_append (x ∷ xs) ys h k = (h.0, words_append xs ys h.1 k)

kind_is_word : (kind : _) → IsWord (kind_word kind)
kind_is_word kinds.Node = record { some = omega arith; bytes = (omega arith, (omega arith, (omega arith, (omega arith, tt)))) }
kind_is_word kinds.Link = record { some = omega arith; bytes = (omega arith, (omega arith, (omega arith, (omega arith, tt)))) }
kind_is_word kinds.Out = record { some = omega arith; bytes = (omega arith, (omega arith, (omega arith, tt))) }
kind_is_word kinds.Entry = record { some = omega arith; bytes = (omega arith, (omega arith, (omega arith, (omega arith, (omega arith, tt))))) }

topology_is_word : IsWord topology_word
topology_is_word = record { some = omega arith; bytes = (omega arith, (omega arith, (omega arith, (omega arith, (omega arith, (omega arith, (omega arith, (omega arith, tt)))))))) }

-- ---- the header

own_again : (own : As) → number_16 (decimal own.0) ≡ Some own.0 → own_behind (decimal own.0 ∷ []) ≡ Some own
unfolding own_behind
own_again own e = rw e refl

pub header_written : (own : As) → number_16 (decimal own.0) ≡ Some own.0 → IsWrittenHeader own
header_written own e = record {
  line = record {
    some = omega arith;
    each = (topology_is_word, (number_word (2 ^ 16 - 1) own.0 (decimal own.0) e, tt));
    first = λ h. let other : 116 ≡ 35 = h in absurd (omega arith);
  };
  again = own_again own e;
}

-- ---- rows

node_again : (n : Addr) → addr_in (addr_text n) ≡ Some n → row_in (row_words (rows.Node n)) ≡ Some (rows.Node n)
unfolding row_in fields_in
node_again n e = rw e refl

pub node_written : (n : Addr) → addr_in (addr_text n) ≡ Some n → IsWritten (rows.Node n)
node_written n e = record {
  line = record {
    some = omega arith;
    each = (kind_is_word kinds.Node, (addr_word n, tt));
    first = λ h. let other : 110 ≡ 35 = h in absurd (omega arith);
  };
  again = node_again n e;
}

link_again : (l : Link) → SpellsEnds l → SpellsTraits l → SpellsSrlgs l.srlgs → row_in (row_words (rows.Link l)) ≡ Some (rows.Link l)
unfolding row_in fields_in
link_again l e t s = rw (e.again (traits_words l ++ map decimal l.srlgs), t.again (map decimal l.srlgs), s.again) refl

pub link_written : (l : Link) → SpellsEnds l → SpellsTraits l → SpellsSrlgs l.srlgs → IsWritten (rows.Link l)
link_written l e t s = record {
  line = record {
    some = omega arith;
    each = (kind_is_word kinds.Link, words_append (ends_words l) (traits_words l ++ map decimal l.srlgs) e.words (words_append (traits_words l) (map decimal l.srlgs) t.words s.words));
    first = λ h. let other : 108 ≡ 35 = h in absurd (omega arith);
  };
  again = link_again l e t s;
}

out_again : (o : OutLink) → number_16 (decimal o.to_as.0) ≡ Some o.to_as.0 → SpellsEnds o.link → SpellsTraits o.link → SpellsSrlgs o.link.srlgs → row_in (row_words (rows.Out o)) ≡ Some (rows.Out o)
unfolding row_in fields_in
out_again o a e t s = rw (e.again (decimal o.to_as.0 ∷ (traits_words o.link ++ map decimal o.link.srlgs)), a, t.again (map decimal o.link.srlgs), s.again) refl

pub out_written : (o : OutLink) → number_16 (decimal o.to_as.0) ≡ Some o.to_as.0 → SpellsEnds o.link → SpellsTraits o.link → SpellsSrlgs o.link.srlgs → IsWritten (rows.Out o)
out_written o a e t s = record {
  line = record {
    some = omega arith;
    each = (
      kind_is_word kinds.Out,
      words_append (ends_words o.link) (decimal o.to_as.0 ∷ (traits_words o.link ++ map decimal o.link.srlgs)) e.words
          (number_word (2 ^ 16 - 1) o.to_as.0 (decimal o.to_as.0) a, words_append (traits_words o.link) (map decimal o.link.srlgs) t.words s.words),
    );
    first = λ h. let other : 111 ≡ 35 = h in absurd (omega arith);
  };
  again = out_again o a e t s;
}

entry_again : (d : Entry) → addr_in (addr_text d.node) ≡ Some d.node → number_16 (decimal d.from_as.0) ≡ Some d.from_as.0 → row_in (row_words (rows.Entry d)) ≡ Some (rows.Entry d)
unfolding row_in fields_in
entry_again d n a = rw (n, a) refl

pub entry_written : (d : Entry) → addr_in (addr_text d.node) ≡ Some d.node → number_16 (decimal d.from_as.0) ≡ Some d.from_as.0 → IsWritten (rows.Entry d)
entry_written d n a = record {
  line = record {
    some = omega arith;
    each = (kind_is_word kinds.Entry, (addr_word d.node, (number_word (2 ^ 16 - 1) d.from_as.0 (decimal d.from_as.0) a, tt)));
    first = λ h. let other : 101 ≡ 35 = h in absurd (omega arith);
  };
  again = entry_again d n a;
}

-- ---- the bytes of a line

-- a blank before each word but the first
joined_spaced : (word : List ℕ) (words : List (List ℕ)) → joined (word ∷ words) ≡ word ++ spaced words
joined_spaced word [] = sym (append-nil word)
joined_spaced word (next ∷ words) = ap (λ (rest : List ℕ). word ++ 32 ∷ rest) (joined_spaced next words)

spaced_append : (xs ys : List (List ℕ)) → spaced (xs ++ ys) ≡ spaced xs ++ spaced ys
spaced_append [] ys = refl
spaced_append (x ∷ xs) ys = ap (λ (rest : List ℕ). 32 ∷ (x ++ rest)) (spaced_append xs ys) ∙ ap (λ (rest : List ℕ). 32 ∷ rest) (sym (append_assoc x (spaced xs) (spaced ys)))

regroup_three : (o w a b c e : List ℕ) → ((((o ++ w) ++ a) ++ b) ++ c) ++ e ≡ o ++ ((w ++ (a ++ (b ++ c))) ++ e)
regroup_three o w a b c e = simp append_assoc

regroup_four : (o w a x b c e : List ℕ) → (((((o ++ w) ++ a) ++ x) ++ b) ++ c) ++ e ≡ o ++ ((w ++ (a ++ (x ++ (b ++ c)))) ++ e)
regroup_four o w a x b c e = simp append_assoc

abbrev ended : List ℕ → List ℕ → List ℕ
ended old line = old ++ (line ++ 10 ∷ [])

pub three_parts : (old word : List ℕ) (a b c : List (List ℕ))
    → ((((old ++ word) ++ spaced a) ++ spaced b) ++ spaced c) ++ 10 ∷ [] ≡ old ++ line_text (word ∷ (a ++ (b ++ c)))
three_parts old word a b c =
    regroup_three old word (spaced a) (spaced b) (spaced c) (10 ∷ [])
    ∙ ap (ended old) (ap (λ (rest : List ℕ). word ++ (spaced a ++ rest)) (sym (spaced_append b c))
    ∙ ap (λ (rest : List ℕ). word ++ rest) (sym (spaced_append a (b ++ c))) ∙ sym (joined_spaced word (a ++ (b ++ c))))

pub four_parts : (old word : List ℕ) (a : List (List ℕ)) (x : List ℕ) (b c : List (List ℕ))
    → (((((old ++ word) ++ spaced a) ++ 32 ∷ x) ++ spaced b) ++ spaced c) ++ 10 ∷ [] ≡ old ++ line_text (word ∷ (a ++ (x ∷ (b ++ c))))
four_parts old word a x b c =
    regroup_four old word (spaced a) (32 ∷ x) (spaced b) (spaced c) (10 ∷ [])
    ∙ ap (ended old) (ap (λ (rest : List ℕ). word ++ (spaced a ++ 32 ∷ (x ++ rest))) (sym (spaced_append b c))
    ∙ ap (λ (rest : List ℕ). word ++ rest) (sym (spaced_append a (x ∷ (b ++ c)))) ∙ sym (joined_spaced word (a ++ (x ∷ (b ++ c)))))
