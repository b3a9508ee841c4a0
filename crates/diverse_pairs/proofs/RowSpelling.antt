-- Lines that were written say again what was written.
use Rattle.std.proofs.Common.{◌≡◌, ◌≢◌, ℕ, ◌+◌, ◌-◌, ◌^◌, ◌<◌, List, [], ◌∷◌, ◌++◌, length, map, get_or, false, Some, None, append_assoc, refl, sym, ap, ◌∙◌, arith}
use Rattle.std.proofs.lemmas.Bool.{false_from_ne_true, le-leb}
use Rattle.std.proofs.lemmas.Slice.Eq.{bytes_eq-Decides}
use Rattle.std.specs.Fmt.{decimal}
use Rattle.std.specs.List.{AllByRecursion}
use Rattle.dom_base.specs.AddrOrder.{rank}
use Rattle.dom_base.specs.declared.addr.Addr.{Addr}
use Rattle.dom_base.specs.declared.names.As.{As}
use Rattle.dom_base.specs.Numerals.{number_in}
use Rattle.dom_base.specs.AddrText.{addr_in, addr_text, octet_in}
use Rattle.line_text.specs.Spelling.{joined, line_text, IsWord, IsLine}
use Rattle.te_text.specs.RowText.{number_64}
use Rattle.te_text.proofs.Spelling.{addr_word, number_word}
use Rattle.path_certificate.specs.RowText.{dash, is_dash, addrs_in}
use Rattle.path_certificate.specs.CertificateText.{spaced, AreAddrs}
use Rattle.path_certificate.proofs.RowSpelling.{joined_spaced}
use Rattle.diverse_pairs.specs.declared.pair_row.PairRow.TheVariants as rows
use Rattle.diverse_pairs.specs.RowText.{at_word, first_word, second_word, cut_word, rising_in, nodes_behind, row_in}
use Rattle.path_certificate.specs.Text.{own_behind}
use Rattle.diverse_pairs.specs.Text.{pair_word}
use Rattle.diverse_pairs.specs.PairText.{header_words, nodes_words, row_words, IsWritten, IsWrittenHeader}
use Rattle.diverse_pairs.proofs.Ascending.{RisingFrom}

pair_is_word : IsWord pair_word
pair_is_word = record { some = omega arith; bytes = (omega arith, (omega arith, (omega arith, (omega arith, tt)))) }

at_is_word : IsWord at_word
at_is_word = record { some = omega arith; bytes = (omega arith, (omega arith, tt)) }

first_is_word : IsWord first_word
first_is_word = record { some = omega arith; bytes = (omega arith, (omega arith, (omega arith, (omega arith, (omega arith, tt))))) }

second_is_word : IsWord second_word
second_is_word = record { some = omega arith; bytes = (omega arith, (omega arith, (omega arith, (omega arith, (omega arith, (omega arith, tt)))))) }

cut_is_word : IsWord cut_word
cut_is_word = record { some = omega arith; bytes = (omega arith, (omega arith, (omega arith, tt))) }

dash_is_word : IsWord dash
dash_is_word = record { some = omega arith; bytes = (omega arith, tt) }

own_again : (own : As) → number_in (2 ^ 16 - 1) (decimal own.0) ≡ Some own.0 → own_behind pair_word (header_words own) ≡ Some own
unfolding own_behind
own_again own e = rw e refl

pub header_written : (own : As) → number_in (2 ^ 16 - 1) (decimal own.0) ≡ Some own.0 → IsWrittenHeader own
header_written own e = record {
  line = record {
    some = omega arith;
    each = (pair_is_word, (number_word (2 ^ 16 - 1) own.0 (decimal own.0) e, tt));
    first = λ h. let other : 112 ≡ 35 = h in absurd (omega arith);
  };
  again = own_again own e;
}

at_again : (addr : Addr) (n : ℕ) → addr_in (addr_text addr) ≡ Some addr → number_64 (decimal n) ≡ Some n → row_in (row_words (rows.At addr n)) ≡ Some (rows.At addr n)
unfolding row_in
at_again addr n at number = rw (at, number) refl

pub at_written : (addr : Addr) (n : ℕ) → addr_in (addr_text addr) ≡ Some addr → number_64 (decimal n) ≡ Some n → IsWritten (rows.At addr n)
at_written addr n at number = record {
  line = record {
    some = omega arith;
    each = (at_is_word, (addr_word addr, (number_word (2 ^ 64 - 1) n (decimal n) number, tt)));
    first = λ h. let other : 97 ≡ 35 = h in absurd (omega arith);
  };
  again = at_again addr n at number;
}

-- ---- paths and cuts

addr_words : (addrs : List Addr) → AllByRecursion IsWord (map addr_text addrs)
addr_words [] = tt
addr_words (addr ∷ addrs) = (addr_word addr, addr_words addrs)

node_words : (nodes : List Addr) → AllByRecursion IsWord (nodes_words nodes)
node_words [] = (dash_is_word, tt)
node_words (node ∷ nodes) = addr_words (node ∷ nodes)

starts : (c : ℕ) (word : List ℕ) (words : List (List ℕ)) → get_or (joined ((c ∷ word) ∷ words)) 0 0 ≡ c
starts c word [] = refl
starts c word (w ∷ words) = refl

pub first_line : (one : List Addr) → IsLine (row_words (rows.First one))
first_line one = record {
  some = omega arith;
  each = (first_is_word, addr_words one);
  first = λ h. let other : 102 ≡ 35 = sym (starts 102 _ (map addr_text one)) ∙ h in absurd (omega arith);
}

pub second_line : (other : List Addr) → IsLine (row_words (rows.Second other))
second_line other = record {
  some = omega arith;
  each = (second_is_word, addr_words other);
  first = λ h. let bad : 115 ≡ 35 = sym (starts 115 _ (map addr_text other)) ∙ h in absurd (omega arith);
}

pub cut_line : (nodes : List Addr) → IsLine (row_words (rows.Cut nodes))
cut_line nodes = record {
  some = omega arith;
  each = (cut_is_word, node_words nodes);
  first = λ h. let other : 99 ≡ 35 = sym (starts 99 _ (nodes_words nodes)) ∙ h in absurd (omega arith);
}

addrs_again : (addrs : List Addr) → AreAddrs addrs → addrs_in (map addr_text addrs) ≡ Some addrs
addrs_again [] h = refl
addrs_again (addr ∷ addrs) h = rw (h.0, addrs_again addrs h.1) refl

pub first_again : (one : List Addr) → AreAddrs one → one ≢ [] → row_in (row_words (rows.First one)) ≡ Some (rows.First one)
unfolding row_in
first_again [] h some = absurd (some refl)
first_again (start ∷ one) h some = rw (h.0, addrs_again one h.1) refl

pub second_again : (other : List Addr) → AreAddrs other → other ≢ [] → row_in (row_words (rows.Second other)) ≡ Some (rows.Second other)
unfolding row_in
second_again [] h some = absurd (some refl)
second_again (start ∷ other) h some = rw (h.0, addrs_again other h.1) refl

dash_no_addr : addr_in dash ≡ None
unfolding addr_in octet_in number_in
dash_no_addr = refl

no_dash : (addr : Addr) → addr_in (addr_text addr) ≡ Some addr → is_dash (addr_text addr) ≡ false
no_dash addr again =
    false_from_ne_true (is_dash (addr_text addr)) (λ t.
    let same : addr_text addr ≡ dash = (bytes_eq-Decides (addr_text addr) dash).0 t in
    let bad : None ≡ Some addr = sym dash_no_addr ∙ ap addr_in (sym same) ∙ again in
    cc)

rising_again : (least : ℕ) (nodes : List Addr) → AreAddrs nodes → RisingFrom rank least nodes → rising_in least (map addr_text nodes) ≡ Some nodes
rising_again least [] h up = refl
rising_again least (node ∷ nodes) h up = rw (h.0, le-leb least (rank node) up.0, rising_again (rank node + 1) nodes h.1 up.1) refl

pub cut_again : (nodes : List Addr) → AreAddrs nodes → RisingFrom rank 0 nodes → row_in (row_words (rows.Cut nodes)) ≡ Some (rows.Cut nodes)
unfolding row_in nodes_behind
cut_again [] h up = refl
cut_again (node ∷ nodes) h up = rw (no_dash node h.0, h.0, rising_again (rank node + 1) nodes h.1 up.1) refl

-- ---- the text

pub spelled : (old word : List ℕ) (words : List (List ℕ)) → (old ++ word) ++ (spaced words ++ 10 ∷ []) ≡ old ++ line_text (word ∷ words)
spelled old word words =
    append_assoc old word (spaced words ++ 10 ∷ [])
    ∙ ap (λ (rest : List ℕ). old ++ rest) (sym (append_assoc word (spaced words) (10 ∷ [])) ∙ ap (λ (line : List ℕ). line ++ 10 ∷ []) (sym (joined_spaced word words)))

pub cut_spelled : (old : List ℕ) (nodes : List Addr) → 0 < length nodes → (old ++ cut_word) ++ (spaced (map addr_text nodes) ++ 10 ∷ []) ≡ old ++ line_text (row_words (rows.Cut nodes))
cut_spelled old [] some = absurd (omega arith)
cut_spelled old (node ∷ nodes) some = spelled old cut_word (map addr_text (node ∷ nodes))
