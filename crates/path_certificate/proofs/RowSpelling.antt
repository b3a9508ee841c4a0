-- Lines that were written say again what was written.
use Rattle.std.proofs.Common.{◌≡◌, ◌≢◌, ℕ, ◌-◌, ◌^◌, List, [], ◌∷◌, ◌++◌, map, get_or, false, Option, Some, None, append_assoc, refl, sym, ap, ◌∙◌, arith}
use Rattle.std.proofs.lemmas.List.{append-nil}
use Rattle.std.proofs.lemmas.Bool.{false_from_ne_true}
use Rattle.std.proofs.lemmas.Slice.Eq.{bytes_eq-Decides}
use Rattle.std.specs.Fmt.{decimal}
use Rattle.std.specs.List.{AllByRecursion}
use Rattle.dom_base.specs.declared.limits.TheConstants.{COST_MAX}
use Rattle.dom_base.specs.declared.addr.Addr.{Addr}
use Rattle.dom_base.specs.declared.names.As.{As}
use Rattle.dom_base.specs.declared.query.Label.{Label}
use Rattle.dom_base.specs.Numerals.{number_in}
use Rattle.dom_base.specs.AddrText.{addr_in, addr_text, octet_in}
use Rattle.line_text.specs.Spelling.{joined, line_text, IsWord, IsLine}
use Rattle.te_text.proofs.Spelling.{addr_word, number_word}
use Rattle.path_certificate.specs.declared.text_row.TextRow.TheVariants as rows
use Rattle.path_certificate.specs.RowText.{label_word, path_word, dash, is_dash, cost_in, addrs_in, label_behind, path_behind, row_in}
use Rattle.path_certificate.specs.Text.{certificate_word, own_behind}
use Rattle.path_certificate.specs.CertificateText.{header_words, row_words, spaced, AreAddrs, IsPathWritten, IsWritten, IsWrittenHeader}

certificate_is_word : IsWord certificate_word
certificate_is_word = record { some = omega arith; bytes = (omega arith, (omega arith, (omega arith, (omega arith, (omega arith, (omega arith, (omega arith, (omega arith, (omega arith, (omega arith, (omega arith, tt))))))))))) }

label_is_word : IsWord label_word
label_is_word = record { some = omega arith; bytes = (omega arith, (omega arith, (omega arith, (omega arith, (omega arith, tt))))) }

path_is_word : IsWord path_word
path_is_word = record { some = omega arith; bytes = (omega arith, (omega arith, (omega arith, (omega arith, tt)))) }

dash_is_word : IsWord dash
dash_is_word = record { some = omega arith; bytes = (omega arith, tt) }

own_again : (own : As) → number_in (2 ^ 16 - 1) (decimal own.0) ≡ Some own.0 → own_behind certificate_word (header_words own) ≡ Some own
unfolding own_behind
own_again own e = rw e refl

pub header_written : (own : As) → number_in (2 ^ 16 - 1) (decimal own.0) ≡ Some own.0 → IsWrittenHeader own
header_written own e = record {
  line = record {
    some = omega arith;
    each = (certificate_is_word, (number_word (2 ^ 16 - 1) own.0 (decimal own.0) e, tt));
    first = λ h. let other : 99 ≡ 35 = h in absurd (omega arith);
  };
  again = own_again own e;
}

none_again : (addr : Addr) → addr_in (addr_text addr) ≡ Some addr → row_in (row_words (rows.Label addr None)) ≡ Some (rows.Label addr None)
unfolding row_in label_behind
none_again addr e = rw e refl

pub no_label_written : (addr : Addr) → addr_in (addr_text addr) ≡ Some addr → IsWritten (rows.Label addr None)
no_label_written addr e = record {
  line = record {
    some = omega arith;
    each = (label_is_word, (addr_word addr, (dash_is_word, tt)));
    first = λ h. let other : 108 ≡ 35 = h in absurd (omega arith);
  };
  again = none_again addr e;
}

-- what reads is no dash, where a dash reads as nothing
no_dash : {X : Type 0} (read : List ℕ → Option X) (word : List ℕ) (x : X) → read dash ≡ None → read word ≡ Some x → is_dash word ≡ false
no_dash read word x none some =
    false_from_ne_true (is_dash word) (λ t.
    let same : word ≡ dash = (bytes_eq-Decides word dash).0 t in
    let bad : None ≡ Some x = sym none ∙ ap read (sym same) ∙ some in
    cc)

dash_no_cost : cost_in dash ≡ None
unfolding number_in
dash_no_cost = refl

dash_no_addr : addr_in dash ≡ None
unfolding addr_in octet_in number_in
dash_no_addr = refl

some_again : (addr : Addr) (a : Label) → addr_in (addr_text addr) ≡ Some addr → cost_in (decimal a.cost) ≡ Some a.cost → addr_in (addr_text a.exit) ≡ Some a.exit →
    row_in (row_words (rows.Label addr (Some a))) ≡ Some (rows.Label addr (Some a))
unfolding row_in label_behind
some_again addr a at cost exit = rw (at, no_dash cost_in (decimal a.cost) a.cost dash_no_cost cost, cost, exit) refl

pub label_written : (addr : Addr) (a : Label) → addr_in (addr_text addr) ≡ Some addr → cost_in (decimal a.cost) ≡ Some a.cost → addr_in (addr_text a.exit) ≡ Some a.exit →
    IsWritten (rows.Label addr (Some a))
label_written addr a at cost exit = record {
  line = record {
    some = omega arith;
    each = (label_is_word, (addr_word addr, (number_word COST_MAX a.cost (decimal a.cost) cost, (addr_word a.exit, tt))));
    first = λ h. let other : 108 ≡ 35 = h in absurd (omega arith);
  };
  again = some_again addr a at cost exit;
}

-- ---- the path

addr_words : (addrs : List Addr) → AllByRecursion IsWord (map addr_text addrs)
addr_words [] = tt
addr_words (addr ∷ addrs) = (addr_word addr, addr_words addrs)

joined_path : (words : List (List ℕ)) → get_or (joined (path_word ∷ words)) 0 0 ≡ 112
joined_path [] = refl
joined_path (word ∷ words) = refl

pub path_line : (path : Option (List Addr)) → IsLine (row_words (rows.Path path))
path_line None = record { some = omega arith; each = (path_is_word, (dash_is_word, tt)); first = λ h. let other : 112 ≡ 35 = h in absurd (omega arith) }
path_line (Some addrs) = record {
  some = omega arith;
  each = (path_is_word, addr_words addrs);
  first = λ h. let other : 112 ≡ 35 = sym (joined_path (map addr_text addrs)) ∙ h in absurd (omega arith);
}

addrs_again : (addrs : List Addr) → AreAddrs addrs → addrs_in (map addr_text addrs) ≡ Some addrs
addrs_again [] h = refl
addrs_again (addr ∷ addrs) h = rw (h.0, addrs_again addrs h.1) refl

no_path_again : row_in (row_words (rows.Path None)) ≡ Some (rows.Path None)
unfolding row_in path_behind
no_path_again = refl

whole_path_again : (first : Addr) (addrs : List Addr) → AreAddrs (first ∷ addrs) → row_in (row_words (rows.Path (Some (first ∷ addrs)))) ≡ Some (rows.Path (Some (first ∷ addrs)))
unfolding row_in path_behind
whole_path_again first addrs h = rw (no_dash addr_in (addr_text first) first dash_no_addr h.0, h.0, addrs_again addrs h.1) refl

pub path_again : (path : Option (List Addr)) → IsPathWritten path → path ≢ Some [] → row_in (row_words (rows.Path path)) ≡ Some (rows.Path path)
path_again None h some = no_path_again
path_again (Some []) h some = absurd (some refl)
path_again (Some (first ∷ addrs)) h some = whole_path_again first addrs h

-- a blank before each word but the first
pub joined_spaced : (word : List ℕ) (words : List (List ℕ)) → joined (word ∷ words) ≡ word ++ spaced words
joined_spaced word [] = sym (append-nil word)
joined_spaced word (next ∷ words) = ap (λ (rest : List ℕ). word ++ 32 ∷ rest) (joined_spaced next words)

regroup : (old word more end : List ℕ) → ((old ++ word) ++ more) ++ end ≡ old ++ ((word ++ more) ++ end)
regroup old word more end = simp append_assoc

pub path_spelled : (old : List ℕ) (words : List (List ℕ)) → ((old ++ path_word) ++ spaced words) ++ 10 ∷ [] ≡ old ++ line_text (path_word ∷ words)
path_spelled old words = regroup old path_word (spaced words) (10 ∷ []) ∙ ap (λ (line : List ℕ). old ++ (line ++ 10 ∷ [])) (sym (joined_spaced path_word words))
