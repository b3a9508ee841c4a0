-- Words that were written, with a blank before each, and what they say again.
use Rattle.std.specs.Prelude.{◌≡◌, ℕ, List, ◌∷◌, ◌++◌, Some, map, decimal}
use Rattle.std.specs.List.{flat_map, AllByRecursion}
use Rattle.dom_base.specs.declared.link.Link.{Link}
use Rattle.line_text.specs.Spelling.{line_text, IsWord}
use Rattle.te_text.specs.declared.row.TextRow.{TextRow}
use Rattle.te_text.specs.declared.fields.Ends.{Ends}
use Rattle.te_text.specs.declared.fields.Traits.{Traits}
use Rattle.te_text.specs.RowText.{ends_in, traits_in, srlgs_in}
use Rattle.te_text.specs.TopologyText.{ends_words, traits_words, row_words}

abbrev pub spaced : List (List ℕ) → List ℕ
spaced words = flat_map (λ word. 32 ∷ word) words

abbrev pub row_text : TextRow → List ℕ
row_text row = line_text (row_words row)

abbrev pub ends_of : Link → Ends
ends_of l = record { from = l.from; to = l.to; near = l.near; far = l.far }

abbrev pub traits_of : Link → Traits
traits_of l = record { igp = l.igp; te = l.te; bytes_per_second = l.bytes_per_second; colour = l.colour }

pub record SpellsEnds (l : Link) : Type 0 where
  pub words : AllByRecursion IsWord (ends_words l)
  pub again : (rest : List (List ℕ)) → ends_in (ends_words l ++ rest) ≡ Some (ends_of l, rest)

pub record SpellsTraits (l : Link) : Type 0 where
  pub words : AllByRecursion IsWord (traits_words l)
  pub again : (rest : List (List ℕ)) → traits_in (traits_words l ++ rest) ≡ Some (traits_of l, rest)

pub record SpellsSrlgs (srlgs : List ℕ) : Type 0 where
  pub words : AllByRecursion IsWord (map decimal srlgs)
  pub again : srlgs_in (map decimal srlgs) ≡ Some srlgs
