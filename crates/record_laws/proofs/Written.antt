-- The lines of a record's script: they begin those of its events, each of which has what its line names.
use Rattle.std.proofs.Common.{◌≡◌, ◌∙◌, ℕ, ◌+◌, List, [], ◌∷◌, ◌++◌, Option, Some, refl, sym, ap, ap₂, subst, append_assoc, append-nil}
use Rattle.dom_edge.specs.Folders.{Contents}
use Rattle.dom_edge.specs.Stores.{Files}
use Rattle.te_links.specs.Rows.{Rows}
use Rattle.plant_text.specs.declared.settings.NetworkParts.{NetworkParts}
use Rattle.plant_text.specs.declared.settings.PeerRow.{PeerRow}
use Rattle.event_tape.specs.declared.tape.TapeEnd.{TapeEnd}
use Rattle.event_tape.specs.declared.told.Told.{Told}
use Rattle.plant_record.specs.Books.{BeginsWith, Deed, File, IsBook, IsPage, files, kept, next_part, part_count, told_in}
use Rattle.plant_record.specs.Parts.{Part, Title, part_name, part_text, tail_by, topologies}
use Rattle.plant_record.specs.Recording.{IsLast, IsPart, IsWhole}
use Rattle.plant_record.specs.Standing.{IsCut}
use Rattle.record_laws.specs.Records.{HoldsAll, IsTitle, script_of}
use Rattle.client_laws.specs.plant_play.Replays.{octets_of}
use Rattle.record_laws.proofs.Fine.{AllFine, AreFiled, book_begins, book_filed, book_fine, end_fine, page_fine, topologies_append}
use Rattle.record_laws.proofs.Items.{Item, book_events, book_items, book_octets, events_end, events_in, lines_of, octets_end, octets_page, page_events, page_items, parts_text, with_end}
use Rattle.record_laws.proofs.Scripts.{script_append, script_book, script_part}

-- A script is the beginning of the lines of these items, all of which have what they name.
pub record IsScript (held : Files) (peers : List PeerRow) (told : List Told) (script : List ℕ) : Type 0 where
  pub items : List Item
  pub fine : AllFine held items
  pub firsts : BeginsWith told (events_in items)
  pub rest : List ℕ
  pub text : octets_of (lines_of peers items) ≡ script ++ rest

-- A script is all lines of these items.
pub record IsWholeScript (held : Files) (peers : List PeerRow) (told : List Told) (script : List ℕ) : Type 0 where
  pub items : List Item
  pub fine : AllFine held items
  pub events : events_in items ≡ told
  pub text : octets_of (lines_of peers items) ≡ script

module _ (held : Files) (n : NetworkParts) (t : Title) (title : IsTitle n t) (peers : List PeerRow) where
  holds_some : (xs ys : List File) → HoldsAll held (xs ++ ys) → HoldsAll held xs
  holds_some [] ys all = tt
  holds_some (x ∷ xs) ys all = (all.0, holds_some xs ys all.1)

  filed_of : (book : List Deed) (more : List File) (gs : List Rows) → IsBook book → HoldsAll held (files peers t book ++ more) → BeginsWith (kept book) gs → (later : List Rows) × AreFiled held 0 (gs ++ later)
  filed_of book more gs sound holds begins = (begins.0, subst (AreFiled held 0) begins.1 (book_filed held peers t book sound (holds_some (files peers t book) more holds)))

  -- a book alone
  of_book : (told : List Told) (book : List Deed) → IsBook book → HoldsAll held (files peers t book ++ []) → BeginsWith told (told_in book) → IsScript held peers told (script_of (files peers t book ++ []))
  of_book told book sound holds firsts =
      let filed = filed_of book [] (topologies (told_in book)) sound holds (book_begins book sound) in
      record {
        items = book_items t book;
        fine = book_fine held n t title book filed.0 sound filed.1;
        firsts = subst (BeginsWith told) (sym (book_events t book)) firsts;
        rest = [];
        text = book_octets peers t book ∙ sym (script_book peers t book) ∙ ap script_of (sym (append-nil (files peers t book))) ∙ sym (append-nil (script_of (files peers t book ++ [])));
      }

  -- a book, and a part that may be cut off
  module _ (told : List Told) (book : List Deed) (sound : IsBook book) (name bytes : List ℕ) (named : name ≡ part_name (part_count book + 1)) (holds : HoldsAll held (files peers t book ++ (name, bytes) ∷ [])) where
    cut_script : script_of (files peers t book ++ (name, bytes) ∷ []) ≡ parts_text peers t book ++ bytes
    cut_script =
        script_append (files peers t book) ((name, bytes) ∷ [])
        ∙ ap₂ (λ (xs ys : List ℕ). xs ++ ys) (script_book peers t book) (ap (λ (m : List ℕ). script_of ((m, bytes) ∷ [])) named ∙ script_part (part_count book + 1) bytes)

    module _ (moment : List ℕ) (events : List Told) (ended : Option TapeEnd) where
      abbrev part : Part
      part = next_part book moment events

      abbrev all : List Item
      all = with_end ended (page_items t part (book_items t book))

      all_events : events_in all ≡ told_in book ++ events
      all_events = events_end ended (page_items t part (book_items t book)) ∙ page_events t part (book_items t book) ∙ ap (λ (es : List Told). es ++ events) (book_events t book)

      all_octets : octets_of (lines_of peers all) ≡ parts_text peers t book ++ (part_text peers t part ++ tail_by ended)
      all_octets =
          octets_end peers ended (page_items t part (book_items t book))
          ∙ ap (λ (text : List ℕ). text ++ tail_by ended) (octets_page peers t part (book_items t book) (book_events t book) ∙ ap (λ (text : List ℕ). text ++ part_text peers t part) (book_octets peers t book))
          ∙ append_assoc (parts_text peers t book) (part_text peers t part) (tail_by ended)

      all_fine : IsPage moment events → BeginsWith (kept book) (topologies (told_in book ++ events)) → AllFine held all
      all_fine page begins =
          let filed = filed_of book ((name, bytes) ∷ []) (topologies (told_in book ++ events)) sound holds begins in
          end_fine held n t title ended (page_items t part (book_items t book))
          (page_fine held n t title part (book_items t book) filed.0 (of_front filed.0 filed.1) (book_events t book) page filed.1)
        where
          of_front : (later : List Rows) → AreFiled held 0 (topologies (told_in book ++ events) ++ later) → AllFine held (book_items t book)
          of_front later filed =
              book_fine held n t title book (topologies events ++ later) sound
              (subst (AreFiled held 0) (ap (λ (gs : List Rows). gs ++ later) (topologies_append (told_in book) events) ∙ append_assoc (topologies (told_in book)) (topologies events) later) filed)

      pub whole_part : IsPage moment events → told ≡ told_in book ++ events → kept book ≡ topologies told → bytes ≡ part_text peers t part ++ tail_by ended → IsWholeScript held peers told (script_of (files peers t book ++ (name, bytes) ∷ []))
      whole_part page same kept_are is = record {
        items = all;
        fine = all_fine page ([], kept_are ∙ ap topologies same ∙ sym (append-nil (topologies (told_in book ++ events))));
        events = all_events ∙ sym same;
        text = all_octets ∙ ap (λ (text : List ℕ). parts_text peers t book ++ text) (sym is) ∙ sym cut_script;
      }

      pub of_part : IsPage moment events → BeginsWith told (told_in book ++ events) → BeginsWith (kept book) (topologies (told_in book ++ events)) → BeginsWith (part_text peers t part ++ tail_by ended) bytes
          → IsScript held peers told (script_of (files peers t book ++ (name, bytes) ∷ []))
      of_part page firsts begins cut =
          record {
            items = all;
            fine = all_fine page begins;
            firsts = subst (BeginsWith told) (sym all_events) firsts;
            rest = cut.0;
            text = all_octets ∙ ap (λ (text : List ℕ). parts_text peers t book ++ text) cut.1 ∙ sym (append_assoc (parts_text peers t book) bytes cut.0) ∙ ap (λ (text : List ℕ). text ++ cut.0) (sym cut_script);
          }

  of_last : (told : List Told) (book : List Deed) (last : List File) → IsBook book → HoldsAll held (files peers t book ++ last) → IsLast peers t told book last → IsScript held peers told (script_of (files peers t book ++ last))
  of_last told book [] sound holds is = of_book told book sound holds is
  of_last told book (f ∷ []) sound holds is =
      let cut : IsCut peers t told book f.1 = is.1 in
      of_part told book sound f.0 f.1 is.0 holds cut.moment cut.events cut.ended cut.page cut.first cut.topologies_are cut.begins
  of_last told book (f ∷ g ∷ fs) sound holds is = absurd is

  some_is : (c d : Contents) → (let p : Option Contents = Some c in let q : Option Contents = Some d in p ≡ q) → c ≡ d
  some_is c d e = cc

  -- some first of the events stand in these files
  pub of_record : (told : List Told) (c : Contents) → IsPart peers t told (Some c) → HoldsAll held c.closed → IsScript held peers told (script_of c.closed)
  of_record told c p holds =
      let closed : c.closed ≡ files peers t p.book ++ p.last = ap (λ (d : Contents). d.closed) (some_is c p.contents p.is) ∙ p.closed in
      subst (λ (fs : List File). IsScript held peers told (script_of fs)) (sym closed) (of_last told p.book p.last p.sound (subst (HoldsAll held) closed holds) p.is_last)

  -- all of them do
  pub of_whole : (told : List Told) (ended : Option TapeEnd) (c : Contents) → IsWhole peers t told ended (Some c) → HoldsAll held c.closed → IsWholeScript held peers told (script_of c.closed)
  of_whole told ended c w holds =
      let last : File = (part_name (part_count w.book + 1), part_text peers t (next_part w.book w.moment w.events) ++ tail_by ended) in
      let closed : c.closed ≡ files peers t w.book ++ last ∷ [] = ap (λ (d : Contents). d.closed) (some_is c w.contents w.is) ∙ w.closed in
      subst (λ (fs : List File). IsWholeScript held peers told (script_of fs)) (sym closed)
      (whole_part told w.book w.sound last.0 last.1 refl (subst (HoldsAll held) closed holds) w.moment w.events ended w.page w.all w.topologies_are refl)
