-- The events of a hand, one behind the other.
use Rattle.std.proofs.Common.{◌≡◌, ℕ, ◌+◌, ◌≤◌, List, [], ◌∷◌, ◌++◌, length, drop, append_assoc, append-nil, Option, Some, None, Result, Ok, Err, refl, sym, ap, subst, ◌∙◌, arith, length-append, OnErr, OnOk}
use Rattle.std.proofs.lemmas.List.{drop_all}
use Rattle.dom_edge.specs.Folders.{Contents}
use Rattle.plant_text.specs.declared.settings.PeerRow.{PeerRow}
use Rattle.event_tape.specs.declared.told.Told.{Told}
use Rattle.plant_record.specs.Parts.{Title}
use Rattle.plant_record.specs.Books.{Deed}
use Rattle.plant_record.specs.Standing.{After, Breaks, ClosesPart, HasPart, IsBetween, IsCutOff, IsFlushed, ScriptState, Stands}
use Rattle.plant_record.specs.declared.fault.Fault.{Fault}
use Rattle.plant_record.proofs.Standing.{begins_more, cut_off, flushed}
use Rattle.plant_record.proofs.Closing.{closed_part}

module _ {F : Type 0} (written : F → Option (List ℕ)) (peers : List PeerRow) where
  abbrev S : Type 0
  S = ScriptState F

  part_more : (t : Title) (told more : List Told) (book : List Deed) (file : Option F) (number : ℕ) → HasPart written peers t told book file number → HasPart written peers t (told ++ more) book file number
  part_more t told more book None number is = begins_more told more _ is
  part_more t told more book (Some f) number (bytes, known, count, cut) =
      (bytes, known, count, record { moment = cut.moment; events = cut.events; page = cut.page; first = begins_more told more _ cut.first; topologies_are = cut.topologies_are; ended = cut.ended; begins = cut.begins })

  pub breaks_more : (t : Title) (told more : List Told) (s : S) (c : Option Contents) → Breaks written peers t told s c → Breaks written peers t (told ++ more) s c
  breaks_more t told more s c b = record { book = b.book; is_kept = b.is_kept; has_part = part_more t told more b.book s.file s.number b.has_part }

  no_more : (t : Title) (told : List Told) (u : S) (c : Option Contents) → Breaks written peers t (told ++ []) u c → Breaks written peers t told u c
  no_more t told u c b = subst (λ (es : List Told). Breaks written peers t es u c) (append-nil told) b

  pub flush_fails : (t : Title) (told : List Told) (s u : S) (c : Option Contents) → IsCutOff written s u → Stands written peers t told s c → Breaks written peers t told u c
  flush_fails t told s u c is st = no_more t told u c (cut_off written peers t told [] s u c is st)

  pub close_fails : (t : Title) (told : List Told) (s u : S) (c d : Option Contents) (e : Fault) → Stands written peers t told s c → s.pending ≡ [] → ClosesPart written (Err e) s u c d → Breaks written peers t told u d
  close_fails t told s u c d e st none closes = no_more t told u d (closed_part written peers t told [] s u c d (Err e) st none closes)

  pub close_done : (t : Title) (told : List Told) (s u : S) (c d : Option Contents) → Stands written peers t told s c → s.pending ≡ [] → ClosesPart written (Ok tt) s u c d → IsBetween peers t told u d
  close_done t told s u c d st none closes = closed_part written peers t told [] s u c d (Ok tt) st none closes

  pub flush_after : (result : Result (Unit {0}) Fault) (t : Title) (told : List Told) (s u : S) (c : Option Contents) → OnOk result (IsFlushed written s u) → OnErr result (IsCutOff written s u) → Stands written peers t told s c → After written peers t told result u c
  flush_after (Ok x) t told s u c is cut st = flushed written peers t told s u c is st
  flush_after (Err e) t told s u c is cut st = flush_fails t told s u c cut st

  pub flush_counts : (result : Result (Unit {0}) Fault) (s u : S) (n : ℕ) → OnOk result (IsFlushed written s u) → s.events ≡ n → OnOk result (u.events ≡ n)
  flush_counts (Ok x) s u n is at = ap (λ (v : S). v.events) is.others ∙ at
  flush_counts (Err e) s u n is at = tt

  pub err_after : (result : Result (Unit {0}) Fault) (e : Fault) (t : Title) (told : List Told) (u : S) (d : Option Contents) → result ≡ Err e → Breaks written peers t told u d → After written peers t told result u d
  err_after result e t told u d is b = subst (λ (r : Result (Unit {0}) Fault). After written peers t told r u d) (sym is) b

  -- nothing waits any more
  pub none_waits : (s u : S) → IsFlushed written s u → u.pending ≡ []
  none_waits s u is = ap (λ (v : S). v.pending) is.others

  -- ---- the events before a place of a hand are written

  pub record IsWriting (items : List Told) (i before now : ℕ) (s u : S) (c d : Option Contents) : Type 0 where
    pub made : List Told
    pub done : made ++ drop i items ≡ items
    pub events : u.events ≡ s.events + length made
    pub later : before ≤ now
    pub comes : (t : Title) (told : List Told) → Stands written peers t told s c → Stands written peers t (told ++ made) u d

  pub none_written : (items : List Told) (n : ℕ) (s : S) (c : Option Contents) → IsWriting items 0 n n s s c c
  none_written items n s c = record {
    made = [];
    done = refl;
    events = omega arith;
    later = omega arith;
    comes = λ t told st. subst (λ (es : List Told). Stands written peers t es s c) (sym (append-nil told)) st;
  }

  pub one_written : (items : List Told) (i before mid now : ℕ) (x : Told) (s u v : S) (c d e : Option Contents) → drop i items ≡ x ∷ drop (i + 1) items → IsWriting items i before mid s u c d → mid ≤ now → v.events ≡ u.events + 1
      → ((t : Title) (told : List Told) → Stands written peers t told u d → Stands written peers t (told ++ x ∷ []) v e) → IsWriting items (i + 1) before now s v c e
  one_written items i before mid now x s u v c d e next is low more on = record {
    made = is.made ++ x ∷ [];
    done = append_assoc is.made (x ∷ []) (drop (i + 1) items) ∙ ap (λ (es : List Told). is.made ++ es) (sym next) ∙ is.done;
    events = omega (arith, more, is.events, length-append is.made (x ∷ []));
    later = omega (arith, is.later, low);
    comes = λ t told st. subst (λ (es : List Told). Stands written peers t es v e) (append_assoc told is.made (x ∷ [])) (on t (told ++ is.made) (is.comes t told st));
  }

  pub all_written : (items : List Told) (i before now : ℕ) (s u : S) (c d : Option Contents) → length items ≤ i → IsWriting items i before now s u c d
      → (u.events ≡ s.events + length items) × ((t : Title) (told : List Told) → Stands written peers t told s c → Stands written peers t (told ++ items) u d)
  all_written items i before now s u c d all is =
      let same : is.made ≡ items = sym (append-nil is.made) ∙ ap (λ (es : List Told). is.made ++ es) (sym (drop_all i items all)) ∙ is.done in
      (is.events ∙ ap (λ (es : List Told). s.events + length es) same, λ t told st. subst (λ (es : List Told). Stands written peers t (told ++ es) u d) same (is.comes t told st))

  pub cut_written : (items : List Told) (i before mid : ℕ) (x : Told) (s u v : S) (c d e : Option Contents) → drop i items ≡ x ∷ drop (i + 1) items → IsWriting items i before mid s u c d
      → ((t : Title) (told : List Told) → Stands written peers t told u d → Breaks written peers t (told ++ x ∷ []) v e) → (t : Title) (told : List Told) → Stands written peers t told s c → Breaks written peers t (told ++ items) v e
  cut_written items i before mid x s u v c d e next is breaks t told st =
      let rest : List Told = drop (i + 1) items in
      let all : ((told ++ is.made) ++ x ∷ []) ++ rest ≡ told ++ items =
      append_assoc (told ++ is.made) (x ∷ []) rest ∙ ap (λ (es : List Told). (told ++ is.made) ++ es) (sym next) ∙ append_assoc told is.made (drop i items) ∙ ap (λ (es : List Told). told ++ es) is.done in
      subst (λ (es : List Told). Breaks written peers t es v e) all (breaks_more t ((told ++ is.made) ++ x ∷ []) rest v e (breaks t (told ++ is.made) (is.comes t told st)))
