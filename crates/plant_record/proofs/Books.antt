-- A book to which files are added.
use Rattle.std.proofs.Common.{◌≡◌, ℕ, ◌+◌, List, [], ◌∷◌, ◌++◌, length, append_assoc, append-nil, Option, Some, None, refl, sym, ap, subst, ◌∙◌, length-append}
use Rattle.dom_edge.specs.Folders.{Contents}
use Rattle.te_links.specs.Rows.{Rows}
use Rattle.plant_text.specs.declared.settings.PeerRow.{PeerRow}
use Rattle.event_lines.specs.EventLines.{load_name}
use Rattle.te_text.specs.TopologyText.{topology_text}
use Rattle.plant_record.specs.Parts.{Title}
use Rattle.plant_record.specs.Books.{Adds, AreLoads, Deed, File, IsBook, IsLoad, Topology, files, kept, load_files, part_count, told_in}
use Rattle.plant_record.specs.Standing.{IsKept}

-- the book with these topologies
abbrev pub with_loads : List Rows → List Deed → List Deed
with_loads [] book = book
with_loads (g ∷ gs) book = with_loads gs (Topology g ∷ book)

pub kept_with : (gs : List Rows) (book : List Deed) → kept (with_loads gs book) ≡ kept book ++ gs
kept_with [] book = sym (append-nil (kept book))
kept_with (g ∷ gs) book = kept_with gs (Topology g ∷ book) ∙ append_assoc (kept book) (g ∷ []) gs

pub told_with : (gs : List Rows) (book : List Deed) → told_in (with_loads gs book) ≡ told_in book
told_with [] book = refl
told_with (g ∷ gs) book = told_with gs (Topology g ∷ book)

pub count_with : (gs : List Rows) (book : List Deed) → part_count (with_loads gs book) ≡ part_count book
count_with [] book = refl
count_with (g ∷ gs) book = count_with gs (Topology g ∷ book)

-- one topology
pub one_load : (k number : ℕ) (g h : Rows) → h ≡ g → number ≡ k + 1 → IsLoad number h → AreLoads k (g ∷ [])
one_load k number g h same next is = (subst (λ (n : ℕ). IsLoad n g) next (subst (IsLoad number) same is), tt)

sound_with : (gs : List Rows) (book : List Deed) → AreLoads (length (kept book)) gs → IsBook book → IsBook (with_loads gs book)
sound_with [] book loads sound = sound
sound_with (g ∷ gs) book loads sound =
    sound_with gs (Topology g ∷ book) (subst (λ (k : ℕ). AreLoads k gs) (sym (length-append (kept book) (g ∷ []))) loads.1) (sound, loads.0)

files_with : (peers : List PeerRow) (t : Title) (gs : List Rows) (book : List Deed) → files peers t (with_loads gs book) ≡ files peers t book ++ load_files (length (kept book)) gs
files_with peers t [] book = sym (append-nil (files peers t book))
files_with peers t (g ∷ gs) book =
    let here : File = (load_name (length (kept book) + 1), topology_text g) in
    files_with peers t gs (Topology g ∷ book)
    ∙ ap (λ (n : ℕ). (files peers t book ++ here ∷ []) ++ load_files n gs) (length-append (kept book) (g ∷ []))
    ∙ append_assoc (files peers t book) (here ∷ []) (load_files (length (kept book) + 1) gs)

-- what was added, where the contents are known
pub added : (old : Contents) (c d : Option Contents) (more : List File) → c ≡ Some old → Adds c d more → (now : Contents) × (d ≡ Some now) × (now.closed ≡ old.closed ++ more)
added old None d more is adds = absurd (let no : None ≡ Some old = is in cc)
added old (Some x) d more is adds = let same : x ≡ old = cc in subst (λ (y : Contents). (now : Contents) × (d ≡ Some now) × (now.closed ≡ y.closed ++ more)) same adds

-- topologies were kept
pub kept_more : (peers : List PeerRow) (t : Title) (book : List Deed) (c d : Option Contents) (k : ℕ) (gs : List Rows) → IsKept peers t book c → k ≡ length (kept book) → AreLoads k gs → Adds c d (load_files k gs) → IsKept peers t (with_loads gs book) d
kept_more peers t book c d k gs is count loads adds =
    let (now, here, closed) = added is.contents c d (load_files k gs) is.is adds in
    record {
      sound = sound_with gs book (subst (λ (n : ℕ). AreLoads n gs) count loads) is.sound;
      contents = now;
      is = here;
      closed = closed ∙ ap (λ (fs : List File). fs ++ load_files k gs) is.closed ∙ ap (λ (n : ℕ). files peers t book ++ load_files n gs) count ∙ sym (files_with peers t gs book);
    }
